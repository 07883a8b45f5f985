-- Where a recount finds that record and report agree, they say the same, and where they say the same it finds so
use Rattle.std.proofs.Common.{◌≡◌, ℕ, ◌+◌, Bool, true, false, cond, List, [], ◌∷◌, Option, Some, None, refl}
use Rattle.std.specs.Prelude.{◌==◌, MatchOption}
use Rattle.std.specs.Option.{option_map_or}
use Rattle.std.proofs.lemmas.Bool.{and_parts, eqb-true}
use Rattle.urna_base.proofs.WordLaws.{same_byte}
use Rattle.poll_report.specs.declared.report.OfficeCount.{OfficeCount}
use Rattle.poll_report.specs.declared.report.Report.{Report}
use Rattle.vote_kinds.specs.declared.choice.Choice.{Choice}
use Rattle.vote_record.specs.Bag.{count_of}
use Rattle.record_audit.specs.Finding.{codes_counted, difference, finding, first_apart, first_differing, has_same_heading, said_for}
use Rattle.record_audit.specs.Laws.{AgreeSaysSame, EachHasVotesOf, IsFirstDifference, SaysSame, SaysSameAgrees}
use Rattle.record_audit.specs.Spelling.{codes_in}
use Rattle.record_audit.specs.declared.finding.Finding.TheVariants.{Agree, Heading, Office, Differs}
use Rattle.record_audit.specs.declared.text.RecordOffice.{RecordOffice}
use Rattle.record_audit.specs.declared.text.RecordText.{RecordText}
use Rattle.record_audit.proofs.Differences.{difference_is_first, no_difference}

-- ---- they agree, so they say the same

-- lists that are nowhere apart are the same
apart_nowhere : (k : ℕ) (ms ns : List ℕ) → first_apart k ms ns ≡ None → ms ≡ ns
apart_nowhere k [] [] h = refl
apart_nowhere k [] (n ∷ ns) h = absurd (cc)
apart_nowhere k (m ∷ ms) [] h = absurd (cc)
apart_nowhere k (m ∷ ms) (n ∷ ns) h = go (m == n) refl h (apart_nowhere (k + 1) ms ns)
  where
    go : (b : Bool) → (m == n) ≡ b → cond b (first_apart (k + 1) ms ns) (Some k) ≡ None → (first_apart (k + 1) ms ns ≡ None → ms ≡ ns) → m ∷ ms ≡ n ∷ ns
    go true e g rest = let same = eqb-true m n e in let more = rest g in cc
    go false e g rest = absurd (cc)

-- offices with the same codes of which none differs have the same votes
differ_nowhere : (panel : ℕ) (offices : List RecordOffice) (counts : List OfficeCount) → codes_in offices ≡ codes_counted counts
    → first_differing panel offices counts ≡ Agree → EachHasVotesOf offices counts
differ_nowhere panel [] [] e h = tt
differ_nowhere panel [] (q ∷ counts) e h = absurd (cc)
differ_nowhere panel (o ∷ offices) [] e h = absurd (cc)
differ_nowhere panel (o ∷ offices) (q ∷ counts) e h =
    let codes : codes_in offices ≡ codes_counted counts = cc in
    go (difference o.votes q) refl h (differ_nowhere (panel + 1) offices counts codes)
  where
    go : (d : Option Choice) → difference o.votes q ≡ d
        → option_map_or (λ c. Differs panel c (count_of c o.votes) (said_for q c)) d (first_differing (panel + 1) offices counts) ≡ Agree
        → (first_differing (panel + 1) offices counts ≡ Agree → EachHasVotesOf offices counts) → EachHasVotesOf (o ∷ offices) (q ∷ counts)
    go None none g rest = (no_difference o.votes q none, rest g)
    go (Some c) some g rest = absurd (cc)

-- where the headings are the same and neither offices nor votes differ, both say the same
says_same : (r : RecordText) (p : Report) → has_same_heading r p ≡ true → first_apart 1 (codes_in r.offices) (codes_counted p.offices) ≡ None
    → first_differing 0 r.offices p.offices ≡ Agree → SaysSame r p
says_same r p heading offices votes =
    let (four, section) = and_parts _ (r.section == p.section) heading in
    let (three, zone) = and_parts _ (r.zone == p.zone) four in
    let (two, turn) = and_parts _ (r.turn == p.turn) three in
    let (process, date) = and_parts (r.process == p.process) (r.date == p.date) two in
    let codes = apart_nowhere 1 (codes_in r.offices) (codes_counted p.offices) offices in
    record {
      process = eqb-true r.process p.process process;
      date = eqb-true r.date p.date date;
      turn = eqb-true r.turn p.turn turn;
      zone = eqb-true r.zone p.zone zone;
      section = eqb-true r.section p.section section;
      codes = codes;
      votes = differ_nowhere 0 r.offices p.offices codes votes;
    }

pub agree_says_same : AgreeSaysSame
unfolding finding
agree_says_same r p h = headed (has_same_heading r p) refl h
  where
    coded : (o : Option ℕ) → first_apart 1 (codes_in r.offices) (codes_counted p.offices) ≡ o → has_same_heading r p ≡ true
        → option_map_or (λ k. Office k) o (first_differing 0 r.offices p.offices) ≡ Agree → SaysSame r p
    coded None none heading g = says_same r p heading none g
    coded (Some k) some heading g = absurd (cc)

    headed : (b : Bool) → has_same_heading r p ≡ b
        → cond b (option_map_or (λ k. Office k) (first_apart 1 (codes_in r.offices) (codes_counted p.offices)) (first_differing 0 r.offices p.offices)) Heading ≡ Agree
        → SaysSame r p
    headed true heading g = coded (first_apart 1 (codes_in r.offices) (codes_counted p.offices)) refl heading g
    headed false heading g = absurd (cc)

-- ---- they say the same, so they agree

-- lists that are the same are nowhere apart
pub apart_not : (k : ℕ) (ms ns : List ℕ) → ms ≡ ns → first_apart k ms ns ≡ None
apart_not k [] [] e = refl
apart_not k [] (n ∷ ns) e = absurd (cc)
apart_not k (m ∷ ms) [] e = absurd (cc)
apart_not k (m ∷ ms) (n ∷ ns) e =
    let one : m ≡ n = cc in
    let more : ms ≡ ns = cc in
    rw (one, same_byte n) (apart_not (k + 1) ms ns more)

nothing_differs : (votes : List Choice) (q : OfficeCount) → ((c : Choice) → count_of c votes ≡ said_for q c) → difference votes q ≡ None
nothing_differs votes q same = go (difference votes q) refl (difference_is_first votes q)
  where
    go : (d : Option Choice) → difference votes q ≡ d → MatchOption d ((c : Choice) → count_of c votes ≡ said_for q c) (λ c. IsFirstDifference votes q c)
        → difference votes q ≡ None
    go None is h = is
    go (Some c) is h = absurd (h.here (same c))

no_office_differs : (panel : ℕ) (offices : List RecordOffice) (counts : List OfficeCount) → EachHasVotesOf offices counts → first_differing panel offices counts ≡ Agree
no_office_differs panel [] [] h = refl
no_office_differs panel [] (q ∷ counts) h = absurd h
no_office_differs panel (o ∷ offices) [] h = absurd h
no_office_differs panel (o ∷ offices) (q ∷ counts) h = rw (nothing_differs o.votes q h.0) (no_office_differs (panel + 1) offices counts h.1)

pub says_same_agrees : SaysSameAgrees
unfolding finding
says_same_agrees r p same =
    let heading : has_same_heading r p ≡ true =
    rw (same.process, same.date, same.turn, same.zone, same.section, same_byte p.process, same_byte p.date, same_byte p.turn, same_byte p.zone, same_byte p.section) refl in
    rw (heading, apart_not 1 (codes_in r.offices) (codes_counted p.offices) same.codes) (no_office_differs 0 r.offices p.offices same.votes)

-- A text is read with a fault exactly where it has that fault, and else as the record that it spells.
use Rattle.std.proofs.Common.{◌≡◌, ℕ, zero, suc, ◌+◌, ◌-◌, ◌<◌, ◌≤◌, Bool, true, false, cond, List, [], ◌∷◌, ◌++◌, length, map, Option, Some, None, option_map, refl, sym, ap, ◌∙◌, subst, append_assoc, arith, lit<, lit≤}
use Rattle.std.specs.Prelude.{◌==◌, nat_lt, slice_get}
use Rattle.std.specs.List.{AllByRecursion, flat_map}
use Rattle.std.specs.Option.{option_and_then, option_map_or}
use Rattle.std.specs.Str.{bytes_eq}
use Rattle.std.proofs.lemmas.Bool.Decides.{nat_tests}
use Rattle.std.proofs.lemmas.Grind.{flat_map-append}
use Rattle.std.proofs.lemmas.List.{append-nil}
use Rattle.std.proofs.lemmas.Slice.Eq.{bytes_eq-Decides}
use Rattle.urna_base.specs.Moment.{is_date}
use Rattle.urna_base.proofs.Cases.{and_then_some, guard_some, map_some}
use Rattle.urna_base.proofs.DigitLaws.{both_from_and}
use Rattle.urna_base.proofs.Every.{every_append}
use Rattle.election_tables.specs.Offices.{row_of}
use Rattle.vote_kinds.specs.Choice.{choice_le}
use Rattle.vote_kinds.specs.declared.choice.Choice.{Choice}
use Rattle.vote_kinds.specs.declared.choice.Choice.TheVariants as choice
use Rattle.vote_record.specs.Bag.{IsInOrder}
use Rattle.vote_record.specs.RecordText.{end_words, format_words, line_end, office_words, record_lines, vote_line}
use Rattle.poll_report.specs.Report.{EachAfter, may_have_code}
use Rattle.record_audit.specs.Reading.{after_offices, after_votes, heading_in, in_office, is_end, line_in, may_follow, office_in, vote_in, with_line}
use Rattle.record_audit.specs.Spelling.{IsHeading, IsRecord, MayStand, codes_in, heading_of, may_vote, most_votes, spelled_lines, spelled_office}
use Rattle.record_audit.specs.declared.stage.Stage.{Stage}
use Rattle.record_audit.specs.declared.stage.Stage.TheVariants.{Start, Begun, Offices, Votes, Ended}
use Rattle.record_audit.specs.declared.text.RecordOffice.{RecordOffice}
use Rattle.record_audit.specs.declared.text.RecordText.{RecordText}
use Rattle.record_audit.proofs.LineLaws.{choice_read, heading_read, office_read}
use Rattle.record_audit.proofs.Cutting.{line_read}
use Rattle.record_audit.proofs.Orders.{in_order_more}

-- with one line more
abbrev pub step : Stage → List ℕ → Option Stage
step st row = option_and_then (with_line st) (line_in row)

-- these lines lead from a stage to another
abbrev pub Steps : Stage → List (List ℕ) → Stage → Type 0
Steps st [] e = st ≡ e
Steps st (row ∷ rows) e = (n : Stage) × (step st row ≡ Some n) × Steps n rows e

-- ---- the lines that lead to a stage

-- before the offices, and these offices
abbrev pub head_lines : RecordText → List (List ℕ)
head_lines text = (format_words ++ line_end) ∷ (heading_of text ++ line_end) ∷ flat_map spelled_office text.offices

-- of an office that wants so many votes more
abbrev pub open_lines : RecordOffice → ℕ → List (List ℕ)
open_lines o left = (office_words o.code (length o.votes + left) ++ line_end) ∷ map vote_line o.votes

abbrev pub so_far : Stage → List (List ℕ)
so_far Start = []
so_far Begun = (format_words ++ line_end) ∷ []
so_far (Offices text) = head_lines text
so_far (Votes text o left) = head_lines text ++ open_lines o left
so_far (Ended text) = spelled_lines text

-- ---- what is so of each stage

-- a heading and offices, which may be none
pub record AreRead (text : RecordText) : Type 0 where
  pub heading : IsHeading text
  pub offices : EachAfter MayStand [] text.offices

-- an office behind them that wants so many votes more
pub record IsOpen (text : RecordText) (o : RecordOffice) (left : ℕ) : Type 0 where
  pub read : AreRead text
  pub code : may_have_code (codes_in text.offices) o.code ≡ true
  pub few : length o.votes + left ≤ most_votes
  pub votes : AllByRecursion (λ c. may_vote o.code c ≡ true) o.votes
  pub in_order : IsInOrder o.votes

abbrev pub IsStage : Stage → Type 0
IsStage Start = Unit {0}
IsStage Begun = Unit {0}
IsStage (Offices text) = AreRead text
IsStage (Votes text o left) = IsOpen text o left × (0 < left)
IsStage (Ended text) = IsRecord text

abbrev pub with_offices : RecordText → List RecordOffice → RecordText
with_offices text offices = record text { offices = offices }

abbrev pub with_votes : RecordOffice → List Choice → RecordOffice
with_votes o votes = record o { votes = votes }

each_more : (before xs : List RecordOffice) (y : RecordOffice) → EachAfter MayStand before xs → MayStand (before ++ xs) y → EachAfter MayStand before (xs ++ y ∷ [])
each_more before [] y all may = (subst (λ (l : List RecordOffice). MayStand l y) (append-nil before) may, tt)
each_more before (x ∷ xs) y all may =
    (all.0, each_more (before ++ x ∷ []) xs y all.1 (subst (λ (l : List RecordOffice). MayStand l y) (sym (append_assoc before (x ∷ []) xs)) may))

-- a stage, and the lines that lead to it
pub record Leads (st : Stage) (lines : List (List ℕ)) : Type 0 where
  pub is : IsStage st
  pub same : so_far st ≡ lines

pub wanting : (text : RecordText) (o : RecordOffice) (n : ℕ) → in_office text o (suc n) ≡ Votes text o (suc n)
unfolding in_office
wanting text o n = let no : (suc n == 0) ≡ false = grind (arith, nat_tests) in rw no refl

in_office_leads : (text : RecordText) (o : RecordOffice) (left : ℕ) → IsOpen text o left → Leads (in_office text o left) (head_lines text ++ open_lines o left)
unfolding in_office
in_office_leads text o zero wants =
    let none : length o.votes + 0 ≡ length o.votes = omega arith in
    let few = wants.few in
    record {
      is = record {
        heading = record { process = wants.read.heading.process; date = wants.read.heading.date; turn = wants.read.heading.turn; zone = wants.read.heading.zone; section = wants.read.heading.section };
        offices = each_more [] text.offices o wants.read.offices (wants.code, record { few = omega arith; votes = wants.votes; in_order = wants.in_order });
      };
      same = ap (λ (l : List (List ℕ)). (format_words ++ line_end) ∷ (heading_of text ++ line_end) ∷ l)
          (flat_map-append spelled_office text.offices (o ∷ [])
          ∙ ap (λ (l : List (List ℕ)). flat_map spelled_office text.offices ++ l)
          (append-nil (spelled_office o) ∙ ap (λ (n : ℕ). (office_words o.code n ++ line_end) ∷ map vote_line o.votes) (sym none)));
    }
in_office_leads text o (suc n) wants =
    subst (λ (s : Stage). Leads s (head_lines text ++ open_lines o (suc n))) (sym (wanting text o n)) (record { is = (wants, omega arith); same = refl })

map_more : (votes : List Choice) (c : Choice) → map vote_line (votes ++ c ∷ []) ≡ map vote_line votes ++ vote_line c ∷ []
map_more [] c = refl
map_more (x ∷ votes) c = ap (λ (l : List (List ℕ)). vote_line x ∷ l) (map_more votes c)

length_more : (votes : List Choice) (c : Choice) → length (votes ++ c ∷ []) ≡ suc (length votes)
length_more [] c = refl
length_more (x ∷ votes) c = ap suc (length_more votes c)

-- an office with a vote more
more_open : (text : RecordText) (o : RecordOffice) (n : ℕ) (c : Choice) → IsOpen text o (suc n) → may_vote o.code c ≡ true → may_follow o.votes c ≡ true
    → IsOpen text (with_votes o (o.votes ++ c ∷ [])) n
more_open text o n c wants may behind =
    let long = length_more o.votes c in
    let few = wants.few in
    record {
      read = wants.read;
      code = wants.code;
      few = omega arith;
      votes = every_append (λ d. may_vote o.code d ≡ true) o.votes (c ∷ []) wants.votes (may, tt);
      in_order = in_order_more o.votes c wants.in_order behind;
    }

more_lines : (o : RecordOffice) (n : ℕ) (c : Choice) → open_lines (with_votes o (o.votes ++ c ∷ [])) n ≡ open_lines o (suc n) ++ vote_line c ∷ []
more_lines o n c =
    let long = length_more o.votes c in
    let same : length (o.votes ++ c ∷ []) + n ≡ length o.votes + suc n = omega arith in
    ap (λ (k : ℕ). (office_words o.code k ++ line_end) ∷ map vote_line (o.votes ++ c ∷ [])) same
    ∙ ap (λ (l : List (List ℕ)). (office_words o.code (length o.votes + suc n) ++ line_end) ∷ l) (map_more o.votes c)

voted_leads : (text : RecordText) (o : RecordOffice) (n : ℕ) (c : Choice) → IsOpen text o (suc n) → may_vote o.code c ≡ true → may_follow o.votes c ≡ true
    → Leads (in_office text (with_votes o (o.votes ++ c ∷ [])) n) ((head_lines text ++ open_lines o (suc n)) ++ vote_line c ∷ [])
voted_leads text o n c wants may behind =
    let leads = in_office_leads text (with_votes o (o.votes ++ c ∷ [])) n (more_open text o n c wants may behind) in
    record {
      is = leads.is;
      same = leads.same ∙ (ap (λ (l : List (List ℕ)). head_lines text ++ l) (more_lines o n c)
          ∙ sym (append_assoc (head_lines text) (open_lines o (suc n)) (vote_line c ∷ [])));
    }

-- ---- one line more

some_offices : (offices : List RecordOffice) → nat_lt 0 (length offices) ≡ true → 0 < length offices
some_offices [] h = absurd (cc)
some_offices (o ∷ offices) h = omega arith

end_leads : (text : RecordText) (line : List ℕ) → AreRead text → is_end text.offices line ≡ true → Leads (Ended text) (head_lines text ++ (line ++ line_end) ∷ [])
unfolding record_lines
end_leads text line read h =
    let both = both_from_and (bytes_eq line end_words) (nat_lt 0 (length text.offices)) h in
    let same = (bytes_eq-Decides line end_words).0 both.0 in
    record {
      is = record { heading = read.heading; some = some_offices text.offices both.1; offices = read.offices };
      same = ap (λ (l : List ℕ). head_lines text ++ (l ++ line_end) ∷ []) (sym same);
    }

none_before : (n : ℕ) → 0 + n ≡ n
none_before n = omega arith

offices_lead : (text : RecordText) (line : List ℕ) (n : Stage) → AreRead text → after_offices text line ≡ Some n → Leads n (head_lines text ++ (line ++ line_end) ∷ [])
unfolding after_offices
offices_lead text line n read h = go (is_end text.offices line) refl h
  where
    go : (b : Bool) → is_end text.offices line ≡ b
        → cond b (Some (Ended text)) (option_map (λ x. in_office text (record { code = x.0; votes = [] }) x.1) (office_in (codes_in text.offices) line)) ≡ Some n
        → Leads n (head_lines text ++ (line ++ line_end) ∷ [])
    go true e g = let same : Ended text ≡ n = cc in subst (λ (s : Stage). Leads s (head_lines text ++ (line ++ line_end) ∷ [])) same (end_leads text line read e)
    go false e g =
        let inner = map_some (λ (x : ℕ × ℕ). in_office text (record { code = x.0; votes = [] }) x.1) (office_in (codes_in text.offices) line) n g in
        let opened = office_read (codes_in text.offices) line inner.0 inner.1 in
        let o : RecordOffice = record { code = inner.0.0; votes = [] } in
        let few = opened.few in
        let leads = in_office_leads text o inner.0.1 (record { read = read; code = opened.may; few = omega arith; votes = tt; in_order = tt }) in
        subst (λ (s : Stage). Leads s (head_lines text ++ (line ++ line_end) ∷ [])) inner.2
        (record {
          is = leads.is;
          same = leads.same
              ∙ (ap (λ (k : ℕ). head_lines text ++ (office_words inner.0.0 k ++ line_end) ∷ []) (none_before inner.0.1)
              ∙ ap (λ (l : List ℕ). head_lines text ++ (l ++ line_end) ∷ []) (sym opened.same));
        })

votes_lead : (text : RecordText) (o : RecordOffice) (left : ℕ) (line : List ℕ) (n : Stage) → IsOpen text o left → 0 < left → after_votes text o left line ≡ Some n
    → Leads n ((head_lines text ++ open_lines o left) ++ (line ++ line_end) ∷ [])
unfolding after_votes vote_in
votes_lead text o zero line n wants some h = absurd (omega arith)
votes_lead text o (suc m) line n wants some h =
    let one_less : suc m - 1 ≡ m = omega arith in
    let inner = map_some (λ (c : Choice). in_office text (with_votes o (o.votes ++ c ∷ [])) (suc m - 1)) (vote_in o line) n h in
    let chosen = and_then_some _ _ inner.0 inner.1 in
    let both = guard_some (may_follow o.votes chosen.0) (Some chosen.0) inner.0 chosen.2 in
    let same : chosen.0 ≡ inner.0 = cc in
    let voted = choice_read o.code line chosen.0 chosen.1 in
    let leads = voted_leads text o m chosen.0 wants voted.may both.0 in
    let stage : in_office text (with_votes o (o.votes ++ chosen.0 ∷ [])) m ≡ n
    = ap (λ (k : ℕ). in_office text (with_votes o (o.votes ++ chosen.0 ∷ [])) k) (sym one_less)
    ∙ (ap (λ (c : Choice). in_office text (with_votes o (o.votes ++ c ∷ [])) (suc m - 1)) same ∙ inner.2) in
    let written : vote_line chosen.0 ≡ line ++ line_end = ap (λ (l : List ℕ). l ++ line_end) (sym voted.same) in
    subst (λ (s : Stage). Leads s ((head_lines text ++ open_lines o (suc m)) ++ (line ++ line_end) ∷ [])) stage
    (record { is = leads.is; same = leads.same ∙ ap (λ (l : List ℕ). (head_lines text ++ open_lines o (suc m)) ++ l ∷ []) written })

line_leads : (st : Stage) (line : List ℕ) (n : Stage) → IsStage st → with_line st line ≡ Some n → Leads n (so_far st ++ (line ++ line_end) ∷ [])
unfolding with_line
line_leads Start line n is h =
    let both = guard_some (bytes_eq line format_words) (Some Begun) n h in
    let same = (bytes_eq-Decides line format_words).0 both.0 in
    let stage : Begun ≡ n = cc in
    subst (λ (s : Stage). Leads s ((line ++ line_end) ∷ [])) stage (record { is = tt; same = ap (λ (l : List ℕ). (l ++ line_end) ∷ []) (sym same) })
line_leads Begun line n is h =
    let inner = map_some (λ (text : RecordText). Offices text) (heading_in line) n h in
    let headed = heading_read line inner.0 inner.1 in
    let offices : EachAfter MayStand [] inner.0.offices = subst (λ (l : List RecordOffice). EachAfter MayStand [] l) (sym headed.none) tt in
    subst (λ (s : Stage). Leads s ((format_words ++ line_end) ∷ (line ++ line_end) ∷ [])) inner.2
    (record {
      is = record { heading = headed.heading; offices = offices };
      same = ap (λ (l : List RecordOffice). (format_words ++ line_end) ∷ (heading_of inner.0 ++ line_end) ∷ flat_map spelled_office l) headed.none
          ∙ ap (λ (l : List ℕ). (format_words ++ line_end) ∷ (l ++ line_end) ∷ []) (sym headed.same);
    })
line_leads (Offices text) line n is h = offices_lead text line n is h
line_leads (Votes text o left) line n is h = votes_lead text o left line n is.0 is.1 h
line_leads (Ended text) line n is h = absurd (cc)

step_leads : (st : Stage) (row : List ℕ) (n : Stage) → IsStage st → step st row ≡ Some n → Leads n (so_far st ++ row ∷ [])
step_leads st row n is h =
    let inner = and_then_some (line_in row) (with_line st) n h in
    let same = line_read row inner.0 inner.1 in
    subst (λ (l : List ℕ). Leads n (so_far st ++ l ∷ [])) (sym same) (line_leads st inner.0 n is inner.2)

-- what was read is what the stage says
pub steps_lead : (st : Stage) (rows : List (List ℕ)) (e : Stage) → IsStage st → Steps st rows e → Leads e (so_far st ++ rows)
steps_lead st [] e is h = subst (λ (s : Stage). Leads s (so_far st ++ [])) h (record { is = is; same = sym (append-nil (so_far st)) })
steps_lead st (row ∷ rows) e is h =
    let one = step_leads st row h.0 is h.1 in
    let rest = steps_lead h.0 rows e one.is h.2 in
    record { is = rest.is; same = rest.same ∙ (ap (λ (l : List (List ℕ)). l ++ rows) one.same ∙ append_assoc (so_far st) (row ∷ []) rows) }

-- ---- each stage can go on to a record

abbrev one_office : RecordOffice
one_office = record { code = 1; votes = [] }

abbrev sample : RecordText
sample = record { process = 1; date = 20260101; turn = 1; zone = 1; section = 1; offices = [] }

sample_read : AreRead sample
unfolding is_date
sample_read = record { heading = record { process = refl; date = refl; turn = refl; zone = refl; section = refl }; offices = tt }

-- a record whose text begins with these lines
pub record Goes (lines : List (List ℕ)) : Type 0 where
  pub text : RecordText
  pub is : IsRecord text
  pub rest : List (List ℕ)
  pub same : spelled_lines text ≡ lines ++ rest

first_office : may_have_code [] 1 ≡ true
unfolding row_of
first_office = refl

read_goes : (text : RecordText) → AreRead text → Goes (head_lines text)
unfolding record_lines
read_goes text read = go text.offices refl
  where
    go : (offices : List RecordOffice) → text.offices ≡ offices → Goes (head_lines text)
    go [] e = record {
      text = with_offices text (one_office ∷ []);
      is = record {
        heading = record { process = read.heading.process; date = read.heading.date; turn = read.heading.turn; zone = read.heading.zone; section = read.heading.section };
        some = lit< tt;
        offices = ((first_office, record { few = lit≤ tt; votes = tt; in_order = tt }), tt);
      };
      rest = flat_map spelled_office (one_office ∷ []) ++ (end_words ++ line_end) ∷ [];
      same = ap (λ (l : List RecordOffice). (format_words ++ line_end) ∷ (heading_of text ++ line_end) ∷ (flat_map spelled_office l ++ (flat_map spelled_office (one_office ∷ []) ++ (end_words ++ line_end) ∷ []))) (sym e);
    }
    go (o ∷ offices) e = record {
      text = text;
      is = record { heading = read.heading; some = subst (λ (l : List RecordOffice). 0 < length l) (sym e) (omega arith); offices = read.offices };
      rest = (end_words ++ line_end) ∷ [];
      same = refl;
    }

behind_null : (votes : List Choice) → may_follow votes choice.Null ≡ true
behind_null votes = at (slice_get votes (length votes - 1))
  where
    null_last : (d : Choice) → choice_le d choice.Null ≡ true
    null_last (choice.Nominal n) = refl
    null_last (choice.Party n) = refl
    null_last choice.Blank = refl
    null_last choice.Null = refl

    at : (o : Option Choice) → option_map_or (λ d. choice_le d choice.Null) o true ≡ true
    at None = refl
    at (Some d) = null_last d

open_goes : (left : ℕ) (text : RecordText) (o : RecordOffice) → IsOpen text o left → Goes (head_lines text ++ open_lines o left)
unfolding in_office
open_goes zero text o wants =
    let leads = in_office_leads text o 0 wants in
    subst Goes leads.same (read_goes (with_offices text (text.offices ++ o ∷ [])) leads.is)
open_goes (suc n) text o wants =
    let null = choice.Null in
    let rest = open_goes n text (with_votes o (o.votes ++ null ∷ [])) (more_open text o n null wants refl (behind_null o.votes)) in
    record {
      text = rest.text;
      is = rest.is;
      rest = vote_line null ∷ rest.rest;
      same = rest.same ∙ (ap (λ (l : List (List ℕ)). (head_lines text ++ l) ++ rest.rest) (more_lines o n null)
          ∙ (ap (λ (l : List (List ℕ)). l ++ rest.rest) (sym (append_assoc (head_lines text) (open_lines o (suc n)) (vote_line null ∷ [])))
          ∙ append_assoc (head_lines text ++ open_lines o (suc n)) (vote_line null ∷ []) rest.rest));
    }

-- what was read is the front of a record's text
pub stage_goes_on : (st : Stage) → IsStage st → Goes (so_far st)
stage_goes_on Start is = let r = read_goes sample sample_read in record { text = r.text; is = r.is; rest = spelled_lines r.text; same = refl }
stage_goes_on Begun is =
    let r = read_goes sample sample_read in
    record { text = r.text; is = r.is; rest = (heading_of sample ++ line_end) ∷ r.rest; same = r.same }
stage_goes_on (Offices text) is = read_goes text is
stage_goes_on (Votes text o left) is = open_goes left text o is.0
stage_goes_on (Ended text) is = record { text = text; is = is; rest = []; same = sym (append-nil (spelled_lines text)) }

-- The sums of a ledger behind calls, and those that the totals tell of the same reports
use Rattle.std.proofs.Common.{◌≡◌, inl, inr, ℕ, zero, suc, ◌+◌, ◌<◌, ◌≤◌, Bool, true, false, not, cond, ◌==◌, ◌&&◌, ◌||◌, List, [], ◌∷◌, ◌++◌, length, map, get_or, slice_get, unwrap_or, Option, Some, None, refl, sym, ap, subst, ◌∙◌, arith, append_assoc, append-nil, length-append}
use Rattle.std.specs.Prelude.{nat_eq, slice_index}
use Rattle.std.specs.List.{AllByRecursion, flat_map, list_any, position, position_or_len, sum_by}
use Rattle.std.specs.Option.{option_map_or}
use Rattle.std.proofs.lemmas.Bool.{and_from, and_parts, cases_Bool, eq-eqb, eqb-true, lt-ltb}
use Rattle.std.proofs.lemmas.Bool.Decides.{nat_tests}
use Rattle.std.proofs.lemmas.List.{get_or-map, length-map}
use Rattle.std.proofs.lemmas.List.Elements.{recursion_from_All}
use Rattle.std.proofs.lemmas.List.Folds.{list_any-append, list_any_at}
use Rattle.std.proofs.lemmas.List.Quantifiers.{position-Some}
use Rattle.std.proofs.lemmas.List.Sums.{sum_by-cons, sum_by-le-sum_by}
use Rattle.std.proofs.lemmas.Option.{same_Some, slice_get_within}
use Rattle.election_tables.specs.TablesData.{IsTables, TablesData}
use Rattle.election_tables.specs.declared.tables.candidates.NamedCandidate.{NamedCandidate}
use Rattle.election_tables.specs.declared.tables.panels.Panel.{Panel}
use Rattle.poll_report.specs.declared.report.Report.{Report}
use Rattle.vote_kinds.specs.Ballot.{BallotLine, choices_of, is_choice, line_of, lines_by_panel, no_panel, panel_at}
use Rattle.vote_kinds.specs.Choice.{is_same, kind_of, number_of}
use Rattle.vote_kinds.specs.declared.choice.Choice.{Choice}
use Rattle.vote_kinds.specs.declared.choice.Choice.TheVariants as choice
use Rattle.vote_kinds.proofs.LineChoices.{choice_is_one}
use Rattle.vote_kinds.proofs.Lookups.{line_found}
use Rattle.vote_record.proofs.Bags.{same_true}
use Rattle.section_intake.specs.Accepted.{File}
use Rattle.section_intake.specs.Fits.{Fits}
use Rattle.section_intake.specs.Laws.{AreShort}
use Rattle.section_intake.specs.Sums.{all_nominal, all_party, blank_sum, nominal_sum, party_sum}
use Rattle.section_intake.specs.declared.verdict.Verdict.{Verdict}
use Rattle.section_intake.proofs.AcceptedLaws.{some_reports}
use Rattle.section_intake.proofs.BehindLaws.{short_accepted}
use Rattle.section_intake.proofs.ReportLaws.{as_many, one_list}
use Rattle.section_intake.proofs.VotesOfTables.{each_vote_is_of_the_tables}
use Rattle.seat_remainders.specs.Parties.{nominal_votes}
use Rattle.seat_remainders.specs.declared.contest.Entry.{Entry}
use Rattle.totals.specs.Contest.{contest_for, entries_in, entry_of, party_numbers}
use Rattle.totals.specs.Contest.{votes_in as panel_votes}
use Rattle.totals.specs.Lines.{candidate_line, office_line, section_line}
use Rattle.totals.specs.Totals.{TellPanel, TellPanels, TellResult}
use Rattle.totals.specs.declared.votes.PanelVotes.{PanelVotes}
use Rattle.totals.proofs.VoteLaws.{candidates_have_nominal, majority_has_none}
use Rattle.flash_store.specs.Pieces.{Piece}
use Rattle.intake_ledger.specs.Ledger.{LedgerData, accepted_in, choices_in, empty_ledger, is_choice_of, panel_choices, sum_among, sum_of, votes_in}
use Rattle.intake_ledger.specs.Offers.{AreOfferedTo, none_offered, offer_piece, one_more}
use Rattle.intake_ledger.proofs.Agreeing.{ledger_is_intake}
use Rattle.command_parts.proofs.Listing.{short_files}
use Rattle.call_laws.specs.LedgerAgain.{Call, LeadTo, LedHasSums, TellAlso, TotalsTellLedger, leads, other, received, reports_led, silent, stays}
use Rattle.ledger_commands.specs.Lines.{entries_told, entry_told, panel_lines, votes_told}

-- ---- offers behind offers

offered_then : (t : TablesData) (l m k : LedgerData) (fs gs : List File) (vs ws : List Verdict) (ps qs : List (Piece LedgerData)) → AreOfferedTo t l fs vs ps m → AreOfferedTo t m gs ws qs k
    → (said : List Verdict) × (pieces : List (Piece LedgerData)) × AreOfferedTo t l (fs ++ gs) said pieces k
offered_then t l m _ fs _ vs _ ps _ first none_offered = (vs, ps, subst (λ (files : List File). AreOfferedTo t l files vs ps m) (sym (append-nil fs)) first)
offered_then t l m _ fs _ vs _ ps _ first (one_more {files} {verdicts} {pieces} {m = n} {k} {file} {v} before offer) =
    let (said, all, so_far) = offered_then t l m n fs files vs verdicts ps pieces first before in (
      said ++ v ∷ [],
      all ++ offer_piece (length (fs ++ files) + 1) v k ∷ [],
      subst (λ (x : List File). AreOfferedTo t l x (said ++ v ∷ []) (all ++ offer_piece (length (fs ++ files) + 1) v k ∷ []) k) (append_assoc fs files (file ∷ [])) (one_more so_far offer),
    )

-- the reports that calls took in were offered one behind the other
led_offered : (t : TablesData) (l m : LedgerData) (calls : List Call) (led : LeadTo t l calls m) → (said : List Verdict) × (pieces : List (Piece LedgerData)) × AreOfferedTo t l (reports_led led) said pieces m
led_offered t l _ _ stays = ([], [], none_offered)
led_offered t l k _ (leads {before} {x} {m} earlier (received {listed} is some on)) =
    let (said, pieces, so_far) = led_offered t l m before earlier in
    offered_then t l m k (reports_led earlier) on.after.are.reports said on.after.verdicts pieces on.after.pieces so_far on.after.are.offered
led_offered t l k _ (leads {before} {x} {m} earlier (other none)) =
    let (said, pieces, so_far) = led_offered t l m before earlier in
    (said, pieces, subst (λ (files : List File). AreOfferedTo t l files said pieces k) (sym (append-nil (reports_led earlier))) so_far)
led_offered t l k _ (leads {before} {x} {m} earlier (silent unshown)) =
    let (said, pieces, so_far) = led_offered t l m before earlier in
    (said, pieces, subst (λ (files : List File). AreOfferedTo t l files said pieces k) (sym (append-nil (reports_led earlier))) so_far)

short-append : (xs ys : List File) → AreShort xs → AreShort ys → AreShort (xs ++ ys)
short-append [] ys first second = second
short-append (x ∷ xs) ys first second = (first.0, short-append xs ys first.1 second)

-- and each is short
led_short : (t : TablesData) (l m : LedgerData) (calls : List Call) (led : LeadTo t l calls m) → AreShort (reports_led led)
led_short t l _ _ stays = tt
led_short t l k _ (leads {before} {x} {m} earlier (received {listed} is some on)) =
    short-append (reports_led earlier) on.after.are.reports (led_short t l m before earlier) (short_files (Some x.files) on.after.are.names on.after.are.reports on.after.are.taken)
led_short t l k _ (leads {before} {x} {m} earlier (other none)) = short-append (reports_led earlier) [] (led_short t l m before earlier) tt
led_short t l k _ (leads {before} {x} {m} earlier (silent unshown)) = short-append (reports_led earlier) [] (led_short t l m before earlier) tt

pub led_has_sums : LedHasSums
led_has_sums t calls l tables led =
    let (said, pieces, to) = led_offered t (empty_ledger t) l calls led in
    let short = led_short t (empty_ledger t) l calls led in
    (short, λ verdicts accepted offered. (ledger_is_intake t (reports_led led) accepted verdicts said pieces l tables short offered to).1)

-- ---- the sum of a choice

turned : (k m j n : ℕ) → (k == j && m == n) ≡ true → (j == k && n == m) ≡ true
turned k m j n h = grind (arith, nat_tests)

-- one that passes stands within
any_within : {X : Type 0} (p : X → Bool) (xs : List X) → list_any p xs ≡ true → position_or_len p xs < length xs
any_within p [] some = absurd (cc)
any_within p (x ∷ xs) some = elim (cases_Bool (p x)) [
  | inl here_so ↦ let here = ap (λ (b : Bool). cond (not b) (1 + position_or_len p xs) 0) here_so in omega (arith, here)
  | inr later_on ↦
      let later = ap (λ (b : Bool). cond (not b) (1 + position_or_len p xs) 0) later_on in
      let rest = any_within p xs (ap (λ (b : Bool). b || list_any p xs) (sym later_on) ∙ some) in
      omega (arith, later, rest)
]

module _ (f : ℕ × Choice → ℕ) (panel : ℕ) (c : Choice) (xs : List (ℕ × Choice)) where
  abbrev passes : ℕ × Choice → Bool
  passes x = is_choice_of panel c x

  one_choice : (x : ℕ × Choice) → passes x ≡ true → f x ≡ f (panel, c)
  one_choice (of_panel, d) is =
      let both = and_parts (of_panel == panel) (is_same d c) is in
      ap (λ (k : ℕ). f (k, d)) (eqb-true of_panel panel both.0) ∙ ap (λ (e : Choice). f (panel, e)) (same_true d c both.1)

  there : (place : ℕ) → position passes xs ≡ Some place → slice_index (map f xs) place ≡ f (panel, c)
  there place at =
      let one = position-Some passes xs place (panel, c) at in
      get_or-map f xs place (panel, c) 0 one.0 ∙ one_choice (get_or xs place (panel, c)) one.1

  abbrev sum_at : Option ℕ → ℕ
  sum_at o = option_map_or (λ place. slice_index (map f xs) place) o 0

  -- it is that of the choice where it is among them,
  sum_among_is : list_any passes xs ≡ true → sum_among xs (map f xs) panel c ≡ f (panel, c)
  sum_among_is some =
      let place = position_or_len passes xs in
      let at : position passes xs ≡ Some place = ap (λ (b : Bool). cond b (Some place) None) (lt-ltb place (length xs) (any_within passes xs some)) in
      ap sum_at at ∙ there place at

  -- and never more
  sum_among_within : sum_among xs (map f xs) panel c ≤ f (panel, c)
  sum_among_within = go (position passes xs) refl
    where
      go : (o : Option ℕ) → position passes xs ≡ o → sum_at o ≤ f (panel, c)
      go None at = omega arith
      go (Some place) at = let same = there place at in omega (arith, same)

-- ---- the choices of a panel are among those of all

any_line : (panel : ℕ) (c : Choice) (ds : List Choice) → list_any (is_same c) ds ≡ true → list_any (is_choice_of panel c) (map (λ d. (panel, d)) ds) ≡ true
any_line panel c [] some = absurd (cc)
any_line panel c (d ∷ ds) some = elim (cases_Bool (is_same c d)) [
  | inl here_so ↦
      let here : is_choice_of panel c (panel, d) ≡ true = and_from (panel == panel) (is_same d c) (eq-eqb panel panel refl) (turned (kind_of c) (number_of c) (kind_of d) (number_of d) here_so) in
      ap (λ (b : Bool). b || list_any (is_choice_of panel c) (map (λ e. (panel, e)) ds)) here
  | inr later_on ↦ or_later (is_choice_of panel c (panel, d)) _ (any_line panel c ds (ap (λ (b : Bool). b || list_any (is_same c) ds) (sym later_on) ∙ some))
]
  where
    or_later : (a b : Bool) → b ≡ true → (a || b) ≡ true
    or_later true b is = refl
    or_later false b is = is

any_among : (c : Choice) (lines : List BallotLine) (k : ℕ) (line : BallotLine) → slice_get lines k ≡ Some line → is_choice line c ≡ true
    → list_any (is_choice_of line.panel c) (flat_map choices_in lines) ≡ true
any_among c [] k line at may = absurd (cc)
any_among c (x ∷ lines) zero line at may =
    let same : x ≡ line = same_Some _ _ at in
    let here = any_line line.panel c (choices_of line) (sym (choice_is_one line c) ∙ may) in
    list_any-append (is_choice_of line.panel c) (choices_in x) (flat_map choices_in lines)
    ∙ ap (λ (y : BallotLine). list_any (is_choice_of line.panel c) (choices_in y) || list_any (is_choice_of line.panel c) (flat_map choices_in lines)) same
    ∙ ap (λ (b : Bool). b || list_any (is_choice_of line.panel c) (flat_map choices_in lines)) here
any_among c (x ∷ lines) (suc k) line at may =
    list_any-append (is_choice_of line.panel c) (choices_in x) (flat_map choices_in lines)
    ∙ or_so (list_any (is_choice_of line.panel c) (choices_in x)) _ (any_among c lines k line at may)
  where
    or_so : (a b : Bool) → b ≡ true → (a || b) ≡ true
    or_so true b is = refl
    or_so false b is = is

chosen : (t : TablesData) (panel : ℕ) (c : Choice) → panel < length t.panels → is_choice (line_of t panel) c ≡ true → list_any (is_choice_of panel c) (panel_choices t) ≡ true
unfolding panel_choices
chosen t panel c lt may = any_among c (lines_by_panel t) panel (line_of t panel) (line_found t panel lt) may

-- ---- the sums that are told

-- entries of the same numbers with the same votes
same_entries : (t : TablesData) (l : LedgerData) (reports : List Report) (panel : ℕ) (cs : List NamedCandidate)
    → AllByRecursion (λ c. sum_of t l panel (choice.Nominal c.number) ≡ nominal_sum panel c.number reports) cs → map (entry_told t l panel) cs ≡ map (entry_of reports panel) cs
same_entries t l reports panel [] all = refl
same_entries t l reports panel (c ∷ cs) all =
    ap (λ (n : ℕ). record { number = c.number; birth = c.birth; votes = n } ∷ map (entry_told t l panel) cs) all.0
    ∙ ap (λ (es : List Entry). entry_of reports panel c ∷ es) (same_entries t l reports panel cs all.1)

module _ (t : TablesData) (tables : IsTables t) (l : LedgerData) (reports : List Report) (fit : AllByRecursion (Fits t) reports)
    (sums : l.sums ≡ map (λ x. sum_by (votes_in x) reports) (panel_choices t)) (panel : ℕ) (lt : panel < length t.panels) where
  abbrev p : Panel
  p = panel_at t panel

  abbrev votes_over : ℕ × Choice → ℕ
  votes_over x = sum_by (votes_in x) reports

  sum_here : (c : Choice) → sum_of t l panel c ≡ sum_among (panel_choices t) (map votes_over (panel_choices t)) panel c
  sum_here c = ap (λ (xs : List ℕ). sum_among (panel_choices t) xs panel c) sums

  sum_is : (c : Choice) → is_choice (line_of t panel) c ≡ true → sum_of t l panel c ≡ votes_over (panel, c)
  sum_is c may = sum_here c ∙ sum_among_is votes_over panel c (panel_choices t) (chosen t panel c lt may)

  sum_within : (c : Choice) → sum_of t l panel c ≤ votes_over (panel, c)
  sum_within c = let here = sum_here c in omega (arith, here, sum_among_within votes_over panel c (panel_choices t))

  -- each candidate has the same votes
  each_candidate : (cs : List NamedCandidate) → AllByRecursion (λ c. list_any (nat_eq c.number) (line_of t panel).candidates ≡ true) cs
      → AllByRecursion (λ c. sum_of t l panel (choice.Nominal c.number) ≡ nominal_sum panel c.number reports) cs
  each_candidate [] all = tt
  each_candidate (c ∷ cs) all = (sum_is (choice.Nominal c.number) all.0, each_candidate cs all.1)

  own_numbers : (cs : List NamedCandidate) → AllByRecursion (λ c. list_any (nat_eq c.number) (map (λ (d : NamedCandidate). d.number) cs) ≡ true) cs
  own_numbers cs = recursion_from_All (λ (c : NamedCandidate). list_any (nat_eq c.number) (map (λ (d : NamedCandidate). d.number) cs) ≡ true) cs (λ k d lt.
      list_any_at (nat_eq (get_or cs k d).number) (map (λ (e : NamedCandidate). e.number) cs) k 0 (omega (arith, lt, length-map cs (λ (e : NamedCandidate). e.number)))
      (eq-eqb _ _ (sym (get_or-map (λ (e : NamedCandidate). e.number) cs k d 0 lt))))

  entries_same : entries_told t l panel p ≡ entries_in reports panel p
  entries_same = same_entries t l reports panel p.candidates (each_candidate p.candidates (own_numbers p.candidates))

  -- in a proportional office each party has the same votes
  each_party : (ns : List ℕ) → (line_of t panel).proportional ≡ true → AllByRecursion (λ n. list_any (nat_eq n) (party_numbers t) ≡ true) ns
      → sum_by (λ n. sum_of t l panel (choice.Party n)) ns ≡ sum_by (λ n. party_sum panel n reports) ns
  each_party [] proportional all = refl
  each_party (n ∷ ns) proportional all =
      let may : is_choice (line_of t panel) (choice.Party n) ≡ true = and_from (line_of t panel).proportional (list_any (nat_eq n) (party_numbers t)) proportional all.0 in
      let left = sum_by-cons (λ m. sum_of t l panel (choice.Party m)) n ns in
      let right = sum_by-cons (λ m. party_sum panel m reports) n ns in
      let first : sum_of t l panel (choice.Party n) ≡ party_sum panel n reports = sum_is (choice.Party n) may in
      let rest = each_party ns proportional all.1 in
      omega (arith, left, right, first, rest)

  own_parties : (ns : List ℕ) → AllByRecursion (λ n. list_any (nat_eq n) ns ≡ true) ns
  own_parties ns = recursion_from_All (λ (n : ℕ). list_any (nat_eq n) ns ≡ true) ns (λ k d lt. list_any_at (nat_eq (get_or ns k d)) ns k d lt (eq-eqb _ _ refl))

  -- in another office no party has one
  party_same : sum_by (λ party. sum_of t l panel (choice.Party party)) (party_numbers t) ≡ all_party panel reports
  party_same =
      let all = (each_vote_is_of_the_tables t reports panel tables fit lt).1 in
      elim (cases_Bool (line_of t panel).proportional) [
        | inl proportional ↦ each_party (party_numbers t) proportional (own_parties (party_numbers t)) ∙ all
        | inr majority ↦
            let none = majority_has_none t reports panel fit majority in
            let few = sum_by-le-sum_by (λ n. sum_of t l panel (choice.Party n)) (λ n. party_sum panel n reports) (party_numbers t) (λ n. sum_within (choice.Party n)) in
            omega (arith, few, all, none)
      ]

  abbrev with_votes : ℕ → ℕ → ℕ → ℕ → PanelVotes
  with_votes nominal party blank null_votes = record { nominal = nominal; party = party; blank = blank; null_votes = null_votes }

  votes_same : votes_told t l panel p ≡ panel_votes reports panel
  votes_same =
      let v = votes_told t l panel p in
      ap (λ (n : ℕ). with_votes n v.party v.blank v.null_votes) (ap nominal_votes entries_same ∙ candidates_have_nominal t reports panel tables fit lt)
      ∙ ap (λ (n : ℕ). with_votes (all_nominal panel reports) n v.blank v.null_votes) party_same
      ∙ ap (λ (n : ℕ). with_votes (all_nominal panel reports) (all_party panel reports) n v.null_votes) (sum_is choice.Blank refl)
      ∙ ap (λ (n : ℕ). with_votes (all_nominal panel reports) (all_party panel reports) (blank_sum panel reports) n) (sum_is choice.Null refl)

  -- the lines of a panel, and behind them those of what comes of it
  panel_same : (lines : List (List ℕ)) (told : TellPanel t reports panel p lines) → lines ≡ panel_lines t l panel p ++ told.result
  panel_same lines told =
      told.all ∙ ap (λ (v : PanelVotes). office_line p.office.code v ∷ (map candidate_line (entries_in reports panel p) ++ told.result)) (sym votes_same)
      ∙ ap (λ (es : List Entry). office_line p.office.code (votes_told t l panel p) ∷ (map candidate_line es ++ told.result)) (sym entries_same)

-- ---- all lines

get_behind : (before : List Panel) (p : Panel) (panels : List Panel) → slice_get (before ++ p ∷ panels) (length before) ≡ Some p
get_behind [] p panels = refl
get_behind (q ∷ before) p panels = get_behind before p panels

module _ (t : TablesData) (tables : IsTables t) (l : LedgerData) (reports : List Report) (fit : AllByRecursion (Fits t) reports)
    (sums : l.sums ≡ map (λ x. sum_by (votes_in x) reports) (panel_choices t)) where
  panels_same : (first : ℕ) (before panels : List Panel) (lines : List (List ℕ)) → length before ≡ first → before ++ panels ≡ t.panels → TellPanels t reports first panels lines
      → TellAlso t reports l first panels lines
  panels_same first before [] lines long all told = told
  panels_same first before (p ∷ panels) lines long all (own, others, here, rest, is) =
      let at : slice_get t.panels first ≡ Some p = ap (λ (ps : List Panel). slice_get ps first) (sym all) ∙ ap (λ (k : ℕ). slice_get (before ++ p ∷ panels) k) (sym long) ∙ get_behind before p panels in
      let this : panel_at t first ≡ p = ap (λ (o : Option Panel). unwrap_or o no_panel) at in
      let told : TellPanel t reports first (panel_at t first) own = subst (λ (q : Panel). TellPanel t reports first q own) (sym this) here in
      let same = panel_same t tables l reports fit sums first (slice_get_within t.panels first p at) own told in
      let more : length (before ++ p ∷ []) ≡ first + 1 = omega (arith, long, length-append before (p ∷ [])) in (
        told.result,
        others,
        subst (λ (q : Panel). TellResult q.office.kind t (contest_for t reports first q) (entries_in reports first q) (λ number. nominal_sum first number reports) told.result) this told.told,
        panels_same (first + 1) (before ++ p ∷ []) panels others more (append_assoc before (p ∷ []) panels ∙ all) rest,
        is ∙ ap (λ (x : List (List ℕ)). x ++ others) (same ∙ ap (λ (q : Panel). panel_lines t l first q ++ told.result) this),
      )

pub totals_tell_ledger : TotalsTellLedger
totals_tell_ledger t calls l verdicts accepted reports lines tables led offered read told =
    let (short, sums_of) = led_has_sums t calls l tables led in
    let has = sums_of verdicts accepted offered in
    let short_here = short_accepted t (reports_led led) verdicts accepted short offered in
    let (others, also, fit, different) = some_reports t (reports_led led) verdicts accepted short offered in
    let same = one_list accepted others reports short_here also read in
    let own = one_list accepted has.reports reports short_here has.read read in
    let sums = has.sums ∙ ap (λ (rs : List Report). map (λ x. sum_by (votes_in x) rs) (panel_choices t)) own in
    let number : accepted_in l ≡ length reports = has.number ∙ as_many accepted reports read in (
      told.panels,
      panels_same t tables l reports (subst (λ (rs : List Report). AllByRecursion (Fits t) rs) same fit) sums 0 [] t.panels told.panels refl refl told.told,
      told.all ∙ ap (λ (n : ℕ). section_line n (length t.sections) ∷ told.panels) (sym number),
    )

-- How great the sums of a ledger are, and the lines that tell them
use Rattle.std.proofs.Common.{◌≡◌, ℕ, zero, suc, ◌+◌, ◌*◌, ◌<◌, ◌≤◌, ◌^◌, List, [], ◌∷◌, ◌++◌, length, map, take, slice_get, Option, None, Some, is_some, option_map, sym, ap, ◌∙◌, arith, append-nil, append_assoc, add-one, unwrap_or, inl, inr}
use Rattle.std.specs.Prelude.{slice_index}
use Rattle.std.specs.List.{AllByRecursion, position, sum_by}
use Rattle.std.proofs.lemmas.List.{length-map}
use Rattle.std.proofs.lemmas.List.Sums.{count_by-le-length, sum_by-cons}
use Rattle.std.proofs.lemmas.Option.{same_Some, slice_get_cases}
use Rattle.std.specs.Option.{option_map_or}
use Rattle.election_tables.specs.TablesData.{IsTables, TablesData, without_name}
use Rattle.election_tables.specs.declared.tables.candidates.Candidate.{Candidate}
use Rattle.election_tables.specs.declared.tables.candidates.NamedCandidate.{NamedCandidate}
use Rattle.election_tables.specs.declared.tables.panels.Panel.{Panel}
use Rattle.seat_remainders.specs.Parties.{nominal_votes}
use Rattle.totals.specs.Contest.{party_numbers}
use Rattle.totals.specs.Lines.{total_of}
use Rattle.vote_kinds.specs.Ballot.{no_panel, panel_at}
use Rattle.vote_kinds.specs.declared.choice.Choice.{Choice}
use Rattle.vote_kinds.specs.declared.choice.Choice.TheVariants as choice
use Rattle.intake_ledger.specs.Ledger.{IsLedger, LedgerData, accepted_in, is_choice_of, panel_choices, sum_of}
use Rattle.intake_ledger.specs.Totals.{AreTotals, TotalsData, accepted_told, sum_told}
use Rattle.intake_ledger.proofs.Standing.{is_ledger}
use Rattle.intake_ledger.proofs.Telling.{tell_ledger}
use Rattle.ledger_commands.specs.Lines.{entries_told, entry_told, panel_lines, panels_lines, votes_told}

-- ---- how great a sum is

index_at_most : (m : ℕ) (xs : List ℕ) (k : ℕ) → AllByRecursion (λ n. n ≤ m) xs → slice_index xs k ≤ m
index_at_most m [] k all = omega arith
index_at_most m (x ∷ xs) zero all = all.0
index_at_most m (x ∷ xs) (suc k) all = index_at_most m xs k all.1

-- no sum is above 9,999 for each of 2,000 sections
abbrev most : ℕ
most = 19998000

module _ (t : TablesData) (l : LedgerData) (tables : IsTables t) (is : IsLedger t l) where
  sum_at_most : (panel : ℕ) (c : Choice) → sum_of t l panel c ≤ most
  sum_at_most panel c = at (position (is_choice_of panel c) (panel_choices t))
    where
      few : accepted_in l ≤ 2000
      few = let within = count_by-le-length is_some l.last in omega (arith, within, is.sections, tables.section_count.1)

      at : (o : Option ℕ) → option_map_or (λ place. slice_index l.sums place) o 0 ≤ most
      at None = omega arith
      at (Some place) = let below = index_at_most (9999 * accepted_in l) l.sums place is.within in omega (arith, below, few)

  pub nominal_at_most : (panel : ℕ) (cs : List NamedCandidate) → nominal_votes (map (entry_told t l panel) cs) ≤ most * length cs
  nominal_at_most panel [] = omega arith
  nominal_at_most panel (c ∷ cs) =
      let more : nominal_votes (map (entry_told t l panel) (c ∷ cs)) ≡ sum_of t l panel (choice.Nominal c.number) + nominal_votes (map (entry_told t l panel) cs) =
      sum_by-cons (λ e. e.votes) (entry_told t l panel c) (map (entry_told t l panel) cs) in
      let first = sum_at_most panel (choice.Nominal c.number) in
      let rest = nominal_at_most panel cs in
      omega (arith, more, first, rest)

  pub parties_at_most : (panel : ℕ) (ns : List ℕ) → sum_by (λ party. sum_of t l panel (choice.Party party)) ns ≤ most * length ns
  parties_at_most panel [] = omega arith
  parties_at_most panel (n ∷ ns) =
      let more = sum_by-cons (λ party. sum_of t l panel (choice.Party party)) n ns in
      let first = sum_at_most panel (choice.Party n) in
      let rest = parties_at_most panel ns in
      omega (arith, more, first, rest)

-- the party votes of a panel are few
pub party_few : (t : TablesData) (l : LedgerData) → IsTables t → IsLedger t l → (panel : ℕ) (p : Panel) → (votes_told t l panel p).party ≤ most * 40
party_few t l tables is panel p =
    let sums = parties_at_most t l tables is panel (party_numbers t) in
    let many : length (party_numbers t) ≡ length t.parties = length-map t.parties (λ q. q.number) in
    omega (arith, sums, many, tables.party_count.1)

-- all votes together are few
pub votes_few : (t : TablesData) (l : LedgerData) → IsTables t → IsLedger t l → (panel : ℕ) (p : Panel) → length (entries_told t l panel p) ≤ 4096
    → total_of (votes_told t l panel p) < 10 ^ 11
votes_few t l tables is panel p few =
    let nominal = nominal_at_most t l tables is panel p.candidates in
    let many : length (entries_told t l panel p) ≡ length p.candidates = length-map p.candidates (entry_told t l panel) in
    let party = party_few t l tables is panel p in
    let blank = sum_at_most t l tables is panel choice.Blank in
    let null_votes = sum_at_most t l tables is panel choice.Null in
    omega (arith, few, nominal, many, party, blank, null_votes)

-- ---- what totals tell

-- totals of a ledger of whole tables tell a ledger
pub told_ledger : (t : TablesData) (l : LedgerData) (d : TotalsData) → IsTables t → AreTotals t l d → IsLedger t l
told_ledger t l d tables are = is_ledger t tables d.body l are.stands

pub told_sum : (t : TablesData) (l : LedgerData) (d : TotalsData) → AreTotals t l d → (panel : ℕ) (c : Choice) → sum_told d panel c ≡ sum_of t l panel c
told_sum t l d are = (tell_ledger t l d are).1

pub told_number : (t : TablesData) (l : LedgerData) (d : TotalsData) → AreTotals t l d → accepted_told d ≡ accepted_in l
told_number t l d are = (tell_ledger t l d are).0

-- ---- the lines

-- what the tables and the totals tell of one candidate gives the entry
pub entry_is : (t : TablesData) (l : LedgerData) (panel : ℕ) (o : Option NamedCandidate) (r : Candidate) (votes : ℕ) → option_map without_name o ≡ Some r
    → votes ≡ sum_of t l panel (choice.Nominal r.number) → option_map (entry_told t l panel) o ≡ Some (record { number = r.number; birth = r.birth; votes = votes })
entry_is t l panel None r votes e counted = absurd (cc)
entry_is t l panel (Some c) r votes e counted =
    let whole : without_name c ≡ r = same_Some _ _ e in
    ap (λ (d : Candidate). Some (record { number = d.number; birth = d.birth; votes = sum_of t l panel (choice.Nominal d.number) })) whole
    ∙ ap (λ (v : ℕ). Some (record { number = r.number; birth = r.birth; votes = v })) (sym counted)

panels_then : (t : TablesData) (l : LedgerData) (first : ℕ) (ps : List Panel) (i : ℕ) (p : Panel) → slice_get ps i ≡ Some p
    → panels_lines t l first (take (suc i) ps) ≡ panels_lines t l first (take i ps) ++ panel_lines t l (first + i) p
panels_then t l first [] i p at = absurd (cc)
panels_then t l first (q ∷ ps) zero p at =
    let same : q ≡ p = same_Some _ _ at in
    append-nil (panel_lines t l first q) ∙ ap (λ (x : Panel). panel_lines t l first x) same ∙ ap (λ (k : ℕ). panel_lines t l k p) (omega arith)
panels_then t l first (q ∷ ps) (suc i) p at =
    ap (λ (ls : List (List ℕ)). panel_lines t l first q ++ ls) (panels_then t l (first + 1) ps i p at)
    ∙ sym (append_assoc (panel_lines t l first q) (panels_lines t l (first + 1) (take i ps)) (panel_lines t l (first + 1 + i) p))
    ∙ ap (λ (k : ℕ). (panel_lines t l first q ++ panels_lines t l (first + 1) (take i ps)) ++ panel_lines t l k p) (omega arith)

-- one panel more
pub panels_more : (t : TablesData) (l : LedgerData) (i : ℕ) → i < length t.panels
    → panels_lines t l 0 (take (i + 1) t.panels) ≡ panels_lines t l 0 (take i t.panels) ++ panel_lines t l i (panel_at t i)
panels_more t l i lt = elim ((slice_get_cases t.panels i).1) [
  | inl found ↦
      let same : found.0 ≡ panel_at t i = sym (ap (λ (o : Option Panel). unwrap_or o no_panel) found.2) in
      ap (λ (k : ℕ). panels_lines t l 0 (take k t.panels)) (add-one i) ∙ panels_then t l 0 t.panels i found.0 found.2
      ∙ ap (λ (k : ℕ). panels_lines t l 0 (take i t.panels) ++ panel_lines t l k found.0) (omega arith)
      ∙ ap (λ (p : Panel). panels_lines t l 0 (take i t.panels) ++ panel_lines t l i p) same
  | inr past ↦ absurd (let gone = past.0 in omega arith)
]

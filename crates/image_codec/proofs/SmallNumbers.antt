-- The numbers of the tables' candidates and parties fit where votes are written
use Rattle.std.proofs.Common.{◌≡◌, ℕ, ◌+◌, ◌<◌, ◌≤◌, true, nat_eq, List, [], ◌∷◌, map, inl, inr, sym, subst, arith}
use Rattle.std.specs.List.{list_any, AllByRecursion}
use Rattle.std.proofs.lemmas.Bool.{eqb-true, or_cases, and_parts}
use Rattle.std.proofs.lemmas.List.Elements.{recursion_from_All}
use Rattle.election_tables.specs.TablesData.{TablesData, IsTables, IsPanel, IsCandidate, IsParty}
use Rattle.election_tables.specs.declared.tables.candidates.NamedCandidate.{NamedCandidate}
use Rattle.election_tables.specs.declared.tables.parties.Party.{Party}
use Rattle.election_tables.specs.declared.tables.panels.Panel.{Panel}
use Rattle.election_tables.proofs.Kept.{code_digits-range, has_digits-below}
use Rattle.vote_kinds.specs.declared.choice.Choice.{Choice}
use Rattle.vote_kinds.specs.declared.choice.Choice.TheVariants as choice
use Rattle.vote_kinds.specs.Ballot.{lines_by_panel, lines_from, line_for, is_proportional, is_choice}
use Rattle.image_codec.proofs.ReadVotes.{HasSmall, IsSmall}

candidates_small : (digits : ℕ) (parties : List Party) (candidates : List NamedCandidate) (n : ℕ) → digits ≤ 5 → AllByRecursion (IsCandidate digits parties) candidates
    → list_any (nat_eq n) (map (λ c. c.number) candidates) ≡ true → n ≤ 99999
candidates_small digits parties [] n few all is = absurd (cc)
candidates_small digits parties (c ∷ candidates) n few all is =
    elim (or_cases (nat_eq n c.number) (list_any (nat_eq n) (map (λ d. d.number) candidates)) is) [
      | inl here ↦ subst (λ (m : ℕ). m ≤ 99999) (sym (eqb-true n c.number here)) (has_digits-below digits c.number few all.0.number)
      | inr there ↦ candidates_small digits parties candidates n few all.1 there
    ]

parties_small : (parties : List Party) (n : ℕ) → AllByRecursion IsParty parties → list_any (nat_eq n) (map (λ q. q.number) parties) ≡ true → n < 256
parties_small [] n all is = absurd (cc)
parties_small (q ∷ parties) n all is =
    elim (or_cases (nat_eq n q.number) (list_any (nat_eq n) (map (λ r. r.number) parties)) is) [
      | inl here ↦ let same = eqb-true n q.number here in omega (arith, all.0.number.1)
      | inr there ↦ parties_small parties n all.1 there
    ]

line_small : (t : TablesData) (panel : ℕ) (p : Panel) (c : Choice) → IsPanel t.parties p → AllByRecursion IsParty t.parties → is_choice (line_for t panel p) c ≡ true → IsSmall c
line_small t panel p (choice.Nominal n) is parties h =
    let few = code_digits-range p.office.code p.office.digits is.office.digits in
    let small = candidates_small p.office.digits t.parties p.candidates n few.1 (recursion_from_All (IsCandidate p.office.digits t.parties) p.candidates is.candidates) h in
    omega arith
line_small t panel p (choice.Party n) is parties h =
    parties_small t.parties n parties (and_parts (is_proportional p.office.kind) (list_any (nat_eq n) (map (λ q. q.number) t.parties)) h).1
line_small t panel p choice.Blank is parties h = tt
line_small t panel p choice.Null is parties h = tt

lines_small : (t : TablesData) (first : ℕ) (panels : List Panel) → AllByRecursion (IsPanel t.parties) panels → AllByRecursion IsParty t.parties → AllByRecursion HasSmall (lines_from t first panels)
lines_small t first [] all parties = tt
lines_small t first (p ∷ panels) all parties = (λ c h. line_small t first p c all.0 parties h, lines_small t (first + 1) panels all.1 parties)

-- the choices of the line of every panel are small
pub panels_small : (t : TablesData) → IsTables t → AllByRecursion HasSmall (lines_by_panel t)
unfolding lines_by_panel
panels_small t is = lines_small t 0 t.panels (recursion_from_All (IsPanel t.parties) t.panels is.panels) (recursion_from_All IsParty t.parties is.parties)

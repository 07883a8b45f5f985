-- The keys of candidates, parties and sections: how they compare, in the document and in the tables.
use Rattle.std.proofs.Common.{◌≡◌, ℕ, ℤ, pos, true, false, not, ◌&&◌, ◌==◌, List, [], ◌∷◌, map, nat_cmp, refl, ap, sym, ◌∙◌, subst, inl, inr, arith}
use Rattle.std.specs.Cmp.{IsTotalOrder}
use Rattle.std.specs.List.{list_any}
use Rattle.std.specs.Ordering.{eq_by_cmp, int_eq}
use Rattle.std.proofs.lemmas.Bool.Decides.{nat_tests}
use Rattle.std.proofs.lemmas.Bool.{and_parts, and_from, or_parts, or_from, cases_Bool, not-true, not_from_false}
use Rattle.std.proofs.lemmas.Cmp.{nat_cmp_total, on_total, then_total, int_eq_equiv, on_equiv, and_equiv}
use Rattle.std.proofs.lemmas.Map.Lookups.{CmpEqualImpliesEq, exact_pairs, exact_unsigned}
use Rattle.std.proofs.lemmas.List.Sorted.{IsPermutation-map}
use Rattle.std.proofs.lemmas.Map.Keys.{IsStrictlyIncreasing-from_sorted}
use Rattle.std.specs.List.Sorted.{IsPermutation, IsSortedByKey}
use Rattle.election_tables.specs.declared.document.CandidateEntry.{CandidateEntry}
use Rattle.election_tables.specs.declared.document.PartyEntry.{PartyEntry}
use Rattle.election_tables.specs.declared.document.SectionEntry.{SectionEntry}
use Rattle.election_tables.specs.declared.tables.candidates.NamedCandidate.{NamedCandidate}
use Rattle.election_tables.specs.declared.tables.parties.Party.{Party}
use Rattle.election_tables.specs.declared.tables.sections.Section.{Section}
use Rattle.election_tables.specs.Rules.{are_distinct, same_pair}
use Rattle.election_tables.specs.TablesData.{pair_cmp, CandidatesRise, PartiesRise, SectionsRise}
use Rattle.election_tables.specs.Tables.{candidates_of, entry_of_candidate, entry_of_party, entry_of_section}
use Rattle.election_tables.proofs.Rising.{strict_from_sort, distinct_keys}
use Rattle.election_tables.proofs.Distinct.{is_eq_then}

pub pair_cmp_total : IsTotalOrder pair_cmp
pair_cmp_total = then_total (on_total (λ p. p.0) nat_cmp_total) (on_total (λ p. p.1) nat_cmp_total)

pub pair_cmp_exact : CmpEqualImpliesEq pair_cmp
pair_cmp_exact = exact_pairs nat_cmp nat_cmp exact_unsigned exact_unsigned

pub int_eq_flips : (a b : ℤ) → int_eq a b ≡ int_eq b a
int_eq_flips = int_eq_equiv.symm

pub same_pair_flips : (a b : ℤ × ℤ) → same_pair a b ≡ same_pair b a
same_pair_flips a b = (and_equiv (on_equiv (λ (p : ℤ × ℤ). p.0) int_eq_equiv) (on_equiv (λ (p : ℤ × ℤ). p.1) int_eq_equiv)).symm a b

pub nat_eq_by_cmp : (m n : ℕ) → (m == n) ≡ eq_by_cmp nat_cmp m n
nat_eq_by_cmp m n = grind (arith, nat_tests)

pub int_eq_by_cmp : (m n : ℕ) → int_eq (pos m) (pos n) ≡ eq_by_cmp nat_cmp m n
int_eq_by_cmp m n = grind (arith, nat_tests)

pub pair_eq_by_cmp : (a b c d : ℕ) → ((a == c) && (b == d)) ≡ eq_by_cmp pair_cmp (a, b) (c, d)
pair_eq_by_cmp a b c d =
    ap (λ x. x && (b == d)) (nat_eq_by_cmp a c) ∙ ap (λ y. eq_by_cmp nat_cmp a c && y) (nat_eq_by_cmp b d)
    ∙ sym (is_eq_then (nat_cmp a c) (nat_cmp b d))

pub same_pair_by_cmp : (a b c d : ℕ) → same_pair (pos a, pos b) (pos c, pos d) ≡ eq_by_cmp pair_cmp (a, b) (c, d)
same_pair_by_cmp a b c d =
    ap (λ x. x && int_eq (pos b) (pos d)) (int_eq_by_cmp a c) ∙ ap (λ y. eq_by_cmp nat_cmp a c && y) (int_eq_by_cmp b d)
    ∙ sym (is_eq_then (nat_cmp a c) (nat_cmp b d))

-- ---- candidates of one office

-- where a number stands again among an office's candidates, office and number stand again among all
any_of_office : (code : ℕ) (office number : ℤ) → int_eq office (pos code) ≡ true → (cs : List CandidateEntry)
    → list_any (same_pair (office, number)) (map (λ c. (c.office, c.number)) cs) ≡ false
    → list_any (int_eq number) (map (λ c. c.number) (candidates_of code cs)) ≡ false
any_of_office code office number same [] e = refl
any_of_office code office number same (c ∷ cs) e =
    let (here, rest) = or_parts (same_pair (office, number) (c.office, c.number)) (list_any (same_pair (office, number)) (map (λ c. (c.office, c.number)) cs)) e in
    elim (cases_Bool (int_eq c.office (pos code))) [
      | inl mine ↦ (
          let tied : int_eq office c.office ≡ true = int_eq_equiv.congr office (pos code) c.office same ∙ int_eq_flips (pos code) c.office ∙ mine in
          let other : int_eq number c.number ≡ false = rw tied at here in
          rw mine (or_from _ _ other (any_of_office code office number same cs rest)))
      | inr theirs ↦ rw theirs (any_of_office code office number same cs rest)
    ]

pub differ_of_office : (code : ℕ) (cs : List CandidateEntry) → are_distinct same_pair (map (λ c. (c.office, c.number)) cs) ≡ true
    → are_distinct int_eq (map (λ c. c.number) (candidates_of code cs)) ≡ true
differ_of_office code [] e = refl
differ_of_office code (c ∷ cs) e =
    let (here, rest) = and_parts (not (list_any (same_pair (c.office, c.number)) (map (λ c. (c.office, c.number)) cs))) (are_distinct same_pair (map (λ c. (c.office, c.number)) cs)) e in
    elim (cases_Bool (int_eq c.office (pos code))) [
      | inl mine ↦ rw mine (and_from _ _ (not_from_false _ (any_of_office code c.office c.number mine cs (not-true _ here))) (differ_of_office code cs rest))
      | inr theirs ↦ rw theirs (differ_of_office code cs rest)
    ]

-- ---- what a sort of the tables' parts gives

-- the candidates of an office
pub candidates_sorted : (code : ℕ) (entries : List CandidateEntry) (items new : List NamedCandidate)
    → map (entry_of_candidate code) items ≡ candidates_of code entries → IsPermutation items new
    → IsPermutation (candidates_of code entries) (map (entry_of_candidate code) new)
candidates_sorted code entries items new same moved =
    let P : List CandidateEntry → Type 0 = λ xs. IsPermutation xs (map (entry_of_candidate code) new) in
    subst P same (IsPermutation-map (entry_of_candidate code) items new moved)

pub candidates_rise : (code : ℕ) (entries : List CandidateEntry) (items new : List NamedCandidate)
    → map (entry_of_candidate code) items ≡ candidates_of code entries → IsPermutation items new
    → IsSortedByKey (λ c. c.number) nat_cmp new → are_distinct same_pair (map (λ c. (c.office, c.number)) entries) ≡ true → CandidatesRise new
candidates_rise code entries items new same moved sorted distinct =
    let differ = distinct_keys int_eq int_eq_flips (λ e. e.number) (entry_of_candidate code) (λ c. c.number) nat_cmp
    (λ x y. int_eq_by_cmp x.number y.number) (candidates_of code entries) new (candidates_sorted code entries items new same moved)
    (differ_of_office code entries distinct) in
    IsStrictlyIncreasing-from_sorted (map (λ c. c.number) new) (strict_from_sort nat_cmp_total (λ c. c.number) new sorted differ)

-- the parties
pub parties_sorted : (entries : List PartyEntry) (items new : List Party) → map entry_of_party items ≡ entries → IsPermutation items new
    → IsPermutation entries (map entry_of_party new)
parties_sorted entries items new same moved =
    let P : List PartyEntry → Type 0 = λ xs. IsPermutation xs (map entry_of_party new) in
    subst P same (IsPermutation-map entry_of_party items new moved)

pub parties_rise : (entries : List PartyEntry) (items new : List Party) → map entry_of_party items ≡ entries → IsPermutation items new
    → IsSortedByKey (λ q. q.number) nat_cmp new → are_distinct int_eq (map (λ p. p.number) entries) ≡ true → PartiesRise new
parties_rise entries items new same moved sorted distinct =
    let differ = distinct_keys int_eq int_eq_flips (λ e. e.number) entry_of_party (λ q. q.number) nat_cmp
    (λ x y. int_eq_by_cmp x.number y.number) entries new (parties_sorted entries items new same moved) distinct in
    IsStrictlyIncreasing-from_sorted (map (λ q. q.number) new) (strict_from_sort nat_cmp_total (λ q. q.number) new sorted differ)

-- the sections
pub sections_sorted : (entries : List SectionEntry) (items new : List Section) → map entry_of_section items ≡ entries → IsPermutation items new
    → IsPermutation entries (map entry_of_section new)
sections_sorted entries items new same moved =
    let P : List SectionEntry → Type 0 = λ xs. IsPermutation xs (map entry_of_section new) in
    subst P same (IsPermutation-map entry_of_section items new moved)

pub sections_rise : (entries : List SectionEntry) (items new : List Section) → map entry_of_section items ≡ entries → IsPermutation items new
    → IsSortedByKey (λ s. (s.zone, s.number)) pair_cmp new → are_distinct same_pair (map (λ s. (s.zone, s.number)) entries) ≡ true → SectionsRise new
sections_rise entries items new same moved sorted distinct =
    let differ = distinct_keys same_pair same_pair_flips (λ e. (e.zone, e.number)) entry_of_section (λ s. (s.zone, s.number)) pair_cmp
    (λ x y. same_pair_by_cmp x.zone x.number y.zone y.number) entries new (sections_sorted entries items new same moved) distinct in
    strict_from_sort pair_cmp_total (λ s. (s.zone, s.number)) new sorted differ

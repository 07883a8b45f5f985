-- The section of a zone and number is the only one.
use Rattle.std.proofs.Common.{◌≡◌, ℕ, zero, suc, ◌<◌, ◌==◌, ◌&&◌, cond, Bool, true, false, List, [], ◌∷◌, length, get_or, map, Some, eq-eqb, refl, sym, ap, subst, ◌∙◌, arith}
use Rattle.std.specs.Prelude.{Contains}
use Rattle.std.specs.List.{AllByRecursion, find}
use Rattle.std.specs.List.Sorted.{IsStrictlySortedBy}
use Rattle.std.specs.Ordering.{nat_cmp, ordering_then}
use Rattle.std.specs.Cmp.{nat_cmp_is}
use Rattle.std.specs.declared.cmp.Ordering.TheVariants.{Less, Equal}
use Rattle.std.proofs.lemmas.Bool.{and_parts, false_from_ne_true}
use borrow.Author.Tests.{eqb-true}
use Rattle.election_tables.specs.TablesData.{SectionsRise, pair_cmp, section_with}
use Rattle.election_tables.specs.declared.tables.sections.Section.{Section}

abbrev key_of : Section → ℕ × ℕ
key_of s = (s.zone, s.number)

-- what holds of each key holds of the key of each section
at_key : (P : ℕ × ℕ → Type 0) (sections : List Section) (k : ℕ) (s : Section) → k < length sections → get_or sections k s ≡ s → AllByRecursion P (map key_of sections) → P (key_of s)
at_key P [] k s below is all = absurd (omega (arith, below))
at_key P (x ∷ xs) zero s below is all = subst (λ (y : Section). P (key_of y)) is all.0
at_key P (x ∷ xs) (suc k) s below is all = at_key P xs k s (omega (arith, below)) is all.1

same_key : (x s : Section) → (x.zone == s.zone) && (x.number == s.number) ≡ true → (x.zone ≡ s.zone) × (x.number ≡ s.number)
same_key x s test =
    let both = and_parts (x.zone == s.zone) (x.number == s.number) test in
    (eqb-true x.zone s.zone both.0, eqb-true x.number s.number both.1)

not_less : (a b : ℕ) → pair_cmp (a, b) (a, b) ≡ Less → ⊥
not_less a b less =
    let first : Equal ≡ nat_cmp a a = nat_cmp_is a a Equal refl in
    let second : Equal ≡ nat_cmp b b = nat_cmp_is b b Equal refl in
    let equal : ordering_then (nat_cmp a a) (nat_cmp b b) ≡ Equal =
    ap (λ o. ordering_then o (nat_cmp b b)) (sym first) ∙ sym second in
    absurd (cc)

pub found_section : (sections : List Section) (s : Section) → SectionsRise sections → Contains sections s → section_with s.zone s.number sections ≡ Some s
unfolding IsStrictlySortedBy
found_section [] s rise (k, below, is) = absurd (omega (arith, below))
found_section (x ∷ xs) s rise (zero, below, is) =
    let same : x ≡ s = is in
    let zone : x.zone == s.zone ≡ true = eq-eqb x.zone s.zone (ap (λ (y : Section). y.zone) same) in
    let number : x.number == s.number ≡ true = eq-eqb x.number s.number (ap (λ (y : Section). y.number) same) in
    ap (λ t. cond (t && (x.number == s.number)) (Some x) (section_with s.zone s.number xs)) zone
    ∙ ap (λ t. cond t (Some x) (section_with s.zone s.number xs)) number
    ∙ ap (λ y. Some y) same
found_section (x ∷ xs) s rise (suc k, below, is) =
    let less = at_key (λ key. pair_cmp (key_of x) key ≡ Less) xs k s (omega (arith, below)) is rise.0 in
    let unlike : (x.zone == s.zone) && (x.number == s.number) ≡ false =
    false_from_ne_true ((x.zone == s.zone) && (x.number == s.number)) (λ test.
    let same = same_key x s test in
    let as_one : pair_cmp (key_of x) (key_of s) ≡ pair_cmp (key_of s) (key_of s) = ap (λ (z : ℕ). pair_cmp (z, x.number) (key_of s)) same.0 ∙ ap (λ (n : ℕ). pair_cmp (s.zone, n) (key_of s)) same.1 in
    not_less s.zone s.number (sym as_one ∙ less)) in
    ap (λ t. cond t (Some x) (section_with s.zone s.number xs)) unlike
    ∙ found_section xs s rise.1 (k, omega (arith, below), is)

-- what a search finds stands in the list
pub found_listed : {X : Type 0} (test : X → Bool) (xs : List X) (x : X) → find test xs ≡ Some x → Contains xs x
found_listed test [] x is = absurd (cc)
found_listed test (y ∷ ys) x is = piece (test y) (found_listed test ys x) is
  where
    piece : (t : Bool) → (find test ys ≡ Some x → Contains ys x) → cond t (Some y) (find test ys) ≡ Some x → Contains (y ∷ ys) x
    piece true rest found = (0, omega arith, (let same : y ≡ x = cc in same))
    piece false rest found = let later = rest found in (suc later.0, omega (arith, later.1), later.2)

-- Averages stand in one strict order.
use Rattle.std.proofs.Common.{◌≡◌, ℕ, ◌*◌, ◌<◌, ◌≤◌, ◌⊎◌, Bool, true, false, ◌&&◌, ◌||◌, nat_lt, ◌==◌, inl, inr, sym, ap, ◌∙◌, subst, arith}
use Rattle.std.proofs.lemmas.Bool.{cases_eq, false_from_ne_true, lt-ltb}
use Rattle.std.proofs.lemmas.Bool.Decides.{nat_tests}
use Rattle.std.proofs.Math.Nat.{mul-lt-mul_of_pos_left}
use Rattle.std.specs.Ordering.{nat_cmp, is_lt, ordering_then}
use Rattle.quotients.specs.declared.average.Average.{Average}
use Rattle.quotients.specs.Average.{AverageData, is_greater, comes_before}
use Rattle.quotients.specs.Order.{parts_of, average_cmp}
use Rattle.quotients.specs.Products.{products_le, products_lt_left, products_lt_right}

-- The test and what it tests, over plain numbers: x and y are the two products

abbrev precedes : (x y va vb pa pb da db : ℕ) → Bool
precedes x y va vb pa pb da db = nat_lt y x || (x == y && (nat_lt vb va || (va == vb && (nat_lt pa pb || (pa == pb && nat_lt da db)))))

abbrev Precedes : (x y va vb pa pb da db : ℕ) → Type 0
Precedes x y va vb pa pb da db = (y < x) ⊎ ((x ≡ y) × ((vb < va) ⊎ ((va ≡ vb) × ((pa < pb) ⊎ ((pa ≡ pb) × (da < db))))))

from_test : (x y va vb pa pb da db : ℕ) → precedes x y va vb pa pb da db ≡ true → Precedes x y va vb pa pb da db
from_test x y va vb pa pb da db h = grind (arith, nat_tests)

to_test : (x y va vb pa pb da db : ℕ) → Precedes x y va vb pa pb da db → precedes x y va vb pa pb da db ≡ true
to_test x y va vb pa pb da db h = grind (arith, nat_tests)

-- the order of equal averages
ties_join : (va vb vc pa pb pc da db dc : ℕ)
    → (vb < va) ⊎ ((va ≡ vb) × ((pa < pb) ⊎ ((pa ≡ pb) × (da < db))))
    → (vc < vb) ⊎ ((vb ≡ vc) × ((pb < pc) ⊎ ((pb ≡ pc) × (db < dc))))
    → (vc < va) ⊎ ((va ≡ vc) × ((pa < pc) ⊎ ((pa ≡ pc) × (da < dc))))
ties_join va vb vc pa pb pc da db dc h g = grind arith

not_less : (x y va vb pa pb da db : ℕ) → Precedes x y va vb pa pb da db → y ≤ x
not_less x y va vb pa pb da db h = grind arith

transitive : (va da pa vb db pb vc dc pc : ℕ) → 1 ≤ da → 1 ≤ db → 1 ≤ dc
    → Precedes (va * db) (vb * da) va vb pa pb da db
    → Precedes (vb * dc) (vc * db) vb vc pb pc db dc
    → Precedes (va * dc) (vc * da) va vc pa pc da dc
transitive va da pa vb db pb vc dc pc some_a some_b some_c (inl h) g = inl (products_lt_left va da vb db vc dc some_c h (not_less _ _ _ _ _ _ _ _ g))
transitive va da pa vb db pb vc dc pc some_a some_b some_c (inr h) (inl g) = inl (products_lt_right va da vb db vc dc some_a (omega (arith, h.0)) g)
transitive va da pa vb db pb vc dc pc some_a some_b some_c (inr h) (inr g) =
    let le = products_le va da vb db vc dc some_b (omega (arith, h.0)) (omega (arith, g.0)) in
    elim (cases_eq (va * dc) (vc * da)) [
      | inl e ↦ inr (e, ties_join va vb vc pa pb pc da db dc h.1 g.1)
      | inr ne ↦ inl (omega (arith, le, ne))
    ]

-- The laws

pub before_all_behind : (a b c : AverageData) → 1 ≤ a.divisor → 1 ≤ b.divisor → 1 ≤ c.divisor → comes_before a b ≡ true → comes_before b c ≡ true → comes_before a c ≡ true
before_all_behind a b c some_a some_b some_c h g =
    to_test _ _ _ _ _ _ _ _ (transitive a.votes a.divisor a.party b.votes b.divisor b.party c.votes c.divisor c.party some_a some_b some_c
    (from_test (a.votes * b.divisor) (b.votes * a.divisor) a.votes b.votes a.party b.party a.divisor b.divisor h)
    (from_test (b.votes * c.divisor) (c.votes * b.divisor) b.votes c.votes b.party c.party b.divisor c.divisor g))

not_itself_at : (x va pa da : ℕ) → precedes x x va va pa pa da da ≡ false
not_itself_at x va pa da = grind (arith, nat_tests)

pub not_itself : (a : AverageData) → comes_before a a ≡ false
not_itself a = not_itself_at (a.votes * a.divisor) a.votes a.party a.divisor

one_precedes : (x y va vb pa pb da db : ℕ) → (Precedes x y va vb pa pb da db) ⊎ ((Precedes y x vb va pb pa db da) ⊎ ((va ≡ vb) × ((pa ≡ pb) × (da ≡ db))))
one_precedes x y va vb pa pb da db = grind arith

pub same_average : (a b : AverageData) → a.votes ≡ b.votes → a.party ≡ b.party → a.divisor ≡ b.divisor → a ≡ b
same_average a b e f g =
    let make : ℕ → ℕ → ℕ → AverageData = λ v d p. record { votes = v; divisor = d; party = p } in
    ap (λ v. make v a.divisor a.party) e ∙ ap (λ p. make b.votes a.divisor p) f ∙ ap (λ d. make b.votes d b.party) g

pub some_order : (a b : AverageData) → (comes_before a b ≡ true) ⊎ ((comes_before b a ≡ true) ⊎ (a ≡ b))
some_order a b = elim (one_precedes (a.votes * b.divisor) (b.votes * a.divisor) a.votes b.votes a.party b.party a.divisor b.divisor) [
  | inl h ↦ inl (to_test (a.votes * b.divisor) (b.votes * a.divisor) a.votes b.votes a.party b.party a.divisor b.divisor h)
  | inr w ↦ elim w [
    | inl h ↦ inr (inl (to_test (b.votes * a.divisor) (a.votes * b.divisor) b.votes a.votes b.party a.party b.divisor a.divisor h))
    | inr e ↦ inr (inr (same_average a b e.0 e.1.0 e.1.1))
  ]
]

-- The order of the type

order_at : (x y va vb pa pb da db : ℕ) → is_lt (ordering_then (nat_cmp y x) (ordering_then (nat_cmp vb va) (ordering_then (nat_cmp pa pb) (nat_cmp da db)))) ≡ precedes x y va vb pa pb da db
order_at x y va vb pa pb da db = grind (arith, nat_tests)

pub is_order_of_law : (a b : Average) → is_lt (average_cmp a b) ≡ comes_before (parts_of a) (parts_of b)
is_order_of_law a b = order_at (a.votes * b.divisor) (b.votes * a.divisor) a.votes b.votes a.party b.party a.divisor b.divisor

-- The averages of a party fall

pub falls_with : (a b : AverageData) → 1 ≤ a.votes → a.votes ≡ b.votes → a.divisor < b.divisor → is_greater a b ≡ true
falls_with a b some same lt =
    let less = mul-lt-mul_of_pos_left lt some in
    let products : b.votes * a.divisor ≡ a.votes * a.divisor = ap (λ v. v * a.divisor) (sym same) in
    lt-ltb (b.votes * a.divisor) (a.votes * b.divisor) (omega arith)

-- For the crates above

-- so its average over a lower divisor comes first
pub falls : (votes party d e : ℕ) → 1 ≤ votes → d < e → comes_before (record { votes = votes; divisor = d; party = party }) (record { votes = votes; divisor = e; party = party }) ≡ true
falls votes party d e some lt = to_test (votes * e) (votes * d) votes votes party party d e (inl (mul-lt-mul_of_pos_left lt some))

not_both_at : (x y va vb pa pb da db : ℕ) → precedes x y va vb pa pb da db ≡ true → precedes y x vb va pb pa db da ≡ false
not_both_at x y va vb pa pb da db h = grind (arith, nat_tests)

-- of two averages one at most comes before the other
pub not_both : (a b : AverageData) → comes_before a b ≡ true → comes_before b a ≡ false
not_both a b h = not_both_at (a.votes * b.divisor) (b.votes * a.divisor) a.votes b.votes a.party b.party a.divisor b.divisor h

-- what does not come before an average doesn't come before one that isn't behind it
pub not_before_all : (a b c : AverageData) → 1 ≤ a.divisor → 1 ≤ b.divisor → 1 ≤ c.divisor → comes_before b a ≡ false → comes_before c b ≡ false → comes_before c a ≡ false
not_before_all a b c some_a some_b some_c h g = false_from_ne_true (comes_before c a) (λ ca. elim (some_order a b) [
  | inl ab ↦ let cb = before_all_behind c a b some_c some_a some_b ca ab in cc
  | inr w ↦ elim w [
    | inl ba ↦ cc
    | inr e ↦ let cb = subst (λ (x : AverageData). comes_before c x ≡ true) e ca in cc
  ]
])

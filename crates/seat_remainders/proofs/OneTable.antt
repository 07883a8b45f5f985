-- There is one table of averages.
use Rattle.std.proofs.Common.{◌≡◌, true, List, [], ◌∷◌, inl, inr, refl, sym, ap, ◌∙◌, subst, arith}
use Rattle.std.specs.List.{Contains}
use Rattle.std.proofs.lemmas.Bool.{true≢false}
use Rattle.quotients.specs.Average.{AverageData, comes_before}
use Rattle.quotients.proofs.Averages.{not_itself, not_both}
use Rattle.seat_remainders.specs.declared.contest.Contest.{Contest}
use Rattle.seat_remainders.specs.Table.{AveragesInOrder, AreAverages, seats_left}
use Rattle.seat_remainders.proofs.Lists.{contains_first, contains_there, contains_cases, of_member}

pub in_none : {X : Type 0} (x : X) → Contains [] x → ⊥
in_none x (k, lt, e) = omega arith

behind_too : (xs ys : List AverageData) (a : AverageData) → AveragesInOrder (a ∷ xs) → ((b : AverageData) → Contains (a ∷ xs) b → Contains (a ∷ ys) b) → (b : AverageData) → Contains xs b → Contains ys b
behind_too xs ys a ordered same b at = elim (contains_cases a b ys (same b (contains_there a b xs at))) [
  | inr later ↦ later
  | inl is ↦
      let first = of_member (λ c. comes_before a c ≡ true) xs b ordered.0 at in
      let itself = subst (λ (c : AverageData). comes_before a c ≡ true) (sym is) first in
      absurd (true≢false (sym itself ∙ not_itself a))
]

-- averages in order are known by which they are
same_averages : (xs ys : List AverageData) → AveragesInOrder xs → AveragesInOrder ys → ((a : AverageData) → Contains xs a → Contains ys a) → ((a : AverageData) → Contains ys a → Contains xs a) → xs ≡ ys
same_averages [] [] p q f g = refl
same_averages [] (b ∷ ys) p q f g = absurd (in_none b (g b (contains_first b b ys refl)))
same_averages (a ∷ xs) [] p q f g = absurd (in_none a (f a (contains_first a a xs refl)))
same_averages (a ∷ xs) (b ∷ ys) p q f g =
    let heads : a ≡ b = elim (contains_cases b a ys (f a (contains_first a a xs refl))) [
      | inl same ↦ sym same
      | inr later ↦ elim (contains_cases a b xs (g b (contains_first b b ys refl))) [
        | inl same ↦ same
        | inr other ↦
            let ba = of_member (λ c. comes_before b c ≡ true) ys a q.0 later in
            let ab = of_member (λ c. comes_before a c ≡ true) xs b p.0 other in
            absurd (true≢false (sym ba ∙ not_both a b ab))
      ]
    ] in
    let q' : AveragesInOrder (a ∷ ys) = subst (λ (x : AverageData). AveragesInOrder (x ∷ ys)) (sym heads) q in
    let f' : (x : AverageData) → Contains (a ∷ xs) x → Contains (a ∷ ys) x = subst (λ (y : AverageData). (x : AverageData) → Contains (a ∷ xs) x → Contains (y ∷ ys) x) (sym heads) f in
    let g' : (x : AverageData) → Contains (a ∷ ys) x → Contains (a ∷ xs) x = subst (λ (y : AverageData). (x : AverageData) → Contains (y ∷ ys) x → Contains (a ∷ xs) x) (sym heads) g in
    ap (λ (x : AverageData). x ∷ xs) heads ∙ ap (λ (t : List AverageData). b ∷ t) (same_averages xs ys p.1 q.1 (behind_too xs ys a p f') (behind_too ys xs a q' g'))

pub one_list : (contest : Contest) (xs ys : List AverageData) → AreAverages contest xs → AreAverages contest ys → xs ≡ ys
one_list contest xs ys p q = same_averages xs ys p.ordered q.ordered (λ a at. q.all a (p.only a at)) (λ a at. p.all a (q.only a at))

-- and it is empty where no seat is left
pub none_left : (contest : Contest) (xs : List AverageData) → seats_left contest ≡ 0 → AreAverages contest xs → xs ≡ []
none_left contest [] none table = refl
none_left contest (a ∷ xs) none table =
    let entry = table.only a (contains_first a a xs refl) in
    absurd (omega (arith, entry.above, entry.within, none))

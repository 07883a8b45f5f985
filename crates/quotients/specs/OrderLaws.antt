-- The order of averages is total, since each divisor is at least 1. It is proved here because the type's `Ord` names it.
use Rattle.std.proofs.Common.{◌≡◌, ℕ, ◌*◌, ◌<◌, inl, inr, sym, ◌∙◌, arith}
use Rattle.std.specs.Ordering.{nat_cmp}
use Rattle.std.specs.declared.cmp.Ordering.TheVariants.{Less, Equal, Greater}
use Rattle.std.specs.Cmp.{IsTotalOrder, nat_cmp_total, on_total, back_total, then_total}
use Rattle.std.proofs.lemmas.Bool.{cases_order}
use Rattle.std.proofs.lemmas.Bool.Decides.{nat_tests}
use Rattle.quotients.specs.Products.{products_le, products_lt_left, products_lt_right}
use Rattle.quotients.specs.declared.average.Average.{Average}
use Rattle.quotients.specs.Order.{quotient_cmp, average_cmp}

less_from : (x y : ℕ) → nat_cmp x y ≡ Less → x < y
less_from x y h = grind (arith, nat_tests)

to_less : (x y : ℕ) → x < y → nat_cmp x y ≡ Less
to_less x y h = grind (arith, nat_tests)

to_greater : (x y : ℕ) → y < x → nat_cmp x y ≡ Greater
to_greater x y h = grind (arith, nat_tests)

equal_from : (x y : ℕ) → nat_cmp x y ≡ Equal → x ≡ y
equal_from x y h = grind (arith, nat_tests)

to_equal : (x y : ℕ) → x ≡ y → nat_cmp x y ≡ Equal
to_equal x y h = grind (arith, nat_tests)

trans : (a b c : Average) → quotient_cmp a b ≡ Less → quotient_cmp b c ≡ Less → quotient_cmp a c ≡ Less
trans a b c h g =
    let one = less_from (b.votes * a.divisor) (a.votes * b.divisor) h in
    let two = less_from (c.votes * b.divisor) (b.votes * c.divisor) g in
    to_less _ _ (products_lt_left a.votes a.divisor b.votes b.divisor c.votes c.divisor c.some one (omega arith))

congr : (a b c : Average) → quotient_cmp a b ≡ Equal → quotient_cmp a c ≡ quotient_cmp b c
congr a b c h =
    let e = equal_from (b.votes * a.divisor) (a.votes * b.divisor) h in
    elim (cases_order (c.votes * b.divisor) (b.votes * c.divisor)) [
      | inl f ↦
          let le = products_le a.votes a.divisor b.votes b.divisor c.votes c.divisor b.some (omega arith) (omega arith) in
          let ge = products_le c.votes c.divisor b.votes b.divisor a.votes a.divisor b.some (omega arith) (omega arith) in
          to_equal (c.votes * a.divisor) (a.votes * c.divisor) (omega (arith, le, ge)) ∙ sym (to_equal _ _ f)
      | inr w ↦ elim w [
        | inl lt ↦
            let less = products_lt_right a.votes a.divisor b.votes b.divisor c.votes c.divisor a.some (omega arith) lt in
            to_less _ _ less ∙ sym (to_less _ _ lt)
        | inr gt ↦
            let greater = products_lt_left c.votes c.divisor b.votes b.divisor a.votes a.divisor a.some gt (omega arith) in
            to_greater _ _ greater ∙ sym (to_greater _ _ gt)
      ]
    ]

quotient_total : IsTotalOrder quotient_cmp
quotient_total = record { antisymm = λ a b. nat_cmp_total.antisymm (b.votes * a.divisor) (a.votes * b.divisor); trans = trans; congr = congr }

pub average_total : IsTotalOrder average_cmp
average_total =
    then_total quotient_total (then_total (back_total (on_total (λ a. a.votes) nat_cmp_total)) (then_total (on_total (λ a. a.party) nat_cmp_total) (on_total (λ a. a.divisor) nat_cmp_total)))

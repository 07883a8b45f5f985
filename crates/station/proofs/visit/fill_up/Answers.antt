use Rattle.std.proofs.Common.{◌≡◌, ℕ, suc, ◌-◌, ◌<◌, List, [], ◌∷◌, ◌++◌, length, replicate, ap, sym, ◌∙◌, append_assoc, arith}
use Rattle.std.proofs.lemmas.List.{length-append}
use Rattle.vote_kinds.specs.declared.choice.Choice.TheVariants.{Null}
use Rattle.station.proofs.visit.fill_up.Goals as goal

fill_more : {A : Type 0} (xs : List A) (x : A) (n : ℕ) → length xs < n → (xs ++ x ∷ []) ++ replicate (n - length (xs ++ x ∷ [])) x ≡ xs ++ replicate (n - length xs) x
fill_more {A} xs x n h =
    let one : n - length xs ≡ suc (n - length (xs ++ x ∷ [])) = omega (arith, length-append xs (x ∷ [])) in
    append_assoc xs (x ∷ []) (replicate (n - length (xs ++ x ∷ [])) x) ∙ ap (λ (k : ℕ). xs ++ replicate k x) (sym one)

pub loop-choices-preserved : goal.loop-choices-preserved
loop-choices-preserved c = rw c.push.ensures.items (fill_more c.loop-choices.choices.items Null c.args.lines (omega arith) ∙ c.loop-choices.invariant)

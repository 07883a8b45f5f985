use Rattle.std.proofs.Common.{◌≡◌, ◌+◌, ◌-◌, ◌++◌, ℕ, inl, inr, Bool, List, take, drop, length, false, replicate, refl, sym, ap, ◌∙◌, arith}
use Rattle.std.proofs.lemmas.Bool.{cases_lt}
use Rattle.std.proofs.lemmas.List.{append_assoc, length-drop, drop-drop, length-replicate, length-take-le}
use Rattle.memory_outside.proofs.Marking.{all_clean, wiped}
use Rattle.memory_outside.proofs.chip.clear.Goals as goal

pub returns-then-first-end : goal.returns-then-first-end
returns-then-first-end c =
    let marks = c.args.marks.now in
    let first = c.args.first in
    let k = c.args.end - first in
    let within = c.requires.within in
    let some = c.if-first-end.true in
    let long : length (take k (drop first marks)) ≡ k = length-take-le k (drop first marks) (omega (arith, length-drop first marks, within, some)) in
    let new : c.fill.new.self ≡ replicate k false = c.fill.ensures.after (λ _ same. same) ∙ ap (λ (n : ℕ). replicate n false) long in
    ap (λ (l : List Bool). take first marks ++ (l ++ drop k (drop first marks))) new
    ∙ ap (λ (l : List Bool). take first marks ++ (replicate k false ++ l)) (drop-drop k first marks)
    ∙ ap (λ (n : ℕ). take first marks ++ (replicate k false ++ drop (first + n) marks)) (sym (length-replicate k false))
    ∙ sym (append_assoc (take first marks) (replicate k false) (drop (first + length (replicate k false)) marks))
    ∙ wiped marks first c.args.end some within c.requires.others

pub returns-else-first-end : goal.returns-else-first-end
returns-else-first-end c = all_clean c.args.marks.now (length c.args.marks.now) refl (λ k below. elim (cases_lt k c.args.first) [
  | inl before ↦ c.requires.others k below (inl before)
  | inr above ↦ c.requires.others k below (inr (omega (arith, above, c.if-first-end.false)))
])

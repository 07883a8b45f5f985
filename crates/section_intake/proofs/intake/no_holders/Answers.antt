use Rattle.std.proofs.Common.{◌≡◌, ℕ, List, [], ◌∷◌, Option, None, length, map, replicate, refl, ap, ◌∙◌, arith}
use Rattle.election_tables.specs.declared.tables.sections.Section.{Section}
use Rattle.section_intake.proofs.intake.no_holders.Goals as goal

none_each : (xs : List Section) → replicate (length xs) None ≡ map {B = Option ℕ} (λ s. None) xs
none_each [] = refl
none_each (x ∷ xs) = ap (λ (l : List (Option ℕ)). None ∷ l) (none_each xs)

pub returns : goal.returns
returns c xs many =
    let end = c.loop-test.false in
    let within = c.loop.auto.counter-end in
    let same : c.loop.counter ≡ length xs = omega arith in
    c.loop.invariant.none ∙ ap (λ (n : ℕ). replicate n None) same ∙ none_each xs

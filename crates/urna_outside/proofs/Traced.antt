-- What was done is what the trail tells
use Rattle.std.proofs.Common.{◌≡◌, List, ◌++◌, Some, option_map, sym, ap, ◌∙◌}
use Rattle.std.proofs.lemmas.List.{append_cancel_left}
use Rattle.urna_outside.specs.Flash.{Flashes, Op}
use Rattle.urna_outside.specs.Told.{Told, Does}
use Rattle.urna_outside.specs.Traced.{IsTraced}

pub traced_is : (old new : Told) (start : Flashes) (ops done : List Op) → IsTraced old new start ops → Does done old new → done ≡ ops
traced_is old new start ops done traced does =
    let both : Some (traced.before ++ done) ≡ Some (traced.before ++ ops) = ap (option_map (λ (l : List Op). l ++ done)) (sym traced.trail) ∙ sym does.trail ∙ traced.done in
    let same : traced.before ++ done ≡ traced.before ++ ops = cc in
    append_cancel_left traced.before done ops same

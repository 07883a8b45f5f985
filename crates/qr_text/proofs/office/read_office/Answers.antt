use Rattle.std.proofs.Common.{refl, sym, ◌∙◌, ap}
use Rattle.std.proofs.lemmas.Result.{err_from_is_err_and}
use Rattle.qr_text.proofs.Joining.{bind_err, bind_ok, match_above}
use Rattle.qr_text.proofs.OfficesJoin.{after_behind, begun_majority, begun_proportional, behind_join}
use Rattle.qr_text.proofs.office.read_office.Goals as goal
use Rattle.qr_text.specs.Fronts.{goes, said_of}
use Rattle.qr_text.specs.Reading.{State}
use Rattle.qr_text.specs.declared.said.Said.{Said}

pub returns-in_err-code-clause-exact : goal.returns-in_err-code-clause-exact
returns-in_err-code-clause-exact c =
    let p = err_from_is_err_and c.from_residual.result c.from_residual.ensures.1 in
    let start = rw c.as_slice.ensures at c.in_err-code.ensures.exact in
    rw (p.1, p.2) (behind_join c.args.head.now c.args.before.now c.args.reader.now c.requires ∙ bind_err _ _ _ start)

pub returns-then-code_proportional-clause-exact : goal.returns-then-code_proportional-clause-exact
returns-then-code_proportional-clause-exact c =
    let q : Said = said_of c.args.head.now c.args.before.now in
    let start =
    behind_join c.args.head.now c.args.before.now c.args.reader.now c.requires
    ∙ (bind_ok _ _ _ (rw c.as_slice.ensures at c.in_ok-code.ensures.exact)
    ∙ ap (λ (st : State). goes st c.read_start.new.reader) (begun_proportional q c.in_ok-code.code (sym c.code_proportional.ensures ∙ c.if-code_proportional.true))) in
    match_above _ _ _ _ c.read_proportional.result c.read_proportional.ensures.exact
    (λ o h. start ∙ (h q refl refl ∙ after_behind c.args.head.now c.args.before.now o c.read_proportional.new.reader)) (λ f h. start ∙ h q refl refl)

pub returns-else-code_proportional-clause-exact : goal.returns-else-code_proportional-clause-exact
returns-else-code_proportional-clause-exact c =
    let q : Said = said_of c.args.head.now c.args.before.now in
    let start =
    behind_join c.args.head.now c.args.before.now c.args.reader.now c.requires
    ∙ (bind_ok _ _ _ (rw c.as_slice.ensures at c.in_ok-code.ensures.exact)
    ∙ ap (λ (st : State). goes st c.read_start.new.reader) (begun_majority q c.in_ok-code.code (sym c.code_proportional.ensures ∙ c.if-code_proportional.false))) in
    match_above _ _ _ _ c.read_majority.result c.read_majority.ensures.exact
    (λ o h. start ∙ (h q refl refl ∙ after_behind c.args.head.now c.args.before.now o c.read_majority.new.reader)) (λ f h. start ∙ h q refl refl)

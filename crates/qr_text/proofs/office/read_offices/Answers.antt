use Rattle.std.proofs.Common.{List, sym, ◌∙◌, ap}
use Rattle.std.specs.Prelude.{Result, Ok}
use Rattle.qr_text.proofs.OfficesJoin.{end_behind}
use Rattle.qr_text.proofs.office.read_offices.Goals as goal
use Rattle.qr_text.specs.Fronts.{said_of}
use Rattle.qr_text.specs.declared.fault.FieldFault.{FieldFault}
use Rattle.qr_text.specs.declared.said.Said.{Said}
use Rattle.qr_text.specs.declared.said.SaidOffice.{SaidOffice}

pub returns-then-has_ended : goal.returns-then-has_ended
returns-then-has_ended c =
    let answer : List SaidOffice → Result Said FieldFault = λ os. Ok (said_of c.args.head.now os) in
    record {
      exact =
          c.loop-offices.invariant.same
          ∙ (c.in_ok-office.ensures.exact
          ∙ (end_behind c.args.head.now c.loop-offices.offices c.in_ok-office.office c.read_office.new.reader (c.has_ended.ensures.0 c.if-has_ended.true)
          ∙ ap answer (sym c.in_ok-push.ensures.pushed)));
    }

use Rattle.std.proofs.Common.{ℕ, List, set, sym, ap, subst, ◌∙◌, arith}
use Rattle.intake_ledger.specs.Body.{StandsFor, number_in}
use Rattle.intake_ledger.specs.Layout.{body_size, version}
use Rattle.intake_ledger.specs.Ledger.{empty_ledger}
use Rattle.intake_ledger.proofs.Empty.{empty_stands, number_none, versioned_first, versioned_long, versioned_rest}
use Rattle.intake_ledger.proofs.room.Room.new.Goals as goal

pub returns-clause-empty : goal.returns-clause-empty
returns-clause-empty c =
    let t = c.args.tables.now in
    let zeros : List ℕ = c.in_ok-body.body.items in
    let are = c.in_ok-body.ensures.bytes in
    let stands = empty_stands (set zeros 0 version) (versioned_long body_size zeros are) (versioned_first body_size zeros are (omega arith)) (versioned_rest body_size zeros are) t c.in_ok-totals.ensures.tables in
    record {
      choices = c.in_ok-totals.ensures.choices;
      stands = subst (StandsFor t (empty_ledger t)) (sym c.in_ok-totals.ensures.body) stands;
    }

pub returns-clause-number : goal.returns-clause-number
returns-clause-number c =
    let zeros : List ℕ = c.in_ok-body.body.items in
    let are = c.in_ok-body.ensures.bytes in
    ap number_in c.in_ok-totals.ensures.body
    ∙ number_none (set zeros 0 version) (versioned_long body_size zeros are) (versioned_first body_size zeros are (omega arith)) (versioned_rest body_size zeros are)

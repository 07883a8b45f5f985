use Rattle.std.proofs.Common.{List, sym, ◌∙◌, ap}
use Rattle.std.proofs.lemmas.Result.{err_from_is_err_and}
use Rattle.poll_report.specs.declared.report.Count.{Count}
use Rattle.qr_text.proofs.Joining.{bind_err, bind_ok}
use Rattle.qr_text.proofs.OfficesJoin.{proportional_join}
use Rattle.qr_text.proofs.office.read_proportional.Goals as goal
use Rattle.qr_text.specs.Fronts.{after_office, goes, with_sums}
use Rattle.qr_text.specs.declared.said.SaidOffice.{SaidOffice}

pub returns-clause-exact : goal.returns-clause-exact
returns-clause-exact c = λ q able came.
    let parties = c.in_ok-parties.ensures in
    let read = rw (parties.nominal, parties.legend) at c.in_ok-sums.ensures.exact in
    let office = c.office_of.ensures ∙ ap (λ (cs : List Count). with_sums c.args.code 1 cs c.in_ok-parties.parties.items c.in_ok-sums.sums) c.new.ensures in
    proportional_join q c.args.voters.now c.args.code c.args.reader.now c.in_ok-parties.parties.items c.read_parties.new.reader c.requires able came (parties.exact q) (parties.no_more q)
    ∙ (bind_ok _ _ _ read ∙ ap (λ (o : SaidOffice). goes (after_office q o) c.read_sums.new.reader) (sym office))

pub returns-in_err-sums-clause-exact : goal.returns-in_err-sums-clause-exact
returns-in_err-sums-clause-exact c =
    let p = err_from_is_err_and c.from_residual-in_err-sums.result c.from_residual-in_err-sums.ensures.1 in
    let parties = c.in_ok-parties.ensures in
    let read = rw (parties.nominal, parties.legend) at c.in_err-sums.ensures.exact in
    rw (p.1, p.2) (λ q able came.
    proportional_join q c.args.voters.now c.args.code c.args.reader.now c.in_ok-parties.parties.items c.read_parties.new.reader c.requires able came (parties.exact q) (parties.no_more q)
    ∙ bind_err _ _ _ read)

use Rattle.std.proofs.Common.{List, sym, ◌∙◌, ap}
use Rattle.std.proofs.lemmas.Result.{err_from_is_err_and}
use Rattle.qr_text.proofs.Joining.{bind_err, bind_ok}
use Rattle.qr_text.proofs.OfficesJoin.{majority_join}
use Rattle.qr_text.proofs.office.read_majority.Goals as goal
use Rattle.qr_text.specs.Fronts.{after_office, goes, with_sums}
use Rattle.qr_text.specs.declared.said.SaidOffice.{SaidOffice}
use Rattle.qr_text.specs.declared.said.SaidParty.{SaidParty}

pub returns-clause-exact : goal.returns-clause-exact
returns-clause-exact c = λ q able came.
    let read = rw c.in_ok-tally.ensures.votes at c.in_ok-sums.ensures.exact in
    let office = c.office_of.ensures ∙ ap (λ (ps : List SaidParty). with_sums c.args.code c.read_places-places.result c.in_ok-tally.tally.counts ps c.in_ok-sums.sums) c.new.ensures in
    c.read_places-places.ensures.exact q
    ∙ majority_join q c.args.voters.now c.args.code c.read_places-places.result c.read_places-places.new.reader c.in_ok-tally.tally.counts c.read_votes.new.reader c.requires able came c.in_ok-tally.ensures.exact
    ∙ (bind_ok _ _ _ read ∙ ap (λ (o : SaidOffice). goes (after_office q o) c.read_sums.new.reader) (sym office))

pub returns-in_err-sums-clause-exact : goal.returns-in_err-sums-clause-exact
returns-in_err-sums-clause-exact c =
    let p = err_from_is_err_and c.from_residual-in_err-sums.result c.from_residual-in_err-sums.ensures.1 in
    let read = rw c.in_ok-tally.ensures.votes at c.in_err-sums.ensures.exact in
    rw (p.1, p.2) (λ q able came.
    c.read_places-places.ensures.exact q
    ∙ majority_join q c.args.voters.now c.args.code c.read_places-places.result c.read_places-places.new.reader c.in_ok-tally.tally.counts c.read_votes.new.reader c.requires able came c.in_ok-tally.ensures.exact
    ∙ bind_err _ _ _ read)

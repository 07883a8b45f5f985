use Rattle.std.proofs.Common.{◌∙◌}
use Rattle.std.proofs.lemmas.Result.{err_from_is_err_and}
use Rattle.qr_text.proofs.Joining.{bind_err, bind_ok}
use Rattle.qr_text.proofs.VotesJoin.{party_join}
use Rattle.qr_text.proofs.votes.read_party.Goals as goal

pub returns-clause-exact : goal.returns-clause-exact
returns-clause-exact c = λ q ps.
    party_join q c.args.code ps c.args.number c.args.reader.now c.in_ok-tally.tally.counts c.read_votes.new.reader c.in_ok-tally.ensures.exact
    ∙ bind_ok _ _ _ c.in_ok-party.ensures.exact

pub returns-in_err-party-clause-exact : goal.returns-in_err-party-clause-exact
returns-in_err-party-clause-exact c =
    let p = err_from_is_err_and c.from_residual-in_err-party.result c.from_residual-in_err-party.ensures.1 in
    rw (p.1, p.2) (λ q ps.
    party_join q c.args.code ps c.args.number c.args.reader.now c.in_ok-tally.tally.counts c.read_votes.new.reader c.in_ok-tally.ensures.exact
    ∙ bind_err _ _ _ c.in_err-party.ensures.exact)

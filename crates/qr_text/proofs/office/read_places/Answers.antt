use Rattle.std.proofs.Common.{[], ap, sym, ℕ, ◌∙◌}
use Rattle.qr_text.proofs.VotesJoin.{places_join}
use Rattle.qr_text.proofs.office.read_places.Goals as goal
use Rattle.qr_text.specs.Fronts.{goes, voting}

pub returns-clause-exact : goal.returns-clause-exact
returns-clause-exact c = λ q.
    places_join q c.args.code c.args.reader.now c.try_places.result c.try_places.new.self c.try_places.ensures.exact
    ∙ ap (λ (n : ℕ). goes (voting q c.args.code n []) c.try_places.new.self) (sym c.unwrap_or.ensures)

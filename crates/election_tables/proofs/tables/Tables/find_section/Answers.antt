use Rattle.std.proofs.Common.{◌≤◌, ◌==◌, ◌&&◌}
use Rattle.std.proofs.lemmas.List.Elements.{All-weaker}
use Rattle.election_tables.specs.Limits.{most_voters}
use Rattle.election_tables.specs.TablesData.{IsSection}
use Rattle.election_tables.proofs.Named.{found_is}
use Rattle.election_tables.proofs.tables.Tables.find_section.Goals as goal

pub returns-clause-voters : goal.returns-clause-voters
returns-clause-voters c =
    found_is (λ s. (1 ≤ s.voters) × (s.voters ≤ most_voters)) (λ s. (s.zone == c.args.zone) && (s.number == c.args.number)) c.self.inside.sections
    (All-weaker IsSection (λ s. (1 ≤ s.voters) × (s.voters ≤ most_voters)) (λ s h. h.voters) c.self.inside.sections c.self.invariant.sections)
    c.with.result c.with.ensures

use Rattle.std.proofs.Common.{◌++◌, List, ap, ◌∙◌, arith}
use Rattle.quotients.specs.Average.{AverageData}
use Rattle.seat_remainders.specs.Table.{entries_for, limit_of}
use Rattle.seat_remainders.proofs.MadeTable.{entries_more}
use Rattle.seat_remainders.proofs.Standings.{party_at, standing_at, standings-length}
use Rattle.seat_remainders.proofs.table.entries_of.Goals as goal

pub loop-standing-preserved : goal.loop-standing-preserved
loop-standing-preserved c =
    record {
      told = λ qe parties is.
          let i = c.loop-standing.standing-index in
          let limit = limit_of qe c.args.phase c.args.awards.now c.args.left in
          let len = standings-length qe parties c.args.standings.now is in
          let found = party_at parties i (omega (arith, len, c.loop-standing-test.true)) in
          c.in_ok-push_entries.ensures.pushed qe found.0 (standing_at qe i parties c.args.standings.now _ found.0 is c.loop-standing-test.true found.1)
          ∙ ap (λ (t : List AverageData). t ++ entries_for qe c.args.awards.now limit found.0) (c.loop-standing.invariant.told qe parties is)
          ∙ entries_more qe c.args.awards.now limit parties i found.0 (omega (arith, len, c.loop-standing-test.true)) found.1;
      few = omega (arith, c.loop-standing.invariant.few, c.in_ok-push_entries.ensures.few, c.requires.within);
    }

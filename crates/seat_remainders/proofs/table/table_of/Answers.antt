use Rattle.std.proofs.Common.{List, subst}
use Rattle.std.specs.List.Sorted.{IsPermutation}
use Rattle.quotients.specs.Average.{AverageData}
use Rattle.seat_remainders.proofs.TableEntries.{sorted_entries}
use Rattle.seat_remainders.proofs.Rising.{are_rising}
use Rattle.seat_remainders.proofs.table.table_of.Goals as goal

pub returns : goal.returns
returns c =
    λ qe parties rise is.
    sorted_entries qe c.args.awards.now _ parties _ (are_rising _ rise) (subst (λ (l : List AverageData). IsPermutation l c.in_ok-averages.averages) (c.in_ok-entries.ensures.entries qe parties is) c.in_ok-averages.ensures.same) c.in_ok-averages.ensures.sorted

use Rattle.std.proofs.Common.{◌≡◌, ◌+◌, ◌*◌, ◌<◌, [], length, map, replicate, take, vec_capacity}
use Rattle.std.specs.List.{sum_by}
use Rattle.election_tables.specs.TablesData.{places_of}
use Rattle.vote_record.specs.Counters.{counters_before, most_counters}
use Rattle.vote_record.proofs.Stored.{bags_in, rooms_of}
use Rattle.vote_record.proofs.rdv.Rdv.new.Given as goal

abbrev pub invariant-loop-panel : goal.invariant-loop-panel
invariant-loop-panel l = record {
  places : l.places.items ≡ take l.panel (places_of l.tables);
  members : bags_in l.bags.items ≡ replicate l.panel [];
  rooms : rooms_of l.bags.items ≡ map (λ n. l.voters * n) l.places.items;
  memory : sum_by (λ b. b.memory) l.bags.items + l.spare + counters_before l.tables (length l.tables.panels)
      ≡ most_counters (length l.tables.panels) + counters_before l.tables l.panel + sum_by (λ b. b.room) l.bags.items;
  given : 0 < l.panel → l.spare ≡ 0;
  bags_room : vec_capacity l.bags ≡ l.panels;
  places_room : vec_capacity l.places ≡ l.panels;
}

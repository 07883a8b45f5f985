use Rattle.std.proofs.Common.{◌≡◌, ◌+◌, ◌++◌, ◌*◌, ℕ, List, [], ◌∷◌, map, length, take, replicate, refl, sym, ap, ◌∙◌, arith}
use Rattle.std.specs.List.{sum_by}
use Rattle.std.proofs.lemmas.List.{take_all, take_more, length-map, length-replicate, map_push, replicate_more}
use Rattle.std.proofs.lemmas.List.Sums.{sum_by_push}
use Rattle.election_tables.specs.TablesData.{places_in, places_of}
use Rattle.vote_kinds.specs.declared.choice.Choice.{Choice}
use Rattle.vote_kinds.specs.Ballot.{choices_of, line_of}
use Rattle.vote_record.specs.BagData.{BagData}
use Rattle.vote_record.specs.RdvData.{RdvData}
use Rattle.vote_record.specs.Counters.{counters_before}
use Rattle.vote_record.proofs.NewCounters.{one_panel_more}
use Rattle.vote_record.proofs.Stored.{bags_in, rooms_of, length-bags_in}
use Rattle.vote_record.proofs.rdv.Rdv.new.Goals as goal

pub loop-panel-preserved : goal.loop-panel-preserved
loop-panel-preserved c =
    let t = c.args.tables.now in
    let all : List ℕ = places_of t in
    let panel : ℕ = c.loop-panel.panel in
    let votes : ℕ = c.places-votes.result in
    let room : ℕ → ℕ = λ n. c.args.voters * n in
    let bags : List BagData = c.loop-panel.bags.items in
    let places : List ℕ = c.loop-panel.places.items in
    let fresh : BagData = record { members = []; room = room votes; memory = length (choices_of (line_of t panel)) + (room votes + c.loop-panel.spare) } in
    let many : length all ≡ length t.panels = length-map t.panels places_in in
    let put = c.push_reserved.ensures.items ∙ ap (λ (b : BagData). bags ++ b ∷ []) c.in_ok-of_panel.ensures in
    let of_votes = c.push_reserved-in-loop-panel.ensures.items in
    record {
      places = of_votes
          ∙ ap (λ (l : List ℕ). l ++ votes ∷ []) c.loop-panel.invariant.places
          ∙ ap (λ (n : ℕ). take panel all ++ n ∷ []) c.places-votes.ensures.places
          ∙ sym (take_more all panel 0 (omega arith));
      members = ap bags_in put
          ∙ map_push (λ b. b.members) bags fresh
          ∙ ap (λ (m : List (List Choice)). m ++ [] ∷ []) c.loop-panel.invariant.members
          ∙ replicate_more panel [];
      rooms = ap rooms_of put
          ∙ map_push (λ b. b.room) bags fresh
          ∙ ap (λ (r : List ℕ). r ++ room votes ∷ []) c.loop-panel.invariant.rooms
          ∙ sym (map_push room places votes)
          ∙ ap (map room) (sym of_votes);
      memory =
          let memory = ap (sum_by (λ (b : BagData). b.memory)) put ∙ sum_by_push (λ b. b.memory) bags fresh in
          let rooms = ap (sum_by (λ (b : BagData). b.room)) put ∙ sum_by_push (λ b. b.room) bags fresh in
          let before : counters_before t (panel + 1) ≡ counters_before t panel + length (choices_of (line_of t panel)) = one_panel_more t panel in
          omega (arith, c.loop-panel.invariant.memory);
      given = λ lt. refl;
      bags_room = c.push_reserved.ensures.capacity ∙ c.loop-panel.invariant.bags_room;
      places_room = c.push_reserved-in-loop-panel.ensures.capacity ∙ c.loop-panel.invariant.places_room;
    }

pub invariant_of-result : goal.invariant_of-result
invariant_of-result c =
    let all : List ℕ = places_of c.args.tables.now in
    let many : length all ≡ length c.args.tables.now.panels = length-map c.args.tables.now.panels places_in in
    let whole : take c.loop-panel.panel all ≡ all = take_all c.loop-panel.panel all (omega (arith, c.panels-panels.ensures.count)) in
    let bags = sym (length-bags_in c.loop-panel.bags.items) ∙ ap length c.loop-panel.invariant.members ∙ length-replicate {A = List Choice} c.loop-panel.panel [] in
    let places = ap length (c.loop-panel.invariant.places ∙ whole) ∙ many in
    record {
      few = c.requires;
      rooms = c.loop-panel.invariant.rooms;
      memory =
          let t = c.args.tables.now in
          let each : c.loop-panel.panel ≡ length t.panels = omega (arith, c.panels-panels.ensures.count) in
          let all_given = c.loop-panel.invariant.given (omega (arith, c.panels-panels.ensures.tables.panel_count.0)) in
          let last : counters_before t c.loop-panel.panel ≡ counters_before t (length t.panels) = ap (counters_before t) each in
          omega (arith, c.loop-panel.invariant.memory, bags);
      bags_reserved = omega (arith, c.loop-panel.invariant.bags_room);
      places_reserved = omega (arith, c.loop-panel.invariant.places_room, c.panels-panels.ensures.count);
    }

pub returns : goal.returns
returns c =
    let voters : ℕ = c.args.voters in
    let t = c.args.tables.now in
    let all : List ℕ = places_of t in
    let many : length all ≡ length t.panels = length-map t.panels places_in in
    let whole : take c.loop-panel.panel all ≡ all = take_all c.loop-panel.panel all (omega (arith, c.panels-panels.ensures.count)) in
    let each : c.loop-panel.panel ≡ length t.panels = omega (arith, c.panels-panels.ensures.count) in
    let of_bags : List (List Choice) → List ℕ → RdvData = λ m p. record { bags = m; voters = voters; places = p } in
    ap (λ (m : List (List Choice)). of_bags m c.loop-panel.places.items) c.loop-panel.invariant.members
    ∙ ap (λ (n : ℕ). of_bags (replicate n []) c.loop-panel.places.items) each
    ∙ ap (λ (p : List ℕ). of_bags (replicate (length t.panels) []) p) (c.loop-panel.invariant.places ∙ whole)

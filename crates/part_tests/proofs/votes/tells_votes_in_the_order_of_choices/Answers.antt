use Rattle.std.proofs.Common.{◌≡◌, ◌<◌, true, List, [], ◌∷◌, length, Option, slice_get, option_map, unwrap_or, IsSomeAnd, sym, ap, subst, ◌∙◌, arith, rules}
use Rattle.std.proofs.lemmas.List.{length-replicate}
use Rattle.election_tables.specs.TablesData.{TablesData}
use Rattle.election_tables.specs.declared.tables.panels.Panel.{Panel}
use Rattle.election_tables.proofs.PlacesOfPanels.{few_places}
use Rattle.vote_kinds.specs.declared.choice.Choice.{Choice}
use Rattle.vote_kinds.specs.Ballot.{BallotLine, line_for, line_of, no_panel, is_choice}
use Rattle.vote_kinds.proofs.Lookups.{by_panel_get}
use Rattle.vote_record.specs.RdvData.{RdvData, IsVote, room_at}
use Rattle.vote_record.proofs.Bags.{length-with_vote}
use Rattle.vote_record.proofs.Empty.{empty_room}
use Rattle.part_tests.proofs.votes.tells_votes_in_the_order_of_choices.Goals as goal

is_of_first : (t : TablesData) (panels : List Panel) (choice : Choice) → 0 < length panels → is_choice (line_for t 0 (unwrap_or (slice_get panels 0) no_panel)) choice ≡ true
    → IsSomeAnd (option_map (line_for t 0) (slice_get panels 0)) (λ line. is_choice line choice ≡ true)
is_of_first t [] choice lt is = absurd (omega arith)
is_of_first t (p ∷ panels) choice lt is = is

-- a choice of the first panel's line is a vote of that panel
is_vote : (t : TablesData) (choice : Choice) → 0 < length t.panels → is_choice (line_of t 0) choice ≡ true → IsVote t 0 choice
is_vote t choice lt is =
    subst (λ (found : Option BallotLine). IsSomeAnd found (λ line. is_choice line choice ≡ true)) (sym (by_panel_get t 0)) (is_of_first t t.panels choice lt is)

pub loop-choice-init : goal.loop-choice-init
loop-choice-init g c =
    let t = c.in_ok-tables.tables in
    let three : length t.panels ≡ 3 = omega arith in
    record {
      panels = ap (λ (r : RdvData). length r.bags) c.in_ok-votes.ensures ∙ length-replicate {A = List Choice} (length t.panels) [] ∙ three;
      room =
          let all = ap (λ (r : RdvData). room_at r 0) c.in_ok-votes.ensures ∙ empty_room t 6 0 in
          omega (arith, all, (few_places t c.panels.ensures.tables 0 (omega arith)).0);
    }

pub add-requires-clause-choice : goal.add-requires-clause-choice
add-requires-clause-choice g c =
    is_vote c.in_ok-tables.tables _ (omega arith) (search rules)

pub loop-choice-preserved : goal.loop-choice-preserved
loop-choice-preserved g c =
    record {
      panels = ap (λ (r : RdvData). length r.bags) c.add.ensures ∙ length-with_vote 0 _ c.loop-choice.votes.bags ∙ c.loop-choice.invariant.panels;
      room = let same = ap (λ (r : RdvData). room_at r 0) c.add.ensures in omega (arith, same, c.loop-choice.invariant.room);
    }

-- Worked rows of the steps of a poll and of its encoding
use Rattle.std.proofs.Common.{◌≡◌, ℕ, true, false, List, [], ◌∷◌, ◌++◌, map, replicate, Some, None, refl}
use Rattle.std.specs.List.{flat_map}
use Rattle.vote_kinds.specs.declared.choice.Choice.{Choice}
use Rattle.vote_kinds.specs.declared.choice.Choice.TheVariants as choice
use Rattle.urna_base.specs.Moment.{is_date, is_moment}
use Rattle.election_tables.specs.Offices.{row_of}
use Rattle.election_tables.specs.TablesData.{TablesData}
use Rattle.election_tables.specs.declared.office.Kind.TheVariants as kind
use Rattle.vote_kinds.specs.Ballot.{BallotLine, lines_by_panel, choices_of}
use Rattle.turnout.specs.declared.phase.Phase.TheVariants as phase
use Rattle.vote_record.specs.Counters.{bag_with, counts_of}
use Rattle.image_codec.specs.Encoding.{bag_bytes, eight_places, turnout_bytes, written, written1}
use Rattle.image_codec.specs.Numbers.{counters_in}
use Rattle.image_codec.specs.Valid.{AllHaveVoted}
use Rattle.image_codec.specs.DecodedHead.{has_counts, has_no_more, marks_in, phase_in, phase_with}
use Rattle.image_codec.specs.DecodedVotes.{bags_in, bag_in, votes_in, vote_in}
use Rattle.image_codec.specs.DecodedCounters.{bag_counted, bags_counted}
use Rattle.image_codec.specs.Decoded.{bags_of, bags_second, decoded}
use Rattle.image_codec.specs.State.{State, rank_of, sealed_at, with_ballot, with_votes, filled_up}

councillor : BallotLine
councillor = record { panel = 0; code = 13; digits = 5; proportional = true; places = 1; candidates = 13001 ∷ 45001 ∷ []; parties = 13 ∷ 45 ∷ [] }

mayor : BallotLine
mayor = record { panel = 1; code = 11; digits = 2; proportional = false; places = 1; candidates = 13 ∷ 45 ∷ []; parties = 13 ∷ 45 ∷ [] }

-- two panels, and the second of two voters came
after_one : State
after_one = record {
  phase = phase.Polling 20261004080000;
  came = false ∷ true ∷ [];
  places = 1 ∷ 1 ∷ [];
  bags = (choice.Party 13 ∷ []) ∷ (choice.Nominal 45 ∷ []) ∷ [];
}

rank_is_two : rank_of after_one ≡ 2
unfolding after_one
rank_is_two = refl

-- the first voter chooses a candidate, and then blank
both_came : with_ballot (councillor ∷ mayor ∷ []) after_one 0 (choice.Nominal 45001 ∷ choice.Blank ∷ []) ≡ record {
  phase = phase.Polling 20261004080000;
  came = true ∷ true ∷ [];
  places = 1 ∷ 1 ∷ [];
  bags = (choice.Nominal 45001 ∷ choice.Party 13 ∷ []) ∷ (choice.Nominal 45 ∷ choice.Blank ∷ []) ∷ [];
}
unfolding after_one councillor mayor
both_came = refl

sealed_rank : rank_of (sealed_at after_one 20261004170000) ≡ 3
unfolding after_one
sealed_rank = refl

-- a voter who stops after one panel
null_is_filled_up : filled_up (councillor ∷ mayor ∷ []) (choice.Blank ∷ []) ≡ choice.Blank ∷ choice.Null ∷ []
unfolding councillor mayor
null_is_filled_up = refl

-- the bytes of a sealed poll with two panels, of three voters of whom the first and the third came
two_came : State
two_came = record {
  phase = phase.Sealed 20261004080000 20261004170000;
  came = true ∷ false ∷ true ∷ [];
  places = 1 ∷ 1 ∷ [];
  bags = (choice.Nominal 13001 ∷ choice.Party 45 ∷ []) ∷ (choice.Nominal 45 ∷ choice.Blank ∷ []) ∷ [];
}

-- the two bags behind the number of panels
bags_of_two : List ℕ
bags_of_two =
    0 ∷ 0 ∷ 0 ∷ 2 ∷ 1 ∷ 0 ∷ 0 ∷ 50 ∷ 201 ∷ 2 ∷ 0 ∷ 0 ∷ 0 ∷ 45
    ∷ 0 ∷ 0 ∷ 0 ∷ 2 ∷ 1 ∷ 0 ∷ 0 ∷ 0 ∷ 45 ∷ 3 ∷ 0 ∷ 0 ∷ 0 ∷ 0 ∷ []

-- in the first version
two_written : written1 two_came
    ≡ (1 ∷ 2 ∷ 0 ∷ 0 ∷ 18 ∷ 109 ∷ 97 ∷ 243 ∷ 115 ∷ 128 ∷ 0 ∷ 0 ∷ 18 ∷ 109 ∷ 97 ∷ 244 ∷ 211 ∷ 16 ∷ 0 ∷ 0 ∷ 0 ∷ 2 ∷ 160 ∷ replicate 74 0) ++ 2 ∷ bags_of_two
unfolding two_came bags_of_two written1 turnout_bytes eight_places
two_written = refl

-- and they are read
two_read : bags_in (councillor ∷ mayor ∷ []) 2 bags_of_two ≡ Some two_came.bags
unfolding two_came bags_of_two councillor mayor bags_in bag_in votes_in vote_in
two_read = refl

-- not in another order, nor with a party's vote for the mayor, nor with a byte behind them
wrong_order : bags_in (mayor ∷ []) 2 (0 ∷ 0 ∷ 0 ∷ 2 ∷ 3 ∷ 0 ∷ 0 ∷ 0 ∷ 0 ∷ 1 ∷ 0 ∷ 0 ∷ 0 ∷ 45 ∷ []) ≡ None
unfolding mayor bags_in bag_in votes_in vote_in
wrong_order = refl

party_for_mayor : bags_in (mayor ∷ []) 1 (0 ∷ 0 ∷ 0 ∷ 1 ∷ 2 ∷ 0 ∷ 0 ∷ 0 ∷ 45 ∷ []) ≡ None
unfolding mayor bags_in bag_in votes_in vote_in
party_for_mayor = refl

byte_behind : bags_in (mayor ∷ []) 0 (0 ∷ 0 ∷ 0 ∷ 0 ∷ 1 ∷ []) ≡ None
unfolding mayor bags_in bag_in votes_in vote_in
byte_behind = refl

-- a panel in which each voter has two votes: two voters came, so the bag has four
senator : BallotLine
senator = record { panel = 0; code = 5; digits = 3; proportional = false; places = 2; candidates = 101 ∷ 102 ∷ 201 ∷ []; parties = 10 ∷ 20 ∷ [] }

four_votes : List Choice
four_votes = choice.Nominal 101 ∷ choice.Nominal 101 ∷ choice.Nominal 201 ∷ choice.Null ∷ []

two_votes_each : bags_in (senator ∷ []) 2 (bag_bytes four_votes) ≡ Some (four_votes ∷ [])
unfolding senator four_votes bags_in bag_in votes_in vote_in
two_votes_each = refl

full_of_two : AllHaveVoted 2 (2 ∷ 1 ∷ []) (four_votes ∷ (choice.Blank ∷ choice.Null ∷ []) ∷ [])
unfolding four_votes
full_of_two = refl

-- three votes of two voters are none
one_missing : bags_in (senator ∷ []) 2 (bag_bytes (choice.Nominal 101 ∷ choice.Blank ∷ choice.Null ∷ [])) ≡ None
unfolding senator bags_in bag_in votes_in vote_in
one_missing = refl

-- the ballot has two lines of that panel, and a voter's two votes go into its bag
two_lines : flat_map (λ line. replicate line.places line) (senator ∷ mayor ∷ []) ≡ senator ∷ senator ∷ mayor ∷ []
unfolding senator mayor
two_lines = refl

two_more : with_votes (senator ∷ senator ∷ []) (choice.Nominal 201 ∷ choice.Nominal 101 ∷ []) (four_votes ∷ [])
    ≡ (choice.Nominal 101 ∷ choice.Nominal 101 ∷ choice.Nominal 101 ∷ choice.Nominal 201 ∷ choice.Nominal 201 ∷ choice.Null ∷ []) ∷ []
unfolding senator four_votes
two_more = refl

-- The second version

-- one office with two candidates
tables_b : TablesData
tables_b = record {
  process = 7;
  date = 20261004;
  turn = 1;
  panels = record {
    office = record { code = 11; digits = 2; kind = kind.Absolute; seats = 1 };
    candidates = record { number = 13; birth = 19600303; name = 67 ∷ [] } ∷ record { number = 45; birth = 19751212; name = 68 ∷ [] } ∷ [];
  } ∷ [];
  parties = record { number = 13; name = 80 ∷ 65 ∷ [] } ∷ record { number = 45; name = 80 ∷ 66 ∷ [] } ∷ [];
  sections = record { zone = 1; number = 42; voters = 1 } ∷ [];
  federations = [];
  digest = [];
}

-- its one voter chose candidate 13
one_came : State
one_came = record { phase = phase.Polling 20261004080000; came = true ∷ []; places = 1 ∷ []; bags = (choice.Nominal 13 ∷ []) ∷ [] }

one_rank : rank_of one_came ≡ 2
unfolding one_came
one_rank = refl

-- the counters of candidates 13 and 45, of blank and of null
one_counted : List ℕ
one_counted = 0 ∷ 0 ∷ 0 ∷ 1 ∷ 0 ∷ 0 ∷ 0 ∷ 0 ∷ 0 ∷ 0 ∷ 0 ∷ 0 ∷ 0 ∷ 0 ∷ 0 ∷ 0 ∷ []

one_written : written tables_b one_came
    ≡ (2 ∷ 1 ∷ 0 ∷ 0 ∷ 18 ∷ 109 ∷ 97 ∷ 243 ∷ 115 ∷ 128 ∷ 0 ∷ 0 ∷ 0 ∷ 0 ∷ 0 ∷ 0 ∷ 0 ∷ 0 ∷ 0 ∷ 0 ∷ 0 ∷ 1 ∷ 128 ∷ replicate 74 0) ++ 1 ∷ replicate 414 0 ++ one_counted
unfolding tables_b one_came one_counted written turnout_bytes eight_places lines_by_panel
one_written = refl

-- a whole body of this head
one_body : ℕ → List ℕ → List ℕ
one_body of_version behind =
    (of_version ∷ 1 ∷ 0 ∷ 0 ∷ 18 ∷ 109 ∷ 97 ∷ 243 ∷ 115 ∷ 128 ∷ 0 ∷ 0 ∷ 0 ∷ 0 ∷ 0 ∷ 0 ∷ 0 ∷ 0 ∷ 0 ∷ 0 ∷ 0 ∷ 1 ∷ 128 ∷ replicate 74 0) ++ 1 ∷ behind

-- the bag of the first version
one_vote : List ℕ
one_vote = 0 ∷ 0 ∷ 0 ∷ 1 ∷ 1 ∷ 0 ∷ 0 ∷ 0 ∷ 13 ∷ []

-- the state is read of both versions
both_read : map (decoded tables_b 1) (
    one_body 2 (replicate 414 0 ++ one_counted ++ replicate 65008 0)
    ∷ one_body 1 (one_vote ++ replicate 65429 0)
    ∷ []
    ) ≡ Some one_came ∷ Some one_came ∷ []
unfolding row_of tables_b one_came one_counted one_vote one_body lines_by_panel decoded phase_in has_counts marks_in has_no_more phase_with is_moment is_date bags_of bags_second bags_counted bag_counted bags_in bag_in votes_in vote_in counters_in
both_read = refl

-- It isn't of another version, nor with the counters in the first or the vote in the second, nor with two votes of the one voter, nor with
-- a byte before the counters or behind the last.
none_read : map (decoded tables_b 1) (
    one_body 9 (replicate 414 0 ++ one_counted ++ replicate 65008 0)
    ∷ one_body 1 (replicate 414 0 ++ one_counted ++ replicate 65008 0)
    ∷ one_body 2 (one_vote ++ replicate 65429 0)
    ∷ one_body 2 (replicate 414 0 ++ 0 ∷ 0 ∷ 0 ∷ 2 ∷ replicate 65020 0)
    ∷ one_body 2 (replicate 413 0 ++ 1 ∷ one_counted ++ replicate 65008 0)
    ∷ one_body 2 (replicate 414 0 ++ one_counted ++ 1 ∷ replicate 65007 0)
    ∷ []
    ) ≡ replicate 6 None
unfolding row_of tables_b one_counted one_vote one_body lines_by_panel decoded phase_in has_counts marks_in has_no_more phase_with is_moment is_date bags_of bags_second bags_counted bag_counted bags_in bag_in votes_in vote_in counters_in
none_read = refl

-- a proportional office has counters of its candidates, of the parties, of blank and of null
in_order : choices_of councillor ≡ choice.Nominal 13001 ∷ choice.Nominal 45001 ∷ choice.Party 13 ∷ choice.Party 45 ∷ choice.Blank ∷ choice.Null ∷ []
unfolding councillor
in_order = refl

four_counted : counts_of (choices_of councillor) (choice.Nominal 13001 ∷ choice.Nominal 13001 ∷ choice.Party 45 ∷ choice.Null ∷ []) ≡ 2 ∷ 0 ∷ 0 ∷ 1 ∷ 0 ∷ 1 ∷ []
unfolding councillor
four_counted = refl

as_bag : bag_with (choices_of councillor) (2 ∷ 0 ∷ 0 ∷ 1 ∷ 0 ∷ 1 ∷ []) ≡ choice.Nominal 13001 ∷ choice.Nominal 13001 ∷ choice.Party 45 ∷ choice.Null ∷ []
unfolding councillor
as_bag = refl

-- the counters of two voters with two votes each count four, and neither three nor a byte behind them is read
two_each : bags_counted (senator ∷ []) 2 (0 ∷ 0 ∷ 0 ∷ 2 ∷ 0 ∷ 0 ∷ 0 ∷ 0 ∷ 0 ∷ 0 ∷ 0 ∷ 1 ∷ 0 ∷ 0 ∷ 0 ∷ 0 ∷ 0 ∷ 0 ∷ 0 ∷ 1 ∷ []) ≡ Some (four_votes ∷ [])
unfolding senator four_votes bags_counted bag_counted counters_in
two_each = refl

one_too_few : bags_counted (senator ∷ []) 2 (0 ∷ 0 ∷ 0 ∷ 2 ∷ 0 ∷ 0 ∷ 0 ∷ 0 ∷ 0 ∷ 0 ∷ 0 ∷ 1 ∷ 0 ∷ 0 ∷ 0 ∷ 0 ∷ 0 ∷ 0 ∷ 0 ∷ 0 ∷ []) ≡ None
unfolding senator bags_counted bag_counted counters_in
one_too_few = refl

byte_behind_counters : bags_counted (senator ∷ []) 2 (0 ∷ 0 ∷ 0 ∷ 2 ∷ 0 ∷ 0 ∷ 0 ∷ 0 ∷ 0 ∷ 0 ∷ 0 ∷ 1 ∷ 0 ∷ 0 ∷ 0 ∷ 0 ∷ 0 ∷ 0 ∷ 0 ∷ 1 ∷ 7 ∷ []) ≡ None
unfolding senator bags_counted bag_counted counters_in
byte_behind_counters = refl

use Rattle.std.proofs.Common.{◌++◌, ◌≤◌, ◌∙◌, length, map, take, cond, ap, List, [], ℕ, arith}
use Rattle.std.specs.Int.{w32, to_be_bytes}
use Rattle.std.proofs.lemmas.List.{length-map}
use Rattle.vote_kinds.specs.declared.choice.Choice.{Choice}
use Rattle.vote_kinds.specs.declared.choice.Choice.TheVariants as choice
use Rattle.vote_kinds.specs.Ballot.{BallotLine, line_of}
use Rattle.vote_record.specs.Bag.{bag_at, count_of}
use Rattle.image_codec.specs.Encoding.{counts_bytes}
use Rattle.vote_kinds.proofs.ChoicePlaces.{choices_many}
use Rattle.image_codec.proofs.Lengths.{length-counter_bytes}
use Rattle.image_codec.proofs.Written.{counts_in_turn, parties_taken}
use Rattle.image_codec.proofs.codec.writing.put_panel.Goals as goal

pub put_candidates-end-requires-clause-room : goal.put_candidates-end-requires-clause-room
put_candidates-end-requires-clause-room c =
    omega (arith, choices_many c.args.tables.now c.args.panel, length-counter_bytes (line_of c.args.tables.now c.args.panel) (bag_at c.args.votes.now.bags c.args.panel), c.requires.room)

pub put_parties-end-requires-clause-room : goal.put_parties-end-requires-clause-room
put_parties-end-requires-clause-room c =
    omega (
      arith,
      choices_many c.args.tables.now c.args.panel,
      length-counter_bytes (line_of c.args.tables.now c.args.panel) (bag_at c.args.votes.now.bags c.args.panel),
      c.requires.room,
      c.chosen_parties-parties.ensures.count,
      c.put_candidates-end.ensures.end,
    )

pub put_count-end-requires-clause-room : goal.put_count-end-requires-clause-room
put_count-end-requires-clause-room c =
    omega (
      arith,
      choices_many c.args.tables.now c.args.panel,
      length-counter_bytes (line_of c.args.tables.now c.args.panel) (bag_at c.args.votes.now.bags c.args.panel),
      c.requires.room,
      c.chosen_parties-parties.ensures.count,
      c.put_candidates-end.ensures.end,
      c.put_parties-end.ensures.end,
    )

pub put_count-requires-clause-room : goal.put_count-requires-clause-room
put_count-requires-clause-room c =
    omega (
      arith,
      choices_many c.args.tables.now c.args.panel,
      length-counter_bytes (line_of c.args.tables.now c.args.panel) (bag_at c.args.votes.now.bags c.args.panel),
      c.requires.room,
      c.chosen_parties-parties.ensures.count,
      c.put_candidates-end.ensures.end,
      c.put_parties-end.ensures.end,
      c.put_count-end.ensures.end,
    )

pub returns-clause-end : goal.returns-clause-end
returns-clause-end c =
    omega (
      arith,
      choices_many c.args.tables.now c.args.panel,
      length-counter_bytes (line_of c.args.tables.now c.args.panel) (bag_at c.args.votes.now.bags c.args.panel),
      c.chosen_parties-parties.ensures.count,
      c.put_candidates-end.ensures.end,
      c.put_parties-end.ensures.end,
      c.put_count-end.ensures.end,
      c.put_count.ensures.end,
    )

pub returns-clause-text : goal.returns-clause-text
returns-clause-text c =
    let t = c.args.tables.now in
    let line : BallotLine = line_of t c.args.panel in
    let bag : List Choice = bag_at c.args.votes.now.bags c.args.panel in
    let start : List ℕ = take c.args.at c.args.into.now in
    let nominal : List Choice = map (λ n. choice.Nominal n) line.candidates in
    let party : List Choice = cond line.proportional (map (λ n. choice.Party n) line.parties) [] in
    let many : length line.parties ≤ length t.parties = omega (arith, length-map t.parties (λ q. q.number)) in
    let parties = ap (λ (k : ℕ). map (λ n. choice.Party n) (take k line.parties)) c.chosen_parties-parties.ensures.count ∙ parties_taken line.proportional line.parties (length t.parties) many in
    let blank : List ℕ = to_be_bytes w32 (count_of choice.Blank bag) in
    let null : List ℕ = to_be_bytes w32 (count_of choice.Null bag) in
    c.put_count.ensures.text
    ∙ ap (λ (l : List ℕ). l ++ null)
    (c.put_count-end.ensures.text
    ∙ ap (λ (l : List ℕ). l ++ blank)
    (c.put_parties-end.ensures.text
    ∙ ap (λ (l : List ℕ). l ++ counts_bytes (map (λ n. choice.Party n) (take c.chosen_parties-parties.result line.parties)) bag) c.put_candidates-end.ensures.text
    ∙ ap (λ (l : List Choice). (start ++ counts_bytes nominal bag) ++ counts_bytes l bag) parties))
    ∙ counts_in_turn nominal party bag start

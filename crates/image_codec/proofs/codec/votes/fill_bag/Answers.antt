use Rattle.std.proofs.Common.{◌≡◌, ℕ, ◌*◌, true, [], List, length, get_or, drop, slice_set, unwrap_or, IsSomeAnd, is_some, Option, sym, ap, subst, ◌∙◌, arith}
use Rattle.std.proofs.lemmas.List.{drop-drop, take_all}
use Rattle.std.proofs.lemmas.Option.{same_Some}
use Rattle.vote_kinds.specs.declared.choice.Choice.{Choice}
use Rattle.vote_kinds.specs.declared.choice.Choice.TheVariants as choice
use Rattle.vote_kinds.specs.Ballot.{BallotLine, line_of, is_choice}
use Rattle.vote_record.specs.Bag.{bag_at}
use Rattle.vote_record.specs.RdvData.{RdvData, room_at, with_vote_in}
use Rattle.vote_kinds.proofs.Lookups.{line_found}
use Rattle.image_codec.specs.DecodedVotes.{bag_in}
use Rattle.image_codec.proofs.Fills.{with_bags}
use Rattle.image_codec.proofs.FillVotes.{vote_of_bag, bag_facts, all_get, first_none, first_more, first_count}
use Rattle.image_codec.proofs.codec.votes.fill_bag.Goals as goal

pub loop-init : goal.loop-init
loop-init c =
    let bag : List Choice = unwrap_or (bag_in (line_of c.args.tables.now c.args.panel) c.args.count c.args.bytes.now) [] in
    record {
      votes = ap (with_bags c.args.votes.now) (first_none c.args.votes.now.bags c.args.panel bag c.requires.none);
      rest = c.split_at.ensures.back;
    }

pub unwrap-requires : goal.unwrap-requires
unwrap-requires c =
    let line : BallotLine = line_of c.args.tables.now c.args.panel in
    ap (λ (o : Option Choice). is_some o)
    (c.vote_at.ensures ∙ vote_of_bag line c.args.count c.loop.counter c.args.bytes.now c.loop.rest.now choice.Null c.loop-test.true c.requires.bag c.loop.invariant.rest)

pub add-requires-clause-choice : goal.add-requires-clause-choice
add-requires-clause-choice c =
    let line : BallotLine = line_of c.args.tables.now c.args.panel in
    let bag : List Choice = unwrap_or (bag_in line c.args.count c.args.bytes.now) [] in
    let facts = bag_facts line c.args.count c.args.bytes.now (λ i. omega (arith, c.type_inv.bytes i)) c.requires.bytes c.requires.bag in
    let read = vote_of_bag line c.args.count c.loop.counter c.args.bytes.now c.loop.rest.now choice.Null c.loop-test.true c.requires.bag c.loop.invariant.rest in
    let same : c.unwrap.result ≡ get_or bag c.loop.counter choice.Null = same_Some c.unwrap.result (get_or bag c.loop.counter choice.Null) (sym c.unwrap.ensures ∙ c.vote_at.ensures ∙ read) in
    let vote : is_choice line c.unwrap.result ≡ true =
    ap (is_choice line) same ∙ all_get (λ d. is_choice line d ≡ true) bag c.loop.counter choice.Null facts.choices (omega (arith, facts.many)) in
    subst (λ (o : Option BallotLine). IsSomeAnd o (λ l. is_choice l c.unwrap.result ≡ true)) (sym (line_found c.args.tables.now c.args.panel c.requires.panel)) vote

pub add-requires-clause-room : goal.add-requires-clause-room
add-requires-clause-room c =
    let line : BallotLine = line_of c.args.tables.now c.args.panel in
    let bag : List Choice = unwrap_or (bag_in line c.args.count c.args.bytes.now) [] in
    let facts = bag_facts line c.args.count c.args.bytes.now (λ i. omega (arith, c.type_inv.bytes i)) c.requires.bytes c.requires.bag in
    let votes = ap (λ (r : RdvData). length (bag_at r.bags c.args.panel)) c.loop.invariant.votes in
    let room = ap (λ (r : RdvData). room_at r c.args.panel) c.loop.invariant.votes in
    let so_far = first_count c.args.votes.now.bags c.args.panel c.loop.counter bag (omega (arith, c.requires.panels, c.requires.panel)) (omega (arith, facts.many)) in
    omega (arith, c.requires.room, c.loop-test.true)

pub loop-preserved : goal.loop-preserved
loop-preserved c =
    let line : BallotLine = line_of c.args.tables.now c.args.panel in
    let bag : List Choice = unwrap_or (bag_in line c.args.count c.args.bytes.now) [] in
    let i : ℕ = c.loop.counter in
    let facts = bag_facts line c.args.count c.args.bytes.now (λ k. omega (arith, c.type_inv.bytes k)) c.requires.bytes c.requires.bag in
    let read = vote_of_bag line c.args.count i c.args.bytes.now c.loop.rest.now choice.Null c.loop-test.true c.requires.bag c.loop.invariant.rest in
    let same : c.unwrap.result ≡ get_or bag i choice.Null = same_Some c.unwrap.result (get_or bag i choice.Null) (sym c.unwrap.ensures ∙ c.vote_at.ensures ∙ read) in
    record {
      votes =
          c.add.ensures ∙ ap (with_vote_in c.args.panel c.unwrap.result) c.loop.invariant.votes
          ∙ ap (with_bags c.args.votes.now) (first_more c.args.votes.now.bags c.args.panel i bag c.unwrap.result choice.Null facts.in_order (omega (arith, facts.many)) same);
      rest =
          c.split_at-in-loop.ensures.back ∙ ap (λ (r : List ℕ). drop 5 r) c.loop.invariant.rest ∙ drop-drop 5 (5 * i) (drop 4 c.args.bytes.now)
          ∙ ap (λ (k : ℕ). drop k (drop 4 c.args.bytes.now)) (omega arith);
    }

pub returns : goal.returns
returns c =
    let line : BallotLine = line_of c.args.tables.now c.args.panel in
    let bag : List Choice = unwrap_or (bag_in line c.args.count c.args.bytes.now) [] in
    let facts = bag_facts line c.args.count c.args.bytes.now (λ i. omega (arith, c.type_inv.bytes i)) c.requires.bytes c.requires.bag in
    c.loop.invariant.votes
    ∙ ap (λ (b : List Choice). with_bags c.args.votes.now (slice_set c.args.votes.now.bags c.args.panel b)) (take_all c.loop.counter bag (omega (arith, facts.many, c.loop-test.false)))

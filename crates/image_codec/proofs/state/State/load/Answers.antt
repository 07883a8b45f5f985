use Rattle.std.proofs.Common.{◌≡◌, ℕ, length, sym, ap, subst, ◌∙◌, arith}
use Rattle.election_tables.specs.TablesData.{places_of}
use Rattle.vote_record.specs.RdvData.{RdvData}
use Rattle.turnout.specs.declared.phase.Phase.TheVariants as phase
use Rattle.image_codec.specs.State.{State}
use Rattle.image_codec.specs.Encoding.{IsEncoding}
use Rattle.image_codec.specs.DecodedHead.{marks_in, turnout_of}
use Rattle.image_codec.specs.Decoded.{decoded}
use Rattle.image_codec.proofs.Decoding.{none_decoded}
use Rattle.image_codec.proofs.Loaded.{ready_marks, ready_bags, room_for_all, bags_read, read_encoding}
use Rattle.image_codec.proofs.Valid.{state_of}
use Rattle.image_codec.proofs.WholeBody.{none_known}
use Rattle.image_codec.proofs.state.State.load.Goals as goal

pub fill_turnout-requires-clause-nobody : goal.fill_turnout-requires-clause-nobody
fill_turnout-requires-clause-nobody c =
    let ready : c.self.inside.phase ≡ phase.Ready = ap (λ (s : State). s.phase) c.self.view_is ∙ c.requires.ready in
    ready_marks c.self.inside.phase c.self.inside.turnout c.self.inside.votes c.self.invariant ready

pub fill_votes-requires-clause-none : goal.fill_votes-requires-clause-none
fill_votes-requires-clause-none c =
    let ready : c.self.inside.phase ≡ phase.Ready = ap (λ (s : State). s.phase) c.self.view_is ∙ c.requires.ready in
    let places : c.self.inside.votes.places ≡ places_of c.args.tables.now = ap (λ (s : State). s.places) c.self.view_is ∙ c.requires.places in
    ready_bags c.args.tables.now c.self.inside.phase c.self.inside.turnout c.self.inside.votes c.self.invariant ready places

pub fill_votes-requires-clause-bags : goal.fill_votes-requires-clause-bags
fill_votes-requires-clause-bags c =
    bags_read c.args.tables.now c.voters.result c.args.bytes.now c.in-Some.head c.in-Some.ensures.head

pub fill_votes-requires-clause-room : goal.fill_votes-requires-clause-room
fill_votes-requires-clause-room c =
    let places : c.self.inside.votes.places ≡ places_of c.args.tables.now = ap (λ (s : State). s.places) c.self.view_is ∙ c.requires.places in
    room_for_all c.args.tables.now c.self.inside.votes (length c.self.inside.turnout) c.in-Some.head.came c.self.invariant.1 places
    (omega (arith, c.in-Some.ensures.few, c.voters.ensures.count))

pub returns-in-Some-clause-loaded : goal.returns-in-Some-clause-loaded
returns-in-Some-clause-loaded c = λ _.
    let voters : ℕ = c.voters.result in
    let marks : c.fill_turnout.new.turnout ≡ marks_in voters (turnout_of c.args.bytes.now) =
    c.fill_turnout.ensures ∙ ap (λ (n : ℕ). marks_in n (turnout_of c.args.bytes.now)) (sym c.voters.ensures.count) in
    let places : c.self.inside.votes.places ≡ places_of c.args.tables.now = ap (λ (s : State). s.places) c.self.view_is ∙ c.requires.places in
    let roll : voters ≡ length c.args.self.now.came = c.voters.ensures.count ∙ ap (λ (s : State). length s.came) c.self.view_is in
    subst (λ (n : ℕ). IsEncoding c.args.tables.now n (state_of c.in-Some.head.phase c.fill_turnout.new.turnout c.fill_votes.new.votes) c.args.bytes.now) roll
    (read_encoding c.args.tables.now voters c.args.bytes.now c.in-Some.head c.fill_turnout.new.turnout c.self.inside.votes c.fill_votes.new.votes
    c.in-Some.ensures.tables c.voters.ensures.few c.in-Some.ensures.head marks places c.fill_votes.ensures)

pub invariant_of-self : goal.invariant_of-self
invariant_of-self c =
    let voters : ℕ = c.voters.result in
    let marks : c.fill_turnout.new.turnout ≡ marks_in voters (turnout_of c.args.bytes.now) =
    c.fill_turnout.ensures ∙ ap (λ (n : ℕ). marks_in n (turnout_of c.args.bytes.now)) (sym c.voters.ensures.count) in
    let places : c.self.inside.votes.places ≡ places_of c.args.tables.now = ap (λ (s : State). s.places) c.self.view_is ∙ c.requires.places in
    let of = read_encoding c.args.tables.now voters c.args.bytes.now c.in-Some.head c.fill_turnout.new.turnout c.self.inside.votes c.fill_votes.new.votes
    c.in-Some.ensures.tables c.voters.ensures.few c.in-Some.ensures.head marks places c.fill_votes.ensures in
    (of.state.valid, ap (λ (r : RdvData). r.voters) c.fill_votes.ensures ∙ c.self.invariant.1 ∙ sym (of.state.roll ∙ c.voters.ensures.count))

pub returns-in-None-clause-none : goal.returns-in-None-clause-none
returns-in-None-clause-none c = λ _ s of.
    let roll : length c.args.self.now.came ≡ c.voters.result = sym (c.voters.ensures.count ∙ ap (λ (x : State). length x.came) c.self.view_is) in
    none_decoded c.args.tables.now c.voters.result c.args.bytes.now c.in-None.ensures.tables c.voters.ensures.few
    (none_known (decoded c.args.tables.now c.voters.result c.args.bytes.now) c.in-None.ensures.head) s
    (subst (λ (n : ℕ). IsEncoding c.args.tables.now n s c.args.bytes.now) roll of)

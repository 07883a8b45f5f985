use Rattle.std.proofs.Common.{◌≡◌, ℕ, List, [], ◌∷◌, length, refl, sym, ap, arith}
use Rattle.std.proofs.lemmas.List.{length-replicate}
use Rattle.vote_kinds.specs.declared.choice.Choice.{Choice}
use Rattle.vote_kinds.specs.declared.choice.Choice.TheVariants as choice
use Rattle.vote_kinds.specs.Ballot.{BallotLine, ballot_lines}
use Rattle.vote_kinds.proofs.Lookups.{lines_length}
use Rattle.image_codec.specs.State.{State, AreFirst}
use Rattle.image_codec.proofs.Ballots.{length-with_votes}
use Rattle.report_tests.proofs.codec.check_poll.Goals as goal

first_blank : (lines : List BallotLine) → length lines ≡ 1 → AreFirst lines (choice.Blank ∷ [])
first_blank [] n = absurd (omega arith)
first_blank (l ∷ lines) n = (refl, tt)

pub ballot-requires-clause-ballot : goal.ballot-requires-clause-ballot
ballot-requires-clause-ballot g c =
    let t = c.args.tables.now in
    let one : length (ballot_lines t) ≡ 1 = omega (arith, lines_length t) in
    (first_blank (ballot_lines t) one, sym one)

pub is_sealed-requires : goal.is_sealed-requires
is_sealed-requires g c =
    let one : length c.args.tables.now.panels ≡ 1 = omega arith in
    let bags_of : State → ℕ = λ s. length s.bags in
    let ready = ap bags_of c.in_ok-state.ensures in
    let opened = ap bags_of c.begin.ensures in
    let voted = ap bags_of c.ballot.ensures in
    let sealed = ap bags_of c.seal.ensures in
    let kept = length-with_votes (ballot_lines c.args.tables.now) (choice.Blank ∷ []) c.begin.new.self.bags in
    let many = length-replicate {A = List Choice} (length c.args.tables.now.panels) [] in
    omega arith

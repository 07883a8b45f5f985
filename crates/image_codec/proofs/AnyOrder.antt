-- In whatever order the voters came, the state is the same
use Rattle.std.proofs.Common.{◌≡◌, ℕ, zero, suc, ◌<◌, Bool, true, List, [], ◌∷◌, length, get_or, slice_set, refl, sym, ap, ◌∙◌, arith}
use Rattle.std.specs.List.Sorted.{IsPermutation}
use Rattle.std.proofs.lemmas.List.Edits.{swap_is}
use Rattle.std.proofs.lemmas.List.Sorted.{IsPermutation-keeps}
use Rattle.vote_kinds.specs.declared.choice.Choice.{Choice}
use Rattle.vote_kinds.specs.Ballot.{BallotLine}
use Rattle.image_codec.specs.CodecLaws.{Ballot, with_ballots}
use Rattle.image_codec.specs.State.{State, with_ballot, with_votes}
use Rattle.image_codec.proofs.Ballots.{with_votes-swap}

marks-swap : (came : List Bool) (p q : ℕ) → slice_set (slice_set came p true) q true ≡ slice_set (slice_set came q true) p true
marks-swap [] p q = refl
marks-swap (m ∷ came) zero zero = refl
marks-swap (m ∷ came) zero (suc q) = refl
marks-swap (m ∷ came) (suc p) zero = refl
marks-swap (m ∷ came) (suc p) (suc q) = ap (λ (r : List Bool). m ∷ r) (marks-swap came p q)

-- the state after one more voter
abbrev after : List BallotLine → State → Ballot → State
after lines s b = with_ballot lines s b.place b.choices

after-swap : (lines : List BallotLine) (s : State) (a b : Ballot) → after lines (after lines s a) b ≡ after lines (after lines s b) a
after-swap lines s a b =
    let of_parts : List Bool → List (List Choice) → State = λ m v. record { phase = s.phase; came = m; places = s.places; bags = v } in
    ap (λ (m : List Bool). of_parts m (with_votes lines b.choices (with_votes lines a.choices s.bags))) (marks-swap s.came a.place b.place)
    ∙ ap (of_parts (slice_set (slice_set s.came b.place true) a.place true)) (with_votes-swap lines lines b.choices a.choices s.bags)

-- a voter who comes first may change places with a later one
first_later : (lines : List BallotLine) (s : State) (x : Ballot) (ballots : List Ballot) (j : ℕ) (d : Ballot) → j < length ballots
    → with_ballots lines (after lines s x) ballots ≡ with_ballots lines (after lines s (get_or ballots j d)) (slice_set ballots j x)
first_later lines s x [] j d lt = absurd (omega arith)
first_later lines s x (y ∷ ballots) zero d lt = ap (λ (u : State). with_ballots lines u ballots) (after-swap lines s x y)
first_later lines s x (y ∷ ballots) (suc j) d lt =
    let z : Ballot = get_or ballots j d in
    ap (λ (u : State). with_ballots lines u ballots) (after-swap lines s x y) ∙ first_later lines (after lines s y) x ballots j d (omega arith)
    ∙ ap (λ (u : State). with_ballots lines u (slice_set ballots j x)) (after-swap lines s y z)

two_change : (lines : List BallotLine) (s : State) (ballots : List Ballot) (i j : ℕ) (d : Ballot) → i < length ballots → j < length ballots
    → with_ballots lines s (slice_set (slice_set ballots i (get_or ballots j d)) j (get_or ballots i d)) ≡ with_ballots lines s ballots
two_change lines s [] i j d li lj = absurd (omega arith)
two_change lines s (x ∷ ballots) zero zero d li lj = refl
two_change lines s (x ∷ ballots) zero (suc j) d li lj = sym (first_later lines s x ballots j d (omega arith))
two_change lines s (x ∷ ballots) (suc i) zero d li lj = sym (first_later lines s x ballots i d (omega arith))
two_change lines s (x ∷ ballots) (suc i) (suc j) d li lj = two_change lines (after lines s x) ballots i j d (omega arith) (omega arith)

pub in_any_order : (lines : List BallotLine) (s : State) (ballots others : List Ballot) → IsPermutation ballots others
    → with_ballots lines s ballots ≡ with_ballots lines s others
in_any_order lines s ballots others same =
    let d : Ballot = record { place = 0; choices = [] } in
    IsPermutation-keeps ballots (λ l. with_ballots lines s ballots ≡ with_ballots lines s l) refl
    (λ l i j li lj so_far. so_far ∙ sym (two_change lines s l i j d li lj) ∙ ap (with_ballots lines s) (swap_is l i j d li lj)) others same

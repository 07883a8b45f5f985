-- How long the line of the elected is, and how it grows.
use Rattle.std.proofs.Common.{◌≡◌, ◌+◌, ◌<◌, ◌≤◌, ◌^◌, ℕ, zero, suc, List, [], ◌∷◌, ◌++◌, length, take, slice_get, Some, length-append, ap, ◌∙◌, append-nil, arith}
use Rattle.std.specs.Prelude.{sum_by}
use Rattle.std.specs.Fmt.{decimal}
use Rattle.std.proofs.lemmas.Fmt.{length-decimal-le}
use Rattle.std.proofs.lemmas.List.{take_more}
use Rattle.std.proofs.lemmas.List.Concat.{flat_map-append}
use Rattle.std.proofs.lemmas.List.Sums.{sum_by-append}
use Rattle.std.proofs.lemmas.Option.{get_or_from_slice_get, slice_get_within}
use Rattle.seat_remainders.specs.declared.outcome.PartySeats.{PartySeats}
use Rattle.rehearsal_run.specs.Lines.{elected_words, seats_words}

-- the number of a party has at most 3 digits
pub length-decimal-le_3 : (v : ℕ) → v < 2 ^ 8 → length (decimal v) ≤ 3
length-decimal-le_3 v h = length-decimal-le 3 v (omega arith) (omega arith) (omega arith)

-- and up to 9 seats have one
pub length-decimal-le_1 : (v : ℕ) → v ≤ 9 → length (decimal v) ≤ 1
length-decimal-le_1 v h = length-decimal-le 1 v (omega arith) (omega arith) (omega arith)

pub ruleset seat_lengths = (length-append, length-decimal-le_3, length-decimal-le_1)

-- the seats of parties
abbrev pub seats_in : List PartySeats → ℕ
seats_in parties = sum_by (λ p. p.seats) parties

-- one party more
one_more : (parties : List PartySeats) (i : ℕ) (p : PartySeats) → slice_get parties i ≡ Some p → take (i + 1) parties ≡ take i parties ++ p ∷ []
one_more parties i p at =
    take_more parties i p (slice_get_within parties i p at) ∙ ap (λ (y : PartySeats). take i parties ++ y ∷ []) (get_or_from_slice_get parties i p p at)

pub seats_more : (parties : List PartySeats) (i : ℕ) (p : PartySeats) → slice_get parties i ≡ Some p
    → seats_in (take (i + 1) parties) ≡ seats_in (take i parties) + p.seats
seats_more parties i p at =
    let sum = ap seats_in (one_more parties i p at) ∙ sum_by-append (λ (q : PartySeats). q.seats) (take i parties) (p ∷ []) in
    sum ∙ omega arith

pub words_more : (parties : List PartySeats) (i : ℕ) (p : PartySeats) → slice_get parties i ≡ Some p
    → elected_words (take (i + 1) parties) ≡ elected_words (take i parties) ++ seats_words p.number p.seats
words_more parties i p at =
    ap elected_words (one_more parties i p at)
    ∙ (flat_map-append (λ (q : PartySeats). seats_words q.number q.seats) (take i parties) (p ∷ [])
    ∙ ap (λ (l : List ℕ). elected_words (take i parties) ++ l) (append-nil (seats_words p.number p.seats)))

-- none of them has more than all
pub seats_within : (parties : List PartySeats) (i : ℕ) (p : PartySeats) → slice_get parties i ≡ Some p
    → seats_in (take i parties) + p.seats ≤ seats_in parties
seats_within [] i p at = absurd (cc)
seats_within (x ∷ xs) zero p at =
    let first : x ≡ p = cc in
    let same = ap (λ (y : PartySeats). y.seats) first in
    let all = sum_by-append (λ (q : PartySeats). q.seats) (x ∷ []) xs in
    omega (arith, same, all)
seats_within (x ∷ xs) (suc i) p at =
    let within = seats_within xs i p at in
    let all = sum_by-append (λ (q : PartySeats). q.seats) (x ∷ []) xs in
    let front = sum_by-append (λ (q : PartySeats). q.seats) (x ∷ []) (take i xs) in
    omega (arith, within, all, front)

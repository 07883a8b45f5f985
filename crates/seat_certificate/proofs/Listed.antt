-- The list of substitutes, one bloc after the other
use Rattle.std.proofs.Common.{◌≡◌, ℕ, ◌+◌, ◌≤◌, ◌<◌, true, nat_le, List, [], ◌∷◌, ◌++◌, length, map, take, drop, get_or, Option, Some, refl, sym, ap, ◌∙◌, subst, append-nil, append_assoc, arith}
use Rattle.std.specs.Prelude.{option_map, slice_get}
use Rattle.std.specs.List.{flat_map}
use Rattle.std.proofs.lemmas.Bool.Decides.{nat_tests}
use Rattle.std.proofs.lemmas.List.{length-take-le, map-append, take-append-drop, take_more}
use Rattle.std.specs.List.Sorted.{IsPermutation}
use Rattle.std.proofs.lemmas.List.Sorted.{IsPermutation-map}
use Rattle.std.proofs.lemmas.List.Concat.{flat_map-append}
use Rattle.std.proofs.lemmas.Option.{slice_get-get_or, slice_get-map}
use Rattle.seat_remainders.specs.declared.contest.Contestant.{Contestant}
use Rattle.seat_remainders.specs.declared.contest.Entry.{Entry}
use Rattle.seat_remainders.specs.declared.outcome.Award.{Award}
use Rattle.seat_remainders.specs.declared.outcome.PartySeats.{PartySeats}
use Rattle.seat_remainders.specs.Candidates.{in_order}
use Rattle.seat_remainders.specs.Outcome.{AreSeats, elected_of, party_seats}
use Rattle.seat_remainders.specs.Contest.{PartiesRise}
use Rattle.seat_remainders.specs.declared.contest.Contest.{Contest}
use Rattle.seat_remainders.specs.declared.outcome.Seats.{Seats as SeatsData}
use Rattle.seat_remainders.specs.Rounds.{seats_after}
use Rattle.seat_certificate.specs.declared.substitute.Substitute.{Substitute}
use Rattle.seat_certificate.specs.Substitutes.{ranked_from, substitutes_of, substitutes_with}
use Rattle.seat_remainders.proofs.Ordered.{in_order-permutation}
use Rattle.seat_remainders.proofs.Results.{candidates_at}
use Rattle.seat_certificate.proofs.Members.{some_same}

-- one candidate more
ranked-append : (bloc rank : ℕ) (xs : List Entry) (x : Entry) → ranked_from bloc rank (xs ++ x ∷ []) ≡ ranked_from bloc rank xs ++ record { bloc = bloc; rank = rank + length xs; number = x.number } ∷ []
ranked-append bloc rank [] x = ap (λ (n : ℕ). (let s : Substitute = record { bloc = bloc; rank = n; number = x.number } in s) ∷ []) (omega arith)
ranked-append bloc rank (y ∷ xs) x =
    let rest = ranked-append bloc (rank + 1) xs x in
    ap (λ (l : List Substitute). (let s : Substitute = record { bloc = bloc; rank = rank; number = y.number } in s) ∷ l)
    (rest ∙ ap (λ (n : ℕ). ranked_from bloc (rank + 1) xs ++ (let s : Substitute = record { bloc = bloc; rank = n; number = x.number } in s) ∷ []) (omega arith))

-- one bloc more
pub listed_more : (qe : ℕ) (awards : List Award) (parties : List Contestant) (i : ℕ) (p : Contestant) → i < length parties → p ≡ get_or parties i p
    → flat_map (substitutes_of qe awards) (take (i + 1) parties) ≡ flat_map (substitutes_of qe awards) (take i parties) ++ substitutes_of qe awards p
listed_more qe awards parties i p lt at =
    ap (λ (l : List Contestant). flat_map (substitutes_of qe awards) l) (take_more parties i p lt ∙ ap (λ (q : Contestant). take i parties ++ q ∷ []) (sym at))
    ∙ flat_map-append (substitutes_of qe awards) (take i parties) (p ∷ [])
    ∙ ap (λ (l : List Substitute). flat_map (substitutes_of qe awards) (take i parties) ++ l) (append-nil (substitutes_of qe awards p))

-- what the seats tell of a bloc
pub seats_of_bloc : (qe : ℕ) (awards : List Award) (parties : List Contestant) (told : List PartySeats) (i : ℕ) (p : Contestant) (q : PartySeats) → told ≡ map (party_seats qe awards) parties → i < length parties → p ≡ get_or parties i p
    → slice_get told i ≡ Some q → q.seats ≡ seats_after qe awards p
seats_of_bloc qe awards parties told i p q is lt at stands =
    let here : slice_get told i ≡ Some (party_seats qe awards p) =
    ap (λ (l : List PartySeats). slice_get l i) is ∙ slice_get-map (party_seats qe awards) parties i ∙ ap (λ (o : Option Contestant). option_map (party_seats qe awards) o) (slice_get-get_or parties i p lt ∙ ap (λ (c : Contestant). Some c) (sym at)) in
    ap (λ (s : PartySeats). s.seats) (some_same q (party_seats qe awards p) (sym stands ∙ here))

-- one more of a bloc, behind those of others
pub ranked_push : (list old new : List Substitute) (bloc i : ℕ) (xs : List Entry) (d : Entry) → i < length xs → old ≡ list ++ ranked_from bloc 1 (take i xs)
    → new ≡ old ++ record { bloc = bloc; rank = i + 1; number = (get_or xs i d).number } ∷ [] → new ≡ list ++ ranked_from bloc 1 (take (i + 1) xs)
ranked_push list old new bloc i xs d lt so_far pushed =
    let one : List Substitute = record { bloc = bloc; rank = i + 1; number = (get_or xs i d).number } ∷ [] in
    let len = length-take-le i xs (omega arith) in
    let more : ranked_from bloc 1 (take (i + 1) xs) ≡ ranked_from bloc 1 (take i xs) ++ one =
    ap (λ (l : List Entry). ranked_from bloc 1 l) (take_more xs i d lt)
    ∙ ranked-append bloc 1 (take i xs) (get_or xs i d)
    ∙ ap (λ (n : ℕ). ranked_from bloc 1 (take i xs) ++ (let s : Substitute = record { bloc = bloc; rank = n; number = (get_or xs i d).number } in s) ∷ []) (omega arith) in
    pushed ∙ ap (λ (l : List Substitute). l ++ one) so_far ∙ append_assoc list (ranked_from bloc 1 (take i xs)) one ∙ ap (λ (l : List Substitute). list ++ l) (sym more)

-- one bloc more of the seats
pub listed_push : (contest : Contest) (s : SeatsData) (items : List Contestant) (old new : List Substitute) (i : ℕ) (p : Contestant) (q : PartySeats) → AreSeats contest s → items ≡ contest.parties → i < length items → p ≡ get_or items i p
    → slice_get s.parties i ≡ Some q → old ≡ flat_map (substitutes_of s.quotient s.awards) (take i items) → new ≡ old ++ substitutes_with q.seats p → new ≡ flat_map (substitutes_of s.quotient s.awards) (take (i + 1) items)
listed_push contest s items old new i p q given same lt at told so_far pushed =
    let parties = given.parties ∙ ap (λ (l : List Contestant). map (party_seats s.quotient s.awards) l) (sym same) in
    let seats = seats_of_bloc s.quotient s.awards items s.parties i p q parties lt at told in
    pushed ∙ ap (λ (l : List Substitute). l ++ substitutes_with q.seats p) so_far ∙ ap (λ (n : ℕ). flat_map (substitutes_of s.quotient s.awards) (take i items) ++ substitutes_with n p) seats ∙ sym (listed_more s.quotient s.awards items i p lt at)

-- a bloc has as many candidates as seats, or more
pub few_seats : (contest : Contest) (s : SeatsData) (items : List Contestant) (i : ℕ) (p : Contestant) (q : PartySeats) → AreSeats contest s → PartiesRise contest.parties → items ≡ contest.parties → i < length items → p ≡ get_or items i p
    → slice_get s.parties i ≡ Some q → q.seats ≤ length p.candidates
few_seats contest s items i p q given rise same lt at told =
    let parties = given.parties ∙ ap (λ (l : List Contestant). map (party_seats s.quotient s.awards) l) (sym same) in
    let seats = seats_of_bloc s.quotient s.awards items s.parties i p q parties lt at told in
    let most = candidates_at s.quotient _ s.vacant contest.parties items s.awards i p given.rounds rise same lt at in
    omega (arith, seats, most)

-- ---- elected and substitutes

ranked-numbers : (bloc rank : ℕ) (xs : List Entry) → map (λ (s : Substitute). s.number) (ranked_from bloc rank xs) ≡ map (λ (c : Entry). c.number) xs
ranked-numbers bloc rank [] = refl
ranked-numbers bloc rank (x ∷ xs) = ap (λ (l : List ℕ). x.number ∷ l) (ranked-numbers bloc (rank + 1) xs)

pub all_candidates : (qe : ℕ) (awards : List Award) (p : Contestant) → 1 ≤ seats_after qe awards p
    → IsPermutation (map (λ (c : Entry). c.number) p.candidates) (elected_of qe awards p ++ map (λ (s : Substitute). s.number) (substitutes_of qe awards p))
all_candidates qe awards p some =
    let n = seats_after qe awards p in
    let sorted = in_order p.candidates in
    let number : Entry → ℕ = λ c. c.number in
    let seated : nat_le 1 n ≡ true = grind (arith, nat_tests) in
    let others : substitutes_of qe awards p ≡ ranked_from p.number 1 (drop n sorted) = rw seated refl in
    let together : map number sorted ≡ elected_of qe awards p ++ map (λ (s : Substitute). s.number) (substitutes_of qe awards p) =
    ap (λ (l : List Entry). map number l) (sym (take-append-drop n sorted))
    ∙ map-append number (take n sorted) (drop n sorted)
    ∙ ap (λ (l : List ℕ). map number (take n sorted) ++ l) (sym (ap (λ (l : List Substitute). map (λ (s : Substitute). s.number) l) others ∙ ranked-numbers p.number 1 (drop n sorted))) in
    subst (λ (l : List ℕ). IsPermutation (map number p.candidates) l) together (IsPermutation-map number p.candidates sorted (in_order-permutation p.candidates))

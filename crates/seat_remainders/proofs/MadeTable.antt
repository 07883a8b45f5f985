-- The entries of the table as the code makes them
use Rattle.std.proofs.Common.{◌≡◌, ℕ, zero, suc, ◌+◌, ◌-◌, ◌≤◌, ◌<◌, ◌⊎◌, min, List, [], ◌∷◌, ◌++◌, length, map, take, get_or, inl, inr, sym, ap, ◌∙◌, append-nil, append_assoc, arith}
use Rattle.std.specs.List.{AllByRecursion}
use Rattle.std.proofs.lemmas.List.{map-append, take_more}
use Rattle.std.proofs.lemmas.List.Concat.{flat_map-append}
use Rattle.quotients.specs.Average.{AverageData}
use Rattle.quotients.specs.Order.{parts_of}
use Rattle.quotients.specs.declared.average.Average.{Average}
use Rattle.quotients.proofs.Averages.{same_average}
use Rattle.seat_remainders.specs.declared.contest.Contestant.{Contestant}
use Rattle.seat_remainders.specs.declared.outcome.Award.{Award}
use Rattle.seat_remainders.specs.Contest.{PartiesRise}
use Rattle.seat_remainders.specs.Parties.{votes_of}
use Rattle.seat_remainders.specs.Rounds.{seats_after}
use Rattle.seat_remainders.specs.Table.{most_seats, limit_of, average_over, averages_from, entries_for, entries_of}
use Rattle.seat_remainders.proofs.Rising.{AreRising, are_rising}

-- one average more of a party

from_more : (p : Contestant) (d n : ℕ) → averages_from p d (suc n) ≡ averages_from p d n ++ average_over p (d + n) ∷ []
from_more p d zero = let e : d ≡ d + 0 = omega arith in ap (λ (k : ℕ). average_over p k ∷ []) e
from_more p d (suc n) =
    let e : d + 1 + n ≡ d + suc n = omega arith in
    ap (λ (t : List AverageData). average_over p d ∷ t) (from_more p (d + 1) n ∙ ap (λ (k : ℕ). averages_from p (d + 1) n ++ average_over p k ∷ []) e)

pub parts_are : (a : Average) (p : Contestant) (votes seats : ℕ) → a.votes ≡ votes → votes ≡ votes_of p → a.divisor ≡ seats + 1 → a.party ≡ p.number → parts_of a ≡ average_over p (seats + 1)
parts_are a p votes seats v w d n = same_average (parts_of a) (average_over p (seats + 1)) (v ∙ w) n d

pub pushed_more : (old items : List Average) (a : Average) (p : Contestant) (first seats : ℕ) → map parts_of items ≡ map parts_of old ++ averages_from p (first + 1) (seats - first) → first ≤ seats
    → parts_of a ≡ average_over p (seats + 1) → map parts_of (items ++ a ∷ []) ≡ map parts_of old ++ averages_from p (first + 1) (seats + 1 - first)
pushed_more old items a p first seats h le is =
    let next : seats + 1 - first ≡ suc (seats - first) = omega arith in
    let place : first + 1 + (seats - first) ≡ seats + 1 = omega arith in
    let so_far = averages_from p (first + 1) (seats - first) in
    map-append parts_of items (a ∷ [])
    ∙ ap (λ (t : List AverageData). t ++ parts_of a ∷ []) h
    ∙ append_assoc (map parts_of old) so_far (parts_of a ∷ [])
    ∙ ap (λ (x : AverageData). map parts_of old ++ (so_far ++ x ∷ [])) (is ∙ ap (λ (d : ℕ). average_over p d) (sym place))
    ∙ ap (λ (t : List AverageData). map parts_of old ++ t) (sym (from_more p (first + 1) (seats - first)))
    ∙ ap (λ (n : ℕ). map parts_of old ++ averages_from p (first + 1) n) (sym next)

count_is : (first limit seats : ℕ) → (seats ≤ limit) ⊎ (seats ≡ first) → limit ≤ seats → first ≤ seats → seats - first ≡ limit - first
count_is first limit seats (inl h) ge le = omega arith
count_is first limit seats (inr h) ge le = omega arith

-- at the end of the loop they are those of the party
pub all_pushed : (qe phase left : ℕ) (before : List Award) (old items : List Average) (p : Contestant) (first limit seats : ℕ) → map parts_of items ≡ map parts_of old ++ averages_from p (first + 1) (seats - first)
    → (seats ≤ limit) ⊎ (seats ≡ first) → limit ≤ seats → first ≤ seats → first ≡ seats_after qe before p → limit ≡ min (most_seats qe phase p) (first + left)
    → map parts_of items ≡ map parts_of old ++ entries_for qe before (limit_of qe phase before left) p
all_pushed qe phase left before old items p first limit seats h within ge le is top =
    let count = count_is first limit seats within ge le in
    let same : limit ≡ limit_of qe phase before left p = top ∙ ap (λ (n : ℕ). min (most_seats qe phase p) (n + left)) is in
    h
    ∙ ap (λ (n : ℕ). map parts_of old ++ averages_from p (first + 1) n) count
    ∙ ap (λ (n : ℕ). map parts_of old ++ averages_from p (first + 1) (n - first)) same
    ∙ ap (λ (n : ℕ). map parts_of old ++ averages_from p (n + 1) (limit_of qe phase before left p - n)) is

-- one party more

pub entries_more : (qe : ℕ) (before : List Award) (limit : Contestant → ℕ) (parties : List Contestant) (i : ℕ) (p : Contestant) → i < length parties → p ≡ get_or parties i p
    → entries_of qe before limit (take i parties) ++ entries_for qe before limit p ≡ entries_of qe before limit (take (i + 1) parties)
entries_more qe before limit parties i p lt is =
    sym (ap (λ (t : List Contestant). entries_of qe before limit t) (take_more parties i p lt)
    ∙ flat_map-append (entries_for qe before limit) (take i parties) (get_or parties i p ∷ [])
    ∙ ap (λ (t : List AverageData). entries_of qe before limit (take i parties) ++ t) (append-nil (entries_for qe before limit (get_or parties i p)))
    ∙ ap (λ (c : Contestant). entries_of qe before limit (take i parties) ++ entries_for qe before limit c) (sym is))

-- parties that rise have numbers of at least their places

rises_above : (n : ℕ) (parties : List Contestant) (i : ℕ) (d : Contestant) → AllByRecursion (λ q. n < q.number) parties → AreRising parties → i < length parties → n + i < (get_or parties i d).number
rises_above n [] i d all rising lt = absurd (omega arith)
rises_above n (p ∷ parties) zero d all rising lt = omega (arith, all.0)
rises_above n (p ∷ parties) (suc i) d all rising lt = let more = rises_above p.number parties i d rising.0 rising.1 (omega arith) in let first = all.0 in omega arith

number_at : (parties : List Contestant) (i : ℕ) (d : Contestant) → AreRising parties → i < length parties → i ≤ (get_or parties i d).number
number_at [] i d rising lt = absurd (omega arith)
number_at (p ∷ parties) zero d rising lt = omega arith
number_at (p ∷ parties) (suc i) d rising lt = let more = rises_above p.number parties i d rising.0 rising.1 (omega arith) in omega arith

pub place_below : (parties items : List Contestant) (i : ℕ) (p : Contestant) → PartiesRise parties → items ≡ parties → i < length items → p ≡ get_or items i p → i ≤ p.number
place_below parties items i p rise same lt is =
    let len = ap length same in
    let at = number_at parties i p (are_rising parties rise) (omega arith) in
    let here = ap (λ (c : Contestant). c.number) (is ∙ ap (λ (l : List Contestant). get_or l i p) same) in
    omega arith

-- Each award is one seat more.
use Rattle.std.proofs.Common.{◌≡◌, ℕ, ◌+◌, ◌==◌, List, [], ◌∷◌, ◌++◌, length, sum_by, refl, sym, ap, ◌∙◌, append-nil, append_assoc, arith}
use Rattle.std.proofs.lemmas.List.Sums.{sum_by-cons, sum_by_push}
use Rattle.seat_remainders.specs.declared.contest.Contestant.{Contestant}
use Rattle.seat_remainders.specs.declared.outcome.Award.{Award}
use Rattle.seat_remainders.specs.Parties.{first_seats, first_phase}
use Rattle.seat_remainders.specs.Rounds.{seats_after, EachFollows}
use Rattle.seat_remainders.proofs.Rising.{AreRising, one_if, one_named}

-- the first of some awards goes to those before it
pub moved_on : (before rest : List Award) (award : Award) → before ++ award ∷ rest ≡ (before ++ award ∷ []) ++ rest
moved_on before rest award = sym (append_assoc before (award ∷ []) rest)

pub seats_more : (qe : ℕ) (before : List Award) (w : Award) (p : Contestant) → seats_after qe (before ++ w ∷ []) p ≡ seats_after qe before p + one_if (w.party == p.number)
seats_more qe before w p = let more = sum_by_push (λ (x : Award). one_if (x.party == p.number)) before w in omega arith

sum_more : (qe : ℕ) (before : List Award) (w : Award) (parties : List Contestant)
    → sum_by (seats_after qe (before ++ w ∷ [])) parties ≡ sum_by (seats_after qe before) parties + sum_by (λ q. one_if (w.party == q.number)) parties
sum_more qe before w [] = refl
sum_more qe before w (p ∷ parties) =
    let one = sum_by-cons (seats_after qe (before ++ w ∷ [])) p parties in
    let two = sum_by-cons (seats_after qe before) p parties in
    let three = sum_by-cons (λ q. one_if (w.party == q.number)) p parties in
    let this = seats_more qe before w p in
    let others = sum_more qe before w parties in
    omega arith

pub sum_over : (qe : ℕ) (parties : List Contestant) (before awards : List Award) → AreRising parties → EachFollows qe parties before awards
    → sum_by (seats_after qe (before ++ awards)) parties ≡ sum_by (seats_after qe before) parties + length awards
sum_over qe parties before [] rising each = ap (λ (t : List Award). sum_by (seats_after qe t) parties) (append-nil before) ∙ omega arith
sum_over qe parties before (w ∷ awards) rising each =
    let others = sum_over qe parties (before ++ w ∷ []) awards rising each.1 in
    let more = sum_more qe before w parties in
    let t = each.0.1 in
    let named = one_named w.party each.0.0 parties rising t.stands t.named in
    ap (λ (t : List Award). sum_by (seats_after qe t) parties) (moved_on before awards w) ∙ omega arith

pub sum_none : (qe : ℕ) (parties : List Contestant) → sum_by (seats_after qe []) parties ≡ first_phase qe parties
sum_none qe [] = refl
sum_none qe (p ∷ parties) =
    let one = sum_by-cons (seats_after qe []) p parties in
    let two = sum_by-cons (first_seats qe) p parties in
    let others = sum_none qe parties in
    omega arith

-- What is counted of the parties, place by place
use Rattle.std.proofs.Common.{◌≡◌, ℕ, zero, suc, ◌+◌, ◌<◌, List, [], ◌∷◌, ◌++◌, length, take, get_or, sum_by, refl, ap, ◌∙◌, sym, arith}
use Rattle.std.proofs.lemmas.List.{length-map, get_or-map, map_more}
use Rattle.std.proofs.lemmas.List.Sums.{sum_by-cons}
use Rattle.seat_remainders.specs.declared.contest.Contestant.{Contestant}
use Rattle.seat_remainders.specs.declared.standing.Standing.{Standing}
use Rattle.seat_remainders.specs.Parties.{first_seats, first_phase}
use Rattle.seat_remainders.specs.Standing.{standing_of, standings_of}

pub party_at : (parties : List Contestant) (i : ℕ) → i < length parties → (p : Contestant) × (p ≡ get_or parties i p)
party_at [] i lt = absurd (omega arith)
party_at (p ∷ parties) zero lt = (p, refl)
party_at (p ∷ parties) (suc i) lt = party_at parties i (omega arith)

pub standings-length : (qe : ℕ) (parties : List Contestant) (standings : List Standing) → standings ≡ standings_of qe parties → length standings ≡ length parties
standings-length qe parties standings is = ap length is ∙ length-map parties (standing_of qe)

pub standing_at : (qe i : ℕ) (parties : List Contestant) (standings : List Standing) (d : Standing) (p : Contestant) → standings ≡ standings_of qe parties → i < length standings → p ≡ get_or parties i p → get_or standings i d ≡ standing_of qe p
standing_at qe i parties standings d p same lt at =
    let len = standings-length qe parties standings same in
    ap (λ (l : List Standing). get_or l i d) same ∙ get_or-map (standing_of qe) parties i p d (omega arith) ∙ ap (λ (c : Contestant). standing_of qe c) (sym at)

-- as the loop over the parties finds it
pub standing_here : (qe i : ℕ) (parties items : List Contestant) (standings : List Standing) (d : Standing) (p : Contestant) → standings ≡ standings_of qe parties → items ≡ parties → i < length items → p ≡ get_or items i p
    → get_or standings i d ≡ standing_of qe p
standing_here qe i parties items standings d p same listed lt at =
    let len = standings-length qe parties standings same in
    let count = ap length listed in
    standing_at qe i parties standings d p same (omega arith) (at ∙ ap (λ (l : List Contestant). get_or l i p) listed)

-- one party more
pub counted_more : (qe i : ℕ) (parties : List Contestant) (old new : List Standing) (s : Standing) (p : Contestant) → old ≡ standings_of qe (take i parties) → new ≡ old ++ s ∷ [] → s ≡ standing_of qe p → i < length parties
    → p ≡ get_or parties i p → new ≡ standings_of qe (take (i + 1) parties)
counted_more qe i parties old new s p so_far pushed is lt at =
    pushed
    ∙ ap (λ (l : List Standing). l ++ s ∷ []) so_far
    ∙ ap (λ (t : Standing). standings_of qe (take i parties) ++ t ∷ []) (is ∙ ap (λ (x : Contestant). standing_of qe x) at)
    ∙ sym (map_more (standing_of qe) parties i p lt)

pub sum_firsts : (qe : ℕ) (parties : List Contestant) → sum_by (λ s. s.first) (standings_of qe parties) ≡ first_phase qe parties
sum_firsts qe [] = refl
sum_firsts qe (p ∷ parties) =
    let one = sum_by-cons (λ (s : Standing). s.first) (standing_of qe p) (standings_of qe parties) in
    let two = sum_by-cons (first_seats qe) p parties in
    let others = sum_firsts qe parties in
    omega arith

-- Worked rows
use Rattle.std.proofs.Common.{◌≡◌, ℕ, ◌+◌, ◌*◌, List, [], ◌∷◌, refl}
use Rattle.quotients.specs.Average.{AverageData}
use Rattle.seat_remainders.specs.declared.contest.Entry.{Entry}
use Rattle.seat_remainders.specs.declared.contest.Contestant.{Contestant}
use Rattle.seat_remainders.specs.declared.contest.Contest.{Contest}
use Rattle.seat_remainders.specs.Computed.{awards_over, seats_with}
use Rattle.seat_certificate.specs.declared.certificate.Certificate.{Certificate}
use Rattle.seat_certificate.specs.declared.certificate.FirstLine.{FirstLine}
use Rattle.seat_certificate.specs.declared.substitute.Substitute.{Substitute}
use Rattle.seat_certificate.specs.Certificate.{certificate_of, competing, first_lines}
use Rattle.seat_certificate.specs.Substitutes.{substitutes_in}

abbrev candidate : ℕ → ℕ → Entry
candidate number votes = record { number = number; birth = 19600101; votes = votes }

abbrev candidates : ℕ → List ℕ → List Entry
candidates number [] = []
candidates number (v ∷ votes) = candidate number v ∷ candidates (number + 1) votes

abbrev bloc : ℕ → List Entry → Contestant
bloc number entries = record { number = number; party_votes = 0; candidates = entries }

abbrev party : ℕ → List ℕ → Contestant
party number votes = bloc number (candidates (number * 1000 + 1) votes)

-- five seats and four parties
abbrev four_parties : Contest
four_parties = record { seats = 5; parties = party 10 (300 ∷ 100 ∷ 100 ∷ []) ∷ party 11 (200 ∷ 100 ∷ []) ∷ party 12 (150 ∷ []) ∷ party 13 (50 ∷ []) ∷ [] }

abbrev line : ℕ → ℕ → ℕ → ℕ → FirstLine
line p q a s = record { party = p; quotient = q; able = a; seats = s }

abbrev over : ℕ → ℕ → ℕ → AverageData
over p v d = record { votes = v; divisor = d; party = p }

abbrev certificate : Certificate
certificate = record {
  quotient = 200;
  first = line 10 2 3 2 ∷ line 11 1 2 1 ∷ line 12 0 1 0 ∷ line 13 0 1 0 ∷ [];
  rounds = record { phase = 2; party = 10; averages = over 10 500 3 ∷ over 11 300 2 ∷ [] } ∷ record { phase = 2; party = 11; averages = over 11 300 2 ∷ [] } ∷ [];
  vacant = 0;
}

its_first_lines : first_lines 200 four_parties.parties ≡ certificate.first
its_first_lines = refl

its_first_round : competing 200 [] 2 four_parties.parties ≡ over 10 500 3 ∷ over 11 300 2 ∷ []
its_first_round = refl

its_second_round : competing 200 (record { phase = 2; party = 10 } ∷ []) 2 four_parties.parties ≡ over 11 300 2 ∷ []
its_second_round = refl

its_certificate : certificate_of four_parties (seats_with four_parties 200 (awards_over 200 four_parties.parties 2)) ≡ certificate
its_certificate = refl

-- three seats, a party, and a federation of the parties 20 and 30
abbrev federated : Contest
federated = record { seats = 3; parties = bloc 10 (candidate 10001 60 ∷ candidate 10002 20 ∷ []) ∷ bloc 20 (candidate 20001 35 ∷ candidate 30001 40 ∷ candidate 30002 25 ∷ []) ∷ [] }

abbrev substitute : ℕ → ℕ → ℕ → Substitute
substitute bloc rank number = record { bloc = bloc; rank = rank; number = number }

of_each : substitutes_in federated (seats_with federated 60 (awards_over 60 federated.parties 1)) ≡ substitute 10 1 10002 ∷ substitute 20 1 30002 ∷ []
of_each = refl

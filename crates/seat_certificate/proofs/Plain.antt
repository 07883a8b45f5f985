-- No line of a certificate has a line feed.
use Rattle.std.proofs.Common.{ℕ, ◌+◌, ◌^◌, ◌≤◌, ◌<◌, List, [], ◌∷◌, ◌++◌, length, map, flat_map, inl, inr, refl, arith}
use Rattle.std.specs.Prelude.{codes}
use Rattle.std.specs.Fmt.{decimal}
use Rattle.std.specs.List.{AllByRecursion}
use Rattle.quotients.specs.Average.{AverageData}
use Rattle.seat_certificate.specs.declared.certificate.Certificate.{Certificate}
use Rattle.seat_certificate.specs.declared.certificate.FirstLine.{FirstLine}
use Rattle.seat_certificate.specs.declared.certificate.Round.{Round}
use Rattle.seat_certificate.specs.Text.{AverageFits, HasText, LineFits, RoundFits, average_word, bloc_line, certificate_lines, round_line, round_lines}
use Rattle.seat_certificate.proofs.Codes.{small_code}
use Rattle.urna_base.proofs.Lacking.{Lacks, decimal_in_line, lacks-append}

-- a word and a number
keyed_lacks : (word : List ℕ) (n : ℕ) → Lacks 10 word → n < 10 ^ 18 → Lacks 10 (word ++ decimal n)
keyed_lacks word n h lt = lacks-append 10 word (decimal n) h (decimal_in_line n lt)

-- and more behind it
keyed_more : (word : List ℕ) (n : ℕ) (more : List ℕ) → Lacks 10 word → n < 10 ^ 18 → Lacks 10 more → Lacks 10 (word ++ (decimal n ++ (more)))
keyed_more word n more h lt g = lacks-append 10 word (decimal n ++ more) h (lacks-append 10 (decimal n) more (decimal_in_line n lt) g)

bloc_lacks : (l : FirstLine) → LineFits l → Lacks 10 (bloc_line l)
bloc_lacks l fits =
    keyed_more (codes "PARTIDO ") l.party _ refl (omega (arith, fits.party.1))
    (keyed_more (codes " QP ") l.quotient _ refl fits.quotient
    (keyed_more (codes " APTOS ") l.able _ refl (omega (arith, fits.able)) (keyed_lacks (codes " VAGAS ") l.seats refl (omega (arith, fits.seats)))))

blocs_lack : (first : List FirstLine) (more : List (List ℕ)) → AllByRecursion LineFits first → AllByRecursion (Lacks 10) more → AllByRecursion (Lacks 10) (map bloc_line first ++ more)
blocs_lack [] more fit all = all
blocs_lack (l ∷ first) more fit all = (bloc_lacks l fit.0, blocs_lack first more fit.1 all)

averages_lack : (xs : List AverageData) → AllByRecursion AverageFits xs → Lacks 10 (flat_map average_word xs)
averages_lack [] fit = refl
averages_lack (a ∷ xs) fit =
    lacks-append 10 (average_word a) (flat_map average_word xs)
    (keyed_more (codes " ") a.party _ refl (omega (arith, fit.0.party.1)) (keyed_more (codes ":") a.votes _ refl fit.0.votes (keyed_lacks (codes "/") a.divisor refl (omega (arith, fit.0.divisor)))))
    (averages_lack xs fit.1)

round_lacks : (k : ℕ) (r : Round) → k < 10 ^ 18 → RoundFits r → Lacks 10 (round_line k r)
round_lacks k r lt fits =
    let phase : r.phase < 10 ^ 18 = elim fits.phase [ inl e ↦ omega arith | inr e ↦ omega arith ] in
    keyed_more (codes "RODADA ") k _ refl lt
    (keyed_more (codes " FASE ") r.phase _ refl phase
    (keyed_more (codes " VENCE ") r.party _ refl (omega (arith, fits.party.1)) (averages_lack r.averages fits.averages)))

rounds_lack : (k : ℕ) (rounds : List Round) (more : List (List ℕ)) → k + length rounds ≤ 1000 → AllByRecursion RoundFits rounds → AllByRecursion (Lacks 10) more → AllByRecursion (Lacks 10) (round_lines k rounds ++ more)
rounds_lack k [] more few fit all = all
rounds_lack k (r ∷ rounds) more few fit all = (round_lacks k r (omega arith) fit.0, rounds_lack (k + 1) rounds more (omega arith) fit.1 all)

pub lines_lack : (code : ℕ) (c : Certificate) → HasText code c → AllByRecursion (Lacks 10) (certificate_lines code c)
lines_lack code c is = (
  refl,
  (
    keyed_lacks (codes "CARGO ") code refl (omega (arith, small_code code is.office)),
    (
      keyed_lacks (codes "QUOCIENTE ") c.quotient refl is.quotient,
      blocs_lack c.first _ is.first (rounds_lack 1 c.rounds _ (omega (arith, is.few_rounds)) is.rounds (keyed_lacks (codes "VAZIAS ") c.vacant refl (omega (arith, is.vacant)), (refl, tt))),
    ),
  ),
)

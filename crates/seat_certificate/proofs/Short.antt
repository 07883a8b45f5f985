-- How long the text of a certificate can be
use Rattle.std.proofs.Common.{◌≡◌, ℕ, suc, ◌+◌, ◌*◌, ◌^◌, ◌≤◌, ◌<◌, List, [], ◌∷◌, ◌++◌, length, map, flat_map, length-append, inl, inr, refl, ap, ◌∙◌, arith}
use Rattle.std.specs.Prelude.{codes}
use Rattle.std.specs.Fmt.{decimal}
use Rattle.std.specs.List.{AllByRecursion}
use Rattle.std.proofs.lemmas.Fmt.{length-decimal-le}
use Rattle.std.proofs.lemmas.List.{length-map}
use Rattle.urna_base.proofs.DecimalLaws.{length-decimal-le_10}
use Rattle.quotients.specs.Average.{AverageData}
use Rattle.seat_certificate.specs.declared.certificate.Certificate.{Certificate}
use Rattle.seat_certificate.specs.declared.certificate.FirstLine.{FirstLine}
use Rattle.seat_certificate.specs.declared.certificate.Round.{Round}
use Rattle.seat_certificate.specs.declared.table.TheConstants.{TABLE}
use Rattle.seat_certificate.specs.Laws.{TextIsShort}
use Rattle.urna_base.specs.Lines.{lines_text}
use Rattle.seat_certificate.specs.Text.{AverageFits, HasText, IsBloc, IsDecimalNumber, LineFits, RiseAbove, RoundFits, average_word, bloc_line, certificate_lines, certificate_text, round_line, round_lines, vacant_line}
use Rattle.seat_certificate.proofs.Codes.{small_code}

-- ---- numbers

two_digits : (n : ℕ) → IsBloc n → length (decimal n) ≤ 2
two_digits n is = length-decimal-le 2 n (omega arith) (omega arith) (omega arith)

decimal_short : (n : ℕ) → IsDecimalNumber n → length (decimal n) ≤ 18
decimal_short n lt = length-decimal-le 18 n (omega arith) lt (omega arith)

-- a word, a number and more behind them
length_keyed : (word : List ℕ) (n : ℕ) (more : List ℕ) → length (word ++ (decimal n ++ more)) ≡ length word + (length (decimal n) + length more)
length_keyed word n more = length-append word (decimal n ++ more) ∙ ap (λ (m : ℕ). length word + m) (length-append (decimal n) more)

-- ---- lines

-- at most 3,999 bytes, in which a round has room for an average of each bloc
abbrev IsShort : List ℕ → Type 0
IsShort line = length line ≤ 3999

-- averages that rise by bloc, to 99 at most, are few
few_above : (last : ℕ) (xs : List AverageData) → last ≤ 99 → RiseAbove last (map (λ a. a.party) xs) → AllByRecursion AverageFits xs → last + length xs ≤ 99
few_above last [] le rise fit = omega arith
few_above last (a ∷ xs) le rise fit = omega (arith, rise.0, few_above a.party xs fit.0.party.1 rise.1 fit.1)

average_short : (a : AverageData) → AverageFits a → length (average_word a) ≤ 33
average_short a fits =
    let divisor = length-decimal-le_10 a.divisor fits.divisor in
    let behind_votes = codes "/" ++ decimal a.divisor in
    let behind_party = codes ":" ++ (decimal a.votes ++ behind_votes) in
    omega (
      arith,
      divisor,
      two_digits a.party fits.party,
      decimal_short a.votes fits.votes,
      length_keyed (codes " ") a.party behind_party,
      length_keyed (codes ":") a.votes behind_votes,
    )

averages_short : (xs : List AverageData) → AllByRecursion AverageFits xs → length (flat_map average_word xs) ≤ 33 * length xs
averages_short [] fit = omega arith
averages_short (a ∷ xs) fit = omega (arith, average_short a fit.0, averages_short xs fit.1, length-append (average_word a) (flat_map average_word xs))

round_short : (k : ℕ) (r : Round) → k < 2 ^ 32 → RoundFits r → IsShort (round_line k r)
round_short k r lt fits =
    let narrow : r.phase < 2 ^ 32 = elim fits.phase [ inl e ↦ omega arith | inr e ↦ omega arith ] in
    let number = length-decimal-le_10 k lt in
    let phase = length-decimal-le_10 r.phase narrow in
    let few = few_above 0 r.averages (omega arith) fits.rise fits.averages in
    let averages = flat_map average_word r.averages in
    let behind_phase = codes " VENCE " ++ (decimal r.party ++ averages) in
    let behind_number = codes " FASE " ++ (decimal r.phase ++ behind_phase) in
    omega (
      arith,
      number,
      phase,
      few,
      two_digits r.party fits.party,
      averages_short r.averages fits.averages,
      length_keyed (codes "RODADA ") k behind_number,
      length_keyed (codes " FASE ") r.phase behind_phase,
      length_keyed (codes " VENCE ") r.party averages,
    )

bloc_short : (l : FirstLine) → LineFits l → IsShort (bloc_line l)
bloc_short l fits =
    let able = length-decimal-le_10 l.able fits.able in
    let seats = length-decimal-le_10 l.seats fits.seats in
    let behind_able = codes " VAGAS " ++ decimal l.seats in
    let behind_quotient = codes " APTOS " ++ (decimal l.able ++ behind_able) in
    let behind_party = codes " QP " ++ (decimal l.quotient ++ behind_quotient) in
    omega (
      arith,
      able,
      seats,
      two_digits l.party fits.party,
      decimal_short l.quotient fits.quotient,
      length_keyed (codes "PARTIDO ") l.party behind_party,
      length_keyed (codes " QP ") l.quotient behind_quotient,
      length_keyed (codes " APTOS ") l.able behind_able,
    )

rounds_short : (k : ℕ) (rounds : List Round) (more : List (List ℕ)) → k + length rounds ≤ 1000 → AllByRecursion RoundFits rounds → AllByRecursion IsShort more → AllByRecursion IsShort (round_lines k rounds ++ more)
rounds_short k [] more few fit all = all
rounds_short k (r ∷ rounds) more few fit all = (round_short k r (omega arith) fit.0, rounds_short (k + 1) rounds more (omega arith) fit.1 all)

blocs_short : (first : List FirstLine) (more : List (List ℕ)) → AllByRecursion LineFits first → AllByRecursion IsShort more → AllByRecursion IsShort (map bloc_line first ++ more)
blocs_short [] more fit all = all
blocs_short (l ∷ first) more fit all = (bloc_short l fit.0, blocs_short first more fit.1 all)

lines_short : (code : ℕ) (c : Certificate) → HasText code c → AllByRecursion IsShort (certificate_lines code c)
lines_short code c is =
    let office = length-decimal-le_10 code (omega (arith, small_code code is.office)) in
    let quotient = decimal_short c.quotient is.quotient in
    let vacant = length-decimal-le_10 c.vacant is.vacant in
    let end : AllByRecursion IsShort (vacant_line c.vacant ∷ TABLE.end ∷ []) = (omega arith, (omega arith, tt)) in
    let lines = blocs_short c.first _ is.first (rounds_short 1 c.rounds _ (omega (arith, is.few_rounds)) is.rounds end) in
    (omega arith, (omega arith, (omega arith, lines)))

-- ---- the text

-- each line has a line feed behind it
text_length : (lines : List (List ℕ)) → AllByRecursion IsShort lines → length (lines_text lines) ≤ 4000 * length lines
text_length [] all = omega arith
text_length (line ∷ lines) all = omega (arith, all.0, text_length lines all.1, length-append (line ++ 10 ∷ []) (lines_text lines), length-append line (10 ∷ []))

length-round_lines : (k : ℕ) (rounds : List Round) → length (round_lines k rounds) ≡ length rounds
length-round_lines k [] = refl
length-round_lines k (r ∷ rounds) = ap suc (length-round_lines (k + 1) rounds)

-- beside those of blocs and of rounds there are five
few_lines : (code : ℕ) (c : Certificate) → HasText code c → length (certificate_lines code c) ≤ 245
few_lines code c is =
    let last : List (List ℕ) = vacant_line c.vacant ∷ TABLE.end ∷ [] in
    omega (
      arith,
      is.few_lines,
      is.few_rounds,
      length-map c.first bloc_line,
      length-round_lines 1 c.rounds,
      length-append (round_lines 1 c.rounds) last,
      length-append (map bloc_line c.first) (round_lines 1 c.rounds ++ last),
    )

pub text_short : TextIsShort
unfolding certificate_text
text_short code c is = omega (arith, text_length (certificate_lines code c) (lines_short code c is), few_lines code c is)

-- The lines of a certificate that has a text are read.
use Rattle.std.proofs.Common.{◌≡◌, ℕ, ◌+◌, ◌^◌, ◌≤◌, ◌<◌, Bool, true, false, nat_lt, List, [], ◌∷◌, ◌++◌, length, map, flat_map, None, Some, refl, sym, ap, ◌∙◌, subst, append-nil, append_assoc, length-append, arith}
use Rattle.std.specs.Prelude.{codes, if◌then◌else◌, Ok}
use Rattle.std.specs.Fmt.{decimal}
use Rattle.std.specs.List.{AllByRecursion}
use Rattle.std.specs.Str.{bytes_eq}
use Rattle.std.proofs.lemmas.Bool.{lt-ltb}
use Rattle.seat_certificate.specs.declared.table.TheConstants.{MOST_FIRST_LINES, MOST_ROUNDS, TABLE}
use Rattle.seat_certificate.specs.declared.certificate.Certificate.{Certificate}
use Rattle.seat_certificate.specs.declared.certificate.FirstLine.{FirstLine}
use Rattle.seat_certificate.specs.declared.certificate.Round.{Round}
use Rattle.seat_certificate.specs.Reading.{AtDone, AtEnd, AtOffice, AtQuotient, AtStart, InFirst, InRounds, bloc_at, goes, keyed, last_bloc, made, next_bloc, next_round, office_at, round_at, round_front, rounds_step, step, vacant_at}
use Rattle.seat_certificate.specs.Text.{HasText, average_word, LineFits, RiseAbove, RoundFits, bloc_line, certificate_lines, office_line, quotient_line, round_line, round_lines, vacant_line}
use Rattle.seat_certificate.proofs.Codes.{small_code}
use Rattle.seat_certificate.proofs.LineReading.{bloc_written, one_written}
use Rattle.seat_certificate.proofs.Machine.{goes-cons, goes-nil}
use Rattle.urna_base.proofs.PieceLaws.{piece_first}
use Rattle.seat_certificate.proofs.RoundReading.{round_written}
use Rattle.seat_certificate.proofs.Steps.{last_bloc-push}

none_either : {A : Type 0} (n : A) (b : Bool) → (if b then n else n) ≡ n
none_either n true = refl
none_either n false = refl

-- ---- a line of another keyword isn't taken

keyed_other : (word w : List ℕ) (low high : ℕ) (ws : List (List ℕ)) → bytes_eq w word ≡ false → keyed word low high (w ∷ ws) ≡ None
unfolding keyed
keyed_other word w low high [] e = refl
keyed_other word w low high (v ∷ ws) e = rw e refl

no_bloc_of_round : (k : ℕ) (r : Round) → bloc_at (round_line k r) ≡ None
unfolding bloc_at
no_bloc_of_round k r = rw (piece_first 32 TABLE.round (decimal k ++ (codes " FASE " ++ (decimal r.phase ++ (codes " VENCE " ++ (decimal r.party ++ flat_map average_word r.averages))))) refl, keyed_other TABLE.party.word TABLE.round 10 99 _ refl) refl

no_bloc_of_vacant : (m : ℕ) → bloc_at (vacant_line m) ≡ None
unfolding bloc_at
no_bloc_of_vacant m = rw (piece_first 32 TABLE.vacant.word (decimal m) refl, keyed_other TABLE.party.word TABLE.vacant.word TABLE.party.low TABLE.party.high _ refl) refl

no_round_of_vacant : (k m : ℕ) → round_at k (vacant_line m) ≡ None
unfolding round_at round_front
no_round_of_vacant k m = rw (piece_first 32 TABLE.vacant.word (decimal m) refl, keyed_other TABLE.round TABLE.vacant.word k k _ refl) refl

-- ---- lines of the first phase in a row

bloc_taken : (before : List FirstLine) (l : FirstLine) → LineFits l → length before < MOST_FIRST_LINES → last_bloc 0 before < l.party → next_bloc before (bloc_line l) ≡ Some l
unfolding next_bloc
bloc_taken before l fits few above = rw (lt-ltb _ _ few, bloc_written l fits, lt-ltb _ _ above) refl

blocs_taken : (k code q : ℕ) (before first : List FirstLine) (lines : List (List ℕ)) (tail : List ℕ) → AllByRecursion LineFits first → RiseAbove (last_bloc 0 before) (map (λ l. l.party) first) → length before + length first ≤ MOST_FIRST_LINES
    → goes k (InFirst code q before) (map bloc_line first ++ lines) tail ≡ goes (k + length first) (InFirst code q (before ++ first)) lines tail
unfolding step
blocs_taken k code q before [] lines tail fit rise few = ap (λ (n : ℕ). goes n (InFirst code q before) lines tail) (omega arith) ∙ ap (λ (l : List FirstLine). goes (k + 0) (InFirst code q l) lines tail) (sym (append-nil before))
blocs_taken k code q before (l ∷ first) lines tail fit rise few =
    let taken = bloc_taken before l fit.0 (omega arith) rise.0 in
    let here : step (InFirst code q before) (bloc_line l) ≡ Some (InFirst code q (before ++ l ∷ [])) = rw taken refl in
    let count = length-append before (l ∷ []) in
    goes-cons k (InFirst code q before) (bloc_line l) (map bloc_line first ++ lines) tail (Some (InFirst code q (before ++ l ∷ []))) here
    ∙ blocs_taken (k + 1) code q (before ++ l ∷ []) first lines tail fit.1 (subst (λ (n : ℕ). RiseAbove n (map (λ l. l.party) first)) (sym (last_bloc-push 0 before l)) rise.1) (omega arith)
    ∙ ap (λ (n : ℕ). goes n (InFirst code q ((before ++ l ∷ []) ++ first)) lines tail) (omega arith)
    ∙ ap (λ (ls : List FirstLine). goes (k + length (l ∷ first)) (InFirst code q ls) lines tail) (append_assoc before (l ∷ []) first)

-- ---- rounds in a row

round_taken : (before : List Round) (r : Round) → RoundFits r → length before < MOST_ROUNDS → next_round before (round_line (length before + 1) r) ≡ Some r
unfolding next_round
round_taken before r fits few = rw (lt-ltb _ _ few, round_written (length before + 1) r (omega arith) fits) refl

rounds_taken : (k code q : ℕ) (first : List FirstLine) (before rounds : List Round) (lines : List (List ℕ)) (tail : List ℕ) → AllByRecursion RoundFits rounds → length before + length rounds ≤ MOST_ROUNDS
    → goes k (InRounds code q first before) (round_lines (length before + 1) rounds ++ lines) tail ≡ goes (k + length rounds) (InRounds code q first (before ++ rounds)) lines tail
unfolding step
rounds_taken k code q first before [] lines tail fit few = ap (λ (n : ℕ). goes n (InRounds code q first before) lines tail) (omega arith) ∙ ap (λ (l : List Round). goes (k + 0) (InRounds code q first l) lines tail) (sym (append-nil before))
rounds_taken k code q first before (r ∷ rounds) lines tail fit few =
    let taken = round_taken before r fit.0 (omega arith) in
    let here : step (InRounds code q first before) (round_line (length before + 1) r) ≡ Some (InRounds code q first (before ++ r ∷ [])) = rw taken refl in
    let count = length-append before (r ∷ []) in
    goes-cons k (InRounds code q first before) (round_line (length before + 1) r) (round_lines (length before + 1 + 1) rounds ++ lines) tail (Some (InRounds code q first (before ++ r ∷ []))) here
    ∙ ap (λ (n : ℕ). goes (k + 1) (InRounds code q first (before ++ r ∷ [])) (round_lines (n + 1) rounds ++ lines) tail) (omega arith)
    ∙ rounds_taken (k + 1) code q first (before ++ r ∷ []) rounds lines tail fit.1 (omega arith)
    ∙ ap (λ (n : ℕ). goes n (InRounds code q first ((before ++ r ∷ []) ++ rounds)) lines tail) (omega arith)
    ∙ ap (λ (ls : List Round). goes (k + length (r ∷ rounds)) (InRounds code q first ls) lines tail) (append_assoc before (r ∷ []) rounds)

-- ---- the end

no_bloc : (before : List FirstLine) (line : List ℕ) → bloc_at line ≡ None → next_bloc before line ≡ None
unfolding next_bloc
no_bloc before line e = rw e (none_either None (nat_lt (length before) MOST_FIRST_LINES))

no_round : (before : List Round) (m : ℕ) → next_round before (vacant_line m) ≡ None
unfolding next_round
no_round before m = rw (no_round_of_vacant (length before + 1) m) (none_either None (nat_lt (length before) MOST_ROUNDS))

-- where no bloc stands next, the rounds begin
rounds_begin : (k code q : ℕ) (first : List FirstLine) (line : List ℕ) (lines : List (List ℕ)) (tail : List ℕ) → bloc_at line ≡ None
    → goes k (InFirst code q first) (line ∷ lines) tail ≡ goes k (InRounds code q first []) (line ∷ lines) tail
unfolding step
rounds_begin k code q first line lines tail e =
    goes-cons k (InFirst code q first) line lines tail (rounds_step code q first [] line) (rw (no_bloc first line e) refl)
    ∙ sym (goes-cons k (InRounds code q first []) line lines tail (rounds_step code q first [] line) refl)

rounds_begin_at : (k code q : ℕ) (first : List FirstLine) (rounds : List Round) (m : ℕ) (lines : List (List ℕ)) (tail : List ℕ)
    → goes k (InFirst code q first) (round_lines 1 rounds ++ vacant_line m ∷ lines) tail ≡ goes k (InRounds code q first []) (round_lines 1 rounds ++ vacant_line m ∷ lines) tail
rounds_begin_at k code q first [] m lines tail = rounds_begin k code q first (vacant_line m) lines tail (no_bloc_of_vacant m)
rounds_begin_at k code q first (r ∷ rounds) m lines tail = rounds_begin k code q first (round_line 1 r) (round_lines 2 rounds ++ vacant_line m ∷ lines) tail (no_bloc_of_round 1 r)

ending : (k code q : ℕ) (first : List FirstLine) (rounds : List Round) (m : ℕ) → m < 2 ^ 32 → goes k (InRounds code q first rounds) (vacant_line m ∷ TABLE.end ∷ []) [] ≡ Ok (code, made q first rounds m)
unfolding step vacant_at
ending k code q first rounds m narrow =
    let vacant = one_written TABLE.vacant.word TABLE.vacant.low TABLE.vacant.high m refl (omega arith) (omega arith) (omega arith) in
    let here : step (InRounds code q first rounds) (vacant_line m) ≡ Some (AtEnd code (made q first rounds m)) = rw (no_round rounds m, vacant) refl in
    goes-cons k (InRounds code q first rounds) (vacant_line m) (TABLE.end ∷ []) [] _ here
    ∙ goes-cons (k + 1) (AtEnd code (made q first rounds m)) TABLE.end [] [] (Some (AtDone code (made q first rounds m))) refl
    ∙ goes-nil (k + 1 + 1) (AtDone code (made q first rounds m)) []

pub complete : (code : ℕ) (c : Certificate) → HasText code c → goes 1 AtStart (certificate_lines code c) [] ≡ Ok (code, c)
unfolding step office_at
complete code c is =
    let office = one_written TABLE.office.word TABLE.office.low TABLE.office.high code refl (omega arith) (small_code code is.office) (omega (arith, small_code code is.office)) in
    let quotient = one_written TABLE.quotient.word TABLE.quotient.low TABLE.quotient.high c.quotient refl (omega arith) (omega (arith, is.quotient)) is.quotient in
    let rest = round_lines 1 c.rounds ++ vacant_line c.vacant ∷ TABLE.end ∷ [] in
    let one : step AtOffice (office_line code) ≡ Some (AtQuotient code) = rw (office, is.office) refl in
    let two : step (AtQuotient code) (quotient_line c.quotient) ≡ Some (InFirst code c.quotient []) = rw quotient refl in
    goes-cons 1 AtStart TABLE.version _ [] (Some AtOffice) refl
    ∙ goes-cons 2 AtOffice (office_line code) _ [] (Some (AtQuotient code)) one
    ∙ goes-cons 3 (AtQuotient code) (quotient_line c.quotient) _ [] (Some (InFirst code c.quotient [])) two
    ∙ blocs_taken 4 code c.quotient [] c.first rest [] is.first is.rise (omega (arith, is.few_lines))
    ∙ rounds_begin_at (4 + length c.first) code c.quotient c.first c.rounds c.vacant (TABLE.end ∷ []) []
    ∙ rounds_taken (4 + length c.first) code c.quotient c.first [] c.rounds (vacant_line c.vacant ∷ TABLE.end ∷ []) [] is.rounds (omega (arith, is.few_rounds))
    ∙ ending (4 + length c.first + length c.rounds) code c.quotient c.first c.rounds c.vacant is.vacant

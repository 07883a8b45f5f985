-- One line is read: the state behind it is that of the lines so far, and every line that may stand there is taken.
use Rattle.std.proofs.Common.{◌≡◌, ℕ, ◌+◌, ◌^◌, ◌<◌, true, nat_lt, List, [], ◌∷◌, ◌++◌, length, map, Option, None, Some, refl, sym, ap, ◌∙◌, subst, append-nil, append_assoc, length-append, arith}
use Rattle.std.specs.Prelude.{if◌then◌else◌, option_map, unwrap_or}
use Rattle.std.specs.Option.{option_and_then, option_or}
use Rattle.std.specs.Str.{bytes_eq}
use Rattle.std.proofs.lemmas.Bool.{ltb-true}
use Rattle.election_tables.specs.Offices.{code_proportional}
use Rattle.seat_certificate.specs.declared.table.TheConstants.{MOST_FIRST_LINES, MOST_ROUNDS, TABLE}
use Rattle.seat_certificate.specs.declared.certificate.Certificate.{Certificate}
use Rattle.seat_certificate.specs.declared.certificate.FirstLine.{FirstLine}
use Rattle.seat_certificate.specs.declared.certificate.Round.{Round}
use Rattle.seat_certificate.specs.Reading.{AtDone, AtEnd, AtOffice, AtQuotient, AtStart, AtVacant, InFirst, InRounds, State, bloc_at, last_bloc, made, next_bloc, next_round, office_at, one_number, proportional_code, rounds_step, step, vacant_at, vacant_step}
use Rattle.seat_certificate.specs.Text.{HasText, LineFits, RiseAbove, RoundFits, bloc_line, certificate_lines, office_line, quotient_line, round_line, round_lines, vacant_line}
use Rattle.seat_certificate.proofs.LineReading.{bloc_read, one_read}
use Rattle.seat_certificate.proofs.Members.{all_push}
use Rattle.seat_certificate.proofs.RoundReading.{round_read}
use Rattle.urna_base.proofs.Cases.{and_then_some, guard_some, map_some}
use Rattle.seat_certificate.proofs.WordReading.{same_line}

-- ---- what was read before a state

abbrev pub head_lines : ℕ → ℕ → List (List ℕ)
head_lines code q = TABLE.version ∷ office_line code ∷ quotient_line q ∷ []

abbrev pub lines_before : State → List (List ℕ)
lines_before AtStart = []
lines_before AtOffice = TABLE.version ∷ []
lines_before (AtQuotient code) = TABLE.version ∷ office_line code ∷ []
lines_before (InFirst code q first) = head_lines code q ++ map bloc_line first
lines_before (InRounds code q first rounds) = head_lines code q ++ (map bloc_line first ++ (round_lines 1 rounds))
lines_before (AtVacant code q first rounds) = head_lines code q ++ (map bloc_line first ++ (round_lines 1 rounds))
lines_before (AtEnd code c) = head_lines code c.quotient ++ (map bloc_line c.first ++ (round_lines 1 c.rounds ++ (vacant_line c.vacant ∷ [])))
lines_before (AtDone code c) = certificate_lines code c

-- the state is one of a certificate that has a text
abbrev pub IsState : State → Type 0
IsState AtStart = Unit {0}
IsState AtOffice = Unit {0}
IsState (AtQuotient code) = code_proportional code ≡ true
IsState (InFirst code q first) = HasText code (made q first [] 0)
IsState (InRounds code q first rounds) = HasText code (made q first rounds 0)
IsState (AtVacant code q first rounds) = HasText code (made q first rounds 0)
IsState (AtEnd code c) = HasText code c
IsState (AtDone code c) = HasText code c

-- ---- one more at the end

map-push : {X Y : Type 0} (f : X → Y) (xs : List X) (x : X) → map f (xs ++ x ∷ []) ≡ map f xs ++ f x ∷ []
map-push f [] x = refl
map-push f (y ∷ xs) x = ap (λ (l : List _). f y ∷ l) (map-push f xs x)

pub last_bloc-push : (last : ℕ) (lines : List FirstLine) (l : FirstLine) → last_bloc last (lines ++ l ∷ []) ≡ l.party
last_bloc-push last [] l = refl
last_bloc-push last (k ∷ lines) l = last_bloc-push k.party lines l

rise_push : (last : ℕ) (lines : List FirstLine) (l : FirstLine) → RiseAbove last (map (λ l. l.party) lines) → last_bloc last lines < l.party → RiseAbove last (map (λ l. l.party) (lines ++ l ∷ []))
rise_push last [] l rise lt = (lt, tt)
rise_push last (k ∷ lines) l rise lt = (rise.0, rise_push k.party lines l rise.1 lt)

round_lines-push : (k : ℕ) (rounds : List Round) (r : Round) → round_lines k (rounds ++ r ∷ []) ≡ round_lines k rounds ++ round_line (length rounds + k) r ∷ []
round_lines-push k [] r = ap (λ (n : ℕ). round_line n r ∷ []) (omega arith)
round_lines-push k (s ∷ rounds) r =
    ap (λ (l : List (List ℕ)). round_line k s ∷ l) (round_lines-push (k + 1) rounds r ∙ ap (λ (n : ℕ). round_lines (k + 1) rounds ++ round_line n r ∷ []) (omega arith))

pub rounds_behind : (rounds : List Round) (r : Round) → round_lines 1 (rounds ++ r ∷ []) ≡ round_lines 1 rounds ++ round_line (length rounds + 1) r ∷ []
rounds_behind rounds r = round_lines-push 1 rounds r

-- ---- a line that was taken belongs there

-- behind a line that was taken
abbrev pub Goes : State → List ℕ → State → Type 0
Goes st line more = IsState more × (lines_before more ≡ lines_before st ++ line ∷ [])

bloc_goes : (code q : ℕ) (first : List FirstLine) (line : List ℕ) (l : FirstLine) → HasText code (made q first [] 0) → next_bloc first line ≡ Some l → Goes (InFirst code q first) line (InFirst code q (first ++ l ∷ []))
unfolding next_bloc
bloc_goes code q first line l is h =
    let room = guard_some (nat_lt (length first) MOST_FIRST_LINES) _ l h in
    let found = and_then_some (bloc_at line) (λ l. if nat_lt (last_bloc 0 first) l.party then Some l else None) l room.1 in
    let test = guard_some (nat_lt (last_bloc 0 first) found.0.party) (Some found.0) l found.2 in
    let same : found.0 ≡ l = ap (λ (o : Option FirstLine). unwrap_or o found.0) test.1 in
    let read = bloc_read line found.0 found.1 in
    let fits : LineFits l = subst LineFits same read.0 in
    let text : line ≡ bloc_line l = read.1 ∙ ap bloc_line same in
    let above : last_bloc 0 first < l.party = subst (λ (m : FirstLine). last_bloc 0 first < m.party) same (ltb-true _ _ test.0) in
    let count = length-append first (l ∷ []) in (
      record {
        office = is.office;
        quotient = is.quotient;
        first = all_push LineFits first _ l refl is.first fits;
        few_lines = omega (arith, count, ltb-true _ _ room.0);
        rise = rise_push 0 first l is.rise above;
        rounds = tt;
        few_rounds = omega arith;
        vacant = omega arith;
      },
      ap (λ (ls : List (List ℕ)). head_lines code q ++ ls) (map-push bloc_line first l ∙ ap (λ (t : List ℕ). map bloc_line first ++ t ∷ []) (sym text)),
    )

round_goes : (code q : ℕ) (first : List FirstLine) (rounds : List Round) (line : List ℕ) (r : Round) → HasText code (made q first rounds 0) → next_round rounds line ≡ Some r
    → Goes (InRounds code q first rounds) line (InRounds code q first (rounds ++ r ∷ []))
unfolding next_round
round_goes code q first rounds line r is h =
    let room = guard_some (nat_lt (length rounds) MOST_ROUNDS) _ r h in
    let few : length rounds < MOST_ROUNDS = ltb-true _ _ room.0 in
    let read = round_read (length rounds + 1) line r room.1 in
    let count = length-append rounds (r ∷ []) in (
      record {
        office = is.office;
        quotient = is.quotient;
        first = is.first;
        few_lines = is.few_lines;
        rise = is.rise;
        rounds = all_push RoundFits rounds _ r refl is.rounds read.0;
        few_rounds = omega (arith, count, few);
        vacant = omega arith;
      },
      ap (λ (ls : List (List ℕ)). head_lines code q ++ (map bloc_line first ++ (ls))) (rounds_behind rounds r ∙ ap (λ (t : List ℕ). round_lines 1 rounds ++ t ∷ []) (sym read.1))
          ∙ ap (λ (ls : List (List ℕ)). head_lines code q ++ ls) (sym (append_assoc (map bloc_line first) (round_lines 1 rounds) (line ∷ []))),
    )

vacant_goes : (code q : ℕ) (first : List FirstLine) (rounds : List Round) (line : List ℕ) (more : State) → HasText code (made q first rounds 0) → vacant_step code q first rounds line ≡ Some more
    → Goes (AtVacant code q first rounds) line more
unfolding vacant_at
vacant_goes code q first rounds line more is h =
    let found = map_some (λ m. AtEnd code (made q first rounds m)) (vacant_at line) more h in
    let read = one_read TABLE.vacant.word TABLE.vacant.low TABLE.vacant.high found.0 line found.1 in
    let narrow : found.0 < 2 ^ 32 = omega (arith, read.most) in
    let there : Goes (AtVacant code q first rounds) line (AtEnd code (made q first rounds found.0)) = (
      record { office = is.office; quotient = is.quotient; first = is.first; few_lines = is.few_lines; rise = is.rise; rounds = is.rounds; few_rounds = is.few_rounds; vacant = narrow },
      ap (λ (t : List ℕ). head_lines code q ++ (map bloc_line first ++ (round_lines 1 rounds ++ (t ∷ [])))) (sym read.text)
          ∙ ap (λ (ls : List (List ℕ)). head_lines code q ++ ls) (sym (append_assoc (map bloc_line first) (round_lines 1 rounds) (line ∷ []))),
    ) in
    subst (λ (s : State). Goes (AtVacant code q first rounds) line s) found.2 there

rounds_go : (code q : ℕ) (first : List FirstLine) (rounds : List Round) (line : List ℕ) (more : State) (o : Option Round) → next_round rounds line ≡ o → HasText code (made q first rounds 0)
    → option_or (option_map (λ r. InRounds code q first (rounds ++ r ∷ [])) o) (vacant_step code q first rounds line) ≡ Some more → Goes (InRounds code q first rounds) line more
rounds_go code q first rounds line more None e is h = vacant_goes code q first rounds line more is h
rounds_go code q first rounds line more (Some r) e is h =
    let same : InRounds code q first (rounds ++ r ∷ []) ≡ more = cc in
    subst (λ (s : State). Goes (InRounds code q first rounds) line s) same (round_goes code q first rounds line r is e)

first_goes : (code q : ℕ) (first : List FirstLine) (line : List ℕ) (more : State) (o : Option FirstLine) → next_bloc first line ≡ o → HasText code (made q first [] 0)
    → option_or (option_map (λ l. InFirst code q (first ++ l ∷ [])) o) (rounds_step code q first [] line) ≡ Some more → Goes (InFirst code q first) line more
first_goes code q first line more None e is h =
    let go = rounds_go code q first [] line more (next_round [] line) refl is h in
    (go.0, go.1 ∙ ap (λ (ls : List (List ℕ)). (head_lines code q ++ ls) ++ line ∷ []) (append-nil (map bloc_line first)))
first_goes code q first line more (Some l) e is h =
    let same : InFirst code q (first ++ l ∷ []) ≡ more = cc in
    subst (λ (s : State). Goes (InFirst code q first) line s) same (bloc_goes code q first line l is e)

pub end_lines : (code : ℕ) (c : Certificate) (line : List ℕ) → line ≡ TABLE.end → certificate_lines code c ≡ lines_before (AtEnd code c) ++ line ∷ []
end_lines code c line e =
    ap (λ (t : List ℕ). head_lines code c.quotient ++ (map bloc_line c.first ++ (round_lines 1 c.rounds ++ (vacant_line c.vacant ∷ t ∷ [])))) (sym e)
    ∙ ap (λ (l : List (List ℕ)). head_lines code c.quotient ++ (map bloc_line c.first ++ (l))) (sym (append_assoc (round_lines 1 c.rounds) (vacant_line c.vacant ∷ []) (line ∷ [])))
    ∙ ap (λ (l : List (List ℕ)). head_lines code c.quotient ++ l) (sym (append_assoc (map bloc_line c.first) (round_lines 1 c.rounds ++ vacant_line c.vacant ∷ []) (line ∷ [])))

pub step_goes : (st more : State) (line : List ℕ) → IsState st → step st line ≡ Some more → Goes st line more
unfolding step office_at
step_goes AtStart more line is h =
    let test = guard_some (bytes_eq line TABLE.version) (Some AtOffice) more h in
    let same : AtOffice ≡ more = cc in
    let text = same_line line TABLE.version test.0 in
    subst (λ (s : State). Goes AtStart line s) same (tt, ap (λ (t : List ℕ). t ∷ []) (sym text))
step_goes AtOffice more line is h =
    let found = map_some (λ code. AtQuotient code) (option_and_then proportional_code (one_number TABLE.office.word TABLE.office.low TABLE.office.high line)) more h in
    let code = and_then_some (one_number TABLE.office.word TABLE.office.low TABLE.office.high line) proportional_code found.0 found.1 in
    let read = one_read TABLE.office.word TABLE.office.low TABLE.office.high code.0 line code.1 in
    let test = guard_some (code_proportional code.0) (Some code.0) found.0 code.2 in
    let same : code.0 ≡ found.0 = cc in
    let there : Goes AtOffice line (AtQuotient found.0) = (subst (λ (n : ℕ). code_proportional n ≡ true) same test.0, ap (λ (t : List ℕ). TABLE.version ∷ t ∷ []) (ap office_line (sym same) ∙ sym read.text)) in
    subst (λ (s : State). Goes AtOffice line s) found.2 there
step_goes (AtQuotient code) more line is h =
    let found = map_some (λ q. InFirst code q []) (one_number TABLE.quotient.word TABLE.quotient.low TABLE.quotient.high line) more h in
    let read = one_read TABLE.quotient.word TABLE.quotient.low TABLE.quotient.high found.0 line found.1 in
    let there : Goes (AtQuotient code) line (InFirst code found.0 []) = (
      record { office = is; quotient = read.few; first = tt; few_lines = omega arith; rise = tt; rounds = tt; few_rounds = omega arith; vacant = omega arith },
      ap (λ (t : List ℕ). TABLE.version ∷ office_line code ∷ t ∷ []) (sym read.text),
    ) in
    subst (λ (s : State). Goes (AtQuotient code) line s) found.2 there
step_goes (InFirst code q first) more line is h = first_goes code q first line more (next_bloc first line) refl is h
step_goes (InRounds code q first rounds) more line is h = rounds_go code q first rounds line more (next_round rounds line) refl is h
step_goes (AtVacant code q first rounds) more line is h = vacant_goes code q first rounds line more is h
step_goes (AtEnd code c) more line is h =
    let test = guard_some (bytes_eq line TABLE.end) (Some (AtDone code c)) more h in
    let same : AtDone code c ≡ more = cc in
    let text = same_line line TABLE.end test.0 in
    let there : Goes (AtEnd code c) line (AtDone code c) = (is, end_lines code c line text) in
    subst (λ (s : State). Goes (AtEnd code c) line s) same there
step_goes (AtDone code c) more line is h = absurd (cc)

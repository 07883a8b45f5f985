-- Every state between two lines is on the way to a certificate.
use Rattle.std.proofs.Common.{◌≡◌, ℕ, suc, ◌+◌, ◌≤◌, List, [], ◌∷◌, ◌++◌, length, take, drop, map, true, Option, None, Some, refl, sym, ap, ◌∙◌, subst, append-nil, append_assoc, arith}
use Rattle.std.specs.Prelude.{Ok, Err}
use Rattle.election_tables.specs.Offices.{code_proportional}
use Rattle.seat_certificate.specs.declared.table.TheConstants.{TABLE}
use Rattle.seat_certificate.specs.declared.certificate.Certificate.{Certificate}
use Rattle.seat_certificate.specs.declared.certificate.FirstLine.{FirstLine}
use Rattle.seat_certificate.specs.declared.certificate.Round.{Round}
use Rattle.seat_certificate.specs.Reading.{AtDone, AtEnd, AtOffice, AtQuotient, AtStart, AtVacant, InFirst, InRounds, State, ended, goes, made, step}
use Rattle.seat_certificate.specs.Text.{HasText, bloc_line, certificate_lines, round_lines, vacant_line}
use Rattle.seat_certificate.proofs.Machine.{goes-cons, goes-nil, same_read}
use Rattle.seat_certificate.proofs.Steps.{IsState, end_lines, head_lines, lines_before, step_goes}
use Rattle.seat_certificate.proofs.Codes.{six}

-- ---- what was read to the end

pub record IsWhole (before lines : List (List ℕ)) (tail : List ℕ) (code : ℕ) (c : Certificate) : Type 0 where
  pub fits : HasText code c
  pub all : before ++ lines ≡ certificate_lines code c
  pub none : tail ≡ []

whole_at_end : (k : ℕ) (st : State) (tail : List ℕ) (code : ℕ) (c : Certificate) → IsState st → ended k st tail ≡ Ok (code, c) → IsWhole (lines_before st) [] tail code c
whole_at_end k AtStart tail code c is h = absurd (cc)
whole_at_end k AtOffice tail code c is h = absurd (cc)
whole_at_end k (AtQuotient n) tail code c is h = absurd (cc)
whole_at_end k (InFirst n q first) tail code c is h = absurd (cc)
whole_at_end k (InRounds n q first rounds) tail code c is h = absurd (cc)
whole_at_end k (AtVacant n q first rounds) tail code c is h = absurd (cc)
whole_at_end k (AtEnd n d) tail code c is h = absurd (cc)
whole_at_end k (AtDone n d) (b ∷ tail) code c is h = absurd (cc)
whole_at_end k (AtDone n d) [] code c is h =
    let both : (n, d) ≡ (code, c) = same_read (n, d) (code, c) (Ok (n, d)) refl h in
    let e : n ≡ code = ap (λ (p : ℕ × Certificate). p.0) both in
    let f : d ≡ c = ap (λ (p : ℕ × Certificate). p.1) both in
    record {
      fits = subst (λ (m : ℕ). HasText m c) e (subst (λ (x : Certificate). HasText n x) f is);
      all = append-nil (certificate_lines n d) ∙ ap (λ (m : ℕ). certificate_lines m d) e ∙ ap (λ (x : Certificate). certificate_lines code x) f;
      none = refl;
    }

whole_behind : (k : ℕ) (st : State) (line : List ℕ) (lines : List (List ℕ)) (tail : List ℕ) (code : ℕ) (c : Certificate) → IsState st → goes k st (line ∷ lines) tail ≡ Ok (code, c) → (o : Option State) → step st line ≡ o
    → ((more : State) → IsState more → goes (k + 1) more lines tail ≡ Ok (code, c) → IsWhole (lines_before more) lines tail code c) → IsWhole (lines_before st) (line ∷ lines) tail code c
whole_behind k st line lines tail code c is h None e later = let f = sym (goes-cons k st line lines tail None e) ∙ h in absurd (cc)
whole_behind k st line lines tail code c is h (Some more) e later =
    let go = step_goes st more line is e in
    let w = later more go.0 (sym (goes-cons k st line lines tail (Some more) e) ∙ h) in
    record {
      fits = w.fits;
      all = sym (append_assoc (lines_before st) (line ∷ []) lines) ∙ ap (λ (l : List (List ℕ)). l ++ lines) (sym go.1) ∙ w.all;
      none = w.none;
    }

pub whole : (k : ℕ) (st : State) (lines : List (List ℕ)) (tail : List ℕ) (code : ℕ) (c : Certificate) → IsState st → goes k st lines tail ≡ Ok (code, c) → IsWhole (lines_before st) lines tail code c
whole k st [] tail code c is h = whole_at_end k st tail code c is (sym (goes-nil k st tail) ∙ h)
whole k st (line ∷ lines) tail code c is h = whole_behind k st line lines tail code c is h (step st line) refl (λ more ok go. whole (k + 1) more lines tail code c ok go)

-- ---- where a fault is

-- so many lines were read, and the state behind them is one on the way to a certificate
pub record IsReached (before lines : List (List ℕ)) (k fault : ℕ) : Type 0 where
  pub count : ℕ
  pub number : fault ≡ k + count
  pub within : count ≤ length lines
  pub state : State
  pub is : IsState state
  pub lines_are : lines_before state ≡ before ++ take count lines

pub fault_at_end : (k fault : ℕ) (st : State) (tail : List ℕ) → ended k st tail ≡ Err fault → fault ≡ k
fault_at_end k fault AtStart tail h = cc
fault_at_end k fault AtOffice tail h = cc
fault_at_end k fault (AtQuotient n) tail h = cc
fault_at_end k fault (InFirst n q first) tail h = cc
fault_at_end k fault (InRounds n q first rounds) tail h = cc
fault_at_end k fault (AtVacant n q first rounds) tail h = cc
fault_at_end k fault (AtEnd n d) tail h = cc
fault_at_end k fault (AtDone n d) (b ∷ tail) h = cc
fault_at_end k fault (AtDone n d) [] h = absurd (cc)

reached_behind : (k fault : ℕ) (st : State) (line : List ℕ) (lines : List (List ℕ)) (tail : List ℕ) → IsState st → goes k st (line ∷ lines) tail ≡ Err fault → (o : Option State) → step st line ≡ o
    → ((more : State) → IsState more → goes (k + 1) more lines tail ≡ Err fault → IsReached (lines_before more) lines (k + 1) fault) → IsReached (lines_before st) (line ∷ lines) k fault
reached_behind k fault st line lines tail is h None e later =
    let f = sym (goes-cons k st line lines tail None e) ∙ h in
    let same : k ≡ fault = cc in
    record { count = 0; number = omega arith; within = omega arith; state = st; is = is; lines_are = sym (append-nil (lines_before st)) }
reached_behind k fault st line lines tail is h (Some more) e later =
    let go = step_goes st more line is e in
    let r = later more go.0 (sym (goes-cons k st line lines tail (Some more) e) ∙ h) in
    record {
      count = suc r.count;
      number = omega (arith, r.number);
      within = omega (arith, r.within);
      state = r.state;
      is = r.is;
      lines_are = r.lines_are ∙ ap (λ (l : List (List ℕ)). l ++ take r.count lines) go.1 ∙ append_assoc (lines_before st) (line ∷ []) (take r.count lines);
    }

pub reached : (k fault : ℕ) (st : State) (lines : List (List ℕ)) (tail : List ℕ) → IsState st → goes k st lines tail ≡ Err fault → IsReached (lines_before st) lines k fault
reached k fault st [] tail is h =
    let same = fault_at_end k fault st tail (sym (goes-nil k st tail) ∙ h) in
    record { count = 0; number = omega arith; within = omega arith; state = st; is = is; lines_are = sym (append-nil (lines_before st)) }
reached k fault st (line ∷ lines) tail is h = reached_behind k fault st line lines tail is h (step st line) refl (λ more ok go. reached (k + 1) fault more lines tail ok go)

-- ---- on the way

-- a certificate whose lines begin so
pub record IsOnTheWay (lines : List (List ℕ)) : Type 0 where
  pub code : ℕ
  pub certificate : Certificate
  pub fits : HasText code certificate
  pub rest : List (List ℕ)
  pub begins : certificate_lines code certificate ≡ lines ++ rest

abbrev nothing : Certificate
nothing = made 0 [] [] 0

nothing_fits : (code : ℕ) → code_proportional code ≡ true → HasText code nothing
nothing_fits code is = record { office = is; quotient = omega arith; first = tt; few_lines = omega arith; rise = tt; rounds = tt; few_rounds = omega arith; vacant = omega arith }

rounds_way : (code q : ℕ) (first : List FirstLine) (rounds : List Round) → HasText code (made q first rounds 0) → IsOnTheWay (lines_before (InRounds code q first rounds))
rounds_way code q first rounds is = record {
  code = code;
  certificate = made q first rounds 0;
  fits = is;
  rest = vacant_line 0 ∷ TABLE.end ∷ [];
  begins = ap (λ (l : List (List ℕ)). head_lines code q ++ l) (sym (append_assoc (map bloc_line first) (round_lines 1 rounds) (vacant_line 0 ∷ TABLE.end ∷ [])));
}

pub on_the_way : (st : State) → IsState st → IsOnTheWay (lines_before st)
on_the_way AtStart is = record { code = 6; certificate = nothing; fits = nothing_fits 6 six; rest = certificate_lines 6 nothing; begins = refl }
on_the_way AtOffice is = record { code = 6; certificate = nothing; fits = nothing_fits 6 six; rest = drop 1 (certificate_lines 6 nothing); begins = refl }
on_the_way (AtQuotient code) is = record { code = code; certificate = nothing; fits = nothing_fits code is; rest = drop 2 (certificate_lines code nothing); begins = refl }
on_the_way (InFirst code q first) is = record {
  code = code;
  certificate = made q first [] 0;
  fits = is;
  rest = vacant_line 0 ∷ TABLE.end ∷ [];
  begins = refl;
}
on_the_way (InRounds code q first rounds) is = rounds_way code q first rounds is
on_the_way (AtVacant code q first rounds) is = rounds_way code q first rounds is
on_the_way (AtEnd code c) is = record {
  code = code;
  certificate = c;
  fits = is;
  rest = TABLE.end ∷ [];
  begins = end_lines code c TABLE.end refl;
}
on_the_way (AtDone code c) is = record { code = code; certificate = c; fits = is; rest = []; begins = sym (append-nil (certificate_lines code c)) }

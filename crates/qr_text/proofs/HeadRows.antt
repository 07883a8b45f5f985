-- The fields before the offices: what is said there when one more is read, that the steps follow them, and how what was read goes on.
use Rattle.std.proofs.Common.{sym, Some, lit<, ◌≡◌, ℕ, zero, suc, ◌+◌, ◌≤◌, true, List, [], ◌∷◌, ◌++◌, map, take, drop, get_or, refl, ap, subst, arith}
use Rattle.std.specs.Prelude.{if◌then◌else◌, ◌==◌, nat_lt, option_map}
use Rattle.std.specs.List.{AllByRecursion, zip}
use Rattle.std.proofs.lemmas.Bool.{eqb-true}
use Rattle.urna_base.proofs.Every.{every_append}
use Rattle.urna_base.specs.Moment.{is_date}
use Rattle.qr_text.specs.Reading.{no_party, start, State, Code, Head, new_office, number_at, step, with_head}
use Rattle.qr_text.specs.Said.{ReportField, Test, head_field, head_tests, head_values}
use Rattle.qr_text.specs.Table.{row_text, fits, head_rows}
use Rattle.qr_text.specs.declared.said.Said.{Said}
use Rattle.qr_text.specs.declared.said.SaidOffice.{SaidOffice}
use Rattle.qr_text.specs.declared.said.SaidParty.{SaidParty}
use Rattle.qr_text.specs.declared.table.Row.{Row}
use Rattle.qr_text.specs.declared.table.TheConstants.{TABLE}
use Rattle.qr_text.proofs.Exact.{Traces}
use Rattle.qr_text.proofs.RowLaws.{number_again}

abbrev pub head_pairs : Said → List (Row × ℕ)
head_pairs s = zip head_rows (head_values s)

abbrev pub head_list : Said → List ReportField
head_list s = map (head_field s) (head_pairs s)

abbrev FitsRow : Row × ℕ → Type 0
FitsRow x = fits x.0.form x.1 ≡ true

-- the first n numbers have the forms of their fields
abbrev pub Fits : ℕ → Said → Type 0
Fits n s = AllByRecursion FitsRow (take n (head_pairs s))

abbrev pub row_at : ℕ → Row
row_at n = get_or head_rows n TABLE.orig

-- the state in which row n is wanted
abbrev pub at_row : ℕ → Said → SaidOffice → SaidParty → State
at_row n s o p = record { mode = Head n; said = s; office = o; party = p }

-- the state behind it, and its tests
abbrev pub after_head : ℕ → ℕ → Said → SaidOffice → SaidParty → State × List Test
after_head n v s o p = (
  record { mode = if n == 12 then Code else Head (n + 1); said = with_head n v s; office = o; party = p },
  head_tests (row_at n).tested (with_head n v s),
)

-- what is so of each of the rows
each_row : (P : ℕ → Type 0) → P 0 → P 1 → P 2 → P 3 → P 4 → P 5 → P 6 → P 7 → P 8 → P 9 → P 10 → P 11 → P 12 → (n : ℕ) → n ≤ 12 → P n
each_row P a b c d e f g h i j k l m zero few = a
each_row P a b c d e f g h i j k l m (suc zero) few = b
each_row P a b c d e f g h i j k l m (suc (suc zero)) few = c
each_row P a b c d e f g h i j k l m (suc (suc (suc zero))) few = d
each_row P a b c d e f g h i j k l m (suc (suc (suc (suc zero)))) few = e
each_row P a b c d e f g h i j k l m (suc (suc (suc (suc (suc zero))))) few = f
each_row P a b c d e f g h i j k l m (suc (suc (suc (suc (suc (suc zero)))))) few = g
each_row P a b c d e f g h i j k l m (suc (suc (suc (suc (suc (suc (suc zero))))))) few = h
each_row P a b c d e f g h i j k l m (suc (suc (suc (suc (suc (suc (suc (suc zero)))))))) few = i
each_row P a b c d e f g h i j k l m (suc (suc (suc (suc (suc (suc (suc (suc (suc zero))))))))) few = j
each_row P a b c d e f g h i j k l m (suc (suc (suc (suc (suc (suc (suc (suc (suc (suc zero)))))))))) few = k
each_row P a b c d e f g h i j k l m (suc (suc (suc (suc (suc (suc (suc (suc (suc (suc (suc zero))))))))))) few = l
each_row P a b c d e f g h i j k l m (suc (suc (suc (suc (suc (suc (suc (suc (suc (suc (suc (suc zero)))))))))))) few = m
each_row P a b c d e f g h i j k l m (suc (suc (suc (suc (suc (suc (suc (suc (suc (suc (suc (suc (suc n))))))))))))) few =
    absurd (omega arith)

-- ---- one more is read

pub head_steps : (n : ℕ) → n ≤ 12 → (s : Said) (o : SaidOffice) (q : SaidParty) (p : List ℕ)
    → step (at_row n s o q) p ≡ option_map (λ v. after_head n v s o q) (number_at (row_at n) p)
unfolding step head_rows
head_steps n few s o q p =
    each_row (λ m. step (at_row m s o q) p ≡ option_map (λ v. after_head m v s o q) (number_at (row_at m) p))
    refl refl refl refl refl refl refl refl refl refl refl refl refl n few

pub offices_stay : (n : ℕ) → n ≤ 12 → (v : ℕ) (s : Said) → (with_head n v s).offices ≡ s.offices
offices_stay n few v s =
    each_row (λ m. (with_head m v s).offices ≡ s.offices) refl refl refl refl refl refl refl refl refl refl refl refl refl n few

-- the fields that were read, and the one that is
pub fields_more : (n : ℕ) → n ≤ 12 → (v : ℕ) (s : Said)
    → take n (head_list s) ++ record { text = row_text (row_at n) v; tests = head_tests (row_at n).tested (with_head n v s) } ∷ []
    ≡ take (n + 1) (head_list (with_head n v s))
unfolding head_rows
fields_more n few v s =
    each_row (λ m. take m (head_list s) ++ record {
      text = row_text (row_at m) v;
      tests = head_tests (row_at m).tested (with_head m v s);
    } ∷ []
    ≡ take (m + 1) (head_list (with_head m v s)))
    refl refl refl refl refl refl refl refl refl refl refl refl refl n few

-- ORIG has no number but 0
pairs_more : (n : ℕ) → n ≤ 12 → (v : ℕ) (s : Said) → fits (row_at n).form v ≡ true
    → take n (head_pairs s) ++ (row_at n, v) ∷ [] ≡ take (n + 1) (head_pairs (with_head n v s))
unfolding head_rows
pairs_more n few v s =
    each_row (λ m. fits (row_at m).form v ≡ true
    → take m (head_pairs s) ++ (row_at m, v) ∷ [] ≡ take (m + 1) (head_pairs (with_head m v s)))
    (λ e. ap (λ (k : ℕ). (TABLE.orig, k) ∷ []) (eqb-true v 0 e))
    (λ e. refl) (λ e. refl) (λ e. refl) (λ e. refl) (λ e. refl) (λ e. refl)
    (λ e. refl) (λ e. refl) (λ e. refl) (λ e. refl) (λ e. refl) (λ e. refl) n few

pub fits_more : (n : ℕ) → n ≤ 12 → (v : ℕ) (s : Said) → Fits n s → fits (row_at n).form v ≡ true → Fits (n + 1) (with_head n v s)
fits_more n few v s h e =
    let P : List (Row × ℕ) → Type 0 = λ xs. AllByRecursion FitsRow xs in
    subst P (pairs_more n few v s e) (every_append FitsRow (take n (head_pairs s)) ((row_at n, v) ∷ []) h (e, tt))

-- ---- what is said is followed

-- the first n of what is said
abbrev pub head_upto : ℕ → Said → Said
head_upto n s = record {
  process = if nat_lt 1 n then s.process else 0;
  date = if nat_lt 2 n then s.date else 0;
  turn = if nat_lt 3 n then s.turn else 0;
  zone = if nat_lt 4 n then s.zone else 0;
  section = if nat_lt 5 n then s.section else 0;
  able = if nat_lt 6 n then s.able else 0;
  came = if nat_lt 7 n then s.came else 0;
  missed = if nat_lt 8 n then s.missed else 0;
  open_date = if nat_lt 9 n then s.open_date else 0;
  open_time = if nat_lt 10 n then s.open_time else 0;
  close_date = if nat_lt 11 n then s.close_date else 0;
  close_time = if nat_lt 12 n then s.close_time else 0;
  offices = [];
}

abbrev pub at_head : ℕ → Said → State
at_head n s = record { mode = if n == 13 then Code else Head n; said = head_upto n s; office = new_office 0; party = no_party }

abbrev number_of : ℕ → Said → ℕ
number_of n s = get_or (head_values s) n 0

head_goes : (n : ℕ) → n ≤ 12 → (s : Said) → fits (row_at n).form (number_of n s) ≡ true
    → step (at_head n s) (row_text (row_at n) (number_of n s)) ≡ Some (at_head (n + 1) s, head_tests (row_at n).tested s)
unfolding step head_rows
head_goes n few s =
    each_row (λ m. fits (row_at m).form (number_of m s) ≡ true
    → step (at_head m s) (row_text (row_at m) (number_of m s)) ≡ Some (at_head (m + 1) s, head_tests (row_at m).tested s))
    (λ e. rw (number_again TABLE.orig 0 tt e) refl)
    (λ e. rw (number_again TABLE.process s.process (lit< tt) e) refl)
    (λ e. rw (number_again TABLE.date s.date tt e) refl)
    (λ e. rw (number_again TABLE.turn s.turn (lit< tt) e) refl)
    (λ e. rw (number_again TABLE.zone s.zone (lit< tt) e) refl)
    (λ e. rw (number_again TABLE.section s.section (lit< tt) e) refl)
    (λ e. rw (number_again TABLE.able s.able (lit< tt) e) refl)
    (λ e. rw (number_again TABLE.came s.came (lit< tt) e) refl)
    (λ e. rw (number_again TABLE.missed s.missed (lit< tt) e) refl)
    (λ e. rw (number_again TABLE.open_date s.open_date tt e) refl)
    (λ e. rw (number_again TABLE.open_time s.open_time tt e) refl)
    (λ e. rw (number_again TABLE.close_date s.close_date tt e) refl)
    (λ e. rw (number_again TABLE.close_time s.close_time tt e) refl)
    n few

rest_begins : (n : ℕ) → n ≤ 12 → (s : Said) → (row_at n, number_of n s) ∷ drop (n + 1) (head_pairs s) ≡ drop n (head_pairs s)
unfolding head_rows
rest_begins n few s =
    each_row (λ m. (row_at m, number_of m s) ∷ drop (m + 1) (head_pairs s) ≡ drop m (head_pairs s))
    refl refl refl refl refl refl refl refl refl refl refl refl refl n few

-- k fields are left behind the first n
traced_from : (k n : ℕ) → n + k ≡ 13 → (s : Said) → AllByRecursion FitsRow (drop n (head_pairs s))
    → Traces (at_head n s) (map (head_field s) (drop n (head_pairs s))) (at_head 13 s)
unfolding head_rows
traced_from zero n all s h =
    let last : 13 ≡ n = omega arith in
    let P : ℕ → Type 0 = λ m. Traces (at_head m s) (map (head_field s) (drop m (head_pairs s))) (at_head 13 s) in
    subst P last refl
traced_from (suc k) n all s h =
    let few : n ≤ 12 = omega arith in
    let x : Row × ℕ = (row_at n, number_of n s) in
    let P : List (Row × ℕ) → Type 0 = λ xs. AllByRecursion FitsRow xs in
    let Q : List (Row × ℕ) → Type 0 = λ xs. Traces (at_head n s) (map (head_field s) xs) (at_head 13 s) in
    let fit : P (x ∷ drop (n + 1) (head_pairs s)) = subst P (sym (rest_begins n few s)) h in
    subst Q (rest_begins n few s) (at_head (n + 1) s, head_goes n few s fit.0, traced_from k (n + 1) (omega arith) s fit.1)

pub head_traced : (s : Said) → AllByRecursion FitsRow (head_pairs s) → Traces start (head_list s) (at_head 13 s)
head_traced s h = traced_from 13 0 refl s h

-- ---- what was read goes on

-- the first n of what is said, and behind it what may stand there: no votes on the first day, and one office
abbrev pub going_on : ℕ → Said → Said
going_on n s = record {
  process = if nat_lt 1 n then s.process else 1;
  date = if nat_lt 2 n then s.date else 10000101;
  turn = if nat_lt 3 n then s.turn else 1;
  zone = if nat_lt 4 n then s.zone else 1;
  section = if nat_lt 5 n then s.section else 1;
  able = if nat_lt 6 n then s.able else 0;
  came = if nat_lt 7 n then s.came else 0;
  missed = if nat_lt 8 n then s.missed else 0;
  open_date = if nat_lt 9 n then s.open_date else 10000101;
  open_time = if nat_lt 10 n then s.open_time else 0;
  close_date = if nat_lt 11 n then s.close_date else 10000101;
  close_time = if nat_lt 12 n then s.close_time else 0;
  offices = new_office 1 ∷ [];
}

pub front_stays : (n : ℕ) → n ≤ 12 → (s : Said) → take n (head_list (going_on n s)) ≡ take n (head_list s)
unfolding head_rows
front_stays n few s =
    each_row (λ m. take m (head_list (going_on m s)) ≡ take m (head_list s)) refl refl refl refl refl refl refl refl refl refl refl refl
    refl n few

pairs_going_on : (n : ℕ) → n ≤ 12 → (s : Said) → take n (head_pairs s) ++ drop n (head_pairs (going_on 0 s)) ≡ head_pairs (going_on n s)
unfolding head_rows
pairs_going_on n few s =
    each_row (λ m. take m (head_pairs s) ++ drop m (head_pairs (going_on 0 s)) ≡ head_pairs (going_on m s))
    refl refl refl refl refl refl refl refl refl refl refl refl refl n few

rest_fits : (n : ℕ) (xs : List (Row × ℕ)) → AllByRecursion FitsRow xs → AllByRecursion FitsRow (drop n xs)
rest_fits zero xs h = h
rest_fits (suc n) [] h = tt
rest_fits (suc n) (x ∷ xs) h = rest_fits n xs h.1

all_fit : (s : Said) → AllByRecursion FitsRow (head_pairs (going_on 0 s))
unfolding head_rows is_date
all_fit s = (refl, (refl, (refl, (refl, (refl, (refl, (refl, (refl, (refl, (refl, (refl, (refl, (refl, tt)))))))))))))

pub fits_going_on : (n : ℕ) → n ≤ 12 → (s : Said) → Fits n s → AllByRecursion FitsRow (head_pairs (going_on n s))
fits_going_on n few s h =
    let P : List (Row × ℕ) → Type 0 = λ xs. AllByRecursion FitsRow xs in
    subst P (pairs_going_on n few s)
    (every_append FitsRow (take n (head_pairs s)) (drop n (head_pairs (going_on 0 s))) h (rest_fits n (head_pairs (going_on 0 s)) (all_fit s)))

-- What the reading of a file answers is the fault of its first line that has one, by place.
use Rattle.std.proofs.Common.{◌≡◌, ℕ, zero, suc, ◌+◌, ◌<◌, Bool, true, false, List, [], ◌∷◌, length, Option, Some, None, refl, sym, ap, ◌∙◌, inl, inr, arith, lit<}
use Rattle.std.specs.Prelude.{nat_lt, nat_le, ◌==◌, ◌&&◌, ◌-◌, if◌then◌else◌, Result, Ok, Err, slice_get}
use Rattle.std.specs.Option.{option_and_then}
use Rattle.std.specs.Str.{bytes_eq}
use Rattle.std.proofs.lemmas.List.Splits.{length-slice_split}
use Rattle.std.proofs.lemmas.Bool.Decides.{nat_tests}
use Rattle.urna_base.proofs.Cases.{option_cases, result_cases}
use Rattle.hash_chain.proofs.Reading.{read_from, lines_read}
use Rattle.hash_chain.proofs.FileLaws.{read_step}
use Rattle.hash_chain.proofs.Remaking.{read_none, read_bad, read_later}
use Rattle.hash_chain.specs.Chain.{Link}
use Rattle.hash_chain.specs.Fault.{IsPartFault, failing_link, fault_at_link, fault_of_link, rows_read}
use Rattle.hash_chain.specs.Lines.{feeds_in, last_row, link_at, link_in, rows}
use Rattle.hash_chain.specs.declared.fault.PartFault.{PartFault}
use Rattle.hash_chain.specs.declared.fault.PartFault.TheVariants as fault

-- ---- the lines among some pieces, counted from 0: each piece but the last has its line feed

abbrev line_in : List (List ℕ) → ℕ → Option Link
line_in [] i = None
line_in (r ∷ []) i = None
line_in (r ∷ s ∷ rs) zero = link_in r
line_in (r ∷ s ∷ rs) (suc i) = line_in (s ∷ rs) i

-- the fault of line i of these pieces, the first of which is line k of its file
abbrev fault_in : ℕ → ℕ → Option Link → List (List ℕ) → ℕ → Option PartFault
fault_in feeds k before rs zero = fault_of_link feeds k before (line_in rs zero)
fault_in feeds k before rs (suc i) = fault_of_link feeds (k + suc i) (line_in rs i) (line_in rs (suc i))

-- so many of them are read
abbrev count_in : ℕ → List (List ℕ) → ℕ
count_in k [] = 0
count_in k (last ∷ []) = if length last == 0 && nat_lt 1 k then 0 else 1
count_in k (r ∷ s ∷ rs) = suc (count_in (k + 1) (s ∷ rs))

later : (feeds k i : ℕ) (before : Option Link) (r s : List ℕ) (rs : List (List ℕ)) (l : Link) → link_in r ≡ Some l
    → fault_in feeds k before (r ∷ s ∷ rs) (suc i) ≡ fault_in feeds (k + 1) (Some l) (s ∷ rs) i
later feeds k zero before r s rs l e = ap (λ (o : Option Link). fault_of_link feeds (k + 1) o (line_in (s ∷ rs) 0)) e
later feeds k (suc i) before r s rs l e =
    let place : k + suc (suc i) ≡ k + 1 + suc i = omega arith in
    ap (λ (n : ℕ). fault_of_link feeds n (line_in (s ∷ rs) i) (line_in (s ∷ rs) (suc i))) place

-- ---- a fault that is answered

record FirstFault (feeds k : ℕ) (before : Option Link) (rs : List (List ℕ)) (f : PartFault) : Type 0 where
  place : ℕ
  there : place < count_in k rs
  sound : (i : ℕ) → i < place → fault_in feeds k before rs i ≡ None
  fault : fault_in feeds k before rs place ≡ Some f

none_before : (P : ℕ → Type 0) (i : ℕ) → i < 0 → P i
none_before P i h = absurd (omega arith)

at_once : (feeds k : ℕ) (before : Option Link) (rs : List (List ℕ)) (f : PartFault) → 0 < count_in k rs → fault_in feeds k before rs 0 ≡ Some f → FirstFault feeds k before rs f
at_once feeds k before rs f some e =
    record { place = 0; there = some; sound = λ i h. none_before (λ j. fault_in feeds k before rs j ≡ None) i h; fault = e }

here : (feeds k : ℕ) (before : Option Link) (r s : List ℕ) (rs : List (List ℕ)) (o : Option Link) → link_in r ≡ o → fault_in feeds k before (r ∷ s ∷ rs) 0 ≡ fault_of_link feeds k before o
here feeds k before r s rs o e = ap (λ (x : Option Link). fault_of_link feeds k before x) e

-- what is answered behind the last line feed
abbrev at_end : Bool → ℕ → Result (List Link) PartFault
at_end b k = if b then Ok [] else Err (fault.Form k)

last_fault : (feeds k : ℕ) (before : Option Link) (last : List ℕ) (f : PartFault) → read_from feeds k before (last ∷ []) ≡ Err f → FirstFault feeds k before (last ∷ []) f
unfolding read_from
last_fault feeds k before last f e = by_test (length last == 0 && nat_lt 1 k) refl e
  where
    by_test : (b : Bool) → (length last == 0 && nat_lt 1 k) ≡ b → at_end b k ≡ Err f → FirstFault feeds k before (last ∷ []) f
    by_test true h g = absurd (cc)
    by_test false h g =
        let some : 0 < count_in k (last ∷ []) = rw h (lit< tt) in
        let same : fault.Form k ≡ f = cc in
        at_once feeds k before (last ∷ []) f some (ap (λ (x : PartFault). Some x) same)

sound_above : (feeds k : ℕ) (before : Option Link) (r s : List ℕ) (rs : List (List ℕ)) (l : Link) (place : ℕ) → link_in r ≡ Some l → failing_link feeds k before l ≡ None
    → ((i : ℕ) → i < place → fault_in feeds (k + 1) (Some l) (s ∷ rs) i ≡ None) → (i : ℕ) → i < suc place → fault_in feeds k before (r ∷ s ∷ rs) i ≡ None
sound_above feeds k before r s rs l place e fine below zero h = here feeds k before r s rs (Some l) e ∙ fine
sound_above feeds k before r s rs l place e fine below (suc i) h = later feeds k i before r s rs l e ∙ below i (omega arith)

first_fault : (feeds k : ℕ) (before : Option Link) (rs : List (List ℕ)) (f : PartFault) → read_from feeds k before rs ≡ Err f → FirstFault feeds k before rs f
unfolding read_from
first_fault feeds k before [] f e = absurd (cc)
first_fault feeds k before (last ∷ []) f e = last_fault feeds k before last f e
first_fault feeds k before (r ∷ s ∷ rs) f e =
    elim (option_cases (link_in r)) [
      | inl none ↦
          let answer : Err (fault.Form k) ≡ Err f = sym (read_none feeds k before r s rs none) ∙ e in
          let same : fault.Form k ≡ f = cc in
          at_once feeds k before (r ∷ s ∷ rs) f (omega arith) (here feeds k before r s rs None none ∙ ap (λ (x : PartFault). Some x) same)
      | inr found ↦ elim (option_cases (failing_link feeds k before found.0)) [
        | inr bad ↦
            let answer : Err bad.0 ≡ Err f = sym (read_bad feeds k before r s rs found.0 bad.0 found.1 bad.1) ∙ e in
            let same : bad.0 ≡ f = cc in
            at_once feeds k before (r ∷ s ∷ rs) f (omega arith) (here feeds k before r s rs (Some found.0) found.1 ∙ (bad.1 ∙ ap (λ (x : PartFault). Some x) same))
        | inl fine ↦ elim (result_cases (read_from feeds (k + 1) (Some found.0) (s ∷ rs))) [
          | inl ok ↦ let wrong : Ok (found.0 ∷ ok.0) ≡ Err f = sym (read_step feeds k before r s rs found.0 ok.0 found.1 fine ok.1) ∙ e in absurd (cc)
          | inr bad ↦
              let answer : Err bad.0 ≡ Err f = sym (read_later feeds k before r s rs found.0 bad.0 found.1 fine bad.1) ∙ e in
              let same : bad.0 ≡ f = cc in
              let rest = first_fault feeds (k + 1) (Some found.0) (s ∷ rs) bad.0 bad.1 in
              record {
                place = suc rest.place;
                there = let within = rest.there in omega arith;
                sound = sound_above feeds k before r s rs found.0 rest.place found.1 fine rest.sound;
                fault = later feeds k rest.place before r s rs found.0 found.1 ∙ (rest.fault ∙ ap (λ (x : PartFault). Some x) same);
              }
        ]
      ]
    ]

-- ---- where there is none, no line has one

last_sound : (feeds k : ℕ) (before : Option Link) (last : List ℕ) (ls : List Link) → read_from feeds k before (last ∷ []) ≡ Ok ls → (i : ℕ) → i < count_in k (last ∷ []) → fault_in feeds k before (last ∷ []) i ≡ None
unfolding read_from
last_sound feeds k before last ls e i h = by_test (length last == 0 && nat_lt 1 k) refl e
  where
    by_test : (b : Bool) → (length last == 0 && nat_lt 1 k) ≡ b → at_end b k ≡ Ok ls → fault_in feeds k before (last ∷ []) i ≡ None
    by_test false t g = absurd (cc)
    by_test true t g = let few : i < 0 = rw t at h in absurd (omega arith)

all_sound : (feeds k : ℕ) (before : Option Link) (rs : List (List ℕ)) (ls : List Link) → read_from feeds k before rs ≡ Ok ls → (i : ℕ) → i < count_in k rs → fault_in feeds k before rs i ≡ None
unfolding read_from
all_sound feeds k before [] ls e i h = absurd (omega arith)
all_sound feeds k before (last ∷ []) ls e i h = last_sound feeds k before last ls e i h
all_sound feeds k before (r ∷ s ∷ rs) ls e i h =
    elim (option_cases (link_in r)) [
      | inl none ↦ let bad : Err (fault.Form k) ≡ Ok ls = sym (read_none feeds k before r s rs none) ∙ e in absurd (cc)
      | inr found ↦ elim (option_cases (failing_link feeds k before found.0)) [
        | inr bad ↦ let wrong : Err bad.0 ≡ Ok ls = sym (read_bad feeds k before r s rs found.0 bad.0 found.1 bad.1) ∙ e in absurd (cc)
        | inl fine ↦ elim (result_cases (read_from feeds (k + 1) (Some found.0) (s ∷ rs))) [
          | inr bad ↦ let wrong : Err bad.0 ≡ Ok ls = sym (read_later feeds k before r s rs found.0 bad.0 found.1 fine bad.1) ∙ e in absurd (cc)
          | inl ok ↦ sound_above feeds k before r s rs found.0 (count_in (k + 1) (s ∷ rs)) found.1 fine (all_sound feeds (k + 1) (Some found.0) (s ∷ rs) ok.0 ok.1) i h
        ]
      ]
    ]

-- ---- the same of the lines of a whole file, counted from 1

above_zero : (i : ℕ) → nat_lt 0 (suc i) ≡ true
above_zero i = grind (arith, nat_tests)

line_place : (rs : List (List ℕ)) (n i : ℕ) → length rs ≡ n + 1 → (if nat_le (suc i) n then option_and_then link_in (slice_get rs i) else None) ≡ line_in rs i
line_place [] n i e = absurd (omega arith)
line_place (r ∷ []) n i e = let none : nat_le (suc i) n ≡ false = let zero_n : n ≡ 0 = omega arith in grind (arith, nat_tests) in rw none refl
line_place (r ∷ s ∷ rs) n zero e = let some : nat_le 1 n ≡ true = let above : 0 < n = omega arith in grind (arith, nat_tests) in rw some refl
line_place (r ∷ s ∷ rs) zero (suc i) e = absurd (omega arith)
line_place (r ∷ s ∷ rs) (suc n) (suc i) e =
    let rest = line_place (s ∷ rs) n i (omega arith) in
    let same : nat_le (suc (suc i)) (suc n) ≡ nat_le (suc i) n = grind (arith, nat_tests) in
    rw same rest

pub count_rows : (bytes : List ℕ) → length (rows bytes) ≡ feeds_in bytes + 1
count_rows bytes = length-slice_split (λ (b : ℕ). b == 10) bytes

line_is : (bytes : List ℕ) (i : ℕ) → link_at bytes (suc i) ≡ line_in (rows bytes) i
line_is bytes i =
    let less : suc i - 1 ≡ i = omega arith in
    rw (above_zero i, less) (line_place (rows bytes) (feeds_in bytes) i (count_rows bytes))

fault_is : (bytes : List ℕ) (i : ℕ) → fault_at_link bytes (suc i) ≡ fault_in (feeds_in bytes) 1 None (rows bytes) i
fault_is bytes zero = ap (λ (x : Option Link). fault_of_link (feeds_in bytes) 1 None x) (line_is bytes 0)
fault_is bytes (suc i) =
    let less : suc (suc i) - 1 ≡ suc i = omega arith in
    let place : suc (suc i) ≡ 1 + suc i = omega arith in
    ap (λ (k : ℕ). fault_of_link (feeds_in bytes) (suc (suc i)) (link_at bytes k) (link_at bytes (suc (suc i)))) less
    ∙ (ap (λ (x : Option Link). fault_of_link (feeds_in bytes) (suc (suc i)) x (link_at bytes (suc (suc i)))) (line_is bytes i)
    ∙ (ap (λ (x : Option Link). fault_of_link (feeds_in bytes) (suc (suc i)) (line_in (rows bytes) i) x) (line_is bytes (suc i))
    ∙ ap (λ (k : ℕ). fault_of_link (feeds_in bytes) k (line_in (rows bytes) i) (line_in (rows bytes) (suc i))) place))

empty_test : (t : List ℕ) → bytes_eq t [] ≡ (length t == 0)
empty_test [] = refl
empty_test (x ∷ t) = grind (arith, nat_tests)

count_later : (k n : ℕ) (rs : List (List ℕ)) → 1 < k → length rs ≡ n + 1 → count_in k rs ≡ (if length (last_row rs) == 0 then n else n + 1)
count_later k n [] h e = absurd (omega arith)
count_later k n (r ∷ []) h e =
    let zero_n : n ≡ 0 = omega arith in
    let test : nat_lt 1 k ≡ true = grind (arith, nat_tests) in
    rw (zero_n, test) (by_test (length r == 0))
  where
    by_test : (b : Bool) → (if b && true then 0 else 1) ≡ (if b then 0 else 0 + 1)
    by_test true = refl
    by_test false = refl
count_later k zero (r ∷ s ∷ rs) h e = absurd (omega arith)
count_later k (suc n) (r ∷ s ∷ rs) h e =
    let rest = count_later (k + 1) n (s ∷ rs) (omega arith) (omega arith) in
    rw rest (by_test (length (last_row (s ∷ rs)) == 0))
  where
    by_test : (b : Bool) → suc (if b then n else n + 1) ≡ (if b then suc n else suc n + 1)
    by_test true = refl
    by_test false = omega arith

count_first : (n : ℕ) (rs : List (List ℕ)) → length rs ≡ n + 1 → count_in 1 rs ≡ (if length (last_row rs) == 0 && nat_lt 0 n then n else n + 1)
count_first n [] e = absurd (omega arith)
count_first n (r ∷ []) e =
    let zero_n : n ≡ 0 = omega arith in
    rw zero_n (by_test (length r == 0))
  where
    by_test : (b : Bool) → (if b && nat_lt 1 1 then 0 else 1) ≡ (if b && nat_lt 0 0 then 0 else 0 + 1)
    by_test true = refl
    by_test false = refl
count_first zero (r ∷ s ∷ rs) e = absurd (omega arith)
count_first (suc n) (r ∷ s ∷ rs) e =
    let rest = count_later 2 n (s ∷ rs) (lit< tt) (omega arith) in
    rw (rest, above_zero n) (by_test (length (last_row (s ∷ rs)) == 0))
  where
    by_test : (b : Bool) → suc (if b then n else n + 1) ≡ (if b && true then suc n else suc n + 1)
    by_test true = refl
    by_test false = omega arith

count_lines : (bytes : List ℕ) → count_in 1 (rows bytes) ≡ rows_read bytes
count_lines bytes = count_first (feeds_in bytes) (rows bytes) (count_rows bytes) ∙ rw (empty_test (last_row (rows bytes))) refl

sound_from_1 : (bytes : List ℕ) (line : ℕ) → ((i : ℕ) → i < line → fault_in (feeds_in bytes) 1 None (rows bytes) i ≡ None) → (k : ℕ) → 0 < k → k < suc line → fault_at_link bytes k ≡ None
sound_from_1 bytes line sound zero some below = absurd (omega arith)
sound_from_1 bytes line sound (suc i) some below = fault_is bytes i ∙ sound i (omega arith)

-- the fault that is answered is the fault of the file
pub is_fault : (bytes : List ℕ) (f : PartFault) → lines_read bytes ≡ Err f → IsPartFault bytes f
unfolding lines_read
is_fault bytes f e =
    let first = first_fault (feeds_in bytes) 1 None (rows bytes) f e in
    let count = count_lines bytes in
    record {
      line = suc first.place;
      some = omega arith;
      there = let within = first.there in omega arith;
      sound = sound_from_1 bytes first.place first.sound;
      fault = fault_is bytes first.place ∙ first.fault;
    }

no_fault_at : (bytes : List ℕ) (ls : List Link) → lines_read bytes ≡ Ok ls → (k : ℕ) → 0 < k → k < rows_read bytes + 1 → fault_at_link bytes k ≡ None
unfolding lines_read
no_fault_at bytes ls e zero some within = absurd (omega arith)
no_fault_at bytes ls e (suc i) some within =
    let count = count_lines bytes in
    fault_is bytes i ∙ all_sound (feeds_in bytes) 1 None (rows bytes) ls e i (omega arith)

-- a file that is read has no fault
pub no_fault_of : (bytes : List ℕ) (ls : List Link) (f : PartFault) → lines_read bytes ≡ Ok ls → IsPartFault bytes f → ⊥
no_fault_of bytes ls f e h =
    let there = h.there in
    let none = no_fault_at bytes ls e h.line h.some (omega arith) in
    let some = h.fault in
    absurd (cc)

-- A body with the version in front and zeros behind it stands for the ledger before the first report
use Rattle.std.proofs.Common.{◌≡◌, inl, inr, ℕ, zero, suc, ◌+◌, ◌-◌, ◌%◌, ◌/◌, ◌<◌, ◌≤◌, Bool, false, cond, ◌==◌, List, [], ◌∷◌, length, get_or, map, replicate, set, Option, Some, None, refl, sym, ap, ◌∙◌, add-one, arith}
use Rattle.std.specs.Int.{w32, w64, bit_at, from_be_bytes}
use Rattle.std.specs.List.{range_with_len}
use Rattle.std.proofs.lemmas.Bool.{cases_lt}
use Rattle.std.proofs.lemmas.List.{ext_get_or, get_or-replicate, get_or-set_other, get_or-set_same, get_or_past, length-replicate, length-set}
use Rattle.std.proofs.lemmas.Nat.Bits.{bit_at-zero}
use Rattle.urna_outside.specs.Flash.{part}
use Rattle.urna_outside.proofs.Places.{get_or-part, length-part}
use Rattle.election_tables.specs.TablesData.{IsTables, TablesData}
use Rattle.intake_ledger.specs.Body.{StandsFor, hash_in, hashes_in, is_marked, kept_in, marked_before, number_in, sum_in, sum_offset, sums_in}
use Rattle.intake_ledger.specs.Laws.{EmptyHasBody}
use Rattle.intake_ledger.specs.Layout.{body_size, hashes_offset, marks_end, marks_offset, most_sums, number_offset, number_size, sum_size, version}
use Rattle.intake_ledger.specs.Ledger.{LedgerData, empty_ledger, panel_choices}
use Rattle.intake_ledger.proofs.Marks.{marked_more, marked_none}
use Rattle.intake_ledger.proofs.PanelChoices.{sums_few}
use Rattle.intake_ledger.proofs.WholeBody.{AreBytes, AreZero, IsWhole, is_whole}

-- what is the same in each place
same_in_each : {X Y : Type 0} (f : ℕ → Y) (y : Y) (xs : List X) (a : ℕ) → ((k : ℕ) → a ≤ k → k < a + length xs → f k ≡ y) → map (λ x. y) xs ≡ map f (range_with_len a (length xs))
same_in_each f y [] a each = refl
same_in_each {Y = Y} f y (x ∷ xs) a each =
    ap (λ (l : List Y). y ∷ l) (same_in_each f y xs (a + 1) (λ k ge lt. each k (omega arith) (omega arith)))
    ∙ ap (λ (z : Y). z ∷ map f (range_with_len (a + 1) (length xs))) (sym (each a (omega arith) (omega arith)))

module _ (bytes : List ℕ) (long : length bytes ≡ body_size) (first : get_or bytes 0 0 ≡ version) (zeros : (k : ℕ) → 0 < k → get_or bytes k 0 ≡ 0) where
  each_byte : AreBytes bytes
  each_byte zero = omega (arith, first)
  each_byte (suc k) = omega (arith, zeros (suc k) (omega arith))

  zeros_from : (from end : ℕ) → 0 < from → AreZero from end bytes
  zeros_from from end behind k ge lt = zeros k (omega arith)

  zeros_part : (at len : ℕ) → 0 < at → at + len ≤ body_size → part bytes at len ≡ replicate len 0
  zeros_part at len behind fits =
      let size = length-part bytes at len (omega (arith, long)) in
      ext_get_or 0 (part bytes at len) (replicate len 0) (size ∙ sym (length-replicate len 0)) (λ k lt.
      let within : k < len = omega (arith, lt, size) in
      get_or-part bytes at len k within ∙ zeros (at + k) (omega arith) ∙ sym (get_or-replicate len k 0 0 within))

  pub number_none : number_in bytes ≡ 0
  number_none = ap (from_be_bytes w32) (zeros_part number_offset number_size (omega arith) (omega arith))

  sum_none : (place : ℕ) → place < most_sums → sum_in bytes place ≡ 0
  sum_none place lt = ap (from_be_bytes w64) (zeros_part (sum_offset place) sum_size (omega arith) (omega arith))

  mark_none : (place : ℕ) → is_marked bytes place ≡ false
  mark_none place =
      ap (λ (n : ℕ). bit_at n (7 - place % 8) == 1) (zeros (marks_offset + place / 8) (omega arith))
      ∙ ap (λ (n : ℕ). n == 1) (bit_at-zero (7 - place % 8))

  none_marked : (sections : ℕ) → marked_before sections bytes ≡ 0
  none_marked zero = marked_none bytes
  none_marked (suc n) =
      omega (arith, ap (λ (k : ℕ). marked_before k bytes) (add-one n), marked_more n bytes, ap (λ (b : Bool). cond {A = ℕ} b 1 0) (mark_none n), none_marked n)

  module _ (t : TablesData) (tables : IsTables t) where
    empty_whole : IsWhole t bytes
    empty_whole =
        record {
          long = long;
          each = each_byte;
          version = first;
          behind_version = zeros_from 1 number_offset (omega arith);
          number = number_none ∙ sym (none_marked (length t.sections));
          no_more = λ p ge lt. mark_none p;
          behind_marks = zeros_from marks_end hashes_offset (omega arith);
          no_hash = λ p lt free. zeros_from _ _ (omega arith);
          within = λ k lt. omega (arith, sum_none k (omega (arith, sums_few t tables)));
          behind_sums = zeros_from _ _ (omega arith);
        }

    no_hashes : map (λ s. None) t.sections ≡ hashes_in (length t.sections) bytes
    no_hashes = same_in_each (kept_in bytes) None t.sections 0 (λ k ge lt. ap (λ (b : Bool). cond b (Some (hash_in bytes k)) None) (mark_none k))

    no_sums : map (λ x. 0) (panel_choices t) ≡ sums_in (length (panel_choices t)) bytes
    no_sums = same_in_each (sum_in bytes) 0 (panel_choices t) 0 (λ k ge lt. sum_none k (omega (arith, sums_few t tables)))

    pub empty_stands : StandsFor t (empty_ledger t) bytes
    empty_stands =
        record {
          whole = is_whole t bytes empty_whole;
          same =
              ap (λ (last : List (Option (List ℕ))). let l : LedgerData = record { last = last; sums = map (λ x. 0) (panel_choices t) } in l) no_hashes
              ∙ ap (λ (sums : List ℕ). let l : LedgerData = record { last = hashes_in (length t.sections) bytes; sums = sums } in l) no_sums;
        }

-- ---- that body is made of zeros

zero_at : (n k : ℕ) → get_or (replicate {A = ℕ} n 0) k 0 ≡ 0
zero_at n k = elim (cases_lt k n) [
  | inl within ↦ get_or-replicate n k 0 0 within
  | inr past ↦ get_or_past (replicate n 0) k 0 (omega (arith, length-replicate {A = ℕ} n 0))
]

module _ (n : ℕ) (xs : List ℕ) (are : xs ≡ replicate n 0) where
  pub versioned_long : length (set xs 0 version) ≡ n
  versioned_long = length-set xs 0 version ∙ ap length are ∙ length-replicate {A = ℕ} n 0

  pub versioned_first : 0 < n → get_or (set xs 0 version) 0 0 ≡ version
  versioned_first some = get_or-set_same xs 0 version 0 (omega (arith, ap length are, length-replicate {A = ℕ} n 0))

  pub versioned_rest : (k : ℕ) → 0 < k → get_or (set xs 0 version) k 0 ≡ 0
  versioned_rest k behind =
      get_or-set_other xs 0 k version 0 (λ same. absurd (omega (arith, same))) ∙ ap (λ (l : List ℕ). get_or l k 0) are ∙ zero_at n k

-- so there is one
empty_there : (n : ℕ) → n ≡ body_size → EmptyHasBody
empty_there n is t tables =
    let zeros : List ℕ = replicate n 0 in (
      set zeros 0 version,
      empty_stands (set zeros 0 version) (versioned_long n zeros refl ∙ is) (versioned_first n zeros refl (omega (arith, is))) (versioned_rest n zeros refl) t tables,
    )

pub empty_has_body : EmptyHasBody
empty_has_body t tables = empty_there body_size refl t tables

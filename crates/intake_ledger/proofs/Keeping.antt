-- What a change of some bytes leaves as it was
use Rattle.std.proofs.Common.{◌≡◌, ◌≢◌, inl, inr, ℕ, ◌+◌, ◌/◌, ◌%◌, ◌-◌, ◌*◌, ◌^◌, ◌<◌, ◌≤◌, ◌==◌, true, List, length, get_or, set, bit_or, ap, ◌∙◌, sym, arith}
use Rattle.std.specs.Int.{w8, w32, w64, from_be_bytes, to_be_bytes, bit_at}
use Rattle.std.proofs.lemmas.Bool.{cases_eq}
use Rattle.std.proofs.lemmas.List.{get_or-set_other, get_or-set_same}
use Rattle.std.proofs.lemmas.Nat.Bits.{bit_at_set_other, bit_at_set_same}
use Rattle.std.proofs.lemmas.Nat.{from_be_bytes-to_be_bytes_8}
use Rattle.urna_outside.specs.Confined.{IsInRange}
use Rattle.urna_outside.specs.Flash.{overwrite, part}
use Rattle.urna_outside.proofs.Places.{length-overwrite, overwrite_inside, overwrite_outside, part_by_bytes, same_part}
use Rattle.intake_ledger.specs.Body.{is_marked, number_in, sum_in, sum_offset}
use Rattle.intake_ledger.specs.Entry.{KeepsBytes}
use Rattle.intake_ledger.specs.Layout.{marks_offset, number_offset, number_size, sum_size}

-- one change and another
pub keeps_trans : (In : ℕ → Type 0) (a b c : List ℕ) → KeepsBytes In a b → KeepsBytes In b c → KeepsBytes In a c
keeps_trans In a b c first second =
    record { size = second.size ∙ first.size; bytes = λ k out. second.bytes k out ∙ first.bytes k out }

-- of more places
pub keeps_more : (In More : ℕ → Type 0) (a b : List ℕ) → ((k : ℕ) → In k → More k) → KeepsBytes In a b → KeepsBytes More a b
keeps_more In More a b more keeps = record { size = keeps.size; bytes = λ k out. keeps.bytes k (λ there. out (more k there)) }

module _ (In : ℕ → Type 0) (old new : List ℕ) (keeps : KeepsBytes In old new) where
  -- a part that has none of the places
  pub kept_part : (at len : ℕ) → at + len ≤ length old → ((k : ℕ) → at ≤ k → k < at + len → ¬ In k) → part new at len ≡ part old at len
  kept_part at len fits out = same_part new old at len keeps.size fits (λ k from below. keeps.bytes k (out k from below))

  pub kept_number : number_offset + number_size ≤ length old → ((k : ℕ) → number_offset ≤ k → k < number_offset + number_size → ¬ In k) → number_in new ≡ number_in old
  kept_number fits out = ap (from_be_bytes w32) (kept_part number_offset number_size fits out)

  pub kept_sum : (place : ℕ) → sum_offset place + sum_size ≤ length old → ((k : ℕ) → sum_offset place ≤ k → k < sum_offset place + sum_size → ¬ In k) → sum_in new place ≡ sum_in old place
  kept_sum place fits out = ap (from_be_bytes w64) (kept_part (sum_offset place) sum_size fits out)

  pub kept_mark : (place : ℕ) → ¬ In (marks_offset + place / 8) → is_marked new place ≡ is_marked old place
  kept_mark place out = ap (λ (n : ℕ). n / 2 ^ (7 - place % 8) % 2 == 1) (keeps.bytes (marks_offset + place / 8) out)

-- ---- bytes that are put

module _ (old : List ℕ) (at : ℕ) (bytes : List ℕ) (fits : at + length bytes ≤ length old) where
  pub put_keeps : KeepsBytes (IsInRange at (length bytes)) old (overwrite old at bytes)
  put_keeps =
      record {
        size = length-overwrite old at bytes fits;
        bytes = λ k out. overwrite_outside old at bytes fits k 0 (λ ge. beyond k ge (λ lt. out (ge, lt)));
      }
    where
      beyond : (k : ℕ) → at ≤ k → ¬ (k < at + length bytes) → at + length bytes ≤ k
      beyond k ge within = omega arith

  pub put_there : part (overwrite old at bytes) at (length bytes) ≡ bytes
  put_there =
      let long = length-overwrite old at bytes fits in
      part_by_bytes (overwrite old at bytes) bytes at (omega arith) (λ i below. overwrite_inside old at bytes fits i 0 below)

pub sum_put : (old : List ℕ) (place n : ℕ) → sum_offset place + sum_size ≤ length old → n < 2 ^ 64 → sum_in (overwrite old (sum_offset place) (to_be_bytes w64 n)) place ≡ n
sum_put old place n fits small =
    ap (from_be_bytes w64) (put_there old (sum_offset place) (to_be_bytes w64 n) fits) ∙ from_be_bytes-to_be_bytes_8 n small

-- ---- a bit that is set

module _ (old : List ℕ) (place : ℕ) (fits : marks_offset + place / 8 < length old) where
  abbrev at : ℕ
  at = marks_offset + place / 8

  -- the byte with the bit
  abbrev marked : ℕ
  marked = bit_or (get_or old at 0) (1 * 2 ^ (7 - place % 8) % 2 ^ 8)

  pub mark_there : is_marked (set old at marked) place ≡ true
  mark_there =
      ap (λ (n : ℕ). bit_at n (7 - place % 8) == 1) (get_or-set_same old at marked 0 fits)
      ∙ ap (λ (n : ℕ). n == 1) (bit_at_set_same w8 (get_or old at 0) (7 - place % 8) (omega arith))

  pub mark_other : (other : ℕ) → other ≢ place → is_marked (set old at marked) other ≡ is_marked old other
  mark_other other ne = elim (cases_eq (other / 8) (place / 8)) [
    | inl same ↦
        let here : marks_offset + other / 8 ≡ at = omega (arith, same) in
        ap (λ (k : ℕ). bit_at (get_or (set old at marked) k 0) (7 - other % 8) == 1) here
        ∙ ap (λ (n : ℕ). bit_at n (7 - other % 8) == 1) (get_or-set_same old at marked 0 fits)
        ∙ ap (λ (n : ℕ). n == 1) (bit_at_set_other w8 (get_or old at 0) (7 - place % 8) (omega arith) (7 - other % 8) (other_bit same))
        ∙ sym (ap (λ (k : ℕ). bit_at (get_or old k 0) (7 - other % 8) == 1) here)
    | inr apart ↦
        ap (λ (n : ℕ). bit_at n (7 - other % 8) == 1) (get_or-set_other old at (marks_offset + other / 8) marked 0 (λ e. apart (omega arith)))
  ]
    where
      other_bit : other / 8 ≡ place / 8 → 7 - other % 8 ≢ 7 - place % 8
      other_bit same e = ne (omega arith)

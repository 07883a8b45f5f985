-- A ledger has one body
use Rattle.std.proofs.Common.{◌≡◌, inl, inr, ℕ, ◌+◌, ◌-◌, ◌*◌, ◌/◌, ◌%◌, ◌<◌, ◌≤◌, Bool, true, false, cond, ◌==◌, List, length, get_or, Option, Some, None, is_some, refl, sym, ap, ◌∙◌, arith}
use Rattle.std.specs.Int.{w32, w64, bit_at, to_be_bytes}
use Rattle.std.proofs.lemmas.Bool.{cases_lt}
use Rattle.std.proofs.lemmas.Bool.Decides.{nat_tests}
use Rattle.std.proofs.lemmas.List.{ext_get_or, get_or_past}
use Rattle.std.proofs.lemmas.List.FromFn.{get_or-map-range_with_len}
use Rattle.std.proofs.lemmas.Nat.{be_bytes_4, be_bytes_8}
use Rattle.std.proofs.lemmas.Nat.Bits.{same_from_bits_below}
use Rattle.urna_outside.specs.Flash.{part}
use Rattle.urna_outside.proofs.Places.{get_or-part, length-part}
use Rattle.election_tables.specs.TablesData.{IsTables, TablesData}
use Rattle.intake_ledger.specs.Body.{StandsFor, hash_in, hash_offset, is_marked, kept_in, number_in, sum_in, sum_offset}
use Rattle.intake_ledger.specs.Layout.{body_size, hash_size, hashes_offset, marked_sections, marks_end, marks_offset, most_sums, number_offset, number_size, sum_size, sums_offset}
use Rattle.intake_ledger.specs.Ledger.{LedgerData, panel_choices}
use Rattle.intake_ledger.proofs.PanelChoices.{sums_few}
use Rattle.intake_ledger.proofs.Marks.{marked_same}
use Rattle.intake_ledger.proofs.Ranking.{hash_or_none}
use Rattle.intake_ledger.proofs.WholeBody.{AreBytes, AreZero, IsWhole, whole}

-- ---- parts of bytes

pub bytes_in_part : (bytes : List ℕ) (at len : ℕ) → AreBytes bytes → at + len ≤ length bytes → AreBytes (part bytes at len)
bytes_in_part bytes at len are fits i = elim (cases_lt i len) [
  | inl within ↦ omega (arith, get_or-part bytes at len i within, are (at + i))
  | inr past ↦ omega (arith, get_or_past (part bytes at len) i 0 (omega (arith, length-part bytes at len fits)))
]

in_part : (a b : List ℕ) (at len k : ℕ) → part a at len ≡ part b at len → at ≤ k → k < at + len → get_or a k 0 ≡ get_or b k 0
in_part a b at len k same ge lt =
    let there : at + (k - at) ≡ k = omega arith in
    let byte : (bytes : List ℕ) → get_or (part bytes at len) (k - at) 0 ≡ get_or bytes k 0 =
    λ bytes. get_or-part bytes at len (k - at) (omega arith) ∙ ap (λ (i : ℕ). get_or bytes i 0) there in
    sym (byte a) ∙ ap (λ (l : List ℕ). get_or l (k - at) 0) same ∙ byte b

same_bit : (a b i : ℕ) → (bit_at a i == 1) ≡ (bit_at b i == 1) → bit_at a i ≡ bit_at b i
same_bit a b i e =
    let small : bit_at a i < 2 = omega arith in
    let also : bit_at b i < 2 = omega arith in
    grind (arith, nat_tests)

the_hash : (marked : Bool) (h k : List ℕ) (other : Bool) → marked ≡ true → cond marked (Some h) None ≡ cond other (Some k) None → h ≡ k
the_hash true h k true e same = cc
the_hash true h k false e same = absurd (cc)
the_hash false h k other e same = absurd (cc)

-- ---- two bodies of one ledger

module _ (t : TablesData) (tables : IsTables t) (l : LedgerData) (a b : List ℕ) (a_stands : StandsFor t l a) (b_stands : StandsFor t l b) where
  wa : IsWhole t a
  wa = whole t a a_stands.whole

  wb : IsWhole t b
  wb = whole t b b_stands.whole

  abbrev sums : ℕ
  sums = length (panel_choices t)

  same_kept : (p : ℕ) → p < length t.sections → kept_in a p ≡ kept_in b p
  same_kept p lt =
      sym (get_or-map-range_with_len (kept_in a) 0 (length t.sections) p p None lt (omega arith))
      ∙ ap (λ (m : LedgerData). get_or m.last p None) (sym a_stands.same ∙ b_stands.same)
      ∙ get_or-map-range_with_len (kept_in b) 0 (length t.sections) p p None lt (omega arith)

  same_sum : (p : ℕ) → p < sums → sum_in a p ≡ sum_in b p
  same_sum p lt =
      sym (get_or-map-range_with_len (sum_in a) 0 sums p p 0 lt (omega arith))
      ∙ ap (λ (m : LedgerData). get_or m.sums p 0) (sym a_stands.same ∙ b_stands.same)
      ∙ get_or-map-range_with_len (sum_in b) 0 sums p p 0 lt (omega arith)

  same_mark : (p : ℕ) → p < marked_sections → is_marked a p ≡ is_marked b p
  same_mark p lt = elim (cases_lt p (length t.sections)) [
    | inl here ↦ sym (hash_or_none (is_marked a p) (hash_in a p)) ∙ ap (λ (o : Option (List ℕ)). is_some o) (same_kept p here) ∙ hash_or_none (is_marked b p) (hash_in b p)
    | inr past ↦ wa.no_more p past lt ∙ sym (wb.no_more p past lt)
  ]

  same_number : number_in a ≡ number_in b
  same_number = wa.number ∙ marked_same (length t.sections) a b (λ p lt. same_mark p (omega (arith, tables.section_count.1))) ∙ sym wb.number

  -- the bytes of the marks
  mark_byte : (k : ℕ) → marks_offset ≤ k → k < marks_end → get_or a k 0 ≡ get_or b k 0
  mark_byte k ge lt =
      same_from_bits_below 8 (get_or a k 0) (get_or b k 0) (wa.each k) (wb.each k) (λ i small.
      let p : ℕ = 8 * (k - marks_offset) + (7 - i) in
      let byte : marks_offset + p / 8 ≡ k = omega arith in
      let bit : 7 - p % 8 ≡ i = omega arith in
      let here : (bytes : List ℕ) → is_marked bytes p ≡ (bit_at (get_or bytes k 0) i == 1) =
      λ bytes. ap (λ (n : ℕ). bit_at (get_or bytes n 0) (7 - p % 8) == 1) byte ∙ ap (λ (n : ℕ). bit_at (get_or bytes k 0) n == 1) bit in
      same_bit (get_or a k 0) (get_or b k 0) i (sym (here a) ∙ same_mark p (omega arith) ∙ here b))

  -- those of the hashes
  hash_byte : (k : ℕ) → hashes_offset ≤ k → k < sums_offset → get_or a k 0 ≡ get_or b k 0
  hash_byte k ge lt = go (is_marked a p) refl
    where
      p : ℕ
      p = (k - hashes_offset) / hash_size

      few : p < marked_sections
      few = omega arith

      go : (marked : Bool) → is_marked a p ≡ marked → get_or a k 0 ≡ get_or b k 0
      go true is = elim (cases_lt p (length t.sections)) [
        | inl here ↦ in_part a b (hash_offset p) hash_size k (the_hash (is_marked a p) (hash_in a p) (hash_in b p) (is_marked b p) is (same_kept p here)) (omega arith) (omega arith)
        | inr past ↦ let none = wa.no_more p past few in absurd (cc)
      ]
      go false is = wa.no_hash p few is k (omega arith) (omega arith) ∙ sym (wb.no_hash p few (sym (same_mark p few) ∙ is) k (omega arith) (omega arith))

  few_sums : sums ≤ most_sums
  few_sums = sums_few t tables

  number_part : (bytes : List ℕ) → IsWhole t bytes → to_be_bytes w32 (number_in bytes) ≡ part bytes number_offset number_size
  number_part bytes w =
      be_bytes_4 (part bytes number_offset number_size) (number_in bytes) (length-part bytes number_offset number_size (omega (arith, w.long)))
      (bytes_in_part bytes number_offset number_size w.each (omega (arith, w.long))) refl

  number_byte : (k : ℕ) → number_offset ≤ k → k < number_offset + number_size → get_or a k 0 ≡ get_or b k 0
  number_byte k ge lt = in_part a b number_offset number_size k (sym (number_part a wa) ∙ ap (to_be_bytes w32) same_number ∙ number_part b wb) ge lt

  sum_part : (bytes : List ℕ) (p : ℕ) → p < most_sums → IsWhole t bytes → to_be_bytes w64 (sum_in bytes p) ≡ part bytes (sum_offset p) sum_size
  sum_part bytes p lt w =
      be_bytes_8 (part bytes (sum_offset p) sum_size) (sum_in bytes p) (length-part bytes (sum_offset p) sum_size (omega (arith, w.long)))
      (bytes_in_part bytes (sum_offset p) sum_size w.each (omega (arith, w.long))) refl

  sum_byte : (k : ℕ) → sums_offset ≤ k → k < sum_offset sums → get_or a k 0 ≡ get_or b k 0
  sum_byte k ge lt =
      let p : ℕ = (k - sums_offset) / sum_size in
      let here : p < sums = omega arith in
      let few : p < most_sums = omega (arith, few_sums) in
      in_part a b (sum_offset p) sum_size k (sym (sum_part a p few wa) ∙ ap (to_be_bytes w64) (same_sum p here) ∙ sum_part b p few wb) (omega arith) (omega arith)

  -- zeros in both
  both_zero : (from end k : ℕ) → AreZero from end a → AreZero from end b → from ≤ k → k < end → get_or a k 0 ≡ get_or b k 0
  both_zero from end k first second ge lt = first k ge lt ∙ sym (second k ge lt)

  each_byte : (k : ℕ) → k < body_size → get_or a k 0 ≡ get_or b k 0
  each_byte k lt = elim (cases_lt k 1) [
    | inl below ↦
        let first : k ≡ 0 = omega arith in
        ap (λ (i : ℕ). get_or a i 0) first ∙ wa.version ∙ sym (ap (λ (i : ℕ). get_or b i 0) first ∙ wb.version)
    | inr from_1 ↦ elim (cases_lt k number_offset) [
      | inl below ↦ both_zero 1 number_offset k wa.behind_version wb.behind_version from_1 below
      | inr from_number ↦ elim (cases_lt k marks_offset) [
        | inl below ↦ number_byte k from_number below
        | inr from_marks ↦ elim (cases_lt k marks_end) [
          | inl below ↦ mark_byte k from_marks below
          | inr from_end ↦ elim (cases_lt k hashes_offset) [
            | inl below ↦ both_zero marks_end hashes_offset k wa.behind_marks wb.behind_marks from_end below
            | inr from_hashes ↦ elim (cases_lt k sums_offset) [
              | inl below ↦ hash_byte k from_hashes below
              | inr from_sums ↦ elim (cases_lt k (sum_offset sums)) [
                | inl below ↦ sum_byte k from_sums below
                | inr behind ↦ both_zero (sum_offset sums) body_size k wa.behind_sums wb.behind_sums behind lt
              ]
            ]
          ]
        ]
      ]
    ]
  ]

  pub one_body : a ≡ b
  one_body = ext_get_or 0 a b (wa.long ∙ sym wb.long) (λ k lt. each_byte k (omega (arith, wa.long)))

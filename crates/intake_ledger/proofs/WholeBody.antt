-- What is so of a body, field by field
use Rattle.std.proofs.Common.{◌≡◌, inl, inr, ℕ, ◌+◌, ◌*◌, ◌<◌, ◌≤◌, Bool, true, false, not, ◌&&◌, ◌||◌, ◌==◌, nat_lt, List, length, get_or, refl, sym, ap, ◌∙◌, arith}
use Rattle.std.specs.List.{list_all}
use Rattle.std.proofs.lemmas.List.{get_or_default, get_or_past}
use Rattle.std.proofs.lemmas.List.Sums.{AllPass-from_list_all, list_all-from_AllPass}
use Rattle.std.proofs.lemmas.Bool.{and_from, and_parts, cases_lt, eq-eqb, eqb-true, le-leb, leb-true, lt-ltb, ltb-true, not-true}
use Rattle.election_tables.specs.TablesData.{TablesData}
use Rattle.poll_report.specs.Report.{greatest_count}
use Rattle.intake_ledger.specs.Body.{are_zero, has_fields, has_hash, has_marks, has_size, has_sums, has_version, hash_offset, have_hashes, is_body, is_marked, is_within, marked_before, no_more_marks, number_in, sum_in, sum_offset}
use Rattle.intake_ledger.specs.Layout.{body_size, hash_size, hashes_offset, marked_sections, marks_end, number_offset, version}
use Rattle.intake_ledger.specs.Ledger.{panel_choices}
use Rattle.intake_ledger.proofs.Ranges.{all_pass, each_passes}

-- each is a byte
abbrev pub AreBytes : List ℕ → Type 0
AreBytes bytes = (i : ℕ) → get_or bytes i 0 < 256

-- zeros stand from one place up to another
abbrev pub AreZero : ℕ → ℕ → List ℕ → Type 0
AreZero from end bytes = (k : ℕ) → from ≤ k → k < end → get_or bytes k 0 ≡ 0

pub record IsWhole (t : TablesData) (bytes : List ℕ) : Type 0 where
  pub long : length bytes ≡ body_size
  pub each : AreBytes bytes
  pub version : get_or bytes 0 0 ≡ version
  pub behind_version : AreZero 1 number_offset bytes
  pub number : number_in bytes ≡ marked_before (length t.sections) bytes
  pub no_more : (p : ℕ) → length t.sections ≤ p → p < marked_sections → is_marked bytes p ≡ false
  pub behind_marks : AreZero marks_end hashes_offset bytes
  pub no_hash : (p : ℕ) → p < marked_sections → is_marked bytes p ≡ false → AreZero (hash_offset p) (hash_offset p + hash_size) bytes
  pub within : (k : ℕ) → k < length (panel_choices t) → sum_in bytes k ≤ greatest_count * number_in bytes
  pub behind_sums : AreZero (sum_offset (length (panel_choices t))) body_size bytes

zeros_pass : (from end : ℕ) (bytes : List ℕ) → AreZero from end bytes → are_zero from end bytes ≡ true
zeros_pass from end bytes zeros = all_pass (λ k. get_or bytes k 0 == 0) from end (λ k ge lt. eq-eqb (get_or bytes k 0) 0 (zeros k ge lt))

zeros_are : (from end : ℕ) (bytes : List ℕ) → are_zero from end bytes ≡ true → AreZero from end bytes
zeros_are from end bytes pass k ge lt = eqb-true (get_or bytes k 0) 0 (each_passes (λ i. get_or bytes i 0 == 0) from end pass k ge lt)

pub size_is : (bytes : List ℕ) → AreBytes bytes → length bytes ≡ body_size → has_size bytes ≡ true
unfolding has_size
size_is bytes are long = and_from _ _ (eq-eqb (length bytes) body_size long)
    (list_all-from_AllPass (λ b. nat_lt b 256) bytes (λ i d lt. lt-ltb (get_or bytes i d) 256 (omega (arith, get_or_default bytes i d 0 lt, are i))))

size_of : (bytes : List ℕ) → has_size bytes ≡ true → (length bytes ≡ body_size) × AreBytes bytes
unfolding has_size
size_of bytes is =
    let parts = and_parts (length bytes == body_size) (list_all (λ b. nat_lt b 256) bytes) is in (
      eqb-true (length bytes) body_size parts.0,
      λ i. elim (cases_lt i (length bytes)) [
        | inl within ↦ ltb-true (get_or bytes i 0) 256 (AllPass-from_list_all (λ b. nat_lt b 256) bytes parts.1 i 0 within)
        | inr past ↦ omega (arith, get_or_past bytes i 0 past)
      ],
    )

or_if : (b c : Bool) → (b ≡ false → c ≡ true) → (b || c) ≡ true
or_if true c is = refl
or_if false c is = is refl

-- each field of a body, by the tests
module _ (t : TablesData) (bytes : List ℕ) (is : is_body t bytes ≡ true) where
  both : (has_size bytes ≡ true) × (has_fields t bytes ≡ true)
  both = and_parts _ _ is

  size : (length bytes ≡ body_size) × AreBytes bytes
  size = size_of bytes both.0

  fields : (has_version bytes ≡ true) × (has_marks (length t.sections) bytes && (have_hashes bytes && has_sums (length (panel_choices t)) bytes) ≡ true)
  unfolding has_fields
  fields = and_parts _ _ both.1

  first : (get_or bytes 0 0 == version ≡ true) × (are_zero 1 number_offset bytes ≡ true)
  first = and_parts _ _ fields.0

  behind : (has_marks (length t.sections) bytes ≡ true) × (have_hashes bytes && has_sums (length (panel_choices t)) bytes ≡ true)
  behind = and_parts _ _ fields.1

  marks : (number_in bytes == marked_before (length t.sections) bytes ≡ true) × (no_more_marks (length t.sections) bytes && are_zero marks_end hashes_offset bytes ≡ true)
  marks = and_parts _ _ behind.0

  no_marks : (no_more_marks (length t.sections) bytes ≡ true) × (are_zero marks_end hashes_offset bytes ≡ true)
  no_marks = and_parts _ _ marks.1

  last : (have_hashes bytes ≡ true) × (has_sums (length (panel_choices t)) bytes ≡ true)
  last = and_parts _ _ behind.1

  no_hash_there : (p : ℕ) → p < marked_sections → is_marked bytes p ≡ false → are_zero (hash_offset p) (hash_offset p + hash_size) bytes ≡ true
  no_hash_there p lt free =
      sym (ap (λ (b : Bool). b || are_zero (hash_offset p) (hash_offset p + hash_size) bytes) free) ∙ each_passes (has_hash bytes) 0 marked_sections last.0 p (omega arith) lt

  pub whole : IsWhole t bytes
  whole =
      let sums = and_parts _ (are_zero (sum_offset (length (panel_choices t))) body_size bytes) last.1 in
      record {
        long = size.0;
        each = size.1;
        version = eqb-true (get_or bytes 0 0) version first.0;
        behind_version = zeros_are 1 number_offset bytes first.1;
        number = eqb-true (number_in bytes) (marked_before (length t.sections) bytes) marks.0;
        no_more = λ p ge lt. not-true (is_marked bytes p) (each_passes (λ place. not (is_marked bytes place)) (length t.sections) marked_sections no_marks.0 p ge lt);
        behind_marks = zeros_are marks_end hashes_offset bytes no_marks.1;
        no_hash = λ p lt free. zeros_are (hash_offset p) (hash_offset p + hash_size) bytes (no_hash_there p lt free);
        within = λ k lt. leb-true (sum_in bytes k) (greatest_count * number_in bytes) (each_passes (is_within (number_in bytes) bytes) 0 (length (panel_choices t)) sums.0 k (omega arith) lt);
        behind_sums = zeros_are (sum_offset (length (panel_choices t))) body_size bytes sums.1;
      }

-- and the tests, by the fields
pub is_whole : (t : TablesData) (bytes : List ℕ) → IsWhole t bytes → is_body t bytes ≡ true
unfolding has_fields
is_whole t bytes w =
    let head : has_version bytes ≡ true = and_from _ _ (eq-eqb (get_or bytes 0 0) version w.version) (zeros_pass 1 number_offset bytes w.behind_version) in
    let none_past : no_more_marks (length t.sections) bytes ≡ true =
    all_pass (λ p. not (is_marked bytes p)) (length t.sections) marked_sections (λ p ge lt. ap not (w.no_more p ge lt)) in
    let marks : has_marks (length t.sections) bytes ≡ true =
    and_from _ _ (eq-eqb (number_in bytes) (marked_before (length t.sections) bytes) w.number) (and_from _ _ none_past (zeros_pass marks_end hashes_offset bytes w.behind_marks)) in
    let hashes : have_hashes bytes ≡ true = all_pass (has_hash bytes) 0 marked_sections (λ p ge lt.
    or_if (is_marked bytes p) (are_zero (hash_offset p) (hash_offset p + hash_size) bytes) (λ free. zeros_pass (hash_offset p) (hash_offset p + hash_size) bytes (w.no_hash p lt free))) in
    let sums : has_sums (length (panel_choices t)) bytes ≡ true = and_from _ _
    (all_pass (is_within (number_in bytes) bytes) 0 (length (panel_choices t)) (λ k ge lt. le-leb (sum_in bytes k) (greatest_count * number_in bytes) (w.within k lt)))
    (zeros_pass (sum_offset (length (panel_choices t))) body_size bytes w.behind_sums) in
    and_from _ _ (size_is bytes w.each w.long) (and_from _ _ head (and_from _ _ marks (and_from _ _ hashes sums)))

-- What some bytes stand for is a ledger of the tables
use Rattle.std.proofs.Common.{ℕ, zero, suc, ◌+◌, ◌*◌, ◌<◌, ◌≤◌, Bool, true, false, cond, List, [], ◌∷◌, length, map, Some, None, IfSome, sym, subst, arith}
use Rattle.std.specs.List.{AllByRecursion, range_with_len}
use Rattle.std.proofs.lemmas.List.FromFn.{length-map-range_with_len}
use Rattle.urna_outside.proofs.Places.{length-part}
use Rattle.election_tables.specs.TablesData.{IsTables, TablesData}
use Rattle.poll_report.specs.Report.{greatest_count}
use Rattle.intake_ledger.specs.Body.{StandsFor, hash_in, hash_offset, is_marked, kept_in, ledger_in, sum_in}
use Rattle.intake_ledger.specs.Layout.{hash_size, marked_sections}
use Rattle.intake_ledger.specs.Ledger.{IsHash, IsLedger, LedgerData, accepted_in, panel_choices}
use Rattle.intake_ledger.proofs.OneBody.{bytes_in_part}
use Rattle.intake_ledger.proofs.Ranking.{number_is}
use Rattle.intake_ledger.proofs.WholeBody.{AreBytes, IsWhole, whole}

all_bytes : (bytes : List ℕ) → AreBytes bytes → AllByRecursion (λ b. b < 256) bytes
all_bytes [] are = tt
all_bytes (b ∷ bytes) are = (are 0, all_bytes bytes (λ i. are (suc i)))

each_of_range : {Y : Type 0} (P : Y → Type 0) (f : ℕ → Y) (a n : ℕ) → ((k : ℕ) → a ≤ k → k < a + n → P (f k)) → AllByRecursion P (map f (range_with_len a n))
each_of_range P f a zero each = tt
each_of_range P f a (suc n) each = (each a (omega arith) (omega arith), each_of_range P f (a + 1) n (λ k ge lt. each k (omega arith) (omega arith)))

module _ (t : TablesData) (tables : IsTables t) (bytes : List ℕ) (l : LedgerData) (stands : StandsFor t l bytes) where
  w : IsWhole t bytes
  w = whole t bytes stands.whole

  hash_is : (place : ℕ) → place < marked_sections → IsHash (hash_in bytes place)
  hash_is place lt = (
    length-part bytes (hash_offset place) hash_size (omega (arith, w.long)),
    all_bytes (hash_in bytes place) (bytes_in_part bytes (hash_offset place) hash_size w.each (omega (arith, w.long))),
  )

  kept_is : (place : ℕ) → place < marked_sections → (b : Bool) → IfSome (cond b (Some (hash_in bytes place)) None) IsHash
  kept_is place lt true = hash_is place lt
  kept_is place lt false = tt

  sum_is : (k : ℕ) → k < length (panel_choices t) → sum_in bytes k ≤ greatest_count * accepted_in (ledger_in t bytes)
  sum_is k lt = subst (λ (n : ℕ). sum_in bytes k ≤ greatest_count * n) (number_is t bytes stands.whole) (w.within k lt)

  pub is_ledger : IsLedger t l
  is_ledger =
      subst (IsLedger t) (sym stands.same)
      (record {
        sections = length-map-range_with_len (kept_in bytes) 0 (length t.sections);
        hashes = each_of_range (λ hash. IfSome hash IsHash) (kept_in bytes) 0 (length t.sections)
            (λ place ge lt. kept_is place (omega (arith, tables.section_count.1)) (is_marked bytes place));
        choices = length-map-range_with_len (sum_in bytes) 0 (length (panel_choices t));
        within = each_of_range (λ n. n ≤ greatest_count * accepted_in (ledger_in t bytes)) (sum_in bytes) 0 (length (panel_choices t)) (λ k ge lt. sum_is k (omega arith));
      })

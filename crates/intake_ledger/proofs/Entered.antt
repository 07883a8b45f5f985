-- A body in which a report was entered stands for the ledger with that report
use Rattle.std.proofs.Common.{◌≡◌, ◌≢◌, inl, inr, ℕ, suc, ◌+◌, ◌*◌, ◌<◌, ◌≤◌, ◌^◌, Bool, true, false, cond, List, [], ◌∷◌, length, get_or, map, set, slice_get, Option, Some, None, refl, sym, ap, subst, ◌∙◌, arith}
use Rattle.std.specs.List.{range_with_len}
use Rattle.std.proofs.lemmas.Bool.{cases_eq}
use Rattle.std.proofs.lemmas.List.{get_or-set_other, get_or-set_same, length-set}
use Rattle.std.proofs.lemmas.List.FromFn.{fill_by_all, get_or-map-range_with_len, length-map-range_with_len}
use Rattle.std.proofs.lemmas.Option.{slice_get-get_or, slice_get_within}
use Rattle.urna_outside.specs.Confined.{IsInRange}
use Rattle.election_tables.specs.TablesData.{IsTables, TablesData}
use Rattle.poll_report.specs.Report.{greatest_count}
use Rattle.poll_report.specs.declared.report.Report.{Report}
use Rattle.vote_kinds.specs.declared.choice.Choice.{Choice}
use Rattle.vote_kinds.specs.declared.choice.Choice.TheVariants as choice
use Rattle.intake_ledger.specs.Body.{StandsFor, hash_in, hash_offset, hashes_in, is_marked, kept_in, number_in, sum_in, sum_offset, sums_in}
use Rattle.intake_ledger.specs.Entry.{HasAdded, HasSection, IsOfSection}
use Rattle.intake_ledger.specs.Layout.{body_size, hash_size, hashes_offset, marked_sections, marks_end, most_sums, number_offset, sum_size, sums_offset}
use Rattle.intake_ledger.specs.Ledger.{LedgerData, panel_choices, votes_in, with_report, with_votes}
use Rattle.intake_ledger.proofs.PanelChoices.{sums_few}
use Rattle.intake_ledger.proofs.Entering.{sum_stays}
use Rattle.intake_ledger.proofs.Keeping.{kept_mark, kept_number, kept_part}
use Rattle.intake_ledger.proofs.Marks.{marked_few, marked_fewer, marked_one}
use Rattle.intake_ledger.proofs.WholeBody.{AreBytes, AreZero, IsWhole, is_whole}

-- ---- there is room for it

-- where a section has no report, one more is within the number
pub one_more_fits : (t : TablesData) → IsTables t → (old : List ℕ) → IsWhole t old → (place : ℕ) → place < length t.sections → is_marked old place ≡ false → number_in old < marked_sections
one_more_fits t tables old w place lt free = omega (arith, w.number, marked_fewer (length t.sections) place old lt free, tables.section_count.1)

-- and a report's votes are within the sums
pub votes_fit : (t : TablesData) → IsTables t → (old : List ℕ) → IsWhole t old → (k : ℕ) → k < length (panel_choices t) → sum_in old k + greatest_count < 2 ^ 64
votes_fit t tables old w k lt = omega (arith, w.within k lt, w.number, marked_few (length t.sections) old, tables.section_count.1)

-- ---- the sums

sums_more : (r : Report) (old new : List ℕ) (xs : List (ℕ × Choice)) (a : ℕ) → ((i : ℕ) (x : ℕ × Choice) → slice_get xs i ≡ Some x → sum_in new (a + i) ≡ sum_in old (a + i) + votes_in x r)
    → with_votes xs r (map (sum_in old) (range_with_len a (length xs))) ≡ map (sum_in new) (range_with_len a (length xs))
sums_more r old new [] a each = refl
sums_more r old new (x ∷ xs) a each =
    let here : a + 0 ≡ a = omega arith in
    let first : sum_in new a ≡ sum_in old a + votes_in x r = subst (λ (k : ℕ). sum_in new k ≡ sum_in old k + votes_in x r) here (each 0 x refl) in
    ap (λ (n : ℕ). n ∷ with_votes xs r (map (sum_in old) (range_with_len (a + 1) (length xs)))) (sym first)
    ∙ ap (λ (l : List ℕ). sum_in new a ∷ l) (sums_more r old new xs (a + 1) (λ i y at.
    let there : a + suc i ≡ a + 1 + i = omega arith in
    subst (λ (k : ℕ). sum_in new k ≡ sum_in old k + votes_in y r) there (each (suc i) y at)))

-- ---- the body

module _ (t : TablesData) (tables : IsTables t) (place : ℕ) (hash : List ℕ) (r : Report) (old marked now : List ℕ) (w : IsWhole t old) (section : place < length t.sections)
    (free : is_marked old place ≡ false) (has : HasSection place hash old marked) (added : HasAdded (panel_choices t) r (length (panel_choices t)) marked now)
    (bytes : AreBytes now) (votes_few : (x : ℕ × Choice) → votes_in x r ≤ greatest_count) where
  abbrev sections : ℕ
  sections = length t.sections

  abbrev sums : ℕ
  sums = length (panel_choices t)

  abbrev IsOfSums : ℕ → Type 0
  IsOfSums = IsInRange sums_offset (sum_size * sums)

  few : place < marked_sections
  few = omega (arith, section, tables.section_count.1)

  few_sums : sums ≤ most_sums
  few_sums = sums_few t tables

  long_marked : length marked ≡ body_size
  long_marked = has.kept.size ∙ w.long

  long_now : length now ≡ body_size
  long_now = added.kept.size ∙ long_marked

  pub number_now : number_in now ≡ number_in old + 1
  number_now = kept_number IsOfSums marked now added.kept (omega (arith, long_marked)) (λ k ge lt there. absurd (omega (arith, there.0))) ∙ has.number

  mark_stays : (p : ℕ) → p < marked_sections → is_marked now p ≡ is_marked marked p
  mark_stays p lt = kept_mark IsOfSums marked now added.kept p (λ there. absurd (omega (arith, there.0)))

  mark_now : is_marked now place ≡ true
  mark_now = mark_stays place few ∙ has.marked

  mark_other : (p : ℕ) → p < marked_sections → p ≢ place → is_marked now p ≡ is_marked old p
  mark_other p lt ne = mark_stays p lt ∙ has.others p lt ne

  sum_now : (k : ℕ) (x : ℕ × Choice) → slice_get (panel_choices t) k ≡ Some x → sum_in now k ≡ sum_in old k + votes_in x r
  sum_now k x at =
      let lt = slice_get_within (panel_choices t) k x at in
      added.sums k x lt at ∙ ap (λ (n : ℕ). n + votes_in x r) (sum_stays place hash old marked w.long few has k (omega (arith, few_sums)))

  byte_now : (k : ℕ) → ¬ IsOfSection place k → ¬ IsOfSums k → get_or now k 0 ≡ get_or old k 0
  byte_now k out apart = added.kept.bytes k apart ∙ has.kept.bytes k out

  -- zeros that are not among what was written
  zeros_now : (from end : ℕ) → AreZero from end old → ((k : ℕ) → from ≤ k → k < end → ¬ IsOfSection place k) → ((k : ℕ) → from ≤ k → k < end → ¬ IsOfSums k) → AreZero from end now
  zeros_now from end zeros out apart k ge lt = byte_now k (out k ge lt) (apart k ge lt) ∙ zeros k ge lt

  hash_apart : (p : ℕ) → p < marked_sections → p ≢ place → (k : ℕ) → hash_offset p ≤ k → k < hash_offset p + hash_size → ¬ IsOfSection place k
  hash_apart p lt ne k ge below (inl number) = absurd (omega (arith, number.1))
  hash_apart p lt ne k ge below (inr (inl mark)) = absurd (omega (arith, few))
  hash_apart p lt ne k ge below (inr (inr there)) = ne (omega (arith, there.0, there.1))

  other_section : (p : ℕ) → p < marked_sections → is_marked now p ≡ false → p ≢ place
  other_section p lt is e = let was : is_marked now p ≡ true = ap (is_marked now) e ∙ mark_now in absurd (cc)

  whole_now : IsWhole t now
  whole_now =
      record {
        long = long_now;
        each = bytes;
        version = byte_now 0 (before_number 0 (omega arith)) (λ there. absurd (omega (arith, there.0))) ∙ w.version;
        behind_version = zeros_now 1 number_offset w.behind_version (λ k ge lt. before_number k lt) (λ k ge lt there. absurd (omega (arith, there.0)));
        number = number_now ∙ ap (λ (n : ℕ). n + 1) w.number ∙ sym (marked_one sections place old now section free mark_now (λ p lt. mark_other p (omega (arith, tables.section_count.1))));
        no_more = λ p ge lt. mark_other p lt (λ e. absurd (omega (arith, section))) ∙ w.no_more p ge lt;
        behind_marks = zeros_now marks_end hashes_offset w.behind_marks between (λ k ge lt there. absurd (omega (arith, there.0)));
        no_hash = λ p lt is.
            let ne = other_section p lt is in
            zeros_now (hash_offset p) (hash_offset p + hash_size) (w.no_hash p lt (sym (mark_other p lt ne) ∙ is)) (hash_apart p lt ne) (λ k ge below there. absurd (omega (arith, there.0)));
        within = within_now;
        behind_sums = zeros_now (sum_offset sums) body_size w.behind_sums behind (λ k ge lt there. absurd (omega (arith, there.1)));
      }
    where
      before_number : (k : ℕ) → k < number_offset → ¬ IsOfSection place k
      before_number k lt (inl number) = absurd (omega (arith, number.0))
      before_number k lt (inr (inl mark)) = absurd (omega arith)
      before_number k lt (inr (inr there)) = absurd (omega (arith, there.0))

      between : (k : ℕ) → marks_end ≤ k → k < hashes_offset → ¬ IsOfSection place k
      between k ge lt (inl number) = absurd (omega (arith, number.1))
      between k ge lt (inr (inl mark)) = absurd (omega (arith, few))
      between k ge lt (inr (inr there)) = absurd (omega (arith, there.0))

      behind : (k : ℕ) → sum_offset sums ≤ k → k < body_size → ¬ IsOfSection place k
      behind k ge lt (inl number) = absurd (omega (arith, number.1))
      behind k ge lt (inr (inl mark)) = absurd (omega (arith, few))
      behind k ge lt (inr (inr there)) = absurd (omega (arith, there.1, few))

      within_now : (k : ℕ) → k < sums → sum_in now k ≤ greatest_count * number_in now
      within_now k lt =
          let x : ℕ × Choice = get_or (panel_choices t) k (0, choice.Blank) in
          omega (arith, w.within k lt, sum_now k x (slice_get-get_or (panel_choices t) k (0, choice.Blank) lt), votes_few x, number_now)

  kept_now : (p : ℕ) → p < sections → p ≢ place → kept_in now p ≡ kept_in old p
  kept_now p lt ne =
      let within : p < marked_sections = omega (arith, tables.section_count.1) in
      ap (λ (b : Bool). cond b (Some (hash_in now p)) None) (mark_other p within ne)
      ∙ ap (λ (h : List ℕ). cond (is_marked old p) (Some h) None)
      (kept_part IsOfSums marked now added.kept (hash_offset p) hash_size (omega (arith, long_marked)) (λ k ge below there. absurd (omega (arith, there.0)))
      ∙ kept_part (IsOfSection place) old marked has.kept (hash_offset p) hash_size (omega (arith, w.long)) (hash_apart p within ne))

  kept_here : kept_in now place ≡ Some hash
  kept_here =
      ap (λ (b : Bool). cond b (Some (hash_in now place)) None) mark_now
      ∙ ap (λ (h : List ℕ). Some h)
      (kept_part IsOfSums marked now added.kept (hash_offset place) hash_size (omega (arith, long_marked, few)) (λ k ge below there. absurd (omega (arith, there.0, few))) ∙ has.last)

  last_now : set (hashes_in sections old) place (Some hash) ≡ hashes_in sections now
  last_now = fill_by_all (kept_in now) (set (hashes_in sections old) place (Some hash)) sections None (length-set (hashes_in sections old) place (Some hash) ∙ length-map-range_with_len (kept_in old) 0 sections) each
    where
      each : (p : ℕ) → p < sections → get_or (set (hashes_in sections old) place (Some hash)) p None ≡ kept_in now p
      each p lt = elim (cases_eq p place) [
        | inl here ↦
            ap (λ (k : ℕ). get_or (set (hashes_in sections old) place (Some hash)) k None) here
            ∙ get_or-set_same (hashes_in sections old) place (Some hash) None (omega (arith, section, length-map-range_with_len (kept_in old) 0 sections))
            ∙ sym (ap (kept_in now) here ∙ kept_here)
        | inr apart ↦
            get_or-set_other (hashes_in sections old) place p (Some hash) None apart
            ∙ get_or-map-range_with_len (kept_in old) 0 sections p p None lt (omega arith)
            ∙ sym (kept_now p lt apart)
      ]

  sums_now : with_votes (panel_choices t) r (sums_in sums old) ≡ sums_in sums now
  sums_now = sums_more r old now (panel_choices t) 0 (λ i x at.
      let start : i ≡ 0 + i = omega arith in
      subst (λ (k : ℕ). sum_in now k ≡ sum_in old k + votes_in x r) start (sum_now i x at))

  pub entered_stands : (l : LedgerData) → StandsFor t l old → StandsFor t (with_report t place hash r l) now
  entered_stands l stands =
      record {
        whole = is_whole t now whole_now;
        same =
            ap (with_report t place hash r) stands.same
            ∙ ap (λ (last : List (Option (List ℕ))). (let m : LedgerData = record { last = last; sums = with_votes (panel_choices t) r (sums_in sums old) } in m)) last_now
            ∙ ap (λ (told : List ℕ). (let m : LedgerData = record { last = hashes_in sections now; sums = told } in m)) sums_now;
      }

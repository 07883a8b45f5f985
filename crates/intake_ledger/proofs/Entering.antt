-- A section has a report more: the number, its bit and its hash are written
use Rattle.std.proofs.Common.{◌≡◌, ◌≢◌, inl, inr, ℕ, ◌+◌, ◌/◌, ◌<◌, ◌≤◌, true, List, length, subst, ◌∙◌, arith}
use Rattle.urna_outside.specs.Confined.{IsInRange}
use Rattle.urna_outside.specs.Flash.{overwrite, part}
use Rattle.intake_ledger.specs.Body.{hash_in, hash_offset, is_marked, number_in, sum_in, sum_offset}
use Rattle.intake_ledger.specs.Entry.{HasSection, IsOfSection, KeepsBytes}
use Rattle.intake_ledger.specs.Layout.{body_size, hash_size, marked_sections, marks_offset, most_sums, number_offset, number_size}
use Rattle.intake_ledger.proofs.Keeping.{keeps_more, keeps_trans, kept_mark, kept_number, kept_sum, put_keeps, put_there}

module _ (place : ℕ) (hash old counted marked : List ℕ) (long : length old ≡ body_size) (few : place < marked_sections) (hash_long : length hash ≡ hash_size)
    (number : number_in counted ≡ number_in old + 1) (counts : KeepsBytes (IsInRange number_offset number_size) old counted)
    (mark : is_marked marked place ≡ true) (mark_others : (other : ℕ) → other ≢ place → is_marked marked other ≡ is_marked counted other)
    (marks : KeepsBytes (λ k. k ≡ marks_offset + place / 8) counted marked) where
  abbrev new : List ℕ
  new = overwrite marked (hash_offset place) hash

  hash_fits : hash_offset place + length hash ≤ length marked
  hash_fits = omega (arith, marks.size, counts.size, long, hash_long)

  puts : KeepsBytes (IsInRange (hash_offset place) hash_size) marked new
  puts = subst (λ (n : ℕ). KeepsBytes (IsInRange (hash_offset place) n) marked new) hash_long (put_keeps marked (hash_offset place) hash hash_fits)

  hash_there : hash_in new place ≡ hash
  hash_there = subst (λ (n : ℕ). part new (hash_offset place) n ≡ hash) hash_long (put_there marked (hash_offset place) hash hash_fits)

  -- the hash stands behind all bits
  mark_stays : (other : ℕ) → other < marked_sections → is_marked new other ≡ is_marked marked other
  mark_stays other lt = kept_mark (IsInRange (hash_offset place) hash_size) marked new puts other (λ there. absurd (omega (arith, there.0)))

  pub section_put : HasSection place hash old new
  section_put =
      record {
        number =
            kept_number (IsInRange (hash_offset place) hash_size) marked new puts (omega (arith, marks.size, counts.size, long)) (λ k ge lt there. absurd (omega (arith, there.0)))
            ∙ kept_number (λ k. k ≡ marks_offset + place / 8) counted marked marks (omega (arith, counts.size, long)) (λ k ge lt there. absurd (omega arith))
            ∙ number;
        marked = mark_stays place few ∙ mark;
        others = λ other lt ne.
            mark_stays other lt ∙ mark_others other ne
            ∙ kept_mark (IsInRange number_offset number_size) old counted counts other (λ there. absurd (omega (arith, there.1)));
        last = hash_there;
        kept = keeps_trans (IsOfSection place) old counted new
            (keeps_more (IsInRange number_offset number_size) (IsOfSection place) old counted (λ k there. inl there) counts)
            (keeps_trans (IsOfSection place) counted marked new
            (keeps_more (λ k. k ≡ marks_offset + place / 8) (IsOfSection place) counted marked (λ k there. inr (inl there)) marks)
            (keeps_more (IsInRange (hash_offset place) hash_size) (IsOfSection place) marked new (λ k there. inr (inr there)) puts));
      }

-- the sums stand behind all of it
behind_section : (place k : ℕ) → place < marked_sections → IsOfSection place k → k < sum_offset 0
behind_section place k few (inl number) = omega (arith, number.1)
behind_section place k few (inr (inl mark)) = omega arith
behind_section place k few (inr (inr hash)) = omega (arith, hash.1)

pub sum_stays : (place : ℕ) (hash old new : List ℕ) → length old ≡ body_size → place < marked_sections → HasSection place hash old new → (k : ℕ) → k < most_sums → sum_in new k ≡ sum_in old k
sum_stays place hash old new long few has k lt =
    kept_sum (IsOfSection place) old new has.kept k (omega (arith, long)) (λ b ge below there. absurd (omega (arith, behind_section place b few there)))

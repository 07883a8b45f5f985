-- The votes of a number, which one place of the counts has, and those of a choice
use Rattle.std.proofs.Common.{◌≡◌, ◌≢◌, inl, inr, ℕ, zero, suc, ◌+◌, ◌<◌, ◌≤◌, ◌==◌, true, cond, List, [], ◌∷◌, ◌++◌, length, get_or, slice_get, Option, Some, None, subst, ap, arith}
use Rattle.std.specs.Prelude.{nat_lt}
use Rattle.std.specs.List.Sorted.{IsStrictlyIncreasing}
use Rattle.std.specs.Option.{option_map_or}
use Rattle.std.proofs.lemmas.Bool.{and_parts, cases_lt}
use Rattle.std.proofs.lemmas.Bool.Decides.{nat_tests}
use Rattle.std.proofs.lemmas.List.{get_or-map, length-map}
use Rattle.std.proofs.lemmas.List.Kept.{AllPairs-from_increasing}
use Rattle.std.proofs.lemmas.List.Sums.{sum_by-cons}
use Rattle.poll_report.specs.Report.{EachAfter, IsOfficeCount, IsReport, MayCount, greatest_count, is_above, numbers_of, total_of}
use Rattle.poll_report.specs.declared.report.Count.{Count}
use Rattle.poll_report.specs.declared.report.OfficeCount.{OfficeCount}
use Rattle.poll_report.specs.declared.report.Report.{Report}
use Rattle.vote_kinds.specs.declared.choice.Choice.{Choice}
use Rattle.vote_kinds.specs.declared.choice.Choice.TheVariants as choice
use Rattle.section_intake.specs.Sums.{votes_for}
use Rattle.section_intake.proofs.AcceptedLaws.{nominal_within, party_within, report_few}
use Rattle.intake_ledger.specs.Ledger.{votes_in, votes_of_choice}

-- ---- the place of a number

abbrev pub no_count : Count
no_count = record { number = 0; votes = 0 }

abbrev pub number_at : List Count → ℕ → ℕ
number_at counts k = (get_or counts k no_count).number

-- the votes of a count, if it has the number
abbrev pub votes_if : ℕ → Count → ℕ
votes_if number c = cond (c.number == number) c.votes 0

none_if : (number : ℕ) (c : Count) → c.number ≢ number → votes_if number c ≡ 0
none_if number c other = grind (arith, nat_tests)

-- no count has the number,
nowhere : (number : ℕ) (counts : List Count) → ((k : ℕ) → k < length counts → number_at counts k ≢ number) → votes_for number counts ≡ 0
nowhere number [] other = omega arith
nowhere number (c ∷ counts) other =
    let rest = nowhere number counts (λ k lt. other (suc k) (omega arith)) in
    omega (arith, sum_by-cons (votes_if number) c counts, none_if number c (other zero (omega arith)), rest)

-- or none but the one in a place
only_at : (number : ℕ) (counts : List Count) (at : ℕ) → ((k : ℕ) → k < length counts → k ≢ at → number_at counts k ≢ number)
    → votes_for number counts ≡ votes_if number (get_or counts at no_count)
only_at number [] at other = grind (arith, nat_tests)
only_at number (c ∷ counts) zero other =
    let rest = nowhere number counts (λ k lt. other (suc k) (omega arith) (omega arith)) in
    omega (arith, sum_by-cons (votes_if number) c counts, rest)
only_at number (c ∷ counts) (suc at) other =
    let rest = only_at number counts at (λ k lt e. other (suc k) (omega arith) (omega arith)) in
    omega (arith, sum_by-cons (votes_if number) c counts, none_if number c (other zero (omega arith) (omega arith)), rest)

less : (counts : List Count) → IsStrictlyIncreasing (numbers_of counts) → (i j : ℕ) → i < j → j < length counts → number_at counts i < number_at counts j
less counts rise i j before within =
    let all = AllPairs-from_increasing (numbers_of counts) rise i j 0 before (omega (arith, length-map counts (λ (c : Count). c.number))) in
    omega (arith, all, get_or-map (λ (c : Count). c.number) counts i no_count 0 (omega arith), get_or-map (λ (c : Count). c.number) counts j no_count 0 within)

-- Where counts rise, the votes of a number stand, if anywhere, at the last place whose number isn't above it, or at the first one.
pub votes_at : (number : ℕ) (counts : List Count) (at : ℕ) → IsStrictlyIncreasing (numbers_of counts)
    → (0 < at → (at < length counts) × (number_at counts at ≤ number)) → (at + 1 < length counts → number < number_at counts (at + 1))
    → votes_for number counts ≡ votes_if number (get_or counts at no_count)
votes_at number counts at rise here next = only_at number counts at (λ k lt other same. elim (cases_lt k at) [
  | inl before ↦ omega (arith, here, less counts rise k at before (omega arith))
  | inr e ↦ elim (cases_lt (at + 1) k) [
    | inl behind ↦ omega (arith, next, less counts rise (at + 1) k behind lt)
    | inr e' ↦ let is : k ≡ at + 1 = omega arith in omega (arith, next, ap (number_at counts) is)
  ]
])

-- ---- the counts of a report rise

above_last : (before : List Count) (c : Count) (n : ℕ) → is_above (numbers_of (before ++ c ∷ [])) n ≡ true → c.number < n
above_last [] c n above = grind (arith, nat_tests)
above_last (b ∷ before) c n above = above_last before c n (and_parts (nat_lt b.number n) (is_above (numbers_of (before ++ c ∷ [])) n) above).1

rising : (May : List Count → Count → Type 0) → ((before : List Count) (c : Count) → May before c → is_above (numbers_of before) c.number ≡ true)
    → (before counts : List Count) → EachAfter May before counts → IsStrictlyIncreasing (numbers_of counts)
rising May above before [] each k lt = absurd (omega arith)
rising May above before (c ∷ []) each k lt = absurd (omega arith)
rising May above before (c ∷ d ∷ counts) each zero lt = above_last before c d.number (above (before ++ c ∷ []) d each.1.0)
rising May above before (c ∷ d ∷ counts) each (suc k) lt =
    let next : suc k + 1 ≡ suc (k + 1) = omega arith in
    rw next (rising May above (before ++ c ∷ []) (d ∷ counts) each.1 k (omega arith))

in_offices : (came : ℕ) (before offices : List OfficeCount) (panel : ℕ) (o : OfficeCount) → EachAfter (MayCount came) before offices
    → slice_get offices panel ≡ Some o → IsOfficeCount came o
in_offices came before [] panel o each at = absurd (cc)
in_offices came before (x ∷ offices) zero o each at = let same : x ≡ o = cc in subst (IsOfficeCount came) same each.0.1
in_offices came before (x ∷ offices) (suc panel) o each at = in_offices came (before ++ x ∷ []) offices panel o each.1 at

-- the counts of a report's office
pub counted : (r : Report) → IsReport r → (panel : ℕ) (o : OfficeCount) → slice_get r.offices panel ≡ Some o → IsOfficeCount r.came o
counted r is panel o at = in_offices r.came [] r.offices panel o is.offices at

pub candidates_rise : (came : ℕ) (o : OfficeCount) → IsOfficeCount came o → IsStrictlyIncreasing (numbers_of o.nominal)
candidates_rise came o is = rising _ (λ before c may. may.1) [] o.nominal is.nominal

pub parties_rise : (came : ℕ) (o : OfficeCount) → IsOfficeCount came o → IsStrictlyIncreasing (numbers_of o.parties)
parties_rise came o is = rising _ (λ before c may. may.2) [] o.parties is.parties

-- ---- the votes of a choice are no more than all of the office

pub choice_within : (c : Choice) (o : OfficeCount) → votes_of_choice c o ≤ total_of o
choice_within (choice.Nominal number) o = nominal_within number o
choice_within (choice.Party number) o = party_within number o
choice_within choice.Blank o = omega arith
choice_within choice.Null o = omega arith

in_office : (c : Choice) (o : Option OfficeCount) → option_map_or (votes_of_choice c) o 0 ≤ option_map_or total_of o 0
in_office c None = omega arith
in_office c (Some o) = choice_within c o

pub votes_few : (r : Report) → IsReport r → (x : ℕ × Choice) → votes_in x r ≤ greatest_count
votes_few r is (panel, c) = omega (arith, in_office c (slice_get r.offices panel), report_few r panel is)

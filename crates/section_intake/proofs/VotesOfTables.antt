-- The votes of a panel are those of the tables' numbers, and the four kinds of votes together are all.
use Rattle.std.proofs.Common.{◌≡◌, ℕ, ◌+◌, ◌==◌, if◌then◌else◌, true, List, [], ◌∷◌, slice_get, Option, None, Some, refl, ◌∙◌, arith}
use Rattle.std.specs.Prelude.{nat_eq}
use Rattle.std.specs.List.{AllByRecursion, list_any, sum_by}
use Rattle.std.specs.List.Sorted.{IsStrictlyIncreasing}
use Rattle.std.specs.Option.{option_map_or}
use Rattle.std.proofs.lemmas.Bool.{and_parts}
use Rattle.std.proofs.lemmas.List.Sums.{sum_by-cons}
use Rattle.poll_report.specs.Report.{total_of, votes_of}
use Rattle.poll_report.specs.declared.report.Count.{Count}
use Rattle.poll_report.specs.declared.report.OfficeCount.{OfficeCount}
use Rattle.poll_report.specs.declared.report.Report.{Report}
use Rattle.vote_kinds.specs.Ballot.{BallotLine, is_choice, line_of}
use Rattle.vote_kinds.specs.declared.choice.Choice.TheVariants as choice
use Rattle.section_intake.specs.Laws.{EachVoteIsOfTheTables, VotesAddUp}
use Rattle.section_intake.specs.Sums.{of_office, votes_for}
use Rattle.section_intake.proofs.IntakeLaws.{same_in_all}
use Rattle.section_intake.proofs.NumberSums.{sum_both, sum_same, sum_zero, sums_turned, value_at, value_once}
use Rattle.section_intake.proofs.TallyLaws.{candidates_rise}

-- ---- each vote is of the tables

-- counts of these numbers alone have the votes of these numbers
votes_of_numbers : (numbers : List ℕ) → IsStrictlyIncreasing numbers → (counts : List Count) → AllByRecursion (λ c. list_any (nat_eq c.number) numbers ≡ true) counts
    → sum_by (λ n. votes_for n counts) numbers ≡ votes_of counts
votes_of_numbers numbers rise [] all = sum_zero (λ n. votes_for n []) numbers (λ n. refl)
votes_of_numbers numbers rise (c ∷ counts) all =
    let more =
    sum_same (λ n. votes_for n (c ∷ counts)) (λ n. value_at c.number c.votes n + votes_for n counts) numbers
    (λ n. sum_by-cons (λ (d : Count). if d.number == n then d.votes else 0) c counts)
    ∙ sum_both (value_at c.number c.votes) (λ n. votes_for n counts) numbers in
    let first = value_once c.number c.votes numbers rise all.0 in
    let rest = votes_of_numbers numbers rise counts all.1 in
    let whole = sum_by-cons (λ (d : Count). d.votes) c counts in
    omega arith

-- what is counted of each of some numbers in an office is counted of the office
in_office : (f : ℕ → OfficeCount → ℕ) (numbers : List ℕ) (o : Option OfficeCount)
    → sum_by (λ n. option_map_or (f n) o 0) numbers ≡ option_map_or (λ o. sum_by (λ n. f n o) numbers) o 0
in_office f numbers None = sum_zero (λ n. 0) numbers (λ n. refl)
in_office f numbers (Some o) = refl

-- the sums of some numbers are the sum of what is counted of all of them
pub office_by_office : (f : ℕ → OfficeCount → ℕ) (numbers : List ℕ) (panel : ℕ) (reports : List Report)
    → sum_by (λ n. sum_by (of_office (f n) panel) reports) numbers ≡ sum_by (of_office (λ o. sum_by (λ n. f n o) numbers) panel) reports
office_by_office f numbers panel reports =
    sums_turned (λ n. of_office (f n) panel) numbers reports
    ∙ sum_same (λ (r : Report). sum_by (λ n. of_office (f n) panel r) numbers) (of_office (λ o. sum_by (λ n. f n o) numbers) panel) reports
    (λ r. in_office f numbers (slice_get r.offices panel))

party_listed : (line : BallotLine) (counts : List Count) → AllByRecursion (λ c. is_choice line (choice.Party c.number) ≡ true) counts
    → AllByRecursion (λ c. list_any (nat_eq c.number) line.parties ≡ true) counts
party_listed line [] all = tt
party_listed line (c ∷ counts) all =
    ((and_parts line.proportional (list_any (nat_eq c.number) line.parties) all.0).1, party_listed line counts all.1)

pub each_vote_is_of_the_tables : EachVoteIsOfTheTables
each_vote_is_of_the_tables t reports panel is fit lt =
    let line : BallotLine = line_of t panel in
    let rise : IsStrictlyIncreasing line.parties = is.parties_rise in (
      office_by_office (λ n o. votes_for n o.nominal) line.candidates panel reports
          ∙ same_in_all (λ o. sum_by (λ n. votes_for n o.nominal) line.candidates) (λ o. votes_of o.nominal) t panel reports fit
          (λ o h. votes_of_numbers line.candidates (candidates_rise t is panel lt) o.nominal h.candidates),
      office_by_office (λ n o. votes_for n o.parties) line.parties panel reports
          ∙ same_in_all (λ o. sum_by (λ n. votes_for n o.parties) line.parties) (λ o. votes_of o.parties) t panel reports fit
          (λ o h. votes_of_numbers line.parties rise o.parties (party_listed line o.parties h.parties)),
    )

-- ---- all votes

whole_office : (o : Option OfficeCount)
    → option_map_or (λ o. votes_of o.nominal) o 0 + option_map_or (λ o. votes_of o.parties) o 0
    + (option_map_or (λ o. o.blank) o 0 + option_map_or (λ o. o.null_votes) o 0) ≡ option_map_or total_of o 0
whole_office None = refl
whole_office (Some o) = omega arith

pub votes_add_up : VotesAddUp
votes_add_up panel [] = refl
votes_add_up panel (r ∷ reports) =
    let nominal = sum_by-cons (of_office (λ o. votes_of o.nominal) panel) r reports in
    let parties = sum_by-cons (of_office (λ o. votes_of o.parties) panel) r reports in
    let blank = sum_by-cons (of_office (λ o. o.blank) panel) r reports in
    let null_votes = sum_by-cons (of_office (λ o. o.null_votes) panel) r reports in
    let all = sum_by-cons (of_office total_of panel) r reports in
    let first = whole_office (slice_get r.offices panel) in
    let rest = votes_add_up panel reports in
    omega arith

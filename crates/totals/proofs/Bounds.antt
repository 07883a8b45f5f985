-- How many votes an intake may have counted
use Rattle.std.proofs.Common.{◌≡◌, ℕ, ◌+◌, ◌<◌, ◌≤◌, ◌^◌, List, get_or, length, map, sum_by, take, slice_get, Some, ap, subst, ◌∙◌, arith}
use Rattle.std.specs.List.{AllByRecursion}
use Rattle.std.proofs.lemmas.List.Sums.{sum_by_more, sum_by_more_le}
use Rattle.std.proofs.lemmas.Option.{get_or_from_slice_get, slice_get_within}
use Rattle.election_tables.specs.TablesData.{TablesData}
use Rattle.poll_report.specs.declared.report.Report.{Report}
use Rattle.vote_kinds.specs.Ballot.{panel_at}
use Rattle.section_intake.specs.Fits.{Fits}
use Rattle.section_intake.specs.Intake.{IsIntakeFor, accepted_files}
use Rattle.section_intake.specs.Sums.{AreReportsOf, all_nominal, all_party, party_sum}
use Rattle.section_intake.specs.declared.intake.Intake.{Intake}
use Rattle.section_intake.proofs.AcceptedLaws.{files_short, sums_are_small}
use Rattle.section_intake.proofs.ReportLaws.{one_list}
use Rattle.section_intake.proofs.VotesOfTables.{each_vote_is_of_the_tables, votes_add_up}
use Rattle.seat_remainders.specs.Parties.{nominal_votes, valid_votes}
use Rattle.totals.specs.Contest.{contest_in, entries_in, votes_in}
use Rattle.totals.specs.Lines.{total_of}
use Rattle.totals.specs.declared.votes.PanelVotes.{PanelVotes}
use Rattle.totals.proofs.VoteLaws.{candidates_have_nominal, contest_has_valid}

-- the reports of an intake fit the tables, whichever list of them is named
reports_fit : (t : TablesData) (i : Intake) (reports : List Report) → IsIntakeFor t i → AreReportsOf (accepted_files i) reports → AllByRecursion (Fits t) reports
reports_fit t i reports is read =
    let same = one_list (accepted_files i) is.reports reports (files_short (accepted_files i) is.short) is.read read in
    subst (λ (l : List Report). AllByRecursion (Fits t) l) same is.fit

pub nominal_are : (t : TablesData) (i : Intake) (reports : List Report) (panel : ℕ) → IsIntakeFor t i → AreReportsOf (accepted_files i) reports
    → panel < length t.panels → nominal_votes (entries_in reports panel (panel_at t panel)) ≡ all_nominal panel reports
nominal_are t i reports panel is read lt = candidates_have_nominal t reports panel is.tables (reports_fit t i reports is read) lt

pub parties_are : (t : TablesData) (i : Intake) (reports : List Report) (panel : ℕ) → IsIntakeFor t i → AreReportsOf (accepted_files i) reports
    → panel < length t.panels → sum_by (λ n. party_sum panel n reports) (map (λ q. q.number) t.parties) ≡ all_party panel reports
parties_are t i reports panel is read lt = (each_vote_is_of_the_tables t reports panel is.tables (reports_fit t i reports is read) lt).1

-- all votes together are few
pub votes_few : (t : TablesData) (i : Intake) (reports : List Report) (panel : ℕ) → IsIntakeFor t i → AreReportsOf (accepted_files i) reports
    → total_of (votes_in reports panel) < 10 ^ 8
votes_few t i reports panel is read =
    let all = votes_add_up panel reports in
    let few = sums_are_small t i reports panel is read in
    omega (arith, all, few)

pub nominal_few : (t : TablesData) (i : Intake) (reports : List Report) (panel : ℕ) → IsIntakeFor t i → AreReportsOf (accepted_files i) reports
    → panel < length t.panels → nominal_votes (entries_in reports panel (panel_at t panel)) < 10 ^ 8
nominal_few t i reports panel is read lt =
    let few = votes_few t i reports panel is read in
    let are = nominal_are t i reports panel is read lt in
    omega (arith, few, are)

pub party_few : (t : TablesData) (i : Intake) (reports : List Report) (panel : ℕ) → IsIntakeFor t i → AreReportsOf (accepted_files i) reports
    → panel < length t.panels → sum_by (λ n. party_sum panel n reports) (map (λ q. q.number) t.parties) < 10 ^ 8
party_few t i reports panel is read lt =
    let few = votes_few t i reports panel is read in
    let are = parties_are t i reports panel is read lt in
    omega (arith, few, are)

-- and so are those of the contest
pub valid_few : (t : TablesData) (i : Intake) (reports : List Report) (panel : ℕ) → IsIntakeFor t i → AreReportsOf (accepted_files i) reports
    → panel < length t.panels → valid_votes (contest_in t reports panel).parties ≤ 10 ^ 12
valid_few t i reports panel is read lt =
    let few = votes_few t i reports panel is read in
    let are = contest_has_valid t reports panel is.tables (reports_fit t i reports is read) lt in
    omega (arith, few, are)

-- a sum with one number more
pub next_sum : (g : ℕ → ℕ) (ns : List ℕ) (i n : ℕ) → slice_get ns i ≡ Some n
    → (sum_by g (take (i + 1) ns) ≡ sum_by g (take i ns) + g n) × (sum_by g (take i ns) + g n ≤ sum_by g ns)
next_sum g ns i n at =
    let lt = slice_get_within ns i n at in
    let is : g (get_or ns i n) ≡ g n = ap g (get_or_from_slice_get ns i n n at) in
    let more = sum_by_more g ns i n lt in
    let within = sum_by_more_le g ns i n lt in
    (omega (arith, more, is), omega (arith, within, is))

pub same_votes : (a b c d : ℕ) (v : PanelVotes) → a ≡ v.nominal → b ≡ v.party → c ≡ v.blank → d ≡ v.null_votes
    → record { nominal = a; party = b; blank = c; null_votes = d } ≡ v
same_votes a b c d v e f g h =
    let make : ℕ → ℕ → ℕ → ℕ → PanelVotes = λ w x y z. record { nominal = w; party = x; blank = y; null_votes = z } in
    ap (λ w. make w b c d) e ∙ (ap (λ x. make v.nominal x c d) f ∙ (ap (λ y. make v.nominal v.party y d) g ∙ ap (λ z. make v.nominal v.party v.blank z) h))

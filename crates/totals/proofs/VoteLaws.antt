-- The votes of an office: those of its candidates and parties, and all of them
use Rattle.std.proofs.Common.{◌≡◌, ◌<◌, ℕ, true, false, List, [], ◌∷◌, length, slice_get, Option, None, Some, unwrap_or, refl, sym, ap, subst, ◌∙◌, inl, inr, arith}
use Rattle.std.specs.Prelude.{nat_eq}
use Rattle.std.specs.List.{AllByRecursion, list_any}
use Rattle.std.specs.Option.{option_map_or}
use Rattle.std.proofs.lemmas.Bool.{and_parts}
use Rattle.std.proofs.lemmas.List.Elements.{recursion_from_All}
use Rattle.std.proofs.lemmas.Option.{slice_get_cases}
use Rattle.election_tables.specs.TablesData.{IsCandidate, IsPanel, IsTables, TablesData, bloc_of}
use Rattle.election_tables.specs.declared.tables.panels.Panel.{Panel}
use Rattle.poll_report.specs.Report.{votes_of}
use Rattle.poll_report.specs.declared.report.Count.{Count}
use Rattle.poll_report.specs.declared.report.OfficeCount.{OfficeCount}
use Rattle.vote_kinds.specs.Ballot.{BallotLine, is_choice, line_of, no_panel, panel_at}
use Rattle.vote_kinds.specs.declared.choice.Choice.TheVariants as choice
use Rattle.section_intake.specs.Sums.{of_office, party_sum}
use Rattle.section_intake.proofs.IntakeLaws.{same_in_all}
use Rattle.section_intake.proofs.NumberSums.{sum_zero}
use Rattle.section_intake.proofs.VotesOfTables.{each_vote_is_of_the_tables, votes_add_up}
use Rattle.seat_remainders.specs.declared.contest.Entry.{Entry}
use Rattle.totals.specs.Contest.{bloc_of_candidate, blocs_of, entries_in, party_numbers}
use Rattle.totals.specs.Laws.{CandidatesHaveNominalVotes, ContestHasValidVotes, MajorityHasNoPartyVotes, TotalIsAllVotes}
use Rattle.totals.proofs.BlocLaws.{blocs_rise, candidates_listed, parties_listed}
use Rattle.totals.proofs.ContestVotes.{blocs_sum, each_once, entries_sum}

-- the panel of a number
pub panel_is : (t : TablesData) → IsTables t → (panel : ℕ) → panel < length t.panels → IsPanel t.parties (panel_at t panel)
panel_is t is panel lt = elim ((slice_get_cases t.panels panel).1) [
  | inl found ↦
      let p = found.0 in
      let here : IsPanel t.parties p = subst (IsPanel t.parties) found.3 (is.panels panel p lt) in
      let same : p ≡ panel_at t panel = sym (ap (λ (o : Option Panel). unwrap_or o no_panel) found.2) in
      subst (IsPanel t.parties) same here
  | inr past ↦ absurd (let gone = past.0 in omega arith)
]

pub total_is_all : TotalIsAllVotes
total_is_all reports panel = votes_add_up panel reports

-- ---- the candidates and the parties

pub candidates_have_nominal : CandidatesHaveNominalVotes
candidates_have_nominal t reports panel is fit lt = entries_sum reports panel (panel_at t panel).candidates ∙ (each_vote_is_of_the_tables t reports panel is fit lt).0

pub contest_has_valid : ContestHasValidVotes
contest_has_valid t reports panel is fit lt =
    let p = panel_at t panel in
    let own = panel_is t is panel lt in
    let split = blocs_sum t reports panel p (blocs_of t) in
    let rise = blocs_rise t is in
    let parties = each_once (λ q. party_sum panel q reports) (bloc_of t.federations) (blocs_of t) (party_numbers t) rise (parties_listed t is) in
    let listed = candidates_listed t is p.office.digits reports panel p.candidates (recursion_from_All (IsCandidate p.office.digits t.parties) p.candidates own.candidates) in
    let whole = each_once (λ (c : Entry). c.votes) (bloc_of_candidate t p.office.digits) (blocs_of t) (entries_in reports panel p) rise listed in
    let nominal = candidates_have_nominal t reports panel is fit lt in
    let party = (each_vote_is_of_the_tables t reports panel is fit lt).1 in
    omega (arith, split, parties, whole, nominal, party)

-- ---- a majority office

no_counts : (line : BallotLine) (counts : List Count) → line.proportional ≡ false → AllByRecursion (λ c. is_choice line (choice.Party c.number) ≡ true) counts
    → votes_of counts ≡ 0
no_counts line [] majority all = refl
no_counts line (c ∷ counts) majority all =
    let listed = (and_parts line.proportional (list_any (nat_eq c.number) line.parties) all.0).0 in
    absurd (cc)

-- nothing is counted
abbrev none_of : OfficeCount → ℕ
none_of o = 0

pub majority_has_none : MajorityHasNoPartyVotes
majority_has_none t reports panel fit majority =
    same_in_all (λ o. votes_of o.parties) none_of t panel reports fit (λ o h. no_counts (line_of t panel) o.parties majority h.parties)
    ∙ sum_zero (of_office none_of panel) reports (λ r. nothing (slice_get r.offices panel))
  where
    nothing : (o : Option OfficeCount) → option_map_or none_of o 0 ≡ 0
    nothing None = refl
    nothing (Some o) = refl

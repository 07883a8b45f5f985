-- The contest of a panel is one that the law of seats is for
use Rattle.std.proofs.Common.{◌≡◌, ◌==◌, ◌<◌, ◌≤◌, ◌^◌, ℕ, Bool, List, [], ◌∷◌, length, map, find, refl, sym, ap, subst, ◌∙◌, inl, inr, arith}
use Rattle.std.specs.List.{AllByRecursion}
use Rattle.std.specs.List.Sorted.{IsStrictlyIncreasing}
use Rattle.std.specs.Option.{option_map_or}
use Rattle.std.proofs.lemmas.Bool.{cases_Bool}
use Rattle.election_tables.specs.Offices.{most_seats, office_rows, row_of}
use Rattle.election_tables.specs.TablesData.{IsTables, TablesData}
use Rattle.poll_report.specs.declared.report.Report.{Report}
use Rattle.vote_kinds.specs.Ballot.{panel_at}
use Rattle.seat_remainders.specs.Contest.{IsContest}
use Rattle.seat_remainders.specs.Parties.{valid_votes}
use Rattle.seat_remainders.specs.declared.contest.Contestant.{Contestant}
use Rattle.totals.specs.Contest.{blocs_of, contest_in, contestant_in}
use Rattle.totals.proofs.BlocLaws.{blocs_rise}
use Rattle.totals.proofs.VoteLaws.{panel_is}

-- ---- seats

few_in : {X : Type 0} (seats : X → ℕ) (rows : List X) (is : X → Bool) → AllByRecursion (λ row. seats row ≤ 200) rows
    → option_map_or seats (find is rows) 0 ≤ 200
few_in seats [] is few = omega arith
few_in seats (row ∷ rows) is few = elim (cases_Bool (is row)) [
  | inl is_it ↦ rw is_it few.0
  | inr is_not ↦ rw is_not (few_in seats rows is few.1)
]

few_seats : (code : ℕ) → most_seats code ≤ 200
unfolding row_of
few_seats code =
    few_in (λ row. row.most_seats) office_rows (λ row. code == row.code)
    (omega arith, (omega arith, (omega arith, (omega arith, (omega arith, (omega arith, (omega arith, (omega arith, tt))))))))

-- ---- the contest

pub numbers_are : (of_bloc : ℕ → Contestant) → ((bloc : ℕ) → (of_bloc bloc).number ≡ bloc) → (blocs : List ℕ) → map (λ c. c.number) (map of_bloc blocs) ≡ blocs
numbers_are of_bloc is [] = refl
numbers_are of_bloc is (b ∷ blocs) = ap (λ (n : ℕ). n ∷ map (λ c. c.number) (map of_bloc blocs)) (is b) ∙ ap (λ (l : List ℕ). b ∷ l) (numbers_are of_bloc is blocs)

pub lawful : (t : TablesData) → IsTables t → (reports : List Report) (panel : ℕ) → panel < length t.panels
    → valid_votes (contest_in t reports panel).parties ≤ 10 ^ 12 → IsContest (contest_in t reports panel)
lawful t is reports panel lt votes =
    let p = panel_at t panel in
    let fits = (panel_is t is panel lt).office in
    record {
      some = fits.seats.0;
      few = let most = few_seats p.office.code in let seats = fits.seats.1 in omega arith;
      rising = subst IsStrictlyIncreasing (sym (numbers_are (contestant_in t reports panel p) (λ bloc. refl) (blocs_of t))) (blocs_rise t is);
      votes = votes;
    }

-- How many votes of a choice there are
use Rattle.std.proofs.Common.{◌≡◌, ℕ, zero, suc, ◌+◌, ◌<◌, ◌≤◌, ◌≢◌, Bool, true, false, cond, ◌==◌, ◌&&◌, List, [], ◌∷◌, length, slice_get, Option, Some, inl, inr, refl, sym, ap, subst, ◌∙◌, arith}
use Rattle.std.specs.List.{AllByRecursion, zip}
use Rattle.std.specs.Prelude.{IsSomeAnd}
use Rattle.std.proofs.lemmas.Bool.{eqb-true, eq-eqb, cases_Bool, cases_lt}
use Rattle.std.proofs.lemmas.List.Sums.{sum_by-cons}
use Rattle.election_tables.specs.TablesData.{TablesData}
use Rattle.vote_kinds.specs.declared.choice.Choice.{Choice}
use Rattle.vote_kinds.specs.Choice.{is_same}
use Rattle.vote_kinds.specs.Ballot.{BallotLine, is_choice, line_of, lines_by_panel}
use Rattle.vote_record.specs.Bag.{bag_at, count_of, with_vote}
use Rattle.vote_record.specs.RdvData.{IsVote}
use Rattle.vote_record.proofs.Bags.{bag_at-with_vote_same, bag_at-with_vote_other, count_cons, count_of-with_choice, length-with_vote, same_true}
use Rattle.vote_kinds.proofs.Lookups.{line_found}
use Rattle.image_codec.specs.State.{State, with_votes}
use Rattle.image_codec.specs.Valid.{HasChoices}
use Rattle.image_codec.specs.Encoding.{IsStateOf}
use Rattle.image_codec.specs.Laws.{votes_for}
use Rattle.image_codec.proofs.Valid.{bag_for_each}

-- one vote more
one_counted : (p panel : ℕ) (c x : Choice) (bags : List (List Choice)) → panel < length bags
    → count_of c (bag_at (with_vote p x bags) panel) ≡ count_of c (bag_at bags panel) + cond (p == panel && is_same c x) 1 0
one_counted p panel c x bags lt = elim (cases_Bool (p == panel)) [
  | inl same ↦
      let here : p ≡ panel = eqb-true p panel same in
      let counted = ap (λ (k : ℕ). count_of c (bag_at (with_vote k x bags) panel)) here ∙ ap (count_of c) (bag_at-with_vote_same panel x bags lt) ∙ count_of-with_choice c x (bag_at bags panel) in
      rw same omega (arith, counted)
  | inr other ↦
      let differ : panel ≢ p = λ e. let is : (p == panel) ≡ true = eq-eqb p panel (sym e) in absurd (cc) in
      let kept = ap (count_of c) (bag_at-with_vote_other p panel x bags differ) in
      rw other omega (arith, kept)
]

pub counts_each_line : (lines : List BallotLine) (choices : List Choice) (bags : List (List Choice)) (panel : ℕ) (c : Choice) → panel < length bags
    → count_of c (bag_at (with_votes lines choices bags) panel) ≡ count_of c (bag_at bags panel) + votes_for panel c lines choices
counts_each_line [] choices bags panel c lt = omega arith
counts_each_line (l ∷ lines) [] bags panel c lt = omega arith
counts_each_line (l ∷ lines) (x ∷ choices) bags panel c lt =
    let rest = counts_each_line lines choices (with_vote l.panel x bags) panel c (omega (arith, length-with_vote l.panel x bags)) in
    let one = one_counted l.panel panel c x bags lt in
    let more = sum_by-cons (λ (v : BallotLine × Choice). cond {A = ℕ} (v.0.panel == panel && is_same c v.1) 1 0) (l, x) (zip lines choices) in
    omega arith

-- votes of a line
no_other : (line : BallotLine) (c : Choice) (bag : List Choice) → AllByRecursion (λ d. is_choice line d ≡ true) bag → is_choice line c ≡ false → count_of c bag ≡ 0
no_other line c [] all none = refl
no_other line c (d ∷ bag) all none = elim (cases_Bool (is_same c d)) [
  | inl same ↦ let choice : is_choice line c ≡ true = ap (is_choice line) (same_true c d same) ∙ all.0 in absurd (cc)
  | inr other ↦
      let first : cond {A = ℕ} (is_same c d) 1 0 ≡ 0 = ap (λ (b : Bool). cond {A = ℕ} b 1 0) other in
      let rest = no_other line c bag all.1 none in
      omega (arith, count_cons c d bag)
]

choices_at : (lines : List BallotLine) (bags : List (List Choice)) (k : ℕ) (line : BallotLine) → HasChoices lines bags → slice_get lines k ≡ Some line
    → AllByRecursion (λ d. is_choice line d ≡ true) (bag_at bags line.panel)
choices_at [] bags k line has found = absurd (cc)
choices_at (l ∷ lines) bags zero line has found = let same : l ≡ line = cc in subst (λ (m : BallotLine). AllByRecursion (λ d. is_choice m d ≡ true) (bag_at bags m.panel)) same has.0
choices_at (l ∷ lines) bags (suc k) line has found = choices_at lines bags k line has.1 found

pub no_other_votes : (t : TablesData) (voters : ℕ) (s : State) (panel : ℕ) (c : Choice) → IsStateOf t voters s → panel < length t.panels → is_choice (line_of t panel) c ≡ false
    → count_of c (bag_at s.bags panel) ≡ 0
no_other_votes t voters s panel c of lt none =
    no_other (line_of t panel) c (bag_at s.bags panel) (choices_at (lines_by_panel t) s.bags panel (line_of t panel) of.choices (line_found t panel lt)) none

no_bag : (bags : List (List Choice)) (panel : ℕ) → length bags ≤ panel → bag_at bags panel ≡ []
no_bag [] panel le = refl
no_bag (bag ∷ bags) zero le = absurd (omega arith)
no_bag (bag ∷ bags) (suc panel) le = no_bag bags panel (omega arith)

-- each vote of a state is a choice of its panel
pub only_votes : (t : TablesData) (voters : ℕ) (s : State) → IsStateOf t voters s → (panel : ℕ) → AllByRecursion (IsVote t panel) (bag_at s.bags panel)
only_votes t voters s of panel = elim (cases_lt panel (length t.panels)) [
  | inl lt ↦
      subst (λ (found : Option BallotLine). AllByRecursion (λ c. IsSomeAnd found (λ line. is_choice line c ≡ true)) (bag_at s.bags panel)) (sym (line_found t panel lt))
      (choices_at (lines_by_panel t) s.bags panel (line_of t panel) of.choices (line_found t panel lt))
  | inr ge ↦ subst (AllByRecursion (IsVote t panel)) (sym (no_bag s.bags panel (omega (arith, bag_for_each t s of.valid of.places)))) tt
]

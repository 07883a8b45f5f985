-- A poll and ballots more
use Rattle.std.proofs.Common.{◌≡◌, ◌⊎◌, inl, inr, ℕ, ◌+◌, Bool, true, false, List, [], ◌∷◌, ◌++◌, length-append, map, refl, sym, subst, ◌∙◌, arith, slice_set}
use Rattle.std.specs.Prelude.{Contains}
use Rattle.std.specs.List.{AllByRecursion}
use Rattle.std.proofs.lemmas.Bool.{cases_eq, cases_Bool}
use Rattle.std.proofs.lemmas.List.{map-append}
use Rattle.std.proofs.lemmas.List.Elements.{Contains-append_left, Contains-append_right, Contains-get_or}
use Rattle.vote_kinds.specs.declared.choice.Choice.{Choice}
use Rattle.vote_kinds.specs.Ballot.{BallotLine}
use Rattle.turnout.specs.Turnout.{has_come}
use Rattle.turnout.specs.declared.phase.Phase.{Phase}
use Rattle.turnout.proofs.Marks.{has_come-set_other, has_come-set_same, number_came-set}
use Rattle.image_codec.specs.CodecLaws.{Ballot}
use Rattle.image_codec.specs.State.{State, MayVote, with_ballot}
use Rattle.image_codec.proofs.Ballots.{length-with_votes}
use Rattle.image_codec.proofs.Counting.{counts_each_line}
use Rattle.image_codec.specs.Also.{HasAlso, votes_in_ballots}

-- the poll in another phase
abbrev pub in_phase : State → Phase → State
in_phase s p = record { phase = p; came = s.came; places = s.places; bags = s.bags }

pub also_none : (lines : List BallotLine) (s : State) → HasAlso lines s [] s
also_none lines s =
    record {
      number = omega arith;
      stay = λ place come. come;
      come = tt;
      nobody_else = λ place come. inl come;
      panels = refl;
      votes = λ panel c lt. omega arith;
    }

pub also_in_phase : (lines : List BallotLine) (s u : State) (p : Phase) (ballots : List Ballot) → HasAlso lines (in_phase s p) ballots u → HasAlso lines s ballots u
also_in_phase lines s u p ballots h =
    record { number = h.number; stay = h.stay; come = h.come; nobody_else = h.nobody_else; panels = h.panels; votes = h.votes }

module _ (lines : List BallotLine) (s u : State) (place : ℕ) (choices : List Choice) (ballots : List Ballot) (may : MayVote s place) (h : HasAlso lines (with_ballot lines s place choices) ballots u) where
  abbrev now : List Bool
  now = slice_set s.came place true

  marked : has_come now place ≡ true
  marked = has_come-set_same s.came place may.known

  kept : (p : ℕ) → has_come s.came p ≡ true → has_come now p ≡ true
  kept p come = elim (cases_eq p place) [
    | inl same ↦ subst (λ (q : ℕ). has_come now q ≡ true) (sym same) marked
    | inr other ↦ has_come-set_other s.came place p other ∙ come
  ]

  before : (p : ℕ) → has_come now p ≡ false → has_come s.came p ≡ false
  before p absent = elim (cases_Bool (has_come s.came p)) [
    | inl come ↦ let marks = kept p come in absurd (cc)
    | inr away ↦ away
  ]

  all_come : (bs : List Ballot) → AllByRecursion (λ b. (has_come now b.place ≡ false) × (has_come u.came b.place ≡ true)) bs
      → AllByRecursion (λ b. (has_come s.came b.place ≡ false) × (has_come u.came b.place ≡ true)) bs
  all_come [] all = tt
  all_come (b ∷ bs) all = ((before b.place all.0.0, all.0.1), all_come bs all.1)

  abbrev all_places : List ℕ
  all_places = place ∷ map (λ (b : Ballot). b.place) ballots

  nobody : (p : ℕ) → (has_come now p ≡ true) ⊎ Contains (map (λ (b : Ballot). b.place) ballots) p → (has_come s.came p ≡ true) ⊎ Contains all_places p
  nobody p (inr one) = inr (Contains-append_right (place ∷ []) (map (λ (b : Ballot). b.place) ballots) p one)
  nobody p (inl come) = elim (cases_eq p place) [
    | inl same ↦ inr (subst (λ (q : ℕ). Contains all_places q) (sym same) (Contains-get_or all_places 0 0 (omega arith)))
    | inr other ↦ inl (sym (has_come-set_other s.came place p other) ∙ come)
  ]

  abbrev one : Ballot
  one = record { place = place; choices = choices }

  -- the voter of a place comes, and then others
  pub also_more : HasAlso lines s (one ∷ ballots) u
  also_more =
      record {
        number = omega (arith, h.number, number_came-set s.came place may.known may.absent);
        stay = λ p come. h.stay p (kept p come);
        come = ((may.absent, h.stay place marked), all_come ballots h.come);
        nobody_else = λ p come. nobody p (h.nobody_else p come);
        panels = h.panels ∙ length-with_votes lines choices s.bags;
        votes = λ panel c lt.
            let more = counts_each_line lines choices s.bags panel c lt in
            let rest = h.votes panel c (omega (arith, length-with_votes lines choices s.bags)) in
            omega (arith, more, rest);
      }

-- Ballots, and then more

votes_in_ballots-append : (panel : ℕ) (c : Choice) (lines : List BallotLine) (xs ys : List Ballot) → votes_in_ballots panel c lines (xs ++ ys) ≡ votes_in_ballots panel c lines xs + votes_in_ballots panel c lines ys
votes_in_ballots-append panel c lines [] ys = omega arith
votes_in_ballots-append panel c lines (x ∷ xs) ys = omega (arith, votes_in_ballots-append panel c lines xs ys)

module _ (lines : List BallotLine) (s u w : State) (xs ys : List Ballot) (first : HasAlso lines s xs u) (second : HasAlso lines u ys w) where
  away : (p : ℕ) → has_come u.came p ≡ false → has_come s.came p ≡ false
  away p absent = elim (cases_Bool (has_come s.came p)) [
    | inl come ↦ let stays = first.stay p come in absurd (cc)
    | inr not ↦ not
  ]

  abbrev Come : State → State → List Ballot → Type 0
  Come a b bs = AllByRecursion (λ x. (has_come a.came x.place ≡ false) × (has_come b.came x.place ≡ true)) bs

  earlier : (bs : List Ballot) → Come u w bs → Come s w bs
  earlier [] all = tt
  earlier (b ∷ bs) all = ((away b.place all.0.0, all.0.1), earlier bs all.1)

  later : (bs : List Ballot) → Come s u bs → Come s w (bs ++ ys)
  later [] all = earlier ys second.come
  later (b ∷ bs) all = ((all.0.0, second.stay b.place all.0.1), later bs all.1)

  abbrev places : List Ballot → List ℕ
  places bs = map (λ (b : Ballot). b.place) bs

  these : (p : ℕ) → (has_come u.came p ≡ true) ⊎ Contains (places ys) p → (has_come s.came p ≡ true) ⊎ Contains (places xs ++ places ys) p
  these p (inr one) = inr (Contains-append_right (places xs) (places ys) p one)
  these p (inl come) = elim (first.nobody_else p come) [ inl before ↦ inl before | inr one ↦ inr (Contains-append_left (places xs) (places ys) p one) ]

  pub also_also : HasAlso lines s (xs ++ ys) w
  also_also =
      record {
        number = omega (arith, first.number, second.number, length-append xs ys);
        stay = λ p come. second.stay p (first.stay p come);
        come = later xs first.come;
        nobody_else = λ p come.
            subst (λ (l : List ℕ). (has_come s.came p ≡ true) ⊎ Contains l p) (sym (map-append (λ (b : Ballot). b.place) xs ys)) (these p (second.nobody_else p come));
        panels = second.panels ∙ first.panels;
        votes = λ panel c lt.
            let one = first.votes panel c lt in
            let two = second.votes panel c (omega (arith, first.panels)) in
            omega (arith, one, two, votes_in_ballots-append panel c lines xs ys);
      }

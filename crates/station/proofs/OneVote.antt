-- No candidate has two votes in a ballot
use Rattle.std.proofs.Common.{◌≡◌, ◌+◌, ◌-◌, ◌<◌, ℕ, zero, suc, Bool, true, false, List, [], ◌∷◌, ◌++◌, Option, Some, length, nat_eq, replicate, slice_get, inl, inr, refl, sym, ap, ◌∙◌, arith}
use Rattle.std.specs.List.{AllByRecursion}
use Rattle.std.specs.Prelude.{not, ◌&&◌, if◌then◌else◌}
use Rattle.std.proofs.lemmas.Bool.{eq-eqb}
use Rattle.std.proofs.lemmas.Option.{slice_get_within}
use Rattle.election_tables.specs.TablesData.{IsTables, TablesData}
use Rattle.election_tables.proofs.PlacesOfPanels.{lines_adjacent}
use Rattle.key_script.specs.declared.keys.Event.{Event}
use Rattle.key_script.specs.Event.{keys_of}
use Rattle.vote_kinds.specs.Ballot.{BallotLine, ballot_lines, choice_of, names_candidate}
use Rattle.vote_kinds.specs.declared.choice.Choice.{Choice}
use Rattle.vote_kinds.specs.declared.choice.Choice.TheVariants as choice
use Rattle.vote_kinds.specs.declared.choice.Field.{Field}
use Rattle.vote_kinds.specs.declared.choice.Field.TheVariants as field
use Rattle.vote_kinds.proofs.Lookups.{line_has_panel}
use Rattle.voter_term.specs.Field.{field_after}
use Rattle.image_codec.specs.CodecLaws.{Ballot}
use Rattle.image_codec.specs.State.{State, filled_up}
use Rattle.station.specs.Cast.{GivesOneVoteEach, ballot_of, ballots_of}
use Rattle.station.specs.Output.{Output, earlier_for}
use Rattle.station.specs.Run.{IsRun, Visit, Votes, cancels, cut_off, ends, ignores, open_at, opens, refuses, seals, start, suspended, visits, voted, waits, whole}
use Rattle.station.specs.Setting.{Setting, setting_of}
use Rattle.station.proofs.LastScreens.{get_more}

-- where a candidate was the earlier choice, no field stands for him
not_again : (l : BallotLine) (f : Field) (number : ℕ) → choice_of l (Some (choice.Nominal number)) f ≡ choice.Nominal number → ⊥
not_again l field.Blank number e = absurd (cc)
not_again l field.Empty number e = absurd (cc)
not_again l (field.Digits count value) number e = go (names_candidate l count value) (nat_eq value number) _ _ refl e
  where
    go : (named same party : Bool) (p : ℕ) → nat_eq value number ≡ same
        → (if named && not same then choice.Nominal value else (if party then choice.Party p else choice.Null)) ≡ choice.Nominal number → ⊥
    go true true true p is e = absurd (cc)
    go true true false p is e = absurd (cc)
    go false same true p is e = absurd (cc)
    go false same false p is e = absurd (cc)
    go true false party p is e =
        let value_is : value ≡ number = cc in
        let yes : nat_eq value number ≡ true = eq-eqb value number value_is in
        absurd (cc)

-- two lines of one panel stand one behind the other
abbrev AreAdjacent : List BallotLine → Type 0
AreAdjacent lines = (i j : ℕ) (l m : BallotLine) → i < j → slice_get lines i ≡ Some l → slice_get lines j ≡ Some m → l.panel ≡ m.panel → j ≡ i + 1

are_adjacent : (t : TablesData) → IsTables t → AreAdjacent (ballot_lines t)
are_adjacent t is i j l m lt first second same =
    let a = line_has_panel t i l first in
    let b = line_has_panel t j m second in
    lines_adjacent t is i j l.panel lt a.at (b.at ∙ ap (λ (panel : ℕ). Some panel) (sym same))

-- the choice of the line before, of the same panel, is the earlier one
earlier_is : (v : Setting) (choices : List Choice) (previous l : BallotLine) (c : Choice) → slice_get v.lines (length choices - 1) ≡ Some previous
    → slice_get choices (length choices - 1) ≡ Some c → previous.panel ≡ l.panel → earlier_for v choices l ≡ Some c
earlier_is v choices previous l c at chosen same = rw (at, chosen, eq-eqb previous.panel l.panel same) refl

votes_once : {v : Setting} {s : State} {place : ℕ} {es : List Event} {choices : List Choice} {text : List Output} → AreAdjacent v.lines
    → Votes v s place es choices text → GivesOneVoteEach v.lines choices
votes_once adjacent start i j number l m lt first second same a b = absurd (cc)
votes_once {v} adjacent (voted {choices} {c = c} line more votes at visiting confirms) i j number l m lt first second same a b =
    elim (get_more choices c j (choice.Nominal number) b) [
      | inl before ↦
          let within = slice_get_within choices j (choice.Nominal number) before in
          elim (get_more choices c i (choice.Nominal number) a) [
            | inl both ↦ votes_once adjacent votes i j number l m lt first second same both before
            | inr last ↦ absurd (omega (arith, within, last.0, lt))
          ]
      | inr here ↦
          elim (get_more choices c i (choice.Nominal number) a) [
            | inl earlier ↦
                let f : Field = field_after line.digits (keys_of more) in
                let next = adjacent i j l m lt first second same in
                let before : i ≡ length choices - 1 = omega (arith, next, here.0) in
                let found : slice_get v.lines (length choices) ≡ Some m = ap (slice_get v.lines) (sym here.0) ∙ second in
                let this : m ≡ line = let both : Some m ≡ Some line = sym found ∙ at in cc in
                let known = earlier_is v choices l line (choice.Nominal number) (ap (slice_get v.lines) (sym before) ∙ first) (ap (slice_get choices) (sym before) ∙ earlier)
                (same ∙ ap (λ (x : BallotLine). x.panel) this) in
                not_again line f number (ap (λ (e : Option Choice). choice_of line e f) (sym known) ∙ sym confirms.chosen ∙ sym here.1)
            | inr last ↦ absurd (omega (arith, last.0, here.0, lt))
          ]
    ]

-- no line that is left has a candidate
not_filled : (choices : List Choice) (left n number : ℕ) → slice_get (choices ++ replicate left choice.Null) n ≡ Some (choice.Nominal number)
    → slice_get choices n ≡ Some (choice.Nominal number)
not_filled [] zero n number e = absurd (cc)
not_filled [] (suc left) zero number e = absurd (cc)
not_filled [] (suc left) (suc n) number e = absurd (let none = not_filled [] left n number e in cc)
not_filled (c ∷ choices) left zero number e = e
not_filled (c ∷ choices) left (suc n) number e = not_filled choices left n number e

filled_once : (lines : List BallotLine) (choices : List Choice) → GivesOneVoteEach lines choices → GivesOneVoteEach lines (filled_up lines choices)
filled_once lines choices once i j number l m lt first second same a b =
    let left : ℕ = length lines - length choices in
    once i j number l m lt first second same (not_filled choices left i number a) (not_filled choices left j number b)

abbrev AreOnce : List BallotLine → List Ballot → Type 0
AreOnce lines ballots = AllByRecursion (λ ballot. GivesOneVoteEach lines ballot.choices) ballots

visit_once : {v : Setting} {s t : State} {place : ℕ} {es : List Event} {out : List Output} → AreAdjacent v.lines → (visit : Visit v s place es t out) → AreOnce v.lines (ballot_of visit)
visit_once adjacent (whole votes at) = (votes_once adjacent votes, tt)
visit_once adjacent (suspended (open_at {choices = []} l more votes at visiting unconfirmed)) = tt
visit_once {v} adjacent (suspended (open_at {choices = c ∷ choices} l more votes at visiting unconfirmed)) =
    (filled_once v.lines (c ∷ choices) (votes_once adjacent votes), tt)

once-append : (lines : List BallotLine) (a b : List Ballot) → AreOnce lines a → AreOnce lines b → AreOnce lines (a ++ b)
once-append lines [] b h g = g
once-append lines (x ∷ a) b h g = (h.0, once-append lines a b h.1 g)

run_once : {v : Setting} {s t : State} {es : List Event} {out : List Output} → AreAdjacent v.lines → (run : IsRun v s es t out) → AreOnce v.lines (ballots_of run)
run_once adjacent ends = tt
run_once adjacent (ignores run) = run_once adjacent run
run_once adjacent (refuses reply run) = run_once adjacent run
run_once adjacent (opens reply run) = run_once adjacent run
run_once adjacent (seals reply run) = run_once adjacent run
run_once adjacent (waits before reply waiting) = tt
run_once adjacent (cancels before reply waiting run) = run_once adjacent run
run_once {v} adjacent (visits before reply waiting visit run) = once-append v.lines (ballot_of visit) (ballots_of run) (visit_once adjacent visit) (run_once adjacent run)
run_once adjacent (cut_off before reply waiting on) = tt

pub ballots_once : (t : TablesData) (titles : List ℕ) → IsTables t → {s last : State} {es : List Event} {out : List Output}
    → (run : IsRun (setting_of t titles) s es last out) → AreOnce (ballot_lines t) (ballots_of run)
ballots_once t titles is run = run_once (are_adjacent t is) run

-- The counter of a choice stands where the tables alone tell
use Rattle.std.proofs.Common.{◌≡◌, ℕ, zero, suc, ◌+◌, ◌*◌, ◌<◌, ◌≤◌, List, [], length, get_or, slice_get, take, drop, Some, refl, sym, ap, subst, ◌∙◌, arith, add-one}
use Rattle.std.specs.Int.{w32, from_be_bytes}
use Rattle.std.proofs.lemmas.List.{drop-drop}
use Rattle.std.proofs.lemmas.List.Sums.{sum_by_more}
use Rattle.std.proofs.lemmas.Option.{get_or_from_slice_get, slice_get_within, unwrap_or-slice_get}
use Rattle.election_tables.specs.Limits.{most_voters}
use Rattle.election_tables.specs.TablesData.{TablesData, IsTables}
use Rattle.vote_kinds.specs.declared.choice.Choice.{Choice}
use Rattle.vote_kinds.specs.Ballot.{BallotLine, choices_of, line_of, lines_by_panel}
use Rattle.vote_kinds.proofs.LineChoices.{line_of_rises}
use Rattle.vote_kinds.proofs.Lookups.{by_panel_length, line_found}
use Rattle.vote_record.specs.Bag.{bag_at, count_of}
use Rattle.vote_record.specs.Counters.{bag_with}
use Rattle.vote_record.proofs.Counting.{count_in_place}
use Rattle.turnout.specs.Turnout.{number_came}
use Rattle.image_codec.specs.State.{State}
use Rattle.image_codec.specs.Numbers.{counters_in, number4_at}
use Rattle.image_codec.specs.Encoding.{IsStateOf, encode}
use Rattle.image_codec.specs.CodecLaws.{counters_from, counters_of}
use Rattle.image_codec.proofs.Decoding.{counters_read}
use Rattle.image_codec.proofs.FillCounters.{HasCounters, counter_there, panel_counted}
use Rattle.image_codec.proofs.OfTables.{panels_of}
use Rattle.image_codec.proofs.ReadCounters.{length-counters_in}

module _ (t : TablesData) (n : ℕ) (bytes : List ℕ) (bags : List (List Choice)) (many : length bags ≡ length t.panels) (all : HasCounters t n 0 bytes bags) where
  abbrev lines : List BallotLine
  lines = lines_by_panel t

  -- behind the counters of the panels before it
  abbrev from : ℕ → List ℕ
  from panel = drop (4 * counters_of (take panel lines)) bytes

  one_panel : (panel : ℕ) → panel < length t.panels → counters_of (take (panel + 1) lines) ≡ counters_of (take panel lines) + length (choices_of (line_of t panel))
  one_panel panel lt =
      let line : BallotLine = line_of t panel in
      sum_by_more (λ (l : BallotLine). length (choices_of l)) lines panel line (omega (arith, by_panel_length t))
      ∙ ap (λ (l : BallotLine). counters_of (take panel lines) + length (choices_of l)) (get_or_from_slice_get lines panel line line (line_found t panel lt))

  has_from : (panel : ℕ) → panel ≤ length t.panels → HasCounters t n panel (from panel) bags
  has_from zero le = all
  has_from (suc panel) le =
      let counters : ℕ = length (choices_of (line_of t panel)) in
      let more = panel_counted t n panel (from panel) bags counters (omega arith) many refl (has_from panel (omega arith)) in
      let place : 4 * counters_of (take panel lines) + 4 * counters ≡ 4 * counters_of (take (panel + 1) lines) = omega (arith, one_panel panel (omega arith)) in
      let behind : drop (4 * counters) (from panel) ≡ from (panel + 1) = drop-drop (4 * counters) (4 * counters_of (take panel lines)) bytes ∙ ap (λ (k : ℕ). drop k bytes) place in
      subst (λ (k : ℕ). HasCounters t n k (from k) bags) (add-one panel) (subst (λ (r : List ℕ). HasCounters t n (panel + 1) r bags) behind more.behind)

  counter_is : IsTables t → (panel place : ℕ) (c : Choice) → panel < length t.panels → slice_get (choices_of (line_of t panel)) place ≡ Some c
      → number4_at (from panel) (4 * place) ≡ count_of c (bag_at bags panel)
  counter_is is panel place c lt at =
      let choices : List Choice = choices_of (line_of t panel) in
      let counters : ℕ = length choices in
      let counts : List ℕ = counters_in counters (from panel) in
      let here = panel_counted t n panel (from panel) bags counters lt many refl (has_from panel (omega arith)) in
      let within : place < counters = slice_get_within choices place c at in
      let bag : bag_with choices counts ≡ bag_at bags panel = here.bag ∙ sym (unwrap_or-slice_get bags panel []) in
      let choice : get_or choices place c ≡ c = get_or_from_slice_get choices place c c at in
      sym (counter_there counters place (from panel) within)
      ∙ sym (count_in_place choices counts place c 0 (line_of_rises t panel is) (length-counters_in counters (from panel)) within)
      ∙ ap (λ (b : List Choice). count_of (get_or choices place c) b) bag ∙ ap (λ (d : Choice). count_of d (bag_at bags panel)) choice

pub counts_in_place : (t : TablesData) (voters : ℕ) (s : State) (panel place : ℕ) (c : Choice) → IsTables t → voters ≤ most_voters → IsStateOf t voters s
    → panel < length t.panels → slice_get (choices_of (line_of t panel)) place ≡ Some c
    → number4_at (encode t s) (counters_from t panel + 4 * place) ≡ count_of c (bag_at s.bags panel)
counts_in_place t voters s panel place c is few of lt at =
    let lines : List BallotLine = lines_by_panel t in
    let bytes : List ℕ = encode t s in
    let before : ℕ = 4 * counters_of (take panel lines) in
    let there : drop (4 * place) (drop before (drop 512 bytes)) ≡ drop (counters_from t panel + 4 * place) bytes =
    ap (drop (4 * place)) (drop-drop before 512 bytes) ∙ drop-drop (4 * place) (512 + before) bytes in
    sym (ap (λ (b : List ℕ). from_be_bytes w32 (take 4 b)) there)
    ∙ counter_is t (number_came s.came) (drop 512 bytes) s.bags (panels_of t voters s of) (counters_read t voters s is few of) is panel place c lt at

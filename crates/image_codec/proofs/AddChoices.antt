-- One voter's choices, added line by line
use Rattle.std.proofs.Common.{◌≡◌, ℕ, suc, ◌+◌, ◌≤◌, ◌<◌, Bool, true, List, ◌∷◌, Some, cond, map, nat_eq, length, drop, get_or, slice_get, slice_index, refl, sym, ap, subst, ◌∙◌, arith, add-one}
use Rattle.std.specs.List.{count_by}
use Rattle.std.proofs.lemmas.Bool.Decides.{nat_tests}
use Rattle.std.proofs.lemmas.List.{drop-map}
use Rattle.std.proofs.Math.ListN.{drop_of_length-le}
use Rattle.std.proofs.Math.Seq.{drop-cons}
use Rattle.std.proofs.lemmas.List.Sums.{sum_by-cons}
use Rattle.std.proofs.lemmas.Option.{get_or_from_slice_get, slice_get_within}
use Rattle.election_tables.specs.TablesData.{TablesData, line_panels, places_of}
use Rattle.election_tables.proofs.LinePanels.{count_of_panel}
use Rattle.vote_kinds.specs.declared.choice.Choice.{Choice}
use Rattle.vote_kinds.specs.Ballot.{BallotLine, ballot_lines, line_of}
use Rattle.vote_record.specs.Bag.{bag_at, with_vote}
use Rattle.vote_record.specs.RdvData.{RdvData, room_at, with_vote_in}
use Rattle.vote_record.proofs.Bags.{length-with_vote}
use Rattle.image_codec.specs.State.{with_votes}
use Rattle.image_codec.specs.Valid.{HasRoomForVoter}
use Rattle.image_codec.proofs.Ballots.{length-one_vote}

-- how many of the lines from this one on are of a panel
abbrev pub lines_left : TablesData → ℕ → ℕ → ℕ
lines_left t n panel = count_by (nat_eq panel) (drop n (line_panels t))

-- the choices of the first n lines are added: those that are left lead to the bags with all of them, and there is room for them
pub record AreAdded (t : TablesData) (choices : List Choice) (before now : RdvData) (n : ℕ) : Type 0 where
  pub rest : with_votes (drop n (ballot_lines t)) (drop n choices) now.bags ≡ with_votes (ballot_lines t) choices before.bags
  pub as_many : length now.bags ≡ length before.bags
  pub same_voters : now.voters ≡ before.voters
  pub same_places : now.places ≡ before.places
  pub room : (panel : ℕ) → panel < length now.bags → length (bag_at now.bags panel) + lines_left t n panel ≤ room_at now panel

pub added_none : (t : TablesData) (choices : List Choice) (before : RdvData) → length before.bags ≡ length t.panels → before.places ≡ places_of t → HasRoomForVoter before
    → AreAdded t choices before before 0
added_none t choices before many places has = record {
  rest = refl;
  as_many = refl;
  same_voters = refl;
  same_places = refl;
  room = λ panel lt.
      let of_panel : slice_index before.places panel ≡ lines_left t 0 panel = ap (λ (p : List ℕ). slice_index p panel) places ∙ sym (count_of_panel t panel (omega (arith, lt, many))) in
      omega (arith, of_panel, has panel lt);
}

module _ (t : TablesData) (n panel : ℕ) (at : slice_get (line_panels t) n ≡ Some panel) where
  panels_from : drop n (line_panels t) ≡ panel ∷ drop (suc n) (line_panels t)
  panels_from =
      drop-cons (line_panels t) n panel (slice_get_within (line_panels t) n panel at)
      ∙ ap (λ (k : ℕ). k ∷ drop (suc n) (line_panels t)) (get_or_from_slice_get (line_panels t) n panel panel at)

  lines_from : drop n (ballot_lines t) ≡ line_of t panel ∷ drop (suc n) (ballot_lines t)
  unfolding ballot_lines
  lines_from =
      drop-map (line_of t) n (line_panels t)
      ∙ (ap (map (line_of t)) panels_from
      ∙ ap (λ (lines : List BallotLine). line_of t panel ∷ lines) (sym (drop-map (line_of t) (suc n) (line_panels t))))

  one_left : (k : ℕ) → lines_left t n k ≡ cond (nat_eq k panel) 1 0 + lines_left t (suc n) k
  one_left k = ap (count_by (nat_eq k)) panels_from ∙ sum_by-cons (λ (p : ℕ). cond (nat_eq k p) 1 0) panel (drop (suc n) (line_panels t))

  one_more : (choices : List Choice) (bags : List (List Choice)) (d : Choice) → n < length choices
      → with_votes (drop n (ballot_lines t)) (drop n choices) bags ≡ with_votes (drop (suc n) (ballot_lines t)) (drop (suc n) choices) (with_vote panel (get_or choices n d) bags)
  one_more choices bags d lt =
      ap (λ (lines : List BallotLine). with_votes lines (drop n choices) bags) lines_from
      ∙ ap (λ (cs : List Choice). with_votes (line_of t panel ∷ drop (suc n) (ballot_lines t)) cs bags) (drop-cons choices n d lt)

  pub added_more : (choices : List Choice) (before now after : RdvData) (d : Choice) → AreAdded t choices before now n → n < length choices
      → after ≡ with_vote_in panel (get_or choices n d) now → AreAdded t choices before after (n + 1)
  added_more choices before now after d a lt is =
      let c : Choice = get_or choices n d in
      subst (λ (r : RdvData). AreAdded t choices before r (n + 1)) (sym is) (record {
        rest = ap (λ (k : ℕ). with_votes (drop k (ballot_lines t)) (drop k choices) (with_vote panel c now.bags)) (add-one n) ∙ sym (one_more choices now.bags d lt) ∙ a.rest;
        as_many = length-with_vote panel c now.bags ∙ a.as_many;
        same_voters = a.same_voters;
        same_places = a.same_places;
        room = λ k small.
            let lt : k < length now.bags = omega (arith, small, length-with_vote panel c now.bags) in
            let next : lines_left t (n + 1) k ≡ lines_left t (suc n) k = ap (λ (m : ℕ). lines_left t m k) (add-one n) in
            omega (arith, a.room k lt, length-one_vote k panel c now.bags lt, one_left k, next);
      })

  -- the bag of the panel has room for the vote
  pub room_here : (choices : List Choice) (before now : RdvData) → AreAdded t choices before now n → panel < length now.bags
      → length (bag_at now.bags panel) < room_at now panel
  room_here choices before now a lt =
      let same : nat_eq panel panel ≡ true = grind (arith, nat_tests) in
      let some : lines_left t n panel ≡ 1 + lines_left t (suc n) panel = one_left panel ∙ ap (λ (b : Bool). cond b 1 0 + lines_left t (suc n) panel) same in
      omega (arith, a.room panel lt, some)

pub added_all : (t : TablesData) (choices : List Choice) (before now : RdvData) (n : ℕ) → AreAdded t choices before now n → length (ballot_lines t) ≤ n
    → now ≡ record before { bags = with_votes (ballot_lines t) choices before.bags }
added_all t choices before now n a all =
    let lines : List BallotLine = ballot_lines t in
    let bags : now.bags ≡ with_votes lines choices before.bags =
    ap (λ (ls : List BallotLine). with_votes ls (drop n choices) now.bags) (sym (drop_of_length-le lines all)) ∙ a.rest in
    let of_parts : List (List Choice) → ℕ → List ℕ → RdvData = λ b v p. record { bags = b; voters = v; places = p } in
    ap (λ (b : List (List Choice)). of_parts b now.voters now.places) bags
    ∙ ap (λ (v : ℕ). of_parts (with_votes lines choices before.bags) v now.places) a.same_voters
    ∙ ap (λ (p : List ℕ). of_parts (with_votes lines choices before.bags) before.voters p) a.same_places

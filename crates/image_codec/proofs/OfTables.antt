-- Each step of a poll of some tables leads to a state of these tables
use Rattle.std.proofs.Common.{◌≡◌, ℕ, ◌*◌, ◌<◌, Bool, true, List, length, slice_index, refl, ap, ◌∙◌, arith}
use Rattle.std.proofs.Math.ListN.{length-set}
use Rattle.std.proofs.lemmas.List.{length-replicate}
use Rattle.urna_base.specs.Moment.{is_moment}
use Rattle.election_tables.specs.TablesData.{TablesData, places_at}
use Rattle.vote_kinds.specs.declared.choice.Choice.{Choice}
use Rattle.vote_kinds.specs.Ballot.{ballot_lines, lines_by_panel}
use Rattle.vote_record.specs.Bag.{bag_at}
use Rattle.turnout.specs.Turnout.{number_came}
use Rattle.image_codec.specs.State.{State, opened_at, with_ballot, sealed_at, MayVote, IsBallot}
use Rattle.image_codec.specs.Valid.{ready_state, MayClose}
use Rattle.image_codec.specs.Encoding.{IsStateOf}
use Rattle.image_codec.proofs.Full.{full_at}
use Rattle.image_codec.proofs.Ballots.{choices-empty, choices-with_votes}
use Rattle.image_codec.proofs.Valid.{bag_for_each, valid-ready_state, valid-opened_at, valid-with_ballot, valid-sealed_at}

pub of_tables-ready_state : (t : TablesData) (voters : ℕ) → IsStateOf t voters (ready_state t voters)
of_tables-ready_state t voters = record {
  valid = valid-ready_state t voters;
  roll = length-replicate {A = Bool} voters _;
  places = refl;
  choices = choices-empty (lines_by_panel t) (length t.panels);
}

pub of_tables-opened_at : (t : TablesData) (voters : ℕ) (s : State) (m : ℕ) → IsStateOf t voters s → is_moment m ≡ true → IsStateOf t voters (opened_at s m)
of_tables-opened_at t voters s m of moment = record { valid = valid-opened_at s m of.valid moment; roll = of.roll; places = of.places; choices = of.choices }

pub of_tables-with_ballot : (t : TablesData) (voters : ℕ) (s : State) (place : ℕ) (choices : List Choice) → IsStateOf t voters s → MayVote s place → IsBallot (ballot_lines t) choices
    → IsStateOf t voters (with_ballot (ballot_lines t) s place choices)
of_tables-with_ballot t voters s place choices of may ballot = record {
  valid = valid-with_ballot t s place choices of.valid may ballot of.places;
  roll = length-set s.came place true ∙ of.roll;
  places = of.places;
  choices = choices-with_votes t choices s.bags ballot.0 of.choices;
}

pub of_tables-sealed_at : (t : TablesData) (voters : ℕ) (s : State) (m : ℕ) → IsStateOf t voters s → MayClose s.phase m → is_moment m ≡ true → IsStateOf t voters (sealed_at s m)
of_tables-sealed_at t voters s m of may moment = record { valid = valid-sealed_at s m of.valid may moment; roll = of.roll; places = of.places; choices = of.choices }

-- there is a bag for each panel, with all votes of those who came
pub panels_of : (t : TablesData) (voters : ℕ) (s : State) → IsStateOf t voters s → length s.bags ≡ length t.panels
panels_of t voters s of = bag_for_each t s of.valid of.places

pub votes_of : (t : TablesData) (voters : ℕ) (s : State) (panel : ℕ) → IsStateOf t voters s → panel < length t.panels → length (bag_at s.bags panel) ≡ number_came s.came * places_at t panel
votes_of t voters s panel of lt =
    full_at (number_came s.came) s.places s.bags panel of.valid.full (omega (arith, panels_of t voters s of))
    ∙ ap (λ (p : List ℕ). number_came s.came * slice_index p panel) of.places

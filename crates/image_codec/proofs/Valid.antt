-- The state before the poll is valid, and a ballot keeps a state valid
use Rattle.std.proofs.Common.{◌≡◌, ℕ, zero, suc, ◌+◌, ◌<◌, Bool, true, false, List, [], length, replicate, slice_set, slice_index, sym, ap, subst, ◌∙◌, arith}
use Rattle.std.proofs.Math.ListN.{length-set}
use Rattle.std.proofs.lemmas.List.{length-replicate, length-map}
use Rattle.std.specs.List.{AllByRecursion}
use Rattle.urna_base.specs.Moment.{is_moment}
use Rattle.election_tables.specs.TablesData.{TablesData, places_in, places_of}
use Rattle.vote_kinds.specs.declared.choice.Choice.{Choice}
use Rattle.vote_kinds.specs.Ballot.{ballot_lines}
use Rattle.vote_record.specs.Bag.{IsInOrder}
use Rattle.vote_record.specs.RdvData.{RdvData, empty_record}
use Rattle.turnout.specs.Turnout.{has_come, number_came}
use Rattle.turnout.specs.declared.phase.Phase.{Phase}
use Rattle.turnout.specs.declared.phase.Phase.TheVariants as phase
use Rattle.turnout.proofs.Marks.{number_came-replicate, number_came-set, number_came-lt-length}
use Rattle.image_codec.specs.State.{State, with_votes, with_ballot, opened_at, sealed_at, sealed_by, MayVote, IsBallot, IsPolling}
use Rattle.image_codec.specs.Valid.{ready_state, IsValid, HasMoments, IsStarted, AllHaveVoted, HasRoomForVoter, MayClose}
use Rattle.image_codec.proofs.Ballots.{full-with_votes, in_order-with_votes}
use Rattle.image_codec.proofs.Full.{full_at, full_empty, full_many, one_voter_more}

-- Before the poll

empty_in_order : (n : ℕ) → AllByRecursion IsInOrder (replicate n [])
empty_in_order zero = tt
empty_in_order (suc n) = (tt, empty_in_order n)

pub valid-ready_state : (t : TablesData) (voters : ℕ) → IsValid (ready_state t voters)
valid-ready_state t voters = record {
  moments = tt;
  started = number_came-replicate voters;
  full = subst (λ (n : ℕ). AllHaveVoted n (places_of t) (replicate (length t.panels) [])) (sym (number_came-replicate voters))
      (subst (λ (k : ℕ). AllHaveVoted 0 (places_of t) (replicate k [])) (length-map t.panels places_in) (full_empty (places_of t)));
  in_order = empty_in_order (length t.panels);
}

-- a state of these parts
abbrev pub state_of : Phase → List Bool → RdvData → State
state_of p came r = record { phase = p; came = came; places = r.places; bags = r.bags }

-- the parts of a state are kept together: the state is valid, and its record is of the same voters as its turnout
abbrev pub IsKept : Phase → List Bool → RdvData → Type 0
IsKept p came r = IsValid (state_of p came r) × (r.voters ≡ length came)

pub ready_valid : (t : TablesData) (voters : ℕ) (came : List Bool) (r : RdvData) → came ≡ replicate voters false → r ≡ empty_record t voters → IsKept phase.Ready came r
ready_valid t voters came r e f =
    subst (λ (m : List Bool). IsKept phase.Ready m r) (sym e)
    (subst (IsKept phase.Ready (replicate voters false)) (sym f) (valid-ready_state t voters, sym (length-replicate voters false)))

-- A ballot

-- while somebody has not come, each panel has room for one voter more
pub has_room : (came : List Bool) (r : RdvData) (place : ℕ) → AllHaveVoted (number_came came) r.places r.bags → r.voters ≡ length came
    → place < length came → has_come came place ≡ false → HasRoomForVoter r
has_room came r place full of known absent panel lt =
    let votes = full_at (number_came came) r.places r.bags panel full lt in
    let fewer = number_came-lt-length came place known absent in
    let more = one_voter_more (number_came came) r.voters (slice_index r.places panel) (omega arith) in
    omega arith

started_polling : (p : Phase) (n : ℕ) → IsPolling p → IsStarted p n
started_polling phase.Ready n polling = absurd polling
started_polling (phase.Polling opened) n polling = tt
started_polling (phase.Sealed opened closed) n polling = tt

-- there is a bag for each panel of the tables
pub bag_for_each : (t : TablesData) (s : State) → IsValid s → s.places ≡ places_of t → length s.bags ≡ length t.panels
bag_for_each t s valid places = full_many (number_came s.came) s.places s.bags valid.full ∙ ap length places ∙ length-map t.panels places_in

pub valid-with_ballot : (t : TablesData) (s : State) (place : ℕ) (choices : List Choice) → IsValid s → MayVote s place → IsBallot (ballot_lines t) choices
    → s.places ≡ places_of t → IsValid (with_ballot (ballot_lines t) s place choices)
valid-with_ballot t s place choices valid may ballot places =
    let more = number_came-set s.came place may.known may.absent in
    let bags : List (List Choice) = with_votes (ballot_lines t) choices s.bags in
    let full : AllHaveVoted (number_came s.came + 1) (places_of t) bags =
    full-with_votes t choices s.bags (number_came s.came) ballot.1 (subst (λ (p : List ℕ). AllHaveVoted (number_came s.came) p s.bags) places valid.full) in
    record {
      moments = valid.moments;
      started = started_polling s.phase (number_came (slice_set s.came place true)) may.polling;
      full = subst (λ (n : ℕ). AllHaveVoted n s.places bags) (sym more) (subst (λ (p : List ℕ). AllHaveVoted (number_came s.came + 1) p bags) (sym places) full);
      in_order = in_order-with_votes (ballot_lines t) choices s.bags valid.in_order;
    }

-- the parts of a state that is seen as `now`, after a ballot
pub ballot_valid : (t : TablesData) (p : Phase) (came marked : List Bool) (r after : RdvData) (now : State) (place : ℕ) (choices : List Choice)
    → IsKept p came r → state_of p came r ≡ now → MayVote now place → IsBallot (ballot_lines t) choices → now.places ≡ places_of t
    → marked ≡ slice_set came place true → after ≡ record r { bags = with_votes (ballot_lines t) choices r.bags } → IsKept p marked after
ballot_valid t p came marked r after now place choices kept is may ballot places e f =
    let s : State = state_of p came r in
    let may' : MayVote s place = subst (λ (x : State). MayVote x place) (sym is) may in
    let places' : s.places ≡ places_of t = subst (λ (x : State). x.places ≡ places_of t) (sym is) places in
    subst (λ (m : List Bool). IsKept p m after) (sym e) (subst (IsKept p (slice_set came place true)) (sym f)
    (valid-with_ballot t s place choices kept.0 may' ballot places', kept.1 ∙ sym (length-set came place true)))

-- Opening and sealing

pub valid-opened_at : (s : State) (m : ℕ) → IsValid s → is_moment m ≡ true → IsValid (opened_at s m)
valid-opened_at s m valid moment = record { moments = moment; started = tt; full = valid.full; in_order = valid.in_order }

sealed_moments : (p : Phase) (m : ℕ) → HasMoments p → MayClose p m → is_moment m ≡ true → HasMoments (sealed_by p m)
sealed_moments phase.Ready m has may moment = absurd may
sealed_moments (phase.Polling opened) m has may moment = (has, moment, may)
sealed_moments (phase.Sealed opened closed) m has may moment = absurd may

sealed_started : (p : Phase) (n m : ℕ) → MayClose p m → IsStarted (sealed_by p m) n
sealed_started phase.Ready n m may = absurd may
sealed_started (phase.Polling opened) n m may = tt
sealed_started (phase.Sealed opened closed) n m may = absurd may

pub valid-sealed_at : (s : State) (m : ℕ) → IsValid s → MayClose s.phase m → is_moment m ≡ true → IsValid (sealed_at s m)
valid-sealed_at s m valid may moment = record {
  moments = sealed_moments s.phase m valid.moments may moment;
  started = sealed_started s.phase (number_came s.came) m may;
  full = valid.full;
  in_order = valid.in_order;
}

-- A press leads to a state of the poll, of greater rank where it is committed
use Rattle.std.proofs.Common.{◌≡◌, ◌≤◌, ◌++◌, ℕ, true, List, [], ◌∷◌, map, length, Option, Some, None, refl, sym, subst}
use Rattle.urna_base.specs.Moment.{is_moment}
use Rattle.key_script.specs.declared.keys.Key.{Key}
use Rattle.key_script.specs.declared.keys.Event.{Event}
use Rattle.key_script.specs.declared.keys.Event.TheVariants.{Clerk, Voter}
use Rattle.key_script.specs.declared.keys.ClerkKey.{ClerkKey}
use Rattle.key_script.specs.declared.keys.ClerkKey.TheVariants as clerk
use Rattle.key_script.specs.Event.{IsClerkKey, IsEvent}
use Rattle.election_tables.specs.TablesData.{TablesData}
use Rattle.vote_kinds.specs.declared.choice.Choice.{Choice}
use Rattle.vote_kinds.specs.declared.choice.Field.{Field}
use Rattle.vote_kinds.specs.Ballot.{BallotLine, ballot_lines}
use Rattle.voter_term.specs.declared.panel.Shown.{Shown}
use Rattle.voter_term.specs.declared.panel.Shown.TheVariants as shown
use Rattle.voter_term.specs.Panel.{next_shown}
use Rattle.turnout.specs.declared.phase.Phase.{Phase}
use Rattle.turnout.specs.declared.phase.Phase.TheVariants as phase
use Rattle.clerk_term.specs.declared.replies.Mode.{Mode}
use Rattle.clerk_term.specs.declared.replies.Mode.TheVariants as mode
use Rattle.clerk_term.specs.declared.replies.ClerkAnswer.{ClerkAnswer}
use Rattle.clerk_term.specs.declared.replies.ClerkAnswer.TheVariants as answer
use Rattle.image_codec.specs.Encoding.{IsStateOf}
use Rattle.image_codec.specs.State.{State, MayVote, AreFirst, IsBallot, IsPolling, filled_up, with_ballot}
use Rattle.image_codec.specs.Valid.{MayClose}
use Rattle.image_codec.proofs.OfTables.{of_tables-opened_at, of_tables-sealed_at, of_tables-with_ballot}
use Rattle.image_codec.proofs.Steps.{rank-opened_at, rank-sealed_at, rank-with_ballot}
use Rattle.station.specs.Acts.{act_of}
use Rattle.station.specs.Doing.{MayDoAll}
use Rattle.station.specs.Output.{line_at, earlier_for}
use Rattle.station.specs.Press.{Pressed, Standing, after_key, answered, call, on_line, press, typed}
use Rattle.station.specs.Setting.{reply_at, setting_of}
use Rattle.station.specs.Valid.{IsAnswer, IsPlaced, IsStanding}
use Rattle.station.proofs.Choosing.{first_all, first_filled, first_more, voted_is}
use Rattle.station.proofs.Replies.{answer_of}
use Rattle.station.specs.Output.{Says}
use Rattle.station.specs.declared.line.Line.TheVariants as line

-- what a press leaves is a state of the poll, and its acts may be done over the state before
pub record Leads (t : TablesData) (voters : ℕ) (s : State) (r : Pressed) : Type 0 where
  pub state : IsStateOf t voters r.standing.state
  pub may : MayDoAll s r.standing.state (map act_of r.out)

module _ (t : TablesData) (titles : List ℕ) (s : State) (is : IsStateOf t (length titles) s) where
  ballot_leads : (place : ℕ) (choices : List Choice) → MayVote s place → IsBallot (ballot_lines t) choices → IsStateOf t (length titles) (with_ballot (ballot_lines t) s place choices)
  ballot_leads place choices may ballot = of_tables-with_ballot t (length titles) s place choices is may ballot

  call_leads : (place : ℕ) (choices : List Choice) (o : Option BallotLine) → line_at (setting_of t titles) choices ≡ o → MayVote s place → AreFirst (ballot_lines t) choices
      → Leads t (length titles) s (call (setting_of t titles) s place choices o)
  call_leads place choices (Some l) at may first = record { state = is; may = (tt, tt) }
  call_leads place choices None at may first =
      let ballot = first_all (ballot_lines t) choices first at in
      record { state = ballot_leads place choices may ballot; may = (rank-with_ballot (ballot_lines t) s place choices may, tt) }

  key_leads : (place : ℕ) (choices : List Choice) (f : Field) (l : BallotLine) (k : Key) (r : Shown) → line_at (setting_of t titles) choices ≡ Some l → MayVote s place → AreFirst (ballot_lines t) choices
      → next_shown l (earlier_for (setting_of t titles) choices l) f k ≡ r → Leads t (length titles) s (after_key (setting_of t titles) s place choices f l k r)
  key_leads place choices f l k shown.Nothing at may first e = record { state = is; may = tt }
  key_leads place choices f l k shown.Screen at may first e = record { state = is; may = (tt, tt) }
  key_leads place choices f l k (shown.Voted c) at may first e =
      call_leads place (choices ++ c ∷ []) (line_at (setting_of t titles) (choices ++ c ∷ [])) refl may
      (first_more (ballot_lines t) choices l c first at (voted_is l (earlier_for (setting_of t titles) choices l) f k c e))

  line_leads : (place : ℕ) (choices : List Choice) (f : Field) (k : Key) (o : Option BallotLine) → line_at (setting_of t titles) choices ≡ o → MayVote s place → AreFirst (ballot_lines t) choices
      → Leads t (length titles) s (on_line (setting_of t titles) s place choices f k o)
  line_leads place choices f k None at may first = record { state = is; may = tt }
  line_leads place choices f k (Some l) at may first = key_leads place choices f l k (next_shown l (earlier_for (setting_of t titles) choices l) f k) at may first refl

  typed_leads : (m : Mode) (choices : List Choice) (f : Field) (k : Key) → IsPlaced (setting_of t titles) (record { state = s; mode = m; choices = choices; field = f }) m
      → Leads t (length titles) s (typed (setting_of t titles) s m choices f k)
  typed_leads mode.Idle choices f k placed = record { state = is; may = tt }
  typed_leads (mode.Identified place) choices f k placed = record { state = is; may = tt }
  typed_leads (mode.Voting place) choices f k placed = line_leads place choices f k (line_at (setting_of t titles) choices) refl placed.0 placed.1

  suspended_leads : (m : Mode) (f : Field) (c : ClerkKey) (place : ℕ) (choices : List Choice) → MayVote s place → AreFirst (ballot_lines t) choices
      → Leads t (length titles) s (answered (setting_of t titles) (record { state = s; mode = m; choices = choices; field = f }) c (answer.Suspends place))
  suspended_leads m f c place [] may first = record { state = is; may = (tt, tt) }
  suspended_leads m f c place (x ∷ choices) may first =
      let ballot = first_filled (ballot_lines t) (x ∷ choices) first in
      record { state = ballot_leads place (filled_up (ballot_lines t) (x ∷ choices)) may ballot; may = (rank-with_ballot (ballot_lines t) s place (filled_up (ballot_lines t) (x ∷ choices)) may, tt) }

  released_leads : (place : ℕ) (o : Option BallotLine) → line_at (setting_of t titles) [] ≡ o → MayVote s place
      → Leads t (length titles) s (record { standing = (call (setting_of t titles) s place [] o).standing; out = Says line.Released ∷ (call (setting_of t titles) s place [] o).out })
  released_leads place o at may = let h = call_leads place [] o at may tt in record { state = h.state; may = (tt, h.may) }

opened_moment : (k : ClerkKey) (m : ℕ) → IsClerkKey k → k ≡ clerk.Abre m → is_moment m ≡ true
opened_moment k m valid e = let there : IsClerkKey (clerk.Abre m) = subst IsClerkKey e valid in there

closed_moment : (k : ClerkKey) (m : ℕ) → IsClerkKey k → k ≡ clerk.Encerra m → is_moment m ≡ true
closed_moment k m valid e = let there : IsClerkKey (clerk.Encerra m) = subst IsClerkKey e valid in there

may_close : (p : Phase) (opened m : ℕ) → p ≡ phase.Polling opened → opened ≤ m → MayClose p m
may_close p opened m at le = subst (λ (q : Phase). MayClose q m) (sym at) le

is_polling : (p : Phase) (opened : ℕ) → p ≡ phase.Polling opened → IsPolling p
is_polling p opened at = subst IsPolling (sym at) tt

answered_leads : (t : TablesData) (titles : List ℕ) (x : Standing) (k : ClerkKey) (a : ClerkAnswer) → IsStateOf t (length titles) x.state → IsClerkKey k → IsAnswer (setting_of t titles) x.state x.choices k a
    → Leads t (length titles) x.state (answered (setting_of t titles) x k a)
answered_leads t titles x k (answer.Refused n) is valid may = record { state = is; may = (tt, tt) }
answered_leads t titles x k (answer.Opens m) is valid may =
    record { state = of_tables-opened_at t (length titles) x.state m is (opened_moment k m valid may.1); may = (tt, (rank-opened_at x.state m may.0, tt)) }
answered_leads t titles x k (answer.Identifies place) is valid may = record { state = is; may = (tt, tt) }
answered_leads t titles x k (answer.Releases place) is valid may = released_leads t titles x.state is place (line_at (setting_of t titles) []) refl may
answered_leads t titles x k (answer.Cancels place) is valid may = record { state = is; may = (tt, tt) }
answered_leads t titles x k (answer.Suspends place) is valid may = suspended_leads t titles x.state is x.mode x.field k place x.choices may.0 may.1
answered_leads t titles x k (answer.Seals m) is valid may =
    record {
      state = of_tables-sealed_at t (length titles) x.state m is (may_close x.state.phase may.1.0 m may.1.1 may.1.2) (closed_moment k m valid may.0);
      may = (rank-sealed_at x.state m (is_polling x.state.phase may.1.0 may.1.1), (tt, tt));
    }

pub press_leads : (t : TablesData) (titles : List ℕ) (x : Standing) (e : Event) → IsStateOf t (length titles) x.state → IsEvent e → IsStanding (setting_of t titles) x
    → Leads t (length titles) x.state (press (setting_of t titles) x e)
press_leads t titles x (Voter k) is valid h = typed_leads t titles x.state is x.mode x.choices x.field k h.placed
press_leads t titles x (Clerk k) is valid h = answered_leads t titles x k (reply_at (setting_of t titles) x.state x.mode k) is valid (answer_of (setting_of t titles) x k h.roll h.placed)

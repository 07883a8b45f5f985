-- A ready state that takes on what was read is the state of the encoding
use Rattle.std.proofs.Common.{◌≡◌, ℕ, ◌*◌, ◌<◌, ◌≤◌, Bool, true, false, cond, List, [], ◌∷◌, length, replicate, slice_index, unwrap_or, Option, Some, IsSome, is_some, option_map, refl, sym, ap, subst, ◌∙◌, arith}
use Rattle.std.proofs.lemmas.List.Sums.{sum_by-cons}
use Rattle.urna_base.proofs.Cases.{and_then_some, guard_some, map_some}
use Rattle.election_tables.specs.Limits.{most_voters}
use Rattle.election_tables.specs.TablesData.{TablesData, IsTables, places_of, places_at}
use Rattle.vote_kinds.specs.declared.choice.Choice.{Choice}
use Rattle.vote_kinds.specs.Ballot.{lines_by_panel}
use Rattle.vote_record.specs.RdvData.{RdvData, room_at}
use Rattle.turnout.specs.Turnout.{number_came}
use Rattle.turnout.specs.declared.phase.Phase.{Phase}
use Rattle.turnout.specs.declared.phase.Phase.TheVariants as phase
use Rattle.image_codec.specs.State.{State}
use Rattle.image_codec.specs.Valid.{IsStarted, AllHaveVoted}
use Rattle.image_codec.specs.Encoding.{IsEncoding}
use Rattle.image_codec.specs.DecodedHead.{marks_in, turnout_of, phase_in}
use Rattle.image_codec.specs.Decoded.{bags_of, is_body, decoded}
use Rattle.image_codec.specs.Head.{head_of}
use Rattle.image_codec.specs.declared.codec.head.Head.{Head}
use Rattle.image_codec.proofs.Decoding.{decoded_takes}
use Rattle.image_codec.proofs.Full.{no_votes, fewer_votes}
use Rattle.image_codec.proofs.Valid.{IsKept, state_of, bag_for_each}
use Rattle.image_codec.proofs.WholeBody.{bags_by_count, body_bags, head_known, rest_of, state_with}

-- Before the poll

nobody_came : (came : List Bool) → number_came came ≡ 0 → came ≡ replicate (length came) false
nobody_came [] e = refl
nobody_came (true ∷ came) e = let more = sum_by-cons (λ m. cond {A = ℕ} m 1 0) true came in absurd (omega arith)
nobody_came (false ∷ came) e =
    let more = sum_by-cons (λ m. cond {A = ℕ} m 1 0) false came in
    ap (λ (r : List Bool). false ∷ r) (nobody_came came (omega arith))

none_yet : (p : Phase) (came : List Bool) (r : RdvData) → IsKept p came r → p ≡ phase.Ready → number_came came ≡ 0
none_yet p came r kept ready = subst (λ (q : Phase). IsStarted q (number_came came)) ready kept.0.started

pub ready_marks : (p : Phase) (came : List Bool) (r : RdvData) → IsKept p came r → p ≡ phase.Ready → came ≡ replicate (length came) false
ready_marks p came r kept ready = nobody_came came (none_yet p came r kept ready)

pub ready_bags : (t : TablesData) (p : Phase) (came : List Bool) (r : RdvData) → IsKept p came r → p ≡ phase.Ready → r.places ≡ places_of t → r.bags ≡ replicate (length t.panels) []
ready_bags t p came r kept ready places =
    no_votes r.places r.bags (subst (λ (n : ℕ). AllHaveVoted n r.places r.bags) (none_yet p came r kept ready) kept.0.full)
    ∙ ap (λ (n : ℕ). replicate {A = List Choice} n []) (bag_for_each t (state_of p came r) kept.0 places)

-- each panel has room for the votes of all who came
pub room_for_all : (t : TablesData) (r : RdvData) (voters came : ℕ) → r.voters ≡ voters → r.places ≡ places_of t → came ≤ voters → (panel : ℕ) → panel < length t.panels
    → came * places_at t panel ≤ room_at r panel
room_for_all t r voters came of places few panel lt =
    let room : room_at r panel ≡ voters * places_at t panel = ap (λ (p : List ℕ). r.voters * slice_index p panel) places ∙ ap (λ (n : ℕ). n * places_at t panel) of in
    let fits = fewer_votes came voters (places_at t panel) few in
    omega arith

-- What was read

-- the head, and the state that it is of
record IsRead (t : TablesData) (voters : ℕ) (bytes : List ℕ) (h : Head) : Type 0 where
  state : State
  found : decoded t voters bytes ≡ Some state
  phase_is : state.phase ≡ h.phase
  came_is : state.came ≡ marks_in voters (turnout_of bytes)
  bags_are : bags_of (lines_by_panel t) h.came bytes ≡ Some state.bags

parts_of : (t : TablesData) (voters : ℕ) (bytes : List ℕ) (s : State) → decoded t voters bytes ≡ Some s → (s.came ≡ marks_in voters (turnout_of bytes)) × (body_bags t voters bytes ≡ Some s.bags)
unfolding decoded
parts_of t voters bytes s e =
    let whole = guard_some (is_body bytes) (rest_of t voters bytes (phase_in voters (length t.panels) bytes)) s e in
    let a = and_then_some (phase_in voters (length t.panels) bytes) (λ p. option_map (state_with t voters bytes p) (body_bags t voters bytes)) s whole.1 in
    let b = map_some (state_with t voters bytes a.0) (body_bags t voters bytes) s a.2 in
    (ap (λ (x : State). x.came) (sym b.2), b.1 ∙ ap (λ (x : State). Some x.bags) b.2)

is_read : (t : TablesData) (voters : ℕ) (bytes : List ℕ) (h : Head) → Some h ≡ option_map head_of (decoded t voters bytes) → IsRead t voters bytes h
is_read t voters bytes h head =
    let known = head_known (decoded t voters bytes) h head in
    let parts = parts_of t voters bytes known.0 known.1 in
    let count : h.came ≡ number_came (marks_in voters (turnout_of bytes)) = ap (λ (g : Head). g.came) (sym known.2) ∙ ap number_came parts.0 in
    record {
      state = known.0;
      found = known.1;
      phase_is = ap (λ (g : Head). g.phase) known.2;
      came_is = parts.0;
      bags_are = bags_by_count t voters h.came bytes count ∙ parts.1;
    }

pub bags_read : (t : TablesData) (voters : ℕ) (bytes : List ℕ) (h : Head) → Some h ≡ option_map head_of (decoded t voters bytes) → IsSome (bags_of (lines_by_panel t) h.came bytes)
bags_read t voters bytes h head = ap (λ (o : Option (List (List Choice))). is_some o) (is_read t voters bytes h head).bags_are

pub read_encoding : (t : TablesData) (voters : ℕ) (bytes : List ℕ) (h : Head) (came : List Bool) (r after : RdvData) → IsTables t → voters ≤ most_voters
    → Some h ≡ option_map head_of (decoded t voters bytes) → came ≡ marks_in voters (turnout_of bytes) → r.places ≡ places_of t
    → after ≡ record r { bags = unwrap_or (bags_of (lines_by_panel t) h.came bytes) [] } → IsEncoding t voters (state_of h.phase came after) bytes
read_encoding t voters bytes h came r after is few head marks places votes =
    let read = is_read t voters bytes h head in
    let encoding = decoded_takes t voters bytes read.state is few read.found in
    let same_bags : after.bags ≡ read.state.bags = ap (λ (x : RdvData). x.bags) votes ∙ ap (λ (o : Option (List (List Choice))). unwrap_or o []) read.bags_are in
    let same_places : after.places ≡ read.state.places = ap (λ (x : RdvData). x.places) votes ∙ places ∙ sym encoding.state.places in
    let of_parts : Phase → List Bool → List ℕ → List (List Choice) → State = λ p m k b. record { phase = p; came = m; places = k; bags = b } in
    let same : read.state ≡ state_of h.phase came after =
    ap (λ (p : Phase). of_parts p read.state.came read.state.places read.state.bags) read.phase_is
    ∙ ap (λ (m : List Bool). of_parts h.phase m read.state.places read.state.bags) (read.came_is ∙ sym marks)
    ∙ ap (λ (k : List ℕ). of_parts h.phase came k read.state.bags) (sym same_places)
    ∙ ap (of_parts h.phase came after.places) (sym same_bags) in
    subst (λ (s : State). IsEncoding t voters s bytes) same encoding

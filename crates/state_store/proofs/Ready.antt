-- The state before a poll.
use Rattle.std.proofs.Common.{◌≡◌, ℕ, false, length, get_or, refl, sym, ap, subst, ◌∙◌}
use Rattle.std.proofs.lemmas.List.{length-replicate}
use Rattle.election_tables.specs.TablesData.{TablesData}
use Rattle.image_codec.specs.Encoding.{IsStateOf, encode, written}
use Rattle.image_codec.specs.State.{State}
use Rattle.image_codec.specs.Valid.{ready_state}
use Rattle.image_codec.proofs.OfTables.{of_tables-ready_state}

-- it has a place for each voter
pub ready_places : (t : TablesData) (voters : ℕ) (s : State) → s ≡ ready_state t voters → length s.came ≡ voters
ready_places t voters s is = ap (λ (x : State). length x.came) is ∙ length-replicate voters false

-- it is a state of the poll
pub ready_named : (t : TablesData) (voters : ℕ) (s : State) → s ≡ ready_state t voters → IsStateOf t (length s.came) s
ready_named t voters s is =
    subst (λ (n : ℕ). IsStateOf t n s) (sym (ready_places t voters s is)) (subst (IsStateOf t voters) (sym is) (of_tables-ready_state t voters))

-- its phase byte is that of no poll that was opened or sealed
pub ready_unused : (t : TablesData) (voters : ℕ) → get_or (encode t (ready_state t voters)) 1 0 ≡ 0
unfolding encode written
ready_unused t voters = refl

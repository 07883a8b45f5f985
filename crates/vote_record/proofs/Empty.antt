-- Panels where nobody has voted
use Rattle.std.proofs.Common.{◌≡◌, ℕ, zero, suc, ◌*◌, [], replicate, refl}
use Rattle.election_tables.specs.TablesData.{TablesData, places_at}
use Rattle.vote_record.specs.Bag.{bag_at}
use Rattle.vote_record.specs.RdvData.{empty_record, room_at}

pub bag_at-replicate : (n panel : ℕ) → bag_at (replicate n []) panel ≡ []
bag_at-replicate zero panel = refl
bag_at-replicate (suc n) zero = refl
bag_at-replicate (suc n) (suc panel) = bag_at-replicate n panel

-- a record where nobody has voted has room for the votes of each voter
pub empty_room : (t : TablesData) (voters panel : ℕ) → room_at (empty_record t voters) panel ≡ voters * places_at t panel
empty_room t voters panel = refl

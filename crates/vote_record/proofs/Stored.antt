-- The bags of a record as they are stored
use Rattle.std.proofs.Common.{◌≡◌, ℕ, zero, suc, ◌*◌, ◌<◌, List, [], ◌∷◌, length, get_or, map, slice_set, slice_index, refl, sym, ap, subst, ◌∙◌, arith}
use Rattle.std.specs.List.{sum_by}
use Rattle.std.proofs.lemmas.List.{map-set}
use Rattle.std.proofs.lemmas.List.Sums.{sum_by-set}
use Rattle.vote_kinds.specs.declared.choice.Choice.{Choice}
use Rattle.vote_record.specs.Bag.{with_choice, bag_at, with_vote}
use Rattle.vote_record.specs.BagData.{BagData}
use Rattle.vote_record.specs.RdvData.{RdvData, room_at}
use Rattle.vote_record.proofs.Sets.{map-set_same}

-- what contracts see of stored bags
abbrev pub bags_in : List BagData → List (List Choice)
bags_in bags = map (λ b. b.members) bags

abbrev pub rooms_of : List BagData → List ℕ
rooms_of bags = map (λ b. b.room) bags

abbrev pub data_of : List BagData → ℕ → List ℕ → RdvData
data_of bags voters places = record { bags = bags_in bags; voters = voters; places = places }

pub length-bags_in : (bags : List BagData) → length (bags_in bags) ≡ length bags
length-bags_in [] = refl
length-bags_in (b ∷ bags) = ap suc (length-bags_in bags)

pub bag_at-bags_in : (bags : List BagData) (panel : ℕ) (d : BagData) → panel < length bags → bag_at (bags_in bags) panel ≡ (get_or bags panel d).members
bag_at-bags_in [] panel d lt = absurd (omega arith)
bag_at-bags_in (b ∷ bags) zero d lt = refl
bag_at-bags_in (b ∷ bags) (suc panel) d lt = bag_at-bags_in bags panel d (omega arith)

pub room-at : (voters : ℕ) (bags : List BagData) (places : List ℕ) (panel : ℕ) (d : BagData)
    → rooms_of bags ≡ map (λ n. voters * n) places → panel < length bags → (get_or bags panel d).room ≡ voters * slice_index places panel
room-at voters [] places panel d e lt = absurd (omega arith)
room-at voters (b ∷ bags) [] panel d e lt = absurd (cc)
room-at voters (b ∷ bags) (n ∷ places) zero d e lt = cc
room-at voters (b ∷ bags) (n ∷ places) (suc panel) d e lt =
    let rest : rooms_of bags ≡ map (λ m. voters * m) places = cc in
    room-at voters bags places panel d rest (omega arith)

-- another bag in the place of one

pub bags-set : (bags : List BagData) (panel : ℕ) (after : BagData) → bags_in (slice_set bags panel after) ≡ slice_set (bags_in bags) panel after.members
bags-set bags panel after = map-set (λ b. b.members) bags panel after

pub rooms-set : (bags : List BagData) (panel : ℕ) (before after : BagData) → panel < length bags
    → before ≡ get_or bags panel before → after.room ≡ before.room → rooms_of (slice_set bags panel after) ≡ rooms_of bags
rooms-set bags panel before after lt read same = map-set_same (λ b. b.room) bags panel before after lt read (sym same)

-- one vote more, as one member more of its bag
pub with_vote-set : (panel : ℕ) (c : Choice) (bags : List (List Choice)) → slice_set bags panel (with_choice c (bag_at bags panel)) ≡ with_vote panel c bags
with_vote-set panel c [] = refl
with_vote-set zero c (bag ∷ bags) = refl
with_vote-set (suc panel) c (bag ∷ bags) = ap (λ (b : List (List Choice)). bag ∷ b) (with_vote-set panel c bags)

pub memory-set : (bags : List BagData) (panel : ℕ) (before after : BagData) → panel < length bags
    → before ≡ get_or bags panel before → after.room ≡ before.room → after.memory ≡ before.memory
    → (sum_by (λ b. b.memory) (slice_set bags panel after) ≡ sum_by (λ b. b.memory) bags) × (sum_by (λ b. b.room) (slice_set bags panel after) ≡ sum_by (λ b. b.room) bags)
memory-set bags panel before after lt read room memory =
    let old_memory = ap (λ (b : BagData). b.memory) read in
    let old_room = ap (λ (b : BagData). b.room) read in
    (omega (arith, sum_by-set (λ b. b.memory) bags panel after before lt), omega (arith, sum_by-set (λ b. b.room) bags panel after before lt))

-- a bag that was read, where the record is seen as `now`

pub is_stored : (bags : List BagData) (voters : ℕ) (places : List ℕ) (now : RdvData) (panel : ℕ) (b : BagData)
    → rooms_of bags ≡ map (λ n. voters * n) places → data_of bags voters places ≡ now → panel < length now.bags → b ≡ get_or bags panel b
    → (bag_at now.bags panel ≡ b.members) × (b.room ≡ room_at now panel)
is_stored bags voters places now panel b rooms is lt read =
    let lt' : panel < length (bags_in bags) = subst (λ (r : RdvData). panel < length r.bags) (sym is) lt in
    let n = length-bags_in bags in
    let same : bag_at (bags_in bags) panel ≡ b.members = bag_at-bags_in bags panel b (omega arith) ∙ ap (λ (x : BagData). x.members) (sym read) in
    let room : b.room ≡ voters * slice_index places panel = ap (λ (x : BagData). x.room) read ∙ room-at voters bags places panel b rooms (omega arith) in
    (subst (λ (r : RdvData). bag_at r.bags panel ≡ b.members) is same, subst (λ (r : RdvData). b.room ≡ room_at r panel) is room)

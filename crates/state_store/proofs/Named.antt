-- The section that a header names.
use Rattle.std.proofs.Common.{◌≡◌, ℕ, ◌<◌, ◌≤◌, ◌^◌, List, ◌++◌, take, drop, Some, refl, sym, ap, ◌∙◌, arith, lit≤}
use Rattle.std.specs.Prelude.{replicate}
use Rattle.std.specs.Int.{w32, from_be_bytes, to_be_bytes}
use Rattle.std.proofs.lemmas.List.{drop-take, take-take}
use Rattle.std.proofs.lemmas.List.Elements.{All-contains}
use Rattle.std.proofs.lemmas.Nat.{from_be_bytes-to_be_bytes_4}
use Rattle.urna_outside.specs.Flash.{part}
use Rattle.urna_outside.specs.declared.device.Dev.{Dev}
use Rattle.election_tables.specs.Roll.{RollData}
use Rattle.election_tables.specs.TablesData.{TablesData, IsSection, IsTables, section_with}
use Rattle.election_tables.specs.declared.tables.sections.Section.{Section}
use Rattle.gate_slot.specs.Slot.{header_size}
use Rattle.state_store.specs.Held.{HasFrameOf}
use Rattle.state_store.specs.Load.{IsSectionOf, header, load_of}
use Rattle.state_store.proofs.Sections.{found_section}

-- A header has the zone and the section from its ninth byte on.
names_place : (t : TablesData) (r : RollData) (s : Section) (d : Dev)
    → drop 9 (header (load_of t r s) d) ≡ to_be_bytes w32 s.zone ++ (to_be_bytes w32 s.number ++ (to_be_bytes w32 s.voters ++ t.digest ++ r.digest ++ replicate 427 0))
unfolding header
names_place t r s d = refl

module _ (c h : List ℕ) (zone number : ℕ) (rest : List ℕ) (there : part c 0 header_size ≡ h) (is : drop 9 h ≡ to_be_bytes w32 zone ++ (to_be_bytes w32 number ++ rest)) where
  behind : take 503 (drop 9 c) ≡ to_be_bytes w32 zone ++ (to_be_bytes w32 number ++ rest)
  behind = sym (drop-take 9 503 c) ∙ ap (drop 9) there ∙ is

  zone_there : take 4 (part c 9 8) ≡ to_be_bytes w32 zone
  zone_there = take-take 4 8 (drop 9 c) (lit≤ tt) ∙ sym (take-take 4 503 (drop 9 c) (lit≤ tt)) ∙ ap (take 4) behind

  number_there : drop 4 (part c 9 8) ≡ to_be_bytes w32 number
  number_there =
      drop-take 4 4 (drop 9 c) ∙ sym (take-take 4 499 (drop 4 (drop 9 c)) (lit≤ tt)) ∙ ap (take 4) (sym (drop-take 4 499 (drop 9 c)) ∙ ap (drop 4) behind)

small : (n : ℕ) → n ≤ 9999 → n < 2 ^ 32
small n below = omega (arith, below)

-- A device with the frame of a section names that section, and the tables have it.
pub named_there : (t : TablesData) (r : RollData) (s : Section) (d : Dev) (c place : List ℕ) → IsTables t → IsSectionOf t r s → HasFrameOf t r s d c → place ≡ part c 9 8
    → section_with (from_be_bytes w32 (take 4 place)) (from_be_bytes w32 (drop 4 place)) t.sections ≡ Some s
named_there t r s d c place tables fits frame is =
    let zone : from_be_bytes w32 (take 4 place) ≡ s.zone =
    ap (λ (p : List ℕ). from_be_bytes w32 (take 4 p)) is ∙ ap (from_be_bytes w32) (zone_there c _ s.zone s.number _ frame.at_front (names_place t r s d)) ∙ from_be_bytes-to_be_bytes_4 s.zone (small s.zone (section_is.zone.1)) in
    let number : from_be_bytes w32 (drop 4 place) ≡ s.number =
    ap (λ (p : List ℕ). from_be_bytes w32 (drop 4 p)) is ∙ ap (from_be_bytes w32) (number_there c _ s.zone s.number _ frame.at_front (names_place t r s d)) ∙ from_be_bytes-to_be_bytes_4 s.number (small s.number (section_is.number.1)) in
    ap (λ (z : ℕ). section_with z (from_be_bytes w32 (drop 4 place)) t.sections) zone ∙ ap (λ (n : ℕ). section_with s.zone n t.sections) number
    ∙ found_section t.sections s tables.sections_rise fits.listed
  where
    section_is : IsSection s
    section_is = All-contains IsSection t.sections s tables.sections fits.listed

-- Where the slots of a device stand: bodies of 65,536 bytes, and of 4; and the pages of bodies of 1,536 bytes.
use Rattle.std.proofs.Common.{◌≡◌, List, [], ◌∷◌, ◌++◌, ℕ, replicate, refl}
use Rattle.urna_outside.specs.Flash.{Put, Sync}
use Rattle.urna_outside.specs.declared.device.Dev.TheVariants.{Internal}
use Rattle.gate_slot.specs.Page.{page, changed_pages, patch_ops, put_bytes}
use Rattle.gate_slot.specs.Slot.{gate_offset, padding_offset, body_offset, room}

first_gate : gate_offset 65536 0 ≡ 512
first_gate = refl

first_padding : padding_offset 65536 0 ≡ 513
first_padding = refl

first_body : body_offset 65536 0 ≡ 1024
first_body = refl

second_gate : gate_offset 65536 1 ≡ 66560
second_gate = refl

second_body : body_offset 65536 1 ≡ 67072
second_body = refl

whole_room : room 65536 ≡ 132608
whole_room = refl

small_room : room 4 ≡ 1544
small_room = refl

-- three pages: of ones, of twos and of ones
abbrev ones : List ℕ
ones = replicate 512 1

abbrev twos : List ℕ
twos = replicate 512 2

middle_page : page 1 (ones ++ twos ++ ones) ≡ twos
middle_page = refl

same_pages : changed_pages (ones ++ twos ++ ones) (ones ++ twos ++ ones) ≡ []
same_pages = refl

outer_pages : changed_pages (ones ++ twos ++ ones) (twos ++ twos ++ twos) ≡ 0 ∷ 2 ∷ []
outer_pages = refl

patch_of_one : patch_ops 1536 Internal 0 (ones ++ ones ++ ones) (ones ++ twos ++ ones) ≡ Put Internal 1536 twos ∷ Sync Internal ∷ []
patch_of_one = refl

bytes_of_two : put_bytes (patch_ops 1536 Internal 1 (ones ++ ones ++ ones) (twos ++ ones ++ twos)) ≡ 1024
bytes_of_two = refl

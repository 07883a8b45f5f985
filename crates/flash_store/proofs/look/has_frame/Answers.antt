use Rattle.std.proofs.Common.{◌≡◌, ◌↔◌, ℕ, Bool, true, IsTrue, List, length, subst}
use Rattle.urna_outside.specs.Flash.{flash_of, part}
use Rattle.gate_slot.specs.Slot.{header_size, padding_offset, padding_size}
use Rattle.twin_image.specs.Frame.{HasFrame, padding}
use Rattle.flash_store.proofs.Looking.{looked, looked_twice, unlike, alike}
use Rattle.flash_store.proofs.look.has_frame.Goals as goal

-- a test of zeros at an offset is one at the offset of a padding
there : (test : Bool) (content : List ℕ) (at offset : ℕ) → at ≡ offset → (IsTrue test ↔ (part content at padding_size ≡ padding)) → (IsTrue test ↔ (part content offset padding_size ≡ padding))
there test content at offset same decides = subst (λ (k : ℕ). IsTrue test ↔ (part content k padding_size ≡ padding)) same decides

pub returns-then-not-branch-clause-frame : goal.returns-then-not-branch-clause-frame
returns-then-not-branch-clause-frame g c fs told =
    unlike _ c.if-not-branch.true (c.in_ok-stand_at.ensures.stand fs told)
    (λ frame. rw c.told-header frame.at_front)

pub returns-then-not-branch-2-clause-frame : goal.returns-then-not-branch-2-clause-frame
unfolding padding
returns-then-not-branch-2-clause-frame g c fs told =
    unlike _ c.if-not-branch-2.true
    (there _ _ _ _ c.padding.ensures (looked _ _ _ c.stand_at.ensures.done c.in_ok-stand_at-2.ensures.stand fs told)) (λ frame. frame.first)

pub returns-clause-done : goal.returns-clause-done
returns-clause-done g c = looked_twice _ _ _ c.stand_at.ensures.done (looked_twice _ _ _ c.stand_at-2.ensures.done c.stand_at-3.ensures.done)

all_three : (size : ℕ) (header content : List ℕ) (first second third : Bool) → length header ≡ header_size → first ≡ true → second ≡ true
    → (IsTrue first ↔ (part content 0 (length header) ≡ header)) → (IsTrue second ↔ (part content (padding_offset size 0) padding_size ≡ padding)) → (IsTrue third ↔ (part content (padding_offset size 1) padding_size ≡ padding))
    → (IsTrue third ↔ HasFrame size header content)
all_three size header content first second third long one two head first_padding second_padding = (
  λ (yes : IsTrue third). record {
    at_front = subst (λ (n : ℕ). part content 0 n ≡ header) long (alike first one head);
    first = alike second two first_padding;
    second = second_padding.0 yes;
  },
  λ frame. second_padding.1 frame.second,
)

pub returns-clause-frame : goal.returns-clause-frame
unfolding padding
returns-clause-frame g c fs told =
    all_three g.row.SIZE c.args.header.now (flash_of c.args.dev fs).content _ _ _ c.told-header c.if-not-branch.false c.if-not-branch-2.false
    (c.in_ok-stand_at.ensures.stand fs told)
    (there _ _ _ _ c.padding.ensures (looked _ _ _ c.stand_at.ensures.done c.in_ok-stand_at-2.ensures.stand fs told))
    (there _ _ _ _ c.padding-2.ensures (looked _ _ _ (looked_twice _ _ _ c.stand_at.ensures.done c.stand_at-2.ensures.done) c.in_ok-padded.ensures.stand fs told))

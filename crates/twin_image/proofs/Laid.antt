-- The content of a whole device, and what it has where.
use Rattle.std.proofs.Common.{◌≡◌, ℕ, zero, suc, ◌+◌, ◌-◌, ◌<◌, ◌≤◌, inl, inr, List, [], ◌∷◌, ◌++◌, length, take, drop, get_or, refl, sym, ap, ◌∙◌, arith, append_assoc}
use Rattle.std.proofs.lemmas.List.{length-replicate, length-append, append-nil, get_or-append_right, drop-drop, drop_at, drop_all, take-append-drop}
use Rattle.std.proofs.Math.Seq.{take-append_seam}
use Rattle.urna_outside.specs.Flash.{Flash, IsImage, part}
use Rattle.urna_outside.proofs.Keeping.{in_image}
use Rattle.urna_outside.proofs.Places.{part_by_bytes, same_part}
use Rattle.gate_slot.specs.Slot.{room, gate_offset, padding_offset, body_offset, gate_in, body_in}
use Rattle.twin_image.specs.Frame.{padding, device_image, IsOfFrame, HasFrame, FrameStands}
use Rattle.twin_image.specs.Slots.{KeepsFrame}
use Rattle.twin_image.specs.Twin.{IsOfTwin, IsTwin}
use Rattle.twin_image.proofs.Renewing.{content_image, live_image}

pub length-padding : length padding ≡ 511
unfolding padding
length-padding = length-replicate {A = ℕ} 511 0

-- a list from a place on is a part of it and the rest
cut : (c : List ℕ) (at n next : ℕ) → at + n ≡ next → drop at c ≡ part c at n ++ drop next c
cut c at n next same =
    let long : at + n - at ≡ n = omega arith in
    sym (
    ap (λ (k : ℕ). take k (drop at c) ++ drop next c) long
    ∙ ap (λ (k : ℕ). take n (drop at c) ++ drop k c) (sym same)
    ∙ ap (λ (l : List ℕ). take n (drop at c) ++ l) (sym (drop-drop n at c))
    ∙ take-append-drop n (drop at c)
    )

-- one byte is a part of its own
one_part : (c : List ℕ) (at : ℕ) → at + 1 ≤ length c → part c at 1 ≡ get_or c at 0 ∷ []
one_part c at fits = part_by_bytes c (get_or c at 0 ∷ []) at fits there
  where
    there : (i : ℕ) → i < 1 → get_or c (at + i) 0 ≡ get_or (get_or c at 0 ∷ []) i 0
    there zero below = let same : at + 0 ≡ at = omega arith in ap (λ (k : ℕ). get_or c k 0) same
    there (suc i) below = absurd (omega arith)

-- an open slot with its padding and this body
slot_cut : (c : List ℕ) (gate size : ℕ) (body : List ℕ) → gate + 1 ≤ length c → get_or c gate 0 ≡ 0xA5 → part c (gate + 1) 511 ≡ padding → part c (gate + 512) size ≡ body → drop gate c ≡ 0xA5 ∷ padding ++ (body ++ drop (gate + 512 + size) c)
slot_cut c gate size body fits opened zeros is =
    cut c gate 1 (gate + 1) refl
    ∙ ap (λ (l : List ℕ). l ++ drop (gate + 1) c) (one_part c gate fits ∙ ap (λ (b : ℕ). b ∷ []) opened)
    ∙ ap (λ (l : List ℕ). 0xA5 ∷ l) (cut c (gate + 1) 511 (gate + 512) (omega arith) ∙ ap (λ (l : List ℕ). l ++ drop (gate + 512) c) zeros
    ∙ ap (λ (l : List ℕ). padding ++ l) (cut c (gate + 512) size (gate + 512 + size) refl ∙ ap (λ (l : List ℕ). l ++ drop (gate + 512 + size) c) is))

-- A device with this frame whose two slots are open with this body is the whole device.
pub whole_device : (size : ℕ) (header body content : List ℕ) → length content ≡ room size → HasFrame size header content
    → gate_in size 0 content ≡ 0xA5 → body_in size 0 content ≡ body → gate_in size 1 content ≡ 0xA5 → body_in size 1 content ≡ body
    → content ≡ device_image size header body
whole_device size header body c long frame gate_0 body_0 gate_1 body_1 =
    let at_0 : gate_offset size 0 ≡ 512 = omega arith in
    let next : gate_offset size 0 + 512 + size ≡ gate_offset size 1 = omega arith in
    let slot : List ℕ → List ℕ = λ rest. 0xA5 ∷ padding ++ (body ++ rest) in
    let front = cut c 0 512 512 refl ∙ ap (λ (l : List ℕ). l ++ drop 512 c) frame.at_front in
    let first = ap (λ (k : ℕ). drop k c) (sym at_0) ∙ slot_cut c (gate_offset size 0) size body (omega arith) gate_0 frame.first body_0 ∙ ap (λ (k : ℕ). slot (drop k c)) next in
    let second = slot_cut c (gate_offset size 1) size body (omega arith) gate_1 frame.second body_1 in
    let end = drop_all (gate_offset size 1 + 512 + size) c (omega arith) in
    front
    ∙ ap (λ (l : List ℕ). header ++ l) (first ∙ ap slot (second ∙ ap slot end ∙ ap (λ (l : List ℕ). 0xA5 ∷ padding ++ l) (append-nil body)))
    ∙ regroup header (0xA5 ∷ padding) body
  where
    regroup : (h p b : List ℕ) → h ++ (p ++ (b ++ (p ++ b))) ≡ h ++ p ++ b ++ p ++ b
    regroup h p b = simp append_assoc

-- a part of lists in a row
part_of : (before middle after : List ℕ) (at n : ℕ) → length before ≡ at → length middle ≡ n → part (before ++ (middle ++ after)) at n ≡ middle
part_of before middle after at n long wide =
    let size : at + n - at ≡ n = omega arith in
    ap (λ (k : ℕ). take k (drop at (before ++ (middle ++ after)))) (size ∙ sym wide)
    ∙ ap (λ (l : List ℕ). take (length middle) l) (drop_at before (middle ++ after) at long)
    ∙ take-append_seam middle after

byte_of : (before after : List ℕ) (byte at : ℕ) → length before ≡ at → get_or (before ++ byte ∷ after) at 0 ≡ byte
byte_of before after byte at long =
    let step : at - at ≡ 0 = omega arith in
    get_or-append_right before (byte ∷ after) at at 0 long (omega arith) ∙ ap (λ (k : ℕ). get_or (byte ∷ after) k 0) step

module _ (size : ℕ) (header body : List ℕ) (header_long : length header ≡ 512) (body_long : length body ≡ size) where
  pub length-device_image : length (device_image size header body) ≡ room size
  length-device_image =
      let gate = 0xA5 ∷ padding in
      omega (arith, length-append (header ++ gate ++ body ++ gate) body, length-append (header ++ gate ++ body) gate, length-append (header ++ gate) body, length-append header gate, length-padding)

  -- the whole device has the frame
  pub device_frame : HasFrame size header (device_image size header body)
  device_frame =
      let image = device_image size header body in
      let gate : List ℕ = 0xA5 ∷ padding in
      let front : image ≡ [] ++ (header ++ (gate ++ body ++ gate ++ body)) = simp append_assoc in
      let first : image ≡ (header ++ 0xA5 ∷ []) ++ (padding ++ (body ++ gate ++ body)) = simp append_assoc in
      let second : image ≡ (header ++ gate ++ body ++ 0xA5 ∷ []) ++ (padding ++ body) = simp append_assoc in
      record {
        at_front = ap (λ (l : List ℕ). part l 0 512) front ∙ part_of [] header (gate ++ body ++ gate ++ body) 0 512 refl header_long;
        first = ap (λ (l : List ℕ). part l (padding_offset size 0) 511) first ∙ part_of (header ++ 0xA5 ∷ []) padding (body ++ gate ++ body) (padding_offset size 0) 511 (omega (arith, length-append header (0xA5 ∷ []))) length-padding;
        second = ap (λ (l : List ℕ). part l (padding_offset size 1) 511) second ∙ part_of (header ++ gate ++ body ++ 0xA5 ∷ []) padding body (padding_offset size 1) 511 (omega (arith, length-append (header ++ gate ++ body) (0xA5 ∷ []), length-append (header ++ gate) body, length-append header gate, length-padding)) length-padding;
      }

  -- and its slots are open with the body
  pub device_gates : (gate_in size 0 (device_image size header body) ≡ 0xA5) × (gate_in size 1 (device_image size header body) ≡ 0xA5)
  device_gates =
      let image = device_image size header body in
      let gate : List ℕ = 0xA5 ∷ padding in
      let first : image ≡ header ++ 0xA5 ∷ (padding ++ body ++ gate ++ body) = simp append_assoc in
      let second : image ≡ (header ++ gate ++ body) ++ 0xA5 ∷ (padding ++ body) = simp append_assoc in (
        ap (λ (l : List ℕ). get_or l (gate_offset size 0) 0) first ∙ byte_of header (padding ++ body ++ gate ++ body) 0xA5 (gate_offset size 0) (omega (arith, header_long)),
        ap (λ (l : List ℕ). get_or l (gate_offset size 1) 0) second ∙ byte_of (header ++ gate ++ body) (padding ++ body) 0xA5 (gate_offset size 1) (omega (arith, length-append (header ++ gate) body, length-append header gate, length-padding)),
      )

  pub device_bodies : (body_in size 0 (device_image size header body) ≡ body) × (body_in size 1 (device_image size header body) ≡ body)
  device_bodies =
      let image = device_image size header body in
      let gate : List ℕ = 0xA5 ∷ padding in
      let first : image ≡ (header ++ gate) ++ (body ++ (gate ++ body)) = simp append_assoc in
      let second : image ≡ (header ++ gate ++ body ++ gate) ++ (body ++ []) = simp (append_assoc, append-nil) in (
        ap (λ (l : List ℕ). part l (body_offset size 0) size) first ∙ part_of (header ++ gate) body (gate ++ body) (body_offset size 0) size (omega (arith, length-append header gate, length-padding)) body_long,
        ap (λ (l : List ℕ). part l (body_offset size 1) size) second ∙ part_of (header ++ gate ++ body ++ gate) body [] (body_offset size 1) size (omega (arith, length-append (header ++ gate ++ body) gate, length-append (header ++ gate) body, length-append header gate, length-padding)) body_long,
      )

-- no place of the frame is one of a slot
pub frame_apart : (size k : ℕ) → IsOfFrame size k → ¬ IsOfTwin size k
frame_apart size k (inl front) (inl (inl gate)) = omega (arith, gate.0)
frame_apart size k (inl front) (inl (inr body)) = omega (arith, body.0)
frame_apart size k (inl front) (inr (inl gate)) = omega (arith, gate.0)
frame_apart size k (inl front) (inr (inr body)) = omega (arith, body.0)
frame_apart size k (inr (inl pad)) (inl (inl gate)) = omega (arith, pad.0, gate.1)
frame_apart size k (inr (inl pad)) (inl (inr body)) = omega (arith, pad.1, body.0)
frame_apart size k (inr (inl pad)) (inr (inl gate)) = omega (arith, pad.1, gate.0)
frame_apart size k (inr (inl pad)) (inr (inr body)) = omega (arith, pad.1, body.0)
frame_apart size k (inr (inr pad)) (inl (inl gate)) = omega (arith, pad.0, gate.1)
frame_apart size k (inr (inr pad)) (inl (inr body)) = omega (arith, pad.0, body.1)
frame_apart size k (inr (inr pad)) (inr (inl gate)) = omega (arith, pad.0, gate.1)
frame_apart size k (inr (inr pad)) (inr (inr body)) = omega (arith, pad.1, body.0)

-- an image that keeps the frame has the same one
pub frame_kept : (size : ℕ) (header before image : List ℕ) → room size ≤ length before → KeepsFrame size before image → HasFrame size header before → HasFrame size header image
frame_kept size header before image fits keeps has =
    let same : (at n : ℕ) → at + n ≤ length before → ((k : ℕ) → at ≤ k → k < at + n → IsOfFrame size k) → part image at n ≡ part before at n =
    λ at n within places. same_part image before at n keeps.same_length within (λ k low high. keeps.bytes k (frame_apart size k (places k low high))) in
    record {
      at_front = same 0 512 (omega arith) (λ k low high. inl (omega arith)) ∙ has.at_front;
      first = same (padding_offset size 0) 511 (omega arith) (λ k low high. inr (inl (low, high))) ∙ has.first;
      second = same (padding_offset size 1) 511 (omega arith) (λ k low high. inr (inr (low, high))) ∙ has.second;
    }

-- A device with this frame whose two slots are live with this body is the whole device.
pub twin_whole : (size : ℕ) (header body : List ℕ) (flash : Flash) → length body ≡ size → length flash.content ≡ room size → HasFrame size header flash.content → IsTwin size body flash → flash.content ≡ device_image size header body
twin_whole size header body flash long full frame twin =
    let is = content_image flash in
    let first = live_image size 0 body flash flash.content long twin.first is in
    let second = live_image size 1 body flash flash.content long twin.second is in
    whole_device size header body flash.content full frame first.0 first.1 second.0 second.1

-- a frame that stands shows in each image
pub frame_image : (size : ℕ) (header : List ℕ) (flash : Flash) (image : List ℕ) → length header ≡ 512 → FrameStands size header flash → IsImage flash image → HasFrame size header image
frame_image size header flash image long stands is =
    record {
      at_front = ap (λ (n : ℕ). part image 0 n) (sym long) ∙ in_image flash 0 header image stands.at_front is;
      first = ap (λ (n : ℕ). part image (padding_offset size 0) n) (sym length-padding) ∙ in_image flash (padding_offset size 0) padding image stands.first is;
      second = ap (λ (n : ℕ). part image (padding_offset size 1) n) (sym length-padding) ∙ in_image flash (padding_offset size 1) padding image stands.second is;
    }

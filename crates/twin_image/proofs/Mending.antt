-- A slot that is mended.
use Rattle.std.proofs.Common.{◌≡◌, ◌≢◌, ℕ, ◌+◌, ◌<◌, ◌≤◌, ◌⊎◌, inl, inr, Bool, true, false, true≢false, Some, List, [], length, get_or, sym, subst, ◌∙◌, arith, cond, eqb, refl, ap, ◌++◌}
use Rattle.std.proofs.lemmas.Bool.{cases_eq}
use Rattle.std.proofs.lemmas.Slice.Eq.{bytes_eq-Decides}
use Rattle.std.specs.Str.{bytes_eq}
use Rattle.std.specs.Option.{ForSome}
use Rattle.urna_outside.specs.Flash.{Flash, Flashes, flash_of, after, IsClean, IsImage, Op}
use Rattle.urna_outside.specs.Confined.{KeepsBut}
use Rattle.urna_outside.specs.Stop.{Left, left_on}
use Rattle.urna_outside.specs.Stage.{Stage}
use Rattle.urna_outside.specs.Told.{Told, Sizes, Does, Runs, AreSized, size_of}
use Rattle.urna_outside.specs.declared.device.Dev.{Dev}
use Rattle.urna_outside.proofs.Doing.{told_after, does-append}
use Rattle.urna_outside.proofs.Runs.{places_of}
use Rattle.urna_outside.proofs.Keeping.{within_keeps}
use Rattle.urna_outside.proofs.Places.{same_part}
use Rattle.urna_outside.proofs.Stops.{stops_none}
use Rattle.urna_outside.proofs.Stages.{left_image, stage_weaker, stage_stronger, stages-append}
use Rattle.gate_slot.specs.Front.{IsFrontOf, IsUpTo}
use Rattle.gate_slot.specs.Slot.{room, gate_offset, body_offset, gate_in, body_in, shut_ops, fill_ops, publish_ops}
use Rattle.gate_slot.proofs.Fronts.{up_to_as, up_to_first, up_to_later, up_to_none}
use Rattle.gate_slot.proofs.Written.{body_fits}
use Rattle.twin_image.specs.Heal.{MendsTo, Mends, MendsBoth, MendsTwin, IsMend, AreMends}
use Rattle.twin_image.specs.Twin.{IsOfSlot, IsOfTwin, IsLive, turning_ops}
use Rattle.twin_image.proofs.Renewing.{slot_bounded, apart, live_stays, live_image}
use Rattle.gate_slot.specs.Device.{OnFlash}

-- two contents that have the same slot
pub record SameSlot (size index : ℕ) (before image : List ℕ) : Type 0 where
  pub gate : gate_in size index image ≡ gate_in size index before
  pub body : body_in size index image ≡ body_in size index before

-- a slot that is as it was
pub same_mends : (size index : ℕ) (body before image : List ℕ) → SameSlot size index before image → MendsTo size index body before image
same_mends size index body before image same =
    record {
      live = λ gate is. (same.gate ∙ gate, same.body ∙ is);
      turns = λ gate. inr (same.body, sym same.gate ∙ gate);
    }

-- an image of a clean flash has its slots
pub image_same : (size index : ℕ) (f : Flash) (image : List ℕ) → body_offset size index + size ≤ length f.content → IsClean f → IsImage f image → SameSlot size index f.content image
image_same size index f image fits clean is =
    record {
      gate = is.clean (gate_offset size index) (clean (gate_offset size index));
      body = same_part image f.content (body_offset size index) size is.same_length fits (λ k low high. is.clean k (clean k));
    }

-- and so has a flash that keeps them
pub kept_same : (In : ℕ → Type 0) (size index : ℕ) (f h : Flash) → body_offset size index + size ≤ length f.content → ((k : ℕ) → gate_offset size index ≤ k → k < body_offset size index + size → ¬ In k) → KeepsBut In f h → SameSlot size index f.content h.content
kept_same In size index f h fits apart keeps =
    record {
      gate = keeps.content (gate_offset size index) (apart (gate_offset size index) (omega arith) (omega arith));
      body = same_part h.content f.content (body_offset size index) size keeps.size fits (λ k low high. keeps.content k (apart k (omega arith) high));
    }

module _ (d : Dev) (size index : ℕ) (below : index < 2) (body : List ℕ) where
  abbrev Mending : Flashes → Left → Type 0
  Mending start left = MendsTo size index body (flash_of d start).content (left_on d left)

  -- nothing was done
  pub nothing_mends : (a b : Told) → room size ≤ size_of d a.sizes → ForSome a.flashes (AreSized a.sizes) → ForSome a.flashes (λ fs. IsClean (flash_of d fs)) → Does [] a b → Runs (Stage a d (IsOfSlot size index) 0 Mending) a b
  nothing_mends a b fits sized clean does = (
    [],
    does,
    record {
      within = tt;
      syncs = omega arith;
      stops = λ start told.
          stops_none start (Mending start) (λ left is.
          let long = (sized start told).content d in
          let within = body_fits size index (size_of d a.sizes) below fits in
          same_mends size index body (flash_of d start).content (left_on d left) (image_same size index (flash_of d start) (left_on d left) (omega arith) (clean start told) (left_image d start [] left is)));
    },
  )

  pub mends_more : (a b : Told) → Runs (Stage a d (IsOfSlot size index) 0 Mending) a b → Runs (Mends a d size index body) a b
  mends_more a b run = stage_weaker d (IsOfSlot size index) (IsOfSlot size index) 0 3 Mending Mending a b (λ k is. is) (omega arith) (λ start told left p. p) run

-- an image of a flash that keeps a slot of a clean one
pub image_kept : (In : ℕ → Type 0) (size index : ℕ) (f h : Flash) (image : List ℕ) → body_offset size index + size ≤ length f.content → IsClean f → ((k : ℕ) → gate_offset size index ≤ k → k < body_offset size index + size → ¬ In k) → KeepsBut In f h → IsImage h image → SameSlot size index f.content image
image_kept In size index f h image fits clean apart keeps is =
    record {
      gate = one (gate_offset size index) (omega arith) (omega arith);
      body = same_part image f.content (body_offset size index) size (is.same_length ∙ keeps.size) fits (λ k low high. one k (omega arith) high);
    }
  where
    one : (k : ℕ) → gate_offset size index ≤ k → k < body_offset size index + size → get_or image k 0 ≡ get_or f.content k 0
    one k low high = is.clean k (keeps.clean k (apart k low high) (clean k)) ∙ keeps.content k (apart k low high)

mends_from : (size index : ℕ) (body start mid image : List ℕ) → SameSlot size index start mid → MendsTo size index body mid image → MendsTo size index body start image
mends_from size index body start mid image same mends =
    record {
      live = λ gate is. mends.live (same.gate ∙ gate) (same.body ∙ is);
      turns = λ gate. go (mends.turns gate);
    }
  where
    go : (body_in size index image ≡ body) ⊎ ((body_in size index image ≡ body_in size index mid) × (gate_in size index mid ≡ 0xA5)) → (body_in size index image ≡ body) ⊎ ((body_in size index image ≡ body_in size index start) × (gate_in size index start ≡ 0xA5))
    go (inl is) = inl is
    go (inr is) = inr (is.0 ∙ same.body, sym same.gate ∙ is.1)

-- a slot that is live with the body
pub live_mends : (size index : ℕ) (body before image : List ℕ) → (gate_in size index image ≡ 0xA5) × (body_in size index image ≡ body) → MendsTo size index body before image
live_mends size index body before image is = record { live = λ gate had. is; turns = λ gate. inl is.1 }

module _ (d : Dev) (size : ℕ) (body : List ℕ) (long : length body ≡ size) where
  abbrev Both : Flashes → Left → Type 0
  Both start left = MendsBoth size body (flash_of d start).content (left_on d left)

  abbrev Second : Flashes → Left → Type 0
  Second mid left =
      (gate_in size 0 (left_on d left) ≡ 0xA5) × (body_in size 0 (left_on d left) ≡ body) × MendsTo size 1 body (flash_of d mid).content (left_on d left)

  pub first_mends : (a b : Told) → room size ≤ size_of d a.sizes → ForSome a.flashes (AreSized a.sizes) → ForSome a.flashes (λ fs. IsClean (flash_of d fs)) → Runs (Mends a d size 0 body) a b → Runs (Stage a d (IsOfTwin size) 3 Both) a b
  first_mends a b fits sized clean run =
      let below : 0 < 2 = omega arith in
      let other : 1 < 2 = omega arith in
      let held = stage_stronger d (IsOfSlot size 0) 3 (λ start left. MendsTo size 0 body (flash_of d start).content (left_on d left)) Both a b sized (slot_bounded size 0 (size_of d a.sizes) below fits) (λ start told fs left keeps is mends.
      let wide = (sized start told).content d in
      let within = body_fits size 1 (size_of d a.sizes) other fits in
      record {
        first = mends;
        second = same_mends size 1 body (flash_of d start).content (left_on d left) (image_kept (IsOfSlot size 0) size 1 (flash_of d start) (flash_of d fs) (left_on d left) (omega arith) (clean start told) (apart size 0 below) keeps.own (left_image d fs [] left is));
      }) run in
      stage_weaker d (IsOfSlot size 0) (IsOfTwin size) 3 3 Both Both a b (λ k is. inl is) (omega arith) (λ start told left p. p) held

  pub second_mends : (b c : Told) → room size ≤ size_of d b.sizes → ForSome b.flashes (AreSized b.sizes) → ForSome b.flashes (λ fs. IsLive size 0 body (flash_of d fs)) → Runs (Mends b d size 1 body) b c → Runs (Stage b d (IsOfTwin size) 3 Second) b c
  second_mends b c fits sized live run =
      let below : 1 < 2 = omega arith in
      let held = stage_stronger d (IsOfSlot size 1) 3 (λ start left. MendsTo size 1 body (flash_of d start).content (left_on d left)) Second b c sized (slot_bounded size 1 (size_of d b.sizes) below fits) (λ start told fs left keeps is mends.
      let still = live_stays d (IsOfSlot size 1) size 0 body long (apart size 1 below) start fs keeps (live start told) in
      let seen = live_image size 0 body (flash_of d fs) (left_on d left) long still (left_image d fs [] left is) in
      (seen.0, seen.1, mends)) run in
      stage_weaker d (IsOfSlot size 1) (IsOfTwin size) 3 3 Second Second b c (λ k is. inr is) (omega arith) (λ start told left p. p) held

  -- slot 1 is the same after slot 0 was mended
  second_same : (a b : Told) → room size ≤ size_of d a.sizes → ForSome a.flashes (AreSized a.sizes) → Runs (Mends a d size 0 body) a b → (start mid : Flashes) → a.flashes ≡ Some start → b.flashes ≡ Some mid → SameSlot size 1 (flash_of d start).content (flash_of d mid).content
  second_same a b fits sized run start mid told later =
      let below : 0 < 2 = omega arith in
      let other : 1 < 2 = omega arith in
      let wide = (sized start told).content d in
      let within = body_fits size 1 (size_of d a.sizes) other fits in
      let keeps = within_keeps d (IsOfSlot size 0) run.0 start run.2.within (places_of d (IsOfSlot size 0) a start (sized start told) (slot_bounded size 0 (size_of d a.sizes) below fits)) in
      let there = kept_same (IsOfSlot size 0) size 1 (flash_of d start) (flash_of d (after run.0 start)) (omega arith) (apart size 0 below) keeps.own in
      let same : after run.0 start ≡ mid = some_same (sym (told_after run.0 a b start run.1 told) ∙ later) in
      subst (λ (fs : Flashes). SameSlot size 1 (flash_of d start).content (flash_of d fs).content) same there
    where
      some_same : {x y : Flashes} → Some x ≡ Some y → x ≡ y
      some_same e = cc

  -- the call stops while slot 0 is mended
  pub mended_first : (a b : Told) → Runs (Stage a d (IsOfTwin size) 3 Both) a b → Runs (MendsTwin a d size body) a b
  mended_first a b run = stage_weaker d (IsOfTwin size) (IsOfTwin size) 3 6 Both Both a b (λ k is. is) (omega arith) (λ start told left p. p) run

  -- or later
  pub mended_twin : (a b c : Told) → room size ≤ size_of d a.sizes → ForSome a.flashes (AreSized a.sizes) → ForSome b.flashes (AreSized b.sizes) → ForSome a.flashes (λ fs. IsClean (flash_of d fs)) → Runs (Mends a d size 0 body) a b → ForSome b.flashes (λ fs. IsLive size 0 body (flash_of d fs)) → Runs (Mends b d size 1 body) b c → Runs (MendsTwin a d size body) a c
  mended_twin a b c fits sized sized_b clean run live run_2 =
      let fits_b = subst (λ (s : Sizes). room size ≤ size_of d s) (sym run.1.sizes) fits in
      stage_weaker d (IsOfTwin size) (IsOfTwin size) (3 + 3) 6 Both Both a c (λ k is. is) (omega arith) (λ start told left p. p)
      (stages-append d (IsOfTwin size) 3 3 Both Second a b c (λ start mid told later left q.
      record {
        first = live_mends size 0 body (flash_of d start).content (left_on d left) (q.0, q.1);
        second = mends_from size 1 body (flash_of d start).content (flash_of d mid).content (left_on d left) (second_same a b fits sized run start mid told later) q.2;
      }) (first_mends a b fits sized clean run) (second_mends b c fits_b sized_b live run_2))

-- all that a turn does of a slot that isn't live with the body
pub mend_turned : (d : Dev) (size index : ℕ) (body : List ℕ) (a b c : Told) → OnFlash d (λ f. gate_in size index f.content ≡ 0xA5 → body_in size index f.content ≢ body) a → Does [] a b → OnFlash d (λ f. Does (turning_ops size d index body f.content) b c) b
    → OnFlash d (λ f. Runs (IsMend size d index body f.content) a c) a
mend_turned d size index body a b c other nothing turns start told =
    let later = told_after [] a b start nothing told in
    let ops = turning_ops size d index body (flash_of d start).content in
    (ops, does-append [] ops a b c nothing (turns start later), inr (other start told, refl))

mend_from : (size : ℕ) (d : Dev) (index : ℕ) (body start mid : List ℕ) (ops : List Op) → SameSlot size index start mid → IsMend size d index body mid ops → IsMend size d index body start ops
mend_from size d index body start mid ops same (inl is) = inl (sym same.gate ∙ is.0, sym same.body ∙ is.1, is.2)
mend_from size d index body start mid ops same (inr is) =
    let again : turning_ops size d index body mid ≡ turning_ops size d index body start =
    ap (λ (gate : ℕ). cond (eqb gate 0xA5) (shut_ops size d index) [] ++ fill_ops size d index body ++ publish_ops size d index) same.gate in
    inr ((λ gate has. is.0 (same.gate ∙ gate) (same.body ∙ has)), is.1 ∙ again)

-- and of both slots
pub mends_both : (d : Dev) (size : ℕ) (body : List ℕ) (a b c : Told) → room size ≤ size_of d a.sizes → ForSome a.flashes (AreSized a.sizes) → length body ≡ size → Runs (Mends a d size 0 body) a b
    → OnFlash d (λ f. Runs (IsMend size d 0 body f.content) a b) a → OnFlash d (λ f. Runs (IsMend size d 1 body f.content) b c) b → OnFlash d (λ f. Runs (AreMends size d body f.content) a c) a
mends_both d size body a b c fits sized long run first second start told =
    let one = first start told in
    let mid = after one.0 start in
    let later = told_after one.0 a b start one.1 told in
    let two = second mid later in
    let same = second_same d size body long a b fits sized run start mid told later in (
      one.0 ++ two.0,
      does-append one.0 two.0 a b c one.1 two.1,
      record {
        first = one.0;
        second = two.0;
        first_is = one.2;
        second_is = mend_from size d 1 body (flash_of d start).content (flash_of d mid).content two.0 same two.2;
        in_row = refl;
      },
    )

-- ---- up to a fault

pub cases_bytes : (xs ys : List ℕ) → (xs ≡ ys) ⊎ (xs ≢ ys)
cases_bytes xs ys = go (bytes_eq xs ys) refl
  where
    go : (b : Bool) → bytes_eq xs ys ≡ b → (xs ≡ ys) ⊎ (xs ≢ ys)
    go true same = inl ((bytes_eq-Decides xs ys).0 same)
    go false differ = inr (λ is. true≢false (sym ((bytes_eq-Decides xs ys).1 is) ∙ differ))

-- what mending a slot does over some content
mend_is : (size : ℕ) (d : Dev) (index : ℕ) (body content : List ℕ) → (ops : List Op) × IsMend size d index body content ops
mend_is size d index body content = elim (cases_eq (gate_in size index content) 0xA5) [
  | inl gate ↦ elim (cases_bytes (body_in size index content) body) [
    | inl has ↦ ([], inl (gate, has, refl))
    | inr differs ↦ (turning_ops size d index body content, inr ((λ gate_is. differs), refl))
  ]
  | inr shut ↦ (turning_ops size d index body content, inr ((λ gate_is. absurd (shut gate_is)), refl))
]

mends_join : (size : ℕ) (d : Dev) (body content : List ℕ) (xs ys : List Op) → IsMend size d 0 body content xs → IsMend size d 1 body content ys → AreMends size d body content (xs ++ ys)
mends_join size d body content xs ys first second =
    record { first = xs; second = ys; first_is = first; second_is = second; in_row = refl }

-- what mending both slots of a device does
pub mends_are : (size : ℕ) (d : Dev) (body content : List ℕ) → (ops : List Op) × AreMends size d body content ops
mends_are size d body content =
    let first = mend_is size d 0 body content in
    let second = mend_is size d 1 body content in
    (first.0 ++ second.0, mends_join size d body content first.0 second.0 first.1 second.1)

-- the read of a slot failed
pub mend_unread : (d : Dev) (size index : ℕ) (body : List ℕ) (a b : Told) → Does [] a b → OnFlash d (λ f. Runs (IsUpTo (IsMend size d index body f.content)) a b) a
mend_unread d size index body a b nothing start told =
    let whole = mend_is size d index body (flash_of d start).content in
    ([], nothing, up_to_none (IsMend size d index body (flash_of d start).content) whole.0 whole.1)

-- its turn was cut off
pub mend_torn : (d : Dev) (size index : ℕ) (body : List ℕ) (a b c : Told) → OnFlash d (λ f. gate_in size index f.content ≡ 0xA5 → body_in size index f.content ≢ body) a → Does [] a b
    → OnFlash d (λ f. Runs (IsFrontOf (turning_ops size d index body f.content)) b c) b → OnFlash d (λ f. Runs (IsUpTo (IsMend size d index body f.content)) a c) a
mend_torn d size index body a b c other nothing torn start told =
    let run = torn start (told_after [] a b start nothing told) in
    (run.0, does-append [] run.0 a b c nothing run.1, inr (turning_ops size d index body (flash_of d start).content, inr (other start told, refl), run.2))

-- slot 0 was cut off
pub mends_cut_first : (d : Dev) (size : ℕ) (body : List ℕ) (a b : Told) → OnFlash d (λ f. Runs (IsUpTo (IsMend size d 0 body f.content)) a b) a → OnFlash d (λ f. Runs (IsUpTo (AreMends size d body f.content)) a b) a
mends_cut_first d size body a b first start told =
    let content = (flash_of d start).content in
    let run = first start told in
    let later = mend_is size d 1 body content in (
      run.0,
      run.1,
      up_to_first (IsMend size d 0 body content) (IsMend size d 1 body content) (AreMends size d body content) run.0 later.0 (mends_join size d body content) later.1 run.2,
    )

-- slot 1 was
pub mends_cut_second : (d : Dev) (size : ℕ) (body : List ℕ) (a b c : Told) → room size ≤ size_of d a.sizes → ForSome a.flashes (AreSized a.sizes) → length body ≡ size → Runs (Mends a d size 0 body) a b
    → OnFlash d (λ f. Runs (IsMend size d 0 body f.content) a b) a → OnFlash d (λ f. Runs (IsUpTo (IsMend size d 1 body f.content)) b c) b → OnFlash d (λ f. Runs (IsUpTo (AreMends size d body f.content)) a c) a
mends_cut_second d size body a b c fits sized long run first second start told =
    let content = (flash_of d start).content in
    let one = first start told in
    let mid = after one.0 start in
    let later = told_after one.0 a b start one.1 told in
    let two = second mid later in
    let same = second_same d size body long a b fits sized run start mid told later in
    let from = up_to_as (IsMend size d 1 body (flash_of d mid).content) (IsMend size d 1 body content) two.0 (λ ops is. mend_from size d 1 body content (flash_of d mid).content ops same is) two.2 in (
      one.0 ++ two.0,
      does-append one.0 two.0 a b c one.1 two.1,
      up_to_later (IsMend size d 0 body content) (IsMend size d 1 body content) (AreMends size d body content) one.0 two.0 (mends_join size d body content) one.2 from,
    )

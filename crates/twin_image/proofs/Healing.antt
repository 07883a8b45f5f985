-- The four slots, mended one after the other.
use Rattle.std.proofs.Common.{◌≡◌, ◌≢◌, ℕ, ◌+◌, ◌<◌, ◌≤◌, ◌⊎◌, inl, inr, Bool, true, false, cond, eqb, Option, Some, List, [], ◌∷◌, ◌++◌, length, is_some, refl, sym, ap, subst, ◌∙◌, arith, append_assoc}
use Rattle.std.proofs.lemmas.Bool.{cases_eq, eqb-true, eq-eqb, ne_eqb}
use Rattle.std.proofs.lemmas.List.{append-nil}
use Rattle.std.specs.Option.{ForSome}
use Rattle.std.specs.List.{AllByRecursion}
use Rattle.urna_outside.specs.Flash.{Flash, Flashes, Op, flash_of, after, IsClean, IsImage}
use Rattle.urna_outside.specs.Stop.{Left, left_on}
use Rattle.urna_outside.specs.Stage.{Course}
use Rattle.urna_outside.specs.Told.{Told, Sizes, Does, Runs, AreSized, size_of}
use Rattle.urna_outside.specs.declared.device.Dev.{Dev}
use Rattle.urna_outside.specs.declared.device.Dev.TheVariants.{Internal, External}
use Rattle.urna_outside.proofs.Doing.{does-append, told_after}
use Rattle.urna_outside.proofs.Runs.{places_of}
use Rattle.urna_outside.proofs.Keeping.{within_keeps}
use Rattle.urna_outside.proofs.Stages.{stage_stronger}
use Rattle.urna_outside.proofs.Courses.{course_from_stage, courses-append, course_weaker}
use Rattle.gate_slot.specs.Slot.{room, gate_in, body_in}
use Rattle.gate_slot.specs.Front.{IsUpTo}
use Rattle.gate_slot.proofs.Fronts.{up_to_first, up_to_later}
use Rattle.gate_slot.proofs.Written.{body_fits}
use Rattle.twin_image.specs.Twin.{IsOfTwin, IsTwin}
use Rattle.twin_image.specs.Heal.{MendsTo, MendsBoth, MendsTwin, KeepsHeld, LeavesHeld, Heals, AreMends, IsHeal}
use Rattle.twin_image.specs.Slots.{HaveRoom, AreClean}
use Rattle.twin_image.proofs.Renewing.{live_image, twin_bounded}
use Rattle.twin_image.proofs.Framing.{framed, on_both}
use Rattle.twin_image.proofs.Committing.{differs}
use Rattle.twin_image.proofs.Mending.{same_mends, image_same, live_mends, mends_are}
use Rattle.twin_image.specs.Held.{bodies_at, bodies_on, held_body, held_on, held_by_both}
use Rattle.twin_image.proofs.Best.{IsBest, Mended, IsOneAtMost, best_from_held, held_from_best, best_mended}

module _ (rank : List ℕ → Option ℕ) (size : ℕ) (body : List ℕ) (is_ranked : is_some (rank body) ≡ true) where
  abbrev Slot : ℕ → List ℕ → List (List ℕ)
  Slot index image = bodies_at rank size index image

  one_at_most : (test ranked : Bool) (b : List ℕ) → IsOneAtMost rank (cond test (cond ranked (b ∷ []) []) [])
  one_at_most true true b = inr (b, refl)
  one_at_most true false b = inl refl
  one_at_most false ranked b = inl refl

  -- an open slot with a body that has a rank stands
  stands_open : (index : ℕ) (image : List ℕ) → gate_in size index image ≡ 0xA5 → body_in size index image ≡ body → Slot index image ≡ body ∷ []
  stands_open index image gate is =
      ap (λ (t : Bool). cond t (cond (is_some (rank (body_in size index image))) (body_in size index image ∷ []) []) []) (eq-eqb (gate_in size index image) 0xA5 gate)
      ∙ ap (λ (b : List ℕ). cond (is_some (rank b)) (b ∷ []) []) is
      ∙ ap (λ (t : Bool). cond t (body ∷ []) []) is_ranked

  stands_shut : (index : ℕ) (image : List ℕ) → gate_in size index image ≢ 0xA5 → Slot index image ≡ []
  stands_shut index image shut =
      ap (λ (t : Bool). cond t (cond (is_some (rank (body_in size index image))) (body_in size index image ∷ []) []) []) (ne_eqb (gate_in size index image) 0xA5 shut)

  stands_same : (index : ℕ) (before image : List ℕ) → gate_in size index image ≡ gate_in size index before → body_in size index image ≡ body_in size index before → Slot index image ≡ Slot index before
  stands_same index before image gate same =
      ap (λ (g : ℕ). cond (eqb g 0xA5) (cond (is_some (rank (body_in size index image))) (body_in size index image ∷ []) []) []) gate
      ∙ ap (λ (b : List ℕ). cond (eqb (gate_in size index before) 0xA5) (cond (is_some (rank b)) (b ∷ []) []) []) same

  -- a slot that stood for the body was open with it
  was_live : (test ranked : Bool) (b : List ℕ) → cond test (cond ranked (b ∷ []) []) [] ≡ body ∷ [] → (test ≡ true) × (b ≡ body)
  was_live true true b is = (refl, cc)
  was_live true false b is = absurd (cc)
  was_live false ranked b is = absurd (cc)

  mended_slot : (index : ℕ) (before image : List ℕ) → MendsTo size index body before image → Mended rank body (Slot index before) (Slot index image)
  mended_slot index before image mends = elim (cases_eq (gate_in size index image) 0xA5) [
    | inl gate ↦ opened gate (mends.turns gate)
    | inr shut ↦
        inr (inl (
          stands_shut index image shut,
          λ is.
              let live = was_live (eqb (gate_in size index before) 0xA5) (is_some (rank (body_in size index before))) (body_in size index before) is in
              shut (mends.live (eqb-true (gate_in size index before) 0xA5 live.0) live.1).0,
        ))
  ]
    where
      opened : gate_in size index image ≡ 0xA5 → (body_in size index image ≡ body) ⊎ ((body_in size index image ≡ body_in size index before) × (gate_in size index before ≡ 0xA5)) → Mended rank body (Slot index before) (Slot index image)
      opened gate (inl is) = inr (inr (stands_open index image gate is))
      opened gate (inr same) = inl (stands_same index before image (gate ∙ sym same.1) same.0)

  slot_one : (index : ℕ) (before : List ℕ) → IsOneAtMost rank (Slot index before)
  slot_one index before =
      one_at_most (eqb (gate_in size index before) 0xA5) (is_some (rank (body_in size index before))) (body_in size index before)

  -- what both held before they hold while their slots are mended
  pub heals : (internal external : List ℕ) (left : Left) → held_body rank (bodies_on rank size internal ++ bodies_on rank size external) ≡ Some body → MendsBoth size body internal left.internal → MendsBoth size body external left.external → held_by_both rank size left ≡ Some body
  heals internal external left was i e =
      let s0 = Slot 0 internal in
      let s1 = Slot 1 internal in
      let s2 = Slot 0 external in
      let s3 = Slot 1 external in
      let t0 = Slot 0 left.internal in
      let t1 = Slot 1 left.internal in
      let t2 = Slot 0 left.external in
      let t3 = Slot 1 left.external in
      let best = best_from_held rank (s0 ++ s1 ++ (s2 ++ s3)) body was in
      let at_0 = best_mended rank body [] s0 t0 (s1 ++ (s2 ++ s3)) (slot_one 0 internal) (mended_slot 0 internal left.internal i.first) (subst (IsBest rank body) (append_assoc s0 s1 (s2 ++ s3)) best) in
      let at_1 = best_mended rank body t0 s1 t1 (s2 ++ s3) (slot_one 1 internal) (mended_slot 1 internal left.internal i.second) at_0 in
      let at_2 = best_mended rank body (t0 ++ t1) s2 t2 s3 (slot_one 0 external) (mended_slot 0 external left.external e.first) (subst (IsBest rank body) (sym (append_assoc t0 t1 (s2 ++ s3))) at_1) in
      let ready = subst (IsBest rank body) (sym (append_assoc (t0 ++ t1) t2 s3) ∙ ap (λ (l : List (List ℕ)). t0 ++ t1 ++ t2 ++ l) (sym (append-nil s3))) at_2 in
      let at_3 = best_mended rank body (t0 ++ t1 ++ t2) s3 t3 [] (slot_one 1 external) (mended_slot 1 external left.external e.second) ready in
      held_from_best rank (t0 ++ t1 ++ (t2 ++ t3)) body (subst (IsBest rank body) (ap (λ (l : List (List ℕ)). t0 ++ t1 ++ t2 ++ l) (append-nil t3) ∙ append_assoc (t0 ++ t1) t2 t3) at_3)

  -- and so it is with one device alone
  pub heals_alone : (before image : List ℕ) → held_body rank (bodies_on rank size before) ≡ Some body → MendsBoth size body before image → held_body rank (bodies_on rank size image) ≡ Some body
  heals_alone before image was mends =
      let s0 = Slot 0 before in
      let s1 = Slot 1 before in
      let t0 = Slot 0 image in
      let t1 = Slot 1 image in
      let best = best_from_held rank (s0 ++ s1) body was in
      let at_0 = best_mended rank body [] s0 t0 s1 (slot_one 0 before) (mended_slot 0 before image mends.first) best in
      let ready = subst (IsBest rank body) (ap (λ (l : List (List ℕ)). t0 ++ l) (sym (append-nil s1))) at_0 in
      let at_1 = best_mended rank body t0 s1 t1 [] (slot_one 1 before) (mended_slot 1 before image mends.second) ready in
      held_from_best rank (t0 ++ t1) body (subst (IsBest rank body) (ap (λ (l : List (List ℕ)). t0 ++ l) (append-nil t1)) at_1)

-- what is held has a rank
module _ (rank : List ℕ → Option ℕ) (size : ℕ) where
  abbrev AreRanked : List (List ℕ) → Type 0
  AreRanked bodies = AllByRecursion (λ body. is_some (rank body) ≡ true) bodies

  ranked_slot : (index : ℕ) (image : List ℕ) → AreRanked (bodies_at rank size index image)
  ranked_slot index image = go (eqb (gate_in size index image) 0xA5) (is_some (rank (body_in size index image))) refl
    where
      go : (test ranked : Bool) → is_some (rank (body_in size index image)) ≡ ranked → AreRanked (cond test (cond ranked (body_in size index image ∷ []) []) [])
      go true true is = (is, tt)
      go true false is = tt
      go false ranked is = tt

  ranked-append : (xs ys : List (List ℕ)) → AreRanked xs → AreRanked ys → AreRanked (xs ++ ys)
  ranked-append [] ys first second = second
  ranked-append (x ∷ xs) ys first second = (first.0, ranked-append xs ys first.1 second)

  held_ranked : (bodies : List (List ℕ)) (best : List ℕ) → AreRanked bodies → IsBest rank best bodies → is_some (rank best) ≡ true
  held_ranked [] best all is = absurd is
  held_ranked (body ∷ bodies) best all (inl is) = subst (λ (b : List ℕ). is_some (rank b) ≡ true) is.0 all.0
  held_ranked (body ∷ bodies) best all (inr is) = held_ranked bodies best all.1 is.1

  pub ranked_held : (internal external best : List ℕ) → held_on rank size internal external ≡ Some best → is_some (rank best) ≡ true
  ranked_held internal external best is =
      let i = bodies_on rank size internal in
      let e = bodies_on rank size external in
      let on : (image : List ℕ) → AreRanked (bodies_on rank size image) = λ image. ranked-append (bodies_at rank size 0 image) (bodies_at rank size 1 image) (ranked_slot 0 image) (ranked_slot 1 image) in
      held_ranked (i ++ e) best (ranked-append i e (on internal) (on external)) (best_from_held rank (i ++ e) best is)

module _ (size : ℕ) (body : List ℕ) (long : length body ≡ size) where
  -- each slot of both devices is mended
  abbrev MendsAll : Flashes → Left → Type 0
  MendsAll start left = (d : Dev) → MendsBoth size body (flash_of d start).content (left_on d left)

  -- then both hold what they held
  pub keeps_held : (start : Flashes) (left : Left) → MendsAll start left → KeepsHeld size body start left
  keeps_held start left mends rank was =
      let internal = start.internal.content in
      let external = start.external.content in
      heals rank size body (ranked_held rank size internal external body was) internal external left was (mends Internal) (mends External)

  -- a clean device in whose places nothing is written
  untouched : (d : Dev) (start : Flashes) (image : List ℕ) (n : ℕ) → length (flash_of d start).content ≡ n → room size ≤ n → IsClean (flash_of d start) → IsImage (flash_of d start) image → MendsBoth size body (flash_of d start).content image
  untouched d start image n wide fits clean is =
      let zero_below : 0 < 2 = omega arith in
      let one_below : 1 < 2 = omega arith in
      let fit_0 = body_fits size 0 n zero_below fits in
      let fit_1 = body_fits size 1 n one_below fits in
      record {
        first = same_mends size 0 body (flash_of d start).content image (image_same size 0 (flash_of d start) image (omega arith) clean is);
        second = same_mends size 1 body (flash_of d start).content image (image_same size 1 (flash_of d start) image (omega arith) clean is);
      }

  -- while the internal flash is mended, the external one is as it was
  heal_internal : (a b : Told) → HaveRoom size a.sizes → ForSome a.flashes (AreSized a.sizes) → ForSome a.flashes AreClean → Runs (MendsTwin a Internal size body) a b → Runs (Course a (λ d k. IsOfTwin size k) 6 MendsAll) a b
  heal_internal a b fits sized clean run =
      course_from_stage Internal (IsOfTwin size) 6 MendsAll a b
      (stage_stronger Internal (IsOfTwin size) 6 (λ start left. MendsBoth size body start.internal.content left.internal) MendsAll a b sized (twin_bounded size (size_of Internal a.sizes) (fits Internal)) (λ start told fs left keeps is mends.
      let image = subst (λ (f : Flash). IsImage f left.external) (keeps.other External (differs Internal)) is.external in
      let external = untouched External start left.external (size_of External a.sizes) ((sized start told).content External) (fits External) (clean start told External) image in
      on_both (λ d. MendsBoth size body (flash_of d start).content (left_on d left)) mends external) run)

  abbrev Later : Flashes → Left → Type 0
  Later mid left =
      MendsBoth size body mid.external.content left.external × ((gate_in size 0 left.internal ≡ 0xA5) × (body_in size 0 left.internal ≡ body)) × ((gate_in size 1 left.internal ≡ 0xA5) × (body_in size 1 left.internal ≡ body))

  -- while the external flash is mended, the internal one has the body
  heal_external : (b c : Told) → room size ≤ size_of External b.sizes → ForSome b.flashes (AreSized b.sizes) → ForSome b.flashes (λ fs. IsTwin size body fs.internal) → Runs (MendsTwin b External size body) b c → Runs (Course b (λ d k. IsOfTwin size k) 6 Later) b c
  heal_external b c fits sized twin run =
      course_from_stage External (IsOfTwin size) 6 Later b c
      (stage_stronger External (IsOfTwin size) 6 (λ start left. MendsBoth size body start.external.content left.external) Later b c sized (twin_bounded size (size_of External b.sizes) fits) (λ start told fs left keeps is mends.
      let image = subst (λ (f : Flash). IsImage f left.internal) (keeps.other Internal (differs External)) is.internal in
      let t = twin start told in
      (mends, live_image size 0 body start.internal left.internal long t.first image, live_image size 1 body start.internal left.internal long t.second image)) run)

  external_same : (a b : Told) → room size ≤ size_of Internal a.sizes → ForSome a.flashes (AreSized a.sizes) → Runs (MendsTwin a Internal size body) a b → (start mid : Flashes) → a.flashes ≡ Some start → b.flashes ≡ Some mid → mid.external ≡ start.external
  external_same a b fits sized run start mid told later =
      let keeps = within_keeps Internal (IsOfTwin size) run.0 start run.2.within (places_of Internal (IsOfTwin size) a start (sized start told) (twin_bounded size (size_of Internal a.sizes) fits)) in
      let same : mid ≡ after run.0 start = some_same (sym later ∙ told_after run.0 a b start run.1 told) in
      ap (λ (fs : Flashes). fs.external) same ∙ keeps.other External (differs Internal)
    where
      some_same : {x y : Flashes} → Some x ≡ Some y → x ≡ y
      some_same e = cc

  healing : (a b : Told) (n : ℕ) → n ≤ 12 → HaveRoom size a.sizes → ForSome a.flashes (AreSized a.sizes) → ForSome a.flashes AreClean → Runs (Course a (λ d k. IsOfTwin size k) n MendsAll) a b → Runs (Heals a size body) a b
  healing a b n few fits sized clean run =
      framed size 12 (LeavesHeld size body) a b fits sized clean
      (course_weaker (λ d k. IsOfTwin size k) n 12 MendsAll (LeavesHeld size body) a b few (λ start told left mends. record { both = keeps_held start left mends; slots = mends }) run)

  -- the call stops while the internal flash is mended
  pub healed_internal : (a b : Told) → HaveRoom size a.sizes → ForSome a.flashes (AreSized a.sizes) → ForSome a.flashes AreClean → Runs (MendsTwin a Internal size body) a b → Runs (Heals a size body) a b
  healed_internal a b fits sized clean run =
      healing a b 6 (omega arith) fits sized clean (heal_internal a b fits sized clean run)

  -- or later
  pub healed : (a b c : Told) → HaveRoom size a.sizes → ForSome a.flashes (AreSized a.sizes) → ForSome b.flashes (AreSized b.sizes) → ForSome a.flashes AreClean
      → Runs (MendsTwin a Internal size body) a b → ForSome b.flashes (λ fs. IsTwin size body fs.internal) → Runs (MendsTwin b External size body) b c → Runs (Heals a size body) a c
  healed a b c fits sized sized_b clean run twin run_2 =
      let fits_b = subst (λ (z : Sizes). room size ≤ size_of External z) (sym run.1.sizes) (fits External) in
      healing a c (6 + 6) (omega arith) fits sized clean
      (courses-append (λ d k. IsOfTwin size k) 6 6 MendsAll Later a b c (λ start mid told later left q.
      let external = subst (λ (f : Flash). MendsBoth size body f.content left.external) (external_same a b (fits Internal) sized run start mid told later) q.0 in
      let internal : MendsBoth size body start.internal.content left.internal = record {
        first = live_mends size 0 body start.internal.content left.internal q.1;
        second = live_mends size 1 body start.internal.content left.internal q.2;
      } in
      on_both (λ d. MendsBoth size body (flash_of d start).content (left_on d left)) internal external) (heal_internal a b fits sized clean run) (heal_external b c fits_b sized_b twin run_2))

-- where nothing is done on the one device, and then nothing on the other
pub both_idle : (size : ℕ) (body : List ℕ) (a b c : Told) → ForSome a.flashes (λ start. IsTwin size body start.internal → Does [] a b) → ForSome b.flashes (λ mid. IsTwin size body mid.external → Does [] b c)
    → ForSome a.flashes (λ start. ((d : Dev) → IsTwin size body (flash_of d start)) → Does [] a c)
both_idle size body a b c first second start told live =
    let does = first start told (live Internal) in
    does-append [] [] a b c does (second start (told_after [] a b start does told) (live External))

-- all that is done on both devices
pub heals_all : (size : ℕ) (body : List ℕ) (a b c : Told) → length body ≡ size → room size ≤ size_of Internal a.sizes → ForSome a.flashes (AreSized a.sizes) → Runs (MendsTwin a Internal size body) a b
    → ForSome a.flashes (λ start. Runs (AreMends size Internal body start.internal.content) a b) → ForSome b.flashes (λ mid. Runs (AreMends size External body mid.external.content) b c)
    → ForSome a.flashes (λ start. Runs (IsHeal size body start) a c)
heals_all size body a b c long fits sized run first second start told =
    let one = first start told in
    let mid = after one.0 start in
    let later = told_after one.0 a b start one.1 told in
    let two = second mid later in
    let same = external_same size body long a b fits sized run start mid told later in (
      one.0 ++ two.0,
      does-append one.0 two.0 a b c one.1 two.1,
      record {
        internal = one.0;
        external = two.0;
        internal_is = one.2;
        external_is = subst (λ (f : Flash). AreMends size External body f.content two.0) same two.2;
        in_row = refl;
      },
    )

-- ---- up to a fault

heal_joins : (size : ℕ) (body : List ℕ) (start : Flashes) (xs ys : List Op) → AreMends size Internal body start.internal.content xs → AreMends size External body start.external.content ys → IsHeal size body start (xs ++ ys)
heal_joins size body start xs ys internal external =
    record { internal = xs; external = ys; internal_is = internal; external_is = external; in_row = refl }

-- the internal flash was cut off
pub heal_cut_internal : (size : ℕ) (body : List ℕ) (a b : Told) → ForSome a.flashes (λ start. Runs (IsUpTo (AreMends size Internal body start.internal.content)) a b) → ForSome a.flashes (λ start. Runs (IsUpTo (IsHeal size body start)) a b)
heal_cut_internal size body a b first start told =
    let run = first start told in
    let later = mends_are size External body start.external.content in (
      run.0,
      run.1,
      up_to_first (AreMends size Internal body start.internal.content) (AreMends size External body start.external.content) (IsHeal size body start) run.0 later.0 (heal_joins size body start) later.1 run.2,
    )

-- the external one was
pub heal_cut_external : (size : ℕ) (body : List ℕ) (a b c : Told) → length body ≡ size → room size ≤ size_of Internal a.sizes → ForSome a.flashes (AreSized a.sizes) → Runs (MendsTwin a Internal size body) a b
    → ForSome a.flashes (λ start. Runs (AreMends size Internal body start.internal.content) a b) → ForSome b.flashes (λ mid. Runs (IsUpTo (AreMends size External body mid.external.content)) b c)
    → ForSome a.flashes (λ start. Runs (IsUpTo (IsHeal size body start)) a c)
heal_cut_external size body a b c long fits sized run first second start told =
    let one = first start told in
    let mid = after one.0 start in
    let later = told_after one.0 a b start one.1 told in
    let two = second mid later in
    let same = external_same size body long a b fits sized run start mid told later in
    let from = subst (λ (f : Flash). IsUpTo (AreMends size External body f.content) two.0) same two.2 in (
      one.0 ++ two.0,
      does-append one.0 two.0 a b c one.1 two.1,
      up_to_later (AreMends size Internal body start.internal.content) (AreMends size External body start.external.content) (IsHeal size body start) one.0 two.0 (heal_joins size body start) one.2 from,
    )

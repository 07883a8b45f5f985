-- The two devices, one after the other.
use Rattle.std.proofs.Common.{◌≡◌, ◌≢◌, ℕ, ◌+◌, ◌<◌, ◌≤◌, ◌⊎◌, inl, inr, Option, Some, List, [], length, refl, sym, subst, arith}
use Rattle.std.specs.Option.{ForSome}
use Rattle.urna_outside.specs.Flash.{Flash, Flashes, flash_of, IsClean, IsImage}
use Rattle.urna_outside.specs.Stop.{Left, left_on}
use Rattle.urna_outside.specs.Stage.{Course, Stage}
use Rattle.urna_outside.specs.Told.{Told, Sizes, Runs, AreSized, size_of}
use Rattle.urna_outside.specs.declared.device.Dev.{Dev}
use Rattle.urna_outside.specs.declared.device.Dev.TheVariants.{Internal, External}
use Rattle.urna_outside.proofs.Runs.{run_keeps}
use Rattle.urna_outside.proofs.Stages.{left_image, stage_stronger}
use Rattle.urna_outside.proofs.Courses.{course_from_stage, courses-append, course_weaker}
use Rattle.gate_slot.specs.Device.{OnFlash}
use Rattle.gate_slot.specs.Slot.{room}
use Rattle.twin_image.specs.Twin.{IsOfTwin, IsTwin, HoldsEither, Renews}
use Rattle.twin_image.specs.Held.{LeavesEither, IsNotOutranked}
use Rattle.twin_image.specs.Level.{IsLevel, CommitsTo}
use Rattle.twin_image.proofs.Renewing.{live_image, one_of, twin_bounded}
use Rattle.twin_image.proofs.Framing.{framed, on_both}
use Rattle.twin_image.specs.Slots.{HaveRoom, AreClean, beside}
use Rattle.twin_image.proofs.Holding.{leaves_either}

pub differs : (d : Dev) → beside d ≢ d
differs Internal same = cc
differs External same = cc

-- twins of one of the two bodies
twin_holds : (size : ℕ) (old new body : List ℕ) (f : Flash) (image : List ℕ) → length body ≡ size → (body ≡ old) ⊎ (body ≡ new) → IsTwin size body f → IsImage f image → HoldsEither size old new image
twin_holds size old new body f image long one twin is =
    let first = live_image size 0 body f image long twin.first is in
    let second = live_image size 1 body f image long twin.second is in
    record { first = λ gate. one_of first.1 one; second = λ gate. one_of second.1 one; open_one = inl first.0 }

-- two clean devices of twins are level
pub level_of : (size : ℕ) (body : List ℕ) (fs : Flashes) → IsTwin size body fs.internal × IsClean fs.internal → IsTwin size body fs.external × IsClean fs.external → IsLevel size body fs
level_of size body fs internal external =
    record {
      twins = on_both (λ d. IsTwin size body (flash_of d fs)) internal.0 external.0;
      clean = on_both (λ d. IsClean (flash_of d fs)) internal.1 external.1;
    }

-- what a level holds in each image
pub level_holds : (rank : List ℕ → Option ℕ) (size : ℕ) (body : List ℕ) (top : ℕ) → rank body ≡ Some top → length body ≡ size → (fs : Flashes) → IsLevel size body fs → (left : Left) → IsImage fs.internal left.internal → IsImage fs.external left.external → LeavesEither rank size body body left
level_holds rank size body top is_ranked long fs level left internal external =
    leaves_either rank size body body top top is_ranked is_ranked left
    (twin_holds size body body body fs.internal left.internal long (inl refl) (level.twins Internal) internal)
    (twin_holds size body body body fs.external left.external long (inl refl) (level.twins External) external)

-- what is so of the other device stays so
pub other_kept : (d : Dev) (In : ℕ → Type 0) (n : ℕ) (P : Flashes → Left → Type 0) (F : Flash → Type 0) (a b : Told) → ((k : ℕ) → In k → k < size_of d a.sizes) → ForSome a.flashes (AreSized a.sizes) → Runs (Stage a d In n P) a b → OnFlash (beside d) F a → OnFlash (beside d) F b
other_kept d In n P F a b bounded sized run was =
    run_keeps d In (λ fs. F (flash_of (beside d) fs)) run.0 a b run.1 run.2.within sized bounded (λ fs gs keeps. subst F (sym (keeps.other (beside d) (differs d)))) was

-- what is left of one device and of the other
of_two : (d : Dev) (size : ℕ) (old new : List ℕ) (left : Left) → HoldsEither size old new (left_on d left) → HoldsEither size old new (left_on (beside d) left) → (e : Dev) → HoldsEither size old new (left_on e left)
of_two Internal size old new left own other = on_both (λ e. HoldsEither size old new (left_on e left)) own other
of_two External size old new left own other = on_both (λ e. HoldsEither size old new (left_on e left)) other own

module _ (rank : List ℕ → Option ℕ) (size : ℕ) (old new : List ℕ) (old_long : length old ≡ size) (new_long : length new ≡ size) (ranked : IsNotOutranked rank new old) where
  abbrev Either : Flashes → Left → Type 0
  Either start left = LeavesEither rank size old new left

  -- while one flash is renewed, the other has one of the two bodies
  renewal_course : (d : Dev) (body : List ℕ) (a b : Told) → length body ≡ size → (body ≡ old) ⊎ (body ≡ new) → room size ≤ size_of d a.sizes → ForSome a.flashes (AreSized a.sizes)
      → OnFlash (beside d) (IsTwin size body) a → Runs (Renews a d size old new) a b → Runs (Course a (λ d k. IsOfTwin size k) 6 Either) a b
  renewal_course d body a b long one fits sized twin run =
      course_from_stage d (IsOfTwin size) 6 Either a b
      (stage_stronger d (IsOfTwin size) 6 (λ start left. HoldsEither size old new (left_on d left)) Either a b sized (twin_bounded size (size_of d a.sizes) fits) (λ start told fs left keeps is holds.
      let e = beside d in
      let image = subst (λ (f : Flash). IsImage f (left_on e left)) (keeps.other e (differs d)) (left_image e fs [] left is) in
      let all = of_two d size old new left holds (twin_holds size old new body (flash_of e start) (left_on e left) long one (twin start told) image) in
      leaves_either rank size old new ranked.lower ranked.higher ranked.old_rank ranked.new_rank left (all Internal) (all External)) run)

  clean_level : (a : Told) → ForSome a.flashes (IsLevel size old) → ForSome a.flashes AreClean
  clean_level a level start told = (level start told).clean

  internal_course : (a b : Told) → HaveRoom size a.sizes → ForSome a.flashes (AreSized a.sizes) → ForSome a.flashes (IsLevel size old) → Runs (Renews a Internal size old new) a b → Runs (Course a (λ d k. IsOfTwin size k) 6 Either) a b
  internal_course a b fits sized level run =
      renewal_course Internal old a b old_long (inl refl) (fits Internal) sized (λ fs told. (level fs told).twins External) run

  -- the call stops while the internal flash is renewed
  pub committed_internal : (a b : Told) → HaveRoom size a.sizes → ForSome a.flashes (AreSized a.sizes) → ForSome a.flashes (IsLevel size old) → Runs (Renews a Internal size old new) a b → Runs (CommitsTo a rank size old new) a b
  committed_internal a b fits sized level run =
      framed size 12 Either a b fits sized (clean_level a level)
      (course_weaker (λ d k. IsOfTwin size k) 6 12 Either Either a b (omega arith) (λ start told left p. p) (internal_course a b fits sized level run))

  -- or later
  pub committed : (a b c : Told) → HaveRoom size a.sizes → ForSome a.flashes (AreSized a.sizes) → ForSome b.flashes (AreSized b.sizes) → ForSome a.flashes (IsLevel size old)
      → Runs (Renews a Internal size old new) a b → OnFlash Internal (IsTwin size new) b → Runs (Renews b External size old new) b c → Runs (CommitsTo a rank size old new) a c
  committed a b c fits sized sized_b level first twin second =
      let fits_b = subst (λ (z : Sizes). room size ≤ size_of External z) (sym first.1.sizes) (fits External) in
      framed size 12 Either a c fits sized (clean_level a level)
      (course_weaker (λ d k. IsOfTwin size k) (6 + 6) 12 Either Either a c (omega arith) (λ start told left p. p)
      (courses-append (λ d k. IsOfTwin size k) 6 6 Either Either a b c (λ start mid told later left p. p) (internal_course a b fits sized level first) (renewal_course External new b c new_long (inr refl) fits_b sized_b twin second)))

-- The frame of a device, written and synced.
use Rattle.std.proofs.Common.{◌≡◌, ℕ, ◌+◌, ◌<◌, ◌≤◌, inl, inr, Result, Ok, Err, OnOk, OnErr, List, [], ◌∷◌, length, refl, sym, subst, ◌∙◌, arith}
use Rattle.std.specs.Option.{ForSome}
use Rattle.urna_outside.specs.Flash.{Put, Sync, Flash, Flashes, flash_of, put, synced, after, IsClean, Stably, part}
use Rattle.urna_outside.specs.Confined.{KeepsBut, IsInRange}
use Rattle.urna_outside.specs.Told.{Told, Sizes, Does, Runs, AreSized, IsTornPut, size_of}
use Rattle.urna_outside.specs.declared.device.Dev.{Dev}
use Rattle.urna_outside.specs.declared.device.Dev.TheVariants.{Internal, External}
use Rattle.urna_outside.proofs.Doing.{then_told}
use Rattle.urna_outside.proofs.Keeping.{put_there, synced_clean}
use Rattle.urna_outside.proofs.Places.{length-overwrite, same_part}
use Rattle.gate_slot.specs.Device.{OnFlash}
use Rattle.gate_slot.specs.Slot.{room, padding_offset}
use Rattle.twin_image.specs.Frame.{padding, IsOfFrame, FrameStands}
use Rattle.twin_image.specs.Lay.{WritesOnly}
use Rattle.twin_image.proofs.Laid.{length-padding}
use Rattle.twin_image.proofs.Laying.{writes-append, writes_weaker, writes_keep, frame_bounded}

module _ (d : Dev) (In : ℕ → Type 0) where
  -- one write, whole or torn, and one sync, done or not
  put_writes : (at : ℕ) (bytes : List ℕ) (a b : Told) → ((k : ℕ) → at ≤ k → k < at + length bytes → In k) → Does (Put d at bytes ∷ []) a b → Runs (WritesOnly d In 0) a b
  put_writes at bytes a b places does =
      (Put d at bytes ∷ [], does, record { within = ((refl, places), tt); syncs = omega arith })

  torn_writes : (at n : ℕ) (a b : Told) → ((k : ℕ) → at ≤ k → k < at + n → In k) → Runs (IsTornPut d at n) a b → Runs (WritesOnly d In 0) a b
  torn_writes at n a b places (ops, does, inl none) =
      (ops, does, subst (WritesOnly d In 0) (sym none) (record { within = tt; syncs = omega arith }))
  torn_writes at n a b places (ops, does, inr some) = (
    ops,
    does,
    subst (WritesOnly d In 0) (sym some.5) (record {
      within = ((refl, λ k low high. places k (omega (arith, some.3)) (omega (arith, some.4))), tt);
      syncs = omega arith;
    }),
  )

  sync_writes : {T E : Type 0} (r : Result T E) (a b : Told) → OnOk r (Does (Sync d ∷ []) a b) → OnErr r (Does [] a b) → Runs (WritesOnly d In 1) a b
  sync_writes (Ok x) a b ok err = (Sync d ∷ [], ok, record { within = (refl, tt); syncs = omega arith })
  sync_writes (Err e) a b ok err = ([], err, record { within = tt; syncs = omega arith })

-- the bytes stand in what reads give
record Shows (at : ℕ) (bytes : List ℕ) (flash : Flash) : Type 0 where
  fits : at + length bytes ≤ length flash.content
  there : part flash.content at (length bytes) ≡ bytes

shows_kept : (In : ℕ → Type 0) (at : ℕ) (bytes : List ℕ) (f g : Flash) → ((k : ℕ) → at ≤ k → k < at + length bytes → ¬ In k) → KeepsBut In f g → Shows at bytes f → Shows at bytes g
shows_kept In at bytes f g apart keeps shows =
    record {
      fits = omega (arith, shows.fits, keeps.size);
      there =
          same_part g.content f.content at (length bytes) keeps.size shows.fits (λ k low high. keeps.content k (apart k low high)) ∙ shows.there;
    }

put_shows : (d : Dev) (at : ℕ) (bytes : List ℕ) (a b : Told) → ForSome a.flashes (AreSized a.sizes) → at + length bytes ≤ size_of d a.sizes → Does (Put d at bytes ∷ []) a b → OnFlash d (Shows at bytes) b
put_shows d at bytes a b sized fits does =
    then_told (Put d at bytes ∷ []) a b (λ fs. Shows at bytes (flash_of d fs)) does (λ start told.
    let long = (sized start told).content d in
    let within : at + length bytes ≤ length (flash_of d start).content = omega arith in
    subst (Shows at bytes) (sym (after_put d start)) (record {
      fits = omega (arith, length-overwrite (flash_of d start).content at bytes within);
      there = put_there (flash_of d start) at bytes within;
    }))
  where
    after_put : (e : Dev) (fs : Flashes) → flash_of e (after (Put e at bytes ∷ []) fs) ≡ put at bytes (flash_of e fs)
    after_put Internal fs = refl
    after_put External fs = refl

sync_cleans : (d : Dev) (a b : Told) → Does (Sync d ∷ []) a b → OnFlash d IsClean b
sync_cleans d a b does =
    then_told (Sync d ∷ []) a b (λ fs. IsClean (flash_of d fs)) does (λ start told.
    subst IsClean (sym (after_sync d start)) (synced_clean (flash_of d start)))
  where
    after_sync : (e : Dev) (fs : Flashes) → flash_of e (after (Sync e ∷ []) fs) ≡ synced (flash_of e fs)
    after_sync Internal fs = refl
    after_sync External fs = refl

shown_stably : (at : ℕ) (bytes : List ℕ) (f : Flash) → IsClean f → Shows at bytes f → Stably f at bytes
shown_stably at bytes f clean shows =
    record { within = shows.fits; content = shows.there; clean = λ k low high. clean k }

module _ (d : Dev) (size : ℕ) (header : List ℕ) (header_long : length header ≡ 512) where
  abbrev First : ℕ → Type 0
  First k = IsInRange (padding_offset size 0) 511 k

  abbrev Second : ℕ → Type 0
  Second k = IsInRange (padding_offset size 1) 511 k

  header_places : (k : ℕ) → 0 ≤ k → k < 0 + length header → IsOfFrame size k
  header_places k low high = inl (omega arith)

  first_places : (k : ℕ) → padding_offset size 0 ≤ k → k < padding_offset size 0 + length padding → First k
  first_places k low high = (low, omega (arith, length-padding))

  second_places : (k : ℕ) → padding_offset size 1 ≤ k → k < padding_offset size 1 + length padding → Second k
  second_places k low high = (low, omega (arith, length-padding))

  -- the call stops while the first padding is written
  pub framed_first : (a b c : Told) → Does (Put d 0 header ∷ []) a b → Runs (IsTornPut d (padding_offset size 0) (length padding)) b c → Runs (WritesOnly d (IsOfFrame size) 1) a c
  framed_first a b c first torn =
      writes_weaker d (IsOfFrame size) (IsOfFrame size) (0 + 0) 1 a c (omega arith) (λ k is. is)
      (writes-append d (IsOfFrame size) 0 0 a b c (put_writes d (IsOfFrame size) 0 header a b header_places first) (torn_writes d (IsOfFrame size) (padding_offset size 0) (length padding) b c (λ k low high. inr (inl (first_places k low high))) torn))

  two_writes : (a b c : Told) → Does (Put d 0 header ∷ []) a b → Does (Put d (padding_offset size 0) padding ∷ []) b c → Runs (WritesOnly d (IsOfFrame size) (0 + 0)) a c
  two_writes a b c first second =
      writes-append d (IsOfFrame size) 0 0 a b c (put_writes d (IsOfFrame size) 0 header a b header_places first) (put_writes d (IsOfFrame size) (padding_offset size 0) padding b c (λ k low high. inr (inl (first_places k low high))) second)

  -- or while the second one is
  pub framed_second : (a b c e : Told) → Does (Put d 0 header ∷ []) a b → Does (Put d (padding_offset size 0) padding ∷ []) b c → Runs (IsTornPut d (padding_offset size 1) (length padding)) c e → Runs (WritesOnly d (IsOfFrame size) 1) a e
  framed_second a b c e first second torn =
      writes_weaker d (IsOfFrame size) (IsOfFrame size) (0 + 0 + 0) 1 a e (omega arith) (λ k is. is)
      (writes-append d (IsOfFrame size) (0 + 0) 0 a c e (two_writes a b c first second) (torn_writes d (IsOfFrame size) (padding_offset size 1) (length padding) c e (λ k low high. inr (inr (second_places k low high))) torn))

  -- or later
  pub framed_third : {T E : Type 0} (r : Result T E) (a b c e f : Told) → Does (Put d 0 header ∷ []) a b → Does (Put d (padding_offset size 0) padding ∷ []) b c → Does (Put d (padding_offset size 1) padding ∷ []) c e → OnOk r (Does (Sync d ∷ []) e f) → OnErr r (Does [] e f) → Runs (WritesOnly d (IsOfFrame size) 1) a f
  framed_third r a b c e f first second third ok err =
      writes_weaker d (IsOfFrame size) (IsOfFrame size) (0 + 0 + 0 + 1) 1 a f (omega arith) (λ k is. is)
      (writes-append d (IsOfFrame size) (0 + 0 + 0) 1 a e f (writes-append d (IsOfFrame size) (0 + 0) 0 a c e (two_writes a b c first second) (put_writes d (IsOfFrame size) (padding_offset size 1) padding c e (λ k low high. inr (inr (second_places k low high))) third)) (sync_writes d (IsOfFrame size) r e f ok err))

  -- and then the frame stands
  pub frame_synced : (a b c e f : Told) → room size ≤ size_of d a.sizes → ForSome a.flashes (AreSized a.sizes) → ForSome b.flashes (AreSized b.sizes) → ForSome c.flashes (AreSized c.sizes) → ForSome e.flashes (AreSized e.sizes)
      → Does (Put d 0 header ∷ []) a b → Does (Put d (padding_offset size 0) padding ∷ []) b c → Does (Put d (padding_offset size 1) padding ∷ []) c e → Does (Sync d ∷ []) e f → OnFlash d (FrameStands size header) f
  frame_synced a b c e f fits sized_a sized_b sized_c sized_e first second third sync =
      let fits_b = subst (λ (s : Sizes). room size ≤ size_of d s) (sym first.sizes) fits in
      let fits_c = subst (λ (s : Sizes). room size ≤ size_of d s) (sym second.sizes) fits_b in
      let header_at_b = put_shows d 0 header a b sized_a (omega arith) first in
      let put_2 = put_writes d First (padding_offset size 0) padding b c first_places second in
      let put_3 = put_writes d Second (padding_offset size 1) padding c e second_places third in
      let in_first : (k : ℕ) → First k → k < size_of d b.sizes = λ k is. frame_bounded size (size_of d b.sizes) fits_b k (inr (inl is)) in
      let in_second : (k : ℕ) → Second k → k < size_of d c.sizes = λ k is. frame_bounded size (size_of d c.sizes) fits_c k (inr (inr is)) in
      let header_at_c = writes_keep d First 0 (Shows 0 header) b c sized_b in_first (λ g h keeps. shows_kept First 0 header g h (λ k low high is. omega (arith, is.0)) keeps) put_2 header_at_b in
      let header_at_e = writes_keep d Second 0 (Shows 0 header) c e sized_c in_second (λ g h keeps. shows_kept Second 0 header g h (λ k low high is. omega (arith, is.0)) keeps) put_3 header_at_c in
      let first_at_c = put_shows d (padding_offset size 0) padding b c sized_b (omega (arith, length-padding)) second in
      let first_at_e = writes_keep d Second 0 (Shows (padding_offset size 0) padding) c e sized_c in_second (λ g h keeps. shows_kept Second (padding_offset size 0) padding g h (λ k low high is. omega (arith, is.0, length-padding)) keeps) put_3 first_at_c in
      let second_at_e = put_shows d (padding_offset size 1) padding c e sized_c (omega (arith, length-padding)) third in
      let run : Runs (WritesOnly d (λ k. ⊥) 1) e f = (Sync d ∷ [], sync, record { within = (refl, tt); syncs = omega arith }) in
      let clean = sync_cleans d e f sync in
      let stays : (at : ℕ) (bytes : List ℕ) → OnFlash d (Shows at bytes) e → OnFlash d (Shows at bytes) f =
      λ at bytes. writes_keep d (λ k. ⊥) 1 (Shows at bytes) e f sized_e (λ k no. absurd no) (λ g h keeps. shows_kept (λ k. ⊥) at bytes g h (λ k low high no. no) keeps) run in
      λ fs told. record {
        at_front = shown_stably 0 header (flash_of d fs) (clean fs told) (stays 0 header header_at_e fs told);
        first = shown_stably (padding_offset size 0) padding (flash_of d fs) (clean fs told) (stays (padding_offset size 0) padding first_at_e fs told);
        second = shown_stably (padding_offset size 1) padding (flash_of d fs) (clean fs told) (stays (padding_offset size 1) padding second_at_e fs told);
      }

-- Flashes at rest: what their images hold, and what stays of their frames.
use Rattle.std.proofs.Common.{◌≡◌, inl, ℕ, ◌+◌, ◌≤◌, Option, Some, List, [], ◌∷◌, ◌++◌, length, option_map, refl, sym, ap, subst, ◌∙◌, arith, ext_get_or, length-append}
use Rattle.std.specs.Option.{ForSome}
use Rattle.urna_outside.specs.Flash.{Op, Flash, Flashes, Stably, flash_of, after, part, shown_by, IsImage, IsClean}
use Rattle.urna_outside.specs.Stop.{Left, AtEachStop}
use Rattle.urna_outside.specs.Told.{AreSized, Runs, Sizes, Told, size_of}
use Rattle.urna_outside.specs.declared.device.Dev.{Dev}
use Rattle.urna_outside.specs.declared.device.Dev.TheVariants.{Internal, External}
use Rattle.urna_outside.proofs.Doing.{then_told}
use Rattle.urna_outside.proofs.Keeping.{stands_clean}
use Rattle.urna_outside.proofs.Stops.{stop_whole}
use Rattle.gate_slot.specs.Slot.{open_gate, header_size, gate_offset, body_offset, gate_in, body_in, room}
use Rattle.gate_slot.proofs.Images.{stands_one}
use Rattle.twin_image.specs.Frame.{HasFrame, device_image, padding}
use Rattle.twin_image.specs.Lay.{AreLaid}
use Rattle.twin_image.specs.Level.{HasTokens, IsLevel, Stands, body_of}
use Rattle.twin_image.specs.declared.level.Level.{Level}
use Rattle.twin_image.specs.Slots.{AreClean, HaveRoom, KeepsFrame}
use Rattle.twin_image.specs.Twin.{HoldsEither, IsLive, IsTwin}
use Rattle.twin_image.proofs.Holding.{leaves_either}
use Rattle.twin_image.proofs.Laid.{device_bodies, device_frame, device_gates, frame_kept, length-padding, twin_whole}
use Rattle.twin_image.proofs.Renewing.{content_image}
use Rattle.flash_store.specs.Held.{Codec, HoldEither, IsReader, KeepFrames}
use Rattle.flash_store.specs.Rest.{AreLaidWith}
use Rattle.flash_store.proofs.Holding.{hold_either, rank_by}

-- ---- the image of a device

-- both slots of a whole device stand with its body
whole_holds : (size : ℕ) (head body : List ℕ) → length head ≡ header_size → length body ≡ size → HoldsEither size body body (device_image size head body)
whole_holds size head body head_long body_long =
    let gates = device_gates size head body head_long body_long in
    let bodies = device_bodies size head body head_long body_long in
    record { first = λ gate. inl bodies.0; second = λ gate. inl bodies.1; open_one = inl gates.0 }

-- an image of a clean flash is its content
pub clean_image : (f : Flash) (image : List ℕ) → IsClean f → IsImage f image → image ≡ f.content
clean_image f image clean is = ext_get_or 0 image f.content is.same_length (λ k below. is.clean k (clean k))

-- a live slot, from what reads of a clean device give
live_read : (size : ℕ) (f : Flash) (index : ℕ) (body : List ℕ) → IsClean f → gate_offset size index + 1 ≤ length f.content → body_offset size index + length body ≤ length f.content
    → length body ≡ size → gate_in size index f.content ≡ open_gate → body_in size index f.content ≡ body → IsLive size index body f
live_read size f index body clean gate_fits body_fits long gate there =
    record {
      gate = subst (λ (b : ℕ). Stably f (gate_offset size index) (b ∷ [])) gate (stands_one f (gate_offset size index) clean gate_fits);
      body_stands = stands_clean f (body_offset size index) body clean body_fits (ap (λ (n : ℕ). part f.content (body_offset size index) n) long ∙ there);
    }

-- ---- flashes at rest with a body

-- each device has the frame of its header
abbrev pub AreFramed : ℕ → (Dev → List ℕ) → Flashes → Type 0
AreFramed size header flashes = (d : Dev) → HasFrame size (header d) (flash_of d flashes).content

-- both devices have the size of a header and two slots
abbrev pub AreFit : ℕ → Sizes → Type 0
AreFit size sizes = (d : Dev) → size_of d sizes ≡ room size

pub roomy : (size : ℕ) (sizes : Sizes) → AreFit size sizes → HaveRoom size sizes
roomy size sizes fit d = omega (arith, fit d)

module _ (size : ℕ) (header : Dev → List ℕ) (body : List ℕ) (long : length body ≡ size) where
  module _ (sizes : Sizes) (flashes : Flashes) (fit : AreFit size sizes) (sized : AreSized sizes flashes) where
    long_content : (d : Dev) → length (flash_of d flashes).content ≡ room size
    long_content d = sized.content d ∙ fit d

    -- a header is what is left of a device
    header_fits : AreLaidWith size header body flashes → (d : Dev) → length (header d) ≡ header_size
    header_fits rest d =
        let head = header d in
        let gate : List ℕ = open_gate ∷ padding in
        omega (arith, long_content d, ap length (rest.content d), long, length-padding, length-append (head ++ gate ++ body ++ gate) body, length-append (head ++ gate ++ body) gate, length-append (head ++ gate) body, length-append head gate)

    pub rest_framed : AreLaidWith size header body flashes → AreFramed size header flashes
    rest_framed rest d =
        subst (HasFrame size (header d)) (sym (rest.content d)) (device_frame size (header d) body (header_fits rest d) long)

    rest_twin : AreLaidWith size header body flashes → (d : Dev) → IsTwin size body (flash_of d flashes)
    rest_twin rest d =
        let f = flash_of d flashes in
        let is = rest.content d in
        let head_long = header_fits rest d in
        let gates = device_gates size (header d) body head_long long in
        let bodies = device_bodies size (header d) body head_long long in
        record {
          first = live_read size f 0 body (rest.clean d) (omega (arith, long_content d)) (omega (arith, long_content d, long)) long (ap (gate_in size 0) is ∙ gates.0) (ap (body_in size 0) is ∙ bodies.0);
          second = live_read size f 1 body (rest.clean d) (omega (arith, long_content d)) (omega (arith, long_content d, long)) long (ap (gate_in size 1) is ∙ gates.1) (ap (body_in size 1) is ∙ bodies.1);
        }

    pub rest_level : AreLaidWith size header body flashes → IsLevel size body flashes
    rest_level rest = record { twins = rest_twin rest; clean = rest.clean }

    pub level_rests : IsLevel size body flashes → AreFramed size header flashes → AreLaidWith size header body flashes
    level_rests level framed =
        record {
          content = λ d. twin_whole size (header d) body (flash_of d flashes) long (long_content d) (framed d) (level.twins d);
          clean = level.clean;
        }

  -- the tokens of the four slots of flashes at rest stand for their body
  pub stands_again : (level : Level size) (told : Told) → HasTokens level → AreFit size told.sizes → ForSome told.flashes (AreSized told.sizes)
      → body_of level ≡ body → ForSome told.flashes (AreLaidWith size header body) → Stands told level
  stands_again level told tokens fit sized same rest =
      record {
        internal = tokens.internal;
        external = tokens.external;
        long = ap length same ∙ long;
        fits = roomy size told.sizes fit;
        flashes = λ fs is. subst (λ (b : List ℕ). IsLevel size b fs) (sym same) (rest_level told.sizes fs fit (sized fs is) (rest fs is));
      }

  -- each image of a device at rest has the body in its slots
  rest_image : ((d : Dev) → length (header d) ≡ header_size) → (flashes : Flashes) (d : Dev) (image : List ℕ) → AreLaidWith size header body flashes → IsImage (flash_of d flashes) image → HoldsEither size body body image
  rest_image headed flashes d image rest is =
      subst (HoldsEither size body body) (sym (clean_image (flash_of d flashes) image (rest.clean d) is ∙ rest.content d))
      (whole_holds size (header d) body (headed d) long)

-- Both flashes at rest, and each alone, hold the state whose encoding their body is.
pub rest_holds : {S : Type 0} (codec : Codec S) (read : List ℕ → Option S) → IsReader codec read → (header : Dev → List ℕ) (body : List ℕ) (s : S) → length body ≡ codec.size → ((d : Dev) → length (header d) ≡ header_size)
    → read body ≡ Some s → (flashes : Flashes) (left : Left) → AreLaidWith codec.size header body flashes → IsImage flashes.internal left.internal → IsImage flashes.external left.external → HoldEither codec s s left
rest_holds codec read reads header body s long headed known flashes left rest internal external =
    let rank = rank_by codec.rank read in
    let ranked : rank body ≡ Some (codec.rank s) = ap (option_map codec.rank) known in
    let leaves =
    leaves_either rank codec.size body body (codec.rank s) (codec.rank s) ranked ranked left
    (rest_image codec.size header body long headed flashes Internal left.internal rest internal)
    (rest_image codec.size header body long headed flashes External left.external rest external) in
    hold_either codec read reads s s body body known known left leaves

-- devices that were laid with a body are at rest with it
pub laid_rests : (size : ℕ) (header : Dev → List ℕ) (internal external body bytes : List ℕ) (fs : Flashes) → internal ≡ header Internal → external ≡ header External → bytes ≡ body
    → AreLaid size internal external bytes fs → IsLevel size bytes fs → AreLaidWith size header body fs
laid_rests size header internal external body bytes fs internal_is external_is body_is laid level =
    record { content = content; clean = level.clean }
  where
    content : (d : Dev) → (flash_of d fs).content ≡ device_image size (header d) body
    content Internal = laid Internal ∙ ap (λ (h : List ℕ). device_image size h bytes) internal_is ∙ ap (device_image size (header Internal)) body_is
    content External = laid External ∙ ap (λ (h : List ℕ). device_image size h bytes) external_is ∙ ap (device_image size (header External)) body_is

-- ---- the frames

module _ (size : ℕ) where
  -- an image of a clean flash keeps its frame
  pub frames_same : (flashes : Flashes) (left : Left) → AreClean flashes → IsImage flashes.internal left.internal → IsImage flashes.external left.external → KeepFrames size flashes left
  frames_same flashes left clean internal external Internal =
      record { same_length = internal.same_length; bytes = λ k out. internal.clean k (clean Internal k) }
  frames_same flashes left clean internal external External =
      record { same_length = external.same_length; bytes = λ k out. external.clean k (clean External k) }

  -- what keeps the frames of flashes that keep those of others keeps those
  pub frames_trans : (first mid : Flashes) (left : Left) → ((d : Dev) → KeepsFrame size (flash_of d first).content (flash_of d mid).content) → KeepFrames size mid left → KeepFrames size first left
  frames_trans first mid left kept keeps d =
      record {
        same_length = (keeps d).same_length ∙ (kept d).same_length;
        bytes = λ k out. (keeps d).bytes k out ∙ (kept d).bytes k out;
      }

  -- and so does what keeps the frames of their content
  pub frames_then : (first mid : Flashes) (left : Left) (text : List ℕ)
      → KeepFrames size first (record { internal = mid.internal.content; external = mid.external.content; shown = text }) → KeepFrames size mid left → KeepFrames size first left
  frames_then first mid left text kept keeps = frames_trans first mid left contents keeps
    where
      contents : (d : Dev) → KeepsFrame size (flash_of d first).content (flash_of d mid).content
      contents Internal = kept Internal
      contents External = kept External

-- What holds at each stop holds of what reads give at the end.
pub at_end : (start : Flashes) (ops : List Op) (P : Left → Type 0) → AtEachStop start ops P
    → P (record { internal = (after ops start).internal.content; external = (after ops start).external.content; shown = shown_by ops })
at_end start ops P holds =
    holds ops (stop_whole ops) (record { internal = (after ops start).internal.content; external = (after ops start).external.content; shown = shown_by ops }) (record {
      internal = content_image (after ops start).internal;
      external = content_image (after ops start).external;
      shown = refl;
    })

module _ (size : ℕ) where
  -- so frames that stay at each stop stand at the end
  pub frames_at_end : (before start : Flashes) (ops : List Op) → AtEachStop start ops (KeepFrames size before) → (d : Dev) → KeepsFrame size (flash_of d before).content (flash_of d (after ops start)).content
  frames_at_end before start ops holds Internal = at_end start ops (KeepFrames size before) holds Internal
  frames_at_end before start ops holds External = at_end start ops (KeepFrames size before) holds External

  -- whatever was shown
  pub frames_text : (start : Flashes) (left : Left) (text : List ℕ) → KeepFrames size start left → KeepFrames size start (record left { shown = text })
  frames_text start left text keeps Internal = keeps Internal
  frames_text start left text keeps External = keeps External

  -- what keeps the frames at each stop keeps those of a header
  pub framed_after : (header : Dev → List ℕ) (P : List Op → Type 0) (a b : Told) → AreFit size a.sizes → ForSome a.flashes (AreSized a.sizes) → ForSome a.flashes (AreFramed size header) → (run : Runs P a b) → ForSome a.flashes (λ start. AtEachStop start run.0 (KeepFrames size start))
      → ForSome b.flashes (AreFramed size header)
  framed_after header P a b fit sized framed run keeps =
      then_told run.0 a b (AreFramed size header) run.1 (λ start told d.
      frame_kept size (header d) (flash_of d start).content (flash_of d (after run.0 start)).content (omega (arith, (sized start told).content d, fit d))
      (frames_at_end start start run.0 (keeps start told) d) (framed start told d))

  -- and where all is level at its end, the flashes are at rest
  pub rests_after : (header : Dev → List ℕ) (body : List ℕ) (P : List Op → Type 0) (a b : Told) → AreFit size a.sizes → ForSome a.flashes (AreSized a.sizes) → ForSome b.flashes (AreSized b.sizes) → length body ≡ size
      → ForSome a.flashes (AreFramed size header) → (run : Runs P a b) → ForSome a.flashes (λ start. AtEachStop start run.0 (KeepFrames size start)) → ForSome b.flashes (IsLevel size body) → ForSome b.flashes (AreLaidWith size header body)
  rests_after header body P a b fit sized sized_b long framed run keeps level =
      let kept = framed_after header P a b fit sized framed run keeps in
      let fit_b : AreFit size b.sizes = subst (AreFit size) (sym run.1.sizes) fit in
      λ fs told. level_rests size header body long b.sizes fs fit_b (sized_b fs told) (level fs told) (kept fs told)

-- The slots of one device are brought up: mended, and then brought to another encoding.
use Rattle.std.proofs.Common.{◌≡◌, ◌≢◌, inl, inr, ℕ, ◌≤◌, Some, List, [], ◌++◌, length, refl, ap, subst, ◌∙◌, arith}
use Rattle.std.specs.Option.{ForSome}
use Rattle.urna_outside.specs.Flash.{Flashes, Op, flash_of}
use Rattle.urna_outside.specs.Stage.{Stage}
use Rattle.urna_outside.specs.Stop.{Left, left_on}
use Rattle.urna_outside.specs.Told.{Runs, Told}
use Rattle.urna_outside.specs.declared.device.Dev.{Dev}
use Rattle.urna_outside.proofs.Doing.{does_nothing}
use Rattle.urna_outside.proofs.Stages.{stage_weaker, stages-append}
use Rattle.election_tables.specs.Limits.{most_voters}
use Rattle.election_tables.specs.TablesData.{IsTables, TablesData}
use Rattle.gate_slot.specs.Device.{OnFlash}
use Rattle.gate_slot.specs.Front.{IsFrontOfSome, IsUpTo}
use Rattle.image_codec.specs.Decoded.{decoded, rank_in}
use Rattle.image_codec.specs.Encoding.{IsEncoding, encode}
use Rattle.image_codec.specs.Layout.{body_size}
use Rattle.image_codec.specs.State.{State}
use Rattle.image_codec.proofs.Decoding.{decoded_back}
use Rattle.twin_image.specs.Heal.{AreMends, MendsBoth, MendsTwin}
use Rattle.twin_image.specs.Held.{held_alone}
use Rattle.twin_image.specs.Order.{IsRenewal}
use Rattle.twin_image.specs.Twin.{HoldsEither, IsOfTwin, Renews}
use Rattle.twin_image.proofs.Mending.{cases_bytes}
use Rattle.twin_image.proofs.Ordering.{renewal_is, renewal_ops}
use Rattle.state_store.specs.Held.{HeldAlone}
use Rattle.state_store.proofs.Stored.{known_state}
use Rattle.contingency.specs.Restored.{AreBroughtUp, Brings, IsChange}
use Rattle.contingency.proofs.Alone.{either_alone, mended_alone}
use Rattle.contingency.proofs.InRow.{both_done, first_cut, second_cut}

module _ (t : TablesData) (s : State) (tables : IsTables t) (few : length s.came ≤ most_voters) (d : Dev) (body : List ℕ) (is : IsEncoding t (length s.came) s body) (a b : Told)
    (held : OnFlash d (λ flash. held_alone (rank_in t (length s.came)) body_size flash.content ≡ Some body) a) (mends : Runs (MendsTwin a d body_size body) a b) where
  abbrev voters : ℕ
  voters = length s.came

  abbrev Holds : Flashes → Left → Type 0
  Holds start left = HeldAlone t voters (left_on d left) s

  known : decoded t voters body ≡ Some s
  known = decoded_back t voters body s tables few is

  -- the device holds the state while its slots are mended
  mending : Runs (Stage a d (IsOfTwin body_size) 6 Holds) a b
  mending =
      stage_weaker d (IsOfTwin body_size) (IsOfTwin body_size) 6 6 (λ start left. MendsBoth body_size body (flash_of d start).content (left_on d left)) Holds a b (λ k own. own) (omega arith)
      (λ start told left mended. mended_alone t voters tables few s (flash_of d start).content (left_on d left) body (held start told) known mended) mends

  pub mended : Runs (Brings t s d a) a b
  mended = stage_weaker d (IsOfTwin body_size) (IsOfTwin body_size) 6 12 Holds Holds a b (λ k own. own) (omega arith) (λ start told left p. p) mending

  -- and while they are renewed
  pub renewed : (next : List ℕ) (c : Told) → next ≡ encode t s → Runs (Renews b d body_size body next) b c → Runs (Brings t s d a) a c
  renewed next c same renews =
      let next_known : decoded t voters next ≡ Some s = ap (decoded t voters) same ∙ known_state t voters s tables few is.state in
      let renewing = stage_weaker d (IsOfTwin body_size) (IsOfTwin body_size) 6 6 (λ start left. HoldsEither body_size body next (left_on d left)) Holds b c (λ k own. own) (omega arith)
      (λ start told left holds. either_alone t voters tables few s body next known next_known (left_on d left) holds) renews in
      stages-append d (IsOfTwin body_size) 6 6 Holds Holds a b c (λ start mid told later left p. p) mending renewing

-- ---- all that is done

module _ (t : TablesData) (s : State) (d : Dev) (body : List ℕ) where
  abbrev AreMended : Flashes → List Op → Type 0
  AreMended start ops = AreMends body_size d body (flash_of d start).content ops

  abbrev AreBrought : Flashes → List Op → Type 0
  AreBrought start ops = AreBroughtUp t s d body (flash_of d start).content ops

  brought : (start : Flashes) (xs ys : List Op) → AreMended start xs → IsChange t s d body ys → AreBrought start (xs ++ ys)
  brought start xs ys heals changes = record { heal = xs; heals = heals; change = ys; changes = changes; in_row = refl }

  -- what the change of the body is
  change_is : (ops : List Op) × IsChange t s d body ops
  change_is = elim (cases_bytes body (encode t s)) [
    | inl same ↦ ([], inl (same, refl))
    | inr differs ↦ (renewal_ops body_size d body (encode t s), inr (differs, renewal_is body_size d body (encode t s)))
  ]

  -- the mending was cut off
  pub cut_in_mending : (a b : Told) → ForSome a.flashes (λ start. Runs (IsUpTo (AreMended start)) a b) → ForSome a.flashes (λ start. Runs (IsUpTo (AreBrought start)) a b)
  cut_in_mending a b cut =
      first_cut AreMended AreBrought (λ start. change_is.0) a b (λ start xs heals. brought start xs change_is.0 heals change_is.1) cut

  module _ (a b : Told) (heals : ForSome a.flashes (λ start. Runs (AreMended start) a b)) (next : List ℕ) (same : next ≡ encode t s) where
    -- there was nothing to change
    pub brought_same : body ≡ next → ForSome a.flashes (λ start. Runs (AreBrought start) a b)
    brought_same today =
        both_done AreMended (λ mid. IsChange t s d body) AreBrought a b b (λ start told xs ys does. brought start xs ys) heals
        (λ mid told. ([], does_nothing b, inl (today ∙ same, refl)))

    module _ (differs : body ≢ next) (c : Told) where
      changes : (ops : List Op) → IsRenewal body_size d body next ops → IsChange t s d body ops
      changes ops renews = inr (subst (λ (l : List ℕ). (body ≢ l) × IsRenewal body_size d body l ops) same (differs, renews))

      -- the body was changed
      pub brought_exactly : ForSome b.flashes (λ mid. Runs (IsRenewal body_size d body next) b c) → ForSome a.flashes (λ start. Runs (AreBrought start) a c)
      brought_exactly renews =
          both_done AreMended (λ mid. IsRenewal body_size d body next) AreBrought a b c (λ start told xs ys does mends is. brought start xs ys mends (changes ys is)) heals renews

      -- or that was cut off
      pub cut_in_renewal : ForSome b.flashes (λ mid. Runs (IsFrontOfSome (IsRenewal body_size d body next)) b c) → ForSome a.flashes (λ start. Runs (IsUpTo (AreBrought start)) a c)
      cut_in_renewal cut =
          second_cut AreMended (λ mid. IsRenewal body_size d body next) AreBrought a b c (λ start told xs ys does mends is. brought start xs ys mends (changes ys is)) heals
          (λ mid told. let run = cut mid told in (run.0, run.1, inr run.2))

-- Flashes that hold a state which is begun: one of them is in use
use Rattle.std.proofs.Common.{◌≡◌, ◌⊎◌, inl, inr, ℕ, Bool, true, false, cond, eqb-true, List, [], ◌∷◌, ◌++◌, take, refl}
use Rattle.urna_outside.specs.Flash.{Flashes, flash_of}
use Rattle.urna_outside.specs.declared.device.Dev.{Dev}
use Rattle.urna_outside.specs.declared.device.Dev.TheVariants as dev
use Rattle.flash_store.specs.Held.{Codec, HeldAlone, HeldByBoth, Hold, open_bodies, open_body}
use Rattle.flash_store.specs.InUse.{IsInUse, IsUsed}

module _ {S : Type 0} (codec : Codec S) (s : S) where
  -- one of them is the encoding of s
  abbrev OneIs : List (List ℕ) → Type 0
  OneIs [] = ⊥
  OneIs (body ∷ bodies) = codec.IsEncoding s body ⊎ OneIs bodies

  one_held : (bodies : List (List ℕ)) → Hold codec bodies s → OneIs bodies
  one_held [] holds = absurd holds
  one_held (body ∷ bodies) (inl first) = inl first.0
  one_held (body ∷ bodies) (inr behind) = inr (one_held bodies behind.1)

  parts : (xs ys : List (List ℕ)) → OneIs (xs ++ ys) → OneIs xs ⊎ OneIs ys
  parts [] ys is = inr is
  parts (x ∷ xs) ys (inl first) = inl (inl first)
  parts (x ∷ xs) ys (inr behind) = elim (parts xs ys behind) [ inl one ↦ inl (inr one) | inr later ↦ inr later ]

  if_open : (is_open : Bool) (body : List ℕ) → OneIs (cond is_open (body ∷ []) []) → (is_open ≡ true) × codec.IsEncoding s body
  if_open true body (inl is) = (refl, is)
  if_open true body (inr none) = absurd none
  if_open false body none = absurd none

  module _ (magic : List ℕ) (IsBegun : List ℕ → Type 0) (begun : (body : List ℕ) → codec.IsEncoding s body → IsBegun body) where
    used_slot : (index : ℕ) (image : List ℕ) → OneIs (open_body codec.size index image) → IsUsed magic codec.size IsBegun index image
    used_slot index image is = let one = if_open _ _ is in (eqb-true _ _ one.0, begun _ one.1)

    used : (image : List ℕ) → OneIs (open_bodies codec.size image) → IsUsed magic codec.size IsBegun 0 image ⊎ IsUsed magic codec.size IsBegun 1 image
    unfolding open_bodies
    used image is = elim (parts (open_body codec.size 0 image) (open_body codec.size 1 image) is) [
      | inl first ↦ inl (used_slot 0 image first)
      | inr second ↦ inr (used_slot 1 image second)
    ]

    -- a flash that alone holds such a state
    pub alone_in_use : (image : List ℕ) → take 8 image ≡ magic → HeldAlone codec image s → IsInUse magic codec.size IsBegun image
    alone_in_use image begins held = record { begins = begins; used = used image (one_held (open_bodies codec.size image) held) }

    -- one of both that together hold it
    pub one_in_use : (start : Flashes) → ((d : Dev) → take 8 (flash_of d start).content ≡ magic) → HeldByBoth codec start.internal.content start.external.content s
        → (d : Dev) × IsInUse magic codec.size IsBegun (flash_of d start).content
    one_in_use start begins held =
        elim (parts (open_bodies codec.size start.internal.content) (open_bodies codec.size start.external.content)
        (one_held (open_bodies codec.size start.internal.content ++ open_bodies codec.size start.external.content) held)) [
          | inl internal ↦ (dev.Internal, record { begins = begins dev.Internal; used = used start.internal.content internal })
          | inr external ↦ (dev.External, record { begins = begins dev.External; used = used start.external.content external })
        ]

-- The held state, and what the slots hold by the ranks of their bodies.
use Rattle.std.proofs.Common.{◌≡◌, inl, inr, ℕ, ◌<◌, ◌≤◌, Bool, true, false, cond, eqb, IsSome, Option, Some, None, List, [], ◌∷◌, ◌++◌, is_some, option_and_then, option_map, unwrap_or, refl, sym, ap, subst, ◌∙◌, arith}
use Rattle.std.proofs.lemmas.Bool.{cases_lt, lt-ltb, le-ltb}
use Rattle.urna_outside.specs.Flash.{Flashes}
use Rattle.urna_outside.specs.Stop.{Left}
use Rattle.urna_outside.specs.declared.device.Dev.TheVariants.{Internal, External}
use Rattle.gate_slot.specs.Slot.{open_gate, gate_in, body_in}
use Rattle.twin_image.specs.Held.{IsNotOutranked, LeavesEither, NoneStands, better_of, bodies_at, bodies_on, held_body, held_on}
use Rattle.twin_image.specs.Held.{IsEither as IsEitherBody}
use Rattle.twin_image.specs.Held.{bodies_of_both as ranked_of_both}
use Rattle.twin_image.specs.Held.{rank_in as worth_in}
use Rattle.flash_store.specs.Held.{Codec, HaveUpTo, HeldAlone, HeldByBoth, HeldByNone, Hold, HoldAll, HoldEither, HoldNone, IsEither, IsFirstOf, IsReader, bodies_of_both, open_bodies, open_body}

-- the rank of a body, by the state that is read of it
abbrev pub rank_by : {S : Type 0} → (S → ℕ) → (List ℕ → Option S) → List ℕ → Option ℕ
rank_by rank_of read body = option_map rank_of (read body)

-- bytes with a rank are a state
pub ranked_state : {S : Type 0} (rank_of : S → ℕ) (read : List ℕ → Option S) (body : List ℕ) → IsSome (rank_by rank_of read body) → (s : S) × (read body ≡ Some s)
ranked_state {S} rank_of read body some = go (read body) refl some
  where
    go : (o : Option S) → read body ≡ o → IsSome (option_map rank_of o) → (s : S) × (read body ≡ Some s)
    go None is none = absurd (cc)
    go (Some s) is there = (s, is)

-- ---- the bodies that have a rank

module _ (size : ℕ) (rank : List ℕ → Option ℕ) where
  -- the bodies among some that have a rank
  abbrev pub ranked : List (List ℕ) → List (List ℕ)
  ranked [] = []
  ranked (body ∷ bodies) = cond (is_some (rank body)) (body ∷ ranked bodies) (ranked bodies)

  ranked_append : (xs ys : List (List ℕ)) → ranked (xs ++ ys) ≡ ranked xs ++ ranked ys
  ranked_append [] ys = refl
  ranked_append (x ∷ xs) ys = go (is_some (rank x)) (ranked_append xs ys)
    where
      go : (b : Bool) → ranked (xs ++ ys) ≡ ranked xs ++ ranked ys → cond b (x ∷ ranked (xs ++ ys)) (ranked (xs ++ ys)) ≡ cond b (x ∷ ranked xs) (ranked xs) ++ ranked ys
      go true rest = ap (λ (l : List (List ℕ)). x ∷ l) rest
      go false rest = rest

  slot_ranked : (index : ℕ) (image : List ℕ) → bodies_at rank size index image ≡ ranked (open_body size index image)
  slot_ranked index image = go (eqb (gate_in size index image) open_gate) (body_in size index image)
    where
      go : (opened : Bool) (body : List ℕ) → cond opened (cond (is_some (rank body)) (body ∷ []) []) [] ≡ ranked (cond opened (body ∷ []) [])
      go true body = refl
      go false body = refl

  pub open_ranked : (image : List ℕ) → bodies_on rank size image ≡ ranked (open_bodies size image)
  unfolding open_bodies
  open_ranked image =
      ap (λ (l : List (List ℕ)). l ++ bodies_at rank size 1 image) (slot_ranked 0 image)
      ∙ ap (λ (l : List (List ℕ)). ranked (open_body size 0 image) ++ l) (slot_ranked 1 image)
      ∙ sym (ranked_append (open_body size 0 image) (open_body size 1 image))

  pub both_ranked : (internal external : List ℕ) → ranked_of_both rank size internal external ≡ ranked (bodies_of_both size internal external)
  both_ranked internal external =
      ap (λ (l : List (List ℕ)). l ++ bodies_on rank size external) (open_ranked internal)
      ∙ ap (λ (l : List (List ℕ)). ranked (open_bodies size internal) ++ l) (open_ranked external)
      ∙ sym (ranked_append (open_bodies size internal) (open_bodies size external))

-- ---- the relation

module _ {S : Type 0} (codec : Codec S) where
  -- nothing is held where none stands
  pub hold_or_none : (bodies : List (List ℕ)) (s : S) → HoldNone codec bodies → Hold codec bodies s → ⊥
  hold_or_none [] s none holds = holds
  hold_or_none (body ∷ bodies) s none (inl first) = none.0 s first.0
  hold_or_none (body ∷ bodies) s none (inr behind) = hold_or_none bodies s none.1 behind.1

  -- what is held is the encoding of a state
  pub hold_encoding : (bodies : List (List ℕ)) (s : S) → Hold codec bodies s → (body : List ℕ) × codec.IsEncoding s body
  hold_encoding [] s holds = absurd holds
  hold_encoding (body ∷ bodies) s (inl first) = (body, first.0)
  hold_encoding (body ∷ bodies) s (inr behind) = hold_encoding bodies s behind.1

-- ---- the state of the body of greatest rank

module _ {S : Type 0} (codec : Codec S) (read : List ℕ → Option S) (reads : IsReader codec read) where
  abbrev rank : List ℕ → Option ℕ
  rank = rank_by codec.rank read

  abbrev with_rank : List (List ℕ) → List (List ℕ)
  with_rank bodies = ranked codec.size rank bodies

  ranked_as : (body : List ℕ) (bodies : List (List ℕ)) (o : Option S) → read body ≡ o
      → with_rank (body ∷ bodies) ≡ cond (is_some (option_map codec.rank o)) (body ∷ with_rank bodies) (with_rank bodies)
  ranked_as body bodies o is = ap (λ (x : Option S). cond (is_some (option_map codec.rank x)) (body ∷ with_rank bodies) (with_rank bodies)) is

  worth_as : (body : List ℕ) (s : S) → read body ≡ Some s → worth_in rank body ≡ codec.rank s
  worth_as body s is = ap (λ (x : Option S). unwrap_or (option_map codec.rank x) 0) is

  -- two states of one encoding are one
  one_state : (s u : S) (body : List ℕ) → codec.IsEncoding s body → codec.IsEncoding u body → s ≡ u
  one_state s u body this that =
      let both : Some s ≡ Some u = sym (reads.gives body s this) ∙ reads.gives body u that in
      cc

  -- a state that is held has a rank up to any that none of the bodies is above
  held_up_to : (bodies : List (List ℕ)) (most : ℕ) (s : S) → HaveUpTo codec most bodies → Hold codec bodies s → codec.rank s ≤ most
  held_up_to [] most s all holds = absurd holds
  held_up_to (body ∷ bodies) most s all (inl first) = all.0 s first.0
  held_up_to (body ∷ bodies) most s all (inr behind) = held_up_to bodies most s all.1 behind.1

  -- and the other way round
  pub up_to_held : (bodies : List (List ℕ)) (most : ℕ) (s : S) → codec.rank s ≤ most → Hold codec bodies s → HaveUpTo codec most bodies
  up_to_held [] most s le holds = absurd holds
  up_to_held (body ∷ bodies) most s le (inl first) = (
    λ u is. let same = ap codec.rank (one_state u s body is first.0) in omega (arith, same, le),
    up_more bodies first.1,
  )
    where
      up_more : (more : List (List ℕ)) → HaveUpTo codec (codec.rank s) more → HaveUpTo codec most more
      up_more [] all = tt
      up_more (b ∷ more) all = (λ u is. let under = all.0 u is in omega (arith, under, le), up_more more all.1)
  up_to_held (body ∷ bodies) most s le (inr behind) = (
    λ u is. let under = behind.0 u is in omega (arith, under, le),
    up_to_held bodies most s le behind.1,
  )

  none_up_to : (bodies : List (List ℕ)) (most : ℕ) → HoldNone codec bodies → HaveUpTo codec most bodies
  none_up_to [] most none = tt
  none_up_to (body ∷ bodies) most none = (λ u is. absurd (none.0 u is), none_up_to bodies most none.1)

  -- one state is held at most
  pub one_held : (bodies : List (List ℕ)) (s u : S) → Hold codec bodies s → Hold codec bodies u → s ≡ u
  one_held [] s u this that = absurd this
  one_held (body ∷ bodies) s u (inl this) (inl that) = one_state s u body this.0 that.0
  one_held (body ∷ bodies) s u (inl this) (inr that) =
      let under = held_up_to bodies (codec.rank s) u this.1 that.1 in
      let over = that.0 s this.0 in
      absurd (omega (arith, under, over))
  one_held (body ∷ bodies) s u (inr this) (inl that) =
      let under = held_up_to bodies (codec.rank u) s that.1 this.1 in
      let over = this.0 u that.0 in
      absurd (omega (arith, under, over))
  one_held (body ∷ bodies) s u (inr this) (inr that) = one_held bodies s u this.1 that.1

  -- what the first body of greatest rank says of all bodies: it is the first that is an encoding of the state that is held
  abbrev Finds : Option (List ℕ) → List (List ℕ) → Type 0
  Finds None bodies = HoldNone codec bodies
  Finds (Some body) bodies = (s : S) × (read body ≡ Some s) × Hold codec bodies s × IsFirstOf codec s bodies body

  skipped : (first : List ℕ) (bodies : List (List ℕ)) → read first ≡ None → (o : Option (List ℕ)) → Finds o bodies → Finds o (first ∷ bodies)
  skipped first bodies none None finds = (λ u is. let known = reads.gives first u is in absurd (cc), finds)
  skipped first bodies none (Some body) finds = (
    finds.0,
    finds.1,
    inr (λ u is. let known = reads.gives first u is in absurd (cc), finds.2),
    inr (λ is. let known = reads.gives first finds.0 is in absurd (cc), finds.3),
  )

  taken : (first : List ℕ) (bodies : List (List ℕ)) (u : S) → read first ≡ Some u → (o : Option (List ℕ)) → Finds o bodies
      → Finds (Some (better_of rank first o)) (first ∷ bodies)
  taken first bodies u is None finds =
      let first_is = reads.only first u is in
      (u, is, inl (first_is, none_up_to bodies (codec.rank u) finds), inl (first_is, refl))
  taken first bodies u is (Some other) finds =
      let first_worth = worth_as first u is in
      let other_worth = worth_as other finds.0 finds.1 in
      elim (cases_lt (codec.rank u) (codec.rank finds.0)) [
        | inl less ↦
            let below : worth_in rank first < worth_in rank other = omega (arith, less, first_worth, other_worth) in
            let picked : better_of rank first (Some other) ≡ other = ap (λ (b : Bool). cond b other first) (lt-ltb (worth_in rank first) (worth_in rank other) below) in
            subst (λ (body : List ℕ). Finds (Some body) (first ∷ bodies)) (sym picked) (
              finds.0,
              finds.1,
              inr (λ v of. let same = ap codec.rank (one_state v u first of (reads.only first u is)) in omega (arith, same, less), finds.2),
              inr (λ of. let same = ap codec.rank (one_state finds.0 u first of (reads.only first u is)) in omega (arith, same, less), finds.3),
            )
        | inr le ↦
            let above : worth_in rank other ≤ worth_in rank first = omega (arith, le, first_worth, other_worth) in
            let picked : better_of rank first (Some other) ≡ first = ap (λ (b : Bool). cond b other first) (le-ltb (worth_in rank first) (worth_in rank other) above) in
            subst (λ (body : List ℕ). Finds (Some body) (first ∷ bodies)) (sym picked) (
              u,
              is,
              inl (reads.only first u is, up_to_held bodies (codec.rank u) finds.0 le finds.2),
              inl (reads.only first u is, refl),
            )
      ]

  all_found : (bodies : List (List ℕ)) → Finds (held_body rank (with_rank bodies)) bodies
  all_found [] = tt
  all_found (first ∷ bodies) = go (all_found bodies) (read first) refl
    where
      go : Finds (held_body rank (with_rank bodies)) bodies → (o : Option S) → read first ≡ o → Finds (held_body rank (with_rank (first ∷ bodies))) (first ∷ bodies)
      go rest None none =
          subst (λ (l : List (List ℕ)). Finds (held_body rank l) (first ∷ bodies)) (sym (ranked_as first bodies None none))
          (skipped first bodies none (held_body rank (with_rank bodies)) rest)
      go rest (Some u) is =
          subst (λ (l : List (List ℕ)). Finds (held_body rank l) (first ∷ bodies)) (sym (ranked_as first bodies (Some u) is))
          (taken first bodies u is (held_body rank (with_rank bodies)) rest)

  -- a body that is found by its rank is that of the held state
  module _ (bodies xs : List (List ℕ)) (same : xs ≡ with_rank bodies) where
    found : Finds (held_body rank xs) bodies
    found = subst (λ (l : List (List ℕ)). Finds (held_body rank l) bodies) (sym same) (all_found bodies)

    pub found_held : (body : List ℕ) (s : S) → held_body rank xs ≡ Some body → read body ≡ Some s → Hold codec bodies s
    found_held body s is known =
        let finds = subst (λ (o : Option (List ℕ)). Finds o bodies) is found in
        let both : Some finds.0 ≡ Some s = sym finds.1 ∙ known in
        let one : finds.0 ≡ s = cc in
        subst (λ (u : S). Hold codec bodies u) one finds.2

    -- and the first that is an encoding of it
    pub found_first : (body : List ℕ) (s : S) → held_body rank xs ≡ Some body → read body ≡ Some s → IsFirstOf codec s bodies body
    found_first body s is known =
        let finds = subst (λ (o : Option (List ℕ)). Finds o bodies) is found in
        let both : Some finds.0 ≡ Some s = sym finds.1 ∙ known in
        let one : finds.0 ≡ s = cc in
        subst (λ (u : S). IsFirstOf codec u bodies body) one finds.3

    pub found_none : held_body rank xs ≡ None → HoldNone codec bodies
    found_none is = subst (λ (o : Option (List ℕ)). Finds o bodies) is found

    -- and the other way round
    pub held_found : (s : S) → Hold codec bodies s → option_and_then read (held_body rank xs) ≡ Some s
    held_found s holds = go (held_body rank xs) found
      where
        go : (o : Option (List ℕ)) → Finds o bodies → option_and_then read o ≡ Some s
        go None finds = absurd (hold_or_none codec bodies s finds holds)
        go (Some body) finds = finds.1 ∙ ap (λ (u : S). Some u) (one_held bodies finds.0 s finds.2 holds)

    pub none_found : HoldNone codec bodies → option_and_then read (held_body rank xs) ≡ None
    none_found none = go (held_body rank xs) found
      where
        go : (o : Option (List ℕ)) → Finds o bodies → option_and_then read o ≡ None
        go None finds = refl
        go (Some body) finds = absurd (hold_or_none codec bodies finds.0 none finds.2)

    pub found_answer : (s : S) → option_and_then read (held_body rank xs) ≡ Some s → Hold codec bodies s
    found_answer s is = go (held_body rank xs) found is
      where
        go : (o : Option (List ℕ)) → Finds o bodies → option_and_then read o ≡ Some s → Hold codec bodies s
        go None finds none = absurd (cc)
        go (Some body) finds known =
            let both : Some finds.0 ≡ Some s = sym finds.1 ∙ known in
            let one : finds.0 ≡ s = cc in
            subst (λ (u : S). Hold codec bodies u) one finds.2

    pub found_no_answer : option_and_then read (held_body rank xs) ≡ None → HoldNone codec bodies
    found_no_answer is = go (held_body rank xs) found is
      where
        go : (o : Option (List ℕ)) → Finds o bodies → option_and_then read o ≡ None → HoldNone codec bodies
        go None finds none = finds
        go (Some body) finds none = let some : None ≡ Some finds.0 = sym none ∙ finds.1 in absurd (cc)

  -- flashes on which no slot stands hold no state
  pub none_held : (flashes : Flashes) → NoneStands rank codec.size flashes → HeldByNone codec flashes.internal.content flashes.external.content
  none_held flashes none =
      let internal = flashes.internal.content in
      let external = flashes.external.content in
      found_none (bodies_of_both codec.size internal external) _ (both_ranked codec.size rank internal external)
      (ap (λ (bodies : List (List ℕ)). held_body rank (bodies ++ bodies_on rank codec.size external)) (none Internal) ∙ ap (held_body rank) (none External))

  -- what is held as a body is held as a state
  pub held_state : (internal external body : List ℕ) (s : S) → read body ≡ Some s → held_on rank codec.size internal external ≡ Some body
      → Hold codec (bodies_of_both codec.size internal external) s
  held_state internal external body s known is =
      found_held (bodies_of_both codec.size internal external) _ (both_ranked codec.size rank internal external) body s is known

  -- and it is the first that is an encoding of the state
  pub held_first : (internal external body : List ℕ) (s : S) → read body ≡ Some s → held_on rank codec.size internal external ≡ Some body
      → IsFirstOf codec s (bodies_of_both codec.size internal external) body
  held_first internal external body s known is =
      found_first (bodies_of_both codec.size internal external) _ (both_ranked codec.size rank internal external) body s is known

  -- a state of no lesser rank has an encoding of no lesser rank
  pub outranks : (s u : S) (old new : List ℕ) → read old ≡ Some s → read new ≡ Some u → codec.rank s ≤ codec.rank u → IsNotOutranked rank new old
  outranks s u old new old_is new_is below =
      record {
        lower = codec.rank s;
        higher = codec.rank u;
        old_rank = ap (option_map codec.rank) old_is;
        new_rank = ap (option_map codec.rank) new_is;
        no_lower = below;
      }

  -- ---- one of two encodings

  module _ (s u : S) (old new : List ℕ) (old_is : read old ≡ Some s) (new_is : read new ≡ Some u) where
    either_held : (bodies xs : List (List ℕ)) → xs ≡ with_rank bodies → IsEitherBody old new (held_body rank xs) → IsEither s u (Hold codec bodies)
    either_held bodies xs same (inl is) = inl (found_held bodies xs same old s is old_is)
    either_held bodies xs same (inr is) = inr (found_held bodies xs same new u is new_is)

    -- what holds one of two encodings holds one of the two states
    pub hold_either : (left : Left) → LeavesEither rank codec.size old new left → HoldEither codec s u left
    hold_either left leaves =
        record {
          both = either_held (bodies_of_both codec.size left.internal left.external) _ (both_ranked codec.size rank left.internal left.external) leaves.both;
          internal = either_held (open_bodies codec.size left.internal) _ (open_ranked codec.size rank left.internal) leaves.internal;
          external = either_held (open_bodies codec.size left.external) _ (open_ranked codec.size rank left.external) leaves.external;
        }

  -- what holds one of two encodings of a state holds the state
  pub hold_all : (s : S) (old new : List ℕ) → read old ≡ Some s → read new ≡ Some s → (left : Left) → LeavesEither rank codec.size old new left → HoldAll codec s left
  hold_all s old new old_is new_is left leaves =
      let held = hold_either s s old new old_is new_is left leaves in
      record {
        both = one (HeldByBoth codec left.internal left.external) held.both;
        internal = one (HeldAlone codec left.internal) held.internal;
        external = one (HeldAlone codec left.external) held.external;
      }
    where
      one : (held : S → Type 0) → IsEither s s held → held s
      one held (inl is) = is
      one held (inr is) = is

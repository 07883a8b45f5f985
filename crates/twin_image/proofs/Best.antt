-- The first body of greatest rank, when slots are mended.
use Rattle.std.proofs.Common.{◌≡◌, ◌≢◌, ℕ, ◌<◌, ◌≤◌, ◌⊎◌, inl, inr, Bool, cond, Option, Some, None, List, [], ◌∷◌, ◌++◌, refl, sym, ap, subst, ◌∙◌, arith}
use Rattle.std.proofs.lemmas.Bool.{cases_lt, lt-ltb, le-ltb}
use Rattle.std.specs.List.{AllByRecursion}
use Rattle.twin_image.specs.Held.{IsFirstGreatest, better_of, held_body, rank_in}

module _ (rank : List ℕ → Option ℕ) where
  abbrev pub worth : List ℕ → ℕ
  worth body = rank_in rank body

  -- no body is worth more
  abbrev pub NoneAbove : List ℕ → List (List ℕ) → Type 0
  NoneAbove best bodies = AllByRecursion (λ body. worth body ≤ worth best) bodies

  -- best is the first body of those worth most
  abbrev pub IsBest : List ℕ → List (List ℕ) → Type 0
  IsBest best [] = ⊥
  IsBest best (body ∷ bodies) =
      ((body ≡ best) × NoneAbove best bodies) ⊎ ((worth body < worth best) × IsBest best bodies)

  none_above : (best : List ℕ) (bodies : List (List ℕ)) → IsBest best bodies → NoneAbove best bodies
  none_above best [] is = absurd is
  none_above best (body ∷ bodies) (inl is) = (let same = ap worth is.0 in omega arith, is.1)
  none_above best (body ∷ bodies) (inr is) = (omega (arith, is.0), none_above best bodies is.1)

  above_more : (low high : List ℕ) (bodies : List (List ℕ)) → worth low ≤ worth high → NoneAbove low bodies → NoneAbove high bodies
  above_more low high [] le all = tt
  above_more low high (body ∷ bodies) le all = (omega (arith, all.0), above_more low high bodies le all.1)

  pick_other : (body other : List ℕ) → worth body < worth other → better_of rank body (Some other) ≡ other
  pick_other body other less = ap (λ (b : Bool). cond b other body) (lt-ltb (worth body) (worth other) less)

  pick_own : (body other : List ℕ) → worth other ≤ worth body → better_of rank body (Some other) ≡ body
  pick_own body other le = ap (λ (b : Bool). cond b other body) (le-ltb (worth body) (worth other) le)

  -- what is held is best
  pub best_from_held : (bodies : List (List ℕ)) (best : List ℕ) → held_body rank bodies ≡ Some best → IsBest best bodies
  best_from_held [] best is = absurd (cc)
  best_from_held (body ∷ bodies) best is = go (λ other some. best_from_held bodies other some) (held_body rank bodies) refl
    where
      go : ((other : List ℕ) → held_body rank bodies ≡ Some other → IsBest other bodies) → (rest : Option (List ℕ)) → held_body rank bodies ≡ rest → IsBest best (body ∷ bodies)
      go rest_is None none =
          let same : better_of rank body (held_body rank bodies) ≡ best = cc in
          let own : body ≡ best = ap (better_of rank body) (sym none) ∙ same in
          inl (own, empty bodies none)
        where
          empty : (more : List (List ℕ)) → held_body rank more ≡ None → NoneAbove best more
          empty [] h = tt
          empty (b ∷ more) h = absurd (cc)
      go rest_is (Some other) some =
          let same : better_of rank body (held_body rank bodies) ≡ best = cc in
          let here : better_of rank body (Some other) ≡ best = ap (better_of rank body) (sym some) ∙ same in
          let rest_best = rest_is other some in
          elim (cases_lt (worth body) (worth other)) [
            | inl less ↦
                let is_other : other ≡ best = sym (pick_other body other less) ∙ here in
                let value = ap worth is_other in
                inr (omega arith, subst (λ (b : List ℕ). IsBest b bodies) is_other rest_best)
            | inr le ↦
                let is_own : body ≡ best = sym (pick_own body other le) ∙ here in
                let value = ap worth is_own in
                let top : worth other ≤ worth best = omega arith in
                inl (is_own, above_more other best bodies top (none_above other bodies rest_best))
          ]

  held_le : (bodies : List (List ℕ)) (best other : List ℕ) → NoneAbove best bodies → held_body rank bodies ≡ Some other → worth other ≤ worth best
  held_le bodies best other all is = go bodies all (best_from_held bodies other is)
    where
      go : (more : List (List ℕ)) → NoneAbove best more → IsBest other more → worth other ≤ worth best
      go [] all is_best = absurd is_best
      go (body ∷ more) all (inl own) = let value = ap worth own.0 in omega (arith, all.0)
      go (body ∷ more) all (inr later) = go more all.1 later.1

  -- and what is best is held
  pub held_from_best : (bodies : List (List ℕ)) (best : List ℕ) → IsBest best bodies → held_body rank bodies ≡ Some best
  held_from_best [] best is = absurd is
  held_from_best (body ∷ bodies) best (inr is) =
      ap (λ o. Some (better_of rank body o)) (held_from_best bodies best is.1) ∙ ap (λ b. Some b) (pick_other body best is.0)
  held_from_best (body ∷ bodies) best (inl is) = go (held_body rank bodies) refl
    where
      go : (rest : Option (List ℕ)) → held_body rank bodies ≡ rest → held_body rank (body ∷ bodies) ≡ Some best
      go None none = ap (λ o. Some (better_of rank body o)) none ∙ ap (λ b. Some b) is.0
      go (Some other) some =
          let below = held_le bodies best other is.1 some in
          let value = ap worth is.0 in
          let le : worth other ≤ worth body = omega arith in
          ap (λ o. Some (better_of rank body o)) some ∙ ap (λ b. Some b) (pick_own body other le ∙ is.0)

  -- what a slot stands for when it is mended: the same, or nothing, if that wasn't the best body, or the best body
  abbrev pub Mended : List ℕ → List (List ℕ) → List (List ℕ) → Type 0
  Mended best old new = (new ≡ old) ⊎ ((new ≡ []) × (old ≢ best ∷ [])) ⊎ (new ≡ best ∷ [])

  after_all : (best : List ℕ) (xs ys : List (List ℕ)) → NoneAbove best (xs ++ ys) → NoneAbove best ys
  after_all best [] ys all = all
  after_all best (x ∷ xs) ys all = after_all best xs ys all.1

  above_mended : (best : List ℕ) (pre old new post : List (List ℕ)) → Mended best old new → NoneAbove best (pre ++ (old ++ post)) → NoneAbove best (pre ++ (new ++ post))
  above_mended best (p ∷ pre) old new post mended all = (all.0, above_mended best pre old new post mended all.1)
  above_mended best [] old new post (inl same) all = subst (λ l. NoneAbove best (l ++ post)) (sym same) all
  above_mended best [] old new post (inr (inl none)) all = subst (λ l. NoneAbove best (l ++ post)) (sym none.0) (after_all best old post all)
  above_mended best [] old new post (inr (inr new_is)) all = subst (λ l. NoneAbove best (l ++ post)) (sym new_is) (omega arith, after_all best old post all)

  -- a slot stands for one body at most
  abbrev pub IsOneAtMost : List (List ℕ) → Type 0
  IsOneAtMost bodies = (bodies ≡ []) ⊎ ((body : List ℕ) × (bodies ≡ body ∷ []))

  -- mending one slot keeps the best
  pub best_mended : (best : List ℕ) (pre old new post : List (List ℕ)) → IsOneAtMost old → Mended best old new → IsBest best (pre ++ (old ++ post)) → IsBest best (pre ++ (new ++ post))
  best_mended best (p ∷ pre) old new post one mended (inl is) = inl (is.0, above_mended best pre old new post mended is.1)
  best_mended best (p ∷ pre) old new post one mended (inr is) = inr (is.0, best_mended best pre old new post one mended is.1)
  best_mended best [] old new post one (inl same) is = subst (λ l. IsBest best (l ++ post)) (sym same) is
  best_mended best [] old new post (inl empty) (inr (inl none)) is =
      subst (λ l. IsBest best (l ++ post)) (sym none.0) (subst (λ l. IsBest best (l ++ post)) empty is)
  best_mended best [] old new post (inr one) (inr (inl none)) is =
      subst (λ l. IsBest best (l ++ post)) (sym none.0) (later (subst (λ l. IsBest best (l ++ post)) one.1 is))
    where
      later : IsBest best ((one.0 ∷ []) ++ post) → IsBest best post
      later (inl own) = absurd (none.1 (one.1 ∙ ap (λ b. b ∷ []) own.0))
      later (inr rest) = rest.1
  best_mended best [] old new post one (inr (inr new_is)) is =
      subst (λ l. IsBest best (l ++ post)) (sym new_is) (inl (refl, after_all best old post (none_above best (old ++ post) is)))

  -- the best is the first of greatest rank
  pub first_greatest : (bodies : List (List ℕ)) (best : List ℕ) → IsBest best bodies → IsFirstGreatest rank best bodies
  first_greatest [] best is = absurd is
  first_greatest (body ∷ bodies) best (inl is) =
      record { before = []; behind = bodies; split = ap (λ (b : List ℕ). b ∷ bodies) is.0; lower = tt; no_greater = is.1 }
  first_greatest (body ∷ bodies) best (inr is) =
      let rest = first_greatest bodies best is.1 in
      record {
        before = body ∷ rest.before;
        behind = rest.behind;
        split = ap (λ (l : List (List ℕ)). body ∷ l) rest.split;
        lower = (is.0, rest.lower);
        no_greater = rest.no_greater;
      }

  best_between : (best : List ℕ) (before behind : List (List ℕ)) → AllByRecursion (λ body. worth body < worth best) before → NoneAbove best behind → IsBest best (before ++ best ∷ behind)
  best_between best [] behind lower all = inl (refl, all)
  best_between best (body ∷ before) behind lower all = inr (lower.0, best_between best before behind lower.1 all)

  pub best_from_first : (bodies : List (List ℕ)) (best : List ℕ) → IsFirstGreatest rank best bodies → IsBest best bodies
  best_from_first bodies best is =
      subst (IsBest best) (sym is.split) (best_between best is.before is.behind is.lower is.no_greater)

  -- nothing is held where nothing stands
  pub none_held : (bodies : List (List ℕ)) → held_body rank bodies ≡ None → bodies ≡ []
  none_held [] none = refl
  none_held (body ∷ bodies) none = absurd (cc)

-- Pieces after pieces: their lines, their states, and how many of them a front of the text reaches into.
use Rattle.std.proofs.Common.{◌≡◌, ◌⊎◌, inl, inr, ℕ, zero, suc, ◌+◌, ◌-◌, ◌<◌, ◌≤◌, Bool, cond, Option, Some, None, Contains, List, [], ◌∷◌, ◌++◌, length, slice_get, take, drop, unwrap_or, option_to_list, refl, sym, ap, subst, ◌∙◌, arith, append_assoc, length-append}
use Rattle.std.proofs.lemmas.Bool.{cases_lt, ne_eqb}
use Rattle.std.proofs.lemmas.List.{append-nil, map-append, take-append-drop, take-map, take_all}
use Rattle.std.proofs.lemmas.List.Elements.{Contains-append_left, Contains-append_right}
use Rattle.std.specs.List.{concat}
use Rattle.flash_store.specs.Held.{IsEither}
use Rattle.flash_store.specs.Pieces.{Piece, quiet, lines_in, text_in, commits_in, state_after, lines_reached, AreFull}

-- no bytes reach into none
nothing_reached : (lines : List (List ℕ)) → lines_reached lines 0 ≡ 0
nothing_reached [] = refl
nothing_reached (line ∷ lines) = refl

-- some bytes reach into the first line
pub reached_more : (line : List ℕ) (lines : List (List ℕ)) (n : ℕ) → 0 < n → lines_reached (line ∷ lines) n ≡ suc (lines_reached lines (n - length line))
reached_more line lines n some =
    let past = ap (λ (b : Bool). cond b 0 (1 + lines_reached lines (n - length line))) (ne_eqb n 0 (λ same. omega arith)) in omega (arith, past)

-- no more lines are reached than there are
pub few_reached : (lines : List (List ℕ)) (n : ℕ) → lines_reached lines n ≤ length lines
few_reached [] n = omega arith
few_reached (line ∷ lines) n = elim (cases_lt 0 n) [
  | inl some ↦ omega (arith, reached_more line lines n some, few_reached lines (n - length line))
  | inr nothing ↦ let none : n ≡ 0 = omega arith in omega (arith, ap (lines_reached (line ∷ lines)) none)
]

module _ {S : Type 0} where
  -- Pieces after pieces

  pub lines_in-append : (xs ys : List (Piece S)) → lines_in (xs ++ ys) ≡ lines_in xs ++ lines_in ys
  lines_in-append xs ys = map-append (λ (piece : Piece S). piece.line) xs ys

  pub text_in-append : (xs ys : List (Piece S)) → text_in (xs ++ ys) ≡ text_in xs ++ text_in ys
  text_in-append [] ys = refl
  text_in-append (x ∷ xs) ys =
      ap (λ (l : List ℕ). x.line ++ l) (text_in-append xs ys) ∙ sym (append_assoc x.line (text_in xs) (text_in ys))

  pub commits_in-append : (xs ys : List (Piece S)) → commits_in (xs ++ ys) ≡ commits_in xs ++ commits_in ys
  commits_in-append [] ys = refl
  commits_in-append (x ∷ xs) ys =
      ap (λ (l : List S). option_to_list x.commit ++ l) (commits_in-append xs ys) ∙ sym (append_assoc (option_to_list x.commit) (commits_in xs) (commits_in ys))

  pub state_after-append : (s : S) (xs ys : List (Piece S)) → state_after s (xs ++ ys) ≡ state_after (state_after s xs) ys
  state_after-append s [] ys = refl
  state_after-append s (x ∷ xs) ys = state_after-append (unwrap_or x.commit s) xs ys

  -- The states

  next_one : (x : S) (states : List S) (k : ℕ) → slice_get (x ∷ states) (1 + k) ≡ slice_get states k
  next_one x states k = let same : 1 + k ≡ suc k = omega arith in ap (λ (j : ℕ). slice_get (x ∷ states) j) same

  -- the states from that after a piece on, by their number from the one before it
  first_state : (s : S) (commit : Option S) (states : List S) (k : ℕ)
      → slice_get (s ∷ (option_to_list commit ++ states)) (length (option_to_list commit) + k) ≡ slice_get (unwrap_or commit s ∷ states) k
  first_state s None states k = let same : 0 + k ≡ k = omega arith in ap (λ (j : ℕ). slice_get (s ∷ states) j) same
  first_state s (Some u) states k = next_one s (u ∷ states) k

  pub last_contained : (s : S) (xs : List (Piece S)) → Contains (s ∷ commits_in xs) (state_after s xs)
  last_contained s [] = (0, omega arith, refl)
  last_contained s (x ∷ xs) = go x.commit (last_contained (unwrap_or x.commit s) xs)
    where
      go : (commit : Option S) → Contains (unwrap_or commit s ∷ commits_in xs) (state_after (unwrap_or commit s) xs) → Contains (s ∷ (option_to_list commit ++ commits_in xs)) (state_after (unwrap_or commit s) xs)
      go None rest = rest
      go (Some u) rest = Contains-append_right (s ∷ []) (u ∷ commits_in xs) (state_after u xs) rest

  -- more states
  pub contained_before : (s u : S) (xs ys : List (Piece S)) → Contains (s ∷ commits_in xs) u → Contains (s ∷ commits_in (xs ++ ys)) u
  contained_before s u xs ys has =
      subst (λ (l : List S). Contains (s ∷ l) u) (sym (commits_in-append xs ys)) (Contains-append_left (s ∷ commits_in xs) (commits_in ys) u has)

  pub contained_after : (s u : S) (xs ys : List (Piece S)) → Contains (state_after s xs ∷ commits_in ys) u → Contains (s ∷ commits_in (xs ++ ys)) u
  contained_after s u xs ys (zero, below, is) =
      contained_before s u xs ys (subst (λ (v : S). Contains (s ∷ commits_in xs) v) is (last_contained s xs))
  contained_after s u xs ys (suc k, below, is) =
      subst (λ (l : List S). Contains (s ∷ l) u) (sym (commits_in-append xs ys)) (Contains-append_right (s ∷ commits_in xs) (commits_in ys) u (k, omega arith, is))

  -- The state after some pieces, or after one more

  -- some of the pieces, before or behind others
  state_before : (s : S) (xs ys : List (Piece S)) (k : ℕ) → k ≤ length xs → state_after s (take k (xs ++ ys)) ≡ state_after s (take k xs)
  state_before s xs ys zero within = refl
  state_before s [] ys (suc k) within = absurd (omega arith)
  state_before s (x ∷ xs) ys (suc k) within = state_before (unwrap_or x.commit s) xs ys k (omega arith)

  pub state_behind : (s : S) (xs ys : List (Piece S)) (k : ℕ) → state_after s (take (length xs + k) (xs ++ ys)) ≡ state_after (state_after s xs) (take k ys)
  state_behind s [] ys k = let same : 0 + k ≡ k = omega arith in ap (λ (j : ℕ). state_after s (take j ys)) same
  state_behind s (x ∷ xs) ys k =
      let same : suc (length xs) + k ≡ suc (length xs + k) = omega arith in
      ap (λ (j : ℕ). state_after s (take j (x ∷ (xs ++ ys)))) same ∙ state_behind (unwrap_or x.commit s) xs ys k

  -- among more pieces: behind the last of the first ones nothing more is told of them
  pub either_before : (s : S) (xs ys : List (Piece S)) (k : ℕ) (held : S → Type 0) → k ≤ length xs
      → IsEither (state_after s (take k xs)) (state_after s (take (k + 1) xs)) held
      → IsEither (state_after s (take k (xs ++ ys))) (state_after s (take (k + 1) (xs ++ ys))) held
  either_before s xs ys k held within (inl is) = inl (subst held (sym (state_before s xs ys k within)) is)
  either_before s xs ys k held within (inr is) = elim (cases_lt k (length xs)) [
    | inl more ↦ inr (subst held (sym (state_before s xs ys (k + 1) (omega arith))) is)
    | inr all ↦
        let whole : take (k + 1) xs ≡ take k xs = take_all (k + 1) xs (omega arith) ∙ sym (take_all k xs (omega arith)) in
        inl (subst held (ap (state_after s) whole ∙ sym (state_before s xs ys k within)) is)
  ]

  -- and behind the first ones
  pub either_after : (s : S) (xs ys : List (Piece S)) (k : ℕ) (held : S → Type 0)
      → IsEither (state_after (state_after s xs) (take k ys)) (state_after (state_after s xs) (take (k + 1) ys)) held
      → IsEither (state_after s (take (length xs + k) (xs ++ ys))) (state_after s (take (length xs + k + 1) (xs ++ ys))) held
  either_after s xs ys k held (inl is) = inl (subst held (sym (state_behind s xs ys k)) is)
  either_after s xs ys k held (inr is) =
      let number : length xs + k + 1 ≡ length xs + (k + 1) = omega arith in
      inr (subst held (sym (ap (λ (j : ℕ). state_after s (take j (xs ++ ys))) number ∙ state_behind s xs ys (k + 1))) is)

  -- The lines that are reached

  pub lines_before : (xs ys : List (Piece S)) (n : ℕ) → n ≤ length (text_in xs) → lines_reached (lines_in (xs ++ ys)) n ≡ lines_reached (lines_in xs) n
  lines_before [] ys n within = let none : n ≡ 0 = omega arith in ap (lines_reached (lines_in ys)) none ∙ nothing_reached (lines_in ys)
  lines_before (x ∷ xs) ys n within = elim (cases_lt 0 n) [
    | inl some ↦
        let left_over : n - length x.line ≤ length (text_in xs) = omega (arith, length-append x.line (text_in xs)) in
        reached_more x.line (lines_in (xs ++ ys)) n some ∙ ap suc (lines_before xs ys (n - length x.line) left_over) ∙ sym (reached_more x.line (lines_in xs) n some)
    | inr nothing ↦
        let none : n ≡ 0 = omega arith in ap (lines_reached (lines_in (x ∷ (xs ++ ys)))) none ∙ sym (ap (lines_reached (lines_in (x ∷ xs))) none)
  ]

  pub lines_behind : (xs ys : List (Piece S)) (more : List ℕ) → AreFull xs
      → lines_reached (lines_in (xs ++ ys)) (length (text_in xs ++ more)) ≡ length xs + lines_reached (lines_in ys) (length more)
  lines_behind [] ys more full = omega arith
  lines_behind (x ∷ xs) ys more full =
      let n : ℕ = length (text_in (x ∷ xs) ++ more) in
      let long : n ≡ length x.line + length (text_in xs ++ more) =
      ap length (append_assoc x.line (text_in xs) more) ∙ length-append x.line (text_in xs ++ more) in
      let left_over : n - length x.line ≡ length (text_in xs ++ more) = omega (arith, long) in
      let first = reached_more x.line (lines_in (xs ++ ys)) n (omega (arith, long, full.0)) in
      let others = ap (lines_reached (lines_in (xs ++ ys))) left_over ∙ lines_behind xs ys more full.1 in
      omega (arith, first, others)

  -- the whole text reaches into all lines
  pub all_reached : (xs : List (Piece S)) → AreFull xs → lines_reached (lines_in xs) (length (text_in xs)) ≡ length xs
  all_reached xs full =
      let whole = lines_behind xs [] [] full in
      let lines = ap (λ (l : List (Piece S)). lines_reached (lines_in l) (length (text_in xs ++ []))) (sym (append-nil xs)) in
      let text = ap (λ (l : List ℕ). lines_reached (lines_in xs) (length l)) (sym (append-nil (text_in xs))) in
      omega (arith, whole, lines, text)

  -- others behind them reach into no more of the first
  reached_first : (xs ys : List (Piece S)) (n j : ℕ) → take (lines_reached (lines_in (xs ++ ys)) n + j) xs ≡ take (lines_reached (lines_in xs) n + j) xs
  reached_first [] ys n j = take_all (lines_reached (lines_in ys) n + j) [] (omega arith) ∙ sym (take_all (0 + j) [] (omega arith))
  reached_first (x ∷ xs) ys n j = elim (cases_lt 0 n) [
    | inl some ↦
        let k = lines_reached (lines_in (xs ++ ys)) (n - length x.line) in
        let m = lines_reached (lines_in xs) (n - length x.line) in
        let long : lines_reached (lines_in (x ∷ (xs ++ ys))) n + j ≡ suc (k + j) = omega (arith, reached_more x.line (lines_in (xs ++ ys)) n some) in
        let short : lines_reached (lines_in (x ∷ xs)) n + j ≡ suc (m + j) = omega (arith, reached_more x.line (lines_in xs) n some) in
        ap (λ (i : ℕ). take i (x ∷ xs)) long ∙ ap (λ (l : List (Piece S)). x ∷ l) (reached_first xs ys (n - length x.line) j) ∙ sym (ap (λ (i : ℕ). take i (x ∷ xs)) short)
    | inr nothing ↦
        let none : n ≡ 0 = omega arith in
        ap (λ (i : ℕ). take (lines_reached (lines_in (x ∷ (xs ++ ys))) i + j) (x ∷ xs)) none ∙ sym (ap (λ (i : ℕ). take (lines_reached (lines_in (x ∷ xs)) i + j) (x ∷ xs)) none)
  ]

  -- The number of a state among those that are told

  pub numbered : (s : S) (xs : List (Piece S)) (k : ℕ) → slice_get (s ∷ commits_in xs) (length (commits_in (take k xs))) ≡ Some (state_after s (take k xs))
  numbered s xs zero = refl
  numbered s [] (suc k) = refl
  numbered s (x ∷ xs) (suc k) =
      let number : length (option_to_list x.commit ++ commits_in (take k xs)) ≡ length (option_to_list x.commit) + length (commits_in (take k xs)) =
      length-append (option_to_list x.commit) (commits_in (take k xs)) in
      ap (λ (j : ℕ). slice_get (s ∷ commits_in (x ∷ xs)) j) number ∙ first_state s x.commit (commits_in xs) (length (commits_in (take k xs)))
      ∙ numbered (unwrap_or x.commit s) xs k

  -- one piece more tells one state more, or none
  pub one_more : (xs : List (Piece S)) (k : ℕ)
      → (length (commits_in (take (k + 1) xs)) ≡ length (commits_in (take k xs))) ⊎ (length (commits_in (take (k + 1) xs)) ≡ length (commits_in (take k xs)) + 1)
  one_more xs k = subst (λ (j : ℕ). (told xs j ≡ told xs k) ⊎ (told xs j ≡ told xs k + 1)) same (go xs k)
    where
      told : List (Piece S) → ℕ → ℕ
      told xs k = length (commits_in (take k xs))

      same : suc k ≡ k + 1
      same = omega arith

      first : (x : Piece S) (commit : Option S) → x.commit ≡ commit → (told (x ∷ []) 1 ≡ 0) ⊎ (told (x ∷ []) 1 ≡ 1)
      first x None is = inl (ap (λ (o : Option S). length (option_to_list o ++ [])) is)
      first x (Some u) is = inr (ap (λ (o : Option S). length (option_to_list o ++ [])) is)

      go : (xs : List (Piece S)) (k : ℕ) → (told xs (suc k) ≡ told xs k) ⊎ (told xs (suc k) ≡ told xs k + 1)
      go [] zero = inl refl
      go [] (suc k) = inl refl
      go (x ∷ xs) zero = first x x.commit refl
      go (x ∷ xs) (suc k) =
          let here = λ (j : ℕ). length-append (option_to_list x.commit) (commits_in (take j xs)) in
          elim (go xs k) [
            | inl as_many ↦ inl (omega (arith, here (suc k), here k, as_many))
            | inr more ↦ inr (omega (arith, here (suc k), here k, more))
          ]

  told_contained : (s : S) (xs : List (Piece S)) (k : ℕ) → Contains (s ∷ commits_in xs) (state_after s (take k xs))
  told_contained s xs k =
      subst (λ (l : List (Piece S)). Contains (s ∷ commits_in l) (state_after s (take k xs))) (take-append-drop k xs)
      (contained_before s (state_after s (take k xs)) (take k xs) (drop k xs) (last_contained s (take k xs)))

  -- a state that is held after some of the pieces, or after one more, is among those that are told
  pub held_among : (s : S) (xs : List (Piece S)) (k : ℕ) (held : S → Type 0) → IsEither (state_after s (take k xs)) (state_after s (take (k + 1) xs)) held
      → (u : S) × held u × Contains (s ∷ commits_in xs) u
  held_among s xs k held (inl is) = (state_after s (take k xs), is, told_contained s xs k)
  held_among s xs k held (inr is) = (state_after s (take (k + 1) xs), is, told_contained s xs (k + 1))

  -- Lines that tell no state

  pub commits_in-quiet : (lines : List (List ℕ)) → commits_in (quiet {S = S} lines) ≡ []
  commits_in-quiet [] = refl
  commits_in-quiet (line ∷ lines) = commits_in-quiet lines

  pub state_after-quiet : (s : S) (lines : List (List ℕ)) → state_after s (quiet lines) ≡ s
  state_after-quiet s [] = refl
  state_after-quiet s (line ∷ lines) = state_after-quiet s lines

  -- some of them
  pub state_of-quiet : (s : S) (lines : List (List ℕ)) (k : ℕ) → state_after s (take k (quiet lines)) ≡ s
  state_of-quiet s lines k =
      ap (state_after s) (take-map (λ (line : List ℕ). record { line = line; commit = None }) k lines) ∙ state_after-quiet s (take k lines)

  -- behind other pieces they tell no more
  quiet_behind : (s : S) (xs : List (Piece S)) (lines : List (List ℕ)) (k : ℕ) → state_after s (take k (xs ++ quiet lines)) ≡ state_after s (take k xs)
  quiet_behind s xs lines zero = refl
  quiet_behind s [] lines (suc k) = state_of-quiet s lines (suc k)
  quiet_behind s (x ∷ xs) lines (suc k) = quiet_behind (unwrap_or x.commit s) xs lines k

  pub reached_quiet : (s : S) (xs : List (Piece S)) (lines : List (List ℕ)) (n j : ℕ)
      → state_after s (take (lines_reached (lines_in (xs ++ quiet lines)) n + j) (xs ++ quiet lines)) ≡ state_after s (take (lines_reached (lines_in xs) n + j) xs)
  reached_quiet s xs lines n j =
      quiet_behind s xs lines (lines_reached (lines_in (xs ++ quiet lines)) n + j) ∙ ap (state_after s) (reached_first xs (quiet lines) n j)

-- Their lines, their text, and that none of them tells one

module _ (S : Type 0) where
  pub lines_in-quiet : (lines : List (List ℕ)) → lines_in (quiet {S = S} lines) ≡ lines
  lines_in-quiet [] = refl
  lines_in-quiet (line ∷ lines) = ap (λ (l : List (List ℕ)). line ∷ l) (lines_in-quiet lines)

  pub text_in-quiet : (lines : List (List ℕ)) → text_in (quiet {S = S} lines) ≡ concat lines
  text_in-quiet lines = ap concat (lines_in-quiet lines)

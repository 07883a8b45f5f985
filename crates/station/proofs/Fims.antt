-- The FIM among the first lines of a session, and what the states that are committed there have beside the first
use Rattle.std.proofs.Common.{◌≡◌, ◌⊎◌, inl, inr, ℕ, zero, suc, ◌+◌, ◌-◌, ◌≤◌, Bool, false, cond, Some, List, [], ◌∷◌, ◌++◌, length, take, slice_get, refl, sym, ap, subst, ◌∙◌, arith, length-append}
use Rattle.std.specs.Prelude.{count_by}
use Rattle.std.specs.List.{AllByRecursion}
use Rattle.std.specs.Str.{bytes_eq}
use Rattle.std.proofs.lemmas.Bool.{cases_lt}
use Rattle.std.proofs.lemmas.List.Sums.{sum_by-cons}
use Rattle.vote_kinds.specs.Ballot.{BallotLine}
use Rattle.image_codec.specs.CodecLaws.{Ballot}
use Rattle.image_codec.specs.State.{State}
use Rattle.flash_store.specs.Pieces.{AreFull, commits_in, lines_in, lines_reached, quiet, telling, text_in}
use Rattle.state_store.specs.Pieces.{Piece}
use Rattle.flash_store.proofs.Counting.{reached_more}
use Rattle.image_codec.specs.Also.{HasAlso}
use Rattle.image_codec.proofs.Growing.{also_none}
use Rattle.station.specs.Cast.{fim, fims_reached}

-- How many lines are FIM

-- a line that isn't FIM
abbrev pub IsOther : List ℕ → Type 0
IsOther line = bytes_eq fim line ≡ false

abbrev pub fims_in : List (List ℕ) → ℕ
fims_in lines = count_by (bytes_eq fim) lines

pub fims_more : (line : List ℕ) (lines : List (List ℕ)) → fims_in (line ∷ lines) ≡ cond (bytes_eq fim line) 1 0 + fims_in lines
fims_more line lines = sum_by-cons (λ (l : List ℕ). cond {A = ℕ} (bytes_eq fim l) 1 0) line lines

pub fims_other : (line : List ℕ) (lines : List (List ℕ)) → IsOther line → fims_in (line ∷ lines) ≡ fims_in lines
fims_other line lines other =
    let none : cond {A = ℕ} (bytes_eq fim line) 1 0 ≡ 0 = ap (λ (b : Bool). cond {A = ℕ} b 1 0) other in omega (arith, fims_more line lines, none)

pub fims_quiet : (ls : List (List ℕ)) (xs : List Piece) → AllByRecursion IsOther ls → fims_in (lines_in (quiet ls ++ xs)) ≡ fims_in (lines_in xs)
fims_quiet [] xs all = refl
fims_quiet (l ∷ ls) xs all = fims_other l (lines_in (quiet ls ++ xs)) all.0 ∙ fims_quiet ls xs all.1

-- none before the first byte
pub fims_none : (lines : List (List ℕ)) → fims_reached lines 0 ≡ 0
fims_none [] = refl
fims_none (line ∷ lines) = refl

-- the whole text reaches into all lines
lines_whole : (xs : List Piece) → AreFull xs → take (lines_reached (lines_in xs) (length (text_in xs))) (lines_in xs) ≡ lines_in xs
lines_whole [] full = refl
lines_whole (x ∷ xs) full =
    let n : ℕ = length (x.line ++ text_in xs) in
    let long : n ≡ length x.line + length (text_in xs) = length-append x.line (text_in xs) in
    let rest : n - length x.line ≡ length (text_in xs) = omega (arith, long) in
    ap (λ (k : ℕ). take k (lines_in (x ∷ xs))) (reached_more x.line (lines_in xs) n (omega (arith, long, full.0)))
    ∙ ap (λ (l : List (List ℕ)). x.line ∷ l) (ap (λ (k : ℕ). take (lines_reached (lines_in xs) k) (lines_in xs)) rest ∙ lines_whole xs full.1)

pub fims_whole : (xs : List Piece) → AreFull xs → fims_reached (lines_in xs) (length (text_in xs)) ≡ fims_in (lines_in xs)
fims_whole xs full = ap fims_in (lines_whole xs full)

-- What the states of pieces have beside the first

-- Of these states, from s on, that of number c and the next have the first f of these ballots, or one more.
abbrev pub AreShown : List BallotLine → State → List Ballot → List State → ℕ → ℕ → Type 0
AreShown lines s ballots states c f = (j : ℕ) (u : State) → (j ≡ c) ⊎ (j ≡ c + 1) → slice_get (s ∷ states) j ≡ Some u
    → (k : ℕ) × ((k ≡ f) ⊎ (k ≡ f + 1)) × (k ≤ length ballots) × HasAlso lines s (take k ballots) u

-- the same of pieces, and of the first m of them
abbrev pub AreShownIn : List BallotLine → State → List Ballot → List Piece → ℕ → Type 0
AreShownIn lines s ballots xs m = AreShown lines s ballots (commits_in xs) (length (commits_in (take m xs))) (fims_in (take m (lines_in xs)))

pub shown_nothing : (lines : List BallotLine) (s : State) → AreShown lines s [] [] 0 0
shown_nothing lines s zero u which is =
    let same : s ≡ u = cc in
    (0, inl refl, omega arith, subst (HasAlso lines s []) same (also_none lines s))
shown_nothing lines s (suc j) u which is = absurd (cc)

pub shown_quiet : (lines : List BallotLine) (s : State) (ballots : List Ballot) (ls : List (List ℕ)) (xs : List Piece) → AllByRecursion IsOther ls
    → ((m : ℕ) → AreShownIn lines s ballots xs m) → (m : ℕ) → AreShownIn lines s ballots (quiet ls ++ xs) m
shown_quiet lines s ballots [] xs all h m = h m
shown_quiet lines s ballots (l ∷ ls) xs all h zero = shown_quiet lines s ballots ls xs all.1 h 0
shown_quiet lines s ballots (l ∷ ls) xs all h (suc m) =
    let ys : List Piece = quiet ls ++ xs in
    subst (AreShown lines s ballots (commits_in ys) (length (commits_in (take m ys)))) (sym (fims_other l (take m (lines_in ys)) all.0))
    (shown_quiet lines s ballots ls xs all.1 h m)

-- a line that tells a state, which has d ballots more
pub shown_telling : (lines : List BallotLine) (s w : State) (rest all : List Ballot) (d : ℕ) (l : List ℕ) (xs : List Piece)
    → d ≤ 1 → cond {A = ℕ} (bytes_eq fim l) 1 0 ≡ d → length all ≡ d + length rest
    → ((k : ℕ) (u : State) → HasAlso lines w (take k rest) u → HasAlso lines s (take (d + k) all) u)
    → ((m : ℕ) → AreShownIn lines w rest xs m) → (m : ℕ) → AreShownIn lines s all (telling w l ++ xs) m
shown_telling lines s w rest all d l xs small counted long grown shown zero zero u which is =
    let same : s ≡ u = cc in
    (0, inl refl, omega arith, subst (HasAlso lines s []) same (also_none lines s))
shown_telling lines s w rest all d l xs small counted long grown shown zero (suc j) u which is =
    let first : j ≡ 0 = elim which [ inl e ↦ absurd (omega (arith, e)) | inr e ↦ omega (arith, e) ] in
    let got : slice_get (w ∷ commits_in xs) 0 ≡ Some u = subst (λ (k : ℕ). slice_get (w ∷ commits_in xs) k ≡ Some u) first is in
    let same : w ≡ u = cc in
    let number : (d + 0 ≡ 0) ⊎ (d + 0 ≡ 0 + 1) = elim (cases_lt 0 d) [ inl one ↦ inr (omega arith) | inr never ↦ inl (omega arith) ] in
    (d + 0, number, omega (arith, long), grown 0 u (subst (HasAlso lines w []) same (also_none lines w)))
shown_telling lines s w rest all d l xs small counted long grown shown (suc m) zero u which is =
    absurd (elim which [ inl e ↦ omega (arith, e) | inr e ↦ omega (arith, e) ])
shown_telling lines s w rest all d l xs small counted long grown shown (suc m) (suc j) u which is =
    let c : ℕ = length (commits_in (take m xs)) in
    let f : ℕ = fims_in (l ∷ take m (lines_in xs)) in
    let fims = fims_more l (take m (lines_in xs)) in
    let next : (j ≡ c) ⊎ (j ≡ c + 1) = elim which [ inl e ↦ inl (omega (arith, e)) | inr e ↦ inr (omega (arith, e)) ] in
    let found = shown m j u next is in
    let number : (d + found.0 ≡ f) ⊎ (d + found.0 ≡ f + 1) =
    elim found.1 [ inl e ↦ inl (omega (arith, fims, counted, e)) | inr e ↦ inr (omega (arith, fims, counted, e)) ] in
    (d + found.0, number, omega (arith, long, found.2), grown found.0 u found.3)

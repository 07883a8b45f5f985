-- The fields of a text are cut in one way.
use Rattle.std.proofs.Common.{◌≡◌, ℕ, ◌+◌, ◌*◌, ◌<◌, ◌≤◌, Bool, true, false, List, [], ◌∷◌, ◌++◌, length, refl, sym, ap, ◌∙◌, subst, ◌⊎◌, inl, inr, arith, length-append, append_assoc}
use Rattle.std.specs.Prelude.{nat_le, if◌then◌else◌}
use Rattle.std.specs.List.{flat_map, AllByRecursion, sum_by}
use Rattle.std.proofs.lemmas.List.{append-nil}
use Rattle.std.proofs.lemmas.List.Sums.{sum_by-cons}
use Rattle.std.proofs.lemmas.Bool.Decides.{nat_tests}
use Rattle.urna_base.specs.Words.{joined}
use Rattle.hash_chain.specs.Lines.{is_field}
use Rattle.hash_chain.specs.Laws.{OneCut}
use Rattle.hash_chain.specs.Cut.{part_size, IsFull, AreFull, IsCut, cut_after, cut}

-- a part with one field more
abbrev pub Small : List (List ℕ) → Type 0
Small fs = AllByRecursion (λ f. (is_field f ≡ true) × (length f ≤ part_size)) fs

joined_longer : (g : List ℕ) (part : List (List ℕ)) (f : List ℕ) → length (joined ((g ∷ part) ++ f ∷ [])) ≡ length (joined (g ∷ part)) + 1 + length f
joined_longer g [] f = omega (arith, length-append {A = ℕ})
joined_longer g (h ∷ part) f =
    let next = joined_longer h part f in
    let left = length-append g (32 ∷ joined ((h ∷ part) ++ f ∷ [])) in
    let right = length-append g (32 ∷ joined (h ∷ part)) in
    omega arith

-- the cut goes on with the part that was begun
begins : (f : List ℕ) (part fs : List (List ℕ)) → (q : List (List ℕ)) × (rest : List (List (List ℕ))) × (cut_after (f ∷ part) fs ≡ (f ∷ q) ∷ rest)
begins f part [] = (part, [], refl)
begins f part (g ∷ fs) =
    elim (nat_le (length (joined (f ∷ part)) + 1 + length g) part_size)
    as (λ b. (q : List (List ℕ)) × (rest : List (List (List ℕ))) × ((if b then cut_after ((f ∷ part) ++ g ∷ []) fs else (f ∷ part) ∷ cut_after (g ∷ []) fs) ≡ (f ∷ q) ∷ rest)) [
      | true ↦ begins f (part ++ g ∷ []) fs
      | false ↦ (part, cut_after (g ∷ []) fs, refl)
    ]

pub full_behind : (part : List (List ℕ)) (g : List ℕ) (f : List ℕ) (fs : List (List ℕ)) → part_size < length (joined (g ∷ part)) + 1 + length f → AreFull (cut_after (f ∷ []) fs) → IsFull (g ∷ part) (cut_after (f ∷ []) fs)
full_behind part g f fs over full =
    let b = begins f [] fs in
    let P : List (List (List ℕ)) → Type 0 = λ x. IsFull (g ∷ part) x in
    let Q : List (List (List ℕ)) → Type 0 = λ x. AreFull x in
    subst P (sym b.2) (over, subst Q b.2 full)

bool_cases : (b : Bool) → (b ≡ true) ⊎ (b ≡ false)
bool_cases true = inl refl
bool_cases false = inr refl

is_cut : (g : List ℕ) (part fs : List (List ℕ)) → length (joined (g ∷ part)) ≤ part_size → Small fs → IsCut ((g ∷ part) ++ fs) (cut_after (g ∷ part) fs)
is_cut g part [] fits small = record { all = refl; within = (fits, tt); full = tt }
is_cut g part (f ∷ fs) fits small =
    elim (bool_cases (nat_le (length (joined (g ∷ part)) + 1 + length f) part_size)) [
      | inl e ↦
          let longer = joined_longer g part f in
          let room : length (joined (g ∷ part)) + 1 + length f ≤ part_size = grind (arith, nat_tests) in
          let still : length (joined ((g ∷ part) ++ f ∷ [])) ≤ part_size = omega arith in
          let P : List (List ℕ) → Type 0 = λ l. IsCut l (cut_after ((g ∷ part) ++ f ∷ []) fs) in
          rw e (subst P (append_assoc (g ∷ part) (f ∷ []) fs) (is_cut g (part ++ f ∷ []) fs still small.1))
      | inr e ↦
          let over : part_size < length (joined (g ∷ part)) + 1 + length f = grind (arith, nat_tests) in
          let rest = is_cut f [] fs small.0.1 small.1 in
          let here : IsCut ((g ∷ part) ++ f ∷ fs) ((g ∷ part) ∷ cut_after (f ∷ []) fs) = record {
            all = ap (λ (l : List (List ℕ)). (g ∷ part) ++ l) rest.all;
            within = (fits, rest.within);
            full = full_behind part g f fs over rest.full;
          } in
          rw e here
    ]

-- ---- one way

-- what begins a part is no longer than the part
joined_shorter : (g : List ℕ) (part more : List (List ℕ)) → length (joined (g ∷ part)) ≤ length (joined ((g ∷ part) ++ more))
joined_shorter g part [] = let e = ap (λ (l : List (List ℕ)). length (joined l)) (append-nil (g ∷ part)) in omega arith
joined_shorter g part (f ∷ more) =
    let next = joined_shorter g (part ++ f ∷ []) more in
    let longer = joined_longer g part f in
    let same = ap (λ (l : List (List ℕ)). length (joined l)) (append_assoc (g ∷ part) (f ∷ []) more) in
    omega arith

-- the part that was begun takes its fields
pub takes : (g : List ℕ) (part more : List (List ℕ)) (rest : List (List (List ℕ))) → length (joined ((g ∷ part) ++ more)) ≤ part_size → IsFull ((g ∷ part) ++ more) rest
    → cut_after (g ∷ part) (more ++ flat_map (λ p. p) rest) ≡ ((g ∷ part) ++ more) ∷ cut (flat_map (λ p. p) rest)
unfolding cut
takes g part (f ∷ more) rest fits full =
    let shorter = joined_shorter g (part ++ f ∷ []) more in
    let longer = joined_longer g part f in
    let P : List (List ℕ) → Type 0 = λ l. length (joined l) ≤ part_size in
    let Q : List (List ℕ) → Type 0 = λ l. IsFull l rest in
    let same : (g ∷ part) ++ f ∷ more ≡ ((g ∷ part) ++ f ∷ []) ++ more = sym (append_assoc (g ∷ part) (f ∷ []) more) in
    let fits1 : length (joined (((g ∷ part) ++ f ∷ []) ++ more)) ≤ part_size = subst P same fits in
    let here : length (joined (g ∷ part)) + 1 + length f ≤ part_size = omega arith in
    let test : nat_le (length (joined (g ∷ part)) + 1 + length f) part_size ≡ true = grind (arith, nat_tests) in
    rw test (takes g (part ++ f ∷ []) more rest fits1 (subst Q same full) ∙ ap (λ (l : List (List ℕ)). l ∷ cut (flat_map (λ p. p) rest)) (sym same))
takes g part [] [] fits full = ap (λ (l : List (List ℕ)). l ∷ []) (sym (append-nil (g ∷ part)))
takes g part [] ([] ∷ rest) fits full = absurd full
takes g part [] ((f ∷ fs) ∷ rest) fits full =
    let same = append-nil (g ∷ part) in
    let length_same = ap (λ (l : List (List ℕ)). length (joined l)) same in
    let over = full.0 in
    let test : nat_le (length (joined (g ∷ part)) + 1 + length f) part_size ≡ false = grind (arith, nat_tests) in
    rw test (ap (λ (l : List (List ℕ)). l ∷ cut_after (f ∷ []) (fs ++ flat_map (λ p. p) rest)) (sym same))

-- what stands behind a part is as full as it can be
pub rest_full : (p : List (List ℕ)) (qs : List (List (List ℕ))) → IsFull p qs → AreFull qs
rest_full p [] h = tt
rest_full p ([] ∷ qs) h = h
rest_full p ((f ∷ fs) ∷ qs) h = h.1

one_way : (parts : List (List (List ℕ))) → AllByRecursion (λ part. length (joined part) ≤ part_size) parts → AreFull parts → cut (flat_map (λ p. p) parts) ≡ parts
unfolding cut
one_way [] within full = refl
one_way ([] ∷ parts) within full = absurd full
one_way ((g ∷ part) ∷ parts) within full =
    let rest : cut (flat_map (λ p. p) parts) ≡ parts = one_way parts within.1 (rest_full (g ∷ part) parts full) in
    takes g [] part parts within.0 full ∙ ap (λ (l : List (List (List ℕ))). (g ∷ part) ∷ l) rest

pub one_cut : OneCut
unfolding cut
one_cut [] small = absurd (let few = small.0 in omega arith)
one_cut (f ∷ fs) small = (is_cut f [] fs small.1.0.1 small.1.1, λ parts c. sym (one_way parts c.within c.full) ∙ ap (λ (l : List (List ℕ)). cut l) c.all)

-- ---- how many parts there are: two neighbours together have 1,000 bytes or more

abbrev pub part_bytes : List (List (List ℕ)) → ℕ
part_bytes parts = sum_by (λ p. length (joined p)) parts

first_within : (f : List ℕ) (fs : List (List ℕ)) → length f ≤ length (joined (f ∷ fs))
first_within f [] = omega arith
first_within f (g ∷ fs) = omega (arith, length-append {A = ℕ})

pub few_parts : (parts : List (List (List ℕ))) → AreFull parts → 500 * length parts ≤ part_bytes parts + 500
few_parts [] full = omega arith
few_parts (p ∷ []) full = omega arith
few_parts ([] ∷ q ∷ parts) full = absurd full
few_parts ((f ∷ fs) ∷ [] ∷ parts) full = absurd full
few_parts ((f ∷ fs) ∷ (g ∷ gs) ∷ parts) full =
    let over : 1000 < length (joined (f ∷ fs)) + 1 + length g = full.0 in
    let second = first_within g gs in
    let bytes : part_bytes ((f ∷ fs) ∷ (g ∷ gs) ∷ parts) ≡ length (joined (f ∷ fs)) + (length (joined (g ∷ gs)) + part_bytes parts) =
    sum_by-cons (λ p. length (joined p)) (f ∷ fs) ((g ∷ gs) ∷ parts) ∙ ap (λ (n : ℕ). length (joined (f ∷ fs)) + n) (sum_by-cons (λ p. length (joined p)) (g ∷ gs) parts) in
    let rest = few_parts parts (rest_full (g ∷ gs) parts full.1) in
    omega arith

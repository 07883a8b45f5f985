-- All members of a bag are counted, each once
use Rattle.std.proofs.Common.{◌≡◌, ℕ, zero, suc, ◌+◌, ◌<◌, Bool, true, false, cond, List, [], ◌∷◌, map, length, inl, inr, refl, sym, ap, ◌∙◌, subst, arith}
use Rattle.std.specs.Prelude.{◌==◌, nat_eq, nat_lt, ◌||◌}
use Rattle.std.specs.List.{AllByRecursion, AllPairs, list_any, sum_by}
use Rattle.std.proofs.lemmas.Bool.{cases_Bool}
use Rattle.std.proofs.lemmas.Bool.Decides.{nat_tests}
use Rattle.std.proofs.lemmas.List.Elements.{recursion_from_All}
use Rattle.std.proofs.lemmas.List.Sums.{sum_by-cons}
use Rattle.vote_kinds.specs.declared.choice.Choice.{Choice}
use Rattle.vote_kinds.specs.declared.choice.Choice.TheVariants as choice
use Rattle.vote_kinds.specs.Choice.{is_same}
use Rattle.vote_record.specs.Bag.{count_of}
use Rattle.vote_record.proofs.Bags.{count_cons}
use Rattle.poll_report.specs.declared.report.Count.{Count}
use Rattle.poll_report.specs.Report.{votes_of}
use Rattle.poll_report.specs.Counted.{counted, listed}

-- each number is below those behind it
abbrev pub Rises : List ℕ → Type 0
Rises [] = Unit {0}
Rises (n ∷ ns) = AllByRecursion (λ m. n < m) ns × Rises ns

pub rises : (ns : List ℕ) → AllPairs (λ x y. x < y) ns → Rises ns
rises [] h = tt
rises (n ∷ ns) h = (
  recursion_from_All (λ m. n < m) ns (λ k d within. h zero (suc k) d (omega arith) (omega arith)),
  rises ns (λ i j d below within. h (suc i) (suc j) d (omega arith) (omega arith)),
)

pub votes_cons : (c : Count) (cs : List Count) → votes_of (c ∷ cs) ≡ c.votes + votes_of cs
votes_cons c cs = sum_by-cons (λ (x : Count). x.votes) c cs

-- numbers without a vote add nothing
pub votes_listed : (choose : ℕ → Choice) (ns : List ℕ) (bag : List Choice) → votes_of (listed choose ns bag) ≡ votes_of (map (counted choose bag) ns)
votes_listed choose [] bag = refl
votes_listed choose (n ∷ ns) bag =
    let rest = votes_listed choose ns bag in
    let whole = votes_cons (counted choose bag n) (map (counted choose bag) ns) in
    elim (cases_Bool (nat_lt 0 (count_of (choose n) bag))) [
      | inl t ↦ let kept = votes_cons (counted choose bag n) (listed choose ns bag) in rw t (omega arith)
      | inr f ↦ let none : count_of (choose n) bag ≡ 0 = grind (arith, nat_tests) in rw f (omega arith)
    ]

-- how many of these numbers a choice chooses
abbrev hits : (ℕ → Choice) → Choice → List ℕ → ℕ
hits choose d ns = sum_by (λ n. cond {A = ℕ} (is_same (choose n) d) 1 0) ns

counted_more : (choose : ℕ → Choice) (d : Choice) (bag : List Choice) (ns : List ℕ)
    → votes_of (map (counted choose (d ∷ bag)) ns) ≡ hits choose d ns + votes_of (map (counted choose bag) ns)
counted_more choose d bag [] = refl
counted_more choose d bag (n ∷ ns) =
    let rest = counted_more choose d bag ns in
    let one = count_cons (choose n) d bag in
    let with = votes_cons (counted choose (d ∷ bag) n) (map (counted choose (d ∷ bag)) ns) in
    let without = votes_cons (counted choose bag n) (map (counted choose bag) ns) in
    let first = sum_by-cons (λ (m : ℕ). cond {A = ℕ} (is_same (choose m) d) 1 0) n ns in
    omega arith

nothing_hit : (choose : ℕ → Choice) (d : Choice) (ns : List ℕ) → ((n : ℕ) → is_same (choose n) d ≡ false) → hits choose d ns ≡ 0
nothing_hit choose d [] none = refl
nothing_hit choose d (n ∷ ns) none =
    let rest = nothing_hit choose d ns none in
    let first = sum_by-cons (λ (m : ℕ). cond {A = ℕ} (is_same (choose m) d) 1 0) n ns in
    let zero_here : cond {A = ℕ} (is_same (choose n) d) 1 0 ≡ 0 = ap (λ (b : Bool). cond {A = ℕ} b 1 0) (none n) in
    omega arith

-- how often a number stands among others
abbrev times : ℕ → List ℕ → ℕ
times m ns = sum_by (λ n. cond {A = ℕ} (n == m) 1 0) ns

not_above : (m : ℕ) (ns : List ℕ) → AllByRecursion (λ n. m < n) ns → times m ns ≡ 0
not_above m [] above = refl
not_above m (n ∷ ns) above =
    let rest = not_above m ns above.1 in
    let first = sum_by-cons (λ (k : ℕ). cond {A = ℕ} (k == m) 1 0) n ns in
    let greater = above.0 in
    let other : (n == m) ≡ false = grind (arith, nat_tests) in
    let zero_here : cond {A = ℕ} (n == m) 1 0 ≡ 0 = ap (λ (b : Bool). cond {A = ℕ} b 1 0) other in
    omega arith

once : (m : ℕ) (ns : List ℕ) → Rises ns → list_any (nat_eq m) ns ≡ true → times m ns ≡ 1
once m [] rise there = absurd (cc)
once m (n ∷ ns) rise there =
    let first = sum_by-cons (λ (k : ℕ). cond {A = ℕ} (k == m) 1 0) n ns in
    elim (cases_Bool (nat_eq m n)) [
      | inl t ↦
          let same : m ≡ n = grind (arith, nat_tests) in
          let here : (n == m) ≡ true = grind (arith, nat_tests) in
          let one_here : cond {A = ℕ} (n == m) 1 0 ≡ 1 = ap (λ (b : Bool). cond {A = ℕ} b 1 0) here in
          let rest = not_above m ns (subst (λ (k : ℕ). AllByRecursion (λ i. k < i) ns) (sym same) rise.0) in
          omega arith
      | inr f ↦
          let other : (n == m) ≡ false = grind (arith, nat_tests) in
          let zero_here : cond {A = ℕ} (n == m) 1 0 ≡ 0 = ap (λ (b : Bool). cond {A = ℕ} b 1 0) other in
          let rest = once m ns rise.1 (sym (ap (λ (b : Bool). b || list_any (nat_eq m) ns) f) ∙ there) in
          omega arith
    ]

-- one of these candidates, one of these parties, blank or null
abbrev pub IsOneOf : List ℕ → List ℕ → Choice → Type 0
IsOneOf candidates parties (choice.Nominal n) = list_any (nat_eq n) candidates ≡ true
IsOneOf candidates parties (choice.Party n) = list_any (nat_eq n) parties ≡ true
IsOneOf candidates parties choice.Blank = Unit {0}
IsOneOf candidates parties choice.Null = Unit {0}

abbrev all_votes : List ℕ → List ℕ → List Choice → ℕ
all_votes candidates parties bag =
    votes_of (map (counted (λ n. choice.Nominal n) bag) candidates) + votes_of (map (counted (λ n. choice.Party n) bag) parties)
    + count_of choice.Blank bag + count_of choice.Null bag

-- a member raises one of the four numbers by one
one_more : (candidates parties : List ℕ) (d : Choice) → Rises candidates → Rises parties → IsOneOf candidates parties d
    → hits (λ n. choice.Nominal n) d candidates + hits (λ n. choice.Party n) d parties
    + cond {A = ℕ} (is_same choice.Blank d) 1 0 + cond {A = ℕ} (is_same choice.Null d) 1 0 ≡ 1
one_more candidates parties (choice.Nominal n) cs ps one =
    let here = once n candidates cs one in
    let other = nothing_hit (λ k. choice.Party k) (choice.Nominal n) parties (λ k. refl) in
    omega arith
one_more candidates parties (choice.Party n) cs ps one =
    let here = once n parties ps one in
    let other = nothing_hit (λ k. choice.Nominal k) (choice.Party n) candidates (λ k. refl) in
    omega arith
one_more candidates parties choice.Blank cs ps one =
    let a = nothing_hit (λ k. choice.Nominal k) choice.Blank candidates (λ k. refl) in
    let b = nothing_hit (λ k. choice.Party k) choice.Blank parties (λ k. refl) in
    omega arith
one_more candidates parties choice.Null cs ps one =
    let a = nothing_hit (λ k. choice.Nominal k) choice.Null candidates (λ k. refl) in
    let b = nothing_hit (λ k. choice.Party k) choice.Null parties (λ k. refl) in
    omega arith

nothing_counted : (choose : ℕ → Choice) (ns : List ℕ) → votes_of (map (counted choose []) ns) ≡ 0
nothing_counted choose [] = refl
nothing_counted choose (n ∷ ns) =
    let rest = nothing_counted choose ns in
    let first = votes_cons (counted choose [] n) (map (counted choose []) ns) in
    omega arith

pub all_counted : (candidates parties : List ℕ) (bag : List Choice) → Rises candidates → Rises parties → AllByRecursion (IsOneOf candidates parties) bag
    → all_votes candidates parties bag ≡ length bag
all_counted candidates parties [] cs ps each =
    let a = nothing_counted (λ n. choice.Nominal n) candidates in
    let b = nothing_counted (λ n. choice.Party n) parties in
    omega arith
all_counted candidates parties (d ∷ bag) cs ps each =
    let rest = all_counted candidates parties bag cs ps each.1 in
    let a = counted_more (λ n. choice.Nominal n) d bag candidates in
    let b = counted_more (λ n. choice.Party n) d bag parties in
    let blank = count_cons choice.Blank d bag in
    let null = count_cons choice.Null d bag in
    let one = one_more candidates parties d cs ps each.0 in
    omega arith

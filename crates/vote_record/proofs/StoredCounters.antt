-- The counters that a bag is stored as
use Rattle.std.proofs.Common.{◌≡◌, ℕ, zero, suc, ◌+◌, ◌-◌, ◌≤◌, ◌<◌, Bool, true, false, not, List, [], ◌∷◌, ◌++◌, length, get_or, map, take, drop, replicate, slice_get, slice_set, Some, inl, inr, refl, sym, ap, subst, ◌∙◌, append_assoc, add-one, arith}
use Rattle.std.specs.List.{AllByRecursion, insert}
use Rattle.std.specs.List.Sorted.{IsPartitionedBy, IsPartitionPoint}
use Rattle.std.proofs.lemmas.Bool.{cases_Bool}
use Rattle.std.proofs.lemmas.List.{drop_more, get_or_default, get_or-drop, get_or-map, get_or-take, length-append, length-drop, length-map, length-replicate, length-take, replicate-append-replicate, set_split, take-append-drop}
use Rattle.std.proofs.lemmas.List.Edits.{get_or-insert_at, length-insert}
use Rattle.std.proofs.lemmas.List.Elements.{recursion_from_All}
use Rattle.std.proofs.lemmas.List.Sums.{count_by-le-length}
use Rattle.urna_base.proofs.Every.{every_append}
use Rattle.vote_kinds.specs.declared.choice.Choice.{Choice}
use Rattle.vote_kinds.specs.Choice.{AreRising, choice_le, is_same}
use Rattle.vote_kinds.proofs.LineChoices.{same_refl}
use Rattle.vote_record.specs.Bag.{count_of, with_choices}
use Rattle.vote_record.specs.BagData.{IsPlace, choices_in, members_of, stands_at}
use Rattle.vote_record.specs.declared.counters.Counter.{Counter}
use Rattle.vote_record.proofs.Bags.{all_replicate, le_antisym, le_refl, le_total, le_trans, same_true, with_choices-front, with_choices-past}
use Rattle.vote_record.proofs.Counting.{count_in_place}
use Rattle.vote_record.proofs.Sets.{map-set_same}

-- The counter in a place

stands-within : (c : Choice) (counters : List Counter) (place : ℕ) → stands_at c counters place ≡ true → place < length counters
stands-within c [] place is = absurd (cc)
stands-within c (x ∷ counters) zero is = omega arith
stands-within c (x ∷ counters) (suc place) is = let more = stands-within c counters place is in omega arith

-- the counter that stands there is that of the choice
stands-choice : (c : Choice) (counters : List Counter) (place : ℕ) (x : Counter) → stands_at c counters place ≡ true → x ≡ get_or counters place x → c ≡ x.choice
stands-choice c [] place x is read = absurd (cc)
stands-choice c (y ∷ counters) zero x is read = same_true c y.choice is ∙ ap (λ (z : Counter). z.choice) (sym read)
stands-choice c (y ∷ counters) (suc place) x is read = stands-choice c counters place x is read

-- what is so of all choices is so of that of the counter that stands there
stands-all : (P : Choice → Type 0) (c : Choice) (counters : List Counter) (place : ℕ) → AllByRecursion P (choices_in counters) → stands_at c counters place ≡ true → P c
stands-all P c [] place all is = absurd (cc)
stands-all P c (x ∷ counters) zero all is = subst P (sym (same_true c x.choice is)) all.0
stands-all P c (x ∷ counters) (suc place) all is = stands-all P c counters place all.1 is

-- a choice before all of these, which none of them stands at or before
all-behind : (c : Choice) (counters : List Counter) → AllByRecursion (λ d. choice_le d c ≡ false) (choices_in counters) → AllByRecursion (λ x. choice_le c x.choice ≡ true) counters
all-behind c [] all = tt
all-behind c (x ∷ counters) all = (le_total x.choice c all.0, all-behind c counters all.1)

-- where the counter of a choice stands is its place
pub stands-place : (c : Choice) (counters : List Counter) (place : ℕ) → AreRising (choices_in counters) → stands_at c counters place ≡ true → IsPlace c counters place
stands-place c [] place rise is = absurd (cc)
stands-place c (x ∷ counters) zero rise is =
    let same : c ≡ x.choice = same_true c x.choice is in
    record {
      within = omega arith;
      before = tt;
      others =
          subst (λ (d : Choice). AllByRecursion (λ y. choice_le d y.choice ≡ true) (x ∷ counters)) (sym same)
          (le_refl x.choice, all-behind x.choice counters rise.0);
    }
stands-place c (x ∷ counters) (suc place) rise is =
    let rest = stands-place c counters place rise.1 is in
    let within = rest.within in
    record {
      within = omega arith;
      before = (stands-all (λ d. choice_le d x.choice ≡ false) c counters place rise.0 is, rest.before);
      others = rest.others;
    }

-- The members of counters

members-append : (front back : List Counter) → members_of (front ++ back) ≡ members_of front ++ members_of back
members-append [] back = refl
members-append (x ∷ front) back =
    ap (λ (m : List Choice). replicate x.votes x.choice ++ m) (members-append front back) ∙ sym (append_assoc (replicate x.votes x.choice) (members_of front) (members_of back))

-- what is so of the choices is so of the members
members_all : (P : Choice → Type 0) (counters : List Counter) → AllByRecursion (λ x. P x.choice) counters → AllByRecursion P (members_of counters)
members_all P [] all = tt
members_all P (x ∷ counters) all = every_append P (replicate x.votes x.choice) (members_of counters) (all_replicate P x.votes x.choice all.0) (members_all P counters all.1)

-- so many members more stand at the place of their choice
more_at_place : (n : ℕ) (c : Choice) (counters : List Counter) (place : ℕ) → IsPlace c counters place
    → with_choices n c (members_of counters) ≡ members_of (take place counters) ++ (replicate n c ++ members_of (drop place counters))
more_at_place n c counters place at =
    let front : List Choice = members_of (take place counters) in
    let back : List Choice = members_of (drop place counters) in
    ap (λ (x : List Counter). with_choices n c (members_of x)) (sym (take-append-drop place counters))
    ∙ ap (with_choices n c) (members-append (take place counters) (drop place counters))
    ∙ with_choices-past n c front back (members_all (λ d. choice_le c d ≡ false) (take place counters) at.before)
    ∙ ap (λ (m : List Choice). front ++ m) (with_choices-front n c back (members_all (λ d. choice_le c d ≡ true) (drop place counters) at.others))

-- a counter that is put in there
pub members-insert : (x : Counter) (counters : List Counter) (place : ℕ) → IsPlace x.choice counters place
    → members_of (insert counters place x) ≡ with_choices x.votes x.choice (members_of counters)
members-insert x counters place at = members-append (take place counters) (x ∷ drop place counters) ∙ sym (more_at_place x.votes x.choice counters place at)

-- so many votes more in the counter that stands there
pub members-set : (n : ℕ) (c : Choice) (counters : List Counter) (place : ℕ) (x : Counter) → IsPlace c counters place → stands_at c counters place ≡ true → x ≡ get_or counters place x
    → members_of (slice_set counters place (record { choice = x.choice; votes = x.votes + n })) ≡ with_choices n c (members_of counters)
members-set n c counters place x at is read =
    let lt : place < length counters = stands-within c counters place is in
    let same : c ≡ x.choice = stands-choice c counters place x is read in
    let after : Counter = record { choice = x.choice; votes = x.votes + n } in
    let front : List Choice = members_of (take place counters) in
    let rest : List Counter = drop (suc place) counters in
    let was : drop place counters ≡ x ∷ rest =
    drop_more counters place x lt ∙ ap (λ (y : Counter). y ∷ drop (place + 1) counters) (sym read) ∙ ap (λ (k : ℕ). x ∷ drop k counters) (add-one place) in
    let votes : n + x.votes ≡ x.votes + n = omega arith in
    let joined : replicate n c ++ members_of (drop place counters) ≡ replicate (x.votes + n) x.choice ++ members_of rest =
    ap (λ (d : Choice). replicate n d ++ members_of (drop place counters)) same
    ∙ ap (λ (l : List Counter). replicate n x.choice ++ members_of l) was
    ∙ sym (append_assoc (replicate n x.choice) (replicate x.votes x.choice) (members_of rest))
    ∙ ap (λ (m : List Choice). m ++ members_of rest) (replicate-append-replicate n x.votes x.choice ∙ ap (λ (k : ℕ). replicate k x.choice) votes) in
    ap members_of (set_split counters place after lt)
    ∙ members-append (take place counters) (after ∷ rest)
    ∙ ap (λ (m : List Choice). front ++ m) (sym joined)
    ∙ sym (more_at_place n c counters place at)

-- Counters rise

-- with the same choices as before
pub rise-set : (n : ℕ) (c : Choice) (counters : List Counter) (place : ℕ) (x : Counter) → AreRising (choices_in counters) → stands_at c counters place ≡ true → x ≡ get_or counters place x
    → AreRising (choices_in (slice_set counters place (record { choice = x.choice; votes = n })))
rise-set n c counters place x rise is read =
    subst AreRising (sym (map-set_same (λ y. y.choice) counters place x (record { choice = x.choice; votes = n }) (stands-within c counters place is) read refl)) rise

-- the counters behind one, where a choice is put in that stands behind that one too
behind-insert : (c : Choice) (counters : List Counter) (place : ℕ) (x : Counter) → choice_le x.choice c ≡ false → AllByRecursion (λ d. choice_le d c ≡ false) (choices_in counters)
    → AllByRecursion (λ d. choice_le d c ≡ false) (choices_in (insert counters place x))
behind-insert c counters zero x after all = (after, all)
behind-insert c [] (suc place) x after all = (after, tt)
behind-insert c (y ∷ counters) (suc place) x after all = (all.0, behind-insert c counters place x after all.1)

-- what stands behind another choice stands behind a choice at or before that
behind_both : (c d : Choice) (choices : List Choice) → choice_le c d ≡ true → AllByRecursion (λ e. choice_le e d ≡ false) choices → AllByRecursion (λ e. choice_le e c ≡ false) choices
behind_both c d [] before all = tt
behind_both c d (e ∷ choices) before all = (
  elim (cases_Bool (choice_le e c)) [
    | inl t ↦ let f = le_trans e c d t before in let g = all.0 in absurd (cc)
    | inr f ↦ f
  ],
  behind_both c d choices before all.1,
)

other_behind : (c d : Choice) → choice_le c d ≡ true → is_same c d ≡ false → choice_le d c ≡ false
other_behind c d before other = elim (cases_Bool (choice_le d c)) [
  | inl t ↦ let e : is_same c d ≡ true = subst (λ (x : Choice). is_same c x ≡ true) (le_antisym c d before t) (same_refl c) in absurd (cc)
  | inr f ↦ f
]

-- with the counter of a choice that had none
pub rise-insert : (x : Counter) (counters : List Counter) (place : ℕ) → AreRising (choices_in counters) → IsPlace x.choice counters place → stands_at x.choice counters place ≡ false
    → AreRising (choices_in (insert counters place x))
rise-insert x [] zero rise at other = (tt, tt)
rise-insert x [] (suc place) rise at other = absurd (omega (arith, at.within))
rise-insert x (y ∷ counters) zero rise at other =
    ((other_behind x.choice y.choice at.others.0 other, behind_both x.choice y.choice (choices_in counters) at.others.0 rise.0), rise)
rise-insert x (y ∷ counters) (suc place) rise at other =
    let rest : IsPlace x.choice counters place = record { within = omega (arith, at.within); before = at.before.1; others = at.others } in
    (behind-insert y.choice counters place x at.before.0 rise.0, rise-insert x counters place rise.1 rest other)

-- How often a choice is a member

counted_in_place : (counters : List Counter) (place : ℕ) (x : Counter) → AreRising (choices_in counters) → place < length counters
    → count_of (get_or counters place x).choice (members_of counters) ≡ (get_or counters place x).votes
counted_in_place counters place x rise lt =
    ap (λ (d : Choice). count_of d (members_of counters)) (sym (get_or-map (λ y. y.choice) counters place x x.choice lt))
    ∙ count_in_place (choices_in counters) (map (λ y. y.votes) counters) place x.choice x.votes rise (simp length-map) (omega (arith, length-map counters (λ y. y.choice)))
    ∙ get_or-map (λ y. y.votes) counters place x x.votes lt

-- as often as its counter says
votes_found : (c : Choice) (counters : List Counter) (place : ℕ) (x : Counter) → AreRising (choices_in counters) → stands_at c counters place ≡ true → x ≡ get_or counters place x
    → x.votes ≡ count_of c (members_of counters)
votes_found c counters place x rise is read =
    let same : c ≡ x.choice = stands-choice c counters place x is read in
    ap (λ (y : Counter). y.votes) read
    ∙ sym (counted_in_place counters place x rise (stands-within c counters place is))
    ∙ ap (λ (d : Choice). count_of d (members_of counters)) (sym (same ∙ ap (λ (y : Counter). y.choice) read))

pub votes_read : (c : Choice) (counters : List Counter) (place : ℕ) (d : Counter) → AreRising (choices_in counters) → stands_at c counters place ≡ true
    → (get_or counters place d).votes ≡ count_of c (members_of counters)
votes_read c counters place d rise is =
    votes_found c counters place (get_or counters place d) rise is (get_or_default counters place d (get_or counters place d) (stands-within c counters place is))

-- and so no more often than there are members
pub few_votes : (c : Choice) (counters : List Counter) (place : ℕ) (x : Counter) → AreRising (choices_in counters) → stands_at c counters place ≡ true → x ≡ get_or counters place x
    → x.votes ≤ length (members_of counters)
few_votes c counters place x rise is read = let found = votes_found c counters place x rise is read in omega (arith, count_by-le-length (is_same c) (members_of counters))

-- and never where it has no counter: with one of no votes, which is put in at its place, there are the same members
pub no_votes_found : (c : Choice) (counters : List Counter) (place : ℕ) → AreRising (choices_in counters) → IsPlace c counters place → stands_at c counters place ≡ false
    → 0 ≡ count_of c (members_of counters)
no_votes_found c counters place rise at other =
    let none : Counter = record { choice = c; votes = 0 } in
    let with_none : List Counter = insert counters place none in
    let here : get_or with_none place none ≡ none = get_or-insert_at counters place none none at.within in
    let long = length-insert counters place none at.within in
    sym (ap (count_of c) (sym (members-insert none counters place at))
    ∙ ap (λ (x : Counter). count_of x.choice (members_of with_none)) (sym here)
    ∙ counted_in_place with_none place none (rise-insert none counters place rise at other) (omega (arith, at.within))
    ∙ ap (λ (x : Counter). x.votes) here)

-- A binary search finds the place

behind_at : (c : Choice) (counters : List Counter) (j : ℕ) (x : Counter) → AllByRecursion (λ d. choice_le d c ≡ false) (choices_in counters) → j < length counters
    → choice_le (get_or counters j x).choice c ≡ false
behind_at c [] j x all lt = absurd (omega arith)
behind_at c (y ∷ counters) zero x all lt = all.0
behind_at c (y ∷ counters) (suc j) x all lt = behind_at c counters j x all.1 (omega arith)

ordered : (counters : List Counter) (i j : ℕ) (x : Counter) → AreRising (choices_in counters) → i ≤ j → j < length counters
    → choice_le (get_or counters i x).choice (get_or counters j x).choice ≡ true
ordered [] i j x rise le lt = absurd (omega arith)
ordered (y ∷ counters) zero zero x rise le lt = le_refl y.choice
ordered (y ∷ counters) zero (suc j) x rise le lt = le_total (get_or counters j x).choice y.choice (behind_at y.choice counters j x rise.0 (omega arith))
ordered (y ∷ counters) (suc i) zero x rise le lt = absurd (omega arith)
ordered (y ∷ counters) (suc i) (suc j) x rise le lt = ordered counters i j x rise.1 (omega arith) (omega arith)

not_true : (b : Bool) → not b ≡ true → b ≡ false
not_true true h = sym h
not_true false h = refl

not_false : (b : Bool) → not b ≡ false → b ≡ true
not_false true h = refl
not_false false h = sym h

-- the counters whose choices stand before a choice stand in front
pub partitioned : (c : Choice) (counters : List Counter) → AreRising (choices_in counters) → IsPartitionedBy (λ x. not (choice_le c x.choice)) counters
partitioned c counters rise i j x le lt before = elim (cases_Bool (choice_le c (get_or counters i x).choice)) [
  | inl t ↦
      let e = le_trans c (get_or counters i x).choice (get_or counters j x).choice t (ordered counters i j x rise le lt) in
      let f = not_true (choice_le c (get_or counters j x).choice) before in
      absurd (cc)
  | inr f ↦ ap not f
]

pub place_of_partition : (c : Choice) (counters : List Counter) (place : ℕ) → place ≤ length counters
    → IsPartitionPoint (λ x. not (choice_le c x.choice) ≡ true) (λ x. not (choice_le c x.choice) ≡ false) counters place → IsPlace c counters place
place_of_partition c counters place within at = record {
  within = within;
  before = recursion_from_All (λ x. choice_le c x.choice ≡ false) (take place counters) (λ k x lt.
      let short : k < place = omega (arith, length-take place counters) in
      subst (λ (y : Counter). choice_le c y.choice ≡ false) (sym (get_or-take place counters k x short))
      (not_true (choice_le c (get_or counters k x).choice) (at.0 k x (omega arith) short)));
  others = recursion_from_All (λ x. choice_le c x.choice ≡ true) (drop place counters) (λ k x lt.
      let long : place + k < length counters = omega (arith, length-drop place counters) in
      subst (λ (y : Counter). choice_le c y.choice ≡ true) (sym (get_or-drop place counters k x))
      (not_false (choice_le c (get_or counters (place + k) x).choice) (at.1 (place + k) x (omega arith) long)));
}

-- The walk to the i-th member

in_front : (n : ℕ) (c : Choice) (rest : List Choice) (i : ℕ) → i < n → slice_get (replicate n c ++ rest) i ≡ Some c
in_front zero c rest i lt = absurd (omega arith)
in_front (suc n) c rest zero lt = refl
in_front (suc n) c rest (suc i) lt = in_front n c rest i (omega arith)

past_front : (n : ℕ) (c : Choice) (rest : List Choice) (i : ℕ) → n ≤ i → slice_get (replicate n c ++ rest) i ≡ slice_get rest (i - n)
past_front zero c rest i le = let e : i ≡ i - 0 = omega arith in ap (slice_get rest) e
past_front (suc n) c rest zero le = absurd (omega arith)
past_front (suc n) c rest (suc i) le = let e : i - n ≡ suc i - suc n = omega arith in past_front n c rest i (omega arith) ∙ ap (slice_get rest) e

members_from : (counters : List Counter) (k : ℕ) (d : Counter) → k < length counters
    → members_of (drop k counters) ≡ replicate (get_or counters k d).votes (get_or counters k d).choice ++ members_of (drop (k + 1) counters)
members_from counters k d lt = ap members_of (drop_more counters k d lt)

pub found_here : (counters : List Counter) (k left : ℕ) (d : Counter) → k < length counters → left < (get_or counters k d).votes
    → slice_get (members_of (drop k counters)) left ≡ Some (get_or counters k d).choice
found_here counters k left d lt here =
    let x : Counter = get_or counters k d in
    ap (λ (m : List Choice). slice_get m left) (members_from counters k d lt) ∙ in_front x.votes x.choice (members_of (drop (k + 1) counters)) left here

pub found_later : (counters : List Counter) (k left : ℕ) (d : Counter) → k < length counters → (get_or counters k d).votes ≤ left
    → slice_get (members_of (drop (k + 1) counters)) (left - (get_or counters k d).votes) ≡ slice_get (members_of (drop k counters)) left
found_later counters k left d lt past =
    let x : Counter = get_or counters k d in
    sym (ap (λ (m : List Choice). slice_get m left) (members_from counters k d lt) ∙ past_front x.votes x.choice (members_of (drop (k + 1) counters)) left past)

pub within_later : (counters : List Counter) (k left : ℕ) (d : Counter) → k < length counters → (get_or counters k d).votes ≤ left → left < length (members_of (drop k counters))
    → left - (get_or counters k d).votes < length (members_of (drop (k + 1) counters))
within_later counters k left d lt past within =
    let x : Counter = get_or counters k d in
    let e = ap (λ (m : List Choice). length m) (members_from counters k d lt) in
    omega (arith, length-append (replicate x.votes x.choice) (members_of (drop (k + 1) counters)), length-replicate x.votes x.choice)

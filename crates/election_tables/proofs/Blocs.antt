-- Blocs: the parties of a federation have one number, the lowest of theirs, and a party that is in none has its own.
use Rattle.std.proofs.Common.{◌≡◌, ◌≢◌, ◌⊎◌, ℕ, zero, suc, ◌+◌, ◌≤◌, ◌==◌, Bool, true, false, ◌&&◌, List, [], ◌∷◌, ◌++◌, length, fold, min, unwrap_or, Option, Some, None, is_some, option_map, option_copied, Bor, refl, ap, sym, ◌∙◌, subst, inl, inr, arith}
use Rattle.std.specs.List.{All, AllPairs, Any, Contains, find, list_any, reduce}
use Rattle.std.specs.Option.{option_map_or}
use Rattle.std.proofs.lemmas.Bool.{and_from, and_parts, cases_Bool, cases_lt, eq-eqb, eqb-true, false≢true}
use Rattle.std.proofs.lemmas.List.{get_or_append_left, get_or-append-add, length-append}
use Rattle.std.proofs.lemmas.List.Folds.{Any-from_list_any}
use Rattle.std.proofs.lemmas.List.Elements.{All-contains, Contains-append_left, Contains-append_right}
use Rattle.election_tables.specs.Laws.{BlocsAreFederations, BlocIsLowest, BlocIsParty, FederationIsTold}
use Rattle.election_tables.specs.TablesData.{TablesData, IsFederation, IsParty, IsTables, bloc_of, has_member, is_federation, lowest, members_of, party_name}
use Rattle.election_tables.specs.declared.tables.federations.Federation.{Federation}
use Rattle.election_tables.specs.declared.tables.parties.Party.{Party}
use Rattle.election_tables.proofs.Rising.{find_passes}

-- ---- the lowest of some numbers

abbrev is_in : ℕ → List ℕ → Bool
is_in n ns = list_any (λ m. m == n) ns

stands_in : (n : ℕ) (ns : List ℕ) → is_in n ns ≡ true → Contains ns n
stands_in n [] e = absurd (false≢true e)
stands_in n (m ∷ ns) e = elim (cases_Bool (m == n)) [
  | inl same ↦ (0, omega arith, eqb-true m n same)
  | inr other ↦ (let (k, h, at) = stands_in n ns (rw other at e) in (suc k, omega arith, at))
]

-- it isn't above the first
below_first : (n : ℕ) (ns : List ℕ) → fold min n ns ≤ n
below_first n [] = omega arith
below_first n (m ∷ ns) = omega (arith, below_first (min n m) ns)

-- nor above another
below_each : (n : ℕ) (ns : List ℕ) (k : ℕ) → is_in k ns ≡ true → fold min n ns ≤ k
below_each n [] k e = absurd (false≢true e)
below_each n (m ∷ ns) k e = elim (cases_Bool (m == k)) [
  | inl same ↦ omega (arith, below_first (min n m) ns, eqb-true m k same)
  | inr other ↦ below_each (min n m) ns k (rw other at e)
]

in_front : (n m : ℕ) (ns : List ℕ) → m ≡ n → is_in n (m ∷ ns) ≡ true
in_front n m ns same = rw (eq-eqb m n same) refl

in_rest : (n m : ℕ) (ns : List ℕ) → is_in n ns ≡ true → is_in n (m ∷ ns) ≡ true
in_rest n m ns there = elim (cases_Bool (m == n)) [
  | inl same ↦ rw same refl
  | inr other ↦ rw other there
]

-- and it is one of them
one_of_them : (n : ℕ) (ns : List ℕ) → (fold min n ns ≡ n) ⊎ (is_in (fold min n ns) ns ≡ true)
one_of_them n [] = inl refl
one_of_them n (m ∷ ns) = elim (one_of_them (min n m) ns) [
  | inl first ↦ elim (cases_lt n m) [
    | inl lt ↦ inl (omega (arith, first))
    | inr le ↦ inr (in_front (fold min (min n m) ns) m ns (omega (arith, first)))
  ]
  | inr later ↦ inr (in_rest (fold min (min n m) ns) m ns later)
]

lowest_in : (ns : List ℕ) → 1 ≤ length ns → is_in (lowest ns) ns ≡ true
lowest_in [] some = absurd (omega arith)
lowest_in (n ∷ ns) some = elim (one_of_them n ns) [
  | inl first ↦ in_front (fold min n ns) n ns (sym first)
  | inr later ↦ in_rest (fold min n ns) n ns later
]

lowest_below : (ns : List ℕ) (k : ℕ) → is_in k ns ≡ true → lowest ns ≤ k
lowest_below [] k e = absurd (false≢true e)
lowest_below (n ∷ ns) k e = elim (cases_Bool (n == k)) [
  | inl same ↦ omega (arith, below_first n ns, eqb-true n k same)
  | inr other ↦ below_each n ns k (rw other at e)
]

-- as std says it
pub lowest_is : (ns : List ℕ) → unwrap_or (reduce min ns) 0 ≡ lowest ns
lowest_is [] = refl
lowest_is (n ∷ ns) = refl

-- ---- a number stands in one federation at most

apart_parts : (xs ys : List ℕ) → AllPairs (λ a b. a ≢ b) (xs ++ ys) → (n : ℕ) → Contains xs n → Contains ys n → ⊥
apart_parts xs ys apart n (i, first, e) (j, second, f) =
    let size = length-append xs ys in
    apart i (length xs + j) n (omega arith) (omega (arith, size)) (get_or_append_left xs ys n i first ∙ e ∙ sym f ∙ sym (get_or-append-add xs ys j n))

apart_rest : (xs ys : List ℕ) → AllPairs (λ a b. a ≢ b) (xs ++ ys) → AllPairs (λ a b. a ≢ b) ys
apart_rest xs ys apart i j d before within equal =
    let size = length-append xs ys in
    apart (length xs + i) (length xs + j) d (omega arith) (omega (arith, size)) (get_or-append-add xs ys i d ∙ equal ∙ sym (get_or-append-add xs ys j d))

member_in : (fs : List Federation) (n : ℕ) (g : Federation) → Contains fs g → has_member n g ≡ true → Contains (members_of fs) n
member_in [] n g (k, h, e) there = absurd (omega arith)
member_in (f ∷ fs) n g (zero, h, e) there =
    let P : Federation → Type 0 = λ x. has_member n x ≡ true in
    Contains-append_left f.parties (members_of fs) n (stands_in n f.parties (subst P (sym e) there))
member_in (f ∷ fs) n g (suc k, h, e) there = Contains-append_right f.parties (members_of fs) n (member_in fs n g (k, omega arith, e) there)

-- so the federation that has a number is the one that a search finds
find_of : (fs : List Federation) (n : ℕ) → AllPairs (λ a b. a ≢ b) (members_of fs) → (g : Federation) → Contains fs g → has_member n g ≡ true
    → find (has_member n) fs ≡ Some g
find_of [] n apart g (k, h, e) there = absurd (omega arith)
find_of (f ∷ fs) n apart g (zero, h, e) there =
    let P : Federation → Type 0 = λ x. has_member n x ≡ true in
    let here : has_member n f ≡ true = subst P (sym e) there in
    rw here (ap Some e)
find_of (f ∷ fs) n apart g (suc k, h, e) there = elim (cases_Bool (has_member n f)) [
  | inl mine ↦ absurd (apart_parts f.parties (members_of fs) apart n (stands_in n f.parties mine) (member_in fs n g (k, omega arith, e) there))
  | inr other ↦ rw other (find_of fs n (apart_rest f.parties (members_of fs) apart) g (k, omega arith, e) there)
]

-- where none is found none has it
find_none : (fs : List Federation) (n : ℕ) → find (has_member n) fs ≡ None → (g : Federation) → Contains fs g → has_member n g ≡ true → ⊥
find_none [] n none g (k, h, e) there = omega arith
find_none (f ∷ fs) n none g (zero, h, e) there =
    let P : Federation → Type 0 = λ x. has_member n x ≡ true in
    let here : has_member n f ≡ true = subst P (sym e) there in
    let found : Some f ≡ None = rw here at none in
    cc
find_none (f ∷ fs) n none g (suc k, h, e) there = elim (cases_Bool (has_member n f)) [
  | inl mine ↦ (let found : Some f ≡ None = rw mine at none in cc)
  | inr other ↦ find_none fs n (rw other at none) g (k, omega arith, e) there
]

find_contains : (fs : List Federation) (n : ℕ) (f : Federation) → find (has_member n) fs ≡ Some f → Contains fs f
find_contains [] n f e = cc
find_contains (g ∷ fs) n f e = elim (cases_Bool (has_member n g)) [
  | inl mine ↦ (let found : Some g ≡ Some f = rw mine at e in let same : g ≡ f = cc in (0, omega arith, same))
  | inr other ↦ (let (k, h, at) = find_contains fs n f (rw other at e) in (suc k, omega arith, at))
]

-- ---- the number of a bloc

alone : (fs : List Federation) (party : ℕ) → find (has_member party) fs ≡ None → bloc_of fs party ≡ party
alone fs party none = ap (λ (o : Option Federation). option_map_or (λ f. lowest f.parties) o party) none

in_federation : (t : TablesData) (f : Federation) (party : ℕ) → IsTables t → Contains t.federations f → has_member party f ≡ true
    → bloc_of t.federations party ≡ lowest f.parties
in_federation t f party is among there =
    ap (λ (o : Option Federation). option_map_or (λ g. lowest g.parties) o party) (find_of t.federations party is.members f among there)

own_member : (t : TablesData) (f : Federation) → IsTables t → Contains t.federations f → has_member (lowest f.parties) f ≡ true
own_member t f is among =
    let count = (All-contains (IsFederation t.parties) t.federations f is.federations among).count in
    lowest_in f.parties (omega (arith, count.0))

lowest_by : (t : TablesData) (party : ℕ) → IsTables t → (o : Option Federation) → find (has_member party) t.federations ≡ o
    → (bloc_of t.federations party ≤ party) × (bloc_of t.federations (bloc_of t.federations party) ≡ bloc_of t.federations party)
lowest_by t party is None e =
    let same = alone t.federations party e in
    (omega (arith, same), ap (bloc_of t.federations) same)
lowest_by t party is (Some f) e =
    let among = find_contains t.federations party f e in
    let there = find_passes (has_member party) t.federations f e in
    let same = in_federation t f party is among there in (
      omega (arith, same, lowest_below f.parties party there),
      ap (bloc_of t.federations) same ∙ in_federation t f (lowest f.parties) is among (own_member t f is among) ∙ sym same,
    )

pub bloc_is_lowest : BlocIsLowest
bloc_is_lowest t party is = lowest_by t party is (find (has_member party) t.federations) refl

party_by : (t : TablesData) (party : ℕ) → IsTables t → list_any (λ q. q.number == party) t.parties ≡ true → (o : Option Federation)
    → find (has_member party) t.federations ≡ o → list_any (λ q. q.number == bloc_of t.federations party) t.parties ≡ true
party_by t party is there None e =
    let P : ℕ → Type 0 = λ n. list_any (λ q. q.number == n) t.parties ≡ true in
    subst P (sym (alone t.federations party e)) there
party_by t party is there (Some f) e =
    let P : ℕ → Type 0 = λ n. list_any (λ q. q.number == n) t.parties ≡ true in
    let among = find_contains t.federations party f e in
    let members = (All-contains (IsFederation t.parties) t.federations f is.federations among).members in
    let own : P (lowest f.parties) = All-contains P f.parties (lowest f.parties) members (stands_in (lowest f.parties) f.parties (own_member t f is among)) in
    subst P (sym (in_federation t f party is among (find_passes (has_member party) t.federations f e))) own

pub bloc_is_party : BlocIsParty
bloc_is_party t party is there = party_by t party is there (find (has_member party) t.federations) refl

-- ---- two parties of one bloc

abbrev AreAllied : TablesData → ℕ → ℕ → Type 0
AreAllied t p q = Any (λ f. (has_member p f && has_member q f) ≡ true) t.federations

-- two federations with one lowest number are one
allied_by : (t : TablesData) (p q : ℕ) (f g : Federation) → IsTables t → Contains t.federations f → Contains t.federations g
    → has_member p f ≡ true → has_member q g ≡ true → lowest f.parties ≡ lowest g.parties → AreAllied t p q
allied_by t p q f g is (k, h, at) among p_there q_there same =
    let own : has_member (lowest f.parties) f ≡ true = own_member t f is (k, h, at) in
    let shared : has_member (lowest f.parties) g ≡ true = (let P : ℕ → Type 0 = λ n. has_member n g ≡ true in subst P (sym same) (own_member t g is among)) in
    let one : Some f ≡ Some g = sym (find_of t.federations (lowest f.parties) is.members f (k, h, at) own) ∙ find_of t.federations (lowest f.parties) is.members g among shared in
    let is_one : g ≡ f = cc in
    let Q : Federation → Type 0 = λ x. has_member q x ≡ true in
    (k, f, h, at, and_from _ _ p_there (subst Q is_one q_there))

-- the lowest number of a federation is in no other bloc
never_alone : (t : TablesData) (p q : ℕ) (g : Federation) → IsTables t → find (has_member p) t.federations ≡ None → find (has_member q) t.federations ≡ Some g
    → bloc_of t.federations p ≡ bloc_of t.federations q → ⊥
never_alone t p q g is none some same =
    let among = find_contains t.federations q g some in
    let number : lowest g.parties ≡ p = sym (in_federation t g q is among (find_passes (has_member q) t.federations g some)) ∙ sym same ∙ alone t.federations p none in
    let P : ℕ → Type 0 = λ n. has_member n g ≡ true in
    find_none t.federations p none g among (subst P number (own_member t g is among))

one_bloc : (t : TablesData) (p q : ℕ) → IsTables t → (a b : Option Federation) → find (has_member p) t.federations ≡ a → find (has_member q) t.federations ≡ b
    → bloc_of t.federations p ≡ bloc_of t.federations q → (p ≡ q) ⊎ AreAllied t p q
one_bloc t p q is None None e f same = inl (sym (alone t.federations p e) ∙ same ∙ alone t.federations q f)
one_bloc t p q is None (Some g) e f same = absurd (never_alone t p q g is e f same)
one_bloc t p q is (Some g) None e f same = absurd (never_alone t q p g is f e (sym same))
one_bloc t p q is (Some x) (Some y) e f same =
    let at_x = find_contains t.federations p x e in
    let at_y = find_contains t.federations q y f in
    let p_there = find_passes (has_member p) t.federations x e in
    let q_there = find_passes (has_member q) t.federations y f in
    inr (allied_by t p q x y is at_x at_y p_there q_there (sym (in_federation t x p is at_x p_there) ∙ same ∙ in_federation t y q is at_y q_there))

allied : (t : TablesData) (p q : ℕ) → IsTables t → AreAllied t p q → bloc_of t.federations p ≡ bloc_of t.federations q
allied t p q is (k, f, h, at, both) =
    let (p_there, q_there) = and_parts (has_member p f) (has_member q f) both in
    in_federation t f p is (k, h, at) p_there ∙ sym (in_federation t f q is (k, h, at) q_there)

pub blocs_are_federations : BlocsAreFederations
blocs_are_federations t p q is = (
  one_bloc t p q is (find (has_member p) t.federations) (find (has_member q) t.federations) refl refl,
  λ either. elim either [
    | inl same ↦ ap (bloc_of t.federations) same
    | inr f ↦ allied t p q is f
  ],
)

-- ---- a bloc that is a federation

any_by : (test : Federation → Bool) (fs : List Federation) (f : Federation) → Contains fs f → test f ≡ true → list_any test fs ≡ true
any_by test [] f (k, h, at) passes = absurd (omega arith)
any_by test (g ∷ fs) f (zero, h, at) passes = let here : test g ≡ true = ap test at ∙ passes in rw here refl
any_by test (g ∷ fs) f (suc k, h, at) passes = elim (cases_Bool (test g)) [
  | inl here ↦ rw here refl
  | inr other ↦ rw other (any_by test fs f (k, omega arith, at) passes)
]

none_by : (test : Federation → Bool) (fs : List Federation) → find test fs ≡ None → list_any test fs ≡ false
none_by test [] none = refl
none_by test (f ∷ fs) none = elim (cases_Bool (test f)) [
  | inl here ↦ absurd (let found : Some f ≡ None = rw here at none in cc)
  | inr other ↦ rw other (none_by test fs (rw other at none))
]

called_by : (t : TablesData) (party : ℕ) → IsTables t → (o : Option Federation) → find (has_member party) t.federations ≡ o
    → is_federation t.federations (bloc_of t.federations party) ≡ list_any (has_member party) t.federations
called_by t party is None e =
    let has : Federation → Bool = λ f. lowest f.parties == bloc_of t.federations party in
    elim (cases_Bool (list_any has t.federations)) [
      | inl some ↦
          let (k, f, h, at, same) = Any-from_list_any has t.federations some in
          let number : lowest f.parties ≡ party = eqb-true (lowest f.parties) (bloc_of t.federations party) same ∙ alone t.federations party e in
          let P : ℕ → Type 0 = λ n. has_member n f ≡ true in
          absurd (find_none t.federations party e f (k, h, at) (subst P number (own_member t f is (k, h, at))))
      | inr none ↦ none ∙ sym (none_by (has_member party) t.federations e)
    ]
called_by t party is (Some f) e =
    let among = find_contains t.federations party f e in
    let there = find_passes (has_member party) t.federations f e in
    let number = in_federation t f party is among there in
    any_by (λ g. lowest g.parties == bloc_of t.federations party) t.federations f among (eq-eqb (lowest f.parties) (bloc_of t.federations party) (sym number))
    ∙ sym (any_by (has_member party) t.federations f among there)

pub federation_is_told : FederationIsTold
federation_is_told t party is = called_by t party is (find (has_member party) t.federations) refl

-- ---- the calls

-- a party has a name exactly where it is in the tables
pub named_party : (ps : List Party) (number : ℕ) (r : Option (Bor (List ℕ))) → option_copied r ≡ party_name number ps → is_some r ≡ list_any (λ q. q.number == number) ps
named_party ps number r e = same_some r ∙ ap is_some e ∙ found ps number
  where
    same_some : (r : Option (Bor (List ℕ))) → is_some r ≡ is_some (option_copied r)
    same_some None = refl
    same_some (Some s) = refl

    found : (ps : List Party) (number : ℕ) → is_some (party_name number ps) ≡ list_any (λ q. q.number == number) ps
    found [] number = refl
    found (q ∷ qs) number = elim (cases_Bool (q.number == number)) [
      | inl same ↦ rw same refl
      | inr other ↦ rw other (found qs number)
    ]

pub bloc_there : (fs : List Federation) (ps : List Party) (party : ℕ) → list_any (λ q. q.number == party) ps ≡ true
    → Some (bloc_of fs party) ≡ option_map (λ q. bloc_of fs q.number) (find (λ q. q.number == party) ps)
bloc_there fs [] party e = absurd (false≢true e)
bloc_there fs (q ∷ qs) party e = elim (cases_Bool (q.number == party)) [
  | inl same ↦ (let number : party ≡ q.number = sym (eqb-true q.number party same) in rw same (ap (λ (n : ℕ). Some (bloc_of fs n)) number))
  | inr other ↦ rw other (bloc_there fs qs party (rw other at e))
]

pub bloc_gone : (fs : List Federation) (ps : List Party) (party : ℕ) → list_any (λ q. q.number == party) ps ≡ false
    → None ≡ option_map (λ q. bloc_of fs q.number) (find (λ q. q.number == party) ps)
bloc_gone fs [] party e = refl
bloc_gone fs (q ∷ qs) party e = elim (cases_Bool (q.number == party)) [
  | inl same ↦ absurd (false≢true (sym e ∙ rw same refl))
  | inr other ↦ rw other (bloc_gone fs qs party (rw other at e))
]

-- a party's number has two digits, and so a bloc's
party_digits : (ps : List Party) (n : ℕ) → All IsParty ps → list_any (λ q. q.number == n) ps ≡ true → (10 ≤ n) × (n ≤ 99)
party_digits ps n all e =
    let (k, q, h, at, same) = Any-from_list_any (λ q. q.number == n) ps e in
    let P : ℕ → Type 0 = λ m. (10 ≤ m) × (m ≤ 99) in
    subst P (eqb-true q.number n same) (All-contains IsParty ps q all (k, h, at)).number

pub bloc_digits : (t : TablesData) (party : ℕ) → IsTables t → list_any (λ q. q.number == party) t.parties ≡ true
    → (10 ≤ bloc_of t.federations party) × (bloc_of t.federations party ≤ 99)
bloc_digits t party is there = party_digits t.parties (bloc_of t.federations party) is.parties (bloc_is_party t party is there)

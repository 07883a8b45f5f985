-- The bags after one voter's choices
use Rattle.std.proofs.Common.{◌≡◌, ℕ, zero, suc, ◌+◌, ◌*◌, ◌<◌, true, false, List, [], ◌∷◌, length, map, get_or, slice_get, IsSomeAnd, Bool, cond, nat_eq, replicate, unwrap_or, Option, refl, sym, ap, subst, ◌∙◌, arith, add-one}
use Rattle.std.specs.List.{AllByRecursion, count_by}
use Rattle.std.proofs.lemmas.Bool.Decides.{nat_tests}
use Rattle.std.proofs.lemmas.List.{length-map}
use Rattle.std.proofs.lemmas.List.Sums.{sum_by-cons}
use Rattle.election_tables.specs.TablesData.{TablesData, line_panels, places_at, places_in, places_of}
use Rattle.election_tables.specs.declared.tables.panels.Panel.{Panel}
use Rattle.election_tables.proofs.LinePanels.{count_of_panel}
use Rattle.vote_kinds.specs.declared.choice.Choice.{Choice}
use Rattle.vote_kinds.specs.declared.choice.Choice.TheVariants as choice
use Rattle.vote_kinds.specs.Choice.{choice_le}
use Rattle.vote_kinds.specs.Ballot.{BallotLine, ballot_lines, lines_by_panel, lines_from, line_for, line_of, no_panel, is_choice}
use Rattle.vote_record.specs.Bag.{IsInOrder, with_choice, bag_at, with_vote}
use Rattle.vote_record.proofs.Bags.{with_vote-swap, length-with_vote, length-with_choice, in_order-with_choice}
use Rattle.vote_record.proofs.Empty.{bag_at-replicate}
use Rattle.image_codec.specs.State.{with_votes, AreFirst}
use Rattle.image_codec.specs.Valid.{AllHaveVoted, HasChoices}
use Rattle.image_codec.proofs.Full.{full_at, full_by, full_many}

-- of choices of the first lines, each is a choice of its line
pub choice_at : (lines : List BallotLine) (choices : List Choice) (k : ℕ) (d : Choice) → AreFirst lines choices → k < length choices
    → IsSomeAnd (slice_get lines k) (λ line. is_choice line (get_or choices k d) ≡ true)
choice_at lines [] k d first lt = absurd (omega arith)
choice_at [] (c ∷ choices) k d first lt = absurd first
choice_at (line ∷ lines) (c ∷ choices) zero d first lt = first.0
choice_at (line ∷ lines) (c ∷ choices) (suc k) d first lt = choice_at lines choices k d first.1 (omega arith)

-- Ballots in any order

with_votes-vote : (lines : List BallotLine) (choices : List Choice) (p : ℕ) (a : Choice) (bags : List (List Choice)) → with_votes lines choices (with_vote p a bags) ≡ with_vote p a (with_votes lines choices bags)
with_votes-vote [] choices p a bags = refl
with_votes-vote (l ∷ lines) [] p a bags = refl
with_votes-vote (l ∷ lines) (c ∷ choices) p a bags =
    ap (with_votes lines choices) (with_vote-swap l.panel p c a bags) ∙ with_votes-vote lines choices p a (with_vote l.panel c bags)

-- two ballots in either order
pub with_votes-swap : (lines others : List BallotLine) (xs ys : List Choice) (bags : List (List Choice)) → with_votes lines xs (with_votes others ys bags) ≡ with_votes others ys (with_votes lines xs bags)
with_votes-swap [] others xs ys bags = refl
with_votes-swap (l ∷ lines) others [] ys bags = refl
with_votes-swap (l ∷ lines) others (x ∷ xs) ys bags =
    ap (with_votes lines xs) (sym (with_votes-vote others ys l.panel x bags)) ∙ with_votes-swap lines others xs ys (with_vote l.panel x bags)

-- A whole ballot gives each panel the votes that a voter has in it

pub length-with_votes : (lines : List BallotLine) (choices : List Choice) (bags : List (List Choice)) → length (with_votes lines choices bags) ≡ length bags
length-with_votes [] choices bags = refl
length-with_votes (l ∷ lines) [] bags = refl
length-with_votes (l ∷ lines) (c ∷ choices) bags = length-with_votes lines choices (with_vote l.panel c bags) ∙ length-with_vote l.panel c bags

-- a vote makes the bag of its panel longer, and no other
pub length-one_vote : (panel k : ℕ) (c : Choice) (bags : List (List Choice)) → panel < length bags
    → length (bag_at (with_vote k c bags) panel) ≡ length (bag_at bags panel) + cond (nat_eq panel k) 1 0
length-one_vote panel k c [] lt = absurd (omega arith)
length-one_vote zero zero c (b ∷ bags) lt = omega (arith, length-with_choice c b)
length-one_vote (suc panel) zero c (b ∷ bags) lt =
    let other : nat_eq (suc panel) zero ≡ false = grind (arith, nat_tests) in rw other (omega arith)
length-one_vote zero (suc k) c (b ∷ bags) lt =
    let other : nat_eq zero (suc k) ≡ false = grind (arith, nat_tests) in rw other (omega arith)
length-one_vote (suc panel) (suc k) c (b ∷ bags) lt =
    let same : nat_eq (suc panel) (suc k) ≡ nat_eq panel k = grind (arith, nat_tests) in
    rw same (length-one_vote panel k c bags (omega arith))

-- how many of these lines are of a panel
abbrev of_panel : ℕ → List BallotLine → ℕ
of_panel panel lines = count_by (λ l. nat_eq panel l.panel) lines

length-all_votes : (lines : List BallotLine) (choices : List Choice) (bags : List (List Choice)) (panel : ℕ) → length choices ≡ length lines → panel < length bags
    → length (bag_at (with_votes lines choices bags) panel) ≡ length (bag_at bags panel) + of_panel panel lines
length-all_votes [] choices bags panel k lt = omega arith
length-all_votes (l ∷ lines) [] bags panel k lt = absurd (omega arith)
length-all_votes (l ∷ lines) (c ∷ choices) bags panel k lt =
    let kept : panel < length (with_vote l.panel c bags) = omega (arith, length-with_vote l.panel c bags) in
    let rest = length-all_votes lines choices (with_vote l.panel c bags) panel (omega arith) kept in
    omega (arith, rest, length-one_vote panel l.panel c bags lt, sum_by-cons (λ (m : BallotLine). cond (nat_eq panel m.panel) 1 0) l lines)

of_panels : (t : TablesData) (panel : ℕ) (panels : List ℕ) → of_panel panel (map (line_of t) panels) ≡ count_by (nat_eq panel) panels
of_panels t panel [] = refl
of_panels t panel (k ∷ panels) =
    sum_by-cons (λ (m : BallotLine). cond (nat_eq panel m.panel) 1 0) (line_of t k) (map (line_of t) panels)
    ∙ (ap (λ (n : ℕ). cond (nat_eq panel k) 1 0 + n) (of_panels t panel panels)
    ∙ sym (sum_by-cons (λ (p : ℕ). cond (nat_eq panel p) 1 0) k panels))

-- the lines of a panel are as many as the votes that a voter has in it
lines_of_panel : (t : TablesData) (panel : ℕ) → panel < length t.panels → of_panel panel (ballot_lines t) ≡ places_at t panel
unfolding ballot_lines
lines_of_panel t panel lt = of_panels t panel (line_panels t) ∙ count_of_panel t panel lt

pub full-with_votes : (t : TablesData) (choices : List Choice) (bags : List (List Choice)) (n : ℕ)
    → length choices ≡ length (ballot_lines t) → AllHaveVoted n (places_of t) bags → AllHaveVoted (n + 1) (places_of t) (with_votes (ballot_lines t) choices bags)
full-with_votes t choices bags n k full =
    let as_many = full_many n (places_of t) bags full in
    let same = length-with_votes (ballot_lines t) choices bags in
    full_by (n + 1) (places_of t) (with_votes (ballot_lines t) choices bags) (same ∙ as_many) (λ panel small.
    let lt : panel < length bags = omega (arith, same, small) in
    let of_tables : panel < length t.panels = omega (arith, lt, as_many, length-map t.panels places_in) in
    let were = full_at n (places_of t) bags panel full lt in
    let more = length-all_votes (ballot_lines t) choices bags panel k lt in
    let lines = lines_of_panel t panel of_tables in
    let product : (n + 1) * places_at t panel ≡ n * places_at t panel + places_at t panel = grind arith in
    omega (arith, were, more, lines, product))

in_order-with_vote : (panel : ℕ) (c : Choice) (bags : List (List Choice)) → AllByRecursion IsInOrder bags → AllByRecursion IsInOrder (with_vote panel c bags)
in_order-with_vote panel c [] order = tt
in_order-with_vote zero c (b ∷ bags) order = (in_order-with_choice c b order.0, order.1)
in_order-with_vote (suc panel) c (b ∷ bags) order = (order.0, in_order-with_vote panel c bags order.1)

pub in_order-with_votes : (lines : List BallotLine) (choices : List Choice) (bags : List (List Choice)) → AllByRecursion IsInOrder bags → AllByRecursion IsInOrder (with_votes lines choices bags)
in_order-with_votes [] choices bags order = order
in_order-with_votes (l ∷ lines) [] bags order = order
in_order-with_votes (l ∷ lines) (c ∷ choices) bags order = in_order-with_votes lines choices (with_vote l.panel c bags) (in_order-with_vote l.panel c bags order)

-- Each vote is a choice of its panel

-- a panel's number does not change what may be chosen
is_choice-panel : (t : TablesData) (m n : ℕ) (p : Panel) (c : Choice) → is_choice (line_for t m p) c ≡ is_choice (line_for t n p) c
is_choice-panel t m n p (choice.Nominal number) = refl
is_choice-panel t m n p (choice.Party number) = refl
is_choice-panel t m n p choice.Blank = refl
is_choice-panel t m n p choice.Null = refl

abbrev pub AreOf : BallotLine → List Choice → Type 0
AreOf line bag = AllByRecursion (λ c. is_choice line c ≡ true) bag

pub of-panel : (t : TablesData) (m n : ℕ) (p : Panel) (bag : List Choice) → AreOf (line_for t m p) bag → AreOf (line_for t n p) bag
of-panel t m n p [] all = tt
of-panel t m n p (c ∷ bag) all = (is_choice-panel t n m p c ∙ all.0, of-panel t m n p bag all.1)

bag_at-after : (b : List Choice) (bags : List (List Choice)) (panel : ℕ) → bag_at (b ∷ bags) (panel + 1) ≡ bag_at bags panel
bag_at-after b bags panel = ap (λ (n : ℕ). bag_at (b ∷ bags) n) (add-one panel)

pub choices_below : (t : TablesData) (first : ℕ) (panels : List Panel) (b : List Choice) (bags : List (List Choice))
    → HasChoices (lines_from t (first + 1) panels) (b ∷ bags) → HasChoices (lines_from t first panels) bags
choices_below t first [] b bags has = tt
choices_below t first (p ∷ panels) b bags has =
    (of-panel t (first + 1) first p (bag_at bags first) (subst (AreOf (line_for t (first + 1) p)) (bag_at-after b bags first) has.0), choices_below t (first + 1) panels b bags has.1)

pub choices_after : (t : TablesData) (first : ℕ) (panels : List Panel) (b : List Choice) (bags : List (List Choice))
    → HasChoices (lines_from t first panels) bags → HasChoices (lines_from t (first + 1) panels) (b ∷ bags)
choices_after t first [] b bags has = tt
choices_after t first (p ∷ panels) b bags has =
    (subst (AreOf (line_for t (first + 1) p)) (sym (bag_at-after b bags first)) (of-panel t first (first + 1) p (bag_at bags first) has.0), choices_after t (first + 1) panels b bags has.1)

of-cond : (line : BallotLine) (b : Bool) (xs ys : List Choice) → AreOf line xs → AreOf line ys → AreOf line (cond b xs ys)
of-cond line true xs ys h g = h
of-cond line false xs ys h g = g

of-with_choice : (line : BallotLine) (c : Choice) (bag : List Choice) → is_choice line c ≡ true → AreOf line bag → AreOf line (with_choice c bag)
of-with_choice line c [] h all = (h, tt)
of-with_choice line c (d ∷ bag) h all = of-cond line (choice_le c d) (c ∷ d ∷ bag) (d ∷ with_choice c bag) (h, all) (all.0, of-with_choice line c bag h all.1)

of-one_vote : (line : BallotLine) (k panel : ℕ) (c : Choice) (bags : List (List Choice)) → (panel ≡ k → is_choice line c ≡ true)
    → AreOf line (bag_at bags panel) → AreOf line (bag_at (with_vote k c bags) panel)
of-one_vote line k panel c [] h all = all
of-one_vote line zero zero c (b ∷ bags) h all = of-with_choice line c b (h refl) all
of-one_vote line zero (suc panel) c (b ∷ bags) h all = all
of-one_vote line (suc k) zero c (b ∷ bags) h all = all
of-one_vote line (suc k) (suc panel) c (b ∷ bags) h all = of-one_vote line k panel c bags (λ same. h (ap suc same)) all

-- lines that are those of their panels
abbrev AreLinesOf : TablesData → List BallotLine → Type 0
AreLinesOf t lines = AllByRecursion (λ l. line_of t l.panel ≡ l) lines

choices-one_vote : (t : TablesData) (lines : List BallotLine) (k : ℕ) (c : Choice) (bags : List (List Choice)) → AreLinesOf t lines → is_choice (line_of t k) c ≡ true
    → HasChoices lines bags → HasChoices lines (with_vote k c bags)
choices-one_vote t [] k c bags own is has = tt
choices-one_vote t (l ∷ lines) k c bags own is has =
    let chosen : l.panel ≡ k → is_choice l c ≡ true = λ same. subst (λ (m : BallotLine). is_choice m c ≡ true) (ap (line_of t) (sym same) ∙ own.0) is in
    (of-one_vote l k l.panel c bags chosen has.0, choices-one_vote t lines k c bags own.1 is has.1)

choices-all_votes : (t : TablesData) (lines others : List BallotLine) (choices : List Choice) (bags : List (List Choice)) → AreLinesOf t lines → AreLinesOf t others
    → AreFirst others choices → HasChoices lines bags → HasChoices lines (with_votes others choices bags)
choices-all_votes t lines [] choices bags own also of has = has
choices-all_votes t lines (l ∷ others) [] bags own also of has = has
choices-all_votes t lines (l ∷ others) (c ∷ choices) bags own also of has =
    let is : is_choice (line_of t l.panel) c ≡ true = subst (λ (m : BallotLine). is_choice m c ≡ true) (sym also.0) of.0 in
    choices-all_votes t lines others choices (with_vote l.panel c bags) own also.1 of.1 (choices-one_vote t lines l.panel c bags own is has)

own_from : (t : TablesData) (first : ℕ) (panels : List Panel) → ((n : ℕ) → slice_get panels n ≡ slice_get t.panels (first + n)) → AreLinesOf t (lines_from t first panels)
own_from t first [] same = tt
own_from t first (p ∷ panels) same =
    let here : slice_get t.panels first ≡ slice_get (p ∷ panels) 0 = ap (slice_get t.panels) (omega arith) ∙ sym (same 0) in (
      ap (λ (o : Option Panel). line_for t first (unwrap_or o no_panel)) here,
      own_from t (first + 1) panels (λ n. same (suc n) ∙ ap (slice_get t.panels) (omega arith)),
    )

own_panels : (t : TablesData) → AreLinesOf t (lines_by_panel t)
unfolding lines_by_panel
own_panels t = own_from t 0 t.panels (λ n. ap (slice_get t.panels) (omega arith))

own_lines : (t : TablesData) (panels : List ℕ) → AreLinesOf t (map (line_of t) panels)
own_lines t [] = tt
own_lines t (k ∷ panels) = (refl, own_lines t panels)

own_ballot : (t : TablesData) → AreLinesOf t (ballot_lines t)
unfolding ballot_lines
own_ballot t = own_lines t (line_panels t)

pub choices-with_votes : (t : TablesData) (choices : List Choice) (bags : List (List Choice))
    → AreFirst (ballot_lines t) choices → HasChoices (lines_by_panel t) bags → HasChoices (lines_by_panel t) (with_votes (ballot_lines t) choices bags)
choices-with_votes t choices bags of has = choices-all_votes t (lines_by_panel t) (ballot_lines t) choices bags (own_panels t) (own_ballot t) of has

-- a record with no votes has none that may not be
pub choices-empty : (lines : List BallotLine) (n : ℕ) → HasChoices lines (replicate n [])
choices-empty [] n = tt
choices-empty (line ∷ lines) n = (subst (AreOf line) (sym (bag_at-replicate n line.panel)) tt, choices-empty lines n)

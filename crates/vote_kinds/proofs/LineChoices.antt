-- The choices of a line: they rise, and are just what may be chosen there
use Rattle.std.proofs.Common.{◌≡◌, ℕ, suc, ◌+◌, ◌<◌, Bool, true, false, cond, ◌&&◌, ◌||◌, nat_eq, List, [], ◌∷◌, ◌++◌, get_or, map, slice_get, unwrap_or, Option, Some, None, inl, inr, refl, sym, ap, subst, ◌∙◌, arith}
use Rattle.std.specs.List.{AllByRecursion, AllPairs, list_any}
use Rattle.std.specs.List.Sorted.{IsStrictlyIncreasing}
use Rattle.std.proofs.lemmas.Bool.Decides.{nat_tests}
use Rattle.std.proofs.lemmas.List.Elements.{recursion_from_All}
use Rattle.std.proofs.lemmas.List.Folds.{list_any-append, list_any_at}
use Rattle.std.proofs.lemmas.List.Kept.{AllPairs-from_increasing}
use Rattle.std.proofs.lemmas.Option.{slice_get_cases, same_Some}
use Rattle.election_tables.specs.TablesData.{TablesData, IsTables, IsPanel}
use Rattle.election_tables.specs.declared.tables.panels.Panel.{Panel}
use Rattle.vote_kinds.specs.declared.choice.Choice.{Choice}
use Rattle.vote_kinds.specs.declared.choice.Choice.TheVariants as choice
use Rattle.vote_kinds.specs.Ballot.{BallotLine, choices_of, is_choice, lines_by_panel, lines_from, line_for, line_of, no_panel}
use Rattle.vote_kinds.specs.Choice.{AreRising, choice_le, is_same}

-- Rising numbers

abbrev NumbersRise : List ℕ → Type 0
NumbersRise [] = Unit {0}
NumbersRise (n ∷ ns) = AllByRecursion (λ m. n < m) ns × NumbersRise ns

rise_pairs : (ns : List ℕ) → AllPairs (λ m n. m < n) ns → NumbersRise ns
rise_pairs [] pairs = tt
rise_pairs (n ∷ ns) pairs =
    (recursion_from_All (λ m. n < m) ns (λ k d lt. pairs 0 (suc k) d (omega arith) (omega arith)), rise_pairs ns (λ i j d lt within. pairs (suc i) (suc j) d (omega arith) (omega arith)))

numbers_rise : (ns : List ℕ) → IsStrictlyIncreasing ns → NumbersRise ns
numbers_rise ns up = rise_pairs ns (AllPairs-from_increasing ns up)

-- The choices of a line rise

-- choices that are made of numbers, and stand in the order of these
module _ (made_of : ℕ → Choice) (in_order : (m n : ℕ) → m < n → choice_le (made_of n) (made_of m) ≡ false) where
  behind_one : (m : ℕ) (ns : List ℕ) (rest : List Choice) → AllByRecursion (λ n. m < n) ns → AllByRecursion (λ d. (n : ℕ) → choice_le d (made_of n) ≡ false) rest
      → AllByRecursion (λ d. choice_le d (made_of m) ≡ false) (map made_of ns ++ rest)
  behind_one m [] [] above behind = tt
  behind_one m [] (d ∷ rest) above behind = (behind.0 m, behind_one m [] rest above behind.1)
  behind_one m (n ∷ ns) rest above behind = (in_order m n above.0, behind_one m ns rest above.1 behind)

  -- they rise in front of others that stand behind them
  made_rise : (ns : List ℕ) (rest : List Choice) → NumbersRise ns → AllByRecursion (λ d. (n : ℕ) → choice_le d (made_of n) ≡ false) rest → AreRising rest
      → AreRising (map made_of ns ++ rest)
  made_rise [] rest rise behind more = more
  made_rise (n ∷ ns) rest rise behind more = (behind_one n ns rest rise.0 behind, made_rise ns rest rise.1 behind more)

nominal_order : (m n : ℕ) → m < n → choice_le (choice.Nominal n) (choice.Nominal m) ≡ false
nominal_order m n lt = grind (arith, nat_tests)

party_order : (m n : ℕ) → m < n → choice_le (choice.Party n) (choice.Party m) ≡ false
party_order m n lt = grind (arith, nat_tests)

abbrev party_part : Bool → List ℕ → List Choice
party_part proportional parties = cond proportional (map (λ n. choice.Party n) parties) []

abbrev blank_and_null : List Choice
blank_and_null = choice.Blank ∷ choice.Null ∷ []

two_rise : AreRising blank_and_null
two_rise = ((refl, tt), (tt, tt))

parties_rise : (proportional : Bool) (parties : List ℕ) → NumbersRise parties → AreRising (party_part proportional parties ++ blank_and_null)
parties_rise true parties rise = made_rise (λ n. choice.Party n) party_order parties blank_and_null rise (λ n. refl, (λ n. refl, tt)) two_rise
parties_rise false parties rise = two_rise

parties_behind : (parties : List ℕ) → AllByRecursion (λ d. (n : ℕ) → choice_le d (choice.Nominal n) ≡ false) (map (λ n. choice.Party n) parties ++ blank_and_null)
parties_behind [] = (λ n. refl, (λ n. refl, tt))
parties_behind (q ∷ parties) = (λ n. refl, parties_behind parties)

rest_behind : (proportional : Bool) (parties : List ℕ) → AllByRecursion (λ d. (n : ℕ) → choice_le d (choice.Nominal n) ≡ false) (party_part proportional parties ++ blank_and_null)
rest_behind true parties = parties_behind parties
rest_behind false parties = (λ n. refl, (λ n. refl, tt))

choices_rise : (line : BallotLine) → NumbersRise line.candidates → NumbersRise line.parties → AreRising (choices_of line)
choices_rise line candidates parties =
    made_rise (λ n. choice.Nominal n) nominal_order line.candidates (party_part line.proportional line.parties ++ blank_and_null) candidates
    (rest_behind line.proportional line.parties) (parties_rise line.proportional line.parties parties)

-- They are what may be chosen

any_made : (p : Choice → Bool) (made_of : ℕ → Choice) (ns : List ℕ) → list_any p (map made_of ns) ≡ list_any (λ n. p (made_of n)) ns
any_made p made_of [] = refl
any_made p made_of (n ∷ ns) = ap (λ (b : Bool). p (made_of n) || b) (any_made p made_of ns)

any_party : (p : Choice → Bool) (proportional : Bool) (parties : List ℕ) → list_any p (party_part proportional parties) ≡ (proportional && list_any (λ n. p (choice.Party n)) parties)
any_party p true parties = any_made p (λ n. choice.Party n) parties
any_party p false parties = refl

-- some choice of a line passes a test where a candidate's does, a party's, blank or null
any_choice : (line : BallotLine) (p : Choice → Bool) → list_any p (choices_of line)
    ≡ (list_any (λ n. p (choice.Nominal n)) line.candidates || ((line.proportional && list_any (λ n. p (choice.Party n)) line.parties) || list_any p blank_and_null))
any_choice line p =
    let nominal : List Choice = map (λ n. choice.Nominal n) line.candidates in
    let party : List Choice = party_part line.proportional line.parties in
    list_any-append p nominal (party ++ blank_and_null)
    ∙ ap (λ (b : Bool). b || list_any p (party ++ blank_and_null)) (any_made p (λ n. choice.Nominal n) line.candidates)
    ∙ ap (λ (b : Bool). list_any (λ n. p (choice.Nominal n)) line.candidates || b)
    (list_any-append p party blank_and_null ∙ ap (λ (b : Bool). b || list_any p blank_and_null) (any_party p line.proportional line.parties))

none_of : (ns : List ℕ) → list_any (λ n. false) ns ≡ false
none_of [] = refl
none_of (n ∷ ns) = none_of ns

or_false : (b : Bool) → (b || false) ≡ b
or_false true = refl
or_false false = refl

and_false : (b c : Bool) → c ≡ false → (b && c) ≡ false
and_false true c e = e
and_false false c e = refl

or_true : (b c : Bool) → (b || (c || true)) ≡ true
or_true true c = refl
or_true false true = refl
or_true false false = refl

-- a choice may be made on a line exactly where it is one of the line's
pub choice_is_one : (line : BallotLine) (c : Choice) → is_choice line c ≡ list_any (is_same c) (choices_of line)
choice_is_one line (choice.Nominal number) =
    let among : Bool = list_any (nat_eq number) line.candidates in
    sym (any_choice line (is_same (choice.Nominal number))
    ∙ ap (λ (b : Bool). among || (b || false)) (and_false line.proportional (list_any (λ n. false) line.parties) (none_of line.parties))
    ∙ or_false among)
choice_is_one line (choice.Party number) =
    let among : Bool = line.proportional && list_any (nat_eq number) line.parties in
    sym (any_choice line (is_same (choice.Party number)) ∙ ap (λ (b : Bool). b || (among || false)) (none_of line.candidates) ∙ or_false among)
choice_is_one line choice.Blank =
    sym (any_choice line (is_same choice.Blank) ∙ or_true (list_any (λ n. false) line.candidates) (line.proportional && list_any (λ n. false) line.parties))
choice_is_one line choice.Null =
    sym (any_choice line (is_same choice.Null) ∙ or_true (list_any (λ n. false) line.candidates) (line.proportional && list_any (λ n. false) line.parties))

pub same_refl : (c : Choice) → is_same c c ≡ true
same_refl c = grind (arith, nat_tests)

-- so each of them may be made
pub choices_are : (line : BallotLine) → AllByRecursion (λ c. is_choice line c ≡ true) (choices_of line)
choices_are line = recursion_from_All (λ c. is_choice line c ≡ true) (choices_of line) (λ k d lt.
    let c : Choice = get_or (choices_of line) k d in
    choice_is_one line c ∙ list_any_at (is_same c) (choices_of line) k d lt (same_refl c))

-- The lines of tables

line_rises : (t : TablesData) (number : ℕ) (p : Panel) → IsTables t → IsPanel t.parties p → AreRising (choices_of (line_for t number p))
line_rises t number p tables is =
    choices_rise (line_for t number p) (numbers_rise (map (λ c. c.number) p.candidates) is.rise) (numbers_rise (map (λ q. q.number) t.parties) tables.parties_rise)

from_rise : (t : TablesData) (first : ℕ) (panels : List Panel) → IsTables t → AllByRecursion (IsPanel t.parties) panels → AllByRecursion (λ line. AreRising (choices_of line)) (lines_from t first panels)
from_rise t first [] tables all = tt
from_rise t first (p ∷ panels) tables all = (line_rises t first p tables all.0, from_rise t (first + 1) panels tables all.1)

-- the choices of each line rise
pub lines_rise : (t : TablesData) → IsTables t → AllByRecursion (λ line. AreRising (choices_of line)) (lines_by_panel t)
unfolding lines_by_panel
lines_rise t tables = from_rise t 0 t.panels tables (recursion_from_All (IsPanel t.parties) t.panels tables.panels)

panel_found : (t : TablesData) (number : ℕ) (p : Panel) → IsTables t → slice_get t.panels number ≡ Some p → IsPanel t.parties p
panel_found t number p tables e = elim ((slice_get_cases t.panels number).1) [
  | inl found ↦ let same : found.0 ≡ p = same_Some found.0 p (sym found.2 ∙ e) in subst (IsPanel t.parties) (found.3 ∙ same) (tables.panels number found.0 found.1)
  | inr past ↦ let none : None ≡ Some p = sym past.1 ∙ e in absurd (cc)
]

panel_rises : (t : TablesData) (o : Option Panel) (number : ℕ) → IsTables t → ((p : Panel) → o ≡ Some p → IsPanel t.parties p) → AreRising (choices_of (line_for t number (unwrap_or o no_panel)))
panel_rises t None number tables is = two_rise
panel_rises t (Some p) number tables is = line_rises t number p tables (is p refl)

-- so do those of the line of a number, where there is no such panel too: these are blank and null
pub line_of_rises : (t : TablesData) (number : ℕ) → IsTables t → AreRising (choices_of (line_of t number))
line_of_rises t number tables = panel_rises t (slice_get t.panels number) number tables (λ p e. panel_found t number p tables e)

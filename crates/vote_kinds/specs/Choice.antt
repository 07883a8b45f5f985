-- The order of choices: nominal rising, party rising, blank, null
use Rattle.std.specs.Prelude.{◌≡◌, ℕ, Bool, false, ◌==◌, ◌&&◌, nat_le, nat_lt, if◌then◌else◌, List, [], ◌∷◌, Option, Some, None}
use Rattle.std.specs.List.{AllByRecursion}
use Rattle.vote_kinds.specs.declared.choice.Choice.{Choice}
use Rattle.vote_kinds.specs.declared.choice.Choice.TheVariants as choice

-- the kind of a choice as a number, as votes are written
abbrev pub kind_of : Choice → ℕ
kind_of (choice.Nominal number) = 1
kind_of (choice.Party number) = 2
kind_of choice.Blank = 3
kind_of choice.Null = 4

-- the number that a choice names, 0 where it names none
abbrev pub number_of : Choice → ℕ
number_of (choice.Nominal number) = number
number_of (choice.Party number) = number
number_of choice.Blank = 0
number_of choice.Null = 0

-- the choice of a kind and a number
abbrev pub choice_with : ℕ → ℕ → Option Choice
choice_with kind number =
    if kind == 1 then Some (choice.Nominal number)
    else (if kind == 2 && nat_lt number 256 then Some (choice.Party number)
    else (if kind == 3 && number == 0 then Some choice.Blank
    else (if kind == 4 && number == 0 then Some choice.Null
    else None)))

-- a stands before b, or is b
abbrev pub choice_le : Choice → Choice → Bool
choice_le a b = if kind_of a == kind_of b then nat_le (number_of a) (number_of b) else nat_lt (kind_of a) (kind_of b)

-- a is b
abbrev pub is_same : Choice → Choice → Bool
is_same a b = kind_of a == kind_of b && number_of a == number_of b

-- each of these choices stands before all later ones, and so none stands twice
abbrev pub AreRising : List Choice → Type 0
AreRising [] = Unit {0}
AreRising (c ∷ choices) = AllByRecursion (λ d. choice_le d c ≡ false) choices × AreRising choices

-- The field after a word of keys, by the whole word, and the words that end a line of the ballot
use Rattle.std.specs.Prelude.{◌≡◌, ℕ, ◌+◌, ◌*◌, Bool, true, false, not, List, [], ◌∷◌, ◌++◌, Option, filter, fold, length, take, nat_eq, ◌&&◌, if◌then◌else◌}
use Rattle.std.specs.List.{after_last}
use Rattle.key_script.specs.declared.keys.Key.{Key}
use Rattle.key_script.specs.declared.keys.Key.TheVariants as key
use Rattle.key_script.specs.Event.{is_correct, is_confirm}
use Rattle.vote_kinds.specs.declared.choice.Choice.{Choice}
use Rattle.vote_kinds.specs.declared.choice.Field.{Field}
use Rattle.vote_kinds.specs.declared.choice.Field.TheVariants as field
use Rattle.vote_kinds.specs.Ballot.{BallotLine, is_confirmable, choice_of}
use Rattle.voter_term.specs.declared.panel.Shown.{Shown}
use Rattle.voter_term.specs.declared.panel.Shown.TheVariants as shown

-- BRANCO and the digits
abbrev pub is_typed : Key → Bool
is_typed k = not (is_correct k) && not (is_confirm k)

-- BRANCO
abbrev pub is_blank : Key → Bool
is_blank (key.Digit d) = false
is_blank key.Blank = true
is_blank key.Correct = false
is_blank key.Confirm = false

-- the digits among some keys
abbrev pub digits_of : List Key → List ℕ
digits_of [] = []
digits_of (key.Digit d ∷ u) = d ∷ digits_of u
digits_of (key.Blank ∷ u) = digits_of u
digits_of (key.Correct ∷ u) = digits_of u
digits_of (key.Confirm ∷ u) = digits_of u

-- the number that digits write
abbrev pub value_of : List ℕ → ℕ
value_of ds = fold (λ value d. 10 * value + d) 0 ds

-- the field that some digits are
abbrev pub field_of_digits : List ℕ → Field
field_of_digits [] = field.Empty
field_of_digits (d ∷ ds) = field.Digits (length (d ∷ ds)) (value_of (d ∷ ds))

-- the field of the keys typed since the last CORRIGE: blank if they begin with BRANCO, and otherwise the first digits
abbrev pub field_of : ℕ → List Key → Field
field_of digits [] = field.Empty
field_of digits (k ∷ u) = if is_blank k then field.Blank else field_of_digits (take digits (digits_of (k ∷ u)))

-- the field after a word, where so many digits may stand: by what follows its last CORRIGE, without the CONFIRMA keys
abbrev pub field_after : ℕ → List Key → Field
field_after digits w = field_of digits (filter is_typed (after_last is_correct w))

-- No prefix of the word is a panel word: wherever CONFIRMA stands in it, the field before that could not be confirmed.
abbrev pub IsUnconfirmed : BallotLine → List Key → Type 0
IsUnconfirmed line w = (x y : List Key) → w ≡ x ++ key.Confirm ∷ y → is_confirmable line (field_after line.digits x) ≡ false

-- x and then CONFIRMA is a panel word, with this choice: the field after x may be confirmed, and no shorter prefix is one.
pub record Confirms (line : BallotLine) (earlier : Option Choice) (x : List Key) (choice : Choice) : Type 0 where
  pub confirmable : is_confirmable line (field_after line.digits x) ≡ true
  pub shortest : IsUnconfirmed line x
  pub chosen : choice ≡ choice_of line earlier (field_after line.digits x)

abbrev pub IsPanelWord : BallotLine → Option Choice → List Key → Choice → Type 0
IsPanelWord line earlier w choice = (x : List Key) × (w ≡ x ++ key.Confirm ∷ []) × Confirms line earlier x choice

-- two fields are the same
abbrev pub same_field : Field → Field → Bool
same_field field.Empty field.Empty = true
same_field field.Blank field.Blank = true
same_field (field.Digits count value) (field.Digits other_count other_value) = nat_eq count other_count && nat_eq value other_value
same_field field.Empty field.Blank = false
same_field field.Empty (field.Digits count value) = false
same_field field.Blank field.Empty = false
same_field field.Blank (field.Digits count value) = false
same_field (field.Digits count value) field.Empty = false
same_field (field.Digits count value) field.Blank = false

-- What one key shows after a word: CONFIRMA ends the line where the field may be confirmed, and each other key shows the
-- screen where it changes the field.
abbrev pub shown_by : BallotLine → Option Choice → List Key → Key → Shown
shown_by line earlier w k =
    if is_confirm k then (if is_confirmable line (field_after line.digits w) then shown.Voted (choice_of line earlier (field_after line.digits w)) else shown.Nothing)
    else (if same_field (field_after line.digits (w ++ k ∷ [])) (field_after line.digits w) then shown.Nothing else shown.Screen)

-- the field on the screen that a key shows, if it shows one
abbrev pub screen_in : Shown → Field → List Field
screen_in shown.Nothing f = []
screen_in shown.Screen f = f ∷ []
screen_in (shown.Voted choice) f = []

-- the fields on the screens that some keys show behind a word, in order
abbrev pub screens_behind : BallotLine → Option Choice → List Key → List Key → List Field
screens_behind line earlier w [] = []
screens_behind line earlier w (k ∷ keys) =
    screen_in (shown_by line earlier w k) (field_after line.digits (w ++ k ∷ [])) ++ screens_behind line earlier (w ++ k ∷ []) keys

-- What a key says of the word that it ends: Voted, that the word is a panel word with this choice; anything else, that no
-- panel word stands at the word's front.
abbrev pub Reads : BallotLine → Option Choice → List Key → Shown → Type 0
Reads line earlier w shown.Nothing = IsUnconfirmed line w
Reads line earlier w shown.Screen = IsUnconfirmed line w
Reads line earlier w (shown.Voted choice) = IsPanelWord line earlier w choice

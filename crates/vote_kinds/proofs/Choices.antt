-- The choice of a field may be made on its line
use Rattle.std.proofs.Common.{◌≡◌, ℕ, Bool, true, false, cond, not, ◌&&◌, Option, nat_eq, refl, sym, subst}
use Rattle.std.specs.List.{list_any}
use Rattle.vote_kinds.specs.declared.choice.Choice.{Choice}
use Rattle.vote_kinds.specs.declared.choice.Choice.TheVariants as choice
use Rattle.vote_kinds.specs.declared.choice.Field.{Field}
use Rattle.vote_kinds.specs.declared.choice.Field.TheVariants as field
use Rattle.election_tables.specs.Fields.{first_two}
use Rattle.vote_kinds.specs.Ballot.{BallotLine, is_choice, choice_of, names_candidate, is_nominal_of}

both : (a b : Bool) → a ≡ true → b ≡ true → (a && b) ≡ true
both true true h g = refl
both true false h g = absurd (cc)
both false b h g = absurd (cc)

nominal_is : (l : BallotLine) (full known : Bool) (value : ℕ) (same : Bool) (other : Choice) → known ≡ list_any (nat_eq value) l.candidates
    → is_choice l other ≡ true → is_choice l (cond ((full && known) && not same) (choice.Nominal value) other) ≡ true
nominal_is l true true value false other h o = sym h
nominal_is l true true value true other h o = o
nominal_is l true false value same other h o = o
nominal_is l false known value same other h o = o

party_is : (l : BallotLine) (proportional unnamed known : Bool) (p : ℕ) → proportional ≡ l.proportional → known ≡ list_any (nat_eq p) l.parties
    → is_choice l (cond (proportional && (unnamed && known)) (choice.Party p) choice.Null) ≡ true
party_is l true true true p h k = both l.proportional (list_any (nat_eq p) l.parties) (sym h) (sym k)
party_is l true true false p h k = refl
party_is l true false known p h k = refl
party_is l false unnamed known p h k = refl

-- the choice of a field, whatever the field, is a choice of its line
pub choice_is : (l : BallotLine) (earlier : Option Choice) (f : Field) → is_choice l (choice_of l earlier f) ≡ true
choice_is l earlier field.Empty = refl
choice_is l earlier field.Blank = refl
choice_is l earlier (field.Digits count value) =
    nominal_is l (nat_eq count l.digits) (list_any (nat_eq value) l.candidates) value (is_nominal_of value earlier) _ refl
    (party_is l l.proportional (not (names_candidate l count value)) (list_any (nat_eq (first_two count value)) l.parties) (first_two count value) refl refl)

-- so is what is equal to it
pub chosen_is : (l : BallotLine) (earlier : Option Choice) (f : Field) (c : Choice) → c ≡ choice_of l earlier f → is_choice l c ≡ true
chosen_is l earlier f c e = subst (λ (d : Choice). is_choice l d ≡ true) (sym e) (choice_is l earlier f)

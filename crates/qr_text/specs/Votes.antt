-- Reading the votes of candidates that stand in a row, and the parties: as many fields as may stand there.
use Rattle.std.specs.Prelude.{ℕ, ◌+◌, nat_lt, ◌==◌, ◌&&◌, Bool, true, if◌then◌else◌, List, [], ◌∷◌, ◌++◌, take, drop, position, Option, Some, None, option_map}
use Rattle.std.specs.Option.{option_and_then}
use Rattle.election_tables.specs.Fields.{first_two}
use Rattle.election_tables.specs.Offices.{may_have_places}
use Rattle.poll_report.specs.declared.report.Count.{Count}
use Rattle.urna_base.specs.Digits.{decimal_value}
use Rattle.qr_text.specs.Reading.{number_at, vote_at, vote_with}
use Rattle.qr_text.specs.Sections.{FieldsLeft}
use Rattle.qr_text.specs.declared.table.TheConstants.{TABLE}

-- ---- one field

-- the candidate and the votes on the two sides of a field's first colon (58)
unfoldable pub vote_by_colon : ℕ → List ℕ → Option Count
vote_by_colon digits p =
    option_and_then (λ end. option_and_then (λ number. option_and_then (vote_with digits number) (decimal_value (drop (end + 1) p)))
    (decimal_value (take end p))) (position (λ b. b == 58) p)

-- a candidate is one of the party, if one is named
abbrev pub belongs : ℕ → Option ℕ → ℕ → Bool
belongs digits None number = true
belongs digits (Some party) number = first_two digits number == party

-- the candidate, if it is one of the party and stands behind the last
abbrev pub accepted : ℕ → Option ℕ → ℕ → Count → Option Count
accepted digits party last c = if belongs digits party c.number && nat_lt last c.number then Some c else None

-- the candidate of a field, if it may stand behind the last
unfoldable pub vote_after : ℕ → Option ℕ → ℕ → List ℕ → Option Count
vote_after digits party last p = option_and_then (accepted digits party last) (vote_at digits p)

-- the number of a party, if it is greater than the last
abbrev pub greater : ℕ → ℕ → Option ℕ
greater last number = if nat_lt last number then Some number else None

-- the party of a field, if it may stand behind the last
unfoldable pub party_after : ℕ → List ℕ → Option ℕ
party_after last p = option_and_then (greater last) (number_at TABLE.party p)

-- the places, if an office with this code may have so many
abbrev pub allowed : ℕ → ℕ → Option ℕ
allowed code places = if may_have_places code places then Some places else None

-- the places of a field, in an office with this code
unfoldable pub places_of : ℕ → List ℕ → Option ℕ
places_of code p = option_and_then (allowed code) (number_at TABLE.places p)

-- ---- the next field

-- what the next field gives, and what is left behind it
abbrev pub first_at : {A : Type 0} → (List ℕ → Option A) → ℕ → List (List ℕ) → Option (A × FieldsLeft)
first_at read next [] = None
first_at read next (p ∷ ps) = option_map (λ x. (x, record { left = ps; next = next + 1 })) (read p)

-- the candidate of the next field
unfoldable pub vote_first : ℕ → Option ℕ → ℕ → FieldsLeft → Option (Count × FieldsLeft)
vote_first digits party last s = first_at (vote_after digits party last) s.next s.left

-- the places of the next field
unfoldable pub places_first : ℕ → FieldsLeft → Option (ℕ × FieldsLeft)
places_first code s = first_at (places_of code) s.next s.left

-- the party of the next field
unfoldable pub party_first : ℕ → FieldsLeft → Option (ℕ × FieldsLeft)
party_first last s = first_at (party_after last) s.next s.left

-- ---- candidates in a row

-- as many candidates as stand, behind some that were read
unfoldable pub votes_from : ℕ → Option ℕ → ℕ → List Count → ℕ → List (List ℕ) → List Count × FieldsLeft
votes_from digits party last before next [] = (before, record { left = []; next = next })
votes_from digits party last before next (p ∷ ps) =
    elim (vote_after digits party last p) [
      | Some c ↦ votes_from digits party c.number (before ++ c ∷ []) (next + 1) ps
      | None ↦ (before, record { left = p ∷ ps; next = next })
    ]

unfoldable pub votes_reading : ℕ → Option ℕ → ℕ → List Count → FieldsLeft → List Count × FieldsLeft
votes_reading digits party last before s = votes_from digits party last before s.next s.left

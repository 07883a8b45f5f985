-- The choices of a panel, by their places
use Rattle.std.proofs.Common.{◌≡◌, ◌≢◌, ℕ, zero, suc, ◌+◌, ◌-◌, ◌<◌, ◌≤◌, Bool, true, false, cond, List, [], ◌∷◌, ◌++◌, length, map, slice_get, Some, option_map, refl, sym, ap, ◌∙◌, arith}
use Rattle.std.proofs.lemmas.List.{length-append, length-map}
use Rattle.std.proofs.lemmas.Option.{slice_get-map}
use Rattle.election_tables.specs.TablesData.{TablesData, candidates_at, without_name}
use Rattle.election_tables.specs.declared.tables.candidates.Candidate.{Candidate}
use Rattle.vote_kinds.specs.declared.choice.Choice.{Choice}
use Rattle.vote_kinds.specs.declared.choice.Choice.TheVariants as choice
use Rattle.vote_kinds.specs.Ballot.{BallotLine, choices_of, line_of, panel_at}
use Rattle.vote_kinds.proofs.Lookups.{candidate_at, candidates_known}

get_behind : {X : Type 0} (xs ys : List X) (i : ℕ) → length xs ≤ i → slice_get (xs ++ ys) i ≡ slice_get ys (i - length xs)
get_behind [] ys i le = ap (slice_get ys) (omega arith)
get_behind (x ∷ xs) ys zero le = absurd (omega arith)
get_behind (x ∷ xs) ys (suc i) le = get_behind xs ys i (omega arith) ∙ ap (slice_get ys) (omega arith)

abbrev nominal : List ℕ → List Choice
nominal numbers = map (λ n. choice.Nominal n) numbers

abbrev party : Bool → List ℕ → List Choice
party proportional numbers = cond proportional (map (λ n. choice.Party n) numbers) []

abbrev two : List Choice
two = choice.Blank ∷ choice.Null ∷ []

length-party : (proportional : Bool) (numbers : List ℕ) → length (party proportional numbers) ≡ cond proportional (length numbers) 0
length-party true numbers = length-map numbers (λ n. choice.Party n)
length-party false numbers = refl

-- how many choices a panel has
module _ (t : TablesData) (panel : ℕ) where
  abbrev line : BallotLine
  line = line_of t panel

  pub candidates_many : length (nominal line.candidates) ≡ length (candidates_at panel t)
  candidates_many =
      length-map line.candidates (λ n. choice.Nominal n) ∙ length-map (panel_at t panel).candidates (λ c. c.number)
      ∙ ap length (sym (candidates_known t panel))

  parties : length (party line.proportional line.parties) ≡ cond line.proportional (length t.parties) 0
  parties = length-party line.proportional line.parties ∙ ap (λ (n : ℕ). cond line.proportional n 0) (length-map t.parties (λ q. q.number))

  pub choices_many : length (choices_of line) ≡ length (candidates_at panel t) + cond line.proportional (length t.parties) 0 + 2
  choices_many = omega (
    arith,
    length-append (nominal line.candidates) (party line.proportional line.parties ++ two),
    length-append (party line.proportional line.parties) two,
    candidates_many,
    parties,
  )

  -- the choices behind the candidates
  behind_candidates : (place : ℕ) → length (candidates_at panel t) ≤ place
      → slice_get (choices_of line) place ≡ slice_get (party line.proportional line.parties ++ two) (place - length (candidates_at panel t))
  behind_candidates place le =
      get_behind (nominal line.candidates) (party line.proportional line.parties ++ two) place (omega (arith, candidates_many))
      ∙ ap (λ (n : ℕ). slice_get (party line.proportional line.parties ++ two) (place - n)) candidates_many

  -- and behind the parties
  behind_parties : (place : ℕ) → length (candidates_at panel t) + cond line.proportional (length t.parties) 0 ≤ place
      → slice_get (choices_of line) place ≡ slice_get two (place - length (candidates_at panel t) - cond line.proportional (length t.parties) 0)
  behind_parties place le =
      let n : ℕ = length (candidates_at panel t) in
      behind_candidates place (omega arith)
      ∙ get_behind (party line.proportional line.parties) two (place - n) (omega (arith, parties))
      ∙ ap (λ (m : ℕ). slice_get two (place - n - m)) parties

-- The choice that a place has

-- a choice that is made of a number has the number's place
made_there : (made : ℕ → Choice) (numbers : List ℕ) (rest : List Choice) (place n : ℕ) → slice_get numbers place ≡ Some n → slice_get (map made numbers ++ rest) place ≡ Some (made n)
made_there made [] rest place n e = absurd (cc)
made_there made (m ∷ numbers) rest zero n e = let same : m ≡ n = cc in ap (λ (k : ℕ). Some (made k)) same
made_there made (m ∷ numbers) rest (suc place) n e = made_there made numbers rest place n e

pub nominal_there : (t : TablesData) (panel place : ℕ) (c : Candidate) → option_map without_name (slice_get (candidates_at panel t) place) ≡ Some c
    → slice_get (choices_of (line_of t panel)) place ≡ Some (choice.Nominal c.number)
nominal_there t panel place c e =
    made_there (λ n. choice.Nominal n) (line_of t panel).candidates (party (line_of t panel).proportional (line_of t panel).parties ++ two) place c.number (candidate_at t panel place c e)

party_in : (proportional : Bool) (numbers : List ℕ) (many place q : ℕ) → place < cond proportional many 0 → slice_get numbers place ≡ Some q
    → slice_get (party proportional numbers ++ two) place ≡ Some (choice.Party q)
party_in true numbers many place q lt e = made_there (λ n. choice.Party n) numbers two place q e
party_in false numbers many place q lt e = absurd (omega arith)

pub party_there : (t : TablesData) (panel place q : ℕ) → length (candidates_at panel t) ≤ place → place < length (candidates_at panel t) + cond (line_of t panel).proportional (length t.parties) 0
    → option_map (λ x. x.number) (slice_get t.parties (place - length (candidates_at panel t))) ≡ Some q → slice_get (choices_of (line_of t panel)) place ≡ Some (choice.Party q)
party_there t panel place q le lt e =
    let n : ℕ = length (candidates_at panel t) in
    behind_candidates t panel place le
    ∙ party_in (line_of t panel).proportional (line_of t panel).parties (length t.parties) (place - n) q (omega arith) (slice_get-map (λ x. x.number) t.parties (place - n) ∙ e)

pub blank_there : (t : TablesData) (panel place : ℕ) → place ≡ length (candidates_at panel t) + cond (line_of t panel).proportional (length t.parties) 0
    → slice_get (choices_of (line_of t panel)) place ≡ Some choice.Blank
blank_there t panel place is =
    behind_parties t panel place (omega arith)
    ∙ (let first : place - length (candidates_at panel t) - cond (line_of t panel).proportional (length t.parties) 0 ≡ 0 = omega arith in ap (slice_get two) first)

pub null_there : (t : TablesData) (panel place : ℕ) → length (candidates_at panel t) + cond (line_of t panel).proportional (length t.parties) 0 ≤ place
    → place ≢ length (candidates_at panel t) + cond (line_of t panel).proportional (length t.parties) 0 → place < length (choices_of (line_of t panel))
    → slice_get (choices_of (line_of t panel)) place ≡ Some choice.Null
null_there t panel place le other lt =
    behind_parties t panel place le
    ∙ (let last : place - length (candidates_at panel t) - cond (line_of t panel).proportional (length t.parties) 0 ≡ 1 = omega (arith, choices_many t panel) in ap (slice_get two) last)

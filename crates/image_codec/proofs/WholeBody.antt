-- What is read of a whole body, by what its parts give
use Rattle.std.proofs.Common.{◌≡◌, ◌≢◌, ℕ, zero, suc, ◌<◌, Bool, true, false, cond, ◌==◌, nat_lt, List, [], ◌∷◌, length, get_or, slice_index, drop, Option, Some, None, is_some, IsSome, option_map, inl, inr, refl, sym, ap, ◌∙◌, arith}
use Rattle.std.specs.Option.{option_and_then}
use Rattle.std.specs.List.{list_all}
use Rattle.std.proofs.lemmas.Bool.{cases_eq, eq-eqb, ne_eqb, lt-ltb, and_from, and_left, ltb-true, and_parts}
use Rattle.std.proofs.lemmas.Option.{same_Some}
use Rattle.election_tables.specs.TablesData.{TablesData, places_of}
use Rattle.vote_kinds.specs.declared.choice.Choice.{Choice}
use Rattle.vote_kinds.specs.Ballot.{BallotLine, lines_by_panel}
use Rattle.turnout.specs.Turnout.{number_came}
use Rattle.turnout.specs.declared.phase.Phase.{Phase}
use Rattle.image_codec.specs.State.{State}
use Rattle.image_codec.specs.DecodedHead.{marks_in, turnout_of, phase_in}
use Rattle.image_codec.specs.DecodedVotes.{bags_in}
use Rattle.image_codec.specs.Decoded.{bags_of, bags_second, is_body, decoded}
use Rattle.image_codec.specs.Head.{head_of}
use Rattle.image_codec.specs.declared.codec.head.Head.{Head}

-- each is a byte
abbrev pub AreBytes : List ℕ → Type 0
AreBytes bytes = (i : ℕ) → get_or bytes i 0 < 256

bytes_pass : (bytes : List ℕ) → AreBytes bytes → list_all (λ b. nat_lt b 256) bytes ≡ true
bytes_pass [] are = refl
bytes_pass (b ∷ bytes) are = and_from (nat_lt b 256) (list_all (λ c. nat_lt c 256) bytes) (lt-ltb b 256 (are 0)) (bytes_pass bytes (λ i. are (suc i)))

pub bytes_are : (bytes : List ℕ) → list_all (λ b. nat_lt b 256) bytes ≡ true → AreBytes bytes
bytes_are [] pass i = omega arith
bytes_are (b ∷ bytes) pass zero = ltb-true b 256 (and_parts (nat_lt b 256) (list_all (λ c. nat_lt c 256) bytes) pass).0
bytes_are (b ∷ bytes) pass (suc i) = bytes_are bytes (and_parts (nat_lt b 256) (list_all (λ c. nat_lt c 256) bytes) pass).1 i

pub body_is : (bytes : List ℕ) → AreBytes bytes → length bytes ≡ 65536 → is_body bytes ≡ true
body_is bytes are whole = and_from (length bytes == 65536) (list_all (λ b. nat_lt b 256) bytes) (eq-eqb (length bytes) 65536 whole) (bytes_pass bytes are)

-- the state of a phase, with what else is read
abbrev pub state_with : TablesData → ℕ → List ℕ → Phase → List (List Choice) → State
state_with t voters bytes p bags = record { phase = p; came = marks_in voters (turnout_of bytes); places = places_of t; bags = bags }

-- the bags of a body, by whom it marks
abbrev pub body_bags : TablesData → ℕ → List ℕ → Option (List (List Choice))
body_bags t voters bytes = bags_of (lines_by_panel t) (number_came (marks_in voters (turnout_of bytes))) bytes

-- the state of a body whose phase was read
abbrev pub rest_of : TablesData → ℕ → List ℕ → Option Phase → Option State
rest_of t voters bytes o = option_and_then (λ p. option_map (state_with t voters bytes p) (body_bags t voters bytes)) o

pub decoded_short : (t : TablesData) (voters : ℕ) (bytes : List ℕ) → length bytes ≢ 65536 → decoded t voters bytes ≡ None
unfolding decoded
decoded_short t voters bytes short =
    ap (λ (b : Bool). cond b (rest_of t voters bytes (phase_in voters (length t.panels) bytes)) None)
    (and_left (length bytes == 65536) (list_all (λ b. nat_lt b 256) bytes) (ne_eqb (length bytes) 65536 short))

pub decoded_body : (t : TablesData) (voters : ℕ) (bytes : List ℕ) → is_body bytes ≡ true → decoded t voters bytes ≡ rest_of t voters bytes (phase_in voters (length t.panels) bytes)
unfolding decoded
decoded_body t voters bytes body = ap (λ (b : Bool). cond b (rest_of t voters bytes (phase_in voters (length t.panels) bytes)) None) body

pub decoded_no_phase : (t : TablesData) (voters : ℕ) (bytes : List ℕ) → is_body bytes ≡ true → phase_in voters (length t.panels) bytes ≡ None → decoded t voters bytes ≡ None
decoded_no_phase t voters bytes body e = decoded_body t voters bytes body ∙ ap (rest_of t voters bytes) e

no_map : {A B : Type 0} (f : A → B) (o : Option A) → is_some o ≡ false → option_map f o ≡ None
no_map f None e = refl
no_map f (Some x) e = absurd (cc)

pub decoded_no_bags : (t : TablesData) (voters : ℕ) (bytes : List ℕ) (p : Phase) → is_body bytes ≡ true → phase_in voters (length t.panels) bytes ≡ Some p
    → is_some (body_bags t voters bytes) ≡ false → decoded t voters bytes ≡ None
decoded_no_bags t voters bytes p body e none =
    decoded_body t voters bytes body ∙ ap (rest_of t voters bytes) e ∙ no_map (state_with t voters bytes p) (body_bags t voters bytes) none

head_map : (t : TablesData) (voters : ℕ) (bytes : List ℕ) (p : Phase) (o : Option (List (List Choice))) → is_some o ≡ true
    → option_map head_of (option_map (state_with t voters bytes p) o) ≡ Some (record { phase = p; came = number_came (marks_in voters (turnout_of bytes)) })
head_map t voters bytes p None e = absurd (cc)
head_map t voters bytes p (Some bags) e = refl

pub decoded_head : (t : TablesData) (voters : ℕ) (bytes : List ℕ) (p : Phase) → is_body bytes ≡ true → phase_in voters (length t.panels) bytes ≡ Some p
    → is_some (body_bags t voters bytes) ≡ true → option_map head_of (decoded t voters bytes) ≡ Some (record { phase = p; came = number_came (marks_in voters (turnout_of bytes)) })
decoded_head t voters bytes p body e has =
    ap (option_map head_of) (decoded_body t voters bytes body ∙ ap (rest_of t voters bytes) e) ∙ head_map t voters bytes p (body_bags t voters bytes) has

pub head_is : (voters : ℕ) (bytes : List ℕ) (h : Head) → h.came ≡ number_came (marks_in voters (turnout_of bytes))
    → record { phase = h.phase; came = number_came (marks_in voters (turnout_of bytes)) } ≡ h
head_is voters bytes h e = ap (λ (n : ℕ). let g : Head = record { phase = h.phase; came = n } in g) (sym e)

-- the state whose head was read
pub head_known : (o : Option State) (h : Head) → Some h ≡ option_map head_of o → (s : State) × (o ≡ Some s) × (head_of s ≡ h)
head_known None h e = absurd (cc)
head_known (Some s) h e = (s, refl, same_Some (head_of s) h (sym e))

pub none_known : (o : Option State) → ◌≡◌ {A = Option Head} None (option_map head_of o) → o ≡ None
none_known None e = refl
none_known (Some s) e = absurd (cc)

-- the bags of a body, by how many came
pub bags_by_count : (t : TablesData) (voters came : ℕ) (bytes : List ℕ) → came ≡ number_came (marks_in voters (turnout_of bytes)) → bags_of (lines_by_panel t) came bytes ≡ body_bags t voters bytes
bags_by_count t voters came bytes e = ap (λ (n : ℕ). bags_of (lines_by_panel t) n bytes) e

-- The bags of a body, by its version

pub bags_second_is : (lines : List BallotLine) (n : ℕ) (bytes : List ℕ) → slice_index bytes 0 ≡ 2 → bags_of lines n bytes ≡ bags_second lines n bytes
unfolding bags_of
bags_second_is lines n bytes two =
    ap (λ (b : Bool). cond b (bags_second lines n bytes) (cond (slice_index bytes 0 == 1) (bags_in lines n (drop 98 bytes)) None)) (eq-eqb (slice_index bytes 0) 2 two)

pub bags_first_is : (lines : List BallotLine) (n : ℕ) (bytes : List ℕ) → slice_index bytes 0 ≡ 1 → bags_of lines n bytes ≡ bags_in lines n (drop 98 bytes)
unfolding bags_of
bags_first_is lines n bytes one =
    let two : slice_index bytes 0 ≢ 2 = omega arith in
    ap (λ (b : Bool). cond b (bags_second lines n bytes) (cond (slice_index bytes 0 == 1) (bags_in lines n (drop 98 bytes)) None)) (ne_eqb (slice_index bytes 0) 2 two)
    ∙ ap (λ (b : Bool). cond b (bags_in lines n (drop 98 bytes)) None) (eq-eqb (slice_index bytes 0) 1 one)

pub bags_of_none : (lines : List BallotLine) (n : ℕ) (bytes : List ℕ) → slice_index bytes 0 ≢ 2 → slice_index bytes 0 ≢ 1 → bags_of lines n bytes ≡ None
unfolding bags_of
bags_of_none lines n bytes two one =
    ap (λ (b : Bool). cond b (bags_second lines n bytes) (cond (slice_index bytes 0 == 1) (bags_in lines n (drop 98 bytes)) None)) (ne_eqb (slice_index bytes 0) 2 two)
    ∙ ap (λ (b : Bool). cond b (bags_in lines n (drop 98 bytes)) None) (ne_eqb (slice_index bytes 0) 1 one)

-- a body with bags is of one of the versions
pub some_version : (lines : List BallotLine) (n : ℕ) (bytes : List ℕ) → IsSome (bags_of lines n bytes) → slice_index bytes 0 ≢ 2 → slice_index bytes 0 ≡ 1
some_version lines n bytes some two = elim (cases_eq (slice_index bytes 0) 1) [
  | inl one ↦ one
  | inr other ↦ let none = ap (λ (o : Option (List (List Choice))). is_some o) (bags_of_none lines n bytes two other) in absurd (cc)
]

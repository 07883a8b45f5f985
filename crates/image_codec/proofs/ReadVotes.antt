-- Votes that are read are those that were written, and what was written is read again
use Rattle.std.proofs.Common.{◌≡◌, ℕ, zero, suc, ◌+◌, ◌*◌, ◌^◌, ◌<◌, ◌≤◌, Bool, true, false, cond, ◌&&◌, ◌==◌, nat_lt, List, [], ◌∷◌, ◌++◌, length, get_or, take, drop, Option, Some, None, option_map, inl, inr, refl, sym, ap, subst, ◌∙◌, append_assoc, arith}
use Rattle.std.specs.Option.{option_and_then}
use Rattle.std.specs.Int.{w32, w64, to_be_bytes}
use Rattle.std.specs.List.{flat_map, AllByRecursion, slice_index}
use Rattle.std.proofs.lemmas.Bool.{cases_lt, eqb-true, lt-ltb, and_from, and_parts}
use Rattle.std.proofs.lemmas.List.{drop_more, drop-drop, take-append-drop, length-take, length-drop, get_or-drop, get_or-take, get_or_past}
use Rattle.std.proofs.lemmas.Nat.{be_bytes_4, be_bytes_8, from_be_bytes-to_be_bytes_4}
use Rattle.std.proofs.lemmas.Option.{cond_some, same_Some}
use Rattle.urna_base.proofs.Cases.{and_then_some, map_some}
use Rattle.vote_kinds.specs.declared.choice.Choice.{Choice}
use Rattle.vote_kinds.specs.declared.choice.Choice.TheVariants as choice
use Rattle.vote_kinds.specs.Ballot.{BallotLine, is_choice}
use Rattle.vote_kinds.specs.Choice.{choice_le, choice_with, kind_of, number_of}
use Rattle.vote_record.specs.Bag.{IsInOrder}
use Rattle.vote_record.proofs.Bags.{all_trans}
use Rattle.image_codec.specs.Encoding.{vote_bytes}
use Rattle.image_codec.specs.Numbers.{number4_at, number8_at}
use Rattle.image_codec.specs.DecodedVotes.{vote_in, votes_in}
use Rattle.image_codec.proofs.WholeBody.{AreBytes}

pub bytes_drop : (n : ℕ) (bytes : List ℕ) → AreBytes bytes → AreBytes (drop n bytes)
bytes_drop n bytes are i = rw get_or-drop (are (n + i))

pub bytes_take : (n : ℕ) (bytes : List ℕ) → AreBytes bytes → AreBytes (take n bytes)
bytes_take n bytes are i =
    elim (cases_lt i n) [
      | inl lt ↦ rw (get_or-take n bytes i 0 lt) (are i)
      | inr le ↦ rw (get_or_past (take n bytes) i 0 (omega (arith, length-take n bytes))) (omega arith)
    ]

-- Numbers

pub number4_back : (bytes : List ℕ) (at n : ℕ) → AreBytes bytes → at + 4 ≤ length bytes → n ≡ number4_at bytes at → to_be_bytes w32 n ≡ take 4 (drop at bytes)
number4_back bytes at n are long e =
    be_bytes_4 (take 4 (drop at bytes)) n (omega (arith, length-take 4 (drop at bytes), length-drop at bytes)) (bytes_take 4 (drop at bytes) (bytes_drop at bytes are)) e

pub number8_back : (bytes : List ℕ) (at n : ℕ) → AreBytes bytes → at + 8 ≤ length bytes → n ≡ number8_at bytes at → to_be_bytes w64 n ≡ take 8 (drop at bytes)
number8_back bytes at n are long e =
    be_bytes_8 (take 8 (drop at bytes)) n (omega (arith, length-take 8 (drop at bytes), length-drop at bytes)) (bytes_take 8 (drop at bytes) (bytes_drop at bytes are)) e

-- One vote

found_after : (b : Bool) (x c : Choice) (rest : Option Choice) (P : Choice → Type 0) → cond b (Some x) rest ≡ Some c → (b ≡ true → P x) → (rest ≡ Some c → P c) → P c
found_after true x c rest P e here there = subst P (same_Some x c e) (here refl)
found_after false x c rest P e here there = there e

found_parts : (kind number : ℕ) (c : Choice) → choice_with kind number ≡ Some c → (kind_of c ≡ kind) × (number_of c ≡ number)
found_parts kind number c e =
    let P : Choice → Type 0 = λ d. (kind_of d ≡ kind) × (number_of d ≡ number) in
    let two : Bool = kind == 2 && nat_lt number 256 in
    let three : Bool = kind == 3 && number == 0 in
    let four : Bool = kind == 4 && number == 0 in
    let last : Option Choice = cond four (Some choice.Null) None in
    let later : Option Choice = cond three (Some choice.Blank) last in
    found_after (kind == 1) (choice.Nominal number) c (cond two (Some (choice.Party number)) later) P e (λ t. (sym (eqb-true kind 1 t), refl)) (λ e2.
    found_after two (choice.Party number) c later P e2 (λ t. (sym (eqb-true kind 2 (and_parts (kind == 2) (nat_lt number 256) t).0), refl)) (λ e3.
    found_after three choice.Blank c last P e3 (λ t. let h = and_parts (kind == 3) (number == 0) t in (sym (eqb-true kind 3 h.0), sym (eqb-true number 0 h.1))) (λ e4.
    found_after four choice.Null c None P e4 (λ t. let h = and_parts (kind == 4) (number == 0) t in (sym (eqb-true kind 4 h.0), sym (eqb-true number 0 h.1))) (λ e5. absurd (cc)))))

pub vote_takes : (line : BallotLine) (before c : Choice) (bytes : List ℕ) → AreBytes bytes → 5 ≤ length bytes → vote_in line before bytes ≡ Some c
    → (bytes ≡ vote_bytes c ++ drop 5 bytes) × (choice_le before c ≡ true) × (is_choice line c ≡ true)
unfolding vote_in
vote_takes line before c bytes are long e =
    let a = and_then_some (choice_with (slice_index bytes 0) (number4_at bytes 1)) (λ d. cond (choice_le before d && is_choice line d) (Some d) None) c e in
    let t = cond_some (choice_le before a.0 && is_choice line a.0) a.0 c a.2 in
    let made : choice_with (slice_index bytes 0) (number4_at bytes 1) ≡ Some c = a.1 ∙ ap (λ (d : Choice). Some d) t.1 in
    let parts = found_parts (slice_index bytes 0) (number4_at bytes 1) c made in
    let tests = and_parts (choice_le before a.0) (is_choice line a.0) t.0 in
    let number : to_be_bytes w32 (number_of c) ≡ take 4 (drop 1 bytes) = number4_back bytes 1 (number_of c) are (omega arith) parts.1 in
    let front : bytes ≡ get_or bytes 0 0 ∷ drop 1 bytes = drop_more bytes 0 0 (omega arith) in
    let behind : drop 1 bytes ≡ take 4 (drop 1 bytes) ++ drop 5 bytes = sym (take-append-drop 4 (drop 1 bytes)) ∙ ap (λ (r : List ℕ). take 4 (drop 1 bytes) ++ r) (drop-drop 4 1 bytes) in (
      front ∙ ap (λ (r : List ℕ). get_or bytes 0 0 ∷ r) behind
          ∙ ap (λ (k : ℕ). k ∷ (take 4 (drop 1 bytes) ++ drop 5 bytes)) (sym parts.0) ∙ ap (λ (m : List ℕ). kind_of c ∷ (m ++ drop 5 bytes)) (sym number),
      ap (choice_le before) (sym t.1) ∙ tests.0,
      ap (is_choice line) (sym t.1) ∙ tests.1,
    )

-- the numbers of a choice fit where they are written
abbrev pub IsSmall : Choice → Type 0
IsSmall (choice.Nominal n) = n < 2 ^ 32
IsSmall (choice.Party n) = n < 256
IsSmall choice.Blank = Unit {0}
IsSmall choice.Null = Unit {0}

small_number : (c : Choice) → IsSmall c → number_of c < 2 ^ 32
small_number (choice.Nominal n) small = small
small_number (choice.Party n) small = omega arith
small_number choice.Blank small = omega arith
small_number choice.Null small = omega arith

parts_found : (c : Choice) → IsSmall c → choice_with (kind_of c) (number_of c) ≡ Some c
parts_found (choice.Nominal n) small = refl
parts_found (choice.Party n) small = rw (lt-ltb n 256 small) refl
parts_found choice.Blank small = refl
parts_found choice.Null small = refl

pub vote_back : (line : BallotLine) (before c : Choice) (rest : List ℕ) → IsSmall c → choice_le before c ≡ true → is_choice line c ≡ true → vote_in line before (vote_bytes c ++ rest) ≡ Some c
unfolding vote_in
vote_back line before c rest small le is =
    let f : Choice → Option Choice = λ d. cond (choice_le before d && is_choice line d) (Some d) None in
    ap (λ (n : ℕ). option_and_then f (choice_with (kind_of c) n)) (from_be_bytes-to_be_bytes_4 (number_of c) (small_number c small))
    ∙ ap (option_and_then f) (parts_found c small) ∙ ap (λ (b : Bool). cond b (Some c) None) (and_from (choice_le before c) (is_choice line c) le is)

-- The votes of a bag

pub record TakesVotes (line : BallotLine) (before : Choice) (n : ℕ) (bytes : List ℕ) (bag : List Choice) : Type 0 where
  pub text : bytes ≡ flat_map vote_bytes bag ++ drop (5 * n) bytes
  pub many : length bag ≡ n
  pub choices : AllByRecursion (λ c. is_choice line c ≡ true) bag
  pub after : AllByRecursion (λ c. choice_le before c ≡ true) bag
  pub in_order : IsInOrder bag

pub votes_take : (line : BallotLine) (before : Choice) (n : ℕ) (bytes : List ℕ) (bag : List Choice) → AreBytes bytes → 5 * n ≤ length bytes → votes_in line before n bytes ≡ Some bag
    → TakesVotes line before n bytes bag
unfolding votes_in
votes_take line before zero bytes bag are long e =
    subst (λ (b : List Choice). TakesVotes line before 0 bytes b) (same_Some [] bag e) (record { text = refl; many = refl; choices = tt; after = tt; in_order = tt })
votes_take line before (suc n) bytes bag are long e =
    let a = and_then_some (vote_in line before bytes) (λ c. option_map (λ b. c ∷ b) (votes_in line c n (drop 5 bytes))) bag e in
    let c : Choice = a.0 in
    let b = map_some (λ b. c ∷ b) (votes_in line c n (drop 5 bytes)) bag a.2 in
    let first = vote_takes line before c bytes are (omega arith) a.1 in
    let rest = votes_take line c n (drop 5 bytes) b.0 (bytes_drop 5 bytes are) (omega (arith, length-drop 5 bytes)) b.1 in
    let further : drop (5 * n) (drop 5 bytes) ≡ drop (5 * suc n) bytes = drop-drop (5 * n) 5 bytes ∙ ap (λ (k : ℕ). drop k bytes) (omega arith) in
    let text : bytes ≡ flat_map vote_bytes (c ∷ b.0) ++ drop (5 * suc n) bytes =
    first.0 ∙ ap (λ (r : List ℕ). vote_bytes c ++ r) (rest.text ∙ ap (λ (r : List ℕ). flat_map vote_bytes b.0 ++ r) further)
    ∙ sym (append_assoc (vote_bytes c) (flat_map vote_bytes b.0) (drop (5 * suc n) bytes)) in
    subst (λ (x : List Choice). TakesVotes line before (suc n) bytes x) b.2 (record {
      text = text;
      many = ap suc rest.many;
      choices = (first.2, rest.choices);
      after = (first.1, all_trans before c b.0 first.1 rest.after);
      in_order = (rest.after, rest.in_order);
    })

-- the choices of a line are small
abbrev pub HasSmall : BallotLine → Type 0
HasSmall line = (c : Choice) → is_choice line c ≡ true → IsSmall c

pub votes_back : (line : BallotLine) (before : Choice) (bag : List Choice) (rest : List ℕ) → HasSmall line → AllByRecursion (λ c. is_choice line c ≡ true) bag
    → AllByRecursion (λ c. choice_le before c ≡ true) bag → IsInOrder bag → votes_in line before (length bag) (flat_map vote_bytes bag ++ rest) ≡ Some bag
unfolding votes_in
votes_back line before [] rest small choices after order = refl
votes_back line before (c ∷ bag) rest small choices after order =
    let behind : List ℕ = flat_map vote_bytes bag ++ rest in
    ap (votes_in line before (suc (length bag))) (append_assoc (vote_bytes c) (flat_map vote_bytes bag) rest)
    ∙ ap (λ (o : Option Choice). option_and_then (λ d. option_map (λ b. d ∷ b) (votes_in line d (length bag) behind)) o) (vote_back line before c behind (small c choices.0) after.0 choices.0)
    ∙ ap (option_map (λ b. c ∷ b)) (votes_back line c bag rest small choices.1 order.0 order.1)

-- What is so of a name, and of whatever a look-up finds.
use Rattle.std.proofs.Common.{◌≡◌, ℕ, ◌==◌, ◌≤◌, Bool, true, not, ◌&&◌, List, [], length, nat_le, Option, Some, None, option_map, option_copied, find, IfSome, Bor, refl, sym, subst, inl, inr, arith}
use Rattle.std.specs.List.{All, list_all}
use Rattle.std.proofs.lemmas.Bool.{and_parts, leb-true}
use Rattle.std.proofs.lemmas.List.Elements.{All-weaker}
use Rattle.std.proofs.lemmas.Option.{slice_get_cases}
use Rattle.election_tables.specs.Limits.{longest_name}
use Rattle.election_tables.specs.Fields.{is_name}
use Rattle.election_tables.specs.declared.tables.candidates.NamedCandidate.{NamedCandidate}
use Rattle.election_tables.specs.declared.tables.parties.Party.{Party}
use Rattle.election_tables.specs.TablesData.{TablesData, IsCandidate, IsParty, candidates_at}
use Rattle.election_tables.proofs.Rising.{find_all}

-- a name has 1 to `longest_name` bytes
abbrev pub IsShort : List ℕ → Type 0
IsShort name = (1 ≤ length name) × (length name ≤ longest_name)

pub is_name-short : (name : List ℕ) → is_name name ≡ true → IsShort name
is_name-short name h =
    let (size, _) = and_parts (nat_le 1 (length name) && nat_le (length name) longest_name) (list_all (λ b. nat_le 0x20 b && not (b == 0x7f)) name) h in
    let (least, most) = and_parts (nat_le 1 (length name)) (nat_le (length name) longest_name) size in
    (leb-true 1 (length name) least, leb-true (length name) longest_name most)

-- what is so of each element is so of what a search finds
pub found_is : {X : Type 0} (P : X → Type 0) (p : X → Bool) (xs : List X) → All P xs → (r : Option X) → r ≡ find p xs → IfSome r P
found_is P p xs all None e = tt
found_is P p xs all (Some x) e = find_all P p xs x all (sym e)

named_at : {X : Type 0} (name_of : X → List ℕ) (p : X → Bool) (xs : List X) → All (λ x. is_name (name_of x) ≡ true) xs → (name : List ℕ) (o : Option X)
    → find p xs ≡ o → Some name ≡ option_map name_of o → is_name name ≡ true
named_at name_of p xs all name None f e = absurd (cc)
named_at name_of p xs all name (Some x) f e =
    let is : is_name (name_of x) ≡ true = find_all (λ y. is_name (name_of y) ≡ true) p xs x all f in
    let same : name_of x ≡ name = cc in
    let P : List ℕ → Type 0 = λ bytes. is_name bytes ≡ true in
    subst P same is

-- what a look-up gives is a name
pub found_name : {X : Type 0} (name_of : X → List ℕ) (p : X → Bool) (xs : List X) → All (λ x. is_name (name_of x) ≡ true) xs → (r : Option (Bor (List ℕ)))
    → option_copied r ≡ option_map name_of (find p xs) → IfSome r (λ s. is_name s.now ≡ true)
found_name name_of p xs all None e = tt
found_name name_of p xs all (Some s) e = named_at name_of p xs all s.now (find p xs) refl e

-- and it is short
pub short_name : (r : Option (Bor (List ℕ))) → IfSome r (λ s. is_name s.now ≡ true) → IfSome r (λ s. IsShort s.now)
short_name None h = tt
short_name (Some s) h = is_name-short s.now h

pub parties_named : (parties : List Party) → All IsParty parties → All (λ q. is_name q.name ≡ true) parties
parties_named parties all = All-weaker IsParty (λ q. is_name q.name ≡ true) (λ q h. h.name) parties all

pub candidates_named : (digits : ℕ) (parties : List Party) (candidates : List NamedCandidate) → All (IsCandidate digits parties) candidates
    → All (λ c. is_name c.name ≡ true) candidates
candidates_named digits parties candidates all = All-weaker (IsCandidate digits parties) (λ c. is_name c.name ≡ true) (λ c h. h.name) candidates all

-- a panel that isn't there has no candidates
pub candidates_at-past : (t : TablesData) (panel : ℕ) → length t.panels ≤ panel → candidates_at panel t ≡ []
candidates_at-past t panel past = elim ((slice_get_cases t.panels panel).1) [
  | inl there ↦ absurd (omega (arith, there.1))
  | inr gone ↦ rw gone.1 refl
]

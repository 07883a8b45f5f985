-- Laws of the definitions.
use Rattle.std.specs.Prelude.{◌≡◌, ◌↔◌, ◌⊎◌, IsTrue, ℕ, ◌-◌, ◌<◌, ◌≤◌, ◌==◌, ◌&&◌, if◌then◌else◌, List, Some, None, true, false, slice_get}
use Rattle.std.specs.List.{Any, list_any}
use Rattle.toml.specs.Data.{Members}
use Rattle.election_tables.specs.Offices.{places_by}
use Rattle.election_tables.specs.Rules.{rules, broken_rule}
use Rattle.election_tables.specs.Tables.{IsReadAs}
use Rattle.election_tables.specs.TablesData.{IsOffice, IsTables, TablesData, bloc_of, has_member, is_federation}
use Rattle.election_tables.specs.declared.office.Office.{Office}
use Rattle.election_tables.specs.Roll.{IsRollOf, RollData}

-- rule k holds of the document
abbrev pub RuleHolds : ℕ → Members → Type 0
RuleHolds k ms = slice_get (rules ms) (k - 1) ≡ Some true

-- rule k is one of the rules, it doesn't hold, and each before it does
pub record IsFirstBroken (k : ℕ) (ms : Members) : Type 0 where
  pub number : (1 ≤ k) × (k ≤ 17)
  pub fails : slice_get (rules ms) (k - 1) ≡ Some false
  pub before : (j : ℕ) → 1 ≤ j → j < k → RuleHolds j ms

-- the number of the broken rule is that of the first
abbrev pub BrokenIsFirst : Type 0
BrokenIsFirst = (ms : Members) (k : ℕ) → (broken_rule ms ≡ Some k) ↔ IsFirstBroken k ms

-- no rule is broken where all hold
abbrev pub KeptIsAll : Type 0
KeptIsAll = (ms : Members) → (broken_rule ms ≡ None) ↔ ((k : ℕ) → 1 ≤ k → k ≤ 17 → RuleHolds k ms)

-- a voter has two votes for the office of code 5 where it has two seats, and one for every other
abbrev pub TwoForSenatorAlone : Type 0
TwoForSenatorAlone = (o : Office) → IsOffice o → places_by o.code o.seats ≡ (if o.code == 5 && o.seats == 2 then 2 else 1)

-- Two parties are of one bloc exactly where they are one, or are in one federation;
abbrev pub BlocsAreFederations : Type 0
BlocsAreFederations = (t : TablesData) (p q : ℕ) → IsTables t
    → (bloc_of t.federations p ≡ bloc_of t.federations q) ↔ ((p ≡ q) ⊎ Any (λ f. IsTrue (has_member p f && has_member q f)) t.federations)

-- the number of a bloc is that of one of its parties, and none of them has a lower one;
abbrev pub BlocIsLowest : Type 0
BlocIsLowest = (t : TablesData) (party : ℕ) → IsTables t
    → (bloc_of t.federations party ≤ party) × (bloc_of t.federations (bloc_of t.federations party) ≡ bloc_of t.federations party)

-- it is a party of the tables where the party is;
abbrev pub BlocIsParty : Type 0
BlocIsParty = (t : TablesData) (party : ℕ) → IsTables t → IsTrue (list_any (λ q. q.number == party) t.parties)
    → IsTrue (list_any (λ q. q.number == bloc_of t.federations party) t.parties)

-- and it is called that of a federation exactly where the party is in one
abbrev pub FederationIsTold : Type 0
FederationIsTold = (t : TablesData) (party : ℕ) → IsTables t
    → is_federation t.federations (bloc_of t.federations party) ≡ list_any (has_member party) t.federations

-- bytes are read as one set of tables at most
abbrev pub TablesAreDetermined : Type 0
TablesAreDetermined = (bytes : List ℕ) (t u : TablesData) → IsReadAs bytes t → IsReadAs bytes u → t ≡ u

-- and as one roll at most
abbrev pub RollIsDetermined : Type 0
RollIsDetermined = (bytes : List ℕ) (r s : RollData) → IsRollOf bytes r → IsRollOf bytes s → r ≡ s

-- Rules 1 to 3: the keys of the document and of the tables in its arrays.
use Rattle.std.specs.Prelude.{codes, ℕ, List, [], ◌∷◌, Bool, true, false, not, ◌&&◌, ◌||◌, Option, is_some, option_and_then}
use Rattle.std.specs.List.{list_all, list_any, filter_map}
use Rattle.std.specs.Option.{option_map_or}
use Rattle.toml.specs.Data.{Data, as_str, as_integer, as_array, as_table, Items, no_items, item, Members, no_members, member, get_member, same_key}
use Rattle.election_tables.specs.declared.shape.Group.{Group}
use Rattle.election_tables.specs.declared.shape.Group.TheVariants as group
use Rattle.election_tables.specs.declared.shape.ShapeRule.{ShapeRule}
use Rattle.election_tables.specs.declared.shape.ShapeRule.TheVariants as rule

-- the types that a key may have: a number, a text, an array of numbers or of tables (an empty array is one of each); the last is an
-- array of tables too, but may be missing
pub data KeyType : Type 0 where
  a_number : KeyType
  a_text : KeyType
  some_numbers : KeyType
  some_tables : KeyType
  tables_if_there : KeyType

-- the items of an array as a list
abbrev pub data_of : Items → List Data
data_of no_items = []
data_of (item d ds) = d ∷ data_of ds

-- the value is an array, each member of which passes the test
abbrev pub is_array_of : (Data → Bool) → Option Data → Bool
is_array_of test d = option_map_or (λ ds. list_all test (data_of ds)) (option_and_then as_array d) false

-- the value is there and has the type, where it isn't one that may be missing; of an array each member is a number, or a table
abbrev pub has_type : KeyType → Option Data → Bool
has_type a_number d = is_some (option_and_then as_integer d)
has_type a_text d = is_some (option_and_then as_str d)
has_type some_numbers d = is_array_of (λ e. is_some (as_integer e)) d
has_type some_tables d = is_array_of (λ e. is_some (as_table e)) d
has_type tables_if_there d = not (is_some d) || is_array_of (λ e. is_some (as_table e)) d

-- a key that need not be there
abbrev pub may_miss : KeyType → Bool
may_miss a_number = false
may_miss a_text = false
may_miss some_numbers = false
may_miss some_tables = false
may_miss tables_if_there = true

-- the keys of each place and their types
abbrev pub keys_in : Group → List (List ℕ × KeyType)
keys_in group.Document =
    (codes "processo", a_number) ∷ (codes "data", a_number) ∷ (codes "turno", a_number) ∷ (codes "cargo", some_tables)
    ∷ (codes "partido", some_tables) ∷ (codes "candidato", some_tables) ∷ (codes "secao", some_tables) ∷ (codes "federacao", tables_if_there) ∷ []
keys_in group.Offices = (codes "codigo", a_number) ∷ (codes "regra", a_text) ∷ (codes "cadeiras", a_number) ∷ []
keys_in group.Parties = (codes "numero", a_number) ∷ (codes "nome", a_text) ∷ []
keys_in group.Candidates = (codes "cargo", a_number) ∷ (codes "numero", a_number) ∷ (codes "nascimento", a_number) ∷ (codes "nome", a_text) ∷ []
keys_in group.Sections = (codes "zona", a_number) ∷ (codes "secao", a_number) ∷ (codes "eleitores", a_number) ∷ []
keys_in group.Federations = (codes "nome", a_text) ∷ (codes "partidos", some_numbers) ∷ []

-- the tables among the items
abbrev pub tables_in : Items → List Members
tables_in ds = filter_map as_table (data_of ds)

-- the tables that are members of the array at a key, if an array is there
abbrev pub tables_at : List ℕ → Members → List Members
tables_at key ms = option_map_or tables_in (option_and_then as_array (get_member key ms)) []

-- the two keys have the same bytes
unfoldable pub is_key : List ℕ → List ℕ → Bool
is_key a b = same_key a b

-- each key that the table has passes the test
abbrev pub every_key : (List ℕ → Bool) → Members → Bool
every_key test no_members = true
every_key test (member k d ms) = test k && every_key test ms

-- 1. each key is there, but one that may be missing; 2. each has its type; 3. there is no other key: what the table keeps, where
-- these are the keys of its group
abbrev pub keeps : ShapeRule → List (List ℕ × KeyType) → Members → Bool
keeps rule.Keys keys ms = list_all (λ k. may_miss k.1 || is_some (get_member k.0 ms)) keys
keeps rule.Types keys ms = list_all (λ k. has_type k.1 (get_member k.0 ms)) keys
keeps rule.NoOther keys ms = every_key (λ name. list_any (λ k. is_key name k.0) keys) ms

-- the document and each table that is a member of one of its arrays keep the rule
abbrev pub document_keeps : ShapeRule → Members → Bool
document_keeps r ms =
    keeps r (keys_in group.Document) ms && (list_all (keeps r (keys_in group.Offices)) (tables_at (codes "cargo") ms)
    && (list_all (keeps r (keys_in group.Parties)) (tables_at (codes "partido") ms)
    && (list_all (keeps r (keys_in group.Candidates)) (tables_at (codes "candidato") ms)
    && (list_all (keeps r (keys_in group.Sections)) (tables_at (codes "secao") ms)
    && list_all (keeps r (keys_in group.Federations)) (tables_at (codes "federacao") ms)))))

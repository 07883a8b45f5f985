-- The answer that a parsed document gets.
use Rattle.std.specs.Prelude.{◌≡◌, ⊤, ℕ, List, Some, None, Result, Ok, Err}
use Rattle.toml.specs.Data.{Members}
use Rattle.election_tables.specs.declared.tables.TablesError.{TablesError}
use Rattle.election_tables.specs.declared.tables.TablesError.TheVariants as error
use Rattle.election_tables.specs.Entries.{document_of}
use Rattle.election_tables.specs.Rules.{broken_rule}
use Rattle.election_tables.specs.Tables.{AreTablesOf}
use Rattle.election_tables.specs.TablesData.{TablesData}

-- what an answer says of the document; want of memory says nothing
abbrev pub IsAnswerFor : Members → List ℕ → Result TablesData TablesError → Type 0
IsAnswerFor ms digest (Ok t) = (broken_rule ms ≡ None) × AreTablesOf (document_of ms) t × (t.digest ≡ digest)
IsAnswerFor ms digest (Err error.Memory) = ⊤
IsAnswerFor ms digest (Err error.NotToml) = ⊥
IsAnswerFor ms digest (Err (error.Rule k)) = broken_rule ms ≡ Some k

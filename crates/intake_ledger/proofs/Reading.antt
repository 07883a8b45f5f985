-- The decoder reads exactly the bodies of ledgers
use Rattle.election_tables.specs.TablesData.{TablesData}
use Rattle.flash_store.specs.Held.{IsReader}
use Rattle.intake_ledger.specs.Body.{decoded}
use Rattle.intake_ledger.specs.Kept.{ledgers}
use Rattle.intake_ledger.proofs.Ranking.{decoded_stands, stands_decoded}

pub reads : (t : TablesData) → IsReader (ledgers t) (decoded t)
reads t = record { gives = λ body l is. decoded_stands t l body is; only = λ body l is. stands_decoded t l body is }

-- What an answer that a document gets says of its bytes, and that no other answer could have come.
use Rattle.std.proofs.Common.{◌≡◌, ◌≢◌, ℕ, ◌≤◌, List, Some, None, Result, Ok, Err, IfOk, IsOk, refl, ap, sym, ◌∙◌, subst}
use Rattle.toml.specs.Data.{Members}
use Rattle.sha2.specs.Sha256.{sha256}
use Rattle.election_tables.specs.declared.tables.TablesError.{TablesError}
use Rattle.election_tables.specs.declared.tables.TablesError.TheVariants as error
use Rattle.election_tables.specs.Rules.{broken_rule}
use Rattle.election_tables.specs.Tables.{IsDocument, IsReadAs, BreaksFirst, KeepsRules}
use Rattle.election_tables.specs.TablesData.{TablesData}
use Rattle.election_tables.specs.Verdict.{IsAnswerFor}
use Rattle.election_tables.proofs.Breaks.{broken_is_first}

-- bytes are one document at most
pub one_document : (bytes : List ℕ) (ms ns : Members) → IsDocument bytes ms → IsDocument bytes ns → ms ≡ ns
one_document bytes ms ns p q = let both : Some ms ≡ Some ns = sym p.1 ∙ q.1 in cc

pub read_ok : (bytes digest : List ℕ) (ms : Members) (r : Result TablesData TablesError) → digest ≡ sha256 bytes → IsDocument bytes ms → IsAnswerFor ms digest r → IfOk r (IsReadAs bytes)
read_ok bytes digest ms (Ok t) same doc a = record { members = ms; parsed = doc; kept = a.0; tables = a.1; digest = a.2 ∙ same }
read_ok bytes digest ms (Err e) same doc a = tt

pub read_rule : (bytes digest : List ℕ) (ms : Members) (r : Result TablesData TablesError) → IsDocument bytes ms → IsAnswerFor ms digest r
    → (k : ℕ) → r ≡ Err (error.Rule k) → BreaksFirst bytes k
read_rule bytes digest ms r doc a k e = record { members = ms; parsed = doc; broken = subst (IsAnswerFor ms digest) e a }

pub read_rule_number : (digest : List ℕ) (ms : Members) (r : Result TablesData TablesError) → IsAnswerFor ms digest r
    → (k : ℕ) → r ≡ Err (error.Rule k) → (1 ≤ k) × (k ≤ 17)
read_rule_number digest ms r a k e = (broken_is_first ms k (subst (IsAnswerFor ms digest) e a)).number

-- where rule k is the first broken one, no other answer can come
only_rule : (ms : Members) (digest : List ℕ) (k : ℕ) (r : Result TablesData TablesError) → IsAnswerFor ms digest r → broken_rule ms ≡ Some k
    → r ≢ Err error.Memory → r ≡ Err (error.Rule k)
only_rule ms digest k (Ok t) a e n = absurd (let none : broken_rule ms ≡ None = a.0 in cc)
only_rule ms digest k (Err error.Memory) a e n = absurd (n refl)
only_rule ms digest k (Err error.NotToml) a e n = absurd a
only_rule ms digest k (Err (error.Rule j)) a e n = let same : j ≡ k = cc in ap (λ i. Err (error.Rule i)) same

pub read_rule_there : (bytes digest : List ℕ) (ms : Members) (r : Result TablesData TablesError) → IsDocument bytes ms → IsAnswerFor ms digest r
    → r ≢ Err error.Memory → (k : ℕ) → BreaksFirst bytes k → r ≡ Err (error.Rule k)
read_rule_there bytes digest ms r doc a n k b =
    only_rule ms digest k r a (ap broken_rule (one_document bytes ms b.members doc b.parsed) ∙ b.broken) n

-- where no rule is broken, no other answer can come
only_ok : (ms : Members) (digest : List ℕ) (r : Result TablesData TablesError) → IsAnswerFor ms digest r → broken_rule ms ≡ None → r ≢ Err error.Memory → IsOk r
only_ok ms digest (Ok t) a e n = refl
only_ok ms digest (Err error.Memory) a e n = absurd (n refl)
only_ok ms digest (Err error.NotToml) a e n = absurd a
only_ok ms digest (Err (error.Rule j)) a e n = absurd (cc)

pub read_ok_there : (bytes digest : List ℕ) (ms : Members) (r : Result TablesData TablesError) → IsDocument bytes ms → IsAnswerFor ms digest r
    → r ≢ Err error.Memory → KeepsRules bytes → IsOk r
read_ok_there bytes digest ms r doc a n b =
    only_ok ms digest r a (ap broken_rule (one_document bytes ms b.members doc b.parsed) ∙ b.kept) n

-- What is read of bytes, and their rank
use Rattle.std.proofs.Common.{◌≡◌, ◌≢◌, ℕ, Bool, true, false, cond, ◌==◌, nat_lt, List, [], ◌∷◌, length, map, is_some, Option, Some, None, option_map, refl, sym, ap, ◌∙◌, arith}
use Rattle.std.specs.List.{count_by, list_all, range_with_len}
use Rattle.std.proofs.lemmas.Bool.{and_left, ne_eqb}
use Rattle.std.proofs.lemmas.List.Sums.{sum_by-cons}
use Rattle.election_tables.specs.TablesData.{TablesData}
use Rattle.intake_ledger.specs.Body.{StandsFor, decoded, has_size, hash_in, is_body, is_marked, kept_in, ledger_in, marked_before, number_in, rank_in}
use Rattle.intake_ledger.specs.Layout.{body_size}
use Rattle.intake_ledger.specs.Ledger.{LedgerData, accepted_in}
use Rattle.intake_ledger.proofs.WholeBody.{whole}

pub size_isnt : (bytes : List ℕ) → length bytes ≢ body_size → has_size bytes ≡ false
unfolding has_size
size_isnt bytes other = and_left (length bytes == body_size) (list_all (λ b. nat_lt b 256) bytes) (ne_eqb (length bytes) body_size other)

-- ---- as many hashes are kept as bits are set

pub hash_or_none : (marked : Bool) (hash : List ℕ) → is_some (cond marked (Some hash) None) ≡ marked
hash_or_none true hash = refl
hash_or_none false hash = refl

count_kept : (bytes places : List ℕ) → count_by is_some (map (kept_in bytes) places) ≡ count_by (is_marked bytes) places
count_kept bytes [] = refl
count_kept bytes (place ∷ places) =
    let left = sum_by-cons (λ (o : Option (List ℕ)). cond {A = ℕ} (is_some o) 1 0) (kept_in bytes place) (map (kept_in bytes) places) in
    let right = sum_by-cons (λ (k : ℕ). cond {A = ℕ} (is_marked bytes k) 1 0) place places in
    let one = ap (λ (b : Bool). cond {A = ℕ} b 1 0) (hash_or_none (is_marked bytes place) (hash_in bytes place)) in
    let rest = count_kept bytes places in
    omega arith

accepted_marked : (t : TablesData) (bytes : List ℕ) → accepted_in (ledger_in t bytes) ≡ marked_before (length t.sections) bytes
unfolding marked_before
accepted_marked t bytes = count_kept bytes (range_with_len 0 (length t.sections))

-- the number of a body is how many sections of its ledger have a report
pub number_is : (t : TablesData) (bytes : List ℕ) → is_body t bytes ≡ true → number_in bytes ≡ accepted_in (ledger_in t bytes)
number_is t bytes is = (whole t bytes is).number ∙ sym (accepted_marked t bytes)

-- ---- what is read

pub decoded_stands : (t : TablesData) (l : LedgerData) (bytes : List ℕ) → StandsFor t l bytes → decoded t bytes ≡ Some l
unfolding decoded
decoded_stands t l bytes stands =
    ap (λ (b : Bool). cond b (Some (ledger_in t bytes)) None) stands.whole ∙ ap (λ (m : LedgerData). Some m) (sym stands.same)

pub stands_decoded : (t : TablesData) (l : LedgerData) (bytes : List ℕ) → decoded t bytes ≡ Some l → StandsFor t l bytes
unfolding decoded
stands_decoded t l bytes is = go (is_body t bytes) refl is
  where
    go : (b : Bool) → is_body t bytes ≡ b → cond b (Some (ledger_in t bytes)) None ≡ Some l → StandsFor t l bytes
    go true whole found = record { whole = whole; same = cc }
    go false whole found = absurd (cc)

-- ---- ranks

pub rank_found : (t : TablesData) (bytes : List ℕ) → is_body t bytes ≡ true → rank_in t bytes ≡ Some (number_in bytes)
rank_found t bytes is =
    ap (option_map accepted_in) (decoded_stands t (ledger_in t bytes) bytes (record { whole = is; same = refl })) ∙ ap (λ (n : ℕ). Some n) (sym (number_is t bytes is))

pub rank_none : (t : TablesData) (bytes : List ℕ) → is_body t bytes ≡ false → rank_in t bytes ≡ None
unfolding decoded
rank_none t bytes other = ap (λ (b : Bool). option_map accepted_in (cond b (Some (ledger_in t bytes)) None)) other

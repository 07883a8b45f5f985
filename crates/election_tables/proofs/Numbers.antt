-- A candidate's number has 2 to 5 digits.
use Rattle.std.proofs.Common.{◌≡◌, ℕ, ◌-◌, ◌^◌, ◌≤◌, true, List, [], get_or, slice_get, nat_le, nat_lt, Some, option_map, ap, subst, arith}
use Rattle.std.proofs.lemmas.Bool.{and_parts, leb-true}
use Rattle.std.proofs.Math.Nat.{pow-le-pow_right}
use Rattle.election_tables.specs.Fields.{has_digits}
use Rattle.election_tables.specs.declared.tables.candidates.Candidate.{Candidate}
use Rattle.election_tables.specs.declared.tables.candidates.NamedCandidate.{NamedCandidate}
use Rattle.election_tables.specs.declared.tables.parties.Party.{Party}
use Rattle.election_tables.specs.declared.tables.panels.Panel.{Panel}
use Rattle.election_tables.specs.TablesData.{IsPanel, without_name}
use Rattle.election_tables.proofs.Kept.{code_digits-range, has_digits-below}
use Rattle.election_tables.proofs.Places.{place_is}

pub has_digits-range : (digits n : ℕ) → 2 ≤ digits → digits ≤ 5 → has_digits digits n ≡ true → (10 ≤ n) × (n ≤ 99999)
has_digits-range digits n least most h =
    let (low, _) = and_parts (nat_le (10 ^ (digits - 1)) n) (nat_lt n (10 ^ digits)) h in
    let above : 10 ^ (digits - 1) ≤ n = leb-true (10 ^ (digits - 1)) n low in
    let up : 10 ^ 1 ≤ 10 ^ (digits - 1) = (let one : 1 ≤ digits - 1 = omega arith in pow-le-pow_right {n = 10} (omega arith) one) in
    (omega arith, has_digits-below digits n most h)

pub candidate_in_range : (parties : List Party) (p : Panel) (i : ℕ) (c : Candidate) → IsPanel parties p
    → option_map without_name (slice_get p.candidates i) ≡ Some c → (10 ≤ c.number) × (c.number ≤ 99999)
candidate_in_range parties p i c is e =
    let at = place_is without_name p.candidates i c e in
    let none : NamedCandidate = record { number = 0; birth = 0; name = [] } in
    let few = code_digits-range p.office.code p.office.digits is.office.digits in
    let same : (get_or p.candidates i none).number ≡ c.number = ap (λ x. x.number) (at.1 none) in
    let range = has_digits-range p.office.digits _ few.0 few.1 (is.candidates i none at.0).number in
    let P : ℕ → Type 0 = λ n. (10 ≤ n) × (n ≤ 99999) in
    subst P same range

-- The rehearsal's roll is read as its titles.
use Rattle.std.proofs.Common.{◌≡◌, ℕ, zero, suc, ◌+◌, ◌^◌, ◌≤◌, true, List, [], ◌∷◌, ◌++◌, map, nat_le, Some, None, refl, arith, append-nil, append_assoc}
use Rattle.std.specs.List.{range_with_len, position_from, zip}
use Rattle.std.specs.Prelude.{not}
use Rattle.std.proofs.lemmas.Bool.{and_parts, leb-true, le-leb, lt-ltb}
use Rattle.std.proofs.lemmas.List.FromFn.{length-map-range_with_len, map-range_with_len_more}
use Rattle.sha2.specs.Sha256.{sha256}
use Rattle.urna_base.specs.Digits.{padded}
use Rattle.urna_base.specs.Lines.{lines_of}
use Rattle.urna_base.proofs.DigitLaws.{digits_value-padded}
use Rattle.urna_base.proofs.Lacking.{padded_in_line}
use Rattle.urna_base.proofs.LineLaws.{lines_text-append}
use Rattle.election_tables.specs.Limits.{most_voters}
use Rattle.election_tables.specs.Roll.{titles_on, may_follow, bad_line, IsRollOf}
use Rattle.rehearsal.specs.Roll.{title_at, titles, roll_text, generated_roll}
use Rattle.rehearsal.proofs.LineLaws.{lines_lack, lines_of-text}
use Rattle.rehearsal.proofs.Rising.{rises_from, rises_from-range}

titles_read : (a n : ℕ) → a + n ≤ 10 ^ 12 → titles_on (map (padded 12) (range_with_len a n)) ≡ map Some (range_with_len a n)
titles_read a zero h = refl
titles_read a (suc n) h = rw (digits_value-padded 12 a (omega arith), titles_read (a + 1) n (omega arith)) refl

-- titles that rise have no bad line
none_bad_after : (k before : ℕ) (ts : List ℕ) → rises_from (before + 1) ts ≡ true
    → position_from (λ p. not (may_follow p.0 p.1)) k (zip (Some before ∷ map Some ts) (map Some ts)) ≡ None
none_bad_after k before [] e = refl
none_bad_after k before (t ∷ ts) e =
    let (here, more) = and_parts (nat_le (before + 1) t) (rises_from (t + 1) ts) e in
    let le : before + 1 ≤ t = leb-true (before + 1) t here in
    rw (lt-ltb before t (omega arith)) (none_bad_after (k + 1) t ts more)

none_bad : (ts : List ℕ) → rises_from 0 ts ≡ true → bad_line (map Some ts) ≡ None
none_bad [] e = refl
none_bad (t ∷ ts) e =
    let (here, more) = and_parts (nat_le 0 t) (rises_from (t + 1) ts) e in
    none_bad_after 2 t ts more

pub roll_read : (voters : ℕ) (bytes : List ℕ) → 1 ≤ voters → voters ≤ most_voters → bytes ≡ roll_text voters → IsRollOf bytes (generated_roll voters (sha256 bytes))
roll_read voters bytes some few e =
    let lines : lines_of bytes ≡ map (padded 12) (titles voters) = rw e (lines_of-text _ (lines_lack (padded 12) (titles voters) (padded_in_line 12))) in
    let read : titles_on (lines_of bytes) ≡ map Some (titles voters) = rw lines (titles_read (title_at 0) voters (omega arith)) in
    record {
      count = rw (lines, length-map-range_with_len (padded 12) (title_at 0) voters, le-leb 1 voters some, le-leb voters most_voters few) refl;
      lines = rw read (none_bad (titles voters) (rises_from-range 0 (title_at 0) voters (omega arith)));
      titles = read;
      digest = refl;
    }

-- one voter more
pub roll_text-more : (k : ℕ) → roll_text (k + 1) ≡ (roll_text k ++ padded 12 (title_at k)) ++ 10 ∷ []
roll_text-more k =
    rw (
      map-range_with_len_more (padded 12) (title_at 0) k (title_at k) refl,
      lines_text-append (map (padded 12) (titles k)) (padded 12 (title_at k) ∷ []),
      append-nil,
      append_assoc,
    ) refl

-- The lines of a roll, one after the other.
use Rattle.std.proofs.Common.{◌≡◌, ◌≢◌, ℕ, zero, suc, ◌+◌, ◌^◌, ◌<◌, ◌≤◌, ◌==◌, Bool, true, false, not, List, [], ◌∷◌, length, map, get_or, nat_lt, position, Option, Some, None, refl, ap, sym, ◌∙◌, arith}
use Rattle.std.specs.Prelude.{if◌then◌else◌}
use Rattle.std.specs.List.{All, zip, position_from, position_or_len}
use Rattle.std.specs.List.Sorted.{IsStrictlyIncreasing}
use Rattle.std.proofs.lemmas.Bool.{ltb-true, lt-ltb, le-ltb, ne_eqb, eq-eqb}
use Rattle.std.proofs.lemmas.Map.Keys.{below_from_sorted, sorted_from_strictly_increasing}
use Rattle.std.proofs.lemmas.List.{length-map}
use Rattle.std.proofs.lemmas.List.Elements.{All-nil, All-cons}
use Rattle.std.proofs.lemmas.List.Sums.{position_or_len_is}
use Rattle.urna_base.specs.Digits.{digits_value}
use Rattle.urna_base.specs.Lines.{lines_of}
use Rattle.urna_base.proofs.DigitLaws.{digits_value-below}
use Rattle.election_tables.specs.Limits.{most_voters}
use Rattle.election_tables.specs.Roll.{may_follow, bad_line, titles_on, IsRoll}
use Rattle.election_tables.specs.RollAnswer.{AreTitlesOn}

-- an empty text has no lines
pub no_lines : (rest : List ℕ) → rest ≡ [] → lines_of rest ≡ []
unfolding lines_of
no_lines rest e = ap lines_of e

-- ---- lines at fault

-- the first line at fault, where the lines count from n and the line before them has this
abbrev pub bad_from : ℕ → Option ℕ → List (Option ℕ) → Option ℕ
bad_from n before titles = position_from (λ p. not (may_follow p.0 p.1)) n (zip (before ∷ titles) titles)

-- no fault here, and none after
no_fault : (b : Bool) (n : ℕ) (o : Option ℕ) → (if not b then Some n else o) ≡ None → (b ≡ true) × (o ≡ None)
no_fault true n o e = (refl, e)
no_fault false n o e = absurd (cc)

rises : (n : ℕ) (before : Option ℕ) (ts : List ℕ) → bad_from n before (map Some ts) ≡ None → (k : ℕ) → k + 1 < length ts → get_or ts k 0 < get_or ts (k + 1) 0
rises n before [] e k h = absurd (omega arith)
rises n before (t ∷ []) e k h = absurd (omega arith)
rises n before (t ∷ u ∷ ts) e zero h =
    let rest = no_fault (may_follow before (Some t)) n _ e in
    let next = no_fault (may_follow (Some t) (Some u)) (n + 1) _ rest.1 in
    ltb-true t u next.0
rises n before (t ∷ u ∷ ts) e (suc k) h =
    let rest = no_fault (may_follow before (Some t)) n _ e in
    let more : get_or (u ∷ ts) k 0 < get_or (u ∷ ts) (k + 1) 0 = rises (n + 1) (Some t) (u ∷ ts) rest.1 k (omega arith) in
    let next : suc k + 1 ≡ suc (k + 1) = omega arith in
    rw next more

-- ---- a roll

titles_have_digits : (lines : List (List ℕ)) (titles : List ℕ) → titles_on lines ≡ map Some titles → All (λ title. title < 10 ^ 12) titles
titles_have_digits lines [] e = All-nil (λ title. title < 10 ^ 12)
titles_have_digits [] (t ∷ ts) e = absurd (cc)
titles_have_digits (l ∷ ls) (t ∷ ts) e =
    let here : digits_value 12 l ≡ Some t = cc in
    let more : titles_on ls ≡ map Some ts = cc in
    All-cons (λ title. title < 10 ^ 12) t ts (digits_value-below 12 l t here) (titles_have_digits ls ts more)

pub roll_valid : (lines : List (List ℕ)) (titles digest : List ℕ) → 1 ≤ length lines → length lines ≤ most_voters → AreTitlesOn lines titles → length digest ≡ 32
    → IsRoll (record { titles = titles; digest = digest })
roll_valid lines titles digest least most are size =
    let counted : length (map Some titles) ≡ length (titles_on lines) = sym (ap length are.0) in
    let of_titles : length (map Some titles) ≡ length titles = length-map titles Some in
    let of_lines : length (titles_on lines) ≡ length lines = length-map lines (digits_value 12) in
    record {
      count = (omega arith, omega arith);
      rise = rises 1 None titles (ap bad_line (sym are.0) ∙ are.1);
      digits = titles_have_digits lines titles are.0;
      digest = size;
    }

-- ---- a search for a title

-- the place of a title that stands at i, in titles that rise
pub position_found : (titles : List ℕ) (i title : ℕ) → IsStrictlyIncreasing titles → i < length titles → get_or titles i 0 ≡ title
    → position (λ t. t == title) titles ≡ Some i
position_found titles i title rise within here =
    let apart : (k : ℕ) → k < i → (get_or titles k 0 == title) ≡ false =
    λ k h. (let low : get_or titles k 0 < get_or titles i 0 = below_from_sorted titles k i 0 (sorted_from_strictly_increasing titles rise) h within in
    ne_eqb (get_or titles k 0) title (λ e. omega arith)) in
    let place : position_or_len (λ t. t == title) titles ≡ i =
    position_or_len_is (λ t. t == title) titles i 0 (omega arith) apart (λ _. eq-eqb (get_or titles i 0) title here) in
    let inside : nat_lt i (length titles) ≡ true = lt-ltb i (length titles) within in
    rw (place, inside) refl

-- a title that stands nowhere has no place
pub position_missing : (titles : List ℕ) (title : ℕ) → ((k : ℕ) → k < length titles → get_or titles k 0 ≢ title) → position (λ t. t == title) titles ≡ None
position_missing titles title gone =
    let place : position_or_len (λ t. t == title) titles ≡ length titles =
    position_or_len_is (λ t. t == title) titles (length titles) 0 (omega arith) (λ k h. ne_eqb (get_or titles k 0) title (gone k h)) (λ h. absurd (omega arith)) in
    let outside : nat_lt (length titles) (length titles) ≡ false = le-ltb (length titles) (length titles) (omega arith) in
    rw (place, outside) refl

-- Bytes of the second version are an encoding exactly where they are counted so
use Rattle.std.proofs.Common.{◌≡◌, ℕ, zero, suc, ◌+◌, ◌-◌, ◌*◌, ◌<◌, ◌≤◌, Bool, true, ◌&&◌, ◌==◌, List, [], ◌∷◌, length, get_or, take, drop, Option, Some, None, is_some, IsSome, refl, sym, ap, subst, ◌∙◌, arith}
use Rattle.std.specs.List.{slice_index, sum}
use Rattle.std.proofs.lemmas.Bool.{eqb-true, eq-eqb, and_from, and_parts}
use Rattle.std.proofs.lemmas.List.{drop-drop, get_or-drop, get_or-take, get_or_read, length-take, take_all}
use Rattle.std.proofs.lemmas.List.Sums.{sum_by-cons}
use Rattle.std.proofs.lemmas.Option.{get_or_from_slice_get}
use Rattle.election_tables.specs.Limits.{most_voters}
use Rattle.election_tables.specs.TablesData.{TablesData, IsTables}
use Rattle.vote_kinds.specs.declared.choice.Choice.{Choice}
use Rattle.vote_kinds.specs.Ballot.{BallotLine, choices_of, lines_by_panel, line_of}
use Rattle.vote_kinds.proofs.Lookups.{by_panel_length, line_found}
use Rattle.turnout.specs.Turnout.{number_came}
use Rattle.image_codec.specs.State.{State}
use Rattle.image_codec.specs.Encoding.{IsEncoding}
use Rattle.image_codec.specs.Numbers.{are_zero, counters_in}
use Rattle.image_codec.specs.DecodedHead.{marks_in, turnout_of, phase_in}
use Rattle.image_codec.specs.DecodedCounters.{bags_counted}
use Rattle.image_codec.specs.Decoded.{decoded, is_body}
use Rattle.image_codec.specs.CodecLaws.{IsCounted, counters_at, counters_from, counters_of}
use Rattle.image_codec.proofs.Decoding.{decoded_back, decoded_takes}
use Rattle.image_codec.proofs.CountParts.{counted_more, counted_none, second_some}
use Rattle.image_codec.proofs.Lines.{line_places}
use Rattle.image_codec.proofs.Somes.{some_both, some_test}
use Rattle.image_codec.proofs.WholeBody.{bags_second_is, body_bags, rest_of, state_with}

-- Zeros, by places

all_zero : (bytes : List ℕ) → are_zero bytes ≡ true → (at : ℕ) → slice_index bytes at ≡ 0
all_zero [] pass at = refl
all_zero (b ∷ bytes) pass zero = eqb-true b 0 (and_parts (b == 0) (are_zero bytes) pass).0
all_zero (b ∷ bytes) pass (suc at) = all_zero bytes (and_parts (b == 0) (are_zero bytes) pass).1 at

zero_all : (bytes : List ℕ) → ((at : ℕ) → at < length bytes → slice_index bytes at ≡ 0) → are_zero bytes ≡ true
zero_all [] each = refl
zero_all (b ∷ bytes) each = and_from (b == 0) (are_zero bytes) (eq-eqb b 0 (each 0 (omega arith))) (zero_all bytes (λ at lt. each (suc at) (omega arith)))

-- The counters of lines

-- from a place on, the counters of each line count all votes of so many voters, and zeros are behind them
record AreCounted (lines : List BallotLine) (n : ℕ) (bytes : List ℕ) : Type 0 where
  counted : (i : ℕ) (line : BallotLine) → i < length lines → line ≡ get_or lines i line
      → sum (counters_in (length (choices_of line)) (drop (4 * counters_of (take i lines)) bytes)) ≡ n * line.places
  behind : (at : ℕ) → 4 * counters_of lines ≤ at → slice_index bytes at ≡ 0

counters_cons : (line : BallotLine) (lines : List BallotLine) → counters_of (line ∷ lines) ≡ length (choices_of line) + counters_of lines
counters_cons line lines = sum_by-cons (λ l. length (choices_of l)) line lines

-- behind the counters of the first line
further : (line : BallotLine) (lines : List BallotLine) (bytes : List ℕ) → drop (4 * counters_of (line ∷ lines)) bytes ≡ drop (4 * counters_of lines) (drop (4 * length (choices_of line)) bytes)
further line lines bytes =
    let parts : 4 * counters_of (line ∷ lines) ≡ 4 * length (choices_of line) + 4 * counters_of lines = omega (arith, counters_cons line lines) in
    ap (λ (k : ℕ). drop k bytes) parts ∙ sym (drop-drop (4 * counters_of lines) (4 * length (choices_of line)) bytes)

counted_at : (line : BallotLine) (lines : List BallotLine) (n : ℕ) (bytes : List ℕ) → sum (counters_in (length (choices_of line)) bytes) ≡ n * line.places
    → AreCounted lines n (drop (4 * length (choices_of line)) bytes) → (i : ℕ) (l : BallotLine) → i < length (line ∷ lines) → l ≡ get_or (line ∷ lines) i l
    → sum (counters_in (length (choices_of l)) (drop (4 * counters_of (take i (line ∷ lines))) bytes)) ≡ n * l.places
counted_at line lines n bytes first rest zero l lt is = subst (λ (m : BallotLine). sum (counters_in (length (choices_of m)) bytes) ≡ n * m.places) (sym is) first
counted_at line lines n bytes first rest (suc i) l lt is =
    ap (λ (r : List ℕ). sum (counters_in (length (choices_of l)) r)) (further line (take i lines) bytes) ∙ rest.counted i l (omega arith) is

first_more : (line : BallotLine) (lines : List BallotLine) (n : ℕ) (bytes : List ℕ) → sum (counters_in (length (choices_of line)) bytes) ≡ n * line.places
    → AreCounted lines n (drop (4 * length (choices_of line)) bytes) → AreCounted (line ∷ lines) n bytes
first_more line lines n bytes first rest =
    let size : ℕ = 4 * length (choices_of line) in
    record {
      counted = λ i l lt is. counted_at line lines n bytes first rest i l lt is;
      behind = λ at le.
          let past : at ≡ size + (at - size) = omega (arith, counters_cons line lines) in
          let behind : 4 * counters_of lines ≤ at - size = omega (arith, counters_cons line lines) in
          ap (slice_index bytes) past ∙ sym (get_or-drop size bytes (at - size) 0) ∙ rest.behind (at - size) behind;
    }

counted_lines : (lines : List BallotLine) (n : ℕ) (bytes : List ℕ) → is_some (bags_counted lines n bytes) ≡ true → AreCounted lines n bytes
counted_lines [] n bytes has = record { counted = λ i line lt. absurd (omega arith); behind = λ at le. all_zero bytes (sym (counted_none n bytes) ∙ has) at }
counted_lines (line ∷ lines) n bytes has =
    let size : ℕ = 4 * length (choices_of line) in
    let counts : ℕ = sum (counters_in (length (choices_of line)) bytes) in
    let parts = and_parts (counts == n * line.places) (is_some (bags_counted lines n (drop size bytes))) (sym (counted_more line lines n bytes) ∙ has) in
    first_more line lines n bytes (eqb-true counts (n * line.places) parts.0) (counted_lines lines n (drop size bytes) parts.1)

lines_counted : (lines : List BallotLine) (n : ℕ) (bytes : List ℕ) → AreCounted lines n bytes → is_some (bags_counted lines n bytes) ≡ true
lines_counted [] n bytes are = counted_none n bytes ∙ zero_all bytes (λ at lt. are.behind at (omega arith))
lines_counted (line ∷ lines) n bytes are =
    let size : ℕ = 4 * length (choices_of line) in
    let counts : ℕ = sum (counters_in (length (choices_of line)) bytes) in
    let first : counts ≡ n * line.places = are.counted 0 line (omega arith) refl in
    let rest : AreCounted lines n (drop size bytes) = record {
      counted = λ i l lt is.
          ap (λ (r : List ℕ). sum (counters_in (length (choices_of l)) r)) (sym (further line (take i lines) bytes)) ∙ are.counted (suc i) l (omega arith) is;
      behind = λ at le. get_or-drop size bytes at 0 ∙ are.behind (size + at) (omega (arith, counters_cons line lines));
    } in
    counted_more line lines n bytes
    ∙ and_from (counts == n * line.places) (is_some (bags_counted lines n (drop size bytes))) (eq-eqb counts (n * line.places) first) (lines_counted lines n (drop size bytes) rest)

-- The whole body

decoded_some : (t : TablesData) (voters : ℕ) (bytes : List ℕ) → is_some (decoded t voters bytes) ≡ (is_body bytes && (is_some (phase_in voters (length t.panels) bytes) && is_some (body_bags t voters bytes)))
unfolding decoded
decoded_some t voters bytes =
    some_test (is_body bytes) (rest_of t voters bytes (phase_in voters (length t.panels) bytes))
    ∙ ap (λ (b : Bool). is_body bytes && b) (some_both (state_with t voters bytes) (phase_in voters (length t.panels) bytes) (body_bags t voters bytes))

module _ (t : TablesData) (voters : ℕ) (bytes : List ℕ) (two : slice_index bytes 0 ≡ 2) where
  abbrev lines : List BallotLine
  lines = lines_by_panel t

  abbrev n : ℕ
  n = number_came (marks_in voters (turnout_of bytes))

  abbrev gap : List ℕ
  gap = take 414 (drop 98 bytes)

  bags_some : is_some (body_bags t voters bytes) ≡ (are_zero gap && is_some (bags_counted lines n (drop 512 bytes)))
  bags_some = ap (λ (o : Option (List (List Choice))). is_some o) (bags_second_is lines n bytes two) ∙ second_some lines n bytes

  -- the line of a panel, and its counters
  line_is : (panel : ℕ) → panel < length t.panels → line_of t panel ≡ get_or lines panel (line_of t panel)
  line_is panel lt = sym (get_or_from_slice_get lines panel (line_of t panel) (line_of t panel) (line_found t panel lt))

  counters_are : (panel : ℕ) → sum (counters_at t bytes panel) ≡ sum (counters_in (length (choices_of (line_of t panel))) (drop (4 * counters_of (take panel lines)) (drop 512 bytes)))
  counters_are panel = ap (λ (r : List ℕ). sum (counters_in (length (choices_of (line_of t panel))) r)) (sym (drop-drop (4 * counters_of (take panel lines)) 512 bytes))

  all_counters : counters_from t (length t.panels) ≡ 512 + 4 * counters_of lines
  all_counters = ap (λ (ls : List BallotLine). 512 + 4 * counters_of ls) (take_all (length t.panels) lines (omega (arith, by_panel_length t)))

  counted_of_some : IsSome (decoded t voters bytes) → IsCounted t voters bytes
  counted_of_some some =
      let whole = and_parts (is_body bytes) (is_some (phase_in voters (length t.panels) bytes) && is_some (body_bags t voters bytes)) (sym (decoded_some t voters bytes) ∙ some) in
      let parts = and_parts (is_some (phase_in voters (length t.panels) bytes)) (is_some (body_bags t voters bytes)) whole.1 in
      let behind = and_parts (are_zero gap) (is_some (bags_counted lines n (drop 512 bytes))) (sym bags_some ∙ parts.1) in
      let are = counted_lines lines n (drop 512 bytes) behind.1 in
      record {
        whole = whole.0;
        head = parts.0;
        between = λ at ge lt.
            let place : 98 + (at - 98) ≡ at = omega arith in
            ap (slice_index bytes) (sym place) ∙ sym (get_or-take 414 (drop 98 bytes) (at - 98) 0 (omega arith) ∙ get_or-drop 98 bytes (at - 98) 0) ∙ all_zero gap behind.0 (at - 98);
        counted = λ panel lt.
            counters_are panel ∙ are.counted panel (line_of t panel) (omega (arith, by_panel_length t)) (line_is panel lt) ∙ ap (λ (k : ℕ). n * k) (line_places t panel lt);
        behind = λ at le.
            let place : 512 + (at - 512) ≡ at = omega (arith, all_counters) in
            ap (slice_index bytes) (sym place) ∙ sym (get_or-drop 512 bytes (at - 512) 0) ∙ are.behind (at - 512) (omega (arith, all_counters));
      }

  panel_counted : IsCounted t voters bytes → (panel : ℕ) (line : BallotLine) → panel < length lines → line ≡ get_or lines panel line
      → sum (counters_in (length (choices_of line)) (drop (4 * counters_of (take panel lines)) (drop 512 bytes))) ≡ n * line.places
  panel_counted c panel line lt is =
      let within : panel < length t.panels = omega (arith, by_panel_length t) in
      let same : line_of t panel ≡ line = line_is panel within ∙ sym (get_or_read lines panel line lt is (line_of t panel)) in
      subst (λ (l : BallotLine). sum (counters_in (length (choices_of l)) (drop (4 * counters_of (take panel lines)) (drop 512 bytes))) ≡ n * l.places) same
      (sym (counters_are panel) ∙ c.counted panel within ∙ sym (ap (λ (k : ℕ). n * k) (line_places t panel within)))

  some_of_counted : IsCounted t voters bytes → IsSome (decoded t voters bytes)
  some_of_counted c =
      let zeros : are_zero gap ≡ true = zero_all gap (λ at lt.
      let short : at < 414 = omega (arith, length-take 414 (drop 98 bytes)) in
      get_or-take 414 (drop 98 bytes) at 0 short ∙ get_or-drop 98 bytes at 0 ∙ c.between (98 + at) (omega arith) (omega arith)) in
      let are : AreCounted lines n (drop 512 bytes) = record {
        counted = λ panel line lt is. panel_counted c panel line lt is;
        behind = λ at le. get_or-drop 512 bytes at 0 ∙ c.behind (512 + at) (omega (arith, all_counters));
      } in
      decoded_some t voters bytes
      ∙ and_from (is_body bytes) (is_some (phase_in voters (length t.panels) bytes) && is_some (body_bags t voters bytes)) c.whole
      (and_from (is_some (phase_in voters (length t.panels) bytes)) (is_some (body_bags t voters bytes)) c.head
      (bags_some ∙ and_from (are_zero gap) (is_some (bags_counted lines n (drop 512 bytes))) zeros (lines_counted lines n (drop 512 bytes) are)))

known : (o : Option State) → IsSome o → (s : State) × (o ≡ Some s)
known None some = absurd (cc)
known (Some s) some = (s, refl)

pub encoding_counted : (t : TablesData) (voters : ℕ) (bytes : List ℕ) → IsTables t → voters ≤ most_voters → slice_index bytes 0 ≡ 2 → ((s : State) × IsEncoding t voters s bytes) → IsCounted t voters bytes
encoding_counted t voters bytes is few two of =
    counted_of_some t voters bytes two (ap (λ (o : Option State). is_some o) (decoded_back t voters bytes of.0 is few of.1))

pub counted_encoding : (t : TablesData) (voters : ℕ) (bytes : List ℕ) → IsTables t → voters ≤ most_voters → slice_index bytes 0 ≡ 2 → IsCounted t voters bytes → ((s : State) × IsEncoding t voters s bytes)
counted_encoding t voters bytes is few two counted =
    let s = known (decoded t voters bytes) (some_of_counted t voters bytes two counted) in
    (s.0, decoded_takes t voters bytes s.0 is few s.1)

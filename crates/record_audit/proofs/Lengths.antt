-- How long the text of a record can be
use Rattle.std.proofs.Common.{◌≡◌, ◌≤◌, ◌<◌, ◌+◌, ◌*◌, ℕ, suc, true, not, List, [], ◌∷◌, ◌++◌, codes, length, map, refl, ap, arith, subst, sym}
use Rattle.std.specs.Prelude.{◌&&◌, ◌==◌, is_some, nat_lt}
use Rattle.std.specs.Fmt.{decimal}
use Rattle.std.specs.List.{AllByRecursion, concat, flat_map, list_any}
use Rattle.std.proofs.lemmas.Bool.{ltb-true}
use Rattle.std.proofs.lemmas.Bool.Decides.{nat_tests}
use Rattle.std.proofs.lemmas.List.{length-append}
use Rattle.std.proofs.lemmas.List.Folds.{concat-append}
use Rattle.urna_base.specs.Digits.{padded}
use Rattle.urna_base.specs.Moment.{is_between}
use Rattle.urna_base.proofs.DecimalLaws.{length-decimal-le_10}
use Rattle.urna_base.proofs.DigitLaws.{both_from_and, length-padded}
use Rattle.election_tables.specs.Limits.{greatest_process, greatest_section, most_offices}
use Rattle.election_tables.specs.Offices.{code_digits, code_proportional, greatest_code}
use Rattle.vote_kinds.specs.declared.choice.Choice.{Choice}
use Rattle.vote_kinds.specs.declared.choice.Choice.TheVariants as choice
use Rattle.vote_record.specs.RecordText.{end_words, format_words, heading_words, line_end, office_words, record_lines, vote_line}
use Rattle.poll_report.specs.Report.{EachAfter, may_have_code}
use Rattle.record_audit.specs.Laws.{TextIsShort}
use Rattle.record_audit.specs.Spelling.{IsHeading, MayStand, codes_in, heading_of, may_vote, most_votes, spelled_office}
use Rattle.record_audit.specs.declared.text.RecordOffice.{RecordOffice}
use Rattle.record_audit.specs.declared.text.RecordText.{RecordText}
use Rattle.record_audit.proofs.LineLaws.{candidate_small, code_within}

-- a number in a range that ends below 2^32 has at most ten digits
short_between : (low high n : ℕ) → is_between low high n ≡ true → high < 4294967296 → length (decimal n) ≤ 10
short_between low high n h few = let small : n < 4294967296 = grind (arith, nat_tests) in length-decimal-le_10 n (omega arith)

short_vote : (code : ℕ) (c : Choice) → may_vote code c ≡ true → length (vote_line c) ≤ 13
short_vote code (choice.Nominal n) h =
    let few = candidate_small code n h in
    let digits = length-decimal-le_10 n (omega arith) in
    omega (arith, length-append (codes "N ") (decimal n), length-append (codes "N " ++ decimal n) line_end)
short_vote code (choice.Party n) h =
    let digits = short_between 10 99 n (both_from_and (code_proportional code) (is_between 10 99 n) h).1 (omega arith) in
    omega (arith, length-append (codes "L ") (decimal n), length-append (codes "L " ++ decimal n) line_end)
short_vote code choice.Blank h = omega arith
short_vote code choice.Null h = omega arith

short_votes : (code : ℕ) (votes : List Choice) → AllByRecursion (λ c. may_vote code c ≡ true) votes → length (concat (map vote_line votes)) ≤ 13 * length votes
short_votes code [] all = omega arith
short_votes code (c ∷ votes) all =
    omega (arith, short_vote code c all.0, short_votes code votes all.1, length-append (vote_line c) (concat (map vote_line votes)))

short_office_line : (before : List ℕ) (code votes : ℕ) → may_have_code before code ≡ true → votes ≤ most_votes → length (office_words code votes ++ line_end) ≤ 27
unfolding office_words
short_office_line before code votes may few =
    let digits = short_between 0 greatest_code code (code_within before code may) (omega arith) in
    let count = length-decimal-le_10 votes (omega arith) in
    omega (
      arith,
      length-append (codes "CARG ") (decimal code ++ (codes " " ++ decimal votes)),
      length-append (decimal code) (codes " " ++ decimal votes),
      length-append (codes " ") (decimal votes),
      length-append (codes "CARG " ++ (decimal code ++ (codes " " ++ decimal votes))) line_end,
    )

short_office : (before : List RecordOffice) (o : RecordOffice) → MayStand before o → length (concat (spelled_office o)) ≤ 15627
short_office before o may =
    let line = short_office_line (codes_in before) o.code (length o.votes) may.0 may.1.few in
    let votes = short_votes o.code o.votes may.1.votes in
    let few = may.1.few in
    omega (arith, line, votes, few, length-append (office_words o.code (length o.votes) ++ line_end) (concat (map vote_line o.votes)))

-- there are at most eight offices
length_codes : (os : List RecordOffice) → length (codes_in os) ≡ length os
length_codes [] = refl
length_codes (o ∷ os) = ap suc (length_codes os)

short_offices : (before offices : List RecordOffice) → length before ≤ 8 → EachAfter MayStand before offices
    → (length (concat (flat_map spelled_office offices)) ≤ 15627 * length offices) × (length before + length offices ≤ 8)
short_offices before [] few all = (omega arith, omega arith)
short_offices before (o ∷ offices) few all =
    let room = ltb-true _ _ (both_from_and (nat_lt (length (codes_in before)) most_offices) (is_some (code_digits o.code) && not (list_any (λ (c : ℕ). c == o.code) (codes_in before))) all.0.0).0 in
    let same = length_codes before in
    let longer = length-append before (o ∷ []) in
    let (rest, count) = short_offices (before ++ o ∷ []) offices (omega arith) all.1 in
    let first = short_office before o all.0 in
    let both = ap length (concat-append (spelled_office o) (flat_map spelled_office offices)) in
    (omega (arith, first, rest, both, length-append (concat (spelled_office o)) (concat (flat_map spelled_office offices))), omega arith)

short_heading : (r : RecordText) → IsHeading r → length (heading_of r) ≤ 100
unfolding heading_words
short_heading r is =
    let process = short_between 1 greatest_process r.process is.process (omega arith) in
    let date = length-padded 8 r.date in
    let turn = short_between 1 2 r.turn is.turn (omega arith) in
    let zone = short_between 1 greatest_section r.zone is.zone (omega arith) in
    let section = short_between 1 greatest_section r.section is.section (omega arith) in
    let behind_zone = codes " SECA " ++ decimal r.section in
    let behind_turn = codes " ZONA " ++ (decimal r.zone ++ behind_zone) in
    let behind_date = codes " TURN " ++ (decimal r.turn ++ behind_turn) in
    let behind_process = codes " DTPL " ++ (padded 8 r.date ++ behind_date) in
    omega (
      arith,
      process,
      date,
      turn,
      zone,
      section,
      length-append (codes "PROC ") (decimal r.process ++ behind_process),
      length-append (decimal r.process) behind_process,
      length-append (codes " DTPL ") (padded 8 r.date ++ behind_date),
      length-append (padded 8 r.date) behind_date,
      length-append (codes " TURN ") (decimal r.turn ++ behind_turn),
      length-append (decimal r.turn) behind_turn,
      length-append (codes " ZONA ") (decimal r.zone ++ behind_zone),
      length-append (decimal r.zone) behind_zone,
      length-append (codes " SECA ") (decimal r.section),
    )

pub text_is_short : TextIsShort
unfolding record_lines
text_is_short bytes r spells =
    let heading = short_heading r spells.record_is.heading in
    let (offices, few) = short_offices [] r.offices (omega arith) spells.record_is.offices in
    let lines = flat_map spelled_office r.offices in
    let joined = ap length (concat-append lines ((end_words ++ line_end) ∷ [])) in
    subst (λ (b : List ℕ). length b ≤ 131072) (sym spells.same)
    (omega (
      arith,
      heading,
      offices,
      few,
      joined,
      length-append (concat lines) ((end_words ++ line_end) ++ []),
      length-append (heading_of r ++ line_end) (concat (lines ++ (end_words ++ line_end) ∷ [])),
      length-append (heading_of r) line_end,
      length-append (format_words ++ line_end) ((heading_of r ++ line_end) ++ concat (lines ++ (end_words ++ line_end) ∷ [])),
    ))

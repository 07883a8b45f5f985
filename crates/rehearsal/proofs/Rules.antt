-- The rehearsal's document keeps the rules.
use Rattle.std.proofs.Common.{◌≡◌, ℕ, ℤ, ◌≤◌, ◌∙◌, ap, true, [], ◌∷◌, None, refl}
use Rattle.std.specs.Fmt.{digits}
use Rattle.std.proofs.lemmas.Bool.{le-leb}
use Rattle.std.proofs.lemmas.List.{map-append}
use Rattle.urna_base.specs.Moment.{is_date}
use Rattle.election_tables.specs.DocumentData.{DocumentData}
use Rattle.election_tables.specs.Limits.{most_voters}
use Rattle.election_tables.specs.Offices.{row_of}
use Rattle.election_tables.specs.Rules.{rule_4, rule_5, rule_6, rule_7, rule_8, rule_9, rule_10, rule_11, rule_12, rule_14, broken_rule, first_broken, rules, shape_rules, typed_rules}
use Rattle.election_tables.specs.Shape.{is_key}
use Rattle.rehearsal.specs.Document.{document}
use Rattle.rehearsal.specs.Numbers.{parties, councillors, mayors}
use Rattle.rehearsal.proofs.Distinct.{two_offices}
use Rattle.rehearsal.proofs.Entries.{entries, candidate_entry, document_of-document, map-map}
use Rattle.rehearsal.proofs.Rising.{councillors_rise, mayors_rise}

shapes_kept : (voters : ℕ) → shape_rules (document voters) ≡ true ∷ true ∷ true ∷ []
unfolding shape_rules document is_key councillors parties mayors
shapes_kept voters = refl

in_range : (voters : ℕ) → 1 ≤ voters → voters ≤ most_voters → rule_4 (entries voters) ≡ true
unfolding councillors parties mayors digits is_date
in_range voters some few = rw (le-leb 1 voters some, le-leb voters most_voters few) refl

codes_known : (voters : ℕ) → rule_5 (entries voters) ≡ true
unfolding row_of
codes_known voters = refl

kinds_allowed : (voters : ℕ) → rule_6 (entries voters) ≡ true
unfolding row_of
kinds_allowed voters = refl

party_numbers : (voters : ℕ) → rule_7 (entries voters) ≡ true
unfolding parties
party_numbers voters = refl

parties_differ : (voters : ℕ) → rule_8 (entries voters) ≡ true
unfolding parties
parties_differ voters = refl

offices_known : (voters : ℕ) → rule_9 (entries voters) ≡ true
unfolding councillors parties mayors row_of
offices_known voters = refl

parties_known : (voters : ℕ) → rule_10 (entries voters) ≡ true
unfolding councillors parties mayors row_of
parties_known voters = refl

candidates_differ : (voters : ℕ) → rule_11 (entries voters) ≡ true
candidates_differ voters =
    rw (
      map-append,
      map-map {C = ℤ × ℤ} (λ c. (c.office, c.number)) (candidate_entry 13) councillors,
      map-map {C = ℤ × ℤ} (λ c. (c.office, c.number)) (candidate_entry 11) mayors,
    ) (two_offices 13 11 0 councillors mayors refl councillors_rise mayors_rise)

births_valid : (voters : ℕ) → rule_12 (entries voters) ≡ true
unfolding councillors parties mayors is_date
births_valid voters = refl

seats_allowed : (voters : ℕ) → rule_14 (entries voters) ≡ true
unfolding row_of
seats_allowed voters = refl

entries_kept : (voters : ℕ) → 1 ≤ voters → voters ≤ most_voters → first_broken 1 (true ∷ true ∷ true ∷ typed_rules (entries voters)) ≡ None
unfolding typed_rules
entries_kept voters some few =
    rw (
      in_range voters some few,
      codes_known voters,
      kinds_allowed voters,
      party_numbers voters,
      parties_differ voters,
      offices_known voters,
      parties_known voters,
      candidates_differ voters,
      births_valid voters,
      seats_allowed voters,
    ) refl

pub document_kept : (voters : ℕ) → 1 ≤ voters → voters ≤ most_voters → broken_rule (document voters) ≡ None
unfolding broken_rule rules
document_kept voters some few =
    rw (shapes_kept voters)
    (ap (λ (d : DocumentData). first_broken 1 (true ∷ true ∷ true ∷ typed_rules d)) (document_of-document voters) ∙ entries_kept voters some few)

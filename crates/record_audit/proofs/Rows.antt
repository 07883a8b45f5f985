-- Worked rows: the text of a record of two offices, the first line that may not stand there in texts that differ in little from it, and
-- what a recount of it finds.
use Rattle.std.proofs.Common.{◌≡◌, ℕ, List, [], ◌∷◌, ◌++◌, refl, lit<, lit≤}
use Rattle.std.specs.Prelude.{codes}
use Rattle.std.specs.Fmt.{digits}
use Rattle.urna_base.specs.Lines.{lines_text as text}
use Rattle.urna_base.specs.Digits.{decimal_value, digits_value, padded}
use Rattle.urna_base.specs.Moment.{is_date}
use Rattle.urna_base.specs.Words.{cut_at}
use Rattle.election_tables.specs.Offices.{row_of}
use Rattle.vote_kinds.specs.declared.choice.Choice.{Choice}
use Rattle.vote_kinds.specs.declared.choice.Choice.TheVariants as choice
use Rattle.vote_record.specs.RecordText.{heading_words, office_words, record_lines}
use Rattle.poll_report.specs.declared.report.Report.{Report}
use Rattle.record_audit.specs.Fault.{IsLineFault, rows_of}
use Rattle.record_audit.specs.Finding.{difference, finding}
use Rattle.record_audit.specs.Reading.{after_offices, after_votes, candidate_in, cell, choice_in, date_cell, date_in, heading_in, in_office, line_in, number_cell, office_in, party_in, reading, section_in, vote_in, with_line}
use Rattle.record_audit.specs.Spelling.{IsRecord, spelling}
use Rattle.record_audit.specs.declared.finding.Finding.TheVariants.{Agree, Heading, Office, Differs}
use Rattle.record_audit.specs.declared.text.RecordText.{RecordText}
use Rattle.record_audit.proofs.Spellings.{fault_of}

-- ---- the record of three voters, with these votes for councillor

abbrev record_with : List Choice → RecordText
record_with votes = record {
  process = 7;
  date = 20261004;
  turn = 1;
  zone = 1;
  section = 42;
  offices = (record { code = 13; votes = votes }) ∷ (record { code = 11; votes = choice.Nominal 13 ∷ choice.Nominal 45 ∷ choice.Null ∷ [] }) ∷ [];
}

abbrev two_offices : RecordText
two_offices = record_with (choice.Nominal 13001 ∷ choice.Party 45 ∷ choice.Blank ∷ [])

abbrev head : List (List ℕ)
head = codes "RDV U1" ∷ codes "PROC 7 DTPL 20261004 TURN 1 ZONA 1 SECA 42" ∷ []

abbrev mayor : List (List ℕ)
mayor = codes "CARG 11 3" ∷ codes "N 13" ∷ codes "N 45" ∷ codes "X" ∷ []

text_of_two_offices : spelling two_offices
    ≡ text (head ++ (codes "CARG 13 3" ∷ codes "N 13001" ∷ codes "L 45" ∷ codes "B" ∷ mayor) ++ codes "FIM" ∷ [])
unfolding record_lines heading_words office_words padded digits
text_of_two_offices = refl

two_offices_is_record : IsRecord two_offices
unfolding is_date row_of
two_offices_is_record = record {
  heading = record { process = refl; date = refl; turn = refl; zone = refl; section = refl };
  some = lit< tt;
  offices = (
    (refl, record { few = lit≤ tt; votes = (refl, (refl, (refl, tt))); in_order = ((refl, (refl, tt)), ((refl, tt), (tt, tt))) }),
    (
      (refl, record { few = lit≤ tt; votes = (refl, (refl, (refl, tt))); in_order = ((refl, (refl, tt)), ((refl, tt), (tt, tt))) }),
      tt,
    ),
  );
}

-- ---- the first line that may not stand there

-- without its line `L 45` the office wants one line more, and `CARG` is none
vote_missing : IsLineFault (text (head ++ (codes "CARG 13 3" ∷ codes "N 13001" ∷ codes "B" ∷ mayor) ++ codes "FIM" ∷ [])) 6
unfolding reading rows_of with_line line_in cut_at heading_in section_in number_cell date_cell cell date_in office_in after_offices in_office after_votes vote_in choice_in candidate_in party_in decimal_value digits_value is_date row_of
vote_missing = fault_of _ 6 refl

-- a party vote behind a blank one
out_of_order : IsLineFault (text (head ++ (codes "CARG 13 2" ∷ codes "B" ∷ codes "L 45" ∷ []) ++ codes "FIM" ∷ [])) 5
unfolding reading rows_of with_line line_in cut_at heading_in section_in number_cell date_cell cell date_in office_in after_offices in_office after_votes vote_in choice_in candidate_in party_in decimal_value digits_value is_date row_of
out_of_order = fault_of _ 5 refl

-- a text that ends too early, and one whose last line has no line feed
no_text : IsLineFault [] 1
unfolding reading rows_of
no_text = fault_of _ 1 refl

ends_early : IsLineFault (codes "RDV U1" ++ 10 ∷ []) 2
unfolding reading rows_of with_line line_in cut_at
ends_early = fault_of _ 2 refl

no_line_feed : IsLineFault (codes "RDV U1") 1
unfolding reading rows_of with_line line_in cut_at
no_line_feed = fault_of _ 1 refl

-- ---- what a recount finds

abbrev report : Report
report = record {
  process = 7;
  date = 20261004;
  turn = 1;
  zone = 1;
  section = 42;
  able = 3;
  came = 3;
  opened = 20261004080000;
  closed = 20261004170000;
  offices = (record { code = 13; places = 1; nominal = (record { number = 13001; votes = 1 }) ∷ []; parties = (record { number = 45; votes = 1 }) ∷ []; blank = 1; null_votes = 0 })
      ∷ (record { code = 11; places = 1; nominal = (record { number = 13; votes = 1 }) ∷ (record { number = 45; votes = 1 }) ∷ []; parties = []; blank = 0; null_votes = 1 })
      ∷ [];
}

both_agree : finding two_offices report ≡ Agree
unfolding finding difference
both_agree = refl

-- a party vote fewer
party_vote_lost : finding (record_with (choice.Nominal 13001 ∷ choice.Blank ∷ [])) report ≡ Differs 0 (choice.Party 45) 0 1
unfolding finding difference
party_vote_lost = refl

-- a candidate whom the report doesn't list
unknown_candidate : finding (record_with (choice.Nominal 13001 ∷ choice.Nominal 13002 ∷ choice.Party 45 ∷ choice.Blank ∷ [])) report ≡ Differs 0 (choice.Nominal 13002) 1 0
unfolding finding difference
unknown_candidate = refl

other_section : finding (record two_offices { section = 43 }) report ≡ Heading
unfolding finding
other_section = refl

one_office : finding (record two_offices { offices = (record { code = 13; votes = choice.Nominal 13001 ∷ choice.Party 45 ∷ choice.Blank ∷ [] }) ∷ [] }) report ≡ Office 2
unfolding finding
one_office = refl

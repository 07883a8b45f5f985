-- Worked rows: the text of two reports, and the fault of texts that differ in little from the second.
use Rattle.std.proofs.Common.{◌≡◌, ℕ, true, false, List, [], ◌++◌, refl, lit<, lit≤}
use Rattle.std.specs.Prelude.{codes, Ok, Err}
use Rattle.std.specs.Fmt.{digits}
use Rattle.urna_base.specs.Digits.{decimal_value, digits_value, padded}
use Rattle.urna_base.specs.Moment.{is_date, is_moment}
use Rattle.election_tables.specs.Offices.{row_of}
use Rattle.poll_report.specs.Report.{IsReport}
use Rattle.qr_text.specs.Fault.{IsFieldFault}
use Rattle.qr_text.specs.Reading.{number_at, reading, said_by, step, value_at, vote_at}
use Rattle.qr_text.specs.Said.{fields}
use Rattle.qr_text.specs.Spelling.{report_fields, report_text, said}
use Rattle.qr_text.specs.Table.{head_rows}
use Rattle.qr_text.specs.declared.fault.FieldFault.TheVariants as fault
use Rattle.qr_text.specs.declared.fault.FieldFault.{FieldFault}
use Rattle.qr_text.proofs.Exact.{read_fault}
use Rattle.qr_text.proofs.Following.{complete}
use Rattle.qr_text.proofs.Going.{completes}
use Rattle.qr_text.proofs.Samples.{mayor, moments, one_voter, poll, two_offices, with_end}

-- ---- texts

text_of_one_voter : report_text one_voter
    ≡ poll ++ (codes "APTO:1 COMP:1 FALT:0 " ++ (moments ++ codes "CARG:11 TIPO:0 13:1 APTA:1 NOMI:1 BRAN:0 NULO:0 TOTC:1"))
unfolding report_text report_fields fields said head_rows row_of padded digits
text_of_one_voter = refl

text_of_two_offices : report_text two_offices ≡ with_end (codes "NULO:0 TOTC:3 " ++ mayor)
unfolding report_text report_fields fields said head_rows row_of padded digits
text_of_two_offices = refl

two_offices_is_report : IsReport two_offices
unfolding is_date is_moment row_of
two_offices_is_report = record {
  process = refl;
  date = refl;
  turn = refl;
  zone = refl;
  section = refl;
  able = lit≤ tt;
  came = lit≤ tt;
  opened = refl;
  closed = refl;
  order = lit≤ tt;
  some = lit< tt;
  offices = (
    (
      refl,
      record {
        nominal = ((refl, refl), tt);
        parties = ((refl, refl, refl), tt);
        majority = λ e. let other : true ≡ false = e in absurd (cc);
        places = refl;
        total = refl;
        few = lit≤ tt;
      },
    ),
    (
      (
        refl,
        record {
          nominal = ((refl, refl), ((refl, refl), tt));
          parties = tt;
          majority = λ e. refl;
          places = refl;
          total = refl;
          few = lit≤ tt;
        },
      ),
      tt,
    ),
  );
}

-- ---- faults

-- the fault that the reading of a text meets
found : (bytes : List ℕ) (f : FieldFault) → said_by bytes ≡ Err f → IsFieldFault bytes f
found bytes f e = read_fault complete completes bytes f e

-- a total of four, where three votes are listed
total_too_great : IsFieldFault (with_end (codes "NULO:0 TOTC:4 " ++ mayor)) (fault.Sum 28 3 4)
unfolding said_by reading step number_at value_at vote_at head_rows row_of digits_value decimal_value is_date
total_too_great = found (with_end (codes "NULO:0 TOTC:4 " ++ mayor)) (fault.Sum 28 3 4) refl

-- a null vote more, where three came: the votes make the total, and the total isn't who came
votes_too_many : IsFieldFault (with_end (codes "NULO:1 TOTC:4 " ++ mayor)) (fault.Sum 28 3 4)
unfolding said_by reading step number_at value_at vote_at head_rows row_of digits_value decimal_value is_date
votes_too_many = found (with_end (codes "NULO:1 TOTC:4 " ++ mayor)) (fault.Sum 28 3 4) refl

-- a leading zero
zero_in_front : IsFieldFault (with_end (codes "NULO:00 TOTC:3 " ++ mayor)) (fault.Field 27)
unfolding said_by reading step number_at value_at vote_at head_rows row_of digits_value decimal_value is_date
zero_in_front = found (with_end (codes "NULO:00 TOTC:3 " ++ mayor)) (fault.Field 27) refl

-- the text ends, and the total is still wanted
ends_too_early : IsFieldFault (with_end (codes "NULO:0")) (fault.Field 28)
unfolding said_by reading step number_at value_at vote_at head_rows row_of digits_value decimal_value is_date
ends_too_early = found (with_end (codes "NULO:0")) (fault.Field 28) refl

-- a space behind the last field is an empty field more
space_at_the_end : IsFieldFault (with_end (codes "NULO:0 TOTC:3 ")) (fault.Field 29)
unfolding said_by reading step number_at value_at vote_at head_rows row_of digits_value decimal_value is_date
space_at_the_end = found (with_end (codes "NULO:0 TOTC:3 ")) (fault.Field 29) refl

-- the same office once more
office_twice : IsFieldFault (with_end (codes "NULO:0 TOTC:3 CARG:13 TIPO:1 APTA:3 NOMI:0 LEGC:0 BRAN:3 NULO:0 TOTC:3")) (fault.Field 29)
unfolding said_by reading step number_at value_at vote_at head_rows row_of digits_value decimal_value is_date
office_twice = found (with_end (codes "NULO:0 TOTC:3 CARG:13 TIPO:1 APTA:3 NOMI:0 LEGC:0 BRAN:3 NULO:0 TOTC:3")) (fault.Field 29) refl

nothing_at_all : IsFieldFault [] (fault.Field 1)
unfolding said_by reading step number_at value_at head_rows
nothing_at_all = found [] (fault.Field 1) refl

-- more came than there are voters: that shows at FALT
too_many_came : IsFieldFault (poll ++ codes "APTO:3 COMP:4 FALT:0") (fault.Sum 9 4 3)
unfolding said_by reading step number_at value_at head_rows digits_value decimal_value is_date
too_many_came = found (poll ++ codes "APTO:3 COMP:4 FALT:0") (fault.Sum 9 4 3) refl

-- closed on the day before: that shows at the time of the day
closed_too_early : IsFieldFault (poll ++ codes "APTO:3 COMP:3 FALT:0 DTAB:20261004 HRAB:080000 DTFC:20261003 HRFC:170000") (fault.Field 13)
unfolding said_by reading step number_at value_at head_rows digits_value decimal_value is_date
closed_too_early = found (poll ++ codes "APTO:3 COMP:3 FALT:0 DTAB:20261004 HRAB:080000 DTFC:20261003 HRFC:170000") (fault.Field 13) refl

-- ---- what is read back

two_offices_read_back : said_by (report_text two_offices) ≡ Ok (said two_offices)
unfolding said_by reading step number_at value_at vote_at report_text report_fields fields said head_rows row_of padded digits digits_value decimal_value is_date
two_offices_read_back = refl

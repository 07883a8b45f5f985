-- What a recount finds: the first place at which a record and a report differ.
use Rattle.std.specs.Prelude.{ℕ, ◌+◌, Bool, not, ◌&&◌, ◌==◌, if◌then◌else◌, List, [], ◌∷◌, ◌++◌, map, Option, None, Some}
use Rattle.std.specs.List.{filter, find}
use Rattle.std.specs.Option.{option_map_or}
use Rattle.vote_kinds.specs.Choice.{choice_le}
use Rattle.vote_kinds.specs.declared.choice.Choice.{Choice}
use Rattle.vote_kinds.specs.declared.choice.Choice.TheVariants as choice
use Rattle.vote_record.specs.Bag.{count_of}
use Rattle.poll_report.specs.declared.report.Count.{Count}
use Rattle.poll_report.specs.declared.report.OfficeCount.{OfficeCount}
use Rattle.poll_report.specs.declared.report.Report.{Report}
use Rattle.record_audit.specs.Spelling.{codes_in}
use Rattle.record_audit.specs.declared.finding.Finding.TheVariants.{Agree, Heading, Office, Differs}
use Rattle.record_audit.specs.declared.finding.Finding.{Finding}
use Rattle.record_audit.specs.declared.text.RecordOffice.{RecordOffice}
use Rattle.record_audit.specs.declared.text.RecordText.{RecordText}

-- ---- one office

-- the votes of a number: 0 if it isn't listed
abbrev pub votes_for : ℕ → List Count → ℕ
votes_for number counts = option_map_or (λ c. c.votes) (find (λ c. c.number == number) counts) 0

-- the number that a report says for a choice
abbrev pub said_for : OfficeCount → Choice → ℕ
said_for o (choice.Nominal number) = votes_for number o.nominal
said_for o (choice.Party number) = votes_for number o.parties
said_for o choice.Blank = o.blank
said_for o choice.Null = o.null_votes

-- the number of vote lines of a choice isn't what the report says
abbrev pub differs_at : List Choice → OfficeCount → Choice → Bool
differs_at votes o c = not (count_of c votes == said_for o c)

-- the choices that the lines or the report name, in any order: for any other both numbers are 0
abbrev pub named : List Choice → OfficeCount → List Choice
named votes o =
    votes ++ (map (λ c. choice.Nominal c.number) o.nominal ++ (map (λ c. choice.Party c.number) o.parties ++ choice.Blank ∷ choice.Null ∷ []))

-- the first of some choices in the order of choices
abbrev pub first_choice : List Choice → Option Choice
first_choice [] = None
first_choice (c ∷ cs) = Some (option_map_or (λ d. if choice_le c d then c else d) (first_choice cs) c)

-- the first choice, in the order of choices, at which votes and report differ
unfoldable pub difference : List Choice → OfficeCount → Option Choice
difference votes o = first_choice (filter (differs_at votes o) (named votes o))

-- ---- all offices

-- the first place, counted from k, at which two lists differ or one of them has ended
abbrev pub first_apart : ℕ → List ℕ → List ℕ → Option ℕ
first_apart k [] [] = None
first_apart k (m ∷ ms) [] = Some k
first_apart k [] (n ∷ ns) = Some k
first_apart k (m ∷ ms) (n ∷ ns) = if m == n then first_apart (k + 1) ms ns else Some k

-- the first panel whose votes differ, of these panels, the first of which has this number
abbrev pub first_differing : ℕ → List RecordOffice → List OfficeCount → Finding
first_differing panel [] counts = Agree
first_differing panel (o ∷ offices) [] = Agree
first_differing panel (o ∷ offices) (q ∷ counts) =
    option_map_or (λ c. Differs panel c (count_of c o.votes) (said_for q c)) (difference o.votes q) (first_differing (panel + 1) offices counts)

-- ---- the whole

-- both are of one election and of one section
abbrev pub has_same_heading : RecordText → Report → Bool
has_same_heading text report =
    text.process == report.process && text.date == report.date && text.turn == report.turn && text.zone == report.zone && text.section == report.section

-- the codes of the offices that a report counts, in order
abbrev pub codes_counted : List OfficeCount → List ℕ
codes_counted offices = map (λ o. o.code) offices

-- what a recount finds
unfoldable pub finding : RecordText → Report → Finding
finding text report =
    if has_same_heading text report
    then option_map_or (λ k. Office k) (first_apart 1 (codes_in text.offices) (codes_counted report.offices)) (first_differing 0 text.offices report.offices)
    else Heading

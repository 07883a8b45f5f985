-- What the table of the report's fields says (`TABLE`, src/table.rt): which numbers a field may have, and how it is written.
use Rattle.std.specs.Prelude.{ℕ, ◌/◌, ◌%◌, Bool, ◌&&◌, ◌==◌, List, [], ◌∷◌, ◌++◌, codes}
use Rattle.std.specs.Fmt.{decimal}
use Rattle.urna_base.specs.Digits.{padded}
use Rattle.urna_base.specs.Moment.{is_between, is_date}
use Rattle.qr_text.specs.declared.table.Form.TheVariants.{Vota, Between, Date, Time}
use Rattle.qr_text.specs.declared.table.Form.{Form}
use Rattle.qr_text.specs.declared.table.Row.{Row}
use Rattle.qr_text.specs.declared.table.Tested.TheVariants.{Nothing}
use Rattle.qr_text.specs.declared.table.TheConstants.{TABLE}

-- hour 0 to 23, minute and second 0 to 59
abbrev pub is_time : ℕ → Bool
is_time n = is_between 0 23 (n / 10000) && is_between 0 59 (n / 100 % 100) && is_between 0 59 (n % 100)

-- a field of this form may have the number
abbrev pub fits : Form → ℕ → Bool
fits Vota v = v == 0
fits (Between low high) v = is_between low high v
fits Date v = is_date v
fits Time v = is_time v

-- how the form writes a number
abbrev pub value_text : Form → ℕ → List ℕ
value_text Vota v = codes "VOTA"
value_text (Between low high) v = decimal v
value_text Date v = padded 8 v
value_text Time v = padded 6 v

-- a field: the key, a colon (58) and the value
abbrev pub row_text : Row → ℕ → List ℕ
row_text r v = r.key ++ 58 ∷ value_text r.form v

-- the fields before the offices, in order
unfoldable pub head_rows : List Row
head_rows =
    TABLE.orig ∷ TABLE.process ∷ TABLE.date ∷ TABLE.turn ∷ TABLE.zone ∷ TABLE.section
    ∷ TABLE.able ∷ TABLE.came ∷ TABLE.missed
    ∷ TABLE.open_date ∷ TABLE.open_time ∷ TABLE.close_date ∷ TABLE.close_time ∷ []

-- the field of a candidate, whose number is its key
abbrev pub vote_row : ℕ → Row
vote_row number = record { key = decimal number; form = TABLE.votes; tested = Nothing }

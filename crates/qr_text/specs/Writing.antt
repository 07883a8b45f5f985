-- The text of a report part by part, each field behind a space (32): what the functions that write it say.
use Rattle.std.specs.Prelude.{ℕ, ◌+◌, ◌-◌, ◌/◌, ◌%◌, ◌<◌, ◌^◌, Bool, nat_lt, ◌==◌, if◌then◌else◌, List, [], ◌∷◌, ◌++◌}
use Rattle.std.specs.List.{flat_map, range_with_len}
use Rattle.election_tables.specs.Offices.{code_proportional}
use Rattle.poll_report.specs.Report.{digits_in, total_of, votes_of}
use Rattle.poll_report.specs.declared.report.Count.{Count}
use Rattle.poll_report.specs.declared.report.OfficeCount.{OfficeCount}
use Rattle.poll_report.specs.declared.report.Report.{Report}
use Rattle.qr_text.specs.Said.{kind_number, office_fields, texts}
use Rattle.qr_text.specs.Spelling.{said, said_office, said_party}
use Rattle.qr_text.specs.Table.{row_text, vote_row}
use Rattle.qr_text.specs.declared.said.SaidParty.{SaidParty}
use Rattle.qr_text.specs.declared.table.Form.TheVariants.{Vota, Between, Date, Time}
use Rattle.qr_text.specs.declared.table.Form.{Form}
use Rattle.qr_text.specs.declared.table.TheConstants.{TABLE}

-- the form has digits enough for the number
abbrev pub HasRoom : Form → ℕ → Type 0
HasRoom Vota v = Unit {0}
HasRoom (Between low high) v = Unit {0}
HasRoom Date v = v < 10 ^ 8
HasRoom Time v = v < 10 ^ 6

-- fields, each behind a space
abbrev pub spaced : List (List ℕ) → List ℕ
spaced ts = flat_map (λ t. 32 ∷ t) ts

-- a text and fields behind it, one after the other
abbrev pub with_fields : List ℕ → List (List ℕ) → List ℕ
with_fields text [] = text
with_fields text (f ∷ fs) = with_fields (text ++ 32 ∷ f) fs

-- the fields before the offices, but for the first
abbrev pub head_texts : Report → List (List ℕ)
head_texts r =
    row_text TABLE.process r.process
    ∷ row_text TABLE.date r.date
    ∷ row_text TABLE.turn r.turn
    ∷ row_text TABLE.zone r.zone
    ∷ row_text TABLE.section r.section
    ∷ row_text TABLE.able r.able
    ∷ row_text TABLE.came r.came
    ∷ row_text TABLE.missed (r.able - r.came)
    ∷ row_text TABLE.open_date (r.opened / 1000000)
    ∷ row_text TABLE.open_time (r.opened % 1000000)
    ∷ row_text TABLE.close_date (r.closed / 1000000)
    ∷ row_text TABLE.close_time (r.closed % 1000000)
    ∷ []

-- ---- the votes of an office

abbrev pub spaced_vote : Count → List ℕ
spaced_vote c = 32 ∷ row_text (vote_row c.number) c.votes

abbrev pub spaced_votes : List Count → List ℕ
spaced_votes counts = flat_map spaced_vote counts

-- a party with its total
abbrev pub with_total : ℕ → List Count → ℕ → SaidParty
with_total party candidates legend =
    record { number = party; candidates = candidates; legend = legend; total = votes_of candidates + legend }

-- a party with its candidates, where it has votes
abbrev pub spaced_party : SaidParty → List ℕ
spaced_party p =
    if nat_lt 0 p.total
    then (32 ∷ row_text TABLE.party p.number) ++ spaced_votes p.candidates
    ++ (32 ∷ row_text TABLE.party_legend p.legend) ++ (32 ∷ row_text TABLE.party_total p.total)
    else []

-- so many of the parties from 10 on
unfoldable pub spaced_parties : OfficeCount → ℕ → List ℕ
spaced_parties o n = flat_map (λ k. spaced_party (said_party (digits_in o.code) o k)) (range_with_len 10 n)

-- how many votes each voter has, where it isn't one
abbrev pub spaced_places : ℕ → List ℕ
spaced_places places = if places == 1 then [] else 32 ∷ row_text TABLE.places places

unfoldable pub spaced_office_votes : OfficeCount → List ℕ
spaced_office_votes o = if code_proportional o.code then spaced_parties o 90 else spaced_places o.places ++ spaced_votes o.nominal

-- ---- an office

unfoldable pub with_code : ℕ → Bool → List ℕ → List ℕ
with_code code proportional text = with_fields text (row_text TABLE.office code ∷ row_text TABLE.kind (kind_number proportional) ∷ [])

abbrev pub legend_texts : Bool → ℕ → List (List ℕ)
legend_texts proportional legend = if proportional then row_text TABLE.legend legend ∷ [] else []

unfoldable pub with_sums : ℕ → Bool → ℕ → ℕ → List ℕ → List ℕ
with_sums able proportional nominal legend text =
    with_fields (with_fields text (row_text TABLE.office_able able ∷ row_text TABLE.nominal nominal ∷ []))
    (legend_texts proportional legend)

unfoldable pub with_last : ℕ → ℕ → ℕ → List ℕ → List ℕ
with_last blank null_votes total text =
    with_fields text (row_text TABLE.blank blank ∷ row_text TABLE.null_votes null_votes ∷ row_text TABLE.total total ∷ [])

-- a text and an office behind it, part by part
unfoldable pub with_office : Report → List ℕ → OfficeCount → List ℕ
with_office r text o =
    with_last o.blank o.null_votes (total_of o)
    (with_sums r.able (code_proportional o.code) (votes_of o.nominal) (votes_of o.parties)
    (with_code o.code (code_proportional o.code) text ++ spaced_office_votes o))

-- an office by its fields
unfoldable pub spaced_office : Report → OfficeCount → List ℕ
spaced_office r o = spaced (texts (office_fields (said r) (said_office r o)))

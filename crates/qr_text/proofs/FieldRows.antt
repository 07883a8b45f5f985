-- Worked rows: the table of the report's fields in figures, as docs/FORMATS.md, "Report text", has it, and what may not stand at its ends.
use Rattle.std.proofs.Common.{◌≡◌, ℕ, List, [], ◌∷◌, map, Option, Some, None, refl}
use Rattle.std.specs.Prelude.{codes}
use Rattle.urna_base.specs.Digits.{decimal_value, digits_value}
use Rattle.urna_base.specs.Moment.{is_date}
use Rattle.poll_report.specs.declared.report.Count.{Count}
use Rattle.qr_text.specs.Reading.{number_at, value_at, vote_at}
use Rattle.qr_text.specs.declared.table.Form.TheVariants.{Vota, Between, Date, Time}
use Rattle.qr_text.specs.declared.table.Form.{Form}
use Rattle.qr_text.specs.declared.table.Row.{Row}
use Rattle.qr_text.specs.declared.table.Tested.TheVariants.{Nothing, Order, Voters, Party, Able, Nominal, Legend, Total}
use Rattle.qr_text.specs.declared.table.Tested.{Tested}
use Rattle.qr_text.specs.declared.table.TheConstants.{TABLE}

-- ---- the rows: the key, the form with the least and the greatest number, and what is tested

abbrev row : List ℕ → Form → Tested → Row
row key form tested = record { key = key; form = form; tested = tested }

orig : TABLE.orig ≡ row (codes "ORIG") Vota Nothing
orig = refl

proc : TABLE.process ≡ row (codes "PROC") (Between 1 99999) Nothing
proc = refl

dtpl : TABLE.date ≡ row (codes "DTPL") Date Nothing
dtpl = refl

turn : TABLE.turn ≡ row (codes "TURN") (Between 1 2) Nothing
turn = refl

zona : TABLE.zone ≡ row (codes "ZONA") (Between 1 9999) Nothing
zona = refl

seca : TABLE.section ≡ row (codes "SECA") (Between 1 9999) Nothing
seca = refl

apto : TABLE.able ≡ row (codes "APTO") (Between 0 9999) Nothing
apto = refl

comp : TABLE.came ≡ row (codes "COMP") (Between 0 9999) Nothing
comp = refl

falt : TABLE.missed ≡ row (codes "FALT") (Between 0 9999) Voters
falt = refl

dtab : TABLE.open_date ≡ row (codes "DTAB") Date Nothing
dtab = refl

hrab : TABLE.open_time ≡ row (codes "HRAB") Time Nothing
hrab = refl

dtfc : TABLE.close_date ≡ row (codes "DTFC") Date Nothing
dtfc = refl

hrfc : TABLE.close_time ≡ row (codes "HRFC") Time Order
hrfc = refl

carg : TABLE.office ≡ row (codes "CARG") (Between 1 99) Nothing
carg = refl

tipo : TABLE.kind ≡ row (codes "TIPO") (Between 0 1) Nothing
tipo = refl

luga : TABLE.places ≡ row (codes "LUGA") (Between 2 2) Nothing
luga = refl

part : TABLE.party ≡ row (codes "PART") (Between 10 99) Nothing
part = refl

-- the votes of a candidate, whose number is the key
votes : TABLE.votes ≡ Between 1 9999
votes = refl

legp : TABLE.party_legend ≡ row (codes "LEGP") (Between 0 9999) Nothing
legp = refl

totp : TABLE.party_total ≡ row (codes "TOTP") (Between 1 9999) Party
totp = refl

apta : TABLE.office_able ≡ row (codes "APTA") (Between 0 9999) Able
apta = refl

nomi : TABLE.nominal ≡ row (codes "NOMI") (Between 0 9999) Nominal
nomi = refl

legc : TABLE.legend ≡ row (codes "LEGC") (Between 0 9999) Legend
legc = refl

bran : TABLE.blank ≡ row (codes "BRAN") (Between 0 9999) Nothing
bran = refl

nulo : TABLE.null_votes ≡ row (codes "NULO") (Between 0 9999) Nothing
nulo = refl

totc : TABLE.total ≡ row (codes "TOTC") (Between 0 9999) Total
totc = refl

-- ---- the ends: what a field with such a text says, the least and the greatest number and those beside them

abbrev says : Row → List (List ℕ) → List (Option ℕ)
says r fields = map (number_at r) fields

proc_ends : says TABLE.process (codes "PROC:0" ∷ codes "PROC:1" ∷ codes "PROC:99999" ∷ codes "PROC:100000" ∷ []) ≡ None ∷ Some 1 ∷ Some 99999 ∷ None ∷ []
unfolding number_at value_at decimal_value
proc_ends = refl

turn_ends : says TABLE.turn (codes "TURN:0" ∷ codes "TURN:1" ∷ codes "TURN:2" ∷ codes "TURN:3" ∷ []) ≡ None ∷ Some 1 ∷ Some 2 ∷ None ∷ []
unfolding number_at value_at decimal_value
turn_ends = refl

zona_ends : says TABLE.zone (codes "ZONA:0" ∷ codes "ZONA:1" ∷ codes "ZONA:9999" ∷ codes "ZONA:10000" ∷ []) ≡ None ∷ Some 1 ∷ Some 9999 ∷ None ∷ []
unfolding number_at value_at decimal_value
zona_ends = refl

seca_ends : says TABLE.section (codes "SECA:0" ∷ codes "SECA:1" ∷ codes "SECA:9999" ∷ codes "SECA:10000" ∷ []) ≡ None ∷ Some 1 ∷ Some 9999 ∷ None ∷ []
unfolding number_at value_at decimal_value
seca_ends = refl

apto_ends : says TABLE.able (codes "APTO:0" ∷ codes "APTO:9999" ∷ codes "APTO:10000" ∷ []) ≡ Some 0 ∷ Some 9999 ∷ None ∷ []
unfolding number_at value_at decimal_value
apto_ends = refl

comp_ends : says TABLE.came (codes "COMP:0" ∷ codes "COMP:9999" ∷ codes "COMP:10000" ∷ []) ≡ Some 0 ∷ Some 9999 ∷ None ∷ []
unfolding number_at value_at decimal_value
comp_ends = refl

falt_ends : says TABLE.missed (codes "FALT:0" ∷ codes "FALT:9999" ∷ codes "FALT:10000" ∷ []) ≡ Some 0 ∷ Some 9999 ∷ None ∷ []
unfolding number_at value_at decimal_value
falt_ends = refl

dtpl_ends : says TABLE.date (codes "DTPL:10000101" ∷ codes "DTPL:99991231" ∷ codes "DTPL:20261032" ∷ []) ≡ Some 10000101 ∷ Some 99991231 ∷ None ∷ []
unfolding number_at value_at digits_value is_date
dtpl_ends = refl

dtab_ends : says TABLE.open_date (codes "DTAB:10000101" ∷ codes "DTAB:99991231" ∷ codes "DTAB:20261032" ∷ []) ≡ Some 10000101 ∷ Some 99991231 ∷ None ∷ []
unfolding number_at value_at digits_value is_date
dtab_ends = refl

hrab_ends : says TABLE.open_time (codes "HRAB:000000" ∷ codes "HRAB:235959" ∷ codes "HRAB:240000" ∷ []) ≡ Some 0 ∷ Some 235959 ∷ None ∷ []
unfolding number_at value_at digits_value
hrab_ends = refl

dtfc_ends : says TABLE.close_date (codes "DTFC:10000101" ∷ codes "DTFC:99991231" ∷ codes "DTFC:20261032" ∷ []) ≡ Some 10000101 ∷ Some 99991231 ∷ None ∷ []
unfolding number_at value_at digits_value is_date
dtfc_ends = refl

hrfc_ends : says TABLE.close_time (codes "HRFC:000000" ∷ codes "HRFC:235959" ∷ codes "HRFC:240000" ∷ []) ≡ Some 0 ∷ Some 235959 ∷ None ∷ []
unfolding number_at value_at digits_value
hrfc_ends = refl

carg_ends : says TABLE.office (codes "CARG:0" ∷ codes "CARG:1" ∷ codes "CARG:99" ∷ codes "CARG:100" ∷ []) ≡ None ∷ Some 1 ∷ Some 99 ∷ None ∷ []
unfolding number_at value_at decimal_value
carg_ends = refl

luga_ends : says TABLE.places (codes "LUGA:1" ∷ codes "LUGA:2" ∷ codes "LUGA:3" ∷ []) ≡ None ∷ Some 2 ∷ None ∷ []
unfolding number_at value_at decimal_value
luga_ends = refl

tipo_ends : says TABLE.kind (codes "TIPO:0" ∷ codes "TIPO:1" ∷ codes "TIPO:2" ∷ []) ≡ Some 0 ∷ Some 1 ∷ None ∷ []
unfolding number_at value_at decimal_value
tipo_ends = refl

part_ends : says TABLE.party (codes "PART:9" ∷ codes "PART:10" ∷ codes "PART:99" ∷ codes "PART:100" ∷ []) ≡ None ∷ Some 10 ∷ Some 99 ∷ None ∷ []
unfolding number_at value_at decimal_value
part_ends = refl

abbrev of_13001 : ℕ → Count
of_13001 votes = record { number = 13001; votes = votes }

votes_ends : map (vote_at 5) (codes "13001:0" ∷ codes "13001:1" ∷ codes "13001:9999" ∷ codes "13001:10000" ∷ [])
    ≡ None ∷ Some (of_13001 1) ∷ Some (of_13001 9999) ∷ None ∷ []
unfolding vote_at decimal_value
votes_ends = refl

legp_ends : says TABLE.party_legend (codes "LEGP:0" ∷ codes "LEGP:9999" ∷ codes "LEGP:10000" ∷ []) ≡ Some 0 ∷ Some 9999 ∷ None ∷ []
unfolding number_at value_at decimal_value
legp_ends = refl

totp_ends : says TABLE.party_total (codes "TOTP:0" ∷ codes "TOTP:1" ∷ codes "TOTP:9999" ∷ codes "TOTP:10000" ∷ []) ≡ None ∷ Some 1 ∷ Some 9999 ∷ None ∷ []
unfolding number_at value_at decimal_value
totp_ends = refl

apta_ends : says TABLE.office_able (codes "APTA:0" ∷ codes "APTA:9999" ∷ codes "APTA:10000" ∷ []) ≡ Some 0 ∷ Some 9999 ∷ None ∷ []
unfolding number_at value_at decimal_value
apta_ends = refl

nomi_ends : says TABLE.nominal (codes "NOMI:0" ∷ codes "NOMI:9999" ∷ codes "NOMI:10000" ∷ []) ≡ Some 0 ∷ Some 9999 ∷ None ∷ []
unfolding number_at value_at decimal_value
nomi_ends = refl

legc_ends : says TABLE.legend (codes "LEGC:0" ∷ codes "LEGC:9999" ∷ codes "LEGC:10000" ∷ []) ≡ Some 0 ∷ Some 9999 ∷ None ∷ []
unfolding number_at value_at decimal_value
legc_ends = refl

bran_ends : says TABLE.blank (codes "BRAN:0" ∷ codes "BRAN:9999" ∷ codes "BRAN:10000" ∷ []) ≡ Some 0 ∷ Some 9999 ∷ None ∷ []
unfolding number_at value_at decimal_value
bran_ends = refl

nulo_ends : says TABLE.null_votes (codes "NULO:0" ∷ codes "NULO:9999" ∷ codes "NULO:10000" ∷ []) ≡ Some 0 ∷ Some 9999 ∷ None ∷ []
unfolding number_at value_at decimal_value
nulo_ends = refl

totc_ends : says TABLE.total (codes "TOTC:0" ∷ codes "TOTC:9999" ∷ codes "TOTC:10000" ∷ []) ≡ Some 0 ∷ Some 9999 ∷ None ∷ []
unfolding number_at value_at decimal_value
totc_ends = refl

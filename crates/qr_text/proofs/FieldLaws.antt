-- The number of one field.
use Rattle.std.proofs.Common.{◌≡◌, ℕ, ◌<◌, ◌^◌, true, List, Some, refl, arith}
use Rattle.std.specs.Prelude.{nat_lt}
use Rattle.std.proofs.lemmas.Bool.Decides.{nat_tests}
use Rattle.urna_base.specs.Moment.{is_between}
use Rattle.urna_base.proofs.MomentLaws.{is_date-below}
use Rattle.qr_text.proofs.RowLaws.{number_back, time_small}
use Rattle.qr_text.specs.Reading.{number_at}
use Rattle.qr_text.specs.Sections.{is_narrow}
use Rattle.qr_text.specs.Table.{fits}
use Rattle.qr_text.specs.declared.table.Form.TheVariants.{Vota, Between, Date, Time}
use Rattle.qr_text.specs.declared.table.Form.{Form}
use Rattle.qr_text.specs.declared.table.Row.{Row}
use Rattle.qr_text.specs.declared.table.TheConstants.{TABLE}

pub number_fits : (r : Row) (p : List ℕ) (v : ℕ) → number_at r p ≡ Some v → fits r.form v ≡ true
number_fits r p v h = (number_back r p v h).1

between_narrow : (low high v : ℕ) → is_between low high v ≡ true → nat_lt high 4294967296 ≡ true → v < 2 ^ 32
between_narrow low high v e h = grind (arith, nat_tests)

zero_narrow : (v : ℕ) → fits Vota v ≡ true → v < 2 ^ 32
zero_narrow v e = grind (arith, nat_tests)

-- a number that a narrow field may have has 32 bits
pub narrow : (form : Form) (v : ℕ) → fits form v ≡ true → is_narrow form ≡ true → v < 2 ^ 32
narrow Vota v e h = zero_narrow v e
narrow (Between low high) v e h = between_narrow low high v e h
narrow Date v e h = let small = is_date-below v e in omega arith
narrow Time v e h = let small = time_small v e in omega arith

pub places_narrow : (p : List ℕ) (n : ℕ) → number_at TABLE.places p ≡ Some n → n < 2 ^ 32
places_narrow p n h = narrow TABLE.places.form n (number_fits TABLE.places p n h) refl

pub party_narrow : (p : List ℕ) (n : ℕ) → number_at TABLE.party p ≡ Some n → n < 2 ^ 32
party_narrow p n h = narrow TABLE.party.form n (number_fits TABLE.party p n h) refl

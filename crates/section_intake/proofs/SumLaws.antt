-- The sums of panels: what the votes of offices more make of them.
use Rattle.std.proofs.Common.{◌≡◌, ℕ, zero, suc, ◌<◌, List, [], ◌∷◌, length, get_or, set, slice_get, take, Some, refl, ap, arith}
use Rattle.poll_report.specs.declared.report.OfficeCount.{OfficeCount}
use Rattle.section_intake.specs.Kept.{with_office, with_offices}
use Rattle.section_intake.specs.declared.panel_sums.PanelSums.{PanelSums}

pub as_many : (offices : List OfficeCount) (sums : List PanelSums) → length (with_offices offices sums) ≡ length sums
as_many [] sums = refl
as_many (o ∷ offices) [] = refl
as_many (o ∷ offices) (s ∷ sums) = ap suc (as_many offices sums)

-- a panel whose office comes next is as it was
pub next_panel : (offices : List OfficeCount) (sums : List PanelSums) (k : ℕ) (d : PanelSums) → k < length offices → k < length sums
    → get_or (with_offices (take k offices) sums) k d ≡ get_or sums k d
next_panel [] sums k d there here = absurd (omega arith)
next_panel (o ∷ offices) [] k d there here = absurd (omega arith)
next_panel (o ∷ offices) (s ∷ sums) zero d there here = refl
next_panel (o ∷ offices) (s ∷ sums) (suc k) d there here = next_panel offices sums k d (omega arith) (omega arith)

-- the office of the next panel
pub next_office : (offices : List OfficeCount) (sums : List PanelSums) (k : ℕ) (o : OfficeCount) (s : PanelSums) → k < length offices → k < length sums
    → o ≡ get_or offices k o → s ≡ get_or sums k s → set (with_offices (take k offices) sums) k (with_office o s) ≡ with_offices (take (suc k) offices) sums
next_office [] sums k o s there here is was = absurd (omega arith)
next_office (p ∷ offices) [] k o s there here is was = absurd (omega arith)
next_office (p ∷ offices) (r ∷ sums) zero o s there here is was = rw (is, was) refl
next_office (p ∷ offices) (r ∷ sums) (suc k) o s there here is was =
    ap (λ (l : List PanelSums). with_office p r ∷ l) (next_office offices sums k o s (omega arith) (omega arith) is was)

-- what stands in a panel afterwards
pub office_added : (offices : List OfficeCount) (sums : List PanelSums) (k : ℕ) (o : OfficeCount) (s : PanelSums) → slice_get offices k ≡ Some o → slice_get sums k ≡ Some s
    → slice_get (with_offices offices sums) k ≡ Some (with_office o s)
office_added [] sums k o s there here = absurd (cc)
office_added (p ∷ offices) [] k o s there here = absurd (cc)
office_added (p ∷ offices) (r ∷ sums) zero o s there here =
    let office : p ≡ o = cc in
    let sum : r ≡ s = cc in
    rw (office, sum) refl
office_added (p ∷ offices) (r ∷ sums) (suc k) o s there here = office_added offices sums k o s there here

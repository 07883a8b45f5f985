-- The report that was said, list by list, and how short its lists are.
use Rattle.std.proofs.Common.{◌≡◌, ℕ, zero, suc, ◌+◌, ◌<◌, ◌≤◌, ◌^◌, Bool, true, false, List, [], ◌∷◌, ◌++◌, length, map, take, get_or, length-append, refl, sym, ap, subst, arith}
use Rattle.std.specs.List.{flat_map}
use Rattle.std.specs.Prelude.{nat_lt, ◌&&◌, not, ◌==◌, is_some}
use Rattle.std.specs.List.{list_any}
use Rattle.std.proofs.lemmas.Bool.{ltb-true}
use Rattle.std.proofs.lemmas.List.Folds.{length-flat_map-take}
use Rattle.std.proofs.lemmas.List.{length-map}
use Rattle.election_tables.specs.Fields.{has_digits}
use Rattle.election_tables.specs.Limits.{most_offices}
use Rattle.election_tables.specs.Offices.{code_digits}
use Rattle.poll_report.specs.Report.{EachAfter, IsOfficeCount, IsReport, MayCount, MayLegend, MayVote, digits_in, is_some_votes, votes_of}
use Rattle.poll_report.specs.declared.report.Count.{Count}
use Rattle.poll_report.specs.declared.report.OfficeCount.{OfficeCount}
use Rattle.urna_base.proofs.DigitLaws.{both_from_and}
use Rattle.qr_text.proofs.Flattening.{some_of}
use Rattle.poll_report.proofs.Totals.{votes_cons}
use Rattle.qr_text.specs.Reported.{legend_of, legends, told_office, told_report}
use Rattle.qr_text.specs.declared.said.Said.{Said}
use Rattle.qr_text.specs.declared.said.SaidOffice.{SaidOffice}
use Rattle.qr_text.specs.declared.said.SaidParty.{SaidParty}

-- ---- piece by piece

-- the pieces before the element at i, and its own, are no longer than all of them
pub flat_few : {X A : Type 0} (f : X → List A) (xs : List X) (i : ℕ) (x : X) → i < length xs → x ≡ get_or xs i x → length (flat_map f (take i xs)) + length (f x) ≤ length (flat_map f xs)
flat_few f xs i x lt e =
    let most = length-flat_map-take f xs i x lt in
    let here = ap (λ y. length (f y)) e in
    omega (arith, most, here)

pub legends_flat : (ps : List SaidParty) → legends ps ≡ flat_map legend_of ps
legends_flat [] = refl
legends_flat (p ∷ ps) = go (nat_lt 0 p.legend) refl (legends_flat ps)
  where
    go : (b : Bool) → nat_lt 0 p.legend ≡ b → legends ps ≡ flat_map legend_of ps → legends (p ∷ ps) ≡ flat_map legend_of (p ∷ ps)
    go true e h = rw e (ap (λ (l : List Count). record { number = p.number; votes = p.legend } ∷ l) h)
    go false e h = rw e h

-- ---- how short the lists of a report are

few_candidates : (digits : ℕ) (before cs : List Count) → EachAfter (MayVote digits) before cs → length cs ≤ votes_of cs
few_candidates digits before [] h = omega arith
few_candidates digits before (c ∷ cs) h =
    let rest = few_candidates digits (before ++ c ∷ []) cs h.1 in
    let some = some_of c.votes (both_from_and (has_digits digits c.number) (is_some_votes c.votes) h.0.0).1 in
    let all = votes_cons c cs in
    omega (arith, rest, some, all)

few_legends : (before cs : List Count) → EachAfter MayLegend before cs → length cs ≤ votes_of cs
few_legends before [] h = omega arith
few_legends before (c ∷ cs) h =
    let rest = few_legends (before ++ c ∷ []) cs h.1 in
    let some = some_of c.votes h.0.1 in
    let all = votes_cons c cs in
    omega (arith, rest, some, all)

-- the lists of an office are shorter than 2^32
abbrev pub IsShort : OfficeCount → Type 0
IsShort o = (length o.nominal < 2 ^ 32) × (length o.parties < 2 ^ 32)

short_office : (came : ℕ) (o : OfficeCount) → IsOfficeCount came o → IsShort o
short_office came o h =
    let nominal = few_candidates (digits_in o.code) [] o.nominal h.nominal in
    let parties = few_legends [] o.parties h.parties in
    (omega (arith, nominal, h.few), omega (arith, parties, h.few))

short_at : (came : ℕ) (before : List OfficeCount) (os : List SaidOffice) (i : ℕ) (o : SaidOffice) → EachAfter (MayCount came) before (map told_office os)
    → i < length os → o ≡ get_or os i o → IsShort (told_office o)
short_at came before [] i o h lt e = absurd (omega arith)
short_at came before (x ∷ os) zero o h lt e = let P : SaidOffice → Type 0 = λ y. IsShort (told_office y) in subst P (sym e) (short_office came (told_office x) h.0.1)
short_at came before (x ∷ os) (suc i) o h lt e = short_at came (before ++ told_office x ∷ []) os i o h.1 (omega arith) e

-- so are those of each office of a report
pub short_said : (s : Said) (i : ℕ) (o : SaidOffice) → IsReport (told_report s) → i < length s.offices → o ≡ get_or s.offices i o → IsShort (told_office o)
short_said s i o h lt e = short_at s.came [] s.offices i o h.offices lt e

pub few_offices : (came : ℕ) (before os : List OfficeCount) → length before ≤ most_offices → EachAfter (MayCount came) before os → length before + length os ≤ most_offices
few_offices came before [] few h = omega arith
few_offices came before (o ∷ os) few h =
    let test = (both_from_and (nat_lt (length (map (λ x. x.code) before)) most_offices) (is_some (code_digits o.code) && not (list_any (λ c. c == o.code) (map (λ x. x.code) before))) h.0.0).0 in
    let room : length before + 1 ≤ most_offices = let below = ltb-true _ _ test in let same = length-map before (λ (x : OfficeCount). x.code) in omega (arith, below, same) in
    let more = length-append before (o ∷ []) in
    let rest = few_offices came (before ++ o ∷ []) os (omega (arith, more, room)) h.1 in
    omega (arith, rest, more)

-- there are at most eight offices
pub few_said : (s : Said) → IsReport (told_report s) → length s.offices ≤ most_offices
few_said s h = let few = few_offices s.came [] (map told_office s.offices) (omega arith) h.offices in let same = length-map s.offices told_office in omega (arith, few, same)

-- How many votes a voter has for an office, and in the panels of the tables
use Rattle.std.proofs.Common.{◌≡◌, ◌+◌, ◌<◌, ◌≤◌, ◌==◌, ℕ, zero, suc, Bool, true, false, cond, List, [], length, take, get_or, slice_get, nat_le, add-one, Option, None, Some, is_some, option_map, ◌⊎◌, inl, inr, refl, sym, ap, ◌∙◌, arith}
use Rattle.std.specs.List.{sum_by}
use Rattle.std.specs.Option.{option_map_or}
use Rattle.std.specs.Prelude.{if◌then◌else◌}
use Rattle.std.proofs.lemmas.Bool.{and_from, and_parts, cases_Bool, eqb-true, false≢true, le-leb, leb-true}
use Rattle.std.proofs.lemmas.Bool.Decides.{nat_tests}
use Rattle.std.proofs.lemmas.List.{get_or-map, take_all}
use Rattle.std.proofs.lemmas.List.Sums.{sum_by_more}
use Rattle.election_tables.specs.Offices.{code_digits, code_proportional, kinds_allow, may_have_places, most_seats, office_rows, places_by, row_of}
use Rattle.election_tables.specs.Laws.{TwoForSenatorAlone}
use Rattle.election_tables.specs.TablesData.{TablesData, IsOffice, IsTables, line_panels, places_in, places_at}
use Rattle.election_tables.specs.declared.office.Kind.TheVariants as kind
use Rattle.election_tables.specs.declared.office.Office.{Office}
use Rattle.election_tables.specs.declared.office.OfficeRow.{OfficeRow}
use Rattle.election_tables.specs.declared.tables.panels.Panel.{Panel}
use Rattle.election_tables.proofs.Kept.{all_true}
use Rattle.election_tables.proofs.LinePanels.{line_from, line_within, lines_are, lines_over, length-lines_more}
use Rattle.election_tables.proofs.Rising.{find_all, find_passes}

-- ---- an office

-- two votes for code 5, and one for every other
abbrev pub most_by_code : ℕ → ℕ
most_by_code code = cond (code == 5) 2 1

pub most_few : (code : ℕ) → most_by_code code ≤ 2
most_few code = elim (cases_Bool (code == 5)) [
  | inl e ↦ rw e (omega arith)
  | inr e ↦ rw e (omega arith)
]

abbrev row_places : OfficeRow → ℕ
row_places row = if kinds_allow row.kinds kind.Proportional then 1 else row.most_seats

places_of_row : (code : ℕ) (o : Option OfficeRow) → row_of code ≡ o
    → (if option_map_or (λ row. kinds_allow row.kinds kind.Proportional) o false then 1 else option_map_or (λ row. row.most_seats) o 0) ≤ most_by_code code
unfolding row_of
places_of_row code None e = omega arith
places_of_row code (Some row) e =
    let few : OfficeRow → Bool = λ r. nat_le (row_places r) (most_by_code r.code) in
    let same : code ≡ row.code = eqb-true code row.code (find_passes (λ r. code == r.code) office_rows row e) in
    let most = find_all (λ r. few r ≡ true) (λ r. code == r.code) office_rows row (all_true few office_rows refl) e in
    rw same (leb-true (row_places row) (most_by_code row.code) most)

-- no code has more
pub places_by_code : (code : ℕ) → places_by code (most_seats code) ≤ most_by_code code
places_by_code code = places_of_row code (row_of code) refl

-- an office has one at least
some_of_row : (code : ℕ) (o : Option OfficeRow) → row_of code ≡ o → is_some (option_map (λ row. row.digits) o) ≡ true
    → 1 ≤ (if option_map_or (λ row. kinds_allow row.kinds kind.Proportional) o false then 1 else option_map_or (λ row. row.most_seats) o 0)
unfolding row_of
some_of_row code None e known = absurd (false≢true known)
some_of_row code (Some row) e known =
    leb-true 1 (row_places row) (find_all (λ r. nat_le 1 (row_places r) ≡ true) (λ r. code == r.code) office_rows row (all_true (λ r. nat_le 1 (row_places r)) office_rows refl) e)

pub one_may_have : (code : ℕ) → is_some (code_digits code) ≡ true → may_have_places code 1 ≡ true
one_may_have code known = le-leb 1 (places_by code (most_seats code)) (some_of_row code (row_of code) refl known)

-- so many as a voter may have
pub may_have-range : (code places : ℕ) → may_have_places code places ≡ true → (1 ≤ places) × (places ≤ most_by_code code)
may_have-range code places may =
    let (least, most) = and_parts (nat_le 1 places) (nat_le places (places_by code (most_seats code))) may in
    let few = leb-true places (places_by code (most_seats code)) most in
    (leb-true 1 places least, omega (arith, few, places_by_code code))

pub may_have-few : (code places : ℕ) → may_have_places code places ≡ true → (1 ≤ places) × (places ≤ 2)
may_have-few code places may = let (least, most) = may_have-range code places may in (least, omega (arith, most, most_few code))

-- one where the office is decided in proportion
pub may_have-one : (code places : ℕ) → code_proportional code ≡ true → may_have_places code places ≡ true → places ≡ 1
may_have-one code places proportional may =
    let (least, most) = and_parts (nat_le 1 places) (nat_le places (places_by code (most_seats code))) may in
    let few = leb-true places (places_by code (most_seats code)) most in
    let one : places ≤ 1 = rw proportional at few in
    let some = leb-true 1 places least in
    omega (arith, one, some)

-- an office has as many as a voter may have
pub office_may_have : (o : Office) → IsOffice o → may_have_places o.code (places_by o.code o.seats) ≡ true
office_may_have o is = elim (cases_Bool (code_proportional o.code)) [
  | inl e ↦ rw e refl
  | inr e ↦ rw e (and_from _ _ (le-leb 1 o.seats is.seats.0) (le-leb o.seats (most_seats o.code) is.seats.1))
]

pub office_few : (o : Office) → IsOffice o → (1 ≤ places_by o.code o.seats) × (places_by o.code o.seats ≤ 2)
office_few o is = may_have-few o.code (places_by o.code o.seats) (office_may_have o is)

-- senators are not elected in proportion
senator_places : (seats : ℕ) → places_by 5 seats ≡ seats
unfolding row_of
senator_places seats = refl

two_or_one : (seats places : ℕ) → places ≡ seats → 1 ≤ places → places ≤ 2 → places ≡ (if seats == 2 then 2 else 1)
two_or_one seats places same some few = elim (cases_Bool (seats == 2)) [
  | inl two ↦ rw two (same ∙ eqb-true seats 2 two)
  | inr other ↦ rw other (grind (arith, nat_tests))
]

-- an office has two votes of a voter exactly where two senators are elected
pub two_for_senator : TwoForSenatorAlone
two_for_senator o is =
    let few = office_few o is in
    elim (cases_Bool (o.code == 5)) [
      | inl five ↦
          let code = eqb-true o.code 5 five in
          let seats : places_by o.code o.seats ≡ o.seats = ap (λ (n : ℕ). places_by n o.seats) code ∙ senator_places o.seats in
          rw five (two_or_one o.seats (places_by o.code o.seats) seats few.0 few.1)
      | inr other ↦
          let most = (may_have-range o.code (places_by o.code o.seats) (office_may_have o is)).1 in
          let one : most_by_code o.code ≡ 1 = rw other refl in
          rw other (omega (arith, few.0, most, one))
    ]

-- ---- the panels

abbrev no_panel : Panel
no_panel = record { office = record { code = 0; digits = 0; kind = kind.Simple; seats = 0 }; candidates = [] }

abbrev code_at : TablesData → ℕ → ℕ
code_at t panel = (get_or t.panels panel no_panel).office.code

places_at_is : (t : TablesData) (panel : ℕ) → panel < length t.panels → places_at t panel ≡ places_in (get_or t.panels panel no_panel)
places_at_is t panel lt = get_or-map places_in t.panels panel no_panel 0 lt

panel_may_have : (t : TablesData) → IsTables t → (panel : ℕ) → panel < length t.panels → may_have_places (code_at t panel) (places_at t panel) ≡ true
panel_may_have t is panel lt =
    ap (may_have_places (code_at t panel)) (places_at_is t panel lt)
    ∙ office_may_have (get_or t.panels panel no_panel).office (is.panels panel no_panel lt).office

-- a voter has one vote in a panel, or two
pub few_places : (t : TablesData) → IsTables t → (panel : ℕ) → panel < length t.panels → (1 ≤ places_at t panel) × (places_at t panel ≤ 2)
few_places t is panel lt = may_have-few (code_at t panel) (places_at t panel) (panel_may_have t is panel lt)

-- so many lines stand before a panel: as many as the panels, and one more at most, where one of them is of code 5
before_panel : (t : TablesData) → IsTables t → (n : ℕ) → n ≤ length t.panels
    → (length (lines_over (places_at t) 0 n) ≤ n) ⊎ ((k : ℕ) × (k < n) × (code_at t k ≡ 5) × (length (lines_over (places_at t) 0 n) ≤ n + 1))
before_panel t is zero le = inl (omega arith)
before_panel t is (suc n) le =
    let here : places_at t (0 + n) ≡ places_at t n = ap (places_at t) (omega arith) in
    let more = length-lines_more (places_at t) 0 n in
    let few = (may_have-range (code_at t n) (places_at t n) (panel_may_have t is n (omega arith))).1 in
    elim (cases_Bool (code_at t n == 5)) [
      | inl five ↦
          let code = eqb-true (code_at t n) 5 five in
          let two = most_few (code_at t n) in
          elim (before_panel t is n (omega arith)) [
            | inl as_many ↦ inr (n, omega arith, code, omega (arith, here, more, few, two, as_many))
            | inr one_more ↦ absurd (is.codes one_more.0 n no_panel one_more.1 (omega arith) (one_more.2 ∙ sym code))
          ]
      | inr other ↦
          let one : most_by_code (code_at t n) ≡ 1 = rw other refl in
          elim (before_panel t is n (omega arith)) [
            | inl as_many ↦ inl (omega (arith, here, more, few, one, as_many))
            | inr one_more ↦ inr (one_more.0, (let lt = one_more.1 in omega arith), one_more.2, (let most = one_more.3 in omega (arith, here, more, few, one, most)))
          ]
    ]

pub lines_before : (t : TablesData) → IsTables t → (n : ℕ) → n ≤ length t.panels → length (lines_over (places_at t) 0 n) ≤ n + 1
lines_before t is n le = elim (before_panel t is n le) [
  | inl as_many ↦ omega (arith, as_many)
  | inr one_more ↦ one_more.3
]

-- and so the ballot
pub lines_few : (t : TablesData) → IsTables t → length (line_panels t) ≤ length t.panels + 1
lines_few t is = let same = ap (λ (lines : List ℕ). length lines) (lines_are t) in omega (arith, same, lines_before t is (length t.panels) (omega arith))

lines_sum : (t : TablesData) (n : ℕ) → n ≤ length t.panels → length (lines_over (places_at t) 0 n) ≡ sum_by places_in (take n t.panels)
lines_sum t zero le = refl
lines_sum t (suc n) le =
    let here : places_at t (0 + n) ≡ places_at t n = ap (places_at t) (omega arith) in
    let next : sum_by places_in (take (n + 1) t.panels) ≡ sum_by places_in (take (suc n) t.panels) = ap (λ (k : ℕ). sum_by places_in (take k t.panels)) (add-one n) in
    omega (
      arith,
      here,
      next,
      length-lines_more (places_at t) 0 n,
      lines_sum t n (omega arith),
      sum_by_more places_in t.panels n no_panel (omega arith),
      places_at_is t n (omega arith),
    )

-- a voter has one vote more than there are panels, at most
pub places_few : (t : TablesData) → IsTables t → sum_by places_in t.panels ≤ length t.panels + 1
places_few t is =
    let all = ap (λ (ps : List Panel). sum_by places_in ps) (take_all (length t.panels) t.panels (omega arith)) in
    omega (arith, all, lines_sum t (length t.panels) (omega arith), lines_before t is (length t.panels) (omega arith))

-- two lines of one panel stand one behind the other
pub lines_adjacent : (t : TablesData) → IsTables t → (i j panel : ℕ) → i < j → slice_get (line_panels t) i ≡ Some panel → slice_get (line_panels t) j ≡ Some panel → j ≡ i + 1
lines_adjacent t is i j panel lt first second =
    let get : (k : ℕ) → slice_get (line_panels t) k ≡ Some panel → slice_get (lines_over (places_at t) 0 (length t.panels)) k ≡ Some panel =
    λ k at. ap (λ (lines : List ℕ). slice_get lines k) (sym (lines_are t)) ∙ at in
    let a = line_from (places_at t) 0 (length t.panels) i panel (get i first) in
    let b = line_from (places_at t) 0 (length t.panels) j panel (get j second) in
    let few = few_places t is panel (line_within t i panel first) in
    omega (arith, a.0, b.1, few.1)

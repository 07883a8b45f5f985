-- The sums of an office keep what is so.
use Rattle.std.proofs.Common.{◌≡◌, ℕ, ◌<◌, Bool, true, false, List, [], ◌∷◌, ◌++◌, length, Some, refl, sym, ap, ◌∙◌, arith, lit<, append_assoc}
use Rattle.std.specs.Prelude.{if◌then◌else◌}
use Rattle.std.specs.List.{flat_map}
use Rattle.std.proofs.lemmas.List.{append-nil}
use Rattle.urna_base.proofs.Cases.{map_some}
use Rattle.election_tables.specs.Offices.{code_proportional}
use Rattle.poll_report.specs.Report.{EachAfter}
use Rattle.qr_text.specs.Reading.{State, Nominal, Legend, Blank, Null, Total, Done, step, number_at, no_party}
use Rattle.qr_text.specs.Said.{ReportField, Test, IsSaidOffice, MayOffice, office_field, office_fields}
use Rattle.qr_text.specs.Table.{fits, head_rows, row_text}
use Rattle.qr_text.specs.declared.said.Said.{Said}
use Rattle.qr_text.specs.declared.said.SaidOffice.{SaidOffice}
use Rattle.qr_text.specs.declared.said.SaidParty.{SaidParty}
use Rattle.qr_text.specs.declared.table.TheConstants.{TABLE}
use Rattle.qr_text.proofs.HeadRows.{Fits, head_list}
use Rattle.qr_text.proofs.RowLaws.{number_back}
use Rattle.qr_text.proofs.Reached.{in_office, votes_read, legend_read, part, Votes, before_part, InOffices, Good}
use Rattle.qr_text.proofs.HeadGoing.{Snoc, snoc_to}
use Rattle.qr_text.proofs.OfficeGoing.{flat_map_snoc, each_snoc, extend, at}

-- ---- sums

nominal_known : (s : Said) (o : SaidOffice) (fs : List ReportField) → Fits 13 s → EachAfter MayOffice [] s.offices → Votes s o
    → fits TABLE.office_able.form o.able ≡ true → fits TABLE.nominal.form o.nominal ≡ true
    → fs ≡ before_part s ++ in_office s o
    (votes_read s o ++ (office_field s o TABLE.office_able o.able ∷ office_field s o TABLE.nominal o.nominal ∷ []))
    → (b : Bool) → code_proportional o.code ≡ b → Good (at (if b then Legend else Blank) s o no_party) fs
nominal_known s o fs head offices votes able nominal read true e =
    record { head = head; offices = offices; read = read; fine = (votes, able, nominal, e) }
nominal_known s o fs head offices votes able nominal read false e =
    let none : [] ≡ legend_read s o = sym (ap (λ (b : Bool). (if b then office_field s o TABLE.legend o.legend ∷ [] else [])) e) in
    let no_legend : fits TABLE.legend.form o.legend ≡ true = ap (λ (n : ℕ). fits TABLE.legend.form n) (votes.majority e).1 in
    record {
      head = head;
      offices = offices;
      read = read ∙ ap (λ (l : List ReportField). before_part s ++ in_office s o
          (votes_read s o ++ (office_field s o TABLE.office_able o.able ∷ office_field s o TABLE.nominal o.nominal ∷ l))) none;
      fine = (votes, able, nominal, no_legend);
    }

-- NOMI is read
pub nominal_keeps : (s : Said) (o : SaidOffice) (q : SaidParty) (fs : List ReportField) (p : List ℕ) (x : State × List Test)
    → InOffices Nominal s o q fs → step (at Nominal s o q) p ≡ Some x → Snoc fs p x
unfolding step
nominal_keeps s o q fs p x g e =
    let after : ℕ → State × List Test =
    λ v. (
      at (if code_proportional o.code then Legend else Blank) s (record o { nominal = v }) no_party,
      (office_field s (record o { nominal = v }) TABLE.nominal v).tests,
    ) in
    let found = map_some after (number_at TABLE.nominal p) x e in
    let back = number_back TABLE.nominal p found.0 found.1 in
    let o1 : SaidOffice = record o { nominal = found.0 } in
    let f : ReportField = office_field s o1 TABLE.nominal found.0 in
    let votes = g.fine.0 in
    let votes1 : Votes s o1 = record {
      may = votes.may;
      places = votes.places;
      candidates = votes.candidates;
      parties = votes.parties;
      proportional = votes.proportional;
      majority = votes.majority;
    } in
    let more = ap (λ (l : List ReportField). in_office s o l)
    (sym (append_assoc (votes_read s o) (office_field s o TABLE.office_able o.able ∷ []) (f ∷ []))) in
    snoc_to fs p (row_text TABLE.nominal found.0) x (after found.0) (sym back.0) found.2
    (nominal_known s o1 (fs ++ f ∷ []) g.head g.offices votes1 g.fine.1 back.1 (extend s fs (part Nominal s o q) _ f g.read more)
    (code_proportional o.code) refl)

-- LEGC is read
pub legend_keeps : (s : Said) (o : SaidOffice) (q : SaidParty) (fs : List ReportField) (p : List ℕ) (x : State × List Test)
    → InOffices Legend s o q fs → step (at Legend s o q) p ≡ Some x → Snoc fs p x
unfolding step
legend_keeps s o q fs p x g e =
    let after : ℕ → State × List Test =
    λ v. (at Blank s (record o { legend = v }) no_party, (office_field s (record o { legend = v }) TABLE.legend v).tests) in
    let found = map_some after (number_at TABLE.legend p) x e in
    let back = number_back TABLE.legend p found.0 found.1 in
    let o1 : SaidOffice = record o { legend = found.0 } in
    let f : ReportField = office_field s o1 TABLE.legend found.0 in
    let votes = g.fine.0 in
    let kind : code_proportional o.code ≡ true = g.fine.3 in
    let legend : legend_read s o1 ≡ f ∷ [] = ap (λ (b : Bool). (if b then f ∷ [] else [])) kind in
    let sums : List ReportField = office_field s o TABLE.office_able o.able ∷ office_field s o TABLE.nominal o.nominal ∷ [] in
    let more = ap (λ (l : List ReportField). in_office s o
    (votes_read s o ++ (office_field s o TABLE.office_able o.able ∷ office_field s o TABLE.nominal o.nominal ∷ l))) legend
    ∙ ap (λ (l : List ReportField). in_office s o l) (sym (append_assoc (votes_read s o) sums (f ∷ []))) in
    snoc_to fs p (row_text TABLE.legend found.0) x (after found.0) (sym back.0) found.2 (record {
      head = g.head;
      offices = g.offices;
      read = extend s fs (part Legend s o q) (part Blank s o1 no_party) f g.read more;
      fine = (
        record {
          may = votes.may;
          places = votes.places;
          candidates = votes.candidates;
          parties = votes.parties;
          proportional = votes.proportional;
          majority = λ other. let clash : true ≡ false = sym kind ∙ other in absurd (cc);
        },
        g.fine.1,
        g.fine.2,
        back.1,
      );
    })

-- BRAN is read
pub blank_keeps : (s : Said) (o : SaidOffice) (q : SaidParty) (fs : List ReportField) (p : List ℕ) (x : State × List Test) → InOffices Blank s o q fs
    → step (at Blank s o q) p ≡ Some x → Snoc fs p x
unfolding step
blank_keeps s o q fs p x g e =
    let after : ℕ → State × List Test =
    λ v. (at Null s (record o { blank = v }) no_party, (office_field s (record o { blank = v }) TABLE.blank v).tests) in
    let found = map_some after (number_at TABLE.blank p) x e in
    let back = number_back TABLE.blank p found.0 found.1 in
    let o1 : SaidOffice = record o { blank = found.0 } in
    let f : ReportField = office_field s o1 TABLE.blank found.0 in
    let votes = g.fine.0 in
    let more = ap (λ (l : List ReportField). in_office s o l)
    (sym (append_assoc (votes_read s o)
    (office_field s o TABLE.office_able o.able ∷ office_field s o TABLE.nominal o.nominal ∷ legend_read s o) (f ∷ []))) in
    snoc_to fs p (row_text TABLE.blank found.0) x (after found.0) (sym back.0) found.2 (record {
      head = g.head;
      offices = g.offices;
      read = extend s fs (part Blank s o q) (part Null s o1 no_party) f g.read more;
      fine = (
        record {
          may = votes.may;
          places = votes.places;
          candidates = votes.candidates;
          parties = votes.parties;
          proportional = votes.proportional;
          majority = votes.majority;
        },
        g.fine.1,
        g.fine.2,
        g.fine.3,
        back.1,
      );
    })

-- NULO is read
pub null_keeps : (s : Said) (o : SaidOffice) (q : SaidParty) (fs : List ReportField) (p : List ℕ) (x : State × List Test) → InOffices Null s o q fs
    → step (at Null s o q) p ≡ Some x → Snoc fs p x
unfolding step
null_keeps s o q fs p x g e =
    let after : ℕ → State × List Test =
    λ v. (at Total s (record o { null_votes = v }) no_party, (office_field s (record o { null_votes = v }) TABLE.null_votes v).tests) in
    let found = map_some after (number_at TABLE.null_votes p) x e in
    let back = number_back TABLE.null_votes p found.0 found.1 in
    let o1 : SaidOffice = record o { null_votes = found.0 } in
    let f : ReportField = office_field s o1 TABLE.null_votes found.0 in
    let votes = g.fine.0 in
    let b : ReportField = office_field s o TABLE.blank o.blank in
    let inner : legend_read s o ++ (b ∷ f ∷ []) ≡ (legend_read s o ++ b ∷ []) ++ f ∷ [] =
    sym (append_assoc (legend_read s o) (b ∷ []) (f ∷ [])) in
    let more = ap (λ (l : List ReportField). in_office s o
    (votes_read s o ++ (office_field s o TABLE.office_able o.able ∷ office_field s o TABLE.nominal o.nominal ∷ l))) inner
    ∙ ap (λ (l : List ReportField). in_office s o l)
    (sym (append_assoc (votes_read s o)
    (office_field s o TABLE.office_able o.able ∷ office_field s o TABLE.nominal o.nominal ∷ (legend_read s o ++ b ∷ [])) (f ∷ []))) in
    snoc_to fs p (row_text TABLE.null_votes found.0) x (after found.0) (sym back.0) found.2 (record {
      head = g.head;
      offices = g.offices;
      read = extend s fs (part Null s o q) (part Total s o1 no_party) f g.read more;
      fine = (
        record {
          may = votes.may;
          places = votes.places;
          candidates = votes.candidates;
          parties = votes.parties;
          proportional = votes.proportional;
          majority = votes.majority;
        },
        g.fine.1,
        g.fine.2,
        g.fine.3,
        g.fine.4,
        back.1,
      );
    })

-- the fields of an office are those read before the total, and the total
pub whole_office : (s : Said) (o : SaidOffice) (q : SaidParty)
    → office_fields s o ≡ part Total s o q ++ office_field s o TABLE.total o.total ∷ []
whole_office s o q =
    let b : ReportField = office_field s o TABLE.blank o.blank in
    let n : ReportField = office_field s o TABLE.null_votes o.null_votes in
    let t : ReportField = office_field s o TABLE.total o.total in
    let inner : legend_read s o ++ (b ∷ n ∷ t ∷ []) ≡ (legend_read s o ++ (b ∷ n ∷ [])) ++ t ∷ [] =
    sym (append_assoc (legend_read s o) (b ∷ n ∷ []) (t ∷ [])) in
    ap (λ (l : List ReportField). in_office s o
    (votes_read s o ++ (office_field s o TABLE.office_able o.able ∷ office_field s o TABLE.nominal o.nominal ∷ l))) inner
    ∙ ap (λ (l : List ReportField). in_office s o l)
    (sym (append_assoc (votes_read s o)
    (office_field s o TABLE.office_able o.able ∷ office_field s o TABLE.nominal o.nominal ∷ (legend_read s o ++ (b ∷ n ∷ [])))
    (t ∷ [])))

pub some_more : {A : Type 0} (xs : List A) (x : A) → 0 < length (xs ++ x ∷ [])
some_more [] x = lit< tt
some_more (y ∷ xs) x = omega arith

-- all fields with one office more
pub with_office : (s : Said) (o : SaidOffice) → before_part (record s { offices = s.offices ++ o ∷ [] }) ≡ before_part s ++ office_fields s o
unfolding head_rows
with_office s o = ap (λ (l : List ReportField). head_list s ++ l) (flat_map_snoc (office_fields s) s.offices o)
    ∙ sym (append_assoc (head_list s) (flat_map (office_fields s) s.offices) (office_fields s o))

-- TOTC is read, and the office is whole
pub total_keeps : (s : Said) (o : SaidOffice) (q : SaidParty) (fs : List ReportField) (p : List ℕ) (x : State × List Test) → InOffices Total s o q fs
    → step (at Total s o q) p ≡ Some x → Snoc fs p x
unfolding step
total_keeps s o q fs p x g e =
    let with_total : ℕ → SaidOffice = λ v. record o { total = v } in
    let after : ℕ → State × List Test =
    λ v. (
      at Done (record s { offices = s.offices ++ with_total v ∷ [] }) (with_total v) no_party,
      (office_field s (with_total v) TABLE.total v).tests,
    ) in
    let found = map_some after (number_at TABLE.total p) x e in
    let back = number_back TABLE.total p found.0 found.1 in
    let o1 : SaidOffice = with_total found.0 in
    let s1 : Said = record s { offices = s.offices ++ o1 ∷ [] } in
    let f : ReportField = office_field s o1 TABLE.total found.0 in
    let votes = g.fine.0 in
    let is : IsSaidOffice o1 = record {
      places = votes.places;
      candidates = votes.candidates;
      parties = votes.parties;
      proportional = votes.proportional;
      majority = votes.majority;
      able = g.fine.1;
      nominal = g.fine.2;
      legend = g.fine.3;
      blank = g.fine.4;
      null_votes = g.fine.5;
      total = back.1;
    } in
    snoc_to fs p (row_text TABLE.total found.0) x (after found.0) (sym back.0) found.2 (record {
      head = g.head;
      offices = each_snoc MayOffice [] s.offices o1 g.offices (votes.may, is);
      read = extend s fs (part Total s o q) (part Total s o q ++ f ∷ []) f g.read refl
          ∙ (ap (λ (l : List ReportField). before_part s ++ l) (sym (whole_office s o1 q))
          ∙ (sym (with_office s o1) ∙ sym (append-nil (before_part s1))));
      fine = some_more s.offices o1;
    })

-- Reading the code, the kind and the sums of an office by sections is reading them field by field.
use Rattle.std.proofs.Common.{◌≡◌, ℕ, ◌+◌, ◌*◌, Bool, true, false, List, [], ◌∷◌, refl, ◌∙◌}
use Rattle.std.specs.Prelude.{◌==◌, if◌then◌else◌, Result, Ok, Err}
use Rattle.election_tables.specs.Offices.{code_proportional}
use Rattle.poll_report.specs.Report.{may_have_code}
use Rattle.poll_report.specs.declared.report.Count.{Count}
use Rattle.qr_text.proofs.Joining.{bind_both, may_join, passed, row_join, sum_join, two_join}
use Rattle.qr_text.specs.Fronts.{after_office, begun, goes, in_office, sums, with_sums, without_sums}
use Rattle.qr_text.specs.Reading.{State, Mode, Kind, Nominal, Legend, Blank, Null, Total, step, able_step, code_step, may_end, new_office, no_party}
use Rattle.qr_text.specs.Said.{Equals, all_legend, all_nominal, codes_in, kind_number}
use Rattle.qr_text.specs.Sections.{FieldsLeft, ◌>>=◌, agreed, held, legend_reading, row_reading, start_reading, sum_reading, sums_reading}
use Rattle.qr_text.specs.declared.fault.FieldFault.TheVariants as fault
use Rattle.qr_text.specs.declared.fault.FieldFault.{FieldFault}
use Rattle.qr_text.specs.declared.head.Voters.{Voters}
use Rattle.qr_text.specs.declared.said.Said.{Said}
use Rattle.qr_text.specs.declared.said.SaidParty.{SaidParty}
use Rattle.qr_text.specs.declared.table.TheConstants.{TABLE}

-- ---- the code and the kind

abbrev coded : ℕ → FieldsLeft → ℕ × FieldsLeft
coded code t = (code, t)

kind_join : (q : Said) (code : ℕ) (s : FieldsLeft)
    → goes (record { mode = Kind; said = q; office = new_office code; party = no_party }) s
    ≡ (row_reading TABLE.kind s >>= λ x. (held s.next (x.0 == kind_number (code_proportional code)) (coded code x.1) >>= λ y. goes (begun q y.0) y.1))
unfolding step held
kind_join q code s =
    may_join TABLE.kind (record { mode = Kind; said = q; office = new_office code; party = no_party }) (λ v. v == kind_number (code_proportional code)) (λ v. begun q code) s (λ e. refl) (λ p. refl)
    ∙ again (row_reading TABLE.kind s)
  where
    over : (b : Bool) (t : FieldsLeft) → ((if b then Ok t else Err (fault.Field s.next)) >>= λ y. goes (begun q code) y) ≡ ((if b then Ok (coded code t) else Err (fault.Field s.next)) >>= λ y. goes (begun q y.0) y.1)
    over true t = refl
    over false t = refl

    again : (m : Result (ℕ × FieldsLeft) FieldFault) → (m >>= λ x. (held s.next (x.0 == kind_number (code_proportional code)) x.1 >>= λ y. goes (begun q code) y))
        ≡ (m >>= λ x. (held s.next (x.0 == kind_number (code_proportional code)) (coded code x.1) >>= λ y. goes (begun q y.0) y.1))
    again (Ok x) = over (x.0 == kind_number (code_proportional code)) x.1
    again (Err e) = refl

-- behind the head, or behind another office
pub start_join : (st : State) (s : FieldsLeft) → (s.left ≡ [] → may_end st.mode ≡ false) → ((p : List ℕ) → step st p ≡ code_step st p)
    → goes st s ≡ (start_reading st.said.offices s >>= λ x. goes (begun st.said x.0) x.1)
unfolding start_reading
start_join st s e h =
    may_join TABLE.office st (λ v. may_have_code (codes_in st.said.offices) v) (λ v. record { mode = Kind; said = st.said; office = new_office v; party = no_party }) s e h
    ∙ bind_both (row_reading TABLE.office s) _ _ _ (λ c.
    bind_both (held s.next (may_have_code (codes_in st.said.offices) c.0) c.1) _ _ _ (λ t.
    kind_join st.said c.0 t ∙ bind_both (row_reading TABLE.kind t) _ _ _ (λ k. refl)))

-- ---- the sums

legend_join : (b : Bool) (q : Said) (code places : ℕ) (cs : List Count) (ps : List SaidParty) (a n : ℕ) (s : FieldsLeft)
    → goes (in_office (if b then Legend else Blank) q (with_sums code places cs ps (sums a n 0 0 0 0))) s
    ≡ (legend_reading b (all_legend (without_sums code places cs ps)) s >>= λ x. goes (in_office Blank q (with_sums code places cs ps (sums a n x.0 0 0 0))) x.1)
unfolding legend_reading step
legend_join true q code places cs ps a n s =
    sum_join TABLE.legend (in_office Legend q (with_sums code places cs ps (sums a n 0 0 0 0))) (λ v. in_office Blank q (with_sums code places cs ps (sums a n v 0 0 0)))
    (all_legend (without_sums code places cs ps)) s refl (λ p more e. refl)
legend_join false q code places cs ps a n s = refl

total_join : (q : Said) (code places : ℕ) (cs : List Count) (ps : List SaidParty) (a n l b u : ℕ) (s : FieldsLeft)
    → goes (in_office Total q (with_sums code places cs ps (sums a n l b u 0))) s
    ≡ (sum_reading TABLE.total (n + l + b + u) s >>= λ x. (agreed s.next (q.came * places) x.0 x.1 >>= λ y. goes (after_office q (with_sums code places cs ps (sums a n l b u x.0))) y))
unfolding step sum_reading
total_join q code places cs ps a n l b u s =
    row_join TABLE.total (in_office Total q (with_sums code places cs ps (sums a n l b u 0)))
    (λ v. (after_office q (with_sums code places cs ps (sums a n l b u v)), Equals (n + l + b + u) v ∷ Equals (q.came * places) v ∷ [])) s refl (λ p more e. refl)
    ∙ bind_both (row_reading TABLE.total s) (λ x. agreed s.next (n + l + b + u) x.0 x) _ _ (λ x.
    two_join s.next (n + l + b + u) (q.came * places) x.0 x x.1 (λ y. goes (after_office q (with_sums code places cs ps (sums a n l b u x.0))) y)
    ∙ passed s.next (n + l + b + u) x.0 x _ _ refl)

-- where the voters are those of the head, and no vote stands first, what is left of the office is its sums
pub sums_join : (q : Said) (v : Voters) (code places : ℕ) (cs : List Count) (ps : List SaidParty) (mode : Mode) (s : FieldsLeft) → may_end mode ≡ false → v.able ≡ q.able → v.came ≡ q.came
    → ((p : List ℕ) (more : List (List ℕ)) → s.left ≡ p ∷ more → step (in_office mode q (without_sums code places cs ps)) p ≡ able_step (in_office mode q (without_sums code places cs ps)) p)
    → goes (in_office mode q (without_sums code places cs ps)) s
    ≡ (sums_reading (code_proportional code) v places (all_nominal (without_sums code places cs ps)) (all_legend (without_sums code places cs ps)) s >>= λ x. goes (after_office q (with_sums code places cs ps x.0)) x.1)
unfolding sums_reading step
sums_join q v code places cs ps mode s may able came h = rw (able, came)
    (sum_join TABLE.office_able (in_office mode q (without_sums code places cs ps)) (λ v. in_office Nominal q (with_sums code places cs ps (sums v 0 0 0 0 0))) q.able s may h
    ∙ bind_both (sum_reading TABLE.office_able q.able s) _ _ _ (λ a.
    sum_join TABLE.nominal (in_office Nominal q (with_sums code places cs ps (sums a.0 0 0 0 0 0)))
    (λ v. in_office (if code_proportional code then Legend else Blank) q (with_sums code places cs ps (sums a.0 v 0 0 0 0))) _ a.1 refl (λ p more e. refl)
    ∙ bind_both (sum_reading TABLE.nominal _ a.1) _ _ _ (λ n.
    legend_join (code_proportional code) q code places cs ps a.0 n.0 n.1
    ∙ bind_both (legend_reading (code_proportional code) _ n.1) _ _ _ (λ l.
    row_join TABLE.blank (in_office Blank q (with_sums code places cs ps (sums a.0 n.0 l.0 0 0 0))) (λ v. (in_office Null q (with_sums code places cs ps (sums a.0 n.0 l.0 v 0 0)), [])) l.1 refl (λ p more e. refl)
    ∙ bind_both (row_reading TABLE.blank l.1) _ _ _ (λ b.
    row_join TABLE.null_votes (in_office Null q (with_sums code places cs ps (sums a.0 n.0 l.0 b.0 0 0))) (λ v. (in_office Total q (with_sums code places cs ps (sums a.0 n.0 l.0 b.0 v 0)), [])) b.1 refl (λ p more e. refl)
    ∙ bind_both (row_reading TABLE.null_votes b.1) _ _ _ (λ u.
    total_join q code places cs ps a.0 n.0 l.0 b.0 u.0 u.1
    ∙ bind_both (sum_reading TABLE.total _ u.1) _ _ _ (λ t.
    bind_both (agreed u.1.next (q.came * places) t.0 t.1) _ _ _ (λ y. refl))))))))

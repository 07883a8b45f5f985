-- Reading the fields before the offices by sections is reading them field by field.
use Rattle.std.proofs.Common.{◌≡◌, ℕ, ◌+◌, List, Some, refl, ◌∙◌}
use Rattle.std.specs.Prelude.{◌==◌, nat_le, if◌then◌else◌, slice_get}
use Rattle.qr_text.proofs.Joining.{after, agreed_join, bind_both, held_join, row_join}
use Rattle.qr_text.specs.Fronts.{at_mode, goes}
use Rattle.qr_text.specs.Reading.{State, Head, Code, step, with_head}
use Rattle.qr_text.specs.Said.{Test, head_tests, moment}
use Rattle.qr_text.specs.Sections.{FieldsLeft, ◌>>=◌, row_reading, poll_reading, voters_reading, hours_reading, head_reading}
use Rattle.qr_text.specs.Table.{head_rows}
use Rattle.qr_text.specs.declared.head.Head as H
use Rattle.qr_text.specs.declared.head.Hours.{Hours}
use Rattle.qr_text.specs.declared.head.Poll.{Poll}
use Rattle.qr_text.specs.declared.head.Voters.{Voters}
use Rattle.qr_text.specs.declared.said.Said.{Said}
use Rattle.qr_text.specs.declared.table.Row.{Row}
use Rattle.qr_text.specs.declared.table.TheConstants.{TABLE}

abbrev head_next : ℕ → Row → Said → ℕ → State × List Test
head_next n r s v = (at_mode (if n == 12 then Code else Head (n + 1)) (with_head n v s), head_tests r.tested (with_head n v s))

head_row_join : (n : ℕ) (r : Row) (q : Said) (s : FieldsLeft) → slice_get head_rows n ≡ Some r
    → goes (at_mode (Head n) q) s ≡ (row_reading r s >>= λ x. after s.next (head_next n r q x.0) x.1)
unfolding step
head_row_join n r q s h = row_join r (at_mode (Head n) q) (head_next n r q) s refl (λ p ps e. rw h refl)

abbrev pub with_poll : Poll → Said → Said
with_poll h q = record q { process = h.process; date = h.date; turn = h.turn; zone = h.zone; section = h.section }

abbrev pub with_voters : Voters → Said → Said
with_voters h q = record q { able = h.able; came = h.came; missed = h.missed }

abbrev pub with_hours : Hours → Said → Said
with_hours h q = record q { open_date = h.open_date; open_time = h.open_time; close_date = h.close_date; close_time = h.close_time }

pub poll_join : (q : Said) (s : FieldsLeft) → goes (at_mode (Head 0) q) s ≡ (poll_reading s >>= λ x. goes (at_mode (Head 6) (with_poll x.0 q)) x.1)
unfolding poll_reading head_rows
poll_join q s =
    head_row_join 0 TABLE.orig q s refl ∙ bind_both (row_reading TABLE.orig s) _ _ _ (λ a.
    head_row_join 1 TABLE.process q a.1 refl ∙ bind_both (row_reading TABLE.process a.1) _ _ _ (λ b.
    head_row_join 2 TABLE.date _ b.1 refl ∙ bind_both (row_reading TABLE.date b.1) _ _ _ (λ c.
    head_row_join 3 TABLE.turn _ c.1 refl ∙ bind_both (row_reading TABLE.turn c.1) _ _ _ (λ d.
    head_row_join 4 TABLE.zone _ d.1 refl ∙ bind_both (row_reading TABLE.zone d.1) _ _ _ (λ e.
    head_row_join 5 TABLE.section _ e.1 refl ∙ bind_both (row_reading TABLE.section e.1) _ _ _ (λ f. refl))))))

pub voters_join : (q : Said) (s : FieldsLeft) → goes (at_mode (Head 6) q) s ≡ (voters_reading s >>= λ x. goes (at_mode (Head 9) (with_voters x.0 q)) x.1)
unfolding voters_reading head_rows
voters_join q s =
    head_row_join 6 TABLE.able q s refl ∙ bind_both (row_reading TABLE.able s) _ _ _ (λ a.
    head_row_join 7 TABLE.came _ a.1 refl ∙ bind_both (row_reading TABLE.came a.1) _ _ _ (λ b.
    head_row_join 8 TABLE.missed _ b.1 refl ∙ bind_both (row_reading TABLE.missed b.1) _ _ _ (λ c.
    agreed_join b.1.next (b.0 + c.0) a.0 (record { able = a.0; came = b.0; missed = c.0 }, c.1) (λ x. goes (at_mode (Head 9) (with_voters x.0 q)) x.1))))

pub hours_join : (q : Said) (s : FieldsLeft) → goes (at_mode (Head 9) q) s ≡ (hours_reading s >>= λ x. goes (at_mode Code (with_hours x.0 q)) x.1)
unfolding hours_reading head_rows
hours_join q s =
    head_row_join 9 TABLE.open_date q s refl ∙ bind_both (row_reading TABLE.open_date s) _ _ _ (λ a.
    head_row_join 10 TABLE.open_time _ a.1 refl ∙ bind_both (row_reading TABLE.open_time a.1) _ _ _ (λ b.
    head_row_join 11 TABLE.close_date _ b.1 refl ∙ bind_both (row_reading TABLE.close_date b.1) _ _ _ (λ c.
    head_row_join 12 TABLE.close_time _ c.1 refl ∙ bind_both (row_reading TABLE.close_time c.1) _ _ _ (λ d.
    held_join c.1.next (nat_le (moment a.0 b.0) (moment c.0 d.0)) (record { open_date = a.0; open_time = b.0; close_date = c.0; close_time = d.0 }, d.1) (λ x. goes (at_mode Code (with_hours x.0 q)) x.1)))))

abbrev pub with_head_read : H.Head → Said → Said
with_head_read h q = with_hours h.hours (with_voters h.voters (with_poll h.poll q))

pub head_join : (q : Said) (s : FieldsLeft) → goes (at_mode (Head 0) q) s ≡ (head_reading s >>= λ x. goes (at_mode Code (with_head_read x.0 q)) x.1)
unfolding head_reading
head_join q s =
    poll_join q s ∙ bind_both (poll_reading s) _ _ _ (λ a.
    voters_join (with_poll a.0 q) a.1 ∙ bind_both (voters_reading a.1) _ _ _ (λ b.
    hours_join (with_voters b.0 (with_poll a.0 q)) b.1 ∙ bind_both (hours_reading b.1) _ _ _ (λ c. refl)))

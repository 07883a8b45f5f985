use Rattle.std.proofs.Common.{ℕ, ◌+◌, ◌*◌, ◌≤◌, inl, inr, refl, sym, subst, ap, ◌∙◌, arith, rules}
use Rattle.std.proofs.lemmas.Result.{err_from_is_err_and}
use Rattle.urna_outside.specs.Flash.{IsClean}
use Rattle.urna_outside.specs.Told.{Sizes, size_of}
use Rattle.urna_outside.specs.declared.device.Dev.{Dev}
use Rattle.urna_outside.proofs.Faults.{ends_later}
use Rattle.gate_slot.specs.Device.{OnFlash}
use Rattle.gate_slot.specs.Slot.{room}
use Rattle.gate_slot.specs.Token.{slot_of_live}
use Rattle.twin_image.specs.Order.{IsRenewal, IsTurn}
use Rattle.twin_image.specs.Rewrite.{rewrite_bytes}
use Rattle.twin_image.specs.Twin.{IsLive}
use Rattle.twin_image.proofs.Ordering.{cut_early, cut_in_row, in_row, renewal_cut_first, renewal_cut_second, turn_is, turn_ops, turns_join}
use Rattle.twin_image.proofs.Renewing.{turn_stage, other_live, renewed_first, renewed, stage_rest, twin_bounded, leaves_at}
use Rattle.twin_image.proofs.Rewriting.{puts-append, puts_more}
use Rattle.twin_image.proofs.renewal.renew_found.Goals as goal

pub turn_over-requires-2 : goal.turn_over-requires-2
turn_over-requires-2 g c =
    let r = c.requires in
    let d = (slot_of_live c.args.first).dev in
    let dev = ap (λ s. s.dev) c.slot-2.ensures ∙ r.pair.second_dev in
    let index = ap (λ s. s.index) c.slot-2.ensures ∙ r.pair.second_index in
    let first_ran = rw (c.slot.ensures, r.pair.first_index) at c.turn_over.ensures.ran in
    let fits = subst (λ (z : Sizes). room g.row.SIZE ≤ size_of d z) (sym first_ran.1.sizes) r.room in
    let other = other_live d g.row.SIZE 0 3 _ c.args.old.now _ _ (omega arith) r.old r.room (g.met.M.Machine.sized c.args.m.now) (λ fs told. (r.twin fs told).second) first_ran in
    let clean = rw c.slot.ensures at c.in_ok-first_new.ensures.clean in (
      omega arith,
      (
        omega arith,
        (
          omega arith,
          (
            omega (arith, index),
            (
              subst (λ (e : Dev). room g.row.SIZE ≤ size_of e (g.M.Machine.told c.turn_over.new.m).sizes) (sym dev) fits,
              (
                r.old,
                (
                  r.new,
                  (
                    r.changes,
                    (
                      subst (λ (e : Dev). OnFlash e IsClean (g.M.Machine.told c.turn_over.new.m)) (sym dev) clean,
                      subst (λ (e : Dev). OnFlash e (IsLive g.row.SIZE c.slot-2.result.index c.args.old.now) (g.M.Machine.told c.turn_over.new.m)) (sym dev)
                          (subst (λ (k : ℕ). OnFlash d (IsLive g.row.SIZE k c.args.old.now) (g.M.Machine.told c.turn_over.new.m)) (sym index) other),
                    ),
                  ),
                ),
              ),
            ),
          ),
        ),
      ),
    )

pub returns-in_err-first_new-clause-ran : goal.returns-in_err-first_new-clause-ran
returns-in_err-first_new-clause-ran g c =
    let r = c.requires in
    let d = (slot_of_live c.args.first).dev in
    let first_ran = rw (c.slot.ensures, r.pair.first_index) at c.turn_over.ensures.ran in
    renewed_first d g.row.SIZE c.args.old.now c.args.new.now r.old _ _
    (turn_stage d g.row.SIZE c.args.old.now c.args.new.now r.old 0 c.args.old.now _ _ (omega arith) r.old (inl refl) r.room (g.met.M.Machine.sized c.args.m.now) (λ fs told. (r.twin fs told).first) (λ fs told. (r.twin fs told).second) first_ran)

pub returns-in_err-first_new-clause-bytes : goal.returns-in_err-first_new-clause-bytes
returns-in_err-first_new-clause-bytes g c =
    let bytes = rewrite_bytes g.row.SIZE c.args.old.now c.args.new.now in
    puts_more (bytes + 2) (2 * (bytes + 2)) _ _ (omega arith) c.turn_over.ensures.bytes

pub returns-in_err-first_new-clause-order : goal.returns-in_err-first_new-clause-order
returns-in_err-first_new-clause-order g c =
    let d = (slot_of_live c.args.first).dev in
    let old = c.args.old.now in
    let new = c.args.new.now in
    let cut = rw (c.slot.ensures, c.requires.pair.first_index) at c.in_err-first_new.ensures.order in
    let front = cut_early (IsTurn g.row.SIZE d 0 old new) (IsTurn g.row.SIZE d 1 old new) (IsRenewal g.row.SIZE d old new) _ _ (turn_ops g.row.SIZE d 1 old new) (turns_join g.row.SIZE d old new) (turn_is g.row.SIZE d 1 old new) cut in
    search rules

pub returns-in_err-first_new-clause-cut : goal.returns-in_err-first_new-clause-cut
returns-in_err-first_new-clause-cut g c =
    let r = c.requires in
    let index = ap (λ s. s.index) (c.in_err-first_new.ensures.torn_slot ∙ c.slot.ensures) ∙ r.pair.first_index in
    let cut = rw (c.slot.ensures, r.pair.first_index) at c.in_err-first_new.ensures.cut in
    let front = renewal_cut_first g.row.SIZE (slot_of_live c.args.first).dev c.args.old.now c.args.new.now _ _ _ _ index cut in
    let torn = err_from_is_err_and c.from_residual.result c.from_residual.ensures.1 in
    rw (torn.1, torn.2) front

pub returns-in_err-first_new-clause-rest : goal.returns-in_err-first_new-clause-rest
returns-in_err-first_new-clause-rest g c =
    stage_rest _ _ _ _ _ _ (g.met.M.Machine.sized c.args.m.now) (twin_bounded g.row.SIZE _ c.requires.room) (returns-in_err-first_new-clause-ran g c)

pub returns-in_err-second_new-clause-ran : goal.returns-in_err-second_new-clause-ran
returns-in_err-second_new-clause-ran g c =
    let r = c.requires in
    let d = (slot_of_live c.args.first).dev in
    let sized = g.met.M.Machine.sized c.args.m.now in
    let first_ran = rw (c.slot.ensures, r.pair.first_index) at c.turn_over.ensures.ran in
    let second_ran = rw (c.slot-2.ensures, r.pair.second_dev, r.pair.second_index) at c.turn_over-2.ensures.ran in
    let live = rw (c.slot.ensures, r.pair.first_index) at c.in_ok-first_new.ensures.live in
    let fits = subst (λ (s : Sizes). room g.row.SIZE ≤ size_of d s) (sym first_ran.1.sizes) r.room in
    let other = other_live d g.row.SIZE 0 3 _ c.args.old.now _ _ (omega arith) r.old r.room sized (λ fs told. (r.twin fs told).second) first_ran in
    let first = turn_stage d g.row.SIZE c.args.old.now c.args.new.now r.old 0 c.args.old.now _ _ (omega arith) r.old (inl refl) r.room sized (λ fs told. (r.twin fs told).first) (λ fs told. (r.twin fs told).second) first_ran in
    let second = turn_stage d g.row.SIZE c.args.old.now c.args.new.now r.old 1 c.args.new.now _ _ (omega arith) r.new (inr refl) fits (g.met.M.Machine.sized c.turn_over.new.m) other live second_ran in
    renewed d g.row.SIZE c.args.old.now c.args.new.now r.old _ _ _ first second

pub returns-in_err-second_new-clause-rest : goal.returns-in_err-second_new-clause-rest
returns-in_err-second_new-clause-rest g c =
    stage_rest _ _ _ _ _ _ (g.met.M.Machine.sized c.args.m.now) (twin_bounded g.row.SIZE _ c.requires.room) (returns-in_err-second_new-clause-ran g c)

pub returns-in_err-second_new-clause-bytes : goal.returns-in_err-second_new-clause-bytes
returns-in_err-second_new-clause-bytes g c =
    let bytes = rewrite_bytes g.row.SIZE c.args.old.now c.args.new.now in
    puts-append (bytes + 2) (bytes + 2) (2 * (bytes + 2)) _ _ _ (omega arith) c.turn_over.ensures.bytes c.turn_over-2.ensures.bytes

pub returns-in_err-second_new-clause-torn : goal.returns-in_err-second_new-clause-torn
returns-in_err-second_new-clause-torn g c =
    let r = c.requires in
    let d = (slot_of_live c.args.first).dev in
    let torn = rw (c.slot-2.ensures, r.pair.second_dev, r.pair.second_index) at c.in_err-second_new.ensures.torn in
    let second = ap (λ s. s.index) (c.in_err-second_new.ensures.torn_slot ∙ c.slot-2.ensures) ∙ r.pair.second_index in
    let leaves = leaves_at d g.row.SIZE _ 1 _ c.args.old.now c.args.new.now (g.M.Machine.told c.turn_over-2.new.m) second torn in
    search rules

pub returns-in_err-second_new-clause-order : goal.returns-in_err-second_new-clause-order
returns-in_err-second_new-clause-order g c =
    let r = c.requires in
    let d = (slot_of_live c.args.first).dev in
    let old = c.args.old.now in
    let new = c.args.new.now in
    let first = rw (c.slot.ensures, r.pair.first_index) at c.in_ok-first_new.ensures.order in
    let cut = rw (c.slot-2.ensures, r.pair.second_dev, r.pair.second_index) at c.in_err-second_new.ensures.order in
    let front = cut_in_row (IsTurn g.row.SIZE d 0 old new) (IsTurn g.row.SIZE d 1 old new) (IsRenewal g.row.SIZE d old new) _ _ _ (turns_join g.row.SIZE d old new) first cut in
    search rules

pub returns-in_err-second_new-clause-cut : goal.returns-in_err-second_new-clause-cut
returns-in_err-second_new-clause-cut g c =
    let r = c.requires in
    let index = ap (λ s. s.index) (c.in_err-second_new.ensures.torn_slot ∙ c.slot-2.ensures) ∙ r.pair.second_index in
    let first = rw (c.slot.ensures, r.pair.first_index) at c.in_ok-first_new.ensures.order in
    let cut = rw (c.slot-2.ensures, r.pair.second_dev, r.pair.second_index) at c.in_err-second_new.ensures.cut in
    let front = renewal_cut_second g.row.SIZE (slot_of_live c.args.first).dev c.args.old.now c.args.new.now _ _ _ _ _ index first cut in
    search rules

pub returns-in_err-second_new-clause-fails : goal.returns-in_err-second_new-clause-fails
returns-in_err-second_new-clause-fails g c =
    let ends = ends_later _ _ _ _ c.in_ok-first_new.ensures.fails c.in_err-second_new.ensures.fails in search rules

pub returns-clause-twin : goal.returns-clause-twin
returns-clause-twin g c =
    let r = c.requires in
    let d = (slot_of_live c.args.first).dev in
    let first_ran = rw (c.slot.ensures, r.pair.first_index) at c.turn_over.ensures.ran in
    let second_ran = rw (c.slot-2.ensures, r.pair.second_dev, r.pair.second_index) at c.turn_over-2.ensures.ran in
    let live = rw (c.slot.ensures, r.pair.first_index) at c.in_ok-first_new.ensures.live in
    let last = rw (c.slot-2.ensures, r.pair.second_dev, r.pair.second_index) at c.in_ok-second_new.ensures.live in
    let fits = subst (λ (s : Sizes). room g.row.SIZE ≤ size_of d s) (sym first_ran.1.sizes) r.room in
    let still = other_live d g.row.SIZE 1 3 _ c.args.new.now _ _ (omega arith) r.new fits (g.met.M.Machine.sized c.turn_over.new.m) live second_ran in
    λ fs told. record { first = still fs told; second = last fs told }

pub returns-clause-ran : goal.returns-clause-ran
returns-clause-ran g c =
    let r = c.requires in
    let d = (slot_of_live c.args.first).dev in
    let sized = g.met.M.Machine.sized c.args.m.now in
    let first_ran = rw (c.slot.ensures, r.pair.first_index) at c.turn_over.ensures.ran in
    let second_ran = rw (c.slot-2.ensures, r.pair.second_dev, r.pair.second_index) at c.turn_over-2.ensures.ran in
    let live = rw (c.slot.ensures, r.pair.first_index) at c.in_ok-first_new.ensures.live in
    let fits = subst (λ (s : Sizes). room g.row.SIZE ≤ size_of d s) (sym first_ran.1.sizes) r.room in
    let other = other_live d g.row.SIZE 0 3 _ c.args.old.now _ _ (omega arith) r.old r.room sized (λ fs told. (r.twin fs told).second) first_ran in
    let first = turn_stage d g.row.SIZE c.args.old.now c.args.new.now r.old 0 c.args.old.now _ _ (omega arith) r.old (inl refl) r.room sized (λ fs told. (r.twin fs told).first) (λ fs told. (r.twin fs told).second) first_ran in
    let second = turn_stage d g.row.SIZE c.args.old.now c.args.new.now r.old 1 c.args.new.now _ _ (omega arith) r.new (inr refl) fits (g.met.M.Machine.sized c.turn_over.new.m) other live second_ran in
    renewed d g.row.SIZE c.args.old.now c.args.new.now r.old _ _ _ first second

pub returns-clause-rest : goal.returns-clause-rest
returns-clause-rest g c =
    stage_rest _ _ _ _ _ _ (g.met.M.Machine.sized c.args.m.now) (twin_bounded g.row.SIZE _ c.requires.room) (returns-clause-ran g c)

pub returns-clause-bytes : goal.returns-clause-bytes
returns-clause-bytes g c =
    let bytes = rewrite_bytes g.row.SIZE c.args.old.now c.args.new.now in
    puts-append (bytes + 2) (bytes + 2) (2 * (bytes + 2)) _ _ _ (omega arith) c.turn_over.ensures.bytes c.turn_over-2.ensures.bytes

pub returns-clause-order : goal.returns-clause-order
returns-clause-order g c =
    let r = c.requires in
    let d = (slot_of_live c.args.first).dev in
    let old = c.args.old.now in
    let new = c.args.new.now in
    let first = rw (c.slot.ensures, r.pair.first_index) at c.in_ok-first_new.ensures.order in
    let second = rw (c.slot-2.ensures, r.pair.second_dev, r.pair.second_index) at c.in_ok-second_new.ensures.order in
    in_row (IsTurn g.row.SIZE d 0 old new) (IsTurn g.row.SIZE d 1 old new) (IsRenewal g.row.SIZE d old new) _ _ _ (turns_join g.row.SIZE d old new) first second

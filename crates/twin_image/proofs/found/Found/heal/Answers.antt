use Rattle.std.proofs.Common.{◌≡◌, ◌≤◌, ℕ, List, length, sym, subst, arith, rules}
use Rattle.urna_outside.specs.Flash.{IsClean}
use Rattle.urna_outside.specs.Told.{Sizes, size_of}
use Rattle.urna_outside.specs.declared.device.Dev.TheVariants.{Internal, External}
use Rattle.urna_outside.proofs.Faults.{ends_later}
use Rattle.gate_slot.specs.Slot.{room}
use Rattle.twin_image.specs.Level.{IsLevel}
use Rattle.twin_image.specs.Slots.{HaveRoom}
use Rattle.twin_image.specs.Twin.{IsTwin}
use Rattle.twin_image.proofs.Committing.{level_of, other_kept}
use Rattle.twin_image.proofs.Healing.{healed_internal, healed, both_idle, heals_all, heal_cut_external, heal_cut_internal}
use Rattle.twin_image.proofs.Renewing.{twin_bounded}
use Rattle.twin_image.proofs.found.Found.heal.Goals as goal

pub mend_twin-requires : goal.mend_twin-requires
mend_twin-requires g c =
    let bytes = sym c.deref.ensures.value in
    (omega arith, (c.requires.room Internal, ((λ fs told. c.requires.clean fs told Internal), (subst (λ (l : List ℕ). length l ≡ g.row.SIZE) bytes c.args.self.whole, search rules))))

pub returns-in_err-internal-clause-ran : goal.returns-in_err-internal-clause-ran
returns-in_err-internal-clause-ran g c =
    let body = c.args.self.body.items in
    let run = rw c.deref.ensures.value at c.mend_twin.ensures.ran in
    healed_internal g.row.SIZE body c.args.self.whole _ _ c.requires.room (g.met.M.Machine.sized c.args.m.now) c.requires.clean run

pub returns-in_err-internal-clause-idle : goal.returns-in_err-internal-clause-idle
returns-in_err-internal-clause-idle g c =
    let idle = rw c.deref.ensures.value at c.mend_twin.ensures.idle in λ fs told live. idle fs told (live Internal)

pub mend_twin-requires-2 : goal.mend_twin-requires-2
mend_twin-requires-2 g c =
    let bytes = sym c.deref-2.ensures.value in
    let run = c.mend_twin.ensures.ran in
    let fits = subst (λ (z : Sizes). room g.row.SIZE ≤ size_of External z) (sym run.1.sizes) (c.requires.room External) in
    let still = other_kept Internal _ 6 _ IsClean _ _ (twin_bounded g.row.SIZE _ (c.requires.room Internal)) (g.met.M.Machine.sized c.args.m.now) run (λ fs told. c.requires.clean fs told External) in
    (omega arith, (fits, (still, (subst (λ (l : List ℕ). length l ≡ g.row.SIZE) bytes c.args.self.whole, search rules))))

pub returns-in_err-external-clause-ran : goal.returns-in_err-external-clause-ran
returns-in_err-external-clause-ran g c =
    let body = c.args.self.body.items in
    let run = rw c.deref.ensures.value at c.mend_twin.ensures.ran in
    let run_2 = rw c.deref-2.ensures.value at c.mend_twin-2.ensures.ran in
    let twin = rw c.deref.ensures.value at c.in_ok-internal.ensures.twin in
    healed g.row.SIZE body c.args.self.whole _ _ _ c.requires.room (g.met.M.Machine.sized c.args.m.now) (g.met.M.Machine.sized c.mend_twin.new.m) c.requires.clean run twin run_2

pub returns-in_err-external-clause-idle : goal.returns-in_err-external-clause-idle
returns-in_err-external-clause-idle g c =
    let idle = rw c.deref.ensures.value at c.mend_twin.ensures.idle in
    let idle_2 = rw c.deref-2.ensures.value at c.mend_twin-2.ensures.idle in
    both_idle g.row.SIZE c.args.self.body.items _ _ _ idle idle_2

pub returns-in_err-external-clause-fails : goal.returns-in_err-external-clause-fails
returns-in_err-external-clause-fails g c =
    let ends = ends_later _ _ _ _ c.in_ok-internal.ensures.fails c.in_err-external.ensures.fails in search rules

pub returns-clause-level : goal.returns-clause-level
returns-clause-level g c =
    let body = c.args.self.body.items in
    let run = c.mend_twin.ensures.ran in
    let run_2 = c.mend_twin-2.ensures.ran in
    let twin = rw c.deref.ensures.value at c.in_ok-internal.ensures.twin in
    let twin_2 = rw c.deref-2.ensures.value at c.in_ok-external.ensures.twin in
    let clean = c.in_ok-internal.ensures.clean in
    let fits = subst (HaveRoom g.row.SIZE) (sym run.1.sizes) c.requires.room in
    let still = other_kept External _ 6 _ (λ f. IsTwin g.row.SIZE body f × IsClean f) _ _ (twin_bounded g.row.SIZE _ (fits External)) (g.met.M.Machine.sized c.mend_twin.new.m) run_2 (λ fs told. (twin fs told, clean fs told)) in
    let is = sym c.of.ensures.body in
    record {
      internal = rw c.of.ensures.internal c.in_ok-internal.ensures.pair;
      external = rw c.of.ensures.external c.in_ok-external.ensures.pair;
      long = subst (λ (l : List ℕ). length l ≡ g.row.SIZE) is c.args.self.whole;
      fits = subst (HaveRoom g.row.SIZE) (sym run_2.1.sizes) fits;
      flashes = λ fs told. subst (λ (l : List ℕ). IsLevel g.row.SIZE l fs) is (level_of g.row.SIZE body fs (still fs told) (twin_2 fs told, c.in_ok-external.ensures.clean fs told));
    }

pub returns-clause-ran : goal.returns-clause-ran
returns-clause-ran g c =
    let body = c.args.self.body.items in
    let run = rw c.deref.ensures.value at c.mend_twin.ensures.ran in
    let run_2 = rw c.deref-2.ensures.value at c.mend_twin-2.ensures.ran in
    let twin = rw c.deref.ensures.value at c.in_ok-internal.ensures.twin in
    healed g.row.SIZE body c.args.self.whole _ _ _ c.requires.room (g.met.M.Machine.sized c.args.m.now) (g.met.M.Machine.sized c.mend_twin.new.m) c.requires.clean run twin run_2

pub returns-clause-idle : goal.returns-clause-idle
returns-clause-idle g c =
    let idle = rw c.deref.ensures.value at c.mend_twin.ensures.idle in
    let idle_2 = rw c.deref-2.ensures.value at c.mend_twin-2.ensures.idle in
    both_idle g.row.SIZE c.args.self.body.items _ _ _ idle idle_2

pub returns-clause-exact : goal.returns-clause-exact
returns-clause-exact g c =
    let body = c.args.self.body.items in
    let run = rw c.deref.ensures.value at c.mend_twin.ensures.ran in
    let first = rw c.deref.ensures.value at c.in_ok-internal.ensures.exact in
    let second = rw c.deref-2.ensures.value at c.in_ok-external.ensures.exact in
    heals_all g.row.SIZE body _ _ _ c.args.self.whole (c.requires.room Internal) (g.met.M.Machine.sized c.args.m.now) run first second

pub returns-in_err-internal-clause-cut : goal.returns-in_err-internal-clause-cut
returns-in_err-internal-clause-cut g c =
    let first = rw c.deref.ensures.value at c.in_err-internal.ensures.cut in
    let cut = heal_cut_internal g.row.SIZE c.args.self.body.items _ _ first in
    search rules

pub returns-in_err-external-clause-cut : goal.returns-in_err-external-clause-cut
returns-in_err-external-clause-cut g c =
    let body = c.args.self.body.items in
    let run = rw c.deref.ensures.value at c.mend_twin.ensures.ran in
    let first = rw c.deref.ensures.value at c.in_ok-internal.ensures.exact in
    let second = rw c.deref-2.ensures.value at c.in_err-external.ensures.cut in
    let cut = heal_cut_external g.row.SIZE body _ _ _ c.args.self.whole (c.requires.room Internal) (g.met.M.Machine.sized c.args.m.now) run first second in
    search rules

use Rattle.std.proofs.Common.{◌≡◌, ◌<◌, ◌≤◌, sym, subst, arith}
use Rattle.urna_outside.specs.Flash.{flash_of}
use Rattle.urna_outside.specs.Told.{Sizes, size_of}
use Rattle.gate_slot.specs.Device.{OnFlash}
use Rattle.gate_slot.specs.Slot.{IsGateShut, body_in, room}
use Rattle.gate_slot.proofs.Images.{body_image}
use Rattle.gate_slot.proofs.Written.{body_stays_there}
use Rattle.twin_image.proofs.Renewing.{content_image}
use Rattle.slot_tests.proofs.pages.patched.Goals as goal

-- a shut gate leaves the body
pub patch-requires : goal.patch-requires
patch-requires g c =
    let slot = c.args.slot in
    let r = c.requires in
    let same = sym c.in_ok-shut.ensures.slot in
    let run = c.shut.ensures.ran in
    let fits = subst (λ (z : Sizes). room g.row.SIZE ≤ size_of slot.dev z) (sym run.1.sizes) r.room in
    let still = body_stays_there slot.dev g.row.SIZE slot.index _ _ r.index r.room (g.met.M.Machine.sized c.args.m.now) run c.args.old.now r.body in (
      omega arith,
      (
        omega arith,
        (
          omega arith,
          (
            subst (λ s. s.index < 2) same r.index,
            (
              subst (λ s. room g.row.SIZE ≤ size_of s.dev (g.M.Machine.told c.shut.new.m).sizes) same fits,
              (
                r.pages,
                (
                  r.old,
                  (
                    r.new,
                    (
                      subst (λ s. OnFlash s.dev (IsGateShut g.row.SIZE s.index) (g.M.Machine.told c.shut.new.m)) same c.in_ok-shut.ensures.shut,
                      subst (λ s. OnFlash s.dev (λ flash. body_in g.row.SIZE s.index flash.content ≡ c.args.old.now) (g.M.Machine.told c.shut.new.m)) same
                          (λ fs told. body_image g.row.SIZE slot.index c.args.old.now (flash_of slot.dev fs) (flash_of slot.dev fs).content r.old (still fs told) (content_image (flash_of slot.dev fs))),
                    ),
                  ),
                ),
              ),
            ),
          ),
        ),
      ),
    )

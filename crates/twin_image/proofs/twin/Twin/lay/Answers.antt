use Rattle.std.proofs.Common.{◌≡◌, ◌<◌, ◌≤◌, ℕ, List, length, sym, ap, ◌∙◌, subst, arith, rules}
use Rattle.urna_outside.specs.Flash.{IsClean, flash_of}
use Rattle.std.specs.Option.{ForSome}
use Rattle.urna_outside.specs.Told.{Runs, Sizes, size_of}
use Rattle.urna_outside.specs.declared.device.Dev.{Dev}
use Rattle.urna_outside.specs.declared.device.Dev.TheVariants.{Internal, External}
use Rattle.urna_outside.proofs.Faults.{ends_later}
use Rattle.gate_slot.specs.Slot.{room}
use Rattle.gate_slot.specs.Front.{IsFrontOf}
use Rattle.gate_slot.proofs.Fronts.{fronts_first}
use Rattle.twin_image.specs.Frame.{FrameStands, device_image}
use Rattle.twin_image.specs.Lay.{header_for, lay_ops, load_ops}
use Rattle.twin_image.specs.Level.{IsLevel}
use Rattle.twin_image.specs.Slots.{HaveRoom}
use Rattle.twin_image.specs.Twin.{IsTwin}
use Rattle.twin_image.proofs.Committing.{level_of, other_kept}
use Rattle.twin_image.proofs.Framing.{on_both}
use Rattle.twin_image.proofs.Loading.{loaded_content, loads_internal, loads, loads_all, loads_cut}
use Rattle.twin_image.proofs.twin.Twin.lay.Goals as goal

pub lay_on-requires : goal.lay_on-requires
lay_on-requires g c =
    (omega arith, (omega (arith, c.requires.full Internal), ((λ fs told. c.requires.clean fs told Internal), (c.requires.internal, c.requires.body))))

pub returns-in_err-internal-clause-ran : goal.returns-in_err-internal-clause-ran
returns-in_err-internal-clause-ran g c =
    let fits : HaveRoom g.row.SIZE (g.M.Machine.told c.args.m.now).sizes = λ d. omega (arith, c.requires.full d) in
    loads_internal g.row.SIZE c.args.internal.now c.args.external.now c.args.body.now c.requires.internal c.requires.external c.requires.body _ _ fits (g.met.M.Machine.sized c.args.m.now) c.requires.clean c.lay_on.ensures.ran

pub lay_on-requires-2 : goal.lay_on-requires-2
lay_on-requires-2 g c =
    let full : room g.row.SIZE ≤ size_of Internal (g.M.Machine.told c.args.m.now).sizes = omega (arith, c.requires.full Internal) in
    let fits : room g.row.SIZE ≤ size_of External (g.M.Machine.told c.args.m.now).sizes = omega (arith, c.requires.full External) in
    let later = subst (λ (z : Sizes). room g.row.SIZE ≤ size_of External z) (sym c.lay_on.ensures.ran.1.sizes) fits in
    let clean = other_kept Internal (λ k. k < room g.row.SIZE) 7 _ IsClean _ _ (λ k is. omega (arith, full)) (g.met.M.Machine.sized c.args.m.now) c.lay_on.ensures.ran (λ fs told. c.requires.clean fs told External) in
    (omega arith, (later, (clean, (c.requires.external, c.requires.body))))

pub returns-in_err-external-clause-ran : goal.returns-in_err-external-clause-ran
returns-in_err-external-clause-ran g c =
    let fits : HaveRoom g.row.SIZE (g.M.Machine.told c.args.m.now).sizes = λ d. omega (arith, c.requires.full d) in
    loads g.row.SIZE c.args.internal.now c.args.external.now c.args.body.now c.requires.internal c.requires.external c.requires.body _ _ _ fits (g.met.M.Machine.sized c.args.m.now) (g.met.M.Machine.sized c.lay_on.new.m) c.requires.clean c.lay_on.ensures.ran c.in_ok-internal.ensures.frame c.in_ok-internal.ensures.twin c.lay_on-2.ensures.ran

pub returns-in_err-external-clause-fails : goal.returns-in_err-external-clause-fails
returns-in_err-external-clause-fails g c =
    let ends = ends_later _ _ _ _ c.in_ok-internal.ensures.fails c.in_err-external.ensures.fails in search rules

pub returns-clause-ran : goal.returns-clause-ran
returns-clause-ran g c =
    let fits : HaveRoom g.row.SIZE (g.M.Machine.told c.args.m.now).sizes = λ d. omega (arith, c.requires.full d) in
    loads g.row.SIZE c.args.internal.now c.args.external.now c.args.body.now c.requires.internal c.requires.external c.requires.body _ _ _ fits (g.met.M.Machine.sized c.args.m.now) (g.met.M.Machine.sized c.lay_on.new.m) c.requires.clean c.lay_on.ensures.ran c.in_ok-internal.ensures.frame c.in_ok-internal.ensures.twin c.lay_on-2.ensures.ran

pub returns-clause-level : goal.returns-clause-level
returns-clause-level g c =
    let body = c.args.body.now in
    let fits : HaveRoom g.row.SIZE (g.M.Machine.told c.args.m.now).sizes = λ d. omega (arith, c.requires.full d) in
    let later = subst (HaveRoom g.row.SIZE) (sym c.lay_on.ensures.ran.1.sizes) fits in
    let twin = c.in_ok-internal.ensures.twin in
    let clean = c.in_ok-internal.ensures.clean in
    let still = other_kept External (λ k. k < room g.row.SIZE) 7 _ (λ f. IsTwin g.row.SIZE body f × IsClean f) _ _ (λ k is. omega (arith, later External)) (g.met.M.Machine.sized c.lay_on.new.m) c.lay_on-2.ensures.ran (λ fs told. (twin fs told, clean fs told)) in
    let is = sym (c.of.ensures.body ∙ c.copy_from_slice.ensures.items) in
    record {
      internal = rw c.of.ensures.internal c.in_ok-internal.ensures.pair;
      external = rw c.of.ensures.external c.in_ok-external.ensures.pair;
      long = subst (λ (l : List ℕ). length l ≡ g.row.SIZE) is c.requires.body;
      fits = subst (HaveRoom g.row.SIZE) (sym c.lay_on-2.ensures.ran.1.sizes) later;
      flashes = λ fs told. subst (λ (l : List ℕ). IsLevel g.row.SIZE l fs) is (level_of g.row.SIZE body fs (still fs told) (c.in_ok-external.ensures.twin fs told, c.in_ok-external.ensures.clean fs told));
    }

pub returns-clause-laid : goal.returns-clause-laid
returns-clause-laid g c =
    let r = c.requires in
    let body = c.args.body.now in
    let fits : HaveRoom g.row.SIZE (g.M.Machine.told c.args.m.now).sizes = λ d. omega (arith, r.full d) in
    let later = subst (HaveRoom g.row.SIZE) (sym c.lay_on.ensures.ran.1.sizes) fits in
    let twin = c.in_ok-internal.ensures.twin in
    let frame = c.in_ok-internal.ensures.frame in
    let still = other_kept External (λ k. k < room g.row.SIZE) 7 _ (λ f. FrameStands g.row.SIZE c.args.internal.now f × IsTwin g.row.SIZE body f) _ _ (λ k is. omega (arith, later External)) (g.met.M.Machine.sized c.lay_on.new.m) c.lay_on-2.ensures.ran (λ fs told. (frame fs told, twin fs told)) in
    let same = c.lay_on-2.ensures.ran.1.sizes ∙ c.lay_on.ensures.ran.1.sizes in
    λ fs told.
    let full : (d : Dev) → length (flash_of d fs).content ≡ room g.row.SIZE =
    λ d. (g.met.M.Machine.sized c.lay_on-2.new.m fs told).content d ∙ ap (size_of d) same ∙ r.full d in
    on_both (λ d. (flash_of d fs).content ≡ device_image g.row.SIZE (header_for d c.args.internal.now c.args.external.now) body)
    (loaded_content g.row.SIZE c.args.internal.now body fs.internal r.internal r.body (full Internal) (still fs told).0 (still fs told).1)
    (loaded_content g.row.SIZE c.args.external.now body fs.external r.external r.body (full External) (c.in_ok-external.ensures.frame fs told) (c.in_ok-external.ensures.twin fs told))

pub returns-clause-exact : goal.returns-clause-exact
returns-clause-exact g c =
    let r = c.requires in
    let fits : HaveRoom g.row.SIZE (g.M.Machine.told c.args.m.now).sizes = λ d. omega (arith, r.full d) in
    loads_all g.row.SIZE c.args.internal.now c.args.external.now c.args.body.now r.internal r.external r.body _ _ _ fits (g.met.M.Machine.sized c.args.m.now) c.lay_on.ensures.ran c.in_ok-internal.ensures.exact c.in_ok-external.ensures.exact

pub returns-in_err-internal-clause-cut : goal.returns-in_err-internal-clause-cut
returns-in_err-internal-clause-cut g c =
    let a = g.M.Machine.told c.args.m.now in
    let front : ForSome a.flashes (λ start. Runs (IsFrontOf (load_ops g.row.SIZE c.args.internal.now c.args.external.now c.args.body.now start)) a (g.M.Machine.told c.lay_on.new.m)) =
    λ fs told. fronts_first _ (lay_ops g.row.SIZE External c.args.external.now c.args.body.now fs.external.content) _ _ (c.in_err-internal.ensures.cut fs told) in
    search rules

pub returns-in_err-external-clause-cut : goal.returns-in_err-external-clause-cut
returns-in_err-external-clause-cut g c =
    let r = c.requires in
    let fits : HaveRoom g.row.SIZE (g.M.Machine.told c.args.m.now).sizes = λ d. omega (arith, r.full d) in
    let front = loads_cut g.row.SIZE c.args.internal.now c.args.external.now c.args.body.now r.internal r.external r.body _ _ _ fits (g.met.M.Machine.sized c.args.m.now) c.lay_on.ensures.ran c.in_ok-internal.ensures.exact c.in_err-external.ensures.cut in search rules

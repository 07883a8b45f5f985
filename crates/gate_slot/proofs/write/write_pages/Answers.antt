use Rattle.std.proofs.Common.{rules, arith, sym, ap, subst, ◌∙◌, ◌≡◌, ◌*◌, length, is_ok, Result, Ok, Err}
use Rattle.urna_outside.specs.Faults.{FailsAt}
use Rattle.urna_outside.specs.Told.{Told, Counts, IsCalled, port_of, size_of}
use Rattle.urna_outside.specs.declared.device.Port.{Port}
use Rattle.urna_outside.proofs.Calling.{without_fault_one, stops_one}
use Rattle.urna_outside.proofs.Doing.{does_nothing}
use Rattle.urna_outside.proofs.Faults.{ends_later, faultless_none, faultless_trans}
use Rattle.urna_outside.proofs.Places.{length-part}
use Rattle.gate_slot.specs.Page.{page_size}
use Rattle.gate_slot.proofs.Paging.{whole_pages, cut_page, does_changed, does_same}
use Rattle.gate_slot.proofs.write.write_pages.Goals as goal
use Rattle.gate_slot.proofs.write.write_pages.Goals.{then-has+in_ok-write, else-has}

-- one call, by its result
fails_one : {T E : Type 0} (port : Port) (r q : Result T E) (a b : Told) → r ≡ q → Counts port r a.faults b.faults → IsCalled r a b → FailsAt (λ (e : E). port) q a b
fails_one {T} {E} port r (Ok x) a b is counts called =
    let ok = subst (λ (r : Result T E). Counts port r a.faults b.faults) is counts in
    record { faults = ok.ok; calls = without_fault_one r a b (ap is_ok is) called }
fails_one {T} {E} port r (Err e) a b is counts called =
    let err = subst (λ (r : Result T E). Counts port r a.faults b.faults) is counts in
    record {
      faults = record { never_falls = err.never_falls; others = err.others; rose = err.failed };
      calls = stops_one r a b (ap is_ok is) called;
    }

pub loop-page-init : goal.loop-page-init
loop-page-init g c = (does_nothing (g.M.Machine.told c.args.m.now), faultless_none (g.M.Machine.told c.args.m.now))

pub write-requires : goal.write-requires
write-requires g c =
    let fits = whole_pages (length c.args.new.now) c.loop-page.page c.requires.pages c.loop-page-test.true in
    let long = length-part c.args.new.now (c.loop-page.page * page_size) page_size fits in
    let sizes = ap (size_of c.args.dev) c.loop-page.invariant.0.sizes in
    omega (arith, c.requires.room, long, sizes)

pub returns-in_err-write-clause-cut : goal.returns-in_err-write-clause-cut
returns-in_err-write-clause-cut g c =
    let cut = cut_page c.args.old.now c.args.new.now c.args.dev c.args.at c.loop-page.page _ _ _ _ c.loop-page-test.true (sym c.has.ensures ∙ c.if-has.true) c.loop-page.invariant.0 c.in_err-write.ensures.torn in search rules

pub returns-in_err-write-clause-fails : goal.returns-in_err-write-clause-fails
returns-in_err-write-clause-fails g c =
    let call = fails_one (port_of c.args.dev) c.write.result (Err _) (g.M.Machine.told c.loop-page.m) (g.M.Machine.told c.write.new.self) c.in_err-write.was c.write.ensures.counts c.write.ensures.calls in
    let ends = ends_later _ _ _ _ c.loop-page.invariant.1 call in search rules

pub loop-page-preserved : goal.loop-page-preserved
loop-page-preserved g c = elim c.if-has.branch [
  | then-has+in_ok-write w ↦
      let call = fails_one (port_of c.args.dev) w.write.result (Ok _) (g.M.Machine.told c.loop-page.m) (g.M.Machine.told w.write.new.self) w.in_ok-write.was w.write.ensures.counts w.write.ensures.calls in
      rw w.m-is (
        does_changed c.args.old.now c.args.new.now c.args.dev c.args.at c.loop-page.page _ _ _ (sym c.has.ensures ∙ w.if-has.true) c.loop-page.invariant.0 w.in_ok-write.ensures.ok,
        faultless_trans _ _ _ c.loop-page.invariant.1 call,
      )
  | else-has w ↦
      rw w.m-is (
        does_same c.args.old.now c.args.new.now c.args.dev c.args.at c.loop-page.page _ _ (sym c.has.ensures ∙ w.if-has.false) c.loop-page.invariant.0,
        c.loop-page.invariant.1,
      )
]

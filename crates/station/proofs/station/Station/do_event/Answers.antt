use Rattle.std.proofs.Common.{◌≡◌, List, IfOk, sym, subst}
use Rattle.state_store.specs.Store.{StoreData}
use Rattle.station.specs.Press.{Standing}
use Rattle.station.specs.Station.{IsAsked}
use Rattle.station.specs.declared.perform.Act.{Act}
use Rattle.station.proofs.station.Station.do_event.Goals as goal

pub perform-requires-clause-asked : goal.perform-requires-clause-asked
perform-requires-clause-asked g c =
    let told = g.M.Machine.told c.args.m.now in (
      c.args.self,
      c.args.event,
      subst (λ (acts : List Act). IsAsked c.args.tables.now c.args.roll.now told c.args.self c.args.event c.take_event-acts.new.self acts) (sym c.deref.ensures.0)
          (c.take_event-acts.ensures.asked told c.requires.stationed),
    )

pub returns-clause-standing : goal.returns-clause-standing
returns-clause-standing g c =
    let asked = c.take_event-acts.ensures.asked (g.M.Machine.told c.args.m.now) c.requires.stationed in
    subst (λ (y : Standing). IfOk c.perform.result (λ next. next.standing ≡ y)) asked.standing c.perform.ensures.standing

pub returns-clause-load : goal.returns-clause-load
returns-clause-load g c =
    let asked = c.take_event-acts.ensures.asked (g.M.Machine.told c.args.m.now) c.requires.stationed in
    subst (λ (y : StoreData). IfOk c.perform.result (λ next. next.store.load ≡ y.load)) asked.store c.perform.ensures.load

pub returns-clause-puts : goal.returns-clause-puts
returns-clause-puts g c =
    let told = g.M.Machine.told c.args.m.now in
    c.perform.ensures.puts c.args.self c.args.event
    (subst (λ (acts : List Act). IsAsked c.args.tables.now c.args.roll.now told c.args.self c.args.event c.take_event-acts.new.self acts) (sym c.deref.ensures.0)
    (c.take_event-acts.ensures.asked told c.requires.stationed))

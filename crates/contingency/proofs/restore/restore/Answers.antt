use Rattle.std.proofs.Common.{length, ap, ◌∙◌, arith, rules}
use Rattle.urna_outside.proofs.Faults.{ends_later, faultless_trans}
use Rattle.state_store.proofs.Stored.{long_state}
use Rattle.contingency.proofs.Restoring.{has_restored, owed, stopped_first, stopped_later}
use Rattle.contingency.proofs.restore.restore.Goals as goal

pub returns-in_err-bring_up : goal.returns-in_err-bring_up
returns-in_err-bring_up g c =
    let r = c.requires in
    let stopped = stopped_first c.args.tables.now c.args.state.now r.tables r.few r.encoding.state c.args.replaced c.args.header.now c.args.body.now (g.M.Machine.told c.args.m.now) (g.M.Machine.told c.bring_up.new.m) r.devices (g.met.M.Machine.sized c.args.m.now) r.clean
    c.beside.result c.beside.ensures c.bring_up.ensures.ran c.in_err-bring_up.ensures.cut in
    search rules

pub lay_on-requires : goal.lay_on-requires
lay_on-requires g c =
    let r = c.requires in
    let long = long_state c.args.tables.now (length c.args.state.now.came) c.args.state.now r.tables r.few r.encoding.state in
    let owes = owed c.args.tables.now c.args.state.now r.tables r.few r.encoding.state c.args.replaced c.args.header.now c.args.body.now (g.M.Machine.told c.args.m.now) (g.M.Machine.told c.bring_up.new.m) r.devices (g.met.M.Machine.sized c.args.m.now) r.clean
    c.beside.result c.beside.ensures c.bring_up.ensures.ran in
    (omega arith, (owes.0, (owes.1, (r.header, ap length c.in_ok-bring_up.ensures.next ∙ long))))

pub returns-in_err-_lives : goal.returns-in_err-_lives
returns-in_err-_lives g c =
    let r = c.requires in
    let ready = c.in_ok-bring_up.ensures in
    let stopped = stopped_later c.args.tables.now c.args.state.now r.tables r.few r.encoding.state c.args.replaced c.args.header.now c.args.body.now (g.M.Machine.told c.args.m.now) (g.M.Machine.told c.bring_up.new.m) r.devices (g.met.M.Machine.sized c.args.m.now) r.clean
    c.beside.result c.beside.ensures c.bring_up.ensures.ran
    (g.M.Machine.told c.lay_on.new.m) c.bring_up.new.next ready.next (g.met.M.Machine.sized c.bring_up.new.m) ready.twin ready.clean ready.exact c.lay_on.ensures.ran c.in_err-_lives.ensures.cut in
    let ends = ends_later _ _ _ _ ready.fails c.in_err-_lives.ensures.fails in
    search rules

pub returns : goal.returns
returns g c =
    let r = c.requires in
    let ready = c.in_ok-bring_up.ensures in
    let has = has_restored c.args.tables.now c.args.state.now r.tables r.few r.encoding.state c.args.replaced c.args.header.now c.args.body.now (g.M.Machine.told c.args.m.now) (g.M.Machine.told c.bring_up.new.m) r.devices (g.met.M.Machine.sized c.args.m.now) r.clean
    c.beside.result c.beside.ensures c.bring_up.ensures.ran
    (g.M.Machine.told c.lay_on.new.m) c.bring_up.new.next ready.next (g.met.M.Machine.sized c.bring_up.new.m) ready.twin ready.clean ready.exact c.lay_on.ensures.ran c.in_ok-_lives.ensures.exact c.in_ok-_lives.ensures.twin c.in_ok-_lives.ensures.clean in
    record {
      level = has.level;
      frame = c.in_ok-_lives.ensures.frame;
      ran = has.ran;
      exact = has.exact;
      cut = tt;
      fails = faultless_trans _ _ _ ready.fails c.in_ok-_lives.ensures.fails;
    }

use Rattle.std.proofs.Common.{◌+◌, List, take, drop, get_or, arith, subst}
use Rattle.std.proofs.lemmas.List.{take_all}
use Rattle.turnout.specs.declared.phase.Phase.TheVariants as phase
use Rattle.state_store.specs.Played.{HasPut, HasStopped, kept_poll}
use Rattle.flash_store.specs.Pieces.{state_after}
use Rattle.state_store.specs.Store.{Keeps}
use Rattle.state_store.specs.declared.load.Load.{Load}
use Rattle.flash_store.proofs.Playing.{stopped_within}
use Rattle.station.specs.Acts.{output_of, outputs_of}
use Rattle.station.specs.Text.{output_pieces, session_pieces}
use Rattle.station.specs.declared.perform.Act.{Act}
use Rattle.station.specs.declared.perform.Act.TheVariants.{Say}
use Rattle.station.specs.declared.line.Line.TheVariants as line
use Rattle.station.proofs.Doing.{acts_begin, acts_go_on}
use Rattle.station.proofs.Pieces.{acts_rest, full_pieces}
use Rattle.station.proofs.perform.perform_all.Goals as goal

pub loop-act-init : goal.loop-act-init
loop-act-init g c =
    acts_begin c.args.tables.now c.args.roll.now c.args.session.now.standing.state c.args.store c.args.acts.now (g.M.Machine.told c.args.m.now) c.requires.load c.requires.state c.requires.devices c.requires.may

pub returns-in-Err-clause-puts : goal.returns-in-Err-clause-puts
returns-in-Err-clause-puts g c s kept =
    let t = c.args.tables.now in
    let u = c.args.session.now.standing.state in
    let acts = c.args.acts.now in
    let i = c.loop-act.act-index in
    let act = get_or acts i (Say (line.Poll phase.Ready 0)) in
    let load = c.args.store.load in
    let h = c.loop-act.invariant in
    let b = g.M.Machine.told c.loop-act.m in
    let end = g.M.Machine.told c.perform.new.m in
    let front = session_pieces t (outputs_of u (take i acts)) in
    let piece = output_pieces t (output_of u act) in
    stopped_within (kept_poll t load) s front piece (session_pieces t (outputs_of u (drop (i + 1) acts))) (session_pieces t (outputs_of u acts)) c.in-Err.port _ _ _
    (acts_rest t u acts i (Say (line.Poll phase.Ready 0)) c.loop-act-test.true) (full_pieces t (outputs_of u (take i acts))) (h.put s kept)
    (subst (λ (l : Load). HasStopped t l (state_after s front) piece c.in-Err.port b end) h.load (c.in-Err.ensures.puts (state_after s front) (h.kept s kept)))

pub loop-act-preserved : goal.loop-act-preserved
loop-act-preserved g c =
    let t = c.args.tables.now in
    let u = c.args.session.now.standing.state in
    acts_go_on t c.args.roll.now u c.args.store c.loop-act.store c.in-Ok.store c.args.acts.now c.loop-act.act-index (Say (line.Poll phase.Ready 0)) (g.M.Machine.told c.args.m.now) (g.M.Machine.told c.loop-act.m) (g.M.Machine.told c.perform.new.m)
    c.loop-act-test.true c.loop-act.invariant c.in-Ok.ensures.load c.in-Ok.ensures.kept c.in-Ok.ensures.puts

pub returns-clause-kept : goal.returns-clause-kept
returns-clause-kept g c s kept =
    let acts = c.args.acts.now in
    let all = take_all c.loop-act.act-index acts (omega arith) in
    subst (λ (l : List Act). Keeps c.args.tables.now (g.M.Machine.told c.loop-act.m) c.loop-act.store (state_after s (session_pieces c.args.tables.now (outputs_of c.args.session.now.standing.state l)))) all
    (c.loop-act.invariant.kept s kept)

pub returns-clause-puts : goal.returns-clause-puts
returns-clause-puts g c s kept =
    let acts = c.args.acts.now in
    let all = take_all c.loop-act.act-index acts (omega arith) in
    subst (λ (l : List Act). HasPut c.args.tables.now c.args.store.load s (session_pieces c.args.tables.now (outputs_of c.args.session.now.standing.state l)) (g.M.Machine.told c.args.m.now) (g.M.Machine.told c.loop-act.m)) all
    (c.loop-act.invariant.put s kept)

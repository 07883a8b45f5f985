use Rattle.std.proofs.Common.{◌≡◌, ℕ, List, [], length, drop, get_or, sym, ap, subst, ◌∙◌, arith, rules}
use Rattle.urna_outside.specs.declared.device.Dev.TheVariants.{Internal, External}
use Rattle.urna_outside.proofs.Doing.{does_nothing, then_told}
use Rattle.urna_outside.proofs.Faults.{faultless_trans}
use Rattle.image_codec.specs.Encoding.{IsStateOf, encode}
use Rattle.image_codec.specs.State.{State}
use Rattle.image_codec.specs.Valid.{ready_state}
use Rattle.twin_image.specs.Level.{IsLevel}
use Rattle.twin_image.specs.Slots.{AreClean}
use Rattle.twin_image.proofs.Looking.{refilled}
use Rattle.image_codec.specs.Layout.{body_size}
use Rattle.state_store.specs.Load.{header, load_of}
use Rattle.state_store.specs.Store.{AreDevices}
use Rattle.state_store.specs.declared.load.Load.{Load}
use Rattle.flash_store.proofs.Resting.{laid_rests}
use Rattle.flash_store.proofs.Syncing.{clean_after}
use Rattle.flash_store.proofs.InUse.{load_cut, load_done, load_not_begun, load_not_tested, load_syncing, loaded}
use Rattle.state_store.specs.Load.{magic}
use Rattle.state_store.specs.Rest.{IsBegun}
use Rattle.state_store.proofs.Formatting.{fails_laying, fails_testing, not_begun}
use Rattle.image_codec.proofs.OfTables.{of_tables-ready_state}
use Rattle.state_store.proofs.Ready.{ready_named, ready_unused}
use Rattle.state_store.proofs.store.Store.format.Goals as goal

pub returns-in_err-test_free-clause-fails : goal.returns-in_err-test_free-clause-fails
returns-in_err-test_free-clause-fails g c =
    let fails = fails_testing (g.M.Machine.told c.args.m.now) (g.M.Machine.told c.sync_both.new.m) (g.M.Machine.told c.test_free.new.m) c.in_err-test_free.field-0.0 c.in_default-sync_both.ensures.synced c.test_free.ensures.done c.in_err-test_free.ensures.fails in
    search rules

pub encode_into-requires-clause-state : goal.encode_into-requires-clause-state
encode_into-requires-clause-state g c = ready_named c.args.tables.now c.len.result c.in-Ok.room.state c.in-Ok.ensures

pub lay-requires : goal.lay-requires
lay-requires g c =
    let b = g.M.Machine.told c.sync_both.new.m in
    let mid = g.M.Machine.told c.test_free.new.m in
    let synced = c.in_default-sync_both.ensures.synced in
    let done = c.test_free.ensures.done in
    let devices = subst AreDevices (sym (done.sizes ∙ synced.does.sizes)) c.requires.devices in
    let clean = then_told [] b mid AreClean done (clean_after (g.M.Machine.told c.args.m.now) b synced.does) in
    (omega arith, (omega arith, (devices, (clean, (search rules, (search rules, search rules))))))

pub returns-in-Ok-lay-clause-kept : goal.returns-in-Ok-lay-clause-kept
returns-in-Ok-lay-clause-kept g c =
    let t = c.args.tables.now in
    let r = c.args.roll.now in
    let load = c.of-load.result in
    let body = c.deref.result.now in
    let into = c.encode_into.new.into in
    let ready : State = ready_state t (length r.titles) in
    let long : c.in-Ok.room.next.len ≡ length into = search rules in
    let written : body ≡ encode t ready =
    c.deref.ensures.value ∙ refilled c.in-Ok.room.next.len into (drop (length into) c.in-Ok.room.next.items) long ∙ c.encode_into.ensures ∙ ap (encode t) c.in-Ok.ensures ∙ ap (λ (n : ℕ). encode t (ready_state t n)) c.len.ensures.count in
    let moved = c.in-Ok-lay.ensures.body in
    let level = c.in-Ok-lay.ensures.level in
    let voters : load.section.voters ≡ length r.titles = ap (λ (l : Load). l.section.voters) c.of-load.ensures ∙ c.requires.section.voters in
    record {
      state = subst (λ (n : ℕ). IsStateOf t n ready) (sym voters) (of_tables-ready_state t (length r.titles));
      body = moved ∙ written;
      rest = λ fs told.
          laid_rests body_size (header load) c.header-internal.result c.header-external.result (encode t ready) body fs c.header-internal.ensures c.header-external.ensures written (c.in-Ok-lay.ensures.laid fs told) (subst (λ (b : List ℕ). IsLevel body_size b fs) moved (level.flashes fs told));
    }

pub returns-in-Ok-lay-clause-ran : goal.returns-in-Ok-lay-clause-ran
returns-in-Ok-lay-clause-ran g c =
    let t = c.args.tables.now in
    let body = c.deref.result.now in
    let into = c.encode_into.new.into in
    let long : c.in-Ok.room.next.len ≡ length into = search rules in
    let fresh : get_or body 1 0 ≡ 0 =
    ap (λ (l : List ℕ). get_or l 1 0) (c.deref.ensures.value ∙ refilled c.in-Ok.room.next.len into (drop (length into) c.in-Ok.room.next.items) long ∙ c.encode_into.ensures ∙ ap (encode t) c.in-Ok.ensures) ∙ ready_unused t c.len.result in
    let synced = c.in_default-sync_both.ensures.synced in
    loaded magic body_size IsBegun c.header-internal.result c.header-external.result body (not_begun body fresh) (g.M.Machine.told c.args.m.now) (g.M.Machine.told c.sync_both.new.m) (g.M.Machine.told c.test_free.new.m) (g.M.Machine.told c.lay.new.m)
    synced.does c.test_free.ensures.done c.in_ok-test_free.ensures.free c.lay.ensures.ran

pub returns-clause-fails : goal.returns-clause-fails
returns-clause-fails g c =
    let t = c.args.tables.now in
    let body = c.deref.result.now in
    let into = c.encode_into.new.into in
    let long : c.in-Ok.room.next.len ≡ length into = search rules in
    let fresh : get_or body 1 0 ≡ 0 =
    ap (λ (l : List ℕ). get_or l 1 0) (c.deref.ensures.value ∙ refilled c.in-Ok.room.next.len into (drop (length into) c.in-Ok.room.next.items) long ∙ c.encode_into.ensures ∙ ap (encode t) c.in-Ok.ensures) ∙ ready_unused t c.len.result in
    let synced = c.in_default-sync_both.ensures.synced in
    let tested = c.in_ok-test_free.ensures in
    fails_laying c.header-internal.result c.header-external.result body (not_begun body fresh) (g.M.Machine.told c.args.m.now) (g.M.Machine.told c.sync_both.new.m) (g.M.Machine.told c.test_free.new.m) (g.M.Machine.told c.lay.new.m)
    synced.does c.test_free.ensures.done tested.free c.lay.ensures.ran c.in-Err-lay.dev (faultless_trans _ _ _ synced.fine tested.fine) c.in-Err-lay.ensures.fails

pub returns-in_default-clause-order : goal.returns-in_default-clause-order
returns-in_default-clause-order g c =
    let t = c.args.tables.now in
    let load = load_of t c.args.roll.now c.args.section in
    let ready = ready_state t (length c.args.roll.now.titles) in
    let a = g.M.Machine.told c.args.m.now in
    load_not_begun body_size (header load) (encode t ready) a a (does_nothing a)

pub returns-in-Err-clause-order : goal.returns-in-Err-clause-order
returns-in-Err-clause-order g c =
    let t = c.args.tables.now in
    let load = load_of t c.args.roll.now c.args.section in
    let ready = ready_state t (length c.args.roll.now.titles) in
    let a = g.M.Machine.told c.args.m.now in
    load_syncing body_size (header load) (encode t ready) a (g.M.Machine.told c.sync_both.new.m) c.in-Err.ensures.ran

pub returns-in_err-test_free-clause-order : goal.returns-in_err-test_free-clause-order
returns-in_err-test_free-clause-order g c =
    let t = c.args.tables.now in
    let load = load_of t c.args.roll.now c.args.section in
    let ready = ready_state t (length c.args.roll.now.titles) in
    let a = g.M.Machine.told c.args.m.now in
    let cut = load_not_tested body_size (header load) (encode t ready) a (g.M.Machine.told c.sync_both.new.m) (g.M.Machine.told c.test_free.new.m) c.in_default-sync_both.ensures.synced.does c.test_free.ensures.done in
    search rules

pub returns-in-Ok-lay-clause-order : goal.returns-in-Ok-lay-clause-order
returns-in-Ok-lay-clause-order g c =
    let t = c.args.tables.now in
    let load = load_of t c.args.roll.now c.args.section in
    let ready = ready_state t (length c.args.roll.now.titles) in
    let a = g.M.Machine.told c.args.m.now in
    let load_is = c.of-load.ensures in
    let body = c.deref.result.now in
    let into = c.encode_into.new.into in
    let long : c.in-Ok.room.next.len ≡ length into = search rules in
    let written : body ≡ encode t ready =
    c.deref.ensures.value ∙ refilled c.in-Ok.room.next.len into (drop (length into) c.in-Ok.room.next.items) long ∙ c.encode_into.ensures ∙ ap (encode t) c.in-Ok.ensures ∙ ap (λ (n : ℕ). encode t (ready_state t n)) c.len.ensures.count in
    let internal_is = c.header-internal.ensures ∙ ap (λ (l : Load). header l Internal) load_is in
    let external_is = c.header-external.ensures ∙ ap (λ (l : Load). header l External) load_is in
    load_done body_size (header load) (encode t ready) a (g.M.Machine.told c.sync_both.new.m) (g.M.Machine.told c.test_free.new.m) c.in_default-sync_both.ensures.synced.does c.test_free.ensures.done
    (g.M.Machine.told c.lay.new.m) c.header-internal.result c.header-external.result body internal_is external_is written c.in-Ok-lay.ensures.exact

pub returns-clause-order : goal.returns-clause-order
returns-clause-order g c =
    let t = c.args.tables.now in
    let load = load_of t c.args.roll.now c.args.section in
    let ready = ready_state t (length c.args.roll.now.titles) in
    let a = g.M.Machine.told c.args.m.now in
    let load_is = c.of-load.ensures in
    let body = c.deref.result.now in
    let into = c.encode_into.new.into in
    let long : c.in-Ok.room.next.len ≡ length into = search rules in
    let written : body ≡ encode t ready =
    c.deref.ensures.value ∙ refilled c.in-Ok.room.next.len into (drop (length into) c.in-Ok.room.next.items) long ∙ c.encode_into.ensures ∙ ap (encode t) c.in-Ok.ensures ∙ ap (λ (n : ℕ). encode t (ready_state t n)) c.len.ensures.count in
    let internal_is = c.header-internal.ensures ∙ ap (λ (l : Load). header l Internal) load_is in
    let external_is = c.header-external.ensures ∙ ap (λ (l : Load). header l External) load_is in
    load_cut body_size (header load) (encode t ready) a (g.M.Machine.told c.sync_both.new.m) (g.M.Machine.told c.test_free.new.m) c.in_default-sync_both.ensures.synced.does c.test_free.ensures.done
    (g.M.Machine.told c.lay.new.m) c.header-internal.result c.header-external.result body internal_is external_is written c.in-Err-lay.ensures.cut

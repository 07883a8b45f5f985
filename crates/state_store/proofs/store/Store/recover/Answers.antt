use Rattle.std.proofs.Common.{◌≡◌, ℕ, List, [], ◌++◌, length, sym, ap, subst, ◌∙◌, arith, rules}
use Rattle.std.specs.Option.{ForSome}
use Rattle.urna_outside.specs.Flash.{Op}
use Rattle.urna_outside.specs.Told.{Runs}
use Rattle.urna_outside.proofs.Doing.{then_told}
use Rattle.urna_outside.proofs.Faults.{faultless_trans}
use Rattle.election_tables.specs.declared.tables.sections.Section.{Section}
use Rattle.image_codec.specs.Encoding.{IsEncoding}
use Rattle.image_codec.proofs.Decoding.{decoded_takes}
use Rattle.gate_slot.specs.Front.{IsFrontOfSome}
use Rattle.twin_image.specs.Found.{found_body}
use Rattle.twin_image.specs.Level.{IsLevel, body_of}
use Rattle.twin_image.specs.Slots.{AreClean}
use Rattle.image_codec.specs.Layout.{body_size}
use Rattle.flash_store.specs.Syncs.{both_synced}
use Rattle.flash_store.proofs.Holding.{ranked_state}
use Rattle.flash_store.proofs.Resting.{roomy}
use Rattle.flash_store.proofs.Syncing.{clean_after}
use Rattle.image_codec.specs.Decoded.{decoded}
use Rattle.image_codec.specs.State.{rank_of}
use Rattle.state_store.specs.Calls.{IsBroughtUp, Recovers}
use Rattle.state_store.specs.Held.{AreLoaded}
use Rattle.state_store.specs.Load.{load_of}
use Rattle.state_store.specs.Store.{AreDevices, Keeps, StoreData}
use Rattle.state_store.specs.declared.load.Load.{Load}
use Rattle.state_store.proofs.Ready.{ready_places}
use Rattle.state_store.proofs.Recovering.{brought_named, fails_changing, fails_finding, fails_healing, found_encoding, found_known, recovered, recovered_exactly, rests_brought, up_to_front, up_to_whole}
use Rattle.state_store.proofs.store.Store.recover.Goals as goal

pub returns-in_err-section-clause-fails : goal.returns-in_err-section-clause-fails
returns-in_err-section-clause-fails g c =
    let fails = fails_finding c.args.tables.now c.args.roll.now (g.M.Machine.told c.args.m.now) (g.M.Machine.told c.sync_both.new.m) (g.M.Machine.told c.find.new.m) c.in_err-section.field-0.0 c.in_default-sync_both.ensures.synced c.find.ensures.done c.in_err-section.ensures.fails in
    search rules

pub heal-requires : goal.heal-requires
heal-requires g c =
    let b = g.M.Machine.told c.sync_both.new.m in
    let mid = g.M.Machine.told c.find.new.m in
    let synced = c.in_default-sync_both.ensures.synced in
    let done = c.find.ensures.done in
    let devices = subst AreDevices (sym (done.sizes ∙ synced.does.sizes)) c.requires.devices in
    (omega arith, (omega arith, (roomy body_size mid.sizes devices, then_told [] b mid AreClean done (clean_after (g.M.Machine.told c.args.m.now) b synced.does))))

pub returns-in-Err-heal-clause-fails : goal.returns-in-Err-heal-clause-fails
returns-in-Err-heal-clause-fails g c =
    let t = c.args.tables.now in
    let r = c.args.roll.now in
    let synced = c.in_default-sync_both.ensures.synced in
    let found = c.in_ok-section.ensures in
    let body = found_body c.in_ok-section.found in
    let s = ranked_state rank_of (decoded t (length r.titles)) body found.ranked in
    fails_healing t r c.in_ok-section.section found.tables found.roll.count.1 s.0 body s.1 (g.M.Machine.told c.args.m.now) (g.M.Machine.told c.sync_both.new.m) (g.M.Machine.told c.find.new.m) (g.M.Machine.told c.heal.new.m)
    synced.does found.done found.loaded found.held c.heal.ensures.ran c.in-Err-heal.ensures.cut c.in-Err-heal.dev found.section (faultless_trans _ _ _ synced.fine found.fine) c.in-Err-heal.ensures.fails

pub bring_up-requires-clause-encoding : goal.bring_up-requires-clause-encoding
bring_up-requires-clause-encoding g c =
    let t = c.args.tables.now in
    let r = c.args.roll.now in
    let synced = c.in_default-sync_both.ensures.synced in
    let found = c.in_ok-section.ensures in
    let section = c.in_ok-section.section in
    let body = found_body c.in_ok-section.found in
    let s = c.load-loaded.new.self in
    let body_is : body_of c.in-Ok-heal.level ≡ body = c.in-Ok-heal.ensures.body in
    let places : length c.in-Ok.room.state.came ≡ length r.titles = ready_places t c.len.result c.in-Ok.room.state c.in-Ok.ensures ∙ c.len.ensures.count in
    let read : IsEncoding t (length r.titles) s body =
    subst (λ (b : List ℕ). IsEncoding t (length r.titles) s b) (c.body.ensures ∙ body_is) (subst (λ (n : ℕ). IsEncoding t n s c.body.result.now) places (c.load-loaded.ensures.loaded c.if-prove.false)) in
    subst (λ (n : ℕ). IsEncoding t n s (body_of c.in-Ok-heal.level)) (sym read.state.roll) (subst (λ (l : List ℕ). IsEncoding t (length r.titles) s l) (sym body_is) read)

pub returns-in-Err-bring_up-clause-fails : goal.returns-in-Err-bring_up-clause-fails
returns-in-Err-bring_up-clause-fails g c =
    let t = c.args.tables.now in
    let r = c.args.roll.now in
    let synced = c.in_default-sync_both.ensures.synced in
    let found = c.in_ok-section.ensures in
    let section = c.in_ok-section.section in
    let body = found_body c.in_ok-section.found in
    let s = c.load-loaded.new.self in
    let body_is : body_of c.in-Ok-heal.level ≡ body = c.in-Ok-heal.ensures.body in
    let places : length c.in-Ok.room.state.came ≡ length r.titles = ready_places t c.len.result c.in-Ok.room.state c.in-Ok.ensures ∙ c.len.ensures.count in
    let read : IsEncoding t (length r.titles) s body =
    subst (λ (b : List ℕ). IsEncoding t (length r.titles) s b) (c.body.ensures ∙ body_is) (subst (λ (n : ℕ). IsEncoding t n s c.body.result.now) places (c.load-loaded.ensures.loaded c.if-prove.false)) in
    let known = found_known t r section found.tables found.roll found.section s body read in
    let a = g.M.Machine.told c.args.m.now in
    let b = g.M.Machine.told c.sync_both.new.m in
    let mid = g.M.Machine.told c.find.new.m in
    let healed = g.M.Machine.told c.heal.new.m in
    let end = g.M.Machine.told c.bring_up.new.m in
    let second = brought_named t r section found.tables found.roll found.section s body read healed end c.bring_up.ensures.ran in
    let fine = faultless_trans _ _ _ (faultless_trans _ _ _ synced.fine found.fine) c.in-Ok-heal.ensures.fails in
    let cut = subst (λ (l : List ℕ). ForSome healed.flashes (λ start. Runs (IsFrontOfSome (IsBroughtUp t s l)) healed end)) body_is c.in-Err-bring_up.ensures.order in
    fails_changing t r section found.tables found.roll.count.1 s body known a b mid healed synced.does found.done found.loaded found.held c.heal.ensures.ran end second c.in-Ok-heal.ensures.exact (up_to_front (IsBroughtUp t s body) healed end cut) c.in-Err-bring_up.dev found.section fine c.in-Err-bring_up.ensures.fails

pub returns-clause-kept : goal.returns-clause-kept
returns-clause-kept g c =
    let t = c.args.tables.now in
    let r = c.args.roll.now in
    let synced = c.in_default-sync_both.ensures.synced in
    let found = c.in_ok-section.ensures in
    let section = c.in_ok-section.section in
    let body = found_body c.in_ok-section.found in
    let s = c.load-loaded.new.self in
    let body_is : body_of c.in-Ok-heal.level ≡ body = c.in-Ok-heal.ensures.body in
    let places : length c.in-Ok.room.state.came ≡ length r.titles = ready_places t c.len.result c.in-Ok.room.state c.in-Ok.ensures ∙ c.len.ensures.count in
    let read : IsEncoding t (length r.titles) s body =
    subst (λ (b : List ℕ). IsEncoding t (length r.titles) s b) (c.body.ensures ∙ body_is) (subst (λ (n : ℕ). IsEncoding t n s c.body.result.now) places (c.load-loaded.ensures.loaded c.if-prove.false)) in
    let known = found_known t r section found.tables found.roll found.section s body read in
    let a = g.M.Machine.told c.args.m.now in
    let b = g.M.Machine.told c.sync_both.new.m in
    let mid = g.M.Machine.told c.find.new.m in
    let healed = g.M.Machine.told c.heal.new.m in
    let end = g.M.Machine.told c.bring_up.new.m in
    let second = brought_named t r section found.tables found.roll found.section s body read healed end c.bring_up.ensures.ran in
    let devices = subst AreDevices (sym (found.done.sizes ∙ synced.does.sizes)) c.requires.devices in
    let loaded = then_told [] b mid (λ fs. AreLoaded t r section fs.internal.content fs.external.content) found.done found.loaded in
    let brought = c.in-Ok-bring_up.ensures.body in
    let level = c.in-Ok-bring_up.ensures.level in
    let store : StoreData = record { load = load_of t r section; body = body_of c.in-Ok-bring_up.level } in
    let keeps : Keeps t end store s = record {
      state = (found_encoding t r section found.tables found.roll found.section s body read).state;
      body = brought;
      rest = rests_brought t r section found.tables found.roll found.section s body read mid healed end devices (g.met.M.Machine.sized c.find.new.m) (g.met.M.Machine.sized c.heal.new.m) (g.met.M.Machine.sized c.bring_up.new.m) loaded c.heal.ensures.ran second (λ fs told. subst (λ (l : List ℕ). IsLevel body_size l fs) brought (level.flashes fs told));
    } in
    subst (λ (load : Load). let there : StoreData = record { load = load; body = body_of c.in-Ok-bring_up.level } in Keeps t end there s) (sym c.of-load.ensures) keeps

pub returns-clause-ran : goal.returns-clause-ran
returns-clause-ran g c =
    let t = c.args.tables.now in
    let r = c.args.roll.now in
    let synced = c.in_default-sync_both.ensures.synced in
    let found = c.in_ok-section.ensures in
    let section = c.in_ok-section.section in
    let body = found_body c.in_ok-section.found in
    let s = c.load-loaded.new.self in
    let body_is : body_of c.in-Ok-heal.level ≡ body = c.in-Ok-heal.ensures.body in
    let places : length c.in-Ok.room.state.came ≡ length r.titles = ready_places t c.len.result c.in-Ok.room.state c.in-Ok.ensures ∙ c.len.ensures.count in
    let read : IsEncoding t (length r.titles) s body =
    subst (λ (b : List ℕ). IsEncoding t (length r.titles) s b) (c.body.ensures ∙ body_is) (subst (λ (n : ℕ). IsEncoding t n s c.body.result.now) places (c.load-loaded.ensures.loaded c.if-prove.false)) in
    let known = found_known t r section found.tables found.roll found.section s body read in
    let a = g.M.Machine.told c.args.m.now in
    let b = g.M.Machine.told c.sync_both.new.m in
    let mid = g.M.Machine.told c.find.new.m in
    let healed = g.M.Machine.told c.heal.new.m in
    let end = g.M.Machine.told c.bring_up.new.m in
    let second = brought_named t r section found.tables found.roll found.section s body read healed end c.bring_up.ensures.ran in
    let more = subst (λ (l : List ℕ). ForSome healed.flashes (λ start. Runs (IsBroughtUp t s l) healed end)) body_is c.in-Ok-bring_up.ensures.order in
    let ran = recovered t r section found.tables found.roll.count.1 s body known a b mid healed synced.does found.done found.loaded found.held c.heal.ensures.ran end second c.in-Ok-heal.ensures.exact (up_to_whole (IsBroughtUp t s body) healed end more) in
    subst (λ (u : Section). Runs (λ ops. (rest : List Op) × (ops ≡ both_synced ++ rest) × Recovers t r u s a rest) a end) (sym (ap (λ (l : Load). l.section) c.of-load.ensures)) ran

pub returns-clause-exact : goal.returns-clause-exact
returns-clause-exact g c =
    let t = c.args.tables.now in
    let r = c.args.roll.now in
    let synced = c.in_default-sync_both.ensures.synced in
    let found = c.in_ok-section.ensures in
    let section = c.in_ok-section.section in
    let body = found_body c.in_ok-section.found in
    let s = c.load-loaded.new.self in
    let body_is : body_of c.in-Ok-heal.level ≡ body = c.in-Ok-heal.ensures.body in
    let places : length c.in-Ok.room.state.came ≡ length r.titles = ready_places t c.len.result c.in-Ok.room.state c.in-Ok.ensures ∙ c.len.ensures.count in
    let read : IsEncoding t (length r.titles) s body =
    subst (λ (b : List ℕ). IsEncoding t (length r.titles) s b) (c.body.ensures ∙ body_is) (subst (λ (n : ℕ). IsEncoding t n s c.body.result.now) places (c.load-loaded.ensures.loaded c.if-prove.false)) in
    let known = found_known t r section found.tables found.roll found.section s body read in
    let a = g.M.Machine.told c.args.m.now in
    let b = g.M.Machine.told c.sync_both.new.m in
    let mid = g.M.Machine.told c.find.new.m in
    let healed = g.M.Machine.told c.heal.new.m in
    let end = g.M.Machine.told c.bring_up.new.m in
    let more = subst (λ (l : List ℕ). ForSome healed.flashes (λ start. Runs (IsBroughtUp t s l) healed end)) body_is c.in-Ok-bring_up.ensures.order in
    recovered_exactly t r section found.tables found.roll.count.1 s body known a b mid healed synced.does found.done found.held end c.in-Ok-heal.ensures.exact more

pub prove-unreachable-requires : goal.prove-unreachable-requires
prove-unreachable-requires g c =
    let t = c.args.tables.now in
    let r = c.args.roll.now in
    let found = c.in_ok-section.ensures in
    let body = found_body c.in_ok-section.found in
    let body_is : c.body.result.now ≡ body = c.body.ensures ∙ c.in-Ok-heal.ensures.body in
    let places : length c.in-Ok.room.state.came ≡ length r.titles = ready_places t c.len.result c.in-Ok.room.state c.in-Ok.ensures ∙ c.len.ensures.count in
    let s = ranked_state rank_of (decoded t (length r.titles)) body found.ranked in
    let is = decoded_takes t (length r.titles) body s.0 found.tables found.roll.count.1 s.1 in
    c.load-loaded.ensures.none c.if-prove.true s.0 (subst (λ (n : ℕ). IsEncoding t n s.0 c.body.result.now) (sym places) (subst (IsEncoding t (length r.titles) s.0) (sym body_is) is))

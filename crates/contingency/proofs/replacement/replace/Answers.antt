use Rattle.std.proofs.Common.{◌≡◌, ℕ, Some, List, [], length, sym, subst, ◌∙◌, rules}
use Rattle.urna_outside.specs.Flash.{flash_of}
use Rattle.urna_outside.proofs.Doing.{then_told}
use Rattle.urna_outside.proofs.Faults.{faultless_trans}
use Rattle.gate_slot.specs.Device.{OnFlash}
use Rattle.image_codec.specs.Decoded.{rank_in, decoded}
use Rattle.image_codec.specs.Encoding.{IsEncoding, IsStateOf}
use Rattle.image_codec.specs.Layout.{body_size}
use Rattle.image_codec.proofs.Decoding.{decoded_takes}
use Rattle.twin_image.specs.Found.{found_body}
use Rattle.twin_image.specs.Held.{held_alone}
use Rattle.twin_image.specs.Slots.{AreClean, beside}
use Rattle.state_store.proofs.Ready.{ready_places}
use Rattle.flash_store.proofs.Holding.{ranked_state}
use Rattle.flash_store.proofs.Syncing.{clean_after}
use Rattle.contingency.proofs.Finding.{fails_testing}
use Rattle.contingency.proofs.Replacing.{fails_restoring, has_replaced, is_found}
use Rattle.image_codec.specs.State.{rank_of}
use Rattle.contingency.proofs.replacement.replace.Goals as goal

pub returns-in_err-section-clause-fails : goal.returns-in_err-section-clause-fails
returns-in_err-section-clause-fails g c =
    let fails = fails_testing c.args.tables.now c.args.roll.now c.args.replaced (g.M.Machine.told c.args.m.now) (g.M.Machine.told c.sync_both.new.m) (g.M.Machine.told c.find.new.m) c.in_err-section.field-0.0
    c.in_default-sync_both.ensures.synced c.find.ensures.done c.in_err-section.ensures.fails in
    search rules

pub prove-unreachable-requires : goal.prove-unreachable-requires
prove-unreachable-requires g c =
    let t = c.args.tables.now in
    let voters = length c.args.roll.now.titles in
    let found = c.in_ok-section.ensures in
    let body = found_body c.in_ok-section.found in
    let places : length c.in-Ok.room.state.came ≡ voters = ready_places t c.len.result c.in-Ok.room.state c.in-Ok.ensures ∙ c.len.ensures.count in
    let s = ranked_state rank_of (decoded t voters) body found.ranked in
    let is = decoded_takes t voters body s.0 found.tables found.roll.count.1 s.1 in
    c.load-loaded.ensures.none c.if-prove.true s.0 (subst (λ (n : ℕ). IsEncoding t n s.0 c.body.result.now) (sym places) (subst (IsEncoding t voters s.0) (sym c.body.ensures) is))

pub restore-requires-clause-clean : goal.restore-requires-clause-clean
restore-requires-clause-clean g c =
    let b = g.M.Machine.told c.sync_both.new.m in
    then_told [] b (g.M.Machine.told c.find.new.m) AreClean c.find.ensures.done (clean_after (g.M.Machine.told c.args.m.now) b c.in_default-sync_both.ensures.synced.does)

pub restore-requires-clause-held : goal.restore-requires-clause-held
restore-requires-clause-held g c =
    let t = c.args.tables.now in
    let r = c.args.roll.now in
    let replaced = c.args.replaced in
    let b = g.M.Machine.told c.sync_both.new.m in
    let mid = g.M.Machine.told c.find.new.m in
    let found = c.in_ok-section.ensures in
    let body = found_body c.in_ok-section.found in
    let s = c.load-loaded.new.self in
    let places = ready_places t c.len.result c.in-Ok.room.state c.in-Ok.ensures ∙ c.len.ensures.count in
    let is = is_found t r c.in_ok-section.section s body _ _ replaced b c.body.ensures places (c.load-loaded.ensures.loaded c.if-prove.false) found.tables found.roll found.section found.frame found.held found.unused in
    let holds = then_told [] b mid (λ fs. held_alone (rank_in t (length r.titles)) body_size (flash_of (beside replaced) fs).content ≡ Some body) found.done found.held in
    let named = subst (λ (n : ℕ). OnFlash (beside replaced) (λ f. held_alone (rank_in t n) body_size f.content ≡ Some body) mid) (sym is.encoding.state.roll) holds in
    subst (λ (l : List ℕ). OnFlash (beside replaced) (λ f. held_alone (rank_in t (length s.came)) body_size f.content ≡ Some l) mid) (sym c.body-2.ensures) named

pub returns-in-Ok-restore : goal.returns-in-Ok-restore
returns-in-Ok-restore g c =
    let t = c.args.tables.now in
    let r = c.args.roll.now in
    let synced = c.in_default-sync_both.ensures.synced in
    let found = c.in_ok-section.ensures in
    let section = c.in_ok-section.section in
    let body = found_body c.in_ok-section.found in
    let s = c.load-loaded.new.self in
    let places = ready_places t c.len.result c.in-Ok.room.state c.in-Ok.ensures ∙ c.len.ensures.count in
    let is = is_found t r section s body _ _ c.args.replaced _ c.body.ensures places (c.load-loaded.ensures.loaded c.if-prove.false) found.tables found.roll found.section found.frame found.held found.unused in
    let has = has_replaced t r section s body c.args.replaced (g.M.Machine.told c.args.m.now) (g.M.Machine.told c.sync_both.new.m) (g.M.Machine.told c.find.new.m) c.requires.devices (g.met.M.Machine.sized c.find.new.m) synced found.done is
    (g.M.Machine.told c.restore.new.m) c.header-header.result c.body-2.result.now c.header-header.ensures c.body-2.ensures c.restore.ensures.ran c.in-Ok-restore.ensures.exact (g.met.M.Machine.sized c.restore.new.m) c.in-Ok-restore.ensures.level c.in-Ok-restore.ensures.frame in
    record {
      section = found.section;
      state = subst (λ (n : ℕ). IsStateOf t n s) (sym found.section.voters) is.encoding.state;
      rest = has.rest;
      ran = has.ran;
      exact = has.exact;
      fine = faultless_trans _ _ _ (faultless_trans _ _ _ synced.fine found.fine) c.in-Ok-restore.ensures.fails;
      fails = tt;
    }

pub returns-in-Err-restore-clause-fails : goal.returns-in-Err-restore-clause-fails
returns-in-Err-restore-clause-fails g c =
    let t = c.args.tables.now in
    let r = c.args.roll.now in
    let synced = c.in_default-sync_both.ensures.synced in
    let found = c.in_ok-section.ensures in
    let body = found_body c.in_ok-section.found in
    let places = ready_places t c.len.result c.in-Ok.room.state c.in-Ok.ensures ∙ c.len.ensures.count in
    let is = is_found t r c.in_ok-section.section c.load-loaded.new.self body _ _ c.args.replaced _ c.body.ensures places (c.load-loaded.ensures.loaded c.if-prove.false) found.tables found.roll found.section found.frame found.held found.unused in
    fails_restoring t r c.in_ok-section.section c.load-loaded.new.self body c.args.replaced (g.M.Machine.told c.args.m.now) (g.M.Machine.told c.sync_both.new.m) (g.M.Machine.told c.find.new.m) c.requires.devices (g.met.M.Machine.sized c.find.new.m) synced found.done is
    (g.M.Machine.told c.restore.new.m) c.header-header.result c.body-2.result.now c.header-header.ensures c.body-2.ensures c.restore.ensures.ran c.in-Err-restore.ensures.cut c.in-Err-restore.dev found.fine c.in-Err-restore.ensures.fails

use Rattle.std.proofs.Common.{◌≡◌, ℕ, List, [], length, sym, ap, subst, ◌∙◌, arith, rules}
use Rattle.urna_outside.proofs.Doing.{then_told}
use Rattle.urna_outside.proofs.Faults.{faultless_trans}
use Rattle.twin_image.specs.Found.{found_body}
use Rattle.twin_image.specs.Level.{IsLevel}
use Rattle.twin_image.specs.Slots.{AreClean}
use Rattle.flash_store.proofs.Holding.{ranked_state}
use Rattle.flash_store.proofs.Resting.{roomy}
use Rattle.flash_store.proofs.Syncing.{clean_after}
use Rattle.intake_ledger.specs.Body.{decoded}
use Rattle.intake_ledger.specs.Calls.{Keeps}
use Rattle.intake_ledger.specs.Kept.{AreDevices}
use Rattle.intake_ledger.specs.Layout.{body_size}
use Rattle.intake_ledger.specs.Ledger.{accepted_in}
use Rattle.intake_ledger.specs.Totals.{TotalsData}
use Rattle.intake_ledger.proofs.Opening.{fails_finding, fails_healing, opened, opened_exactly, opened_rests}
use Rattle.intake_ledger.proofs.Ranking.{stands_decoded}
use Rattle.intake_ledger.proofs.ledger.Ledger.open.Goals as goal

pub returns-in_err-found-clause-fails : goal.returns-in_err-found-clause-fails
returns-in_err-found-clause-fails g c =
    let fails = fails_finding c.args.tables.now (g.M.Machine.told c.args.m.now) (g.M.Machine.told c.sync_both.new.m) (g.M.Machine.told c.find.new.m) c.in_err-found.field-0.0 c.in_default-sync_both.ensures.synced c.find.ensures.done c.in_err-found.ensures.fails in
    search rules

pub heal-requires : goal.heal-requires
heal-requires g c =
    let b = g.M.Machine.told c.sync_both.new.m in
    let mid = g.M.Machine.told c.find.new.m in
    let synced = c.in_default-sync_both.ensures.synced in
    let done = c.find.ensures.done in
    let devices = subst AreDevices (sym (done.sizes ∙ synced.does.sizes)) c.requires.devices in
    (omega arith, (omega arith, (roomy body_size mid.sizes devices, then_told [] b mid AreClean done (clean_after (g.M.Machine.told c.args.m.now) b synced.does))))

pub set_body-requires : goal.set_body-requires
set_body-requires g c = ap (λ (l : List ℕ). length l) c.body.ensures ∙ c.in-Ok-heal.ensures.level.long

pub returns-in-Err-heal-clause-fails : goal.returns-in-Err-heal-clause-fails
returns-in-Err-heal-clause-fails g c =
    let t = c.args.tables.now in
    let synced = c.in_default-sync_both.ensures.synced in
    let found = c.in_ok-found.ensures in
    let body = found_body c.in_ok-found.found in
    let l = ranked_state accepted_in (decoded t) body found.ranked in
    fails_healing t l.0 body (stands_decoded t l.0 body l.1) (g.M.Machine.told c.args.m.now) (g.M.Machine.told c.sync_both.new.m) (g.M.Machine.told c.find.new.m) (g.M.Machine.told c.heal.new.m)
    synced.does found.done found.framed found.held c.heal.ensures.ran c.in-Err-heal.ensures.cut c.in-Err-heal.dev (faultless_trans _ _ _ synced.fine found.fine) c.in-Err-heal.ensures.fails

pub returns-in-Ok-heal-clause-opened : goal.returns-in-Ok-heal-clause-opened
returns-in-Ok-heal-clause-opened g c =
    let t = c.args.tables.now in
    let a = g.M.Machine.told c.args.m.now in
    let b = g.M.Machine.told c.sync_both.new.m in
    let mid = g.M.Machine.told c.find.new.m in
    let healed = g.M.Machine.told c.heal.new.m in
    let synced = c.in_default-sync_both.ensures.synced in
    let found = c.in_ok-found.ensures in
    let body = found_body c.in_ok-found.found in
    let l = ranked_state accepted_in (decoded t) body found.ranked in
    let stands = stands_decoded t l.0 body l.1 in
    let exact = c.in-Ok-heal.ensures.exact in
    let devices = subst AreDevices (sym (found.done.sizes ∙ synced.does.sizes)) c.requires.devices in
    let body_is = c.in-Ok-heal.ensures.body in
    let level = c.in-Ok-heal.ensures.level in
    let totals : TotalsData = record { choices = c.in-Ok.room.totals.choices; body = body } in
    let keeps : Keeps t healed totals l.0 = record {
      totals = record { choices = c.in-Ok.ensures.empty.choices; stands = stands };
      rest = opened_rests t l.0 body stands a b mid healed synced.does found.done found.framed found.held c.heal.ensures.ran devices (g.met.M.Machine.sized c.find.new.m) (g.met.M.Machine.sized c.heal.new.m)
          (λ fs told. subst (λ (bytes : List ℕ). IsLevel body_size bytes fs) body_is (level.flashes fs told));
    } in
    let same : c.set_body.new.self ≡ totals =
    c.set_body.ensures ∙ ap (λ (bytes : List ℕ). let d : TotalsData = record { choices = c.in-Ok.room.totals.choices; body = bytes } in d) (c.body.ensures ∙ body_is) in (
      l.0,
      subst (λ (d : TotalsData). Keeps t healed d l.0) (sym same) keeps,
      opened t l.0 body stands a b mid healed synced.does found.done found.framed found.held c.heal.ensures.ran exact,
      opened_exactly t l.0 body stands a b mid healed synced.does found.done found.framed found.held exact,
    )

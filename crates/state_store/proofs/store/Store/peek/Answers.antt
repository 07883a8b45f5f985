use Rattle.std.proofs.Common.{◌≡◌, ℕ, List, length, sym, subst, ◌∙◌, rules}
use Rattle.image_codec.specs.Encoding.{IsEncoding}
use Rattle.image_codec.proofs.Decoding.{decoded_takes}
use Rattle.twin_image.specs.Found.{found_body}
use Rattle.state_store.proofs.Ready.{ready_places}
use Rattle.state_store.proofs.Recovering.{fails_peeking, found_before, found_known}
use Rattle.flash_store.proofs.Holding.{ranked_state}
use Rattle.image_codec.specs.Decoded.{decoded}
use Rattle.image_codec.specs.State.{rank_of}
use Rattle.state_store.proofs.store.Store.peek.Goals as goal

pub returns-in_err-section-clause-fails : goal.returns-in_err-section-clause-fails
returns-in_err-section-clause-fails g c =
    let fails = fails_peeking c.args.tables.now c.args.roll.now (g.M.Machine.told c.args.m.now) (g.M.Machine.told c.sync_both.new.m) (g.M.Machine.told c.find.new.m) c.in_err-section.field-0.0 c.in_default-sync_both.ensures.synced c.find.ensures.done c.in_err-section.ensures.fails in
    search rules

pub prove-unreachable-requires : goal.prove-unreachable-requires
prove-unreachable-requires g c =
    let t = c.args.tables.now in
    let r = c.args.roll.now in
    let found = c.in_ok-section.ensures in
    let body = found_body c.in_ok-section.found in
    let places : length c.in-Ok.room.state.came ≡ length r.titles = ready_places t c.len.result c.in-Ok.room.state c.in-Ok.ensures ∙ c.len.ensures.count in
    let s = ranked_state rank_of (decoded t (length r.titles)) body found.ranked in
    let is = decoded_takes t (length r.titles) body s.0 found.tables found.roll.count.1 s.1 in
    c.load-loaded.ensures.none c.if-prove.true s.0 (subst (λ (n : ℕ). IsEncoding t n s.0 c.body.result.now) (sym places) (subst (IsEncoding t (length r.titles) s.0) (sym c.body.ensures) is))

pub returns-clause-found : goal.returns-clause-found
returns-clause-found g c =
    let t = c.args.tables.now in
    let r = c.args.roll.now in
    let found = c.in_ok-section.ensures in
    let section = c.in_ok-section.section in
    let body = found_body c.in_ok-section.found in
    let s = c.load-loaded.new.self in
    let places : length c.in-Ok.room.state.came ≡ length r.titles = ready_places t c.len.result c.in-Ok.room.state c.in-Ok.ensures ∙ c.len.ensures.count in
    let read : IsEncoding t (length r.titles) s body =
    subst (λ (b : List ℕ). IsEncoding t (length r.titles) s b) c.body.ensures (subst (λ (n : ℕ). IsEncoding t n s c.body.result.now) places (c.load-loaded.ensures.loaded c.if-prove.false)) in
    let known = found_known t r section found.tables found.roll found.section s body read in
    found_before t r section found.tables found.roll.count.1 s body known (g.M.Machine.told c.args.m.now) (g.M.Machine.told c.sync_both.new.m)
    c.in_default-sync_both.ensures.synced.does found.loaded found.held

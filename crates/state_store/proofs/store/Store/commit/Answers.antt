use Rattle.std.proofs.Common.{◌≡◌, ℕ, ◌+◌, ◌*◌, IsErr, Result, Ok, Err, List, length, drop, refl, sym, ap, subst, ◌∙◌, arith, rules}
use Rattle.std.specs.Option.{ForSome}
use Rattle.urna_outside.specs.Flash.{Op}
use Rattle.urna_outside.specs.Told.{Told, Runs}
use Rattle.gate_slot.specs.Front.{IsFrontOfSome, RunsUpTo}
use Rattle.twin_image.specs.Order.{AreRenewals}
use Rattle.image_codec.specs.Encoding.{encode}
use Rattle.twin_image.specs.Level.{IsLevel, body_of}
use Rattle.twin_image.proofs.Looking.{refilled}
use Rattle.image_codec.specs.Layout.{body_size}
use Rattle.state_store.specs.Store.{Keeps, StoreData}
use Rattle.state_store.specs.declared.load.Load.{Load}
use Rattle.twin_image.specs.Rewrite.{PutsAtMost, rewrite_bytes}
use Rattle.state_store.proofs.Changing.{followed_as, followed_by, followed_commits, followed_fills, followed_outranks, followed_rests, followed_stands}
use Rattle.state_store.proofs.store.Store.commit.Goals as goal

pub commit-requires : goal.commit-requires
commit-requires g c =
    let t = c.args.tables.now in
    let tables = c.of-ranks.result.tables.now in
    let count = c.of-ranks.result.voters in
    let voters = c.args.self.load.section.voters in
    let s = c.requires.below.state in
    let u = c.args.state.now in
    let kept = c.requires.below.kept in
    let old = body_of c.self.inside.level in
    let new = c.deref.result.now in
    let into = c.encode_into.new.into in
    let long : c.self.inside.next.len ≡ length into = search rules in
    let written : new ≡ encode t u = c.deref.ensures.value ∙ refilled c.self.inside.next.len into (drop (length into) c.self.inside.next.items) long ∙ c.encode_into.ensures in
    let is = followed_by t tables _ c.args.self count s u old new c.of-ranks.ensures.whole c.of-ranks.result.few c.of-ranks.ensures.tables (c.of-ranks.ensures.voters ∙ c.voters.ensures.count ∙ ap length c.turnout.ensures) c.requires.state written kept (ap (λ (d : StoreData). d.body) c.self.view_is) in (
      omega arith,
      (
        followed_stands t tables voters count s u old new is c.self.inside.level _ c.args.self.load c.self.invariant.1 c.requires.devices (g.met.M.Machine.sized c.args.m.now) refl kept.rest,
        (followed_fills t tables voters count s u old new is, followed_outranks t tables voters count s u old new is (omega (arith, c.requires.below.below))),
      ),
    )

pub returns-in_err-level-clause-ran : goal.returns-in_err-level-clause-ran
returns-in_err-level-clause-ran g c s kept =
    let t = c.args.tables.now in
    let tables = c.of-ranks.result.tables.now in
    let count = c.of-ranks.result.voters in
    let u = c.args.state.now in
    let old = body_of c.self.inside.level in
    let new = c.deref.result.now in
    let into = c.encode_into.new.into in
    let long : c.self.inside.next.len ≡ length into = search rules in
    let written : new ≡ encode t u = c.deref.ensures.value ∙ refilled c.self.inside.next.len into (drop (length into) c.self.inside.next.items) long ∙ c.encode_into.ensures in
    let is = followed_by t tables _ c.args.self count s u old new c.of-ranks.ensures.whole c.of-ranks.result.few c.of-ranks.ensures.tables (c.of-ranks.ensures.voters ∙ c.voters.ensures.count ∙ ap length c.turnout.ensures) c.requires.state written kept (ap (λ (d : StoreData). d.body) c.self.view_is) in
    followed_commits t tables c.args.self.load.section.voters count s u old new is _ _ c.commit.ensures.ran

pub returns-clause-kept : goal.returns-clause-kept
returns-clause-kept g c =
    let t = c.args.tables.now in
    let tables = c.of-ranks.result.tables.now in
    let count = c.of-ranks.result.voters in
    let voters = c.args.self.load.section.voters in
    let s = c.requires.below.state in
    let u = c.args.state.now in
    let kept = c.requires.below.kept in
    let old = body_of c.self.inside.level in
    let new = c.deref.result.now in
    let into = c.encode_into.new.into in
    let long : c.self.inside.next.len ≡ length into = search rules in
    let written : new ≡ encode t u = c.deref.ensures.value ∙ refilled c.self.inside.next.len into (drop (length into) c.self.inside.next.items) long ∙ c.encode_into.ensures in
    let is = followed_by t tables _ c.args.self count s u old new c.of-ranks.ensures.whole c.of-ranks.result.few c.of-ranks.ensures.tables (c.of-ranks.ensures.voters ∙ c.voters.ensures.count ∙ ap length c.turnout.ensures) c.requires.state written kept (ap (λ (d : StoreData). d.body) c.self.view_is) in
    let moved = c.in_ok-level.ensures.body in
    let level = c.in_ok-level.ensures.level in
    let store : StoreData = record { load = c.args.self.load; body = body_of c.in_ok-level.level } in
    let keeps : Keeps t (g.M.Machine.told c.commit.new.m) store u = record {
      state = c.requires.state;
      body = moved ∙ written;
      rest = followed_rests t tables voters count s u old new is _ _ c.commit.ensures.ran c.args.self.load c.requires.devices (g.met.M.Machine.sized c.args.m.now) (g.met.M.Machine.sized c.commit.new.m) kept.rest (λ fs told. subst (λ (body : List ℕ). IsLevel body_size body fs) moved (level.flashes fs told));
    } in
    subst (λ (load : Load). let there : StoreData = record { load = load; body = body_of c.in_ok-level.level } in Keeps t (g.M.Machine.told c.commit.new.m) there u) (sym (ap (λ (d : StoreData). d.load) c.self.view_is)) keeps

pub returns-clause-ran : goal.returns-clause-ran
returns-clause-ran g c s kept =
    let t = c.args.tables.now in
    let tables = c.of-ranks.result.tables.now in
    let count = c.of-ranks.result.voters in
    let u = c.args.state.now in
    let old = body_of c.self.inside.level in
    let new = c.deref.result.now in
    let into = c.encode_into.new.into in
    let long : c.self.inside.next.len ≡ length into = search rules in
    let written : new ≡ encode t u = c.deref.ensures.value ∙ refilled c.self.inside.next.len into (drop (length into) c.self.inside.next.items) long ∙ c.encode_into.ensures in
    let is = followed_by t tables _ c.args.self count s u old new c.of-ranks.ensures.whole c.of-ranks.result.few c.of-ranks.ensures.tables (c.of-ranks.ensures.voters ∙ c.voters.ensures.count ∙ ap length c.turnout.ensures) c.requires.state written kept (ap (λ (d : StoreData). d.body) c.self.view_is) in
    followed_commits t tables c.args.self.load.section.voters count s u old new is _ _ c.commit.ensures.ran

-- a front of some operations was done where a result is an error
up_to_err : {T E : Type 0} (r : Result T E) (P : List Op → Type 0) (a b : Told) → IsErr r → Runs (IsFrontOfSome P) a b → RunsUpTo r P a b
up_to_err (Ok x) P a b err run = absurd (cc)
up_to_err (Err e) P a b err run = run

pub returns-in_err-level-clause-order : goal.returns-in_err-level-clause-order
returns-in_err-level-clause-order g c s kept =
    let t = c.args.tables.now in
    let tables = c.of-ranks.result.tables.now in
    let count = c.of-ranks.result.voters in
    let u = c.args.state.now in
    let old = body_of c.self.inside.level in
    let new = c.deref.result.now in
    let into = c.encode_into.new.into in
    let long : c.self.inside.next.len ≡ length into = search rules in
    let written : new ≡ encode t u = c.deref.ensures.value ∙ refilled c.self.inside.next.len into (drop (length into) c.self.inside.next.items) long ∙ c.encode_into.ensures in
    let is = followed_by t tables _ c.args.self count s u old new c.of-ranks.ensures.whole c.of-ranks.result.few c.of-ranks.ensures.tables (c.of-ranks.ensures.voters ∙ c.voters.ensures.count ∙ ap length c.turnout.ensures) c.requires.state written kept (ap (λ (d : StoreData). d.body) c.self.view_is) in
    let a = g.M.Machine.told c.args.m.now in
    let b = g.M.Machine.told c.commit.new.m in
    let cut = followed_as t tables c.args.self.load.section.voters count s u old new is (λ old new. ForSome a.flashes (λ start. Runs (IsFrontOfSome (AreRenewals body_size old new)) a b)) c.in_err-level.ensures.order in
    λ start told. up_to_err c.from_residual.result (AreRenewals body_size (encode t s) (encode t u)) a b c.from_residual.ensures.0 (cut start told)

pub returns-clause-order : goal.returns-clause-order
returns-clause-order g c s kept =
    let t = c.args.tables.now in
    let tables = c.of-ranks.result.tables.now in
    let count = c.of-ranks.result.voters in
    let u = c.args.state.now in
    let old = body_of c.self.inside.level in
    let new = c.deref.result.now in
    let into = c.encode_into.new.into in
    let long : c.self.inside.next.len ≡ length into = search rules in
    let written : new ≡ encode t u = c.deref.ensures.value ∙ refilled c.self.inside.next.len into (drop (length into) c.self.inside.next.items) long ∙ c.encode_into.ensures in
    let is = followed_by t tables _ c.args.self count s u old new c.of-ranks.ensures.whole c.of-ranks.result.few c.of-ranks.ensures.tables (c.of-ranks.ensures.voters ∙ c.voters.ensures.count ∙ ap length c.turnout.ensures) c.requires.state written kept (ap (λ (d : StoreData). d.body) c.self.view_is) in
    let a = g.M.Machine.told c.args.m.now in
    let b = g.M.Machine.told c.commit.new.m in
    followed_as t tables c.args.self.load.section.voters count s u old new is (λ old new. ForSome a.flashes (λ start. Runs (AreRenewals body_size old new) a b)) c.in_ok-level.ensures.order

pub returns-in_err-level-clause-bytes : goal.returns-in_err-level-clause-bytes
returns-in_err-level-clause-bytes g c s kept =
    let t = c.args.tables.now in
    let tables = c.of-ranks.result.tables.now in
    let count = c.of-ranks.result.voters in
    let u = c.args.state.now in
    let old = body_of c.self.inside.level in
    let new = c.deref.result.now in
    let into = c.encode_into.new.into in
    let long : c.self.inside.next.len ≡ length into = search rules in
    let written : new ≡ encode t u = c.deref.ensures.value ∙ refilled c.self.inside.next.len into (drop (length into) c.self.inside.next.items) long ∙ c.encode_into.ensures in
    let is = followed_by t tables _ c.args.self count s u old new c.of-ranks.ensures.whole c.of-ranks.result.few c.of-ranks.ensures.tables (c.of-ranks.ensures.voters ∙ c.voters.ensures.count ∙ ap length c.turnout.ensures) c.requires.state written kept (ap (λ (d : StoreData). d.body) c.self.view_is) in
    let a = g.M.Machine.told c.args.m.now in
    let b = g.M.Machine.told c.commit.new.m in
    followed_as t tables c.args.self.load.section.voters count s u old new is (λ old new. Runs (PutsAtMost (4 * (rewrite_bytes body_size old new + 2))) a b) c.commit.ensures.bytes

pub returns-clause-bytes : goal.returns-clause-bytes
returns-clause-bytes g c s kept =
    let t = c.args.tables.now in
    let tables = c.of-ranks.result.tables.now in
    let count = c.of-ranks.result.voters in
    let u = c.args.state.now in
    let old = body_of c.self.inside.level in
    let new = c.deref.result.now in
    let into = c.encode_into.new.into in
    let long : c.self.inside.next.len ≡ length into = search rules in
    let written : new ≡ encode t u = c.deref.ensures.value ∙ refilled c.self.inside.next.len into (drop (length into) c.self.inside.next.items) long ∙ c.encode_into.ensures in
    let is = followed_by t tables _ c.args.self count s u old new c.of-ranks.ensures.whole c.of-ranks.result.few c.of-ranks.ensures.tables (c.of-ranks.ensures.voters ∙ c.voters.ensures.count ∙ ap length c.turnout.ensures) c.requires.state written kept (ap (λ (d : StoreData). d.body) c.self.view_is) in
    let a = g.M.Machine.told c.args.m.now in
    let b = g.M.Machine.told c.commit.new.m in
    followed_as t tables c.args.self.load.section.voters count s u old new is (λ old new. Runs (PutsAtMost (4 * (rewrite_bytes body_size old new + 2))) a b) c.commit.ensures.bytes

pub returns-clause-load : goal.returns-clause-load
returns-clause-load g c = ap (λ (d : StoreData). d.load) c.self.view_is

pub invariant_of-result : goal.invariant_of-result
invariant_of-result g c =
    let into = c.encode_into.new.into in
    let long : c.self.inside.next.len ≡ length into = search rules in
    let same = ap length (refilled c.self.inside.next.len into (drop (length into) c.self.inside.next.items) long) in
    let filled : length into ≡ body_size = search rules in
    let level = c.in_ok-level.ensures.level in
    ((record { whole = same ∙ filled; reserved = search rules }), record { internal = level.internal; external = level.external })

use Rattle.std.proofs.Common.{◌≡◌, ◌≢◌, ℕ, Bool, true, false, List, sym, subst, ◌∙◌, rules}
use Rattle.std.proofs.lemmas.Slice.Eq.{bytes_eq-Decides}
use Rattle.std.specs.Str.{bytes_eq}
use Rattle.urna_outside.proofs.Faults.{ends_later}
use Rattle.gate_slot.specs.Device.{OnFlash}
use Rattle.image_codec.specs.Layout.{body_size}
use Rattle.twin_image.specs.Twin.{IsTwin}
use Rattle.contingency.proofs.Bringing.{brought_exactly, brought_same, cut_in_mending, cut_in_renewal, mended, renewed}
use Rattle.contingency.proofs.restore.bring_up.Goals as goal

pub returns-in_err-lives-clause-ran : goal.returns-in_err-lives-clause-ran
returns-in_err-lives-clause-ran g c =
    let r = c.requires in
    mended c.args.tables.now c.args.state.now r.tables r.few c.args.dev c.args.body.now r.encoding _ _ r.held c.mend_twin.ensures.ran

pub returns-in_err-lives-clause-cut : goal.returns-in_err-lives-clause-cut
returns-in_err-lives-clause-cut g c =
    let cut = cut_in_mending c.args.tables.now c.args.state.now c.args.dev c.args.body.now (g.M.Machine.told c.args.m.now) (g.M.Machine.told c.mend_twin.new.m) c.in_err-lives.ensures.cut in search rules

pub returns-then-eq-clause-ran : goal.returns-then-eq-clause-ran
returns-then-eq-clause-ran g c =
    let r = c.requires in
    mended c.args.tables.now c.args.state.now r.tables r.few c.args.dev c.args.body.now r.encoding _ _ r.held c.mend_twin.ensures.ran

pub returns-then-eq-clause-exact : goal.returns-then-eq-clause-exact
returns-then-eq-clause-exact g c =
    let agree = (bytes_eq-Decides c.args.body.now c.encode_into.new.into).0 (sym c.eq.ensures ∙ c.if-eq.true) in
    brought_same c.args.tables.now c.args.state.now c.args.dev c.args.body.now _ _ c.in_ok-lives.ensures.exact c.encode_into.new.into c.encode_into.ensures agree

pub returns-in_err-_renewed-clause-ran : goal.returns-in_err-_renewed-clause-ran
returns-in_err-_renewed-clause-ran g c =
    let r = c.requires in
    renewed c.args.tables.now c.args.state.now r.tables r.few c.args.dev c.args.body.now r.encoding _ (g.M.Machine.told c.mend_twin.new.m) r.held c.mend_twin.ensures.ran c.encode_into.new.into _ c.encode_into.ensures c.renew_on.ensures.ran

-- bytes that were found to differ
differ : (xs ys : List ℕ) (test : Bool) → test ≡ bytes_eq xs ys → test ≡ false → xs ≢ ys
differ xs ys test decides is same = let equal : bytes_eq xs ys ≡ true = (bytes_eq-Decides xs ys).1 same in cc

pub returns-in_err-_renewed-clause-cut : goal.returns-in_err-_renewed-clause-cut
returns-in_err-_renewed-clause-cut g c =
    let other = differ c.args.body.now c.encode_into.new.into c.eq.result c.eq.ensures c.if-eq.false in
    let cut = cut_in_renewal c.args.tables.now c.args.state.now c.args.dev c.args.body.now (g.M.Machine.told c.args.m.now) (g.M.Machine.told c.mend_twin.new.m) c.in_ok-lives.ensures.exact c.encode_into.new.into c.encode_into.ensures other (g.M.Machine.told c.renew_on.new.m) c.in_err-_renewed.ensures.order in search rules

pub returns-in_err-_renewed-clause-fails : goal.returns-in_err-_renewed-clause-fails
returns-in_err-_renewed-clause-fails g c =
    let ends = ends_later _ _ _ _ c.in_ok-lives.ensures.fails c.in_err-_renewed.ensures.fails in search rules

pub returns-clause-twin : goal.returns-clause-twin
returns-clause-twin g c =
    subst (λ (l : List ℕ). OnFlash c.args.dev (IsTwin body_size l) (g.M.Machine.told c.renew_on.new.m)) c.encode_into.ensures c.in_ok-_renewed.ensures.twin

pub returns-clause-ran : goal.returns-clause-ran
returns-clause-ran g c =
    let r = c.requires in
    renewed c.args.tables.now c.args.state.now r.tables r.few c.args.dev c.args.body.now r.encoding _ (g.M.Machine.told c.mend_twin.new.m) r.held c.mend_twin.ensures.ran c.encode_into.new.into _ c.encode_into.ensures c.renew_on.ensures.ran

pub returns-clause-exact : goal.returns-clause-exact
returns-clause-exact g c =
    let other = differ c.args.body.now c.encode_into.new.into c.eq.result c.eq.ensures c.if-eq.false in
    brought_exactly c.args.tables.now c.args.state.now c.args.dev c.args.body.now _ (g.M.Machine.told c.mend_twin.new.m) c.in_ok-lives.ensures.exact c.encode_into.new.into c.encode_into.ensures other _ c.in_ok-_renewed.ensures.order

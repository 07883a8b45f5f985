use Rattle.std.proofs.Common.{◌≡◌, ℕ, ◌+◌, List, length, sym, ap, subst, ◌∙◌, arith}
use Rattle.std.specs.Option.{ForSome}
use Rattle.urna_outside.specs.Told.{Runs}
use Rattle.gate_slot.specs.Front.{IsFrontOfSome}
use Rattle.twin_image.specs.Held.{IsNotOutranked}
use Rattle.twin_image.specs.Level.{CommitsTo, IsLevel, body_of}
use Rattle.twin_image.specs.Order.{AreRenewals}
use Rattle.flash_store.proofs.Resting.{stands_again}
use Rattle.intake_ledger.specs.Body.{number_in, rank_in}
use Rattle.intake_ledger.specs.Header.{header}
use Rattle.intake_ledger.specs.Layout.{body_size}
use Rattle.intake_ledger.specs.Ledger.{with_report}
use Rattle.intake_ledger.specs.Totals.{AreTotals, TotalsData}
use Rattle.intake_ledger.proofs.Committing.{IsNext, body_long, commit_few, next_commits, next_cut, next_long, next_order, next_rank, next_rests}
use Rattle.intake_ledger.proofs.ledger.Ledger.accept.Goals as goal

pub commit-requires : goal.commit-requires
commit-requires g c =
    let t = c.args.tables.now in
    let old : TotalsData = c.args.self in
    let new : TotalsData = c.enter.new.self in
    let l = c.requires.kept.0 in
    let keeps = c.requires.kept.1 in
    let was = c.self.view_is in
    let next : IsNext t l (with_report t c.args.place c.args.hash.now c.args.report.now l) old new = record {
      old_are = keeps.totals;
      new_are = c.enter.ensures.entered l (subst (AreTotals t l) (sym was) keeps.totals);
      number = c.enter.ensures.number ∙ ap (λ (d : TotalsData). number_in d.body + 1) was;
    } in
    let same : body_of c.self.inside.level ≡ old.body = c.self.invariant.1 ∙ ap (λ (d : TotalsData). d.body) was in
    let next_is : c.body.result.now ≡ new.body = c.body.ensures in (
      omega arith,
      (
        stands_again body_size (header t) old.body (body_long t l old.body keeps.totals.stands) c.self.inside.level (g.M.Machine.told c.args.m.now) c.self.invariant.0 c.requires.devices (g.met.M.Machine.sized c.args.m.now) same keeps.rest,
        (
          ap length next_is ∙ next_long t l _ old new next,
          subst (λ (n : List ℕ). IsNotOutranked (rank_in t) n (body_of c.self.inside.level)) (sym next_is) (subst (λ (o : List ℕ). IsNotOutranked (rank_in t) new.body o) (sym same) (next_rank t l _ old new next)),
        ),
      ),
    )

pub returns-in-Err-clause-ran : goal.returns-in-Err-clause-ran
returns-in-Err-clause-ran g c l keeps =
    let t = c.args.tables.now in
    let old : TotalsData = c.args.self in
    let new : TotalsData = c.enter.new.self in
    let u = with_report t c.args.place c.args.hash.now c.args.report.now l in
    let a = g.M.Machine.told c.args.m.now in
    let b = g.M.Machine.told c.commit.new.m in
    let was = c.self.view_is in
    let next : IsNext t l u old new = record {
      old_are = keeps.totals;
      new_are = c.enter.ensures.entered l (subst (AreTotals t l) (sym was) keeps.totals);
      number = c.enter.ensures.number ∙ ap (λ (d : TotalsData). number_in d.body + 1) was;
    } in
    let same : body_of c.self.inside.level ≡ old.body = c.self.invariant.1 ∙ ap (λ (d : TotalsData). d.body) was in
    let next_is : c.body.result.now ≡ new.body = c.body.ensures in
    let run = subst (λ (n : List ℕ). Runs (CommitsTo a (rank_in t) body_size old.body n) a b) next_is
    (subst (λ (o : List ℕ). Runs (CommitsTo a (rank_in t) body_size o c.body.result.now) a b) same c.commit.ensures.ran) in
    next_commits t l u old new next a b run

pub returns-in-Ok-clause-ran : goal.returns-in-Ok-clause-ran
returns-in-Ok-clause-ran g c l keeps =
    let t = c.args.tables.now in
    let old : TotalsData = c.args.self in
    let new : TotalsData = c.enter.new.self in
    let u = with_report t c.args.place c.args.hash.now c.args.report.now l in
    let a = g.M.Machine.told c.args.m.now in
    let b = g.M.Machine.told c.commit.new.m in
    let was = c.self.view_is in
    let next : IsNext t l u old new = record {
      old_are = keeps.totals;
      new_are = c.enter.ensures.entered l (subst (AreTotals t l) (sym was) keeps.totals);
      number = c.enter.ensures.number ∙ ap (λ (d : TotalsData). number_in d.body + 1) was;
    } in
    let same : body_of c.self.inside.level ≡ old.body = c.self.invariant.1 ∙ ap (λ (d : TotalsData). d.body) was in
    let next_is : c.body.result.now ≡ new.body = c.body.ensures in
    let run = subst (λ (n : List ℕ). Runs (CommitsTo a (rank_in t) body_size old.body n) a b) next_is
    (subst (λ (o : List ℕ). Runs (CommitsTo a (rank_in t) body_size o c.body.result.now) a b) same c.commit.ensures.ran) in
    next_commits t l u old new next a b run

pub returns-in-Err-clause-order : goal.returns-in-Err-clause-order
returns-in-Err-clause-order g c l keeps =
    let t = c.args.tables.now in
    let old : TotalsData = c.args.self in
    let new : TotalsData = c.enter.new.self in
    let u = with_report t c.args.place c.args.hash.now c.args.report.now l in
    let a = g.M.Machine.told c.args.m.now in
    let b = g.M.Machine.told c.commit.new.m in
    let was = c.self.view_is in
    let next : IsNext t l u old new = record {
      old_are = keeps.totals;
      new_are = c.enter.ensures.entered l (subst (AreTotals t l) (sym was) keeps.totals);
      number = c.enter.ensures.number ∙ ap (λ (d : TotalsData). number_in d.body + 1) was;
    } in
    let same : body_of c.self.inside.level ≡ old.body = c.self.invariant.1 ∙ ap (λ (d : TotalsData). d.body) was in
    let next_is : c.body.result.now ≡ new.body = c.body.ensures in
    let cut = subst (λ (n : List ℕ). ForSome a.flashes (λ start. Runs (IsFrontOfSome (AreRenewals body_size old.body n)) a b)) next_is
    (subst (λ (o : List ℕ). ForSome a.flashes (λ start. Runs (IsFrontOfSome (AreRenewals body_size o c.body.result.now)) a b)) same c.in-Err.ensures.order) in
    next_cut t l u old new next a b cut

pub returns-in-Ok-clause-order : goal.returns-in-Ok-clause-order
returns-in-Ok-clause-order g c l keeps =
    let t = c.args.tables.now in
    let old : TotalsData = c.args.self in
    let new : TotalsData = c.enter.new.self in
    let u = with_report t c.args.place c.args.hash.now c.args.report.now l in
    let a = g.M.Machine.told c.args.m.now in
    let b = g.M.Machine.told c.commit.new.m in
    let was = c.self.view_is in
    let next : IsNext t l u old new = record {
      old_are = keeps.totals;
      new_are = c.enter.ensures.entered l (subst (AreTotals t l) (sym was) keeps.totals);
      number = c.enter.ensures.number ∙ ap (λ (d : TotalsData). number_in d.body + 1) was;
    } in
    let same : body_of c.self.inside.level ≡ old.body = c.self.invariant.1 ∙ ap (λ (d : TotalsData). d.body) was in
    let next_is : c.body.result.now ≡ new.body = c.body.ensures in
    let done = subst (λ (n : List ℕ). ForSome a.flashes (λ start. Runs (AreRenewals body_size old.body n) a b)) next_is
    (subst (λ (o : List ℕ). ForSome a.flashes (λ start. Runs (AreRenewals body_size o c.body.result.now) a b)) same c.in-Ok.ensures.order) in
    next_order t l u old new next a b done

pub returns-in-Ok-clause-kept : goal.returns-in-Ok-clause-kept
returns-in-Ok-clause-kept g c l keeps =
    let t = c.args.tables.now in
    let old : TotalsData = c.args.self in
    let new : TotalsData = c.enter.new.self in
    let u = with_report t c.args.place c.args.hash.now c.args.report.now l in
    let a = g.M.Machine.told c.args.m.now in
    let b = g.M.Machine.told c.commit.new.m in
    let was = c.self.view_is in
    let next : IsNext t l u old new = record {
      old_are = keeps.totals;
      new_are = c.enter.ensures.entered l (subst (AreTotals t l) (sym was) keeps.totals);
      number = c.enter.ensures.number ∙ ap (λ (d : TotalsData). number_in d.body + 1) was;
    } in
    let same : body_of c.self.inside.level ≡ old.body = c.self.invariant.1 ∙ ap (λ (d : TotalsData). d.body) was in
    let next_is : c.body.result.now ≡ new.body = c.body.ensures in
    let run = subst (λ (n : List ℕ). Runs (CommitsTo a (rank_in t) body_size old.body n) a b) next_is
    (subst (λ (o : List ℕ). Runs (CommitsTo a (rank_in t) body_size o c.body.result.now) a b) same c.commit.ensures.ran) in
    next_rests t l u old new next a b c.requires.devices (g.met.M.Machine.sized c.args.m.now) (g.met.M.Machine.sized c.commit.new.m) keeps.rest run
    (λ fs told. subst (λ (bytes : List ℕ). IsLevel body_size bytes fs) (c.in-Ok.ensures.body ∙ next_is) (c.in-Ok.ensures.level.flashes fs told))

pub returns-in-Err-clause-bytes : goal.returns-in-Err-clause-bytes
returns-in-Err-clause-bytes g c =
    let a = g.M.Machine.told c.args.m.now in
    let b = g.M.Machine.told c.commit.new.m in
    let t = c.args.tables.now in
    let l = c.requires.kept.0 in
    let keeps = c.requires.kept.1 in
    let long : length c.body.result.now ≡ body_size =
    ap length c.body.ensures ∙ body_long t _ c.enter.new.self.body (c.enter.ensures.entered l (subst (AreTotals t l) (sym c.self.view_is) keeps.totals)).stands in
    commit_few (body_of c.self.inside.level) c.body.result.now long a b c.commit.ensures.bytes

pub returns-in-Ok-clause-bytes : goal.returns-in-Ok-clause-bytes
returns-in-Ok-clause-bytes g c =
    let a = g.M.Machine.told c.args.m.now in
    let b = g.M.Machine.told c.commit.new.m in
    let t = c.args.tables.now in
    let l = c.requires.kept.0 in
    let keeps = c.requires.kept.1 in
    let long : length c.body.result.now ≡ body_size =
    ap length c.body.ensures ∙ body_long t _ c.enter.new.self.body (c.enter.ensures.entered l (subst (AreTotals t l) (sym c.self.view_is) keeps.totals)).stands in
    commit_few (body_of c.self.inside.level) c.body.result.now long a b c.commit.ensures.bytes

pub invariant_of-result : goal.invariant_of-result
invariant_of-result g c =
    let level = c.in-Ok.ensures.level in
    (record { internal = level.internal; external = level.external }, c.in-Ok.ensures.body ∙ c.body.ensures)

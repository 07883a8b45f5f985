use Rattle.std.proofs.Common.{[], ◌∷◌, rules}
use Rattle.std.proofs.lemmas.Result.{on_ok_weaker}
use Rattle.urna_outside.specs.Flash.{Sync}
use Rattle.urna_outside.proofs.Doing.{does-append}
use Rattle.gate_slot.specs.Page.{put_pages}
use Rattle.gate_slot.proofs.Fronts.{fronts_first, fronts_unsynced}
use Rattle.gate_slot.proofs.Paging.{cut_patch, runs_patch}
use Rattle.gate_slot.proofs.write.patch_through.Goals as goal

pub returns-in_err-write_pages-clause-cut : goal.returns-in_err-write_pages-clause-cut
returns-in_err-write_pages-clause-cut g c =
    let cut = fronts_first _ (Sync c.args.dev ∷ []) _ _ c.in_err-write_pages.ensures.cut in search rules

pub returns-in_err-write_pages-clause-ran : goal.returns-in_err-write_pages-clause-ran
returns-in_err-write_pages-clause-ran g c =
    cut_patch c.args.old.now c.args.new.now c.args.dev c.args.at _ _ c.requires.pages (fronts_first _ (Sync c.args.dev ∷ []) _ _ c.in_err-write_pages.ensures.cut)

pub returns-clause-ok : goal.returns-clause-ok
returns-clause-ok g c =
    on_ok_weaker c.sync.result (does-append (put_pages c.args.dev c.args.at c.args.old.now c.args.new.now) _ _ _ _ c.in_ok-write_pages.ensures.ok) c.sync.ensures.ok

pub returns-clause-cut : goal.returns-clause-cut
returns-clause-cut g c =
    fronts_unsynced c.sync.result c.args.dev (put_pages c.args.dev c.args.at c.args.old.now c.args.new.now) _ _ _ c.in_ok-write_pages.ensures.ok c.sync.ensures.err

pub returns-clause-ran : goal.returns-clause-ran
returns-clause-ran g c =
    runs_patch c.args.old.now c.args.new.now c.args.dev c.args.at c.sync.result _ _ c.requires.pages (returns-clause-ok g c) (returns-clause-cut g c)

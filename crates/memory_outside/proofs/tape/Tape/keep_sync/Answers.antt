use Rattle.std.proofs.Common.{rules}
use Rattle.memory_outside.specs.Tape.{size_on}
use Rattle.memory_outside.proofs.KeptLemmas.{after_sync, fits_after, puts_whole_after, shown_whole_after}
use Rattle.memory_outside.specs.declared.tape.Operation.TheVariants as kept
use Rattle.memory_outside.proofs.tape.Tape.keep_sync.Goals as goal

pub invariant_of-self-clause-puts_whole : goal.invariant_of-self-clause-puts_whole
invariant_of-self-clause-puts_whole c =
    puts_whole_after c.args.self.now.trail.items _ (kept.Sync c.args.dev) c.args.self.now.puts.items _ c.args.self.now.puts_whole (search rules) (search rules)

pub invariant_of-self-clause-shown_whole : goal.invariant_of-self-clause-shown_whole
invariant_of-self-clause-shown_whole c =
    shown_whole_after c.args.self.now.trail.items _ (kept.Sync c.args.dev) c.args.self.now.shown.items _ c.args.self.now.shown_whole (search rules) (search rules)

pub invariant_of-self-clause-fits : goal.invariant_of-self-clause-fits
invariant_of-self-clause-fits c =
    fits_after c.args.self.now.trail.items _ (kept.Sync c.args.dev) (size_on c.args.self.now) c.args.self.now.fits (search rules) (search rules)

pub returns-clause-ops : goal.returns-clause-ops
returns-clause-ops c =
    after_sync c.args.self.now.trail.items _ c.args.self.now.puts.items c.args.self.now.shown.items _ _ c.args.dev c.args.self.now.puts_whole c.args.self.now.shown_whole (search rules) (search rules) (search rules)

use Rattle.twin_image.proofs.Counting.{commit_syncs, commit_puts, commit_whole, commit_bytes}
use Rattle.twin_image.proofs.law.a_commit_puts_the_pages_that_change.Goals as goal

pub returns : goal.returns
returns c =
    record {
      syncs = commit_syncs;
      puts = λ size old new ops are whole. commit_puts size old new ops are whole;
      whole = λ size old new ops are other. commit_whole size old new ops are other;
      bytes = λ size old new ops are long. commit_bytes size old new ops are long;
    }

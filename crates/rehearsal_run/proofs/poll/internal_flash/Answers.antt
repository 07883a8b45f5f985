use Rattle.std.proofs.Common.{◌≡◌, ◌∙◌, ◌+◌, ◌-◌, ℕ, List, ◌++◌, take, drop, length, refl, sym, ap, arith}
use Rattle.std.proofs.lemmas.List.{take_all, take_at}
use Rattle.memory_outside.specs.Chips.{flashes_in}
use Rattle.urna_outside.specs.Flash.{part}
use Rattle.rehearsal_run.proofs.poll.internal_flash.Goals as goal

-- all bytes of a device were read
whole_read : (content into items : List ℕ) (n m : ℕ) → into ≡ part content 0 m → m ≡ n → n ≡ length content → take n (into ++ drop (length into) items) ≡ content
whole_read content into items n m read same size =
    let is : into ≡ content = read ∙ take_all (0 + m - 0) content (omega (arith, same, size)) in
    take_at into (drop (length into) items) n (ap length is ∙ sym size) ∙ is

pub returns : goal.returns
returns c =
    let content = c.args.machine.now.chips.internal.bytes.items in
    let size : c.size-size.result ≡ length content = c.size-size.ensures in
    let long = c.in_ok-bytes.ensures.len in
    let lent = c.as_mut_slice.ensures.len in
    whole_read content c.read.new.into c.in_ok-bytes.bytes.items c.in_ok-bytes.bytes.len (length c.as_mut_slice.result.now)
    (c.in-Ok.ensures.ok (flashes_in c.args.machine.now.chips) refl) (omega (arith, lent)) (omega (arith, long, size))

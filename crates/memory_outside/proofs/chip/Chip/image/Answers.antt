use Rattle.std.proofs.Common.{rules}
use Rattle.memory_outside.specs.Chip.{flash}
use Rattle.memory_outside.specs.Tear.{torn}
use Rattle.memory_outside.specs.declared.tear.Tear.TheVariants.{Byte}
use Rattle.memory_outside.proofs.Tears.{given_is_image, torn_is_image}
use Rattle.memory_outside.proofs.chip.Chip.image.Goals as goal

pub returns-in-Byte-clause-possible : goal.returns-in-Byte-clause-possible
returns-in-Byte-clause-possible c =
    given_is_image (λ v. v.items) c.with_byte.result (flash c.args.self.now) (torn (Byte c.in-Byte.byte) (flash c.args.self.now)) (torn_is_image (Byte c.in-Byte.byte) (flash c.args.self.now) c.args.self.now.same_length) (search rules)

use Rattle.std.proofs.Common.{◌∙◌, ap, length}
use Rattle.urna_base.specs.Lines.{lines_of}
use Rattle.key_script.proofs.StartLaws.{length-starts_of}
use Rattle.key_script.proofs.names.Names.len.Goals as goal

pub returns-clause-count : goal.returns-clause-count
returns-clause-count c =
    c.len.ensures.value ∙ (ap length c.self.invariant.1 ∙ (length-starts_of 0 (lines_of c.self.inside.text.items) ∙ ap length c.self.view_is))

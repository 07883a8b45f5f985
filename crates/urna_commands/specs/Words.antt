-- What a command of the code stands for
use Rattle.std.specs.Prelude.{◌≤◌}
use Rattle.election_tables.specs.Limits.{most_voters}
use Rattle.urna_commands.specs.Command.{Command, ToCertify, ToCheck, ToEmit, ToLoad, ToRecount, ToRehearse, ToReplace, ToTotal, ToVerify, ToVote}
use Rattle.urna_commands.specs.declared.command.Command as declared
use Rattle.urna_commands.specs.declared.command.Command.TheVariants as code

-- the command that is meant, with the names of its files
abbrev pub meant : declared.Command → Command
meant (code.Vota n) = ToVote (record { tables = n.tables.now; roll = n.roll.now; keys = n.keys.now; out = n.out.now })
meant (code.Carga n) = ToLoad (record { tables = n.tables.now; roll = n.roll.now; zone = n.zone; number = n.number })
meant (code.Emite n) = ToEmit (record { tables = n.tables.now; roll = n.roll.now; out = n.out.now })
meant (code.Confere n) = ToCheck (record { tables = n.tables.now; report = n.report.now })
meant (code.Totaliza n) = ToTotal (record { tables = n.tables.now; list = n.list.now })
meant (code.Ensaio voters) = ToRehearse voters
meant (code.Repoe n) = ToReplace (record { tables = n.tables.now; roll = n.roll.now; replaced = n.replaced })
meant (code.Reconta n) = ToRecount (record { report = n.report.now; rdv = n.rdv.now })
meant (code.Certifica n) = ToCertify (record { tables = n.tables.now; list = n.list.now; code = n.code; out = n.out.now })
meant (code.Verifica n) = ToVerify (record { tables = n.tables.now; list = n.list.now; code = n.code; certificate = n.certificate.now })

-- the voters of a rehearsal are as many as a section may have
abbrev pub HasVoters : declared.Command → Type 0
HasVoters (code.Ensaio voters) = (1 ≤ voters) × (voters ≤ most_voters)
HasVoters (code.Vota n) = Unit
HasVoters (code.Carga n) = Unit
HasVoters (code.Emite n) = Unit
HasVoters (code.Confere n) = Unit
HasVoters (code.Totaliza n) = Unit
HasVoters (code.Repoe n) = Unit
HasVoters (code.Reconta n) = Unit
HasVoters (code.Certifica n) = Unit
HasVoters (code.Verifica n) = Unit

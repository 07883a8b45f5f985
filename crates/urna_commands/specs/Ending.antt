-- How a command ends
use Rattle.std.specs.Prelude.{◌≡◌, ℕ, List, Option, Some, None}
use Rattle.urna_outside.specs.Cabinet.{CabinetTold}
use Rattle.urna_outside.specs.Told.{Told}
use Rattle.flash_store.specs.Syncs.{IsUntouched}
use Rattle.urna_commands.specs.Carga.{CargaEnds}
use Rattle.urna_commands.specs.Certifica.{CertificaEnds}
use Rattle.urna_commands.specs.Command.{Command, ToCertify, ToCheck, ToEmit, ToLoad, ToRecount, ToRehearse, ToReplace, ToTotal, ToVerify, ToVote, command_of}
use Rattle.urna_commands.specs.Confere.{ConfereEnds}
use Rattle.urna_commands.specs.Emite.{EmiteEnds}
use Rattle.urna_commands.specs.Ensaio.{EnsaioEnds}
use Rattle.command_parts.specs.FaultLines.{Tells}
use Rattle.urna_commands.specs.FaultLines.{fault_text}
use Rattle.urna_commands.specs.Reconta.{RecontaEnds}
use Rattle.urna_commands.specs.Repoe.{RepoeEnds}
use Rattle.urna_commands.specs.Taking.{HasTaken}
use Rattle.urna_commands.specs.Totaliza.{TotalizaEnds}
use Rattle.urna_commands.specs.Verifica.{VerificaEnds}
use Rattle.urna_commands.specs.Vota.{VotaEnds}
use Rattle.urna_commands.specs.declared.status.Status.{Status}
use Rattle.urna_commands.specs.declared.status.Status.TheVariants as status

-- words that are no command: no call is made
pub record NoCommandEnds (c d : CabinetTold) (m n : Told) (s : Status) : Type 0 where
  pub usage : s ≡ status.Usage
  pub taken : HasTaken 0 s c d
  pub untouched : IsUntouched m n

-- how a command ends, but for the line that tells a fault
abbrev pub CommandEnds : Option Command → CabinetTold → CabinetTold → Told → Told → Status → Type 0
CommandEnds None c d m n s = NoCommandEnds c d m n s
CommandEnds (Some (ToVote names)) c d m n s = VotaEnds names c d m n s
CommandEnds (Some (ToLoad names)) c d m n s = CargaEnds names c d m n s
CommandEnds (Some (ToEmit names)) c d m n s = EmiteEnds names c d m n s
CommandEnds (Some (ToCheck names)) c d m n s = ConfereEnds names c d m n s
CommandEnds (Some (ToTotal names)) c d m n s = TotalizaEnds names c d m n s
CommandEnds (Some (ToRehearse voters)) c d m n s = EnsaioEnds voters c d m n s
CommandEnds (Some (ToReplace names)) c d m n s = RepoeEnds names c d m n s
CommandEnds (Some (ToRecount names)) c d m n s = RecontaEnds names c d m n s
CommandEnds (Some (ToCertify names)) c d m n s = CertificaEnds names c d m n s
CommandEnds (Some (ToVerify names)) c d m n s = VerificaEnds names c d m n s

-- How a call of the program ends, by what the cabinet and the machine told before and after: as its command, and then the line
-- that tells a fault was shown, where the status has one.
pub record Ends (words : List (List ℕ)) (c d : CabinetTold) (m n : Told) (s : Status) : Type 0 where
  pub between : Told
  pub command : CommandEnds (command_of words) c d m between s
  pub told : Tells (fault_text s) between n

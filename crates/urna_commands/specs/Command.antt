-- The words of a command
use Rattle.std.specs.Prelude.{ℕ, List, [], ◌∷◌, Option, Some, None, if◌then◌else◌, codes}
use Rattle.std.specs.Option.{option_map}
use Rattle.std.specs.Str.{bytes_eq}
use Rattle.urna_base.specs.Digits.{decimal_within}
use Rattle.urna_outside.specs.declared.device.Dev.{Dev}
use Rattle.urna_outside.specs.declared.device.Dev.TheVariants.{Internal, External}
use Rattle.election_tables.specs.Limits.{greatest_section, most_voters}

-- vota TABLES ROLL KEYS OUT: the names of the files
pub record Vota : Type 0 where
  pub tables : List ℕ
  pub roll : List ℕ
  pub keys : List ℕ
  pub out : List ℕ

-- carga TABLES ROLL ZONE SECTION: the names of the files, and the section's zone and number
pub record Carga : Type 0 where
  pub tables : List ℕ
  pub roll : List ℕ
  pub zone : ℕ
  pub number : ℕ

-- emite TABLES ROLL OUT: the names of the files
pub record Emite : Type 0 where
  pub tables : List ℕ
  pub roll : List ℕ
  pub out : List ℕ

-- confere TABLES REPORT: the names of the files
pub record Confere : Type 0 where
  pub tables : List ℕ
  pub report : List ℕ

-- totaliza TABLES LIST: the names of the files
pub record Totaliza : Type 0 where
  pub tables : List ℕ
  pub list : List ℕ

-- repoe TABLES ROLL interna, or externa: the names of the files, and the flash that was replaced
pub record Repoe : Type 0 where
  pub tables : List ℕ
  pub roll : List ℕ
  pub replaced : Dev

-- reconta REPORT RECORD: the names of the files of a report and of a digital vote record
pub record Reconta : Type 0 where
  pub report : List ℕ
  pub rdv : List ℕ

-- certifica TABLES LIST CODE OUT: the names of the files, and the code of the office
pub record Certifica : Type 0 where
  pub tables : List ℕ
  pub list : List ℕ
  pub code : ℕ
  pub out : List ℕ

-- verifica TABLES LIST CODE FILE: the names of the files, the last of them that of a certificate, and the code of the office
pub record Verifica : Type 0 where
  pub tables : List ℕ
  pub list : List ℕ
  pub code : ℕ
  pub certificate : List ℕ

-- a command and its names, or its number of voters
pub data Command : Type 0 where
  ToVote : Vota → Command
  ToLoad : Carga → Command
  ToEmit : Emite → Command
  ToCheck : Confere → Command
  ToTotal : Totaliza → Command
  ToRehearse : ℕ → Command
  ToReplace : Repoe → Command
  ToRecount : Reconta → Command
  ToCertify : Certifica → Command
  ToVerify : Verifica → Command

-- the words behind vota: TABLES ROLL KEYS OUT
abbrev pub vota_of : List (List ℕ) → Option Command
vota_of (tables ∷ roll ∷ keys ∷ out ∷ []) = Some (ToVote (record { tables = tables; roll = roll; keys = keys; out = out }))
vota_of [] = None
vota_of (a ∷ []) = None
vota_of (a ∷ b ∷ []) = None
vota_of (a ∷ b ∷ c ∷ []) = None
vota_of (a ∷ b ∷ c ∷ d ∷ e ∷ more) = None

-- the number of a zone, or of a section, that a word names
abbrev pub named_number : List ℕ → Option ℕ
named_number word = decimal_within 1 greatest_section word

-- the load of these documents for a zone and a section, if both are numbers
abbrev pub carga_at : List ℕ → List ℕ → Option ℕ → Option ℕ → Option Command
carga_at tables roll (Some zone) (Some number) = Some (ToLoad (record { tables = tables; roll = roll; zone = zone; number = number }))
carga_at tables roll (Some zone) None = None
carga_at tables roll None number = None

-- the words behind carga: TABLES ROLL ZONE SECTION
abbrev pub carga_of : List (List ℕ) → Option Command
carga_of (tables ∷ roll ∷ zone ∷ number ∷ []) = carga_at tables roll (named_number zone) (named_number number)
carga_of [] = None
carga_of (a ∷ []) = None
carga_of (a ∷ b ∷ []) = None
carga_of (a ∷ b ∷ c ∷ []) = None
carga_of (a ∷ b ∷ c ∷ d ∷ e ∷ more) = None

-- the words behind emite: TABLES ROLL OUT
abbrev pub emite_of : List (List ℕ) → Option Command
emite_of (tables ∷ roll ∷ out ∷ []) = Some (ToEmit (record { tables = tables; roll = roll; out = out }))
emite_of [] = None
emite_of (a ∷ []) = None
emite_of (a ∷ b ∷ []) = None
emite_of (a ∷ b ∷ c ∷ d ∷ more) = None

-- the words behind confere: TABLES REPORT
abbrev pub confere_of : List (List ℕ) → Option Command
confere_of (tables ∷ report ∷ []) = Some (ToCheck (record { tables = tables; report = report }))
confere_of [] = None
confere_of (a ∷ []) = None
confere_of (a ∷ b ∷ c ∷ more) = None

-- the words behind totaliza: TABLES LIST
abbrev pub totaliza_of : List (List ℕ) → Option Command
totaliza_of (tables ∷ list ∷ []) = Some (ToTotal (record { tables = tables; list = list }))
totaliza_of [] = None
totaliza_of (a ∷ []) = None
totaliza_of (a ∷ b ∷ c ∷ more) = None

-- the number of voters that a word names
abbrev pub named_voters : List ℕ → Option ℕ
named_voters word = decimal_within 1 most_voters word

-- the word behind ensaio: N
abbrev pub ensaio_of : List (List ℕ) → Option Command
ensaio_of (voters ∷ []) = option_map ToRehearse (named_voters voters)
ensaio_of [] = None
ensaio_of (a ∷ b ∷ more) = None

-- the flash that a word names
abbrev pub named_device : List ℕ → Option Dev
named_device word = if bytes_eq word (codes "interna") then Some Internal else if bytes_eq word (codes "externa") then Some External else None

-- the words behind repoe: TABLES ROLL and the flash
abbrev pub repoe_of : List (List ℕ) → Option Command
repoe_of (tables ∷ roll ∷ word ∷ []) = option_map (λ d. ToReplace (record { tables = tables; roll = roll; replaced = d })) (named_device word)
repoe_of [] = None
repoe_of (a ∷ []) = None
repoe_of (a ∷ b ∷ []) = None
repoe_of (a ∷ b ∷ c ∷ d ∷ more) = None

-- the words behind reconta: REPORT RECORD
abbrev pub reconta_of : List (List ℕ) → Option Command
reconta_of (report ∷ rdv ∷ []) = Some (ToRecount (record { report = report; rdv = rdv }))
reconta_of [] = None
reconta_of (a ∷ []) = None
reconta_of (a ∷ b ∷ c ∷ more) = None

-- the greatest number that a word may tell as the code of an office
abbrev pub greatest_named_code : ℕ
greatest_named_code = 99

-- the code of an office that a word names
abbrev pub named_code : List ℕ → Option ℕ
named_code word = decimal_within 1 greatest_named_code word

-- the words behind certifica: TABLES LIST CODE OUT
abbrev pub certifica_of : List (List ℕ) → Option Command
certifica_of (tables ∷ list ∷ word ∷ out ∷ []) = option_map (λ c. ToCertify (record { tables = tables; list = list; code = c; out = out })) (named_code word)
certifica_of [] = None
certifica_of (a ∷ []) = None
certifica_of (a ∷ b ∷ []) = None
certifica_of (a ∷ b ∷ c ∷ []) = None
certifica_of (a ∷ b ∷ c ∷ d ∷ e ∷ more) = None

-- the words behind verifica: TABLES LIST CODE FILE
abbrev pub verifica_of : List (List ℕ) → Option Command
verifica_of (tables ∷ list ∷ word ∷ certificate ∷ []) =
    option_map (λ c. ToVerify (record { tables = tables; list = list; code = c; certificate = certificate })) (named_code word)
verifica_of [] = None
verifica_of (a ∷ []) = None
verifica_of (a ∷ b ∷ []) = None
verifica_of (a ∷ b ∷ c ∷ []) = None
verifica_of (a ∷ b ∷ c ∷ d ∷ e ∷ more) = None

-- the command of the words, if they are one: the first one says which
abbrev pub command_of : List (List ℕ) → Option Command
command_of [] = None
command_of (word ∷ names) =
    if bytes_eq word (codes "vota") then vota_of names
    else if bytes_eq word (codes "carga") then carga_of names
    else if bytes_eq word (codes "emite") then emite_of names
    else if bytes_eq word (codes "confere") then confere_of names
    else if bytes_eq word (codes "totaliza") then totaliza_of names
    else if bytes_eq word (codes "ensaio") then ensaio_of names
    else if bytes_eq word (codes "repoe") then repoe_of names
    else if bytes_eq word (codes "reconta") then reconta_of names
    else if bytes_eq word (codes "certifica") then certifica_of names
    else if bytes_eq word (codes "verifica") then verifica_of names
    else None

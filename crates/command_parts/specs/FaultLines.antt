-- The lines that tell why a command was refused (docs/FORMATS.md, "Fault lines")
use Rattle.std.specs.Prelude.{◌≡◌, ℕ, List, [], ◌∷◌, ◌++◌, Option, Some, None, ◌⊎◌, codes}
use Rattle.std.specs.Fmt.{decimal}
use Rattle.std.specs.Option.{option_map}
use Rattle.urna_outside.specs.ShownLines.{HasShown, IsCutOff}
use Rattle.urna_outside.specs.Told.{Told}
use Rattle.urna_outside.specs.declared.device.Dev.{Dev}
use Rattle.urna_outside.specs.declared.device.Dev.TheVariants.{Internal, External}
use Rattle.command_parts.specs.declared.error.Doc.{Doc}
use Rattle.command_parts.specs.declared.error.Doc.TheVariants as doc
use Rattle.command_parts.specs.declared.error.CommandError.{CommandError}
use Rattle.command_parts.specs.declared.error.CommandError.TheVariants as error

-- how a fault line names a document
abbrev pub doc_word : Doc → List ℕ
doc_word doc.Tables = codes "TABELAS"
doc_word doc.Roll = codes "ROL"
doc_word doc.Keys = codes "TECLAS"
doc_word doc.Report = codes "BOLETIM"
doc_word doc.List = codes "LISTA"
doc_word doc.Record = codes "REGISTRO"
doc_word doc.Certificate = codes "CERTIFICADO"

-- how a fault line names a flash
abbrev pub device_word : Dev → List ℕ
device_word Internal = codes "INTERNA"
device_word External = codes "EXTERNA"

-- what stands behind ERRO, where an error has a line
abbrev pub error_text : CommandError → Option (List ℕ)
error_text error.Memory = None
error_text error.Cabinet = None
error_text error.Usage = Some (codes "USO")
error_text error.TablesNotToml = Some (codes "TABELAS TOML")
error_text (error.TablesRule k) = Some (codes "TABELAS REGRA " ++ decimal k)
error_text error.RollCount = Some (codes "ROL CONTAGEM")
error_text (error.RollLine k) = Some (codes "ROL LINHA " ++ decimal k)
error_text (error.Line k) = Some (codes "LINHA " ++ decimal k)
error_text (error.RecordLine k) = Some (codes "REGISTRO LINHA " ++ decimal k)
error_text (error.CertificateLine k) = Some (codes "CERTIFICADO LINHA " ++ decimal k)
error_text (error.TooLong d) = Some (codes "TAMANHO " ++ doc_word d)
error_text (error.Missing d) = Some (codes "FALTA " ++ doc_word d)
error_text (error.Foreign d) = Some (codes "OUTRA CARGA " ++ device_word d)
error_text error.NoImage = Some (codes "SEM IMAGEM")
error_text (error.Busy d) = Some (codes "EM USO " ++ device_word d)

-- a fault line with its line feed
abbrev pub fault_line : List ℕ → List ℕ
fault_line text = codes "ERRO " ++ text ++ 10 ∷ []

-- The line was shown, whole unless the display failed; where there is none, no call was made.
abbrev pub TellsLine : Option (List ℕ) → Told → Told → Type 0
TellsLine None old new = new ≡ old
TellsLine (Some line) old new = HasShown (line ∷ []) old new ⊎ IsCutOff (line ∷ []) old new

-- so it was with the line of this text, where there is one
abbrev pub Tells : Option (List ℕ) → Told → Told → Type 0
Tells text old new = TellsLine (option_map fault_line text) old new

-- Why a file gives no report: what the function that reads it says.
use Rattle.std.specs.Prelude.{ℕ, List}
use Rattle.hash_chain.specs.Fault.{ArePartsOf, IsPartFault}
use Rattle.hash_chain.specs.declared.fault.PartError.TheVariants as part
use Rattle.hash_chain.specs.declared.fault.PartError.{PartError}
use Rattle.qr_text.specs.Fault.{IsFieldFault}
use Rattle.qr_text.specs.declared.fault.FieldError.TheVariants as field
use Rattle.qr_text.specs.declared.fault.FieldError.{FieldError}
use Rattle.section_intake.specs.declared.checking.Refusal.{Refusal}
use Rattle.section_intake.specs.declared.checking.Refusal.TheVariants.{Memory, Part, Fields}

-- its parts are at fault, or the fields of its text are; nothing is said where memory ran out
abbrev pub IsRefused : List ℕ → Refusal → Type 0
IsRefused bytes Memory = Unit {0}
IsRefused bytes (Part f) = IsPartFault bytes f
IsRefused bytes (Fields f) = (text : List ℕ) × ArePartsOf bytes text × IsFieldFault text f

-- what stops the reading of a file, of its parts and of its fields
abbrev pub part_refusal : PartError → Refusal
part_refusal part.Memory = Memory
part_refusal (part.Fault f) = Part f

abbrev pub field_refusal : FieldError → Refusal
field_refusal field.Memory = Memory
field_refusal (field.Fault f) = Fields f

-- How a command ends whose files are refused, or give a verdict
use Rattle.std.proofs.Common.{◌≡◌, ◌⊎◌, inl, inr, ℕ, List, Option, Some, None, refl, ap, subst}
use Rattle.urna_outside.specs.Cabinet.{CabinetTold, Files}
use Rattle.urna_outside.specs.Told.{Told}
use Rattle.election_tables.specs.Roll.{RollData}
use Rattle.election_tables.specs.TablesData.{TablesData}
use Rattle.section_intake.specs.declared.verdict.Verdict.{Verdict}
use Rattle.urna_commands.specs.Carga.{CargaEnds, load_no_cabinet, load_no_memory, load_refused, loaded, no_section, not_loaded, not_told}
use Rattle.urna_commands.specs.Command.{Carga, Command, Confere, Emite, Repoe, ToCertify, ToCheck, ToEmit, ToLoad, ToRecount, ToRehearse, ToReplace, ToTotal, ToVerify, ToVote, Vota, command_of}
use Rattle.urna_commands.specs.Confere.{ConfereEnds, HasVerdict, check_no_cabinet, check_no_memory, check_not_told, check_refused, checked}
use Rattle.command_parts.specs.Documents.{HasDocuments}
use Rattle.urna_commands.specs.Documents.{IsFirstFault}
use Rattle.urna_commands.specs.Emite.{EmiteEnds, emit_no_cabinet, emit_no_memory, emit_refused, emitted, files_stopped, no_files, not_emitted, not_found, not_sealed}
use Rattle.urna_commands.specs.Ending.{CommandEnds}
use Rattle.urna_commands.specs.Laws.{AreRefused, RefusedEndSo, VerdictEndsSo}
use Rattle.urna_commands.specs.Repoe.{RepoeEnds, not_replaced, replace_no_cabinet, replace_no_memory, replace_refused, replaced, replaced_untold}
use Rattle.urna_commands.specs.Verdicts.{verdict_status}
use Rattle.urna_commands.specs.Vota.{IsGiven, IsRefused, VotaEnds, cut, no_cabinet, no_memory, not_started, refused, session_held}
use Rattle.command_parts.specs.declared.error.Doc.TheVariants as doc
use Rattle.urna_commands.specs.declared.status.Status.{Status}
use Rattle.urna_commands.specs.declared.status.Status.TheVariants as status
use Rattle.key_script.specs.Laws.{OneListAnswers}
use Rattle.call_laws.proofs.Certifying.{certifica_refused, verifica_refused}
use Rattle.call_laws.proofs.Recounts.{recount_refused}
use Rattle.urna_commands.proofs.Once.{first_once, one_verdict_on, refused_once, refused_or_checked, refused_or_documents, refused_or_given}

abbrev EndsRefused : Status → Status → Type 0
EndsRefused e s = (s ≡ e) ⊎ (s ≡ status.Memory) ⊎ (s ≡ status.Cabinet)

module _ (c d : CabinetTold) (m n : Told) (files : Files) (told : c.files ≡ Some files) where
  vota_refused : (names : Vota) (e s : Status) → IsRefused (Some files) names e → VotaEnds names c d m n s → EndsRefused e s
  vota_refused names e s why (refused also taken un) = inl (refused_once files names s e (subst (λ (o : Option Files). IsRefused o names s) told also) why)
  vota_refused names e _ why (no_memory taken un) = inr (inl refl)
  vota_refused names e _ why (no_cabinet taken un) = inr (inr refl)
  vota_refused names e _ why (not_started {t} {r} {es} error given taken h) = absurd (refused_or_given files names e t r es why (subst (λ (o : Option Files). IsGiven o names t r es) told given))
  vota_refused names e _ why (cut {t} {r} {es} p given taken h) = absurd (refused_or_given files names e t r es why (subst (λ (o : Option Files). IsGiven o names t r es) told given))
  vota_refused names e s why (session_held {t} {r} {es} after given taken h one_of state put) =
      absurd (refused_or_given files names e t r es why (subst (λ (o : Option Files). IsGiven o names t r es) told given))

  -- tables and a roll that are refused are not given
  not_given : {X : Type 0} (tables roll : List ℕ) (e : Status) (t : TablesData) (r : RollData) → IsFirstFault (Some files) tables doc.Roll roll e → HasDocuments c.files tables roll t r → X
  not_given tables roll e t r why given = absurd (refused_or_documents files tables roll e t r why (subst (λ (o : Option Files). HasDocuments o tables roll t r) told given))

  carga_refused : (names : Carga) (e s : Status) → IsFirstFault (Some files) names.tables doc.Roll names.roll e → CargaEnds names c d m n s → EndsRefused e s
  carga_refused names e s why (load_refused also taken un) =
      inl (first_once files names.tables doc.Roll names.roll s e (subst (λ (o : Option Files). IsFirstFault o names.tables doc.Roll names.roll s) told also) why)
  carga_refused names e _ why (load_no_memory taken un) = inr (inl refl)
  carga_refused names e _ why (load_no_cabinet taken un) = inr (inr refl)
  carga_refused names e _ why (no_section {t} {r} given none taken un) = not_given names.tables names.roll e t r why given
  carga_refused names e _ why (not_loaded {t} {r} error given asked taken h) = not_given names.tables names.roll e t r why given
  carga_refused names e _ why (not_told {t} {r} between given asked taken h off) = not_given names.tables names.roll e t r why given
  carga_refused names e _ why (loaded {t} {r} between given asked taken h shown) = not_given names.tables names.roll e t r why given

  emite_refused : (names : Emite) (e s : Status) → IsFirstFault (Some files) names.tables doc.Roll names.roll e → EmiteEnds names c d m n s → EndsRefused e s
  emite_refused names e s why (emit_refused also taken un) =
      inl (first_once files names.tables doc.Roll names.roll s e (subst (λ (o : Option Files). IsFirstFault o names.tables doc.Roll names.roll s) told also) why)
  emite_refused names e _ why (emit_no_memory taken un) = inr (inl refl)
  emite_refused names e _ why (emit_no_cabinet taken un) = inr (inr refl)
  emite_refused names e _ why (not_found {t} {r} error given taken h) = not_given names.tables names.roll e t r why given
  emite_refused names e _ why (not_sealed {t} {r} given taken h unsealed) = not_given names.tables names.roll e t r why given
  emite_refused names e _ why (no_files {t} {r} given taken h sealed) = not_given names.tables names.roll e t r why given
  emite_refused names e _ why (files_stopped {t} {r} after given taken h sealed put) = not_given names.tables names.roll e t r why given
  emite_refused names e _ why (not_emitted {t} {r} after between given taken h sealed put off) = not_given names.tables names.roll e t r why given
  emite_refused names e _ why (emitted {t} {r} after between given taken h sealed put shown) = not_given names.tables names.roll e t r why given

  repoe_refused : (names : Repoe) (e s : Status) → IsFirstFault (Some files) names.tables doc.Roll names.roll e → RepoeEnds names c d m n s → EndsRefused e s
  repoe_refused names e s why (replace_refused also taken un) =
      inl (first_once files names.tables doc.Roll names.roll s e (subst (λ (o : Option Files). IsFirstFault o names.tables doc.Roll names.roll s) told also) why)
  repoe_refused names e _ why (replace_no_memory taken un) = inr (inl refl)
  repoe_refused names e _ why (replace_no_cabinet taken un) = inr (inr refl)
  repoe_refused names e _ why (not_replaced {t} {r} error given taken h) = not_given names.tables names.roll e t r why given
  repoe_refused names e _ why (replaced_untold {t} {r} between given taken h off) = not_given names.tables names.roll e t r why given
  repoe_refused names e _ why (replaced {t} {r} between given taken h shown) = not_given names.tables names.roll e t r why given

  confere_refused : (names : Confere) (e s : Status) → IsFirstFault (Some files) names.tables doc.Report names.report e → ConfereEnds names c d m n s → EndsRefused e s
  confere_refused names e s why (check_refused also taken un) =
      inl (first_once files names.tables doc.Report names.report s e (subst (λ (o : Option Files). IsFirstFault o names.tables doc.Report names.report s) told also) why)
  confere_refused names e _ why (check_no_memory taken un) = inr (inl refl)
  confere_refused names e _ why (check_no_cabinet taken un) = inr (inr refl)
  confere_refused names e _ why (check_not_told {v} has taken off) = absurd (refused_or_checked files names e v why (subst (λ (o : Option Files). HasVerdict o names v) told has))
  confere_refused names e _ why (checked {v} has taken shown) = absurd (refused_or_checked files names e v why (subst (λ (o : Option Files). HasVerdict o names v) told has))

  -- how confere ends with a verdict
  verdict_so : (names : Confere) (v : Verdict) (s : Status) → HasVerdict (Some files) names v → ConfereEnds names c d m n s
      → (s ≡ verdict_status v) ⊎ (s ≡ status.Memory) ⊎ (s ≡ status.Cabinet) ⊎ (s ≡ status.Display)
  verdict_so names v s has (check_refused why taken un) =
      absurd (refused_or_checked files names s v (subst (λ (o : Option Files). IsFirstFault o names.tables doc.Report names.report s) told why) has)
  verdict_so names v _ has (check_no_memory taken un) = inr (inl refl)
  verdict_so names v _ has (check_no_cabinet taken un) = inr (inr (inl refl))
  verdict_so names v _ has (check_not_told also taken off) = inr (inr (inr refl))
  verdict_so names v _ has (checked {v = w} also taken shown) =
      inl (ap verdict_status (one_verdict_on files names w v (subst (λ (o : Option Files). HasVerdict o names w) told also) has))

  refused_so : OneListAnswers → (command : Option Command) (e s : Status) → AreRefused command files e → CommandEnds command c d m n s → EndsRefused e s
  refused_so answers (Some (ToVote names)) e s why ends = vota_refused names e s why ends
  refused_so answers (Some (ToLoad names)) e s why ends = carga_refused names e s why ends
  refused_so answers (Some (ToEmit names)) e s why ends = emite_refused names e s why ends
  refused_so answers (Some (ToCheck names)) e s why ends = confere_refused names e s why ends
  refused_so answers (Some (ToTotal names)) e s why ends = absurd why
  refused_so answers (Some (ToRehearse voters)) e s why ends = absurd why
  refused_so answers (Some (ToReplace names)) e s why ends = repoe_refused names e s why ends
  refused_so answers (Some (ToRecount names)) e s why ends = recount_refused names c d m n files e s told why ends
  refused_so answers (Some (ToCertify names)) e s why ends = certifica_refused answers names c d m n files e s told why ends
  refused_so answers (Some (ToVerify names)) e s why ends = verifica_refused answers names c d m n files e s told why ends
  refused_so answers None e s why ends = absurd why

pub refused_end_so : OneListAnswers → RefusedEndSo
refused_end_so answers words c d m n e s files told why ends = refused_so c d m ends.between files told answers (command_of words) e s why ends.command

pub verdict_ends_so : VerdictEndsSo
verdict_ends_so names c d m n v s files told has ends = verdict_so c d m n files told names v s has ends

-- Where a call has what it needs, each other ending shows a fault
use Rattle.std.proofs.Common.{◌≡◌, ◌⊎◌, inl, inr, ℕ, zero, suc, ◌+◌, false, List, [], ◌∷◌, length, Option, Some, None, IsSomeAnd, refl, sym, ap, subst, ◌∙◌, append-nil}
use Rattle.std.specs.Option.{option_and_then}
use Rattle.urna_outside.specs.Cabinet.{CabinetTold, Files}
use Rattle.urna_outside.specs.Flash.{Flashes}
use Rattle.urna_outside.specs.Told.{Rose, Told, faults_of, port_of}
use Rattle.urna_outside.specs.declared.device.Dev.TheVariants as dev
use Rattle.urna_outside.specs.declared.device.Port.{Port}
use Rattle.urna_outside.specs.declared.device.Port.TheVariants as port
use Rattle.election_tables.specs.TablesData.{TablesData}
use Rattle.key_script.specs.Laws.{OneListAnswers}
use Rattle.section_intake.specs.Accepted.{File}
use Rattle.section_intake.specs.declared.verdict.Verdict.{Verdict}
use Rattle.flash_store.specs.Held.{bodies_of_both}
use Rattle.flash_store.proofs.Holding.{hold_or_none}
use Rattle.report_lines.specs.Verdicts.{refused_count}
use Rattle.intake_ledger.specs.Calls.{FailsToFormat, FailsToOpen}
use Rattle.intake_ledger.specs.Kept.{AreFound, AreFree, ledgers}
use Rattle.intake_ledger.specs.Layout.{body_size}
use Rattle.intake_ledger.specs.Ledger.{LedgerData}
use Rattle.intake_ledger.specs.Offers.{AreOfferedTo}
use Rattle.intake_ledger.specs.declared.ledger.LedgerError.{LedgerError}
use Rattle.intake_ledger.specs.declared.ledger.LedgerError.TheVariants as ledger
use Rattle.intake_ledger.proofs.Found.{one_is_held}
use Rattle.command_parts.specs.Documents.{AreTaken, HasTables, IsFault as IsFaultOf, IsFirstFault as IsFirstFaultOf, IsListed}
use Rattle.command_parts.specs.FaultLines.{Tells, error_text}
use Rattle.command_parts.specs.declared.error.CommandError.{CommandError}
use Rattle.command_parts.specs.declared.error.Doc.TheVariants as doc
use Rattle.command_parts.proofs.Calls.{since}
use Rattle.command_parts.proofs.Ending.{error_told}
use Rattle.command_parts.proofs.Listing.{none_at_fault, same_reports}
use Rattle.command_parts.proofs.Once.{refused_or_listed, same_names, same_tables, tables_not_fault}
use Rattle.ledger_commands.specs.Abre.{AbreEnds, begin_no_cabinet, begin_no_memory, begin_refused, begun, begun_untold, not_begun}
use Rattle.ledger_commands.specs.Command.{Command, Recebe, ToBegin, ToReceive, ToTotal, command_of}
use Rattle.call_laws.specs.LedgerCompletion.{CanBegin, CanDo, CanReceive, CanTell, Completes, CompletesWhereItCan, IsByOffers, IsDoneOrMemory, TellsOfRisenCounts, tells_of_count}
use Rattle.ledger_commands.specs.Documents.{HasTaken, IsFault, IsFirstFault}
use Rattle.ledger_commands.specs.Ending.{CommandEnds}
use Rattle.ledger_commands.specs.Errors.{error_of, fault_text, ledger_status, port_status}
use Rattle.ledger_commands.specs.Recebe.{HasReceived, RecebeEnds, cut, list_no_cabinet, list_no_memory, list_refused, not_opened, received, refused_status, report_no_cabinet, report_no_memory, report_refused}
use Rattle.ledger_commands.specs.Totais.{TotaisEnds, no_lines, none_opened, total_no_cabinet, total_no_memory, total_refused, totals_told, totals_untold}
use Rattle.ledger_commands.specs.declared.status.LedgerStatus.{LedgerStatus}
use Rattle.ledger_commands.specs.declared.status.LedgerStatus.TheVariants as status
use Rattle.ledger_commands.proofs.Statuses.{port_error}

-- ---- faults

-- whatever the status says, no port failed before its line
abbrev Calm : LedgerStatus → Told → Told → Type 0
Calm s m b = (p : Port) → s ≡ port_status p → Rose (faults_of p m.faults) (faults_of p b.faults) → ⊥

-- a status of a port has no line
calm_before : (s : LedgerStatus) (m b n : Told) → ((p : Port) → ¬ Rose (faults_of p m.faults) (faults_of p n.faults)) → Tells (fault_text s) b n → Calm s m b
calm_before s m b n none told p is rose =
    let no_line : n ≡ b = subst (λ (o : Option CommandError). Tells (option_and_then error_text o) b n) (port_error p) (subst (λ (x : LedgerStatus). Tells (fault_text x) b n) is told) in
    none p (subst (λ (x : Told). Rose (faults_of p m.faults) (faults_of p x.faults)) (sym no_line) rose)

-- ---- a call, between c and d of the cabinet and m and b of the machine

module _ (files : Files) (c d : CabinetTold) (there : c.files ≡ Some files) (none : ¬ Rose c.tally.faults d.tally.faults) (m b : Told) (flashes : Flashes) (told : m.flashes ≡ Some flashes) where
  no_tables_fault : (name : List ℕ) (t : TablesData) (s : LedgerStatus) → HasTables (Some files) name t → IsFault c.files name doc.Tables s → ⊥
  no_tables_fault name t s given fault =
      let says = error_told error_of s (IsFaultOf (Some files) name doc.Tables) (subst (λ (o : Option Files). IsFault o name doc.Tables s) there fault) in
      tables_not_fault files name says.0 t says.2 given

  given_tables : (name : List ℕ) (t u : TablesData) → HasTables (Some files) name t → HasTables c.files name u → u ≡ t
  given_tables name t u given also = same_tables files name u t (subst (λ (o : Option Files). HasTables o name u) there also) given

  -- ---- abre

  begins : (e : LedgerError) → AreFree flashes → Calm (ledger_status e) m b → FailsToFormat m b e → IsDoneOrMemory (ledger_status e)
  begins ledger.Memory free calm h = inr refl
  begins (ledger.Flash d) free calm h = absurd (calm (port_of d) refl h.0.faults.rose)
  begins (ledger.Foreign d) free calm h = absurd h
  begins ledger.NoImage free calm h = absurd h
  begins (ledger.Busy dev.Internal) free calm h = absurd (free dev.Internal (h.1 flashes told))
  begins (ledger.Busy dev.External) free calm h = absurd (free dev.External ((h.1 flashes told).1))

  abre_completes : (name : List ℕ) (s : LedgerStatus) → Calm s m b → CanBegin name (Some files) flashes → AbreEnds name c d m b s → IsDoneOrMemory s
  abre_completes name s calm can (begin_refused why taken un) = absurd (no_tables_fault name can.t s can.given why)
  abre_completes name _ calm can (begin_no_memory taken un) = inr refl
  abre_completes name _ calm can (begin_no_cabinet taken un) = absurd (none taken.counts.faults.rose)
  abre_completes name _ calm can (not_begun e given taken h) = begins e can.free calm h.fails
  abre_completes name _ calm can (begun_untold between given taken h off) = absurd (calm port.Display refl (since port.Display m between b h.fine.faults off.faults.rose))
  abre_completes name _ calm can (begun between given taken h shown) = inl refl

  -- ---- a ledger that is opened

  opens : (t : TablesData) (l : LedgerData) (e : LedgerError) → AreFound t l flashes → Calm (ledger_status e) m b → FailsToOpen t m b e → ledger_status e ≡ status.Memory
  opens t l ledger.Memory found calm h = refl
  opens t l (ledger.Flash d) found calm h = absurd (calm (port_of d) refl h.0.faults.rose)
  opens t l (ledger.Foreign dev.Internal) found calm h = absurd (h.1 flashes told (found.framed dev.Internal))
  opens t l (ledger.Foreign dev.External) found calm h = absurd ((h.1 flashes told).1 (found.framed dev.External))
  opens t l ledger.NoImage found calm h =
      absurd (hold_or_none (ledgers t) (bodies_of_both body_size flashes.internal.content flashes.external.content) l (h.1 flashes told).none found.held)
  opens t l (ledger.Busy d) found calm h = absurd h

  -- ---- recebe

  module _ (answers : OneListAnswers) (names : Recebe) (can : CanReceive names (Some files) flashes) where
    given_list : (u : TablesData) (others : List (List ℕ)) → IsListed c.files names.tables names.list u others → (u ≡ can.t) × (others ≡ can.listed)
    given_list u others also =
        let here = subst (λ (o : Option Files). IsListed o names.tables names.list u others) there also in (
          same_tables files names.tables u can.t here.tables can.given.tables,
          same_names files names.list others can.listed here.list can.given.list,
        )

    -- all were offered to the ledger that the flashes hold
    by_offers : (verdicts : List Verdict) → HasReceived (Some files) can.t can.listed [] verdicts m b → IsByOffers names (Some files) flashes (refused_status (refused_count verdicts))
    by_offers verdicts h =
        let all : h.are.names ≡ can.listed = sym (h.are.all ∙ append-nil h.are.names) in
        let reports : h.are.reports ≡ can.reports =
        same_reports files can.listed h.are.reports can.reports (subst (λ (x : List (List ℕ)). AreTaken (Some files) x h.are.reports) all h.are.taken) can.taken in
        let first : h.first ≡ can.l =
        one_is_held can.t (bodies_of_both body_size flashes.internal.content flashes.external.content) h.first can.l (h.opened.ran.2.2.stops flashes told).0.held can.found.held in
        record {
          can = can;
          verdicts = verdicts;
          pieces = h.pieces;
          last = h.last;
          offered = subst (λ (x : LedgerData). AreOfferedTo can.t x can.reports verdicts h.pieces h.last) first
              (subst (λ (x : List File). AreOfferedTo can.t h.first x verdicts h.pieces h.last) reports h.are.offered);
          is = refl;
        }

    received_here : (u : TablesData) (others left : List (List ℕ)) (verdicts : List Verdict) → IsListed c.files names.tables names.list u others → HasReceived c.files u others left verdicts m b
        → HasReceived (Some files) can.t can.listed left verdicts m b
    received_here u others left verdicts also h =
        let same = given_list u others also in
        subst (λ (x : List (List ℕ)). HasReceived (Some files) can.t x left verdicts m b) same.1
        (subst (λ (x : TablesData). HasReceived (Some files) x others left verdicts m b) same.0 (subst (λ (o : Option Files). HasReceived o u others left verdicts m b) there h))

    recebe_completes : (s : LedgerStatus) → Calm s m b → RecebeEnds names c d m b s → IsByOffers names (Some files) flashes s ⊎ (s ≡ status.Memory)
    recebe_completes s calm (list_refused why taken un) =
        let says = error_told error_of s (IsFirstFaultOf (Some files) names.tables doc.List names.list) (subst (λ (o : Option Files). IsFirstFault o names.tables doc.List names.list s) there why) in
        absurd (refused_or_listed answers files names.tables names.list says.0 can.t can.listed says.2 can.given)
    recebe_completes _ calm (list_no_memory taken un) = inr refl
    recebe_completes _ calm (list_no_cabinet taken un) = absurd (none taken.counts.faults.rose)
    recebe_completes _ calm (not_opened {t = u} {listed = others} e also taken h) =
        inr (opens can.t can.l e can.found calm (subst (λ (x : TablesData). FailsToOpen x m b e) (given_list u others also).0 h))
    recebe_completes _ calm (cut p also taken h) = absurd (calm p refl (since p m h.between b h.opened.fine.faults h.stopped.fault.faults.rose))
    recebe_completes s calm (report_refused {t = u} {listed = others} {left} {name} {verdicts} also h fault taken) =
        let here = received_here u others (name ∷ left) verdicts also h in
        let says = error_told error_of s (IsFaultOf (Some files) name doc.Report) (subst (λ (o : Option Files). IsFault o name doc.Report s) there fault) in
        absurd (none_at_fault files here.are.names name left can.listed can.reports says.0 (sym here.are.all) can.taken says.2)
    recebe_completes _ calm (report_no_cabinet also h taken) = absurd (none taken.counts.faults.rose)
    recebe_completes _ calm (report_no_memory also h taken) = inr refl
    recebe_completes _ calm (received {t = u} {listed = others} {verdicts} also h taken) = inl (by_offers verdicts (received_here u others [] verdicts also h))

  -- ---- totais

  totais_completes : (name : List ℕ) (s : LedgerStatus) → Calm s m b → CanTell name (Some files) flashes → TotaisEnds name c d m b s → IsDoneOrMemory s
  totais_completes name s calm can (total_refused why taken un) = absurd (no_tables_fault name can.t s can.given why)
  totais_completes name _ calm can (total_no_memory taken un) = inr refl
  totais_completes name _ calm can (total_no_cabinet taken un) = absurd (none taken.counts.faults.rose)
  totais_completes name _ calm can (none_opened {t = u} e also taken h) =
      inr (opens can.t can.l e can.found calm (subst (λ (x : TablesData). FailsToOpen x m b e) (given_tables name can.t u can.given also) h))
  totais_completes name _ calm can (no_lines also taken opened) = inr refl
  totais_completes name _ calm can (totals_untold between also taken opened off safe) = absurd (calm port.Display refl (since port.Display m between b opened.fine.faults off.faults.rose))
  totais_completes name _ calm can (totals_told between also taken opened shown safe) = inl refl

-- ---- each command

command_completes : OneListAnswers → (command : Command) (c d : CabinetTold) (m b : Told) (s : LedgerStatus) (files : Files) (flashes : Flashes) → c.files ≡ Some files → m.flashes ≡ Some flashes
    → ¬ Rose c.tally.faults d.tally.faults → Calm s m b → CommandEnds (Some command) c d m b s → CanDo command files flashes → Completes command files flashes s
command_completes answers (ToBegin tables) c d m b s files flashes there told none calm ends can = abre_completes files c d there none m b flashes told tables s calm can ends
command_completes answers (ToReceive names) c d m b s files flashes there told none calm ends can = recebe_completes files c d there none m b flashes told answers names can s calm ends
command_completes answers (ToTotal tables) c d m b s files flashes there told none calm ends can = totais_completes files c d there none m b flashes told tables s calm can ends

pub completes : OneListAnswers → CompletesWhereItCan
completes answers words command c d m n s files flashes is there told none ends can =
    command_completes answers command c d m ends.between s files flashes there told none.cabinet (calm_before s m ends.between n none.ports ends.told)
    (subst (λ (o : Option Command). CommandEnds o c d m ends.between s) is ends.command) can

-- ---- over any cabinet and machine

-- nothing counted: no count rose of the cabinet's three, and none of a port before the line of the status
record NothingCounted (c d : CabinetTold) (s : LedgerStatus) (m b : Told) : Type 0 where
  faults : ¬ Rose c.tally.faults d.tally.faults
  missing : ¬ Rose c.tally.missing d.tally.missing
  too_long : ¬ Rose c.tally.too_long d.tally.too_long
  calm : Calm s m b

-- a document at fault then tells of none,
file_counts : (P : CommandError → Type 0) (most : ℕ) (c d : CabinetTold) (s : LedgerStatus) (m b : Told) → NothingCounted c d s m b
    → HasTaken most s c d → IsSomeAnd (error_of s) P → tells_of_count s ≡ false
file_counts P most c d (status.Missing x) m b none taken h = absurd (none.missing taken.counts.missing.rose)
file_counts P most c d (status.TooLong x) m b none taken h = absurd (none.too_long taken.counts.too_long.rose)
file_counts P most c d status.Cabinet m b none taken h = absurd (none.faults taken.counts.faults.rose)
file_counts P most c d status.InternalFlash m b none taken h = absurd h
file_counts P most c d status.ExternalFlash m b none taken h = absurd h
file_counts P most c d status.Display m b none taken h = absurd h
file_counts P most c d s m b none taken h = refl

-- and neither does a ledger that was not laid or opened
formed_counts : (m b : Told) (e : LedgerError) → Calm (ledger_status e) m b → FailsToFormat m b e → tells_of_count (ledger_status e) ≡ false
formed_counts m b ledger.Memory calm h = refl
formed_counts m b (ledger.Flash d) calm h = absurd (calm (port_of d) refl h.0.faults.rose)
formed_counts m b (ledger.Foreign d) calm h = refl
formed_counts m b ledger.NoImage calm h = refl
formed_counts m b (ledger.Busy d) calm h = refl

opened_counts : (t : TablesData) (m b : Told) (e : LedgerError) → Calm (ledger_status e) m b → FailsToOpen t m b e → tells_of_count (ledger_status e) ≡ false
opened_counts t m b ledger.Memory calm h = refl
opened_counts t m b (ledger.Flash d) calm h = absurd (calm (port_of d) refl h.0.faults.rose)
opened_counts t m b (ledger.Foreign d) calm h = refl
opened_counts t m b ledger.NoImage calm h = refl
opened_counts t m b (ledger.Busy d) calm h = refl

refused_counts : (k : ℕ) → tells_of_count (refused_status k) ≡ false
refused_counts zero = refl
refused_counts (suc k) = refl

abre_counts : (name : List ℕ) (c d : CabinetTold) (m b : Told) (s : LedgerStatus) → NothingCounted c d s m b → AbreEnds name c d m b s → tells_of_count s ≡ false
abre_counts name c d m b s none (begin_refused why taken un) = file_counts (IsFaultOf c.files name doc.Tables) 1 c d s m b none taken why
abre_counts name c d m b _ none (begin_no_memory taken un) = refl
abre_counts name c d m b _ none (begin_no_cabinet taken un) = absurd (none.faults taken.counts.faults.rose)
abre_counts name c d m b _ none (not_begun e given taken h) = formed_counts m b e none.calm h.fails
abre_counts name c d m b _ none (begun_untold between given taken h off) =
    absurd (none.calm port.Display refl (since port.Display m between b h.fine.faults off.faults.rose))
abre_counts name c d m b _ none (begun between given taken h shown) = refl

recebe_counts : (names : Recebe) (c d : CabinetTold) (m b : Told) (s : LedgerStatus) → NothingCounted c d s m b → RecebeEnds names c d m b s → tells_of_count s ≡ false
recebe_counts names c d m b s none (list_refused why taken un) = file_counts (IsFirstFaultOf c.files names.tables doc.List names.list) 2 c d s m b none taken why
recebe_counts names c d m b _ none (list_no_memory taken un) = refl
recebe_counts names c d m b _ none (list_no_cabinet taken un) = absurd (none.faults taken.counts.faults.rose)
recebe_counts names c d m b _ none (not_opened {t} e also taken h) = opened_counts t m b e none.calm h
recebe_counts names c d m b _ none (cut p also taken h) = absurd (none.calm p refl (since p m h.between b h.opened.fine.faults h.stopped.fault.faults.rose))
recebe_counts names c d m b s none (report_refused {listed} {name} also h fault taken) =
    file_counts (IsFaultOf c.files name doc.Report) (length listed + 2) c d s m b none taken fault
recebe_counts names c d m b _ none (report_no_cabinet also h taken) = absurd (none.faults taken.counts.faults.rose)
recebe_counts names c d m b _ none (report_no_memory also h taken) = refl
recebe_counts names c d m b _ none (received {verdicts} also h taken) = refused_counts (refused_count verdicts)

totais_counts : (name : List ℕ) (c d : CabinetTold) (m b : Told) (s : LedgerStatus) → NothingCounted c d s m b → TotaisEnds name c d m b s → tells_of_count s ≡ false
totais_counts name c d m b s none (total_refused why taken un) = file_counts (IsFaultOf c.files name doc.Tables) 1 c d s m b none taken why
totais_counts name c d m b _ none (total_no_memory taken un) = refl
totais_counts name c d m b _ none (total_no_cabinet taken un) = absurd (none.faults taken.counts.faults.rose)
totais_counts name c d m b _ none (none_opened {t} e also taken h) = opened_counts t m b e none.calm h
totais_counts name c d m b _ none (no_lines also taken opened) = refl
totais_counts name c d m b _ none (totals_untold between also taken opened off safe) =
    absurd (none.calm port.Display refl (since port.Display m between b opened.fine.faults off.faults.rose))
totais_counts name c d m b _ none (totals_told between also taken opened shown safe) = refl

command_counts : (k : Option Command) (c d : CabinetTold) (m b : Told) (s : LedgerStatus) → NothingCounted c d s m b → CommandEnds k c d m b s → tells_of_count s ≡ false
command_counts None c d m b s none ends = ap tells_of_count ends.usage
command_counts (Some (ToBegin tables)) c d m b s none ends = abre_counts tables c d m b s none ends
command_counts (Some (ToReceive names)) c d m b s none ends = recebe_counts names c d m b s none ends
command_counts (Some (ToTotal tables)) c d m b s none ends = totais_counts tables c d m b s none ends

pub tells_of_risen_counts : TellsOfRisenCounts
tells_of_risen_counts words c d m n s failed missing too_long ends =
    command_counts (command_of words) c d m ends.between s
    (record { faults = failed.cabinet; missing = missing; too_long = too_long; calm = calm_before s m ends.between n failed.ports ends.told }) ends.command

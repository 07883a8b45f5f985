-- Any calls one after the other keep the offers of a ledger
use Rattle.std.proofs.Common.{◌≡◌, ◌≢◌, ◌⊎◌, inl, inr, ℕ, ◌+◌, List, [], ◌∷◌, ◌++◌, Option, Some, None, length, refl, sym, ap, subst, ◌∙◌, arith}
use Rattle.std.proofs.lemmas.List.{append_cancel_left}
use Rattle.std.proofs.lemmas.List.Elements.{Contains-get_or}
use Rattle.std.proofs.lemmas.Bool.{cases_eq}
use Rattle.std.proofs.lemmas.Option.{same_Some}
use Rattle.urna_outside.specs.Cabinet.{CabinetTold, Files}
use Rattle.urna_outside.specs.Flash.{Flashes, IsImage, Op, after, shown_by}
use Rattle.urna_outside.specs.Started.{clean_flashes}
use Rattle.urna_outside.specs.ShownLines.{shows}
use Rattle.urna_outside.specs.Stop.{IsLeft, IsStop, Left}
use Rattle.urna_outside.specs.Told.{AreSized, Does, Runs, Told}
use Rattle.urna_outside.specs.Traced.{IsTraced}
use Rattle.urna_outside.specs.declared.device.Dev.TheVariants as dev
use Rattle.urna_outside.specs.declared.device.Port.{Port}
use Rattle.urna_outside.specs.declared.device.Port.TheVariants as port
use Rattle.urna_outside.proofs.Doing.{does_nothing}
use Rattle.urna_outside.proofs.Showing.{shows_keep}
use Rattle.urna_outside.proofs.ShowingLines.{shows_lines}
use Rattle.urna_outside.proofs.Stops.{stop-append, stops_none}
use Rattle.urna_outside.proofs.Traced.{traced_is}
use Rattle.election_tables.specs.TablesData.{IsTables, TablesData}
use Rattle.section_intake.specs.declared.verdict.Verdict.{Verdict}
use Rattle.flash_store.specs.Held.{HeldByBoth, KeepFrames, bodies_of_both}
use Rattle.flash_store.specs.Syncs.{IsFrontOfSyncs, IsUntouched, both_synced}
use Rattle.flash_store.proofs.Holding.{hold_or_none}
use Rattle.flash_store.proofs.Resting.{at_end, clean_image, frames_same, frames_text, frames_then}
use Rattle.flash_store.proofs.Syncing.{syncs_leave_no_more}
use Rattle.intake_ledger.specs.Calls.{FailsToOpen}
use Rattle.intake_ledger.specs.Kept.{AreDevices, AreFound, AreFramed, ledgers}
use Rattle.intake_ledger.specs.Laws.{AreWhole, IsLedgerAgain}
use Rattle.intake_ledger.specs.Layout.{body_size}
use Rattle.intake_ledger.specs.Ledger.{LedgerData, accepted_in, empty_ledger}
use Rattle.intake_ledger.specs.declared.ledger.LedgerError.{LedgerError}
use Rattle.intake_ledger.specs.declared.ledger.LedgerError.TheVariants as ledger
use Rattle.intake_ledger.proofs.Found.{rest_is_found}
use Rattle.intake_ledger.proofs.Going.{again}
use Rattle.command_parts.specs.Documents.{HasTables, IsListed}
use Rattle.command_parts.specs.Documents.{IsFirstFault as IsFirstFaultOf}
use Rattle.command_parts.specs.FaultLines.{Tells}
use Rattle.command_parts.specs.Idle.{AreIdle}
use Rattle.command_parts.specs.Steps.{IsInterrupted, IsNext, IsToldOrOneMore, cut as cut_off, cut_behind, ended as ended_whole, failed}
use Rattle.command_parts.specs.declared.error.Doc.TheVariants as doc
use Rattle.command_parts.proofs.Idle.{Idles, front_idles, idle_images, idle_stop, idle_trail, idles-append, told_idles, untouched_idles}
use Rattle.command_parts.proofs.Ending.{error_told}
use Rattle.key_script.specs.Laws.{OneListAnswers}
use Rattle.command_parts.proofs.Once.{refused_or_listed, same_tables}
use Rattle.command_parts.proofs.Steps.{IsOver, goes, none_or_some, within_stop}
use Rattle.ledger_commands.specs.Abre.{AbreEnds, HasBegun, begin_no_cabinet, begin_no_memory, begin_refused, begun, begun_untold, not_begun}
use Rattle.call_laws.specs.LedgerAgain.{AreDone, AreReady, BeginMakesReady, Call, CallsKeepOffers, HasKept, IsCall, IsReceiptOf, LeadsTo, MayBeCalled, NextIsFound, ReceivesOn, done_call, done_nothing, leads, other, received as takes_in, silent, stays, tables_of}
use Rattle.ledger_commands.specs.Command.{Command, Recebe, ToBegin, ToReceive, ToTotal, command_of}
use Rattle.ledger_commands.specs.Documents.{IsFault, IsFirstFault}
use Rattle.ledger_commands.specs.Ending.{CommandEnds}
use Rattle.ledger_commands.specs.Errors.{error_of, fault_text, ledger_status, port_status}
use Rattle.call_laws.specs.LedgerHeadline.{KeepsOffers, TakesIn, TotaisTraced, verdicts_begun}
use Rattle.ledger_commands.specs.Opening.{IsOpened, ledger_line}
use Rattle.ledger_commands.specs.Recebe.{HasReceived, RecebeEnds, cut, list_no_cabinet, list_no_memory, list_refused, not_opened, received, refused_status, report_no_cabinet, report_no_memory, report_refused}
use Rattle.ledger_commands.specs.Totais.{TotaisEnds, no_lines, none_opened, total_no_cabinet, total_no_memory, total_refused, totals_told, totals_untold}
use Rattle.ledger_commands.specs.declared.status.LedgerStatus.{LedgerStatus}
use Rattle.ledger_commands.specs.declared.status.LedgerStatus.TheVariants as status
use Rattle.call_laws.proofs.LedgerHeadline.{all_begun, all_taken, ledger_is_kept, not_refused_port, offers_are_kept, tells_does}
use Rattle.call_laws.proofs.LedgerIdle.{FromBoth, OpensOrNot, abre_idles, found_digest, found_in_use, from_both, unopened}

-- what is left, of which the shown text doesn't matter
abbrev images : List ℕ → List ℕ → Left
images a b = record { internal = a; external = b; shown = [] }

-- ---- the statuses of ports

abbrev port_in : LedgerStatus → Option Port
port_in status.InternalFlash = Some port.Internal
port_in status.ExternalFlash = Some port.External
port_in status.Display = Some port.Display
port_in status.Done = None
port_in status.Memory = None
port_in status.Usage = None
port_in status.TablesNotToml = None
port_in (status.TablesRule k) = None
port_in (status.Line k) = None
port_in (status.TooLong d) = None
port_in (status.Missing d) = None
port_in (status.SomeRefused k) = None
port_in status.Cabinet = None
port_in (status.Foreign d) = None
port_in status.NoImage = None
port_in (status.Busy d) = None

port_is : (p : Port) → port_in (port_status p) ≡ Some p
port_is port.Internal = refl
port_is port.External = refl
port_is port.Display = refl

no_port : (s : LedgerStatus) → port_in s ≡ None → (p : Port) → s ≢ port_status p
no_port s none p is = let both : None ≡ Some p = sym none ∙ ap port_in is ∙ port_is p in absurd (cc)

-- a call that ended did so with its answer, and did all
ended_with : (start next : Flashes) (ops done : List Op) (answer : LedgerStatus) (status : Option LedgerStatus) → IsNext start ops answer done status next → (s : LedgerStatus) → status ≡ Some s
    → (answer ≡ s) × (done ≡ ops)
ended_with start _ ops _ answer _ ended_whole s same = (same_Some _ _ same, refl)
ended_with start _ ops _ answer _ (cut_behind is) s same = (same_Some _ _ same, refl)
ended_with start _ ops _ answer _ (cut_off stop is) s same = absurd (cc)

port_or_none : (s : LedgerStatus) → ((p : Port) × (s ≡ port_status p)) ⊎ ((p : Port) → s ≢ port_status p)
port_or_none status.InternalFlash = inl (port.Internal, refl)
port_or_none status.ExternalFlash = inl (port.External, refl)
port_or_none status.Display = inl (port.Display, refl)
port_or_none status.Done = inr (no_port status.Done refl)
port_or_none status.Memory = inr (no_port status.Memory refl)
port_or_none status.Usage = inr (no_port status.Usage refl)
port_or_none status.TablesNotToml = inr (no_port status.TablesNotToml refl)
port_or_none (status.TablesRule k) = inr (no_port (status.TablesRule k) refl)
port_or_none (status.Line k) = inr (no_port (status.Line k) refl)
port_or_none (status.TooLong d) = inr (no_port (status.TooLong d) refl)
port_or_none (status.Missing d) = inr (no_port (status.Missing d) refl)
port_or_none (status.SomeRefused k) = inr (no_port (status.SomeRefused k) refl)
port_or_none status.Cabinet = inr (no_port status.Cabinet refl)
port_or_none (status.Foreign d) = inr (no_port (status.Foreign d) refl)
port_or_none status.NoImage = inr (no_port status.NoImage refl)
port_or_none (status.Busy d) = inr (no_port (status.Busy d) refl)

-- ---- what a call did

-- over the flashes that it found, it put nothing; or the tables are these, and it synced both flashes first
abbrev IdleOrOf : TablesData → Option Files → List ℕ → Told → Told → Type 0
IdleOrOf t files name m n = Runs AreIdle m n ⊎ (HasTables files name t × FromBoth m n)

module _ (t : TablesData) (tables : IsTables t) (l : LedgerData) (start : Flashes) (found : AreFound t l start) (files : Option Files) (name : List ℕ)
    (only : (u : TablesData) → HasTables files name u → u.digest ≡ t.digest → u ≡ t) (m b n : Told) (told : m.flashes ≡ Some start) where
  -- tables of which these flashes hold a ledger are these
  of_tables : (u : TablesData) → HasTables files name u → (k : LedgerData) → AreFound u k start → HasTables files name t
  of_tables u given k also = subst (HasTables files name) (only u given (found_digest t u l k start tables given.valid found also)) given

  module _ (text : Option (List ℕ)) (tells : Tells text b n) where
    idle_all : Idles m b → IdleOrOf t files name m n
    idle_all idles = inl (idles-append m b n idles (told_idles text b n tells))

    found_so : (u : TablesData) → HasTables files name u → (k : LedgerData) → AreFound u k start → FromBoth m b → HasTables files name t × FromBoth m n
    found_so u given k also from = let fault = tells_does text b n tells in (of_tables u given k also, from_both m b n from fault.0 fault.1)

    opens_so : (u : TablesData) → HasTables files name u → OpensOrNot u start m b → IdleOrOf t files name m n
    opens_so u given (inl front) = idle_all (front_idles m b front)
    opens_so u given (inr ((k, also), from)) = inr (found_so u given k also from)

    opened_so : (u : TablesData) → HasTables files name u → (k : LedgerData) (a : Told) → IsOpened u k m a → (more : List Op) → Does more a b → HasTables files name t × FromBoth m n
    opened_so u given k a opened more does =
        let from : FromBoth m a = (opened.ran.0, opened.ran.1, (opened.ran.2.0, opened.ran.2.1)) in
        found_so u given k (opened.ran.2.2.stops start told).0 (from_both m a b from more does)

-- ---- one call more

module _ (t : TablesData) (l : LedgerData) (origin : Flashes) (ready : AreReady t l origin) where
  abbrev At : List Call → List ℕ → List ℕ → Type 0
  At calls a b = HasKept t l origin calls (images a b)

  -- so much is kept of every image
  abbrev Kept : List Call → Flashes → Type 0
  Kept calls flashes = (a b : List ℕ) → IsImage flashes.internal a → IsImage flashes.external b → At calls a b

  kept_first : Kept [] origin
  kept_first a b internal external =
      let i = clean_image origin.internal a (ready.clean dev.Internal) internal in
      let e = clean_image origin.external b (ready.clean dev.External) external in
      record {
        ledger = l;
        found = subst (λ (x : List ℕ). AreFound t l (clean_flashes x b)) (sym i) (subst (λ (y : List ℕ). AreFound t l (clean_flashes origin.internal.content y)) (sym e) found_clean);
        whole = first_whole a b i e;
        led = stays;
        frames = frames_same body_size origin (images a b) ready.clean internal external;
      }
    where
      framed_clean : AreFramed t (clean_flashes origin.internal.content origin.external.content)
      framed_clean dev.Internal = ready.found.framed dev.Internal
      framed_clean dev.External = ready.found.framed dev.External

      found_clean : AreFound t l (clean_flashes origin.internal.content origin.external.content)
      found_clean = record { framed = framed_clean; held = ready.found.held }

      first_whole : (a b : List ℕ) → a ≡ origin.internal.content → b ≡ origin.external.content → AreWhole (clean_flashes a b)
      first_whole a b i e dev.Internal = ap length i ∙ ready.whole dev.Internal
      first_whole a b i e dev.External = ap length e ∙ ready.whole dev.External

  -- also of what reads give
  contents_kept : (calls : List Call) (flashes : Flashes) → Kept calls flashes → At calls flashes.internal.content flashes.external.content
  contents_kept calls flashes kept =
      let all : Left → Type 0 = λ left. At calls left.internal left.external in
      at_end flashes [] all (stops_none flashes all (λ left is. kept left.internal left.external is.internal is.external))

  -- flashes of which so much is kept hold the ledger
  found_of : (k : LedgerData) (flashes : Flashes) → AreFound t k (clean_flashes flashes.internal.content flashes.external.content) → AreFound t k flashes
  found_of k flashes found = record { framed = framed; held = found.held }
    where
      framed : AreFramed t flashes
      framed dev.Internal = found.framed dev.Internal
      framed dev.External = found.framed dev.External

  module _ (before : List Call) (start : Flashes) (kept : Kept before start) (x : Call) where
    -- what it finds
    here : At before start.internal.content start.external.content
    here = contents_kept before start kept

    found : AreFound t here.ledger start
    found = found_of here.ledger start here.found

    whole : AreWhole start
    whole dev.Internal = here.whole dev.Internal
    whole dev.External = here.whole dev.External

    abbrev AtNext : List ℕ → List ℕ → Type 0
    AtNext a b = At (x ∷ before) a b

    -- a call that leaves the ledger as it is
    add_same : (a b : List ℕ) (kept : At before a b) → LeadsTo t x kept.ledger kept.ledger → AtNext a b
    add_same a b kept one = record { ledger = kept.ledger; found = kept.found; whole = kept.whole; led = leads kept.led one; frames = kept.frames }

    -- what is left of one that holds this ledger
    add_held : (m : LedgerData) (left : Left) → HeldByBoth (ledgers t) left.internal left.external m → KeepFrames body_size start left → LeadsTo t x here.ledger m
        → AtNext left.internal left.external
    add_held m left held frames one =
        let is : IsLedgerAgain t (m ∷ []) left = again t m (m ∷ []) start left whole found.framed frames held (Contains-get_or (m ∷ []) 0 m (omega arith)) in
        record {
          ledger = m;
          found = record { framed = is.found.framed; held = held };
          whole = is.whole;
          led = leads here.led one;
          frames = frames_text body_size origin left [] (frames_then body_size origin start left [] here.frames frames);
        }

    -- ---- any call

    module _ (next : Flashes) (is : IsCall start x next) (may : MayBeCalled t start x is.done) (a e : List ℕ) (stop : IsStop is.ops is.done)
        (internal : IsImage (after is.done start).internal a) (external : IsImage (after is.done start).external e)
        (over : IsOver port_status x.status is.answer is.ops is.done) where
      -- words of another command, or of none, take no report in
      no_receipt : (command : Option Command) → command_of x.words ≡ command → ((names : Recebe) → command ≢ Some (ToReceive names)) → (listed : List (List ℕ)) → ¬ IsReceiptOf t x listed
      no_receipt command is_this none listed of = none of.names (sym is_this ∙ of.command)

      idle_step : Idles is.machine is.machine_after → (At before a e → (k : LedgerData) → LeadsTo t x k k) → AtNext a e
      idle_step idles one =
          let before_it = idle_images is.done start a e (idle_stop is.ops is.done (idle_trail is.machine is.machine_after start is.ops is.traced idles) stop) internal external in
          let same = kept a e before_it.0 before_it.1 in
          add_same a e same (one same same.ledger)

      idle_here : Idles is.machine is.machine_after → ((listed : List (List ℕ)) → ¬ IsReceiptOf t x listed) → AtNext a e
      idle_here idles none = idle_step idles (λ same k. other none)

      then_told : Idles is.machine is.ends.between → Idles is.machine is.machine_after
      then_told idles = idles-append is.machine is.ends.between is.machine_after idles (told_idles (fault_text is.answer) is.ends.between is.machine_after is.ends.told)

      command_ends : (command : Option Command) → command_of x.words ≡ command → CommandEnds command is.cabinet is.cabinet_after is.machine is.ends.between is.answer
      command_ends command is_this =
          subst (λ (o : Option Command). CommandEnds o is.cabinet is.cabinet_after is.machine is.ends.between is.answer) is_this is.ends.command

      -- tables of the same hash are these
      module _ (command : Command) (is_this : command_of x.words ≡ Some command) where
        only : (u : TablesData) → HasTables is.cabinet.files (tables_of command) u → u.digest ≡ t.digest → u ≡ t
        only u given same = may.no_collision command is_this u (subst (λ (o : Option Files). HasTables o (tables_of command) u) is.told given) same

      -- what is left within the two syncs
      early : IsStop both_synced is.done → AtNext a e
      early stop_first =
          let left = syncs_leave_no_more start is.done (record { internal = a; external = e; shown = shown_by is.done }) stop_first (record { internal = internal; external = external; shown = refl }) in
          add_same a e (kept a e left.internal left.external) (silent (is.shown ∙ left.shown))

      -- ---- abre

      begin_step : (name : List ℕ) → command_of x.words ≡ Some (ToBegin name) → AtNext a e
      begin_step name is_this =
          let others = no_receipt (Some (ToBegin name)) is_this (λ names same. absurd (cc)) in
          elim (cases_eq (accepted_in here.ledger) 0) [
            | inl none ↦
                let before_it = idle_images is.done start a e (may.no_begin name is_this here.ledger found none) internal external in
                add_same a e (kept a e before_it.0 before_it.1) (other others)
            | inr some ↦
                let used = found_in_use t here.ledger start found some in
                idle_here (then_told (abre_idles start used.0 used.1 is.machine is.ends.between is.traced.flashes name is.cabinet is.cabinet_after is.answer (command_ends (Some (ToBegin name)) is_this))) others
          ]

      -- ---- a ledger that is opened

      module _ (command : Command) (is_this : command_of x.words ≡ Some command) where
        abbrev Did : Type 0
        Did = IdleOrOf t is.cabinet.files (tables_of command) is.machine is.machine_after

        did_nothing : IsUntouched is.machine is.ends.between → Did
        did_nothing un =
            idle_all t ready.tables here.ledger start found is.cabinet.files (tables_of command) (only command is_this) is.machine is.ends.between is.machine_after is.traced.flashes
            (fault_text is.answer) is.ends.told (untouched_idles is.machine is.ends.between un)

        did_open : (u : TablesData) → HasTables is.cabinet.files (tables_of command) u → OpensOrNot u start is.machine is.ends.between → Did
        did_open u given opens =
            opens_so t ready.tables here.ledger start found is.cabinet.files (tables_of command) (only command is_this) is.machine is.ends.between is.machine_after is.traced.flashes
            (fault_text is.answer) is.ends.told u given opens

        did_more : (u : TablesData) → HasTables is.cabinet.files (tables_of command) u → (k : LedgerData) (between : Told) → IsOpened u k is.machine between
            → (more : List Op) → Does more between is.ends.between → HasTables is.cabinet.files (tables_of command) t × FromBoth is.machine is.machine_after
        did_more u given k between opened more does =
            opened_so t ready.tables here.ledger start found is.cabinet.files (tables_of command) (only command is_this) is.machine is.ends.between is.machine_after is.traced.flashes
            (fault_text is.answer) is.ends.told u given k between opened more does

      -- what was done behind the two syncs
      module _ (from : FromBoth is.machine is.machine_after) where
        abbrev rest : List Op
        rest = from.2.0

        row : is.ops ≡ both_synced ++ rest
        row = sym (traced_is is.machine is.machine_after start is.ops from.0 is.traced from.1) ∙ from.2.1

        traced_behind : IsTraced is.machine is.machine_after start (both_synced ++ rest)
        traced_behind = subst (λ (ops : List Op). IsTraced is.machine is.machine_after start ops) row is.traced

        -- it was stopped within the syncs, or behind them
        behind_syncs : ((later : List Op) → is.done ≡ both_synced ++ later → IsStop rest later → AtNext a e) → AtNext a e
        behind_syncs h = elim (stop-append both_synced rest is.done (subst (λ (ops : List Op). IsStop ops is.done) row stop)) [
          | inl within ↦ early within
          | inr (later, front, behind) ↦ h later front behind
        ]

        left_behind : (later : List Op) → is.done ≡ both_synced ++ later → IsLeft (after later (after both_synced start)) (shown_by later) (record { internal = a; external = e; shown = shown_by later })
        left_behind later front =
            record {
              internal = subst (λ (ops : List Op). IsImage (after ops start).internal a) front internal;
              external = subst (λ (ops : List Op). IsImage (after ops start).external e) front external;
              shown = refl;
            }

      -- ---- totais

      module _ (name : List ℕ) (is_this : command_of x.words ≡ Some (ToTotal name)) where
        total_does : (s : LedgerStatus) → TotaisEnds name is.cabinet is.cabinet_after is.machine is.ends.between s → Did (ToTotal name) is_this
        total_does s (total_refused why taken un) = did_nothing (ToTotal name) is_this un
        total_does _ (total_no_memory taken un) = did_nothing (ToTotal name) is_this un
        total_does _ (total_no_cabinet taken un) = did_nothing (ToTotal name) is_this un
        total_does _ (none_opened {t = u} error given taken fails) =
            did_open (ToTotal name) is_this u given (unopened u start is.machine is.ends.between is.traced.flashes error fails)
        total_does _ (no_lines {t = u} {l = k} given taken opened) =
            inr (did_more (ToTotal name) is_this u given k is.ends.between opened [] (does_nothing is.ends.between))
        total_does _ (totals_untold {t = u} {l = k} between given taken opened off safe) =
            inr (did_more (ToTotal name) is_this u given k between opened off.ops off.does)
        total_does _ (totals_told {t = u} {l = k} between given taken opened shown safe) =
            inr (did_more (ToTotal name) is_this u given k between opened _ shown.does)

        total_step : AtNext a e
        total_step = elim (total_does is.answer (command_ends (Some (ToTotal name)) is_this)) [
          | inl idles ↦ idle_here idles others
          | inr (given, from) ↦ behind_syncs from (λ later front behind. held given from later front behind)
        ]
          where
            others : (listed : List (List ℕ)) → ¬ IsReceiptOf t x listed
            others = no_receipt (Some (ToTotal name)) is_this (λ names same. absurd (cc))

            held : HasTables is.cabinet.files name t → (from : FromBoth is.machine is.machine_after) (later : List Op) → is.done ≡ both_synced ++ later → IsStop (rest from) later → AtNext a e
            held given from later front behind =
                let left : Left = record { internal = a; external = e; shown = shown_by later } in
                let traced : TotaisTraced x.words name is.cabinet is.cabinet_after is.machine is.machine_after is.answer x.files t start (rest from) =
                record {
                  command = is_this;
                  ends = is.ends;
                  cabinet = is.told;
                  given = subst (λ (o : Option Files). HasTables o name t) is.told given;
                  traced = traced_behind from;
                } in
                let kept_so =
                (ledger_is_kept x.words name is.cabinet is.cabinet_after is.machine is.machine_after is.answer x.files t here.ledger start (rest from) found traced).0 later behind left (left_behind from later front) in
                add_held here.ledger left kept_so.0 kept_so.1 (other others)

      -- ---- recebe

      module _ (answers : OneListAnswers) (names : Recebe) (is_this : command_of x.words ≡ Some (ToReceive names)) where
        abbrev Receives : Type 0
        Receives =
            (Idles is.machine is.machine_after × ((listed : List (List ℕ)) → ¬ IsReceiptOf t x listed))
            ⊎ (Runs IsFrontOfSyncs is.machine is.machine_after
            ⊎ ((listed : List (List ℕ)) × IsListed is.cabinet.files names.tables names.list t listed × FromBoth is.machine is.machine_after))

        -- the names that it was given
        given_names : (listed : List (List ℕ)) → IsReceiptOf t x listed → IsListed (Some x.files) names.tables names.list t listed
        given_names listed of =
            let both : Some (ToReceive of.names) ≡ Some (ToReceive names) = sym of.command ∙ is_this in
            let same : of.names ≡ names = cc in
            subst (λ (r : Recebe). IsListed (Some x.files) r.tables r.list t listed) same of.given

        -- other tables, of which the flashes are not, give no report
        not_these : (u : TablesData) (others : List (List ℕ)) → IsListed is.cabinet.files names.tables names.list u others → (u ≡ t → ⊥) → (listed : List (List ℕ)) → ¬ IsReceiptOf t x listed
        not_these u others also clash listed of =
            clash (same_tables x.files names.tables u t (subst (λ (o : Option Files). HasTables o names.tables u) is.told also.tables) (given_names listed of).tables)

        front_same : (s : LedgerStatus) → is.machine_after ≡ is.ends.between → Runs IsFrontOfSyncs is.machine is.ends.between → Receives
        front_same s same front = inr (inl (subst (Runs IsFrontOfSyncs is.machine) (sym same) front))

        untouched_front : IsUntouched is.machine is.ends.between → Runs IsFrontOfSyncs is.machine is.ends.between
        untouched_front un = subst (Runs IsFrontOfSyncs is.machine) (sym un) ([], does_nothing is.machine, inl (inl refl))

        idle_told : (text : Option (List ℕ)) → Tells text is.ends.between is.machine_after → Idles is.machine is.ends.between → Idles is.machine is.machine_after
        idle_told text tells idles = idles-append is.machine is.ends.between is.machine_after idles (told_idles text is.ends.between is.machine_after tells)

        -- no ledger was opened
        none_opened_so : (u : TablesData) (others : List (List ℕ)) → IsListed is.cabinet.files names.tables names.list u others → (error : LedgerError)
            → FailsToOpen u is.machine is.ends.between error → Tells (fault_text (ledger_status error)) is.ends.between is.machine_after → Runs IsFrontOfSyncs is.machine is.ends.between → Receives
        none_opened_so u others also ledger.Memory fails tells front = front_same status.Memory tells front
        none_opened_so u others also (ledger.Flash dev.Internal) fails tells front = front_same status.InternalFlash tells front
        none_opened_so u others also (ledger.Flash dev.External) fails tells front = front_same status.ExternalFlash tells front
        none_opened_so u others also (ledger.Foreign dev.Internal) fails tells front =
            inl (
              idle_told (fault_text (status.Foreign dev.Internal)) tells (front_idles is.machine is.ends.between front),
              not_these u others also (λ same. fails.1 start is.traced.flashes (subst (λ (y : TablesData). AreFramed y start) (sym same) found.framed dev.Internal)),
            )
        none_opened_so u others also (ledger.Foreign dev.External) fails tells front =
            inl (
              idle_told (fault_text (status.Foreign dev.External)) tells (front_idles is.machine is.ends.between front),
              not_these u others also (λ same. (fails.1 start is.traced.flashes).1 (subst (λ (y : TablesData). AreFramed y start) (sym same) found.framed dev.External)),
            )
        none_opened_so u others also ledger.NoImage fails tells front =
            inl (
              idle_told (fault_text status.NoImage) tells (front_idles is.machine is.ends.between front),
              not_these u others also (λ same.
                  let held = (subst (λ (y : TablesData). AreFound y here.ledger start) (sym same) found).held in
                  hold_or_none (ledgers u) (bodies_of_both body_size start.internal.content start.external.content) here.ledger (fails.1 start is.traced.flashes).none held),
            )
        none_opened_so u others also (ledger.Busy d) fails tells front = absurd fails

        -- the list was read with these tables
        listed_so : (others : List (List ℕ)) (u : TablesData) → IsListed is.cabinet.files names.tables names.list u others → HasTables is.cabinet.files names.tables t × FromBoth is.machine is.machine_after → Receives
        listed_so others u also (tables_are, from) = inr (inr (others, record { tables = tables_are; list = also.list }, from))

        held_so : (u : TablesData) (others left : List (List ℕ)) (verdicts : List Verdict) → IsListed is.cabinet.files names.tables names.list u others
            → HasReceived is.cabinet.files u others left verdicts is.machine is.ends.between → Receives
        held_so u others left verdicts also h = listed_so others u also (did_more (ToReceive names) is_this u also.tables h.first h.between h.opened h.put.ops h.put.does)

        receive_does : (s : LedgerStatus) → Tells (fault_text s) is.ends.between is.machine_after → RecebeEnds names is.cabinet is.cabinet_after is.machine is.ends.between s → Receives
        receive_does s tells (list_refused why taken un) =
            let says = error_told error_of s (IsFirstFaultOf (Some x.files) names.tables doc.List names.list) (subst (λ (o : Option Files). IsFirstFault o names.tables doc.List names.list s) is.told why) in
            inl (
              idle_told (fault_text s) tells (untouched_idles is.machine is.ends.between un),
              λ listed of. refused_or_listed answers x.files names.tables names.list says.0 t listed says.2 (given_names listed of),
            )
        receive_does _ tells (list_no_memory taken un) = front_same status.Memory tells (untouched_front un)
        receive_does _ tells (list_no_cabinet taken un) = front_same status.Cabinet tells (untouched_front un)
        receive_does _ tells (not_opened {t = u} {listed = others} error also taken fails) =
            elim (unopened u start is.machine is.ends.between is.traced.flashes error fails) [
              | inl front ↦ none_opened_so u others also error fails tells front
              | inr ((k, there), from) ↦
                  listed_so others u also
                  (found_so t ready.tables here.ledger start found is.cabinet.files names.tables (only (ToReceive names) is_this) is.machine is.ends.between is.machine_after is.traced.flashes
                  (fault_text (ledger_status error)) tells u also.tables k there from)
            ]
        receive_does _ tells (cut {t = u} {listed = others} p also taken h) =
            listed_so others u also (did_more (ToReceive names) is_this u also.tables h.first h.between h.opened h.stopped.ops h.stopped.does)
        receive_does s tells (report_refused {t = u} {listed = others} {left} {name} {verdicts} also h fault taken) = held_so u others (name ∷ left) verdicts also h
        receive_does _ tells (report_no_cabinet {t = u} {listed = others} {left} {name} {verdicts} also h taken) = held_so u others (name ∷ left) verdicts also h
        receive_does _ tells (report_no_memory {t = u} {listed = others} {left} {name} {verdicts} also h taken) = held_so u others (name ∷ left) verdicts also h
        receive_does _ tells (received {t = u} {listed = others} {verdicts} also h taken) = held_so u others [] verdicts also h

        -- a call that did no more than the syncs
        front_step : Runs IsFrontOfSyncs is.machine is.machine_after → AtNext a e
        front_step (ops, does, front) = early (go (subst IsFrontOfSyncs (traced_is is.machine is.machine_after start is.ops ops is.traced does) front))
          where
            go : IsFrontOfSyncs is.ops → IsStop both_synced is.done
            go (inl within) = within_stop is.ops is.done within stop
            go (inr both) = subst (λ (ops : List Op). IsStop ops is.done) both stop

        module _ (listed : List (List ℕ)) (given : IsListed is.cabinet.files names.tables names.list t listed) (from : FromBoth is.machine is.machine_after) (later : List Op)
            (front : is.done ≡ both_synced ++ later) (behind : IsStop (rest from) later) where
          abbrev left : Left
          left = record { internal = a; external = e; shown = shown_by later }

          listed_here : IsListed (Some x.files) names.tables names.list t listed
          listed_here = subst (λ (o : Option Files). IsListed o names.tables names.list t listed) is.told given

          takes : TakesIn (Some x.files) t here.ledger listed is.answer start (rest from)
          takes =
              offers_are_kept x.words names is.cabinet is.cabinet_after is.machine is.machine_after is.answer x.files t listed here.ledger start (rest from) found
              (record { command = is_this; ends = is.ends; cabinet = is.told; given = listed_here; traced = traced_behind from })

          keeps : KeepsOffers (Some x.files) t here.ledger listed takes.pieces is.answer start left
          keeps = takes.kept.both later behind left (left_behind from later front)

          shown_is : x.shown ≡ shown_by later
          shown_is = is.shown ∙ ap shown_by front

          -- of a call that ended, and in which no port failed, all was told
          no_more : (x.status ≡ Some is.answer) × (is.done ≡ is.ops) → ((p : Port) → is.answer ≢ port_status p)
              → keeps.both.reached ≢ verdicts_begun here.ledger takes.pieces (length (shown_by later)) + 1
          no_more (with, all) none more =
              let same : later ≡ rest from = append_cancel_left both_synced later (rest from) (sym front ∙ all ∙ row from) in
              let (behind, text) = takes.told none in
              let told = all_begun (Some x.files) t here.ledger takes.last listed takes.unread takes.verdicts takes.pieces takes.are (shown_by (rest from)) behind text in
              let begun_here = ap (λ (ops : List Op). verdicts_begun here.ledger takes.pieces (length (shown_by ops))) same in
              absurd (omega (arith, more, told, begun_here, keeps.both.few))

          told_so : IsToldOrOneMore port_status x.status (verdicts_begun here.ledger takes.pieces (length (shown_by later))) keeps.both.reached
          told_so = elim keeps.both.told [
            | inl same ↦ inl same
            | inr more ↦ elim over [
              | inl stopped ↦ inr (stopped, more)
              | inr end ↦ elim (port_or_none is.answer) [
                | inl (p, is_p) ↦ inr (subst (IsInterrupted port_status) (sym (end.0 ∙ ap (λ (s : LedgerStatus). Some s) is_p)) (failed p), more)
                | inr none ↦ absurd (no_more end none more)
              ]
            ]
          ]

          -- where some reports were refused, or none, all were taken in
          all_so : (refused : ℕ) → (is.answer ≡ refused_status refused) × (is.done ≡ is.ops) → keeps.both.reached ≡ length listed
          all_so refused end =
              let same : later ≡ rest from = append_cancel_left both_synced later (rest from) (sym front ∙ end.1 ∙ row from) in
              let (behind, text) = takes.told (λ p is_p. not_refused_port p refused (sym is_p ∙ end.0)) in
              let told = all_begun (Some x.files) t here.ledger takes.last listed takes.unread takes.verdicts takes.pieces takes.are (shown_by (rest from)) behind text in
              let begun_here = ap (λ (ops : List Op). verdicts_begun here.ledger takes.pieces (length (shown_by ops))) same in
              let many = all_taken (Some x.files) t here.ledger takes.last listed takes.unread takes.verdicts takes.pieces takes.are (takes.all refused end.0) in
              elim keeps.both.told [
                | inl as_told ↦ omega (arith, as_told, told, begun_here, many)
                | inr more ↦ absurd (omega (arith, more, told, begun_here, keeps.both.few))
              ]

          on : ReceivesOn t x listed here.ledger keeps.both.ledger
          on =
              record {
                unread = takes.unread;
                verdicts = takes.verdicts;
                pieces = takes.pieces;
                last = takes.last;
                are = takes.are;
                answer = is.answer;
                rest = keeps.rest;
                front = keeps.front ∙ ap (λ (shown : List ℕ). shown ++ keeps.rest) (sym shown_is);
                number = keeps.both.reached;
                after = keeps.both.after;
                told = subst (λ (shown : List ℕ). IsToldOrOneMore port_status x.status (verdicts_begun here.ledger takes.pieces (length shown)) keeps.both.reached) (sym shown_is) told_so;
                ended = λ s with. (ended_with start next is.ops is.done is.answer x.status is.goes_on s with).0;
                all = λ refused with. all_so refused (ended_with start next is.ops is.done is.answer x.status is.goes_on (refused_status refused) with);
              }

          offers_step : AtNext a e
          offers_step = elim (none_or_some x.shown) [
            | inl nothing ↦ add_held here.ledger left (keeps.before (sym shown_is ∙ nothing)) keeps.frames (silent nothing)
            | inr some ↦ add_held keeps.both.ledger left keeps.both.is keeps.frames (takes_in (record { names = names; command = is_this; given = listed_here }) some on)
          ]

        receive_step : AtNext a e
        receive_step = elim (receive_does is.answer is.ends.told (command_ends (Some (ToReceive names)) is_this)) [
          | inl (idles, none) ↦ idle_here idles none
          | inr (inl front) ↦ front_step front
          | inr (inr (listed, given, from)) ↦ behind_syncs from (λ later front behind. offers_step listed given from later front behind)
        ]

      any_step : OneListAnswers → (command : Option Command) → command_of x.words ≡ command → AtNext a e
      any_step answers None is_this =
          idle_here (then_told (untouched_idles is.machine is.ends.between (command_ends None is_this).untouched)) (no_receipt None is_this (λ names same. absurd (cc)))
      any_step answers (Some (ToBegin name)) is_this = begin_step name is_this
      any_step answers (Some (ToReceive names)) is_this = receive_step answers names is_this
      any_step answers (Some (ToTotal name)) is_this = total_step name is_this

    step : OneListAnswers → (next : Flashes) (is : IsCall start x next) → MayBeCalled t start x is.done → Kept (x ∷ before) next
    step answers next is may a e internal external =
        goes port_status start is.answer is.ops is.done x.status next AtNext is.goes_on
        (λ b f stop first second over. any_step next is may b f stop first second over answers (command_of x.words) refl) a e internal external

  all_kept : OneListAnswers → (calls : List Call) (last : Flashes) → AreDone t origin calls last → Kept calls last
  all_kept answers _ _ done_nothing = kept_first
  all_kept answers _ last (done_call {before} {now} {x} done is may) = step before now (all_kept answers before now done) x answers last is may

pub calls_keep_offers : OneListAnswers → CallsKeepOffers
calls_keep_offers answers t l start last calls ready done left is =
    let kept = all_kept t l start ready answers calls last done left.internal left.external is.internal is.external in
    record {
      ledger = kept.ledger;
      found = kept.found;
      whole = kept.whole;
      led = kept.led;
      frames = frames_text body_size start (images left.internal left.external) left.shown kept.frames;
    }

pub next_is_found : OneListAnswers → NextIsFound
next_is_found answers t l start last calls ready done =
    let kept = contents_kept t l start ready calls last (all_kept t l start ready answers calls last done) in
    (kept.ledger, kept.led, found_of t l start ready kept.ledger last kept.found)

-- ---- a ledger that was begun

not_done : (e : LedgerError) → ledger_status e ≢ status.Done
not_done ledger.Memory is = absurd (cc)
not_done (ledger.Flash dev.Internal) is = absurd (cc)
not_done (ledger.Flash dev.External) is = absurd (cc)
not_done (ledger.Foreign d) is = absurd (cc)
not_done ledger.NoImage is = absurd (cc)
not_done (ledger.Busy d) is = absurd (cc)

module _ (name : List ℕ) (c d : CabinetTold) (m b n : Told) (files : Files) (told : c.files ≡ Some files) (t : TablesData) (given : HasTables (Some files) name t) (start : Flashes)
    (flashes : b.flashes ≡ Some start) (sizes : AreDevices b.sizes) (sized : AreSized b.sizes start) where
  begun_ready : (between : Told) → HasBegun t m between → between.flashes ≡ Some start → AreReady t (empty_ledger t) start
  begun_ready between h there =
      let rest = h.rest start there in
      record {
        tables = given.valid;
        whole = λ d. sized.content d ∙ sizes d;
        clean = rest.2.clean;
        found = rest_is_found t (empty_ledger t) b.sizes start sizes sized rest;
      }

  begins : (s : LedgerStatus) → s ≡ status.Done → AbreEnds name c d m b s → AreReady t (empty_ledger t) start
  begins s is (begin_refused why taken un) = absurd (subst (λ (y : LedgerStatus). IsFault c.files name doc.Tables y) is why)
  begins _ is (begin_no_memory taken un) = absurd (cc)
  begins _ is (begin_no_cabinet taken un) = absurd (cc)
  begins _ is (not_begun e also taken h) = absurd (not_done e is)
  begins _ is (begun_untold between also taken h off) = absurd (cc)
  begins _ is (begun {t = u} between also taken h shown) =
      let same = same_tables files name u t (subst (λ (o : Option Files). HasTables o name u) told also) given in
      let there : between.flashes ≡ Some start =
      sym (shows_keep (shows (ledger_line 0 ∷ [])) between b (shows_lines (ledger_line 0 ∷ [])).shows shown.does) ∙ flashes in
      begun_ready between (subst (λ (y : TablesData). HasBegun y m between) same h) there

pub begin_makes_ready : BeginMakesReady
begin_makes_ready words name c d m n files t start ends is told given flashes sizes sized =
    let same : n ≡ ends.between = ends.told in
    begins name c d m ends.between n files told t given start (ap (λ (x : Told). x.flashes) (sym same) ∙ flashes)
    (subst (λ (x : Told). AreDevices x.sizes) same sizes) (subst (λ (x : Told). AreSized x.sizes start) same sized) status.Done refl
    (subst (λ (o : Option Command). CommandEnds o c d m ends.between status.Done) is ends.command)

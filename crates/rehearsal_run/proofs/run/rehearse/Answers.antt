use Rattle.std.proofs.Common.{◌≡◌, ◌∙◌, ℕ, List, sym, ap, subst}
use Rattle.sha2.specs.Sha256.{sha256}
use Rattle.election_tables.specs.Roll.{RollData}
use Rattle.election_tables.specs.TablesData.{TablesData}
use Rattle.turnout.specs.declared.phase.Phase.TheVariants as phase
use Rattle.image_codec.specs.Encoding.{IsStateOf}
use Rattle.image_codec.specs.State.{State}
use Rattle.urna_outside.specs.declared.device.Dev.TheVariants.{Internal}
use Rattle.state_store.specs.Load.{load_of}
use Rattle.state_store.specs.Rest.{rest}
use Rattle.rehearsal.specs.Roll.{generated_roll}
use Rattle.rehearsal.specs.Script.{closing_moment, opening_moment}
use Rattle.rehearsal.specs.Tables.{generated_section, generated_tables}
use Rattle.rehearsal_run.specs.Sealed.{IsRehearsal}
use Rattle.rehearsal_run.proofs.Rehearsing.{rehearsed_by}
use Rattle.rehearsal_run.proofs.Sealing.{run_seals}
use Rattle.rehearsal_run.proofs.run.rehearse.Goals as goal

-- tables and a roll of so many voters are those with their own digests
own_tables : (n : ℕ) (digest : List ℕ) (t : TablesData) → t ≡ generated_tables n digest → t ≡ generated_tables n t.digest
own_tables n digest t is = is ∙ ap (λ (d : List ℕ). generated_tables n d) (sym (ap (λ (x : TablesData). x.digest) is))

own_roll : (n : ℕ) (digest : List ℕ) (r : RollData) → r ≡ generated_roll n digest → r ≡ generated_roll n r.digest
own_roll n digest r is = is ∙ ap (λ (d : List ℕ). generated_roll n d) (sym (ap (λ (x : RollData). x.digest) is))

pub hold_rehearsal-requires-clause-valid : goal.hold_rehearsal-requires-clause-valid
hold_rehearsal-requires-clause-valid c = c.in_ok-tables_text.ensures.valid

pub hold_rehearsal-requires-clause-tables : goal.hold_rehearsal-requires-clause-tables
hold_rehearsal-requires-clause-tables c = own_tables c.args.n _ c.in_ok-tables_text.tables c.in_ok-tables_text.ensures.tables

pub hold_rehearsal-requires-clause-valid_roll : goal.hold_rehearsal-requires-clause-valid_roll
hold_rehearsal-requires-clause-valid_roll c = c.in_ok-roll_text.ensures.valid

pub hold_rehearsal-requires-clause-roll : goal.hold_rehearsal-requires-clause-roll
hold_rehearsal-requires-clause-roll c = own_roll c.args.n _ c.in_ok-roll_text.roll c.in_ok-roll_text.ensures.roll

pub unreachable-requires : goal.unreachable-requires
unreachable-requires c =
    let last = c.in_ok-held.held.station.standing.state in
    let run = c.in_ok-held.ensures.run in
    c.in_default.not-Sealed opening_moment closing_moment
    (c.phase.ensures.phase ∙ (ap (λ (s : State). s.phase) c.state-state.ensures ∙ run_seals c.args.n _ last run.0 run.1))

pub total-requires-clause-valid : goal.total-requires-clause-valid
total-requires-clause-valid c = c.in_ok-tables_text.ensures.valid

pub total-requires-clause-tables : goal.total-requires-clause-tables
total-requires-clause-tables c = own_tables c.args.n _ c.in_ok-tables_text.tables c.in_ok-tables_text.ensures.tables

pub total-requires-clause-state : goal.total-requires-clause-state
total-requires-clause-state c =
    subst (λ (u : State). IsStateOf c.in_ok-tables_text.tables c.args.n u) (sym c.state-state.ensures) c.in_ok-held.ensures.state

pub total-requires-clause-sealed : goal.total-requires-clause-sealed
total-requires-clause-sealed c = sym c.phase.ensures.phase ∙ c.in-Sealed.is

pub returns : goal.returns
returns c =
    let n = c.args.n in
    let t = c.in_ok-tables_text.tables in
    let r = c.in_ok-roll_text.roll in
    let digest = sha256 c.in_ok-tables_text.tables_text.items in
    let s = c.state-state.result.now in
    let last = c.in_ok-held.held.station.standing.state in
    let opened = c.in-Sealed.opened in
    let closed = c.in-Sealed.closed in
    let is_last : s ≡ last = c.state-state.ensures in
    let run = c.in_ok-held.ensures.run in
    let sealed : s.phase ≡ phase.Sealed opened closed = sym c.phase.ensures.phase ∙ c.in-Sealed.is in
    let moments : phase.Sealed opened closed ≡ phase.Sealed opening_moment closing_moment =
    sym sealed ∙ (ap (λ (u : State). u.phase) is_last ∙ run_seals n t.digest last run.0 run.1)
    in
    let opens : opened ≡ opening_moment = cc in
    let closes : closed ≡ closing_moment = cc in
    let with_digest = subst (λ (d : List ℕ). IsRehearsal n d last run.0) (ap (λ (x : TablesData). x.digest) c.in_ok-tables_text.ensures.tables) run.1 in
    rehearsed_by n _ s run.0 t r opened closed c.in_ok-tables_text.ensures.tables c.in_ok-roll_text.ensures.roll opens closes
    c.in_ok-tables_text.ensures.printed c.in_ok-roll_text.ensures.lines c.in_ok-keys.ensures.lines c.in_ok-tables_text.ensures.read
    c.in_ok-roll_text.ensures.read c.in_ok-keys.ensures.read (subst (λ (u : State). IsRehearsal n digest u run.0) (sym is_last) with_digest)
    (ap (λ (u : State). u.phase) is_last ∙ run_seals n t.digest last run.0 run.1)
    (c.in_ok-held.ensures.flash ∙ ap (λ (u : State). rest t (load_of t r (generated_section n)) Internal u) (sym is_last)) c.in_ok-totalled.ensures.report
    c.in_ok-totalled.ensures.accepted c.in_ok-totalled.ensures.record_file c.in_ok-totalled.ensures.lines

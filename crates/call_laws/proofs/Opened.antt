-- A poll that was opened stays one that was, and steps lead to their ballots
use Rattle.std.proofs.Common.{◌≡◌, ◌≢◌, ℕ, List, [], ◌∷◌, length, refl}
use Rattle.key_script.specs.declared.keys.Event.{Event}
use Rattle.turnout.specs.declared.phase.Phase.{Phase}
use Rattle.turnout.specs.declared.phase.Phase.TheVariants as phase
use Rattle.vote_kinds.specs.declared.choice.Choice.{Choice}
use Rattle.image_codec.specs.State.{State, sealed_by}
use Rattle.station.specs.Output.{Output}
use Rattle.station.specs.Run.{IsRun, ends, ignores, refuses, opens, seals, waits, cancels, visits, cut_off, Visit, whole, suspended, after_suspension}
use Rattle.station.specs.Setting.{Setting}
use Rattle.election_tables.specs.Roll.{RollData}
use Rattle.election_tables.specs.TablesData.{TablesData}
use Rattle.vote_kinds.specs.Ballot.{ballot_lines}
use Rattle.image_codec.specs.Also.{HasAlso}
use Rattle.image_codec.proofs.Growing.{also_also, also_none}
use Rattle.station.proofs.Casting.{run_counts, visit_roll}
use Rattle.call_laws.specs.Again.{Call, LeadTo, LeadsTo, LedHasBallots, OpenedStays, Step, ballots_in, ballots_led, exchanges, foreign, leads, other, session, silent, stays}

suspended_opened : (v : Setting) (s : State) (place : ℕ) (choices : List Choice) → s.phase ≢ phase.Ready → (after_suspension v s place choices).phase ≢ phase.Ready
suspended_opened v s place [] opened = opened
suspended_opened v s place (c ∷ choices) opened = opened

visit_opened : {v : Setting} {s u : State} {place : ℕ} {es : List Event} {text : List Output} → Visit v s place es u text → s.phase ≢ phase.Ready → u.phase ≢ phase.Ready
visit_opened (whole votes at) opened = opened
visit_opened {v} {s} {place} (suspended {choices} on) opened = suspended_opened v s place choices opened

sealed_opened : (p : Phase) (m : ℕ) → p ≢ phase.Ready → sealed_by p m ≢ phase.Ready
sealed_opened phase.Ready m opened = absurd (opened refl)
sealed_opened (phase.Polling at) m opened = λ is. absurd (cc)
sealed_opened (phase.Sealed at closed) m opened = λ is. absurd (cc)

run_opened : {v : Setting} {s u : State} {es : List Event} {out : List Output} → IsRun v s es u out → s.phase ≢ phase.Ready → u.phase ≢ phase.Ready
run_opened ends opened = opened
run_opened (ignores run) opened = run_opened run opened
run_opened (refuses e run) opened = run_opened run opened
run_opened (opens e run) opened = run_opened run (λ is. absurd (cc))
run_opened {s} (seals {m} e run) opened = run_opened run (sealed_opened s.phase m opened)
run_opened (waits before e w) opened = opened
run_opened (cancels before e w run) opened = run_opened run opened
run_opened (visits before e w visit run) opened = run_opened run (visit_opened visit opened)
run_opened (cut_off before e w on) opened = opened

led_opened : {t : TablesData} {r : RollData} {x : Call} {s u : State} → LeadsTo t r x s u → s.phase ≢ phase.Ready → u.phase ≢ phase.Ready
led_opened (session of begun on) opened = run_opened on.after.run opened
led_opened (other others) opened = opened
led_opened (silent none) opened = opened
led_opened (foreign told) opened = opened

pub opened_stays : OpenedStays
opened_stays t r s _ _ stays opened = opened
opened_stays t r s u _ (leads {before} {v} led one) opened = led_opened one (opened_stays t r s v before led opened)
opened_stays t r s u _ (exchanges {before} led) opened = opened_stays t r s u before led opened

-- ---- and steps lead to their ballots

run_roll : {v : Setting} {s u : State} {es : List Event} {out : List Output} → IsRun v s es u out → length s.came ≡ length v.roll → length u.came ≡ length v.roll
run_roll ends roll = roll
run_roll (ignores run) roll = run_roll run roll
run_roll (refuses e run) roll = run_roll run roll
run_roll (opens e run) roll = run_roll run roll
run_roll (seals e run) roll = run_roll run roll
run_roll (waits before e w) roll = roll
run_roll (cancels before e w run) roll = run_roll run roll
run_roll (visits before e w visit run) roll = run_roll run (visit_roll visit roll)
run_roll (cut_off before e w on) roll = roll

module _ (t : TablesData) (r : RollData) where
  one_roll : {x : Call} {s u : State} → LeadsTo t r x s u → length s.came ≡ length r.titles → length u.came ≡ length r.titles
  one_roll (session of begun on) roll = run_roll on.after.run roll
  one_roll (other others) roll = roll
  one_roll (silent none) roll = roll
  one_roll (foreign told) roll = roll

  led_roll : {s u : State} {steps : List Step} → LeadTo t r s steps u → length s.came ≡ length r.titles → length u.came ≡ length r.titles
  led_roll stays roll = roll
  led_roll (leads led one) roll = one_roll one (led_roll led roll)
  led_roll (exchanges led) roll = led_roll led roll

  one_has : {x : Call} {s u : State} → (one : LeadsTo t r x s u) → length s.came ≡ length r.titles → HasAlso (ballot_lines t) s (ballots_in one) u
  one_has (session of begun on) roll = run_counts t r.titles roll on.after.run
  one_has {s} (other others) roll = also_none (ballot_lines t) s
  one_has {s} (silent none) roll = also_none (ballot_lines t) s
  one_has {s} (foreign told) roll = also_none (ballot_lines t) s

pub led_has_ballots : LedHasBallots
led_has_ballots t r s _ _ roll stays = also_none (ballot_lines t) s
led_has_ballots t r s u _ roll (leads {before} {v} led one) =
    also_also (ballot_lines t) s v u (ballots_led led) (ballots_in one) (led_has_ballots t r s v before roll led) (one_has t r one (led_roll t r led roll))
led_has_ballots t r s u _ roll (exchanges {before} led) = led_has_ballots t r s u before roll led

-- A station that starts
use Rattle.std.proofs.Common.{◌≡◌, ◌++◌, ℕ, List, [], ◌∷◌, ap, ◌∙◌, length}
use Rattle.std.specs.Option.{ForSome}
use Rattle.urna_outside.specs.Faults.{IsFaultless}
use Rattle.urna_outside.specs.Flash.{Op}
use Rattle.urna_outside.specs.ShownLines.{HasShown, IsCutOff}
use Rattle.urna_outside.specs.Told.{Told, Runs}
use Rattle.urna_outside.specs.declared.device.Dev.TheVariants.{Internal, External}
use Rattle.election_tables.specs.Roll.{RollData}
use Rattle.election_tables.specs.TablesData.{TablesData}
use Rattle.turnout.specs.Turnout.{number_came}
use Rattle.turnout.specs.declared.phase.Phase.{Phase}
use Rattle.image_codec.specs.State.{State}
use Rattle.flash_store.specs.Syncs.{both_synced}
use Rattle.state_store.specs.Calls.{FailsToRecover, IsRecovery, Recovers}
use Rattle.state_store.specs.Store.{IsLoadedWith, Keeps, StoreData}
use Rattle.state_store.specs.declared.store.StoreError.{StoreError}
use Rattle.state_store.specs.declared.store.StoreError.TheVariants as store
use Rattle.flash_store.proofs.Playing.{opening_call, put_shown, safe_more, stopped_shown}
use Rattle.state_store.proofs.Recovering.{recovers_keep}
use Rattle.state_store.proofs.Stored.{stored}
use Rattle.station.specs.Press.{idle_at}
use Rattle.station.specs.Setting.{setting_of}
use Rattle.station.specs.Start.{FailsToStart, IsCutAtOpening, IsRecovered, Opens, opening, start_error}
use Rattle.station.specs.Station.{IsStationed}
use Rattle.station.specs.Text.{line_text}
use Rattle.station.specs.declared.line.Line.TheVariants.{Poll}
use Rattle.station.proofs.Pieces.{keeps_shown}
use Rattle.station.proofs.Stepping.{idle_stands}
use Rattle.state_store.specs.Played.{kept_poll}

-- a recovery that failed is so told
pub fails_as : (t : TablesData) (r : RollData) (a b : Told) (error : StoreError) → FailsToRecover t r a b error → FailsToStart t r a b (start_error error)
fails_as t r a b store.Memory h = h
fails_as t r a b (store.Flash Internal) h = h
fails_as t r a b (store.Flash External) h = h
fails_as t r a b (store.Foreign d) h = h
fails_as t r a b store.NoImage h = h

-- the opening line
pub opening_line : (t : TablesData) (s : State) (p : Phase) (came : ℕ) → p ≡ s.phase → came ≡ number_came s.came → line_text t (Poll p came) ≡ line_text t (Poll s.phase (number_came s.came))
opening_line t s p came phase count =
    ap (λ (q : Phase). line_text t (Poll q came)) phase ∙ ap (λ (n : ℕ). line_text t (Poll s.phase n)) count

-- A store that was recovered between a and b, with the opening line behind it
module _ (t : TablesData) (r : RollData) (store : StoreData) (s : State) (a b c : Told) (loaded : IsLoadedWith t r store.load) (kept : Keeps t b store s)
    (ran : Runs (λ ops. (rest : List Op) × (ops ≡ both_synced ++ rest) × Recovers t r store.load.section s a rest) a b)
    (exact : ForSome a.flashes (λ start. Runs (IsRecovery t (length r.titles) s start) a b)) (fine : IsFaultless a b) where
  abbrev line : List ℕ
  line = line_text t (Poll s.phase (number_came s.came))

  recovered : IsRecovered t r store.load s a b
  recovered = record { same = loaded.same; ran = ran; exact = exact; rest = kept.rest; fine = fine }

  pub opens : HasShown (line ∷ []) b c → Opens t r store.load s a c
  opens shown =
      record {
        between = b;
        recovered = recovered;
        shown = put_shown (kept_poll t store.load) s (line ∷ []) b c (stored t r store.load s loaded kept.state) kept.rest shown;
      }

  pub stationed : HasShown (line ∷ []) b c → (digits : ℕ) → IsStationed t r c (record { standing = idle_at s; digits = digits; store = store })
  stationed shown digits =
      let state = kept.state in
      record {
        panel = record { fits = λ place l voting at. absurd (cc) };
        stands = idle_stands (setting_of t r.titles) s (record { roll = state.roll ∙ loaded.section.voters; places = state.places });
        load = loaded;
        kept = keeps_shown t r store s (line ∷ []) b c loaded kept shown;
      }

  pub cut_at_opening : IsCutOff (line ∷ []) b c → IsCutAtOpening t r a c
  cut_at_opening off =
      let stopped = stopped_shown (kept_poll t store.load) s (line ∷ []) b c (stored t r store.load s loaded kept.state) kept.rest off in
      record {
        load = store.load;
        state = s;
        between = b;
        recovered = recovered;
        stopped = stopped;
        survives = λ pieces. safe_more (kept_poll t store.load) s (opening t s) pieces a c (opening_call (kept_poll t store.load) s line [] a b c (recovers_keep t r store.load.section s a b ran) (stopped.ops, stopped.does, stopped.plays));
      }

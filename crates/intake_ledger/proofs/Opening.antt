-- Opening a ledger: two syncs, a look at the flashes, and a heal.
use Rattle.std.proofs.Common.{◌≡◌, inl, inr, ℕ, Some, List, [], ◌++◌, refl, sym, subst}
use Rattle.std.specs.Option.{ForSome}
use Rattle.urna_outside.specs.Faults.{EndsAt, IsFaultless}
use Rattle.urna_outside.specs.Flash.{Op, Flashes, after}
use Rattle.urna_outside.specs.Told.{AreSized, Told, Does, Runs, port_of}
use Rattle.urna_outside.specs.declared.device.Dev.{Dev}
use Rattle.urna_outside.specs.declared.device.Dev.TheVariants.{Internal, External}
use Rattle.urna_outside.proofs.Doing.{does-append, then_told, told_after}
use Rattle.urna_outside.proofs.Faults.{ends_later, faultless_trans}
use Rattle.election_tables.specs.TablesData.{TablesData}
use Rattle.gate_slot.specs.Front.{IsUpTo}
use Rattle.gate_slot.proofs.Fronts.{up_to_later}
use Rattle.twin_image.specs.Heal.{Heals, IsHeal}
use Rattle.twin_image.specs.Held.{HoldsBody, held_on}
use Rattle.twin_image.specs.Level.{IsLevel}
use Rattle.flash_store.specs.Held.{HeldByBoth, IsFirstOf, bodies_of_both}
use Rattle.flash_store.specs.Syncs.{IsSynced, both_synced}
use Rattle.flash_store.proofs.Holding.{held_first, held_state}
use Rattle.flash_store.proofs.Resting.{rests_after}
use Rattle.flash_store.proofs.Syncing.{frames_before}
use Rattle.flash_store.proofs.Tracing.{traced}
use Rattle.intake_ledger.specs.Body.{StandsFor, decoded, rank_in}
use Rattle.intake_ledger.specs.Calls.{EndsLooking, FailsToOpen, IsOpening, Opens}
use Rattle.intake_ledger.specs.Header.{header}
use Rattle.intake_ledger.specs.Kept.{AreDevices, AreFramed, AreLaid, IsForeign, ledgers}
use Rattle.intake_ledger.specs.Layout.{body_size}
use Rattle.intake_ledger.specs.Ledger.{LedgerData}
use Rattle.intake_ledger.specs.declared.ledger.LedgerError.{LedgerError}
use Rattle.intake_ledger.specs.declared.ledger.LedgerError.TheVariants as ledger
use Rattle.intake_ledger.proofs.Ranking.{decoded_stands}
use Rattle.intake_ledger.proofs.Reading.{reads}
use Rattle.intake_ledger.proofs.WholeBody.{whole}

-- the syncs change no content
foreign_before : (t : TablesData) (d : Dev) (start : Flashes) → IsForeign t d (after both_synced start) → IsForeign t d start
foreign_before t Internal start foreign = foreign
foreign_before t External start foreign = foreign

framed_before : (t : TablesData) (start : Flashes) → AreFramed t (after both_synced start) → AreFramed t start
framed_before t start framed Internal = framed Internal
framed_before t start framed External = framed External

-- finding no ledger behind the syncs
pub fails_finding : (t : TablesData) (a b c : Told) (error : LedgerError) → IsSynced a b → Does [] b c → EndsLooking t b c error → FailsToOpen t a c error
fails_finding t a b c ledger.Memory synced done ends = absurd ends
fails_finding t a b c (ledger.Flash d) synced done ends = (
  ends_later (port_of d) a b c synced.fine ends,
  (both_synced, does-append both_synced [] a b c synced.does done, inr ([], refl, inl refl)),
)
fails_finding t a b c (ledger.Foreign d) synced done ends = (
  record { does = does-append both_synced [] a b c synced.does done; fine = faultless_trans a b c synced.fine ends.0 },
  λ start told. foreign_before t d start (ends.1 (after both_synced start) (told_after both_synced a b start synced.does told)),
)
fails_finding t a b c ledger.NoImage synced done ends = (
  record { does = does-append both_synced [] a b c synced.does done; fine = faultless_trans a b c synced.fine ends.0 },
  λ start told.
      let bare = ends.1 (after both_synced start) (told_after both_synced a b start synced.does told) in
      record { framed = framed_before t start bare.framed; none = bare.none },
)
fails_finding t a b c (ledger.Busy d) synced done ends = absurd ends

-- The body that was found behind the syncs stands for a ledger.
module _ (t : TablesData) (l : LedgerData) (body : List ℕ) (stands : StandsFor t l body) (a b c d : Told) (synced : Does both_synced a b) (done : Does [] b c)
    (framed : ForSome b.flashes (AreFramed t)) (held : ForSome b.flashes (HoldsBody (rank_in t) body_size body)) where
  held_now : (internal external : List ℕ) → held_on (rank_in t) body_size internal external ≡ Some body → HeldByBoth (ledgers t) internal external l
  held_now internal external is = held_state (ledgers t) (decoded t) (reads t) internal external body l (decoded_stands t l body stands) is

  -- it is the first that stands for it
  first_now : (internal external : List ℕ) → held_on (rank_in t) body_size internal external ≡ Some body → IsFirstOf (ledgers t) l (bodies_of_both body_size internal external) body
  first_now internal external is = held_first (ledgers t) (decoded t) (reads t) internal external body l (decoded_stands t l body stands) is

  behind : (start : Flashes) → a.flashes ≡ Some start → b.flashes ≡ Some (after both_synced start)
  behind start told = told_after both_synced a b start synced told

  -- a heal behind the syncs, which change no content
  opening : (start : Flashes) → a.flashes ≡ Some start → (ops : List Op) → IsHeal body_size body (after both_synced start) ops → IsOpening t l start (both_synced ++ ops)
  opening start told ops heal =
      let mid = after both_synced start in
      record {
        body = body;
        held = first_now mid.internal.content mid.external.content (held mid (behind start told));
        heal = ops;
        heals = record { internal = heal.internal; external = heal.external; internal_is = heal.internal_is; external_is = heal.external_is; in_row = heal.in_row };
        in_row = refl;
      }

  does_all : (ops : List Op) → Does ops c d → Does (both_synced ++ ops) a d
  does_all ops does = does-append both_synced ops a c d (does-append both_synced [] a b c synced done) does

  -- all was done
  pub opened_exactly : ForSome c.flashes (λ start. Runs (IsHeal body_size body start) c d) → ForSome a.flashes (λ start. Runs (IsOpening t l start) a d)
  opened_exactly heals start told =
      let mid = after both_synced start in
      let healed = heals mid (told_after [] b c mid done (behind start told)) in
      (both_synced ++ healed.0, does_all healed.0 healed.1, opening start told healed.0 healed.2)

  -- or a front of it
  opened_up_to : ForSome c.flashes (λ start. Runs (IsUpTo (IsHeal body_size body start)) c d) → ForSome a.flashes (λ start. Runs (IsUpTo (IsOpening t l start)) a d)
  opened_up_to heals start told =
      let mid = after both_synced start in
      let healed = heals mid (told_after [] b c mid done (behind start told)) in (
        both_synced ++ healed.0,
        does_all healed.0 healed.1,
        up_to_later (λ xs. xs ≡ both_synced) (IsHeal body_size body mid) (IsOpening t l start) both_synced healed.0
            (λ xs ys first then. subst (λ (before : List Op). IsOpening t l start (before ++ ys)) (sym first) (opening start told ys then)) refl healed.2,
      )

  module _ (run : Runs (Heals c body_size body) c d) where
    -- behind the syncs the ledger that was found is kept
    opens : ForSome c.flashes (λ start. Runs (IsUpTo (IsHeal body_size body start)) c d) → Opens t l a run.0
    opens heals =
        record {
          slots = record { within = run.2.within; syncs = run.2.syncs };
          stops = λ start told.
              let mid = after both_synced start in
              let told_b = behind start told in
              let told_c = told_after [] b c mid done told_b in (
                record { framed = framed_before t start (framed mid told_b); held = held_now mid.internal.content mid.external.content (held mid told_b) },
                λ ops stop left is. (
                  held_now left.internal left.external ((run.2.stops mid told_c ops stop left is).both (rank_in t) (held mid told_b)),
                  frames_before body_size start left (run.2.frames mid told_c ops stop left is),
                ),
              );
          order = λ trail start told. traced (IsUpTo (IsOpening t l start)) a d (both_synced ++ run.0) trail (does_all run.0 run.1) (opened_up_to heals start told);
        }

    pub opened : ForSome c.flashes (λ start. Runs (IsHeal body_size body start) c d) → Runs (λ ops. (rest : List Op) × (ops ≡ both_synced ++ rest) × Opens t l a rest) a d
    opened heals = (
      both_synced ++ run.0,
      does_all run.0 run.1,
      (run.0, refl, opens (λ start told. let healed = heals start told in (healed.0, healed.1, inl healed.2))),
    )

    -- the heal failed at a device
    pub fails_healing : ForSome c.flashes (λ start. Runs (IsUpTo (IsHeal body_size body start)) c d) → (dev : Dev) → IsFaultless a c → EndsAt (port_of dev) c d → FailsToOpen t a d (ledger.Flash dev)
    fails_healing cut dev fine ends = (
      ends_later (port_of dev) a c d fine ends,
      (both_synced ++ run.0, does_all run.0 run.1, inr (run.0, refl, inr (l, opens cut))),
    )

    -- where all is level at its end, both flashes are at rest with the body
    pub opened_rests : AreDevices c.sizes → ForSome c.flashes (AreSized c.sizes) → ForSome d.flashes (AreSized d.sizes) → ForSome d.flashes (IsLevel body_size body) → ForSome d.flashes (AreLaid t body)
    opened_rests devices sized sized_d level =
        rests_after body_size (header t) body (Heals c body_size body) c d devices sized sized_d (whole t body stands.whole).long
        (then_told [] b c (AreFramed t) done framed) run run.2.frames level

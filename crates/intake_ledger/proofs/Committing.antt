-- Flashes at rest with a ledger hold it, and a commit of bodies is one of ledgers.
use Rattle.std.proofs.Common.{◌≡◌, ◌≤◌, ◌+◌, ◌*◌, ◌/◌, ℕ, List, length, ap, ◌∙◌, arith, length-append}
use Rattle.std.specs.Prelude.{replicate}
use Rattle.std.specs.List.{range_with_len}
use Rattle.std.specs.Option.{ForSome}
use Rattle.std.proofs.lemmas.List.{length-replicate}
use Rattle.std.proofs.lemmas.List.FromFn.{length-range_with_len}
use Rattle.std.proofs.lemmas.List.Sums.{count_by-le-length, length-filter}
use Rattle.urna_outside.specs.Told.{AreSized, Told, Runs}
use Rattle.urna_outside.specs.declared.device.Dev.{Dev}
use Rattle.election_tables.specs.TablesData.{IsTables, TablesData}
use Rattle.gate_slot.specs.Front.{IsFrontOfSome}
use Rattle.gate_slot.specs.Page.{is_changed, page_size}
use Rattle.gate_slot.specs.Slot.{header_size}
use Rattle.twin_image.specs.Held.{IsNotOutranked}
use Rattle.twin_image.specs.Level.{CommitsTo, IsLevel}
use Rattle.twin_image.specs.Order.{AreRenewals}
use Rattle.twin_image.specs.Rewrite.{PutsAtMost, rewrite_bytes}
use Rattle.flash_store.specs.Calls.{Commits}
use Rattle.flash_store.proofs.Holding.{hold_either, outranks}
use Rattle.flash_store.proofs.Playing.{RestHolds}
use Rattle.flash_store.proofs.Resting.{rest_framed, rest_holds, rests_after}
use Rattle.intake_ledger.specs.Body.{StandsFor, decoded, number_in, rank_in}
use Rattle.intake_ledger.specs.Calls.{Keeps}
use Rattle.intake_ledger.specs.Header.{header}
use Rattle.intake_ledger.specs.Kept.{AreDevices, AreLaid, IsCommit, commit_bytes, kept_ledger, ledgers}
use Rattle.intake_ledger.specs.Layout.{body_size}
use Rattle.intake_ledger.specs.Ledger.{LedgerData, accepted_in}
use Rattle.intake_ledger.proofs.Ranking.{decoded_stands}
use Rattle.intake_ledger.proofs.Reading.{reads}
use Rattle.intake_ledger.specs.Totals.{AreTotals, TotalsData}
use Rattle.intake_ledger.proofs.Telling.{tell_ledger}
use Rattle.intake_ledger.proofs.WholeBody.{whole}

-- how long a body is, and a header
pub body_long : (t : TablesData) (l : LedgerData) (body : List ℕ) → StandsFor t l body → length body ≡ body_size
body_long t l body stands = (whole t body stands.whole).long

pub header_long : (t : TablesData) (d : Dev) → IsTables t → length (header t d) ≡ header_size
unfolding header
header_long t d tables =
    let zeros : List ℕ = replicate 471 0 in
    let few : length zeros ≡ 471 = length-replicate {A = ℕ} 471 0 in
    omega (arith, tables.digest, length-append t.digest zeros, few)

-- flashes at rest with a ledger of these tables hold it
pub stored : (t : TablesData) (l : LedgerData) → IsTables t → RestHolds (kept_ledger t) l
stored t l tables =
    record {
      holds = λ flashes left rest internal external.
          rest_holds (ledgers t) (decoded t) (reads t) (header t) rest.0 l (body_long t l rest.0 rest.1) (λ d. header_long t d tables) (decoded_stands t l rest.0 rest.1)
          flashes left rest.2 internal external;
      clean = λ flashes rest. rest.2.clean;
    }

module _ (t : TablesData) (l u : LedgerData) (old new : List ℕ) (old_is : StandsFor t l old) (new_is : StandsFor t u new) where
  -- a commit of their bodies is one of ledgers
  pub commits : (a b : Told) → Runs (CommitsTo a (rank_in t) body_size old new) a b → Runs (Commits (ledgers t) l u a) a b
  commits a b run = (
    run.0,
    run.1,
    record {
      slots = record { within = run.2.within; syncs = run.2.syncs };
      stops = λ start told done stop left is. (
        hold_either (ledgers t) (decoded t) (reads t) l u old new (decoded_stands t l old old_is) (decoded_stands t u new new_is) left (run.2.stops start told done stop left is),
        run.2.frames start told done stop left is,
      );
    },
  )

  -- the one with more sections isn't outranked
  pub not_outranked : accepted_in l ≤ accepted_in u → IsNotOutranked (rank_in t) new old
  not_outranked more = outranks (ledgers t) (decoded t) (reads t) l u old new (decoded_stands t l old old_is) (decoded_stands t u new new_is) more

-- ---- the commit of a ledger with a report more

-- Totals of a ledger are followed by these, which are those of the ledger with a report more.
pub record IsNext (t : TablesData) (l u : LedgerData) (old new : TotalsData) : Type 0 where
  pub old_are : AreTotals t l old
  pub new_are : AreTotals t u new
  pub number : number_in new.body ≡ number_in old.body + 1

module _ (t : TablesData) (l u : LedgerData) (old new : TotalsData) (next : IsNext t l u old new) where
  next_more : accepted_in l ≤ accepted_in u
  next_more = omega (arith, (tell_ledger t l old next.old_are).0, (tell_ledger t u new next.new_are).0, next.number)

  pub next_long : length new.body ≡ body_size
  next_long = body_long t u new.body next.new_are.stands

  pub next_rank : IsNotOutranked (rank_in t) new.body old.body
  next_rank = not_outranked t l u old.body new.body next.old_are.stands next.new_are.stands next_more

  module _ (a b : Told) where
    pub next_commits : Runs (CommitsTo a (rank_in t) body_size old.body new.body) a b → Runs (Commits (ledgers t) l u a) a b
    next_commits run = commits t l u old.body new.body next.old_are.stands next.new_are.stands a b run

    -- all of it, or a front of it
    pub next_order : ForSome a.flashes (λ start. Runs (AreRenewals body_size old.body new.body) a b) → ForSome a.flashes (λ start. Runs (IsCommit t l u) a b)
    next_order order start told =
        let run = order start told in (run.0, run.1, (old.body, new.body, next.old_are.stands, next.new_are.stands, run.2))

    pub next_cut : ForSome a.flashes (λ start. Runs (IsFrontOfSome (AreRenewals body_size old.body new.body)) a b) → ForSome a.flashes (λ start. Runs (IsFrontOfSome (IsCommit t l u)) a b)
    next_cut order start told =
        let run = order start told in
        (run.0, run.1, (run.2.0, (old.body, new.body, next.old_are.stands, next.new_are.stands, run.2.1), run.2.2))

    -- and the flashes are at rest with it
    pub next_rests : AreDevices a.sizes → ForSome a.flashes (AreSized a.sizes) → ForSome b.flashes (AreSized b.sizes) → ForSome a.flashes (AreLaid t old.body)
        → Runs (CommitsTo a (rank_in t) body_size old.body new.body) a b → ForSome b.flashes (IsLevel body_size new.body) → Keeps t b new u
    next_rests devices sized sized_b rest run level =
        record {
          totals = next.new_are;
          rest = rests_after body_size (header t) new.body _ a b devices sized sized_b next_long
              (λ fs told. rest_framed body_size (header t) old.body (body_long t l old.body next.old_are.stands) a.sizes fs devices (sized fs told) (rest fs told)) run run.2.frames level;
        }

-- a commit puts no more than four bodies, and two gates for each
pub commit_few : (old new : List ℕ) → length new ≡ body_size → (a b : Told) → Runs (PutsAtMost (4 * (rewrite_bytes body_size old new + 2))) a b → Runs (PutsAtMost commit_bytes) a b
commit_few old new long a b run =
    let pages = range_with_len 0 (length new / page_size) in
    let few = length-filter (is_changed old new) pages in
    let least = count_by-le-length (is_changed old new) pages in
    let many : length pages ≡ 512 = length-range_with_len 0 (length new / page_size) ∙ ap (λ (n : ℕ). n / page_size) long in
    (run.0, run.1, omega (arith, run.2, few, least, many))

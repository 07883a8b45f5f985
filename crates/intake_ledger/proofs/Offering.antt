-- An offer: its verdict by the place of its section, and what is put out.
use Rattle.std.proofs.Common.{◌≡◌, ℕ, zero, suc, ◌+◌, ◌<◌, Bool, true, false, cond, Result, Ok, Err, Option, Some, None, List, [], ◌∷◌, length, map, option_and_then, sym, ap, subst, ◌∙◌, arith}
use Rattle.std.specs.Prelude.{IfErr, IfOk, slice_get}
use Rattle.std.specs.List.{range_with_len}
use Rattle.std.specs.Option.{ForSome}
use Rattle.urna_outside.specs.Faults.{EndsAt, IsFaultless}
use Rattle.urna_outside.specs.Flash.{Flashes}
use Rattle.urna_outside.specs.ShownLines.{HasShown, IsCutOff, Shows, shows}
use Rattle.urna_outside.specs.Told.{Runs, Told, port_of}
use Rattle.urna_outside.specs.declared.device.Dev.{Dev}
use Rattle.urna_outside.specs.declared.device.Port.TheVariants as port
use Rattle.urna_outside.proofs.Showing.{shows_keep}
use Rattle.urna_outside.proofs.ShowingLines.{shows_lines}
use Rattle.election_tables.specs.TablesData.{IsTables, TablesData}
use Rattle.gate_slot.specs.Front.{IsFrontOfSome}
use Rattle.twin_image.specs.Rewrite.{PutsAtMost}
use Rattle.section_intake.specs.Accepted.{is_accepted}
use Rattle.section_intake.specs.declared.verdict.Verdict.{Verdict}
use Rattle.section_intake.specs.declared.verdict.Verdict.TheVariants as verdict
use Rattle.flash_store.specs.Calls.{Commits}
use Rattle.flash_store.specs.Played.{HasPut, HasStopped}
use Rattle.flash_store.proofs.Playing.{put_shown, put_told, stopped_commit, stopped_shown, stopped_told}
use Rattle.report_lines.specs.Verdicts.{numbered_line}
use Rattle.intake_ledger.specs.Body.{StandsFor, hash_in, is_marked, kept_in}
use Rattle.intake_ledger.specs.Calls.{FailsToOffer, HasOffered, HasOfferedTo, Keeps}
use Rattle.intake_ledger.specs.Kept.{AreAtRest, AreLaid, IsCommit, commit_bytes, kept_ledger, ledgers}
use Rattle.intake_ledger.specs.Ledger.{LedgerData, hash_at}
use Rattle.intake_ledger.specs.Offers.{IsOffer, told_by}
use Rattle.intake_ledger.specs.Totals.{TotalsData}
use Rattle.intake_ledger.specs.declared.ledger.Ledger.{Ledger}
use Rattle.intake_ledger.specs.declared.ledger.OfferError.{OfferError}
use Rattle.intake_ledger.specs.declared.ledger.OfferError.TheVariants as offer_error
use Rattle.intake_ledger.proofs.Committing.{stored}

-- flashes that a ledger keeps are at rest with it
pub at_rest : (t : TablesData) (told : Told) (kept : TotalsData) (l : LedgerData) → Keeps t told kept l → ForSome told.flashes (AreAtRest t l)
at_rest t told kept l keeps fs is = (kept.body, keeps.totals.stands, keeps.rest fs is)

-- a verdict that refuses tells no ledger
none_told : (v : Verdict) (l : LedgerData) → is_accepted v ≡ false → told_by v l ≡ None
none_told v l refused = ap (λ (b : Bool). cond b (Some l) None) refused

-- lines that are shown change no flash
pub still_kept : (t : TablesData) (lines : List (List ℕ)) (kept : TotalsData) (l : LedgerData) (a b : Told) → HasShown lines a b → Keeps t a kept l → Keeps t b kept l
still_kept t lines kept l a b showed keeps =
    let same = shows_keep (shows lines) a b (shows_lines lines).shows showed.does in
    record { totals = keeps.totals; rest = subst (λ (o : Option Flashes). ForSome o (AreLaid t kept.body)) (sym same) keeps.rest }

-- what the line of a verdict comes to, behind the ledger that the offer leaves
module _ (t : TablesData) (tables : IsTables t) (file : List ℕ) (number : ℕ) (v : Verdict) where
  abbrev line : List ℕ
  line = numbered_line number v

  -- the verdict tells no ledger
  module _ (l : LedgerData) (kept : TotalsData) (a b : Told) (refused : is_accepted v ≡ false) (offer : IsOffer t l file v l) (keeps : Keeps t a kept l) where
    same_put : HasShown (line ∷ []) a b → HasOffered t l file number v kept a b
    same_put showed =
        record {
          behind = l;
          offer = offer;
          keeps = still_kept t (line ∷ []) kept l a b showed keeps;
          put = subst (λ (o : Option LedgerData). HasPut (kept_ledger t) l (record { line = line; commit = o } ∷ []) a b) (sym (none_told v l refused))
              (put_shown (kept_ledger t) l (line ∷ []) a b (stored t l tables) (at_rest t a kept l keeps) showed);
        }

    same_stopped : IsCutOff (line ∷ []) a b → HasOfferedTo t l file number port.Display a b
    same_stopped off =
        record {
          verdict = v;
          behind = l;
          offer = offer;
          stopped = subst (λ (o : Option LedgerData). HasStopped (kept_ledger t) l (record { line = line; commit = o } ∷ []) port.Display a b) (sym (none_told v l refused))
              (stopped_shown (kept_ledger t) l (line ∷ []) a b (stored t l tables) (at_rest t a kept l keeps) off);
        }

-- the same of a result
pub same_offered : (t : TablesData) → IsTables t → (file : List ℕ) (number : ℕ) (v : Verdict) (kept : TotalsData) (a b : Told) → is_accepted v ≡ false → ((l : LedgerData) → Keeps t a kept l → IsOffer t l file v l)
    → (result : Result (Ledger × Verdict) OfferError) → Shows result (numbered_line number v ∷ []) a b → IfOk result (λ x. (x.0 ≡ kept) × (x.1 ≡ v))
    → IfOk result (λ x. (l : LedgerData) → Keeps t a kept l → HasOffered t l file number x.1 x.0 a b)
same_offered t tables file number v kept a b refused offers (Ok x) showed same = λ l keeps.
    subst (λ (w : Verdict). HasOffered t l file number w x.0 a b) (sym same.1)
    (subst (λ (d : TotalsData). HasOffered t l file number v d a b) (sym same.0) (same_put t tables file number v l kept a b refused (offers l keeps) keeps showed))
same_offered t tables file number v kept a b refused offers (Err e) showed same = tt

pub same_fails : (t : TablesData) → IsTables t → (file : List ℕ) (number : ℕ) (v : Verdict) (kept : TotalsData) (a b : Told) → is_accepted v ≡ false → ((l : LedgerData) → Keeps t a kept l → IsOffer t l file v l)
    → (result : Result (Ledger × Verdict) OfferError) → Shows result (numbered_line number v ∷ []) a b → IfErr result (λ e. e ≡ offer_error.Port port.Display)
    → IfErr result (FailsToOffer t kept file number a b)
same_fails t tables file number v kept a b refused offers (Ok x) showed is = tt
same_fails t tables file number v kept a b refused offers (Err e) off is =
    subst (FailsToOffer t kept file number a b) (sym is) (λ l keeps. same_stopped t tables file number v l kept a b refused (offers l keeps) keeps off)

-- ---- an accepted report: the commit of the ledger with it, and its line

-- The commit of one ledger over another was done.
pub record HasCommitted (t : TablesData) (l u : LedgerData) (a b : Told) : Type 0 where
  pub run : Runs (Commits (ledgers t) l u a) a b
  pub few : Runs (PutsAtMost commit_bytes) a b
  pub order : ForSome a.flashes (λ start. Runs (IsCommit t l u) a b)
  pub fine : IsFaultless a b

module _ (t : TablesData) (tables : IsTables t) (file : List ℕ) (number zone section : ℕ) (l u : LedgerData) (kept : TotalsData) (a b c : Told)
    (offer : IsOffer t l file (verdict.Accepted zone section) u) where
  abbrev told_line : List ℕ
  told_line = numbered_line number (verdict.Accepted zone section)

  entered_put : HasCommitted t l u a b → Keeps t b kept u → HasShown (told_line ∷ []) b c → HasOffered t l file number (verdict.Accepted zone section) kept a c
  entered_put done keeps showed =
      record {
        behind = u;
        offer = offer;
        keeps = still_kept t (told_line ∷ []) kept u b c showed keeps;
        put = put_told (kept_ledger t) l u told_line a b c (stored t u tables) done.run done.few done.order done.fine (at_rest t b kept u keeps) showed;
      }

  entered_stopped : HasCommitted t l u a b → Keeps t b kept u → IsCutOff (told_line ∷ []) b c → HasOfferedTo t l file number port.Display a c
  entered_stopped done keeps off =
      record {
        verdict = verdict.Accepted zone section;
        behind = u;
        offer = offer;
        stopped = stopped_told (kept_ledger t) l u told_line a b c (stored t u tables) done.run done.few done.order done.fine (at_rest t b kept u keeps) off;
      }

-- a flash failed in the commit
pub commit_stopped : (t : TablesData) (file : List ℕ) (number zone section : ℕ) (l u : LedgerData) (d : Dev) (a b : Told) → IsOffer t l file (verdict.Accepted zone section) u
    → Runs (Commits (ledgers t) l u a) a b → Runs (PutsAtMost commit_bytes) a b → ForSome a.flashes (λ start. Runs (IsFrontOfSome (IsCommit t l u)) a b) → EndsAt (port_of d) a b
    → HasOfferedTo t l file number (port_of d) a b
commit_stopped t file number zone section l u d a b offer run few order fault =
    record {
      verdict = verdict.Accepted zone section;
      behind = u;
      offer = offer;
      stopped = stopped_commit (kept_ledger t) l u (numbered_line number (verdict.Accepted zone section)) d a b run few order fault;
    }

-- the same of a result
pub entered_offered : (t : TablesData) → IsTables t → (file : List ℕ) (number zone section : ℕ) (old kept : TotalsData) (a b c : Told) (next : LedgerData → LedgerData)
    → ((l : LedgerData) → Keeps t a old l → IsOffer t l file (verdict.Accepted zone section) (next l)) → ((l : LedgerData) → Keeps t a old l → HasCommitted t l (next l) a b) → ((l : LedgerData) → Keeps t a old l → Keeps t b kept (next l))
    → (result : Result (Ledger × Verdict) OfferError) → Shows result (numbered_line number (verdict.Accepted zone section) ∷ []) b c → IfOk result (λ x. (x.0 ≡ kept) × (x.1 ≡ verdict.Accepted zone section))
    → IfOk result (λ x. (l : LedgerData) → Keeps t a old l → HasOffered t l file number x.1 x.0 a c)
entered_offered t tables file number zone section old kept a b c next offers done keeps (Ok x) showed same = λ l is.
    subst (λ (w : Verdict). HasOffered t l file number w x.0 a c) (sym same.1)
    (subst (λ (d : TotalsData). HasOffered t l file number (verdict.Accepted zone section) d a c) (sym same.0)
    (entered_put t tables file number zone section l (next l) kept a b c (offers l is) (done l is) (keeps l is) showed))
entered_offered t tables file number zone section old kept a b c next offers done keeps (Err e) showed same = tt

pub entered_fails : (t : TablesData) → IsTables t → (file : List ℕ) (number zone section : ℕ) (old kept : TotalsData) (a b c : Told) (next : LedgerData → LedgerData)
    → ((l : LedgerData) → Keeps t a old l → IsOffer t l file (verdict.Accepted zone section) (next l)) → ((l : LedgerData) → Keeps t a old l → HasCommitted t l (next l) a b) → ((l : LedgerData) → Keeps t a old l → Keeps t b kept (next l))
    → (result : Result (Ledger × Verdict) OfferError) → Shows result (numbered_line number (verdict.Accepted zone section) ∷ []) b c → IfErr result (λ e. e ≡ offer_error.Port port.Display)
    → IfErr result (FailsToOffer t old file number a c)
entered_fails t tables file number zone section old kept a b c next offers done keeps (Ok x) showed is = tt
entered_fails t tables file number zone section old kept a b c next offers done keeps (Err e) off is =
    subst (FailsToOffer t old file number a c) (sym is)
    (λ l keeping. entered_stopped t tables file number zone section l (next l) kept a b c (offers l keeping) (done l keeping) (keeps l keeping) off)

-- ---- what a body keeps of a section

in_range : {Y : Type 0} (f : ℕ → Y) (a n i : ℕ) → i < n → slice_get (map f (range_with_len a n)) i ≡ Some (f (a + i))
in_range f a zero i lt = absurd (omega arith)
in_range {Y = Y} f a (suc n) zero lt = let same : a ≡ a + 0 = omega arith in ap (λ (k : ℕ). Some (f k)) same
in_range {Y = Y} f a (suc n) (suc i) lt =
    let same : a + 1 + i ≡ a + suc i = omega arith in
    in_range f (a + 1) n i (omega arith) ∙ ap (λ (k : ℕ). Some (f k)) same

-- the hash that is kept of it
kept_at : (t : TablesData) (l : LedgerData) (body : List ℕ) (place : ℕ) → StandsFor t l body → place < length t.sections → hash_at place l ≡ kept_in body place
kept_at t l body place stands lt =
    ap (λ (m : LedgerData). hash_at place m) stands.same
    ∙ ap (λ (o : Option (Option (List ℕ))). option_and_then (λ hash. hash) o) (in_range (kept_in body) 0 (length t.sections) place lt)
    ∙ (let same : 0 + place ≡ place = omega arith in ap (kept_in body) same)

pub none_kept_at : (t : TablesData) (l : LedgerData) (body : List ℕ) (place : ℕ) → StandsFor t l body → place < length t.sections → is_marked body place ≡ false → hash_at place l ≡ None
none_kept_at t l body place stands lt free = kept_at t l body place stands lt ∙ ap (λ (b : Bool). cond b (Some (hash_in body place)) None) free

pub some_kept_at : (t : TablesData) (l : LedgerData) (body : List ℕ) (place : ℕ) → StandsFor t l body → place < length t.sections → is_marked body place ≡ true
    → hash_at place l ≡ Some (hash_in body place)
some_kept_at t l body place stands lt marked = kept_at t l body place stands lt ∙ ap (λ (b : Bool). cond b (Some (hash_in body place)) None) marked

-- Reports are taken and offered to a ledger one behind the other
use Rattle.std.proofs.Common.{◌≡◌, ◌+◌, ◌<◌, ℕ, Bool, cond, List, [], ◌∷◌, ◌++◌, length, drop, Option, Some, None, unwrap_or, Ok, Err, refl, sym, ap, subst, ◌∙◌, append_assoc, arith}
use Rattle.std.specs.Fmt.{decimal}
use Rattle.std.specs.Prelude.{codes}
use Rattle.std.proofs.lemmas.List.{drop_all, length-append}
use Rattle.std.specs.Prelude.{slice_index_or}
use Rattle.urna_base.proofs.Every.{every_append}
use Rattle.urna_outside.specs.Cabinet.{CabinetTold, Files}
use Rattle.urna_outside.specs.Told.{Told}
use Rattle.election_tables.specs.TablesData.{IsTables, TablesData}
use Rattle.section_intake.specs.Accepted.{File}
use Rattle.section_intake.specs.declared.verdict.Verdict.{Verdict}
use Rattle.flash_store.specs.Pieces.{AreFull, Piece, state_after}
use Rattle.flash_store.specs.Played.{HasPut, HasStopped}
use Rattle.flash_store.proofs.Counting.{state_after-append}
use Rattle.flash_store.proofs.Playing.{put_nothing, put_to, stopped_after}
use Rattle.report_lines.specs.Verdicts.{numbered_line, verdict_line, verdict_text}
use Rattle.report_lines.proofs.Refused.{refused_at_most, refused_one, refused_then}
use Rattle.intake_ledger.specs.Calls.{FailsToOffer, Keeps}
use Rattle.intake_ledger.specs.Kept.{kept_ledger}
use Rattle.intake_ledger.specs.Ledger.{LedgerData}
use Rattle.intake_ledger.specs.Offers.{AreOfferedTo, IsOffer, again, another, by_itself, first, none_offered, offer_piece, one_more, told_by}
use Rattle.intake_ledger.specs.Totals.{TotalsData}
use Rattle.intake_ledger.proofs.Committing.{stored}
use Rattle.intake_ledger.proofs.Offering.{at_rest}
use Rattle.command_parts.specs.Documents.{IsTaken}
use Rattle.command_parts.specs.declared.error.Doc.TheVariants as doc
use Rattle.command_parts.proofs.Calls.{taken_as, taken_more, taken_none, taken_within}
use Rattle.command_parts.proofs.Listing.{left_at, taken_then}
use Rattle.ledger_commands.specs.Documents.{HasTaken, IsFault}
use Rattle.intake_ledger.specs.declared.ledger.OfferError.{OfferError}
use Rattle.intake_ledger.specs.declared.ledger.OfferError.TheVariants as offer_error
use Rattle.ledger_commands.specs.Errors.{offer_status, port_status}
use Rattle.ledger_commands.specs.Receiving.{AreSoFar, OfferEnds, OffersEnd, all_offered, offer_at_fault, offer_cut, offer_no_cabinet, offer_no_memory, offered, one_at_fault, one_cut, one_no_cabinet, one_no_memory}
use Rattle.ledger_commands.specs.Recebe.{AreTakenIn}
use Rattle.ledger_commands.specs.declared.status.LedgerStatus.{LedgerStatus}
use Rattle.ledger_commands.specs.declared.status.LedgerStatus.TheVariants as status
use Rattle.ledger_commands.proofs.Statuses.{port_error, taken_still}

-- ---- what is put out

some_behind : (xs ys : List ℕ) → 0 < length ys → 0 < length (xs ++ ys)
some_behind xs ys some = omega (arith, length-append xs ys, some)

some_first : (b : ℕ) (xs : List ℕ) → 0 < length (b ∷ xs)
some_first b xs = omega arith

full_line : (k : ℕ) (v : Verdict) → 0 < length (numbered_line k v)
full_line k v = some_behind (decimal k ++ codes " ") (verdict_line v) (some_behind (verdict_text v) (10 ∷ []) (some_first 10 []))

-- no piece of an offer has an empty line
pub full_pieces : (t : TablesData) (l m : LedgerData) (files : List File) (verdicts : List Verdict) (pieces : List (Piece LedgerData)) → AreOfferedTo t l files verdicts pieces m → AreFull pieces
full_pieces t l _ _ _ _ none_offered = tt
full_pieces t l _ _ _ _ (one_more {files} {verdicts} {pieces} {m} {k} {file} {v} before offer) =
    every_append (λ (piece : Piece LedgerData). 0 < length piece.line) pieces (offer_piece (length files + 1) v k ∷ []) (full_pieces t l m files verdicts pieces before) (full_line (length files + 1) v, tt)

-- behind an offer stands the ledger that it leaves
left_by : (t : TablesData) (m k : LedgerData) (file : File) (v : Verdict) → IsOffer t m file v k → unwrap_or (told_by v k) m ≡ k
left_by t m _ file v (by_itself h refused) = ap (λ (b : Bool). unwrap_or (cond b (Some m) None) m) refused
left_by t m _ file _ (first at none) = refl
left_by t m _ file _ (again at some) = refl
left_by t m _ file _ (another at some ne) = refl

-- they leave the ledger that the last offer leaves
pub after_pieces : (t : TablesData) (l m : LedgerData) (files : List File) (verdicts : List Verdict) (pieces : List (Piece LedgerData)) → AreOfferedTo t l files verdicts pieces m → state_after l pieces ≡ m
after_pieces t l _ _ _ _ none_offered = refl
after_pieces t l _ _ _ _ (one_more {files} {verdicts} {pieces} {m} {k} {file} {v} before offer) =
    state_after-append l pieces (offer_piece (length files + 1) v k ∷ [])
    ∙ ap (λ (s : LedgerData). unwrap_or (told_by v k) s) (after_pieces t l m files verdicts pieces before) ∙ left_by t m k file v offer

-- as many verdicts as files
pub as_many : (t : TablesData) (l m : LedgerData) (files : List File) (verdicts : List Verdict) (pieces : List (Piece LedgerData)) → AreOfferedTo t l files verdicts pieces m → length verdicts ≡ length files
as_many t l _ _ _ _ none_offered = refl
as_many t l _ _ _ _ (one_more {files} {verdicts} {pieces} {m} {k} {file} {v} before offer) =
    length-append verdicts (v ∷ []) ∙ ap (λ (n : ℕ). n + 1) (as_many t l m files verdicts pieces before) ∙ sym (length-append files (file ∷ []))

-- ---- one report more

-- an offer that failed, behind the taking of its report
pub offer_fails : (t : TablesData) (l : LedgerData) (name bytes : List ℕ) (k : ℕ) (kept : TotalsData) (c d : CabinetTold) (m n : Told) (e : OfferError) → IsTaken c.files doc.Report name bytes
    → HasTaken 1 status.Done c d → Keeps t m kept l → FailsToOffer t kept bytes k m n e → OfferEnds t l name k c d m n (Err (offer_status e))
offer_fails t l name bytes k kept c d m n (offer_error.Memory same) has taken keeps fails = offer_no_memory (taken_as 1 c d (λ still. still) taken) fails.1
offer_fails t l name bytes k kept c d m n (offer_error.Port p) has taken keeps fails = offer_cut has (taken_still 1 (port_status p) c d (port_error p) taken) (fails l keeps)

module _ (t : TablesData) (l : LedgerData) (listed : List (List ℕ)) where
  -- a report that was offered behind the others
  taken_in : (files : Option Files) (left : List (List ℕ)) (name bytes : List ℕ) (verdicts : List Verdict) (pieces : List (Piece LedgerData)) (m k : LedgerData) (v : Verdict) (number : ℕ)
      → number ≡ length verdicts + 1 → AreTakenIn files t l listed (name ∷ left) verdicts pieces m → IsTaken files doc.Report name bytes → IsOffer t m bytes v k
      → AreTakenIn files t l listed left (verdicts ++ v ∷ []) (pieces ++ offer_piece number v k ∷ []) k
  taken_in files left name bytes verdicts pieces m k v number is h taken offer =
      record {
        names = h.names ++ name ∷ [];
        all = h.all ∙ sym (append_assoc h.names (name ∷ []) left);
        reports = h.reports ++ bytes ∷ [];
        taken = taken_then files h.names h.reports name bytes h.taken taken;
        offered = subst (λ (n : ℕ). AreOfferedTo t l (h.reports ++ bytes ∷ []) (verdicts ++ v ∷ []) (pieces ++ offer_piece n v k ∷ []) k)
            (sym (is ∙ ap (λ (n : ℕ). n + 1) (as_many t l m h.reports verdicts pieces h.offered))) (one_more h.offered offer);
      }

  pub none_so_far : IsTables t → (kept : TotalsData) (c : CabinetTold) (m : Told) → Keeps t m kept l → AreSoFar t l listed 0 kept 0 c c m m
  none_so_far tables kept c m keeps =
      record {
        last = l;
        verdicts = [];
        pieces = [];
        count = refl;
        are = record { names = []; all = refl; reports = []; taken = tt; offered = none_offered };
        keeps = keeps;
        refused_are = refl;
        few = omega arith;
        taken = taken_none c refl;
        put = put_nothing (kept_ledger t) l m (stored t l tables) (at_rest t m kept l keeps);
      }

  module _ (k number : ℕ) (name : List ℕ) (kept : TotalsData) (refused : ℕ) (c d e : CabinetTold) (m n o : Told) (lt : k < length listed) (is : name ≡ slice_index_or listed k [])
      (numbered : number ≡ k + 1) (h : AreSoFar t l listed k kept refused c d m n) where
    so_numbered : number ≡ length h.verdicts + 1
    so_numbered = numbered ∙ ap (λ (i : ℕ). i + 1) (sym h.count)

    so_left : AreTakenIn c.files t l listed (name ∷ drop (k + 1) listed) h.verdicts h.pieces h.last
    so_left = subst (λ (left : List (List ℕ)). AreTakenIn c.files t l listed left h.verdicts h.pieces h.last) (left_at listed k name lt is) h.are

    so_taken : (bytes : List ℕ) → IsTaken d.files doc.Report name bytes → IsTaken c.files doc.Report name bytes
    so_taken bytes taken = subst (λ (files : Option Files). IsTaken files doc.Report name bytes) h.taken.files taken

    so_full : AreFull h.pieces
    so_full = full_pieces t l h.last h.are.reports h.verdicts h.pieces h.are.offered

    so_after : state_after l h.pieces ≡ h.last
    so_after = after_pieces t l h.last h.are.reports h.verdicts h.pieces h.are.offered

    -- the call of this offer and those before it
    so_called : (s : LedgerStatus) → HasTaken 1 s d e → HasTaken (length listed) s c e
    so_called s taken = taken_within (k + 1) (length listed) c e (omega (arith, lt)) (taken_more k 1 c d e h.taken taken)

    -- an offer that gave a verdict
    pub one_so_far : (next : TotalsData) (now : ℕ) (v : Verdict) → OfferEnds t h.last name number d e n o (Ok (next, v)) → now ≡ refused + refused_one v
        → AreSoFar t l listed (k + 1) next now c e m o
    one_so_far next now v (offered {bytes} has taken offer) more =
        record {
          last = offer.behind;
          verdicts = h.verdicts ++ v ∷ [];
          pieces = h.pieces ++ offer_piece number v offer.behind ∷ [];
          count = length-append h.verdicts (v ∷ []) ∙ ap (λ (i : ℕ). i + 1) h.count;
          are = taken_in c.files (drop (k + 1) listed) name bytes h.verdicts h.pieces h.last offer.behind v number so_numbered so_left (so_taken bytes has) offer.offer;
          keeps = offer.keeps;
          refused_are = more ∙ (ap (λ (r : ℕ). r + refused_one v) h.refused_are ∙ sym (refused_then h.verdicts v));
          few = omega (arith, more, h.few, refused_at_most v);
          taken = taken_more k 1 c d e h.taken taken;
          put = put_to (kept_ledger t) l h.pieces (offer_piece number v offer.behind ∷ []) (h.pieces ++ offer_piece number v offer.behind ∷ []) m n o refl so_full h.put
              (subst (λ (s : LedgerData). HasPut (kept_ledger t) s (offer_piece number v offer.behind ∷ []) n o) (sym so_after) offer.put);
        }

    -- an offer that ended the command
    pub stopped_there : (s : LedgerStatus) → OfferEnds t h.last name number d e n o (Err s) → OffersEnd t l listed c e m o (Err s)
    stopped_there _ (offer_cut {bytes} {p} has taken offer) =
        one_cut (taken_in c.files (drop (k + 1) listed) name bytes h.verdicts h.pieces h.last offer.behind offer.verdict number so_numbered so_left (so_taken bytes has) offer.offer)
        (so_called (port_status p) taken)
        (stopped_after (kept_ledger t) l h.pieces (offer_piece number offer.verdict offer.behind ∷ []) p m n o so_full h.put
        (subst (λ (s : LedgerData). HasStopped (kept_ledger t) s (offer_piece number offer.verdict offer.behind ∷ []) p n o) (sym so_after) offer.stopped))
    stopped_there _ (offer_no_memory taken same) = one_no_memory so_left (so_called status.Memory taken) (subst (λ (x : Told). HasPut (kept_ledger t) l h.pieces m x) (sym same) h.put)
    stopped_there _ (offer_no_cabinet taken same) = one_no_cabinet so_left (so_called status.Cabinet taken) (subst (λ (x : Told). HasPut (kept_ledger t) l h.pieces m x) (sym same) h.put)
    stopped_there s (offer_at_fault fault taken same) =
        one_at_fault so_left (subst (λ (files : Option Files). IsFault files name doc.Report s) h.taken.files fault) (so_called s taken)
        (subst (λ (x : Told). HasPut (kept_ledger t) l h.pieces m x) (sym same) h.put)

  -- all reports were offered
  pub all_so_far : (k : ℕ) (kept : TotalsData) (refused : ℕ) (c d : CabinetTold) (m n : Told) → k ≡ length listed → AreSoFar t l listed k kept refused c d m n
      → OffersEnd t l listed c d m n (Ok refused)
  all_so_far k kept refused c d m n is h = all_offered (subst (λ (i : ℕ). AreSoFar t l listed i kept refused c d m n) is h)

-- where all were offered none is left
pub all_offered_so : (t : TablesData) (l : LedgerData) (listed : List (List ℕ)) (c d : CabinetTold) (m n : Told) (refused : ℕ) → OffersEnd t l listed c d m n (Ok refused)
    → (kept : TotalsData) × (h : AreSoFar t l listed (length listed) kept refused c d m n) × AreTakenIn c.files t l listed [] h.verdicts h.pieces h.last
all_offered_so t l listed c d m n refused (all_offered {kept} h) =
    (kept, h, subst (λ (left : List (List ℕ)). AreTakenIn c.files t l listed left h.verdicts h.pieces h.last) (drop_all (length listed) listed (omega arith)) h.are)

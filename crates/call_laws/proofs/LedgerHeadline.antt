-- However a call of recebe or totais ends, what a power cut leaves keeps the ledger and its offers
use Rattle.std.proofs.Common.{◌≡◌, ◌≢◌, ◌⊎◌, inl, inr, ℕ, zero, suc, ◌+◌, ◌≤◌, List, [], ◌∷◌, ◌++◌, Option, Some, None, IsSomeAnd, option_map, option_to_list, length, take, drop, refl, sym, ap, subst, ◌∙◌, arith, append_assoc, append-nil}
use Rattle.std.proofs.lemmas.Bool.{cases_lt}
use Rattle.std.proofs.lemmas.List.{length-append, length-map, length-take-le, take-append-drop, take-append-le, take_all}
use Rattle.std.specs.List.{concat}
use Rattle.urna_outside.specs.Cabinet.{CabinetTold, Files}
use Rattle.urna_outside.specs.Confined.{AreIn}
use Rattle.urna_outside.specs.Flash.{Flashes, IsImage, Op, Show, after, shown_by}
use Rattle.urna_outside.specs.ShownLines.{HasShown, IsCutOff}
use Rattle.urna_outside.specs.Shows.{AreShows}
use Rattle.urna_outside.specs.Stop.{AtEachStop, IsLeft, IsStop, Left}
use Rattle.urna_outside.specs.Told.{Does, Runs, Told, port_of}
use Rattle.urna_outside.specs.Traced.{IsTraced}
use Rattle.urna_outside.specs.declared.device.Dev.{Dev}
use Rattle.urna_outside.specs.declared.device.Dev.TheVariants as dev
use Rattle.urna_outside.specs.declared.device.Port.{Port}
use Rattle.urna_outside.specs.declared.device.Port.TheVariants as port
use Rattle.urna_outside.proofs.Courses.{in_shows, stop_in}
use Rattle.urna_outside.proofs.Doing.{after-append, does-append, does_nothing, shown_by-append, told_after}
use Rattle.urna_outside.proofs.ShowingLines.{cut_front}
use Rattle.urna_outside.proofs.Stops.{stop-append, stop_whole, stops-append_silent, stops_none}
use Rattle.urna_outside.proofs.Traced.{traced_is}
use Rattle.election_tables.specs.TablesData.{IsTables, TablesData}
use Rattle.section_intake.specs.Accepted.{File}
use Rattle.section_intake.specs.declared.verdict.Verdict.{Verdict}
use Rattle.report_lines.specs.Verdicts.{refused_count}
use Rattle.flash_store.specs.Held.{HeldAlone, HeldByBoth, HoldEither, IsEither, KeepFrames, bodies_of_both}
use Rattle.flash_store.specs.Pieces.{AreFull, Piece, lines_in, lines_reached, quiet, state_after, text_in}
use Rattle.flash_store.specs.Played.{Follows, HasPut, HasStopped, Plays, shows_in}
use Rattle.flash_store.specs.Syncs.{FromSyncs, IsUntouched, both_synced}
use Rattle.flash_store.proofs.Counting.{few_reached, lines_behind, state_of-quiet, text_in-append, text_in-quiet}
use Rattle.flash_store.proofs.Holding.{hold_or_none}
use Rattle.flash_store.proofs.Playing.{follows_quiet, put-append, put_nothing, put_plays, put_shown, stopped_after, stopped_plays, stopped_shown}
use Rattle.flash_store.proofs.Resting.{clean_image, frames_at_end, frames_same, frames_trans}
use Rattle.flash_store.proofs.ShowStops.{shows_in_silent, text_of_lines}
use Rattle.flash_store.proofs.Syncing.{behind_is, both_clean, frames_before, not_done, not_within}
use Rattle.intake_ledger.specs.Calls.{FailsToOpen, Opens}
use Rattle.intake_ledger.specs.Kept.{AreFound, kept_ledger, ledgers}
use Rattle.intake_ledger.specs.Layout.{body_size}
use Rattle.intake_ledger.specs.Ledger.{LedgerData}
use Rattle.intake_ledger.specs.Offers.{AreOfferedTo, none_offered, offer_piece, one_more}
use Rattle.intake_ledger.specs.declared.ledger.LedgerError.{LedgerError}
use Rattle.intake_ledger.specs.declared.ledger.LedgerError.TheVariants as ledger
use Rattle.intake_ledger.proofs.Committing.{stored}
use Rattle.intake_ledger.proofs.Found.{one_is_held}
use Rattle.command_parts.specs.Documents.{AreTaken, HasTables, IsFault as IsFaultOf, IsListed}
use Rattle.command_parts.specs.FaultLines.{Tells, fault_line}
use Rattle.command_parts.specs.declared.error.CommandError.{CommandError}
use Rattle.command_parts.specs.declared.error.Doc.TheVariants as doc
use Rattle.command_parts.proofs.Once.{same_names, same_tables}
use Rattle.ledger_commands.specs.Command.{Command, Recebe}
use Rattle.ledger_commands.specs.Ending.{CommandEnds}
use Rattle.ledger_commands.specs.Errors.{error_of, fault_text, ledger_status, port_status}
use Rattle.call_laws.specs.LedgerHeadline.{HoldsOffers, IsAfterOffers, KeepOffers, KeepsOffers, LedgerIsKept, OffersAreKept, TakesIn, fault_told, verdicts_begun}
use Rattle.ledger_commands.specs.Lines.{ledger_lines}
use Rattle.ledger_commands.specs.Opening.{IsOpened, opening}
use Rattle.ledger_commands.specs.Recebe.{AreTakenIn, HasReceived, HasReceivedTo, RecebeEnds, cut, list_no_cabinet, list_no_memory, list_refused, not_opened, received, refused_status, report_no_cabinet, report_no_memory, report_refused}
use Rattle.ledger_commands.specs.Totais.{TotaisEnds, no_lines, none_opened, total_no_cabinet, total_no_memory, total_refused, totals_told, totals_untold}
use Rattle.ledger_commands.specs.declared.status.LedgerStatus.{LedgerStatus}
use Rattle.ledger_commands.specs.declared.status.LedgerStatus.TheVariants as status
use Rattle.ledger_commands.proofs.Receiving.{after_pieces, as_many, full_pieces}

-- ---- the first of the offers

-- of these files the first so many were offered, and of the lists that tell it the first so many
moved : (t : TablesData) (l : LedgerData) (fs gs : List File) (vs ws : List Verdict) (ps qs : List (Piece LedgerData)) → fs ≡ gs → vs ≡ ws → ps ≡ qs
    → AreOfferedTo t l fs vs ps (state_after l ps) → AreOfferedTo t l gs ws qs (state_after l qs)
moved t l fs gs vs ws ps qs files verdicts pieces offered =
    subst (λ (x : List (Piece LedgerData)). AreOfferedTo t l gs ws x (state_after l x)) pieces
    (subst (λ (x : List Verdict). AreOfferedTo t l gs x ps (state_after l ps)) verdicts (subst (λ (x : List File). AreOfferedTo t l x vs ps (state_after l ps)) files offered))

-- as many verdicts and lines as files
as_many_lines : (t : TablesData) (l m : LedgerData) (files : List File) (verdicts : List Verdict) (pieces : List (Piece LedgerData)) → AreOfferedTo t l files verdicts pieces m
    → length pieces ≡ length files
as_many_lines t l _ _ _ _ none_offered = refl
as_many_lines t l _ _ _ _ (one_more {files} {verdicts} {pieces} {m} {k} {file} {v} before offer) =
    length-append pieces (offer_piece (length files + 1) v k ∷ []) ∙ ap (λ (n : ℕ). n + 1) (as_many_lines t l m files verdicts pieces before) ∙ sym (length-append files (file ∷ []))

offered_first : (t : TablesData) (l m : LedgerData) (files : List File) (verdicts : List Verdict) (pieces : List (Piece LedgerData)) → AreOfferedTo t l files verdicts pieces m → (j : ℕ)
    → AreOfferedTo t l (take j files) (take j verdicts) (take j pieces) (state_after l (take j pieces))
offered_first t l _ _ _ _ none_offered j =
    moved t l [] (take j []) [] (take j []) [] (take j []) (sym (take_all j [] (omega arith))) (sym (take_all j [] (omega arith))) (sym (take_all j [] (omega arith))) none_offered
offered_first t l _ _ _ _ (one_more {files} {verdicts} {pieces} {m} {k} {file} {v} before offer) j =
    let piece = offer_piece (length files + 1) v k in
    let files_long = length-append files (file ∷ []) in
    let verdicts_long = length-append verdicts (v ∷ []) in
    let pieces_long = length-append pieces (piece ∷ []) in
    let verdicts_many = as_many t l m files verdicts pieces before in
    let pieces_many = as_many_lines t l m files verdicts pieces before in
    elim (cases_lt (length files) j) [
      | inl all ↦
          moved t l (files ++ file ∷ []) (take j (files ++ file ∷ [])) (verdicts ++ v ∷ []) (take j (verdicts ++ v ∷ [])) (pieces ++ piece ∷ []) (take j (pieces ++ piece ∷ []))
          (sym (take_all j (files ++ file ∷ []) (omega (arith, files_long, all)))) (sym (take_all j (verdicts ++ v ∷ []) (omega (arith, verdicts_long, verdicts_many, all))))
          (sym (take_all j (pieces ++ piece ∷ []) (omega (arith, pieces_long, pieces_many, all))))
          (subst (λ (x : LedgerData). AreOfferedTo t l (files ++ file ∷ []) (verdicts ++ v ∷ []) (pieces ++ piece ∷ []) x)
          (sym (after_pieces t l k (files ++ file ∷ []) (verdicts ++ v ∷ []) (pieces ++ piece ∷ []) (one_more before offer))) (one_more before offer))
      | inr few ↦
          moved t l (take j files) (take j (files ++ file ∷ [])) (take j verdicts) (take j (verdicts ++ v ∷ [])) (take j pieces) (take j (pieces ++ piece ∷ []))
          (sym (take-append-le j files (file ∷ []) few)) (sym (take-append-le j verdicts (v ∷ []) (omega (arith, verdicts_many, few)))) (sym (take-append-le j pieces (piece ∷ []) (omega (arith, pieces_many, few))))
          (offered_first t l m files verdicts pieces before j)
    ]

-- as many names as files
taken_many : (files : Option Files) (names : List (List ℕ)) (reports : List File) → AreTaken files names reports → length names ≡ length reports
taken_many files [] [] taken = refl
taken_many files [] (report ∷ reports) taken = absurd taken
taken_many files (name ∷ names) [] taken = absurd taken
taken_many files (name ∷ names) (report ∷ reports) taken = ap suc (taken_many files names reports taken.1)

taken_first : (files : Option Files) (names : List (List ℕ)) (reports : List File) → AreTaken files names reports → (j : ℕ) → AreTaken files (take j names) (take j reports)
taken_first files [] [] taken zero = tt
taken_first files [] [] taken (suc j) = tt
taken_first files [] (report ∷ reports) taken j = absurd taken
taken_first files (name ∷ names) [] taken j = absurd taken
taken_first files (name ∷ names) (report ∷ reports) taken zero = tt
taken_first files (name ∷ names) (report ∷ reports) taken (suc j) = (taken.0, taken_first files names reports taken.1 j)

-- ---- which ledger is held, by the lines that are begun

module _ (files : Option Files) (t : TablesData) (l last : LedgerData) (listed left : List (List ℕ)) (verdicts : List Verdict) (pieces : List (Piece LedgerData))
    (are : AreTakenIn files t l listed left verdicts pieces last) where
  lines_many : length pieces ≡ length verdicts
  lines_many = as_many_lines t l last are.reports verdicts pieces are.offered ∙ sym (as_many t l last are.reports verdicts pieces are.offered)

  after_first : (j : ℕ) → j ≤ length verdicts → IsAfterOffers files t l listed j (state_after l (take j pieces))
  after_first j few =
      record {
        left = drop j are.names ++ left;
        verdicts = take j verdicts;
        pieces = take j pieces;
        are = record {
          names = take j are.names;
          all = are.all ∙ ap (λ (x : List (List ℕ)). x ++ left) (sym (take-append-drop j are.names)) ∙ append_assoc (take j are.names) (drop j are.names) left;
          reports = take j are.reports;
          taken = taken_first files are.names are.reports are.taken j;
          offered = offered_first t l last are.reports verdicts pieces are.offered j;
        };
        number_is = length-take-le j verdicts few;
      }

  held_at : (n j : ℕ) (held : LedgerData → Type 0) → j ≤ length verdicts → (j ≡ verdicts_begun l pieces n) ⊎ (j ≡ verdicts_begun l pieces n + 1) → held (state_after l (take j pieces))
      → HoldsOffers files t l listed pieces n held
  held_at n j held few told is =
      record { ledger = state_after l (take j pieces); is = is; reached = j; after = after_first j few; few = omega (arith, few, lines_many); told = told }

  -- behind the opening line and the lines that are begun by so many bytes
  holds_offers : (n k : ℕ) (held : LedgerData → Type 0) → k ≡ lines_reached (lines_in (opening l ++ pieces)) n → k ≤ 1 + length verdicts
      → IsEither (state_after l (take k (opening l ++ pieces))) (state_after l (take (k + 1) (opening l ++ pieces))) held → HoldsOffers files t l listed pieces n held
  holds_offers n zero held begun few (inl is) = held_at n 0 held (omega arith) (inl (omega (arith, begun))) is
  holds_offers n zero held begun few (inr is) = held_at n 0 held (omega arith) (inl (omega (arith, begun))) is
  holds_offers n (suc j) held begun few (inl is) = held_at n j held (omega (arith, few)) (inl (omega (arith, begun))) is
  holds_offers n (suc j) held begun few (inr is) =
      let number : suc j + 1 ≡ suc (suc j) = omega arith in
      let next : held (state_after l (take (suc j) pieces)) = subst (λ (i : ℕ). held (state_after l (take i (opening l ++ pieces)))) number is in
      elim (cases_lt j (length verdicts)) [
        | inl more ↦ held_at n (suc j) held (omega (arith, more)) (inr (omega (arith, begun))) next
        | inr all ↦
            let whole : take (suc j) pieces ≡ take j pieces = take_all (suc j) pieces (omega (arith, all, lines_many)) ∙ sym (take_all j pieces (omega (arith, all, lines_many))) in
            held_at n j held (omega (arith, few)) (inl (omega (arith, begun))) (subst (λ (x : List (Piece LedgerData)). held (state_after l x)) whole next)
      ]

  full_all : AreFull (opening l ++ pieces)
  full_all = (omega arith, full_pieces t l last are.reports verdicts pieces are.offered)

  -- where the whole text was shown, each verdict was begun
  pub all_begun : (shown behind : List ℕ) → shown ≡ text_in (opening l ++ pieces) ++ behind → verdicts_begun l pieces (length shown) ≡ length pieces
  all_begun shown behind is =
      let lines = opening l ++ pieces in
      let begun = ap (λ (x : List ℕ). lines_reached (lines_in lines) (length x)) is in
      let nothing_more = ap (λ (x : List (Piece LedgerData)). lines_reached (lines_in x) (length (text_in lines ++ behind))) (sym (append-nil lines)) in
      omega (arith, begun, nothing_more, lines_behind lines [] behind full_all)

  -- and where no report is left, they are as many as the listed ones
  pub all_taken : left ≡ [] → length pieces ≡ length listed
  all_taken none =
      let all : listed ≡ are.names = are.all ∙ ap (λ (x : List (List ℕ)). are.names ++ x) none ∙ append-nil are.names in
      omega (arith, ap (λ (x : List (List ℕ)). length x) all, taken_many files are.names are.reports are.taken, as_many_lines t l last are.reports verdicts pieces are.offered)

  lines_few : (n : ℕ) → lines_reached (lines_in (opening l ++ pieces)) n ≤ 1 + length verdicts
  lines_few n =
      omega (arith, few_reached (lines_in (opening l ++ pieces)) n, length-map (opening l ++ pieces) (λ (piece : Piece LedgerData). piece.line), lines_many)

-- ---- the shows of a fault line

module _ (t : TablesData) (tables : IsTables t) (l : LedgerData) (all : List (Piece LedgerData)) (full : AreFull all) (a b n : Told) where
  -- they were put out behind the pieces
  told_behind : (text : Option (List ℕ)) → HasPut (kept_ledger t) l all a b → Tells text b n
      → Runs (Plays (ledgers t) l (all ++ quiet (option_to_list (option_map fault_line text))) a.flashes) a n
  told_behind None put same =
      put_plays (kept_ledger t) l (all ++ []) a n
      (subst (λ (x : Told). HasPut (kept_ledger t) l (all ++ []) a x) (sym same)
      (put-append (kept_ledger t) l all [] a b b full put (put_nothing (kept_ledger t) (state_after l all) b (stored t (state_after l all) tables) put.rest)))
  told_behind (Some text) put (inl shown) =
      put_plays (kept_ledger t) l (all ++ quiet (fault_line text ∷ [])) a n
      (put-append (kept_ledger t) l all (quiet (fault_line text ∷ [])) a b n full put
      (put_shown (kept_ledger t) (state_after l all) (fault_line text ∷ []) b n (stored t (state_after l all) tables) put.rest shown))
  told_behind (Some text) put (inr off) =
      stopped_plays (kept_ledger t) l (all ++ quiet (fault_line text ∷ [])) port.Display a n
      (stopped_after (kept_ledger t) l all (quiet (fault_line text ∷ [])) port.Display a b n full put
      (stopped_shown (kept_ledger t) (state_after l all) (fault_line text ∷ []) b n (stored t (state_after l all) tables) put.rest off))

  stopped_silent : (p : Port) → HasStopped (kept_ledger t) l all p a b → n ≡ b → Runs (Plays (ledgers t) l (all ++ []) a.flashes) a n
  stopped_silent p stopped same =
      subst (λ (x : List (Piece LedgerData)). Runs (Plays (ledgers t) l x a.flashes) a n) (sym (append-nil all))
      (subst (λ (x : Told). Runs (Plays (ledgers t) l all a.flashes) a x) (sym same) (stopped_plays (kept_ledger t) l all p a b stopped))

  -- a port that failed has no line
  stopped_behind : (p : Port) → HasStopped (kept_ledger t) l all p a b → Tells (fault_text (port_status p)) b n
      → Runs (Plays (ledgers t) l (all ++ quiet (option_to_list (option_map fault_line (fault_text (port_status p))))) a.flashes) a n
  stopped_behind port.Internal stopped same = stopped_silent port.Internal stopped same
  stopped_behind port.External stopped same = stopped_silent port.External stopped same
  stopped_behind port.Display stopped same = stopped_silent port.Display stopped same

-- telling a fault does something
pub tells_does : (text : Option (List ℕ)) (b n : Told) → Tells text b n → (ops : List Op) × Does ops b n
tells_does None b n same = ([], subst (Does [] b) (sym same) (does_nothing b))
tells_does (Some text) b n (inl shown) = (_, shown.does)
tells_does (Some text) b n (inr off) = (off.ops, off.does)

-- ---- a call behind its two syncs

-- nothing is shown at any stop of these operations
abbrev Silent : List Op → Type 0
Silent ops = (done : List Op) → IsStop ops done → (shows_in done ≡ []) × (shown_by done ≡ [])

silent_in : (In : Dev → ℕ → Type 0) (ops : List Op) → AreIn In ops → Silent ops
silent_in In ops within done stop =
    let so = stop_in In ops done within stop in (shows_in_silent In done so, in_shows In done so)

-- What was done over these flashes: opening the ledger, which shows nothing, and then these pieces.
record Splits (t : TablesData) (l : LedgerData) (all : List (Piece LedgerData)) (start : Flashes) (ops : List Op) : Type 0 where
  heal : List Op
  rest : List Op
  in_row : ops ≡ heal ++ rest
  silent : Silent heal
  heals : AtEachStop (after both_synced start) heal (λ left. HeldByBoth (ledgers t) left.internal left.external l × KeepFrames body_size start left)
  plays : AtEachStop (after heal (after both_synced start)) rest (λ left. Follows (ledgers t) l all left × KeepFrames body_size start left)

module _ (t : TablesData) (l : LedgerData) (m n : Told) (start : Flashes) (ops : List Op) (traced : IsTraced m n start (both_synced ++ ops)) where
  split : (b : Told) (all : List (Piece LedgerData)) → IsOpened t l m b → Runs (Plays (ledgers t) l all b.flashes) b n → Splits t l all start ops
  split b all opened (ys, shown, plays) =
      let xs = opened.ran.0 in
      let heal = opened.ran.2.0 in
      let is = opened.ran.2.1 in
      let heals = (opened.ran.2.2.stops start traced.flashes).1 in
      let kept = frames_at_end body_size start (after both_synced start) heal (λ done stop left at. (heals done stop left at).1) in
      let told = told_after (both_synced ++ heal) m b start (subst (λ (x : List Op). Does x m b) is opened.ran.1) traced.flashes in
      record {
        heal = heal;
        rest = ys;
        in_row =
            sym (behind_is m n start ops traced (xs ++ ys) (heal ++ ys) (does-append xs ys m b n opened.ran.1 shown) (ap (λ (x : List Op). x ++ ys) is ∙ append_assoc both_synced heal ys));
        silent = silent_in _ heal opened.ran.2.2.slots.within;
        heals = heals;
        plays = λ done stop left at.
            let holds = plays.stops (after heal (after both_synced start)) told done stop left at in
            (holds.0, frames_trans body_size start (after heal (after both_synced start)) left kept holds.1);
      }

  -- no call that only shows is such a call
  only_shows : (done : List Op) → AreShows done → Does done m n → ⊥
  only_shows done shows does = (subst AreShows (traced_is m n start (both_synced ++ ops) done traced does) shows).0

  untouched : (b : Told) (text : Option (List ℕ)) → IsUntouched m b → Tells text b n → ⊥
  untouched b None same tells = only_shows [] tt (subst (λ (x : Told). Does [] m x) (sym (tells ∙ same)) (does_nothing m))
  untouched b (Some text) same (inl shown) =
      only_shows (Show (fault_line text) ∷ []) (tt, tt) (subst (λ (x : Told). Does (Show (fault_line text) ∷ []) x n) same shown.does)
  untouched b (Some text) same (inr off) =
      only_shows off.ops (cut_front (fault_line text ∷ []) off.ops off.cut).shows (subst (λ (x : Told). Does off.ops x n) same off.does)

-- from the first show on, the pieces are put out
split_shown : (t : TablesData) (l : LedgerData) (all : List (Piece LedgerData)) (start : Flashes) (ops : List Op) → Splits t l all start ops → (done : List Op) → IsStop ops done → shows_in done ≢ []
    → (left : Left) → IsLeft (after done (after both_synced start)) (shown_by done) left → Follows (ledgers t) l all left
split_shown t l all start ops s done stop begun left at = elim (stop-append s.heal s.rest done (subst (λ (x : List Op). IsStop x done) s.in_row stop)) [
  | inl opening_it ↦ absurd (begun (s.silent done opening_it).0)
  | inr (more, is, behind) ↦
      let same : after done (after both_synced start) ≡ after more (after s.heal (after both_synced start)) =
      ap (λ (x : List Op). after x (after both_synced start)) is ∙ after-append s.heal more (after both_synced start) in
      let text : shown_by done ≡ shown_by more =
      ap shown_by is ∙ shown_by-append s.heal more ∙ ap (λ (x : List ℕ). x ++ shown_by more) (s.silent s.heal (stop_whole s.heal)).1 in
      let there : IsLeft (after more (after s.heal (after both_synced start))) (shown_by more) left =
      record {
        internal = subst (λ (fs : Flashes). IsImage fs.internal left.internal) same at.internal;
        external = subst (λ (fs : Flashes). IsImage fs.external left.external) same at.external;
        shown = at.shown ∙ text;
      } in
      (s.plays more behind left there).0
]

-- ---- what is left keeps the offers

module _ (files : Option Files) (t : TablesData) (l : LedgerData) (listed : List (List ℕ)) (answer : LedgerStatus) (start : Flashes) where
  -- nothing is shown, and the ledger is held
  before_shown : (left : List (List ℕ)) (verdicts : List Verdict) (pieces : List (Piece LedgerData)) (last : LedgerData) → AreTakenIn files t l listed left verdicts pieces last
      → (x : Left) → x.shown ≡ [] → HeldByBoth (ledgers t) x.internal x.external l × KeepFrames body_size start x → KeepsOffers files t l listed pieces answer start x
  before_shown left verdicts pieces last are x none holds =
      record {
        rest = text_in (opening l ++ pieces) ++ fault_told answer;
        front = ap (λ (s : List ℕ). s ++ (text_in (opening l ++ pieces) ++ fault_told answer)) (sym none);
        before = λ nothing. holds.0;
        both = subst (λ (s : List ℕ). HoldsOffers files t l listed pieces (length s) (HeldByBoth (ledgers t) x.internal x.external)) (sym none)
            (holds_offers files t l last listed left verdicts pieces are 0 0 (HeldByBoth (ledgers t) x.internal x.external) refl (omega arith) (inl holds.0));
        frames = holds.1;
      }

  -- no offer was made
  none_taken : AreTakenIn files t l listed listed [] [] l
  none_taken = record { names = []; all = refl; reports = []; taken = tt; offered = none_offered }

  -- opening the ledger is all that was done
  only_opened : (ops : List Op) → Silent ops
      → AtEachStop (after both_synced start) ops (λ x. HeldByBoth (ledgers t) x.internal x.external l × KeepFrames body_size start x) → KeepOffers files t l listed [] answer start ops
  only_opened ops silent heals =
      record {
        both = λ done stop x at. before_shown listed [] [] l none_taken x (at.shown ∙ (silent done stop).1) (heals done stop x at);
        alone = λ done stop begun x at. absurd (begun (silent done stop).0);
      }

  module _ (left : List (List ℕ)) (verdicts : List Verdict) (pieces : List (Piece LedgerData)) (last : LedgerData) (are : AreTakenIn files t l listed left verdicts pieces last)
      (lines : List (List ℕ)) (fault : concat lines ≡ fault_told answer) (ops : List Op) (s : Splits t l ((opening l ++ pieces) ++ quiet lines) start ops) where
    abbrev all : List (Piece LedgerData)
    all = opening l ++ pieces

    abbrev begun_of : Left → ℕ
    begun_of x = lines_reached (lines_in all) (length x.shown)

    holds_now : (x : Left) → Follows (ledgers t) l (all ++ quiet lines) x → HoldEither (ledgers t) (state_after l (take (begun_of x) all)) (state_after l (take (begun_of x + 1) all)) x
    holds_now x follows = follows_quiet (kept_ledger t) l all lines x follows

    -- the state after the lines that so many bytes begin, or after one more
    abbrev Either_at : ℕ → (LedgerData → Type 0) → Type 0
    Either_at n held = IsEither (state_after l (take (lines_reached (lines_in all) n) all)) (state_after l (take (lines_reached (lines_in all) n + 1) all)) held

    -- the opening line tells no ledger
    first_held : (held : LedgerData → Type 0) → Either_at 0 held → held l
    first_held held (inl is) = is
    first_held held (inr is) = is

    so : (x : Left) (held : LedgerData → Type 0) → IsEither (state_after l (take (begun_of x) all)) (state_after l (take (begun_of x + 1) all)) held
        → HoldsOffers files t l listed pieces (length x.shown) held
    so x held either =
        holds_offers files t l last listed left verdicts pieces are (length x.shown) (begun_of x) held refl (lines_few files t l last listed left verdicts pieces are (length x.shown)) either

    once_shown : (x : Left) → Follows (ledgers t) l (all ++ quiet lines) x × KeepFrames body_size start x → KeepsOffers files t l listed pieces answer start x
    once_shown x holds =
        record {
          rest = holds.0.rest;
          front = ap (λ (y : List ℕ). text_in all ++ y) (sym fault) ∙ ap (λ (y : List ℕ). text_in all ++ y) (sym (text_in-quiet LedgerData lines))
              ∙ sym (text_in-append all (quiet lines)) ∙ holds.0.front;
          before = λ nothing. first_held (HeldByBoth (ledgers t) x.internal x.external) (subst (λ (y : List ℕ). Either_at (length y) (HeldByBoth (ledgers t) x.internal x.external)) nothing (holds_now x holds.0).both);
          both = so x (HeldByBoth (ledgers t) x.internal x.external) (holds_now x holds.0).both;
          frames = holds.1;
        }

    keeps : KeepOffers files t l listed pieces answer start ops
    keeps =
        record {
          both = subst (λ (y : List Op). AtEachStop (after both_synced start) y (KeepsOffers files t l listed pieces answer start)) (sym s.in_row)
              (stops-append_silent (after both_synced start) s.heal s.rest (KeepsOffers files t l listed pieces answer start) (s.silent s.heal (stop_whole s.heal)).1
              (λ done stop x at.
              before_shown left verdicts pieces last are x (at.shown ∙ (s.silent done stop).1) (s.heals done stop x at))
              (λ done stop x at. once_shown x (s.plays done stop x at)));
          alone = λ done stop begun x at.
              let holds = holds_now x (split_shown t l (all ++ quiet lines) start ops s done stop begun x at) in
              (so x (HeldAlone (ledgers t) x.internal) holds.internal, so x (HeldAlone (ledgers t) x.external) holds.external);
        }

-- where some reports were refused, or none, no port failed,
pub not_refused_port : (p : Port) (refused : ℕ) → port_status p ≢ refused_status refused
not_refused_port port.Internal zero same = absurd (cc)
not_refused_port port.Internal (suc refused) same = absurd (cc)
not_refused_port port.External zero same = absurd (cc)
not_refused_port port.External (suc refused) same = absurd (cc)
not_refused_port port.Display zero same = absurd (cc)
not_refused_port port.Display (suc refused) same = absurd (cc)

-- and there is no error
not_refused_fault : (P : CommandError → Type 0) (s : LedgerStatus) → IsSomeAnd (error_of s) P → (refused : ℕ) → s ≢ refused_status refused
not_refused_fault P s h zero same = subst (λ (x : LedgerStatus). IsSomeAnd (error_of x) P) same h
not_refused_fault P s h (suc refused) same = subst (λ (x : LedgerStatus). IsSomeAnd (error_of x) P) same h

-- ---- how the calls end, over flashes that hold the ledger

module _ (t : TablesData) (tables : IsTables t) (l : LedgerData) (start : Flashes) (found : AreFound t l start) (m b n : Told) (ops : List Op) (traced : IsTraced m n start (both_synced ++ ops)) where
  abbrev Heals : Left → Type 0
  Heals x = HeldByBoth (ledgers t) x.internal x.external l × KeepFrames body_size start x

  -- what is left behind the two syncs alone
  nothing_done : AtEachStop (after both_synced start) [] Heals
  nothing_done =
      stops_none (after both_synced start) Heals (λ x at.
      let internal = clean_image (after both_synced start).internal x.internal (both_clean start dev.Internal) at.internal in
      let external = clean_image (after both_synced start).external x.external (both_clean start dev.External) at.external in (
        subst (λ (y : List ℕ). HeldByBoth (ledgers t) y x.external l) (sym internal) (subst (λ (y : List ℕ). HeldByBoth (ledgers t) start.internal.content y l) (sym external) found.held),
        frames_before body_size start x (frames_same body_size (after both_synced start) x (both_clean start) at.internal at.external),
      ))

  one_ledger : (k : LedgerData) → AreFound t k start → k ≡ l
  one_ledger k also = one_is_held t (bodies_of_both body_size start.internal.content start.external.content) k l also.held found.held

  -- opening it was cut off by a flash
  flash_failed : (Kept : List Op → Type 0) → ((xs : List Op) → Silent xs → AtEachStop (after both_synced start) xs Heals → Kept xs)
      → Runs (FromSyncs (λ xs. (xs ≡ []) ⊎ ((k : LedgerData) × Opens t k m xs))) m n → Kept ops
  flash_failed Kept kept (xs, does, inl (inl none)) = absurd (not_done m n start ops traced (subst (λ (y : List Op). Does y m n) none does))
  flash_failed Kept kept (xs, does, inl (inr one)) = absurd (not_within m n start ops traced (subst (λ (y : List Op). Does y m n) one does))
  flash_failed Kept kept (xs, does, inr (behind, is, inl none)) = subst Kept (sym none ∙ behind_is m n start ops traced xs behind does is) (kept [] (silent_in (λ d k. ⊥) [] tt) nothing_done)
  flash_failed Kept kept (xs, does, inr (behind, is, inr (k, opens))) =
      let at = opens.stops start traced.flashes in
      let heals : AtEachStop (after both_synced start) behind Heals =
      subst (λ (j : LedgerData). AtEachStop (after both_synced start) behind (λ x. HeldByBoth (ledgers t) x.internal x.external j × KeepFrames body_size start x)) (one_ledger k at.0) at.1 in
      subst Kept (behind_is m n start ops traced xs behind does is) (kept behind (silent_in _ behind opens.slots.within) heals)

  -- the ledger was not opened: over these flashes it was a flash that failed
  failed_flash : (e : LedgerError) → FailsToOpen t m b e → Tells (fault_text (ledger_status e)) b n → (d : Dev) × (e ≡ ledger.Flash d)
  failed_flash ledger.Memory un tells = absurd (untouched t l m n start ops traced b None un tells)
  failed_flash (ledger.Flash d) fails same = (d, refl)
  failed_flash (ledger.Foreign dev.Internal) fails tells = absurd (fails.1 start traced.flashes (found.framed dev.Internal))
  failed_flash (ledger.Foreign dev.External) fails tells = absurd ((fails.1 start traced.flashes).1 (found.framed dev.External))
  failed_flash ledger.NoImage fails tells =
      absurd (hold_or_none (ledgers t) (bodies_of_both body_size start.internal.content start.external.content) l (fails.1 start traced.flashes).none found.held)
  failed_flash (ledger.Busy d) fails tells = absurd fails

  kept_by_flash : (Kept : List Op → Type 0) → ((xs : List Op) → Silent xs → AtEachStop (after both_synced start) xs Heals → Kept xs)
      → (d : Dev) → FailsToOpen t m b (ledger.Flash d) → Tells (fault_text (ledger_status (ledger.Flash d))) b n → Kept ops
  kept_by_flash Kept kept dev.Internal fails same = flash_failed Kept kept (subst (λ (y : Told). Runs (FromSyncs (λ xs. (xs ≡ []) ⊎ ((k : LedgerData) × Opens t k m xs))) m y) (sym same) fails.1)
  kept_by_flash Kept kept dev.External fails same = flash_failed Kept kept (subst (λ (y : Told). Runs (FromSyncs (λ xs. (xs ≡ []) ⊎ ((k : LedgerData) × Opens t k m xs))) m y) (sym same) fails.1)

  not_opened_kept : (Kept : List Op → Type 0) → ((xs : List Op) → Silent xs → AtEachStop (after both_synced start) xs Heals → Kept xs)
      → (e : LedgerError) → FailsToOpen t m b e → Tells (fault_text (ledger_status e)) b n → Kept ops
  not_opened_kept Kept kept e fails tells =
      let (d, is) = failed_flash e fails tells in
      kept_by_flash Kept kept d (subst (FailsToOpen t m b) is fails) (subst (λ (x : LedgerError). Tells (fault_text (ledger_status x)) b n) is tells)

  -- ---- recebe

  module _ (files : Option Files) (listed : List (List ℕ)) where
    abbrev AreKept : LedgerStatus → LedgerData → Type 0
    AreKept answer k = TakesIn files t k listed answer start ops

    -- where all was put out, the text was shown
    all_told : (a : Told) (k : LedgerData) (pieces : List (Piece LedgerData)) → IsOpened t k m a → HasPut (kept_ledger t) k (opening k ++ pieces) a b
        → (text : Option (List ℕ)) → Tells text b n → (behind : List ℕ) × (shown_by ops ≡ text_in (opening k ++ pieces) ++ behind)
    all_told a k pieces opened put text tells =
        let all = opening k ++ pieces in
        let heal = opened.ran.2.0 in
        let fault = tells_does text b n tells in
        let later = put.ops ++ fault.0 in
        let row : heal ++ later ≡ ops =
        behind_is m n start ops traced (opened.ran.0 ++ later) (heal ++ later)
        (does-append opened.ran.0 later m a n opened.ran.1 (does-append put.ops fault.0 a b n put.does fault.1))
        (ap (λ (x : List Op). x ++ later) opened.ran.2.1 ∙ append_assoc both_synced heal later) in
        let silent : shown_by heal ≡ [] = (silent_in _ heal opened.ran.2.2.slots.within heal (stop_whole heal)).1 in (
          shown_by fault.0,
          ap shown_by (sym row) ∙ shown_by-append heal later ∙ ap (λ (x : List ℕ). x ++ shown_by later) silent ∙ shown_by-append put.ops fault.0
              ∙ ap (λ (x : List ℕ). x ++ shown_by fault.0) (text_of_lines put.ops (lines_in all) put.shown),
        )

    found_first : (k : LedgerData) (a : Told) → IsOpened t k m a → k ≡ l
    found_first k a opened = one_ledger k (opened.ran.2.2.stops start traced.flashes).0

    received_kept : (answer : LedgerStatus) (left : List (List ℕ)) (verdicts : List Verdict) → HasReceived files t listed left verdicts m b → Tells (fault_text answer) b n
        → ((refused : ℕ) → answer ≡ refused_status refused → left ≡ []) → AreKept answer l
    received_kept answer left verdicts h tells all_read =
        let all = opening h.first ++ h.pieces in
        let lines = option_to_list (option_map fault_line (fault_text answer)) in
        let full = full_all files t h.first h.last listed left verdicts h.pieces h.are in
        let played = told_behind t tables h.first all full h.between b n (fault_text answer) h.put tells in
        subst (AreKept answer) (found_first h.first h.between h.opened)
        (record {
          unread = left;
          verdicts = verdicts;
          pieces = h.pieces;
          last = h.last;
          are = h.are;
          told = λ none. all_told h.between h.first h.pieces h.opened h.put (fault_text answer) tells;
          all = all_read;
          kept = keeps files t h.first listed answer start left verdicts h.pieces h.last h.are lines refl ops (split t h.first m n start ops traced h.between (all ++ quiet lines) h.opened played);
        })

    stopped_kept : (p : Port) (left : List (List ℕ)) (verdicts : List Verdict) → HasReceivedTo files t listed left verdicts p m b → Tells (fault_text (port_status p)) b n → AreKept (port_status p) l
    stopped_kept p left verdicts h tells =
        let all = opening h.first ++ h.pieces in
        let lines = option_to_list (option_map fault_line (fault_text (port_status p))) in
        let full = full_all files t h.first h.last listed left verdicts h.pieces h.are in
        let played = stopped_behind t tables h.first all full h.between b n p h.stopped tells in
        subst (AreKept (port_status p)) (found_first h.first h.between h.opened)
        (record {
          unread = left;
          verdicts = verdicts;
          pieces = h.pieces;
          last = h.last;
          are = h.are;
          told = λ none. absurd (none p refl);
          all = λ refused same. absurd (not_refused_port p refused same);
          kept = keeps files t h.first listed (port_status p) start left verdicts h.pieces h.last h.are lines refl ops (split t h.first m n start ops traced h.between (all ++ quiet lines) h.opened played);
        })

    unopened_kept : (e : LedgerError) → FailsToOpen t m b e → Tells (fault_text (ledger_status e)) b n → AreKept (ledger_status e) l
    unopened_kept e fails tells =
        let (d, is) = failed_flash e fails tells in
        let by_port : ledger_status e ≡ port_status (port_of d) = ap ledger_status is in
        record {
          unread = listed;
          verdicts = [];
          pieces = [];
          last = l;
          are = none_taken files t l listed (ledger_status e) start;
          told = λ none. absurd (none (port_of d) by_port);
          all = λ refused same. absurd (not_refused_port (port_of d) refused (sym by_port ∙ same));
          kept = not_opened_kept (λ xs. KeepOffers files t l listed [] (ledger_status e) start xs) (only_opened files t l listed (ledger_status e) start) e fails tells;
        }

  -- ---- totais

  -- the ledger is held by both, and from the first show on by each alone
  abbrev LedgerKept : List Op → Type 0
  LedgerKept xs =
      AtEachStop (after both_synced start) xs Heals
      × ((done : List Op) → IsStop xs done → shows_in done ≢ [] → (x : Left) → IsLeft (after done (after both_synced start)) (shown_by done) x
      → HeldAlone (ledgers t) x.internal l × HeldAlone (ledgers t) x.external l)

  own : (lines : List (List ℕ)) (k : ℕ) (held : LedgerData → Type 0) → IsEither (state_after l (take k (quiet lines))) (state_after l (take (k + 1) (quiet lines))) held → held l
  own lines k held (inl is) = subst held (state_of-quiet l lines k) is
  own lines k held (inr is) = subst held (state_of-quiet l lines (k + 1)) is

  quiet_kept : (lines : List (List ℕ)) → Splits t l (quiet lines) start ops → LedgerKept ops
  quiet_kept lines s = (
    subst (λ (y : List Op). AtEachStop (after both_synced start) y Heals) (sym s.in_row)
        (stops-append_silent (after both_synced start) s.heal s.rest Heals (s.silent s.heal (stop_whole s.heal)).1 s.heals (λ done stop x at.
        let holds = s.plays done stop x at in
        (own lines (begun x) (HeldByBoth (ledgers t) x.internal x.external) holds.0.holds.both, holds.1))),
    λ done stop shown x at.
        let follows = split_shown t l (quiet lines) start ops s done stop shown x at in
        (own lines (begun x) (HeldAlone (ledgers t) x.internal) follows.holds.internal, own lines (begun x) (HeldAlone (ledgers t) x.external) follows.holds.external),
  )
    where
      begun : Left → ℕ
      begun x = lines_reached (lines_in (quiet {S = LedgerData} lines)) (length x.shown)

  -- opening it showed nothing
  opened_alone : (xs : List Op) → Silent xs → AtEachStop (after both_synced start) xs Heals → LedgerKept xs
  opened_alone xs silent heals = (
    heals,
    λ done stop shown x at. absurd (shown (silent done stop).0),
  )

  unopened_ledger : (e : LedgerError) → FailsToOpen t m b e → Tells (fault_text (ledger_status e)) b n → LedgerKept ops
  unopened_ledger e fails tells = not_opened_kept LedgerKept opened_alone e fails tells

  -- a ledger that was opened up to a, and lines behind it
  opened_ledger : (a : Told) (k : LedgerData) (lines : List (List ℕ)) → IsOpened t k m a → (IsOpened t l m a → Runs (Plays (ledgers t) l (quiet lines) a.flashes) a n) → LedgerKept ops
  opened_ledger a k lines opened plays =
      let here : IsOpened t l m a = subst (λ (j : LedgerData). IsOpened t j m a) (one_ledger k (opened.ran.2.2.stops start traced.flashes).0) opened in
      quiet_kept lines (split t l m n start ops traced a (quiet lines) here (plays here))

  no_lines_kept : (k : LedgerData) → IsOpened t k m n → LedgerKept ops
  no_lines_kept k opened =
      opened_ledger n k [] opened (λ here. put_plays (kept_ledger t) l [] n n (put_nothing (kept_ledger t) l n (stored t l tables) here.rest))

  lines_kept : (a : Told) (k : LedgerData) (lines : List (List ℕ)) → IsOpened t k m a → HasShown lines a n → LedgerKept ops
  lines_kept a k lines opened shown =
      opened_ledger a k lines opened (λ here. put_plays (kept_ledger t) l (quiet lines) a n (put_shown (kept_ledger t) l lines a n (stored t l tables) here.rest shown))

  cut_kept : (a : Told) (k : LedgerData) (lines : List (List ℕ)) → IsOpened t k m a → IsCutOff lines a n → LedgerKept ops
  cut_kept a k lines opened off =
      opened_ledger a k lines opened (λ here. stopped_plays (kept_ledger t) l (quiet lines) port.Display a n (stopped_shown (kept_ledger t) l lines a n (stored t l tables) here.rest off))

-- ---- the calls

module _ (files : Files) (c : CabinetTold) (there : c.files ≡ Some files) (t : TablesData) where
  -- the tables and the list are those that were given
  of_tables : (name : List ℕ) (u : TablesData) (P : TablesData → Type 0) → HasTables (Some files) name t → HasTables c.files name u → P u → P t
  of_tables name u P given also h = subst P (same_tables files name u t (subst (λ (o : Option Files). HasTables o name u) there also) given) h

  of_listed : (names : Recebe) (listed : List (List ℕ)) (u : TablesData) (others : List (List ℕ)) (P : TablesData → List (List ℕ) → Type 0) → IsListed (Some files) names.tables names.list t listed
      → IsListed c.files names.tables names.list u others → P u others → P t listed
  of_listed names listed u others P given also h =
      let same = same_names files names.list others listed (subst (λ (o : Option Files). IsListed o names.tables names.list u others) there also).list given.list in
      subst (P t) same (of_tables names.tables u (λ (x : TablesData). P x others) given.tables also.tables h)

  module _ (names : Recebe) (listed : List (List ℕ)) (given : IsListed (Some files) names.tables names.list t listed) (d : CabinetTold) (l : LedgerData) (start : Flashes) (found : AreFound t l start)
      (m b n : Told) (ops : List Op) (traced : IsTraced m n start (both_synced ++ ops)) where
    abbrev tables : IsTables t
    tables = given.tables.valid

    abbrev Kept : LedgerStatus → Type 0
    Kept answer = AreKept t tables l start found m b n ops traced (Some files) listed answer l

    held_kept : (answer : LedgerStatus) (u : TablesData) (others left : List (List ℕ)) (verdicts : List Verdict) → IsListed c.files names.tables names.list u others
        → HasReceived c.files u others left verdicts m b → Tells (fault_text answer) b n → ((refused : ℕ) → answer ≡ refused_status refused → left ≡ []) → Kept answer
    held_kept answer u others left verdicts also h tells all_read =
        received_kept t tables l start found m b n ops traced (Some files) listed answer left verdicts
        (of_listed names listed u others (λ x y. HasReceived (Some files) x y left verdicts m b) given also (subst (λ (o : Option Files). HasReceived o u others left verdicts m b) there h)) tells all_read

    recebe_kept : (answer : LedgerStatus) → RecebeEnds names c d m b answer → Tells (fault_text answer) b n → Kept answer
    recebe_kept answer (list_refused why taken un) tells = absurd (untouched t l m n start ops traced b (fault_text answer) un tells)
    recebe_kept _ (list_no_memory taken un) tells = absurd (untouched t l m n start ops traced b None un tells)
    recebe_kept _ (list_no_cabinet taken un) tells = absurd (untouched t l m n start ops traced b None un tells)
    recebe_kept _ (not_opened {t = u} {listed = others} e also taken fails) tells =
        unopened_kept t tables l start found m b n ops traced (Some files) listed e (of_listed names listed u others (λ x y. FailsToOpen x m b e) given also fails) tells
    recebe_kept _ (cut {t = u} {listed = others} {left} {verdicts} p also taken h) tells =
        stopped_kept t tables l start found m b n ops traced (Some files) listed p left verdicts
        (of_listed names listed u others (λ x y. HasReceivedTo (Some files) x y left verdicts p m b) given also (subst (λ (o : Option Files). HasReceivedTo o u others left verdicts p m b) there h)) tells
    recebe_kept answer (report_refused {t = u} {listed = others} {left} {name} {verdicts} also h fault taken) tells =
        held_kept answer u others (name ∷ left) verdicts also h tells (λ refused same. absurd (not_refused_fault (IsFaultOf c.files name doc.Report) answer fault refused same))
    recebe_kept _ (report_no_cabinet {t = u} {listed = others} {left} {name} {verdicts} also h taken) tells =
        held_kept status.Cabinet u others (name ∷ left) verdicts also h tells (λ refused same. absurd (not_refused_fault (λ e. Unit {0}) status.Cabinet tt refused same))
    recebe_kept _ (report_no_memory {t = u} {listed = others} {left} {name} {verdicts} also h taken) tells =
        held_kept status.Memory u others (name ∷ left) verdicts also h tells (λ refused same. absurd (not_refused_fault (λ e. Unit {0}) status.Memory tt refused same))
    recebe_kept _ (received {t = u} {listed = others} {verdicts} also h taken) tells =
        held_kept (refused_status (refused_count verdicts)) u others [] verdicts also h tells (λ refused same. refl)

  module _ (name : List ℕ) (given : HasTables (Some files) name t) (d : CabinetTold) (l : LedgerData) (start : Flashes) (found : AreFound t l start)
      (m b n : Told) (ops : List Op) (traced : IsTraced m n start (both_synced ++ ops)) where
    totais_kept : (answer : LedgerStatus) → TotaisEnds name c d m b answer → Tells (fault_text answer) b n → LedgerKept t given.valid l start found m b n ops traced ops
    totais_kept answer (total_refused why taken un) tells = absurd (untouched t l m n start ops traced b (fault_text answer) un tells)
    totais_kept _ (total_no_memory taken un) tells = absurd (untouched t l m n start ops traced b None un tells)
    totais_kept _ (total_no_cabinet taken un) tells = absurd (untouched t l m n start ops traced b None un tells)
    totais_kept _ (none_opened {t = u} e also taken fails) tells =
        unopened_ledger t given.valid l start found m b n ops traced e (of_tables name u (λ x. FailsToOpen x m b e) given also fails) tells
    totais_kept _ (no_lines {t = u} {l = k} also taken opened) tells =
        no_lines_kept t given.valid l start found m b n ops traced k (of_tables name u (λ x. IsOpened x k m n) given also (subst (λ (y : Told). IsOpened u k m y) (sym tells) opened))
    totais_kept _ (totals_untold {t = u} {l = k} between also taken opened off safe) tells =
        cut_kept t given.valid l start found m b n ops traced between k (ledger_lines u k) (of_tables name u (λ x. IsOpened x k m between) given also opened) (subst (IsCutOff (ledger_lines u k) between) (sym tells) off)
    totais_kept _ (totals_told {t = u} {l = k} between also taken opened shown safe) tells =
        lines_kept t given.valid l start found m b n ops traced between k (ledger_lines u k) (of_tables name u (λ x. IsOpened x k m between) given also opened) (subst (HasShown (ledger_lines u k) between) (sym tells) shown)

pub offers_are_kept : OffersAreKept
offers_are_kept words names c d m n answer files t listed l start ops found is =
    recebe_kept files c is.cabinet t names listed is.given d l start found m is.ends.between n ops is.traced answer
    (subst (λ (o : Option Command). CommandEnds o c d m is.ends.between answer) is.command is.ends.command) is.ends.told

pub ledger_is_kept : LedgerIsKept
ledger_is_kept words tables c d m n answer files t l start ops found is =
    totais_kept files c is.cabinet t tables is.given d l start found m is.ends.between n ops is.traced answer
    (subst (λ (o : Option Command). CommandEnds o c d m is.ends.between answer) is.command is.ends.command) is.ends.told

-- The ballots of a run, by what it puts out
use Rattle.std.proofs.Common.{◌≡◌, ℕ, zero, suc, ◌+◌, Bool, true, false, cond, ◌&&◌, List, [], ◌∷◌, ◌++◌, length, take, refl, sym, ap, subst, ◌∙◌, arith, append_assoc, Option}
use Rattle.std.specs.Prelude.{nat_eq, codes}
use Rattle.std.specs.Fmt.{decimal}
use Rattle.std.specs.List.{AllByRecursion}
use Rattle.std.specs.Str.{bytes_eq}
use Rattle.urna_base.proofs.Every.{every_append, every_map}
use Rattle.election_tables.specs.TablesData.{TablesData}
use Rattle.election_tables.specs.declared.office.Kind.{Kind}
use Rattle.election_tables.specs.declared.office.Kind.TheVariants as kind
use Rattle.election_tables.specs.declared.tables.panels.Panel.{Panel}
use Rattle.key_script.specs.declared.keys.Key.{Key}
use Rattle.key_script.specs.declared.keys.Key.TheVariants as key
use Rattle.key_script.specs.declared.keys.Event.{Event}
use Rattle.key_script.specs.declared.keys.Event.TheVariants.{Clerk, Voter}
use Rattle.key_script.specs.declared.keys.ClerkKey.{ClerkKey}
use Rattle.key_script.specs.declared.keys.ClerkKey.TheVariants as clerk
use Rattle.vote_kinds.specs.declared.choice.Choice.{Choice}
use Rattle.vote_kinds.specs.declared.choice.Choice.TheVariants as choice
use Rattle.vote_kinds.specs.Ballot.{BallotLine, ballot_lines}
use Rattle.vote_record.specs.Bag.{bag_at, count_of}
use Rattle.turnout.specs.Turnout.{number_came}
use Rattle.turnout.specs.declared.phase.Phase.{Phase}
use Rattle.turnout.specs.declared.phase.Phase.TheVariants as phase
use Rattle.clerk_term.specs.declared.replies.ClerkAnswer.{ClerkAnswer}
use Rattle.clerk_term.specs.declared.replies.ClerkAnswer.TheVariants as answer
use Rattle.clerk_term.specs.declared.replies.Mode.TheVariants as mode
use Rattle.poll_report.specs.Counts.{candidate_line, candidate_lines, count_lines, kind_lines, lines_of_panels, panel_lines, party_line, total_lines, votes_line}
use Rattle.image_codec.specs.CodecLaws.{Ballot}
use Rattle.image_codec.specs.State.{State, MayVote, filled_up, with_ballot}
use Rattle.flash_store.specs.Pieces.{commits_in, lines_in, quiet, state_after, text_in}
use Rattle.flash_store.proofs.Counting.{commits_in-append, commits_in-quiet}
use Rattle.station.specs.Acts.{last_state}
use Rattle.station.specs.Output.{Output, Says, Commits, Reports, commits_of, refusal, echo, screen, earlier_for}
use Rattle.station.specs.Press.{idle_at}
use Rattle.station.specs.Run.{wait_outputs, line_outputs, Votes, start, voted, IsOpen, open_at, IsRun, ends, ignores, refuses, opens, seals, waits, cancels, visits, cut_off, Visit, whole, suspended, after_suspension, suspension}
use Rattle.station.specs.Setting.{Setting, reply_at, setting_of}
use Rattle.station.specs.Start.{opening}
use Rattle.station.specs.Text.{line_text, output_pieces, session_pieces, title_text}
use Rattle.station.specs.Valid.{IsAnswer}
use Rattle.station.specs.declared.line.Line.{Line}
use Rattle.station.specs.declared.line.Line.TheVariants as line
use Rattle.station.specs.declared.line.Title.{Title}
use Rattle.station.specs.declared.line.Title.TheVariants as title
use Rattle.station.proofs.Doing.{state_after_outputs}
use Rattle.station.proofs.Replies.{answer_of}
use Rattle.station.proofs.RunLaws.{roll_kept}
use Rattle.image_codec.specs.Also.{HasAlso}
use Rattle.image_codec.proofs.Growing.{also_in_phase, also_more, also_none, in_phase}
use Rattle.station.specs.Cast.{ballot_of, ballots_of, fim, fims_reached, suspended_ballot}
use Rattle.station.proofs.Fims.{AreShownIn, IsOther, fims_in, fims_more, fims_other, fims_quiet, fims_whole, shown_nothing, shown_quiet, shown_telling}
use Rattle.station.proofs.Pieces.{full_pieces}

-- ---- what a run puts out, as ballots

-- a line that ends no visit
abbrev pub EndsNone : Line → Type 0
EndsNone (line.Poll p came) = Unit {0}
EndsNone (line.Refused n) = Unit {0}
EndsNone (line.Voter number) = Unit {0}
EndsNone line.Released = Unit {0}
EndsNone line.Canceled = Unit {0}
EndsNone line.Suspended = Unit {0}
EndsNone (line.Ballot number code) = Unit {0}
EndsNone (line.Screen panel before f) = Unit {0}
EndsNone (line.Opened m) = Unit {0}
EndsNone line.Ended = ⊥
EndsNone (line.Sealed m came) = Unit {0}

-- an output that neither commits a state nor ends a visit
abbrev pub IsQuiet : Output → Type 0
IsQuiet (Says l) = EndsNone l
IsQuiet (Commits s l) = ⊥
IsQuiet (Reports title s) = Unit {0}

abbrev pub AreQuiet : List Output → Type 0
AreQuiet out = AllByRecursion IsQuiet out

-- From s, what is put out has these ballots, each with its FIM and the state that it leads to, and leads to t.
pub data Casts (v : Setting) : State → List Output → List Ballot → State → Type 0 where
  nothing : {s : State} → Casts v s [] [] s
  shows : {s t : State} {out : List Output} {ballots : List Ballot} (o : Output) → IsQuiet o → Casts v s out ballots t → Casts v s (o ∷ out) ballots t
  turns : {s t : State} {out : List Output} {ballots : List Ballot} (p : Phase) (l : Line) → EndsNone l → Casts v (in_phase s p) out ballots t
      → Casts v s (Commits (in_phase s p) l ∷ out) ballots t
  casts : {s t : State} {out : List Output} {ballots : List Ballot} (place : ℕ) (choices : List Choice) → MayVote s place
      → Casts v (with_ballot v.lines s place choices) out ballots t
      → Casts v s (Commits (with_ballot v.lines s place choices) line.Ended ∷ out) (record { place = place; choices = choices } ∷ ballots) t

-- a text that commits nothing, in front
quietly : {v : Setting} {s t : State} {out : List Output} {ballots : List Ballot} (a : List Output) → AreQuiet a → Casts v s out ballots t → Casts v s (a ++ out) ballots t
quietly [] quiet h = h
quietly (o ∷ a) quiet h = shows o quiet.0 (quietly a quiet.1 h)

only_quiet : {v : Setting} {s : State} (a : List Output) → AreQuiet a → Casts v s a [] s
only_quiet [] quiet = nothing
only_quiet (o ∷ a) quiet = shows o quiet.0 (only_quiet a quiet.1)

quiet-append : (a b : List Output) → AreQuiet a → AreQuiet b → AreQuiet (a ++ b)
quiet-append [] b first second = second
quiet-append (o ∷ a) b first second = (first.0, quiet-append a b first.1 second)

refusal_quiet : (a : ClerkAnswer) → AreQuiet (refusal a)
refusal_quiet (answer.Refused n) = (tt, tt)
refusal_quiet (answer.Opens m) = tt
refusal_quiet (answer.Identifies p) = tt
refusal_quiet (answer.Releases p) = tt
refusal_quiet (answer.Cancels p) = tt
refusal_quiet (answer.Suspends p) = tt
refusal_quiet (answer.Seals m) = tt

wait_quiet : (v : Setting) (s : State) (place : ℕ) (es : List Event) → AreQuiet (wait_outputs v s place es)
wait_quiet v s place [] = tt
wait_quiet v s place (Voter k ∷ es) = wait_quiet v s place es
wait_quiet v s place (Clerk c ∷ es) =
    quiet-append (refusal (reply_at v s (mode.Identified place) c)) (wait_outputs v s place es) (refusal_quiet (reply_at v s (mode.Identified place) c)) (wait_quiet v s place es)

cond_quiet : (b : Bool) (o : Output) → IsQuiet o → AreQuiet (cond b [] (o ∷ []))
cond_quiet true o h = tt
cond_quiet false o h = (h, tt)

key_quiet : (l : BallotLine) (earlier : Option Choice) (w : List Key) (k : Key) → AreQuiet (echo l earlier w k)
key_quiet l earlier w key.Confirm = tt
key_quiet l earlier w key.Blank = cond_quiet _ (screen l earlier _) tt
key_quiet l earlier w key.Correct = cond_quiet _ (screen l earlier _) tt
key_quiet l earlier w (key.Digit d) = cond_quiet _ (screen l earlier _) tt

line_quiet : (v : Setting) (s : State) (place : ℕ) (l : BallotLine) (earlier : Option Choice) (w : List Key) (es : List Event) → AreQuiet (line_outputs v s place l earlier w es)
line_quiet v s place l earlier w [] = tt
line_quiet v s place l earlier w (Clerk c ∷ es) =
    quiet-append (refusal (reply_at v s (mode.Voting place) c)) (line_outputs v s place l earlier w es) (refusal_quiet (reply_at v s (mode.Voting place) c)) (line_quiet v s place l earlier w es)
line_quiet v s place l earlier w (Voter k ∷ es) =
    quiet-append (echo l earlier w k) (line_outputs v s place l earlier (w ++ k ∷ []) es) (key_quiet l earlier w k) (line_quiet v s place l earlier (w ++ k ∷ []) es)

votes_quiet : {v : Setting} {s : State} {place : ℕ} {es : List Event} {choices : List Choice} {text : List Output} → Votes v s place es choices text → AreQuiet text
votes_quiet start = tt
votes_quiet {v} {s} {place} (voted {choices} {text} l on votes at visit confirms) =
    quiet-append text _ (votes_quiet votes) (tt, line_quiet v s place l (earlier_for v choices l) [] on)

open_quiet : {v : Setting} {s : State} {place : ℕ} {es : List Event} {choices : List Choice} {text : List Output} → IsOpen v s place es choices text → AreQuiet text
open_quiet {v} {s} {place} (open_at {choices} {text} l on votes at visit unconfirmed) =
    quiet-append text _ (votes_quiet votes) (tt, line_quiet v s place l (earlier_for v choices l) [] on)

moved : {v : Setting} {s t : State} {a b : List Output} {ballots : List Ballot} → a ≡ b → Casts v s b ballots t → Casts v s a ballots t
moved {v} {s} {t} {ballots} e h = subst (λ (o : List Output). Casts v s o ballots t) (sym e) h

-- a suspended visit
suspended_casts : {v : Setting} {s t : State} {place : ℕ} {es : List Event} {out : List Output} {ballots : List Ballot} (choices : List Choice) (text : List Output)
    → IsOpen v s place es choices text → MayVote s place → Casts v (after_suspension v s place choices) out ballots t
    → Casts v s ((text ++ suspension v s place choices ∷ []) ++ out) (suspended_ballot v.lines place choices ++ ballots) t
suspended_casts {out} [] text on may h =
    moved (append_assoc text (Says line.Suspended ∷ []) out) (quietly text (open_quiet on) (shows (Says line.Suspended) tt h))
suspended_casts {v} {s} {place} {out} (c ∷ choices) text on may h =
    let told = suspension v s place (c ∷ choices) in
    moved (append_assoc text (told ∷ []) out) (quietly text (open_quiet on) (casts place (filled_up v.lines (c ∷ choices)) may h))

-- a visit
visit_casts : {v : Setting} {s t u : State} {place : ℕ} {es : List Event} {text out : List Output} {ballots : List Ballot} (visit : Visit v s place es u text)
    → MayVote s place → Casts v u out ballots t → Casts v s (text ++ out) (ballot_of visit ++ ballots) t
visit_casts {v} {s} {place} {out} (whole {choices} {text} votes at) may h =
    moved (append_assoc text (Commits (with_ballot v.lines s place choices) line.Ended ∷ []) out)
    (quietly text (votes_quiet votes) (casts place choices may h))
visit_casts (suspended {choices} {text} on) may h = suspended_casts choices text on may h

suspended_roll : (v : Setting) (s : State) (place : ℕ) (choices : List Choice) → length s.came ≡ length v.roll → length (after_suspension v s place choices).came ≡ length v.roll
suspended_roll v s place [] r = r
suspended_roll v s place (c ∷ choices) r = roll_kept v s place (filled_up v.lines (c ∷ choices)) r

pub visit_roll : {v : Setting} {s u : State} {place : ℕ} {es : List Event} {text : List Output} → Visit v s place es u text → length s.came ≡ length v.roll → length u.came ≡ length v.roll
visit_roll {v} {s} {place} (whole {choices} votes at) r = roll_kept v s place choices r
visit_roll {v} {s} {place} (suspended {choices} on) r = suspended_roll v s place choices r

may_vote : (v : Setting) (s : State) (k : ClerkKey) (place : ℕ) → length s.came ≡ length v.roll → reply_at v s mode.Idle k ≡ answer.Identifies place → MayVote s place
may_vote v s k place r e = subst (IsAnswer v s [] k) e (answer_of v (idle_at s) k r (refl, refl))

-- What a run puts out has its ballots.
pub run_casts : {v : Setting} {s t : State} {es : List Event} {out : List Output} → length s.came ≡ length v.roll → (run : IsRun v s es t out) → Casts v s out (ballots_of run) t
run_casts r ends = nothing
run_casts r (ignores run) = run_casts r run
run_casts r (refuses {n} e run) = shows (Says (line.Refused n)) tt (run_casts r run)
run_casts {s} r (opens {m} e run) = shows (Reports title.Zeresima _) tt (turns (phase.Polling m) (line.Opened m) tt (run_casts r run))
run_casts r (seals {m} e run) = turns _ (line.Sealed m _) tt (shows (Reports title.Boletim _) tt (run_casts r run))
run_casts {v} {s} r (waits {number} {place} before e w) = shows (Says (line.Voter number)) tt (only_quiet (wait_outputs v s place before) (wait_quiet v s place before))
run_casts {v} {s} r (cancels {number} {place} before e w run) =
    shows (Says (line.Voter number)) tt (quietly (wait_outputs v s place before) (wait_quiet v s place before) (shows (Says line.Canceled) tt (run_casts r run)))
run_casts {v} {s} r (visits {number} {place} before e w visit run) =
    shows (Says (line.Voter number)) tt (quietly (wait_outputs v s place before) (wait_quiet v s place before)
    (shows (Says line.Released) tt (visit_casts visit (may_vote v s (clerk.Titulo number) place r e) (run_casts (visit_roll visit r) run))))
run_casts {v} {s} r (cut_off {number} {place} {text} before e w on) =
    shows (Says (line.Voter number)) tt (quietly (wait_outputs v s place before) (wait_quiet v s place before) (shows (Says line.Released) tt (only_quiet text (open_quiet on))))

-- ---- lines that are not FIM

and_false : (b : Bool) → (b && false) ≡ false
and_false true = refl
and_false false = refl

-- bytes that have a space are none that have no space
has_space : (word d rest : List ℕ) → AllByRecursion (λ b. nat_eq b 32 ≡ false) word → bytes_eq word (d ++ 32 ∷ rest) ≡ false
has_space [] [] rest all = refl
has_space [] (x ∷ d) rest all = refl
has_space (b ∷ word) [] rest all = ap (λ (c : Bool). c && bytes_eq word rest) all.0
has_space (b ∷ word) (x ∷ d) rest all = ap (λ (c : Bool). nat_eq b x && c) (has_space word d rest all.1) ∙ and_false (nat_eq b x)

spaced_other : (d rest : List ℕ) → IsOther (d ++ 32 ∷ rest)
spaced_other d rest = has_space fim d rest (refl, (refl, (refl, (refl, tt))))

poll_other : (t : TablesData) (p : Phase) (came : ℕ) → IsOther (line_text t (line.Poll p came))
poll_other t phase.Ready came = refl
poll_other t (phase.Polling opened) came = refl
poll_other t (phase.Sealed opened closed) came = refl

line_other : (t : TablesData) (l : Line) → EndsNone l → IsOther (line_text t l)
line_other t (line.Poll p came) none = poll_other t p came
line_other t (line.Refused n) none = refl
line_other t (line.Voter number) none = refl
line_other t line.Released none = refl
line_other t line.Canceled none = refl
line_other t line.Suspended none = refl
line_other t (line.Ballot number code) none = refl
line_other t (line.Screen panel before f) none = refl
line_other t (line.Opened m) none = refl
line_other t line.Ended none = absurd none
line_other t (line.Sealed m came) none = refl

title_other : (title : Title) → IsOther (title_text title)
title_other title.Zeresima = refl
title_other title.Boletim = refl

spaced_words : (d e : List ℕ) → IsOther (d ++ codes " " ++ e ++ 10 ∷ [])
spaced_words d e =
    subst IsOther (sym (append_assoc (d ++ 32 ∷ []) e (10 ∷ []) ∙ append_assoc d (32 ∷ []) (e ++ 10 ∷ []))) (spaced_other d (e ++ 10 ∷ []))

votes_other : (number votes : ℕ) → IsOther (votes_line number votes)
votes_other number votes = spaced_words (decimal number) (decimal votes)

kind_other : (k : Kind) (t : TablesData) (bag : List Choice) → AllByRecursion IsOther (kind_lines k t bag)
kind_other kind.Proportional t bag = every_map IsOther (party_line bag) t.parties (λ q. votes_other q.number (count_of (choice.Party q.number) bag))
kind_other kind.Absolute t bag = tt
kind_other kind.Simple t bag = tt

panels_other : (t : TablesData) (bags : List (List Choice)) (first : ℕ) (panels : List Panel) → AllByRecursion IsOther (lines_of_panels t bags first panels)
panels_other t bags first [] = tt
panels_other t bags first (p ∷ panels) =
    let bag = bag_at bags first in
    let totals : AllByRecursion IsOther (total_lines bag) = (refl, (refl, (refl, tt))) in
    every_append IsOther (panel_lines t p bag) (lines_of_panels t bags (first + 1) panels) (
      refl,
      every_append IsOther (candidate_lines p.candidates bag) (kind_lines p.office.kind t bag ++ total_lines bag)
          (every_map IsOther (candidate_line bag) p.candidates (λ c. votes_other c.number (count_of (choice.Nominal c.number) bag)))
          (every_append IsOther (kind_lines p.office.kind t bag) (total_lines bag) (kind_other p.office.kind t bag) totals),
    )
    (panels_other t bags (first + 1) panels)

counts_other : (t : TablesData) (bags : List (List Choice)) → AllByRecursion IsOther (count_lines t bags)
unfolding count_lines
counts_other t bags = panels_other t bags 0 t.panels

-- ---- what the states of a session have beside the first

shown_output : (v : Setting) (s : State) (ballots : List Ballot) (t : TablesData) (o : Output) (out : List Output) → IsQuiet o
    → ((m : ℕ) → AreShownIn v.lines s ballots (session_pieces t out) m) → (m : ℕ) → AreShownIn v.lines s ballots (output_pieces t o ++ session_pieces t out) m
shown_output v s ballots t (Says l) out quiet h = shown_quiet v.lines s ballots (line_text t l ∷ []) (session_pieces t out) (line_other t l quiet, tt) h
shown_output v s ballots t (Commits u l) out quiet h = absurd quiet
shown_output v s ballots t (Reports title u) out quiet h =
    shown_quiet v.lines s ballots (title_text title ∷ count_lines t u.bags) (session_pieces t out) (title_other title, counts_other t u.bags) h

casts_shown : {v : Setting} {s u : State} {out : List Output} {ballots : List Ballot} (t : TablesData) → Casts v s out ballots u
    → (m : ℕ) → AreShownIn v.lines s ballots (session_pieces t out) m
casts_shown {v} {s} t nothing zero = shown_nothing v.lines s
casts_shown {v} {s} t nothing (suc m) = shown_nothing v.lines s
casts_shown {v} {s} {ballots} t (shows {out} o quiet h) m = shown_output v s ballots t o out quiet (casts_shown t h) m
casts_shown {v} {s} {ballots} t (turns {out} p l none h) m =
    let counted : cond {A = ℕ} (bytes_eq fim (line_text t l)) 1 0 ≡ 0 = ap (λ (b : Bool). cond {A = ℕ} b 1 0) (line_other t l none) in
    shown_telling v.lines s (in_phase s p) ballots ballots 0 (line_text t l) (session_pieces t out) (omega arith) counted (omega arith)
    (λ k u also.
    let same : k ≡ 0 + k = omega arith in
    subst (λ (j : ℕ). HasAlso v.lines s (take j ballots) u) same (also_in_phase v.lines s u p (take k ballots) also))
    (casts_shown t h) m
casts_shown {v} {s} t (casts {out} {ballots} place choices may h) m =
    let all : List Ballot = record { place = place; choices = choices } ∷ ballots in
    shown_telling v.lines s (with_ballot v.lines s place choices) ballots all 1 (line_text t line.Ended) (session_pieces t out) (omega arith) refl (omega arith)
    (λ k u also.
    let same : suc k ≡ 1 + k = omega arith in
    subst (λ (j : ℕ). HasAlso v.lines s (take j all) u) same (also_more v.lines s u place choices (take k ballots) may also))
    (casts_shown t h) m

-- Of a session that opens at s, the states behind its first m lines have the ballots whose FIM is among them, or one more.
pub run_shown : {s u : State} {es : List Event} {out : List Output} (t : TablesData) (titles : List ℕ) → length s.came ≡ length titles
    → (run : IsRun (setting_of t titles) s es u out) (m : ℕ) → AreShownIn (ballot_lines t) s (ballots_of run) (opening t s ++ session_pieces t out) m
run_shown {s} t titles r run = casts_shown t (shows (Says (line.Poll s.phase (number_came s.came))) tt (run_casts r run))

-- ---- the state in the end

casts_last : {v : Setting} {s t : State} {out : List Output} {ballots : List Ballot} → Casts v s out ballots t → last_state s out ≡ t
casts_last nothing = refl
casts_last (shows (Says l) quiet h) = casts_last h
casts_last (shows (Commits u l) quiet h) = absurd quiet
casts_last (shows (Reports title u) quiet h) = casts_last h
casts_last (turns p l none h) = casts_last h
casts_last (casts place choices may h) = casts_last h

casts_all : {v : Setting} {s t : State} {out : List Output} {ballots : List Ballot} → Casts v s out ballots t → HasAlso v.lines s ballots t
casts_all {v} {s} nothing = also_none v.lines s
casts_all (shows o quiet h) = casts_all h
casts_all {v} {s} {t} (turns {ballots} p l none h) = also_in_phase v.lines s t p ballots (casts_all h)
casts_all {v} {s} {t} (casts {ballots} place choices may h) = also_more v.lines s t place choices ballots may (casts_all h)

-- The state that a run leads to has all its ballots, and it is the state after its pieces.
pub run_counts : {s u : State} {es : List Event} {out : List Output} (t : TablesData) (titles : List ℕ) → length s.came ≡ length titles
    → (run : IsRun (setting_of t titles) s es u out) → HasAlso (ballot_lines t) s (ballots_of run) u
run_counts t titles r run = casts_all (run_casts r run)

pub run_last : {s u : State} {es : List Event} {out : List Output} (t : TablesData) (titles : List ℕ) → length s.came ≡ length titles
    → IsRun (setting_of t titles) s es u out → state_after s (session_pieces t out) ≡ u
run_last {s} {out} t titles r run = state_after_outputs t s out ∙ casts_last (run_casts r run)

-- the states that its pieces commit are those that the outputs commit
pub pieces_commit : (t : TablesData) (out : List Output) → commits_in (session_pieces t out) ≡ commits_of out
pieces_commit t [] = refl
pieces_commit t (Says l ∷ out) = pieces_commit t out
pieces_commit t (Commits s l ∷ out) = ap (λ (states : List State). s ∷ states) (pieces_commit t out)
pieces_commit t (Reports title s ∷ out) =
    let lines = title_text title ∷ count_lines t s.bags in
    commits_in-append (quiet lines) (session_pieces t out) ∙ ap (λ (states : List State). states ++ commits_in (session_pieces t out)) (commits_in-quiet lines) ∙ pieces_commit t out

-- ---- the FIM lines of a session

casts_fims : {v : Setting} {s u : State} {out : List Output} {ballots : List Ballot} (t : TablesData) → Casts v s out ballots u
    → fims_in (lines_in (session_pieces t out)) ≡ length ballots
casts_fims t nothing = refl
casts_fims t (shows {out} (Says l) quiet h) = fims_other (line_text t l) (lines_in (session_pieces t out)) (line_other t l quiet) ∙ casts_fims t h
casts_fims t (shows (Commits u l) quiet h) = absurd quiet
casts_fims t (shows {out} (Reports title u) quiet h) =
    fims_quiet (title_text title ∷ count_lines t u.bags) (session_pieces t out) (title_other title, counts_other t u.bags) ∙ casts_fims t h
casts_fims t (turns {out} p l none h) = fims_other (line_text t l) (lines_in (session_pieces t out)) (line_other t l none) ∙ casts_fims t h
casts_fims t (casts {out} place choices may h) =
    let one = fims_more (line_text t line.Ended) (lines_in (session_pieces t out)) in
    let rest = casts_fims t h in
    omega (arith, one, rest)

-- there are as many as ballots
pub run_fims : {s u : State} {es : List Event} {out : List Output} (t : TablesData) (titles : List ℕ) → length s.came ≡ length titles
    → (run : IsRun (setting_of t titles) s es u out)
    → fims_reached (lines_in (session_pieces t out)) (length (text_in (session_pieces t out))) ≡ length (ballots_of run)
run_fims {out} t titles r run = fims_whole (session_pieces t out) (full_pieces t out) ∙ casts_fims t (run_casts r run)

-- and with the opening line before them
pub opened_fims : {s u : State} {es : List Event} {out : List Output} (t : TablesData) (titles : List ℕ) → length s.came ≡ length titles
    → (run : IsRun (setting_of t titles) s es u out)
    → fims_reached (lines_in (opening t s ++ session_pieces t out)) (length (text_in (opening t s ++ session_pieces t out))) ≡ length (ballots_of run)
opened_fims {s} {out} t titles r run =
    let line = Says (line.Poll s.phase (number_came s.came)) in
    fims_whole (opening t s ++ session_pieces t out) (full_pieces t (line ∷ out)) ∙ casts_fims t (shows line tt (run_casts r run))

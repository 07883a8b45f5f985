-- The pieces of a session: their lines, their states, and what is kept over them
use Rattle.std.proofs.Common.{◌≡◌, ◌<◌, ◌+◌, ℕ, List, [], ◌∷◌, ◌++◌, length, take, drop, get_or, refl, sym, ap, subst, ◌∙◌, arith, length-append}
use Rattle.std.specs.Prelude.{codes}
use Rattle.std.specs.Fmt.{decimal}
use Rattle.std.specs.Option.{ForSome}
use Rattle.std.specs.List.{AllByRecursion}
use Rattle.std.proofs.lemmas.List.{take_more, take-append-drop, append-nil}
use Rattle.std.proofs.lemmas.Grind.{flat_map-append}
use Rattle.urna_base.proofs.Every.{every_append, every_map}
use Rattle.urna_outside.specs.ShownLines.{HasShown}
use Rattle.urna_outside.specs.Told.{Told}
use Rattle.election_tables.specs.Roll.{RollData}
use Rattle.election_tables.specs.TablesData.{TablesData}
use Rattle.turnout.specs.Turnout.{number_came}
use Rattle.image_codec.specs.State.{State}
use Rattle.state_store.specs.Rest.{AreAtRest}
use Rattle.flash_store.specs.Pieces.{AreFull, quiet, state_after}
use Rattle.state_store.specs.Pieces.{Piece}
use Rattle.state_store.specs.Store.{IsLoadedWith, Keeps, StoreData}
use Rattle.flash_store.proofs.Playing.{put_shown}
use Rattle.state_store.proofs.Stored.{stored}
use Rattle.election_tables.specs.declared.office.Kind.{Kind}
use Rattle.election_tables.specs.declared.office.Kind.TheVariants as kind
use Rattle.election_tables.specs.declared.tables.panels.Panel.{Panel}
use Rattle.vote_kinds.specs.declared.choice.Choice.{Choice}
use Rattle.vote_kinds.specs.declared.choice.Choice.TheVariants as choice
use Rattle.vote_record.specs.Bag.{bag_at, count_of}
use Rattle.turnout.specs.declared.phase.Phase.{Phase}
use Rattle.turnout.specs.declared.phase.Phase.TheVariants as phase
use Rattle.poll_report.specs.Counts.{candidate_line, candidate_lines, count_lines, kind_lines, lines_of_panels, panel_lines, party_line, total_lines, votes_line}
use Rattle.station.specs.Start.{opening_line}
use Rattle.station.specs.declared.line.Line.{Line}
use Rattle.station.specs.declared.line.Line.TheVariants as line
use Rattle.station.specs.declared.line.Title.{Title}
use Rattle.station.specs.declared.line.Title.TheVariants as title
use Rattle.station.specs.Acts.{output_of, outputs_of}
use Rattle.station.specs.Doing.{kept_after}
use Rattle.station.specs.Output.{Output, Says, Commits, Reports}
use Rattle.station.specs.Text.{line_text, output_pieces, session_pieces, title_text}
use Rattle.station.specs.declared.perform.Act.{Act}
use Rattle.station.specs.declared.perform.Act.TheVariants.{Say, Commit, Report}
use Rattle.flash_store.proofs.Counting.{state_after-quiet}
use Rattle.state_store.specs.Played.{kept_poll}

-- shown lines leave what a store keeps
pub keeps_shown : (t : TablesData) (r : RollData) (store : StoreData) (s : State) (lines : List (List ℕ)) (a b : Told) → IsLoadedWith t r store.load → Keeps t a store s → HasShown lines a b
    → Keeps t b store (state_after s (quiet lines))
keeps_shown t r store s lines a b loaded kept shown =
    let put = put_shown (kept_poll t store.load) s lines a b (stored t r store.load s loaded kept.state) kept.rest shown in
    let same = state_after-quiet s lines in
    subst (λ (u : State). Keeps t b store u) (sym same) (record {
      state = kept.state;
      body = kept.body;
      rest = subst (λ (u : State). ForSome b.flashes (AreAtRest t store.load u)) same put.rest;
    })

-- No line is empty

full_end : (xs : List ℕ) → 0 < length (xs ++ 10 ∷ [])
full_end xs = omega (arith, length-append xs (10 ∷ []))

abbrev IsFullLine : List ℕ → Type 0
IsFullLine line = 0 < length line

full_votes : (number votes : ℕ) → IsFullLine (votes_line number votes)
full_votes number votes = full_end (decimal number ++ codes " " ++ decimal votes)

full_kind : (k : Kind) (t : TablesData) (bag : List Choice) → AllByRecursion IsFullLine (kind_lines k t bag)
full_kind kind.Proportional t bag = every_map IsFullLine (party_line bag) t.parties (λ q. full_votes q.number (count_of (choice.Party q.number) bag))
full_kind kind.Absolute t bag = tt
full_kind kind.Simple t bag = tt

full_panels : (t : TablesData) (bags : List (List Choice)) (first : ℕ) (panels : List Panel) → AllByRecursion IsFullLine (lines_of_panels t bags first panels)
full_panels t bags first [] = tt
full_panels t bags first (p ∷ panels) =
    let bag = bag_at bags first in
    let totals : AllByRecursion IsFullLine (total_lines bag) = (omega arith, (omega arith, (omega arith, tt))) in
    every_append IsFullLine (panel_lines t p bag) (lines_of_panels t bags (first + 1) panels) (
      omega arith,
      every_append IsFullLine (candidate_lines p.candidates bag) (kind_lines p.office.kind t bag ++ total_lines bag)
          (every_map IsFullLine (candidate_line bag) p.candidates (λ c. full_votes c.number (count_of (choice.Nominal c.number) bag))) (every_append IsFullLine (kind_lines p.office.kind t bag) (total_lines bag) (full_kind p.office.kind t bag) totals),
    )
    (full_panels t bags (first + 1) panels)

full_counts : (t : TablesData) (bags : List (List Choice)) → AllByRecursion IsFullLine (count_lines t bags)
unfolding count_lines
full_counts t bags = full_panels t bags 0 t.panels

full_title : (title : Title) → IsFullLine (title_text title)
full_title title.Zeresima = omega arith
full_title title.Boletim = omega arith

full_poll : (t : TablesData) (p : Phase) (came : ℕ) → IsFullLine (line_text t (line.Poll p came))
full_poll t phase.Ready came = omega arith
full_poll t (phase.Polling opened) came = omega arith
full_poll t (phase.Sealed opened closed) came = omega arith

full_line : (t : TablesData) (l : Line) → 0 < length (line_text t l)
full_line t (line.Poll p came) = full_poll t p came
full_line t (line.Refused n) = omega arith
full_line t (line.Voter number) = omega arith
full_line t line.Released = omega arith
full_line t line.Canceled = omega arith
full_line t line.Suspended = omega arith
full_line t (line.Ballot number code) = omega arith
full_line t (line.Screen panel before f) = omega arith
full_line t (line.Opened m) = omega arith
full_line t line.Ended = omega arith
full_line t (line.Sealed m came) = omega arith

pub full_opening : (t : TablesData) (s : State) → 0 < length (opening_line t s)
full_opening t s = full_poll t s.phase (number_came s.came)

pub full_quiet : (lines : List (List ℕ)) → AllByRecursion IsFullLine lines → AreFull (quiet {S = State} lines)
full_quiet [] all = tt
full_quiet (x ∷ xs) all = (all.0, full_quiet xs all.1)

full_output : (t : TablesData) (o : Output) → AreFull (output_pieces t o)
full_output t (Says l) = (full_line t l, tt)
full_output t (Commits s l) = (full_line t l, tt)
full_output t (Reports title s) = full_quiet (title_text title ∷ count_lines t s.bags) (full_title title, full_counts t s.bags)

pub full_pieces : (t : TablesData) (out : List Output) → AreFull (session_pieces t out)
full_pieces t [] = tt
full_pieces t (o ∷ out) = every_append (λ (piece : Piece). 0 < length piece.line) (output_pieces t o) (session_pieces t out) (full_output t o) (full_pieces t out)

-- Acts in order

outputs_of-append : (s : State) (a b : List Act) → outputs_of s (a ++ b) ≡ outputs_of s a ++ outputs_of s b
outputs_of-append s [] b = refl
outputs_of-append s (x ∷ a) b = ap (λ (o : List Output). output_of s x ∷ o) (outputs_of-append s a b)

pieces-append : (t : TablesData) (s : State) (a b : List Act) → session_pieces t (outputs_of s (a ++ b)) ≡ session_pieces t (outputs_of s a) ++ session_pieces t (outputs_of s b)
pieces-append t s a b = ap (session_pieces t) (outputs_of-append s a b) ∙ flat_map-append (output_pieces t) (outputs_of s a) (outputs_of s b)

-- the acts up to an index, and one more
pub acts_more : (t : TablesData) (s : State) (acts : List Act) (i : ℕ) (d : Act) → i < length acts
    → session_pieces t (outputs_of s (take (i + 1) acts)) ≡ session_pieces t (outputs_of s (take i acts)) ++ output_pieces t (output_of s (get_or acts i d))
acts_more t s acts i d h =
    ap (λ (a : List Act). session_pieces t (outputs_of s a)) (take_more acts i d h)
    ∙ (pieces-append t s (take i acts) (get_or acts i d ∷ [])
    ∙ ap (λ (ls : List Piece). session_pieces t (outputs_of s (take i acts)) ++ ls) (append-nil (output_pieces t (output_of s (get_or acts i d)))))

pub acts_rest : (t : TablesData) (s : State) (acts : List Act) (i : ℕ) (d : Act) → i < length acts
    → session_pieces t (outputs_of s acts)
    ≡ (session_pieces t (outputs_of s (take i acts)) ++ output_pieces t (output_of s (get_or acts i d))) ++ session_pieces t (outputs_of s (drop (i + 1) acts))
acts_rest t s acts i d h =
    ap (λ (a : List Act). session_pieces t (outputs_of s a)) (sym (take-append-drop (i + 1) acts))
    ∙ (pieces-append t s (take (i + 1) acts) (drop (i + 1) acts)
    ∙ ap (λ (ls : List Piece). ls ++ session_pieces t (outputs_of s (drop (i + 1) acts))) (acts_more t s acts i d h))

-- what is kept after an act is the state after its pieces
pub kept_by_act : (t : TablesData) (s u : State) (act : Act) → state_after s (output_pieces t (output_of u act)) ≡ kept_after s u act
kept_by_act t s u (Say l) = refl
kept_by_act t s u (Commit l) = refl
kept_by_act t s u (Report title) = state_after-quiet s (title_text title ∷ count_lines t u.bags)

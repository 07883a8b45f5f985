-- The rehearsal's run, visit by visit: it is sealed in the end, and whoever comes has voted.
use Rattle.std.proofs.Common.{◌≡◌, ℕ, zero, suc, ◌+◌, ◌%◌, ◌<◌, ◌==◌, Bool, true, false, List, [], ◌∷◌, ◌++◌, map, length, Option, Some, None, IfSome, is_some, append-nil, refl, ap, sym, ◌∙◌, subst, replicate, arith}
use Rattle.std.specs.Prelude.{if◌then◌else◌, slice_set}
use Rattle.std.specs.List.{AllByRecursion, range_with_len, flat_map, position_or_len, list_any}
use Rattle.std.proofs.lemmas.Bool.{lt-ltb}
use Rattle.std.proofs.lemmas.Bool.Decides.{nat_tests}
use Rattle.std.proofs.lemmas.List.{length-set, length-replicate}
use Rattle.std.proofs.lemmas.List.Concat.{flat_map-append}
use Rattle.std.proofs.lemmas.List.FromFn.{get_or-range_with_len, length-range_with_len}
use Rattle.std.proofs.lemmas.List.Sums.{position_or_len_is}
use Rattle.std.proofs.lemmas.Option.{same_Some}
use Rattle.key_script.specs.declared.keys.Event.{Event}
use Rattle.key_script.specs.declared.keys.Event.TheVariants.{Clerk}
use Rattle.key_script.specs.declared.keys.ClerkKey.TheVariants as clerk
use Rattle.clerk_term.specs.Reply.{place_of}
use Rattle.turnout.specs.Turnout.{has_come}
use Rattle.turnout.specs.declared.phase.Phase.TheVariants as phase
use Rattle.vote_kinds.specs.declared.choice.Choice.{Choice}
use Rattle.election_tables.specs.Offices.{row_of}
use Rattle.election_tables.specs.TablesData.{line_panels}
use Rattle.vote_kinds.specs.Ballot.{BallotLine, ballot_lines}
use Rattle.image_codec.specs.State.{State}
use Rattle.image_codec.specs.Valid.{ready_state}
use Rattle.station.specs.Output.{Output}
use Rattle.station.specs.Press.{Standing, idle_at, identified_at, press, after}
use Rattle.station.specs.Run.{IsRun}
use Rattle.station.specs.Setting.{Setting, IsSetting, setting_of}
use Rattle.station.proofs.Unique.{run_by_events}
use Rattle.rehearsal.specs.Numbers.{parties}
use Rattle.rehearsal.specs.Roll.{title_at, titles}
use Rattle.rehearsal.specs.Script.{clerk as clerk_line, opening_moment, closing_moment, script_line_events, second_line, voter, visit_with, visit_at, visits, events_in_script, generated_events}
use Rattle.rehearsal.specs.Tables.{generated_tables, generated_party, councillor_panel, mayor_panel}
use Rattle.rehearsal.specs.Typing.{TypedPair, TypingRow, is_suspended, row_with, typed_at, typed_keys, typing_rows}
use Rattle.rehearsal_run.specs.Sealed.{IsRehearsal, RunSeals, WhoeverComesVotes, comes}
use Rattle.rehearsal_run.proofs.Comers.{CameBelow, nobody_more, nobody_yet, not_yet, one_more}
use Rattle.rehearsal_run.proofs.Visits.{Numbers, HasVoted, IsShort, councillor_line, mayor_line, setting_with, polling, events_typed, suspended, whole}

-- ---- the title of a voter

place_in : (a n k : ℕ) → k < n → place_of (range_with_len a n) (a + k) ≡ Some k
place_in a n k h =
    let size : length (range_with_len a n) ≡ n = length-range_with_len a n in
    let at : position_or_len (λ t. t == a + k) (range_with_len a n) ≡ k =
    position_or_len_is (λ t. t == a + k) (range_with_len a n) k 0 (omega arith)
    (λ j below. rw (get_or-range_with_len a n j 0 (omega arith)) (grind (arith, nat_tests)))
    (λ within. rw (get_or-range_with_len a n k 0 h) (grind (arith, nat_tests)))
    in
    rw (at, size, lt-ltb k n h) refl

identifies : (n : Numbers) (voters opened k : ℕ) (came : List Bool) (places : List ℕ) (bags : List (List Choice)) → k < voters → has_come came k ≡ false
    → (press (setting_with n (titles voters)) (idle_at (polling opened came places bags)) (Clerk (clerk.Titulo (title_at k)))).standing
    ≡ identified_at (polling opened came places bags) k
identifies n voters opened k came places bags h absent = rw (place_in (title_at 0) voters k h, absent) refl

-- ---- a visit

-- the voter at a place is one of those who come
abbrev types : ℕ → Bool
types place = is_some (typed_at place)

-- the poll goes on, and of the voters below this place those came who come
record GoesOn (voters k : ℕ) (places : List ℕ) (x : Standing) : Type 0 where
  came : List Bool
  bags : List (List Choice)
  at : x ≡ idle_at (polling opening_moment came places bags)
  marks : length came ≡ voters
  comers : CameBelow types k came

released : (n : Numbers) (roll : List ℕ) (k : ℕ) (came : List Bool) (places : List ℕ) (bags : List (List Choice)) (pair : TypedPair) → IsShort pair.1
    → HasVoted opening_moment came places k
    (after (setting_with n roll) (identified_at (polling opening_moment came places bags) k)
    (Clerk clerk.Libera ∷ (events_typed pair.0 ++ (script_line_events (second_line k pair) ++ []))))
released n roll k came places bags pair short = go (is_suspended k)
  where
    go : (b : Bool) → HasVoted opening_moment came places k
        (after (setting_with n roll) (identified_at (polling opening_moment came places bags) k)
        (Clerk clerk.Libera ∷ (events_typed pair.0 ++ (script_line_events (if b then clerk_line clerk.Suspende else voter (typed_keys pair.1)) ++ []))))
    go true = suspended n roll opening_moment k came places bags pair.0
    go false = rw append-nil (whole n roll opening_moment k came places bags pair.0 pair.1 short)

one_visit : (n : Numbers) (voters k : ℕ) (came : List Bool) (places : List ℕ) (bags : List (List Choice)) (pair : TypedPair)
    → k < voters → has_come came k ≡ false → IsShort pair.1
    → HasVoted opening_moment came places k
    (after (setting_with n (titles voters)) (idle_at (polling opening_moment came places bags)) (events_in_script (visit_with k (Some pair))))
one_visit n voters k came places bags pair h absent short =
    let v = setting_with n (titles voters) in
    subst
    (λ (y : Standing). HasVoted opening_moment came places k
    (after v y (Clerk clerk.Libera ∷ (events_typed pair.0 ++ (script_line_events (second_line k pair) ++ [])))))
    (sym (identifies n voters opening_moment k came places bags h absent))
    (released n (titles voters) k came places bags pair short)

visit_goes_on : (n : Numbers) (voters k : ℕ) (places : List ℕ) (x : Standing) (o : Option TypedPair) → typed_at k ≡ o → k < voters → IfSome o (λ pair. IsShort pair.1)
    → GoesOn voters k places x → GoesOn voters (k + 1) places (after (setting_with n (titles voters)) x (events_in_script (visit_with k o)))
visit_goes_on n voters k places x None is h short g = record {
  came = g.came;
  bags = g.bags;
  at = g.at;
  marks = g.marks;
  comers = nobody_more types k g.came g.comers (ap is_some is);
}
visit_goes_on n voters k places x (Some pair) is h short g =
    let v = setting_with n (titles voters) in
    let absent : has_come g.came k ≡ false = g.comers k ∙ not_yet types k in
    let voted : HasVoted opening_moment g.came places k (after v x (events_in_script (visit_with k (Some pair)))) =
    subst (λ (y : Standing). HasVoted opening_moment g.came places k (after v y (events_in_script (visit_with k (Some pair))))) (sym g.at)
    (one_visit n voters k g.came places g.bags pair h absent short)
    in
    record {
      came = slice_set g.came k true;
      bags = voted.0;
      at = voted.1;
      marks = length-set g.came k true ∙ g.marks;
      comers = one_more types k g.came (omega (arith, g.marks)) g.comers (ap is_some is);
    }

-- ---- all visits

if_short : (b : Bool) (pair : TypedPair) (o : Option TypedPair) → IsShort pair.1 → IfSome o (λ q. IsShort q.1) → IfSome (if b then Some pair else o) (λ q. IsShort q.1)
if_short true pair o here others = here
if_short false pair o here others = others

row_short : (remainder : ℕ) (rows : List TypingRow) → AllByRecursion (λ row. IsShort row.1.1) rows → IfSome (row_with remainder rows) (λ pair. IsShort pair.1)
row_short remainder [] short = tt
row_short remainder (row ∷ rows) short =
    if_short (list_any (λ r. remainder == r) row.0) row.1 (row_with remainder rows) short.0 (row_short remainder rows short.1)

-- in panel 2 nobody types more than two digits
second_short : (k : ℕ) → IfSome (typed_at k) (λ pair. IsShort pair.1)
second_short k = row_short (k % 20) (typing_rows k) (tt, (tt, (tt, (tt, (tt, (tt, (tt, (tt, (tt, (tt, tt))))))))))

after-append : (v : Setting) (x : Standing) (es fs : List Event) → after v x (es ++ fs) ≡ after v (after v x es) fs
after-append v x [] fs = refl
after-append v x (e ∷ es) fs = after-append v (press v x e).standing es fs

-- the visits of all voters from a place on
visits_go_on : (n : Numbers) (voters : ℕ) (places : List ℕ) (k more : ℕ) (x : Standing) → k + more ≡ voters → GoesOn voters k places x
    → GoesOn voters voters places (after (setting_with n (titles voters)) x (events_in_script (flat_map visit_at (range_with_len k more))))
visits_go_on n voters places k zero x all g = let done : k ≡ voters = omega arith in subst (λ (j : ℕ). GoesOn voters j places x) done g
visits_go_on n voters places k (suc more) x all g =
    let others = flat_map visit_at (range_with_len (k + 1) more) in
    let here = visit_goes_on n voters k places x (typed_at k) refl (omega arith) (second_short k) g in
    rw (
      flat_map-append script_line_events (visit_at k) others,
      after-append (setting_with n (titles voters)) x (events_in_script (visit_at k)) (events_in_script others),
    ) (visits_go_on n voters places (k + 1) more _ (omega arith) here)

-- ---- the whole run

-- sealed at the moments of the script, and of so many voters those came who come
record IsSealed (voters : ℕ) (s : State) : Type 0 where
  phase : s.phase ≡ phase.Sealed opening_moment closing_moment
  comers : (place : ℕ) → has_come s.came place ≡ comes voters place

closes : (n : Numbers) (voters : ℕ) (places : List ℕ) (x : Standing) → GoesOn voters voters places x
    → IsSealed voters (after (setting_with n (titles voters)) x (Clerk (clerk.Encerra closing_moment) ∷ [])).state
closes n voters places x g =
    subst (λ (y : Standing). IsSealed voters (after (setting_with n (titles voters)) y (Clerk (clerk.Encerra closing_moment) ∷ [])).state) (sym g.at)
    (record { phase = refl; comers = g.comers })

-- before the poll
abbrev before_poll : ℕ → List ℕ → List (List Choice) → State
before_poll voters places bags = record { phase = phase.Ready; came = replicate voters false; places = places; bags = bags }

script_seals : (n : Numbers) (voters : ℕ) (places : List ℕ) (bags : List (List Choice))
    → IsSealed voters (after (setting_with n (titles voters)) (idle_at (before_poll voters places bags)) (generated_events voters)).state
script_seals n voters places bags =
    let v = setting_with n (titles voters) in
    let opened : Standing = idle_at (polling opening_moment (replicate voters false) places bags) in
    let closing = clerk_line (clerk.Encerra closing_moment) ∷ [] in
    let begins : GoesOn voters 0 places opened = record {
      came = replicate voters false;
      bags = bags;
      at = refl;
      marks = length-replicate voters false;
      comers = nobody_yet types voters;
    } in
    rw (
      flat_map-append script_line_events (visits voters) closing,
      after-append v opened (events_in_script (visits voters)) (events_in_script closing),
    ) (closes n voters places _ (visits_go_on n voters places 0 voters opened (omega arith) begins))

-- the setting of the tables
setting_is : (voters : ℕ) (digest : List ℕ)
    → setting_of (generated_tables voters digest) (titles voters)
    ≡ setting_with (record { councillors = map (λ c. c.number) councillor_panel.candidates; mayors = map (λ c. c.number) mayor_panel.candidates; parties = map (λ q. q.number) (map generated_party parties) }) (titles voters)
unfolding ballot_lines line_panels row_of
setting_is voters digest = refl

is_setting : (n : Numbers) (roll : List ℕ) → IsSetting (setting_with n roll)
is_setting n roll zero line e =
    subst (λ (l : BallotLine). 0 < l.digits) (same_Some (councillor_line n.councillors n.parties) line e) (omega arith)
is_setting n roll (suc zero) line e =
    subst (λ (l : BallotLine). 0 < l.digits) (same_Some (mayor_line n.mayors n.parties) line e) (omega arith)
is_setting n roll (suc (suc place)) line e = absurd (cc)

rehearsal_seals : (voters : ℕ) (digest : List ℕ) (last : State) (out : List Output) → IsRehearsal voters digest last out → IsSealed voters last
rehearsal_seals voters digest last out run =
    let s = ready_state (generated_tables voters digest) voters in
    let run' = subst (λ (v : Setting). IsRun v s (generated_events voters) last out) (setting_is voters digest) run in
    let ends = run_by_events (is_setting _ (titles voters)) run' in
    subst (λ (t : State). IsSealed voters t) (sym ends.0) (script_seals _ voters s.places s.bags)

pub run_seals : RunSeals
run_seals voters digest last out run = (rehearsal_seals voters digest last out run).phase

pub comers_voted : WhoeverComesVotes
comers_voted voters digest last out run = (rehearsal_seals voters digest last out run).comers

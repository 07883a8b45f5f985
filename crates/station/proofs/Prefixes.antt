-- Each state that a run commits is the one after a prefix of its events
use Rattle.std.proofs.Common.{◌≡◌, ◌⊎◌, inl, inr, ℕ, zero, suc, ◌+◌, Some, List, [], ◌∷◌, ◌++◌, length, slice_get, refl, sym, ap, subst, ◌∙◌, arith, append_assoc, length-append}
use Rattle.std.specs.List.{AllByRecursion}
use Rattle.std.proofs.lemmas.Option.{slice_get_within}
use Rattle.key_script.specs.declared.keys.Event.{Event}
use Rattle.key_script.specs.declared.keys.Event.TheVariants.{Clerk, Voter}
use Rattle.key_script.specs.declared.keys.ClerkKey.TheVariants as clerk
use Rattle.vote_kinds.specs.declared.choice.Choice.{Choice}
use Rattle.clerk_term.specs.declared.replies.ClerkAnswer.TheVariants as answer
use Rattle.clerk_term.specs.declared.replies.Mode.TheVariants as mode
use Rattle.turnout.specs.Turnout.{number_came}
use Rattle.image_codec.specs.CodecLaws.{Ballot}
use Rattle.image_codec.specs.State.{State, opened_at, sealed_at, with_ballot}
use Rattle.station.specs.Cast.{ballot_of, ballots_of}
use Rattle.station.specs.Prefixes.{IsAfterPrefix}
use Rattle.station.specs.Output.{Output, Says, Commits, Reports, commits_of}
use Rattle.station.specs.Run.{IsWaiting, wait_outputs, IsOpen, IsRun, ends, ignores, refuses, opens, seals, waits, cancels, visits, cut_off, Visit, whole, suspended, after_suspension, suspension}
use Rattle.station.specs.Setting.{Setting, reply_at}
use Rattle.station.specs.declared.line.Line.TheVariants as line
use Rattle.station.specs.declared.line.Title.TheVariants as title
use Rattle.station.proofs.RunLaws.{commits_of-append, open_says, says, votes_say, wait_says}

-- what a visit commits: the state that it leads to, or nothing where it changes nothing
suspended_commits : {v : Setting} {s : State} {place : ℕ} {es : List Event} (choices : List Choice) (text : List Output) → IsOpen v s place es choices text
    → let u = after_suspension v s place choices in let all = text ++ suspension v s place choices ∷ [] in (commits_of all ≡ u ∷ []) ⊎ ((commits_of all ≡ []) × (u ≡ s))
suspended_commits [] text on = inr (says text (Says line.Suspended ∷ []) (open_says on), refl)
suspended_commits {v} {s} {place} (c ∷ choices) text on = inl (says text (suspension v s place (c ∷ choices) ∷ []) (open_says on))

visit_commits : {v : Setting} {s u : State} {place : ℕ} {es : List Event} {text : List Output} → Visit v s place es u text
    → (commits_of text ≡ u ∷ []) ⊎ ((commits_of text ≡ []) × (u ≡ s))
visit_commits {v} {s} {place} (whole {choices} {text} votes at) = inl (says text (Commits (with_ballot v.lines s place choices) line.Ended ∷ []) (votes_say votes))
visit_commits (suspended {choices} {text} on) = suspended_commits choices text on

module _ (v : Setting) where
  -- no event yet
  prefix_none : (s u : State) (es : List Event) (out : List Output) (ballots : List Ballot) (states : List State) → slice_get (s ∷ states) 0 ≡ Some u
      → IsAfterPrefix v s es out ballots 0 u
  prefix_none s u es out ballots states which =
      let same : s ≡ u = cc in
      subst (IsAfterPrefix v s es out ballots 0) same
      (record { prefix = []; more = es; events = refl; put = []; later = out; texts = refl; run = ends; committed = refl; others = ballots; cast = refl })

  -- one event more, which puts out this
  prefix_pressed : {s u w : State} {n k : ℕ} {es : List Event} {out : List Output} {ballots : List Ballot} (e : Event) (o : List Output) (f : IsAfterPrefix v u es out ballots n w)
      → (run : IsRun v s (e ∷ f.prefix) w (o ++ f.put)) → length (commits_of o) + n ≡ k → ballots_of run ≡ ballots_of f.run → IsAfterPrefix v s (e ∷ es) (o ++ out) ballots k w
  prefix_pressed {n} e o f run count same =
      record {
        prefix = e ∷ f.prefix;
        more = f.more;
        events = ap (λ (l : List Event). e ∷ l) f.events;
        put = o ++ f.put;
        later = f.later;
        texts = ap (λ (l : List Output). o ++ l) f.texts ∙ sym (append_assoc o f.put f.later);
        run = run;
        committed = ap (λ (l : List State). length l) (commits_of-append o f.put) ∙ length-append (commits_of o) (commits_of f.put)
            ∙ ap (λ (j : ℕ). length (commits_of o) + j) f.committed ∙ count;
        others = f.others;
        cast = f.cast ∙ ap (λ (l : List Ballot). l ++ f.others) (sym same);
      }

  -- somebody comes, waits, and the run goes on from s
  prefix_canceled : {s u : State} {number place n : ℕ} {es : List Event} {out : List Output} {ballots : List Ballot} (before : List Event)
      → reply_at v s mode.Idle (clerk.Titulo number) ≡ answer.Identifies place → AllByRecursion IsWaiting before → IsAfterPrefix v s es out ballots n u
      → IsAfterPrefix v s (Clerk (clerk.Titulo number) ∷ (before ++ Clerk clerk.Cancela ∷ es)) (Says (line.Voter number) ∷ (wait_outputs v s place before ++ Says line.Canceled ∷ out)) ballots n u
  prefix_canceled {s} {number} {place} before e w f =
      let waited = wait_outputs v s place before in
      record {
        prefix = Clerk (clerk.Titulo number) ∷ (before ++ Clerk clerk.Cancela ∷ f.prefix);
        more = f.more;
        events = ap (λ (l : List Event). Clerk (clerk.Titulo number) ∷ (before ++ Clerk clerk.Cancela ∷ l)) f.events
            ∙ ap (λ (l : List Event). Clerk (clerk.Titulo number) ∷ l) (sym (append_assoc before (Clerk clerk.Cancela ∷ f.prefix) f.more));
        put = Says (line.Voter number) ∷ (waited ++ Says line.Canceled ∷ f.put);
        later = f.later;
        texts = ap (λ (l : List Output). Says (line.Voter number) ∷ (waited ++ Says line.Canceled ∷ l)) f.texts
            ∙ ap (λ (l : List Output). Says (line.Voter number) ∷ l) (sym (append_assoc waited (Says line.Canceled ∷ f.put) f.later));
        run = cancels before e w f.run;
        committed = ap (λ (l : List State). length l) (says waited (Says line.Canceled ∷ f.put) (wait_says v s place before)) ∙ f.committed;
        others = f.others;
        cast = f.cast;
      }

  -- somebody comes and visits, and the run goes on from there
  prefix_visited : {s u w : State} {number place n k : ℕ} {visit es : List Event} {text out : List Output} {ballots : List Ballot} (before : List Event)
      → reply_at v s mode.Idle (clerk.Titulo number) ≡ answer.Identifies place → AllByRecursion IsWaiting before → (visited : Visit v s place visit u text)
      → length (commits_of text) + n ≡ k → IsAfterPrefix v u es out ballots n w
      → IsAfterPrefix v s (Clerk (clerk.Titulo number) ∷ (before ++ Clerk clerk.Libera ∷ (visit ++ es)))
      (Says (line.Voter number) ∷ (wait_outputs v s place before ++ Says line.Released ∷ (text ++ out))) (ballot_of visited ++ ballots) k w
  prefix_visited {s} {u} {w} {number} {place} {n} {k} {visit} {es} {text} {out} {ballots} before e waiting visited count f =
      let waited = wait_outputs v s place before in
      let counted : length (commits_of (waited ++ Says line.Released ∷ (text ++ f.put))) ≡ length (commits_of text ++ commits_of f.put) =
      ap (λ (l : List State). length l) (says waited (Says line.Released ∷ (text ++ f.put)) (wait_says v s place before) ∙ commits_of-append text f.put) in
      record {
        prefix = Clerk (clerk.Titulo number) ∷ (before ++ Clerk clerk.Libera ∷ (visit ++ f.prefix));
        more = f.more;
        events = ap (λ (l : List Event). Clerk (clerk.Titulo number) ∷ (before ++ Clerk clerk.Libera ∷ l)) (ap (λ (l : List Event). visit ++ l) f.events ∙ sym (append_assoc visit f.prefix f.more))
            ∙ ap (λ (l : List Event). Clerk (clerk.Titulo number) ∷ l) (sym (append_assoc before (Clerk clerk.Libera ∷ (visit ++ f.prefix)) f.more));
        put = Says (line.Voter number) ∷ (waited ++ Says line.Released ∷ (text ++ f.put));
        later = f.later;
        texts = ap (λ (l : List Output). Says (line.Voter number) ∷ (waited ++ Says line.Released ∷ l)) (ap (λ (l : List Output). text ++ l) f.texts ∙ sym (append_assoc text f.put f.later))
            ∙ ap (λ (l : List Output). Says (line.Voter number) ∷ l) (sym (append_assoc waited (Says line.Released ∷ (text ++ f.put)) f.later));
        run = visits before e waiting visited f.run;
        committed = counted ∙ length-append (commits_of text) (commits_of f.put) ∙ ap (λ (j : ℕ). length (commits_of text) + j) f.committed ∙ count;
        others = f.others;
        cast = ap (λ (l : List Ballot). ballot_of visited ++ l) f.cast ∙ sym (append_assoc (ballot_of visited) (ballots_of f.run) f.others);
      }

  no_more : (s u : State) (n : ℕ) (states : List State) → states ≡ [] → slice_get (s ∷ states) (suc n) ≡ Some u → ⊥
  no_more s u n states none which =
      absurd (omega (arith, slice_get_within states n u which, ap (λ (l : List State). length l) none))

  pub after_prefix : {s t : State} {es : List Event} {out : List Output} (run : IsRun v s es t out) (n : ℕ) (u : State) → slice_get (s ∷ commits_of out) n ≡ Some u
      → IsAfterPrefix v s es out (ballots_of run) n u
  after_prefix {s} {es} {out} run zero u which = prefix_none s u es out (ballots_of run) (commits_of out) which
  after_prefix {s} ends (suc n) u which = absurd (no_more s u n [] refl which)
  after_prefix {s} {t} (ignores {es} {out} {k} run) (suc n) u which =
      let f = after_prefix {s = s} {t = t} {es = es} {out = out} run (suc n) u which in
      prefix_pressed {k = suc n} (Voter k) [] f (ignores f.run) (omega arith) refl
  after_prefix {s} {t} (refuses {es} {out} {c} {n = number} e run) (suc n) u which =
      let f = after_prefix {s = s} {t = t} {es = es} {out = out} run (suc n) u which in
      prefix_pressed {k = suc n} (Clerk c) (Says (line.Refused number) ∷ []) f (refuses e f.run) (omega arith) refl
  after_prefix {s} {t} (opens {es} {out} {c} {m} e run) (suc n) u which =
      let f = after_prefix {s = opened_at s m} {t = t} {es = es} {out = out} run n u which in
      prefix_pressed {k = suc n} (Clerk c) (Reports title.Zeresima (opened_at s m) ∷ Commits (opened_at s m) (line.Opened m) ∷ []) f (opens e f.run) (omega arith) refl
  after_prefix {s} {t} (seals {es} {out} {c} {m} e run) (suc n) u which =
      let f = after_prefix {s = sealed_at s m} {t = t} {es = es} {out = out} run n u which in
      prefix_pressed {k = suc n} (Clerk c) (Commits (sealed_at s m) (line.Sealed m (number_came s.came)) ∷ Reports title.Boletim (sealed_at s m) ∷ []) f (seals e f.run) (omega arith) refl
  after_prefix {s} (waits {place} before e w) (suc n) u which = absurd (no_more s u n (commits_of (wait_outputs v s place before)) (wait_says v s place before) which)
  after_prefix {s} {t} (cancels {place} {es} {out} before e w run) (suc n) u which =
      prefix_canceled before e w
      (after_prefix {s = s} {t = t} {es = es} {out = out} run (suc n) u (subst (λ (l : List State). slice_get (s ∷ l) (suc n) ≡ Some u) (says (wait_outputs v s place before) (Says line.Canceled ∷ out) (wait_says v s place before)) which))
  after_prefix {s} {t} (visits {u = w} {place} {es} {text} {out} before e waiting visited run) (suc n) u which =
      let all : commits_of (wait_outputs v s place before ++ Says line.Released ∷ (text ++ out)) ≡ commits_of text ++ commits_of out =
      says (wait_outputs v s place before) (Says line.Released ∷ (text ++ out)) (wait_says v s place before) ∙ commits_of-append text out in
      let got : slice_get (s ∷ (commits_of text ++ commits_of out)) (suc n) ≡ Some u = subst (λ (l : List State). slice_get (s ∷ l) (suc n) ≡ Some u) all which in
      elim (visit_commits visited) [
        | inl one ↦
            prefix_visited {ballots = ballots_of run} before e waiting visited (omega (arith, ap (λ (l : List State). length l) one))
            (after_prefix {s = w} {t = t} {es = es} {out = out} run n u (subst (λ (l : List State). slice_get (s ∷ (l ++ commits_of out)) (suc n) ≡ Some u) one got))
        | inr (none, same) ↦
            prefix_visited {ballots = ballots_of run} before e waiting visited (omega (arith, ap (λ (l : List State). length l) none))
            (after_prefix {s = w} {t = t} {es = es} {out = out} run (suc n) u (subst (λ (l : List State). slice_get (s ∷ (l ++ commits_of out)) (suc n) ≡ Some u) none got))
      ]
  after_prefix {s} (cut_off {place} {text} before e w on) (suc n) u which =
      absurd (no_more s u n (commits_of (wait_outputs v s place before ++ Says line.Released ∷ text))
      (says (wait_outputs v s place before) (Says line.Released ∷ text) (wait_says v s place before) ∙ open_says on) which)

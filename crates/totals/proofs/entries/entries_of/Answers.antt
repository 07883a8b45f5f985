use Rattle.std.proofs.Common.{◌≡◌, ◌∷◌, [], ◌++◌, ◌+◌, ◌<◌, ◌^◌, ℕ, List, length, length-append, map, slice_get, sym, ap, subst, ◌∙◌, arith}
use Rattle.std.proofs.lemmas.List.{take_all}
use Rattle.election_tables.specs.TablesData.{candidates_at}
use Rattle.election_tables.specs.declared.tables.candidates.NamedCandidate.{NamedCandidate}
use Rattle.poll_report.proofs.LineLists.{lines_more}
use Rattle.vote_kinds.specs.Ballot.{panel_at}
use Rattle.vote_kinds.proofs.Lookups.{candidates_known}
use Rattle.seat_remainders.specs.Parties.{nominal_votes}
use Rattle.seat_remainders.specs.declared.contest.Entry.{Entry}
use Rattle.totals.specs.Contest.{entries_in, entry_of}
use Rattle.totals.proofs.Bounds.{nominal_few}
use Rattle.totals.proofs.Told.{entry_told}
use Rattle.totals.proofs.entries.entries_of.Goals as goal

pub loop-i-preserved : goal.loop-i-preserved
loop-i-preserved c =
    let t = c.args.tables.now in
    let panel = c.args.panel in
    let xs = candidates_at panel t in
    let i = c.loop-i.i in
    let r = c.candidate-candidate.result in
    let entry : Entry = record { number = r.number; birth = r.birth; votes = c.nominal.result } in
    record {
      entries = λ reports read.
          let told = entry_told reports panel (slice_get xs i) r c.nominal.result c.candidate-candidate.ensures.candidate (c.nominal.ensures.sum t reports c.requires.made read) in
          c.in_ok-push.ensures.pushed
          ∙ (ap (λ (l : List Entry). l ++ entry ∷ []) (c.loop-i.invariant.entries reports read) ∙ sym (lines_more (entry_of reports panel) xs i entry told));
      count = ap (λ (l : List Entry). length l) c.in_ok-push.ensures.pushed
          ∙ (length-append c.loop-i.entries (entry ∷ []) ∙ ap (λ (n : ℕ). n + 1) c.loop-i.invariant.count);
    }

pub returns-clause-votes : goal.returns-clause-votes
returns-clause-votes c =
    let t = c.args.tables.now in
    let panel = c.args.panel in
    let is = c.requires.made in
    let whole = take_all c.loop-i.i (candidates_at panel t) (omega (arith, c.loop-i-test.false, c.candidate_count-i-end.ensures.count)) in
    let all : c.loop-i.entries ≡ entries_in is.reports panel (panel_at t panel) =
    c.loop-i.invariant.entries is.reports is.read
    ∙ ap (λ (cs : List NamedCandidate). map (entry_of is.reports panel) cs) (whole ∙ candidates_known t panel) in
    subst (λ (es : List Entry). nominal_votes es < 10 ^ 8) (sym all) (nominal_few t c.args.intake.now is.reports panel is is.read c.requires.panel)

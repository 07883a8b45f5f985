use Rattle.std.proofs.Common.{◌∷◌, [], ◌++◌, ◌+◌, ℕ, List, length, length-append, map, slice_get, sym, ap, ◌∙◌, arith}
use Rattle.std.proofs.lemmas.List.{take_all}
use Rattle.election_tables.specs.TablesData.{candidates_at}
use Rattle.election_tables.specs.declared.tables.candidates.NamedCandidate.{NamedCandidate}
use Rattle.poll_report.proofs.LineLists.{lines_more}
use Rattle.vote_kinds.specs.declared.choice.Choice.TheVariants as choice
use Rattle.vote_kinds.proofs.Lookups.{candidates_known}
use Rattle.seat_remainders.specs.declared.contest.Entry.{Entry}
use Rattle.ledger_commands.specs.Lines.{entry_told}
use Rattle.ledger_commands.proofs.Sums.{entry_is, told_sum}
use Rattle.ledger_commands.proofs.lines.entries_of.Goals as goal

pub loop-i-preserved : goal.loop-i-preserved
loop-i-preserved c =
    let t = c.args.tables.now in
    let panel = c.args.panel in
    let xs = candidates_at panel t in
    let i = c.loop-i.i in
    let r = c.candidate-candidate.result in
    let entry : Entry = record { number = r.number; birth = r.birth; votes = c.nominal.result } in
    record {
      entries = λ l are.
          let told = entry_is t l panel (slice_get xs i) r c.nominal.result c.candidate-candidate.ensures.candidate
          (c.nominal.ensures ∙ told_sum t l c.args.sums.now are panel (choice.Nominal r.number)) in
          c.in_ok-push.ensures.pushed
          ∙ (ap (λ (es : List Entry). es ++ entry ∷ []) (c.loop-i.invariant.entries l are) ∙ sym (lines_more (entry_told t l panel) xs i entry told));
      count = ap (λ (es : List Entry). length es) c.in_ok-push.ensures.pushed
          ∙ (length-append c.loop-i.entries (entry ∷ []) ∙ ap (λ (n : ℕ). n + 1) c.loop-i.invariant.count);
    }

pub returns-clause-entries : goal.returns-clause-entries
returns-clause-entries c l are =
    let t = c.args.tables.now in
    let panel = c.args.panel in
    let whole = take_all c.loop-i.i (candidates_at panel t) (omega (arith, c.loop-i-test.false, c.candidate_count-i-end.ensures.count)) in
    c.loop-i.invariant.entries l are ∙ ap (λ (cs : List NamedCandidate). map (entry_told t l panel) cs) (whole ∙ candidates_known t panel)

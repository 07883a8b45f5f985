use Rattle.std.proofs.Common.{◌≡◌, true, List, [], ◌∷◌, sym, ◌∙◌, ap, arith}
use Rattle.std.specs.List.{sum_by}
use Rattle.std.specs.Prelude.{nat_lt}
use Rattle.std.proofs.lemmas.List.Sums.{sum_by-append}
use Rattle.std.proofs.lemmas.Result.{err_from_is_err_and}
use Rattle.poll_report.specs.Report.{is_above, votes_of}
use Rattle.qr_text.proofs.Joining.{fault_above}
use Rattle.qr_text.proofs.VotesJoin.{next_party, party_none, party_numbers, party_some}
use Rattle.qr_text.proofs.votes.read_parties.Goals as goal
use Rattle.qr_text.specs.Fronts.{goes, with_parties}
use Rattle.qr_text.specs.Reading.{nothing_said}
use Rattle.qr_text.specs.Sections.{FieldsLeft}
use Rattle.qr_text.specs.declared.said.Said.{Said}
use Rattle.qr_text.specs.declared.said.SaidParty.{SaidParty}

pub loop-number-preserved : goal.loop-number-preserved
loop-number-preserved c =
    let party : SaidParty = c.in_ok-party.party in
    let some = λ (q : Said). party_some q c.args.code c.loop-number.items c.loop-number.last c.loop-number.reader c.in-Some.number c.try_party.new.self c.loop-number.invariant.rising c.in-Some.ensures.exact in
    let above : nat_lt c.loop-number.last party.number ≡ true = ap (λ n. nat_lt c.loop-number.last n) c.in_ok-party.ensures.number ∙ (some nothing_said).1 in
    let pushed = c.in_ok-push.ensures.pushed in
    let nominal = ap (λ (ps : List SaidParty). sum_by (λ p. votes_of p.candidates) ps) pushed ∙ sum_by-append (λ (p : SaidParty). votes_of p.candidates) c.loop-number.items (party ∷ []) in
    let legend = ap (λ (ps : List SaidParty). sum_by (λ p. p.legend) ps) pushed ∙ sum_by-append (λ (p : SaidParty). p.legend) c.loop-number.items (party ∷ []) in
    record {
      same = λ q.
          c.loop-number.invariant.same q
          ∙ ((some q).0
          ∙ (c.in_ok-party.ensures.exact q c.loop-number.items ∙ ap (λ (ps : List SaidParty). goes (with_parties q c.args.code ps) c.read_party.new.reader) (sym pushed)));
      rising = λ n s.
          ap (λ (ps : List SaidParty). is_above (party_numbers ps) n) pushed
          ∙ (next_party c.loop-number.last c.loop-number.items party c.loop-number.invariant.rising above n s ∙ ap (λ m. nat_lt m n) c.in_ok-party.ensures.number);
      nominal = omega (arith, nominal, c.loop-number.invariant.nominal, c.in_ok-party.ensures.total, c.from-nominal.ensures);
      legend = omega (arith, legend, c.loop-number.invariant.legend, c.from-legend.ensures);
      few = omega (
        arith,
        c.loop-number.invariant.few,
        c.in_ok-party.ensures.total,
        c.in_ok-party.ensures.few,
        c.in_ok-party.ensures.fewer,
        c.in-Some.ensures.one,
        c.from-nominal.ensures,
        c.from-legend.ensures,
      );
      short = c.loop-number.invariant.short;
    }

pub returns-in_err-party-clause-exact : goal.returns-in_err-party-clause-exact
returns-in_err-party-clause-exact c =
    let p = err_from_is_err_and c.from_residual.result c.from_residual.ensures.1 in
    rw (p.1, p.2) (fault_above _ _ _ _ c.in_err-party.field-0.0 c.in_err-party.ensures.exact (λ f h q.
    c.loop-number.invariant.same q
    ∙ ((party_some q c.args.code c.loop-number.items c.loop-number.last c.loop-number.reader c.in-Some.number c.try_party.new.self c.loop-number.invariant.rising c.in-Some.ensures.exact).0
    ∙ h q c.loop-number.items)))

pub returns-clause-no_more : goal.returns-clause-no_more
returns-clause-no_more c = λ q p more e.
    party_none q c.args.code c.loop-number.items c.loop-number.last c.loop-number.reader c.loop-number.invariant.rising c.in_default.ensures.exact.0 p more
    (ap (λ (s : FieldsLeft). s.left) (sym c.in_default.ensures.exact.1) ∙ e)

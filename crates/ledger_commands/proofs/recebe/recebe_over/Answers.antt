use Rattle.std.proofs.Common.{◌≡◌, ◌∷◌, [], ◌+◌, ℕ, List, length, refl, sym, ap, subst, ◌∙◌, arith}
use Rattle.urna_outside.specs.ShownLines.{HasShown, IsCutOff}
use Rattle.urna_outside.specs.declared.device.Port.TheVariants as port
use Rattle.intake_ledger.specs.Calls.{Keeps}
use Rattle.intake_ledger.specs.Ledger.{accepted_in}
use Rattle.intake_ledger.specs.Offers.{none_offered}
use Rattle.intake_ledger.proofs.Offering.{still_kept}
use Rattle.report_lines.specs.Verdicts.{refused_count}
use Rattle.command_parts.proofs.Calls.{taken_as, taken_within}
use Rattle.ledger_commands.specs.Errors.{ledger_status}
use Rattle.ledger_commands.specs.Opening.{ledger_line}
use Rattle.ledger_commands.specs.Recebe.{HasReceivedTo, RecebeEnds, cut, not_opened, received, refused_status}
use Rattle.ledger_commands.specs.declared.status.LedgerStatus.TheVariants as status
use Rattle.ledger_commands.proofs.Opened.{cut_safe, lines_stopped, opened}
use Rattle.ledger_commands.proofs.Received.{all_calls, offers_stop, received_so}
use Rattle.ledger_commands.proofs.Receiving.{all_offered_so}
use Rattle.ledger_commands.proofs.Statuses.{counts_ledger, passed_on, refused_error, taken_still}
use Rattle.ledger_commands.proofs.Sums.{told_number}
use Rattle.ledger_commands.proofs.recebe.recebe_over.Goals as goal

pub returns-in_err-ledger : goal.returns-in_err-ledger
returns-in_err-ledger g c =
    λ names x given taken.
    let y = g.C.Cabinet.told c.args.cabinet.now in
    let m = g.M.Machine.told c.args.machine.now in
    let n = g.M.Machine.told c.open.new.m in
    let e = c.in_err-ledger.field-0.0 in
    subst (RecebeEnds names x y m n) (sym (passed_on c.from_residual.result (ledger_status e) c.from_residual.ensures.1 (λ s h. h)))
    (not_opened e given (taken_as 2 x y (counts_ledger e x.tally y.tally) taken) c.in_err-ledger.ensures.fails)

pub returns-in_err-tell_line : goal.returns-in_err-tell_line
returns-in_err-tell_line g c =
    λ names x given taken.
    let y = g.C.Cabinet.told c.args.cabinet.now in
    let m = g.M.Machine.told c.args.machine.now in
    let b = g.M.Machine.told c.open.new.m in
    let n = g.M.Machine.told c.tell_line.new.machine in
    let t = c.args.tables.now in
    let listed = c.args.list.now in
    let kept = c.in_ok-ledger.ledger in
    let (l, keeps, ran, exact) = c.in_ok-ledger.ensures.opened in
    let fine = c.in_ok-ledger.ensures.fine in
    let line = ledger_line (accepted_in l) in
    let told : c.ledger_line.result ≡ line =
    c.ledger_line.ensures ∙ ap ledger_line (c.accepted.ensures ∙ told_number t l c.totals.result.now (subst (λ d. Keeps t b d l) (sym c.totals.ensures) keeps).totals) in
    let off : IsCutOff (line ∷ []) b n = subst (λ (bytes : List ℕ). IsCutOff (bytes ∷ []) b n) {y = line} told c.in_err-tell_line.ensures.shown in
    let to : HasReceivedTo x.files t listed listed [] port.Display m n =
    record {
      first = l;
      last = l;
      pieces = [];
      between = b;
      opened = opened t given.tables.valid l kept m b keeps ran exact fine;
      are = record { names = []; all = refl; reports = []; taken = tt; offered = none_offered };
      stopped = lines_stopped t given.tables.valid l kept m b keeps ran exact fine line [] n off;
      survives = cut_safe t given.tables.valid l kept m b keeps ran exact fine line [] n off;
    } in
    subst (RecebeEnds names x y m n)
    (sym (passed_on c.from_residual-in_err-tell_line.result status.Display c.from_residual-in_err-tell_line.ensures.1 (λ s h. h ∙ c.in_err-tell_line.ensures.err)))
    (cut port.Display given (taken_within 2 (length listed + 2) x y (omega arith) (taken_as 2 x y (λ same. same) taken)) to)

pub returns-in_err-refused : goal.returns-in_err-refused
returns-in_err-refused g c =
    λ names x given taken.
    let y = g.C.Cabinet.told c.args.cabinet.now in
    let z = g.C.Cabinet.told c.offer_all.new.cabinet in
    let m = g.M.Machine.told c.args.machine.now in
    let b = g.M.Machine.told c.open.new.m in
    let e = g.M.Machine.told c.tell_line.new.machine in
    let n = g.M.Machine.told c.offer_all.new.machine in
    let t = c.args.tables.now in
    let listed = c.args.list.now in
    let kept = c.in_ok-ledger.ledger in
    let (l, keeps, ran, exact) = c.in_ok-ledger.ensures.opened in
    let fine = c.in_ok-ledger.ensures.fine in
    let line = ledger_line (accepted_in l) in
    let told : c.ledger_line.result ≡ line =
    c.ledger_line.ensures ∙ ap ledger_line (c.accepted.ensures ∙ told_number t l c.totals.result.now (subst (λ d. Keeps t b d l) (sym c.totals.ensures) keeps).totals) in
    let shown : HasShown (line ∷ []) b e = subst (λ (bytes : List ℕ). HasShown (bytes ∷ []) b e) {y = line} told c.in_ok-tell_line.ensures.shown in
    let s = c.in_err-refused.field-0.0 in
    subst (RecebeEnds names x z m n) (sym (passed_on c.from_residual-in_err-refused.result s c.from_residual-in_err-refused.ensures.1 (λ u h. h)))
    (offers_stop names t given.tables.valid listed x y z given taken l kept m b e n keeps ran exact fine shown s
    (c.in_err-refused.ensures l (still_kept t (line ∷ []) kept l b e shown keeps)))

pub returns : goal.returns
returns g c =
    λ names x given taken.
    let y = g.C.Cabinet.told c.args.cabinet.now in
    let z = g.C.Cabinet.told c.offer_all.new.cabinet in
    let m = g.M.Machine.told c.args.machine.now in
    let b = g.M.Machine.told c.open.new.m in
    let e = g.M.Machine.told c.tell_line.new.machine in
    let n = g.M.Machine.told c.offer_all.new.machine in
    let t = c.args.tables.now in
    let listed = c.args.list.now in
    let kept = c.in_ok-ledger.ledger in
    let (l, keeps, ran, exact) = c.in_ok-ledger.ensures.opened in
    let fine = c.in_ok-ledger.ensures.fine in
    let line = ledger_line (accepted_in l) in
    let told : c.ledger_line.result ≡ line =
    c.ledger_line.ensures ∙ ap ledger_line (c.accepted.ensures ∙ told_number t l c.totals.result.now (subst (λ d. Keeps t b d l) (sym c.totals.ensures) keeps).totals) in
    let shown : HasShown (line ∷ []) b e = subst (λ (bytes : List ℕ). HasShown (bytes ∷ []) b e) {y = line} told c.in_ok-tell_line.ensures.shown in
    let all = all_offered_so t l listed y z e n c.in_ok-refused.refused (c.in_ok-refused.ensures l (still_kept t (line ∷ []) kept l b e shown keeps)) in
    subst (RecebeEnds names x z m n) (sym (c.ended_with.ensures ∙ ap refused_status all.1.refused_are))
    (received given
    (received_so names t given.tables.valid listed x y z given taken l kept m b e n keeps ran exact fine shown [] all.1.verdicts all.1.pieces all.1.last all.2 all.1.put)
    (taken_still (length listed + 2) (refused_status (refused_count all.1.verdicts)) x z (refused_error (refused_count all.1.verdicts))
    (all_calls names t given.tables.valid listed x y z given taken l kept m b e n keeps ran exact fine shown status.Done all.1.taken)))

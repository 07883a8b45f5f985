use Rattle.std.proofs.Common.{◌≡◌, ◌+◌, ◌^◌, ◌<◌, [], length, refl, sym, ◌∙◌, ap, arith}
use Rattle.std.proofs.lemmas.List.{append-nil, append_assoc}
use Rattle.std.proofs.lemmas.Bool.Decides.{nat_tests}
use Rattle.urna_base.specs.Lines.{lines_of}
use Rattle.key_script.specs.Names.{most_names}
use Rattle.key_script.proofs.NameLaws.{are_names-unfaulted, fault_behind, fault_behind-first, fault_behind-nil, fault_behind-name}
use Rattle.key_script.proofs.StartLaws.{size_of, size_of-lines}
use Rattle.key_script.proofs.names.line_starts.Goals as goal

pub loop-line-init : goal.loop-line-init
loop-line-init c =
    record {
      starts = rw c.new-starts.ensures refl;
      fault = rw c.new-starts.ensures (fault_behind-first c.args.text.now);
      size = omega arith;
    }

-- a line ends within the text
line_ends : (c : goal.After-push) → c.loop-line.start + (length c.in-Some.line.now + 1) < 2 ^ 32
line_ends c =
    let split : size_of (lines_of c.loop-line.rest.now) ≡ length c.in-Some.line.now + 1 + size_of (lines_of c.in-Some.others.now) = rw c.in-Some.ensures.split refl in
    omega (arith, size_of-lines c.args.text.now, c.loop-line.invariant.size)

pub overflow_cast-start : goal.overflow_cast-start
overflow_cast-start c = let ends = line_ends c in omega arith

pub overflow_add-start : goal.overflow_add-start
overflow_add-start c = let ends = line_ends c in omega arith

pub overflow_add-start-in-Some : goal.overflow_add-start-in-Some
overflow_add-start-in-Some c = let ends = line_ends c in omega arith

room : (c : goal.After-push) → length c.loop-line.starts.items < most_names
room c = let full = c.if-is_full.ensures.value in let few = c.is_full.ensures.fits in grind (arith, nat_tests)

pub loop-line-preserved : goal.loop-line-preserved
loop-line-preserved c =
    let count = length c.loop-line.starts.items in
    let split = c.in-Some.ensures.split in
    let fault = fault_behind-name count c.in-Some.line.now (lines_of c.in-Some.others.now) (room c) (sym c.if-not-is_name.ensures) in
    record {
      starts = rw (c.push.ensures.items, append_assoc) (rw split at c.loop-line.invariant.starts);
      fault =
          ap (λ n. fault_behind n (lines_of c.in-Some.others.now)) c.push.ensures.len
          ∙ (sym fault ∙ (ap (λ lines. fault_behind count lines) (sym split) ∙ c.loop-line.invariant.fault));
      size =
          let had = rw split at c.loop-line.invariant.size in
          omega (arith, had);
    }

-- at the end no line is left
ended : (c : goal.In_default) → lines_of c.loop-line.rest.now ≡ []
unfolding lines_of
ended c = let none = c.in_default.ensures.empty.0 refl in rw none refl

pub returns-clause-starts : goal.returns-clause-starts
returns-clause-starts c =
    let starts = rw (ended c) at c.loop-line.invariant.starts in
    sym (append-nil c.loop-line.starts.items) ∙ starts

pub returns-clause-names : goal.returns-clause-names
returns-clause-names c =
    let fault = rw (ended c) at c.loop-line.invariant.fault in
    are_names-unfaulted c.args.text.now (sym fault ∙ fault_behind-nil (length c.loop-line.starts.items))

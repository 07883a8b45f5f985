use Rattle.std.proofs.Common.{◌≡◌, ℕ, suc, ◌+◌, true, false, List, [], ◌∷◌, length, sym, ◌∙◌, refl, subst, Option, Some, None, ◌≤◌, arith, lit≤}
use Rattle.std.specs.Prelude.{◌==◌, IfSome}
use Rattle.std.proofs.lemmas.Bool.Decides.{nat_tests}
use Rattle.record_audit.proofs.Spellings.{line_broken, line_refused, line_taken, text_ends, text_ends_early}
use Rattle.record_audit.proofs.read.read_lines.Goals as goal
use Rattle.record_audit.specs.Reading.{HasRoom, most_lines}
use Rattle.record_audit.specs.declared.stage.Stage.TheVariants.{Start, Begun, Offices, Votes, Ended}
use Rattle.record_audit.specs.declared.stage.Stage.{Stage}

room_of : (o : Option Stage) (n : Stage) → IfSome o HasRoom → o ≡ Some n → HasRoom n
room_of None n h e = absurd (cc)
room_of (Some m) n h e = let same : m ≡ n = cc in subst HasRoom same h

lines_of_next : (o : Option Stage) (n : Stage) (k : ℕ) → IfSome o (λ s. k ≤ most_lines s) → o ≡ Some n → k ≤ most_lines n
lines_of_next None n k h e = absurd (cc)
lines_of_next (Some m) n k h e = let same : m ≡ n = cc in subst (λ (s : Stage). k ≤ most_lines s) same h

few_lines : (s : Stage) → HasRoom s → most_lines s ≤ 20000
few_lines Start h = lit≤ tt
few_lines Begun h = lit≤ tt
few_lines (Offices text) h = omega arith
few_lines (Votes text office left) h = let offices = h.0 in let votes = h.2 in omega arith
few_lines (Ended text) h = omega arith

pub overflow_add-number : goal.overflow_add-number
overflow_add-number c =
    let few = few_lines c.loop-line.stage c.loop-line.invariant.room in
    let number = c.loop-line.invariant.few in
    omega arith

pub returns-in-None : goal.returns-in-None
returns-in-None c =
    c.loop-line.invariant.same
    ∙ line_refused c.loop-line.number c.loop-line.stage c.in-Some.line.now c.loop-line.rest.now c.in-Some.behind.now c.in-Some.ensures.split c.in-Some.ensures.line
    (sym c.in_ok-next.ensures.value ∙ c.in-None.is)

pub loop-line-preserved : goal.loop-line-preserved
loop-line-preserved c =
    let few = c.loop-line.invariant.few in
    let more = lines_of_next c.in_ok-next.field-0 c.in-Some-2.next (most_lines c.loop-line.stage + 1) c.in_ok-next.ensures.lines c.in-Some-2.is in
    record {
      same = c.loop-line.invariant.same
          ∙ line_taken c.loop-line.number c.loop-line.stage c.in-Some-2.next c.in-Some.line.now c.loop-line.rest.now c.in-Some.behind.now c.in-Some.ensures.split c.in-Some.ensures.line
          (sym c.in_ok-next.ensures.value ∙ c.in-Some-2.is);
      room = room_of c.in_ok-next.field-0 c.in-Some-2.next c.in_ok-next.ensures.room c.in-Some-2.is;
      few = omega arith;
    }

pub returns-then-not-is_empty : goal.returns-then-not-is_empty
returns-then-not-is_empty c =
    c.loop-line.invariant.same
    ∙ line_broken c.loop-line.number c.loop-line.stage c.loop-line.rest.now (c.in_default.ensures.none refl) (left c.loop-line.rest.now (sym c.is_empty.ensures ∙ c.if-not-is_empty.true))
  where
    left : (text : List ℕ) → (length text == 0) ≡ false → text ≡ [] → ⊥
    left [] h e = absurd (cc)
    left (c ∷ text) h e = absurd (cc)

no_bytes : (text : List ℕ) → (length text == 0) ≡ true → [] ≡ text
no_bytes [] h = refl
no_bytes (c ∷ text) h = let no : suc (length text) ≡ 0 = grind (arith, nat_tests) in absurd (omega arith)

pub returns-in-Some-whole_text : goal.returns-in-Some-whole_text
returns-in-Some-whole_text c =
    c.loop-line.invariant.same
    ∙ text_ends c.loop-line.number c.loop-line.stage c.loop-line.rest.now c.in-Some-whole_text.text (sym (no_bytes c.loop-line.rest.now (sym c.is_empty.ensures ∙ c.if-not-is_empty.false)))
    (sym c.whole_text.ensures ∙ c.in-Some-whole_text.is)

pub returns-in-None-whole_text : goal.returns-in-None-whole_text
returns-in-None-whole_text c =
    c.loop-line.invariant.same
    ∙ text_ends_early c.loop-line.number c.loop-line.stage c.loop-line.rest.now (sym (no_bytes c.loop-line.rest.now (sym c.is_empty.ensures ∙ c.if-not-is_empty.false)))
    (sym c.whole_text.ensures ∙ c.in-None-whole_text.is)

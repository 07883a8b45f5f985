use Rattle.std.proofs.Common.{◌≡◌, ℕ, true, ◌++◌, List, Some, length, drop, sym, ap, ◌∙◌, rules}
use Rattle.urna_outside.specs.Flash.{flash_of}
use Rattle.twin_image.specs.Held.{held_body}
use Rattle.twin_image.proofs.Looking.{refilled, held_better, held_same, bodies-open}
use Rattle.twin_image.proofs.survey.Best.look.Goals as goal

pub returns-then-is_better-clause-best : goal.returns-then-is_better-clause-best
returns-then-is_better-clause-best g c = λ bodies was fs told.
    let rank = g.R.Ranked.rank c.args.ranks.now in
    let image = (flash_of c.args.slot.dev fs).content in
    let opened : c.in_ok-opened.opened ≡ true = search rules in
    let body = rw opened at c.in_ok-opened.ensures.body in
    let long : c.args.self.buffer.len ≡ length c.read.new.into = search rules in
    let same = refilled c.args.self.buffer.len c.read.new.into (drop (length c.read.new.into) c.args.self.buffer.items) long in
    let read : c.deref.result.now ≡ c.read.new.into = c.deref.ensures.value ∙ same in
    let answer : c.rank.result ≡ rank c.deref.result.now = c.rank.ensures in
    let is_ranked : rank c.read.new.into ≡ Some c.in-Some.other = ap rank (sym read) ∙ (sym answer ∙ c.in-Some.is) in
    let there = bodies-open rank g.row.SIZE c.args.slot.index c.in-Some.other image c.read.new.into (sym opened ∙ c.in_ok-opened.ensures.gate fs told) (body fs told) is_ranked in
    ap (λ (more : List (List ℕ)). held_body rank (bodies ++ more)) there
    ∙ held_better rank bodies c.args.self.rank c.args.self.body.items c.read.new.into c.in-Some.other c.requires.ranked is_ranked (sym c.is_better.ensures ∙ c.if-is_better.true) was
    ∙ ap (λ (b : List ℕ). Some b) (sym same)

pub returns-else-is_better-clause-best : goal.returns-else-is_better-clause-best
returns-else-is_better-clause-best g c = λ bodies was fs told.
    let rank = g.R.Ranked.rank c.args.ranks.now in
    let image = (flash_of c.args.slot.dev fs).content in
    let opened : c.in_ok-opened.opened ≡ true = search rules in
    let body = rw opened at c.in_ok-opened.ensures.body in
    let long : c.args.self.buffer.len ≡ length c.read.new.into = search rules in
    let same = refilled c.args.self.buffer.len c.read.new.into (drop (length c.read.new.into) c.args.self.buffer.items) long in
    let read : c.deref.result.now ≡ c.read.new.into = c.deref.ensures.value ∙ same in
    let answer : c.rank.result ≡ rank c.deref.result.now = c.rank.ensures in
    let is_ranked : rank c.read.new.into ≡ Some c.in-Some.other = ap rank (sym read) ∙ (sym answer ∙ c.in-Some.is) in
    let there = bodies-open rank g.row.SIZE c.args.slot.index c.in-Some.other image c.read.new.into (sym opened ∙ c.in_ok-opened.ensures.gate fs told) (body fs told) is_ranked in
    ap (λ (more : List (List ℕ)). held_body rank (bodies ++ more)) there
    ∙ held_same rank bodies c.args.self.rank c.args.self.body.items c.read.new.into c.in-Some.other c.requires.ranked is_ranked (sym c.is_better.ensures ∙ c.if-is_better.false) was

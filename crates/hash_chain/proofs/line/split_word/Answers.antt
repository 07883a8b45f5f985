use Rattle.std.proofs.Common.{arith}
use Rattle.std.proofs.lemmas.List.{take_rest}
use Rattle.hash_chain.proofs.PieceLaws.{whole_word, word_broken, word_cut}
use Rattle.hash_chain.proofs.line.split_word.Goals as goal

pub returns-then-end-text-clause-split : goal.returns-then-end-text-clause-split
returns-then-end-text-clause-split c = (whole_word c.args.text.now c.word_end-end.result c.if-end-text.true c.word_end-end.ensures.word).0

pub returns-then-text-end-ne32-clause-other : goal.returns-then-text-end-ne32-clause-other
returns-then-text-end-ne32-clause-other c = λ h.
    let within = c.word_end-end.ensures.within in
    let other = c.if-end-text.false in
    word_broken c.args.text.now c.word_end-end.result (omega arith) c.if-text-end-ne32.true (c.word_end-end.ensures.behind (omega arith)) c.word_end-end.ensures.word

pub returns-clause-split : goal.returns-clause-split
returns-clause-split c =
    let within = c.word_end-end.ensures.within in
    let other = c.if-end-text.false in
    rw take_rest (word_cut c.args.text.now c.word_end-end.result (omega arith) c.if-text-end-ne32.false c.word_end-end.ensures.word)

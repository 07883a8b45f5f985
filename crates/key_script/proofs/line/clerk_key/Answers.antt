use Rattle.std.proofs.Common.{refl, sym, ◌∙◌}
use Rattle.key_script.specs.Script.{clerk_line}
use Rattle.key_script.proofs.line.clerk_key.Goals as goal

pub returns-in-Some : goal.returns-in-Some
unfolding clerk_line
returns-in-Some c = let here = sym c.moment_after.ensures ∙ c.in-Some.is in rw here refl

pub returns-in-Some-title_after : goal.returns-in-Some-title_after
unfolding clerk_line
returns-in-Some-title_after c =
    let abre = sym c.moment_after.ensures ∙ c.in_default.is in
    let here = sym c.title_after.ensures ∙ c.in-Some-title_after.is in
    rw (abre, here) refl

pub returns-then-is_word : goal.returns-then-is_word
unfolding clerk_line
returns-then-is_word c =
    let abre = sym c.moment_after.ensures ∙ c.in_default.is in
    let titulo = sym c.title_after.ensures ∙ c.in_default-title_after.is in
    let here = sym c.is_word.ensures ∙ c.if-is_word.true in
    rw (abre, titulo, here) refl

pub returns-then-is_word-2 : goal.returns-then-is_word-2
unfolding clerk_line
returns-then-is_word-2 c =
    let abre = sym c.moment_after.ensures ∙ c.in_default.is in
    let titulo = sym c.title_after.ensures ∙ c.in_default-title_after.is in
    let libera = sym c.is_word.ensures ∙ c.if-is_word.false in
    let here = sym c.is_word-2.ensures ∙ c.if-is_word-2.true in
    rw (abre, titulo, libera, here) refl

pub returns-then-is_word-3 : goal.returns-then-is_word-3
unfolding clerk_line
returns-then-is_word-3 c =
    let abre = sym c.moment_after.ensures ∙ c.in_default.is in
    let titulo = sym c.title_after.ensures ∙ c.in_default-title_after.is in
    let libera = sym c.is_word.ensures ∙ c.if-is_word.false in
    let cancela = sym c.is_word-2.ensures ∙ c.if-is_word-2.false in
    let here = sym c.is_word-3.ensures ∙ c.if-is_word-3.true in
    rw (abre, titulo, libera, cancela, here) refl

pub returns-in-Some-moment_after : goal.returns-in-Some-moment_after
unfolding clerk_line
returns-in-Some-moment_after c =
    let abre = sym c.moment_after.ensures ∙ c.in_default.is in
    let titulo = sym c.title_after.ensures ∙ c.in_default-title_after.is in
    let libera = sym c.is_word.ensures ∙ c.if-is_word.false in
    let cancela = sym c.is_word-2.ensures ∙ c.if-is_word-2.false in
    let suspende = sym c.is_word-3.ensures ∙ c.if-is_word-3.false in
    let here = sym c.moment_after-2.ensures ∙ c.in-Some-moment_after.is in
    rw (abre, titulo, libera, cancela, suspende, here) refl

pub returns : goal.returns
unfolding clerk_line
returns c =
    let abre = sym c.moment_after.ensures ∙ c.in_default.is in
    let titulo = sym c.title_after.ensures ∙ c.in_default-title_after.is in
    let libera = sym c.is_word.ensures ∙ c.if-is_word.false in
    let cancela = sym c.is_word-2.ensures ∙ c.if-is_word-2.false in
    let suspende = sym c.is_word-3.ensures ∙ c.if-is_word-3.false in
    let encerra = sym c.moment_after-2.ensures ∙ c.in_default-moment_after.is in
    rw (abre, titulo, libera, cancela, suspende, encerra) refl

use Rattle.std.proofs.Common.{◌≡◌, ℕ, [], ◌∷◌, ◌++◌, ap, sym, subst, ◌∙◌, arith}
use Rattle.vote_kinds.specs.declared.choice.Field.{Field}
use Rattle.vote_kinds.specs.Ballot.{line_of}
use Rattle.voter_term.specs.Field.{field_after, shown_by, Reads}
use Rattle.voter_term.specs.Panel.{next_field, next_shown}
use Rattle.voter_term.proofs.PanelWords.{reads_key}
use Rattle.voter_term.proofs.ShownLemmas.{shown_by-is}
use Rattle.voter_term.proofs.Words.{field_after-more}
use Rattle.voter_term.proofs.panel.Panel.key.Goals as goal

pub returns-clause-field : goal.returns-clause-field
returns-clause-field g c = λ w h.
    c.take.ensures.next ∙ ap (λ (f : Field). next_field g.row.CAP f c.args.key) h ∙ sym (field_after-more g.row.CAP w c.args.key (omega arith))

pub returns-clause-shown : goal.returns-clause-shown
returns-clause-shown g c = λ w h.
    let line = line_of c.args.tables.now c.args.panel in
    c.take.ensures.tells
    ∙ ap (λ (f : Field). next_shown line c.args.before f c.args.key) (h ∙ ap (λ (n : ℕ). field_after n w) (sym c.requires.digits))
    ∙ sym (shown_by-is line c.args.before w c.args.key (omega arith))

pub returns-clause-word : goal.returns-clause-word
returns-clause-word g c = λ w h unconfirmed.
    let line = line_of c.args.tables.now c.args.panel in
    let e : c.take.result ≡ shown_by line c.args.before w c.args.key =
    c.take.ensures.tells
    ∙ ap (λ (f : Field). next_shown line c.args.before f c.args.key) (h ∙ ap (λ (n : ℕ). field_after n w) (sym c.requires.digits))
    ∙ sym (shown_by-is line c.args.before w c.args.key (omega arith)) in
    subst (Reads line c.args.before (w ++ c.args.key ∷ [])) (sym e) (reads_key line c.args.before w c.args.key unconfirmed)

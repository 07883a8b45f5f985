use Rattle.rehearsal.proofs.rehearsal_tables.Goals as goal

pub returns-clause-read : goal.returns-clause-read
returns-clause-read c =
    rw c.into_bytes.ensures.value
    (c.no_text_is_refused.ensures.tables c.args.n _ c.requires.some c.requires.few (c.in_ok-text.ensures.utf8, c.in_ok-text.ensures.reads)).1

use Rattle.std.proofs.Common.{◌++◌, List, length, ℕ, ap, ◌∙◌, append_assoc}
use Rattle.std.specs.List.{flat_map}
use Rattle.std.proofs.lemmas.Result.{on_ok_weaker}
use Rattle.vote_kinds.proofs.Lookups.{office_known}
use Rattle.vote_kinds.specs.Ballot.{panel_at}
use Rattle.vote_record.specs.Bag.{bag_at}
use Rattle.vote_record.specs.RecordText.{line_end, office_words, vote_line}
use Rattle.vote_record.proofs.TextLaws.{vote_lines}
use Rattle.vote_record.proofs.record_text.put_panel.Goals as goal

pub returns : goal.returns
returns c =
    let out = c.args.out.now.items in
    let bag = bag_at c.args.votes.now.bags c.args.panel in
    let office = office_known c.args.tables.now c.args.panel c.office.result c.office.ensures.office in
    let line = office_words c.office.result.code c.total.result ++ line_end in
    on_ok_weaker c.put_votes.result
    (λ e. e ∙ ap (λ (l : List ℕ). l ++ flat_map vote_line bag) c.in_ok-put_office.ensures ∙ append_assoc out line (flat_map vote_line bag) ∙ rw (office, c.total.ensures.total) (ap (λ (l : List ℕ). out ++ ((office_words (panel_at c.args.tables.now c.args.panel).office.code (length bag) ++ line_end) ++ l)) (vote_lines bag)))
    c.put_votes.ensures

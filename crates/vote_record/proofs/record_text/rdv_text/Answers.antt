use Rattle.std.proofs.Common.{◌++◌, List, ℕ, ap, ◌∙◌}
use Rattle.std.specs.List.{concat, flat_map, zip}
use Rattle.vote_record.specs.RecordText.{end_words, heading_words, line_end, panel_lines, record_text}
use Rattle.vote_record.proofs.TextLaws.{record_joined}
use Rattle.vote_record.proofs.record_text.rdv_text.Goals as goal

pub returns : goal.returns
unfolding record_text
returns c =
    let t = c.args.tables.now in
    let section = c.args.section in
    let heading = heading_words t.process t.date t.turn section.zone section.number in
    let offices = flat_map panel_lines (zip t.panels c.args.votes.now.bags) in
    let first = c.in_ok-put_heading.ensures ∙ ap (λ (l : List ℕ). l ++ (heading ++ line_end)) (rw c.new-text.ensures.items at c.in_ok-extend_from_slice.ensures.items) in
    c.in_ok-extend_from_slice-2.ensures.items
    ∙ ap (λ (l : List ℕ). l ++ (end_words ++ line_end)) (c.in_ok-put_panels.ensures ∙ ap (λ (l : List ℕ). l ++ concat offices) first)
    ∙ record_joined heading offices

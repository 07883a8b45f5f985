use Rattle.std.proofs.Common.{◌≡◌, ◌-◌, ◌++◌, ◌∙◌, sym, ap, length, replicate, take, List, ℕ, arith}
use Rattle.vote_kinds.specs.declared.choice.Choice.{Choice}
use Rattle.vote_kinds.specs.Ballot.{lines_by_panel}
use Rattle.vote_kinds.proofs.Lookups.{by_panel_length}
use Rattle.image_codec.specs.State.{State}
use Rattle.image_codec.specs.Encoding.{head_bytes, written}
use Rattle.image_codec.proofs.Lengths.{body_of, counters_few, counters_text, length-counters_text, length-written, written_is}
use Rattle.image_codec.proofs.OfTables.{panels_of}
use Rattle.image_codec.proofs.codec.writing.encode_into.Goals as goal

pub put_counters-end-requires-clause-room : goal.put_counters-end-requires-clause-room
put_counters-end-requires-clause-room c =
    let t = c.args.tables.now in
    let s : State = c.args.state.now in
    let many = panels_of t (length s.came) s c.requires.state in
    let same = ap (λ (b : List (List Choice)). length (counters_text (lines_by_panel t) b)) c.votes.ensures.bags in
    let size = length-counters_text (lines_by_panel t) s.bags (many ∙ sym (by_panel_length t)) in
    omega (arith, counters_few t c.panels.ensures.tables, c.put_zeros-end.ensures.end, c.requires.body)

pub returns : goal.returns
returns c =
    let t = c.args.tables.now in
    let s : State = c.args.state.now in
    let many = panels_of t (length s.came) s c.requires.state in
    let text : List ℕ = counters_text (lines_by_panel t) c.votes.result.now.bags in
    let same : text ≡ counters_text (lines_by_panel t) s.bags = ap (counters_text (lines_by_panel t)) c.votes.ensures.bags in
    let size : length text ≡ length (counters_text (lines_by_panel t) s.bags) = ap (λ (l : List ℕ). length l) same in
    let long = length-counters_text (lines_by_panel t) s.bags (many ∙ sym (by_panel_length t)) in
    let whole = length-written t s many in
    let front : take c.put_counters-end.result c.put_counters-end.new.into ≡ written t s =
    c.put_counters-end.ensures.text
    ∙ ap (λ (l : List ℕ). l ++ text) (c.put_zeros-end.ensures.text ∙ ap (λ (l : List ℕ). l ++ replicate (512 - c.put_head-end.result) 0) c.put_head-end.ensures.text
    ∙ ap (λ (n : ℕ). head_bytes 2 s ++ replicate (512 - n) 0) c.put_head-end.ensures.end)
    ∙ ap (λ (l : List ℕ). (head_bytes 2 s ++ replicate 414 0) ++ l) same ∙ sym (written_is t s) in
    body_of t s c.put_counters-end.new.into (take c.put_counters-end.result c.put_counters-end.new.into) c.fill.new.self c.put_counters-end.result
    (omega (arith, c.requires.body))
    (omega (arith, c.put_counters-end.ensures.end, c.put_zeros-end.ensures.end))
    front
    (c.fill.ensures.after (λ y h. h))

use Rattle.std.proofs.Common.{List, ℕ, Option, Bor, ◌∷◌, ◌∙◌, ap}
use Rattle.hash_chain.proofs.LineParts.{line_of_three, no_line_one, no_line_two}
use Rattle.hash_chain.proofs.line.split_pieces.Goals as goal
use Rattle.urna_base.specs.Words.{pieces_left}

pub returns-in_default : goal.returns-in_default
returns-in_default c =
    let q : List ℕ = c.split_piece.result.0.now in
    no_line_one c.args.row.now q (c.split_piece.ensures ∙ ap (λ (o : Option (Bor (List ℕ))). q ∷ pieces_left o) c.in_default.is)

pub returns-in_default-behind : goal.returns-in_default-behind
returns-in_default-behind c =
    let q : List ℕ = c.split_piece.result.0.now in
    let v : List ℕ = c.split_piece-2.result.0.now in
    no_line_two c.args.row.now q v _ (c.split_piece.ensures ∙ ap (λ (o : Option (Bor (List ℕ))). q ∷ pieces_left o) c.in-Some.is)
    (c.split_piece-2.ensures ∙ ap (λ (o : Option (Bor (List ℕ))). v ∷ pieces_left o) c.in_default-behind.is)

pub returns : goal.returns
returns c =
    let q : List ℕ = c.split_piece.result.0.now in
    let v : List ℕ = c.split_piece-2.result.0.now in
    line_of_three c.args.row.now q v c.in-Some-behind.tail.now _ (c.split_piece.ensures ∙ ap (λ (o : Option (Bor (List ℕ))). q ∷ pieces_left o) c.in-Some.is)
    (c.split_piece-2.ensures ∙ ap (λ (o : Option (Bor (List ℕ))). v ∷ pieces_left o) c.in-Some-behind.is)

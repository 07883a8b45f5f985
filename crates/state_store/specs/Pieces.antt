-- What a session puts out: lines, and states of a poll
use Rattle.flash_store.specs.Pieces.{Piece as PieceOf}
use Rattle.image_codec.specs.State.{State}

-- a line, and the state of the poll that is committed just before it, where it tells one
abbrev pub Piece : Type 0
Piece = PieceOf State

use Rattle.std.proofs.Common.{arith}
use Rattle.image_codec.proofs.Counted.{counted_encoding, encoding_counted}
use Rattle.image_codec.proofs.Decoding.{decoded_takes, decoded_back, one_state}
use Rattle.image_codec.proofs.InPlace.{counts_in_place}
use Rattle.image_codec.proofs.Lengths.{length-encode, length-encode1, room_of_first, room_of_state}
use Rattle.image_codec.proofs.laws.codec.Goals as goal

pub returns-clause-decoded : goal.returns-clause-decoded
returns-clause-decoded _ = λ t voters s bytes is few. (decoded_takes t voters bytes s is few, decoded_back t voters bytes s is few)

pub returns-clause-one : goal.returns-clause-one
returns-clause-one _ = one_state

pub returns-clause-room : goal.returns-clause-room
returns-clause-room _ = λ t voters s is few of. (room_of_state t voters s is few of, room_of_first t voters s is few of)

pub returns-clause-body : goal.returns-clause-body
returns-clause-body _ = λ t voters s is few of.
    let room = room_of_state t voters s is few of in
    let first = room_of_first t voters s is few of in
    (length-encode t s (omega arith), length-encode1 s (omega arith))

pub returns-clause-in_place : goal.returns-clause-in_place
returns-clause-in_place _ = counts_in_place

pub returns-clause-counted : goal.returns-clause-counted
returns-clause-counted _ = λ t voters bytes is few two. (encoding_counted t voters bytes is few two, counted_encoding t voters bytes is few two)

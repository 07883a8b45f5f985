use Rattle.std.proofs.Common.{◌≡◌, ◌-◌, ◌+◌, ◌≤◌, ◌∙◌, ℕ, Bool, true, false, cond, refl, ap, map, arith}
use mir.Val.{bool_byte}
use Rattle.std.specs.List.{range_with_len}
use Rattle.turnout.specs.Turnout.{has_come}
use Rattle.image_codec.specs.Encoding.{number_of_bits}
use Rattle.image_codec.proofs.Bits.{marks_eight, marks_push, marks_small}
use Rattle.image_codec.proofs.codec.writing.eight_places.Goals as goal

bit_is : (b : Bool) → bool_byte b ≡ cond b 1 0
bit_is true = refl
bit_is false = refl

bit_small : (b : Bool) → bool_byte b ≤ 1
bit_small true = omega arith
bit_small false = omega arith

pub overflow_mul-byte : goal.overflow_mul-byte
overflow_mul-byte c =
    let small = marks_small c.args.turnout.now c.args.first (c.loop-place.place - c.args.first) (omega arith) in
    omega (arith, c.loop-place.invariant)

pub overflow_add-byte : goal.overflow_add-byte
overflow_add-byte c =
    let small = marks_small c.args.turnout.now c.args.first (c.loop-place.place - c.args.first) (omega arith) in
    omega (arith, c.loop-place.invariant, c.from.ensures, bit_small c.came.result)

pub loop-place-preserved : goal.loop-place-preserved
loop-place-preserved c =
    let came = c.args.turnout.now in
    let first : ℕ = c.args.first in
    let place : ℕ = c.loop-place.place in
    let n : ℕ = place - first in
    let so_far : ℕ → ℕ = λ k. number_of_bits (map (has_come came) (range_with_len first k)) in
    let one : place + 1 - first ≡ n + 1 = omega arith in
    let bit : c.from.result ≡ cond (has_come came place) 1 0 = c.from.ensures ∙ bit_is c.came.result ∙ ap (λ (b : Bool). cond b 1 0) c.came.ensures in
    omega (arith, c.loop-place.invariant, marks_push came first n place (omega arith), ap so_far one)

pub returns : goal.returns
returns c =
    let all : c.loop-place.place - c.args.first ≡ 8 = omega arith in
    c.loop-place.invariant ∙ ap (λ (k : ℕ). number_of_bits (map (has_come c.args.turnout.now) (range_with_len c.args.first k))) all ∙ marks_eight c.args.turnout.now c.args.first

use Rattle.std.proofs.Common.{◌≡◌, ◌↔◌, ℕ, ◌+◌, ◌*◌, ◌<◌, ◌==◌, List, true, not, IsTrue, get_or, sym, ap, ◌∙◌, arith}
use Rattle.std.specs.Int.{w32, from_be_bytes}
use Rattle.std.proofs.lemmas.Bool.{eq-eqb, ne_eqb}
use Rattle.urna_outside.specs.Flash.{flash_of, part}
use Rattle.urna_outside.proofs.Places.{get_or-part}
use Rattle.gate_slot.specs.Slot.{body_in, body_offset, gate_in, gate_offset, open_gate}
use Rattle.flash_store.proofs.Looking.{looked}
use Rattle.intake_ledger.specs.Body.{number_in}
use Rattle.intake_ledger.specs.Kept.{IsUsed}
use Rattle.intake_ledger.specs.Layout.{body_size, number_offset}
use Rattle.intake_ledger.proofs.in_use.is_used.Goals as goal

-- the number of a body, where it stands on a device
byte_there : (c : List ℕ) (at k : ℕ) → k < 4 → get_or (part (part c at body_size) number_offset 4) k 0 ≡ get_or (part c (at + number_offset) 4) k 0
byte_there c at k lt =
    let same : at + (number_offset + k) ≡ at + number_offset + k = omega arith in
    get_or-part (part c at body_size) number_offset 4 k lt ∙ get_or-part c at body_size (number_offset + k) (omega arith) ∙ ap (λ (n : ℕ). get_or c n 0) same
    ∙ sym (get_or-part c (at + number_offset) 4 k lt)

number_there : (c : List ℕ) (at : ℕ) → number_in (part c at body_size) ≡ from_be_bytes w32 (part c (at + number_offset) 4)
number_there c at =
    omega (arith, byte_there c at 0 (omega arith), byte_there c at 1 (omega arith), byte_there c at 2 (omega arith), byte_there c at 3 (omega arith))

-- an open slot is used where its number isn't 0
by_number : (index n : ℕ) (content : List ℕ) → gate_in body_size index content ≡ open_gate → n ≡ number_in (body_in body_size index content) → (IsTrue (not (n == 0)) ↔ IsUsed index content)
by_number index n content gate same = (
  λ some. (gate, λ none. let is : (n == 0) ≡ true = eq-eqb n 0 (same ∙ none) in let no = ap not is in absurd (cc)),
  λ used. ap not (ne_eqb n 0 (λ none. used.1 (sym same ∙ none))),
)

pub returns-clause-used : goal.returns-clause-used
returns-clause-used g c fs told =
    let index : ℕ = c.args.index in
    let content : List ℕ = (flash_of c.args.dev fs).content in
    let gate_there : gate_offset body_size index ≡ 512 + c.from.result * 262656 = omega (arith, c.from.ensures) in
    let gate : gate_in body_size index content ≡ open_gate =
    ap (λ (k : ℕ). get_or content k 0) gate_there ∙ sym (c.in_ok-byte_at.ensures.byte fs told) ∙ c.if-branch.false in
    let there : 512 + c.from.result * 262656 + 516 ≡ body_offset body_size index + number_offset = omega (arith, c.from.ensures) in
    let number = looked _ _ _ c.byte_at.ensures.done c.in_ok-number.ensures.number fs told in
    by_number index c.in_ok-number.number content gate
    (number ∙ ap (λ (k : ℕ). from_be_bytes w32 (part content k 4)) there ∙ sym (number_there content (body_offset body_size index)))

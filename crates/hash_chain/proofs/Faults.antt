-- A file has one fault, or it is the parts of one text, and never both.
use Rattle.std.proofs.Common.{◌≡◌, ℕ, ◌<◌, ◌^◌, List, [], length, sym, ap, ◌∙◌, ◌⊎◌, inl, inr, Some, arith}
use Rattle.std.specs.Prelude.{Ok}
use Rattle.urna_base.specs.Words.{pieces}
use Rattle.urna_base.proofs.Cases.{result_cases}
use Rattle.hash_chain.proofs.FileLaws.{rereads}
use Rattle.hash_chain.proofs.Places.{is_fault, no_fault_of}
use Rattle.hash_chain.proofs.Reading.{lines_read, text_of_lines}
use Rattle.hash_chain.proofs.Remaking.{lines_made}
use Rattle.hash_chain.proofs.Sizes.{many_bytes}
use Rattle.hash_chain.specs.Chain.{Link, parts_text}
use Rattle.hash_chain.specs.Cut.{cut}
use Rattle.hash_chain.specs.Fault.{ArePartsOf, fault_at_link}
use Rattle.hash_chain.specs.Laws.{NeverBoth, OneFault, OneOfBoth}

few_parts_of : (text : List ℕ) → length (parts_text text) < 2 ^ 63 → length (cut (pieces text)) < 10 ^ 18
unfolding parts_text
few_parts_of text short = let many = many_bytes (length (cut (pieces text))) 1 [] (cut (pieces text)) in omega arith

-- the parts of a text are read as lines that say the text
pub lines_of_parts : (bytes text : List ℕ) → length bytes < 2 ^ 63 → ArePartsOf bytes text → (ls : List Link) × (lines_read bytes ≡ Ok ls) × (text_of_lines ls ≡ text)
lines_of_parts bytes text short h =
    let same = ap (λ (x : List ℕ). length x) h.same in
    let read = rereads text h.fields (few_parts_of text (omega arith)) in
    (read.0, ap (λ (x : List ℕ). lines_read x) h.same ∙ read.1, read.2)

-- what a file says whose lines are read
pub parts_read : (bytes : List ℕ) (ls : List Link) → lines_read bytes ≡ Ok ls → ArePartsOf bytes (text_of_lines ls)
parts_read bytes ls e = let made = lines_made bytes ls e in record { fields = made.0; same = made.1 }

no_other_text : (bytes : List ℕ) (ls : List Link) → length bytes < 2 ^ 63 → lines_read bytes ≡ Ok ls → (other : List ℕ) → ArePartsOf bytes other → other ≡ text_of_lines ls
no_other_text bytes ls short e other h =
    let read = lines_of_parts bytes other short h in
    let both : Ok read.0 ≡ Ok ls = sym read.1 ∙ e in
    let same : read.0 ≡ ls = cc in
    sym read.2 ∙ ap (λ (x : List Link). text_of_lines x) same

pub one_of_both : OneOfBoth
one_of_both bytes short =
    elim (result_cases (lines_read bytes)) [
      | inl ok ↦ inr (text_of_lines ok.0, parts_read bytes ok.0 ok.1, no_other_text bytes ok.0 short ok.1)
      | inr bad ↦ inl (bad.0, is_fault bytes bad.0 bad.1)
    ]

pub never_both : NeverBoth
never_both bytes text f short fault parts =
    let read = lines_of_parts bytes text short parts in
    no_fault_of bytes read.0 f read.1 fault

-- a file is the parts of one text
pub one_text : (bytes a b : List ℕ) → length bytes < 2 ^ 63 → ArePartsOf bytes a → ArePartsOf bytes b → a ≡ b
one_text bytes a b short h i = elim (one_of_both bytes short) [
  | inl fault ↦ absurd (never_both bytes a fault.0 short fault.1 h)
  | inr text ↦ text.2 a h ∙ sym (text.2 b i)
]

lower_or_same : (a b : ℕ) → (a < b) ⊎ ((b < a) ⊎ (a ≡ b))
lower_or_same a b = grind arith

-- the first line that has a fault is one, and it has one
pub one_fault : OneFault
one_fault bytes f g hf hg = elim (lower_or_same hf.line hg.line) [
  | inl l ↦ let none = hg.sound hf.line hf.some l in let some = hf.fault in absurd (cc)
  | inr (inl l) ↦ let none = hf.sound hg.line hg.some l in let some = hg.fault in absurd (cc)
  | inr (inr e) ↦
      let both : Some f ≡ Some g = sym hf.fault ∙ (ap (λ (k : ℕ). fault_at_link bytes k) e ∙ hg.fault) in
      cc
]

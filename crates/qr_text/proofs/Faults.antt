-- The laws, by what a reading gives.
use Rattle.std.proofs.Common.{◌≡◌, ℕ, List, inl, inr, sym, ◌∙◌}
use Rattle.std.specs.Prelude.{Ok, Err}
use Rattle.urna_base.proofs.Cases.{result_cases}
use Rattle.qr_text.specs.Fault.{Says}
use Rattle.qr_text.specs.Laws.{OneOfBoth, NotBoth, OneFault, SaysOne}
use Rattle.qr_text.specs.Reading.{said_by}
use Rattle.qr_text.specs.declared.said.Said.{Said}
use Rattle.qr_text.proofs.Exact.{fault_read, read_fault, read_said, said_read}
use Rattle.qr_text.proofs.Following.{complete}
use Rattle.qr_text.proofs.Going.{completes}

-- a text is read as what it says, and with its fault
pub says_read : (bytes : List ℕ) (s : Said) → Says bytes s → said_by bytes ≡ Ok s
says_read bytes s h = said_read complete bytes s h.said h.same h.sums

pub read_says : (bytes : List ℕ) (s : Said) → said_by bytes ≡ Ok s → Says bytes s
read_says bytes s e = let h = read_said completes bytes s e in record { said = h.0; same = h.1; sums = h.2 }

pub one_of_both : OneOfBoth
one_of_both bytes = elim (result_cases (said_by bytes)) [
  | inl ok ↦ inr (ok.0, read_says bytes ok.0 ok.1)
  | inr err ↦ inl (err.0, read_fault complete completes bytes err.0 err.1)
]

pub not_both : NotBoth
not_both bytes f s fault says =
    let both : Err f ≡ Ok s = sym (fault_read complete completes bytes f fault) ∙ says_read bytes s says in absurd (cc)

pub one_fault : OneFault
one_fault bytes f g a b =
    let both : Err f ≡ Err g = sym (fault_read complete completes bytes f a) ∙ fault_read complete completes bytes g b in cc

pub says_one : SaysOne
says_one bytes s t a b = let both : Ok s ≡ Ok t = sym (says_read bytes s a) ∙ says_read bytes t b in cc

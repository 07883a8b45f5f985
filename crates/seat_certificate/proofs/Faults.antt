-- A certificate is valid or has one first fault, and never both.
use Rattle.std.proofs.Common.{Some, ◌≡◌, ℕ, ◌+◌, ◌<◌, List, take, inl, inr, refl, sym, ap, ◌∙◌, subst, arith}
use Rattle.std.specs.Prelude.{slice_get}
use Rattle.std.proofs.lemmas.Bool.{cases_order}
use Rattle.std.proofs.lemmas.List.{take-take}
use Rattle.seat_remainders.specs.declared.contest.Contest.{Contest}
use Rattle.seat_certificate.specs.declared.certificate.Certificate.{Certificate}
use Rattle.seat_certificate.specs.declared.certificate.FirstLine.{FirstLine}
use Rattle.seat_certificate.specs.declared.certificate.Round.{Round}
use Rattle.seat_certificate.specs.declared.check.CertFault.{CertFault}
use Rattle.seat_certificate.specs.declared.check.CertFault.TheVariants as fault
use Rattle.seat_certificate.specs.Certificate.{EachIsLawful, IsLawful, awards_in, first_lines}
use Rattle.seat_certificate.specs.Valid.{HasQuotient, IsCertFault, IsFirstWrongLine, IsFirstWrongRound, IsValid}
use Rattle.seat_certificate.proofs.Members.{in_front}

quotient_or : (contest : Contest) (c : Certificate) → HasQuotient contest c → IsCertFault contest c fault.Quotient → ⊥
quotient_or contest c has (inl none) = let some = has.some in absurd (omega arith)
quotient_or contest c has (inr other) = other has.told

-- ---- lines

line_at : (law lines : List FirstLine) (k j : ℕ) (a : IsFirstWrongLine law lines k) (b : IsFirstWrongLine law lines j) → a.place < b.place → ⊥
line_at law lines k j a b lt =
    a.wrong (sym (in_front lines b.place a.place (slice_get lines a.place) lt refl) ∙ ap (λ (l : List FirstLine). slice_get l a.place) b.before ∙ in_front law b.place a.place (slice_get law a.place) lt refl)

one_line : (law lines : List FirstLine) (k j : ℕ) → IsFirstWrongLine law lines k → IsFirstWrongLine law lines j → k ≡ j
one_line law lines k j a b = elim (cases_order a.place b.place) [
  | inl e ↦ a.number ∙ ap (λ n. n + 1) e ∙ sym b.number
  | inr w ↦ elim w [
    | inl lt ↦ absurd (line_at law lines k j a b lt)
    | inr gt ↦ absurd (line_at law lines j k b a gt)
  ]
]

no_line : (law lines : List FirstLine) (k : ℕ) → lines ≡ law → IsFirstWrongLine law lines k → ⊥
no_line law lines k same wrong = wrong.wrong (ap (λ (l : List FirstLine). slice_get l wrong.place) same)

-- ---- rounds

round_at : (contest : Contest) (qe : ℕ) (rounds : List Round) (n k : ℕ) (a : IsFirstWrongRound contest qe rounds k) → EachIsLawful contest qe (take n rounds) → a.place < n → ⊥
round_at contest qe rounds n k a each lt =
    let lawful = each a.place a.round (in_front rounds n a.place (Some a.round) lt a.stands) in
    a.wrong (subst (λ (l : List Round). IsLawful contest qe (awards_in l) a.round) (take-take a.place n rounds (omega arith)) lawful)

one_round : (contest : Contest) (qe : ℕ) (rounds : List Round) (k j : ℕ) → IsFirstWrongRound contest qe rounds k → IsFirstWrongRound contest qe rounds j → k ≡ j
one_round contest qe rounds k j a b = elim (cases_order a.place b.place) [
  | inl e ↦ a.number ∙ ap (λ n. n + 1) e ∙ sym b.number
  | inr w ↦ elim w [
    | inl lt ↦ absurd (round_at contest qe rounds b.place k a b.before lt)
    | inr gt ↦ absurd (round_at contest qe rounds a.place j b a.before gt)
  ]
]

no_round : (contest : Contest) (qe : ℕ) (rounds : List Round) (k : ℕ) → EachIsLawful contest qe rounds → IsFirstWrongRound contest qe rounds k → ⊥
no_round contest qe rounds k each a = a.wrong (each a.place a.round a.stands)

-- ---- certificates

pub never_both : (contest : Contest) (c : Certificate) (f : CertFault) → IsValid contest c → IsCertFault contest c f → ⊥
never_both contest c fault.Quotient v h = quotient_or contest c v.quotient h
never_both contest c (fault.First k) v h = no_line (first_lines c.quotient contest.parties) c.first k v.first h.1
never_both contest c (fault.Round k) v h = no_round contest c.quotient c.rounds k v.rounds h.2
never_both contest c fault.End v h = h.3 (v.all, v.vacant)

pub one_fault : (contest : Contest) (c : Certificate) (f g : CertFault) → IsCertFault contest c f → IsCertFault contest c g → f ≡ g
one_fault contest c fault.Quotient fault.Quotient h k = refl
one_fault contest c fault.Quotient (fault.First j) h k = absurd (quotient_or contest c k.0 h)
one_fault contest c fault.Quotient (fault.Round j) h k = absurd (quotient_or contest c k.0 h)
one_fault contest c fault.Quotient fault.End h k = absurd (quotient_or contest c k.0 h)
one_fault contest c (fault.First i) fault.Quotient h k = absurd (quotient_or contest c h.0 k)
one_fault contest c (fault.First i) (fault.First j) h k = ap (λ (n : ℕ). fault.First n) (one_line (first_lines c.quotient contest.parties) c.first i j h.1 k.1)
one_fault contest c (fault.First i) (fault.Round j) h k = absurd (no_line (first_lines c.quotient contest.parties) c.first i k.1 h.1)
one_fault contest c (fault.First i) fault.End h k = absurd (no_line (first_lines c.quotient contest.parties) c.first i k.1 h.1)
one_fault contest c (fault.Round i) fault.Quotient h k = absurd (quotient_or contest c h.0 k)
one_fault contest c (fault.Round i) (fault.First j) h k = absurd (no_line (first_lines c.quotient contest.parties) c.first j h.1 k.1)
one_fault contest c (fault.Round i) (fault.Round j) h k = ap (λ (n : ℕ). fault.Round n) (one_round contest c.quotient c.rounds i j h.2 k.2)
one_fault contest c (fault.Round i) fault.End h k = absurd (no_round contest c.quotient c.rounds i k.2 h.2)
one_fault contest c fault.End fault.Quotient h k = absurd (quotient_or contest c h.0 k)
one_fault contest c fault.End (fault.First j) h k = absurd (no_line (first_lines c.quotient contest.parties) c.first j h.1 k.1)
one_fault contest c fault.End (fault.Round j) h k = absurd (no_round contest c.quotient c.rounds j h.2 k.2)
one_fault contest c fault.End fault.End h k = refl

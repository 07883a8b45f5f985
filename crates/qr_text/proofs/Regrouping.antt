-- What is said rightly is what one report says.
use Rattle.std.proofs.Common.{◌≡◌, ℕ, zero, suc, ◌+◌, ◌<◌, ◌≤◌, true, false, List, [], ◌∷◌, ◌++◌, map, refl, sym, ap, ◌∙◌, subst, inl, inr, arith}
use Rattle.std.specs.Prelude.{nat_lt, ◌==◌}
use Rattle.std.specs.List.{AllByRecursion, flat_map, filter, range_with_len}
use Rattle.std.proofs.lemmas.Bool.Decides.{nat_tests}
use Rattle.std.proofs.lemmas.Bool.{cases_Bool, eq-eqb, eqb-true}
use Rattle.std.proofs.lemmas.List.Elements.{filter-append}
use Rattle.std.proofs.lemmas.List.{append-nil}
use Rattle.urna_base.specs.Moment.{is_between}
use Rattle.election_tables.specs.Fields.{first_two}
use Rattle.poll_report.specs.Report.{votes_of, EachAfter}
use Rattle.poll_report.specs.declared.report.Count.{Count}
use Rattle.qr_text.specs.Reported.{legends}
use Rattle.qr_text.specs.Said.{IsSaidParty, MayVoteIn}
use Rattle.qr_text.specs.Spelling.{candidates_of_party, party_votes}
use Rattle.qr_text.specs.declared.said.SaidParty.{SaidParty}
use Rattle.qr_text.proofs.Grouping.{strictly}
use Rattle.qr_text.proofs.Saying.{zero_of, some_votes}

-- ---- a party's candidates among those of all parties

abbrev pub all_candidates : List SaidParty → List Count
all_candidates ps = flat_map (λ p. p.candidates) ps

own_candidates : (digits k : ℕ) (before cs : List Count) → EachAfter (MayVoteIn digits k) before cs → candidates_of_party digits k cs ≡ cs
own_candidates digits k before [] h = refl
own_candidates digits k before (c ∷ cs) h =
    let mine : (first_two digits c.number == k) ≡ true = ap (λ (n : ℕ). n == k) h.0.0 ∙ eq-eqb k k refl in
    rw mine (ap (λ (l : List Count). c ∷ l) (own_candidates digits k (before ++ c ∷ []) cs h.1))

other_number : (m n : ℕ) → (m ≡ n → ⊥) → (m == n) ≡ false
other_number m n h = elim (cases_Bool (m == n)) [ inl e ↦ absurd (h (eqb-true m n e)) | inr e ↦ e ]

foreign_candidates : (digits j k : ℕ) (before cs : List Count) → (j ≡ k → ⊥) → EachAfter (MayVoteIn digits j) before cs
    → candidates_of_party digits k cs ≡ []
foreign_candidates digits j k before [] differ h = refl
foreign_candidates digits j k before (c ∷ cs) differ h =
    let not_mine : (first_two digits c.number == k) ≡ false = ap (λ (n : ℕ). n == k) h.0.0 ∙ other_number j k differ in
    rw not_mine (foreign_candidates digits j k (before ++ c ∷ []) cs differ h.1)

-- numbers of parties that are all above k
abbrev pub AllAbove : ℕ → List SaidParty → Type 0
AllAbove k ps = AllByRecursion (λ p. k < p.number) ps

abbrev pub Parties : ℕ → List SaidParty → Type 0
Parties digits ps = AllByRecursion (IsSaidParty digits) ps

none_later : (digits k : ℕ) (ps : List SaidParty) → Parties digits ps → AllAbove k ps → candidates_of_party digits k (all_candidates ps) ≡ []
none_later digits k [] h a = refl
none_later digits k (p ∷ ps) h a =
    let mine = foreign_candidates digits p.number k [] p.candidates (λ e. let over = a.0 in omega arith) h.0.candidates in
    filter-append (λ c. first_two digits c.number == k) p.candidates (all_candidates ps)
    ∙ (ap (λ (l : List Count). l ++ candidates_of_party digits k (all_candidates ps)) mine ∙ none_later digits k ps h.1 a.1)

-- ---- a party's votes among those of all parties

no_legend : (k : ℕ) (ps : List SaidParty) → AllAbove k ps → party_votes k (legends ps) ≡ 0
no_legend k [] a = refl
no_legend k (p ∷ ps) a =
    let other : (p.number == k) ≡ false = other_number p.number k (λ e. let over = a.0 in omega arith) in
    elim (cases_Bool (nat_lt 0 p.legend)) [
      | inl e ↦ rw (e, other) (no_legend k ps a.1)
      | inr e ↦ rw e (no_legend k ps a.1)
    ]

own_legend : (p : SaidParty) (ps : List SaidParty) → AllAbove p.number ps → party_votes p.number (legends (p ∷ ps)) ≡ p.legend
own_legend p ps a = elim (cases_Bool (nat_lt 0 p.legend)) [
  | inl e ↦ rw (e, eq-eqb p.number p.number refl) refl
  | inr e ↦ rw e (no_legend p.number ps a ∙ sym (zero_of p.legend e))
]

-- ---- the parties of the flattened office are the parties

-- each party's total is its votes
abbrev pub Right : List SaidParty → Type 0
Right ps = AllByRecursion (λ p. votes_of p.candidates + p.legend ≡ p.total) ps

-- the numbers of the parties rise
abbrev pub Rising : List SaidParty → Type 0
Rising [] = Unit {0}
Rising (p ∷ ps) = AllAbove p.number ps × Rising ps

-- and are of the n from a on
abbrev pub InRange : ℕ → ℕ → List SaidParty → Type 0
InRange a n ps = AllByRecursion (λ p. (a ≤ p.number) × (p.number < a + n)) ps

-- party k, where these give its candidates and its party votes
abbrev pub made : (ℕ → List Count) → (ℕ → ℕ) → ℕ → SaidParty
made C V k = record { number = k; candidates = C k; legend = V k; total = votes_of (C k) + V k }

-- from a on they give what is flattened of these parties
abbrev pub Tells : ℕ → (ℕ → List Count) → (ℕ → ℕ) → ℕ → List SaidParty → Type 0
Tells digits C V a ps = (k : ℕ) → a ≤ k → (C k ≡ candidates_of_party digits k (all_candidates ps)) × (V k ≡ party_votes k (legends ps))

skip_candidates : (digits k : ℕ) (p : SaidParty) (ps : List SaidParty) → IsSaidParty digits p → p.number < k
    → candidates_of_party digits k (all_candidates (p ∷ ps)) ≡ candidates_of_party digits k (all_candidates ps)
skip_candidates digits k p ps h less =
    filter-append (λ c. first_two digits c.number == k) p.candidates (all_candidates ps)
    ∙ ap (λ (l : List Count). l ++ candidates_of_party digits k (all_candidates ps))
    (foreign_candidates digits p.number k [] p.candidates (λ e. omega arith) h.candidates)

skip_legend : (k : ℕ) (p : SaidParty) (ps : List SaidParty) → p.number < k → party_votes k (legends (p ∷ ps)) ≡ party_votes k (legends ps)
skip_legend k p ps less =
    let other : (p.number == k) ≡ false = other_number p.number k (λ e. omega arith) in
    elim (cases_Bool (nat_lt 0 p.legend)) [ inl e ↦ rw (e, other) refl | inr e ↦ rw e refl ]

-- a party without votes is left out
dropped : (C : ℕ → List Count) (V : ℕ → ℕ) (a : ℕ) → C a ≡ [] → V a ≡ 0 → some_votes (made C V a) ≡ false
dropped C V a c v = rw (c, v) refl

above_from : (a : ℕ) (ps : List SaidParty) (p : SaidParty) → a < p.number → AllAbove p.number ps → AllAbove a ps
above_from a [] p h l = tt
above_from a (q ∷ ps) p h l = (let m = l.0 in omega arith, above_from a ps p h l.1)

range_up : (a n : ℕ) (ps : List SaidParty) → AllAbove a ps → InRange a (suc n) ps → InRange (a + 1) n ps
range_up a n [] l r = tt
range_up a n (p ∷ ps) l r = (let x = l.0 in let y = r.0.1 in (omega arith, omega arith), range_up a n ps l.1 r.1)

kept_total : (n : ℕ) → is_between 1 9999 n ≡ true → nat_lt 0 n ≡ true
kept_total n h = grind (arith, nat_tests)

-- a party whose sum is right is made again
made_is : (C : ℕ → List Count) (V : ℕ → ℕ) (p : SaidParty) → C p.number ≡ p.candidates → V p.number ≡ p.legend
    → votes_of p.candidates + p.legend ≡ p.total → made C V p.number ≡ p
made_is C V p c v t =
    ap (λ (l : List Count). record { number = p.number; candidates = l; legend = V p.number; total = votes_of l + V p.number }) c
    ∙ (ap (λ (n : ℕ). record { number = p.number; candidates = p.candidates; legend = n; total = votes_of p.candidates + n }) v
    ∙ ap (λ (n : ℕ). record { number = p.number; candidates = p.candidates; legend = p.legend; total = n }) t)

again_none : (digits : ℕ) (C : ℕ → List Count) (V : ℕ → ℕ) (n a : ℕ) → Tells digits C V a []
    → filter some_votes (map (made C V) (range_with_len a n)) ≡ []
again_none digits C V zero a h = refl
again_none digits C V (suc n) a h =
    let here = h a (omega arith) in
    rw (dropped C V a here.0 here.1) (again_none digits C V n (a + 1) (λ k l. h k (omega arith)))

-- the parties with votes that are made are these parties
pub again : (digits : ℕ) (C : ℕ → List Count) (V : ℕ → ℕ) (n a : ℕ) (ps : List SaidParty) → Tells digits C V a ps → Parties digits ps
    → Right ps → Rising ps → InRange a n ps
    → filter some_votes (map (made C V) (range_with_len a n)) ≡ ps
again digits C V n a [] h parties right rising range = again_none digits C V n a h
again digits C V zero a (p ∷ ps) h parties right rising range = absurd (let x = range.0.0 in let y = range.0.1 in omega arith)
again digits C V (suc n) a (p ∷ ps) h parties right rising range =
    elim (cases_Bool (p.number == a)) [
      | inl e ↦
          let same : p.number ≡ a = eqb-true p.number a e in
          let here = h p.number (omega arith) in
          let own : C p.number ≡ p.candidates = here.0
          ∙ (filter-append (λ c. first_two digits c.number == p.number) p.candidates (all_candidates ps)
          ∙ (ap (λ (l : List Count). l ++ candidates_of_party digits p.number (all_candidates ps))
          (own_candidates digits p.number [] p.candidates parties.0.candidates)
          ∙ (ap (λ (l : List Count). p.candidates ++ l) (none_later digits p.number ps parties.1 rising.0) ∙ append-nil p.candidates))) in
          let legend : V p.number ≡ p.legend = here.1 ∙ own_legend p ps rising.0 in
          let is : made C V p.number ≡ p = made_is C V p own legend right.0 in
          let kept : some_votes (made C V a) ≡ true = ap (λ (k : ℕ). some_votes (made C V k)) (sym same)
          ∙ (ap (λ (q : SaidParty). some_votes q) is ∙ kept_total p.total parties.0.total) in
          let above : AllAbove a ps = let P : ℕ → Type 0 = λ k. AllAbove k ps in subst P same rising.0 in
          let rest = again digits C V n (a + 1) ps
          (λ k l. let t = h k (omega arith) in
          (t.0 ∙ skip_candidates digits k p ps parties.0 (omega arith), t.1 ∙ skip_legend k p ps (omega arith)))
          parties.1 right.1 rising.1 (range_up a n ps above range.1) in
          rw kept (ap (λ (l : List SaidParty). made C V a ∷ l) rest
          ∙ ap (λ (q : SaidParty). q ∷ ps) (ap (λ (k : ℕ). made C V k) (sym same) ∙ is))
      | inr e ↦
          let over : a < p.number = strictly p.number a e range.0.0 in
          let all : AllAbove a (p ∷ ps) = (over, above_from a ps p over rising.0) in
          let here = h a (omega arith) in
          let none = dropped C V a (here.0 ∙ none_later digits a (p ∷ ps) parties all) (here.1 ∙ no_legend a (p ∷ ps) all) in
          rw none (again digits C V n (a + 1) (p ∷ ps) (λ k l. h k (omega arith)) parties right rising (range_up a n (p ∷ ps) all range))
    ]

-- The fields of a file are joined line by line.
use Rattle.std.proofs.Common.{◌≡◌, ℕ, ◌+◌, ◌<◌, Bool, true, false, List, [], ◌∷◌, ◌++◌, length, Option, Some, None, refl, sym, ap, ◌∙◌, ◌⊎◌, inl, inr, subst, arith, lit<, append_assoc}
use Rattle.std.specs.Prelude.{nat_lt, ◌==◌, Result, Ok, Err}
use Rattle.std.specs.List.{AllByRecursion, flat_map}
use Rattle.std.proofs.lemmas.Bool.Decides.{nat_tests}
use Rattle.std.proofs.lemmas.List.{append-nil}
use Rattle.std.proofs.lemmas.Bool.{ltb-true}
use Rattle.urna_base.proofs.Cases.{option_cases, result_cases}
use Rattle.urna_base.specs.Words.{joined}
use Rattle.hash_chain.proofs.Faults.{parts_read}
use Rattle.hash_chain.proofs.FileLaws.{read_step}
use Rattle.hash_chain.proofs.PieceLaws.{some_piece}
use Rattle.hash_chain.proofs.Places.{is_fault}
use Rattle.hash_chain.proofs.Reading.{lines_read, read_from, text_of_lines}
use Rattle.hash_chain.proofs.Remaking.{Chain, read_back, read_bad, read_later, read_none}
use Rattle.hash_chain.specs.Chain.{Link}
use Rattle.hash_chain.specs.Fault.{ArePartsOf, IsPartFault, failing_link, fault_of_link}
use Rattle.hash_chain.specs.Lines.{feeds_in, is_field, link_in, rows}
use Rattle.hash_chain.specs.Reading.{MatchRead, with_part}
use Rattle.hash_chain.specs.declared.fault.PartError.{PartError}
use Rattle.hash_chain.specs.declared.fault.PartError.TheVariants.{Memory, Fault}
use Rattle.hash_chain.specs.declared.fault.PartFault.{PartFault}
use Rattle.hash_chain.specs.declared.fault.PartFault.TheVariants as fault

-- a text with the fields of some lines behind it
abbrev pub with_lines : List ℕ → List Link → List ℕ
with_lines text [] = text
with_lines text (l ∷ ls) = with_lines (with_part text (joined l.fields)) ls

-- the text with the fields of the lines that are read from here on, or the first fault
abbrev with_read : List ℕ → Result (List Link) PartFault → Result (List ℕ) PartFault
with_read text (Ok ls) = Ok (with_lines text ls)
with_read text (Err f) = Err f

unfoldable pub text_from : ℕ → ℕ → Option Link → List ℕ → List (List ℕ) → Result (List ℕ) PartFault
text_from feeds k before text rs = with_read text (read_from feeds k before rs)

-- the text of a whole file
unfoldable pub text_read : List ℕ → Result (List ℕ) PartFault
text_read bytes = text_from (feeds_in bytes) 1 None [] (rows bytes)

-- ---- one line

pub line_taken : (feeds k : ℕ) (before : Option Link) (text row : List ℕ) (rs : List (List ℕ)) (l : Link) → 0 < length rs → link_in row ≡ Some l → fault_of_link feeds k before (link_in row) ≡ None
    → text_from feeds k before text (row ∷ rs) ≡ text_from feeds (k + 1) (Some l) (with_part text (joined l.fields)) rs
unfolding text_from
line_taken feeds k before text row [] l some e fine = absurd (omega arith)
line_taken feeds k before text row (next ∷ rs) l some e fine =
    let none : failing_link feeds k before l ≡ None = ap (λ (o : Option Link). fault_of_link feeds k before o) (sym e) ∙ fine in
    elim (result_cases (read_from feeds (k + 1) (Some l) (next ∷ rs))) [
      | inl ok ↦
          ap (λ (r : Result (List Link) PartFault). with_read text r) (read_step feeds k before row next rs l ok.0 e none ok.1)
          ∙ ap (λ (r : Result (List Link) PartFault). with_read (with_part text (joined l.fields)) r) (sym ok.1)
      | inr bad ↦
          ap (λ (r : Result (List Link) PartFault). with_read text r) (read_later feeds k before row next rs l bad.0 e none bad.1)
          ∙ ap (λ (r : Result (List Link) PartFault). with_read (with_part text (joined l.fields)) r) (sym bad.1)
    ]

pub line_fails : (feeds k : ℕ) (before : Option Link) (text row : List ℕ) (rs : List (List ℕ)) (f : PartFault) → 0 < length rs → fault_of_link feeds k before (link_in row) ≡ Some f
    → text_from feeds k before text (row ∷ rs) ≡ Err f
unfolding text_from
line_fails feeds k before text row [] f some e = absurd (omega arith)
line_fails feeds k before text row (next ∷ rs) f some e = elim (option_cases (link_in row)) [
  | inl none ↦
      let same : Some (fault.Form k) ≡ Some f = ap (λ (o : Option Link). fault_of_link feeds k before o) (sym none) ∙ e in
      let one : fault.Form k ≡ f = cc in
      ap (λ (r : Result (List Link) PartFault). with_read text r) (read_none feeds k before row next rs none) ∙ ap (λ (x : PartFault). Err x) one
  | inr l ↦
      let bad : failing_link feeds k before l.0 ≡ Some f = ap (λ (o : Option Link). fault_of_link feeds k before o) (sym l.1) ∙ e in
      ap (λ (r : Result (List Link) PartFault). with_read text r) (read_bad feeds k before row next rs l.0 f l.1 bad)
]

-- ---- the end of the file

pub file_ends : (feeds k : ℕ) (before : Option Link) (text : List ℕ) → 1 < k → text_from feeds k before text ([] ∷ []) ≡ Ok text
unfolding text_from read_from
file_ends feeds k before text later = let test : nat_lt 1 k ≡ true = grind (arith, nat_tests) in rw test refl

pub file_broken : (feeds k : ℕ) (before : Option Link) (text last : List ℕ) → ((last ≡ []) → 1 < k → ⊥) → text_from feeds k before text (last ∷ []) ≡ Err (fault.Form k)
unfolding text_from read_from
file_broken feeds k before text [] h = let test : nat_lt 1 k ≡ false = elim (lt_cases k) [ inl l ↦ absurd (h refl l) | inr e ↦ e ] in rw test refl
  where
    lt_cases : (k : ℕ) → (1 < k) ⊎ (nat_lt 1 k ≡ false)
    lt_cases k = by_test (nat_lt 1 k) refl
      where
        by_test : (b : Bool) → nat_lt 1 k ≡ b → (1 < k) ⊎ (nat_lt 1 k ≡ false)
        by_test true e = inl (grind (arith, nat_tests))
        by_test false e = inr e
file_broken feeds k before text (x ∷ last) h = let test : (length (x ∷ last) == 0) ≡ false = grind (arith, nat_tests) in rw test refl

-- ---- what the text is

joined_append : (f : List ℕ) (a : List (List ℕ)) (g : List ℕ) (b : List (List ℕ)) → joined (f ∷ a) ++ 32 ∷ joined (g ∷ b) ≡ joined ((f ∷ a) ++ g ∷ b)
joined_append f [] g b = refl
joined_append f (h ∷ a) g b = append_assoc f (32 ∷ joined (h ∷ a)) (32 ∷ joined (g ∷ b)) ∙ ap (λ (t : List ℕ). f ++ 32 ∷ t) (joined_append h a g b)

some_byte : (f : List ℕ) → is_field f ≡ true → 0 < length f
some_byte [] h = absurd (cc)
some_byte (c ∷ f) h = omega arith

with_more : (c : ℕ) (f : List ℕ) (fs : List (List ℕ)) (gs : List (List ℕ)) → 0 < length gs → with_part (joined ((c ∷ f) ∷ fs)) (joined gs) ≡ joined (((c ∷ f) ∷ fs) ++ gs)
with_more c f fs [] some = absurd (omega arith)
with_more c f [] (g ∷ gs) some = joined_append (c ∷ f) [] g gs
with_more c f (h ∷ fs) (g ∷ gs) some = joined_append (c ∷ f) (h ∷ fs) g gs

with_all : (n i : ℕ) (before : Option Link) (c : ℕ) (f : List ℕ) (fs : List (List ℕ)) (ls : List Link) → Chain n i before ls
    → with_lines (joined ((c ∷ f) ∷ fs)) ls ≡ joined (((c ∷ f) ∷ fs) ++ flat_map (λ l. l.fields) ls)
with_all n i before c f fs [] h = ap (λ (l : List (List ℕ)). joined l) (sym (append-nil ((c ∷ f) ∷ fs)))
with_all n i before c f fs (l ∷ ls) h =
    let some = ltb-true 0 (length l.fields) h.0.some in
    ap (λ (t : List ℕ). with_lines t ls) (with_more c f fs l.fields some)
    ∙ (with_all n (i + 1) (Some l) c f (fs ++ l.fields) ls h.2
    ∙ ap (λ (x : List (List ℕ)). joined x) (append_assoc ((c ∷ f) ∷ fs) l.fields (flat_map (λ m. m.fields) ls)))

all_joined : (n i : ℕ) (before : Option Link) (ls : List Link) → Chain n i before ls → with_lines [] ls ≡ text_of_lines ls
all_joined n i before [] h = refl
all_joined n i before (l ∷ ls) h = by_fields l.fields refl
  where
    by_fields : (fs : List (List ℕ)) → l.fields ≡ fs → with_lines [] (l ∷ ls) ≡ text_of_lines (l ∷ ls)
    by_fields [] e = let some = h.0.some in let none = ap (λ (x : List (List ℕ)). nat_lt 0 (length x)) e in absurd (cc)
    by_fields ([] ∷ fs) e =
        let P : List (List ℕ) → Type 0 = λ x. AllByRecursion (λ f. is_field f ≡ true) x in
        let fine = (subst P e h.0.fields).0 in
        let some = some_byte [] fine in absurd (omega arith)
    by_fields ((c ∷ f) ∷ fs) e =
        ap (λ (x : List (List ℕ)). with_lines (joined x) ls) e
        ∙ (with_all n (i + 1) (Some l) c f fs ls h.2
        ∙ ap (λ (x : List (List ℕ)). joined (x ++ flat_map (λ m. m.fields) ls)) (sym e))

-- the text that was read is the one of which the file is the parts
pub text_is : (bytes text : List ℕ) → text_read bytes ≡ Ok text → ArePartsOf bytes text
unfolding text_read text_from lines_read
text_is bytes text e = elim (result_cases (lines_read bytes)) [
  | inl ok ↦
      let back = read_back (feeds_in bytes) 1 None (rows bytes) ok.0 (some_piece (λ b. b == 10) bytes) (lit< tt) ok.1 in
      let whole : Ok (with_lines [] ok.0) ≡ Ok text = ap (λ (r : Result (List Link) PartFault). with_read [] r) (sym ok.1) ∙ e in
      let same : with_lines [] ok.0 ≡ text = cc in
      let P : List ℕ → Type 0 = λ t. ArePartsOf bytes t in
      subst P (sym (all_joined (feeds_in bytes) 1 None ok.0 back.chain) ∙ same) (parts_read bytes ok.0 ok.1)
  | inr bad ↦
      let wrong : Err bad.0 ≡ Ok text = ap (λ (r : Result (List Link) PartFault). with_read [] r) (sym bad.1) ∙ e in absurd (cc)
]

-- the fault that was met is that of the file
pub fault_is : (bytes : List ℕ) (f : PartFault) → text_read bytes ≡ Err f → IsPartFault bytes f
unfolding text_read text_from lines_read
fault_is bytes f e = elim (result_cases (lines_read bytes)) [
  | inl ok ↦ let wrong : Ok (with_lines [] ok.0) ≡ Err f = ap (λ (r : Result (List Link) PartFault). with_read [] r) (sym ok.1) ∙ e in absurd (cc)
  | inr bad ↦
      let whole : Err bad.0 ≡ Err f = ap (λ (r : Result (List Link) PartFault). with_read [] r) (sym bad.1) ∙ e in
      let same : bad.0 ≡ f = cc in
      is_fault bytes f (bad.1 ∙ ap (λ (x : PartFault). Err x) same)
]

-- ---- the loop of the reader

pub text_begins : (feeds : ℕ) (bytes text : List ℕ) → feeds ≡ feeds_in bytes → text ≡ [] → text_read bytes ≡ text_from feeds 1 None text (rows bytes)
unfolding text_read
text_begins feeds bytes text f t = ap (λ (n : ℕ). text_from n 1 None [] (rows bytes)) (sym f) ∙ ap (λ (x : List ℕ). text_from feeds 1 None x (rows bytes)) (sym t)

-- a fault of what is read below is one above
pub fault_above : {A B : Type 0} (P : A → Type 0) (R : B → Type 0) (Q S : PartFault → Type 0) (e : PartError) → MatchRead (Err e) P Q → ((f : PartFault) → Q f → S f) → MatchRead (Err e) R S
fault_above P R Q S Memory h more = tt
fault_above P R Q S (Fault f) h more = more f h

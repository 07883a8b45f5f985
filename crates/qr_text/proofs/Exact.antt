-- A text is read with a fault exactly where it has that fault, and else as what it says; given that the steps follow every
-- well-formed text (`Complete`) and that what was read so far can always go on to one (`Completes`).
use Rattle.std.proofs.Common.{◌≡◌, ℕ, zero, suc, ◌+◌, true, false, List, [], ◌∷◌, ◌++◌, length, take, drop, Some, None, refl, sym, ap, ◌∙◌, subst, ◌⊎◌, inl, inr, arith, add-one, append_assoc}
use Rattle.std.specs.Prelude.{Ok, Err, slice_get}
use Rattle.std.specs.Bool.{⊤}
use Rattle.std.specs.List.{AllByRecursion}
use Rattle.std.specs.Option.{option_map_or}
use Rattle.std.proofs.lemmas.Bool.{cases_Bool}
use Rattle.std.proofs.lemmas.List.{append-nil}
use Rattle.urna_base.specs.Words.{pieces}
use Rattle.urna_base.proofs.Cases.{option_cases}
use Rattle.qr_text.specs.Fault.{failing, fault_at, ended, Begins, IsFieldFault, strange, failed}
use Rattle.qr_text.specs.Reading.{State, step, start, may_end, reading, said_by}
use Rattle.qr_text.specs.Said.{ReportField, Test, IsSaid, fields, texts}
use Rattle.qr_text.specs.declared.fault.FieldFault.TheVariants as fault
use Rattle.qr_text.specs.declared.fault.FieldFault.{FieldFault}
use Rattle.qr_text.specs.declared.said.Said.{Said}

-- ---- traces

-- these fields lead from a state to another, each with its tests
abbrev pub Traces : State → List ReportField → State → Type 0
Traces st [] e = st ≡ e
Traces st (f ∷ fs) e = (n : State) × (step st f.text ≡ Some (n, f.tests)) × Traces n fs e

-- the steps follow every well-formed text
abbrev pub Complete : Type 0
Complete = (s : Said) → IsSaid s → (e : State) × (may_end e.mode ≡ true) × (e.said ≡ s) × Traces start (fields s) e

-- what was read can go on to a well-formed text, and is one where it may end
abbrev pub Completes : Type 0
Completes = (fs : List ReportField) (e : State) → Traces start fs e
    → (s : Said) × IsSaid s × (rest : List ReportField) × (fields s ≡ fs ++ rest) × (may_end e.mode ≡ true → (rest ≡ []) × (e.said ≡ s))

-- and one field more
traces_snoc : (st : State) (fs : List ReportField) (e : State) (f : ReportField) (n : State) → Traces st fs e → step e f.text ≡ Some (n, f.tests)
    → Traces st (fs ++ f ∷ []) n
traces_snoc st [] e f n t h = (n, ap (λ (x : State). step x f.text) t ∙ h, refl)
traces_snoc st (g ∷ fs) e f n t h = (t.0, t.1, traces_snoc t.0 fs e f n t.2 h)

-- ---- steps of the reading

step_none : (k : ℕ) (st : State) (p : List ℕ) (ps : List (List ℕ)) → step st p ≡ None → reading k st (p ∷ ps) ≡ Err (fault.Field k)
unfolding reading
step_none k st p ps h = rw (h, reading) refl

step_fails : (k : ℕ) (st : State) (p : List ℕ) (ps : List (List ℕ)) (n : State) (ts : List Test) (t : Test) → step st p ≡ Some (n, ts)
    → failing ts ≡ Some t
    → reading k st (p ∷ ps) ≡ Err (fault_at k t)
unfolding reading
step_fails k st p ps n ts t h g = rw (h, g, reading) refl

step_goes : (k : ℕ) (st : State) (p : List ℕ) (ps : List (List ℕ)) (n : State) (ts : List Test) → step st p ≡ Some (n, ts)
    → failing ts ≡ None
    → reading k st (p ∷ ps) ≡ reading (k + 1) n ps
unfolding reading
step_goes k st p ps n ts h g = rw (h, g, reading) refl

end_ok : (k : ℕ) (st : State) → may_end st.mode ≡ true → reading k st [] ≡ Ok st.said
unfolding reading
end_ok k st h = rw h refl

pub end_bad : (k : ℕ) (st : State) → may_end st.mode ≡ false → reading k st [] ≡ Err (fault.Field k)
unfolding reading
end_bad k st h = rw h refl

-- ---- the first k fields are the same

-- the first k pieces are the texts of these fields, the end of both counted as one
abbrev pub Same : ℕ → List (List ℕ) → List ReportField → Type 0
Same zero ps fs = ⊤
Same (suc k) [] [] = ⊤
Same (suc k) [] (f ∷ fs) = ⊥
Same (suc k) (p ∷ ps) [] = ⊥
Same (suc k) (p ∷ ps) (f ∷ fs) = (p ≡ f.text) × Same k ps fs

same_of : (k : ℕ) (ps : List (List ℕ)) (fs : List ReportField) → take k (ended ps) ≡ take k (ended (texts fs)) → Same k ps fs
same_of zero ps fs e = tt
same_of (suc k) [] [] e = tt
same_of (suc k) [] (f ∷ fs) e = cc
same_of (suc k) (p ∷ ps) [] e = cc
same_of (suc k) (p ∷ ps) (f ∷ fs) e = let tails : take k (ended ps) ≡ take k (ended (texts fs)) = cc in (cc, same_of k ps fs tails)

of_same : (k : ℕ) (ps : List (List ℕ)) (fs : List ReportField) → Same k ps fs → take k (ended ps) ≡ take k (ended (texts fs))
of_same zero ps fs e = refl
of_same (suc k) [] [] e = refl
of_same (suc k) [] (f ∷ fs) e = absurd e
of_same (suc k) (p ∷ ps) [] e = absurd e
of_same (suc k) (p ∷ ps) (f ∷ fs) e = let heads = e.0 in let tails = of_same k ps fs e.1 in cc

same_less : (k : ℕ) (ps : List (List ℕ)) (fs : List ReportField) → Same (suc k) ps fs → Same k ps fs
same_less zero ps fs e = tt
same_less (suc k) [] [] e = tt
same_less (suc k) [] (f ∷ fs) e = e
same_less (suc k) (p ∷ ps) [] e = e
same_less (suc k) (p ∷ ps) (f ∷ fs) e = (e.0, same_less k ps fs e.1)

-- the same k fields, and then the text ends
same_ends : (k : ℕ) (ps : List (List ℕ)) (fs : List ReportField) → Same k ps fs → drop k ps ≡ [] → Same (suc k) ps (take k fs)
same_ends zero [] fs e h = tt
same_ends zero (p ∷ ps) fs e h = cc
same_ends (suc k) [] [] e h = tt
same_ends (suc k) [] (f ∷ fs) e h = absurd e
same_ends (suc k) (p ∷ ps) [] e h = absurd e
same_ends (suc k) (p ∷ ps) (f ∷ fs) e h = (e.0, same_ends k ps fs e.1 h)

-- the same k fields, and then another
same_more : (k : ℕ) (ps : List (List ℕ)) (fs : List ReportField) (p : List ℕ) (qs : List (List ℕ)) (f : ReportField) (more : List ReportField)
    → Same k ps fs → drop k ps ≡ p ∷ qs → p ≡ f.text → Same (suc k) ps (take k fs ++ f ∷ more)
same_more zero [] fs p qs f more e h g = cc
same_more zero (q ∷ ps) fs p qs f more e h g = (cc, tt)
same_more (suc k) [] [] p qs f more e h g = cc
same_more (suc k) [] (x ∷ fs) p qs f more e h g = absurd e
same_more (suc k) (q ∷ ps) [] p qs f more e h g = absurd e
same_more (suc k) (q ∷ ps) (x ∷ fs) p qs f more e h g = (e.0, same_more k ps fs p qs f more e.1 h g)

-- ---- the reading follows a well-formed text as far as it is the same

-- where the reading stands behind k fields
record Reached (j k : ℕ) (st : State) (ps : List (List ℕ)) (fs : List ReportField) (e : State) : Type 0 where
  at : State
  front : Traces st (take k fs) at
  rest : Traces at (drop k fs) e
  read : reading j st ps ≡ reading (j + k) at (drop k ps)

follow : (k j : ℕ) (st : State) (ps : List (List ℕ)) (fs : List ReportField) (e : State) → may_end e.mode ≡ true → Traces st fs e → Same k ps fs
    → AllByRecursion (λ f. failing f.tests ≡ None) (take k fs) → Reached j k st ps fs e
follow zero j st ps fs e m t s a = record { at = st; front = refl; rest = t; read = ap (λ (n : ℕ). reading n st ps) (omega arith) }
follow (suc k) j st [] [] e m t s a =
    record { at = e; front = t; rest = refl; read = ap (λ (x : State). reading j x []) t ∙ (end_ok j e m ∙ sym (end_ok (j + suc k) e m)) }
follow (suc k) j st [] (f ∷ fs) e m t s a = absurd s
follow (suc k) j st (p ∷ ps) [] e m t s a = absurd s
follow (suc k) j st (p ∷ ps) (f ∷ fs) e m t s a =
    let r = follow k (j + 1) t.0 ps fs e m t.2 s.1 a.1 in
    let step_here : step st p ≡ Some (t.0, f.tests) = ap (λ (x : List ℕ). step st x) s.0 ∙ t.1 in
    let places : j + 1 + k ≡ j + suc k = omega arith in
    record {
      at = r.at;
      front = (t.0, t.1, r.front);
      rest = r.rest;
      read = step_goes j st p ps t.0 f.tests step_here a.0 ∙ (r.read ∙ ap (λ (n : ℕ). reading n r.at (drop k ps)) places);
    }

-- ---- a fault is read

list_cases : {A : Type 0} (xs : List A) → (xs ≡ []) ⊎ ((x : A) × (ys : List A) × (xs ≡ x ∷ ys))
list_cases [] = inl refl
list_cases (x ∷ xs) = inr (x, xs, refl)

same_at : (k : ℕ) (ps : List (List ℕ)) (fs : List ReportField) → Same k ps fs → Same k ps (fs ++ [])
same_at k ps fs s = let e : fs ≡ fs ++ [] = sym (append-nil fs) in let P : List ReportField → Type 0 = λ x. Same k ps x in subst P e s

-- nothing well-formed begins as the text does up to one field more: so the reading stops there
stops : Completes → (k : ℕ) (bytes : List ℕ) (fs : List ReportField) (e : State)
    → ((q : Said) → IsSaid q → Begins (k + 1) bytes (fields q) → ⊥)
    → Same k (pieces bytes) fs → Reached 1 k start (pieces bytes) fs e → reading 1 start (pieces bytes) ≡ Err (fault.Field (k + 1))
stops h2 k bytes fs e none_such s r =
    let number : 1 + k ≡ k + 1 = omega arith in
    r.read ∙ (elim (list_cases (drop k (pieces bytes))) [
      | inl ended_here ↦ ap (λ (x : List (List ℕ)). reading (1 + k) r.at x) ended_here ∙ (elim (cases_Bool (may_end r.at.mode)) [
        | inl may ↦
            let q = h2 (take k fs) r.at r.front in
            let whole = q.4 may in
            let all : fields q.0 ≡ take k fs ++ [] = q.3 ∙ ap (λ (x : List ReportField). take k fs ++ x) whole.0 in
            let same : Same (k + 1) (pieces bytes) (fields q.0) =
            rw (add-one, all) (same_at (suc k) (pieces bytes) (take k fs) (same_ends k (pieces bytes) fs s ended_here)) in
            absurd (none_such q.0 q.1 (of_same (k + 1) (pieces bytes) (fields q.0) same))
        | inr may_not ↦ end_bad (1 + k) r.at may_not ∙ ap (λ (n : ℕ). Err (fault.Field n)) number
      ])
      | inr more ↦ ap (λ (x : List (List ℕ)). reading (1 + k) r.at x) more.2 ∙ (elim (option_cases (step r.at more.0)) [
        | inl none ↦ step_none (1 + k) r.at more.0 more.1 none ∙ ap (λ (n : ℕ). Err (fault.Field n)) number
        | inr some ↦
            let f : ReportField = record { text = more.0; tests = some.0.1 } in
            let q = h2 (take k fs ++ f ∷ []) some.0.0 (traces_snoc start (take k fs) r.at f some.0.0 r.front some.1) in
            let all : fields q.0 ≡ take k fs ++ f ∷ q.2 = q.3 ∙ append_assoc (take k fs) (f ∷ []) q.2 in
            let same : Same (k + 1) (pieces bytes) (fields q.0) =
            rw (add-one, all) (same_more k (pieces bytes) fs more.0 more.1 f q.2 s more.2 refl) in
            absurd (none_such q.0 q.1 (of_same (k + 1) (pieces bytes) (fields q.0) same))
      ])
    ])

-- where the text has the fields of what is said at one field more, and a test fails there
at_place : (k : ℕ) (ps : List (List ℕ)) (fs : List ReportField) (t : Test) → Same (suc k) ps fs
    → failing (option_map_or (λ f. f.tests) (slice_get fs k) []) ≡ Some t
    → (f : ReportField) × (more : List ReportField) × (qs : List (List ℕ)) × (drop k fs ≡ f ∷ more) × (drop k ps ≡ f.text ∷ qs)
    × (failing f.tests ≡ Some t)
at_place zero [] [] t s h = absurd (cc)
at_place zero [] (f ∷ fs) t s h = absurd s
at_place zero (p ∷ ps) [] t s h = absurd s
at_place zero (p ∷ ps) (f ∷ fs) t s h = (f, fs, ps, refl, ap (λ (x : List ℕ). x ∷ ps) s.0, h)
at_place (suc k) [] [] t s h = absurd (cc)
at_place (suc k) [] (f ∷ fs) t s h = absurd s
at_place (suc k) (p ∷ ps) [] t s h = absurd s
at_place (suc k) (p ∷ ps) (f ∷ fs) t s h = at_place k ps fs t s.1 h

pub fault_read : Complete → Completes → (bytes : List ℕ) (f : FieldFault) → IsFieldFault bytes f → said_by bytes ≡ Err f
unfolding said_by
fault_read h1 h2 _ _ (strange bytes k s is b a none_such) =
    let t = h1 s is in
    let same = same_of k (pieces bytes) (fields s) b in
    stops h2 k bytes (fields s) t.0 none_such same (follow k 1 start (pieces bytes) (fields s) t.0 t.1 t.3 same a)
fault_read h1 h2 _ _ (failed bytes k s is b a t h) =
    let tr = h1 s is in
    let P : ℕ → Type 0 = λ n. Same n (pieces bytes) (fields s) in
    let same : Same (suc k) (pieces bytes) (fields s) = subst P (add-one k) (same_of (k + 1) (pieces bytes) (fields s) b) in
    let r = follow k 1 start (pieces bytes) (fields s) tr.0 tr.1 tr.3 (same_less k (pieces bytes) (fields s) same) a in
    let here = at_place k (pieces bytes) (fields s) t same h in
    let Q : List ReportField → Type 0 = λ x. Traces r.at x tr.0 in
    let next = subst Q here.3 r.rest in
    let number : 1 + k ≡ k + 1 = omega arith in
    r.read ∙ (ap (λ (x : List (List ℕ)). reading (1 + k) r.at x) here.4
    ∙ (step_fails (1 + k) r.at here.0.text here.2 next.0 here.0.tests t next.1 here.5 ∙ ap (λ (n : ℕ). Err (fault_at n t)) number))

-- ---- a text is read to its end, or the reading is stuck, or a test fails

-- nothing may follow, and the text may not end
abbrev pub Stuck : State → List (List ℕ) → Type 0
Stuck e [] = may_end e.mode ≡ false
Stuck e (p ∷ ps) = step e p ≡ None

-- no test fails
abbrev pub Pass : List ReportField → Type 0
Pass fs = AllByRecursion (λ f. failing f.tests ≡ None) fs

-- how a reading from a state ends, of which the first piece is field k: with all pieces, at one that may not stand there, or at a test
pub data Outcome : ℕ → State → List (List ℕ) → Type 0 where
  whole : (k : ℕ) (st : State) (ps : List (List ℕ)) (fs : List ReportField) (e : State) → ps ≡ texts fs → Traces st fs e → Pass fs
      → may_end e.mode ≡ true → reading k st ps ≡ Ok e.said → Outcome k st ps
  stuck : (k : ℕ) (st : State) (ps : List (List ℕ)) (fs : List ReportField) (e : State) (rest : List (List ℕ)) → ps ≡ texts fs ++ rest
      → Traces st fs e → Pass fs
      → Stuck e rest → reading k st ps ≡ Err (fault.Field (k + length fs)) → Outcome k st ps
  unequal : (k : ℕ) (st : State) (ps : List (List ℕ)) (fs : List ReportField) (e : State) (f : ReportField) (n : State) (rest : List (List ℕ))
      (t : Test)
      → ps ≡ texts fs ++ f.text ∷ rest → Traces st fs e → Pass fs → step e f.text ≡ Some (n, f.tests) → failing f.tests ≡ Some t
      → reading k st ps ≡ Err (fault_at (k + length fs) t) → Outcome k st ps

-- one field more before it
longer : (k : ℕ) (st : State) (p : List ℕ) (ps : List (List ℕ)) (n : State) (ts : List Test) → step st p ≡ Some (n, ts) → failing ts ≡ None
    → Outcome (k + 1) n ps → Outcome k st (p ∷ ps)
longer k st p _ n ts h g (whole _ _ ps fs e same tr pass may read) =
    whole k st (p ∷ ps) (record { text = p; tests = ts } ∷ fs) e (ap (λ (x : List (List ℕ)). p ∷ x) same) (n, h, tr) (g, pass) may
    (step_goes k st p ps n ts h g ∙ read)
longer k st p _ n ts h g (stuck _ _ ps fs e rest same tr pass bad read) =
    let number : k + 1 + length fs ≡ k + suc (length fs) = omega arith in
    stuck k st (p ∷ ps) (record { text = p; tests = ts } ∷ fs) e rest (ap (λ (x : List (List ℕ)). p ∷ x) same) (n, h, tr) (g, pass) bad
    (step_goes k st p ps n ts h g ∙ (read ∙ ap (λ (x : ℕ). Err (fault.Field x)) number))
longer k st p _ n ts h g (unequal _ _ ps fs e f m rest t same tr pass goes fail read) =
    let number : k + 1 + length fs ≡ k + suc (length fs) = omega arith in
    unequal k st (p ∷ ps) (record { text = p; tests = ts } ∷ fs) e f m rest t (ap (λ (x : List (List ℕ)). p ∷ x) same) (n, h, tr) (g, pass)
    goes fail
    (step_goes k st p ps n ts h g ∙ (read ∙ ap (λ (x : ℕ). Err (fault_at x t)) number))

walk : (k : ℕ) (st : State) (ps : List (List ℕ)) → Outcome k st ps
walk k st [] = elim (cases_Bool (may_end st.mode)) [
  | inl may ↦ whole k st [] [] st refl refl tt may (end_ok k st may)
  | inr may_not ↦ let number : k ≡ k + 0 = omega arith in
      stuck k st [] [] st [] refl refl tt may_not (end_bad k st may_not ∙ ap (λ (x : ℕ). Err (fault.Field x)) number)
]
walk k st (p ∷ ps) = let number : k ≡ k + 0 = omega arith in
    elim (option_cases (step st p)) [
      | inl none ↦ stuck k st (p ∷ ps) [] st (p ∷ ps) refl refl tt none
          (step_none k st p ps none ∙ ap (λ (x : ℕ). Err (fault.Field x)) number)
      | inr some ↦ elim (option_cases (failing some.0.1)) [
        | inl fine ↦ longer k st p ps some.0.0 some.0.1 some.1 fine (walk (k + 1) some.0.0 ps)
        | inr bad ↦ unequal k st (p ∷ ps) [] st (record { text = p; tests = some.0.1 }) some.0.0 ps bad.0 refl refl tt some.1 bad.1
            (step_fails k st p ps some.0.0 some.0.1 bad.0 some.1 bad.1 ∙ ap (λ (x : ℕ). Err (fault_at x bad.0)) number)
      ]
    ]

-- ---- what is read is a fault of the text, or all that it says

same_texts : (fs : List ReportField) (rest : List (List ℕ)) (more : List ReportField) → Same (length fs) (texts fs ++ rest) (fs ++ more)
same_texts [] rest more = tt
same_texts (f ∷ fs) rest more = (refl, same_texts fs rest more)

same_next : (fs : List ReportField) (f : ReportField) (rest : List (List ℕ)) (more : List ReportField)
    → Same (suc (length fs)) (texts fs ++ f.text ∷ rest) (fs ++ f ∷ more)
same_next [] f rest more = (refl, tt)
same_next (g ∷ fs) f rest more = (refl, same_next fs f rest more)

pass_front : (fs more : List ReportField) → Pass fs → Pass (take (length fs) (fs ++ more))
pass_front [] more a = tt
pass_front (f ∷ fs) more a = (a.0, pass_front fs more a.1)

field_there : (fs : List ReportField) (f : ReportField) (more : List ReportField) → slice_get (fs ++ f ∷ more) (length fs) ≡ Some f
field_there [] f more = refl
field_there (g ∷ fs) f more = field_there fs f more

same_state : (x y : State × List Test) → Some x ≡ Some y → x.0 ≡ y.0
same_state x y h = let e : x ≡ y = cc in ap (λ (z : State × List Test). z.0) e

-- where the reading is stuck, nothing well-formed goes on
no_more : (st : State) (fs gs : List ReportField) (e d : State) (rest : List (List ℕ)) → Traces st fs e → Traces st gs d → may_end d.mode ≡ true
    → Same (suc (length fs)) (texts fs ++ rest) gs → Stuck e rest → ⊥
no_more st [] [] e d [] t u may s bad = let same : e ≡ d = sym t ∙ u in let mode = ap (λ (x : State). may_end x.mode) same in absurd (cc)
no_more st [] [] e d (p ∷ rest) t u may s bad = s
no_more st [] (g ∷ gs) e d [] t u may s bad = s
no_more st [] (g ∷ gs) e d (p ∷ rest) t u may s bad =
    let here : step e p ≡ Some (u.0, g.tests) = ap (λ (x : State). step x p) (sym t) ∙ (ap (λ (x : List ℕ). step st x) s.0 ∙ u.1) in
    absurd (cc)
no_more st (f ∷ fs) [] e d rest t u may s bad = s
no_more st (f ∷ fs) (g ∷ gs) e d rest t u may s bad =
    let states : u.0 ≡ t.0 = sym (same_state (t.0, f.tests) (u.0, g.tests) (sym t.1 ∙ (ap (λ (x : List ℕ). step st x) s.0 ∙ u.1))) in
    let P : State → Type 0 = λ x. Traces x gs d in
    no_more t.0 fs gs e d rest t.2 (subst P states u.2) may s.1 bad

fault_of_outcome : Complete → Completes → (bytes : List ℕ) (f : FieldFault) → Outcome 1 start (pieces bytes)
    → reading 1 start (pieces bytes) ≡ Err f → IsFieldFault bytes f
fault_of_outcome h1 h2 bytes f (whole _ _ _ fs e same tr pass may read) h = let both : Ok e.said ≡ Err f = sym read ∙ h in absurd (cc)
fault_of_outcome h1 h2 bytes f (stuck _ _ _ fs e rest same tr pass bad read) h =
    let q = h2 fs e tr in
    let both : Err (fault.Field (1 + length fs)) ≡ Err f = sym read ∙ h in
    let faults : fault.Field (1 + length fs) ≡ f = cc in
    let number : length fs + 1 ≡ 1 + length fs = omega arith in
    let P : FieldFault → Type 0 = λ x. IsFieldFault bytes x in
    let begins : Same (length fs) (pieces bytes) (fields q.0) = rw (same, q.3) (same_texts fs rest q.2) in
    let passes : Pass (take (length fs) (fields q.0)) = rw q.3 (pass_front fs q.2 pass) in
    let none_such : (s : Said) → IsSaid s → Begins (length fs + 1) bytes (fields s) → ⊥ = λ s is b.
    let other = h1 s is in
    let alike : Same (length fs + 1) (pieces bytes) (fields s) = same_of (length fs + 1) (pieces bytes) (fields s) b in
    let there : Same (suc (length fs)) (texts fs ++ rest) (fields s) = rw (add-one, same) at alike in
    no_more start fs (fields s) e other.0 rest tr other.3 other.1 there bad in
    subst P (ap (λ (n : ℕ). fault.Field n) number ∙ faults)
    (strange bytes (length fs) q.0 q.1 (of_same (length fs) (pieces bytes) (fields q.0) begins) passes none_such)
fault_of_outcome h1 h2 bytes f (unequal _ _ _ fs e g n rest t same tr pass goes fail read) h =
    let q = h2 (fs ++ g ∷ []) n (traces_snoc start fs e g n tr goes) in
    let all : fields q.0 ≡ fs ++ g ∷ q.2 = q.3 ∙ append_assoc fs (g ∷ []) q.2 in
    let both : Err (fault_at (1 + length fs) t) ≡ Err f = sym read ∙ h in
    let faults : fault_at (1 + length fs) t ≡ f = cc in
    let number : length fs + 1 ≡ 1 + length fs = omega arith in
    let P : FieldFault → Type 0 = λ x. IsFieldFault bytes x in
    let begins : Same (length fs + 1) (pieces bytes) (fields q.0) = rw (add-one, same, all) (same_next fs g rest q.2) in
    let passes : Pass (take (length fs) (fields q.0)) = rw all (pass_front fs (g ∷ q.2) pass) in
    let there : failing (option_map_or (λ x. x.tests) (slice_get (fields q.0) (length fs)) []) ≡ Some t =
    rw (all, field_there fs g q.2) fail in
    subst P (ap (λ (k : ℕ). fault_at k t) number ∙ faults)
    (failed bytes (length fs) q.0 q.1 (of_same (length fs + 1) (pieces bytes) (fields q.0) begins) passes t there)

pub read_fault : Complete → Completes → (bytes : List ℕ) (f : FieldFault) → said_by bytes ≡ Err f → IsFieldFault bytes f
unfolding said_by
read_fault h1 h2 bytes f h = fault_of_outcome h1 h2 bytes f (walk 1 start (pieces bytes)) h

said_of_outcome : Completes → (bytes : List ℕ) (s : Said) → Outcome 1 start (pieces bytes) → reading 1 start (pieces bytes) ≡ Ok s
    → IsSaid s × (pieces bytes ≡ texts (fields s)) × Pass (fields s)
said_of_outcome h2 bytes s (whole _ _ _ fs e same tr pass may read) h =
    let q = h2 fs e tr in
    let end = q.4 may in
    let both : Ok e.said ≡ Ok s = sym read ∙ h in
    let said_is : q.0 ≡ s = let here : e.said ≡ s = cc in sym end.1 ∙ here in
    let all : fs ≡ fields q.0 = sym (q.3 ∙ (ap (λ (x : List ReportField). fs ++ x) end.0 ∙ append-nil fs)) in
    let P : Said → Type 0 = λ x. IsSaid x × (pieces bytes ≡ texts (fields x)) × Pass (fields x) in
    let Q : List ReportField → Type 0 = λ x. Pass x in
    subst P said_is (q.1, same ∙ ap (λ (x : List ReportField). texts x) all, subst Q all pass)
said_of_outcome h2 bytes s (stuck _ _ _ fs e rest same tr pass bad read) h = let both : Err (fault.Field (1 + length fs)) ≡ Ok s = sym read
    ∙ h in absurd (cc)
said_of_outcome h2 bytes s (unequal _ _ _ fs e g n rest t same tr pass goes fail read) h =
    let both : Err (fault_at (1 + length fs) t) ≡ Ok s = sym read ∙ h in absurd (cc)

pub read_said : Completes → (bytes : List ℕ) (s : Said) → said_by bytes ≡ Ok s
    → IsSaid s × (pieces bytes ≡ texts (fields s)) × Pass (fields s)
unfolding said_by
read_said h2 bytes s h = said_of_outcome h2 bytes s (walk 1 start (pieces bytes)) h

traced : (k : ℕ) (st : State) (fs : List ReportField) (e : State) → Traces st fs e → Pass fs → may_end e.mode ≡ true
    → reading k st (texts fs) ≡ Ok e.said
traced k st [] e t a may = ap (λ (x : State). reading k x []) t ∙ end_ok k e may
traced k st (f ∷ fs) e t a may = step_goes k st f.text (texts fs) t.0 f.tests t.1 a.0 ∙ traced (k + 1) t.0 fs e t.2 a.1 may

pub said_read : Complete → (bytes : List ℕ) (s : Said) → IsSaid s → pieces bytes ≡ texts (fields s) → Pass (fields s) → said_by bytes ≡ Ok s
unfolding said_by
said_read h1 bytes s is same pass =
    let t = h1 s is in
    ap (λ (x : List (List ℕ)). reading 1 start x) same ∙ (traced 1 start (fields s) t.0 t.3 pass t.1 ∙ ap (λ (x : Said). Ok x) t.2)

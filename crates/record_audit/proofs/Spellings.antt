-- Each text has a fault or spells one record, and the reading tells which.
use Rattle.std.proofs.Common.{◌≡◌, ℕ, zero, suc, ◌+◌, ◌<◌, ◌≤◌, true, List, [], ◌∷◌, ◌++◌, length, take, Some, None, refl, sym, ap, ◌∙◌, subst, ◌⊎◌, inl, inr, arith}
use Rattle.std.specs.Prelude.{Ok, Err, ◌==◌}
use Rattle.std.specs.List.{concat}
use Rattle.std.proofs.lemmas.Bool.{cases_lt}
use Rattle.std.proofs.lemmas.Bool.Decides.{nat_tests}
use Rattle.urna_base.proofs.Cases.{and_then_some, guard_some, option_cases, result_cases}
use Rattle.urna_base.specs.Words.{cut_at}
use Rattle.urna_base.proofs.CutLaws.{cut_more}
use Rattle.vote_record.specs.RecordText.{line_end}
use Rattle.record_audit.specs.Fault.{IsLineFault, rows_of}
use Rattle.record_audit.specs.Laws.{NeverBoth, OneAnswer, OneFault}
use Rattle.record_audit.specs.Reading.{line_in, reading, whole_text, with_line}
use Rattle.record_audit.specs.Spelling.{Spells, spelled_lines}
use Rattle.record_audit.specs.declared.stage.Stage.{Stage}
use Rattle.record_audit.specs.declared.stage.Stage.TheVariants.{Start, Begun, Offices, Votes, Ended}
use Rattle.record_audit.specs.declared.text.RecordText.{RecordText}
use Rattle.record_audit.proofs.Cutting.{joined_rows, line_read, rows_cut}
use Rattle.record_audit.proofs.Exact.{Steps, stage_goes_on, step, steps_lead}
use Rattle.record_audit.proofs.Following.{complete}

-- ---- the reading, step by step

pub row_goes : (k : ℕ) (st : Stage) (row : List ℕ) (rows : List (List ℕ)) (n : Stage) → step st row ≡ Some n → reading k st (row ∷ rows) ≡ reading (k + 1) n rows
unfolding reading
row_goes k st row rows n h = rw (h, reading) refl

pub row_fails : (k : ℕ) (st : Stage) (row : List ℕ) (rows : List (List ℕ)) → step st row ≡ None → reading k st (row ∷ rows) ≡ Err k
unfolding reading
row_fails k st row rows h = rw (h, reading) refl

pub ends : (k : ℕ) (st : Stage) (text : RecordText) → whole_text st ≡ Some text → reading k st [] ≡ Ok text
unfolding reading
ends k st text h = rw (h, reading) refl

pub ends_early : (k : ℕ) (st : Stage) → whole_text st ≡ None → reading k st [] ≡ Err k
unfolding reading
ends_early k st h = rw (h, reading) refl

-- ---- the reading, line by line as a text is cut

step_by : (st : Stage) (line row : List ℕ) → line_in row ≡ Some line → step st row ≡ with_line st line
step_by st line row h = rw h refl

pub line_taken : (k : ℕ) (st n : Stage) (line : List ℕ) (text behind : List ℕ) → rows_of text ≡ (line ++ line_end) ∷ rows_of behind
    → line_in (line ++ line_end) ≡ Some line → with_line st line ≡ Some n → reading k st (rows_of text) ≡ reading (k + 1) n (rows_of behind)
line_taken k st n line text behind rows ended next =
    ap (λ (l : List (List ℕ)). reading k st l) rows
    ∙ row_goes k st (line ++ line_end) (rows_of behind) n (step_by st line (line ++ line_end) ended ∙ next)

pub line_refused : (k : ℕ) (st : Stage) (line : List ℕ) (text behind : List ℕ) → rows_of text ≡ (line ++ line_end) ∷ rows_of behind
    → line_in (line ++ line_end) ≡ Some line → with_line st line ≡ None → reading k st (rows_of text) ≡ Err k
line_refused k st line text behind rows ended none =
    ap (λ (l : List (List ℕ)). reading k st l) rows
    ∙ row_fails k st (line ++ line_end) (rows_of behind) (step_by st line (line ++ line_end) ended ∙ none)

no_step : (st : Stage) (row : List ℕ) → line_in row ≡ None → step st row ≡ None
no_step st row h = rw h refl

-- a text with no line feed that isn't empty
pub line_broken : (k : ℕ) (st : Stage) (text : List ℕ) → ((text ≡ []) ⊎ ((rows_of text ≡ text ∷ []) × (line_in text ≡ None))) → (text ≡ [] → ⊥)
    → reading k st (rows_of text) ≡ Err k
line_broken k st text (inl none) some = absurd (some none)
line_broken k st text (inr one) some = ap (λ (l : List (List ℕ)). reading k st l) one.0 ∙ row_fails k st text [] (no_step st text one.1)

no_rows : (text : List ℕ) → text ≡ [] → rows_of text ≡ []
unfolding rows_of
no_rows text h = ap rows_of h

pub text_ends : (k : ℕ) (st : Stage) (text : List ℕ) (r : RecordText) → text ≡ [] → whole_text st ≡ Some r → reading k st (rows_of text) ≡ Ok r
text_ends k st text r none whole = ap (λ (l : List (List ℕ)). reading k st l) (no_rows text none) ∙ ends k st r whole

pub text_ends_early : (k : ℕ) (st : Stage) (text : List ℕ) → text ≡ [] → whole_text st ≡ None → reading k st (rows_of text) ≡ Err k
text_ends_early k st text none early = ap (λ (l : List (List ℕ)). reading k st l) (no_rows text none) ∙ ends_early k st early

-- ---- steps and the reading

-- steps to the end of a record are its reading
steps_read : (k : ℕ) (st : Stage) (rows : List (List ℕ)) (r : RecordText) → Steps st rows (Ended r) → reading k st rows ≡ Ok r
steps_read k st [] r h = ends k st r (ap whole_text h)
steps_read k st (row ∷ rows) r h = row_goes k st row rows h.0 h.1 ∙ steps_read (k + 1) h.0 rows r h.2

-- and a reading that ends well has gone these steps
pub record Went (st : Stage) (rows : List (List ℕ)) (r : RecordText) : Type 0 where
  pub end : Stage
  pub steps : Steps st rows end
  pub text : whole_text end ≡ Some r

read_steps : (k : ℕ) (st : Stage) (rows : List (List ℕ)) (r : RecordText) → reading k st rows ≡ Ok r → Went st rows r
read_steps k st [] r h = elim (option_cases (whole_text st)) [
  | inl none ↦ let no : Err k ≡ Ok r = sym (ends_early k st none) ∙ h in absurd (cc)
  | inr some ↦
      let same : Ok some.0 ≡ Ok r = sym (ends k st some.0 some.1) ∙ h in
      let one : some.0 ≡ r = cc in
      record { end = st; steps = refl; text = some.1 ∙ ap (λ (q : RecordText). Some q) one }
]
read_steps k st (row ∷ rows) r h = elim (option_cases (step st row)) [
  | inl none ↦ let no : Err k ≡ Ok r = sym (row_fails k st row rows none) ∙ h in absurd (cc)
  | inr some ↦
      let rest = read_steps (k + 1) some.0 rows r (sym (row_goes k st row rows some.0 some.1) ∙ h) in
      record { end = rest.end; steps = (some.0, some.1, rest.steps); text = rest.text }
]

-- ---- a reading that fails

-- where it fails, the steps up to there, and that it fails so whatever comes behind
pub record Failed (k : ℕ) (st : Stage) (rows : List (List ℕ)) (f : ℕ) : Type 0 where
  pub before : ℕ
  pub number : f ≡ k + before
  pub within : before ≤ length rows
  pub end : Stage
  pub steps : Steps st (take before rows) end
  pub front : (others : List (List ℕ)) → take (suc before) rows ≡ take (suc before) others → reading k st others ≡ Err f

fails_at_end : (k : ℕ) (st : Stage) (f : ℕ) (others : List (List ℕ)) → reading k st [] ≡ Err f → [] ≡ take 1 others → reading k st others ≡ Err f
fails_at_end k st f [] h e = h
fails_at_end k st f (row ∷ rows) h e = absurd (cc)

fails_at_row : (k : ℕ) (st : Stage) (row : List ℕ) (others : List (List ℕ)) → step st row ≡ None → row ∷ [] ≡ take 1 others → reading k st others ≡ Err k
fails_at_row k st row [] h e = absurd (cc)
fails_at_row k st row (other ∷ others) h e =
    let same : row ≡ other = cc in
    row_fails k st other others (ap (λ (r : List ℕ). step st r) (sym same) ∙ h)

fails_behind : (k : ℕ) (st : Stage) (row : List ℕ) (rows : List (List ℕ)) (m f : ℕ) (n : Stage) (others : List (List ℕ)) → step st row ≡ Some n
    → ((more : List (List ℕ)) → take (suc m) rows ≡ take (suc m) more → reading (k + 1) n more ≡ Err f)
    → row ∷ take (suc m) rows ≡ take (suc (suc m)) others
    → reading k st others ≡ Err f
fails_behind k st row rows m f n [] h front e = absurd (cc)
fails_behind k st row rows m f n (other ∷ others) h front e =
    let same : row ≡ other = cc in
    let more : take (suc m) rows ≡ take (suc m) others = cc in
    row_goes k st other others n (ap (λ (r : List ℕ). step st r) (sym same) ∙ h) ∙ front others more

pub read_fails : (k : ℕ) (st : Stage) (rows : List (List ℕ)) (f : ℕ) → reading k st rows ≡ Err f → Failed k st rows f
read_fails k st [] f h = elim (option_cases (whole_text st)) [
  | inl none ↦
      let same : Err k ≡ Err f = sym (ends_early k st none) ∙ h in
      let here : k ≡ f = cc in
      record { before = 0; number = omega arith; within = omega arith; end = st; steps = refl; front = λ others e. fails_at_end k st f others h e }
  | inr some ↦ let no : Ok some.0 ≡ Err f = sym (ends k st some.0 some.1) ∙ h in absurd (cc)
]
read_fails k st (row ∷ rows) f h = elim (option_cases (step st row)) [
  | inl none ↦
      let same : Err k ≡ Err f = sym (row_fails k st row rows none) ∙ h in
      let here : k ≡ f = cc in
      record {
        before = 0;
        number = omega arith;
        within = omega arith;
        end = st;
        steps = refl;
        front = λ others e. fails_at_row k st row others none e ∙ ap (λ (n : ℕ). Err n) here;
      }
  | inr some ↦
      let rest = read_fails (k + 1) some.0 rows f (sym (row_goes k st row rows some.0 some.1) ∙ h) in
      let number = rest.number in
      let within = rest.within in
      record {
        before = suc rest.before;
        number = omega arith;
        within = omega arith;
        end = rest.end;
        steps = (some.0, some.1, rest.steps);
        front = λ others e. fails_behind k st row rows rest.before f some.0 others some.1 rest.front e;
      }
]

-- ---- the fault of a text

take_front : {A : Type 0} (n : ℕ) (xs rest : List A) → n ≤ length xs → take n (take n xs ++ rest) ≡ take n xs
take_front {A = A} zero xs rest h = refl
take_front {A = A} (suc n) [] rest h = absurd (omega arith)
take_front {A = A} (suc n) (x ∷ xs) rest h = ap (λ (l : List A). x ∷ l) (take_front n xs rest (omega arith))

pub fault_of : (bytes : List ℕ) (f : ℕ) → reading 1 Start (rows_of bytes) ≡ Err f → IsLineFault bytes f
fault_of bytes f h =
    let failed = read_fails 1 Start (rows_of bytes) f h in
    let leads = steps_lead Start (take failed.before (rows_of bytes)) failed.end tt failed.steps in
    let goes = stage_goes_on failed.end leads.is in
    let number = failed.number in
    let next : f ≡ failed.before + 1 = omega arith in
    let one : failed.before + 1 ≡ suc failed.before = omega arith in
    let same = goes.same ∙ ap (λ (l : List (List ℕ)). l ++ goes.rest) leads.same in
    record {
      before = failed.before;
      next = next;
      like = goes.text;
      like_is = goes.is;
      begins = sym (ap (λ (l : List (List ℕ)). take failed.before l) same ∙ take_front failed.before (rows_of bytes) goes.rest failed.within);
      strange = λ q is e.
          let e' : take (suc failed.before) (rows_of bytes) ≡ take (suc failed.before) (spelled_lines q) = subst (λ (n : ℕ). take n (rows_of bytes) ≡ take n (spelled_lines q)) (next ∙ one) e in
          let no : Ok q ≡ Err f = sym (steps_read 1 Start (spelled_lines q) q (complete q is)) ∙ failed.front (spelled_lines q) e' in
          absurd (cc);
    }

-- ---- the record of a text

ended_is : (e : Stage) (r : RecordText) → whole_text e ≡ Some r → e ≡ Ended r
ended_is Start r h = absurd (cc)
ended_is Begun r h = absurd (cc)
ended_is (Offices text) r h = absurd (cc)
ended_is (Votes text o left) r h = absurd (cc)
ended_is (Ended text) r h = let same : text ≡ r = cc in ap (λ (q : RecordText). Ended q) same

pub spells_of : (bytes : List ℕ) (r : RecordText) → reading 1 Start (rows_of bytes) ≡ Ok r → Spells bytes r
spells_of bytes r h =
    let went = read_steps 1 Start (rows_of bytes) r h in
    let steps : Steps Start (rows_of bytes) (Ended r) = subst (λ (e : Stage). Steps Start (rows_of bytes) e) (ended_is went.end r went.text) went.steps in
    let leads = steps_lead Start (rows_of bytes) (Ended r) tt steps in
    record { record_is = leads.is; same = sym (ap concat leads.same ∙ joined_rows bytes) }

-- the lines of a text that steps follow are its lines
rows_back : (st : Stage) (rows : List (List ℕ)) (e : Stage) → Steps st rows e → rows_of (concat rows) ≡ rows
unfolding rows_of line_in
rows_back st [] e h = refl
rows_back st (row ∷ rows) e h =
    let line = and_then_some (line_in row) (with_line st) h.0 h.1 in
    let cut = and_then_some (cut_at 10 row) _ line.0 line.1 in
    let both = guard_some (length cut.0.1 == 0) (Some cut.0.0) line.0 cut.2 in
    let none : cut.0.1 ≡ [] = empty cut.0.1 both.0 in
    let front : cut.0.0 ≡ line.0 = cc in
    let more = cut_more 10 row cut.0 (concat rows) cut.1 in
    let split = rows_cut (row ++ concat rows) (cut.0.0, cut.0.1 ++ concat rows) more in
    let first : cut.0.0 ++ line_end ≡ row = ap (λ (l : List ℕ). l ++ line_end) front ∙ sym (line_read row line.0 line.1) in
    let behind : rows_of (cut.0.1 ++ concat rows) ≡ rows = ap (λ (l : List ℕ). rows_of (l ++ concat rows)) none ∙ rows_back h.0 rows e h.2 in
    split ∙ (ap (λ (l : List ℕ). l ∷ rows_of (cut.0.1 ++ concat rows)) first ∙ ap (λ (l : List (List ℕ)). row ∷ l) behind)
  where
    empty : (l : List ℕ) → (length l == 0) ≡ true → l ≡ []
    empty [] e = refl
    empty (c ∷ l) e = let no : suc (length l) ≡ 0 = grind (arith, nat_tests) in absurd (omega arith)

pub rows_spelled : (bytes : List ℕ) (r : RecordText) → Spells bytes r → rows_of bytes ≡ spelled_lines r
rows_spelled bytes r s = ap rows_of s.same ∙ rows_back Start (spelled_lines r) (Ended r) (complete r s.record_is)

pub read_spelled : (bytes : List ℕ) (r : RecordText) → Spells bytes r → reading 1 Start (rows_of bytes) ≡ Ok r
read_spelled bytes r s =
    ap (λ (rows : List (List ℕ)). reading 1 Start rows) (rows_spelled bytes r s) ∙ steps_read 1 Start (spelled_lines r) r (complete r s.record_is)

-- ---- laws

pub one_spelled : (bytes : List ℕ) (r q : RecordText) → Spells bytes r → Spells bytes q → q ≡ r
one_spelled bytes r q s t = let same : Ok q ≡ Ok r = sym (read_spelled bytes q t) ∙ read_spelled bytes r s in cc

pub one_answer : OneAnswer
one_answer bytes = elim (result_cases (reading 1 Start (rows_of bytes))) [
  | inl ok ↦ let s = spells_of bytes ok.0 ok.1 in inr (ok.0, s, λ q t. one_spelled bytes ok.0 q s t)
  | inr err ↦ inl (err.0, fault_of bytes err.0 err.1)
]

pub never_both : NeverBoth
never_both bytes k r f s = f.strange r s.record_is (ap (λ (l : List (List ℕ)). take k l) (rows_spelled bytes r s))

take_less : {A : Type 0} (k n : ℕ) (xs ys : List A) → k ≤ n → take n xs ≡ take n ys → take k xs ≡ take k ys
take_less zero n xs ys h e = refl
take_less (suc k) zero xs ys h e = absurd (omega arith)
take_less (suc k) (suc n) [] [] h e = refl
take_less (suc k) (suc n) [] (y ∷ ys) h e = absurd (cc)
take_less (suc k) (suc n) (x ∷ xs) [] h e = absurd (cc)
take_less (suc k) (suc n) (x ∷ xs) (y ∷ ys) h e =
    let same : x ≡ y = cc in
    let more : take n xs ≡ take n ys = cc in
    let rest = take_less k n xs ys (omega arith) more in
    cc

-- of two faults neither comes first
not_before : (bytes : List ℕ) (k l : ℕ) → IsLineFault bytes k → IsLineFault bytes l → k < l → ⊥
not_before bytes k l f g less =
    let next = g.next in
    f.strange g.like g.like_is (take_less k g.before (rows_of bytes) (spelled_lines g.like) (omega arith) g.begins)

pub one_fault : OneFault
one_fault bytes k l f g = elim (cases_lt k l) [
  | inl less ↦ absurd (not_before bytes k l f g less)
  | inr other ↦ elim (cases_lt l k) [
    | inl less ↦ absurd (not_before bytes l k g f less)
    | inr none ↦ omega arith
  ]
]

-- The fields before the offices: they keep what is so, and can go on.
use Rattle.std.proofs.Common.{◌≡◌, ℕ, ◌+◌, ◌≤◌, true, false, List, [], ◌∷◌, ◌++◌, take, drop, Some, refl, sym, ap, ◌∙◌, subst, inl, inr, arith, lit<, append_assoc}
use Rattle.std.specs.Prelude.{◌==◌}
use Rattle.std.specs.List.{flat_map}
use Rattle.std.proofs.lemmas.Bool.Decides.{nat_tests}
use Rattle.std.proofs.lemmas.Bool.{cases_Bool, eqb-true}
use Rattle.std.proofs.lemmas.List.{append-nil, take-append-drop}
use Rattle.urna_base.proofs.Cases.{map_some}
use Rattle.election_tables.specs.Offices.{row_of}
use Rattle.poll_report.specs.Report.{EachAfter}
use Rattle.qr_text.specs.Reading.{State, Code, step, may_end, number_at, new_office, with_head}
use Rattle.qr_text.specs.Said.{ReportField, Test, IsSaid, IsSaidOffice, MayOffice, fields, head_tests, office_fields}
use Rattle.qr_text.specs.Table.{fits, head_rows, row_text}
use Rattle.qr_text.specs.declared.said.Said.{Said}
use Rattle.qr_text.specs.declared.said.SaidOffice.{SaidOffice}
use Rattle.qr_text.specs.declared.said.SaidParty.{SaidParty}
use Rattle.qr_text.proofs.HeadRows.{Fits, after_head, at_row, fields_more, fits_going_on, fits_more, front_stays, going_on, head_list, head_steps, offices_stay, row_at}
use Rattle.qr_text.proofs.RowLaws.{number_back}
use Rattle.qr_text.proofs.Reached.{before_part, InOffices, InHead, Good}

-- ---- the head goes on

-- it is so behind one field more
abbrev pub Snoc : List ReportField → List ℕ → State × List Test → Type 0
Snoc fs p x = Good x.0 (fs ++ record { text = p; tests = x.1 } ∷ [])

pub snoc_to : (fs : List ReportField) (p q : List ℕ) (x y : State × List Test) → q ≡ p → y ≡ x → Snoc fs q y → Snoc fs p x
snoc_to fs p q x y e d g = let P : List ℕ → Type 0 = λ t. Snoc fs t x in let Q : State × List Test → Type 0 = λ z. Snoc fs q z in
    subst P e (subst Q d g)

not_last : (n : ℕ) → n ≤ 12 → (n == 12) ≡ false → n + 1 ≤ 12
not_last n few e = grind (arith, nat_tests)

-- all rows were read, and no office yet
head_ends : (s : Said) (o : SaidOffice) (q : SaidParty) (fs : List ReportField) → s.offices ≡ [] → fs ≡ take 13 (head_list s) → Fits 13 s
    → InOffices Code s o q fs
unfolding head_rows
head_ends s o q fs none read head =
    let no_fields : flat_map (office_fields s) s.offices ≡ [] = ap (λ (os : List SaidOffice). flat_map (office_fields s) os) none in
    record {
      head = head;
      offices = let P : List SaidOffice → Type 0 = λ os. EachAfter MayOffice [] os in subst P (sym none) tt;
      read = read ∙ (sym (append-nil (head_list s))
          ∙ (ap (λ (l : List ReportField). head_list s ++ l) (sym no_fields) ∙ sym (append-nil (before_part s))));
      fine = none;
    }

-- a row was read: the offices begin behind the last
head_goes : (n : ℕ) (s : Said) (o : SaidOffice) (q : SaidParty) (fs : List ReportField) (v : ℕ) → InHead n s fs → fits (row_at n).form v ≡ true
    → Snoc fs (row_text (row_at n) v) (after_head n v s o q)
head_goes n s o q fs v g fit =
    let t : Said = with_head n v s in
    let f : ReportField = record { text = row_text (row_at n) v; tests = head_tests (row_at n).tested t } in
    let none : t.offices ≡ [] = offices_stay n g.few v s ∙ g.none in
    let read : fs ++ f ∷ [] ≡ take (n + 1) (head_list t) = ap (λ (l : List ReportField). l ++ f ∷ []) g.read ∙ fields_more n g.few v s in
    let head : Fits (n + 1) t = fits_more n g.few v s g.head fit in
    elim (cases_Bool (n == 12)) [
      | inl e ↦
          let last : n + 1 ≡ 13 = ap (λ (k : ℕ). k + 1) (eqb-true n 12 e) in
          let P : ℕ → Type 0 = λ k. Fits k t in
          rw e (head_ends t o q (fs ++ f ∷ []) none (read ∙ ap (λ (k : ℕ). take k (head_list t)) last) (subst P last head))
      | inr e ↦ rw e (let few = g.few in record { few = not_last n few e; none = none; read = read; head = head })
    ]

pub head_keeps : (n : ℕ) (s : Said) (o : SaidOffice) (q : SaidParty) (fs : List ReportField) (p : List ℕ) (x : State × List Test)
    → InHead n s fs → step (at_row n s o q) p ≡ Some x → Snoc fs p x
head_keeps n s o q fs p x g e =
    let found = map_some (λ v. after_head n v s o q) (number_at (row_at n) p) x (sym (head_steps n g.few s o q p) ∙ e) in
    let back = number_back (row_at n) p found.0 found.1 in
    snoc_to fs p (row_text (row_at n) found.0) x (after_head n found.0 s o q) (sym back.0) found.2 (head_goes n s o q fs found.0 g back.1)

-- ---- the head can go on

-- the smallest office: nobody came
pub minimal_office : IsSaidOffice (new_office 1)
unfolding row_of
minimal_office = record {
  places = refl;
  candidates = tt;
  parties = tt;
  proportional = λ e. refl;
  majority = λ e. (refl, refl);
  able = refl;
  nominal = refl;
  legend = refl;
  blank = refl;
  null_votes = refl;
  total = refl;
}

-- these fields go on to something that may be said, and where the text may end they are it
abbrev pub Completed : List ReportField → State → Type 0
Completed fs e = (s : Said) × IsSaid s × (rest : List ReportField) × (fields s ≡ fs ++ rest)
    × (may_end e.mode ≡ true → (rest ≡ []) × (e.said ≡ s))

pub head_completes : (n : ℕ) (s : Said) (fs : List ReportField) (o : SaidOffice) (q : SaidParty) → InHead n s fs → Completed fs (at_row n s o q)
unfolding fields row_of
head_completes n s fs o q g =
    let t : Said = going_on n s in
    let offices : List ReportField = flat_map (office_fields t) t.offices in
    let rest : List ReportField = drop n (head_list t) ++ offices in (
      t,
      record { head = fits_going_on n g.few s g.head; some = lit< tt; offices = ((refl, minimal_office), tt) },
      rest,
      ap (λ (l : List ReportField). l ++ offices) (sym (take-append-drop n (head_list t)))
          ∙ (append_assoc (take n (head_list t)) (drop n (head_list t)) offices
          ∙ ap (λ (l : List ReportField). l ++ rest) (front_stays n g.few s ∙ sym g.read)),
      λ m. absurd (cc),
    )

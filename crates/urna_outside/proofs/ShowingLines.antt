-- Lines that are shown, some after others
use Rattle.std.proofs.Common.{◌≡◌, ℕ, List, [], ◌∷◌, ◌++◌, Result, Err, Ok, OnOk, OnErr, IsErr, inl, inr, refl, sym, ap, subst, ◌∙◌}
use Rattle.std.specs.List.{concat}
use Rattle.urna_outside.specs.Flash.{Op, Show}
use Rattle.urna_outside.specs.Told.{Told, Does, Runs, Counts, IsCalled, IsTornShow}
use Rattle.urna_outside.specs.Shows.{ShowsText, ShowsFront}
use Rattle.urna_outside.specs.ShownLines.{shows, IsCutShort, HasShown, IsCutOff, Shows}
use Rattle.urna_outside.specs.Faults.{FaultsAt}
use Rattle.urna_outside.specs.declared.device.Port.TheVariants.{Display}
use Rattle.urna_outside.proofs.Doing.{does-append, does_nothing}
use Rattle.urna_outside.proofs.Calling.{without_fault_none, without_fault_one, without_fault_trans, stops_one, stops_later}
use Rattle.urna_outside.proofs.Showing.{shows_text-append, shows_text_none, shows_text_one, shows_front-append, shows_front_longer, shows_front_torn}

-- shown lines, one after another
pub shows_of-append : (xs ys : List (List ℕ)) → shows (xs ++ ys) ≡ shows xs ++ shows ys
shows_of-append [] ys = refl
shows_of-append (x ∷ xs) ys = ap (λ (ops : List Op). Show x ∷ ops) (shows_of-append xs ys)

-- a cut in the first lines is one in all
pub cut_longer : (xs ys : List (List ℕ)) (ops : List Op) → IsCutShort xs ops → IsCutShort (xs ++ ys) ops
cut_longer [] ys ops h = absurd h
cut_longer (x ∷ xs) ys ops (inl torn) = inl torn
cut_longer (x ∷ xs) ys ops (inr more) = inr (more.0, more.1, cut_longer xs ys more.0 more.2)

-- and so is one in those behind them
pub cut_later : (xs ys : List (List ℕ)) (ops : List Op) → IsCutShort ys ops → IsCutShort (xs ++ ys) (shows xs ++ ops)
cut_later [] ys ops h = h
cut_later (x ∷ xs) ys ops h = inr (shows xs ++ ops, refl, cut_later xs ys ops h)

-- nothing shown
pub shown_nothing : (a : Told) → HasShown [] a a
shown_nothing a = record { does = does_nothing a; faults = refl; calls = without_fault_none a a refl }

-- lines after lines
pub shown-append : (xs ys : List (List ℕ)) (a b c : Told) → HasShown xs a b → HasShown ys b c → HasShown (xs ++ ys) a c
shown-append xs ys a b c first second =
    record {
      does = subst (λ (ops : List Op). Does ops a c) (sym (shows_of-append xs ys)) (does-append (shows xs) (shows ys) a b c first.does second.does);
      faults = second.faults ∙ first.faults;
      calls = without_fault_trans a b c first.calls second.calls;
    }

-- a cut in the first of some lines
pub cut_before : (xs ys : List (List ℕ)) (a b : Told) → IsCutOff xs a b → IsCutOff (xs ++ ys) a b
cut_before xs ys a b h =
    record { ops = h.ops; does = h.does; cut = cut_longer xs ys h.ops h.cut; faults = h.faults; calls = h.calls }

-- a cut in lines after others
pub cut_after : (xs ys : List (List ℕ)) (a b c : Told) → HasShown xs a b → IsCutOff ys b c → IsCutOff (xs ++ ys) a c
cut_after xs ys a b c first second =
    record {
      ops = shows xs ++ second.ops;
      does = does-append (shows xs) second.ops a b c first.does second.does;
      cut = cut_later xs ys second.ops second.cut;
      faults = subst (λ f. FaultsAt Display f c.faults) first.faults second.faults;
      calls = stops_later a b c first.calls second.calls;
    }

-- lines after lines, which may be cut off
pub shows-append : {T E : Type 0} (r : Result T E) (xs ys : List (List ℕ)) (a b c : Told) → HasShown xs a b → Shows r ys b c → Shows r (xs ++ ys) a c
shows-append (Ok x) xs ys a b c first second = shown-append xs ys a b c first second
shows-append (Err e) xs ys a b c first second = cut_after xs ys a b c first second

-- where the call answers a fault
pub shows_err : {T E : Type 0} (r : Result T E) (lines : List (List ℕ)) (a b : Told) → IsErr r → IsCutOff lines a b → Shows r lines a b
shows_err (Ok x) lines a b err cut = absurd (cc)
shows_err (Err e) lines a b err cut = cut

-- one show
pub shows_one : {T E : Type 0} (r : Result T E) (line : List ℕ) (a b : Told) → OnOk r (Does (Show line ∷ []) a b) → OnErr r (Runs (IsTornShow line) a b)
    → Counts Display r a.faults b.faults → IsCalled r a b → Shows r (line ∷ []) a b
shows_one {T} {E} (Ok x) line a b done torn counts called =
    record { does = done; faults = counts.ok; calls = without_fault_one {T = T} {E = E} (Ok x) a b refl called }
shows_one {T} {E} (Err e) line a b done torn counts called =
    record {
      ops = torn.0;
      does = torn.1;
      cut = inl torn.2;
      faults = record { never_falls = counts.never_falls; others = counts.others; rose = counts.failed };
      calls = stops_one {T = T} {E = E} (Err e) a b refl called;
    }

-- a cut in the middle of all lines
pub cut_within : (front step rest all : List (List ℕ)) (a b c : Told) → all ≡ (front ++ step) ++ rest → HasShown front a b → IsCutOff step b c → IsCutOff all a c
cut_within front step rest all a b c e first second =
    subst (λ (lines : List (List ℕ)). IsCutOff lines a c) (sym e) (cut_before (front ++ step) rest a c (cut_after front step a b c first second))

-- lines after lines, by what they come to
pub shown_to : (front step all : List (List ℕ)) (a b c : Told) → all ≡ front ++ step → HasShown front a b → HasShown step b c → HasShown all a c
shown_to front step all a b c e first second =
    subst (λ (lines : List (List ℕ)). HasShown lines a c) (sym e) (shown-append front step a b c first second)

-- The text of the lines

pub shows_lines : (lines : List (List ℕ)) → ShowsText (concat lines) (shows lines)
shows_lines [] = shows_text_none
shows_lines (line ∷ lines) = shows_text-append line (concat lines) (Show line ∷ []) (shows lines) (shows_text_one line) (shows_lines lines)

pub cut_front : (lines : List (List ℕ)) (ops : List Op) → IsCutShort lines ops → ShowsFront (concat lines) ops
cut_front [] ops h = absurd h
cut_front (line ∷ lines) ops (inl torn) = shows_front_longer line (concat lines) ops (shows_front_torn line ops torn)
cut_front (line ∷ lines) ops (inr more) =
    subst (ShowsFront (line ++ concat lines)) (sym more.1) (shows_front-append line (concat lines) (Show line ∷ []) more.0 (shows_text_one line) (cut_front lines more.0 more.2))

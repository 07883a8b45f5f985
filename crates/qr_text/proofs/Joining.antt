-- Reading by sections is reading field by field: one field, its tests, and one section after the other.
use Rattle.std.proofs.Common.{◌≡◌, ℕ, ◌+◌, Bool, true, false, List, [], ◌∷◌, Option, Some, None, refl, ap, ◌∙◌}
use Rattle.std.specs.Option.{option_and_then}
use Rattle.std.specs.Prelude.{not, ◌==◌, if◌then◌else◌, Result, Ok, Err, option_map}
use Rattle.qr_text.proofs.Exact.{end_bad}
use Rattle.qr_text.specs.Fault.{failing, fault_at}
use Rattle.qr_text.specs.Fronts.{MatchRead, goes}
use Rattle.qr_text.specs.Reading.{State, Step, step, reading, may_end, number_at}
use Rattle.qr_text.specs.Said.{Test, Holds, Equals}
use Rattle.qr_text.specs.Sections.{FieldsLeft, ◌>>=◌, number_or_fault, first_reading, row_reading, agreed, held, sum_reading}
use Rattle.qr_text.specs.declared.fault.FieldError.TheVariants.{Memory, Fault}
use Rattle.qr_text.specs.declared.fault.FieldError.{FieldError}
use Rattle.qr_text.specs.declared.fault.FieldFault.TheVariants as fault
use Rattle.qr_text.specs.declared.fault.FieldFault.{FieldFault}
use Rattle.qr_text.specs.declared.said.Said.{Said}
use Rattle.qr_text.specs.declared.table.Row.{Row}

-- ---- one after the other

pub bind_both : {A B C : Type 0} (m : Result A FieldFault) (f : A → Result B FieldFault) (k : B → Result C FieldFault) (g : A → Result C FieldFault)
    → ((a : A) → g a ≡ (f a >>= k)) → (m >>= g) ≡ ((m >>= f) >>= k)
bind_both (Ok a) f k g h = h a
bind_both (Err e) f k g h = refl

pub bind_ok : {A B : Type 0} (m : Result A FieldFault) (f : A → Result B FieldFault) (x : A) → m ≡ Ok x → (m >>= f) ≡ f x
bind_ok m f x e = rw e refl

pub bind_err : {A B : Type 0} (m : Result A FieldFault) (f : A → Result B FieldFault) (e : FieldFault) → m ≡ Err e → (m >>= f) ≡ Err e
bind_err m f e h = rw h refl

-- what is so of a fault of one call is so of the call above it
pub fault_above : {A B : Type 0} (P : A → Type 0) (R : B → Type 0) (Q S : FieldFault → Type 0) (e : FieldError) → MatchRead (Err e) P Q → ((f : FieldFault) → Q f → S f) → MatchRead (Err e) R S
fault_above P R Q S Memory h g = tt
fault_above P R Q S (Fault f) h g = g f h

-- what is so of what one call answers is so of the call that hands it on
pub match_above : {A : Type 0} (P R : A → Type 0) (Q S : FieldFault → Type 0) (r : Result A FieldError) → MatchRead r P Q → ((x : A) → P x → R x) → ((f : FieldFault) → Q f → S f) → MatchRead r R S
match_above P R Q S (Ok x) h f g = f x h
match_above P R Q S (Err Memory) h f g = tt
match_above P R Q S (Err (Fault e)) h f g = g e h

-- ---- one field

-- what comes after a step at field k
abbrev pub after : ℕ → State × List Test → FieldsLeft → Result Said FieldFault
after k x s = elim (failing x.1) [ Some t ↦ Err (fault_at k t) | None ↦ reading s.next x.0 s.left ]

abbrev pub outcome : ℕ → List (List ℕ) → Step → Result Said FieldFault
outcome k ps o = elim o [ None ↦ Err (fault.Field k) | Some x ↦ after k x (record { left = ps; next = k + 1 }) ]

pub stepped : (k : ℕ) (st : State) (p : List ℕ) (ps : List (List ℕ)) (o : Step) → step st p ≡ o → reading k st (p ∷ ps) ≡ outcome k ps o
unfolding reading
stepped k st p ps o h = rw (h, reading) refl

shape : (f : ℕ → State × List Test) (o : Option ℕ) (next : ℕ) (ps : List (List ℕ)) → outcome next ps (option_map f o) ≡ (number_or_fault o next ps >>= λ x. after next (f x.0) x.1)
shape f None next ps = refl
shape f (Some v) next ps = refl

row_join_at : (r : Row) (st : State) (f : ℕ → State × List Test) (next : ℕ) (left : List (List ℕ)) → may_end st.mode ≡ false
    → ((p : List ℕ) (ps : List (List ℕ)) → left ≡ p ∷ ps → step st p ≡ option_map f (number_at r p))
    → reading next st left ≡ (first_reading r next left >>= λ x. after next (f x.0) x.1)
row_join_at r st f next [] may h = end_bad next st may
row_join_at r st f next (p ∷ ps) may h =
    stepped next st p ps (option_map f (number_at r p)) (h p ps refl) ∙ shape f (number_at r p) next ps

pub row_join : (r : Row) (st : State) (f : ℕ → State × List Test) (s : FieldsLeft) → may_end st.mode ≡ false
    → ((p : List ℕ) (ps : List (List ℕ)) → s.left ≡ p ∷ ps → step st p ≡ option_map f (number_at r p))
    → goes st s ≡ (row_reading r s >>= λ x. after s.next (f x.0) x.1)
unfolding row_reading
row_join r st f s may h = row_join_at r st f s.next s.left may h

-- ---- tests

agreed_by : {A : Type 0} (b : Bool) (k sum said : ℕ) (x : A) (g : A → Result Said FieldFault)
    → (elim (if not b then Some (Equals sum said) else None) [ Some t ↦ Err (fault_at k t) | None ↦ g x ]) ≡ ((if b then Ok x else Err (fault.Sum k sum said)) >>= g)
agreed_by true k sum said x g = refl
agreed_by false k sum said x g = refl

pub agreed_join : {A : Type 0} (k sum said : ℕ) (x : A) (g : A → Result Said FieldFault)
    → (elim (failing (Equals sum said ∷ [])) [ Some t ↦ Err (fault_at k t) | None ↦ g x ]) ≡ (agreed k sum said x >>= g)
unfolding agreed
agreed_join k sum said x g = agreed_by (sum == said) k sum said x g

held_by : {A : Type 0} (b : Bool) (k : ℕ) (x : A) (g : A → Result Said FieldFault)
    → (elim (if not b then Some (Holds b) else None) [ Some t ↦ Err (fault_at k t) | None ↦ g x ]) ≡ ((if b then Ok x else Err (fault.Field k)) >>= g)
held_by true k x g = refl
held_by false k x g = refl

pub held_join : {A : Type 0} (k : ℕ) (fact : Bool) (x : A) (g : A → Result Said FieldFault)
    → (elim (failing (Holds fact ∷ [])) [ Some t ↦ Err (fault_at k t) | None ↦ g x ]) ≡ (held k fact x >>= g)
unfolding held
held_join k fact x g = held_by fact k x g

-- two sums are tested at one field
two_by : {A B : Type 0} (a b : Bool) (k m n said : ℕ) (x : A) (y : B) (g : B → Result Said FieldFault)
    → (elim (if not a then Some (Equals m said) else (if not b then Some (Equals n said) else None)) [ Some t ↦ Err (fault_at k t) | None ↦ g y ])
    ≡ ((if a then Ok x else Err (fault.Sum k m said)) >>= λ z. ((if b then Ok y else Err (fault.Sum k n said)) >>= g))
two_by true true k m n said x y g = refl
two_by true false k m n said x y g = refl
two_by false b k m n said x y g = refl

pub two_join : {A B : Type 0} (k m n said : ℕ) (x : A) (y : B) (g : B → Result Said FieldFault)
    → (elim (failing (Equals m said ∷ Equals n said ∷ [])) [ Some t ↦ Err (fault_at k t) | None ↦ g y ]) ≡ (agreed k m said x >>= λ z. (agreed k n said y >>= g))
unfolding agreed
two_join k m n said x y g = two_by (m == said) (n == said) k m n said x y g

passed_by : {A : Type 0} (b : Bool) (e : FieldFault) (x : A) (f g : A → Result Said FieldFault) → f x ≡ g x
    → ((if b then Ok x else Err e) >>= f) ≡ ((if b then Ok x else Err e) >>= g)
passed_by true e x f g h = h
passed_by false e x f g h = refl

-- behind a test that passed, what comes next may be said in another way
pub passed : {A : Type 0} (k sum said : ℕ) (x : A) (f g : A → Result Said FieldFault) → f x ≡ g x → (agreed k sum said x >>= f) ≡ (agreed k sum said x >>= g)
unfolding agreed
passed k sum said x f g h = passed_by (sum == said) (fault.Sum k sum said) x f g h

-- ---- a field that is to say a sum

pub sum_join : (r : Row) (st : State) (n : ℕ → State) (sum : ℕ) (s : FieldsLeft) → may_end st.mode ≡ false
    → ((p : List ℕ) (ps : List (List ℕ)) → s.left ≡ p ∷ ps → step st p ≡ option_map (λ v. (n v, Equals sum v ∷ [])) (number_at r p))
    → goes st s ≡ (sum_reading r sum s >>= λ x. goes (n x.0) x.1)
unfolding sum_reading
sum_join r st n sum s may h =
    row_join r st (λ v. (n v, Equals sum v ∷ [])) s may h
    ∙ bind_both (row_reading r s) (λ x. agreed s.next sum x.0 x) (λ x. goes (n x.0) x.1) _ (λ x. agreed_join s.next sum x.0 x (λ y. goes (n y.0) y.1))

-- ---- a field whose number is tested by the step itself

abbrev if_may : (ℕ → Bool) → (ℕ → State) → ℕ → Step
if_may may n v = if may v then Some (n v, []) else None

passes_by : (b : Bool) (k : ℕ) (n : State) (t : FieldsLeft) → k + 1 ≡ t.next
    → outcome k t.left (if b then Some (n, []) else None) ≡ ((if b then Ok t else Err (fault.Field k)) >>= λ y. goes n y)
passes_by true k n t h = ap (λ (i : ℕ). reading i n t.left) h
passes_by false k n t h = refl

may_shape : (may : ℕ → Bool) (n : ℕ → State) (o : Option ℕ) (next : ℕ) (ps : List (List ℕ))
    → outcome next ps (option_and_then (if_may may n) o) ≡ (number_or_fault o next ps >>= λ x. (held next (may x.0) x.1 >>= λ y. goes (n x.0) y))
unfolding held
may_shape may n None next ps = refl
may_shape may n (Some v) next ps = passes_by (may v) next (n v) (record { left = ps; next = next + 1 }) refl

may_join_at : (r : Row) (st : State) (may : ℕ → Bool) (n : ℕ → State) (next : ℕ) (left : List (List ℕ)) → (left ≡ [] → may_end st.mode ≡ false)
    → ((p : List ℕ) → step st p ≡ option_and_then (if_may may n) (number_at r p))
    → reading next st left ≡ (first_reading r next left >>= λ x. (held next (may x.0) x.1 >>= λ y. goes (n x.0) y))
may_join_at r st may n next [] e h = end_bad next st (e refl)
may_join_at r st may n next (p ∷ ps) e h = stepped next st p ps (option_and_then (if_may may n) (number_at r p)) (h p) ∙ may_shape may n (number_at r p) next ps

pub may_join : (r : Row) (st : State) (may : ℕ → Bool) (n : ℕ → State) (s : FieldsLeft) → (s.left ≡ [] → may_end st.mode ≡ false)
    → ((p : List ℕ) → step st p ≡ option_and_then (if_may may n) (number_at r p))
    → goes st s ≡ (row_reading r s >>= λ x. (held s.next (may x.0) x.1 >>= λ y. goes (n x.0) y))
unfolding row_reading
may_join r st may n s e h = may_join_at r st may n s.next s.left e h

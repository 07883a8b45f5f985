-- Candidates and their votes, in one field and in many.
use Rattle.std.proofs.Common.{◌≡◌, ℕ, ◌+◌, ◌<◌, ◌≤◌, ◌^◌, Bool, true, false, List, [], ◌∷◌, ◌++◌, take, drop, Option, Some, None, refl, sym, ap, subst, ◌∙◌, arith, inr, lit<}
use Rattle.std.specs.Prelude.{◌==◌, ◌&&◌, position, nat_lt, if◌then◌else◌, option_map}
use Rattle.std.specs.List.{slice_split, join_with_byte}
use Rattle.std.specs.Option.{option_and_then}
use Rattle.std.proofs.lemmas.Bool.Decides.{nat_tests}
use Rattle.std.proofs.lemmas.List.Splits.{join_with_byte-slice_split}
use Rattle.std.proofs.lemmas.List.Sums.{sum_by-append}
use Rattle.election_tables.proofs.Kept.{has_digits-below}
use Rattle.election_tables.specs.Fields.{has_digits}
use Rattle.poll_report.specs.Report.{is_some_votes, is_vote, votes_of}
use Rattle.poll_report.specs.declared.report.Count.{Count}
use Rattle.urna_base.proofs.DecimalLaws.{decimal_value-some}
use Rattle.urna_base.proofs.DigitLaws.{both_from_and}
use Rattle.urna_base.proofs.Lacking.{digits_lack}
use Rattle.urna_base.proofs.PieceLaws.{no_split, piece_last, split_first}
use Rattle.urna_base.specs.Digits.{decimal_value}
use Rattle.urna_base.specs.Moment.{is_between}
use Rattle.qr_text.proofs.RowLaws.{vote_back}
use Rattle.qr_text.specs.Reading.{vote_at, vote_of, vote_with}
use Rattle.qr_text.specs.Sections.{FieldsLeft}
use Rattle.qr_text.specs.Votes.{accepted, belongs, first_at, vote_after, vote_by_colon, vote_first, votes_from, votes_reading}

-- ---- a candidate's field, by its first colon

abbrev is_colon : ℕ → Bool
is_colon b = b == 58

nothing_of : (digits : ℕ) (o : Option ℕ) → option_and_then (λ number. option_and_then (vote_with digits number) None) o ≡ None
nothing_of digits None = refl
nothing_of digits (Some n) = refl

no_votes : (digits : ℕ) (a r : List ℕ) (rest : List (List ℕ)) → join_with_byte 58 rest ≡ r → decimal_value r ≡ None → vote_of digits (a ∷ rest) ≡ None
no_votes digits a r [] j h = refl
no_votes digits a r (b ∷ []) j h = let same : decimal_value b ≡ None = ap (λ (x : List ℕ). decimal_value x) j ∙ h in rw same (nothing_of digits (decimal_value a))
no_votes digits a r (b ∷ c ∷ more) j h = refl

-- a second colon makes the votes no decimal
behind_colon : (digits : ℕ) (a r : List ℕ) (o : Option ℕ) → decimal_value r ≡ o
    → option_and_then (λ number. option_and_then (vote_with digits number) o) (decimal_value a) ≡ vote_of digits (a ∷ slice_split is_colon r)
behind_colon digits a r None h = nothing_of digits (decimal_value a) ∙ sym (no_votes digits a r (slice_split is_colon r) (join_with_byte-slice_split 58 r) h)
behind_colon digits a r (Some v) h =
    let one : slice_split is_colon r ≡ r ∷ [] = piece_last 58 r (digits_lack 58 r (inr (lit< tt)) (decimal_value-some r v h).0.all) in
    rw (one, h) refl

by_colon : (digits : ℕ) (p : List ℕ) (o : Option ℕ) → position is_colon p ≡ o
    → option_and_then (λ end. option_and_then (λ number. option_and_then (vote_with digits number) (decimal_value (drop (end + 1) p))) (decimal_value (take end p))) o
    ≡ vote_of digits (slice_split is_colon p)
by_colon digits p None h = sym (ap (λ (x : List (List ℕ)). vote_of digits x) (no_split is_colon p h))
by_colon digits p (Some end) h =
    behind_colon digits (take end p) (drop (end + 1) p) (decimal_value (drop (end + 1) p)) refl ∙ sym (ap (λ (x : List (List ℕ)). vote_of digits x) (split_first is_colon p end h))

pub colon_same : (digits : ℕ) (p : List ℕ) → vote_by_colon digits p ≡ vote_at digits p
unfolding vote_by_colon vote_at
colon_same digits p = by_colon digits p (position is_colon p) refl

-- the number of a candidate has 32 bits, as its votes have
pub number_narrow : (digits number votes : ℕ) → is_vote digits (record { number = number; votes = votes }) ≡ true → digits ≤ 5 → number < 2 ^ 32
number_narrow digits number votes h few =
    let below = has_digits-below digits number few (both_from_and (has_digits digits number) (is_some_votes votes) h).0 in omega arith

small_of : (n : ℕ) → is_between 1 9999 n ≡ true → n ≤ 9999
small_of n h = grind (arith, nat_tests)

pub votes_narrow : (digits number votes : ℕ) → is_vote digits (record { number = number; votes = votes }) ≡ true → votes < 2 ^ 32
votes_narrow digits number votes h = let small = small_of votes (both_from_and (has_digits digits number) (is_some_votes votes) h).1 in omega arith

-- ---- the next field

-- where the next field gives something, it is there
pub first_some : {A : Type 0} (read : List ℕ → Option A) (next : ℕ) (left : List (List ℕ)) (x : A) (s : FieldsLeft) → first_at read next left ≡ Some (x, s)
    → (p : List ℕ) × (ps : List (List ℕ)) × (left ≡ p ∷ ps) × (read p ≡ Some x) × (s ≡ record { left = ps; next = next + 1 })
first_some read next [] x s h = absurd (cc)
first_some {A} read next (p ∷ ps) x s h = go (read p) refl h
  where
    go : (o : Option A) → read p ≡ o → option_map {U = A × FieldsLeft} (λ x. (x, record { left = ps; next = next + 1 })) o ≡ Some (x, s)
        → (q : List ℕ) × (qs : List (List ℕ)) × (p ∷ ps ≡ q ∷ qs) × (read q ≡ Some x) × (s ≡ record { left = qs; next = next + 1 })
    go None e h = absurd (cc)
    go (Some y) e h =
        let here : A × FieldsLeft = (y, record { left = ps; next = next + 1 }) in
        let there : A × FieldsLeft = (x, s) in
        let pair : here ≡ there = cc in
        (p, ps, refl, e ∙ ap (λ (z : A × FieldsLeft). Some z.0) pair, sym (ap (λ (z : A × FieldsLeft). z.1) pair))

-- where it gives nothing, it is no such field
pub first_none : {A : Type 0} (read : List ℕ → Option A) (next : ℕ) (left : List (List ℕ)) → first_at read next left ≡ None
    → (p : List ℕ) (ps : List (List ℕ)) → left ≡ p ∷ ps → read p ≡ None
first_none {A} read next left h p ps e = go (read p) refl
  where
    go : (o : Option A) → read p ≡ o → read p ≡ None
    go None r = r
    go (Some y) r =
        let here : first_at read next (p ∷ ps) ≡ None = rw e at h in
        let there : first_at read next (p ∷ ps) ≡ Some (y, record { left = ps; next = next + 1 }) = rw r refl in
        absurd (cc)

pub first_end : {A : Type 0} (read : List ℕ → Option A) (next : ℕ) (left : List (List ℕ)) → left ≡ [] → first_at read next left ≡ None
first_end read next left e = rw e refl

pub first_field : {A : Type 0} (read : List ℕ → Option A) (next : ℕ) (left : List (List ℕ)) (p : List ℕ) (ps : List (List ℕ)) (o : Option A) → left ≡ p ∷ ps → read p ≡ o
    → first_at read next left ≡ option_map {U = A × FieldsLeft} (λ x. (x, record { left = ps; next = next + 1 })) o
first_field read next left p ps o e h = rw (e, h) refl

-- ---- candidates in a row

pub votes_taken : (digits : ℕ) (party : Option ℕ) (last : ℕ) (before : List Count) (next : ℕ) (p : List ℕ) (ps : List (List ℕ)) (c : Count)
    → vote_after digits party last p ≡ Some c → votes_from digits party last before next (p ∷ ps) ≡ votes_from digits party c.number (before ++ c ∷ []) (next + 1) ps
unfolding votes_from
votes_taken digits party last before next p ps c e = rw (e, votes_from) refl

pub votes_stopped : (digits : ℕ) (party : Option ℕ) (last : ℕ) (before : List Count) (next : ℕ) (p : List ℕ) (ps : List (List ℕ))
    → vote_after digits party last p ≡ None → votes_from digits party last before next (p ∷ ps) ≡ (before, record { left = p ∷ ps; next = next })
unfolding votes_from
votes_stopped digits party last before next p ps e = rw (e, votes_from) refl

pub votes_some : (digits : ℕ) (party : Option ℕ) (last : ℕ) (before : List Count) (from : FieldsLeft) (c : Count) (s : FieldsLeft)
    → vote_first digits party last from ≡ Some (c, s) → votes_reading digits party last before from ≡ votes_reading digits party c.number (before ++ c ∷ []) s
unfolding vote_first votes_reading
votes_some digits party last before from c s h =
    let f = first_some (vote_after digits party last) from.next from.left c s h in
    ap (λ (l : List (List ℕ)). votes_from digits party last before from.next l) f.2
    ∙ (votes_taken digits party last before from.next f.0 f.1 c f.3
    ∙ ap (λ (x : FieldsLeft). votes_from digits party c.number (before ++ c ∷ []) x.next x.left) (sym f.4))

-- what is left, by its parts
same_left : (before : List Count) (from : FieldsLeft) (l : List (List ℕ)) → from.left ≡ l → ◌≡◌ {A = List Count × FieldsLeft} (before, record { left = l; next = from.next }) (before, from)
same_left before from l e =
    let whole : List (List ℕ) → List Count × FieldsLeft = λ x. (before, record { left = x; next = from.next }) in ap whole (sym e)

at_end : (digits : ℕ) (party : Option ℕ) (last : ℕ) (before : List Count) (from : FieldsLeft) → from.left ≡ [] → votes_from digits party last before from.next [] ≡ (before, from)
unfolding votes_from
at_end digits party last before from e = same_left before from [] e

pub votes_none : (digits : ℕ) (party : Option ℕ) (last : ℕ) (before : List Count) (from : FieldsLeft)
    → vote_first digits party last from ≡ None → votes_reading digits party last before from ≡ (before, from)
unfolding vote_first votes_reading
votes_none digits party last before from h = go from.left refl
  where
    go : (left : List (List ℕ)) → from.left ≡ left → votes_from digits party last before from.next from.left ≡ (before, from)
    go [] e = ap (λ (l : List (List ℕ)). votes_from digits party last before from.next l) e ∙ at_end digits party last before from e
    go (p ∷ ps) e =
        ap (λ (l : List (List ℕ)). votes_from digits party last before from.next l) e
        ∙ (votes_stopped digits party last before from.next p ps (first_none (vote_after digits party last) from.next from.left h p ps e) ∙ same_left before from (p ∷ ps) e)

-- a candidate has at most 9,999 votes
pub vote_few : (digits : ℕ) (party : Option ℕ) (last : ℕ) (p : List ℕ) (c : Count) → vote_after digits party last p ≡ Some c → c.votes ≤ 9999
unfolding vote_after
vote_few digits party last p c h = go (vote_at digits p) refl h
  where
    taken : (b : Bool) (d : Count) → (if b then Some d else None) ≡ Some c → d ≡ c
    taken true d h = cc
    taken false d h = absurd (cc)

    go : (o : Option Count) → vote_at digits p ≡ o → option_and_then (accepted digits party last) o ≡ Some c → c.votes ≤ 9999
    go None e h = absurd (cc)
    go (Some d) e h =
        let same : d ≡ c = taken (belongs digits party d.number && nat_lt last d.number) d h in
        let both = both_from_and (has_digits digits d.number) (is_some_votes d.votes) (vote_back digits p d e).1 in
        let P : Count → Type 0 = λ x. x.votes ≤ 9999 in
        subst P same (small_of d.votes both.1)

pub votes_snoc : (cs : List Count) (c : Count) → votes_of (cs ++ c ∷ []) ≡ votes_of cs + c.votes
votes_snoc cs c = let e : votes_of (cs ++ c ∷ []) ≡ votes_of cs + (0 + c.votes) = sum_by-append (λ (x : Count). x.votes) cs (c ∷ []) in omega (arith, e)

-- Writing and reading of one field, and of a candidate's.
use Rattle.std.proofs.Common.{◌≡◌, true, false, List, [], ◌∷◌, ◌++◌, length, ℕ, ◌<◌, ◌^◌, Some, None, refl, sym, ap, ◌∙◌, subst, inl, inr, arith, lit<}
use Rattle.std.specs.Prelude.{codes, ◌==◌}
use Rattle.std.specs.Fmt.{decimal}
use Rattle.std.specs.List.{list_all, slice_split, join_with_byte}
use Rattle.std.specs.Option.{option_and_then}
use Rattle.std.specs.Str.{bytes_eq}
use Rattle.std.proofs.lemmas.Bool.{cases_Bool, eqb-true}
use Rattle.std.proofs.lemmas.Bool.Decides.{nat_tests}
use Rattle.std.proofs.lemmas.Fmt.{decimal_nonempty}
use Rattle.std.proofs.lemmas.List.Splits.{join_with_byte-slice_split}
use Rattle.std.proofs.lemmas.Slice.Eq.{bytes_eq-Decides}
use Rattle.urna_base.specs.Digits.{is_digit, decimal_value}
use Rattle.urna_base.specs.Moment.{is_between}
use Rattle.urna_base.proofs.DecimalLaws.{decimal_value-decimal, decimal-decimal_value, all_digits}
use Rattle.urna_base.proofs.DigitLaws.{digits_value-padded, padded-digits_value, both_from_and}
use Rattle.urna_base.proofs.Lacking.{Lacks, decimal_lacks}
use Rattle.urna_base.proofs.MomentLaws.{is_date-below}
use Rattle.urna_base.proofs.PieceLaws.{piece_first, piece_last}
use Rattle.election_tables.specs.Fields.{has_digits}
use Rattle.election_tables.proofs.Kept.{has_digits-below}
use Rattle.poll_report.specs.Report.{digits_in, is_some_votes, is_vote}
use Rattle.poll_report.specs.declared.report.Count.{Count}
use Rattle.urna_base.specs.Words.{after_word}
use Rattle.urna_base.proofs.WordLaws.{after_word-append, after_word-some}
use Rattle.urna_base.proofs.Cases.{and_then_some, guard_some}
use Rattle.qr_text.specs.Reading.{only_fitting, written_value, value_at, number_at, vote_with, vote_of, vote_at}
use Rattle.qr_text.specs.Said.{vote_field}
use Rattle.qr_text.specs.Table.{fits, is_time, value_text, row_text, vote_row}
use Rattle.qr_text.specs.declared.table.Form.TheVariants.{Vota, Between, Date, Time}
use Rattle.qr_text.specs.declared.table.Form.{Form}
use Rattle.qr_text.specs.declared.table.Row.{Row}
use Rattle.qr_text.specs.declared.table.TheConstants.{TABLE}
use Rattle.poll_report.proofs.Digits.{digits_few}

-- the numbers of a form are those that decimals can write
abbrev pub IsSmall : Form → Type 0
IsSmall Vota = Unit {0}
IsSmall (Between low high) = high < 10 ^ 18
IsSmall Date = Unit {0}
IsSmall Time = Unit {0}

pub time_small : (v : ℕ) → is_time v ≡ true → v < 10 ^ 6
time_small v e = grind (arith, nat_tests)

pub between_small : (low high v : ℕ) → is_between low high v ≡ true → high < 10 ^ 18 → v < 10 ^ 18
between_small low high v e h = grind (arith, nat_tests)

-- ---- values

only_back : (form : Form) (v w : ℕ) → only_fitting form v ≡ Some w → (fits form w ≡ true) × (v ≡ w)
only_back form v w e = let both = guard_some (fits form v) (Some v) w e in let same : v ≡ w = cc in (rw (← same) both.0, same)

written_again : (form : Form) (v : ℕ) → IsSmall form → fits form v ≡ true → written_value form (value_text form v) ≡ Some v
written_again Vota v s e = let zero_is : v ≡ 0 = grind (arith, nat_tests) in rw zero_is refl
written_again (Between low high) v s e = decimal_value-decimal v (between_small low high v e s)
written_again Date v s e = digits_value-padded 8 v (is_date-below v e)
written_again Time v s e = digits_value-padded 6 v (time_small v e)

written_back : (form : Form) (t : List ℕ) (v : ℕ) → written_value form t ≡ Some v → t ≡ value_text form v
written_back Vota t v e = let both = guard_some (bytes_eq t (codes "VOTA")) (Some 0) v e in (bytes_eq-Decides t (codes "VOTA")).0 both.0
written_back (Between low high) t v e = sym (decimal-decimal_value t v e)
written_back Date t v e = sym (padded-digits_value 8 t v e)
written_back Time t v e = sym (padded-digits_value 6 t v e)

value_again : (form : Form) (v : ℕ) → IsSmall form → fits form v ≡ true → value_at form (value_text form v) ≡ Some v
unfolding value_at
value_again form v s e = rw (written_again form v s e, e) refl

-- the number of a field that is written is read
pub number_again : (r : Row) (v : ℕ) → IsSmall r.form → fits r.form v ≡ true → number_at r (row_text r v) ≡ Some v
unfolding number_at
number_again r v s e = rw (after_word-append r.key (58 ∷ value_text r.form v)) (value_again r.form v s e)

value_back : (form : Form) (t : List ℕ) (v : ℕ) → value_at form t ≡ Some v → (t ≡ value_text form v) × (fits form v ≡ true)
unfolding value_at
value_back form t v e =
    let inner = and_then_some (written_value form t) (only_fitting form) v e in
    let fit = only_back form inner.0 v inner.2 in
    (written_back form t v (inner.1 ∙ ap (λ (x : ℕ). Some x) fit.1), fit.0)

-- a field that was read is the one that is written
pub number_back : (r : Row) (p : List ℕ) (v : ℕ) → number_at r p ≡ Some v → (p ≡ row_text r v) × (fits r.form v ≡ true)
unfolding number_at
number_back r p v e =
    let outer = and_then_some (option_and_then (after_word (58 ∷ [])) (after_word r.key p)) (value_at r.form) v e in
    let colon = and_then_some (after_word r.key p) (after_word (58 ∷ [])) outer.0 outer.1 in
    let text = value_back r.form outer.0 v outer.2 in
    let behind : colon.0 ≡ 58 ∷ value_text r.form v = after_word-some (58 ∷ []) colon.0 outer.0 colon.2
    ∙ ap (λ (x : List ℕ). 58 ∷ x) text.0 in
    (after_word-some r.key p colon.0 colon.1 ∙ ap (λ (x : List ℕ). r.key ++ x) behind, text.1)

-- ---- a candidate's field

vote_small : (digits : ℕ) (c : Count) → is_vote digits c ≡ true → c.votes < 10 ^ 18
vote_small digits c e = let few = (both_from_and (has_digits digits c.number) (is_some_votes c.votes) e).1 in
    between_small 1 9999 c.votes few (lit< tt)

-- the numbers of candidates are small
pub number_small : (code : ℕ) (c : Count) → is_vote (digits_in code) c ≡ true → c.number < 10 ^ 18
number_small code c e =
    let has = (both_from_and (has_digits (digits_in code) c.number) (is_some_votes c.votes) e).0 in
    let few = has_digits-below (digits_in code) c.number (digits_few code) has in
    omega arith

pub vote_again : (digits : ℕ) (c : Count) → c.number < 10 ^ 18 → is_vote digits c ≡ true
    → vote_at digits (row_text (vote_row c.number) c.votes) ≡ Some c
unfolding vote_at
vote_again digits c small e =
    let votes_small : c.votes < 10 ^ 18 = vote_small digits c e in
    let number = decimal_value-decimal c.number small in
    let votes = decimal_value-decimal c.votes votes_small in
    let first = piece_first 58 (decimal c.number) (decimal c.votes) (decimal_lacks 58 c.number (inr (lit< tt)) small) in
    let second = piece_last 58 (decimal c.votes) (decimal_lacks 58 c.votes (inr (lit< tt)) votes_small) in
    rw (first, second, number, votes, e) refl

-- ---- what is no candidate's field

vote_of_none : (digits : ℕ) (a : List ℕ) (rest : List (List ℕ)) → decimal_value a ≡ None → vote_of digits (a ∷ rest) ≡ None
vote_of_none digits a [] h = refl
vote_of_none digits a (b ∷ []) h = rw h refl
vote_of_none digits a (b ∷ c ∷ more) h = refl

-- a field whose key is no number is no candidate's
pub vote_none : (digits : ℕ) (key t : List ℕ) → Lacks 58 key → decimal_value key ≡ None
    → vote_at digits (key ++ 58 ∷ t) ≡ None
unfolding vote_at
vote_none digits key t h n = rw (piece_first 58 key t h) (vote_of_none digits key (slice_split (λ b. b == 58) t) n)

-- ---- what is no other field

-- a text that begins with a digit doesn't begin with this word
pub digits_first : (b : ℕ) (word t rest : List ℕ) → is_digit b ≡ false → 0 < length t → list_all is_digit t ≡ true → after_word (b ∷ word) (t ++ rest) ≡ None
digits_first b word [] rest other some h = absurd (omega arith)
digits_first b word (x ∷ t) rest other some h = elim (cases_Bool (x == b)) [
  | inl e ↦
      let digit : is_digit b ≡ true = ap is_digit (sym (eqb-true x b e)) ∙ (both_from_and (is_digit x) (list_all is_digit t) h).0 in
      absurd (cc)
  | inr e ↦ rw e refl
]

-- that of a candidate isn't that of the places
pub vote_not_places : (code : ℕ) (c : Count) → is_vote (digits_in code) c ≡ true → number_at TABLE.places (vote_field c).text ≡ None
unfolding number_at
vote_not_places code c h =
    let both = both_from_and (has_digits (digits_in code) c.number) (is_some_votes c.votes) h in
    let few = has_digits-below (digits_in code) c.number (digits_few code) both.0 in
    let word = digits_first 76 (codes "UGA") (decimal c.number) (58 ∷ value_text TABLE.votes c.votes) refl (decimal_nonempty c.number (omega arith)) (all_digits c.number (number_small code c h)) in
    rw word refl

-- a candidate's field that was read is the one that is written
pub vote_back : (digits : ℕ) (p : List ℕ) (c : Count) → vote_at digits p ≡ Some c
    → (p ≡ row_text (vote_row c.number) c.votes) × (is_vote digits c ≡ true)
unfolding vote_at
vote_back digits p c e = split_back digits p c (slice_split (λ b. b == 58) p) (join_with_byte-slice_split 58 p) e
  where
    pair_back : (a b : List ℕ) → a ++ 58 ∷ b ≡ p → vote_of digits (a ∷ b ∷ []) ≡ Some c
        → (p ≡ row_text (vote_row c.number) c.votes) × (is_vote digits c ≡ true)
    pair_back a b whole e =
        let first = and_then_some (decimal_value a) (λ number. option_and_then (vote_with digits number) (decimal_value b)) c e in
        let second = and_then_some (decimal_value b) (vote_with digits first.0) c first.2 in
        let found : Count = record { number = first.0; votes = second.0 } in
        let both = guard_some (is_vote digits found) (Some found) c second.2 in
        let same : found ≡ c = cc in
        let P : Count → Type 0 = λ x. (p ≡ row_text (vote_row x.number) x.votes) × (is_vote digits x ≡ true) in
        subst P same (
          sym whole ∙ (ap (λ (x : List ℕ). x ++ 58 ∷ b) (sym (decimal-decimal_value a first.0 first.1))
              ∙ ap (λ (x : List ℕ). decimal first.0 ++ 58 ∷ x) (sym (decimal-decimal_value b second.0 second.1))),
          both.0,
        )

    split_back : (digits' : ℕ) (p' : List ℕ) (c' : Count) (parts : List (List ℕ)) → join_with_byte 58 parts ≡ p
        → vote_of digits parts ≡ Some c → (p ≡ row_text (vote_row c.number) c.votes) × (is_vote digits c ≡ true)
    split_back d q x [] whole e = absurd (cc)
    split_back d q x (a ∷ []) whole e = absurd (cc)
    split_back d q x (a ∷ b ∷ []) whole e = pair_back a b whole e
    split_back d q x (a ∷ b ∷ more ∷ rest) whole e = absurd (cc)

-- A line that is read is of the form, and a file that is read was made so.
use Rattle.std.proofs.Common.{◌≡◌, ℕ, ◌<◌, ◌≤◌, ◌^◌, Bool, true, false, List, [], ◌∷◌, ◌++◌, length, Option, Some, None, refl, sym, ap, ◌∙◌, subst, arith}
use Rattle.std.specs.Prelude.{codes, not, nat_lt, ◌==◌, ◌&&◌, ◌||◌, if◌then◌else◌}
use Rattle.std.specs.List.{slice_split, AllByRecursion, join_with_byte}
use Rattle.std.specs.Option.{option_and_then, option_map}
use Rattle.std.specs.Str.{bytes_eq}
use Rattle.std.specs.Fmt.{decimal}
use Rattle.std.proofs.lemmas.List.Splits.{join_with_byte-slice_split}
use Rattle.std.proofs.lemmas.Slice.Eq.{bytes_eq-Decides}
use Rattle.std.proofs.lemmas.Bool.Decides.{nat_tests}
use Rattle.std.proofs.lemmas.Bool.{not-false}
use Rattle.urna_base.specs.Digits.{decimal_value}
use Rattle.urna_base.proofs.DecimalLaws.{decimal-decimal_value, decimal_value-below}
use Rattle.urna_base.proofs.DigitLaws.{both_from_and}
use Rattle.urna_base.proofs.Cases.{and_then_some, guard_some, map_some}
use Rattle.urna_base.proofs.WordLaws.{after_word-some}
use Rattle.hash_chain.specs.Chain.{Link, hashed_text, link_text, link_of}
use Rattle.hash_chain.specs.Cut.{part_size}
use Rattle.hash_chain.specs.declared.fault.PartFault.TheVariants.{Version, Number, Hash, Cut}
use Rattle.hash_chain.specs.Lines.{IsLink, only, is_word, is_field, two_numbers, fields_and_hash, link_of_pieces, link_in}
use Rattle.hash_chain.specs.Hash.{is_hash, hash_text}
use Rattle.hash_chain.specs.Fault.{failing_link, hash_before, fits_before}
use Rattle.hash_chain.specs.declared.fault.PartFault.{PartFault}
use Rattle.urna_base.specs.Words.{after_word, pieces, joined}
use Rattle.hash_chain.proofs.LineLaws.{regroup, numbers_text, version_text}

-- ---- readers backwards

numbers_back : (parts : List (List ℕ)) (n : ℕ × ℕ) → two_numbers parts ≡ Some n → (join_with_byte 58 parts ≡ decimal n.0 ++ 58 ∷ decimal n.1) × (n.0 < 10 ^ 18) × (n.1 < 10 ^ 18)
numbers_back [] n e = absurd (cc)
numbers_back (a ∷ []) n e = absurd (cc)
numbers_back (a ∷ b ∷ []) n e =
    let first = and_then_some (decimal_value a) (λ x. option_map (λ y. (x, y)) (decimal_value b)) n e in
    let second = map_some (λ y. (first.0, y)) (decimal_value b) n first.2 in
    let P : ℕ × ℕ → Type 0 = λ m. (a ++ 58 ∷ b ≡ decimal m.0 ++ 58 ∷ decimal m.1) × (m.0 < 10 ^ 18) × (m.1 < 10 ^ 18) in
    subst P second.2 (
      ap (λ (x : List ℕ). x ++ 58 ∷ b) (sym (decimal-decimal_value a first.0 first.1)) ∙ ap (λ (x : List ℕ). decimal first.0 ++ 58 ∷ x) (sym (decimal-decimal_value b second.0 second.1)),
      decimal_value-below a first.0 first.1,
      decimal_value-below b second.0 second.1,
    )
numbers_back (a ∷ b ∷ c ∷ more) n e = absurd (cc)

pub fields_back : (ps : List (List ℕ)) (x : List (List ℕ) × List ℕ) → fields_and_hash ps ≡ Some x
    → (ps ≡ x.0 ++ (codes "HASH:" ++ x.1) ∷ []) × AllByRecursion (λ f. is_field f ≡ true) x.0 × (is_hash x.1 ≡ true)
fields_back [] x e = absurd (cc)
fields_back (p ∷ []) x e =
    let first = and_then_some (after_word (codes "HASH:") p) (λ h. only (is_hash h) ([], h)) x e in
    let both = guard_some (is_hash first.0) (Some ([], first.0)) x first.2 in
    let same : ([], first.0) ≡ x = cc in
    let P : List (List ℕ) × List ℕ → Type 0 = λ y. (p ∷ [] ≡ y.0 ++ (codes "HASH:" ++ y.1) ∷ []) × AllByRecursion (λ f. is_field f ≡ true) y.0 × (is_hash y.1 ≡ true) in
    subst P same (ap (λ (t : List ℕ). t ∷ []) (after_word-some (codes "HASH:") p first.0 first.1), tt, both.0)
fields_back (p ∷ q ∷ ps) x e =
    let both = guard_some (is_field p) (option_map (λ y. (p ∷ y.0, y.1)) (fields_and_hash (q ∷ ps))) x e in
    let rest = map_some (λ y. (p ∷ y.0, y.1)) (fields_and_hash (q ∷ ps)) x both.1 in
    let back = fields_back (q ∷ ps) rest.0 rest.1 in
    let P : List (List ℕ) × List ℕ → Type 0 = λ y. (p ∷ q ∷ ps ≡ y.0 ++ (codes "HASH:" ++ y.1) ∷ []) × AllByRecursion (λ f. is_field f ≡ true) y.0 × (is_hash y.1 ≡ true) in
    subst P rest.2 (ap (λ (t : List (List ℕ)). p ∷ t) back.0, (both.0, back.1), back.2)

below_test : (a b : ℕ) → a < b → nat_lt a b ≡ true
below_test a b h = grind (arith, nat_tests)

whole : (q v : List ℕ) (rest : List (List ℕ)) (l : Link) → q ≡ numbers_text l.number l.parts → v ≡ version_text l.version → rest ≡ l.fields ++ (codes "HASH:" ++ l.hash) ∷ []
    → nat_lt 0 (length l.fields) ≡ true → join_with_byte 32 (q ∷ v ∷ rest) ≡ link_text l
whole q v rest l eq ev er some = by_fields l.fields refl
  where
    by_fields : (fs : List (List ℕ)) → l.fields ≡ fs → join_with_byte 32 (q ∷ v ∷ rest) ≡ link_text l
    by_fields [] e = let none = ap (λ (x : List (List ℕ)). nat_lt 0 (length x)) e in absurd (cc)
    by_fields (f ∷ fs) e =
        let words : rest ≡ (f ∷ fs) ++ (codes "HASH:" ++ l.hash) ∷ [] = er ∙ ap (λ (x : List (List ℕ)). x ++ (codes "HASH:" ++ l.hash) ∷ []) e in
        ap (λ (x : List (List ℕ)). join_with_byte 32 (q ∷ v ∷ x)) words
        ∙ (ap (λ (x : List ℕ). x ++ 32 ∷ (v ++ 32 ∷ joined ((f ∷ fs) ++ (codes "HASH:" ++ l.hash) ∷ []))) eq
        ∙ (ap (λ (x : List ℕ). numbers_text l.number l.parts ++ 32 ∷ (x ++ 32 ∷ joined ((f ∷ fs) ++ (codes "HASH:" ++ l.hash) ∷ []))) ev
        ∙ sym (regroup l f fs e)))

pieces_back : (ps : List (List ℕ)) (l : Link) → link_of_pieces ps ≡ Some l → IsLink l × (join_with_byte 32 ps ≡ link_text l)
pieces_back [] l e = absurd (cc)
pieces_back (q ∷ []) l e = absurd (cc)
pieces_back (q ∷ v ∷ rest) l e =
    let make : ℕ × ℕ → List ℕ → List (List ℕ) × List ℕ → Link = λ n version x. record { number = n.0; parts = n.1; version = version; fields = x.0; hash = x.1 } in
    let numbers = and_then_some (option_and_then (λ t. two_numbers (slice_split (λ b. b == 58) t)) (after_word (codes "QRBU:") q))
    (λ n. option_and_then (λ version. option_and_then (λ x. only (is_word version && nat_lt 0 (length x.0)) (make n version x)) (fields_and_hash rest)) (after_word (codes "VRQR:") v)) l e in
    let n : ℕ × ℕ = numbers.0 in
    let text = and_then_some (after_word (codes "QRBU:") q) (λ t. two_numbers (slice_split (λ b. b == 58) t)) n numbers.1 in
    let two = numbers_back (slice_split (λ b. b == 58) text.0) n text.2 in
    let version = and_then_some (after_word (codes "VRQR:") v) (λ w. option_and_then (λ x. only (is_word w && nat_lt 0 (length x.0)) (make n w x)) (fields_and_hash rest)) l numbers.2 in
    let x = and_then_some (fields_and_hash rest) (λ y. only (is_word version.0 && nat_lt 0 (length y.0)) (make n version.0 y)) l version.2 in
    let fields = fields_back rest x.0 x.1 in
    let tests = guard_some (is_word version.0 && nat_lt 0 (length x.0.0)) (Some (make n version.0 x.0)) l x.2 in
    let both = both_from_and (is_word version.0) (nat_lt 0 (length x.0.0)) tests.0 in
    let found : make n version.0 x.0 ≡ l = let known = tests.1 in cc in
    let q_is : q ≡ numbers_text n.0 n.1 = after_word-some (codes "QRBU:") q text.0 text.1 ∙ ap (λ (t : List ℕ). codes "QRBU:" ++ t) (sym (join_with_byte-slice_split 58 text.0) ∙ two.0) in
    let v_is : v ≡ version_text version.0 = after_word-some (codes "VRQR:") v version.0 version.1 in
    let is : IsLink (make n version.0 x.0) = record { number = below_test n.0 (10 ^ 18) two.1; parts = below_test n.1 (10 ^ 18) two.2; version = both.0; some = both.1; fields = fields.1; hash = fields.2 } in
    let P : Link → Type 0 = λ y. IsLink y × (join_with_byte 32 (q ∷ v ∷ rest) ≡ link_text y) in
    subst P found (is, whole q v rest (make n version.0 x.0) q_is v_is fields.0 both.1)

-- a line that is read is of the form
pub line_back : (bytes : List ℕ) (l : Link) → link_in bytes ≡ Some l → IsLink l × (bytes ≡ link_text l)
unfolding link_in
line_back bytes l e = let back = pieces_back (pieces bytes) l e in (back.0, sym (join_with_byte-slice_split 32 bytes) ∙ back.1)

-- ---- what a line without a fault is

pub record Fine (n i : ℕ) (before : Option Link) (l : Link) : Type 0 where
  pub line : l ≡ link_of n i (hash_before before) l.fields
  pub within : length (joined l.fields) ≤ part_size
  pub full : fits_before before l.fields ≡ false

if_none : (b : Bool) (f : PartFault) (o : Option PartFault) → (if b then Some f else o) ≡ None → (b ≡ false) × (o ≡ None)
if_none true f o e = absurd (cc)
if_none false f o e = (refl, e)

or_false : (a b : Bool) → (a || b) ≡ false → (a ≡ false) × (b ≡ false)
or_false true b e = absurd (cc)
or_false false b e = (refl, e)

equal_numbers : (m n : ℕ) → (m == n) ≡ true → m ≡ n
equal_numbers m n e = grind (arith, nat_tests)

not_long : (k : ℕ) → nat_lt part_size k ≡ false → k ≤ part_size
not_long k e = grind (arith, nat_tests)

-- a line with these parts, by its parts
same_line : (n i : ℕ) (hb : List ℕ) (l : Link) → l.number ≡ i → l.parts ≡ n → l.version ≡ codes "U1" → l.hash ≡ hash_text (hb ++ hashed_text l) → l ≡ link_of n i hb l.fields
same_line n i hb l a b v h =
    let bare : ℕ → ℕ → List ℕ → Link = λ x y z. record { number = x; parts = y; version = z; fields = l.fields; hash = hash_text (hb ++ hashed_text (record { number = x; parts = y; version = z; fields = l.fields; hash = [] })) } in
    ap (λ (t : List ℕ). record l { hash = t }) h
    ∙ (ap (λ (x : ℕ). bare x l.parts l.version) a ∙ (ap (λ (y : ℕ). bare i y l.version) b ∙ ap (λ (z : List ℕ). bare i n z) v))

pub fine : (n i : ℕ) (before : Option Link) (l : Link) → failing_link n i before l ≡ None → Fine n i before l
unfolding failing_link
fine n i before l e =
    let rule : List ℕ = hash_text (hash_before before ++ hashed_text l) in
    let v = if_none (not (bytes_eq l.version (codes "U1"))) (Version i) _ e in
    let m = if_none (not (l.number == i && l.parts == n)) (Number i) _ v.1 in
    let h = if_none (not (bytes_eq l.hash rule)) (Hash i) _ m.1 in
    let c = if_none (nat_lt part_size (length (joined l.fields)) || fits_before before l.fields) (Cut i) _ h.1 in
    let version_is : l.version ≡ codes "U1" = (bytes_eq-Decides l.version (codes "U1")).0 (not-false (bytes_eq l.version (codes "U1")) v.0) in
    let numbers = both_from_and (l.number == i) (l.parts == n) (not-false (l.number == i && l.parts == n) m.0) in
    let number_is : l.number ≡ i = equal_numbers l.number i numbers.0 in
    let parts_is : l.parts ≡ n = equal_numbers l.parts n numbers.1 in
    let hash_is : l.hash ≡ rule = (bytes_eq-Decides l.hash rule).0 (not-false (bytes_eq l.hash rule) h.0) in
    let sizes = or_false (nat_lt part_size (length (joined l.fields))) (fits_before before l.fields) c.0 in
    let long : nat_lt part_size (length (joined l.fields)) ≡ false = sizes.0 in
    record { line = same_line n i (hash_before before) l number_is parts_is version_is hash_is; within = not_long (length (joined l.fields)) long; full = sizes.1 }

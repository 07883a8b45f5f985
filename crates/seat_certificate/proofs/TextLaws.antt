-- A text spells one certificate or has one first bad line, which reading line by line finds.
use Rattle.std.proofs.Common.{◌≡◌, ℕ, suc, ◌+◌, ◌≤◌, List, [], ◌++◌, length, take, drop, ◌⊎◌, inl, inr, refl, sym, ap, ◌∙◌, subst, append-nil, append_assoc, length-append, arith}
use Rattle.std.specs.Prelude.{Result, Ok, Err}
use Rattle.std.proofs.lemmas.Bool.{cases_order}
use Rattle.std.proofs.lemmas.List.{take-append-drop, take-take, length-take-le}
use Rattle.std.proofs.Math.Seq.{take-append_seam}
use Rattle.urna_base.proofs.Every.{every_take}
use Rattle.seat_certificate.specs.declared.certificate.Certificate.{Certificate}
use Rattle.seat_certificate.specs.Reading.{AtStart, goes, lines_in, read_by}
use Rattle.urna_base.specs.Lines.{lines_text}
use Rattle.urna_base.proofs.LineLaws.{lines_text-append}
use Rattle.seat_certificate.specs.Text.{BeginsAs, HasText, IsFirstBadLine, Spells, certificate_lines, certificate_text}
use Rattle.seat_certificate.proofs.Complete.{complete}
use Rattle.seat_certificate.proofs.Fronts.{front_bad}
use Rattle.seat_certificate.proofs.Machine.{same_read}
use Rattle.seat_certificate.proofs.Pieces.{lines_back, lines_of_text}
use Rattle.urna_base.proofs.Lacking.{Lacks}
use Rattle.seat_certificate.proofs.Plain.{lines_lack}
use Rattle.seat_certificate.proofs.Reached.{on_the_way, reached, whole}

-- what is read is spelled
pub read_spells : (bytes : List ℕ) (code : ℕ) (c : Certificate) → read_by bytes ≡ Ok (code, c) → Spells bytes code c
unfolding read_by certificate_text
read_spells bytes code c h =
    let w = whole 1 AtStart (lines_in bytes).0 (lines_in bytes).1 code c tt h in
    record {
      fits = w.fits;
      text = sym (lines_back bytes) ∙ ap (λ (t : List ℕ). lines_text (lines_in bytes).0 ++ t) w.none ∙ append-nil (lines_text (lines_in bytes).0) ∙ ap lines_text w.all;
    }

-- what is spelled is read
pub spelled_read : (bytes : List ℕ) (code : ℕ) (c : Certificate) → Spells bytes code c → read_by bytes ≡ Ok (code, c)
unfolding read_by certificate_text lines_in
spelled_read bytes code c s =
    let text : bytes ≡ lines_text (certificate_lines code c) ++ [] = s.text ∙ sym (append-nil (lines_text (certificate_lines code c))) in
    let lines = ap lines_in text ∙ lines_of_text (certificate_lines code c) [] (lines_lack code c s.fits) in
    ap (λ (x : List (List ℕ) × List ℕ). goes 1 AtStart x.0 x.1) lines
    ∙ ap (λ (l : List (List ℕ)). goes 1 AtStart l []) (append-nil (certificate_lines code c))
    ∙ complete code c s.fits

text_cut : (n : ℕ) (lines : List (List ℕ)) → lines_text lines ≡ lines_text (take n lines) ++ lines_text (drop n lines)
text_cut n lines = ap lines_text (sym (take-append-drop n lines)) ∙ lines_text-append (take n lines) (drop n lines)

fewer : (m n : ℕ) (bytes : List ℕ) (code : ℕ) (c : Certificate) → m ≤ n → BeginsAs n bytes code c → BeginsAs m bytes code c
fewer m n bytes code c le (within, rest, is) =
    let all = certificate_lines code c in (
      omega arith,
      lines_text (drop m (take n all)) ++ rest,
      is
          ∙ ap (λ (t : List ℕ). t ++ rest) (text_cut m (take n all) ∙ ap (λ (l : List (List ℕ)). lines_text l ++ lines_text (drop m (take n all))) (take-take m n all le))
          ∙ append_assoc (lines_text (take m all)) (lines_text (drop m (take n all))) rest,
    )

-- the lines of a text that begins as a certificate
begun : (n : ℕ) (bytes : List ℕ) (code : ℕ) (c : Certificate) → HasText code c → BeginsAs n bytes code c → (n ≤ length (lines_in bytes).0) × (take n (lines_in bytes).0 ≡ take n (certificate_lines code c))
begun n bytes code c is (within, rest, e) =
    let front = take n (certificate_lines code c) in
    let lines : (lines_in bytes).0 ≡ front ++ (lines_in rest).0 =
    ap (λ (t : List ℕ). (lines_in t).0) e ∙ ap (λ (x : List (List ℕ) × List ℕ). x.0) (lines_of_text front rest (every_take (Lacks 10) n (certificate_lines code c) (lines_lack code c is))) in
    let len : length front ≡ n = length-take-le n (certificate_lines code c) within in
    let count = ap (λ (l : List (List ℕ)). length l) lines ∙ length-append front (lines_in rest).0 in (
      omega (arith, count, len),
      ap (λ (l : List (List ℕ)). take n l) lines ∙ ap (λ (m : ℕ). take m (front ++ (lines_in rest).0)) (sym len) ∙ take-append_seam front (lines_in rest).0,
    )

next_front : (n : ℕ) (xs ys : List (List ℕ)) → take (n + 1) xs ≡ take (n + 1) ys → take (suc n) xs ≡ take (suc n) ys
next_front n xs ys e = let next : n + 1 ≡ suc n = omega arith in subst (λ (m : ℕ). take m xs ≡ take m ys) next e

-- the number that is read for no certificate is that of the first bad line
pub read_bad : (bytes : List ℕ) (k : ℕ) → read_by bytes ≡ Err k → IsFirstBadLine bytes k
unfolding read_by
read_bad bytes k h =
    let lines = (lines_in bytes).0 in
    let tail = (lines_in bytes).1 in
    let r = reached 1 k AtStart lines tail tt h in
    let n = r.count in
    let way = on_the_way r.state r.is in
    let all : certificate_lines way.code way.certificate ≡ take n lines ++ way.rest = way.begins ∙ ap (λ (l : List (List ℕ)). l ++ way.rest) r.lines_are in
    let len : length (take n lines) ≡ n = length-take-le n lines r.within in
    let front : take n (certificate_lines way.code way.certificate) ≡ take n lines =
    ap (λ (l : List (List ℕ)). take n l) all ∙ ap (λ (m : ℕ). take m (take n lines ++ way.rest)) (sym len) ∙ take-append_seam (take n lines) way.rest in
    let count = ap (λ (l : List (List ℕ)). length l) all ∙ length-append (take n lines) way.rest in
    let text : bytes ≡ lines_text (take n lines) ++ (lines_text (drop n lines) ++ tail) =
    sym (lines_back bytes) ∙ ap (λ (t : List ℕ). t ++ tail) (text_cut n lines) ∙ append_assoc (lines_text (take n lines)) (lines_text (drop n lines)) tail in
    record {
      place = n;
      number = omega (arith, r.number);
      code = way.code;
      certificate = way.certificate;
      fits = way.fits;
      before = (omega (arith, count, len), lines_text (drop n lines) ++ tail, text ∙ ap (λ (l : List (List ℕ)). lines_text l ++ (lines_text (drop n lines) ++ tail)) (sym front));
      here = λ m d fits begins.
          let found = begun (n + 1) bytes m d fits begins in
          let bad = front_bad 1 AtStart lines (certificate_lines m d) tail [] n k h r.number (omega (arith, found.0)) (next_front n lines (certificate_lines m d) found.1) in
          let good = complete m d fits in
          absurd (cc);
      whole = λ m d spells. let good = spelled_read bytes m d spells in absurd (cc);
    }

-- and a text has one first bad line
pub one_bad : (bytes : List ℕ) (j k : ℕ) → IsFirstBadLine bytes j → IsFirstBadLine bytes k → j ≡ k
one_bad bytes j k a b = elim (cases_order a.place b.place) [
  | inl e ↦ a.number ∙ ap (λ n. n + 1) e ∙ sym b.number
  | inr w ↦ elim w [
    | inl lt ↦ absurd (a.here b.code b.certificate b.fits (fewer (a.place + 1) b.place bytes b.code b.certificate (omega arith) b.before))
    | inr gt ↦ absurd (b.here a.code a.certificate a.fits (fewer (b.place + 1) a.place bytes a.code a.certificate (omega arith) a.before))
  ]
]

-- so the first bad line is what is read
pub bad_read : (bytes : List ℕ) (k : ℕ) → IsFirstBadLine bytes k → read_by bytes ≡ Err k
bad_read bytes k bad = answered (read_by bytes) refl
  where
    answered : (r : Result (ℕ × Certificate) ℕ) → read_by bytes ≡ r → read_by bytes ≡ Err k
    answered (Ok x) e = absurd (bad.whole x.0 x.1 (read_spells bytes x.0 x.1 e))
    answered (Err j) e = e ∙ ap (λ (n : ℕ). Err n) (one_bad bytes j k (read_bad bytes j e) bad)

-- ---- as laws

pub spells_or_bad : (bytes : List ℕ) → ((code : ℕ) × (c : Certificate) × Spells bytes code c) ⊎ ((k : ℕ) × IsFirstBadLine bytes k)
spells_or_bad bytes = answered (read_by bytes) refl
  where
    answered : (r : Result (ℕ × Certificate) ℕ) → read_by bytes ≡ r → ((code : ℕ) × (c : Certificate) × Spells bytes code c) ⊎ ((k : ℕ) × IsFirstBadLine bytes k)
    answered (Ok x) e = inl (x.0, x.1, read_spells bytes x.0 x.1 e)
    answered (Err k) e = inr (k, read_bad bytes k e)

pub not_both : (bytes : List ℕ) (code : ℕ) (c : Certificate) (k : ℕ) → Spells bytes code c → IsFirstBadLine bytes k → ⊥
not_both bytes code c k s bad = bad.whole code c s

same_pair : (m n : ℕ) (c d : Certificate) (r : Result (ℕ × Certificate) ℕ) → r ≡ Ok (m, c) → r ≡ Ok (n, d) → (m ≡ n) × (c ≡ d)
same_pair m n c d r p q = let both = same_read (m, c) (n, d) r p q in (ap (λ (x : ℕ × Certificate). x.0) both, ap (λ (x : ℕ × Certificate). x.1) both)

pub spells_one : (bytes : List ℕ) (m n : ℕ) (c d : Certificate) → Spells bytes m c → Spells bytes n d → (m ≡ n) × (c ≡ d)
spells_one bytes m n c d s t = same_pair m n c d (read_by bytes) (spelled_read bytes m c s) (spelled_read bytes n d t)

-- The text of the first votes of a bag, and of the first panels, and texts that are put together piece by piece
use Rattle.std.proofs.Common.{◌≡◌, ℕ, zero, suc, ◌+◌, ◌<◌, ◌^◌, List, [], ◌∷◌, ◌++◌, length, take, slice_get, Some, unwrap_or, refl, ap, sym, ◌∙◌, append_assoc, add-one, arith}
use Rattle.std.specs.Prelude.{codes, map}
use Rattle.std.specs.Fmt.{decimal}
use Rattle.std.specs.List.{concat, flat_map, zip}
use Rattle.std.proofs.lemmas.List.{append-nil}
use Rattle.std.proofs.lemmas.List.Concat.{concat_is}
use Rattle.std.proofs.lemmas.List.Folds.{concat-append, flat_map-map}
use Rattle.urna_base.specs.Digits.{padded}
use Rattle.urna_base.proofs.MomentLaws.{is_date-below}
use Rattle.election_tables.specs.TablesData.{TablesData, IsTables}
use Rattle.election_tables.specs.declared.tables.panels.Panel.{Panel}
use Rattle.vote_kinds.specs.declared.choice.Choice.{Choice}
use Rattle.vote_kinds.specs.Ballot.{no_panel}
use Rattle.vote_record.specs.RecordText.{end_words, format_words, heading_words, line_end, office_words, record_lines, vote_line}

-- the date of a poll has at most eight digits
pub short_date : (t : TablesData) → IsTables t → t.date < 10 ^ 8
short_date t is = is_date-below t.date is.date

piece : {X Y : Type 0} (f : X → List Y) (xs : List X) (i : ℕ) (x : X) → slice_get xs i ≡ Some x
    → flat_map f (take (suc i) xs) ≡ flat_map f (take i xs) ++ f x
piece f [] i x e = absurd (cc)
piece f (y ∷ xs) zero x e = let same : y ≡ x = cc in append-nil (f y) ∙ ap f same
piece f (y ∷ xs) (suc i) x e = ap (λ (l : List _). f y ++ l) (piece f xs i x e) ∙ sym (append_assoc (f y) (flat_map f (take i xs)) (f x))

grown : {X Y : Type 0} (f : X → List Y) (xs : List X) (i : ℕ) (x : X) → slice_get xs i ≡ Some x
    → flat_map f (take (i + 1) xs) ≡ flat_map f (take i xs) ++ f x
grown f xs i x there = ap (λ (k : ℕ). flat_map f (take k xs)) (add-one i) ∙ piece f xs i x there

-- what was written, and then the text of one element more
pub one_more : {X : Type 0} (f : X → List ℕ) (xs : List X) (i : ℕ) (x : X) (before now after : List ℕ) → slice_get xs i ≡ Some x
    → now ≡ before ++ flat_map f (take i xs) → after ≡ now ++ f x → after ≡ before ++ flat_map f (take (i + 1) xs)
one_more f xs i x before now after there e h =
    h ∙ ap (λ (l : List ℕ). l ++ f x) e
    ∙ append_assoc before (flat_map f (take i xs)) (f x)
    ∙ ap (λ (l : List ℕ). before ++ l) (sym (grown f xs i x there))

-- the same of lines
pub lines_more : {X : Type 0} (f : X → List (List ℕ)) (xs : List X) (i : ℕ) (x : X) (before now after : List ℕ) → slice_get xs i ≡ Some x
    → now ≡ before ++ concat (flat_map f (take i xs)) → after ≡ now ++ concat (f x) → after ≡ before ++ concat (flat_map f (take (i + 1) xs))
lines_more f xs i x before now after there e h =
    let more : flat_map f (take (i + 1) xs) ≡ flat_map f (take i xs) ++ f x = grown f xs i x there in
    h ∙ ap (λ (l : List ℕ). l ++ concat (f x)) e
    ∙ append_assoc before (concat (flat_map f (take i xs))) (concat (f x))
    ∙ ap (λ (l : List ℕ). before ++ l) (sym (ap concat more ∙ concat-append (flat_map f (take i xs)) (f x)))

-- the lines of votes, one behind the other
pub vote_lines : (votes : List Choice) → flat_map vote_line votes ≡ concat (map vote_line votes)
vote_lines votes = sym (concat_is (map vote_line votes) ∙ flat_map-map (λ x. x) vote_line votes)

-- a panel of the tables and its bag
pub pair_at : (panels : List Panel) (bags : List (List Choice)) (i : ℕ) → i < length panels → i < length bags
    → slice_get (zip panels bags) i ≡ Some (unwrap_or (slice_get panels i) no_panel, unwrap_or (slice_get bags i) [])
pair_at [] bags i h g = absurd (omega arith)
pair_at (p ∷ panels) [] i h g = absurd (omega arith)
pair_at (p ∷ panels) (bag ∷ bags) zero h g = refl
pair_at (p ∷ panels) (bag ∷ bags) (suc i) h g = pair_at panels bags i (omega arith) (omega arith)

-- the second line, whose pieces are written one behind the other
pub heading_joined : (process date turn zone section : ℕ) (o a b c d e f end : List ℕ)
    → a ≡ o ++ (codes "PROC " ++ decimal process) → b ≡ a ++ codes " DTPL " → c ≡ b ++ padded 8 date → d ≡ c ++ (codes " TURN " ++ decimal turn)
    → e ≡ d ++ (codes " ZONA " ++ decimal zone) → f ≡ e ++ (codes " SECA " ++ decimal section) → end ≡ f ++ line_end
    → end ≡ o ++ (heading_words process date turn zone section ++ line_end)
unfolding heading_words
heading_joined process date turn zone section o a b c d e f end ha hb hc hd he hf hend =
    rw (hend, hf, he, hd, hc, hb, ha)
    (joined o (codes "PROC ") (decimal process) (codes " DTPL ") (padded 8 date) (codes " TURN ") (decimal turn) (codes " ZONA ") (decimal zone)
    (codes " SECA ") (decimal section) line_end)
  where
    joined : (o a b c d e f g h i j end : List ℕ)
        → ((((((o ++ (a ++ b)) ++ c) ++ d) ++ (e ++ f)) ++ (g ++ h)) ++ (i ++ j)) ++ end
        ≡ o ++ ((a ++ (b ++ (c ++ (d ++ (e ++ (f ++ (g ++ (h ++ (i ++ j))))))))) ++ end)
    joined o a b c d e f g h i j end = simp append_assoc refl

-- the line of an office
pub office_joined : (code votes : ℕ) (o a b end : List ℕ)
    → a ≡ o ++ (codes "CARG " ++ decimal code) → b ≡ a ++ (codes " " ++ decimal votes) → end ≡ b ++ line_end → end ≡ o ++ (office_words code votes ++ line_end)
unfolding office_words
office_joined code votes o a b end ha hb hend =
    rw (hend, hb, ha) (joined o (codes "CARG ") (decimal code) (codes " ") (decimal votes) line_end)
  where
    joined : (o a b c d end : List ℕ) → ((o ++ (a ++ b)) ++ (c ++ d)) ++ end ≡ o ++ ((a ++ (b ++ (c ++ d))) ++ end)
    joined o a b c d end = simp append_assoc refl

-- the pieces of a whole record
pub record_joined : (heading : List ℕ) (offices : List (List ℕ))
    → (((format_words ++ line_end) ++ (heading ++ line_end)) ++ concat offices) ++ (end_words ++ line_end) ≡ concat (record_lines heading offices)
unfolding record_lines
record_joined heading offices =
    append_assoc ((format_words ++ line_end) ++ (heading ++ line_end)) (concat offices) (end_words ++ line_end)
    ∙ ap (λ (l : List ℕ). ((format_words ++ line_end) ++ (heading ++ line_end)) ++ l) (sym (concat-append offices ((end_words ++ line_end) ∷ [])))
    ∙ append_assoc (format_words ++ line_end) (heading ++ line_end) (concat (offices ++ (end_words ++ line_end) ∷ []))

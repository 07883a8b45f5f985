-- Files of a shelf: the first of a name, one in the stead of another, and one before all others.
use Rattle.std.proofs.Common.{◌≡◌, ◌≢◌, ℕ, zero, suc, ◌+◌, ◌-◌, ◌<◌, ◌≤◌, true, false, if◌then◌else◌, Some, List, [], ◌∷◌, ◌++◌, All, length, get_or, set, take, drop, refl, sym, ap, ◌∙◌, arith, append_assoc, append-nil, length-append, length-drop}
use Rattle.std.specs.List.{slice_range}
use Rattle.std.specs.Str.{bytes_eq}
use Rattle.std.proofs.lemmas.Bool.{false_from_ne_true}
use Rattle.std.proofs.lemmas.List.{drop-append-le, take-append-le}
use Rattle.std.proofs.lemmas.List.Elements.{All-head, All-tail}
use Rattle.std.proofs.lemmas.Slice.Eq.{bytes_eq-Decides}
use Rattle.std.proofs.Math.Seq.{drop-append_seam, take-append_seam}
use Rattle.urna_outside.specs.Cabinet.{Holds, IsPut, Lacks, file_at}
use Rattle.memory_outside.specs.Item.{end_in_row, entry_of, files_of, is_named, IsFirstNamed}
use Rattle.memory_outside.specs.declared.item.Item.{Item}
use Rattle.memory_outside.specs.declared.item.Item.TheVariants.{Placed, Put}

-- where no item has the name there is no file of it
pub lacks_unnamed : (row name : List ℕ) (items : List Item) → ((k : ℕ) (d : Item) → k < length items → is_named row name (get_or items k d) ≡ false) → Lacks name (files_of row items)
lacks_unnamed row name [] none = refl
lacks_unnamed row name (x ∷ xs) none =
    ap (λ t. if t then Some (entry_of row x).bytes else file_at name (files_of row xs)) (none zero x (omega arith))
    ∙ lacks_unnamed row name xs (λ k d below. none (suc k) d (omega (arith, below)))

-- the first item of a name is the name's file
there : (row name : List ℕ) (items : List Item) (at : ℕ) (item : Item) → at < length items → get_or items at item ≡ item → is_named row name item ≡ true
    → ((k : ℕ) → k < at → is_named row name (get_or items k item) ≡ false) → Holds name (entry_of row item).bytes (files_of row items)
there row name [] at item within is named before = absurd (omega (arith, within))
there row name (x ∷ xs) zero item within is named before =
    ap (λ (y : Item). if is_named row name y then Some (entry_of row y).bytes else file_at name (files_of row xs)) is
    ∙ ap (λ t. if t then Some (entry_of row item).bytes else file_at name (files_of row xs)) named
there row name (x ∷ xs) (suc at) item within is named before =
    ap (λ t. if t then Some (entry_of row x).bytes else file_at name (files_of row xs)) (before zero (omega arith))
    ∙ there row name xs at item (omega (arith, within)) is named (λ k below. before (suc k) (omega (arith, below)))

pub holds_first : (row name : List ℕ) (items : List Item) (at : ℕ) (item : Item) → IsFirstNamed row name items at → item ≡ get_or items at item → Holds name (entry_of row item).bytes (files_of row items)
holds_first row name items at item first is =
    there row name items at item first.within (sym is) (ap (is_named row name) is ∙ first.named item) (λ k below. first.before k item below)

-- an item in the stead of another
there_set : (row name : List ℕ) (items : List Item) (at : ℕ) (new : Item) → at < length items → ((k : ℕ) → k < at → is_named row name (get_or items k new) ≡ false) → is_named row name new ≡ true
    → Holds name (entry_of row new).bytes (files_of row (set items at new))
there_set row name [] at new within before named = absurd (omega (arith, within))
there_set row name (x ∷ xs) zero new within before named =
    ap (λ t. if t then Some (entry_of row new).bytes else file_at name (files_of row xs)) named
there_set row name (x ∷ xs) (suc at) new within before named =
    ap (λ t. if t then Some (entry_of row x).bytes else file_at name (files_of row (set xs at new))) (before zero (omega arith))
    ∙ there_set row name xs at new (omega (arith, within)) (λ k below. before (suc k) (omega (arith, below))) named

others_set : (row other : List ℕ) (items : List Item) (at : ℕ) (new d : Item) → is_named row other new ≡ false → is_named row other (get_or items at d) ≡ false
    → file_at other (files_of row (set items at new)) ≡ file_at other (files_of row items)
others_set row other [] at new d unnamed was = refl
others_set row other (x ∷ xs) zero new d unnamed was =
    ap (λ t. if t then Some (entry_of row new).bytes else file_at other (files_of row xs)) unnamed
    ∙ sym (ap (λ t. if t then Some (entry_of row x).bytes else file_at other (files_of row xs)) was)
others_set row other (x ∷ xs) (suc at) new d unnamed was =
    ap (λ r. if is_named row other x then Some (entry_of row x).bytes else r) (others_set row other xs at new d unnamed was)

-- what has one name has no other
named_once : (own name other : List ℕ) → other ≢ name → bytes_eq own name ≡ true → bytes_eq own other ≡ false
named_once own name other differ named =
    let is : own ≡ name = (bytes_eq-Decides own name).0 named in
    false_from_ne_true (bytes_eq own other) (λ same. differ (sym ((bytes_eq-Decides own other).0 same) ∙ is))

named_by : (own name : List ℕ) → own ≡ name → bytes_eq own name ≡ true
named_by own name is = (bytes_eq-Decides own name).1 is

pub replaced_there : (row name bytes : List ℕ) (items : List Item) (at : ℕ) (new : Item) → IsFirstNamed row name items at → (entry_of row new).name ≡ name → (entry_of row new).bytes ≡ bytes
    → Holds name bytes (files_of row (set items at new))
replaced_there row name bytes items at new first named kept =
    there_set row name items at new first.within (λ k below. first.before k new below) (named_by (entry_of row new).name name named) ∙ ap (λ b. Some b) kept

pub replaced_others : (row name : List ℕ) (items : List Item) (at : ℕ) (new : Item) → IsFirstNamed row name items at → (entry_of row new).name ≡ name
    → IsPut name (files_of row items) (files_of row (set items at new))
replaced_others row name items at new first named other differ =
    others_set row other items at new new (named_once (entry_of row new).name name other differ (named_by (entry_of row new).name name named))
    (named_once (entry_of row (get_or items at new)).name name other differ (first.named new))

-- what stood in the row still stands there when more comes behind it
part_stays : (row more : List ℕ) (from n : ℕ) → from + n ≤ length row → slice_range (row ++ more) from (from + n) ≡ slice_range row from (from + n)
part_stays row more from n within =
    ap (take (from + n - from)) (drop-append-le from row more (omega (arith, within)))
    ∙ take-append-le (from + n - from) (drop from row) more (omega (arith, within, length-drop from row))

entry_stays : (row more : List ℕ) (item : Item) → end_in_row item ≤ length row → entry_of (row ++ more) item ≡ entry_of row item
entry_stays row more (Placed name bytes) within = refl
entry_stays row more (Put start name bytes) within =
    let named = part_stays row more start name (omega (arith, within)) in
    let kept = part_stays row more (start + name) bytes within in
    ap (λ n. record { name = n; bytes = slice_range (row ++ more) (start + name) (start + name + bytes) }) named
    ∙ ap (λ b. record { name = slice_range row start (start + name); bytes = b }) kept

files_stay : (row more : List ℕ) (items : List Item) → All (λ item. end_in_row item ≤ length row) items → files_of (row ++ more) items ≡ files_of row items
files_stay row more [] within = refl
files_stay row more (x ∷ xs) within =
    ap (λ e. e ∷ files_of (row ++ more) xs) (entry_stays row more x (All-head (λ item. end_in_row item ≤ length row) x xs within))
    ∙ ap (λ es. entry_of row x ∷ es) (files_stay row more xs (All-tail (λ item. end_in_row item ≤ length row) x xs within))

-- and what came stands behind it
part_came : (row more rest : List ℕ) → slice_range (row ++ more ++ rest) (length row) (length row + length more) ≡ more
part_came row more rest =
    ap (λ l. take (length row + length more - length row) (drop (length row) l)) (append_assoc row more rest)
    ∙ ap (take (length row + length more - length row)) (drop-append_seam row (more ++ rest))
    ∙ ap (λ n. take n (more ++ rest)) (omega arith)
    ∙ take-append_seam more rest

last_came : (row more : List ℕ) (n : ℕ) → n ≡ length row → slice_range (row ++ more) n (n + length more) ≡ more
last_came row more n is =
    ap (λ k. slice_range (row ++ more) k (k + length more)) is
    ∙ ap (λ l. slice_range l (length row) (length row + length more)) (sym (append-nil (row ++ more)))
    ∙ part_came row more []

entry_came : (row name bytes : List ℕ) → entry_of (row ++ name ++ bytes) (Put (length row) (length name) (length bytes)) ≡ record { name = name; bytes = bytes }
entry_came row name bytes =
    let all = row ++ name ++ bytes in
    let end = length row + length name in
    ap (λ n. record { name = n; bytes = slice_range all end (end + length bytes) }) (part_came row name bytes)
    ∙ ap (λ b. record { name = name; bytes = b }) (last_came (row ++ name) bytes end (sym (length-append row name)))

pub put_first : (row name bytes later : List ℕ) (items now : List Item) → All (λ item. end_in_row item ≤ length row) items
    → later ≡ row ++ name ++ bytes → now ≡ Put (length row) (length name) (length bytes) ∷ items → files_of later now ≡ record { name = name; bytes = bytes } ∷ files_of row items
put_first row name bytes later items now within longer before =
    let all = row ++ name ++ bytes in
    let old : files_of all items ≡ files_of row items = ap (λ l. files_of l items) (append_assoc row name bytes) ∙ files_stay row (name ++ bytes) items within in
    ap (λ l. files_of l now) longer
    ∙ ap (files_of all) before
    ∙ ap (λ e. e ∷ files_of all items) (entry_came row name bytes)
    ∙ ap (λ fs. record { name = name; bytes = bytes } ∷ fs) old

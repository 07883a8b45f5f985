-- What a ready state takes on is what was read: the marks, and the bags panel by panel
use Rattle.std.proofs.Common.{◌≡◌, ℕ, zero, suc, ◌+◌, ◌-◌, ◌<◌, ◌≤◌, Bool, true, false, List, [], ◌∷◌, ◌++◌, length, get_or, slice_set, take, replicate, unwrap_or, Option, Some, None, IsSome, option_map, refl, sym, ap, ◌∙◌, append_assoc, arith}
use Rattle.std.specs.Option.{option_and_then}
use Rattle.std.proofs.lemmas.List.{get_or_at, set_at, take_more, take_all, append-nil, length-append, length-take-le, length-replicate}
use Rattle.std.proofs.lemmas.Option.{unwrap_or-slice_get}
use Rattle.urna_base.proofs.Cases.{and_then_some, map_some}
use Rattle.vote_kinds.specs.declared.choice.Choice.{Choice}
use Rattle.vote_record.specs.Bag.{bag_at}
use Rattle.vote_record.specs.RdvData.{RdvData}
use Rattle.turnout.specs.Turnout.{has_come}
use Rattle.image_codec.specs.DecodedHead.{is_marked, marks_in}
use Rattle.image_codec.proofs.ReadParts.{length-marks_in, marks_more}

-- a value that is there
pub value_of : {A : Type 0} (o : Option A) (d : A) → IsSome o → o ≡ Some (unwrap_or o d)
value_of None d is = absurd (cc)
value_of (Some x) d is = refl

-- The marks

-- the first places are marked as they were read, and the others not yet
abbrev pub AreMarked : List Bool → ℕ → ℕ → List ℕ → Type 0
AreMarked came voters place field = came ≡ marks_in place field ++ replicate (voters - place) false

pub marked_none : (voters : ℕ) (field : List ℕ) → AreMarked (replicate voters false) voters 0 field
unfolding marks_in
marked_none voters field = ap (λ (k : ℕ). replicate k false) (omega arith)

one_left : (voters place : ℕ) → place < voters → replicate {A = Bool} (voters - place) false ≡ false ∷ replicate (voters - (place + 1)) false
one_left voters place lt = let left : voters - place ≡ suc (voters - (place + 1)) = omega arith in ap (λ (k : ℕ). replicate k false) left

at_place : (came : List Bool) (voters place : ℕ) (field : List ℕ) → place < voters → AreMarked came voters place field
    → came ≡ marks_in place field ++ false ∷ replicate (voters - (place + 1)) false
at_place came voters place field lt are = are ∙ ap (λ (r : List Bool). marks_in place field ++ r) (one_left voters place lt)

pub marked_length : (came : List Bool) (voters place : ℕ) (field : List ℕ) → place ≤ voters → AreMarked came voters place field → length came ≡ voters
marked_length came voters place field le are =
    ap (λ (r : List Bool). length r) are ∙ length-append (marks_in place field) (replicate (voters - place) false)
    ∙ (let front = length-marks_in place field in let behind = length-replicate {A = Bool} (voters - place) false in omega arith)

pub marked_free : (came : List Bool) (voters place : ℕ) (field : List ℕ) → place < voters → AreMarked came voters place field → has_come came place ≡ false
marked_free came voters place field lt are =
    unwrap_or-slice_get came place false ∙ ap (λ (r : List Bool). get_or r place false) (at_place came voters place field lt are)
    ∙ get_or_at (marks_in place field) false (replicate (voters - (place + 1)) false) false place (length-marks_in place field)

marked_as : (came : List Bool) (voters place : ℕ) (field : List ℕ) (mark : Bool) → is_marked field place ≡ mark
    → came ≡ marks_in place field ++ mark ∷ replicate (voters - (place + 1)) false → AreMarked came voters (place + 1) field
marked_as came voters place field mark e are =
    are ∙ ap (λ (m : Bool). marks_in place field ++ m ∷ replicate (voters - (place + 1)) false) (sym e)
    ∙ sym (append_assoc (marks_in place field) (is_marked field place ∷ []) (replicate (voters - (place + 1)) false))
    ∙ ap (λ (r : List Bool). r ++ replicate (voters - (place + 1)) false) (sym (marks_more place field))

pub marked_more : (came after : List Bool) (voters place : ℕ) (field : List ℕ) → place < voters → AreMarked came voters place field → is_marked field place ≡ true
    → after ≡ slice_set came place true → AreMarked after voters (place + 1) field
marked_more came after voters place field lt are mark is =
    marked_as after voters place field true mark
    (is ∙ ap (λ (r : List Bool). slice_set r place true) (at_place came voters place field lt are)
    ∙ set_at (marks_in place field) false (replicate (voters - (place + 1)) false) true place (length-marks_in place field))

pub unmarked_more : (came : List Bool) (voters place : ℕ) (field : List ℕ) → place < voters → AreMarked came voters place field → is_marked field place ≡ false
    → AreMarked came voters (place + 1) field
unmarked_more came voters place field lt are mark = marked_as came voters place field false mark (at_place came voters place field lt are)

pub marked_all : (came : List Bool) (voters place : ℕ) (field : List ℕ) → place ≡ voters → AreMarked came voters place field → came ≡ marks_in voters field
marked_all came voters place field e are =
    let done : voters - place ≡ 0 = omega arith in
    are ∙ ap (λ (k : ℕ). marks_in place field ++ replicate k false) done ∙ append-nil (marks_in place field) ∙ ap (λ (n : ℕ). marks_in n field) e

-- The bag of one panel

pub bag_here : (bags : List (List Choice)) (panel : ℕ) (bag : List Choice) → panel < length bags → bag_at (slice_set bags panel bag) panel ≡ bag
bag_here [] panel bag lt = absurd (omega arith)
bag_here (b ∷ bags) zero bag lt = refl
bag_here (b ∷ bags) (suc panel) bag lt = bag_here bags panel bag (omega arith)

pub bag_kept : (bags : List (List Choice)) (panel : ℕ) → bags ≡ slice_set bags panel (bag_at bags panel)
bag_kept [] panel = refl
bag_kept (b ∷ bags) zero = refl
bag_kept (b ∷ bags) (suc panel) = ap (λ (r : List (List Choice)). b ∷ r) (bag_kept bags panel)

set_again : (bags : List (List Choice)) (panel : ℕ) (first second : List Choice) → slice_set (slice_set bags panel first) panel second ≡ slice_set bags panel second
set_again [] panel first second = refl
set_again (b ∷ bags) zero first second = refl
set_again (b ∷ bags) (suc panel) first second = ap (λ (r : List (List Choice)). b ∷ r) (set_again bags panel first second)

-- the record with these bags
abbrev pub with_bags : RdvData → List (List Choice) → RdvData
with_bags r bags = record { bags = bags; voters = r.voters; places = r.places }

-- a record in which the bag of a panel alone is another, and which has another bag again
pub record HasBag (before after : RdvData) (panel : ℕ) (bag : List Choice) : Type 0 where
  pub votes : after ≡ with_bags before (slice_set before.bags panel (bag_at after.bags panel))
  pub is : bag_at after.bags panel ≡ bag

pub bag_again : (before now after : RdvData) (panel : ℕ) (bag : List Choice) → panel < length before.bags → now ≡ with_bags before (slice_set before.bags panel (bag_at now.bags panel))
    → after ≡ with_bags now (slice_set now.bags panel bag) → HasBag before after panel bag
bag_again before now after panel bag lt so_far more =
    let made : after ≡ with_bags before (slice_set before.bags panel bag) =
    more ∙ ap (λ (r : RdvData). with_bags r (slice_set r.bags panel bag)) so_far
    ∙ ap (with_bags before) (set_again before.bags panel (bag_at now.bags panel) bag) in
    let here : bag_at after.bags panel ≡ bag = ap (λ (r : RdvData). bag_at r.bags panel) made ∙ bag_here before.bags panel bag lt in
    record { votes = made ∙ ap (λ (b : List Choice). with_bags before (slice_set before.bags panel b)) (sym here); is = here }

-- The bags of all panels

-- the bag that was read first, and those after it
pub split_bags : (first : Option (List Choice)) (rest : Option (List (List Choice))) (bag : List Choice) (bags : List (List Choice))
    → option_and_then (λ x. option_map (λ xs. x ∷ xs) rest) first ≡ Some (bag ∷ bags) → (first ≡ Some bag) × (rest ≡ Some bags)
split_bags first rest bag bags e =
    let a = and_then_some first (λ x. option_map (λ xs. x ∷ xs) rest) (bag ∷ bags) e in
    let b = map_some (λ xs. a.0 ∷ xs) rest (bag ∷ bags) a.2 in
    let same : a.0 ∷ b.0 ≡ bag ∷ bags = b.2 in
    let head : a.0 ≡ bag = cc in
    let tail : b.0 ≡ bags = cc in
    (a.1 ∙ ap (λ (x : List Choice). Some x) head, b.1 ∙ ap (λ (x : List (List Choice)). Some x) tail)

-- there are as many of them as lines
pub more_bags : (first : Option (List Choice)) (rest : Option (List (List Choice))) (bags : List (List Choice)) (n : ℕ)
    → option_and_then (λ x. option_map (λ xs. x ∷ xs) rest) first ≡ Some bags → ((others : List (List Choice)) → rest ≡ Some others → length others ≡ n) → length bags ≡ suc n
more_bags first rest bags n e many =
    let a = and_then_some first (λ x. option_map (λ xs. x ∷ xs) rest) bags e in
    let b = map_some (λ xs. a.0 ∷ xs) rest bags a.2 in
    ap length (sym b.2) ∙ ap suc (many b.0 b.1)

-- the bags of the first panels are there, and the others have no vote yet
abbrev pub first_bags : List (List Choice) → ℕ → ℕ → List (List Choice)
first_bags bags panels i = take i bags ++ replicate (panels - i) []

bags_at : (bags : List (List Choice)) (panels i : ℕ) → i < panels → first_bags bags panels i ≡ take i bags ++ [] ∷ replicate (panels - (i + 1)) []
bags_at bags panels i lt =
    let left : panels - i ≡ suc (panels - (i + 1)) = omega arith in
    ap (λ (k : ℕ). take i bags ++ replicate k []) left

pub bags_length : (bags : List (List Choice)) (panels i : ℕ) → length bags ≡ panels → i ≤ panels → length (first_bags bags panels i) ≡ panels
bags_length bags panels i many le =
    omega (arith, length-append (take i bags) (replicate (panels - i) []), length-take-le i bags (omega arith), length-replicate {A = List Choice} (panels - i) [])

pub bag_free : (bags : List (List Choice)) (panels i : ℕ) → length bags ≡ panels → i < panels → bag_at (first_bags bags panels i) i ≡ []
bag_free bags panels i many lt =
    unwrap_or-slice_get (first_bags bags panels i) i [] ∙ ap (λ (r : List (List Choice)). get_or r i []) (bags_at bags panels i lt)
    ∙ get_or_at (take i bags) [] (replicate (panels - (i + 1)) []) [] i (length-take-le i bags (omega arith))

pub bags_more : (bags : List (List Choice)) (panels i : ℕ) → length bags ≡ panels → i < panels
    → slice_set (first_bags bags panels i) i (get_or bags i []) ≡ first_bags bags panels (i + 1)
bags_more bags panels i many lt =
    ap (λ (r : List (List Choice)). slice_set r i (get_or bags i [])) (bags_at bags panels i lt)
    ∙ set_at (take i bags) [] (replicate (panels - (i + 1)) []) (get_or bags i []) i (length-take-le i bags (omega arith))
    ∙ sym (append_assoc (take i bags) (get_or bags i [] ∷ []) (replicate (panels - (i + 1)) []))
    ∙ ap (λ (r : List (List Choice)). r ++ replicate (panels - (i + 1)) []) (sym (take_more bags i [] (omega arith)))

pub bags_all : (bags : List (List Choice)) (panels i : ℕ) → length bags ≡ panels → panels ≤ i → first_bags bags panels i ≡ bags
bags_all bags panels i many le =
    let done : panels - i ≡ 0 = omega arith in
    ap (λ (k : ℕ). take i bags ++ replicate k []) done ∙ append-nil (take i bags) ∙ take_all i bags (omega arith)

-- The pages of a body that are written.
use Rattle.std.proofs.Common.{◌≡◌, ℕ, zero, suc, ◌+◌, ◌*◌, ◌-◌, ◌/◌, ◌%◌, ◌≤◌, ◌<◌, inl, inr, Bool, true, false, cond, not, Result, Ok, Err, List, [], ◌∷◌, ◌++◌, length, OnOk, OnErr, refl, sym, ap, subst, ◌∙◌, arith}
use Rattle.std.specs.List.{filter, range_with_len}
use Rattle.std.specs.Str.{bytes_eq}
use Rattle.std.proofs.lemmas.Slice.Eq.{bytes_eq-Decides}
use Rattle.std.proofs.lemmas.List.{map-append}
use Rattle.std.proofs.lemmas.List.Elements.{filter-append}
use Rattle.urna_outside.specs.Flash.{Op, Put, Sync, Show}
use Rattle.urna_outside.specs.Confined.{AreWithin, IsWithin, count_syncs}
use Rattle.urna_outside.specs.Told.{Told, Does, Runs, IsTornPut}
use Rattle.urna_outside.specs.declared.device.Dev.{Dev}
use Rattle.urna_outside.proofs.Doing.{does_nothing, does-append}
use Rattle.urna_outside.proofs.Keeping.{within-append}
use Rattle.urna_outside.proofs.Places.{length-part}
use Rattle.urna_outside.proofs.Runs.{syncs-append}
use Rattle.gate_slot.specs.Front.{IsTornOf, IsFrontOf}
use Rattle.gate_slot.specs.Page.{page_size, page, is_changed, changed_below, changed_pages, put_each, put_pages, put_bytes, IsOfChanged, IsPatch}
use Rattle.gate_slot.proofs.Fronts.{fronts_later, fronts_torn}

-- the numbers of a range, and those behind them
range-append : (a m n : ℕ) → range_with_len a (m + n) ≡ range_with_len a m ++ range_with_len (a + m) n
range-append a zero n =
    let same : 0 + n ≡ n = omega arith in
    let place : a ≡ a + 0 = omega arith in
    ap (range_with_len a) same ∙ ap (λ (k : ℕ). range_with_len k n) place
range-append a (suc m) n =
    let same : suc m + n ≡ suc (m + n) = omega arith in
    let place : a + 1 + m ≡ a + suc m = omega arith in
    ap (range_with_len a) same ∙ ap (λ (l : List ℕ). a ∷ l) (range-append (a + 1) m n ∙ ap (λ (k : ℕ). range_with_len (a + 1) m ++ range_with_len k n) place)

pub bytes-append : (xs ys : List Op) → put_bytes (xs ++ ys) ≡ put_bytes xs + put_bytes ys
bytes-append [] ys = omega arith
bytes-append (Put d at bytes ∷ xs) ys = omega (arith, bytes-append xs ys)
bytes-append (Sync d ∷ xs) ys = bytes-append xs ys
bytes-append (Show bytes ∷ xs) ys = bytes-append xs ys

-- a page lies within a body of whole pages
pub whole_pages : (n k : ℕ) → n % page_size ≡ 0 → k < n / page_size → k * page_size + page_size ≤ n
whole_pages n k whole below = omega arith

pub all_pages : (n : ℕ) → n % page_size ≡ 0 → n / page_size * page_size ≡ n
all_pages n whole = omega arith

-- what is put of an operation that fails lies in its places, and is no more than the whole
torn_within : (d : Dev) (In : ℕ → Type 0) (op : Op) (torn : List Op) → IsWithin d In op → IsTornOf op torn → AreWithin d In torn
torn_within d In (Put e at bytes) torn within (inl none) = subst (AreWithin d In) (sym none) tt
torn_within d In (Put e at bytes) torn within (inr (from, some, long, low, high, one)) =
    subst (AreWithin d In) (sym one) ((within.0, λ k above under. within.1 k (omega (arith, low)) (omega (arith, high))), tt)
torn_within d In (Sync e) torn within none = subst (AreWithin d In) (sym none) tt
torn_within d In (Show bytes) torn within is = absurd within

torn_less : (op : Op) (torn behind : List Op) → IsTornOf op torn → (put_bytes torn ≤ put_bytes (op ∷ behind)) × (count_syncs torn ≡ 0)
torn_less (Put d at bytes) torn behind (inl none) = (omega (arith, ap put_bytes none), ap count_syncs none)
torn_less (Put d at bytes) torn behind (inr (from, some, long, low, high, one)) =
    (omega (arith, low, high, ap put_bytes one), ap count_syncs one)
torn_less (Sync d) torn behind none = (omega (arith, ap put_bytes none), ap count_syncs none)
torn_less (Show bytes) torn behind (inl none) = (omega (arith, ap put_bytes none), ap count_syncs none)
torn_less (Show bytes) torn behind (inr (some, back, long, split, one)) =
    (omega (arith, ap put_bytes one), ap count_syncs one)

parts_within : (d : Dev) (In : ℕ → Type 0) (xs ys : List Op) → AreWithin d In (xs ++ ys) → AreWithin d In xs × AreWithin d In ys
parts_within d In [] ys all = (tt, all)
parts_within d In (x ∷ xs) ys all =
    let more = parts_within d In xs ys all.1 in ((all.0, more.0), more.1)

-- a front of a patch is one
front_patch : (d : Dev) (In : ℕ → Type 0) (most : ℕ) (whole ops : List Op) → IsPatch d In most whole → IsFrontOf whole ops → IsPatch d In most ops
front_patch d In most whole ops is front =
    let all = subst (AreWithin d In) front.split is.within in
    let parts = parts_within d In front.before (front.next ∷ front.behind) all in
    let torn = torn_within d In front.next front.torn parts.1.0 front.torn_is in
    let less = torn_less front.next front.torn front.behind front.torn_is in
    record {
      within = subst (AreWithin d In) (sym front.in_row) (within-append d In front.before front.torn parts.0 torn);
      bytes = omega (
        arith,
        is.bytes,
        ap put_bytes front.split,
        bytes-append front.before (front.next ∷ front.behind),
        less.0,
        ap put_bytes front.in_row,
        bytes-append front.before front.torn,
      );
      syncs = omega (
        arith,
        is.syncs,
        ap count_syncs front.split,
        syncs-append front.before (front.next ∷ front.behind),
        less.1,
        ap count_syncs front.in_row,
        syncs-append front.before front.torn,
      );
    }

module _ (old new : List ℕ) where
  -- the pages in which the bodies differ, of m from page k on
  abbrev pub changed_from : ℕ → ℕ → List ℕ
  changed_from k m = filter (is_changed old new) (range_with_len k m)

  below_split : (k m : ℕ) → changed_below (k + m) old new ≡ changed_below k old new ++ changed_from k m
  below_split k m =
      let place : 0 + k ≡ k = omega arith in
      let split = range-append 0 k m ∙ ap (λ (n : ℕ). range_with_len 0 k ++ range_with_len n m) place in
      ap (filter (is_changed old new)) split ∙ filter-append (is_changed old new) (range_with_len 0 k) (range_with_len k m)

  -- a page that isn't changed is the same
  pub same_page : (k : ℕ) → is_changed old new k ≡ false → page k old ≡ page k new
  same_page k is = (bytes_eq-Decides (page k old) (page k new)).0 (turned (bytes_eq (page k old) (page k new)) is)
    where
      turned : (b : Bool) → not b ≡ false → b ≡ true
      turned true e = refl
      turned false e = absurd (cc)

  module _ (d : Dev) (at : ℕ) where
    -- the writes of such pages
    abbrev pub puts_from : ℕ → ℕ → List Op
    puts_from k m = put_each d at new (changed_from k m)

    abbrev puts_below : ℕ → List Op
    puts_below k = put_each d at new (changed_below k old new)

    abbrev put_page : ℕ → Op
    put_page k = Put d (at + k * page_size) (page k new)

    puts_split : (k m : ℕ) → put_each d at new (changed_below (k + m) old new) ≡ puts_below k ++ puts_from k m
    puts_split k m = ap (put_each d at new) (below_split k m) ∙ map-append put_page (changed_below k old new) (changed_from k m)

    done_more : (k : ℕ) (t : Bool) (a b c : Told) → is_changed old new k ≡ t → Does (puts_below k) a b → Does (put_each d at new (cond t (k ∷ []) [])) b c → Does (put_each d at new (changed_below (k + 1) old new)) a c
    done_more k t a b c is first second =
        let one = ap (λ (t : Bool). put_each d at new (cond t (k ∷ []) [])) is in
        subst (λ (ops : List Op). Does ops a c) (sym (puts_split k 1 ∙ ap (λ (l : List Op). puts_below k ++ l) one)) (does-append (puts_below k) (put_each d at new (cond t (k ∷ []) [])) a b c first second)

    -- one page more was written, or had not to be
    pub does_changed : (k : ℕ) (a b c : Told) → is_changed old new k ≡ true → Does (put_each d at new (changed_below k old new)) a b → Does (Put d (at + k * page_size) (page k new) ∷ []) b c
        → Does (put_each d at new (changed_below (k + 1) old new)) a c
    does_changed k a b c is first second = done_more k true a b c is first second

    pub does_same : (k : ℕ) (a b : Told) → is_changed old new k ≡ false → Does (put_each d at new (changed_below k old new)) a b → Does (put_each d at new (changed_below (k + 1) old new)) a b
    does_same k a b is first = done_more k false a b b is first (does_nothing b)

    -- or its write failed
    pub cut_page : (k n : ℕ) (a b c : Told) → k < n → is_changed old new k ≡ true → Does (put_each d at new (changed_below k old new)) a b → Runs (IsTornPut d (at + k * page_size) (length (page k new))) b c
        → Runs (IsFrontOf (put_each d at new (changed_below n old new))) a c
    cut_page k n a b c below is does torn =
        let more = n - suc k in
        let all : k + suc more ≡ n = omega arith in
        let behind = changed_from (k + 1) more in
        let next = ap (λ (t : Bool). put_each d at new (cond t (k ∷ behind) behind)) is in
        subst (λ (m : ℕ). Runs (IsFrontOf (put_each d at new (changed_below m old new))) a c) all
        (subst (λ (ops : List Op). Runs (IsFrontOf ops) a c) (sym (puts_split k (suc more) ∙ ap (λ (l : List Op). puts_below k ++ l) next))
        (fronts_later (puts_below k) (put_page k ∷ puts_from (k + 1) more) a b c does
        (fronts_torn d (at + k * page_size) (page k new) (puts_from (k + 1) more) b c torn)))

    -- writes of so many pages that change, and no sync
    pub record ArePages (count : ℕ) (ops : List Op) : Type 0 where
      pub within : AreWithin d (IsOfChanged at old new) ops
      pub bytes : put_bytes ops ≡ page_size * count
      pub syncs : count_syncs ops ≡ 0

    are_pages : (k m : ℕ) → length new % page_size ≡ 0 → k + m ≤ length new / page_size → ArePages (length (changed_from k m)) (puts_from k m)
    are_pages k zero whole fits = record { within = tt; bytes = omega arith; syncs = refl }
    are_pages k (suc m) whole fits = by (are_pages (k + 1) m whole (omega arith)) (is_changed old new k) refl
      where
        by : ArePages (length (changed_from (k + 1) m)) (puts_from (k + 1) m) → (t : Bool) → is_changed old new k ≡ t
            → ArePages (length (cond t (k ∷ changed_from (k + 1) m) (changed_from (k + 1) m))) (put_each d at new (cond t (k ∷ changed_from (k + 1) m) (changed_from (k + 1) m)))
        by rest false is = rest
        by rest true is =
            let below : k < length new / page_size = omega (arith, fits) in
            let long = length-part new (k * page_size) page_size (whole_pages (length new) k whole below) in
            record {
              within = ((refl, λ i low high. (k, below, is, (low, omega (arith, high, long)))), rest.within);
              bytes = omega (arith, rest.bytes, long);
              syncs = rest.syncs;
            }

    pub patch_pages : length new % page_size ≡ 0 → ArePages (length (changed_pages old new)) (put_pages d at old new)
    patch_pages whole = are_pages 0 (length new / page_size) whole (omega arith)

    -- all that a patch does, and a front of it
    patch_is : length new % page_size ≡ 0 → IsPatch d (IsOfChanged at old new) (page_size * length (changed_pages old new)) (put_pages d at old new ++ Sync d ∷ [])
    patch_is whole =
        let pages = patch_pages whole in
        let ops = put_pages d at old new in
        record {
          within = within-append d (IsOfChanged at old new) ops (Sync d ∷ []) pages.within (refl, tt);
          bytes = omega (arith, pages.bytes, bytes-append ops (Sync d ∷ []));
          syncs = omega (arith, pages.syncs, syncs-append ops (Sync d ∷ []));
        }

    pub cut_patch : (a b : Told) → length new % page_size ≡ 0 → Runs (IsFrontOf (put_pages d at old new ++ Sync d ∷ [])) a b
        → Runs (IsPatch d (IsOfChanged at old new) (page_size * length (changed_pages old new))) a b
    cut_patch a b whole cut = (
      cut.0,
      cut.1,
      front_patch d (IsOfChanged at old new) (page_size * length (changed_pages old new)) (put_pages d at old new ++ Sync d ∷ []) cut.0 (patch_is whole) cut.2,
    )

    pub runs_patch : {T E : Type 0} (r : Result T E) (a b : Told) → length new % page_size ≡ 0 → OnOk r (Does (put_pages d at old new ++ Sync d ∷ []) a b) → OnErr r (Runs (IsFrontOf (put_pages d at old new ++ Sync d ∷ [])) a b)
        → Runs (IsPatch d (IsOfChanged at old new) (page_size * length (changed_pages old new))) a b
    runs_patch (Ok x) a b whole ok cut = (put_pages d at old new ++ Sync d ∷ [], ok, patch_is whole)
    runs_patch (Err e) a b whole ok cut = cut_patch a b whole cut

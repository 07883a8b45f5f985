-- A tape played again, one operation after another.
use Rattle.std.proofs.Common.{◌≡◌, ℕ, zero, suc, ◌+◌, ◌-◌, ◌<◌, ◌≤◌, List, [], ◌∷◌, ◌++◌, length, get_or, take, drop, refl, sym, ap, ◌∙◌, arith}
use Rattle.std.specs.List.{All}
use Rattle.std.proofs.lemmas.List.Elements.{All-same, All-take}
use Rattle.std.proofs.lemmas.List.{take-take, take_all, take_more}
use Rattle.urna_outside.specs.Flash.{Op, Put, Flash, Flashes, flash_of, clean_flash, after, after_one}
use Rattle.memory_outside.specs.Kept.{end_of, kept_op, kept_ops, put_length, put_total, shown_length, shown_total}
use Rattle.memory_outside.specs.Tape.{taped_ops, size_on, start_on}
use Rattle.urna_outside.specs.declared.device.Dev.{Dev}
use Rattle.urna_outside.specs.declared.device.Dev.TheVariants.{Internal, External}
use Rattle.memory_outside.specs.declared.tape.Operation.{Operation}
use Rattle.memory_outside.specs.declared.tape.Operation.TheVariants as kept
use Rattle.memory_outside.specs.declared.tape.Tape.{Tape}
use Rattle.urna_outside.proofs.Doing.{after-append}
use Rattle.memory_outside.proofs.KeptLemmas.{kept_ops-append, length-kept_ops, put_total-append}

-- the first operations of a tape
pub take-kept_ops : (n : ℕ) (ops : List Operation) (puts shown : List ℕ) → take n (kept_ops ops puts shown) ≡ kept_ops (take n ops) puts shown
take-kept_ops zero ops puts shown = refl
take-kept_ops (suc n) [] puts shown = refl
take-kept_ops (suc n) (op ∷ ops) puts shown =
    ap (λ (l : List Op). kept_op op puts shown ∷ l) (take-kept_ops n ops (drop (put_length op) puts) (drop (shown_length op) shown))

-- and have no more bytes than all
pub put_total-take : (n : ℕ) (ops : List Operation) → put_total (take n ops) ≤ put_total ops
put_total-take zero ops = omega arith
put_total-take (suc n) [] = omega arith
put_total-take (suc n) (op ∷ ops) = omega (arith, put_total-take n ops)

-- one operation more
pub put_total-more : (i : ℕ) (ops : List Operation) (d : Operation) → i < length ops → put_total (take (i + 1) ops) ≡ put_total (take i ops) + put_length (get_or ops i d)
put_total-more i ops d below =
    let one : put_total (take (i + 1) ops) ≡ put_total (take i ops ++ get_or ops i d ∷ []) = ap put_total (take_more ops i d below) in
    omega (arith, one, put_total-append (take i ops) (get_or ops i d ∷ []))

kept_ops-more : (i : ℕ) (ops : List Operation) (puts shown : List ℕ) (d : Operation) → i < length ops
    → take (i + 1) (kept_ops ops puts shown) ≡ take i (kept_ops ops puts shown) ++ kept_op (get_or ops i d) (drop (put_total (take i ops)) puts) (drop (shown_total (take i ops)) shown) ∷ []
kept_ops-more i ops puts shown d below =
    take-kept_ops (i + 1) ops puts shown
    ∙ ap (λ (l : List Operation). kept_ops l puts shown) (take_more ops i d below)
    ∙ kept_ops-append (take i ops) (get_or ops i d ∷ []) puts shown
    ∙ ap (λ (l : List Op). l ++ kept_op (get_or ops i d) (drop (put_total (take i ops)) puts) (drop (shown_total (take i ops)) shown) ∷ []) (sym (take-kept_ops i ops puts shown))

-- an operation takes its own bytes alone
kept_op-own : (op : Operation) (puts shown : List ℕ) → kept_op op (take (put_length op) puts) shown ≡ kept_op op puts shown
kept_op-own (kept.Put dev at len) puts shown = ap (λ (l : List ℕ). Put dev at l) (take-take len len puts (omega arith))
kept_op-own (kept.Sync dev) puts shown = refl
kept_op-own (kept.Show len) puts shown = refl

-- A device that is as after the first operations is, after one more, as after these and it.
pub replay_more : (dev : Dev) (ops : List Operation) (puts shown bytes : List ℕ) (start : Flashes) (i : ℕ) (d : Operation) (old new : Flash)
    → i < length ops → bytes ≡ take (put_length (get_or ops i d)) (drop (put_total (take i ops)) puts)
    → old ≡ flash_of dev (after (take i (kept_ops ops puts shown)) start)
    → ((all : Flashes) (more : List ℕ) → flash_of dev all ≡ old → new ≡ flash_of dev (after_one (kept_op (get_or ops i d) bytes more) all))
    → new ≡ flash_of dev (after (take (i + 1) (kept_ops ops puts shown)) start)
replay_more dev ops puts shown bytes start i d old new below row was does =
    let op = get_or ops i d in
    let before = take i (kept_ops ops puts shown) in
    let row_rest = drop (put_total (take i ops)) puts in
    let rest = drop (shown_total (take i ops)) shown in
    let one : kept_op op bytes rest ≡ kept_op op row_rest rest = ap (λ (l : List ℕ). kept_op op l rest) row ∙ kept_op-own op row_rest rest in
    does (after before start) rest (sym was)
    ∙ ap (λ (o : Op). flash_of dev (after_one o (after before start))) one
    ∙ ap (flash_of dev) (sym (after-append before (kept_op op row_rest rest ∷ []) start))
    ∙ ap (λ (l : List Op). flash_of dev (after l start)) (sym (kept_ops-more i ops puts shown d below))

-- A flash as it was after the first i of these first operations of a tape, whose puts have their bytes from this place on.
pub record IsReplayed (tape : Tape) (dev : Dev) (first : List Operation) (i from : ℕ) (now : Flash) : Type 0 where
  pub fits : All (λ op. end_of op ≤ size_on tape) first
  pub inside : put_total first ≤ length tape.puts.items
  pub begins : from ≡ put_total (take i first)
  pub holds : now ≡ flash_of dev (after (take i (kept_ops first tape.puts.items tape.shown.items)) (start_on tape))
  pub size : length now.content ≡ size_on tape

start_size : (tape : Tape) (dev : Dev) → length (flash_of dev (start_on tape)).content ≡ size_on tape
start_size tape Internal = refl
start_size tape External = tape.same_size

start_clean : (tape : Tape) (dev : Dev) → clean_flash (flash_of dev (start_on tape)).content ≡ flash_of dev (start_on tape)
start_clean tape Internal = refl
start_clean tape External = refl

pub replayed_none : (tape : Tape) (dev : Dev) (n : ℕ) (trail : List Operation) (now : Flash) → trail ≡ tape.trail.items → now ≡ clean_flash (flash_of dev (start_on tape)).content → IsReplayed tape dev (take n trail) 0 0 now
replayed_none tape dev n trail now whole starts =
    let is : now ≡ flash_of dev (start_on tape) = starts ∙ start_clean tape dev in
    let total : put_total trail ≡ put_total tape.trail.items = ap put_total whole in
    record {
      fits = All-take (λ (op : Operation). end_of op ≤ size_on tape) n trail (All-same (λ (op : Operation). end_of op ≤ size_on tape) trail tape.trail.items whole tape.fits);
      inside = omega (arith, put_total-take n trail, total, tape.puts_whole);
      begins = refl;
      holds = is;
      size = ap (λ (f : Flash). length f.content) is ∙ start_size tape dev;
    }

-- a part of a row from a place on
pub row_part : (from len n : ℕ) (row other : List ℕ) → len ≡ n → row ≡ other → take (from + len - from) (drop from row) ≡ take n (drop from other)
row_part from len n row other same rows =
    let size : from + len - from ≡ n = omega (arith, same) in
    ap (λ (k : ℕ). take k (drop from row)) size ∙ ap (λ (l : List ℕ). take n (drop from l)) rows

-- the bytes of the next operation stand in their row
pub next_inside : (tape : Tape) (dev : Dev) (first : List Operation) (i from : ℕ) (now : Flash) (d : Operation) → IsReplayed tape dev first i from now → i < length first
    → from + put_length (get_or first i d) ≤ length tape.puts.items
next_inside tape dev first i from now d is below =
    omega (arith, put_total-more i first d below, is.begins, is.inside, put_total-take (i + 1) first)

pub next_fits : (tape : Tape) (dev : Dev) (first : List Operation) (i from : ℕ) (now : Flash) (d : Operation) → IsReplayed tape dev first i from now → i < length first
    → end_of (get_or first i d) ≤ length now.content
next_fits tape dev first i from now d is below = omega (arith, is.fits i d below, is.size)

pub replayed_more : (tape : Tape) (dev : Dev) (first : List Operation) (i from len : ℕ) (old new : Flash) (d : Operation) (bytes : List ℕ) → IsReplayed tape dev first i from old → i < length first → len ≡ put_length (get_or first i d)
    → bytes ≡ take (put_length (get_or first i d)) (drop from tape.puts.items)
    → ((all : Flashes) (more : List ℕ) → flash_of dev all ≡ old → new ≡ flash_of dev (after_one (kept_op (get_or first i d) bytes more) all))
    → length new.content ≡ length old.content
    → IsReplayed tape dev first (i + 1) (from + len) new
replayed_more tape dev first i from len old new d bytes is below length_is row does same =
    let more = put_total-more i first d below in
    record {
      fits = is.fits;
      inside = is.inside;
      begins = omega (arith, more, length_is, is.begins);
      holds = replay_more dev first tape.puts.items tape.shown.items bytes (start_on tape) i d old new below (row ∙ ap (λ (k : ℕ). take (put_length (get_or first i d)) (drop k tape.puts.items)) is.begins) is.holds does;
      size = same ∙ is.size;
    }

pub replayed_all : (tape : Tape) (dev : Dev) (n : ℕ) (trail : List Operation) (i from : ℕ) (now : Flash) → trail ≡ tape.trail.items → IsReplayed tape dev (take n trail) i from now → length (take n trail) ≤ i → now ≡ flash_of dev (after (take n (taped_ops tape)) (start_on tape))
replayed_all tape dev n trail i from now whole is all =
    let ops = kept_ops (take n trail) tape.puts.items tape.shown.items in
    let none_left : length ops ≤ i = omega (arith, length-kept_ops (take n trail) tape.puts.items tape.shown.items, all) in
    is.holds
    ∙ ap (λ (l : List Op). flash_of dev (after l (start_on tape))) (take_all i ops none_left)
    ∙ ap (λ (l : List Operation). flash_of dev (after (kept_ops (take n l) tape.puts.items tape.shown.items) (start_on tape))) whole
    ∙ ap (λ (l : List Op). flash_of dev (after l (start_on tape))) (sym (take-kept_ops n tape.trail.items tape.puts.items tape.shown.items))

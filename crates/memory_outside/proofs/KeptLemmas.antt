-- One more operation at the end of a tape.
use Rattle.std.proofs.Common.{◌≡◌, ◌+◌, ◌≤◌, ℕ, suc, List, [], ◌∷◌, ◌++◌, length, drop, refl, sym, ap, ◌∙◌, arith}
use Rattle.std.proofs.lemmas.List.{append-nil, drop-append-le, drop-drop, drop_at, length-drop, take-append-le, take_all}
use Rattle.std.specs.List.{All}
use Rattle.std.proofs.lemmas.List.Elements.{All-push, All-same}
use Rattle.urna_outside.specs.Flash.{Op, Put, Sync, Show}
use Rattle.memory_outside.specs.Kept.{end_of, kept_op, kept_ops, put_length, put_total, shown_length, shown_total}
use Rattle.urna_outside.specs.declared.device.Dev.{Dev}
use Rattle.memory_outside.specs.declared.tape.Operation.{Operation}
use Rattle.memory_outside.specs.declared.tape.Operation.TheVariants as kept

pub put_total-append : (ops more : List Operation) → put_total (ops ++ more) ≡ put_total ops + put_total more
put_total-append [] more = omega arith
put_total-append (op ∷ ops) more = omega (arith, put_total-append ops more)

shown_total-append : (ops more : List Operation) → shown_total (ops ++ more) ≡ shown_total ops + shown_total more
shown_total-append [] more = omega arith
shown_total-append (op ∷ ops) more = omega (arith, shown_total-append ops more)

-- the bytes of later operations stand behind those of the earlier ones
pub kept_ops-append : (ops more : List Operation) (puts shown : List ℕ)
    → kept_ops (ops ++ more) puts shown ≡ kept_ops ops puts shown ++ kept_ops more (drop (put_total ops) puts) (drop (shown_total ops) shown)
kept_ops-append [] more puts shown = refl
kept_ops-append (op ∷ ops) more puts shown =
    ap (λ (l : List Op). kept_op op puts shown ∷ l) (
    kept_ops-append ops more (drop (put_length op) puts) (drop (shown_length op) shown)
    ∙ ap (λ (l : List ℕ). kept_ops ops (drop (put_length op) puts) (drop (shown_length op) shown) ++ kept_ops more l (drop (shown_total ops) (drop (shown_length op) shown))) (drop-drop (put_total ops) (put_length op) puts)
    ∙ ap (λ (l : List ℕ). kept_ops ops (drop (put_length op) puts) (drop (shown_length op) shown) ++ kept_ops more (drop (put_length op + put_total ops) puts) l) (drop-drop (shown_total ops) (shown_length op) shown)
    )

-- bytes behind those of an operation are none of its own
kept_op-longer : (op : Operation) (puts shown more_puts more_shown : List ℕ) → put_length op ≤ length puts → shown_length op ≤ length shown
    → kept_op op (puts ++ more_puts) (shown ++ more_shown) ≡ kept_op op puts shown
kept_op-longer (kept.Put dev at len) puts shown more_puts more_shown fits none =
    ap (λ (l : List ℕ). Put dev at l) (take-append-le len puts more_puts fits)
kept_op-longer (kept.Sync dev) puts shown more_puts more_shown none nothing = refl
kept_op-longer (kept.Show len) puts shown more_puts more_shown none fits =
    ap (λ (l : List ℕ). Show l) (take-append-le len shown more_shown fits)

kept_ops-longer : (ops : List Operation) (puts shown more_puts more_shown : List ℕ) → put_total ops ≤ length puts → shown_total ops ≤ length shown
    → kept_ops ops (puts ++ more_puts) (shown ++ more_shown) ≡ kept_ops ops puts shown
kept_ops-longer [] puts shown more_puts more_shown puts_fit shown_fit = refl
kept_ops-longer (op ∷ ops) puts shown more_puts more_shown puts_fit shown_fit =
    let put_fits : put_length op ≤ length puts = omega (arith, puts_fit) in
    let show_fits : shown_length op ≤ length shown = omega (arith, shown_fit) in
    let puts_after : put_total ops ≤ length (drop (put_length op) puts) = omega (arith, puts_fit, length-drop (put_length op) puts) in
    let shown_after : shown_total ops ≤ length (drop (shown_length op) shown) = omega (arith, shown_fit, length-drop (shown_length op) shown) in
    ap (λ (o : Op). o ∷ kept_ops ops (drop (put_length op) (puts ++ more_puts)) (drop (shown_length op) (shown ++ more_shown))) (kept_op-longer op puts shown more_puts more_shown put_fits show_fits)
    ∙ ap (λ (l : List ℕ). kept_op op puts shown ∷ kept_ops ops l (drop (shown_length op) (shown ++ more_shown))) (drop-append-le (put_length op) puts more_puts put_fits)
    ∙ ap (λ (l : List ℕ). kept_op op puts shown ∷ kept_ops ops (drop (put_length op) puts ++ more_puts) l) (drop-append-le (shown_length op) shown more_shown show_fits)
    ∙ ap (λ (l : List Op). kept_op op puts shown ∷ l) (kept_ops-longer ops (drop (put_length op) puts) (drop (shown_length op) shown) more_puts more_shown puts_after shown_after)

-- one more operation, with its bytes at the ends of the rows
kept_ops-push : (ops : List Operation) (op : Operation) (puts shown more_puts more_shown : List ℕ) → put_total ops ≡ length puts → shown_total ops ≡ length shown
    → kept_ops (ops ++ op ∷ []) (puts ++ more_puts) (shown ++ more_shown) ≡ kept_ops ops puts shown ++ kept_op op more_puts more_shown ∷ []
kept_ops-push ops op puts shown more_puts more_shown puts_whole shown_whole =
    kept_ops-append ops (op ∷ []) (puts ++ more_puts) (shown ++ more_shown)
    ∙ ap (λ (l : List Op). l ++ kept_op op (drop (put_total ops) (puts ++ more_puts)) (drop (shown_total ops) (shown ++ more_shown)) ∷ []) (kept_ops-longer ops puts shown more_puts more_shown (omega (arith, puts_whole)) (omega (arith, shown_whole)))
    ∙ ap (λ (l : List ℕ). kept_ops ops puts shown ++ kept_op op l (drop (shown_total ops) (shown ++ more_shown)) ∷ []) (drop_at puts more_puts (put_total ops) (sym puts_whole))
    ∙ ap (λ (l : List ℕ). kept_ops ops puts shown ++ kept_op op more_puts l ∷ []) (drop_at shown more_shown (shown_total ops) (sym shown_whole))

-- Rows that are as long as the operations' bytes stay so with one more operation.
pub puts_whole_after : (ops later : List Operation) (op : Operation) (puts puts_later : List ℕ) → put_total ops ≡ length puts
    → later ≡ ops ++ op ∷ [] → length puts_later ≡ length puts + put_length op → put_total later ≡ length puts_later
puts_whole_after ops later op puts puts_later whole trail row =
    let total : put_total later ≡ put_total ops + put_total (op ∷ []) = ap put_total trail ∙ put_total-append ops (op ∷ []) in
    omega (arith, total, row, whole)

pub shown_whole_after : (ops later : List Operation) (op : Operation) (shown shown_later : List ℕ) → shown_total ops ≡ length shown
    → later ≡ ops ++ op ∷ [] → length shown_later ≡ length shown + shown_length op → shown_total later ≡ length shown_later
shown_whole_after ops later op shown shown_later whole trail row =
    let total : shown_total later ≡ shown_total ops + shown_total (op ∷ []) = ap shown_total trail ∙ shown_total-append ops (op ∷ []) in
    omega (arith, total, row, whole)

kept_ops-later : (ops later : List Operation) (op : Operation) (puts shown puts_later shown_later more_puts more_shown : List ℕ) → put_total ops ≡ length puts → shown_total ops ≡ length shown
    → later ≡ ops ++ op ∷ [] → puts_later ≡ puts ++ more_puts → shown_later ≡ shown ++ more_shown
    → kept_ops later puts_later shown_later ≡ kept_ops ops puts shown ++ kept_op op more_puts more_shown ∷ []
kept_ops-later ops later op puts shown puts_later shown_later more_puts more_shown puts_whole shown_whole trail put_row shown_row =
    ap (λ (l : List Operation). kept_ops l puts_later shown_later) trail
    ∙ ap (λ (l : List ℕ). kept_ops (ops ++ op ∷ []) l shown_later) put_row
    ∙ ap (λ (l : List ℕ). kept_ops (ops ++ op ∷ []) (puts ++ more_puts) l) shown_row
    ∙ kept_ops-push ops op puts shown more_puts more_shown puts_whole shown_whole

-- One more put, sync or show.
pub after_put : (ops later : List Operation) (puts shown puts_later shown_later : List ℕ) (dev : Dev) (at : ℕ) (bytes : List ℕ) → put_total ops ≡ length puts → shown_total ops ≡ length shown
    → later ≡ ops ++ kept.Put dev at (length bytes) ∷ [] → puts_later ≡ puts ++ bytes → shown_later ≡ shown → kept_ops later puts_later shown_later ≡ kept_ops ops puts shown ++ Put dev at bytes ∷ []
after_put ops later puts shown puts_later shown_later dev at bytes puts_whole shown_whole trail row same =
    kept_ops-later ops later (kept.Put dev at (length bytes)) puts shown puts_later shown_later bytes [] puts_whole shown_whole trail row (same ∙ sym (append-nil shown))
    ∙ ap (λ (l : List ℕ). kept_ops ops puts shown ++ Put dev at l ∷ []) (take_all (length bytes) bytes (omega arith))

pub after_sync : (ops later : List Operation) (puts shown puts_later shown_later : List ℕ) (dev : Dev) → put_total ops ≡ length puts → shown_total ops ≡ length shown
    → later ≡ ops ++ kept.Sync dev ∷ [] → puts_later ≡ puts → shown_later ≡ shown → kept_ops later puts_later shown_later ≡ kept_ops ops puts shown ++ Sync dev ∷ []
after_sync ops later puts shown puts_later shown_later dev puts_whole shown_whole trail same_puts same_shown =
    kept_ops-later ops later (kept.Sync dev) puts shown puts_later shown_later [] [] puts_whole shown_whole trail (same_puts ∙ sym (append-nil puts)) (same_shown ∙ sym (append-nil shown))

pub after_show : (ops later : List Operation) (puts shown puts_later shown_later bytes : List ℕ) → put_total ops ≡ length puts → shown_total ops ≡ length shown
    → later ≡ ops ++ kept.Show (length bytes) ∷ [] → puts_later ≡ puts → shown_later ≡ shown ++ bytes → kept_ops later puts_later shown_later ≡ kept_ops ops puts shown ++ Show bytes ∷ []
after_show ops later puts shown puts_later shown_later bytes puts_whole shown_whole trail same row =
    kept_ops-later ops later (kept.Show (length bytes)) puts shown puts_later shown_later [] bytes puts_whole shown_whole trail (same ∙ sym (append-nil puts)) row
    ∙ ap (λ (l : List ℕ). kept_ops ops puts shown ++ Show l ∷ []) (take_all (length bytes) bytes (omega arith))

-- as many as are kept
pub length-kept_ops : (ops : List Operation) (puts shown : List ℕ) → length (kept_ops ops puts shown) ≡ length ops
length-kept_ops [] puts shown = refl
length-kept_ops (op ∷ ops) puts shown = ap suc (length-kept_ops ops (drop (put_length op) puts) (drop (shown_length op) shown))

-- operations that stay within a device, and one more that does
pub fits_after : (ops later : List Operation) (op : Operation) (size : ℕ) → All (λ o. end_of o ≤ size) ops → later ≡ ops ++ op ∷ [] → end_of op ≤ size → All (λ o. end_of o ≤ size) later
fits_after ops later op size all trail fits =
    All-same (λ (o : Operation). end_of o ≤ size) later (ops ++ op ∷ []) trail (All-push (λ (o : Operation). end_of o ≤ size) ops op all fits)

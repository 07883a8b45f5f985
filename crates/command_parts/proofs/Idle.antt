-- Calls that put nothing on a flash
use Rattle.std.proofs.Common.{inl, inr, ℕ, Option, Some, None, List, [], ◌∷◌, ◌++◌, refl, sym, subst}
use Rattle.urna_outside.specs.Flash.{Flashes, IsImage, Op, Put, Show, Sync, after, after_one}
use Rattle.urna_outside.specs.ShownLines.{HasShown, IsCutOff, IsCutShort, shows}
use Rattle.urna_outside.specs.Stop.{IsLeft, IsPartOf, IsStop, Left}
use Rattle.urna_outside.specs.Told.{IsTornShow, Runs, Told}
use Rattle.urna_outside.specs.Traced.{IsTraced}
use Rattle.urna_outside.proofs.Doing.{does_nothing, runs-append}
use Rattle.urna_outside.proofs.Traced.{traced_is}
use Rattle.flash_store.specs.Syncs.{IsFrontOfSyncs, IsSynced, IsUntouched, both_synced}
use Rattle.flash_store.proofs.Syncing.{sync_leaves}
use Rattle.command_parts.specs.FaultLines.{Tells, fault_line}
use Rattle.command_parts.specs.Idle.{AreIdle, PutsNothing}

pub idle-append : (xs ys : List Op) → AreIdle xs → AreIdle ys → AreIdle (xs ++ ys)
idle-append [] ys first second = second
idle-append (x ∷ xs) ys first second = (first.0, idle-append xs ys first.1 second)

part_idle : (op one : Op) → PutsNothing op → IsPartOf op one → PutsNothing one
part_idle (Put d at bytes) one idle part = absurd idle
part_idle (Sync d) one idle part = absurd part
part_idle (Show bytes) one idle part = subst PutsNothing (sym part.3) tt

pub idle_stop : (ops done : List Op) → AreIdle ops → IsStop ops done → AreIdle done
idle_stop ops [] idle stop = tt
idle_stop [] (one ∷ done) idle stop = absurd stop
idle_stop (op ∷ ops) (one ∷ done) idle (inl whole) = (subst PutsNothing (sym whole.0) idle.0, idle_stop ops done idle.1 whole.1)
idle_stop (op ∷ ops) (one ∷ done) idle (inr part) = (part_idle op one idle.0 part.0, subst AreIdle (sym part.1) tt)

-- what a power cut may leave behind them it might have left before
pub idle_left : (done : List Op) (start : Flashes) (text : List ℕ) (left : Left) → AreIdle done → IsLeft (after done start) text left → IsLeft start text left
idle_left [] start text left idle is = is
idle_left (Put d at bytes ∷ done) start text left idle is = absurd idle.0
idle_left (Sync d ∷ done) start text left idle is = sync_leaves d start text left (idle_left done (after_one (Sync d) start) text left idle.1 is)
idle_left (Show bytes ∷ done) start text left idle is = idle_left done start text left idle.1 is

pub idle_images : (done : List Op) (start : Flashes) (a b : List ℕ) → AreIdle done → IsImage (after done start).internal a → IsImage (after done start).external b
    → IsImage start.internal a × IsImage start.external b
idle_images done start a b idle internal external =
    let left : Left = record { internal = a; external = b; shown = [] } in
    let is = idle_left done start [] left idle (record { internal = internal; external = external; shown = refl }) in
    (is.internal, is.external)

-- ---- calls of the machine

abbrev pub Idles : Told → Told → Type 0
Idles m n = Runs AreIdle m n

pub idles-append : (a b c : Told) → Idles a b → Idles b c → Idles a c
idles-append a b c first second = runs-append AreIdle AreIdle AreIdle a b c idle-append first second

pub idle_trail : (m n : Told) (start : Flashes) (ops : List Op) → IsTraced m n start ops → Idles m n → AreIdle ops
idle_trail m n start ops traced idles = subst AreIdle (traced_is m n start ops idles.0 traced idles.1) idles.2

shows_idle : (lines : List (List ℕ)) → AreIdle (shows lines)
shows_idle [] = tt
shows_idle (line ∷ lines) = (tt, shows_idle lines)

torn_idle : (bytes : List ℕ) (ops : List Op) → IsTornShow bytes ops → AreIdle ops
torn_idle bytes ops (inl none) = subst AreIdle (sym none) tt
torn_idle bytes ops (inr (some, back, long, is, one)) = subst AreIdle (sym one) (tt, tt)

cut_idle : (lines : List (List ℕ)) (ops : List Op) → IsCutShort lines ops → AreIdle ops
cut_idle [] ops cut = absurd cut
cut_idle (line ∷ lines) ops (inl torn) = torn_idle line ops torn
cut_idle (line ∷ lines) ops (inr (rest, is, cut)) = subst AreIdle (sym is) (tt, cut_idle lines rest cut)

pub shown_idles : (lines : List (List ℕ)) (a b : Told) → HasShown lines a b → Idles a b
shown_idles lines a b h = (shows lines, h.does, shows_idle lines)

pub cut_idles : (lines : List (List ℕ)) (a b : Told) → IsCutOff lines a b → Idles a b
cut_idles lines a b h = (h.ops, h.does, cut_idle lines h.ops h.cut)

pub told_idles : (text : Option (List ℕ)) (a b : Told) → Tells text a b → Idles a b
told_idles None a b same = subst (Idles a) (sym same) ([], does_nothing a, tt)
told_idles (Some text) a b (inl shown) = shown_idles (fault_line text ∷ []) a b shown
told_idles (Some text) a b (inr cut) = cut_idles (fault_line text ∷ []) a b cut

pub untouched_idles : (a b : Told) → IsUntouched a b → Idles a b
untouched_idles a b same = subst (Idles a) (sym same) ([], does_nothing a, tt)

pub synced_idles : (a b : Told) → IsSynced a b → Idles a b
synced_idles a b h = (both_synced, h.does, (tt, (tt, tt)))

pub front_idle : (ops : List Op) → IsFrontOfSyncs ops → AreIdle ops
front_idle ops (inl (inl none)) = subst AreIdle (sym none) tt
front_idle ops (inl (inr one)) = subst AreIdle (sym one) (tt, tt)
front_idle ops (inr both) = subst AreIdle (sym both) (tt, (tt, tt))

pub front_idles : (a b : Told) → Runs IsFrontOfSyncs a b → Idles a b
front_idles a b (ops, does, front) = (ops, does, front_idle ops front)

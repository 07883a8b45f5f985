-- Runs that only show.
use Rattle.std.proofs.Common.{◌≡◌, ℕ, Option, Some, None, inl, inr, List, [], ◌∷◌, ◌++◌, refl, sym, ap, subst, ◌∙◌, append_assoc}
use Rattle.std.proofs.lemmas.List.{append-nil}
use Rattle.std.specs.Option.{option_map}
use Rattle.urna_outside.specs.Flash.{Op, Put, Sync, Show, Flashes, after, shown_by}
use Rattle.urna_outside.specs.Shows.{AreShows, ShowsText, ShowsFront}
use Rattle.urna_outside.specs.Told.{Told, Does, IsTornShow}
use Rattle.urna_outside.proofs.Doing.{shown_by-append}

pub are_shows-append : (xs ys : List Op) → AreShows xs → AreShows ys → AreShows (xs ++ ys)
are_shows-append [] ys first second = second
are_shows-append (x ∷ xs) ys first second = (first.0, are_shows-append xs ys first.1 second)

-- shows leave the flashes as they were
pub after_shows : (ops : List Op) (fs : Flashes) → AreShows ops → after ops fs ≡ fs
after_shows [] fs all = refl
after_shows (Put d at bytes ∷ ops) fs all = absurd all.0
after_shows (Sync d ∷ ops) fs all = absurd all.0
after_shows (Show bytes ∷ ops) fs all = after_shows ops fs all.1

map_same : {A : Type 0} (f : A → A) → ((x : A) → f x ≡ x) → (o : Option A) → option_map f o ≡ o
map_same f is None = refl
map_same f is (Some x) = ap (λ y. Some y) (is x)

-- and so do calls that only show
pub shows_keep : (ops : List Op) (a b : Told) → AreShows ops → Does ops a b → b.flashes ≡ a.flashes
shows_keep ops a b all does = does.flashes ∙ map_same (after ops) (λ fs. after_shows ops fs all) a.flashes

-- no show at all, and one show
pub shows_text_none : ShowsText [] []
shows_text_none = record { shows = tt; whole = refl }

pub shows_text_one : (bytes : List ℕ) → ShowsText bytes (Show bytes ∷ [])
shows_text_one bytes = record { shows = (tt, tt); whole = append-nil bytes }

-- one text after another
pub shows_text-append : (s t : List ℕ) (xs ys : List Op) → ShowsText s xs → ShowsText t ys → ShowsText (s ++ t) (xs ++ ys)
shows_text-append s t xs ys first second =
    record {
      shows = are_shows-append xs ys first.shows second.shows;
      whole = shown_by-append xs ys ∙ ap (λ l. l ++ shown_by ys) first.whole ∙ ap (λ l. s ++ l) second.whole;
    }

-- a front is a front of a longer text
pub shows_front_longer : (s t : List ℕ) (xs : List Op) → ShowsFront s xs → ShowsFront (s ++ t) xs
shows_front_longer s t xs part =
    record {
      shows = part.shows;
      back = part.back ++ t;
      front = ap (λ l. l ++ t) part.front ∙ append_assoc (shown_by xs) part.back t;
    }

-- a front of one text after another whole one
pub shows_front-append : (s t : List ℕ) (xs ys : List Op) → ShowsText s xs → ShowsFront t ys → ShowsFront (s ++ t) (xs ++ ys)
shows_front-append s t xs ys first second =
    record {
      shows = are_shows-append xs ys first.shows second.shows;
      back = second.back;
      front =
          ap (λ l. s ++ l) second.front ∙ sym (append_assoc s (shown_by ys) second.back) ∙ ap (λ l. (l ++ shown_by ys) ++ second.back) (sym first.whole) ∙ ap (λ l. l ++ second.back) (sym (shown_by-append xs ys));
    }

-- a show that failed showed a front
pub shows_front_torn : (bytes : List ℕ) (ops : List Op) → IsTornShow bytes ops → ShowsFront bytes ops
shows_front_torn bytes ops (inl none) =
    subst (ShowsFront bytes) (sym none) (record { shows = tt; back = bytes; front = refl })
shows_front_torn bytes ops (inr torn) =
    subst (ShowsFront bytes) (sym torn.4) (record {
      shows = (tt, tt);
      back = torn.1;
      front = torn.3 ∙ ap (λ l. l ++ torn.1) (sym (append-nil torn.0));
    })

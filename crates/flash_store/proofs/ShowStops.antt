-- The shows among operations, and the stops of shows.
use Rattle.std.proofs.Common.{◌≡◌, inl, inr, ℕ, List, [], ◌∷◌, ◌++◌, refl, sym, ap, subst, ◌∙◌, append_assoc, append-nil}
use Rattle.std.specs.List.{AllByRecursion, concat}
use Rattle.urna_outside.specs.Confined.{AreIn}
use Rattle.urna_outside.specs.Flash.{Op, Put, Sync, Show, Flashes, shown_by, IsImage}
use Rattle.urna_outside.specs.ShownLines.{shows}
use Rattle.urna_outside.specs.Shows.{IsShow, AreShows, ShowsFront, ShowsText}
use Rattle.urna_outside.specs.Stop.{IsPartOf, IsStop, Left, AtEachStop}
use Rattle.urna_outside.specs.declared.device.Dev.{Dev}
use Rattle.urna_outside.proofs.Showing.{after_shows}
use Rattle.urna_outside.proofs.ShowingLines.{shows_lines}
use Rattle.twin_image.specs.Twin.{IsOfTwin}
use Rattle.flash_store.specs.Played.{IsOfSession, shows_in}

-- The shows among operations

pub shows_in-append : (xs ys : List Op) → shows_in (xs ++ ys) ≡ shows_in xs ++ shows_in ys
shows_in-append [] ys = refl
shows_in-append (Put d at bytes ∷ xs) ys = shows_in-append xs ys
shows_in-append (Sync d ∷ xs) ys = shows_in-append xs ys
shows_in-append (Show bytes ∷ xs) ys = ap (λ (l : List Op). Show bytes ∷ l) (shows_in-append xs ys)

-- of shows they are all
pub shows_in_shows : (ops : List Op) → AreShows ops → shows_in ops ≡ ops
shows_in_shows [] all = refl
shows_in_shows (Put d at bytes ∷ ops) all = absurd all.0
shows_in_shows (Sync d ∷ ops) all = absurd all.0
shows_in_shows (Show bytes ∷ ops) all = ap (λ (l : List Op). Show bytes ∷ l) (shows_in_shows ops all.1)

-- of writes and syncs there are none
pub shows_in_silent : (In : Dev → ℕ → Type 0) (ops : List Op) → AreIn In ops → shows_in ops ≡ []
shows_in_silent In [] all = refl
shows_in_silent In (Put d at bytes ∷ ops) all = shows_in_silent In ops all.1
shows_in_silent In (Sync d ∷ ops) all = shows_in_silent In ops all.1
shows_in_silent In (Show bytes ∷ ops) all = absurd all.0

-- they showed the text of all
pub shown_by-shows_in : (ops : List Op) → shown_by (shows_in ops) ≡ shown_by ops
shown_by-shows_in [] = refl
shown_by-shows_in (Put d at bytes ∷ ops) = shown_by-shows_in ops
shown_by-shows_in (Sync d ∷ ops) = shown_by-shows_in ops
shown_by-shows_in (Show bytes ∷ ops) = ap (λ (l : List ℕ). bytes ++ l) (shown_by-shows_in ops)

-- one show a line shows the text of the lines
pub text_of_lines : (ops : List Op) (lines : List (List ℕ)) → shows_in ops ≡ shows lines → shown_by ops ≡ concat lines
text_of_lines ops lines same = sym (shown_by-shows_in ops) ∙ ap shown_by same ∙ (shows_lines lines).whole

-- a whole text is a front of itself
pub front_of_text : (text : List ℕ) (ops : List Op) → ShowsText text ops → ShowsFront text ops
front_of_text text ops showed =
    record { shows = showed.shows; back = []; front = sym showed.whole ∙ sym (append-nil (shown_by ops)) }

-- Operations of a session

module _ (size : ℕ) where
  pub session_shows : (ops : List Op) → AreShows ops → AllByRecursion (IsOfSession size) ops
  session_shows [] all = tt
  session_shows (Put d at bytes ∷ ops) all = absurd all.0
  session_shows (Sync d ∷ ops) all = absurd all.0
  session_shows (Show bytes ∷ ops) all = (tt, session_shows ops all.1)

  pub session_slots : (ops : List Op) → AreIn (λ d k. IsOfTwin size k) ops → AllByRecursion (IsOfSession size) ops
  session_slots [] all = tt
  session_slots (Put d at bytes ∷ ops) all = (all.0, session_slots ops all.1)
  session_slots (Sync d ∷ ops) all = (tt, session_slots ops all.1)
  session_slots (Show bytes ∷ ops) all = absurd all.0

-- The stops of shows

part_shows : (op one : Op) → IsShow op → IsPartOf op one → IsShow one
part_shows (Put d at bytes) one is part = absurd is
part_shows (Sync d) one is part = absurd is
part_shows (Show bytes) one is part = subst IsShow (sym part.3) tt

-- a stop of shows is shows
pub stop_shows : (ops done : List Op) → AreShows ops → IsStop ops done → AreShows done
stop_shows ops [] all stop = tt
stop_shows [] (one ∷ done) all stop = absurd stop
stop_shows (op ∷ ops) (one ∷ done) all (inl whole) =
    (subst IsShow (sym whole.0) all.0, stop_shows ops done all.1 whole.1)
stop_shows (op ∷ ops) (one ∷ done) all (inr part) =
    (part_shows op one all.0 part.0, subst AreShows (sym part.1) tt)

-- which showed a front of their text
stop_front : (ops done : List Op) → AreShows ops → IsStop ops done → (rest : List ℕ) × (shown_by ops ≡ shown_by done ++ rest)
stop_front ops [] all stop = (shown_by ops, refl)
stop_front [] (one ∷ done) all stop = absurd stop
stop_front (Put d at bytes ∷ ops) (one ∷ done) all stop = absurd all.0
stop_front (Sync d ∷ ops) (one ∷ done) all stop = absurd all.0
stop_front (Show bytes ∷ ops) (one ∷ done) all (inl whole) =
    let later = stop_front ops done all.1 whole.1 in (
      later.0,
      ap (λ (l : List ℕ). bytes ++ l) later.1 ∙ sym (append_assoc bytes (shown_by done) later.0) ∙ ap (λ (op : Op). shown_by (op ∷ done) ++ later.0) (sym whole.0),
    )
stop_front (Show bytes ∷ ops) (one ∷ done) all (inr part) = (
  part.0.1 ++ shown_by ops,
  ap (λ (l : List ℕ). l ++ shown_by ops) part.0.2
      ∙ append_assoc part.0.0 part.0.1 (shown_by ops)
      ∙ ap (λ (l : List ℕ). l ++ (part.0.1 ++ shown_by ops)) (sym (append-nil part.0.0))
      ∙ ap (λ (l : List Op). shown_by l ++ (part.0.1 ++ shown_by ops)) (sym (λ i. part.0.3 i ∷ part.1 i)),
)

-- What holds of every image of the flashes and every front of the text holds at each stop of shows.
pub stops_of_shows : (start : Flashes) (ops : List Op) (P : Left → Type 0) → AreShows ops
    → ((left : Left) → IsImage start.internal left.internal → IsImage start.external left.external → (rest : List ℕ) → shown_by ops ≡ left.shown ++ rest → P left)
    → AtEachStop start ops P
stops_of_shows start ops P all holds done stop left is =
    let same = after_shows done start (stop_shows ops done all stop) in
    let front = stop_front ops done all stop in
    holds left (subst (λ (fs : Flashes). IsImage fs.internal left.internal) same is.internal) (subst (λ (fs : Flashes). IsImage fs.external left.external) same is.external) front.0
    (front.1 ∙ ap (λ (l : List ℕ). l ++ front.0) (sym is.shown))

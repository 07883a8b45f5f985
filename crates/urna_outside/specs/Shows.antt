-- Operations that only show.
use Rattle.std.specs.Prelude.{◌≡◌, ℕ, List, ◌++◌}
use Rattle.std.specs.List.{AllByRecursion}
use Rattle.urna_outside.specs.Flash.{Op, Put, Sync, Show, shown_by}

-- it shows, and so puts and syncs nothing
abbrev pub IsShow : Op → Type 0
IsShow (Put d at bytes) = ⊥
IsShow (Sync d) = ⊥
IsShow (Show bytes) = Unit {0}

-- each of these operations is a show
abbrev pub AreShows : List Op → Type 0
AreShows ops = AllByRecursion IsShow ops

-- shows, which together showed this text
pub record ShowsText (text : List ℕ) (ops : List Op) : Type 0 where
  pub shows : AreShows ops
  pub whole : shown_by ops ≡ text

-- shows, which together showed a front of this text: nothing of it, some or all
pub record ShowsFront (text : List ℕ) (ops : List Op) : Type 0 where
  pub shows : AreShows ops
  pub back : List ℕ
  pub front : text ≡ shown_by ops ++ back

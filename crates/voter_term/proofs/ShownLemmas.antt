-- What a key shows, by the field and by the word
use Rattle.std.proofs.Common.{◌≡◌, ◌<◌, cond, List, Option, refl, ap}
use Rattle.key_script.specs.declared.keys.Key.{Key}
use Rattle.key_script.specs.declared.keys.Key.TheVariants as key
use Rattle.vote_kinds.specs.declared.choice.Choice.{Choice}
use Rattle.voter_term.specs.declared.panel.Shown.TheVariants as shown
use Rattle.vote_kinds.specs.Ballot.{BallotLine}
use Rattle.voter_term.specs.Field.{field_after, same_field, shown_by}
use Rattle.voter_term.specs.Panel.{next_shown}
use Rattle.voter_term.proofs.Words.{field_after-more}

pub shown_by-is : (line : BallotLine) (earlier : Option Choice) (w : List Key) (k : Key) → 0 < line.digits → shown_by line earlier w k ≡ next_shown line earlier (field_after line.digits w) k
shown_by-is line earlier w key.Confirm h = refl
shown_by-is line earlier w key.Blank h = ap (λ f. cond (same_field f (field_after line.digits w)) shown.Nothing shown.Screen) (field_after-more line.digits w key.Blank h)
shown_by-is line earlier w key.Correct h = ap (λ f. cond (same_field f (field_after line.digits w)) shown.Nothing shown.Screen) (field_after-more line.digits w key.Correct h)
shown_by-is line earlier w (key.Digit d) h = ap (λ f. cond (same_field f (field_after line.digits w)) shown.Nothing shown.Screen) (field_after-more line.digits w (key.Digit d) h)

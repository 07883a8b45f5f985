-- Laws of lists of events, for loops over the events of a script.
use Rattle.std.proofs.Common.{◌≡◌, List, [], ◌∷◌, ◌++◌, refl, ap, sym, ◌∙◌, append_assoc}
use Rattle.key_script.specs.declared.keys.Event.{Event}
use Rattle.key_script.specs.declared.keys.Event.TheVariants.{Clerk, Voter}
use Rattle.key_script.specs.Event.{keys_of}

-- the events so far and those that are left, one event further
pub yielded_more : (script yielded before after : List Event) (event : Event) → yielded ++ before ≡ script → before ≡ event ∷ after → (yielded ++ event ∷ []) ++ after ≡ script
yielded_more script yielded before after event place step = append_assoc yielded (event ∷ []) after ∙ (ap (λ left. yielded ++ left) (sym step) ∙ place)

-- the voter's keys of events that are joined
pub keys_of-append : (xs ys : List Event) → keys_of (xs ++ ys) ≡ keys_of xs ++ keys_of ys
keys_of-append [] ys = refl
keys_of-append (Clerk key ∷ xs) ys = keys_of-append xs ys
keys_of-append (Voter key ∷ xs) ys = ap (λ keys. key ∷ keys) (keys_of-append xs ys)

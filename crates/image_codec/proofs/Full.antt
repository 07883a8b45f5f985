-- Panels that have all votes of so many voters
use Rattle.std.proofs.Common.{◌≡◌, ℕ, zero, suc, ◌+◌, ◌*◌, ◌<◌, ◌≤◌, List, [], ◌∷◌, length, map, replicate, slice_index, refl, sym, ap, ◌∙◌, arith}
use Rattle.std.proofs.lemmas.List.{length-map}
use Rattle.vote_kinds.specs.declared.choice.Choice.{Choice}
use Rattle.vote_record.specs.Bag.{bag_at}
use Rattle.image_codec.specs.Valid.{AllHaveVoted}

pub full_cons : (n votes : ℕ) (places : List ℕ) (bag : List Choice) (bags : List (List Choice)) → length bag ≡ n * votes → AllHaveVoted n places bags → AllHaveVoted n (votes ∷ places) (bag ∷ bags)
full_cons n votes places bag bags first rest = ap (λ (k : ℕ). k ∷ map length bags) first ∙ ap (λ (r : List ℕ). n * votes ∷ r) rest

pub full_head : (n votes : ℕ) (places : List ℕ) (bag : List Choice) (bags : List (List Choice)) → AllHaveVoted n (votes ∷ places) (bag ∷ bags) → length bag ≡ n * votes
full_head n votes places bag bags full = cc

pub full_tail : (n votes : ℕ) (places : List ℕ) (bag : List Choice) (bags : List (List Choice)) → AllHaveVoted n (votes ∷ places) (bag ∷ bags) → AllHaveVoted n places bags
full_tail n votes places bag bags full = cc

-- there is a bag for each panel
pub full_many : (n : ℕ) (places : List ℕ) (bags : List (List Choice)) → AllHaveVoted n places bags → length bags ≡ length places
full_many n places bags full = sym (length-map bags length) ∙ ap length full ∙ length-map places (λ votes. n * votes)

pub full_at : (n : ℕ) (places : List ℕ) (bags : List (List Choice)) (panel : ℕ) → AllHaveVoted n places bags → panel < length bags → length (bag_at bags panel) ≡ n * slice_index places panel
full_at n places [] panel full lt = absurd (omega arith)
full_at n [] (b ∷ bags) panel full lt = absurd (cc)
full_at n (p ∷ places) (b ∷ bags) zero full lt = full_head n p places b bags full
full_at n (p ∷ places) (b ∷ bags) (suc panel) full lt = full_at n places bags panel (full_tail n p places b bags full) (omega arith)

-- they have where each bag has them
pub full_by : (n : ℕ) (places : List ℕ) (bags : List (List Choice)) → length bags ≡ length places
    → ((panel : ℕ) → panel < length bags → length (bag_at bags panel) ≡ n * slice_index places panel) → AllHaveVoted n places bags
full_by n [] [] many each = refl
full_by n [] (b ∷ bags) many each = absurd (omega arith)
full_by n (p ∷ places) [] many each = absurd (omega arith)
full_by n (p ∷ places) (b ∷ bags) many each =
    full_cons n p places b bags (each zero (omega arith)) (full_by n places bags (omega arith) (λ panel lt. each (suc panel) (omega arith)))

-- nobody's votes
pub full_empty : (places : List ℕ) → AllHaveVoted 0 places (replicate (length places) [])
full_empty [] = refl
full_empty (p ∷ places) = full_cons 0 p places [] (replicate (length places) []) (omega arith) (full_empty places)

pub no_votes : (places : List ℕ) (bags : List (List Choice)) → AllHaveVoted 0 places bags → bags ≡ replicate (length bags) []
no_votes places [] full = refl
no_votes [] (b ∷ bags) full = absurd (cc)
no_votes (p ∷ places) ([] ∷ bags) full = ap (λ (r : List (List Choice)). [] ∷ r) (no_votes places bags (full_tail 0 p places [] bags full))
no_votes (p ∷ places) ((c ∷ b) ∷ bags) full = let none = full_head 0 p places (c ∷ b) bags full in absurd (omega arith)

-- the votes of one voter more, and of fewer
pub one_voter_more : (n voters votes : ℕ) → n < voters → n * votes + votes ≤ voters * votes
one_voter_more n voters votes lt = grind arith

pub fewer_votes : (n voters votes : ℕ) → n ≤ voters → n * votes ≤ voters * votes
fewer_votes n voters votes le = grind arith

-- A state is known by its phase, by who came, and by the counts of its bags.
use Rattle.std.proofs.Common.{◌≡◌, ℕ, suc, ◌<◌, Bool, List, [], ◌∷◌, length, refl, sym, ap, ◌∙◌, arith}
use Rattle.std.specs.List.{AllByRecursion}
use Rattle.vote_kinds.specs.declared.choice.Choice.{Choice}
use Rattle.vote_record.specs.Bag.{IsInOrder, bag_at, count_of}
use Rattle.vote_record.proofs.Bags.{same_bag}
use Rattle.turnout.proofs.Marks.{same_came}
use Rattle.turnout.specs.declared.phase.Phase.{Phase}
use Rattle.image_codec.specs.CodecLaws.{IsKnownByVotes}
use Rattle.image_codec.specs.Encoding.{encode}
use Rattle.image_codec.specs.State.{State}
use Rattle.image_codec.proofs.OfTables.{panels_of}

same_bags : (a b : List (List Choice)) → length a ≡ length b → AllByRecursion IsInOrder a → AllByRecursion IsInOrder b
    → ((panel : ℕ) (c : Choice) → panel < length a → count_of c (bag_at a panel) ≡ count_of c (bag_at b panel)) → a ≡ b
same_bags [] [] long a_order b_order same = refl
same_bags [] (y ∷ b) long a_order b_order same = absurd (omega arith)
same_bags (x ∷ a) [] long a_order b_order same = absurd (omega arith)
same_bags (x ∷ a) (y ∷ b) long a_order b_order same =
    let first : x ≡ y = same_bag x y a_order.0 b_order.0 (λ c. same 0 c (omega arith)) in
    ap (λ (bag : List Choice). bag ∷ a) first
    ∙ ap (λ (l : List (List Choice)). y ∷ l)
    (same_bags a b (omega (arith, long)) a_order.1 b_order.1 (λ panel c lt. same (suc panel) c (omega (arith, lt))))

same_state : (s u : State) → s.phase ≡ u.phase → s.came ≡ u.came → s.places ≡ u.places → s.bags ≡ u.bags → s ≡ u
same_state s u phase came places bags =
    ap (λ (p : Phase). record s { phase = p }) phase
    ∙ ap (λ (l : List Bool). record s { phase = u.phase; came = l }) came
    ∙ ap (λ (l : List ℕ). record { phase = u.phase; came = u.came; places = l; bags = s.bags }) places
    ∙ ap (λ (l : List (List Choice)). record u { bags = l }) bags

pub known_by_votes : IsKnownByVotes
known_by_votes t voters s u of_s of_u phase came counts =
    let panels = panels_of t voters s of_s in
    let bags : s.bags ≡ u.bags =
    same_bags s.bags u.bags (panels ∙ sym (panels_of t voters u of_u)) of_s.valid.in_order of_u.valid.in_order (λ panel c lt. counts panel c (omega (arith, lt, panels))) in
    let same = same_state s u phase (same_came s.came u.came (of_s.roll ∙ sym of_u.roll) came) (of_s.places ∙ sym of_u.places) bags in
    (same, ap (encode t) same)

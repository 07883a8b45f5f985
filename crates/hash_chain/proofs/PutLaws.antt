-- The lines of parts are appended one by one.
use Rattle.std.proofs.Common.{◌≡◌, ℕ, List, [], ◌∷◌, ◌++◌, ◌-◌, length, take, drop, Option, None, Bor, refl, sym, ap, ◌∙◌, append_assoc}
use Rattle.std.specs.Prelude.{codes}
use Rattle.std.proofs.lemmas.List.{append-nil, take_rest}
use Rattle.std.proofs.Math.Seq.{drop-append_seam}
use Rattle.urna_base.specs.Words.{pieces, pieces_left}
use Rattle.hash_chain.proofs.PieceLaws.{joined_pieces}
use Rattle.hash_chain.specs.Chain.{Link, link_text, links_from, links_text, link_of, hashed_text}
use Rattle.hash_chain.specs.Cut.{cut}
use Rattle.hash_chain.specs.Reading.{plain_text}

pub no_cut : cut [] ≡ []
unfolding cut
no_cut = refl

-- what stands behind all that was there
pub behind : (out added items : List ℕ) (start : ℕ) → items ≡ out ++ added → start ≡ length out → take (length items - start) (drop start items) ≡ added
behind out added items start e s = take_rest items start ∙ (ap (λ (n : ℕ). drop n items) s ∙ (ap (λ (t : List ℕ). drop (length out) t) e ∙ drop-append_seam out added))

pub plain_is : (parts number : ℕ) (before fields : List ℕ) → plain_text parts number fields ≡ hashed_text (link_of parts number before (pieces fields))
plain_is parts number before fields = ap (λ (t : List ℕ). plain_text parts number t) (sym (joined_pieces fields))

pub line_put : (out text end : List ℕ) (parts number : ℕ) (before fields hash : List ℕ) → text ≡ out ++ plain_text parts number fields → hash ≡ (link_of parts number before (pieces fields)).hash
    → end ≡ text ++ (codes " HASH:" ++ (hash ++ 10 ∷ [])) → end ≡ out ++ (link_text (link_of parts number before (pieces fields)) ++ 10 ∷ [])
line_put out text end parts number before fields hash e h g =
    let l : Link = link_of parts number before (pieces fields) in
    g ∙ (ap (λ (t : List ℕ). t ++ (codes " HASH:" ++ (hash ++ 10 ∷ []))) (e ∙ ap (λ (t : List ℕ). out ++ t) (plain_is parts number before fields))
    ∙ (ap (λ (t : List ℕ). (out ++ hashed_text l) ++ (codes " HASH:" ++ (t ++ 10 ∷ []))) h
    ∙ (append_assoc out (hashed_text l) (codes " HASH:" ++ (l.hash ++ 10 ∷ []))
    ∙ ap (λ (t : List ℕ). out ++ t) (sym (append_assoc (hashed_text l) (codes " HASH:" ++ l.hash) (10 ∷ []))))))

-- where no part is left, all stand there
pub none_left : (out : List ℕ) (parts number : ℕ) (hash : List ℕ) (rest : Option (Bor (List ℕ))) (all : List ℕ) → rest ≡ None
    → out ++ links_text (links_from parts number hash (cut (pieces_left rest))) ≡ all → out ≡ all
none_left out parts number hash rest all none e =
    sym (append-nil out)
    ∙ (ap (λ (ps : List (List (List ℕ))). out ++ links_text (links_from parts number hash ps)) (sym no_cut)
    ∙ (ap (λ (o : Option (Bor (List ℕ))). out ++ links_text (links_from parts number hash (cut (pieces_left o)))) (sym none) ∙ e))

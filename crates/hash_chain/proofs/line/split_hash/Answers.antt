use Rattle.std.proofs.Common.{◌≡◌, ℕ, List, ◌++◌, ◌+◌, Some, None, Option, Bor, true, length, take, drop, sym, ◌∙◌, ap, arith}
use Rattle.std.specs.Prelude.{codes}
use Rattle.std.specs.Option.{option_copied}
use Rattle.std.specs.List.{list_all}
use Rattle.std.proofs.lemmas.List.{take-append-drop}
use Rattle.urna_base.proofs.WordLaws.{after_word-some}
use Rattle.urna_base.specs.Words.{after_word, pieces}
use Rattle.hash_chain.proofs.LineParts.{tail_none, tail_read, tail_short}
use Rattle.hash_chain.proofs.line.split_hash.Goals as goal
use Rattle.hash_chain.proofs.line.split_hash.Goals.{in_default-via-in-Some+then-is_hash+else-are_fields, in_default-via-in-Some+else-is_hash, in_default-via-in_default}
use Rattle.hash_chain.specs.Hash.{is_hash}
use Rattle.hash_chain.specs.Lines.{is_field}
use Rattle.hash_chain.specs.Reading.{tail_of}

pub returns-then-rest-lt-TAIL_SIZE : goal.returns-then-rest-lt-TAIL_SIZE
returns-then-rest-lt-TAIL_SIZE c = tail_short c.args.rest.now c.if-rest-lt-TAIL_SIZE.true

-- what stands in front of a place and behind it
whole : (rest front back : List ℕ) (mid : ℕ) → front ≡ take mid rest → back ≡ drop mid rest → rest ≡ front ++ back
whole rest front back mid f b = sym (take-append-drop mid rest) ∙ (ap (λ (t : List ℕ). t ++ drop mid rest) (sym f) ∙ ap (λ (t : List ℕ). front ++ t) (sym b))

pub returns-in-Some : goal.returns-in-Some
returns-in-Some c =
    let rest : List ℕ = c.args.rest.now in
    let fields : List ℕ = c.split_at.result.0.now in
    let tail : List ℕ = c.split_at.result.1.now in
    let word : after_word (codes " HASH:") tail ≡ Some c.in-Some.hash.now = sym c.after.ensures ∙ ap (λ (o : Option (Bor (List ℕ))). option_copied o) c.in-Some.is in
    let behind = after_word-some (codes " HASH:") tail c.in-Some.hash.now word in
    let all = whole rest fields tail _ c.split_at.ensures.front c.split_at.ensures.back ∙ ap (λ (t : List ℕ). fields ++ t) behind in
    let fine : list_all is_field (pieces fields) ≡ true = sym c.are_fields.ensures ∙ c.if-are_fields.true in
    let hash : is_hash c.in-Some.hash.now ≡ true = sym c.is_hash.ensures ∙ c.if-is_hash.true in
    ap (λ (t : List ℕ). tail_of t) all ∙ tail_read fields c.in-Some.hash.now fine hash

pub returns-in_default : goal.returns-in_default
returns-in_default c =
    let rest : List ℕ = c.args.rest.now in
    let fields : List ℕ = c.split_at.result.0.now in
    let tail : List ℕ = c.split_at.result.1.now in
    let long = c.if-rest-lt-TAIL_SIZE.false in
    let front_len = c.split_at.ensures.front_len in
    let size : length fields + 134 ≡ length rest = omega arith in
    let all = whole rest fields tail _ c.split_at.ensures.front c.split_at.ensures.back in
    elim c.in_default.branch [
      | in_default-via-in-Some+then-is_hash+else-are_fields w ↦
          tail_none rest fields tail all size (λ h word fine hash. let no = sym w.are_fields.ensures ∙ w.if-are_fields.false in absurd (cc))
      | in_default-via-in-Some+else-is_hash w ↦
          let word' : after_word (codes " HASH:") tail ≡ Some w.in-Some.hash.now = sym c.after.ensures ∙ ap (λ (o : Option (Bor (List ℕ))). option_copied o) w.in-Some.is in
          tail_none rest fields tail all size (λ h word fine hash.
          let both : Some h ≡ Some w.in-Some.hash.now = sym word ∙ word' in
          let same : h ≡ w.in-Some.hash.now = cc in
          let no = sym w.is_hash.ensures ∙ w.if-is_hash.false in
          let yes = ap (λ (t : List ℕ). is_hash t) (sym same) ∙ hash in
          absurd (cc))
      | in_default-via-in_default w ↦
          let none : after_word (codes " HASH:") tail ≡ None = sym c.after.ensures ∙ ap (λ (o : Option (Bor (List ℕ))). option_copied o) w.in_default.is in
          tail_none rest fields tail all size (λ h word fine hash. absurd (cc))
    ]

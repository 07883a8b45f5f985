use Rattle.std.proofs.Common.{◌≡◌, ◌≢◌, ◌≤◌, inl, inr, ℕ, true, false, Option, Some, IfOk, Result, Ok, Err, List, [], length, option_map, refl, sym, ap, subst, ◌∙◌, arith}
use Rattle.std.proofs.lemmas.Slice.Eq.{bytes_eq-Decides}
use Rattle.std.specs.Str.{bytes_eq}
use Rattle.urna_outside.specs.Flash.{Op}
use Rattle.urna_outside.specs.Told.{Told, Runs}
use Rattle.gate_slot.specs.Front.{RunsUpTo}
use Rattle.urna_outside.proofs.Doing.{does_nothing}
use Rattle.election_tables.specs.Limits.{most_voters}
use Rattle.image_codec.specs.Decoded.{rank_in}
use Rattle.image_codec.specs.Encoding.{encode}
use Rattle.image_codec.specs.Layout.{body_size}
use Rattle.image_codec.specs.State.{rank_of}
use Rattle.image_codec.proofs.Decoding.{decoded_back}
use Rattle.twin_image.specs.Held.{IsNotOutranked}
use Rattle.twin_image.specs.Level.{CommitsTo, body_of}
use Rattle.twin_image.specs.Order.{AreRenewals}
use Rattle.state_store.specs.Calls.{IsBroughtUp}
use Rattle.state_store.proofs.Changing.{rank_named}
use Rattle.state_store.proofs.Stored.{known_state, long_state}
use Rattle.state_store.proofs.Versions.{brings_up, brings_up_none}
use Rattle.state_store.proofs.version.bring_up.Goals as goal

-- two bodies of one rank
even : (rank : List ℕ → Option ℕ) (old new : List ℕ) (top : ℕ) → rank old ≡ Some top → rank new ≡ Some top → IsNotOutranked rank new old
even rank old new top is_old is_new =
    record { lower = top; higher = top; old_rank = is_old; new_rank = is_new; no_lower = omega arith }

pub returns-then-eq-clause-body : goal.returns-then-eq-clause-body
returns-then-eq-clause-body g c =
    let agree : c.body.result.now ≡ c.encode_into.new.into = (bytes_eq-Decides c.body.result.now c.encode_into.new.into).0 (sym c.eq.ensures ∙ c.if-eq.true) in
    sym c.body.ensures ∙ agree ∙ c.encode_into.ensures

pub returns-then-eq-clause-ran : goal.returns-then-eq-clause-ran
returns-then-eq-clause-ran g c =
    let t = c.args.tables.now in
    let s = c.args.state.now in
    let as_many : c.of-ranks.result.voters ≡ length s.came = c.of-ranks.ensures.voters ∙ c.voters.ensures.count ∙ ap length c.turnout.ensures in
    let few : length s.came ≤ most_voters = omega (arith, as_many, c.of-ranks.result.few) in
    let known = decoded_back t (length s.came) (body_of c.args.level) s c.of-ranks.ensures.whole few c.requires.encoding in
    brings_up_none t (length s.came) c.of-ranks.ensures.whole few s (body_of c.args.level) known c.requires.stands.long (g.M.Machine.told c.args.m.now) c.requires.stands.flashes

pub returns-then-eq-clause-order : goal.returns-then-eq-clause-order
returns-then-eq-clause-order g c = λ fs told.
    let agree : c.body.result.now ≡ c.encode_into.new.into = (bytes_eq-Decides c.body.result.now c.encode_into.new.into).0 (sym c.eq.ensures ∙ c.if-eq.true) in
    let same : body_of c.args.level ≡ encode c.args.tables.now c.args.state.now = sym c.body.ensures ∙ agree ∙ c.encode_into.ensures in
    ([], does_nothing (g.M.Machine.told c.args.m.now), inl (same, refl))

pub commit-requires : goal.commit-requires
commit-requires g c =
    let t = c.args.tables.now in
    let s = c.args.state.now in
    let voters = length s.came in
    let count = c.of-ranks.result.voters in
    let as_many : count ≡ voters = c.of-ranks.ensures.voters ∙ c.voters.ensures.count ∙ ap length c.turnout.ensures in
    let few : voters ≤ most_voters = omega (arith, as_many, c.of-ranks.result.few) in
    let whole = c.of-ranks.ensures.whole in
    let known = known_state t voters s whole few c.requires.encoding.state in
    let old_known = decoded_back t voters (body_of c.args.level) s whole few c.requires.encoding in
    let long = ap length c.encode_into.ensures ∙ long_state t voters s whole few c.requires.encoding.state in
    let written = ap (λ (b : List ℕ). rank_in t voters b) c.encode_into.ensures ∙ ap (option_map rank_of) known in
    let ranked = even (rank_in t voters) (body_of c.args.level) c.encode_into.new.into (rank_of s) (ap (option_map rank_of) old_known) written in
    (omega arith, (c.requires.stands, (long, subst (λ (rank : List ℕ → Option ℕ). IsNotOutranked rank c.encode_into.new.into (body_of c.args.level)) (rank_named t c.of-ranks.result.tables.now voters count c.of-ranks.ensures.tables as_many) ranked)))

pub returns-clause-body : goal.returns-clause-body
returns-clause-body g c =
    subst (λ (b : List ℕ). IfOk c.commit.result (λ level. body_of level ≡ b)) c.encode_into.ensures c.commit.ensures.body

pub returns-clause-ran : goal.returns-clause-ran
returns-clause-ran g c =
    let t = c.args.tables.now in
    let s = c.args.state.now in
    let voters = length s.came in
    let count = c.of-ranks.result.voters in
    let a = g.M.Machine.told c.args.m.now in
    let b = g.M.Machine.told c.commit.new.m in
    let as_many : count ≡ voters = c.of-ranks.ensures.voters ∙ c.voters.ensures.count ∙ ap length c.turnout.ensures in
    let few : voters ≤ most_voters = omega (arith, as_many, c.of-ranks.result.few) in
    let whole = c.of-ranks.ensures.whole in
    let known = known_state t voters s whole few c.requires.encoding.state in
    let old_known = decoded_back t voters (body_of c.args.level) s whole few c.requires.encoding in
    let same_rank = rank_named t c.of-ranks.result.tables.now voters count c.of-ranks.ensures.tables as_many in
    let run = subst (λ (rank : List ℕ → Option ℕ). Runs (CommitsTo a rank body_size (body_of c.args.level) c.encode_into.new.into) a b) (sym same_rank) c.commit.ensures.ran in
    brings_up t voters whole few s (body_of c.args.level) (encode t s) old_known known a b (subst (λ (l : List ℕ). Runs (CommitsTo a (rank_in t voters) body_size (body_of c.args.level) l) a b) c.encode_into.ensures run)

-- what was done up to a fault, by what it was more than that
up_to_weaker : {T E : Type 0} (r : Result T E) (P Q : List Op → Type 0) (a b : Told) → ((ops : List Op) → P ops → Q ops) → RunsUpTo r P a b → RunsUpTo r Q a b
up_to_weaker (Ok x) P Q a b weaker run = (run.0, run.1, weaker run.0 run.2)
up_to_weaker (Err e) P Q a b weaker run = (run.0, run.1, (run.2.0, weaker run.2.0 run.2.1, run.2.2))

pub returns-clause-order : goal.returns-clause-order
returns-clause-order g c = λ start told.
    let t = c.args.tables.now in
    let s = c.args.state.now in
    let a = g.M.Machine.told c.args.m.now in
    let b = g.M.Machine.told c.commit.new.m in
    let old = body_of c.args.level in
    let differ : old ≢ encode t s = λ same.
    let agree : c.body.result.now ≡ c.encode_into.new.into = c.body.ensures ∙ same ∙ sym c.encode_into.ensures in
    let eq : bytes_eq c.body.result.now c.encode_into.new.into ≡ true = (bytes_eq-Decides c.body.result.now c.encode_into.new.into).1 agree in
    let ne : bytes_eq c.body.result.now c.encode_into.new.into ≡ false = sym c.eq.ensures ∙ c.if-eq.false in
    cc
    in
    up_to_weaker c.commit.result (AreRenewals body_size old c.encode_into.new.into) (IsBroughtUp t s old) a b
    (λ ops are. inr (differ, subst (λ (l : List ℕ). AreRenewals body_size old l ops) c.encode_into.ensures are)) (c.commit.ensures.order start told)

use Rattle.std.proofs.Common.{◌≡◌, ◌==◌, ◌∷◌, [], ◌++◌, ℕ, Bool, true, false, List, length, map, filter, take, cond, append-nil, sym, ap, ◌∙◌, arith}
use Rattle.std.proofs.lemmas.Bool.Decides.{nat_tests}
use Rattle.std.proofs.lemmas.List.{length_push, map-append}
use Rattle.section_intake.proofs.TallyLaws.{party_at}
use Rattle.seat_remainders.specs.declared.contest.Contestant.{Contestant}
use Rattle.seat_remainders.specs.declared.contest.Entry.{Entry}
use Rattle.election_tables.specs.TablesData.{bloc_of}
use Rattle.totals.specs.Contest.{party_numbers}
use Rattle.totals.specs.Giving.{party_votes_for, without_candidates}
use Rattle.totals.proofs.BlocLaws.{one_more, party_listed, party_there}
use Rattle.totals.proofs.blocs.blocs_without_candidates.Goals as goal
use Rattle.totals.proofs.blocs.blocs_without_candidates.Goals.{then-bloc_of-party+in_ok-push, else-bloc_of-party}

pub bloc_of-requires : goal.bloc_of-requires
bloc_of-requires c =
    let t = c.args.tables.now in
    let n = c.party-party.result in
    sym (party_listed n t.parties) ∙ party_there (party_numbers t) c.loop-i.i n (party_at t c.loop-i.i n c.party-party.ensures.party)

abbrev one : ℕ → ℕ → List Entry → Contestant
one number votes candidates = record { number = number; party_votes = votes; candidates = candidates }

pub loop-i-preserved : goal.loop-i-preserved
loop-i-preserved c =
    let t = c.args.tables.now in
    let n = c.party-party.result in
    let i = c.loop-i.i in
    let ns = party_numbers t in
    let own = λ (q : ℕ). bloc_of t.federations q == q in
    let first = filter own (take i ns) in
    let bloc = c.bloc_of.ensures in
    let more = one_more own ns i n (party_at t i n c.party-party.ensures.party) in
    elim c.if-bloc_of-party.branch [
      | then-bloc_of-party+in_ok-push w ↦
          let test = w.if-bloc_of-party.true in
          let is : own n ≡ true = grind (arith, nat_tests) in
          let all = more ∙ ap (λ (b : Bool). first ++ cond b (n ∷ []) []) is in
          let pushed = w.blocs-is ∙ w.in_ok-push.ensures.pushed in
          record {
            blocs = λ reports read.
                let make = without_candidates t reports c.args.panel in
                pushed
                ∙ (ap (λ (l : List Contestant). l ++ one n w.party_votes_for.result w.new.result ∷ []) (c.loop-i.invariant.blocs reports read)
                ∙ (ap (λ (v : ℕ). map make first ++ one n v w.new.result ∷ []) (w.party_votes_for.ensures reports read)
                ∙ (ap (λ (l : List Entry). map make first ++ one n (party_votes_for t reports c.args.panel n) l ∷ []) w.new.ensures
                ∙ (sym (map-append make first (n ∷ [])) ∙ ap (λ (l : List ℕ). map make l) (sym all)))));
            few = omega (arith, ap (λ (l : List Contestant). length l) pushed, length_push c.loop-i.blocs (one n w.party_votes_for.result w.new.result), c.loop-i.invariant.few);
          }
      | else-bloc_of-party w ↦
          let test = w.if-bloc_of-party.false in
          let is : own n ≡ false = grind (arith, nat_tests) in
          let all = more ∙ ap (λ (b : Bool). first ++ cond b (n ∷ []) []) is ∙ append-nil first in
          record {
            blocs = λ reports read.
                w.blocs-is ∙ (c.loop-i.invariant.blocs reports read ∙ ap (λ (l : List ℕ). map (without_candidates t reports c.args.panel) l) (sym all));
            few = omega (arith, ap (λ (l : List Contestant). length l) w.blocs-is, c.loop-i.invariant.few);
          }
    ]

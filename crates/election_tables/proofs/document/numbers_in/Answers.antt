use Rattle.std.proofs.Common.{◌≡◌, ◌<◌, Some, None, length, get_or, sym, ap, ◌∙◌, append-nil, arith}
use Rattle.std.proofs.lemmas.Int.{to_z-of_z}
use Rattle.std.proofs.lemmas.List.{take_all}
use Rattle.toml.specs.Data.{as_integer}
use Rattle.toml.specs.View.{view}
use Rattle.election_tables.proofs.Walks.{numbers_more, numbers_in_view}
use Rattle.election_tables.proofs.document.numbers_in.Goals as goal
use Rattle.election_tables.proofs.document.numbers_in.Goals.{in-Some+in_ok-push, in_default}

pub loop-item-preserved : goal.loop-item-preserved
loop-item-preserved c =
    let vs = c.args.items.now.items in
    let i = c.loop-item.item-index in
    let v = c.item-item.result in
    let within : i < length vs = rw (← c.deref-item-items.ensures.value) c.loop-item-test.true in
    let at : v ≡ get_or vs i v = rw (← c.deref-item-items.ensures.value) c.item-item.is in
    elim c.match-as_integer.branch [
      | in-Some+in_ok-push w ↦
          let here : as_integer (view (get_or vs i v)) ≡ Some w.in-Some.number = rw (← at) (sym w.in-Some.ensures) in
          let step = numbers_more vs i v c.loop-item.numbers.items (Some w.in-Some.number) within c.loop-item.invariant here in
          ap (λ e. e.items) w.numbers-is ∙ grind (arith, to_z-of_z, step)
      | in_default w ↦
          let here : as_integer (view (get_or vs i v)) ≡ None = rw (← at) (sym (rw w.in_default.is at c.as_integer.ensures)) in
          let step = numbers_more vs i v c.loop-item.numbers.items None within c.loop-item.invariant here in
          ap (λ e. e.items) w.numbers-is ∙ sym (append-nil c.loop-item.numbers.items) ∙ step
    ]

pub returns : goal.returns
returns c =
    let vs = c.args.items.now.items in
    c.loop-item.invariant ∙ rw (take_all c.loop-item.item-index vs (rw (← c.deref-item-items.ensures.value) c.loop-item-test.false)) (sym (numbers_in_view vs))

use Rattle.std.proofs.Common.{◌≡◌, ◌<◌, Some, None, length, get_or, map, sym, ap, ◌∙◌}
use Rattle.std.proofs.lemmas.List.{take_all}
use Rattle.toml.specs.Data.{as_table}
use Rattle.toml.specs.View.{view, table_view}
use Rattle.election_tables.proofs.Walks.{entries_more_table, entries_more_other, tables_in_view}
use Rattle.election_tables.proofs.document.entries_in.Goals as goal
use Rattle.election_tables.proofs.document.entries_in.Goals.{in-Some+in_ok-read+in_ok-push, in_default}

pub loop-row-preserved : goal.loop-row-preserved
loop-row-preserved g c =
    let vs = c.args.rows.now.items in
    let i = c.loop-row.row-index in
    let v = c.row-item.result in
    let within : i < length vs = rw (← c.deref-row-items.ensures.value) c.loop-row-test.true in
    let at : v ≡ get_or vs i v = rw (← c.deref-row-items.ensures.value) c.row-item.is in
    elim c.match-as_table.branch [
      | in-Some+in_ok-read+in_ok-push w ↦
          let here : as_table (view (get_or vs i v)) ≡ Some (table_view w.in-Some.table.now) = rw (← at) (sym w.in-Some.ensures) in
          let step = entries_more_table g.E.Entry.entry_of vs i v c.loop-row.entries.items (table_view w.in-Some.table.now) within c.loop-row.invariant here in
          ap (λ e. e.items) w.entries-is ∙ w.in_ok-push.ensures.items ∙ rw w.in_ok-read.ensures step
      | in_default w ↦
          let here : as_table (view (get_or vs i v)) ≡ None = rw (← at) (sym (rw w.in_default.is at c.as_table.ensures)) in
          let step = entries_more_other g.E.Entry.entry_of vs i v c.loop-row.entries.items within c.loop-row.invariant here in
          ap (λ e. e.items) w.entries-is ∙ step
    ]

pub returns : goal.returns
returns g c =
    let vs = c.args.rows.now.items in
    c.loop-row.invariant ∙ rw (take_all c.loop-row.row-index vs (rw (← c.deref-row-items.ensures.value) c.loop-row-test.false)) (ap (map g.E.Entry.entry_of) (sym (tables_in_view vs)))

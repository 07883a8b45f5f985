use Rattle.std.proofs.Common.{rules, ◌≡◌, ◌++◌, ◌∙◌}
use Rattle.std.specs.List.{flat_map}
use Rattle.qr_text.specs.Table.{row_text}
use Rattle.qr_text.specs.Writing.{head_texts, spaced_office, with_fields}
use Rattle.qr_text.specs.declared.table.TheConstants.{TABLE}
use Rattle.qr_text.proofs.WriteLaws.{written}
use Rattle.qr_text.proofs.write.write_fields.Goals as goal

pub returns : goal.returns
returns c =
    let r = c.args.report.now in
    let parts : c.put_offices.new.out.items
    ≡ with_fields (row_text TABLE.orig 0) (head_texts r) ++ flat_map (spaced_office r) r.offices = search rules in
    parts ∙ written r

use Rattle.std.proofs.Common.{◌≡◌, ◌++◌, ◌-◌}
use Rattle.qr_text.specs.Writing.{spaced_parties}
use Rattle.qr_text.proofs.Grouping.{RestFrom}
use Rattle.qr_text.proofs.WriteLaws.{by_number, by_party}
use Rattle.qr_text.proofs.write.put_parties.Given as goal

abbrev pub invariant-loop-party : goal.invariant-loop-party
invariant-loop-party l = record {
  written : l.out.items ≡ l.fn.out.items ++ spaced_parties l.office (l.party - 10);
  candidates : RestFrom (by_party l.office) l.party l.office.nominal l.candidates;
  legends : RestFrom by_number l.party l.office.parties l.legends;
}

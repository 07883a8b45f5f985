use Rattle.std.specs.Fmt.{decimal}
use Rattle.seat_certificate.proofs.Passing.{number_put}
use Rattle.seat_certificate.proofs.text.put_number_line.Goals as goal

pub returns : goal.returns
returns c = number_put c.args.out.now.items c.put_number.new.out.items c.push.new.self.items c.args.word.now (decimal c.args.number) c.in_ok-put_number.ensures c.in_ok-push.ensures.items

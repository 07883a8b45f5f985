use Rattle.call_laws.proofs.Certificates.{certified_is_valid, verified_tells_seats}
use Rattle.call_laws.proofs.urna_laws.certificates.Goals as goal

pub returns : goal.returns
returns c = record { seats = verified_tells_seats; valid = certified_is_valid c.names_or_bad_line.ensures }

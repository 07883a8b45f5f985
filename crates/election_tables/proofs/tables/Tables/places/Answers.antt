use Rattle.std.proofs.Common.{ap, arith}
use Rattle.election_tables.specs.Offices.{places_by}
use Rattle.election_tables.proofs.PlacesOfPanels.{office_few}
use Rattle.election_tables.proofs.tables.Tables.places.Goals as goal

pub returns-clause-few : goal.returns-clause-few
returns-clause-few c =
    let office = c.office-office.result in
    let few = office_few office c.office-office.ensures.fits in
    let same = ap (places_by office.code) c.from.ensures in
    (omega (arith, few.0, c.places_by.ensures, same), omega (arith, few.1, c.places_by.ensures, same))

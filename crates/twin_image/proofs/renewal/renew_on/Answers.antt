use Rattle.twin_image.proofs.renewal.renew_on.Goals as goal

pub returns-in-Ok-clause-order : goal.returns-in-Ok-clause-order
returns-in-Ok-clause-order g c = rw c.requires.pair.first_dev at c.in-Ok.ensures.order

pub returns-in-Err-clause-order : goal.returns-in-Err-clause-order
returns-in-Err-clause-order g c = rw c.requires.pair.first_dev at c.in-Err.ensures.order

use Rattle.hash_chain.proofs.CutLaws.{one_cut}
use Rattle.hash_chain.proofs.HashLaws.{hashes}
use Rattle.hash_chain.proofs.Remaking.{lines_are_spelled}
use Rattle.hash_chain.proofs.Sizes.{few_bytes}
use Rattle.hash_chain.proofs.laws.parts.Goals as goal

pub returns-clause-one_cut : goal.returns-clause-one_cut
returns-clause-one_cut c = one_cut

pub returns-clause-lines : goal.returns-clause-lines
returns-clause-lines c = lines_are_spelled

pub returns-clause-hashes : goal.returns-clause-hashes
returns-clause-hashes c = hashes

pub returns-clause-few : goal.returns-clause-few
returns-clause-few c = few_bytes

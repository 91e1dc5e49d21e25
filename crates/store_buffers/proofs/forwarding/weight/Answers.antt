use Rattle.store_buffers.proofs.Powers.{weight_is, pow_256-positive}
use Rattle.store_buffers.proofs.forwarding.weight.Goals as goal

pub returns-clause-value : goal.returns-clause-value
returns-clause-value c = weight_is c.args.count c.requires

pub returns-clause-positive : goal.returns-clause-positive
returns-clause-positive c = rw (weight_is c.args.count c.requires) (pow_256-positive c.args.count)

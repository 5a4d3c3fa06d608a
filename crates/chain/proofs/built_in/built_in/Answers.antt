use Rattle.chain.proofs.Chains.{chain_stands}
use Rattle.chain.proofs.built_in.built_in.Goals as goal

pub returns : goal.returns
returns c = chain_stands

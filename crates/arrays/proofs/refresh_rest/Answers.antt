use Rattle.arrays.proofs.Fresh.{fresh_holds}
use Rattle.arrays.proofs.refresh_rest.Goals as goal

pub returns : goal.returns
returns c = fresh_holds

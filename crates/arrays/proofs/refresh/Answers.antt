use Rattle.arrays.proofs.Fresh.{fresh_arrays}
use Rattle.arrays.proofs.refresh.Goals as goal

pub returns : goal.returns
returns c = fresh_arrays _ c.refresh_rest.ensures

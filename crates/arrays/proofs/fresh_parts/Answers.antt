use Rattle.arrays.proofs.Fresh.{fresh_arrays}
use Rattle.arrays.proofs.fresh_parts.Goals as goal

pub returns : goal.returns
returns c = λ n. rw c.fresh_beside.ensures.labels_value (fresh_arrays n c.fresh_beside.ensures.rest)

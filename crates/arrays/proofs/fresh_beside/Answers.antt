use mathlib.Core.Path.{refl}
use Rattle.arrays.proofs.Fresh.{fresh_holds}
use Rattle.arrays.proofs.fresh_beside.Goals as goal

pub returns : goal.returns
returns g c = rw c.together.ensures (record { labels_value = refl; rest = fresh_holds })

use Rattle.arrays.proofs.Planes.{planes_copied}
use Rattle.unbounded.proofs.numbers.renumber.Goals as goal

pub returns-in-Ok-Update : goal.returns-in-Ok-Update
returns-in-Ok-Update c =
    let m = rw c.in-Ok-Update.is at c.in-Ok-Update.field-0-is in
    rw (c.in-Ok-Update.is, m) (planes_copied _ c.sized.ensures _ c.requires)

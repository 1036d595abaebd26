use native.Mathlib.Omega.{arith}
use Rattle.arrays.proofs.Planes.{planes_copied}
use Rattle.numbering.proofs.Kept.{none_given}
use Rattle.numbering.proofs.renumber.Goals as goal

pub returns-in-Update : goal.returns-in-Update
returns-in-Update c =
    rw c.in-Update.is (none_given (planes_copied _ c.sized.ensures _ (omega (arith, c.requires.place_lt_n.0, c.requires.place_lt_n.2))))

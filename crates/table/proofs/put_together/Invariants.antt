use mathlib.Core.Path.{◌≡◌}
use Rattle.basics.proofs.Filled.{filled}
use Rattle.arrays.specs.Arrays.{arrays}
use Rattle.table.specs.Tables.{declared_station}
use Rattle.table.proofs.put_together.Given as goal

abbrev pub invariant-loop-i : goal.invariant-loop-i
invariant-loop-i l =
    l.stations ≡ filled 32 l.i (declared_station (arrays 0 l.labels l.jobs l.control l.results)) (declared_station (arrays 0 l.labels l.jobs l.control l.results) 0)

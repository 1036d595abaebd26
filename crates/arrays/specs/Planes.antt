-- Numbers of the stations, kept in two planes: those of their current and of their pending labels (02, Cards 6 and 7).
use Rattle.std.specs.Prelude.{ℕ}
use Rattle.simulation.specs.Machine.{Labelling}
use Rattle.arrays.specs.Arrays.{Rows, cell, plane}

-- the number of a station's current (false) or pending (true) label
abbrev pub beside : Rows → Labelling ℕ
beside numbers x i = cell numbers (plane x) i 0

-- A table with its scan order, as the code keeps it.
use Rattle.arrays.specs.Arrays.{Rows, Planes, Arrays, arrays}
use Rattle.arrays.specs.declared.Parts.{Parts}
use Rattle.arrays.specs.declared.OrderedTable.{OrderedTable}

-- its arrays
abbrev pub arrays_in : OrderedTable (Parts Planes Rows Rows Planes) → Arrays
arrays_in t = arrays t.count t.parts.labels t.parts.jobs t.parts.control t.parts.results

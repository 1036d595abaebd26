use mathlib.Core.Path.{◌≡◌}
use mathlib.Core.List.{map}
use Rattle.simulation.specs.Calls.{panel_records}
use Rattle.transition.specs.Forms.{over}
use Rattle.arrays.specs.Arrays.{entries_in}
use Rattle.engine.specs.Clauses.{row_of}
use Rattle.engine.proofs.fill.Given as goal

-- After i turns the first i records are written; what lies past them is as it was.
abbrev pub invariant-loop-i : goal.invariant-loop-i
invariant-loop-i l = l.panel ≡ over (map row_of (panel_records 1 (entries_in l.i l.rows))) l.initial.panel

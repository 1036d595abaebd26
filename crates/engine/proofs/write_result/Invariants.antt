use mathlib.Core.Path.{◌≡◌}
use lib.ListN.{take}
use Rattle.columns.specs.Columns.{line_head}
use Rattle.simulation.specs.Calls.{report_lines}
use Rattle.transition.specs.Forms.{over}
use Rattle.arrays.specs.Arrays.{entries_in}
use Rattle.engine.proofs.write_result.Given as goal

-- The p lines written stand at the front of the buffer, which begins with their head; what lies past them is as it was.
abbrev pub invariant-loop-p : goal.invariant-loop-p
invariant-loop-p l = (take 11 l.out ≡ line_head l.line 0) × (l.out ≡ over (report_lines l.line 1 (entries_in l.p l.rows)) l.initial.out)

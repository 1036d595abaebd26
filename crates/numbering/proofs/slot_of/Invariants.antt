use Prim.Native.Nat.{◌≤◌}
use lib.ListN.{get_or}
use Rattle.numbering.proofs.Slots.{Searched}
use Rattle.numbering.proofs.slot_of.Given as goal

-- After i turns the first i stations are searched.
abbrev pub invariant-loop-i : goal.invariant-loop-i
invariant-loop-i l = (l.i ≤ l.n) × Searched l.n l.rows (λ j. get_or l.pending j 0) l.top l.k l.i l.highest

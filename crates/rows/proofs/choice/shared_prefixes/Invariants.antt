use mathlib.Core.Path.{◌≡◌}
use Rattle.label.specs.Labels.{first_difference}
use Rattle.label.specs.Rows.{digit}
use Rattle.rows.specs.Held.{held}
use Rattle.basics.proofs.Filled.{filled}
use Rattle.rows.proofs.choice.shared_prefixes.Given as goal

abbrev pub invariant-loop-j : goal.invariant-loop-j
invariant-loop-j l = l.shared ≡ filled 32 l.j (λ q. first_difference l.m (held l.rows q) (digit l.top)) 0

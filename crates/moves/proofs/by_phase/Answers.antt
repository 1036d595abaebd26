use native.Mathlib.Omega.{arith}
use Rattle.std.proofs.lemmas.Grind.{common_steps}
use Rattle.simulation.specs.Calls.{unless}
use Rattle.moves.proofs.by_phase.Goals as goal

pub returns-in_default : goal.returns-in_default
unfolding unless
returns-in_default c = grind (arith, common_steps)

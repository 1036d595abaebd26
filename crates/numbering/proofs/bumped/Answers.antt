use native.Mathlib.Omega.{arith}
use native.Mathlib.Numerals.{add-one}
use mathlib.Core.Path.{sym, ◌∙◌}
use Rattle.simulation.proofs.Numbers.{bump_low, bump_high}
use Rattle.numbering.proofs.bumped.Goals as goal

pub returns-then-x-c : goal.returns-then-x-c
returns-then-x-c c = sym (bump_low (omega arith))

pub returns-else-x-c : goal.returns-else-x-c
returns-else-x-c c = add-one c.args.x ∙ sym (bump_high (omega arith))

use mathlib.Core.Path.{◌∙◌}
use Rattle.unbounded.proofs.NumberLaws.{pair_before}
use Rattle.unbounded.proofs.numbers.before.Goals as goal

pub returns : goal.returns
returns c = c.lt.ensures ∙ pair_before c.args.u c.args.i c.args.v c.args.j

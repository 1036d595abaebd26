use Rattle.std.proofs.Common.{ap, ◌∙◌, refl, ◌++◌, replicate}
use Rattle.basics.specs.Tests.{tabulate}
use Rattle.well_formed.proofs.tops.Goals as goal

pub returns : goal.returns
unfolding tabulate
returns c = ap (λ l. l ++ replicate 32 1) (c.fill.ensures.after (λ y e. e)) ∙ refl

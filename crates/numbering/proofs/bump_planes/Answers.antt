use native.Mathlib.Omega.{arith}
use mathlib.Core.Bool.{true, false}
use mathlib.Core.List.{[]}
use lib.Seq.{get_or-set_other}
use Rattle.simulation.proofs.Numbers.{bump_low}
use Rattle.numbering.proofs.Kept.{planes_mapped}
use Rattle.numbering.proofs.bump_planes.Goals as goal

pub bump-requires-clause-by_index : goal.bump-requires-clause-by_index
bump-requires-clause-by_index c = λ i h. c.requires false i

pub bump-requires-2-clause-by_index : goal.bump-requires-2-clause-by_index
bump-requires-2-clause-by_index c =
    rw (get_or-set_other c.args.numbers.now 0 1 c.bump.new.list [] (λ e. absurd (omega arith))) (λ i h. c.requires true i)

pub returns : goal.returns
returns c =
    planes_mapped _ (bump_low (omega arith)) _ c.sized.ensures c.bump.ensures c.bump-2.ensures

use native.Mathlib.Omega.{arith}
use mathlib.Core.Path.{ap, ◌∙◌}
use mathlib.Core.List.{List}
use Rattle.basics.proofs.Filled.{filled_none, filled_more}
use Rattle.table.specs.Tables.{put_together}
use Rattle.table.proofs.Apart.{filled_end}
use Rattle.table.specs.declared.Station.{Station}
use borrow.Author.Rules.{rules}
use Rattle.table.proofs.put_together.Goals as goal

pub loop-i-init : goal.loop-i-init
loop-i-init c = rw c.station_at-first.ensures (filled_none 32 _ _)

pub loop-i-preserved : goal.loop-i-preserved
loop-i-preserved c =
    rw c.loop-i.invariant (filled_more 32 _ _ c.loop-i.i _ (search rules) c.station_at.ensures)

pub returns : goal.returns
unfolding put_together
returns c =
    let l = c.loop-i in
    ap (λ (s : List Station). record { count = c.args.n; stations = s }) (l.invariant ∙ filled_end _ _ l.i (omega arith))

use mathlib.Core.Path.{ap, ◌∙◌}
use Rattle.table.specs.Tables.{put_together}
use Rattle.table.proofs.Table.fresh.Goals as goal

pub returns : goal.returns
returns c = c.put_together.ensures ∙ ap put_together c.refresh.ensures

use Rattle.rows.proofs.NewestLaws.{leads_one}
use Rattle.rows.proofs.order.newest.Goals as goal

pub loop-j-init : goal.loop-j-init
loop-j-init c = rw c.alone-top.ensures (leads_one c.requires)

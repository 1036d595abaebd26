use borrow.Author.Rules.{rules}
use Rattle.check_log.proofs.check_log.Goals as goal

pub loop-k-init : goal.loop-k-init
loop-k-init g c = (c.in_ok-check.ensures _ (search rules)).checking

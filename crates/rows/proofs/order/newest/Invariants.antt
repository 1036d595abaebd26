use Rattle.rows.specs.Held.{Leads}
use Rattle.rows.proofs.order.newest.Given as goal

abbrev pub invariant-loop-j : goal.invariant-loop-j
invariant-loop-j l = Leads l.n l.rows l.j l.top.station l.top.holders

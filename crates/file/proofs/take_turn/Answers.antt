-- The call is judged and carried out by the engine; LineLaws tells what that asks for and what it comes to.
use Rattle.std.proofs.lemmas.Result.{err_from_is_err_and}
use Rattle.file.proofs.LineLaws.{line_ready, line_orderly, line_before, line_kept, line_runnable, line_turned, refused_turned}
use Rattle.file.proofs.take_turn.Goals as goal

pub carry_out-requires : goal.carry_out-requires
carry_out-requires c = line_ready c.requires c.judge-judged.ensures

pub returns-in_err-handed-clause-turns : goal.returns-in_err-handed-clause-turns
returns-in_err-handed-clause-turns c =
    let p = err_from_is_err_and c.from_residual.result c.from_residual.ensures.1 in
    rw (p.1, p.2) (refused_turned c.requires c.judge-judged.ensures c.in_err-handed.ensures)

pub refresh_order-requires-clause-orderly : goal.refresh_order-requires-clause-orderly
refresh_order-requires-clause-orderly c = line_orderly c.requires (rw c.in_ok-task.was at c.judge-judged.ensures) (rw c.in_ok-task.was at c.in_ok-handed.ensures)

pub refresh_order-requires-clause-ordered_before : goal.refresh_order-requires-clause-ordered_before
refresh_order-requires-clause-ordered_before c = line_before c.requires (rw c.in_ok-task.was at c.judge-judged.ensures) (rw c.in_ok-task.was at c.in_ok-handed.ensures)

pub refresh_order-requires-clause-order_value : goal.refresh_order-requires-clause-order_value
refresh_order-requires-clause-order_value c = line_kept c.requires (rw c.in_ok-task.was at c.judge-judged.ensures) (rw c.in_ok-task.was at c.in_ok-handed.ensures)

pub returns : goal.returns
returns c =
    let f = c.requires in
    let j = rw c.in_ok-task.was at c.judge-judged.ensures in
    let g = rw c.in_ok-task.was at c.in_ok-handed.ensures in
    record {
      turns = line_turned f j g;
      runnable = line_runnable f j g c.refresh_order.ensures;
    }

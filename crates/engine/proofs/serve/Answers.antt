use mathlib.Core.Path.{refl}
use Rattle.std.proofs.lemmas.Result.{err_from_is_err_and}
use Rattle.arrays.proofs.Passed.{passed}
use Rattle.engine.proofs.Carried.{carries_none}
use Rattle.engine.proofs.Served.{orderly, ready, served}
use Rattle.engine.proofs.serve.Goals as goal

-- The call is judged and carried out: `ready` and `served` tell what that asks for and what it comes to.
pub judge-requires : goal.judge-requires
judge-requires c = let p = passed _ c.requires in (p.low, p.high)

pub returns-in_err-task : goal.returns-in_err-task
returns-in_err-task c =
    let p = err_from_is_err_and c.from_residual.result c.from_residual.ensures.1 in
    rw (p.1, p.2) (served _ c.requires c.args.request _ 0 c.in_err-task.ensures refl refl (carries_none c.requires (c.shaped.ensures _)))

pub newest_for-requires : goal.newest_for-requires
newest_for-requires c = orderly _ c.requires

pub order_for-order-requires : goal.order_for-order-requires
order_for-order-requires c = orderly _ c.requires

pub carry_out-requires : goal.carry_out-requires
carry_out-requires c =
    ready _ c.requires c.args.request _ 0 c.in_ok-task.ensures _ refl refl refl refl c.newest_for.ensures.value c.order_for-order.ensures.value

pub returns : goal.returns
returns c = served _ c.requires c.args.request _ 0 c.in_ok-task.ensures refl refl c.carry_out.ensures

use mathlib.Core.Path.{refl}
use Rattle.std.proofs.lemmas.Result.{err_from_is_err_and}
use Rattle.engine.proofs.Served.{steps_rows, steps_refused}
use Rattle.engine.proofs.step_shown.Goals as goal

pub returns-in_err-handed : goal.returns-in_err-handed
returns-in_err-handed c =
    let p = err_from_is_err_and c.from_residual.result c.from_residual.ensures.1 in
    rw (p.1, p.2) (steps_refused c.in_err-handed.ensures _)

pub returns : goal.returns
returns c = steps_rows c.in_ok-handed.ensures _ _ refl c.fill.ensures

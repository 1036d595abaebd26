use mathlib.Core.Path.{refl}
use Rattle.std.proofs.lemmas.Result.{err_from_is_err_and}
use Rattle.engine.proofs.Served.{steps_bytes, steps_refused}
use Rattle.engine.proofs.step.Goals as goal

pub returns-in_err-handed : goal.returns-in_err-handed
returns-in_err-handed c =
    let p = err_from_is_err_and c.from_residual.result c.from_residual.ensures.1 in
    rw (p.1, p.2) (steps_refused c.in_err-handed.ensures _)

pub returns : goal.returns
returns c = steps_bytes c.in_ok-handed.ensures refl c.write_result.ensures.value c.write_result.ensures.out_after

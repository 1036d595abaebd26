use Rattle.std.proofs.lemmas.Result.{err_from_is_err_and}
use Rattle.table.proofs.Owned.{whole}
use Rattle.step.proofs.StepLaws.{hands_refused, hands_accepted}
use Rattle.step.proofs.perform.Goals as goal

-- The engine's step on the table taken apart is the step on the table; the entries are those of the calling station's result.
pub returns-in_err-handed : goal.returns-in_err-handed
returns-in_err-handed c =
    let p = err_from_is_err_and c.from_residual.result c.from_residual.ensures.1 in
    rw (p.1, p.2) (hands_refused _ (whole _ _ c.well_formed.0) _ c.take_apart.ensures c.in_err-handed.ensures)

pub bounds-parts-handed : goal.bounds-parts-handed
bounds-parts-handed c = c.in_ok-handed.ensures.handed.inside

pub returns : goal.returns
returns c =
    hands_accepted _ (whole _ _ c.well_formed.0) _ c.take_apart.ensures c.in_ok-handed.ensures _ c.entries_of.ensures c.put_together-left.ensures

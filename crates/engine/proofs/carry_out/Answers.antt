use Rattle.std.proofs.lemmas.Result.{err_from_is_err_and}
use Rattle.engine.proofs.Carried.{labels_prepared, rest_prepared, carries, carries_none}
use Rattle.engine.proofs.carry_out.Goals as goal

-- The rest is carried out, and the labels; a refused call changes neither.
pub relabel-requires : goal.relabel-requires
relabel-requires c = labels_prepared (rw c.in_ok-accepted.was at c.requires) (c.shaped.ensures _)

pub carry_rest-handed-requires : goal.carry_rest-handed-requires
carry_rest-handed-requires c = rw c.in_ok-accepted.was (rest_prepared (rw c.in_ok-accepted.was at c.requires) (c.shaped.ensures _))

pub returns-in_err-accepted : goal.returns-in_err-accepted
returns-in_err-accepted c =
    let p = err_from_is_err_and c.from_residual.result c.from_residual.ensures.1 in
    rw (c.in_err-accepted.was, p.1, p.2) (carries_none c.requires.passed (c.shaped.ensures _))

pub returns : goal.returns
returns c =
    let e = c.in_ok-accepted.was in
    rw e (carries (rw e at c.requires) (c.shaped.ensures _) c.relabel.ensures (rw e at c.carry_rest-handed.ensures))

-- What is told after each part, by the laws of Parts.
use Rattle.std.proofs.Common.{Err, sym, ◌∙◌}
use Rattle.std.proofs.lemmas.Result.{err_from_is_err_and}
use Rattle.intake.proofs.Parts.{sofar_told, sofar_ends, passed_first, passed_refused, passed_more, next_refused, next_told}
use Rattle.intake.proofs.read_on.Goals as goal

pub returns-in_err-lines-clause-told : goal.returns-in_err-lines-clause-told
returns-in_err-lines-clause-told g c =
    let p = err_from_is_err_and c.from_residual.result c.from_residual.ensures.1 in
    rw (p.1, p.2) (passed_refused (passed_first {reading = Err c.in_err-lines.field-0.0} c.requires c.in_err-lines.ensures _))

pub loop-k-init : goal.loop-k-init
loop-k-init g c = passed_first c.requires c.in_ok-lines.ensures _

pub returns-in_err-lines-2-clause-taken : goal.returns-in_err-lines-2-clause-taken
returns-in_err-lines-2-clause-taken g c =
    let p = err_from_is_err_and c.from_residual-in_err-lines-2.result c.from_residual-in_err-lines-2.ensures.1 in
    rw (p.1, p.2) (next_refused c.loop-k.invariant _ _ c.in_ok-k.ensures.prefix_len.0 c.in_err-lines-2.ensures _ c.in_ok-k.ensures.bytes
    (c.read_input.auto.buf ∙ c.loop-k.invariant.sofar.full))

pub returns-in_err-lines-2-clause-told : goal.returns-in_err-lines-2-clause-told
returns-in_err-lines-2-clause-told g c =
    let p = err_from_is_err_and c.from_residual-in_err-lines-2.result c.from_residual-in_err-lines-2.ensures.1 in
    rw (p.1, p.2) (next_told c.loop-k.invariant _ _ c.in_ok-k.ensures.prefix_len.0 c.in_err-lines-2.ensures _ c.in_ok-k.ensures.bytes
    (c.read_input.auto.buf ∙ c.loop-k.invariant.sofar.full) c.in_ok-k.ensures.end)

pub unwrap-requires : goal.unwrap-requires
unwrap-requires g c = rw c.told.ensures (sofar_told c.loop-k.invariant.sofar _ _ c.in_ok-k.ensures.prefix_len.0 c.in_ok-lines-2.ensures)

pub returns-then-k-part-clause-taken : goal.returns-then-k-part-clause-taken
returns-then-k-part-clause-taken g c = rw c.into.ensures (sofar_ends c.loop-k.invariant.sofar _ _ c.in_ok-k.ensures.prefix_len.0 c.in_ok-lines-2.ensures c.if-k-part.true (sym c.told.ensures ∙ c.unwrap.ensures))

pub loop-k-preserved : goal.loop-k-preserved
loop-k-preserved g c =
    passed_more c.loop-k.invariant _ _ c.in_ok-k.ensures.prefix_len.0 c.in_ok-lines-2.ensures _ c.in_ok-k.ensures.bytes
    (c.read_input.auto.buf ∙ c.loop-k.invariant.sofar.full) c.if-k-part.false

use mathlib.Core.Path.{refl, ap, ◌∙◌}
use mathlib.Core.Logic.{inl}
use Prim.Native.Nat.{◌+◌, ◌-◌}
use native.Mathlib.Omega.{arith}
use Rattle.std.specs.Prelude.{Ok}
use Rattle.schedule.proofs.Places.{StepAt, RefusedAt, at_end, at_refused, at_call}
use Rattle.file.proofs.LineLaws.{run_passes}
use Rattle.file.proofs.ChunkLaws.{sofar_start, sofar_end, sofar_more, sofar_stop, place_within}
use Rattle.file.proofs.report_lines.Goals as goal
use Rattle.file.proofs.report_lines.Goals.{In-Err, In-Ok-Some}

-- a refusal
refused : (x : In-Err) → RefusedAt x.loop-out.count x.args.chunk.now x.loop-out.at x.in-Err.refusal
refused x = at_refused _ _ _ (place_within x.loop-out.invariant.0) _ x.next_call.ensures _ x.in-Err.is

-- a step call
here : (x : In-Ok-Some) → StepAt x.loop-out.count x.args.chunk.now x.loop-out.at x.in-Ok-Some.request
here x = at_call _ _ _ (place_within x.loop-out.invariant.0) _ x.next_call.ensures _ (x.in-Ok-Some.is ∙ ap Ok x.in-Ok-Some.field-0-is)

pub loop-out-init : goal.loop-out-init
loop-out-init c = (sofar_start _ _ _ _, c.requires)

pub returns-in-Ok-None-clause-reports : goal.returns-in-Ok-None-clause-reports
returns-in-Ok-None-clause-reports c =
    let f = c.loop-out.invariant.0 in
    sofar_end f (inl (at_end _ _ _ (place_within f) _ c.next_call.ensures (c.in-Ok-None.is ∙ ap Ok c.in-Ok-None.field-0-is)))

pub returns-in-Err-clause-reports : goal.returns-in-Err-clause-reports
returns-in-Err-clause-reports c =
    let l = c.loop-out in
    let told = c.print_refusal-k.ensures in
    let r = refused (goal.at.returns-in-Err-clause-reports c).In-Err in
    sofar_stop l.invariant.0 r.some c.if-out-written-lt-ROOM.false (run_passes l.invariant.1) _ c.line_at-line.ensures (l.written + 928 - l.written) (omega arith) _ r
    (rw c.from.ensures at told.value) (rw c.from.ensures at told.out_after)

pub loop-out-preserved : goal.loop-out-preserved
loop-out-preserved c =
    let l = c.loop-out in
    let served = c.serve_line-k in
    let call = here (goal.at.loop-out-preserved c).In-Ok-Some in (
      sofar_more l.invariant.0 (omega (arith, call.within)) c.if-out-written-lt-ROOM.false (run_passes l.invariant.1) _ refl (l.written + 928 - l.written) (omega arith)
          call served.ensures.prints served.auto.out,
      served.ensures.runnable_2,
    )

pub overflow_add-count : goal.overflow_add-count
overflow_add-count c = let f = here (goal.at.overflow_add-count c).In-Ok-Some in omega (arith, f.few)

pub loop-out-smaller : goal.loop-out-smaller
loop-out-smaller c = let f = here (goal.at.loop-out-smaller c).In-Ok-Some in omega (arith, f.within)

use native.Mathlib.Omega.{arith}
use mathlib.Core.Path.{◌≡◌, ap, subst, ◌∙◌}
use Rattle.simulation.specs.Calls.{Call, Buffer, original}
use Rattle.simulation.specs.Machine.{digits, step}
use Rattle.transition.specs.Forms.{step_of}
use Rattle.moves.specs.Moves.{call_of}
use Rattle.arrays.specs.Arrays.{Arrays, state_of}
use Rattle.arrays.specs.Form.{lent}
use Rattle.file.specs.Tables.{arrays_in}
use Rattle.std.specs.Prelude.{Ok}
use Rattle.schedule.proofs.Places.{StepAt, at_end, at_refused, at_call, calls_none, calls_refused}
use Rattle.file.proofs.LineLaws.{next_state, count_after}
use Rattle.arrays.proofs.Planes.{none_beside}
use Rattle.numbering.proofs.Lines.{sofar_start, sofar_end, sofar_more, step_room}
use Rattle.numbering.proofs.number_lines.Goals as goal
use Rattle.numbering.proofs.number_lines.Goals.{In-Ok-Some}

-- the call that stands at a place
here : (x : goal.In-Ok-Some) → let l = x.loop-request in
    StepAt l.lines x.args.rest.now l.at
    x.in-Ok-Some.request
here x =
    let k = x in
    at_call _ _ _ k.loop-request.invariant.0.within _ k.next_call.ensures _ (x.in-Ok-Some.is ∙ ap Ok x.in-Ok-Some.field-0-is)

pub loop-request-init : goal.loop-request-init
loop-request-init c =
    let low = c.requires.le_n.0 in
    let high = c.requires.le_n.1 in
    let fresh = c.refresh.ensures in
    (sofar_start c.args.n low high _ _ c.requires.rest_in_bounds fresh.value none_beside, fresh.runnable, fresh.count_value)

pub returns-in-Ok-None : goal.returns-in-Ok-None
returns-in-Ok-None c =
    let f = c.loop-request.invariant.0 in
    let e = sofar_end f (calls_none _ _ _ f.within (at_end _ _ _ f.within _ c.next_call.ensures (c.in-Ok-None.is ∙ ap Ok c.in-Ok-None.field-0-is))).0 in
    record { value = e.0; list_after = e.1 }

pub returns-in-Err : goal.returns-in-Err
returns-in-Err c =
    let f = c.loop-request.invariant.0 in
    let e = sofar_end f (calls_refused _ _ _ f.within (at_refused _ _ _ f.within _ c.next_call.ensures _ c.in-Err.is)).0 in
    record { value = e.0; list_after = e.1 }

pub number_line-count-requires-clause-count_in_bounds : goal.number_line-count-requires-clause-count_in_bounds
number_line-count-requires-clause-count_in_bounds c =
    (step_room c.loop-request.invariant.0 (here (goal.at.number_line-count-requires-clause-count_in_bounds c).In-Ok-Some)).1

pub loop-request-preserved : goal.loop-request-preserved
loop-request-preserved c =
    let l = c.loop-request in
    let call : Call = call_of c.in-Ok-Some.request (Buffer 928) in
    let g = c.number_line-count.ensures in (
      sofar_more l.invariant.0 (here (goal.at.loop-request-preserved c).In-Ok-Some) l.invariant.2 g.numbers_call
          (subst (λ n. state_of (step_of lent (arrays_in l.table) call).table ≡ (step original n (digits original n) (state_of (arrays_in l.table)) call).state)
          l.invariant.2 (next_state l.invariant.1 call)),
      g.runnable_2,
      ap (λ (a : Arrays). a.count) g.numbers_call.table ∙ count_after l.invariant.1 _ ∙ l.invariant.2,
    )

pub loop-request-smaller : goal.loop-request-smaller
loop-request-smaller c = let f = here (goal.at.loop-request-smaller c).In-Ok-Some in omega (arith, f.within)

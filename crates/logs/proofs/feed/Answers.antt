use Prim.Native.Nat.{◌+◌, ◌-◌, ◌≤◌, ◌<◌}
use native.Mathlib.Omega.{arith}
use mathlib.Core.Path.{◌≡◌, refl, sym, ap, ◌∙◌}
use mathlib.Core.Bool.{Bool}
use lib.ListN.{length, take, drop}
use Rattle.std.specs.Prelude.{Ok}
use Rattle.transition.specs.Logs.{at_front}
use Rattle.schedule.proofs.Places.{StepAt, at_end, at_refused, at_call, calls_none, calls_refused}
use Rattle.logs.specs.declared.Progress.{Progress}
use Rattle.logs.proofs.Checks.{sofar_differs, sofar_shown, next_checking}
use Rattle.logs.proofs.Checks.{sofar_ends, sofar_unfit, sofar_step, step_checking}
use Rattle.logs.proofs.feed.Goals as goal
use Rattle.logs.proofs.feed.Goals.{Else-k-eq0, After-comes_next, In-Ok-Some}

-- BYTES TO BE SHOWN
-- how many bytes are compared
some : (c : goal.Else-k-eq0) → (0 < c.min-k.result) × (c.min-k.result ≤ c.loop-shown.written - c.loop-shown.shown)
    × (c.min-k.result ≤ length c.args.part.now - c.loop-shown.read)
some c = (omega arith, omega (arith, c.min-k.ensures), omega (arith, c.min-k.ensures))

-- what was compared
compared : (c : goal.After-comes_next) (b : Bool) → c.comes_next.result ≡ b
    → at_front (take c.min-k.result (drop c.loop-shown.shown c.loop-shown.lines)) (drop c.loop-shown.read c.args.part.now) ≡ b
compared c b h =
    let e : c.loop-shown.shown + c.min-k.result - c.loop-shown.shown ≡ c.min-k.result = omega arith in
    ap (λ i. at_front (take i (drop c.loop-shown.shown c.loop-shown.lines)) (drop c.loop-shown.read c.args.part.now)) (sym e) ∙ sym c.comes_next.ensures ∙ h

pub returns-then-not-comes_next-clause-feeds_report : goal.returns-then-not-comes_next-clause-feeds_report
returns-then-not-comes_next-clause-feeds_report c =
    let at = goal.at.returns-then-not-comes_next-clause-feeds_report c in
    let f = c.loop-shown.invariant in
    let k = some at.Else-k-eq0 in
    sofar_differs f.sofar f.checking _ k.1 k.2 (ap (λ (r : Progress). r.right) c.place-then-not-comes_next.ensures)
    (compared at.After-comes_next _ c.if-not-comes_next.true)

pub loop-shown-preserved-then-shown-written : goal.loop-shown-preserved-then-shown-written
loop-shown-preserved-then-shown-written c =
    let at = goal.at.loop-shown-preserved-then-shown-written c in
    let f = c.loop-shown.invariant in
    let k = some at.Else-k-eq0 in
    record {
      sofar = sofar_shown f.sofar f.checking _ k.1 k.2 k.0 (compared at.After-comes_next _ c.if-not-comes_next.false);
      checking = next_checking f.sofar f.checking _ k.1 k.2;
    }

-- STEPS
pub returns-in-Ok-None-clause-feeds_report : goal.returns-in-Ok-None-clause-feeds_report
returns-in-Ok-None-clause-feeds_report c =
    let f = c.loop-shown.invariant in
    let at = f.checking.place.0 in
    rw c.place-in-Ok-None.ensures
    (sofar_ends f.sofar f.checking c.if-shown-written.false (calls_none _ _ _ at (at_end _ _ _ at _ c.next_call.ensures (c.in-Ok-None.is ∙ ap Ok c.in-Ok-None.field-0-is))).0)

pub returns-in-Err-clause-feeds_report : goal.returns-in-Err-clause-feeds_report
returns-in-Err-clause-feeds_report c =
    let f = c.loop-shown.invariant in
    let at = f.checking.place.0 in
    rw c.place-in-Err.ensures
    (sofar_ends f.sofar f.checking c.if-shown-written.false (calls_refused _ _ _ at (at_refused _ _ _ at _ c.next_call.ensures _ c.in-Err.is)).0)

-- the call that stands there
stands : (c : In-Ok-Some) → StepAt c.loop-shown.counted c.args.file.now c.loop-shown.at c.in-Ok-Some.request
stands c = at_call _ _ _ c.loop-shown.invariant.checking.place.0 _ c.next_call.ensures _ (c.in-Ok-Some.is ∙ ap Ok c.in-Ok-Some.field-0-is)

pub returns-in-None-clause-feeds_report : goal.returns-in-None-clause-feeds_report
returns-in-None-clause-feeds_report c =
    let f = c.loop-shown.invariant in
    sofar_unfit f.sofar f.checking c.if-shown-written.false (stands (goal.at.returns-in-None-clause-feeds_report c).In-Ok-Some) c.in-None.ensures.runs_call
    (ap (λ (r : Progress). r.right) c.place-in-None.ensures) refl

pub loop-shown-smaller : goal.loop-shown-smaller
loop-shown-smaller c =
    let s = stands (goal.at.loop-shown-smaller c).In-Ok-Some in
    omega (arith, s.within, c.in-Some.ensures.runs_call.ran.bytes.1)

pub loop-shown-preserved : goal.loop-shown-preserved
loop-shown-preserved c =
    let f = c.loop-shown.invariant in
    let s = stands (goal.at.loop-shown-preserved c).In-Ok-Some in
    let u = c.in-Some.ensures in
    record {
      sofar = sofar_step f.sofar f.checking c.if-shown-written.false s u.runs_call;
      checking = step_checking f.sofar f.checking c.if-shown-written.false s u.runs_call u.fact_2 (c.run_line.auto.lines ∙ f.checking.room);
    }

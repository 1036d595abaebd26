use Prim.Native.Nat.{◌+◌}
use mathlib.Core.Path.{◌≡◌, refl, sym, ap, ◌∙◌}
use mathlib.Core.Bool.{Bool, true, false}
use mir.Val.{bool_byte}
use Rattle.schedule.proofs.Surveys.{one, surveyed_end, surveyed_stop, surveyed_more}
use Rattle.schedule.proofs.survey_lines.Goals as goal

-- as a number a test counts one, or none
counts_one : (b : Bool) → bool_byte b ≡ one b
counts_one true = refl
counts_one false = refl

pub loop-line-preserved : goal.loop-line-preserved
loop-line-preserved c =
    let i = c.loop-line.invariant in
    let s = c.in-Some.ensures.steps in
    record {
      size = s.0 ∙ i.size;
      surveyed = surveyed_more i.surveyed _ _ s.1.0 (rw i.size at s.1.1) s.1.2 (sym c.next_line.ensures ∙ c.in-Ok.is) (ap (λ k. c.loop-line.snaps + k) (c.from-snaps.ensures ∙ counts_one _));
    }

pub returns-in-Err : goal.returns-in-Err
returns-in-Err c =
    let i = c.loop-line.invariant in
    let s = c.in-Some.ensures.steps in
    surveyed_stop i.surveyed _ _ s.1.0 (rw i.size at s.1.1) s.1.2 (sym c.next_line.ensures ∙ c.in-Err.is)

pub returns : goal.returns
returns c = surveyed_end c.loop-line.invariant.surveyed c.in-None.ensures.steps.1.0

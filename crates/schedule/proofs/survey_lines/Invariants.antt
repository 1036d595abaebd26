use mathlib.Core.Path.{◌≡◌}
use Rattle.std.specs.Slice.Iter.{chunks_rest, chunks_size}
use Rattle.schedule.proofs.Surveys.{Surveyed}
use Rattle.schedule.proofs.survey_lines.Given as goal

-- The invariant is `Surveyed`: what the lines before those that are left are.
abbrev pub invariant-loop-line : goal.invariant-loop-line
invariant-loop-line l =
    record { size : chunks_size l.line-iterator ≡ 18; surveyed : Surveyed l.lines l.chunk l.steps l.snaps (chunks_rest l.line-iterator) }

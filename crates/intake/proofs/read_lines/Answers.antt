use mathlib.Core.Path.{◌≡◌}
use native.Mathlib.Omega.{arith}
use Rattle.std.specs.Prelude.{None}
use Rattle.intake.proofs.Parts.{part_refused, part_counted, part_passed}
use Rattle.intake.proofs.read_lines.Goals as goal

pub returns-in-Some : goal.returns-in-Some
returns-in-Some c = part_refused c.requires c.args.part.now c.survey_lines-s.ensures c.in-Some.is

pub overflow_add-read : goal.overflow_add-read
overflow_add-read c = let none : c.survey_lines-s.result.refusal ≡ None = c.in_default.is in omega (arith, part_counted c.requires c.args.part.now c.survey_lines-s.ensures none)

pub returns : goal.returns
returns c = part_passed c.requires c.args.part.now c.survey_lines-s.ensures c.in_default.is

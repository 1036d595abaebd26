use mathlib.Core.Path.{ap₂, ◌∙◌}
use Rattle.label.specs.Labels.{below}
use Rattle.label.proofs.Searches.{digit_read, before_apart}
use borrow.Author.Rules.{rules}
use Rattle.label.proofs.label_before.Goals as goal

pub returns-then-p-m : goal.returns-then-p-m
returns-then-p-m c =
    let start = c in
    let p = c.first_difference-p.result in
    c.digit_below.ensures ∙ ap₂ below (digit_read start.args.a p (search rules)) (digit_read start.args.b p (search rules))
    ∙ before_apart _ _ _ p c.first_difference-p.ensures _ _ c.if-p-m.true

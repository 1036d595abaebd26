use mathlib.Core.Path.{sym, ◌∙◌}
use Rattle.rows.proofs.NewestLaws.{shares, rises, stays}
use Rattle.rows.proofs.order.with_next.Goals as goal

pub returns-then-below_at : goal.returns-then-below_at
returns-then-below_at c =
    rw c.alone.ensures (rises c.requires.orderly c.requires.leads c.requires.j_lt_n _ c.first_difference-p.ensures
    c.if-p-m.true (sym c.below_at.ensures ∙ c.if-below_at.true))

pub returns-then-p-m : goal.returns-then-p-m
returns-then-p-m c =
    stays c.requires.orderly c.requires.leads c.requires.j_lt_n _ c.first_difference-p.ensures c.if-p-m.true
    (sym c.below_at.ensures ∙ c.if-below_at.false)

pub returns : goal.returns
returns c =
    shares c.requires.orderly c.requires.leads c.requires.j_lt_n _ c.first_difference-p.ensures c.if-p-m.false

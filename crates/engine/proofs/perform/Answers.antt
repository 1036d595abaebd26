use mathlib.Core.Path.{refl, sym, ◌∙◌}
use Rattle.engine.proofs.Served.{ill_formed}
use Rattle.engine.proofs.perform.Goals as goal

pub returns-then-not-well_formed : goal.returns-then-not-well_formed
returns-then-not-well_formed c = ill_formed _ _ _ (sym c.well_formed-2.ensures ∙ c.if-not-well_formed.true) refl

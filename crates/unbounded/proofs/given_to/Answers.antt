use mathlib.Core.Path.{refl, sym, ◌∙◌}
use Rattle.unbounded.proofs.TurnLaws.{number_given, number_unfit, none_left, none_taken}
use Rattle.unbounded.proofs.given_to.Goals as goal

-- The number must be there, and pass the test, which bounds it before it is narrowed.
pub returns-in_err-v-in-SnapLabel : goal.returns-in_err-v-in-SnapLabel
returns-in_err-v-in-SnapLabel c =
    rw c.from_residual.ensures (none_left _ _ _ _ _ _ c.in-SnapLabel.is c.in_err-v-in-SnapLabel.ensures.lookup.3)

pub returns-then-not-fits : goal.returns-then-not-fits
returns-then-not-fits c =
    let h = c.in_ok-v-in-SnapLabel.ensures.lookup.3 in
    number_unfit _ _ _ _ _ _ c.in-SnapLabel.is h.0 (h.1 0) (sym c.if-not-fits.true ∙ c.fits.ensures)

pub returns-else-not-fits : goal.returns-else-not-fits
returns-else-not-fits c =
    let h = c.in_ok-v-in-SnapLabel.ensures.lookup.3 in
    number_given _ _ _ _ _ _ c.in-SnapLabel.is h.0 (h.1 0) refl (sym c.if-not-fits.false ∙ c.fits.ensures)

pub returns-in_default : goal.returns-in_default
returns-in_default c = none_taken _ _ _ _ _ _ c.in_default.not-SnapLabel c.requires.1

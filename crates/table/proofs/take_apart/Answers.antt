use native.Mathlib.Omega.{arith}
use mathlib.Core.Path.{◌≡◌, refl, ◌∙◌}
use mathlib.Core.List.{[], ◌∷◌}
use lib.ListN.{replicate}
use Rattle.basics.proofs.Filled.{filled_none, filled_more}
use Rattle.arrays.specs.Arrays.{arrays}
use Rattle.table.specs.Tables.{taken_apart}
use Rattle.table.proofs.Apart.{filled_end}
use borrow.Author.Rules.{rules}
use Rattle.table.proofs.take_apart.Goals as goal

pub loop-i-init : goal.loop-i-init
loop-i-init c = (
  filled_none 32 _ (replicate 31 0),
  filled_none 32 _ (replicate 31 0),
  filled_none 32 _ 0,
  filled_none 32 _ 0,
  filled_none 32 _ 0,
  filled_none 32 _ 0,
  filled_none 32 _ (replicate 2 (replicate 32 0)),
)

pub loop-i-preserved : goal.loop-i-preserved
loop-i-preserved c =
    let l = c.loop-i in (
      rw l.invariant.0 (filled_more 32 _ (replicate 31 0) l.i _ (search rules) refl),
      rw l.invariant.1 (filled_more 32 _ (replicate 31 0) l.i _ (search rules) refl),
      rw l.invariant.2 (filled_more 32 _ 0 l.i _ (search rules) refl),
      rw l.invariant.3 (filled_more 32 _ 0 l.i _ (search rules) refl),
      rw l.invariant.4 (filled_more 32 _ 0 l.i _ (search rules) c.phase_number.ensures),
      rw l.invariant.5 (filled_more 32 _ 0 l.i _ (search rules) (search rules)),
      rw l.invariant.6 (filled_more 32 _ (replicate 2 (replicate 32 0)) l.i _ (search rules) c.rows_of.ensures),
    )

pub returns : goal.returns
unfolding taken_apart
returns c =
    let l = c.loop-i in
    let e : l.i ≡ 32 = omega arith in
    λ x. arrays c.args.t.count
    ((l.invariant.0 ∙ filled_end _ (replicate 31 0) _ e) x ∷ (l.invariant.1 ∙ filled_end _ (replicate 31 0) _ e) x ∷ [])
    ((l.invariant.2 ∙ filled_end _ 0 _ e) x ∷ (l.invariant.3 ∙ filled_end _ 0 _ e) x ∷ [])
    ((l.invariant.4 ∙ filled_end _ 0 _ e) x ∷ (l.invariant.5 ∙ filled_end _ 0 _ e) x ∷ [])
    ((l.invariant.6 ∙ filled_end _ (replicate 2 (replicate 32 0)) _ e) x)

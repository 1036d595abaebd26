use Prim.Native.Nat.{◌<◌}
use native.Mathlib.Omega.{arith}
use mathlib.Core.Path.{ap, ap₂, ◌∙◌}
use lib.ListN.{length, get_or, set, length-set}
use Rattle.simulation.specs.Numbering.{bump}
use Rattle.numbering.proofs.Kept.{mapped_at, mapped_more}
use borrow.Author.Rules.{rules}
use Rattle.numbering.proofs.bump.Goals as goal

pub loop-i-preserved : goal.loop-i-preserved
loop-i-preserved c =
    let a = c.args in
    let at = c.loop-i in
    let l = a.list.now in
    let h : at.i < length l = omega arith in (
      search rules,
      length-set at.list at.i c.bumped.result ∙ at.invariant.1,
      ap₂ (λ t v. set t at.i v) at.invariant.2 (c.bumped.ensures
          ∙ ap (bump a.c) (ap (λ t. get_or t at.i 0) at.invariant.2 ∙ mapped_at (bump a.c) l at.i h)) ∙ mapped_more (bump a.c) l at.i h,
    )

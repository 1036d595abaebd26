use Rattle.std.proofs.Common.{◌+◌, ◌&&◌, ◌∙◌, ap₂, arith, rules}
use Rattle.basics.specs.Tests.{within}
use Rattle.basics.proofs.Facts.{get_d_any}
use Rattle.basics.proofs.Loops.{flag_end, flag_more}
use Rattle.well_formed.proofs.WellFormedLaws.{top_at}
use Rattle.well_formed.proofs.half_fits.Goals as goal

pub loop-p-preserved : goal.loop-p-preserved
loop-p-preserved c =
    let a = c.args in
    let q = a.h + c.loop-p.p in
    let top = top_at a.m q c.requires.most_value (search rules) (search rules) in
    flag_more _ _ c.loop-p.invariant (ap₂ ◌&&◌
    (c.digit_fits.ensures ∙ ap₂ (within 1) top (get_d_any a.current.now q 0 1 (search rules)))
    (c.digit_fits-in-loop-p.ensures ∙ ap₂ (within 1) top (get_d_any a.pending.now q 0 1 (search rules))))

pub returns : goal.returns
returns c = flag_end _ c.loop-p.invariant (omega arith)

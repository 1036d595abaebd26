use Rattle.well_formed.proofs.WellFormedLaws.{all_fit}
use Rattle.std.proofs.Common.{rules}
use Rattle.well_formed.proofs.labels_fit.Goals as goal

pub returns : goal.returns
returns c =
    let a = c.args in
    all_fit a.m a.labels.now a.from a.k (search rules) c.halves_fit.ensures c.halves_fit-2.ensures

use borrow.Author.Rules.{rules}
use Rattle.arrays.specs.Arrays.{arrays}
use Rattle.engine.proofs.Served.{orderly, tells_well_formed}
use Rattle.engine.proofs.top_holders.Goals as goal

pub newest-top-requires : goal.newest-top-requires
newest-top-requires c = let a = c.args in orderly (arrays a.count a.labels.now a.jobs.now a.control.now a.results.now) (search rules)

pub returns-then-well_formed : goal.returns-then-well_formed
returns-then-well_formed c =
    let e = c.newest-top.ensures in
    tells_well_formed _ (search rules) _ _ e.station_value e.holders_value

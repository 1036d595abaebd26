use Rattle.std.proofs.Common.{◌<◌, true, eqb, get_or, refl, arith, length-set}
use Rattle.std.proofs.lemmas.List.{get_or-take, length-take-le}
use lib.ListN.{get_or-replicate}
use Rattle.basics.specs.Tests.{count}
use Rattle.basics.proofs.Facts.{count_bound}
use Rattle.basics.proofs.Counts.{tally_hit}
use Rattle.well_formed.proofs.tally.Goals as goal
use Rattle.well_formed.proofs.tally.Goals.{In-loop-station}

-- the next station, which has its count
next : (y : goal.In-loop-station) → y.loop-station.station-index < y.args.k
next y = let l = y in omega (arith, length-take-le y.args.k y.args.stations.now (omega arith))

pub loop-station-init : goal.loop-station-init
unfolding count
loop-station-init c = (refl, λ i h. get_or-replicate 33 i 0 0 h)

pub overflow_add-r : goal.overflow_add-r
overflow_add-r c =
    let l = c.loop-station in
    let stations = c.args.stations.now in
    let h = next (goal.at.overflow_add-r c).In-loop-station in
    let s = get_or stations l.station-index 0 in
    rw (get_or-take c.args.k stations l.station-index 0 h)
    (omega (arith, c.requires.by_index l.station-index h, l.invariant.1 s (omega (arith, c.requires.by_index l.station-index h)), count_bound l.station-index (λ q. eqb (get_or stations q 0) s)))

pub loop-station-preserved : goal.loop-station-preserved
loop-station-preserved c =
    let l = c.loop-station in
    let stations = c.args.stations.now in
    let h = next (goal.at.loop-station-preserved c).In-loop-station in
    let small : get_or stations l.station-index 0 < 33 = omega (arith, c.requires.by_index l.station-index h) in
    rw (get_or-take c.args.k stations l.station-index 0 h)
    (simp length-set l.invariant.0, tally_hit 33 (λ _. true) (λ q. get_or stations q 0) l.r l.station-index l.invariant.1 refl small (omega arith))

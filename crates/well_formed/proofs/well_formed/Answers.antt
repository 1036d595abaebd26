use Rattle.std.proofs.Common.{◌≤◌, ◌&&◌, leb, arith}
use borrow.Author.Tests.{lt-leb}
use Rattle.basics.proofs.Facts.{left_no, right_no}
use Rattle.well_formed.proofs.WellFormedLaws.{wrong_count, stations, places, all_tests}
use Rattle.well_formed.proofs.well_formed.Goals as goal

pub returns-then-count-lt2 : goal.returns-then-count-lt2
returns-then-count-lt2 c = wrong_count _ (left_no _ (lt-leb 2 _ c.if-count-lt2.true))

pub returns-then-count-gt32 : goal.returns-then-count-gt32
returns-then-count-gt32 c = wrong_count _ (right_no (leb 2 c.args.count) (lt-leb _ 32 c.if-count-gt32.true))

pub returns : goal.returns
returns c =
    let n = c.args.count in
    let low : 2 ≤ n = omega (arith, c.if-count-lt2.false) in
    let high : n ≤ 32 = omega (arith, c.if-count-gt32.false) in
    all_tests _ (c.labels_fit.result && c.results_fit.result)
    (c.labels_fit-2.result && c.none_from.result && c.none_from-2.result && c.rest_is_fresh.result) low high
    (stations _ c.labels_fit.ensures c.results_fit.ensures)
    (places _ c.labels_fit-2.ensures c.none_from.ensures c.none_from-2.ensures c.rest_is_fresh.ensures)
    c.control_fits.ensures c.no_ring.ensures

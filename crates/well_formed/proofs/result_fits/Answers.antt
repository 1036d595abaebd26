use mathlib.Core.Path.{sym}
use Rattle.std.proofs.Common.{◌≤◌, ◌&&◌, ◌∙◌, ap₂, arith}
use Rattle.well_formed.proofs.WellFormedLaws.{shown_most, result_wrong, station_small, result_rows}
use Rattle.well_formed.proofs.result_fits.Goals as goal
use Rattle.well_formed.proofs.result_fits.Goals.{After-shown_in-k}

-- `y` is what is known of the entries that are shown.
few : (y : goal.After-shown_in-k) → y.shown_in-k.result ≤ 32
few y = let s = y in omega (arith, shown_most s.args.n s.args.rows.now _ y.shown_in-k.ensures, s.requires)

pub entries_fit-requires : goal.entries_fit-requires
entries_fit-requires c = few (goal.at.entries_fit-requires c).After-shown_in-k

pub returns-then-not-entries_fit : goal.returns-then-not-entries_fit
returns-then-not-entries_fit c =
    let a = c.args in
    result_wrong a.n a.rows.now _ c.shown_in-k.ensures (sym c.entries_fit.ensures ∙ c.if-not-entries_fit.true)

pub tally-requires : goal.tally-requires
tally-requires c =
    let fit = (sym c.entries_fit.ensures ∙ c.if-not-entries_fit.false) in
    record {
      k_bound = few (goal.at.tally-requires c).After-shown_in-k;
      by_index = station_small c.args.n c.args.rows.now _ c.shown_in-k.ensures fit c.requires;
    }

pub none_from-requires-2 : goal.none_from-requires-2
none_from-requires-2 c = omega (arith, few (goal.at.none_from-requires-2 c).After-shown_in-k)

pub returns : goal.returns
returns c =
    ap₂ ◌&&◌ (ap₂ ◌&&◌ c.none_twice.ensures c.none_from.ensures) c.none_from-2.ensures
    ∙ result_rows c.args.n c.args.rows.now _ c.shown_in-k.ensures c.tally.result c.requires
    (sym c.entries_fit.ensures ∙ c.if-not-entries_fit.false) c.tally.ensures

use mathlib.Core.Path.{refl}
use Rattle.file.proofs.LineLaws.{fresh_orderly, fresh_runnable}
use Rattle.file.proofs.refresh.Goals as goal

pub order-table-requires : goal.order-table-requires
order-table-requires c =
    fresh_orderly c.args.n c.requires.0 c.requires.1 c.refresh.ensures

pub returns : goal.returns
returns c =
    let fresh = c.refresh.ensures in
    record {
      count_value = refl;
      value = fresh;
      runnable = fresh_runnable c.args.n c.requires.0 c.requires.1 fresh c.order-table.ensures;
    }

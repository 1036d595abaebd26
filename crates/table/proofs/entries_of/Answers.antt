use Rattle.std.proofs.Common.{rules, tests}
use Rattle.basics.proofs.Chains.{made_each}
use Rattle.arrays.specs.Arrays.{cell}
use Rattle.table.specs.Tables.{declared_entry}
use Rattle.table.proofs.entries_of.Goals as goal

pub returns : goal.returns
returns c =
    let rows = c.args.rows.now in
    made_each (λ p. declared_entry (cell rows 0 p 0) (cell rows 1 p 0)) c.from_fn.ensures.items (λ j y q k. search (rules, tests))

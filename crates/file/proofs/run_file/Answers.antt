use mathlib.Core.Path.{◌≡◌, ◌∙◌}
use borrow.Author.Rules.{rules}
use borrow.Author.Tests.{not-true, not-false}
use lib.ListN.{length}
use Rattle.file.proofs.FileLaws.{gathered_start, gathered_end, gathered_more}
use Rattle.file.proofs.run_file.Goals as goal
use Rattle.file.proofs.run_file.Goals.{After-feed-fed}

-- the buffer keeps its length
kept : (y : After-feed-fed) → length y.feed-fed.new.out ≡ 4096
kept y = y.feed-fed.auto.out ∙ y.loop-table.invariant.2

pub loop-table-init : goal.loop-table-init
loop-table-init c = let started = c.start_on-run.ensures in (gathered_start _ _ started.run_value started.table_value, started.underway, search rules)

pub returns-then-not-fed : goal.returns-then-not-fed
returns-then-not-fed c =
    let put = c.put-length in
    gathered_end c.loop-table.invariant.0 c.from-part.ensures c.feed-fed.ensures.feeds (put.ensures.value, put.ensures.out_after) put.auto.out (not-true _ c.if-not-fed.true)

pub loop-table-preserved : goal.loop-table-preserved
loop-table-preserved c =
    let put = c.put-length in (
      gathered_more c.loop-table.invariant.0 c.from-part.ensures c.feed-fed.ensures.feeds (put.ensures.value, put.ensures.out_after) put.auto.out
          (not-false _ c.if-not-fed.false) c.loop-table.invariant.2,
      c.feed-fed.ensures.underway_2,
      kept (goal.at.loop-table-preserved c).After-feed-fed,
    )

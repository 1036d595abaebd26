use Rattle.std.proofs.Common.{arith, rules}
use Rattle.file.proofs.FeedLaws.{feeds_on}
use Rattle.tickets.proofs.serve_part.Goals as goal

pub loop-at-preserved : goal.loop-at-preserved
loop-at-preserved g c =
    let on = feeds_on c.feed-fed.ensures.feeds c.if-not-fed.false c.loop-at.invariant.4 in
    (search rules, search rules, search rules, omega arith, search rules)

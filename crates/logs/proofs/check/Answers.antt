-- The check begins with all numbers, and is fed the whole report.
use borrow.Author.Rules.{rules}
use Rattle.std.proofs.lemmas.Result.{err_from_is_err_and}
use Rattle.logs.proofs.Files.{log_refused, log_checked}
use Rattle.logs.proofs.check.Goals as goal

pub returns-in_err-check : goal.returns-in_err-check
returns-in_err-check c =
    let p = err_from_is_err_and c.from_residual.result c.from_residual.ensures.1 in
    rw (p.1, p.2) (log_refused c.in_err-check.ensures)

pub feed-last-requires : goal.feed-last-requires
feed-last-requires c = (c.in_ok-check.ensures _ (search rules)).checking

pub returns : goal.returns
returns c = log_checked (c.in_ok-check.ensures _ (search rules)) c.feed-last.ensures.feeds_report c.feed-last.ensures.checking c.finish.ensures

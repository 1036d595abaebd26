use mathlib.Core.Path.{ap, ◌∙◌}
use native.Mathlib.Omega.{arith}
use Rattle.label.specs.Labels.{next}
use Rattle.label.proofs.Searches.{digit_read, digit_known, next_stored}
use borrow.Author.Rules.{rules}
use Rattle.label.proofs.next_label.Goals as goal

pub next_digit-requires : goal.next_digit-requires
next_digit-requires c = digit_known c.args.a _ (search rules) c.requires.digit

pub returns : goal.returns
returns c =
    let a = c.args.a in
    let h = c.args.h in
    rw c.copy_from_slice.ensures.after (next_stored 31 1 a h _ (omega arith) (omega arith) (c.next_digit.ensures ∙ ap next (digit_read a h (search rules))))

use Rattle.std.proofs.Common.{Some}
use Rattle.std.proofs.lemmas.Bool.Decides.{Decides-eqb}
use Rattle.std.proofs.lemmas.Slice.Eq.{strip_prefix_is}
use mathlib.Core.Path.{◌≡◌, sym, ap, ◌∙◌}
use mathlib.Core.List.{◌++◌}
use native.Mathlib.Omega.{arith}
use lib.ListN.{replicate}
use lib.Seq.{take_all}
use Rattle.columns.specs.Reading.{column_read}
use Rattle.columns.proofs.Scans.{blanks_passed, three_from}
use Rattle.columns.proofs.read_column.Goals as goal

-- The column is eight blanks and the three bytes behind them.
pub returns-in-Some-len3 : goal.returns-in-Some-len3
returns-in-Some-len3 c =
    let s = c.args.s.now in
    let rest = c.in-Some-len3.field-0.now in
    let is : s ≡ replicate 8 32 ++ rest = strip_prefix_is Decides-eqb s (replicate 8 32) (Some c.in-Some-len3.field-0) c.in-Some-len3.ensures.cases in
    let three = sym (take_all 3 rest (omega arith)) ∙ three_from rest 0 (omega arith) in
    c.read_three.ensures ∙ sym (ap column_read (is ∙ ap (λ bs. replicate 8 32 ++ bs) three) ∙ blanks_passed _ _)

-- A log made by the exported functions gets a yes (02, Card 7): the numbers that tickets_numbers writes for a file, with the lines of scans of the report that
-- tickets_report writes for it.
use Prim.Native.Nat.{ℕ}
use mathlib.Core.Path.{◌≡◌, sym, ap, ◌∙◌}
use mathlib.Core.Bool.{cond}
use mathlib.Core.List.{List}
use lib.ListN.{length, take}
use Rattle.schedule.specs.Tables.{tables}
use Rattle.schedule.specs.Files.{file_report}
use Rattle.schedule.specs.Scans.{scan_lines}
use Rattle.arrays.specs.Form.{lent}
use Rattle.numbering.specs.Files.{NumbersFile}
use Rattle.numbering.proofs.Logs.{served_reading, numbered_log}
use Rattle.exports.specs.Clauses.{TellsOfLog}

pub made_log : {bs list list' : List ℕ} {written refusal right : ℕ} → NumbersFile bs list 0 written list'
    → TellsOfLog bs (take written list') (scan_lines (file_report (tables lent) bs)) refusal right → (refusal ≡ 0) × (right ≡ 1)
made_log {bs} {list} f g =
    let z = g.checks.number ∙ served_reading bs (length list) (sym f.number) in
    (z, g.told ∙ ap (λ b. cond b 1 0) ((g.checks.exactly z).1 (numbered_log f)))

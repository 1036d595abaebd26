-- The numbers of a file, with the lines of scans of its report, make a log that is right (02, Card 7: logs made under Card 6).
use Prim.Native.Nat.{ℕ}
use mathlib.Core.Path.{◌≡◌, refl, sym, ap, subst, ◌∙◌}
use mathlib.Core.List as Lists
use lib.ListN.{length, take, drop}
use lib.Seq.{take_at}
use Rattle.moves.specs.Moves.{final_number}
use Rattle.arrays.specs.Form.{lent}
use Rattle.arrays.proofs.States.{lent_lawful}
use Rattle.schedule.specs.Tables.{tables}
use Rattle.schedule.specs.Files.{step_lines, file_report}
use Rattle.schedule.specs.Demand.{file_calls}
use Rattle.schedule.specs.Numbers.{final_after, final_of, reading_refusal}
use Rattle.schedule.specs.Logs.{RightLog}
use Rattle.schedule.specs.Scans.{scan_lines}
use Rattle.schedule.proofs.Surveys.{surveyed_none, surveyed_served}
use Rattle.schedule.proofs.Logs.{right_log, lists_struck}
use Rattle.numbering.specs.Files.{numbering_refusal, file_numbers, NumbersFile}
use Rattle.simulation.specs.Calls.{original}

-- a file that is served has no final refusal
served_final : (bs : Lists.List ℕ) (room : ℕ) → final_number (numbering_refusal bs room) ≡ 0 → final_number (final_of bs) ≡ 0
unfolding numbering_refusal
served_final bs room z = (surveyed_none (final_of bs) (length (file_calls original bs)) _ z).0

-- nor is it refused as the file of a log
pub served_reading : (bs : Lists.List ℕ) (room : ℕ) → final_number (numbering_refusal bs room) ≡ 0 → final_number (reading_refusal bs) ≡ 0
unfolding numbering_refusal reading_refusal
served_reading bs room z = surveyed_served (final_of bs) (length (file_calls original bs)) _ z

pub numbered_log : {bs list list' : Lists.List ℕ} {written : ℕ} → NumbersFile bs list 0 written list'
    → RightLog bs (take written list') (scan_lines (file_report (tables lent) bs))
numbered_log {bs} {list} {list'} {written} f =
    let s = f.served refl in
    let ns = file_numbers bs (length list) in
    let z = sym (ap (λ h. final_number (final_after h (step_lines bs))) s.1) ∙ served_final bs (length list) (sym f.number) in
    let written_here : take written list' ≡ ns = ap (take written) f.left ∙ take_at ns (drop (length ns) list) written (sym f.count) in
    subst (λ x. RightLog bs x (scan_lines (file_report (tables lent) bs))) (sym written_here)
    (subst (RightLog bs ns) (sym (lists_struck lent lent_lawful bs s.0 s.1 z)) (right_log refl s.1 s.2))

-- The numbers are found, and printed unless the file is refused.
use Rattle.std.proofs.Common.{◌≡◌, ℕ, [], length, take, refl, sym, ap, ◌∙◌}
use mathlib.Core.List as Lists
use lib.Seq.{take_at}
use borrow.Author.Tests.{eq-eqb, ne_eqb}
use Rattle.number_lines.specs.Lines.{number_lines}
use Rattle.number_lines.proofs.Printing.{length_numbers}
use Rattle.transition.specs.Forms.{over}
use Rattle.moves.specs.Moves.{refusal_number, final_number}
use Rattle.moves.specs.declared.Refusal.{Refusal}
use Rattle.moves.proofs.MoveLaws.{positive}
use Rattle.schedule.specs.Files.{printed}
use Rattle.numbering.specs.Files.{numbering_refusal, file_numbers, NumbersFile}
use Rattle.numbers.specs.Clauses.{printed_file}
use Rattle.numbers.proofs.print_file.Goals as goal

module _ {bs list list' : Lists.List ℕ} {number written : ℕ} (f : NumbersFile bs list number written list') (size : length list ≡ 4096) where
  told : final_number (numbering_refusal bs 4096) ≡ number
  told = sym (f.number ∙ ap (λ k. final_number (numbering_refusal bs k)) size)

  served : number ≡ 0 → number_lines (take written list') ≡ printed_file bs
  unfolding printed_file
  served z = ap number_lines (ap (take written) f.left ∙ take_at (file_numbers bs (length list)) _ written (sym f.count) ∙ ap (file_numbers bs) size)
      ∙ sym (rw (eq-eqb _ 0 (told ∙ z)) refl)

refused : (r : Refusal) {bs list list' : Lists.List ℕ} → NumbersFile bs list (refusal_number r) 0 list' → length list ≡ 4096 → printed 0 (refusal_number r) [] ≡ printed_file bs
unfolding printed_file
refused r f size = rw (told f size, ne_eqb (refusal_number r) 0 (positive r)) refl

pub returns-in-Err-clause-value : goal.returns-in-Err-clause-value
returns-in-Err-clause-value c = c.print_refusal.ensures.value ∙ ap length (refused _ c.in-Err.ensures c.requires.list_len)

pub returns-in-Err-clause-out_after : goal.returns-in-Err-clause-out_after
returns-in-Err-clause-out_after c = c.print_refusal.ensures.out_after ∙ ap (λ l. over l c.args.out.now) (refused _ c.in-Err.ensures c.requires.list_len)

pub returns-in-Ok-clause-value : goal.returns-in-Ok-clause-value
returns-in-Ok-clause-value c = c.print_numbers.ensures.value ∙ sym (length_numbers _) ∙ ap length (served c.in-Ok.ensures c.requires.list_len refl)

pub returns-in-Ok-clause-out_after : goal.returns-in-Ok-clause-out_after
returns-in-Ok-clause-out_after c = c.print_numbers.ensures.out_after ∙ ap (λ l. over l c.args.out.now) (served c.in-Ok.ensures c.requires.list_len refl)

-- The numbers of a whole file: it is refused before any step is run, or its numbers are those of its lines.
use Prim.Native.Nat.{ℕ, ◌≤◌}
use native.Mathlib.Omega.{arith}
use mathlib.Core.Path.{◌≡◌, refl, sym, ap, subst, ◌∙◌}
use mathlib.Core.Bool.{Bool, true, false, cond}
use mathlib.Core.List as Lists
use mathlib.Core.List.{[]}
use lib.ListN.{length, take, drop}
use lib.Dec.{ltb}
use borrow.Author.Tests.{ltb-false}
use Rattle.simulation.specs.Calls.{original}
use Rattle.simulation.specs.Numbering.{numbers_of}
use Rattle.transition.specs.Forms.{over}
use Rattle.std.specs.Prelude.{Option, Some, None, Ok, Err}
use Rattle.moves.specs.Moves.{refusal_number, final_number}
use Rattle.moves.proofs.MoveLaws.{positive}
use Rattle.moves.specs.declared.Refusal.{Refusal}
use Rattle.moves.specs.declared.Refusal.TheVariants.{ListTooShort}
use Rattle.arrays.specs.Form.{lent}
use Rattle.arrays.proofs.States.{lent_lawful}
use Rattle.schedule.specs.Lines.{header_read}
use Rattle.schedule.specs.Files.{lines_of, step_lines}
use Rattle.schedule.specs.Demand.{step_calls, file_calls}
use Rattle.schedule.specs.Numbers.{final_after, snap_calls, FileNumbers, Surveys}
use Rattle.schedule.proofs.Runs.{over_short}
use Rattle.schedule.proofs.Surveys.{surveyed_none, surveyed_header, header_told, calls_told, final_told, steps_told, snaps_told}
use Rattle.schedule.proofs.Numbers.{file_numbers_lem}
use Rattle.schedule.specs.declared.Survey.{Survey}
use Rattle.numbering.specs.Files.{refused_by, numbering_refusal, file_numbers, NumbersFile}

module _ (bs list : Lists.List ℕ) where
  -- A FILE THAT IS REFUSED
  refused_file : (r : Refusal) → numbering_refusal bs (length list) ≡ Some r → NumbersFile bs list (refusal_number r) 0 list
  unfolding file_numbers
  refused_file r e = record {
    number = ap final_number (sym e);
    count = ap length none;
    left = ap (λ ns. over ns list) none;
    refused = λ _. (refl, refl);
    served = λ z. absurd (positive r z);
  }
    where
      none : [] ≡ file_numbers bs (length list)
      none = rw e refl

  -- by its header
  pub header_refuses : {l : Lists.List ℕ} → l ≡ take 18 bs → {r : Refusal} → header_read original l ≡ Err r → NumbersFile bs list (refusal_number r) 0 list
  unfolding numbering_refusal
  header_refuses p {r} e = refused_file r (surveyed_header bs p e (length (file_calls original bs)) (cond (ltb (length list) (snap_calls (file_calls original bs))) (Some ListTooShort) None))

  -- BEHIND AN ACCEPTED HEADER
  module _ {l : Lists.List ℕ} (p : l ≡ take 18 bs) {n : ℕ} (e : header_read original l ≡ Ok n) {rest : Lists.List ℕ} (q : rest ≡ drop (length l) bs)
      {s : Survey} (f : Surveys 1 rest s) where
    told : {r : Option Refusal} → r ≡ refused_by s.refusal s.steps s.snaps (length list) → numbering_refusal bs (length list) ≡ r
    unfolding numbering_refusal
    told g = sym (g ∙ (λ i. refused_by (final_told bs p e q f i) (steps_told bs p e q f i) (snaps_told bs p e q f i) (length list)))

    pub lines_refuse : {r : Refusal} → Some r ≡ refused_by s.refusal s.steps s.snaps (length list) → NumbersFile bs list (refusal_number r) 0 list
    lines_refuse {r} g = refused_file r (told g)

    module _ (g : None ≡ refused_by s.refusal s.steps s.snaps (length list)) where
      -- no line is refused for good, and there is room for a number for each line of step 3
      passed : (final_number s.refusal ≡ 0) × (s.snaps ≤ length list)
      passed =
          let h = surveyed_none s.refusal s.steps (cond (ltb (length list) s.snaps) (Some ListTooShort) None) (ap final_number (sym g)) in
          (h.0, enough (ltb (length list) s.snaps) refl h.1)
        where
          enough : (c : Bool) → ltb (length list) s.snaps ≡ c → final_number (cond c (Some ListTooShort) None) ≡ 0 → s.snaps ≤ length list
          enough true u w = absurd (omega arith)
          enough false u w = ltb-false (length list) s.snaps u

      pub lines_room : snap_calls (step_calls original 1 (lines_of rest)) ≤ length list
      lines_room = omega (arith, passed.1, f.snaps)

      pub lines_number : {k : ℕ} {list' : Lists.List ℕ} → let ns = numbers_of original n (step_calls original 1 (lines_of rest)) in
          k ≡ length ns → list' ≡ over ns list → NumbersFile bs list 0 k list'
      unfolding file_numbers
      lines_number {k} {list'} u v = record {
        number = ap final_number (sym (told g));
        count = u ∙ ap length chosen;
        left = v ∙ ap (λ ns. over ns list) chosen;
        refused = λ d. absurd (d refl);
        served = λ _. (
          n,
          accepted_header,
          subst (FileNumbers lent bs n) (ap (numbers_of original n) (sym (calls_told bs p e q)) ∙ chosen)
              (file_numbers_lem lent lent_lawful bs n accepted_header
              (sym (ap (λ h. final_number (final_after h (step_lines bs))) accepted_header)
              ∙ sym (ap final_number (final_told bs p e q f)) ∙ passed.0)),
        );
      }
        where
          accepted_header : header_read original (take 18 bs) ≡ Ok n
          accepted_header = header_told bs p e q

          chosen : numbers_of original n (step_calls original 1 (lines_of rest)) ≡ file_numbers bs (length list)
          chosen = ap (numbers_of original n) (calls_told bs p e q) ∙ rw (told g, accepted_header) refl

-- a list that keeps its length has room for the numbers written
pub numbers_fit : {bs list list' : Lists.List ℕ} {refusal written : ℕ} → NumbersFile bs list refusal written list' → length list' ≡ length list
    → written ≤ length list
numbers_fit {bs} {list} {list'} f e = omega (arith, f.count, over_short (file_numbers bs (length list)) list list' f.left e)

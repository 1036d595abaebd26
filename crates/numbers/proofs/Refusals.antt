-- A file that is refused while it is read is refused its numbers in the same way.
use Rattle.std.proofs.Common.{◌≡◌, ℕ, Bool, true, false, cond, [], length, take, refl, sym, ap, subst, ◌∙◌, Some, None, IfSome, Ok, Err, OnOk, ltb}
use mathlib.Core.List as Lists
use lib.Seq.{take_at}
use borrow.Author.Tests.{ne_eqb}
use Rattle.std.specs.declared.option.Option.{Option}
use Rattle.std.specs.declared.result.Result.{Result}
use Rattle.std.specs.Io.KnownBytes.{Appends}
use Rattle.simulation.specs.Calls.{original}
use Rattle.transition.specs.Forms.{over}
use Rattle.moves.specs.Moves.{refusal_number}
use Rattle.moves.specs.declared.Refusal.{Refusal}
use Rattle.moves.specs.declared.Refusal.TheVariants.{TooManySteps, ListTooShort}
use Rattle.moves.proofs.MoveLaws.{positive}
use Rattle.schedule.specs.Files.{printed}
use Rattle.schedule.specs.Demand.{file_calls}
use Rattle.schedule.specs.Numbers.{final_of, surveyed, snap_calls, reading_refusal}
use Rattle.numbering.specs.Files.{numbering_refusal}
use Rattle.intake.specs.Clauses.{Tells}
use Rattle.intake.specs.declared.Unread.{Unread}
use Rattle.intake.specs.declared.Unread.TheVariants.{Refused}
use Rattle.numbers.specs.Clauses.{printed_file}

-- a refusal that is met before what a card has of its own
surveyed_first : (final : Option Refusal) (steps : ℕ) (next : Option Refusal) {r : Refusal} → surveyed final steps None ≡ Some r → surveyed final steps next ≡ Some r
surveyed_first (Some final) steps next {r} e = e
surveyed_first None steps next {r} e = go (ltb 4096 steps) e
  where
    go : (b : Bool) → cond b (Some TooManySteps) None ≡ Some r → cond b (Some TooManySteps) next ≡ Some r
    go true e = e
    go false e = cc

pub refused_numbers : (bs : Lists.List ℕ) (room : ℕ) {r : Refusal} → reading_refusal bs ≡ Some r → numbering_refusal bs room ≡ Some r
unfolding numbering_refusal reading_refusal
refused_numbers bs room e = surveyed_first (final_of bs) (length (file_calls original bs)) (cond (ltb room (snap_calls (file_calls original bs))) (Some ListTooShort) None) e

refused_file : (bs : Lists.List ℕ) {r : Refusal} → Some r ≡ reading_refusal bs → printed 0 (refusal_number r) [] ≡ printed_file bs
unfolding printed_file
refused_file bs {r} e = rw (refused_numbers bs 4096 (sym e), ne_eqb (refusal_number r) 0 (positive r)) refl

-- what is written of a file that is refused while it is read
pub refused_written : (known old new : Option (Lists.List ℕ)) (part : Lists.List ℕ) {u : Unread} {r q : Refusal} → u ≡ Refused r → q ≡ r
    → IfSome known (λ bs. Tells bs part (Err u)) → {k : ℕ} {out : Lists.List ℕ} (lent : Lists.List ℕ)
    → k ≡ length (printed 0 (refusal_number q) []) → out ≡ over (printed 0 (refusal_number q) []) lent
    → {U E : Type 0} (written : Result U E) → OnOk written (Appends old new (take k out)) → OnOk written (IfSome known (λ bs. Appends old new (printed_file bs)))
refused_written known old new part same given told lent n o (Err failed) w = tt
refused_written None old new part same given told lent n o (Ok done) w = tt
refused_written (Some bs) old new part {u} {r} {q} same given told {k} lent n o (Ok done) w =
    let l = printed 0 (refusal_number q) [] in
    let e : Some r ≡ reading_refusal bs = subst (λ v. Tells bs part (Err v)) same told in
    subst (Appends old new) (ap (take k) o ∙ take_at l _ k (sym n) ∙ refused_file bs (ap Some given ∙ e)) w

-- What a judged move tells, and where a station's place is.
use Prim.Native.Nat.{ℕ, ◌≤◌, ◌<◌}
use native.Mathlib.Omega.{arith}
use mathlib.Core.Path.{◌≡◌, sym, ap, ◌∙◌}
use mathlib.Core.Logic.{◌≢◌}
use mathlib.Core.Bool.{true, false}
use Rattle.std.proofs.lemmas.Bool.Decides.{nat_tests}
use Rattle.std.specs.Prelude.{Option, None, is_some}
use Rattle.simulation.specs.Calls as Calls
use Rattle.simulation.specs.Calls.{original, Call, judge_in}
use Rattle.simulation.specs.Machine.{stay, label_step}
use Rattle.simulation.proofs.Judged.{begin_fits, verdict}
use Rattle.moves.specs.Moves.{refusal_number, final_number, move_of, place_of}
use Rattle.moves.specs.declared.Move.{Move}
use Rattle.moves.specs.declared.Move.TheVariants.{BeginLabel, SnapLabel, SnapScan, Update, EndLabel, EndScan, LeaveService, ReturnToService}
use Rattle.moves.specs.declared.Refusal.{Refusal}

-- a fact about every move, from one for each
pub by_move : (P : Move → Type 0) → P BeginLabel → P SnapLabel → P SnapScan → P Update → P EndLabel → P EndScan
    → P LeaveService → P ReturnToService → (m : Move) → P m
by_move P a b c d e f g h BeginLabel = a
by_move P a b c d e f g h SnapLabel = b
by_move P a b c d e f g h SnapScan = c
by_move P a b c d e f g h Update = d
by_move P a b c d e f g h EndLabel = e
by_move P a b c d e f g h EndScan = f
by_move P a b c d e f g h LeaveService = g
by_move P a b c d e f g h ReturnToService = h

-- what a move does to the labels does not depend on its job; and every move but a snap for a label and an update leaves them
pub step_any : (k job : ℕ) (m : Move) → label_step (move_of k 0 m) ≡ label_step (move_of k job m)
step_any k job m = grind arith

pub step_stays : (k job : ℕ) (m : Move) → m ≢ SnapLabel → m ≢ Update → label_step (move_of k job m) ≡ stay
step_stays k job m p q = grind arith

-- a label operation that is judged to begin has a job of 32 bits
pub begun_job : (n : ℕ) (own : Calls.Standing) (c : Call) (k : ℕ) (m : Move) → move_of k c.job m ≡ judge_in original n own c
    → m ≡ BeginLabel → c.job ≤ 4294967295
begun_job n own c k m h e = begin_fits (verdict original n own c) (sym h ∙ ap (move_of k c.job) e)

-- the place of a station that there is, and of one that there is not
pub place_below : (n station : ℕ) → 2 ≤ n → place_of n station < n
place_below n station h = grind (arith, nat_tests)

-- no refusal has the number 0, so 0 tells of none
pub positive : (r : Refusal) → refusal_number r ≢ 0
positive r e = grind arith

pub accepted : (r : Option Refusal) → final_number r ≡ 0 → r ≡ None
accepted r e = grind (arith, positive)

-- WHETHER THERE IS A REFUSAL, as the code tells
pub refuses_yes : (r : Option Refusal) → is_some r ≡ true → final_number r ≢ 0
refuses_yes r p = grind (arith, positive)

pub refuses_no : (r : Option Refusal) → is_some r ≡ false → final_number r ≡ 0
refuses_no r p = grind arith

pub some_final : (r : Option Refusal) → final_number r ≢ 0 → is_some r ≡ true
some_final r d = grind arith

pub none_final : (r : Option Refusal) → final_number r ≡ 0 → is_some r ≡ false
none_final r e = ap is_some (accepted r e)

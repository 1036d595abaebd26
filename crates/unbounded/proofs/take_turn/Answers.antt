use Prim.Native.Nat.{◌+◌}
use mathlib.Core.Path.{refl, ap, ◌∙◌}
use Rattle.std.specs.Option.{unwrap_or}
use Rattle.unbounded.proofs.TurnLaws.{turn_low, turn_prepared, turn_refused, turn_unfit, turn_before, turn_kept, taken_byte, turn_done, turn_ready}
use Rattle.unbounded.proofs.take_turn.Goals as goal

-- The call is judged; its number is tried; then the rest, the numbers and the order are brought up to date. TurnLaws tells what that asks for and what it
-- comes to.
pub returns-in-Err-clause-fact_2 : goal.returns-in-Err-clause-fact_2
returns-in-Err-clause-fact_2 c = turn_refused c.requires.fact c.in-Err.ensures c.requires.used_in_bounds

pub given_to-requires : goal.given_to-requires
given_to-requires c = (turn_low c.requires.fact, c.requires.used_in_bounds)

pub returns-in_err-number-clause-fact_2 : goal.returns-in_err-number-clause-fact_2
returns-in_err-number-clause-fact_2 c = rw c.from_residual.ensures (turn_unfit c.requires.fact c.in-Ok.ensures c.in_err-number.ensures)

pub carry_rest-handed-requires : goal.carry_rest-handed-requires
carry_rest-handed-requires c = turn_prepared c.requires.fact c.in-Ok.ensures

pub refresh_order-requires-clause-numbered_before : goal.refresh_order-requires-clause-numbered_before
refresh_order-requires-clause-numbered_before c =
    turn_before c.requires.fact c.in-Ok.ensures c.in_ok-number.ensures c.carry_rest-handed.ensures c.renumber.new.numbers _ c.renumber.ensures

pub refresh_order-requires-clause-order_value : goal.refresh_order-requires-clause-order_value
refresh_order-requires-clause-order_value c =
    turn_kept c.requires.fact c.in-Ok.ensures c.in_ok-number.ensures c.carry_rest-handed.ensures c.renumber.new.numbers _ c.renumber.ensures

pub returns : goal.returns
returns c =
    let f = c.requires.fact in
    let j = c.in-Ok.ensures in
    let g = c.in_ok-number.ensures in
    let k = c.carry_rest-handed.ensures in
    record {
      fact_2 = turn_done f j g k c.renumber.new.numbers _ c.renumber.ensures (λ e. c.unwrap_or.ensures ∙ ap (λ o. unwrap_or o 0) e)
          (ap (λ n. c.args.used + n) (c.from.ensures ∙ taken_byte _ c.is_some.ensures));
      count_value = refl;
      fact_3 = turn_ready f j g k c.renumber.new.numbers _ c.renumber.ensures c.refresh_order.ensures;
    }

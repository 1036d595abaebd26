-- The call is served by `take_turn`, and the numbers follow; Lines tells what `renumber` asks for and what it comes to.
use mathlib.Core.Path.{ap, ◌∙◌}
use Rattle.arrays.specs.Arrays.{Arrays}
use Rattle.file.proofs.LineLaws.{count_after}
use Rattle.numbering.proofs.Lines.{call_place, call_newest, call_valid, call_three, call_numbered, call_refused}
use Rattle.numbering.proofs.number_line.Goals as goal

pub renumber-requires-clause-place_lt_n : goal.renumber-requires-clause-place_lt_n
renumber-requires-clause-place_lt_n c =
    let f = c.requires.runnable in
    let g = c.in-Ok.ensures in
    (call_place f g.runnable g.turns, call_newest f g.runnable g.turns, f.high)

pub renumber-requires-clause-by_index : goal.renumber-requires-clause-by_index
renumber-requires-clause-by_index c =
    let f = c.requires.runnable in
    let g = c.in-Ok.ensures in
    call_valid f g.runnable g.turns (ap (λ (a : Arrays). a.count) g.turns.hands.table ∙ count_after f _)

pub renumber-requires-clause-count_in_bounds : goal.renumber-requires-clause-count_in_bounds
renumber-requires-clause-count_in_bounds c =
    let g = c.in-Ok.ensures in λ e. c.requires.count_in_bounds (call_three c.requires.runnable g.runnable g.turns e)

pub returns-in-Ok-clause-numbers_call : goal.returns-in-Ok-clause-numbers_call
returns-in-Ok-clause-numbers_call c =
    let pre = c.requires in
    let g = c.in-Ok.ensures in
    call_numbered pre.runnable g.runnable g.turns pre.count_in_bounds_2.0 pre.count_in_bounds pre.counted c.renumber.ensures

pub returns-in-Err-clause-numbers_call : goal.returns-in-Err-clause-numbers_call
returns-in-Err-clause-numbers_call c = call_refused c.requires.runnable c.in-Err.ensures.turns c.requires.counted

-- What the call hands out is printed; LineLaws tells what it comes to.
use mathlib.Core.Path.{refl}
use Rattle.file.proofs.LineLaws.{turn_prints}
use Rattle.file.proofs.serve_line.Goals as goal

pub returns-in-Ok-clause-prints : goal.returns-in-Ok-clause-prints
returns-in-Ok-clause-prints c =
    let wrote = c.write_result.ensures in
    turn_prints c.requires.runnable c.in-Ok.ensures.turns refl wrote.value wrote.out_after

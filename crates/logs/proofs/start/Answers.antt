-- The numbers are read, and the check begins with them.
use mathlib.Core.Path.{refl}
use Rattle.logs.proofs.Files.{begins_file}
use Rattle.logs.proofs.start.Goals as goal

pub returns : goal.returns
returns c = begins_file c.args.file.now c.read_numbers-count.ensures c.told-list refl _ c.begin.ensures

-- The samples, of the program's tables.
use mathlib.Core.Path.{refl}
use Rattle.transition.specs.Samples.{SamplesHold}
use Rattle.schedule.specs.Samples.{FileSamplesHold}
use Rattle.schedule.proofs.Samples.{file_samples_hold}
use Rattle.arrays.specs.Form.{lent}
use Rattle.arrays.proofs.States.{lent_lawful}
use Rattle.arrays.proofs.Samples.{samples_hold}

pub samples : SamplesHold lent
samples = samples_hold lent lent_lawful refl

pub file_samples : FileSamplesHold lent
file_samples = file_samples_hold lent lent_lawful refl

-- The samples, of the declared table.
use mathlib.Core.Path.{refl}
use Rattle.transition.specs.Samples.{SamplesHold}
use Rattle.schedule.specs.Samples.{FileSamplesHold}
use Rattle.schedule.proofs.Samples.{file_samples_hold}
use Rattle.arrays.proofs.Samples.{samples_hold}
use Rattle.table.specs.Tables.{declared}
use Rattle.table.proofs.Apart.{declared_lawful}

pub samples : SamplesHold declared
samples = samples_hold declared declared_lawful refl

pub file_samples : FileSamplesHold declared
file_samples = file_samples_hold declared declared_lawful refl

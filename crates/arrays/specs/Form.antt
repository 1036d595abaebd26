-- The arrays as a form in which a table keeps a state.
use Rattle.simulation.specs.Calls.{original}
use Rattle.transition.specs.Forms.{Form}
use Rattle.arrays.specs.Arrays.{Arrays, state_of, arrays_of}
use Rattle.arrays.specs.WellFormed.{well_formed}

abbrev pub lent : Form
lent = record { board = original; Table = Arrays; count = λ a. a.count; state = state_of; written = arrays_of; well_formed = well_formed }

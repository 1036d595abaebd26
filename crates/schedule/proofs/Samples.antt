-- The reports of the sample files, on tables of every lawful form: computed on the machine's states.
use mathlib.Core.Path.{◌≡◌, refl, ◌∙◌}
use mathlib.Core.List.{◌∷◌, ◌++◌}
use Rattle.basics.specs.Tests.{every, count, first_from, newest, inserted, ordered, passing}
use Rattle.basics.proofs.Facts.{all_weaken}
use Rattle.columns.specs.Columns.{line_head, line_tail, report_line}
use Rattle.columns.specs.Reading.{column_read}
use Rattle.label.specs.Labels.{below, next, agrees, first_difference, label_below, label_before, next_label, others, level, new_label}
use Rattle.simulation.specs.Calls.{original, unless, judge_in, report_lines}
use Rattle.simulation.specs.Machine.{pending_after, relabelled, scan_of, carry_out, step}
use Rattle.transition.specs.Forms.{Form, step_of}
use Rattle.transition.specs.Samples.{ascii}
use Rattle.transition.proofs.Theorem.{Lawful}
use Rattle.schedule.specs.Lines.{line_read, header_read}
use Rattle.schedule.specs.Sessions.{serve_of}
use Rattle.schedule.specs.Files.{cut, run_lines, file_run}
use Rattle.schedule.specs.Before.{as_states}
use Rattle.schedule.specs.Samples.{texts, FilePrints, listing, refusals, incomplete, headers, FileSamplesHold}
use Rattle.schedule.proofs.FileTheorem.{same_report}
use Rattle.schedule.proofs.Before.{as_states_lawful}

computed : FileSamplesHold (as_states original)
unfolding every count first_from newest inserted ordered passing line_head line_tail report_line column_read below next agrees first_difference label_below
    label_before next_label others level new_label unless judge_in report_lines pending_after relabelled scan_of carry_out step step_of ascii line_read header_read
    serve_of cut run_lines file_run texts
computed = (refl, (refl, (refl, (refl, (refl, (refl, (refl, (refl, (refl, (refl, (refl, (refl, tt))))))))))))

pub file_samples_hold : (F : Form) → Lawful F → F.board ≡ original → FileSamplesHold F
file_samples_hold F L same = all_weaken {P = FilePrints (as_states original)} {Q = FilePrints F}
    (λ x e. same_report F (as_states original) L as_states_lawful same (texts x.file) ∙ e) (listing ∷ refusals ∷ incomplete ++ headers) computed

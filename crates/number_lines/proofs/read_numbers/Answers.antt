use Prim.Native.Nat.{ℕ, ◌-◌}
use native.Mathlib.Omega.{arith}
use mathlib.Core.Path.{◌≡◌, sym, ap, ◌∙◌}
use mathlib.Core.List.{List}
use lib.ListN.{length, take, drop, length-drop}
use lib.Seq.{take_all}
use Rattle.std.proofs.Common.{Option}
use Rattle.number_lines.specs.Lines.{number_read}
use Rattle.number_lines.proofs.Reading.{read_more, read_full, read_bad}
use Rattle.number_lines.proofs.read_numbers.Goals as goal

-- the line that is read is the one at `at`
line_here : (bs : List ℕ) (at : ℕ) {r : Option ℕ} → r ≡ number_read (take (length bs - at) (drop at bs)) → number_read (drop at bs) ≡ r
line_here bs at e = sym (e ∙ ap number_read (take_all (length bs - at) (drop at bs) (omega (arith, length-drop at bs))))

pub loop-i-preserved : goal.loop-i-preserved
loop-i-preserved c = read_more c.loop-i.invariant _ c.loop-i-test.true (line_here c.args.bytes.now _ c.in-Some.ensures)

pub returns-in_default : goal.returns-in_default
returns-in_default c = read_bad c.loop-i.invariant (line_here c.args.bytes.now _ c.in_default.ensures)

pub returns : goal.returns
returns c = read_full c.loop-i.invariant c.loop-i-test.false

use mathlib.Core.Path.{◌≡◌, sym, ◌∙◌}
use Rattle.std.specs.Prelude.{Ok}
use Rattle.simulation.specs.Calls.{original}
use Rattle.moves.specs.Moves.{final_number}
use Rattle.moves.proofs.MoveLaws.{refuses_no}
use Rattle.schedule.specs.Lines.{header_read}
use Rattle.schedule.proofs.SessionLaws.{original_stations}
use Rattle.file.proofs.Openings.{opened_steps, opened_header}
use Rattle.file.proofs.open_part.Goals as goal
use Rattle.file.proofs.open_part.Goals.{Else-is_some, In_ok-n}

-- the run goes on
going : (x : Else-is_some) → final_number x.args.run.refusal ≡ 0
going x = refuses_no x.args.run.refusal (sym x.is_some.ensures ∙ x.if-is_some.false)

-- an accepted header
said : (x : In_ok-n) → header_read original x.line_at.result.now ≡ Ok x.in_ok-n.n
said x = sym x.read_header.ensures ∙ x.in_ok-n.was

pub returns-then-run-ne0 : goal.returns-then-run-ne0
returns-then-run-ne0 c =
    let g = going (goal.at.returns-then-run-ne0 c).Else-is_some in
    (opened_steps c.args.run _ c.args.part.now g c.if-run-ne0.true (c.requires.few g), c.requires.runnable)

pub refresh-requires : goal.refresh-requires
refresh-requires c = original_stations _ _ (said (goal.at.refresh-requires c).In_ok-n)

pub returns : goal.returns
returns c =
    let g = going (goal.at.returns c).Else-is_some in (
      opened_header c.args.run _ c.args.last c.args.part.now g c.if-run-ne0.false c.line_at.ensures (said (goal.at.returns c).In_ok-n) c.refresh.ensures.value,
      c.refresh.ensures.runnable,
    )

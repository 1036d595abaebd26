use Rattle.std.proofs.Common.{refl}
use Rattle.std.proofs.lemmas.Result.{err_from_is_err_and}
use Rattle.panel.specs.Panels.{panel_of}
use Rattle.panel.proofs.PanelLaws.{shown_few, shown_room, shown_step}
use Rattle.panel.proofs.step_lent.Goals as goal

pub returns-in_err-next : goal.returns-in_err-next
returns-in_err-next c =
    let p = err_from_is_err_and c.from_residual.result c.from_residual.ensures.1 in
    rw (p.1, p.2) (c.in_err-next.ensures (panel_of c.args.panel.now))

pub fill-requires : goal.fill-requires
fill-requires c = record { few = shown_few _ c.in_ok-next.ensures; room = shown_room _ _ c.in_ok-next.ensures refl }

pub returns : goal.returns
returns c = shown_step _ _ _ c.in_ok-next.ensures refl c.fill.ensures

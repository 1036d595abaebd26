use Rattle.std.proofs.Common.{◌∙◌, ap, sym, refl}
use Rattle.transition.specs.Forms.{over}
use Rattle.moves.specs.Moves.{final_number}
use Rattle.schedule.specs.Sessions.{Session}
use Rattle.schedule.proofs.SessionLaws.{serves_as}
use Rattle.table.specs.Tables.{declared}
use Rattle.table.specs.declared.Table.{Table}
use Rattle.session.proofs.LineLaws.{unread_keeps, refuses, serve_again, serve_unread, serve_step}
use Rattle.session.proofs.serve.Goals as goal

pub returns-in-Some : goal.returns-in-Some
returns-in-Some c = record { served_as = serves_as (serve_again declared _ _ _ c.in-Some.is) refuses; keeps = λ d. (refl, refl) }

pub returns-in-Ok : goal.returns-in-Ok
returns-in-Ok c = record {
  served_as = serves_as (serve_step declared _ _ (ap final_number c.in_default.is) _ (sym c.in-Ok.ensures)) c.step_line.ensures.served_as;
  keeps = c.step_line.ensures.keeps;
}

pub returns-in-Err : goal.returns-in-Err
returns-in-Err c =
    let e = c.unread.ensures c.args.report.now in
    let w = unread_keeps (declared.well_formed _) _ _ in
    record {
      served_as = serves_as (serve_unread declared _ _ (ap final_number c.in_default.is) _ (sym c.in-Err.ensures)) e;
      keeps = λ d. (ap (λ (s : Session Table). s.table) e.session ∙ w.0, e.report ∙ ap (λ b. over b c.args.report.now) w.1);
    }

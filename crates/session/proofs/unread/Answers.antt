use Rattle.std.proofs.Common.{sym, ap, ◌∙◌, cond}
use Rattle.schedule.specs.Sessions.{session, refused, stopped, ill_formed}
use Rattle.schedule.proofs.SessionLaws.{serves_as}
use Rattle.session.specs.Clauses.{session_of}
use Rattle.session.proofs.LineLaws.{counted, refuses}
use Rattle.session.proofs.unread.Goals as goal

pub returns-then-well_formed : goal.returns-then-well_formed
returns-then-well_formed c =
    let s = session_of c.args.s in
    λ buffer. serves_as (ap (λ b. cond b (stopped s c.args.r) (ill_formed s)) (sym c.well_formed-2.ensures ∙ c.if-well_formed.true)) refuses

pub returns : goal.returns
returns c =
    let s = session_of c.args.s in
    λ buffer. serves_as
    (ap (λ b. cond b (stopped s c.args.r) (ill_formed s)) (sym c.well_formed-2.ensures ∙ c.if-well_formed.false)
    ∙ ap (λ k. refused (session k s.refusal s.table) 13) (counted _ s.lines _ c.from.ensures)) refuses

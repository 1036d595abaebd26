use Prim.Native.Nat.{ℕ}
use lib.ListN.{get_or, take, length-take}
use native.Mathlib.Omega.{arith}
use Rattle.engine.proofs.Scanned.{found_yes, found_idle, found_out, none_yet, shown_next, struck_next, all_scanned}
use Rattle.engine.proofs.scan_result.Goals as goal
use Rattle.engine.proofs.scan_result.Goals.{then-job-ne0+then-service-i-eq-IN_SERVICE, else-job-ne0, else-job-ne0-via-then-job-ne0+else-service-i-eq-IN_SERVICE, else-job-ne0-via-else-job-ne0}

pub loop-i-init : goal.loop-i-init
loop-i-init c = (omega arith, none_yet _ _)

pub loop-i-preserved : goal.loop-i-preserved
loop-i-preserved c =
    let a = c.args in
    let i = get_or (take a.n a.order.now) c.loop-i.i-index 0 in
    let f = c.loop-i.invariant.1 in
    elim c.if-job-ne0.branch [
      | then-job-ne0+then-service-i-eq-IN_SERVICE x ↦ (
        omega (arith, x.k-is),
        shown_next _ _ _ _ f c.loop-i-test.true (omega arith) (found_yes a.jobs.now a.service.now i x.if-job-ne0.true x.if-service-i-eq-IN_SERVICE.true) x.rows-is x.k-is,
      )
      | else-job-ne0 x ↦ (
        omega (arith, x.k-is),
        elim x.else-job-ne0.branch [
          | else-job-ne0-via-then-job-ne0+else-service-i-eq-IN_SERVICE y ↦
              struck_next _ _ _ _ f c.loop-i-test.true (found_out a.jobs.now a.service.now i y.if-service-i-eq-IN_SERVICE.false) x.rows-is x.k-is
          | else-job-ne0-via-else-job-ne0 y ↦ struck_next _ _ _ _ f c.loop-i-test.true (found_idle a.jobs.now a.service.now i y.if-job-ne0.false) x.rows-is x.k-is
        ],
      )
    ]

pub returns : goal.returns
returns c = all_scanned c.args.n c.args.order.now c.loop-i.invariant.1 (omega (arith, length-take {A = ℕ}))

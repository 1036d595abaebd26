use native.Mathlib.Omega.{arith}
use mathlib.Core.Path.{◌≡◌}
use mathlib.Core.List.{[]}
use lib.ListN.{length}
use borrow.Kind.Array.{e_arr, e_int}
use mir.Syntax.{w8, w32}
use Rattle.basics.proofs.Owned.{each_holds}
use Rattle.arrays.specs.Sizes.{Sized}
use Rattle.arrays.proofs.shaped.Goals as goal

-- The lengths are what the types of the arrays say of their values.
pub returns : goal.returns
returns c = λ n.
    let plane = e_arr (e_arr (e_int w8) 31) 32 in
    let result = e_arr (e_arr (e_int w32) 32) 2 in
    let a = c.args in
    let l = c.well_formed.0 in
    let j = c.well_formed.1.0 in
    let b = c.well_formed.1.1.0 in
    let r = c.well_formed.1.1.1.0 in
    record {
      labels = record {
        long = l.1.0.1;
        each = λ f h. each_holds plane.ty.own_val (λ x. length x ≡ 32) (λ x vs p. p.1.0.1) [] a.labels _ l.1.1 f
            (omega (arith, l.1.0.1));
      };
      label = λ f h. each_holds plane.ty.own_val (Sized 32 31)
          (λ x vs p. record {
            long = p.1.0.1;
            each = λ i u. each_holds (e_arr (e_int w8) 31).ty.own_val (λ y. length y ≡ 31) (λ y ws q. q.1.0.1) [] x _ p.1.1 i
                (omega (arith, p.1.0.1));
          })
          [] a.labels _ l.1.1 f (omega (arith, l.1.0.1));
      jobs = record {
        long = j.1.0.1;
        each = λ f h. each_holds (e_arr (e_int w32) 32).ty.own_val (λ x. length x ≡ 32) (λ x vs p. p.1.0.1) [] a.jobs _ j.1.1 f
            (omega (arith, j.1.0.1));
      };
      control = record {
        long = b.1.0.1;
        each = λ f h. each_holds (e_arr (e_int w8) 32).ty.own_val (λ x. length x ≡ 32) (λ x vs p. p.1.0.1) [] a.control _ b.1.1 f
            (omega (arith, b.1.0.1));
      };
      results = record {
        long = r.1.0.1;
        each = λ f h. each_holds result.ty.own_val (λ x. length x ≡ 2) (λ x vs p. p.1.0.1) [] a.results _ r.1.1 f
            (omega (arith, r.1.0.1));
      };
      result = λ f h. each_holds result.ty.own_val (Sized 2 32)
          (λ x vs p. record {
            long = p.1.0.1;
            each = λ i u. each_holds (e_arr (e_int w32) 32).ty.own_val (λ y. length y ≡ 32) (λ y ws q. q.1.0.1) [] x _ p.1.1 i
                (omega (arith, p.1.0.1));
          })
          [] a.results _ r.1.1 f (omega (arith, r.1.0.1));
    }

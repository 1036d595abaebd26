-- The newest station, and how many have its label: with one station more, by where its label first differs from the newest's.
use Prim.Native.Nat.{ℕ, ◌+◌, ◌-◌, ◌≤◌, ◌<◌}
use native.Mathlib.Omega.{arith}
use mathlib.Core.Path.{◌≡◌, refl, sym, ap, ◌∙◌}
use mathlib.Core.Bool.{true, false}
use mathlib.Core.List.{List}
use borrow.Author.Tests.{lt-ltb}
use Rattle.basics.specs.Tests.{newest}
use Rattle.label.specs.Labels.{Label, below, first_difference, holders}
use Rattle.label.proofs.Order.{Agree, difference_same, difference_apart}
use Rattle.label.proofs.Total.{Total, newest_one, newest_kept, newest_next, newest_only}
use Rattle.label.proofs.Holders.{holders_all, holders_more, holders_kept, holders_one}
use Rattle.label.proofs.Searches.{before_apart, before_alike}
use Rattle.rows.specs.Held.{held, stands_in, Orderly, Leads}
use Rattle.rows.proofs.OrderLaws.{orderly_total}

module _ {n : ℕ} {rows : List (List ℕ)} (o : Orderly n rows) where
  abbrev m : ℕ
  m = n - 1

  abbrev t : ℕ → Label
  t = held rows

  order : Total n (stands_in n rows)
  order = orderly_total n rows o

  pub leads_one : Leads n rows 1 0 1
  leads_one = record {
    inside = omega arith;
    last = λ i h. newest_one order i h (omega (arith, o.low));
    counted = sym (holders_all m t 1 0 (λ i h. let e : i ≡ 0 = omega arith in rw e (λ p u. refl)));
  }

  module _ {k z c : ℕ} (l : Leads n rows k z c) (h : k < n) (p : ℕ) (e : p ≡ first_difference m (t z) (t k)) where
    same : Agree p (t z) (t k)
    same = rw e (difference_same m (t z) (t k))

    -- the label of station k is the newest's: it is now the newest, and one more has that label
    pub shares : m ≤ p → Leads n rows (k + 1) k (c + 1)
    shares u = record {
      inside = omega arith;
      last = newest_next order z k l.last refl (sym (before_alike m (t z) (t k) p e z k u) ∙ lt-ltb z k l.inside) (omega (arith, l.inside)) h;
      counted = ap (λ x. x + 1) l.counted ∙ sym (holders_more m t z k (λ q v. same q (omega arith)));
    }

    -- it is above: station k alone has it
    pub rises : p < m → below (t z p) (t k p) ≡ true → Leads n rows (k + 1) k 1
    rises u b = record {
      inside = omega arith;
      last = newest_next order z k l.last refl (sym (before_apart m (t z) (t k) p e z k u) ∙ b) (omega (arith, l.inside)) h;
      counted = sym (holders_one m t z k (record { at = p; inside = u; same = same; below = record { fact = b } }) l.last);
    }

    -- it is below
    pub stays : p < m → below (t z p) (t k p) ≡ false → Leads n rows (k + 1) z c
    stays u b = record {
      inside = omega (arith, l.inside);
      last = newest_kept order z k l.last refl (sym (before_apart m (t z) (t k) p e z k u) ∙ b);
      counted = l.counted ∙ sym (holders_kept m t z k (λ s. rw (← e) at (difference_apart m (t z) (t k)) u (sym (s p u))));
    }

  -- of all n stations
  pub leads_all : {k z c : ℕ} → k ≡ n → Leads n rows k z c → (z ≡ newest n (stands_in n rows)) × (c ≡ holders n m t z)
  leads_all {k} {z} {c} e l = (
    newest_only n (stands_in n rows) order z (omega (arith, l.inside)) (λ i h. l.last i (omega arith)),
    l.counted ∙ ap (λ x. holders x m t z) e,
  )

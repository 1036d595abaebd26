-- WHAT LABELS OWE so that numbers can follow them: a relation to the numbers beside them that each step keeps, and a slot for each new number. From it, one
-- step: whatever happens to the numbers later, the unbounded machine takes the same step. Nothing here knows what a label is.
use Prim.Native.Nat.{ℕ, ◌≤◌}
use native.Mathlib.Omega.{arith}
use mathlib.Core.Path.{◌≡◌, refl, sym, ap, subst, ◌∙◌, fun_ext}
use mathlib.Core.Logic.{◌≢◌}
use mathlib.Core.Bool.{Bool, true, false, ◌&&◌, ◌||◌, cond}
use lib.ListN.{replicate}
use lib.Dec.{eqb}
use borrow.Author.Tests.{eqb-true, eq-eqb, ne_eqb}
use Rattle.basics.specs.Tests.{newest, All}
use Rattle.basics.proofs.Facts.{tf, by_here, Same, newest_same}
use Rattle.simulation.specs.Machine.{Labelling, put, copy, Rules, stands, pending_after, LabelStep, stay, snap, update, relabelled, label_snap}
use Rattle.simulation.specs.Numbered.{numbered, met, Fit, newest_snap, zeros}
use Rattle.simulation.specs.Numbering.{through, Slot, number, shift, Renumbering, beside_only, placed, renumber}
use Rattle.simulation.proofs.Sync.{Rising, rising_before, by_number}
use Rattle.simulation.proofs.Numbers.{shift_rising, shift_zero, Upto, Sits, sits_above, Span, span_same, span_placed}

through_put : (f : ℕ → ℕ) (N : Labelling ℕ) (k v : ℕ) → put (through f N) k (f v) ≡ through f (put N k v)
through_put f N k v = fun_ext (λ x. fun_ext (λ i. go (x && eqb i k) x i))
  where
    go : (b x : Bool) (i : ℕ) → cond b (f v) (f (N x i)) ≡ f (cond b v (N x i))
    go true x i = refl
    go false x i = refl

-- what a snap by process k makes pending, by whether it is the newest process z
module _ {A : Type 0} (n : ℕ) (r : Rules A) (l : Labelling A) (k z : ℕ) (e : newest n (stands r l) ≡ z) where
  pub pend_new : k ≢ z → pending_after n r l k ≡ r.new (l false) z k
  unfolding pending_after
  pend_new d = rw (e, ne_eqb k z d) refl

  -- its own label again, so nothing changes
  pub snap_stays : k ≡ z → put l k (pending_after n r l k) ≡ l
  unfolding pending_after
  snap_stays q = rw (e, eq-eqb k z q) (fun_ext go)
    where
      go : (x : Bool) → put l k (l true k) x ≡ l x
      go false = refl
      go true = fun_ext (λ i. by_here (λ b. cond b (l true k) (l true i) ≡ l true i) k i (λ f. ap (l true) (sym f)) (λ _. refl))

-- R relates labels to the numbers beside them. It holds of fresh ones; labels and numbers that are so related order the processes alike; and each update
-- and each snap that is `Able` keeps it, where the number of a new label goes to its slot.
pub record Simulable {A : Type 0} (n : ℕ) (r : Rules A) (a : A) (Able : LabelStep → Type 0) : Type 1 where
  pub slot : (ℕ → A) → (ℕ → ℕ) → ℕ → ℕ → A → Slot
  pub R : Labelling A → Labelling ℕ → Type 0
  pub start : R (λ x i. a) (λ x i. 0)
  pub order : (l : Labelling A) (N : Labelling ℕ) → R l N → Same n (stands r l) (by_number (N false))
  pub snaps : (l : Labelling A) (N : Labelling ℕ) → R l N → (k z : ℕ) → Able (snap k) → newest n (stands r l) ≡ z → k ≢ z
      → let new = r.new (l false) z k in
      let p = slot (l true) (N true) (N false z) k new in
      Sits n N (N false z) p × R (put l k new) (placed N k p).beside
  pub updates : (l : Labelling A) (N : Labelling ℕ) → R l N → (k : ℕ) → Able (update k) → R (copy l k) (copy N k)

module _ {A : Type 0} {n : ℕ} {r : Rules A} {a₀ : A} {Able : LabelStep → Type 0} (L : Simulable n r a₀ Able) where
  -- the labels take the step w, and the numbers go by the renumbering e. Later calls make a rising f of the numbers in use: the unbounded machine, whose
  -- numbers have gone through both, takes the same step, and the number that it is given fits, and is 0 just for the newest process
  pub record Stepped (l : Labelling A) (N : Labelling ℕ) (w : LabelStep) (e : Renumbering) : Type 0 where
    pub rising : Rising e.shift
    pub zero : e.shift 0 ≡ 0
    pub ready : L.R (relabelled n r l w) e.beside
    pub span : (b : ℕ) → Upto n N b → Span n (label_snap w) e b
    pub follow : (f : ℕ → ℕ) → Rising f → (v : ℕ) → (1 ≤ label_snap w → v ≡ f e.number)
        → relabelled n (numbered v) (through (λ x. f (e.shift x)) N) w ≡ through f e.beside
    pub fit : (f : ℕ → ℕ) → Rising f → f 0 ≡ 0 → (most : ℕ) → f e.number ≤ most → (v : ℕ) → (1 ≤ label_snap w → v ≡ f e.number)
        → All (Fit most) (met n (through (λ x. f (e.shift x)) N) w v)
    pub newest : (f : ℕ → ℕ) → Rising f → f 0 ≡ 0 → zeros (replicate (label_snap w) (f e.number)) ≡ newest_snap n r l w

  module _ (l : Labelling A) (N : Labelling ℕ) (i : L.R l N) where
    -- after any rising renumbering the numbers still order the processes as the labels do
    pub order_kept : (f : ℕ → ℕ) → Rising f → (v : ℕ) → Same n (stands r l) (stands (numbered v) (through f N))
    order_kept f rise v x y lx ly = L.order l N i x y lx ly ∙ rising_before rise (N false x) x (N false y) y

    newest_alike : (f : ℕ → ℕ) → Rising f → (v : ℕ) → newest n (stands (numbered v) (through f N)) ≡ newest n (stands r l)
    newest_alike f rise v = sym (newest_same n _ _ (order_kept f rise v))

    stays : Stepped l N stay (beside_only N)
    unfolding relabelled met newest_snap
    stays = record {
      rising = λ x y h. h;
      zero = refl;
      ready = i;
      span = λ b h. span_same h;
      follow = λ f rise v e. refl;
      fit = λ f rise z most h v e. tt;
      newest = λ f rise z. refl;
    }

    updated : (k : ℕ) → Able (update k) → Stepped l N (update k) (beside_only (copy N k))
    unfolding relabelled met newest_snap
    updated k a = record {
      rising = λ x y h. h;
      zero = refl;
      ready = L.updates l N i k a;
      span = λ b h. span_same (λ x j u. h (x || eqb j k) j u);
      follow = λ f rise v e. refl;
      fit = λ f rise z most h v e. tt;
      newest = λ f rise z. refl;
    }

    -- a snap by the newest process: its pending label stays, and it is given 0
    snap_newest : (k : ℕ) → k ≡ newest n (stands r l) → Stepped l N (snap k) (beside_only N)
    unfolding relabelled met newest_snap
    snap_newest k q = record {
      rising = λ x y h. h;
      zero = refl;
      ready = subst (λ t. L.R t N) (sym (snap_stays n r l k _ refl q)) i;
      span = λ b h. span_same h;
      follow = λ f rise v _. snap_stays n (numbered v) (through f N) k _ (newest_alike f rise v) q;
      fit = λ f rise z most _ v e.
          (record { newest = λ _. e (omega arith) ∙ z; other = λ h. absurd (tf (eq-eqb k _ (q ∙ sym (newest_alike f rise v))) h) }, tt);
      newest = λ f rise z. rw (z, eq-eqb k _ q) refl;
    }

    -- a snap by another: its number goes to the slot
    slot_here : ℕ → Slot
    slot_here k = let z = newest n (stands r l) in L.slot (l true) (N true) (N false z) k (r.new (l false) z k)

    module _ (k : ℕ) (a : Able (snap k)) (d : k ≢ newest n (stands r l)) where
      found : let z = newest n (stands r l) in Sits n N (N false z) (slot_here k) × L.R (put l k (r.new (l false) z k)) (placed N k (slot_here k)).beside
      unfolding slot_here
      found = L.snaps l N i k (newest n (stands r l)) a refl d

      snap_placed : Stepped l N (snap k) (placed N k (slot_here k))
      unfolding relabelled met newest_snap
      snap_placed = record {
        rising = shift_rising p;
        zero = shift_zero p;
        ready = subst (λ t. L.R (put l k t) (placed N k p).beside) (sym (pend_new n r l k _ refl d)) found.1;
        span = λ b h. span_placed n N (N false (newest n (stands r l))) k p found.0 b h;
        follow = λ f rise v e. ap (put (through (λ x. f (shift p x)) N) k)
            (pend_new n (numbered v) (through (λ x. f (shift p x)) N) k _ (alike f rise v) d ∙ e (omega arith))
            ∙ through_put f (through (shift p) N) k (number p);
        fit = λ f rise zero most h v e. (
          record {
            newest = λ q. absurd (d (eqb-true k _ q ∙ alike f rise v));
            other = λ _. rw (e (omega arith), alike f rise (f (number p))) (rise _ _ (sits_above n N (N false (newest n (stands r l))) p found.0), h);
          },
          tt,
        );
        newest = λ f rise zero.
            let above = rise _ _ (sits_above n N (N false (newest n (stands r l))) p found.0) in
            rw (ne_eqb k _ d, ne_eqb (f (number p)) 0 (λ q. omega arith)) refl;
      }
        where
          p : Slot
          p = slot_here k

          alike : (f : ℕ → ℕ) → Rising f → (v : ℕ) → newest n (stands (numbered v) (through (λ x. f (shift p x)) N)) ≡ newest n (stands r l)
          alike f rise = newest_alike (λ x. f (shift p x)) (λ x y h. rise _ _ (shift_rising p x y h))

    pub stepped : (w : LabelStep) → Able w → Stepped l N w (renumber n r L.slot l N w)
    unfolding renumber slot_here
    stepped stay a = stays
    stepped (snap k) a = by_here (λ b. Stepped l N (snap k) (cond b (beside_only N) (placed N k (slot_here k)))) (newest n (stands r l)) k (snap_newest k)
        (snap_placed k a)
    stepped (update k) a = updated k a

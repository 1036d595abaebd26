-- The search for a slot, station by station.
use Prim.Native.Nat.{ℕ, suc, ◌+◌, ◌-◌, ◌≤◌, ◌<◌, max}
use native.Mathlib.Numerals.{add-one}
use native.Mathlib.Omega.{arith}
use mathlib.Core.Path.{◌≡◌, refl, sym, ap, ◌∙◌}
use mathlib.Core.Logic.{◌≢◌}
use mathlib.Core.Bool.{Bool, true, false, not, ◌&&◌, cond}
use lib.Dec.{eqb, leb}
use borrow.Author.Count.{below_more}
use borrow.Author.Tests.{eq-eqb, ne_eqb, lt-ltb, le-leb, lt-leb}
use Rattle.basics.specs.Tests.{first_from}
use Rattle.basics.proofs.Facts.{both, left_no, right_no, first_is}
use Rattle.label.specs.Labels.{below, agrees, first_difference, label_below, other_agrees}
use Rattle.label.proofs.Order.{agrees_upto, difference_first}
use Rattle.rows.specs.Held.{held}
use Rattle.simulation.specs.Numbering.{Slot, highest, slot_of}
use Rattle.arrays.specs.Arrays.{Rows}
use Rattle.numbering.specs.Clauses.{slot_in}

-- the higher of two, if the test says so, as the code finds it
module _ (h number : ℕ) where
  pub higher_low : (b : Bool) → number ≤ h → h ≡ cond b (max number h) h
  higher_low true l = omega arith
  higher_low false l = refl

  pub higher_yes : {b : Bool} → b ≡ true → h < number → number ≡ cond b (max number h) h
  higher_yes e l = rw e (omega arith)

  pub higher_no : {b : Bool} → b ≡ false → h ≡ cond b (max number h) h
  higher_no e = rw e refl

-- station j is another than k, and its label is below k's
abbrev pub lower : ℕ → Rows → ℕ → ℕ → Bool
lower n rows k j = not (eqb j k) && label_below (n - 1) (held rows j) (held rows k)

-- none of the first i stations shares the label of station k, and h is the highest of the top number and the numbers u of those below
pub record Searched (n : ℕ) (rows : Rows) (u : ℕ → ℕ) (top k i h : ℕ) : Type 0 where
  pub none : (q : ℕ) → q < i → other_agrees (held rows) (held rows k) k (n - 1) q ≡ false
  pub most : h ≡ highest i (lower n rows k) u top

module _ (n : ℕ) (rows : Rows) (u : ℕ → ℕ) (top k : ℕ) where
  abbrev m : ℕ
  m = n - 1

  pub searched_first : Searched n rows u top k 0 top
  unfolding highest
  searched_first = record { none = λ q l. absurd (omega arith); most = refl }

  module _ {i h : ℕ} (s : Searched n rows u top k i h) where
    -- station k itself is left out
    pub searched_own : i ≡ k → {h' : ℕ} → h' ≡ h → Searched n rows u top k (i + 1) h'
    unfolding highest
    searched_own e q = record {
      none = below_more _ _ s.none (left_no _ (ap not (eq-eqb i k e)));
      most = q ∙ s.most ∙ rw (add-one i, eq-eqb i k e) refl;
    }

    -- another, by where its label first differs
    module _ (d : i ≢ k) {p : ℕ} (e : p ≡ first_difference m (held rows i) (held rows k)) where
      agrees_is : agrees m (held rows i) (held rows k) ≡ leb m p
      agrees_is = agrees_upto m (held rows i) (held rows k) m (omega arith) ∙ ap (leb m) (sym e)

      pub apart_inside : p ≢ m → p < m
      apart_inside a = omega (arith, (difference_first m (held rows i) (held rows k)).upto)

      pub searched_other : p ≢ m → {h' : ℕ} → h' ≡ cond (below (held rows i p) (held rows k p)) (max (u i) h) h → Searched n rows u top k (i + 1) h'
      unfolding highest label_below
      searched_other a {h'} q =
          let l = apart_inside a in
          record {
            none = below_more _ _ s.none (right_no (not (eqb i k)) (agrees_is ∙ lt-leb m p l));
            most = q ∙ rw (add-one i, ne_eqb i k d, ← e, lt-ltb p m l) (ap (λ x. cond (below (held rows i p) (held rows k p)) (max (u i) x) x) s.most);
          }

      -- it has the very label
      pub slot_shared : i < n → p ≡ m → Slot.shared (u i) ≡ slot_in n rows u top k
      unfolding slot_of
      slot_shared l a =
          let f : first_from (suc m) 0 (other_agrees (held rows) (held rows k) k m) ≡ i = sym (first_is (suc m) _ i (omega arith) s.none
          (λ _. both (ap not (ne_eqb i k d)) (agrees_is ∙ le-leb m p (omega arith)))) in
          rw (f, le-leb i m (omega arith)) refl

    -- no station has it
    pub slot_after : 1 ≤ n → i ≡ n → Slot.after h ≡ slot_in n rows u top k
    unfolding slot_of
    slot_after l e =
        let f : first_from (suc m) 0 (other_agrees (held rows) (held rows k) k m) ≡ suc m = sym (first_is (suc m) _ (suc m) (omega arith)
        (λ q v. s.none q (omega arith)) (λ v. absurd (omega arith))) in
        let t : suc m ≡ i = omega arith in
        rw (f, lt-leb (suc m) m (omega arith), t) (ap Slot.after s.most)

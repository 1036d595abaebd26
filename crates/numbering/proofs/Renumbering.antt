-- What a loop over the calls needs of `renumber`: it does to the numbers what the definition asks for, and none grows past the count of those given.
use Prim.Native.Nat.{ℕ, zero, suc, ◌+◌, ◌-◌, ◌≤◌, ◌<◌, max}
use native.Mathlib.Omega.{arith}
use mathlib.Core.Path.{◌≡◌, refl, sym, ap, ap₂, ◌∙◌}
use mathlib.Core.Logic.{◌≢◌}
use mathlib.Core.Bool.{Bool, true, false, not, ◌&&◌, ◌||◌, cond}
use mathlib.Core.List.{List, ◌++◌, map}
use lib.ListN.{length, length-append, length-map, length-replicate, get_or, take, drop, replicate, get_or-append}
use lib.Seq.{length-take-le, get_or-take}
use lib.Dec.{eqb, leb}
use Rattle.basics.specs.Tests.{newest, first_from, All}
use Rattle.basics.proofs.Facts.{by_here, first_from_same, all_at, each_all, all_append, all_replicate, all_map}
use Rattle.label.specs.Labels.{Label, agrees, label_below, new_label, other_agrees}
use Rattle.rows.specs.Held.{held}
use Rattle.simulation.specs.Calls.{original}
use Rattle.simulation.specs.Machine.{Labelling, digits, stands, LabelStep, stay, snap, update, label_snap, pending_after, relabelled}
use Rattle.simulation.specs.Numbering.{Slot, number, shift, highest, slot_of, Renumbering, beside_only, placed, renumber}
use Rattle.simulation.proofs.Labellings.{here_yes, here_no, by_put}
use Rattle.simulation.proofs.Numbers.{bump_slow, highest_least}
use Rattle.arrays.specs.Planes as Planes
use Rattle.arrays.specs.Arrays.{Rows}
use Rattle.numbering.specs.Clauses.{slot_in, renumber_in, Renumbered, Counted}
use Rattle.numbering.proofs.Slots.{lower}

-- AS THE DEFINITION DOES

highest_same : (k : ℕ) (f g : ℕ → Bool) (u : ℕ → ℕ) (b : ℕ) → ((i : ℕ) → i < k → f i ≡ g i) → highest k f u b ≡ highest k g u b
unfolding highest
highest_same zero f g u b p = refl
highest_same (suc k) f g u b p = ap₂ (λ x h. cond x (max (u k) h) h) (p k (omega arith)) (highest_same k f g u b (λ i l. p i (omega arith)))

-- whatever label process k has itself, its slot is the same
slot_same : (m : ℕ) (w w' : ℕ → Label) (u : ℕ → ℕ) (top k : ℕ) (new : Label) → ((i : ℕ) → i < suc m → i ≢ k → w i ≡ w' i)
    → slot_of m w u top k new ≡ slot_of m w' u top k new
unfolding slot_of
slot_same m w w' u top k new s = ap₂ (λ i h. cond (leb i m) (Slot.shared (u i)) (Slot.after h))
    (first_from_same (suc m) 0 (other_agrees w new k m) (other_agrees w' new k m) (λ i l. other (λ a. agrees m a new) i (omega arith)))
    (highest_same (suc m) _ _ u top (other (λ a. label_below m a new)))
  where
    other : (f : Label → Bool) (i : ℕ) → i < suc m → (not (eqb i k) && f (w i)) ≡ (not (eqb i k) && f (w' i))
    other f i l = by_here (λ b. (not b && f (w i)) ≡ (not b && f (w' i))) k i (λ _. refl) (λ d. ap f (s i l d))

-- the rows hold the pending labels after a snap by station k of n, and z was the newest before it
pub record Snapped (n : ℕ) (l : Labelling Label) (rows : Rows) (z k : ℕ) : Type 0 where
  pub newest : z ≡ newest n (stands (digits original n) l)
  pub others : (i : ℕ) → i < n → i ≢ k → held rows i ≡ l true i
  pub own : k ≢ z → held rows k ≡ new_label (n - 1) 1 (l false) z k

module _ (n : ℕ) (l : Labelling Label) (rows : Rows) (z : ℕ) where
  -- so they do if they hold what the machine makes pending
  pub snapped_after : (k : ℕ) → k < n → z ≡ newest n (stands (digits original n) l)
      → ((i : ℕ) → i < n → held rows i ≡ relabelled n (digits original n) l (snap k) true i) → Snapped n l rows z k
  unfolding relabelled pending_after
  snapped_after k h e after = record {
    newest = e;
    others = λ i u d. after i u ∙ rw (here_no d) refl;
    own = λ d. after k h ∙ rw (here_yes k, ← e, here_no d) refl;
  }

  pub renumber_is : (N : Labelling ℕ) (w : LabelStep) → 1 ≤ n → ((k : ℕ) → w ≡ snap k → Snapped n l rows z k)
      → renumber n (digits original n) (slot_of (n - 1)) l N w ≡ renumber_in n rows z N w
  unfolding renumber
  renumber_is N stay h s = refl
  renumber_is N (snap k) h s =
      let t = s k refl in
      rw (← t.newest) (by_here
      (λ b. cond b (beside_only N) (placed N k (slot_of (n - 1) (l true) (N true) (N false z) k (new_label (n - 1) 1 (l false) z k)))
      ≡ cond b (beside_only N) (placed N k (slot_in n rows (N true) (N false z) k))) z k
      (λ _. refl)
      (λ d. ap (placed N k) (slot_same (n - 1) (l true) (held rows) (N true) (N false z) k _ (λ i u v. sym (t.others i (omega arith) v))
      ∙ ap (slot_of (n - 1) (held rows) (N true) (N false z) k) (sym (t.own d)))))
  renumber_is N (update k) h s = refl

-- NUMBERS UP TO b

shift_slow : (p : Slot) (x : ℕ) → shift p x ≤ suc x
shift_slow (Slot.shared v) x = omega arith
shift_slow (Slot.after c) x = bump_slow c x

-- no number above b comes to one above b'
record Low (e : Renumbering) (b b' : ℕ) : Type 0 where
  pub shift : (x : ℕ) → x ≤ b → e.shift x ≤ b'
  pub beside : (x : Bool) (i : ℕ) → e.beside x i ≤ b'
  pub number : e.number ≤ b'

low_only : {N : Labelling ℕ} {b b' : ℕ} → b ≤ b' → ((x : Bool) (i : ℕ) → N x i ≤ b) → Low (beside_only N) b b'
low_only l h = record { shift = λ x u. omega arith; beside = λ x i. omega (arith, h x i); number = omega arith }

module _ {N : Labelling ℕ} {b : ℕ} (low : (x : Bool) (i : ℕ) → N x i ≤ b) (n : ℕ) (rows : Rows) (z : ℕ) where
  pub slot_low : (k : ℕ) {p : Slot} → p ≡ slot_in n rows (N true) (N false z) k → number p ≤ suc b
  unfolding slot_of
  slot_low k e = rw e (go (leb i (n - 1)))
    where
      i : ℕ
      i = first_from (suc (n - 1)) 0 (other_agrees (held rows) (held rows k) k (n - 1))

      go : (x : Bool) → number (cond x (Slot.shared (N true i)) (Slot.after (highest (suc (n - 1)) (lower n rows k) (N true) (N false z)))) ≤ suc b
      go true = omega (arith, low true i)
      go false = omega (arith, highest_least (lower n rows k) (N true) (N false z) (suc (n - 1)) b (low false z) (λ j _ _. low true j))

  low_after : (w : LabelStep) → Low (renumber_in n rows z N w) b (b + label_snap w)
  low_after stay = low_only (omega arith) low
  low_after (snap k) = go (eqb k z)
    where
      p : Slot
      p = slot_in n rows (N true) (N false z) k

      go : (x : Bool) → Low (cond x (beside_only N) (placed N k p)) b (b + 1)
      go true = low_only (omega arith) low
      go false = record {
        shift = λ x h. omega (arith, shift_slow p x);
        beside = λ x i. by_put (λ d. cond d (number p) (shift p (N x i)) ≤ b + 1) x k i
            (λ _. omega (arith, slot_low k refl)) (omega (arith, shift_slow p (N x i), low x i));
        number = omega (arith, slot_low k refl);
      }
  low_after (update k) = low_only (omega arith) (λ x i. low (x || eqb i k) i)

-- no number grows past the count
pub counted_kept : {count : ℕ} {numbers : Rows} {list : List ℕ} → Counted count numbers list
    → (n : ℕ) (rows : Rows) (z : ℕ) (w : LabelStep) {numbers' : Rows} {count' : ℕ} {list' : List ℕ}
    → Renumbered (renumber_in n rows z (Planes.beside numbers) w) (label_snap w) count list numbers' count' list' → count + label_snap w ≤ length list
    → Counted count' numbers' list'
counted_kept {count} {numbers} {list} s n rows z w {numbers'} {count'} {list'} r h = record {
  beside = λ x i. omega (arith, ap (λ N. N x i) r.beside, l.beside x i, r.counted);
  given = λ i u. omega (
    arith,
    r.counted,
    ap (λ t. get_or t i 0) r.given,
    get_or-append front (drop (count + ℓ) list) 0 i (omega (arith, front_length, r.counted)),
    all_at upto front 0 each i (omega (arith, front_length, r.counted)),
  );
}
  where
    ℓ : ℕ
    ℓ = label_snap w

    e : Renumbering
    e = renumber_in n rows z (Planes.beside numbers) w

    l : Low e count (count + ℓ)
    l = low_after s.beside n rows z w

    upto : ℕ → Type 0
    upto v = v ≤ count + ℓ

    old : List ℕ
    old = take count list

    front : List ℕ
    front = map e.shift old ++ replicate ℓ e.number

    old_length : length old ≡ count
    old_length = length-take-le count list (omega arith)

    front_length : length front ≡ count + ℓ
    front_length = length-append (map e.shift old) (replicate ℓ e.number)
        ∙ ap₂ ◌+◌ (length-map old e.shift ∙ old_length) (length-replicate ℓ e.number)

    each : All upto front
    each = all_append upto (map e.shift old) (replicate ℓ e.number)
        (all_map (λ v. v ≤ count) upto e.shift l.shift old
        (each_all (λ v. v ≤ count) old 0 (λ i u. rw (get_or-take count list i 0 (omega (arith, old_length))) (s.given i (omega (arith, old_length))))))
        (all_replicate upto ℓ e.number (λ _. l.number))

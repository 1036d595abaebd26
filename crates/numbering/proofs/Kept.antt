-- Numbers as they are kept: a list whose front goes through a function and gets one more behind it, and the two planes of the stations.
use Prim.Native.Nat.{ℕ, suc, ◌+◌, ◌<◌}
use native.Mathlib.Numerals.{add-one}
use native.Mathlib.Nat.{add-zero}
use native.Mathlib.Omega.{arith}
use mathlib.Core.Path.{◌≡◌, refl, sym, ap, ap₂, subst, ◌∙◌}
use mathlib.Core.Logic.{◌≢◌}
use mathlib.Core.Bool.{true, false}
use mathlib.Core.List.{List, [], ◌∷◌, ◌++◌, map, map-id, map-append, append-nil}
use lib.ListN.{length, length-map, get_or, take, drop, set, drop_of_length-le, take-append-drop, get_or-map}
use lib.Seq.{length-take-le, take-suc, drop-cons, append_snoc, take_all, set_at, get_or_at}
use borrow.Author.Tests.{eq-eqb, ne_eqb}
use Rattle.simulation.specs.Machine.{Labelling, put, snap}
use Rattle.simulation.specs.Numbering.{through, bump, Slot, number, shift, beside_only, placed}
use Rattle.arrays.specs.Arrays.{Rows}
use Rattle.arrays.specs.Sizes.{Sized}
use Rattle.arrays.specs.Planes as Planes
use Rattle.arrays.proofs.Planes.{alike, by_planes}
use Rattle.numbering.specs.Clauses.{slot_for, slot_in, renumber_in, Renumbered}
use Rattle.numbering.specs.declared.Slot as Declared
use Rattle.numbering.specs.declared.Slot.TheVariants.{Shared, After}

-- f is done to the first i of a list
abbrev pub mapped : (ℕ → ℕ) → ℕ → List ℕ → List ℕ
mapped f i l = map f (take i l) ++ drop i l

mapped_same : (i : ℕ) (l : List ℕ) → mapped (λ x. x) i l ≡ l
mapped_same i l = ap (λ t. t ++ drop i l) (map-id (take i l)) ∙ take-append-drop i l

mapped_whole : (f : ℕ → ℕ) (l : List ℕ) (n : ℕ) → length l ≡ n → mapped f n l ≡ map f l
mapped_whole f l n e = rw (take_all n l (omega arith), drop_of_length-le l {i = n} (omega arith)) (append-nil (map f l))

module _ (f : ℕ → ℕ) (l : List ℕ) (i : ℕ) (h : i < length l) where
  front : length (map f (take i l)) ≡ i
  front = length-map (take i l) f ∙ length-take-le i l (omega arith)

  split : mapped f i l ≡ map f (take i l) ++ get_or l i 0 ∷ drop (suc i) l
  split = ap (λ t. map f (take i l) ++ t) (drop-cons l i 0 h)

  -- to the one behind them nothing is done yet
  pub mapped_at : get_or (mapped f i l) i 0 ≡ get_or l i 0
  mapped_at = ap (λ t. get_or t i 0) split ∙ get_or_at (map f (take i l)) (get_or l i 0) (drop (suc i) l) 0 i front

  -- another takes its place
  stored : (v : ℕ) → set (mapped f i l) i v ≡ map f (take i l) ++ v ∷ drop (suc i) l
  stored v = ap (λ t. set t i v) split ∙ set_at (map f (take i l)) (get_or l i 0) (drop (suc i) l) v i front

  -- it goes through f
  pub mapped_more : set (mapped f i l) i (f (get_or l i 0)) ≡ mapped f (i + 1) l
  mapped_more = stored (f (get_or l i 0))
      ∙ rw (add-one i, take-suc l i 0 h, map-append f (take i l)) (sym (append_snoc (map f (take i l)) (f (get_or l i 0)) (drop (suc i) l)))

  -- as one more is given
  given_more : (v : ℕ) → set (mapped f i l) i v ≡ (map f (take i l) ++ v ∷ []) ++ drop (i + 1) l
  given_more v = stored v ∙ rw (add-one i) (sym (append_snoc (map f (take i l)) v (drop (suc i) l)))

-- THE PLANES

-- both go through f
pub planes_mapped : (f : ℕ → ℕ) → f 0 ≡ 0 → (numbers : Rows) → Sized 2 32 numbers → {current pending : List ℕ}
    → current ≡ mapped f 32 (get_or numbers 0 []) → pending ≡ mapped f 32 (get_or (set numbers 0 current) 1 [])
    → Planes.beside (set (set numbers 0 current) 1 pending) ≡ through f (Planes.beside numbers)
planes_mapped f z numbers g {current} {pending} = by_planes
    (λ xs. current ≡ mapped f 32 (get_or xs 0 []) → pending ≡ mapped f 32 (get_or (set xs 0 current) 1 [])
    → Planes.beside (set (set xs 0 current) 1 pending) ≡ through f (Planes.beside xs))
    (λ a b u v p q. alike (λ i. along a i u p) (λ i. along b i v q)) numbers g
  where
    along : (l : List ℕ) {l' : List ℕ} (i : ℕ) → length l ≡ 32 → l' ≡ mapped f 32 l → get_or l' i 0 ≡ f (get_or l i 0)
    along l i e d = ap (λ t. get_or t i 0) (d ∙ mapped_whole f l 32 e) ∙ ap (get_or (map f l) i) (sym z) ∙ get_or-map f l i 0

-- A STEP OF THE LABELS

-- no number is given
pub none_given : {N : Labelling ℕ} {count : ℕ} {list : List ℕ} {numbers' : Rows} → Planes.beside numbers' ≡ N
    → Renumbered (beside_only N) 0 count list numbers' count list
none_given {count = count} {list = list} e = record {
  beside = e;
  counted = omega arith;
  given = rw (add-zero count, append-nil (map (λ x. x) (take count list))) (sym (mapped_same count list));
}

module _ {count : ℕ} {list : List ℕ} (h : count < length list) (N : Labelling ℕ) where
  -- a station gets the number of a slot
  slot_given : (k : ℕ) (p : Slot) {numbers' : Rows} {list' : List ℕ} → Planes.beside numbers' ≡ put (through (shift p) N) k (number p)
      → list' ≡ set (mapped (shift p) count list) count (number p) → Renumbered (placed N k p) 1 count list numbers' (count + 1) list'
  slot_given k p e d = record { beside = e; counted = refl; given = d ∙ given_more (shift p) list count h (number p) }

  pub shared_given : (k : ℕ) {v : ℕ} {s : Declared.Slot} {numbers' : Rows} {list' : List ℕ} → s ≡ Shared v → Planes.beside numbers' ≡ put N k v
      → list' ≡ set list count v → Renumbered (placed N k (slot_for s)) 1 count list numbers' (count + 1) list'
  shared_given k {v} {s} {numbers'} {list'} e p q = subst (λ t. Renumbered (placed N k (slot_for t)) 1 count list numbers' (count + 1) list') (sym e)
      (slot_given k (Slot.shared v) p (q ∙ ap (λ l. set l count v) (sym (mapped_same count list))))

  pub after_given : (k : ℕ) {c : ℕ} {s : Declared.Slot} {M : Labelling ℕ} {numbers' : Rows} {list₁ list' : List ℕ} → s ≡ After c
      → M ≡ through (bump c) N → Planes.beside numbers' ≡ put M k (c + 1)
      → list₁ ≡ mapped (bump c) count list → list' ≡ set list₁ count (c + 1) → Renumbered (placed N k (slot_for s)) 1 count list numbers' (count + 1) list'
  after_given k {c} {s} {M} {numbers'} {list₁} {list'} e p q u v =
      subst (λ t. Renumbered (placed N k (slot_for t)) 1 count list numbers' (count + 1) list') (sym e)
      (slot_given k (Slot.after c) (q ∙ ap₂ (λ M x. put M k x) p (add-one c)) (v ∙ ap₂ (λ l x. set l count x) u (add-one c)))

  -- a snap for a label by station k of n, where z is the newest: by the newest itself, and by another
  module _ (n : ℕ) (rows : Rows) (z k : ℕ) {numbers' : Rows} where
    pub newest_snapped : k ≡ z → Planes.beside numbers' ≡ N
        → Renumbered (renumber_in n rows z N (snap k)) 1 count list numbers' (count + 1) (set list count 0)
    newest_snapped e d = rw (eq-eqb k z e) (record {
      beside = d;
      counted = refl;
      given = ap (λ l. set l count 0) (sym (mapped_same count list)) ∙ given_more (λ x. x) list count h 0;
    })

    pub other_snapped : {p : Slot} {list' : List ℕ} → k ≢ z → p ≡ slot_in n rows (N true) (N false z) k
        → Renumbered (placed N k p) 1 count list numbers' (count + 1) list'
        → Renumbered (renumber_in n rows z N (snap k)) 1 count list numbers' (count + 1) list'
    other_snapped d e r = rw (ne_eqb k z d, ← e) r

-- A station copies its pending entry to its current one: the invariant stays, with the newest station and label that there are then.
use mathlib.Core.Path.{◌≡◌, refl, sym, ◌∙◌, ap}
use mathlib.Core.Logic.Dec
use mathlib.Core.Logic.{◌≢◌, inl, inr, by_cases}
use mathlib.Core.Bool.{true, false, ◌||◌}
use Prim.Native.Nat.{ℕ, ◌+◌, ◌≤◌, ◌<◌}
use native.Mathlib.Decide.{ℕ_discrete, dec_le, dec_lt}
use native.Mathlib.Omega.{arith}
use lib.Dec.{eqb}
use Rattle.label.proofs.Digits.{Tri, lt, eq, gt, compare, below_ne, below_next}
use Rattle.label.specs.Labels.{Label, next_label}
use Rattle.label.proofs.Order.{Agree, Within, Lt, Le, le_not_gt, next_label_before, next_label_at, next_label_behind, next_label_reach, next_label_order}
use Rattle.label.proofs.Order.{next_label_again}
use Rattle.label.specs.Labels.{others}
use Rattle.label.proofs.Choice.{all, others_grow, all_grow, one_more}
use Rattle.basics.proofs.Facts.{by_here}
use Rattle.simulation.specs.Machine.{Labelling, copy}
use Rattle.simulation.proofs.Labellings.{here_yes}
use Rattle.simulation.proofs.Sync.{number_lt, number_label, synced_copy, Newest}
use Rattle.simulation.proofs.Invariant.{Place, behind, ahead, Inv, le_top, to_top, number_behind, number_ahead, top_within}

module _ {m : ℕ} {L : Labelling Label} {N : Labelling ℕ} {z : ℕ} {top : Label} (inv : Inv m L N z top) (k : ℕ) (lk : k ≤ m) where
  wt : Within 0 top
  wt = top_within inv

  -- station k is the newest then, if its pending number is as high as all current ones and it is the last that has it
  newest_then : ((i : ℕ) → i ≤ m → N false i ≤ N true k) → ((i : ℕ) → i ≤ m → N false i ≡ N true k → i ≤ k) → Newest m (copy N k false) k
  newest_then f g = record {
    station = lk;
    highest = λ i l. rw (here_yes k) (by_here (λ b. N b i ≤ N true k) k i (λ e. rw e (omega arith)) (λ _. f i l));
    last = λ i l. rw (here_yes k) (by_here (λ b. N b i ≡ N true k → i ≤ k) k i (λ e _. omega arith) (λ _. g i l));
  }

  -- ---- a label at or below the newest: the newest label stays
  module _ (le : Le m (L true k) top) (iv : (q : ℕ) → Agree q (L false k) top → Agree q (L true k) top) where
    -- agreement only grows
    grow : (q j : ℕ) → Agree q (L false j) top → Agree q (L (eqb j k) j) top
    grow q j s = by_here (λ b. Agree q (L b j) top) k j (λ e. rw e (iv q (rw e at s))) (λ _. s)

    -- whichever station is then the newest
    update_low : (y : ℕ) → Newest m (copy N k false) y → L (eqb y k) y ≡ top → L true y ≡ top → N true y ≡ N (eqb y k) y
        → Inv m (copy L k) (copy N k) y top
    update_low y a b c d = record {
      newest = a;
      current = b;
      digits = λ x i l. inv.digits (x || eqb i k) i l;
      pending = c;
      pending# = d;
      sync = synced_copy k inv.sync;
      place = λ i l. by_here (λ b. Place m (copy L k false) top i (L b i) (L true i)) k i
          (λ e. behind (rw e le) (λ q s. s))
          (λ _. still i (inv.place i l));
      ring = λ i q l b s h. by_here (λ d. Agree q (L d i) top) k i (λ _. s) (λ _. inv.ring i q l b s h);
      full = λ q b ne. omega (arith, inv.full q b ne, all_grow m (L false) top (copy L k false) top q (λ j l. grow q j));
    }
      where
        still : (i : ℕ) → Place m (L false) top i (L false i) (L true i) → Place m (copy L k false) top i (L false i) (L true i)
        still i (behind h f) = behind h f
        still i (ahead q b e h) = ahead q b e (omega (arith, h, others_grow m (L false) top (copy L k false) top i q q (λ j l. grow q j)))

    -- the newest station stays, or station k has the newest label too and is the last that has it
    stays : ¬ ((N true k ≡ N false z) × (z < k)) → Inv m (copy L k) (copy N k) z top
    stays no_tie = update_low z new (by_here (λ b. L b z ≡ top) k z (λ _. inv.pending) (λ _. inv.current)) inv.pending (inv.pending# ∙ sym still)
      where
        still : N (eqb z k) z ≡ N false z
        still = by_here (λ b. N b z ≡ N false z) k z (λ _. inv.pending#) (λ _. refl)

        new : Newest m (copy N k false) z
        new = record {
          station = inv.newest.station;
          highest = λ i l. rw still (by_here (λ b. N b i ≤ N false z) k i (λ e. rw e (number_behind inv k lk le)) (λ _. inv.newest.highest i l));
          last = λ i l. rw still (by_here (λ b. N b i ≡ N false z → i ≤ z) k i
              (λ e. rw e (λ h. by_cases (dec_lt z k) (λ c. absurd (no_tie (h, c))) (λ c. omega arith)))
              (λ _. inv.newest.last i l));
        }

    takes_over : (N true k ≡ N false z) × (z < k) → Inv m (copy L k) (copy N k) k top
    takes_over tie = update_low k new (rw (here_yes k) top_too) top_too (rw (here_yes k))
      where
        top_too : L true k ≡ top
        top_too = number_label (to_top inv true k lk (omega arith)) tie.0

        new : Newest m (copy N k false) k
        new = newest_then (λ i l. omega (arith, inv.newest.highest i l)) (λ i l h. omega (arith, inv.newest.last i l (h ∙ tie.0)))

  -- ---- a label above the newest: it is the newest then
  module _ (p : ℕ) (b : p < m) (e : L true k ≡ next_label 1 top p) (enough : m ≤ others m (L false) top k p + p) where
    -- up to p the two newest labels are alike; no current label agrees with the new one beyond
    to : {q : ℕ} {a : Label} → q ≤ p → Agree q a top → Agree q a (next_label 1 top p)
    to l s r h = s r h ∙ sym (next_label_before 1 top (omega arith))

    from : {q : ℕ} {a : Label} → q ≤ p → Agree q a (next_label 1 top p) → Agree q a top
    from l s r h = s r h ∙ next_label_before 1 top (omega arith)

    alone : (i q : ℕ) → i ≤ m → p < q → ¬ Agree q (L false i) (next_label 1 top p)
    alone i q l h s = le_not_gt (le_top inv i l) (next_label_reach 1 top wt b (λ r u. s r (omega arith)))

    -- a pending label that agrees with the new one beyond p is the new one
    alike : (i q : ℕ) → i ≤ m → p < q → Agree q (L true i) (next_label 1 top p) → L true i ≡ next_label 1 top p
    alike i q l h s = go (inv.place i l)
      where
        go : Place m (L false) top i (L false i) (L true i) → L true i ≡ next_label 1 top p
        go (behind f _) = absurd (le_not_gt f (next_label_reach 1 top wt b (λ r u. s r (omega arith))))
        go (ahead r d f _) = at (compare r p)
          where
            at : Tri (r < p) (r ≡ p) (p < r) → L true i ≡ next_label 1 top p
            at (lt u) = let d = s r (omega arith) in absurd (below_ne (below_next (wt r).1) (cc (next_label_before 1 top u, next_label_at 1 top r)))
            at (eq u) = rw (← u) f
            at (gt u) = let d = s p (omega arith) in absurd (below_ne (below_next (wt p).1) (cc (next_label_before 1 top u, next_label_at 1 top p)))

    rise : {q : ℕ} → q ≤ p → (j : ℕ) → Agree q (L false j) top → Agree q (L (eqb j k) j) (next_label 1 top p)
    rise {q} l j s = by_here (λ b. Agree q (L b j) (next_label 1 top p)) k j (λ d r _. rw (d, e)) (λ _. to l s)

    high : Inv m (copy L k) (copy N k) k (next_label 1 top p)
    high = record {
      newest = newest_then (λ i l. omega (arith, inv.newest.highest i l, over)) (λ i l h. absurd (omega (arith, inv.newest.highest i l, over)));
      current = rw (here_yes k) e;
      digits = λ x i l. inv.digits (x || eqb i k) i l;
      pending = e;
      pending# = rw (here_yes k);
      sync = synced_copy k inv.sync;
      place = λ i l. by_here (λ b. Place m (copy L k false) (next_label 1 top p) i (L b i) (L true i)) k i
          (λ d. behind (inr (rw d e)) (λ q _ r _. rw (d, e)))
          (λ ne. moved i l ne (inv.place i l));
      ring = λ i q l c s h. by_here (λ d. Agree q (L d i) (next_label 1 top p)) k i (λ _. s) (λ _. by_cases (dec_le q p)
          (λ u. to u (inv.ring i q l c (from u s) h))
          (λ u. let f : L true i q ≡ 1 = ap (λ x. x q) (alike i q l (omega arith) s) ∙ next_label_behind 1 top (omega arith) in absurd (omega arith)));
      full = λ q c ne. filled q c ne (compare q p);
    }
      where
        new : Label
        new = next_label 1 top p

        over : N false z < N true k
        over = number_ahead inv k p lk b e

        kept : (i q : ℕ) → i ≤ m → (q ≤ p → Agree q (L false i) top → Agree q (L true i) top) → Agree q (L false i) new → Agree q (L true i) new
        kept i q l f s = by_cases (dec_le q p) (λ h. to h (f h (from h s))) (λ h. absurd (alone i q l (omega arith) s))

        moved : (i : ℕ) → i ≤ m → i ≢ k → Place m (L false) top i (L false i) (L true i) → Place m (copy L k false) new i (L false i) (L true i)
        moved i l ne (behind f g) = behind (inl (rw e at below)) (λ q. kept i q l (λ _. g q))
          where
            below : Lt m (L true i) (L true k)
            below = number_lt (inv.sync true true i k l lk ne) (omega (arith, over, number_behind inv i l f))
        moved i l ne (ahead q c f g) = at (compare q p)
          where
            at : Tri (q < p) (q ≡ p) (p < q) → Place m (copy L k false) new i (L false i) (L true i)
            at (lt h) = ahead q c (f ∙ sym (next_label_again 1 top h))
                (omega (arith, g, others_grow m (L false) top (copy L k false) new i q q (λ j _. rise (omega arith) j)))
            at (eq h) = behind (inr (rw (← h) f)) (λ _ _ r _. rw (f, h))
            at (gt h) = behind (inl (rw f (next_label_order 1 top wt h c))) (λ r. kept i r l (λ u _ x v. rw f (next_label_before 1 top (omega arith))))

        filled : (q : ℕ) → q < m → new q ≢ 1 → Tri (q < p) (q ≡ p) (p < q) → m < all m (copy L k false) new q + q
        filled q c ne (lt h) = omega (
          arith,
          inv.full q c (rw (next_label_before 1 top h) at ne),
          all_grow m (L false) top (copy L k false) new q (λ j _. rise (omega arith) j),
        )
        filled q c ne (eq h) = rw h (omega (
          arith,
          enough,
          one_more m (L false) top (copy L k false) new k p lk (λ r u. rw (here_yes k, e)) (λ j _. rise (omega arith) j),
        ))
        filled q c ne (gt h) = absurd (ne (next_label_behind 1 top h))

  pub update_keeps : (y : ℕ) × (top' : Label) × Inv m (copy L k) (copy N k) y top'
  update_keeps = go (inv.place k lk)
    where
      go : Place m (L false) top k (L false k) (L true k) → (y : ℕ) × (top' : Label) × Inv m (copy L k) (copy N k) y top'
      go (behind f g) = by_cases (Dec.and (ℕ_discrete (N true k) (N false z)) (dec_lt z k))
          (λ tie. (k, top, takes_over f g tie))
          (λ no_tie. (z, top, stays f g no_tie))
      go (ahead p b e h) = (k, next_label 1 top p, high p b e h)

-- Labels that stand to each other as numbers do, and the newest station.
use mathlib.Core.Path.{◌≡◌, refl, sym, ◌∙◌, ap}
use mathlib.Core.Logic.{◌≢◌, inl, inr, by_cases}
use mathlib.Core.Bool.{Bool, true, false, not, cond, ◌||◌}
use Prim.Native.Nat.{ℕ, zero, suc, ◌≤◌, ◌<◌}
use native.Mathlib.Decide.{ℕ_discrete, dec_lt}
use native.Mathlib.Omega.{arith}
use Rattle.label.proofs.Digits.{Tri, lt, eq, gt, compare}
use Rattle.label.specs.Labels.{Label, below, label_before}
use Rattle.label.proofs.Order.{Agree, Lt, Lt_irrefl, Lt_asym, Le, le_not_gt, before_less, before_more, before_same}
use Rattle.simulation.proofs.Labellings.{by_put}
use lib.Dec.{eqb, ltb}
use Rattle.simulation.specs.Machine.{Labelling, put, copy, number_before}
use Rattle.basics.specs.Tests.{every, newest}
use Rattle.basics.proofs.Facts.{tf, every_all, every_at, First, first}
use borrow.Author.Tests.{ltb-false, lt-ltb, le-ltb, eq-eqb, ne_eqb, not-true}

-- ---- the test "stands before" on numbers
pub number_less : (u i v j : ℕ) → u < v → number_before u i v j ≡ true
unfolding number_before
number_less u i v j h = rw (lt-ltb u v h) refl

pub number_more : (u i v j : ℕ) → v < u → number_before u i v j ≡ false
unfolding number_before
number_more u i v j h = rw (le-ltb u v (omega arith), ne_eqb u v (λ e. omega arith)) refl

pub number_same : (u i j : ℕ) → number_before u i u j ≡ ltb i j
unfolding number_before
number_same u i j = rw (le-ltb u u (omega arith), eq-eqb u u refl) refl

-- ---- labels a, b stand to each other as their numbers u, v
pub data Sync (m : ℕ) (a : Label) (u : ℕ) (b : Label) (v : ℕ) : Type 0 where
  less : Lt m a b → u < v → Sync m a u b v
  same : a ≡ b → u ≡ v → Sync m a u b v
  more : Lt m b a → v < u → Sync m a u b v

module _ {m : ℕ} {a b : Label} {u v : ℕ} where
  pub flip : Sync m a u b v → Sync m b v a u
  flip (less l h) = more l h
  flip (same e h) = same (sym e) (sym h)
  flip (more l h) = less l h

  pub lt_number : Sync m a u b v → Lt m a b → u < v
  lt_number (less _ h) l = h
  lt_number (same e _) l = absurd (Lt_irrefl (rw e at l))
  lt_number (more r _) l = absurd (Lt_asym l r)

  pub le_number : Sync m a u b v → Le m a b → u ≤ v
  le_number (less _ h) l = omega arith
  le_number (same _ h) l = omega arith
  le_number (more r _) l = absurd (le_not_gt l r)

  pub number_lt : Sync m a u b v → u < v → Lt m a b
  number_lt (less l _) h = l
  number_lt (same _ k) h = absurd (omega arith)
  number_lt (more _ k) h = absurd (omega arith)

  pub number_label : Sync m a u b v → u ≡ v → a ≡ b
  number_label (less _ k) h = absurd (omega arith)
  number_label (same e _) h = e
  number_label (more _ k) h = absurd (omega arith)

  pub number_le : Sync m a u b v → u ≤ v → Le m a b
  number_le (less l _) h = inl l
  number_le (same e _) h = inr e
  number_le (more _ k) h = absurd (omega arith)

  -- so the two tests "stands before" agree
  pub sync_before : (i j : ℕ) → Sync m a u b v → label_before m a i b j ≡ number_before u i v j
  sync_before i j (less l h) = before_less m a i b j l ∙ sym (number_less u i v j h)
  sync_before i j (same e h) = rw (e, h) (before_same m b i j ∙ sym (number_same v i j))
  sync_before i j (more l h) = before_more m a i b j l ∙ sym (number_more u i v j h)

-- any two stations have labels and numbers in step
abbrev pub Synced : (m : ℕ) → Labelling Label → Labelling ℕ → Type 0
Synced m L N = (x y : Bool) (i j : ℕ) → i ≤ m → j ≤ m → i ≢ j → Sync m (L x i) (N x i) (L y j) (N y j)

-- which no ring of three labels allows, with equal digits before p and 3, 4, 5 there (the paper's I, by its Lemma 4.2)
pub no_ring_lem : {m : ℕ} {L : Labelling Label} {N : Labelling ℕ} → Synced m L N → (x y w : Bool) (i j l p : ℕ) → i ≤ m → j ≤ m → l ≤ m
    → i ≢ j → j ≢ l → l ≢ i → p < m → Agree p (L x i) (L y j) → Agree p (L y j) (L w l) → L x i p ≡ 3 → L y j p ≡ 4 → L w l p ≡ 5 → ⊥
no_ring_lem sync x y w i j l p bi bj bl ij jl li b s t three four five = omega (
  arith,
  lt_number (sync x y i j bi bj ij) (record { at = p; inside = b; same = s; below = rw (three, four) (record { fact = unfold below in refl }) }),
  lt_number (sync y w j l bj bl jl) (record { at = p; inside = b; same = t; below = rw (four, five) (record { fact = unfold below in refl }) }),
  lt_number (sync w x l i bl bi li) (record {
    at = p;
    inside = b;
    same = λ q h. sym (s q h ∙ t q h);
    below = rw (five, three)
        (record { fact = unfold below in refl });
  }),
)

-- ---- a renumbering that keeps the order
abbrev pub Rising : (ℕ → ℕ) → Type 0
Rising g = (x y : ℕ) → x < y → g x < g y

pub rising_before : {g : ℕ → ℕ} → Rising g → (u i v j : ℕ) → number_before u i v j ≡ number_before (g u) i (g v) j
rising_before {g} r u i v j = go (compare u v)
  where
    go : Tri (u < v) (u ≡ v) (v < u) → number_before u i v j ≡ number_before (g u) i (g v) j
    go (lt h) = number_less u i v j h ∙ sym (number_less (g u) i (g v) j (r u v h))
    go (eq e) = rw e (number_same v i j ∙ sym (number_same (g v) i j))
    go (gt h) = number_more u i v j h ∙ sym (number_more (g u) i (g v) j (r v u h))

pub rising_le : {g : ℕ → ℕ} → Rising g → (x y : ℕ) → x ≤ y → g x ≤ g y
rising_le r x y h = by_cases (ℕ_discrete x y) (λ e. rw e (omega arith)) (λ ne. let k = r x y (omega arith) in omega arith)

pub sync_map : {m : ℕ} {a b : Label} {u v : ℕ} (g : ℕ → ℕ) → Rising g → Sync m a u b v → Sync m a (g u) b (g v)
sync_map g r (less l h) = less l (r _ _ h)
sync_map g r (same e h) = same e (ap g h)
sync_map g r (more l h) = more l (r _ _ h)

pub synced_map : {m : ℕ} {L : Labelling Label} {N : Labelling ℕ} (g : ℕ → ℕ) → Rising g → Synced m L N → Synced m L (λ x j. g (N x j))
synced_map g r s x y i j li lj ne = sync_map g r (s x y i j li lj ne)

-- ---- labels stay in step when station k copies its own, and when it puts down one that is in step with those of the others
pub synced_copy : {m : ℕ} {L : Labelling Label} {N : Labelling ℕ} (k : ℕ) → Synced m L N → Synced m (copy L k) (copy N k)
synced_copy k s x y i j = s (x || eqb i k) (y || eqb j k) i j

pub synced_put : {m : ℕ} {L : Labelling Label} {N : Labelling ℕ} (k : ℕ) (a : Label) (u : ℕ) → Synced m L N
    → ((y : Bool) (j : ℕ) → j ≤ m → j ≢ k → Sync m (L y j) (N y j) a u) → Synced m (put L k a) (put N k u)
synced_put {m} {L} {N} k a u s new x y i j li lj ne =
    by_put (λ b. Sync m (cond b a (L x i)) (cond b u (N x i)) (put L k a y j) (put N k u y j)) x k i
    (λ e. by_put (λ b. Sync m a u (cond b a (L y j)) (cond b u (N y j))) y k j (λ f. absurd (ne (e ∙ sym f))) (flip (new y j lj (λ f. ne (e ∙ sym f)))))
    (by_put (λ b. Sync m (L x i) (N x i) (cond b a (L y j)) (cond b u (N y j))) y k j (λ f. new x i li (λ e. ne (e ∙ sym f))) (s x y i j li lj ne))

-- ---- station z has the highest number, and is the last of those that have it
pub record Newest (m : ℕ) (T : ℕ → ℕ) (z : ℕ) : Type 0 where
  pub station : z ≤ m
  pub highest : (i : ℕ) → i ≤ m → T i ≤ T z
  pub last : (i : ℕ) → i ≤ m → T i ≡ T z → i ≤ z

pub newest_unique : {m : ℕ} {T : ℕ → ℕ} {y z : ℕ} → Newest m T y → Newest m T z → y ≡ z
newest_unique {m} {T} {y} {z} a b =
    let e : T y ≡ T z = omega (arith, a.highest z b.station, b.highest y a.station) in
    omega (arith, a.last z b.station (sym e), b.last y a.station e)

pub newest_map : {m : ℕ} {T : ℕ → ℕ} {z : ℕ} (g : ℕ → ℕ) → Rising g → Newest m T z → Newest m (λ j. g (T j)) z
newest_map {m} {T} {z} g r a = record {
  station = a.station;
  highest = λ i l. rising_le r _ _ (a.highest i l);
  last = λ i l e. by_cases (dec_lt (T i) (T z))
      (λ h. let k = r _ _ h in absurd (omega arith))
      (λ h. a.last i l (omega (arith, a.highest i l)));
}

-- there is one
pub newest_exists : (T : ℕ → ℕ) (m : ℕ) → (z : ℕ) × Newest m T z
newest_exists T zero = (
  0,
  record {
    station = omega arith;
    highest = λ i l. let e : i ≡ 0 = omega arith in rw e (omega arith);
    last = λ i l e. omega arith;
  },
)
newest_exists T (suc m) = go (newest_exists T m)
  where
    go : (z : ℕ) × Newest m T z → (z : ℕ) × Newest (suc m) T z
    go (z, r) = by_cases (dec_lt (T (suc m)) (T z))
        (λ h. (
          z,
          record {
            station = omega (arith, r.station);
            highest = λ i l. by_cases (ℕ_discrete i (suc m)) (λ e. rw e (omega arith)) (λ ne. r.highest i (omega arith));
            last = λ i l e. by_cases (ℕ_discrete i (suc m)) (λ d. absurd (omega (arith, rw d at e))) (λ ne. r.last i (omega arith) e);
          },
        ))
        (λ h. (
          suc m,
          record {
            station = omega arith;
            highest = λ i l. by_cases (ℕ_discrete i (suc m)) (λ e. rw e (omega arith)) (λ ne. omega (arith, r.highest i (omega arith)));
            last = λ i l e. l;
          },
        ))

-- the first station that passes the test "no other stands after it" is the newest
abbrev pub by_number : (ℕ → ℕ) → ℕ → ℕ → Bool
by_number T i j = number_before (T i) i (T j) j

newest_passes : {m : ℕ} {T : ℕ → ℕ} {z : ℕ} → Newest m T z → (j : ℕ) → j ≤ m → by_number T z j ≡ false
newest_passes {m} {T} {z} a j l = go (compare (T j) (T z))
  where
    go : Tri (T j < T z) (T j ≡ T z) (T z < T j) → by_number T z j ≡ false
    go (lt h) = number_more (T z) z (T j) j h
    go (eq h) = rw h (number_same (T z) z j ∙ le-ltb z j (a.last j l h))
    go (gt h) = absurd (omega (arith, a.highest j l))

passes_newest : (m : ℕ) (T : ℕ → ℕ) (z : ℕ) → z ≤ m → ((j : ℕ) → j ≤ m → by_number T z j ≡ false) → Newest m T z
passes_newest m T z lz f = record { station = lz; highest = λ i l. high i l (compare (T z) (T i)); last = last }
  where
    high : (i : ℕ) → i ≤ m → Tri (T z < T i) (T z ≡ T i) (T i < T z) → T i ≤ T z
    high i l (lt h) = absurd (tf (number_less (T z) z (T i) i h) (f i l))
    high i l (eq h) = omega arith
    high i l (gt h) = omega arith

    last : (i : ℕ) → i ≤ m → T i ≡ T z → i ≤ z
    last i l e = ltb-false z i (sym (number_same (T z) z i) ∙ rw e at (f i l))

pub newest_is : (m : ℕ) (T : ℕ → ℕ) → Newest m T (newest (suc m) (by_number T))
unfolding newest
newest_is m T = passes_newest m T z inside (λ j l. not-true _ (every_at (suc m) _ (f.found (omega (arith, inside))) j (omega arith)))
  where
    z : ℕ
    z = newest (suc m) (by_number T)

    test : ℕ → Bool
    test i = every (suc m) (λ j. not (by_number T i j))

    f : First (suc m) 0 test z
    f = first (suc m) 0 test

    at : (y : ℕ) → Newest m T y → Tri (z < suc m) (z ≡ suc m) (suc m < z) → z ≤ m
    at y a (lt h) = omega arith
    at y a (eq h) = absurd (tf (every_all (suc m) _ (λ j l. ap not (newest_passes a j (omega arith)))) (f.earlier y (omega arith) (omega (arith, a.station))))
    at y a (gt h) = absurd (omega (arith, f.upto))

    inside : z ≤ m
    inside = let e = newest_exists T m in at e.0 e.1 (compare z (suc m))

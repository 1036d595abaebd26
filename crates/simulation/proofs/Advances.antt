-- From numbers to advances: fed with the advances that come to some numbers, the unbounded machine runs as if fed with the numbers.
use Prim.Native.Nat.{ℕ, ◌+◌, ◌-◌, ◌≤◌}
use native.Mathlib.Omega.{arith}
use mathlib.Core.Path.{◌≡◌, refl, sym, ap, ◌∙◌}
use mathlib.Core.Bool.{Bool, true, false, cond}
use mathlib.Core.List as Lists
use mathlib.Core.List.{[], ◌∷◌, ◌++◌, map, map-append}
use lib.ListN.{length, get_or, drop, length-append}
use borrow.Author.Tests.{ne_eqb}
use Rattle.basics.specs.Tests.{newest, ordered, All}
use Rattle.basics.proofs.Facts.{by_here, all_parts, all_map}
use Rattle.simulation.specs.Calls.{Call, Board, judge}
use Rattle.simulation.specs.Machine.{snaps, Labelling, put, numbers, stands, LabelStep, stay, snap, update, label_step, label_snap, pending_after}
use Rattle.simulation.specs.Machine.{relabelled, carry_out, State, answer, step, snaps_of, run}
use Rattle.simulation.specs.Numbered.{numbered, LabelSnap, met, label_snaps, Fit, advance, advances}

-- one step of the labels: the advance comes to the number, and is used up
module _ (n : ℕ) (l : Labelling ℕ) (v : ℕ) where
  pub met_length : (w : LabelStep) → length (met n l w v) ≡ label_snap w
  unfolding met
  met_length stay = refl
  met_length (snap k) = refl
  met_length (update k) = refl

  advanced : (most : ℕ) (w : LabelStep) (al : Lists.List ℕ) → All (Fit most) (met n l w v)
      → relabelled n (numbers (get_or (map advance (met n l w v) ++ al) 0 0)) l w ≡ relabelled n (numbered v) l w
  unfolding met relabelled pending_after
  advanced most stay al h = refl
  advanced most (snap k) al h = ap (put l k) (by_here (λ b. cond b (l true k) (l false z + cond b 1 (v - l false z)) ≡ cond b (l true k) v) z k
      (λ _. refl)
      (λ d. let o = h.0.other (ne_eqb k z d) in omega arith))
    where
      z : ℕ
      z = newest n (stands (numbered v) l)
  advanced most (update k) al h = refl

  used_up : (w : LabelStep) (al : Lists.List ℕ) → drop (label_snap w) (map advance (met n l w v) ++ al) ≡ al
  unfolding met
  used_up stay al = refl
  used_up (snap k) al = refl
  used_up (update k) al = refl

-- the two ways to feed the machine differ in the labels left, if at all
labels_tell : (B : Board) (n : ℕ) (s : State ℕ) (c : Call) (v a : ℕ) → let w = label_step (judge B n s.rest c) in
    relabelled n (numbers a) s.labels w ≡ relabelled n (numbered v) s.labels w → step B n (numbers a) s c ≡ step B n (numbered v) s c
unfolding step
labels_tell B n s c v a = ap (λ (l : Labelling ℕ). answer c l (carry_out B (ordered n (stands (numbered v) s.labels)) s.rest
    (judge B n s.rest c)))

-- all calls: the same answers, and all advances used up
pub run_advances : (B : Board) (n most : ℕ) (cs : Lists.List Call) (s : State ℕ) (ns : Lists.List ℕ) → All (Fit most) (label_snaps B n s ns cs)
    → (run B n numbers s (advances B n s ns cs) cs ≡ run B n numbered s ns cs) ×
    (snaps B n numbers s (advances B n s ns cs) cs ≡ length (label_snaps B n s ns cs))
unfolding run snaps label_snaps snaps_of
run_advances B n most [] s ns h = (refl, refl)
run_advances B n most (c ∷ cs) s ns h = go (run_advances B n most cs s' ns' h'.1)
  where
    v : ℕ
    v = get_or ns 0 0

    w : LabelStep
    w = label_step (judge B n s.rest c)

    s' : State ℕ
    s' = (step B n (numbered v) s c).state

    ns' : Lists.List ℕ
    ns' = drop (label_snap w) ns

    xs : Lists.List LabelSnap
    xs = met n s.labels w v

    l : Lists.List LabelSnap
    l = label_snaps B n s' ns' cs

    h' : All (Fit most) xs × All (Fit most) l
    h' = all_parts (Fit most) xs l h

    al : Lists.List ℕ
    al = map advance (xs ++ l)

    split : al ≡ map advance xs ++ map advance l
    split = map-append advance xs l

    rest : drop (label_snap w) al ≡ map advance l
    rest = ap (drop (label_snap w)) split ∙ used_up n s.labels v w (map advance l)

    stepped : step B n (numbers (get_or al 0 0)) s c ≡ step B n (numbered v) s c
    stepped = labels_tell B n s c v (get_or al 0 0)
        (ap (λ t. relabelled n (numbers (get_or t 0 0)) s.labels w) split ∙ advanced n s.labels v most w (map advance l) h'.0)

    go : (run B n numbers s' (map advance l) cs ≡ run B n numbered s' ns' cs) × (snaps B n numbers s' (map advance l) cs ≡ length l)
        → (step B n (numbers (get_or al 0 0)) s c ∷ run B n numbers (step B n (numbers (get_or al 0 0)) s c).state (drop (label_snap w) al) cs
        ≡ step B n (numbered v) s c ∷ run B n numbered s' ns' cs)
        × (label_snap w + snaps B n numbers (step B n (numbers (get_or al 0 0)) s c).state (drop (label_snap w) al) cs ≡ length (xs ++ l))
    go (p, q) = rw (stepped, rest, p, q) (refl, sym (length-append xs l ∙ ap (λ t. t + length l) (met_length n s.labels v w)))

pub advances_whole : (most : ℕ) (l : Lists.List LabelSnap) → All (Fit most) l → All (λ a. 1 ≤ a) (map advance l)
advances_whole most = all_map (Fit most) (λ a. 1 ≤ a) advance (λ x h. go x h x.by_newest refl)
  where
    go : (x : LabelSnap) → Fit most x → (b : Bool) → x.by_newest ≡ b → 1 ≤ cond b 1 (x.number - x.top)
    go x h true e = omega arith
    go x h false e = let o = h.other e in omega arith

-- a fitting number fits a higher limit
pub fit_weaken : {b b' : ℕ} → b ≤ b' → (x : LabelSnap) → Fit b x → Fit b' x
fit_weaken le x h = record { newest = h.newest; other = λ e. let o = h.other e in (o.0, omega arith) }

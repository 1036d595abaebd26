-- A scan that snaps as it begins (02, Card 1), beside one that begins and snaps in steps of their own (01): the two boards judge every other call alike, and
-- where the begin is directly followed by its snap, they come to the same state.
use Prim.Native.Nat.{ℕ, suc, ◌-◌, ◌≤◌}
use native.Mathlib.Omega.{arith}
use mathlib.Core.Path.{◌≡◌, refl, sym, ap, ap₂, ◌∙◌, fun_ext}
use mathlib.Core.Logic.{◌⊎◌, inl, inr}
use mathlib.Core.Bool.{Bool, true, false, not, ◌&&◌, cond}
use mathlib.Core.List as Lists
use mathlib.Core.List.{[], map}
use lib.Dec.{eqb}
use borrow.Author.Tests.{eqb-true, eq-eqb, le-leb}
use Rattle.basics.specs.Tests.{within, ordered, passing}
use Rattle.simulation.specs.Calls.{Call, place, Scan, Phase, Idle, Update, Snap, End, entry, Process, Rest, Move, unless, by_service, by_phase, judge_in}
use Rattle.simulation.specs.Calls.{judge, written, Board, original, apart, standing, Standing, station_of, Label}
use Rattle.simulation.specs.Machine.{Rules, stands, relabelled, in_phase, changed, stored, has_job, scan_of, carry_out, State, labels_after, outcome, Answer}
use Rattle.simulation.specs.Machine.{answer, step}

-- JUDGING: document 01's board and the original one find the same move, or the begin of a scan and its snap
data Judged (n : ℕ) (c : Call) : Move → Move → Type 0 where
  alike : (w : Move) → Judged n c w w
  scans : c.code ≡ 2 → within 1 n c.station ≡ true → Judged n c (Move.begins (place c) c.job Scan) (Move.snaps (place c) Scan)

module _ (n : ℕ) (c : Call) where
  tested : (b : Bool) (x : ℕ) (w w' : Move) → (b ≡ true → Judged n c w w') → Judged n c (unless b x w) (unless b x w')
  unfolding unless
  tested true x w w' f = f refl
  tested false x w w' f = alike (Move.refused x)

  either : (b : Bool) (v v' w w' : Move) → (b ≡ true → Judged n c v v') → Judged n c w w' → Judged n c (cond b v w) (cond b v' w')
  either true v v' w w' i j = i refl
  either false v v' w w' i j = j

  by_phase_lem : (a : Bool) (k : ℕ) → within 1 n c.station ≡ true → (ph : Phase) → Judged n c (by_phase apart a k c ph) (by_phase original a k c ph)
  by_phase_lem a k own Idle = either (eqb c.code 1) _ _ _ _ (λ _. alike _)
      (either (eqb c.code 2) _ _ _ _ (λ e. tested a 18 _ _ (λ _. scans (eqb-true c.code 2 e) own)) (alike _))
  by_phase_lem a k own (Snap o) = alike _
  by_phase_lem a k own Update = alike _
  by_phase_lem a k own (End o) = alike _

  by_service_lem : (out : Bool) (w w' : Move) → Judged n c w w' → Judged n c (by_service out c.code w) (by_service out c.code w')
  by_service_lem true w w' j = tested _ 14 _ _ (λ _. j)
  by_service_lem false w w' j = tested _ 15 _ _ (λ _. j)

  judged : (s : Standing) → Judged n c (judge_in apart n s c) (judge_in original n s c)
  unfolding judge_in
  judged s = tested _ 10 _ _ (λ _. tested _ 2 _ _ (λ own. tested _ 11 _ _ (λ _.
      by_service_lem s.out _ _ (by_phase_lem s.alone s.shown own s.phase))))

  -- a step 3 with job 0 is judged by the phase, in service or not
  snap_judged : (B : Board) → 3 ≤ B.known → (s : Standing) → c.code ≡ 3 → c.job ≡ 0 → within 1 n c.station ≡ true
      → judge_in B n s c ≡ by_phase B s.alone s.shown c s.phase
  unfolding judge_in unless
  snap_judged B known s e f own = rw (e, f, own, le-leb 3 B.known known) (go s.out _)
    where
      go : (out : Bool) (w : Move) → by_service out 3 w ≡ w
      go true w = refl
      go false w = refl

-- a scan asks for jobs and service alone
pub scan_alike : (f g : ℕ → Process) → ((i : ℕ) → (f i).job ≡ (g i).job) → ((i : ℕ) → (f i).out ≡ (g i).out) → (order : Lists.List ℕ)
    → scan_of f order ≡ scan_of g order
unfolding scan_of
scan_alike f g job out order = λ y. map (λ i. entry (suc i) (job i y)) (passing (λ i. has_job (job i y) && not (out i y)) order)

-- PHASES: a scan sees the same if a phase differs, and of two phases the second stays
module _ (o : Rest) (k : ℕ) (ph : Phase) where
  scan_same : (order : Lists.List ℕ) → scan_of (changed o k (in_phase ph)).process order ≡ scan_of o.process order
  scan_same = scan_alike _ _ (λ i. kept (λ p. p.job) (λ p. refl) (eqb i k) i) (λ i. kept (λ p. p.out) (λ p. refl) (eqb i k) i)
    where
      kept : {A : Type 0} (v : Process → A) → ((p : Process) → v (in_phase ph p) ≡ v p) → (b : Bool) (i : ℕ)
          → v (cond b (in_phase ph (o.process i)) (o.process i)) ≡ v (o.process i)
      kept v e true i = e (o.process i)
      kept v e false i = refl

  phase_again : (ph' : Phase) → changed (changed o k (in_phase ph)) k (in_phase ph') ≡ changed o k (in_phase ph')
  phase_again ph' = ap (λ f. record { process = f; result = o.result }) (fun_ext (λ i. go (eqb i k) i))
    where
      go : (b : Bool) (i : ℕ) → let p = cond b (in_phase ph (o.process i)) (o.process i) in
          cond b (in_phase ph' p) p ≡ cond b (in_phase ph' (o.process i)) (o.process i)
      go true i = refl
      go false i = refl

  phase_here : (i : ℕ) → i ≡ k → ((changed o k (in_phase ph)).process i).phase ≡ ph
  phase_here i e = rw (eq-eqb i k e) refl

-- STEPS

-- a move is carried out alike
carried : (order : Lists.List ℕ) (o : Rest) (w : Move) → carry_out apart order o w ≡ carry_out original order o w
unfolding carry_out
carried order o (Move.refused x) = refl
carried order o (Move.begins k job Label) = refl
carried order o (Move.begins k job Scan) = refl
carried order o (Move.updates k) = refl
carried order o (Move.snaps k Label) = refl
carried order o (Move.snaps k Scan) = refl
carried order o (Move.ends k Label) = refl
carried order o (Move.ends k Scan) = refl
carried order o (Move.sets_out k b) = refl

-- an answer that hands out nothing
abbrev pub bare : {A : Type 0} → Call → State A → ℕ → Answer A
bare c s x = record { state = s; refusal = x; report = written c.line c.room [] }

-- the call d snaps for the scan that c begins
pub record SnapOf (c d : Call) : Type 0 where
  pub code : d.code ≡ 3
  pub station : d.station ≡ c.station
  pub job : d.job ≡ 0

module _ {A : Type 0} (n : ℕ) (r : Rules A) where
  -- the call c begins a scan: `apart` then takes two steps to the state that `original` is in after one, and where it refuses the snap
  pub record Scans (s : State A) (c : Call) : Type 0 where
    pub code : c.code ≡ 2
    pub begun : State A
    pub scanned : State A
    pub begins : step apart n r s c ≡ bare c begun 0
    pub snaps : (d : Call) → SnapOf c d → step apart n r begun d ≡ bare d scanned 0
    pub scans : step original n r s c ≡ bare c scanned 0
    pub turned : (d : Call) → SnapOf c d → step original n r scanned d ≡ bare d scanned 4

  stepped : (B : Board) (s : State A) (c : Call) (w : Move) → judge B n s.rest c ≡ w → step B n r s c ≡ answer c (labels_after n r s w) (outcome B n r s w)
  unfolding step
  stepped B s c w e = ap (λ v. answer c (labels_after n r s v) (outcome B n r s v)) e

  module _ (s : State A) (c : Call) where
    scan_apart : judge apart n s.rest c ≡ Move.begins (place c) c.job Scan → judge original n s.rest c ≡ Move.snaps (place c) Scan
        → c.code ≡ 2 → within 1 n c.station ≡ true → Scans s c
    unfolding relabelled carry_out unless
    scan_apart e f two own = record {
      code = two;
      begun = record { labels = s.labels; rest = due };
      scanned = record { labels = s.labels; rest = done };
      begins = stepped apart s c _ e;
      snaps = λ d h. stepped apart (record { labels = s.labels; rest = due }) d (Move.snaps k Scan) (snap_due d h)
          ∙ ap (λ o. bare d (record { labels = s.labels; rest = o }) 0) same;
      scans = stepped original s c _ f;
      turned = λ d h. stepped original (record { labels = s.labels; rest = done }) d (Move.refused 4) (snap_done d h);
    }
      where
        k : ℕ
        k = place c

        order : Lists.List ℕ
        order = ordered n (stands r s.labels)

        due : Rest
        due = changed s.rest k (in_phase (Snap Scan))

        done : Rest
        done = stored (changed s.rest k (in_phase (End Scan))) (station_of original k) (scan_of s.rest.process order)

        same : stored (changed due k (in_phase (End Scan))) (station_of original k) (scan_of due.process order) ≡ done
        same = ap₂ (λ o l. stored o (station_of original k) l) (phase_again s.rest k (Snap Scan) (End Scan)) (scan_same s.rest k (Snap Scan) order)

        there : (d : Call) → SnapOf c d → place d ≡ k
        there d h = ap (λ x. x - 1) h.station

        by_due : (B : Board) → 3 ≤ B.known → (o : Rest) (d : Call) → SnapOf c d → let t = standing B n o (place d) in
            judge B n o d ≡ by_phase B t.alone t.shown d t.phase
        by_due B known o d h = snap_judged n d B known (standing B n o (place d)) h.code h.job (ap (within 1 n) h.station ∙ own)

        snap_due : (d : Call) → SnapOf c d → judge apart n due d ≡ Move.snaps k Scan
        snap_due d h = by_due apart (omega arith) due d h ∙ ap (by_phase apart _ _ d) (phase_here s.rest k (Snap Scan) (place d) (there d h))
            ∙ rw h.code (ap (λ i. Move.snaps i Scan) (there d h))

        snap_done : (d : Call) → SnapOf c d → judge original n done d ≡ Move.refused 4
        snap_done d h = by_due original (omega arith) done d h ∙ ap (by_phase original _ _ d) (phase_here s.rest k (End Scan) (place d) (there d h))
            ∙ rw h.code refl

    -- EVERY CALL is answered alike, or begins a scan
    pub same_or_scans : (step apart n r s c ≡ step original n r s c) ⊎ Scans s c
    same_or_scans = go (judged n c (standing original n s.rest (place c))) refl refl
      where
        go : {w w' : Move} → Judged n c w w' → judge apart n s.rest c ≡ w → judge original n s.rest c ≡ w'
            → (step apart n r s c ≡ step original n r s c) ⊎ Scans s c
        go (alike w) e f =
            inl (stepped apart s c w e ∙ ap (answer c (labels_after n r s w)) (carried (ordered n (stands r s.labels)) s.rest w) ∙ sym (stepped original s c w f))
        go (scans two own) e f = inr (scan_apart e f two own)

-- Demand 3 for step calls on tables of every lawful form: calls on the table of a reached state are the bounded machine's, written down, and the unbounded
-- machine answers as that one does.
use Prim.Native.Nat.{ℕ, zero, suc, ◌+◌, ◌≤◌}
use native.Mathlib.Omega.{arith}
use mathlib.Core.Path.{◌≡◌, refl, sym, ap, ap₂, subst, ◌∙◌}
use mathlib.Core.Logic.{◌≢◌}
use mathlib.Core.Bool.{Bool, true, false}
use mathlib.Core.List as Lists
use mathlib.Core.List.{[], ◌∷◌, map}
use lib.ListN.{length, take}
use Rattle.basics.specs.Tests.{ordered, All}
use Rattle.basics.proofs.Facts.{tf}
use Rattle.label.specs.Labels as Labels
use Rattle.simulation.specs.Calls.{Call, place, Buffer, Entry, report_lines, Bytes, bytes_of, written, Board, judge, station_of, Standing, standing}
use Rattle.simulation.specs.Machine.{digits, numbers, stands, State, fresh, step, snaps_of, Bounded, fresh_label}
use Rattle.simulation.specs.Machine as Machine
use Rattle.simulation.proofs.Judged.{Refusal, refusals}
use Rattle.simulation.proofs.Touched.{refused_stays}
use Rattle.simulation.proofs.Follow.{run_cons, snaps_cons, Simulates}
use Rattle.simulation.proofs.Simulation.{Proper, simulation}
use Rattle.transition.specs.Forms.{Form, TableAnswer, refuse, fresh_table, answered, step_of, after}
use Rattle.transition.specs.Demand.{run_table, table_snaps, seen_in, unbounded, Demand3}
use Rattle.transition.proofs.Written.{Sized, sized_some}
use Rattle.transition.proofs.Reached.{Reached, reached_fresh, reached_step}

-- what a form owes: its board is proper, and a table that some reached state was written down to holds that state and is well-formed
pub record Lawful (F : Form) : Type 0 where
  pub proper : Proper F.board
  pub counted : (n : ℕ) (s : State Labels.Label) → F.count (F.written n s) ≡ n
  pub held : (n : ℕ) → Sized F.board n → (s : State Labels.Label) → Reached F.board n s → F.state (F.written n s) ≡ s
  pub passes : (n : ℕ) → Sized F.board n → (s : State Labels.Label) → Reached F.board n s → F.well_formed (F.written n s) ≡ true

-- what holds of all answers to some calls holds of those to the first k of them
all_taken : (P : Machine.Answer ℕ → Type 0) (B : Board) (n k : ℕ) (cs : Lists.List Call) (s : State ℕ) (al : Lists.List ℕ)
    → All P (Machine.run B n numbers s al cs) → All P (Machine.run B n numbers s al (take k cs))
unfolding Machine.run
all_taken P B n zero cs s al a = tt
all_taken P B n (suc k) [] s al a = tt
all_taken P B n (suc k) (c ∷ cs) s al a = (a.0, all_taken P B n k cs _ _ a.1)

-- on a well-formed table a step call is the machine's step, written down
pub step_written : (F : Form) (t : F.Table) (c : Call) → F.well_formed t ≡ true → let n = F.count t in
    step_of F t c ≡ answered F n (step F.board n (digits F.board n) (F.state t) c)
unfolding step_of
step_written F t c e = rw (e, step_of) refl

-- so its number is one that `judge` gives
pub step_refusals : (F : Form) (t : F.Table) (c : Call) → F.well_formed t ≡ true
    → Refusal (standing F.board (F.count t) (F.state t).rest (place c)) c (step_of F t c).refusal
unfolding step
step_refusals F t c e = subst (λ (a : TableAnswer F.Table). Refusal (standing F.board n (F.state t).rest (place c)) c a.refusal)
    (sym (step_written F t c e)) (refusals F.board n (F.state t).rest c (ordered n (stands (digits F.board n) (F.state t).labels)))
  where
    n : ℕ
    n = F.count t

-- on any other it is refused by 13
pub step_ill_formed : (F : Form) (t : F.Table) (c : Call) → F.well_formed t ≡ false → step_of F t c ≡ refuse t c 13
unfolding step_of
step_ill_formed F t c e = rw (e, step_of) refl

-- what it writes is of the kind that is lent
pub step_report : (F : Form) (t : F.Table) (c : Call) → (l : Lists.List Entry) × ((step_of F t c).report ≡ written c.line c.room l)
unfolding step
step_report F t c = go (F.well_formed t) refl
  where
    go : (b : Bool) → F.well_formed t ≡ b → (l : Lists.List Entry) × ((step_of F t c).report ≡ written c.line c.room l)
    go true e = (_, ap (λ (a : TableAnswer F.Table). a.report) (step_written F t c e))
    go false e = ([], ap (λ (a : TableAnswer F.Table). a.report) (step_ill_formed F t c e))

-- so it is bytes where a buffer is lent
pub step_bytes : (F : Form) (t : F.Table) (c : Call) (k : ℕ) → c.room ≡ Buffer k → (step_of F t c).report ≡ Bytes (bytes_of (step_of F t c).report)
step_bytes F t c k e =
    let h = step_report F t c in
    let g : (step_of F t c).report ≡ Bytes (report_lines c.line 1 h.0) = h.1 ∙ ap (λ r. written c.line r h.0) e in
    g ∙ sym (ap (λ r. Bytes (bytes_of r)) g)

-- a refused call changes nothing and writes nothing, on a table that is the one of the state that it holds
pub step_kept : (F : Form) (t : F.Table) → (F.well_formed t ≡ true → F.written (F.count t) (F.state t) ≡ t) → (c : Call)
    → (step_of F t c).refusal ≢ 0 → step_of F t c ≡ refuse t c (step_of F t c).refusal
unfolding step
step_kept F t same c d = go (F.well_formed t) refl
  where
    n : ℕ
    n = F.count t

    go : (b : Bool) → F.well_formed t ≡ b → step_of F t c ≡ refuse t c (step_of F t c).refusal
    go true e =
        let w = step_written F t c e in
        let x : (step_of F t c).refusal ≡ (step F.board n (digits F.board n) (F.state t) c).refusal = ap (λ (a : TableAnswer F.Table). a.refusal) w in
        w ∙ ap (answered F n) (refused_stays F.board n (digits F.board n) (F.state t) c (judge F.board n (F.state t).rest c) (λ z. d (x ∙ z)))
        ∙ (λ i. refuse (same e i) c (sym x i))
    go false e = let s = step_ill_formed F t c e in s ∙ ap (refuse t c) (sym (ap (λ (a : TableAnswer F.Table). a.refusal) s))

-- a sequence of calls on the table of the state s is one on the bounded machine, and none of them is refused by 13
pub record Runs (F : Form) (n : ℕ) (s : State Labels.Label) (cs : Lists.List Call) : Type 0 where
  pub same : map (seen_in F) (run_table (step_of F) (F.written n s) cs) ≡ map (Machine.seen F.board n) (Machine.run F.board n (λ _. digits F.board n) s [] cs)
  pub count : table_snaps F (F.written n s) cs ≡ Machine.snaps F.board n (λ _. digits F.board n) s [] cs
  pub never13 : All (λ a. a.refusal ≢ 13) (run_table (step_of F) (F.written n s) cs)

module _ (F : Form) (L : Lawful F) (n : ℕ) (z : Sized F.board n) where
  abbrev answer : State Labels.Label → Call → Machine.Answer Labels.Label
  answer s c = step F.board n (digits F.board n) s c

  module _ {s : State Labels.Label} (r : Reached F.board n s) where
    pub reached_held : F.state (F.written n s) ≡ s
    reached_held = L.held n z s r

    pub reached_passes : F.well_formed (F.written n s) ≡ true
    reached_passes = L.passes n z s r

    module _ (c : Call) where
      -- a step call on the table of a reached state is the machine's
      pub reached_written : step_of F (F.written n s) c ≡ answered F n (answer s c)
      reached_written = step_written F (F.written n s) c reached_passes
          ∙ ap₂ (λ k u. answered F k (step F.board k (digits F.board k) u c)) (L.counted n s) reached_held

      pub reached_next : Reached F.board n (answer s c).state
      reached_next = reached_step L.proper n z s r c

      seen_written : seen_in F (answered F n (answer s c)) ≡ Machine.seen F.board n (answer s c)
      seen_written = ap₂ (λ k u. Machine.seen F.board k (record { state = u; refusal = (answer s c).refusal; report = (answer s c).report }))
          (L.counted n (answer s c).state) (L.held n z (answer s c).state reached_next)

      not_13 : (answer s c).refusal ≢ 13
      unfolding step
      not_13 e = tf (refusals F.board n s.rest c (ordered n (stands (digits F.board n) s.labels))).known (rw e refl)

      run_written : (cs : Lists.List Call) → run_table (step_of F) (F.written n s) (c ∷ cs) ≡ answered F n (answer s c) ∷ run_table (step_of F) (F.written n (answer s c).state) cs
      unfolding run_table
      run_written cs = rw reached_written refl

      snaps_written : (cs : Lists.List Call) → table_snaps F (F.written n s) (c ∷ cs) ≡ snaps_of F.board n s c + table_snaps F (F.written n (answer s c).state) cs
      unfolding table_snaps snaps_of
      snaps_written cs = rw (reached_passes, reached_written)
          (ap₂ (λ k (u : State Labels.Label). snaps_of F.board k u c + rest) (L.counted n s) reached_held)
        where
          rest : ℕ
          rest = table_snaps F (F.written n (answer s c).state) cs

      one_more : (cs : Lists.List Call) → Runs F n (answer s c).state cs → Runs F n s (c ∷ cs)
      one_more cs R = record {
        same = ap (map (seen_in F)) (run_written cs) ∙ ap₂ ◌∷◌ seen_written R.same ∙ ap (map (Machine.seen F.board n)) (sym (run_cons F.board n (digits F.board n) s c cs));
        count = snaps_written cs ∙ ap (λ k. snaps_of F.board n s c + k) R.count ∙ sym (snaps_cons F.board n (digits F.board n) s c cs);
        never13 = subst (All (λ a. a.refusal ≢ 13)) (sym (run_written cs)) (not_13, R.never13);
      }

  pub runs : (cs : Lists.List Call) (s : State Labels.Label) → Reached F.board n s → Runs F n s cs
  unfolding Machine.run Machine.snaps run_table table_snaps
  runs [] s r = record { same = refl; count = refl; never13 = tt }
  runs (c ∷ cs) s r = one_more r c cs (runs cs (answer s c).state (reached_next r c))

  -- DEMAND 3, for every number of processes of 2 to 32 stations and every sequence of step calls on the fresh table
  pub demand : (calls : Lists.List Call) → Demand3 F n calls
  demand calls = record {
    advances = S.advances;
    whole = S.whole;
    each = S.each ∙ sym R.count;
    eachᵘ = S.eachᵘ;
    same = R.same ∙ S.same;
    bound = λ k. all_taken (Bounded n (table_snaps F (fresh_table F n) calls)) F.board n k calls (fresh 0) S.advances
        (subst (λ b. All (Bounded n b) (unbounded F.board n S.advances calls)) (sym R.count) S.bound);
    never13 = R.never13;
  }
    where
      S : Simulates F.board n (digits F.board n) (fresh_label F.board) calls
      S = simulation L.proper n (sized_some z) calls

      R : Runs F n (fresh (fresh_label F.board)) calls
      R = runs calls (fresh (fresh_label F.board)) (reached_fresh F.board n (sized_some z) L.proper)

-- TABLES REACHED from the fresh one of n stations: those of reached states. Every step call leads from one to another.
pub record ReachedTable (F : Form) (n : ℕ) (t : F.Table) : Type 0 where
  pub state : State Labels.Label
  pub reached : Reached F.board n state
  pub holds : t ≡ F.written n state

module _ (F : Form) (L : Lawful F) (n : ℕ) (z : Sized F.board n) where
  pub table_fresh : ReachedTable F n (fresh_table F n)
  table_fresh = record {
    state = fresh (fresh_label F.board);
    reached = reached_fresh F.board n (sized_some z) L.proper;
    holds = refl;
  }

  module _ (t : F.Table) (r : ReachedTable F n t) where
    pub table_count : F.count t ≡ n
    table_count = ap F.count r.holds ∙ L.counted n r.state

    pub table_passes : F.well_formed t ≡ true
    table_passes = ap F.well_formed r.holds ∙ reached_passes F L n z r.reached

    -- a call is refused by a number that `judge` gives, and by 7 only where there is no room for the stations shown, of which there are at most n
    pub table_refusals : (c : Call) → (own : Standing) × (own.shown ≤ n) × Refusal own c (step_of F t c).refusal
    table_refusals c = (_, few, step_refusals F t c table_passes)
      where
        g : ℕ
        g = station_of F.board (place c)

        held : F.state t ≡ r.state
        held = ap F.state r.holds ∙ reached_held F L n z r.reached

        few : length ((F.state t).rest.result g) ≤ n
        few = omega (arith, ap (λ (s : State Labels.Label). length (s.rest.result g)) held, (r.reached.writable.rest.listed g).0)

    pub table_step : (c : Call) → ReachedTable F n (step_of F t c).table
    table_step c = record {
      state = (step F.board n (digits F.board n) r.state c).state;
      reached = reached_next F L n z r.reached c;
      holds = ap (λ u. (step_of F u c).table) r.holds ∙ ap (λ (a : TableAnswer F.Table). a.table) (reached_written F L n z r.reached c);
    }

  pub table_after : (calls : Lists.List Call) (t : F.Table) → ReachedTable F n t → ReachedTable F n (after F t calls)
  unfolding after
  table_after [] t r = r
  table_after (c ∷ calls) t r = table_after calls (step_of F t c).table (table_step t r c)

-- the state that some calls leave is the same in every lawful form of a board
pub same_after : (F G : Form) → Lawful F → Lawful G → F.board ≡ G.board → (n : ℕ) → Sized F.board n → (cs : Lists.List Call)
    → F.state (after F (fresh_table F n) cs) ≡ G.state (after G (fresh_table G n) cs)
unfolding after
same_after F G L M e n z cs = machine F L z cs _ (reached_fresh F.board n (sized_some z) L.proper) ∙ ap (λ B. left B (fresh (fresh_label B)) cs) e
    ∙ sym (machine G M z' cs _ (reached_fresh G.board n (sized_some z') M.proper))
  where
    z' : Sized G.board n
    z' = subst (λ B. Sized B n) e z

    left : Board → State Labels.Label → Lists.List Call → State Labels.Label
    left B s [] = s
    left B s (c ∷ cs) = left B (step B n (digits B n) s c).state cs

    machine : (F : Form) → Lawful F → Sized F.board n → (cs : Lists.List Call) (s : State Labels.Label) → Reached F.board n s
        → F.state (after F (F.written n s) cs) ≡ left F.board s cs
    machine F L z [] s r = L.held n z s r
    machine F L z (c ∷ cs) s r = ap (λ (a : TableAnswer F.Table). F.state (after F a.table cs)) (reached_written F L n z r c)
        ∙ machine F L z cs (step F.board n (digits F.board n) s c).state (reached_next F L n z r c)

-- and so is all that is seen of their answers
pub same_seen : (F G : Form) → Lawful F → Lawful G → F.board ≡ G.board → (n : ℕ) → Sized F.board n → (cs : Lists.List Call)
    → map (seen_in F) (run_table (step_of F) (fresh_table F n) cs) ≡ map (seen_in G) (run_table (step_of G) (fresh_table G n) cs)
same_seen F G L M e n z cs =
    let z' = subst (λ B. Sized B n) e z in
    (runs F L n z cs _ (reached_fresh F.board n (sized_some z) L.proper)).same
    ∙ ap (λ B. map (Machine.seen B n) (Machine.run B n (λ _. digits B n) (fresh (fresh_label B)) [] cs)) e
    ∙ sym (runs G M n z' cs _ (reached_fresh G.board n (sized_some z') M.proper)).same

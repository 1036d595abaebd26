-- All samples hold of the tables of every lawful form: computed without the test for 13, which no table on the way fails.
use Prim.Native.Nat.{ℕ, zero, suc, ◌≤◌, ◌<◌}
use native.Mathlib.Omega.{arith}
use mathlib.Core.Path.{◌≡◌, refl, sym, ap, subst, ◌∙◌, fun_ext}
use mathlib.Core.Bool.{true, false, true≢false}
use mathlib.Core.List as Lists
use mathlib.Core.List.{[], ◌∷◌, ◌++◌, map, Memᴰ}
use lib.ListN.{length}
use Rattle.basics.specs.Tests.{every, count, first_from, last_of, newest, inserted, ordered, passing, tabulate, All}
use Rattle.basics.proofs.Facts.{tf, all_weaken}
use Rattle.columns.specs.Columns.{line_head, line_tail, report_line}
use Rattle.label.specs.Labels as Labels
use Rattle.label.specs.Labels.{below, next, agrees, first_difference, label_below, label_before, next_label, others, level, new_label, holders}
use Rattle.label.specs.Rows.{digit, row}
use Rattle.simulation.specs.Calls.{original, sized, Call, unless, judge_in, report_lines, panel_records}
use Rattle.simulation.specs.Machine.{digits, fresh_label, pending_after, relabelled, scan_of, carry_out, State, fresh, step, snaps_of, run, snaps, number_before}
use Rattle.simulation.specs.Numbered.{met, label_snaps, Fit, newest_snap, newest_snaps}
use Rattle.simulation.specs.Numbering.{bump, highest, slot_of, renumber, renumbered, numbers_of}
use Rattle.transition.specs.Forms.{Form, TableAnswer, fresh_table, answered, step_of, after}
use Rattle.transition.specs.Questions.{top_holders, Tells}
use Rattle.transition.specs.Logs.{fits_next, at_front, right}
use Rattle.transition.specs.Samples.{Sample, digits_below, labels_below, reaches, scan_shows, top_held, numbers_do, numbers_found, log_right, log_wrong, answers, replies}
use Rattle.transition.specs.Samples.{call_with, call, takes_job, labelled, shown, order, shown_by, SampleHolds, one, two, three, nine, together, stalled, absent}
use Rattle.transition.specs.Samples.{overtaken, scan_bytes, scan_ended, codes, codes_with, ascii, two_of_three, samples, habit_samples, service_samples, top_samples}
use Rattle.transition.specs.Samples.{number_samples, log_samples, refusal_samples, report_samples, SamplesHold}
use Rattle.simulation.proofs.Follow as Follow
use Rattle.simulation.proofs.Simulation.{original_proper, numbering}
use Rattle.transition.proofs.Written.{Sized, sized_of, sized_some}
use Rattle.transition.proofs.Reached.{Reached, reached_fresh}
use Rattle.transition.proofs.Theorem.{Lawful, reached_held, reached_written, reached_next, same_after, ReachedTable, table_fresh, table_after}
use Rattle.transition.proofs.Questions.{reached_tells}
use Rattle.transition.proofs.Numbers.{numbers_do_lem}
use Rattle.transition.proofs.Logs.{right_exactly}
use Rattle.arrays.specs.Arrays.{Arrays, state_of, arrays_of}
use Rattle.arrays.specs.Form.{lent}
use Rattle.arrays.proofs.States.{lent_lawful}

carried : ℕ → Arrays → Lists.List Call → Arrays
unfolding row arrays_of unless judge_in pending_after relabelled scan_of carry_out step below next agrees first_difference label_below label_before next_label others
    level new_label every count first_from newest inserted ordered passing tabulate call_with call labelled
carried n a [] = a
carried n a (c ∷ cs) = carried n (arrays_of n (step original n (digits original n) (state_of a) c).state) cs

module _ (n : ℕ) (z : Sized original n) where
  carried_same : (cs : Lists.List Call) (s : State Labels.Label) → Reached original n s → after lent (arrays_of n s) cs ≡ carried n (arrays_of n s) cs
  unfolding after carried
  carried_same [] s r = refl
  carried_same (c ∷ cs) s r = ap (λ a. after lent a.table cs) (reached_written lent lent_lawful n z r c)
      ∙ carried_same cs (step original n (digits original n) s c).state (reached_next lent lent_lawful n z r c)
      ∙ ap (λ u. carried n (arrays_of n (step original n (digits original n) u c).state) cs) (sym (reached_held lent lent_lawful n z r))

  -- what holds of the state that the calls lead to, on these arrays, holds of the one in every lawful form of the board
  leads : (F : Form) → Lawful F → F.board ≡ original → (P : State Labels.Label → Type 0) (cs : Lists.List Call)
      → P (state_of (carried n (fresh_table lent n) cs)) → P (F.state (after F (fresh_table F n) cs))
  leads F L same P cs =
      subst P (sym (same_after F lent L lent_lawful same n (subst (λ B. Sized B n) (sym same) z) cs
      ∙ ap state_of (carried_same cs (fresh (fresh_label original)) (reached_fresh original n (sized_some z) original_proper))))

-- what is computed of a row
abbrev left : ℕ → Lists.List Call → State Labels.Label
left n cs = state_of (carried n (fresh_table lent n) cs)

abbrev Computed : Sample → Type 0
Computed (digits_below d e) = below d e ≡ true
Computed (labels_below a b) = label_below (length a) (digit a) (digit b) ≡ true
Computed (reaches n cs l o) = (sized original n ≡ true) × (shown n (left n cs) ≡ l) × (order n (left n cs) ≡ o)
Computed (scan_shows n cs k l) = (sized original n ≡ true) × (shown_by k (left n cs) ≡ l)
Computed (top_held n cs k) = (sized original n ≡ true) × (top_holders original n (left n cs).labels ≡ k)
Computed (numbers_do n cs ns) = (sized original n ≡ true) × Follow.Numbers original n (digits original n) (fresh_label original) cs ns
Computed (numbers_found n cs ns) = numbers_of original n cs ≡ ns
Computed (log_right n cs ns l) = right original n (fresh 0) ns (scan_bytes l) cs ≡ true
Computed (log_wrong n cs ns l) = right original n (fresh 0) ns (scan_bytes l) cs ≡ false
Computed (answers n cs xs ks) = (sized original n ≡ true) × (map (λ c. (step original n (digits original n) (left n cs) c).refusal) xs ≡ ks)
Computed (replies n cs c k r) =
    let a = step original n (digits original n) (left n cs) c in
    (sized original n ≡ true) × (a.refusal ≡ k) × (a.report ≡ r)

-- row by row
infixr 40 ◌and◌
◌and◌ : {A B : Type 0} → A → B → A × B
a and b = (a, b)

scope : All Computed samples
unfolding shown order carried one two three together stalled call_with
scope =
    refl and refl and (refl, refl, refl) and (refl, refl, refl) and (refl, refl, refl) and (refl, refl, refl) and (refl, refl, refl)
    and (refl, refl, refl) and (refl, refl, refl) and (refl, refl, refl) and (refl, refl, refl) and (refl, refl, refl) and tt

habits : All Computed habit_samples
unfolding shown order carried one two three call_with
habits = (refl, refl, refl) and tt

service : All Computed service_samples
unfolding shown order shown_by carried one two three absent last_of call_with
service = (refl, refl, refl) and (refl, refl, refl) and (refl, refl) and (refl, refl) and (refl, refl) and tt

shared : All Computed top_samples
unfolding top_holders holders carried one two three together call_with
shared = (refl, refl) and (refl, refl) and (refl, refl) and (refl, refl) and (refl, refl) and tt

-- another list for 1 and 2, which have equal labels: a number for each
apart : Follow.Numbers original 3 (digits original 3) (fresh_label original) (together ++ one (call 3 2)) (two 1 2)
unfolding run snaps label_snaps met newest_snap newest_snaps number_before snaps_of unless judge_in pending_after relabelled scan_of carry_out step below next agrees
    first_difference label_below label_before next_label others level new_label every count first_from newest inserted ordered passing tabulate call call_with one two
    together
apart = record {
  each = refl;
  fits = record { one = refl; each = (above (omega arith) (omega arith), (above (omega arith) (omega arith), tt)) };
  same = refl;
  newest = refl;
  gapless = record { most = 2; upto = (omega arith, (omega arith, tt)); each = member };
}
  where
    above : {v : ℕ} → 0 < v → v ≤ 2 → Fit 2 (record { by_newest = false; top = 0; number = v })
    above l u = record { newest = λ e. absurd (true≢false (sym e)); other = λ _. (l, u) }

    member : (v : ℕ) → 1 ≤ v → v ≤ 2 → Memᴰ v (two 1 2)
    member zero l u = absurd (omega arith)
    member (suc zero) l u = Memᴰ.head refl
    member (suc (suc zero)) l u = Memᴰ.tail (Memᴰ.head refl)
    member (suc (suc (suc v))) l u = absurd (omega arith)

numbered : All Computed number_samples
unfolding renumbered renumber highest slot_of bump snaps_of unless judge_in pending_after relabelled scan_of carry_out step below next agrees first_difference
    label_below label_before next_label others level new_label every count first_from newest inserted ordered passing tabulate call call_with labelled one two three
    together overtaken
numbered = refl and refl and refl and (refl, (numbering original_proper 3 (omega arith) _).0) and (refl, apart) and tt

logs : All Computed log_samples
unfolding right fits_next at_front number_before snaps_of unless judge_in pending_after relabelled scan_of carry_out step every first_from newest inserted ordered
    passing report_lines report_line line_head line_tail scan_bytes call call_with labelled one two three overtaken scan_ended
logs = refl and refl and refl and refl and refl and refl and refl and refl and refl and refl and refl and refl and tt

refusals : All Computed refusal_samples
unfolding carried last_of one two three nine codes codes_with call_with
refusals =
    (refl, refl) and (refl, refl) and (refl, refl) and (refl, refl) and (refl, refl) and (refl, refl) and (refl, refl) and (refl, refl)
    and (refl, refl) and (refl, refl) and (refl, refl) and (refl, refl) and (refl, refl) and (refl, refl) and (refl, refl) and (refl, refl)
    and (refl, refl) and (refl, refl) and (refl, refl) and tt

reports : All Computed report_samples
unfolding carried last_of one two takes_job two_of_three call_with ascii report_lines panel_records report_line line_head line_tail
reports =
    (refl, refl, refl) and (refl, refl, refl) and (refl, refl, refl) and (refl, refl, refl) and (refl, refl, refl) and (refl, refl, refl)
    and (refl, refl, refl) and (refl, refl, refl) and tt

module _ (F : Form) (L : Lawful F) (same : F.board ≡ original) where
  size : (n : ℕ) → sized original n ≡ true → Sized original n
  size n = sized_of (omega arith)

  here : (n : ℕ) → sized original n ≡ true → Sized F.board n
  here n h = subst (λ B. Sized B n) (sym same) (size n h)

  -- a call on the table that some calls leave is the machine's step, written down
  module _ (n : ℕ) (h : sized original n ≡ true) (cs : Lists.List Call) (c : Call) where
    abbrev table : F.Table
    table = after F (fresh_table F n) cs

    stepped : step_of F table c ≡ answered F n (step original n (digits original n) (F.state table) c)
    stepped = ap (λ t. step_of F t c) r.holds ∙ reached_written F L n (here n h) r.reached c
        ∙ ap (λ B. answered F n (step B n (digits B n) r.state c)) same
        ∙ ap (λ s. answered F n (step original n (digits original n) s c)) (sym (ap F.state r.holds ∙ reached_held F L n (here n h) r.reached))
      where
        r : ReachedTable F n table
        r = table_after F L n (here n h) cs (fresh_table F n) (table_fresh F L n (here n h))

  told : (x : Sample) → Computed x → SampleHolds F x
  told (digits_below d e) h = h
  told (labels_below a b) h = h
  told (reaches n cs l o) h = leads n (size n h.0) F L same (λ s. (shown n s ≡ l) × (order n s ≡ o)) cs (h.1, h.2)
  told (scan_shows n cs k l) h = leads n (size n h.0) F L same (λ s. shown_by k s ≡ l) cs h.1
  told (top_held n cs k) h =
      subst (Tells F (after F (fresh_table F n) cs) 0)
      (leads n (size n h.0) F L same (λ s. top_holders F.board n s.labels ≡ k) cs (ap (λ B. top_holders B n (left n cs).labels) same ∙ h.1))
      (reached_tells F L n (here n h.0) _ (table_after F L n (here n h.0) cs (fresh_table F n) (table_fresh F L n (here n h.0))))
  told (numbers_do n cs ns) h =
      numbers_do_lem F L n (here n h.0) (subst (λ B. Follow.Numbers B n (digits B n) (fresh_label B) cs ns) (sym same) h.1)
  told (numbers_found n cs ns) h = h
  told (log_right n cs ns l) h = (right_exactly original n cs ns (scan_bytes l)).0 h
  told (log_wrong n cs ns l) h = λ r. tf ((right_exactly original n cs ns (scan_bytes l)).1 r) h
  told (answers n cs xs ks) h =
      ap (λ f. map f xs) (fun_ext (λ c. ap (λ (a : TableAnswer F.Table). a.refusal) (stepped n h.0 cs c)))
      ∙ leads n (size n h.0) F L same (λ s. map (λ c. (step original n (digits original n) s c).refusal) xs ≡ ks) cs h.1
  told (replies n cs c k r) h =
      subst (λ (a : TableAnswer F.Table). (a.refusal ≡ k) × (a.report ≡ r)) (sym (stepped n h.0 cs c))
      (leads n (size n h.0) F L same (λ s. let a = step original n (digits original n) s c in (a.refusal ≡ k) × (a.report ≡ r)) cs (h.1, h.2))

  pub samples_hold : SamplesHold F
  samples_hold =
      each samples scope and each habit_samples habits and each service_samples service and each top_samples shared and each number_samples numbered
      and each log_samples logs and each refusal_samples refusals and each report_samples reports and tt
    where
      each : (l : Lists.List Sample) → All Computed l → All (SampleHolds F) l
      each = all_weaken {P = Computed} {Q = SampleHolds F} told

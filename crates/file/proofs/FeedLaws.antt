-- A file that is served part by part: what a part leaves goes on as the file does, and all parts together come to its report.
use Prim.Native.Nat.{ℕ, zero, suc, ◌+◌, ◌*◌, ◌/◌, ◌≤◌, ◌<◌}
use native.Mathlib.Decide.{dec_lt, ℕ_discrete}
use native.Mathlib.Omega.{arith}
use mathlib.Core.Path.{◌≡◌, refl, sym, ap, subst, ◌∙◌}
use mathlib.Core.Logic.{◌≢◌, ◌⊎◌, inl, inr, ⊎_elim, by_cases}
use mathlib.Core.Bool.{Bool, true, false, ◌&&◌, cond}
use mathlib.Core.List as Lists
use mathlib.Core.List.{[], ◌∷◌, ◌++◌, append-nil}
use lib.ListN.{length, take, drop, length-append, length-drop, drop_of_length-le}
use lib.Seq.{take_at, take-append-le, drop-append-le}
use lib.Dec.{eqb, ltb}
use borrow.Author.Tests.{eq-eqb, ne_eqb, lt-ltb, eqb-true, ltb-true, ltb-false}
use Rattle.basics.proofs.Facts.{and_both}
use Rattle.transition.specs.Forms.{over, fresh_table}
use Rattle.moves.specs.Moves.{final_number}
use Rattle.std.specs.Prelude.{None}
use Rattle.arrays.specs.Arrays.{Arrays}
use Rattle.arrays.specs.Form.{lent}
use Rattle.schedule.specs.Tables.{tables}
use Rattle.schedule.specs.Sessions.{Session, session, Served, unmoved, header_of}
use Rattle.schedule.specs.Files.{cut, pieces, header_printed, behind, run_lines, file_run, file_report, file_refusal}
use Rattle.schedule.proofs.Runs.{final_run}
use Rattle.schedule.proofs.Cuts.{behind_twice, run_append, cut_add}
use Rattle.file.specs.Feeds.{run_session, awaits, run_from, ready_in, ready, ahead, Feeds, Feeding, FedBy, Ends, output}
use Rattle.file.specs.declared.Run.{Run}
use Rattle.file.specs.declared.Fed.{Fed}

-- LINES THAT ARE STILL TO COME

-- a session with a refusal, or with a line, awaits no header
pub refused_opened : (s : Session Arrays) → final_number s.refusal ≢ 0 → awaits s ≡ false
refused_opened s d = rw (ne_eqb _ 0 d) refl

pub lines_opened : (s : Session Arrays) → s.lines ≢ 0 → awaits s ≡ false
lines_opened s d = go (eqb (final_number s.refusal) 0)
  where
    go : (b : Bool) → (b && eqb s.lines 0) ≡ false
    go true = ne_eqb s.lines 0 d
    go false = refl

pub run_opened : (s : Session Arrays) → awaits s ≡ false → (ls : Lists.List (Lists.List ℕ)) → run_from s ls ≡ run_lines (tables lent) s ls
unfolding run_lines
run_opened s e [] = refl
run_opened s e (l ∷ ls) = rw e refl

-- nothing follows a final refusal
ahead_none : (s : Session Arrays) → final_number s.refusal ≢ 0 → (rest : Lists.List ℕ) → ahead s rest ≡ unmoved s
ahead_none s d rest = let ls = cut (ready s true rest) rest in run_opened s (refused_opened s d) ls ∙ final_run (tables lent) s ls d

-- lines in two groups
run_from_append : (l : Lists.List ℕ) (ls ms : Lists.List (Lists.List ℕ)) (s : Session Arrays) → let o = run_from s (l ∷ ls) in
    awaits o.session ≡ false → run_from s ((l ∷ ls) ++ ms) ≡ behind o.bytes (run_from o.session ms)
run_from_append l ls ms s e = go (awaits s) refl e
  where
    h : Session Arrays
    h = header_of (tables lent) l

    first : Bool → Lists.List (Lists.List ℕ) → Served Arrays
    first b ls = cond b (behind (header_printed h) (run_lines (tables lent) h ls)) (run_lines (tables lent) s (l ∷ ls))

    go : (b : Bool) → awaits s ≡ b → awaits (first b ls).session ≡ false
        → first b (ls ++ ms) ≡ behind (first b ls).bytes (run_from (first b ls).session ms)
    go true q e = ap (behind (header_printed h)) (run_append (tables lent) ls ms h) ∙ behind_twice (header_printed h) (run_lines (tables lent) h ls).bytes _
        ∙ ap (behind (first true ls).bytes) (sym (run_opened (run_lines (tables lent) h ls).session e ms))
    go false q e = run_append (tables lent) (l ∷ ls) ms s ∙ ap (behind (first false ls).bytes) (sym (run_opened (first false ls).session e ms))

-- the first lines, whatever follows them
pub cut_front : (k : ℕ) (a b : Lists.List ℕ) → 18 * k ≤ length a → cut k (a ++ b) ≡ cut k a
unfolding cut
cut_front zero a b h = refl
cut_front (suc k) a b h =
    let long : 18 ≤ length a = omega arith in
    let left : 18 * k ≤ length (drop 18 a) = rw length-drop (omega arith) in
    rw (take-append-le 18 a b long, drop-append-le 18 a b long) (ap (λ l. take 18 a ∷ l) (cut_front k (drop 18 a) b left))

-- A PART

module _ {run : Run} {a : Arrays} {last : Bool} {part : Lists.List ℕ} {r : Fed} {a' : Arrays} {buffer buffer' : Lists.List ℕ}
    (f : Feeds run a last part r a' buffer buffer') where
  abbrev s : Session Arrays
  s = run_session run a

  abbrev s' : Session Arrays
  s' = run_session r.run a'

  pub feeds_within : r.read ≤ length part
  feeds_within = omega (arith, f.read)

  pub feeds_inside : r.written ≤ length buffer'
  feeds_inside = omega (arith, f.written, ap length f.report ∙ length-append f.bytes (drop (length f.bytes) buffer))

  pub feeds_shown : take r.written buffer' ≡ f.bytes
  feeds_shown = rw (f.report, f.written) (take_at f.bytes (drop (length f.bytes) buffer) (length f.bytes) refl)

  -- another could be served
  pub feeds_more : r.more ≡ true → (final_number r.run.refusal ≡ 0) × (f.served < ready s last part)
  feeds_more m =
      let b = and_both (eqb (final_number r.run.refusal) 0) (ltb f.served (ready s last part)) (sym f.more ∙ m) in
      (eqb-true _ 0 b.0, ltb-true f.served (ready s last part) b.1)

  -- none could be, and none is refused for good
  feeds_all : r.more ≡ false → final_number r.run.refusal ≡ 0 → f.served ≡ ready s last part
  feeds_all m z =
      let none : ltb f.served (ready s last part) ≡ false = sym (ap (λ b. b && ltb f.served (ready s last part)) (eq-eqb _ 0 z)) ∙ sym f.more ∙ m in
      omega (arith, f.most, ltb-false f.served (ready s last part) none)

  -- whole lines were then, and with room for one there is one
  pub feeds_on : r.more ≡ true → 928 ≤ length buffer → (0 < r.read) × (r.read ≡ 18 * f.served) × (r.run.lines ≡ run.lines + f.served)
  feeds_on m room =
      let l = go last (awaits s) (feeds_more m).1 in
      (omega (arith, f.read, l, f.stops m, f.short, room), omega (arith, f.read, l), f.counted (feeds_more m).0)
    where
      go : (b w : Bool) → f.served < ready_in w b part → 18 * f.served ≤ length part
      go true true l = omega (arith, length-drop 18 part)
      go true false l = omega arith
      go false w l = omega arith

  -- of a part that is not the last, less than a line is left where no other could be served
  pub feeds_left : r.more ≡ false → last ≡ false → final_number r.run.refusal ≡ 0
      → (length part < r.read + 18) × (r.read ≡ 18 * f.served) × (r.run.lines ≡ run.lines + f.served)
  feeds_left m e z =
      let all : f.served ≡ length part / 18 = feeds_all m z ∙ ap (λ b. ready s b part) e in
      (omega (arith, f.read, all), omega (arith, f.read, all), f.counted z)

  -- nothing is served: all stays
  none_served : f.served ≡ 0 → (s' ≡ s) × (f.bytes ≡ []) × (r.read ≡ 0)
  unfolding cut
  none_served z =
      let e = sym f.runs ∙ ap (λ k. run_from s (cut k part)) z in
      (ap (λ (o : Served Arrays). o.session) e, ap (λ (o : Served Arrays). o.bytes) e, omega (arith, f.read, z))

  -- behind a line no header is awaited
  opened_then : f.served ≢ 0 → awaits s' ≡ false
  opened_then d = by_cases (ℕ_discrete (final_number r.run.refusal) 0)
      (λ z. lines_opened s' (λ e. d (omega (arith, f.counted z, e))))
      (λ n. refused_opened s' n)

  -- whole lines were served, or all bytes of the last part
  served_whole : (18 * f.served ≤ length part) ⊎ ((last ≡ true) × (f.served ≡ ready s true part))
  served_whole = go last refl f.most
    where
      go : (b : Bool) → last ≡ b → f.served ≤ ready s b part → (18 * f.served ≤ length part) ⊎ ((last ≡ true) × (f.served ≡ ready s true part))
      go false e m = inl (omega arith)
      go true e m = by_cases (dec_lt (length part) (18 * f.served)) (λ l. inr (e, by (awaits s) refl m l)) (λ n. inl (omega arith))
        where
          by : (w : Bool) → awaits s ≡ w → f.served ≤ cond w (suc (pieces (drop 18 part))) (pieces part) → length part < 18 * f.served
              → f.served ≡ ready s true part
          by true q m l = rw q (omega (arith, length-drop 18 part))
          by false q m l = rw q (omega arith)

  -- THE LAW OF A PART: what it prints, and behind that what comes of the bytes left, is what comes of all bytes, whatever comes behind the part
  pub feeds_rest : (more : Lists.List ℕ) → (last ≡ true → more ≡ []) → ahead s (part ++ more) ≡ behind f.bytes (ahead s' (drop r.read part ++ more))
  unfolding cut
  feeds_rest more over = by_cases (ℕ_discrete f.served 0)
      (λ z. let n = none_served z in sym (λ i. behind (n.1 i) (ahead (n.0 i) (drop (n.2 i) part ++ more))))
      (λ d. on d (⊎_elim (whole d) (λ h. by_cases (dec_lt (length part) (18 * f.served)) (all d h) (λ n. whole d (omega arith))) served_whole))
    where
      rest : Lists.List ℕ
      rest = drop r.read part ++ more

      -- the lines served are the first of all, and the others those of the rest
      Split : Type 0
      Split = cut (ready s true (part ++ more)) (part ++ more) ≡ cut f.served part ++ cut (ready s' true rest) rest

      whole : f.served ≢ 0 → 18 * f.served ≤ length part → Split
      whole d l =
          let k = f.served in
          let e : r.read ≡ 18 * k = omega (arith, f.read) in
          let left : drop (18 * k) (part ++ more) ≡ rest = drop-append-le (18 * k) part more l ∙ ap (λ i. drop i part ++ more) (sym e) in
          let whole = length-append part more in
          let front = length-append (drop r.read part) more in
          let long : length (part ++ more) ≡ 18 * k + length rest = omega (arith, whole, front, length-drop r.read part) in
          ap (λ i. cut i (part ++ more)) (count long (awaits s) refl) ∙ cut_add k (ready s' true rest) (part ++ more)
          ∙ (λ i. cut_front k part more l i ++ cut (ready s' true rest) (left i))
        where
          count : length (part ++ more) ≡ 18 * f.served + length rest → (w : Bool) → awaits s ≡ w
              → ready s true (part ++ more) ≡ f.served + ready s' true rest
          count long true q = rw (q, opened_then d) (omega (arith, long, length-drop 18 (part ++ more), d))
          count long false q = rw (q, opened_then d) (omega (arith, long))

      all : f.served ≢ 0 → (last ≡ true) × (f.served ≡ ready s true part) → length part < 18 * f.served → Split
      all d h l =
          let z : rest ≡ [] = (λ i. drop_of_length-le part {i = r.read} (omega (arith, f.read)) i ++ over h.0 i) in
          ap (λ m. cut (ready s true (part ++ m)) (part ++ m)) (over h.0) ∙ ap (λ m. cut (ready s true m) m) (append-nil part)
          ∙ ap (λ k. cut k part) (sym h.1) ∙ sym (ap (λ m. cut f.served part ++ cut (ready s' true m) m) z ∙ none)
        where
          none : cut f.served part ++ cut (ready s' true []) [] ≡ cut f.served part
          none = rw (opened_then d) (append-nil (cut f.served part))

      on : f.served ≢ 0 → Split → ahead s (part ++ more) ≡ behind f.bytes (ahead s' rest)
      on d e = ap (run_from s) e ∙ go f.served d f.runs
        where
          go : (k : ℕ) → k ≢ 0 → run_from s (cut k part) ≡ record { session = s'; refusal = final_number r.run.refusal; bytes = f.bytes }
              → run_from s (cut k part ++ cut (ready s' true rest) rest) ≡ behind f.bytes (ahead s' rest)
          go zero n q = absurd (n refl)
          go (suc k) n q = run_from_append (take 18 part) (cut k (drop 18 part)) (cut (ready s' true rest) rest) s
              (ap (λ (o : Served Arrays). awaits o.session) q ∙ opened_then d)
              ∙ ap (λ (o : Served Arrays). behind o.bytes (run_from o.session (cut (ready s' true rest) rest))) q

  -- nothing more can be served: all of the last part was, or a line was refused for good
  pub feeds_done : (more : Lists.List ℕ) → (last ≡ true → more ≡ []) → r.more ≡ false → (last ≡ true) ⊎ (final_number r.run.refusal ≢ 0)
      → ahead s' (drop r.read part ++ more) ≡ unmoved s'
  unfolding cut
  feeds_done more over m = ⊎_elim
      (λ e. by_cases (ℕ_discrete (final_number r.run.refusal) 0) (ended e) (λ d. ahead_none s' d (drop r.read part ++ more)))
      (λ d. ahead_none s' d (drop r.read part ++ more))
    where
      -- the header is one of the lines of the last part
      opened : f.served ≡ ready s true part → awaits s' ≡ false
      opened all = by_cases (ℕ_discrete f.served 0) (λ n. go (awaits s) refl n all) opened_then
        where
          go : (w : Bool) → awaits s ≡ w → f.served ≡ 0 → f.served ≡ cond w (suc (pieces (drop 18 part))) (pieces part) → awaits s' ≡ false
          go true q n all = absurd (omega (arith, all))
          go false q n all = ap awaits (none_served n).0 ∙ q

      ended : last ≡ true → final_number r.run.refusal ≡ 0 → ahead s' (drop r.read part ++ more) ≡ unmoved s'
      ended e z =
          let whole = feeds_all m z ∙ ap (λ b. ready s b part) e in
          let z : drop r.read part ++ more ≡ [] = (λ i. drop_of_length-le part {i = r.read} (long (awaits s) whole) i ++ over e i) in
          ap (ahead s') z ∙ rw (opened whole) refl
        where
          long : (w : Bool) → f.served ≡ cond w (suc (pieces (drop 18 part))) (pieces part) → length part ≤ r.read
          long true h = omega (arith, f.read, h, length-drop 18 part)
          long false h = omega (arith, f.read, h)

  -- no more lines can be served
  feeds_most : (k : ℕ) → k ≤ ready s last part
      → ((j : ℕ) → j < k → let o = run_from s (cut j part) in (o.refusal ≡ 0) × (length o.bytes + 928 ≤ length buffer))
      → k ≤ f.served
  feeds_most k b g = by_cases (dec_lt f.served k)
      (λ l. absurd (go l (subst (λ (o : Served Arrays). (o.refusal ≡ 0) × (length o.bytes + 928 ≤ length buffer)) f.runs (g _ l))))
      (λ n. omega (arith, n))
    where
      go : f.served < k → (final_number r.run.refusal ≡ 0) × (length f.bytes + 928 ≤ length buffer) → ⊥
      go l w =
          let e : r.more ≡ true = f.more ∙ rw (eq-eqb _ 0 w.0, lt-ltb f.served (ready s last part) (omega arith)) refl in
          omega (arith, f.stops e, w.1, f.written)

-- the outcome is given by the run, the part and the buffer: two are the same
pub feeds_one : {run : Run} {a : Arrays} {last : Bool} {part : Lists.List ℕ} {r r' : Fed} {a₁ a₂ : Arrays} {buffer b b' : Lists.List ℕ}
    → Feeds run a last part r a₁ buffer b → Feeds run a last part r' a₂ buffer b'
    → (run_session r.run a₁ ≡ run_session r'.run a₂) × (r.read ≡ r'.read) × (r.written ≡ r'.written) × (r.more ≡ r'.more) × (b ≡ b')
feeds_one {run} {a} {last} {part} {r} {r'} {a₁} {a₂} {buffer} f g =
    let few : f.served ≤ g.served = feeds_most g f.served f.most f.goes in
    let many : g.served ≤ f.served = feeds_most f g.served g.most g.goes in
    let same : f.served ≡ g.served = omega (arith, few, many) in
    let e = sym f.runs ∙ ap (λ k. run_from (run_session run a) (cut k part)) same ∙ g.runs in (
      ap (λ o. o.session) e,
      omega (arith, f.read, g.read, same),
      f.written ∙ ap (λ o. length o.bytes) e ∙ sym g.written,
      f.more ∙ (λ i. eqb (final_number (e i).session.refusal) 0 && ltb (same i) (ready (run_session run a) last part)) ∙ sym g.more,
      f.report ∙ ap (λ o. over o.bytes buffer) e ∙ sym g.report,
    )

-- EVERY SEQUENCE OF PARTS comes to the report of the file

fed_runs : (xs : Lists.List Feeding) (run : Run) (a : Arrays) (rest : Lists.List ℕ) (final : Run) → FedBy run a rest xs → Ends xs final
    → ((ahead (run_session run a) rest).bytes ≡ output xs) × ((ahead (run_session run a) rest).refusal ≡ final_number final.refusal)
fed_runs [] run a rest final f e = absurd e
fed_runs (x ∷ []) run a rest final f e =
    let g = f.2 in
    let q = ap (ahead (run_session run a)) f.0 ∙ feeds_rest g x.behind f.1 ∙ ap (behind g.bytes) (feeds_done g x.behind f.1 e.1 e.2) in (
      ap (λ (o : Served Arrays). o.bytes) q ∙ ap (λ b. b ++ []) (sym (feeds_shown g)),
      ap (λ (o : Served Arrays). o.refusal) q ∙ ap (λ (u : Run). final_number u.refusal) e.0,
    )
fed_runs (x ∷ (y ∷ xs)) run a rest final f e =
    let g = f.2 in
    let q = ap (ahead (run_session run a)) f.0 ∙ feeds_rest g x.behind f.1 in
    let left = fed_runs (y ∷ xs) x.fed.run x.table (drop x.fed.read x.part ++ x.behind) final f.3 e in (
      ap (λ (o : Served Arrays). o.bytes) q ∙ (λ i. sym (feeds_shown g) i ++ left.0 i),
      ap (λ (o : Served Arrays). o.refusal) q ∙ left.1,
    )

-- what comes of a run before its first line is what comes of a whole file
pub run_started : (bs : Lists.List ℕ) → ahead (session 0 None (fresh_table lent 2)) bs ≡ file_run (tables lent) bs
unfolding file_run cut
run_started bs = refl

pub fed_file : (bs : Lists.List ℕ) (xs : Lists.List Feeding) (final : Run)
    → FedBy (record { lines = 0; refusal = None }) (fresh_table lent 2) bs xs → Ends xs final
    → (file_report (tables lent) bs ≡ output xs) × (file_refusal (tables lent) bs ≡ final_number final.refusal)
fed_file bs xs final f e =
    let h = fed_runs xs _ _ bs final f e in
    let q = sym (run_started bs) in
    (ap (λ (o : Served Arrays). o.bytes) q ∙ h.0, ap (λ (o : Served Arrays). o.refusal) q ∙ h.1)

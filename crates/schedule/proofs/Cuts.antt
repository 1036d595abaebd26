-- Lines, and bytes, in two groups come to what they come to in one piece.
use Prim.Native.Nat.{ℕ, zero, suc, ◌+◌, ◌-◌, ◌*◌, ◌≤◌, ◌<◌}
use native.Mathlib.Nat.{zero-add}
use native.Mathlib.Omega.{arith}
use mathlib.Core.Path.{◌≡◌, refl, sym, ap, ◌∙◌}
use mathlib.Core.Bool.{Bool, true, false, cond}
use mathlib.Core.List as Lists
use mathlib.Core.List.{[], ◌∷◌, ◌++◌, append_assoc}
use lib.ListN.{length, take, drop, length-append, length-drop}
use lib.Seq.{take-append-le, drop-append-le, drop-drop}
use Rattle.moves.proofs.MoveLaws.{refuses_yes}
use Rattle.schedule.specs.Tables.{Tables}
use Rattle.schedule.specs.Sessions.{Session, is_final, Served, unmoved, serve_of}
use Rattle.schedule.specs.Files.{cut, pieces, printed, behind, run_lines}
use Rattle.schedule.proofs.Runs.{final_run, run_on}

-- LINES IN TWO GROUPS: the second goes on with the session that the first leaves

pub behind_twice : {T : Type 0} (a b : Lists.List ℕ) (o : Served T) → behind a (behind b o) ≡ behind (a ++ b) o
behind_twice a b o = ap (λ x. record { session = o.session; refusal = o.refusal; bytes = x }) (sym (append_assoc a b o.bytes))

module _ (T : Tables) where
  run_final : (s : Session T.Table) (ls : Lists.List (Lists.List ℕ)) → is_final s ≡ true → run_lines T s ls ≡ unmoved s
  run_final s ls e = final_run T s ls (refuses_yes s.refusal e)

  -- the run of the lines ms behind an outcome
  abbrev pub run_further : Served T.Table → Lists.List (Lists.List ℕ) → Served T.Table
  run_further o ms = behind o.bytes (run_lines T o.session ms)

  pub run_append : (ls ms : Lists.List (Lists.List ℕ)) (s : Session T.Table) → run_lines T s (ls ++ ms) ≡ run_further (run_lines T s ls) ms
  unfolding run_lines
  run_append [] ms s = refl
  run_append (l ∷ ls) ms s = go (is_final s) refl (run_append ls ms)
    where
      go : (b : Bool) → is_final s ≡ b → ((s' : Session T.Table) → run_lines T s' (ls ++ ms) ≡ run_further (run_lines T s' ls) ms)
          → run_lines T s (l ∷ (ls ++ ms)) ≡ run_further (run_lines T s (l ∷ ls)) ms
      go true e ih = run_final s (l ∷ (ls ++ ms)) e ∙ sym (rw (run_final s (l ∷ ls) e) (run_final s ms e))
      go false e ih =
          let o = serve_of T s l in
          let p = printed (s.lines + 1) o.refusal o.bytes in
          let r = run_lines T o.session ls in
          run_on T s l (ls ++ ms) e ∙ ap (behind p) (ih o.session) ∙ behind_twice p r.bytes (run_lines T r.session ms)
          ∙ sym (ap (λ x. run_further x ms) (run_on T s l ls e))

-- BYTES IN TWO GROUPS, the first of whole lines

pub cut_add : (k j : ℕ) (bs : Lists.List ℕ) → cut (k + j) bs ≡ cut k bs ++ cut j (drop (18 * k) bs)
unfolding cut
cut_add zero j bs = ap (λ i. cut i bs) (zero-add j)
cut_add (suc k) j bs =
    let n : suc k + j ≡ suc (k + j) = omega arith in
    let m : 18 + 18 * k ≡ 18 * suc k = omega arith in
    let rest : drop (18 * k) (drop 18 bs) ≡ drop (18 * suc k) bs = drop-drop (18 * k) 18 bs ∙ ap (λ i. drop i bs) m in
    rw n (ap (λ l. take 18 bs ∷ l) (cut_add k j (drop 18 bs) ∙ ap (λ b. cut k (drop 18 bs) ++ cut j b) rest))

cut_append : (k j : ℕ) (a b : Lists.List ℕ) → length a ≡ 18 * k → cut (k + j) (a ++ b) ≡ cut k a ++ cut j b
unfolding cut
cut_append zero j [] b h = ap (λ i. cut i b) (zero-add j)
cut_append zero j (x ∷ a) b h = absurd (omega arith)
cut_append (suc k) j a b h =
    let n : suc k + j ≡ suc (k + j) = omega arith in
    let long : 18 ≤ length a = omega arith in
    let left : length (drop 18 a) ≡ 18 * k = rw length-drop (omega arith) in
    rw (n, take-append-le 18 a b long, drop-append-le 18 a b long) (ap (λ l. take 18 a ∷ l) (cut_append k j (drop 18 a) b left))

pub lines_append : (k : ℕ) (a b : Lists.List ℕ) → length a ≡ 18 * k → cut (pieces (a ++ b)) (a ++ b) ≡ cut (pieces a) a ++ cut (pieces b) b
lines_append k a b h =
    let whole : pieces (a ++ b) ≡ k + pieces b = rw (length-append a b, h) (omega arith) in
    let first : pieces a ≡ k = rw h (omega arith) in
    ap (λ i. cut i (a ++ b)) whole ∙ cut_append k (pieces b) a b h ∙ ap (λ i. cut i a ++ cut (pieces b) b) (sym first)

-- PARTS

abbrev pub joined : Lists.List (Lists.List ℕ) → Lists.List ℕ
joined [] = []
joined (p ∷ ps) = p ++ joined ps

-- each part but the last is of whole lines
abbrev pub Whole : Lists.List (Lists.List ℕ) → Type 0
Whole [] = Unit {0}
Whole (p ∷ []) = Unit {0}
Whole (p ∷ (q ∷ ps)) = ((k : ℕ) × (length p ≡ 18 * k)) × Whole (q ∷ ps)

-- READING ON: what is left of the lines that a file can have, as long as there is more to read
abbrev pub lines_left : Bool → ℕ → ℕ
lines_left more lines = cond more (1000002 - lines) 0

pub fewer_left : (a b : ℕ) (m m' : Bool) → m ≡ true → a ≤ 1000001 → (m' ≡ true → (a < b) × (b ≤ 1000001)) → lines_left m' b < lines_left m a
fewer_left a b m true e h f = rw e (omega (arith, f refl))
fewer_left a b m false e h f = rw e (omega arith)

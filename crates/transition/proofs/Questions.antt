-- How many stations hold the top label (02, Card 5): at least one and at most all where labels are in order, and all of them in a fresh table.
use Prim.Native.Nat.{ℕ, ◌-◌, ◌≤◌}
use mathlib.Core.Path.{◌≡◌, refl, sym, ap, subst, ◌∙◌}
use mathlib.Core.Logic.{◌⊎◌, inl, inr}
use mathlib.Core.Bool.{Bool, true, false}
use Rattle.basics.specs.Tests.{newest}
use Rattle.label.specs.Labels as Labels
use Rattle.label.proofs.Total.{Total, newest_inside}
use Rattle.label.proofs.Holders.{holders_few, holders_all, holders_some}
use Rattle.simulation.specs.Calls.{Board}
use Rattle.simulation.specs.Machine.{Labelling, digits, stands, State, fresh_label}
use Rattle.transition.specs.Forms.{Form, fresh_table}
use Rattle.transition.specs.Questions.{top_holders, Tells}
use Rattle.transition.proofs.Written.{Sized, sized_some}
use Rattle.transition.proofs.Reached.{reached_fresh}
use Rattle.transition.proofs.Theorem.{Lawful, reached_held, ReachedTable, table_fresh, table_count, table_passes}

holders_bounds : (B : Board) (n : ℕ) (l : Labelling Labels.Label) → 1 ≤ n → Total n (stands (digits B n) l) → (1 ≤ top_holders B n l) × (top_holders B n l ≤ n)
unfolding top_holders
holders_bounds B n l h o =
    let z = newest n (stands (digits B n) l) in
    (holders_some (n - 1) (l false) n z (newest_inside n (stands (digits B n) l) o h), holders_few (n - 1) (l false) n z)

-- where all labels are the same, for every n
holders_same : (B : Board) (n : ℕ) (a : Labels.Label) → top_holders B n (λ x i. a) ≡ n
unfolding top_holders
holders_same B n a = holders_all (n - 1) (λ i. a) n (newest n (stands (digits B n) (λ x i. a))) (λ i l p h. refl)

-- an answer: 0 and from 1 to n stations, or 13 and none
abbrev pub Told : ℕ → ℕ → ℕ → Type 0
Told n refusal stations = ((refusal ≡ 0) × (1 ≤ stations) × (stations ≤ n)) ⊎ ((refusal ≡ 13) × (stations ≡ 0))

-- of a form whose well-formed tables have labels in order
pub told : (F : Form) (t : F.Table) → (F.well_formed t ≡ true → (1 ≤ F.count t) × Total (F.count t) (stands (digits F.board (F.count t)) (F.state t).labels))
    → {refusal stations : ℕ} → Tells F t refusal stations → Told (F.count t) refusal stations
told F t h {refusal} {stations} s = go (F.well_formed t) refl
  where
    go : (b : Bool) → F.well_formed t ≡ b → Told (F.count t) refusal stations
    go true e =
        let c : stations ≡ top_holders F.board (F.count t) (F.state t).labels = s.count ∙ rw e refl in
        let k = holders_bounds F.board (F.count t) (F.state t).labels (h e).0 (h e).1 in
        inl (s.number ∙ rw e refl, rw c k.0, rw c k.1)
    go false e = inr (s.number ∙ rw e refl, s.count ∙ rw e refl)

module _ (F : Form) (L : Lawful F) (n : ℕ) (z : Sized F.board n) where
  -- tables reached from a fresh one are served
  pub reached_tells : (t : F.Table) → ReachedTable F n t → Tells F t 0 (top_holders F.board n (F.state t).labels)
  reached_tells t r = record {
    number = rw (table_passes F L n z t r) refl;
    count = rw (table_passes F L n z t r) (ap (λ k. top_holders F.board k (F.state t).labels) (sym (table_count F L n z t r)));
  }

  -- a fresh table says n
  pub fresh_tells : Tells F (fresh_table F n) 0 n
  fresh_tells = subst (Tells F (fresh_table F n) 0)
      (ap (λ (s : State Labels.Label). top_holders F.board n s.labels) (reached_held F L n z (reached_fresh F.board n (sized_some z) L.proper))
      ∙ holders_same F.board n (fresh_label F.board))
      (reached_tells (fresh_table F n) (table_fresh F L n z))

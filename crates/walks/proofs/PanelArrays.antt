-- A field that is an array of a declared type, in a walk: its relation and its machine value are over the elements' tuples, and those of an array by value
-- over the elements themselves. These are the ways between the two.
--     vals_same    the machine value of the field is that of the array by value
--     up, down     what holds of the field, at any machine values, holds of the array by value, and back
use mathlib.Core.Path.{◌≡◌, refl, sym, ap, ◌∙◌}
use Prim.Native.Nat.{ℕ}
use mathlib.Core.List.{List, [], ◌∷◌, map}
use lib.ListN.{length-map}
use mir.Val.{Val}
use denote.Laws.{Is}
use denote.Shadow.{shadow}
use denote.Array.{Array, each}
use denote.Struct.Declared.{Declared, row, field}
use denote.Struct.Laws as LL

pub vals_same : (D : Declared) (L : LL.Laws D) (xs : List D.D) → map (LL.tuple_val D L) (map D.to xs) ≡ map (LL.val D L) xs
vals_same D L [] = refl
vals_same D L (x ∷ xs) = ap (λ (vs : List Val). LL.val D L x ∷ vs) (vals_same D L xs)

module _ (D : Declared) where
  each_up : (xs : List D.D) (us : List Val) → shadow (each (field D).row.Denot (field D).row.own_val (map D.to xs) us)
      → shadow (each (row D).Denot (row D).own_val xs us)
  each_up [] [] s = s
  each_up [] (u ∷ us) s = s
  each_up (x ∷ xs) [] s = s
  each_up (x ∷ xs) (u ∷ us) s = (s.0, each_up xs us s.1)

  each_down : (xs : List D.D) (us : List Val) → shadow (each (row D).Denot (row D).own_val xs us)
      → shadow (each (field D).row.Denot (field D).row.own_val (map D.to xs) us)
  each_down [] [] s = s
  each_down [] (u ∷ us) s = s
  each_down (x ∷ xs) [] s = s
  each_down (x ∷ xs) (u ∷ us) s = (s.0, each_down xs us s.1)

  pub up : (n : ℕ) (xs : List D.D) (vs : List Val) → Is (Array (field D).row n) (map D.to xs) vs → Is (Array (row D) n) xs vs
  up n xs vs p = (p.0, ((p.1.0.0, sym (length-map xs D.to) ∙ p.1.0.1), each_up xs p.0 p.1.1))

  pub down : (n : ℕ) (xs : List D.D) (vs : List Val) → Is (Array (row D) n) xs vs → Is (Array (field D).row n) (map D.to xs) vs
  down n xs vs p = (p.0, ((p.1.0.0, length-map xs D.to ∙ p.1.0.1), each_down xs p.0 p.1.1))

-- What the walks ask of a type: that it is plain data, with no reference inside. `Structs.antt` has declared structs as such.
--     Plainly              a type that owns only facts, of one machine value: a table, an answer, a record of a panel
--     last_same, silent    what a contract can learn at exit of such a value: nothing new
--     Both                 a struct of a table and an answer, in this order: what a step by value returns
--     lies_in, lies_out    a value in a local of a walk is one that lies in memory, so that it can be lent; and back
use mathlib.Core.Path.{◌≡◌, refl, sym, subst}
use Prim.Native.Nat.{ℕ}
use mathlib.Core.List.{[], ◌∷◌, List}
use lib.Dec.{T}
use seplogic.Ra.Ura.{Ura}
use base.Fraction.{full_share}
use mir.Syntax.{Sym, Ty, ty_struct, tnil, tcons}
use mir.Val.{Val, vstruct, vnil, vcons, WT, has_ty}
use base.Logic.{ent}
use base.Fml.{ftrue, fsep, fat}
use types.Logic.{Logic, sem}
use types.Kit.{‵, ⋆, ◌$◌, ◌∵◌, !, qed, use1, rewrite, fsplit, fjoin, fpick, fpack, done}
use denote.Exit.{Kept, Exit, unchanged, Last, left}
use denote.RattleType.{RattleType}
use denote.Copied.{Copied}
use denote.Laws.{Is, shows, Tells, Makes, Copy}
use denote.Memory.{mem, cell_at, part_of}
use denote.Struct.Steps.{spelt}

pub record Plainly : Type 2 where
  pub R : RattleType
  pub mir : Ty
  pub mir_is : R.mir ≡ mir ∷ []
  pub val : R.Denot → Val
  pub tells : Tells R (Is R) (λ x. val x ∷ [])
  pub makes : (M : Type 1) (𝓤 : Ura M) (𝓛 : Logic 𝓤) → Makes 𝓛 R (Is R)
  pub typed : (M : Type 1) (𝓤 : Ura M) (𝓛 : Logic 𝓤) → (x : R.Denot) (v : Val) → Is R x (v ∷ [])
      → T (has_ty mir v) × WT v
  pub copies : (M : Type 1) (𝓤 : Ura M) (𝓛 : Logic 𝓤) → Copy 𝓛 R
  pub copied : (M : Type 1) (𝓤 : Ura M) (𝓛 : Logic 𝓤) → Copied 𝓛 R
  pub still : (k : Kept) → R.exit k ≡ unchanged

-- nothing is bound or said of what is seen at exit as it was passed
module _ {D : Type 0} {e : Exit D} (same : e ≡ unchanged) (x : D) where
  pub last_same : Last e x
  last_same = subst (λ (e : Exit D). Last e x) (sym same) tt

  pub silent : (w : Last e x) → left e x w ≡ ftrue
  silent = subst (λ (e : Exit D). (w : Last e x) → left e x w ≡ ftrue) (sym same) (λ w. refl)

-- a struct of two such types
abbrev pub layout_of : Plainly → Plainly → Sym → Ty
layout_of B Q ν = ty_struct ν (tcons B.mir (tcons Q.mir tnil))

pub record Both (B Q : Plainly) : Type 2 where
  pub R : RattleType
  pub ν : Sym
  pub first : R.Denot → B.R.Denot
  pub second : R.Denot → Q.R.Denot
  pub both : B.R.Denot → Q.R.Denot → R.Denot
  pub parts : (t : B.R.Denot) (a : Q.R.Denot) → (first (both t a) ≡ t) × (second (both t a) ≡ a)
  pub tells : Tells R (Is R) (λ r. vstruct (vcons (B.val (first r)) (vcons (Q.val (second r)) vnil)) ∷ [])
  pub makes : (M : Type 1) (𝓤 : Ura M) (𝓛 : Logic 𝓤) → Makes 𝓛 R (Is R)
  pub typed : (M : Type 1) (𝓤 : Ura M) (𝓛 : Logic 𝓤) → (r : R.Denot) (v : Val) → Is R r (v ∷ [])
      → T (has_ty (layout_of B Q ν) v) × WT v
  pub is_first : (r : R.Denot) (vs : List Val) → Is R r vs → Is B.R (first r) (B.val (first r) ∷ [])
  pub is_second : (r : R.Denot) (vs : List Val) → Is R r vs → Is Q.R (second r) (Q.val (second r) ∷ [])
  pub is_both : (t : B.R.Denot) (a : Q.R.Denot) → Is B.R t (B.val t ∷ []) → Is Q.R a (Q.val a ∷ [])
      → Is R (both t a) (vstruct (vcons (B.val t) (vcons (Q.val a) vnil)) ∷ [])

abbrev pub layout : {B Q : Plainly} → Both B Q → Ty
layout {B} {Q} S = layout_of B Q S.ν

module _ {M : Type 1} {𝓤 : Ura M} (𝓛 : Logic 𝓤) (B : Plainly) (h : B.R.Denot) (l : ℕ) where
  pub lies_in : ent 𝓤 (⋆ 𝓛 (‵ (fat full_share B.mir l 0 (B.val h)) ∷ ‵ (B.R.own_val h (B.val h ∷ [])) ∷ [])) (sem 𝓛 ((mem B.R).own_at h l 0))
  unfolding part_of
  lies_in =
      qed 𝓛 (‵ (fat full_share B.mir l 0 (B.val h)) ∷ ‵ (B.R.own_val h (B.val h ∷ [])) ∷ []) ∵
      use1 𝓛 (‵ (cell_at full_share (B.mir ∷ []) (B.val h ∷ []) l 0)) (𝓛.laws.at_raw full_share B.mir l 0 (B.val h)) $
      rewrite ! 0 (λ (τs : List Ty). ‵ (cell_at full_share τs (B.val h ∷ []) l 0)) (sym B.mir_is) refl $ fjoin ! $
      fpack ! (List Val) (λ us. fsep (cell_at full_share B.R.mir us l 0) (B.R.own_val h us)) (B.val h ∷ []) $ done !

  pub lies_out : ent 𝓤 (sem 𝓛 ((mem B.R).own_at h l 0)) (⋆ 𝓛 (‵ (fat full_share B.mir l 0 (B.val h)) ∷ ‵ (B.R.own_val h (B.val h ∷ [])) ∷ []))
  unfolding part_of
  lies_out =
      qed 𝓛 (‵ ((mem B.R).own_at h l 0) ∷ []) ∵ fpick ! (λ vs. fsplit ! $
      spelt ! B.R (Is B.R) (shows 𝓛 B.R) (λ x. B.val x ∷ []) B.tells full_share h vs l 0 $
      rewrite ! 0 (λ (τs : List Ty). ‵ (cell_at full_share τs (B.val h ∷ []) l 0)) B.mir_is refl $
      use1 𝓛 (‵ (fat full_share B.mir l 0 (B.val h))) (𝓛.laws.raw_at full_share B.mir l 0 (B.val h)) $ done !)

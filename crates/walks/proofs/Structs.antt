-- Declared structs of plain data: any, or one of fields that a walk reads. The laws of each are those that are generated.
--     Data       a struct
--     Part       a field of a struct, which may be an array of structs
--     Holds      a struct of the fields Ps, whose values are read and put together; `held` is it as Data, `struct_of` one from what is generated
--     plainly, both_of     a struct, and a struct of two structs, as the walks of lent calls ask for them (`Plain.antt`)
use mathlib.Core.Path.{◌≡◌, refl, sym, ap, subst}
use Prim.Native.Nat.{ℕ}
use mathlib.Core.List.{List, [], ◌∷◌, map}
use seplogic.Ra.Ura.{Ura}
use lib.Dec.{T}
use mir.Syntax.{Ty, Sym, Lifetime}
use mir.Val.{Val, WT, has_ty}
use types.Logic.{Logic}
use denote.RattleType.{RattleType}
use denote.Laws.{Is, Tells, Makes, Lawful}
use denote.Array.{Array, array_val, Array-Tells, Array-Lawful}
use denote.Exit.{unchanged, each_of, yes}
use denote.Struct.Struct.{Plains, Struct, layout}
use denote.Struct.Field.{Field, rows, row_field, usize-field, array_field}
use denote.Struct.Values.{Values, intos}
use denote.Struct.Record.{Record}
use denote.Struct.Declared as Declared
use denote.Struct.Declared.{Declared, fields, shape}
use denote.Struct.Laws as LL
use denote.Param.Laws.{struct_copy, array_copy}
use denote.Param.Plain.{struct_plain, array_plain}
use denote.Param.Drops.{Array-Drops}
use Rattle.walks.proofs.Plain.{Plainly, Both}

pub record Data : Type 2 where
  pub type : Declared
  pub laws : LL.Laws type
  pub plain : Plains (fields type)
  pub copies : LL.Copyables type.parts

pub record Part : Type 2 where
  pub field : Field
  pub laws : LL.FLaws field
  pub plain : LL.Plain field
  pub copies : LL.Copyable field

module _ (X : Data) where
  abbrev pub row : RattleType
  row = Declared.row X.type

  abbrev pub ty : Ty
  ty = layout (shape X.type)

  abbrev pub val : row.Denot → Val
  val = LL.val X.type X.laws

  abbrev pub vals : row.Denot → List Val
  vals = LL.vals X.type X.laws

  abbrev lowered : LL.Lowered X.type
  lowered = record { mir = ty; lowered = val; layout_is = refl; val_is = LL.tells X.type X.laws }

  abbrev pub part : Part
  part = record {
    field = Declared.field X.type;
    laws = LL.field_laws X.type X.laws lowered;
    plain = LL.field_plain X.type X.plain;
    copies = LL.field_copy X.type X.copies;
  }

  pub tells : Tells row (Is row) vals
  tells = LL.tells X.type X.laws

  pub same : row.exit yes ≡ unchanged
  same = LL.still X.type X.copies yes

  pub array_same : (n : ℕ) → (Array row n).exit yes ≡ unchanged
  array_same n = ap each_of same

  module _ {M : Type 1} {𝓤 : Ura M} (𝓛 : Logic 𝓤) where
    pub makes : Makes 𝓛 row (Is row)
    makes = LL.makes X.type X.plain 𝓛

    pub lawful : Lawful 𝓛 row
    lawful = LL.lawful X.type X.laws 𝓛

    pub typed : (x : row.Denot) (v : Val) → Is row x (v ∷ []) → T (has_ty ty v) × WT v
    typed x v is = (lawful.typed x (v ∷ []) is).0

abbrev pub usize : Part
usize = record { field = usize-field; laws = LL.usize-laws; plain = LL.usize-plain; copies = LL.usize-copy }

abbrev pub array : Part → ℕ → Part
array P n = record {
  field = array_field P.field n;
  laws = LL.array_laws P.field P.laws n;
  plain = LL.array_plain P.field P.plain n;
  copies = LL.array_copy P.field P.copies n;
}

-- an array of a declared struct, as a field has it: over the structs themselves
abbrev pub array_of : Data → ℕ → Part
array_of X n = record {
  field = row_field (Array (row X) n);
  laws = record {
    val = λ xs. array_val (map (val X) xs);
    tells = Array-Tells (row X) (vals X) (tells X) n;
    low = λ xs. array_val (map (val X) xs);
    low-is = Array-Tells (row X) (vals X) (tells X) n;
    lawful = λ 𝓛. Array-Lawful 𝓛 (row X) (lawful X 𝓛) n;
    drops = λ 𝓛. Array-Drops 𝓛 (row X) (LL.drops X.type X.laws 𝓛) n;
  };
  plain = array_plain (row X) (struct_plain X.type X.plain) n;
  copies = array_copy (row X) (struct_copy X.type X.copies) n;
}

abbrev pub parts : List Part → List Field
parts [] = []
parts (P ∷ Ps) = P.field ∷ parts Ps

abbrev lawss : (Ps : List Part) → LL.Lawss (parts Ps)
lawss [] = tt
lawss (P ∷ Ps) = (P.laws, lawss Ps)

abbrev plains : (Ps : List Part) → Plains (rows (parts Ps))
plains [] = tt
plains (P ∷ Ps) = (P.plain, plains Ps)

abbrev copiess : (Ps : List Part) → LL.Copyables (parts Ps)
copiess [] = tt
copiess (P ∷ Ps) = (P.copies, copiess Ps)

pub record Holds (Ps : List Part) : Type 2 where
  pub name : Sym
  pub args : List Lifetime
  pub types : List RattleType
  pub D : Type 0
  pub values : D → Values (parts Ps)
  pub one : (x y : D) → intos (parts Ps) (values x) ≡ intos (parts Ps) (values y) → x ≡ y
  pub make : Values (parts Ps) → D
  pub made : (v : Values (parts Ps)) → values (make v) ≡ v

-- one that is generated
abbrev pub struct_of : {Ps : List Part} (N : Record) (values : N.D → Values (parts Ps))
    → ((x y : N.D) → intos (parts Ps) (values x) ≡ intos (parts Ps) (values y) → x ≡ y) → (make : Values (parts Ps) → N.D)
    → ((v : Values (parts Ps)) → values (make v) ≡ v) → Holds Ps
struct_of N values one make made = record { name = N.name; args = N.args; types = N.types; D = N.D; values = values; one = one; make = make; made = made }

abbrev pub held : {Ps : List Part} → Holds Ps → Data
held {Ps} S = record {
  type = record {
    name = S.name;
    args = S.args;
    types = S.types;
    parts = parts Ps;
    D = S.D;
    to = λ d. intos (parts Ps) (S.values d);
    to_one = S.one;
    as_values = S.values;
    to_is = λ d. refl;
    cover = record {
      Ghost = λ v. Unit {0};
      ghosts = λ d. tt;
      make = λ v g. S.make v;
      eta = λ d. S.one (S.make (S.values d)) d (ap (intos (parts Ps)) (S.made (S.values d)));
      beta = λ v g. S.made v;
    };
    propositions = λ v p q. refl;
  };
  laws = lawss Ps;
  plain = plains Ps;
  copies = copiess Ps;
}

-- what is put together has its relation, where its fields have theirs
pub is_made : {Ps : List Part} (S : Holds Ps) (v : Values (parts Ps)) (vs : List Val) → Is (Struct (shape (held S).type)) (intos (parts Ps) v) vs
    → Is (row (held S)) (S.make v) vs
is_made {Ps} S v vs = subst (λ (u : Values (parts Ps)). Is (Struct (shape (held S).type)) (intos (parts Ps) u) vs) (sym (S.made v))

-- ---- as the walks of lent calls ask for them
abbrev pub plainly : Data → Plainly
plainly X = record {
  R = row X;
  mir = ty X;
  mir_is = refl;
  val = val X;
  tells = tells X;
  makes = λ M 𝓤 𝓛. makes X 𝓛;
  typed = λ M 𝓤 𝓛. typed X 𝓛;
  copies = λ M 𝓤 𝓛. LL.copy X.type X.copies 𝓛;
  copied = λ M 𝓤 𝓛. LL.copied X.type X.copies 𝓛;
  still = LL.still X.type X.copies;
}

abbrev pub both_of : (B Q : Data) → Holds (part B ∷ part Q ∷ []) → Both (plainly B) (plainly Q)
both_of B Q O = record {
  R = row (held O);
  ν = O.name;
  first = λ r. (O.values r).0;
  second = λ r. (O.values r).1.0;
  both = λ t a. O.make (t, (a, tt));
  parts = λ t a. (λ i. (O.made (t, (a, tt)) i).0, λ i. (O.made (t, (a, tt)) i).1.0);
  tells = tells (held O);
  makes = λ M 𝓤 𝓛. makes (held O) 𝓛;
  typed = λ M 𝓤 𝓛 r v is. typed (held O) 𝓛 r v is;
  is_first = λ r vs is. (LL.owed (held O).type (held O).laws r vs is).0;
  is_second = λ r vs is. (LL.owed (held O).type (held O).laws r vs is).1.0;
  is_both = λ t a g is. is_made O (t, (a, tt)) _ ((val B t ∷ [], (val Q a ∷ [], tt)), (refl, (g, (is, tt))));
}

-- Numbers on lines of 12 bytes each: one line, and one line more behind others.
use Prim.Native.Nat.{ℕ, ◌+◌, ◌*◌, ◌<◌}
use native.Mathlib.Numerals.{add-one}
use native.Mathlib.Omega.{arith}
use mathlib.Core.Path.{◌≡◌, refl, sym, ap, ◌∙◌}
use mathlib.Core.List.{List, [], ◌∷◌, ◌++◌, append_assoc, append-nil}
use lib.ListN.{length, get_or, take, drop, length-append}
use lib.Seq.{length-take-le, take-suc}
use borrow.Rule.Slice.PartMut.{put_mid}
use Rattle.basics.proofs.Filled.{put_behind}
use Rattle.columns.specs.Columns.{column}
use Rattle.columns.proofs.ColumnLaws.{length_column}
use Rattle.number_lines.specs.Lines.{number_line, number_lines}

pub length_number : (v : ℕ) → length (number_line v) ≡ 12
unfolding number_line
length_number v = omega (arith, length-append (column 11 v) (10 ∷ []), length_column 11 v)

pub length_numbers : (ns : List ℕ) → length (number_lines ns) ≡ length ns * 12
unfolding number_lines
length_numbers [] = refl
length_numbers (v ∷ ns) = omega (arith, length-append (number_line v) (number_lines ns), length_number v, length_numbers ns)

pub numbers_append : (l m : List ℕ) → number_lines (l ++ m) ≡ number_lines l ++ number_lines m
unfolding number_lines
numbers_append [] m = refl
numbers_append (v ∷ l) m = ap (λ t. number_line v ++ t) (numbers_append l m) ∙ sym (append_assoc (number_line v) (number_lines l) (number_lines m))

-- the lines of ns at the front of what was lent
abbrev pub printed : List ℕ → List ℕ → List ℕ
printed ns lent = number_lines ns ++ drop (length (number_lines ns)) lent

-- the line of the next number goes behind those of the first i
pub numbers_more : (ns out₀ : List ℕ) (i k : ℕ) {out x : List ℕ} → i < length ns → k ≡ 12
    → out ≡ number_lines (take i ns) ++ drop (length (number_lines (take i ns))) out₀ → x ≡ number_line (get_or ns i 0)
    → put_mid (i * 12) k out x ≡ number_lines (take (i + 1) ns) ++ drop (length (number_lines (take (i + 1) ns))) out₀
unfolding number_lines
numbers_more ns out₀ i k {out} {x} h e p q =
    let before = number_lines (take i ns) in
    let line = number_line (get_or ns i 0) in
    let long : length before ≡ i * 12 = length_numbers (take i ns) ∙ ap (λ j. j * 12) (length-take-le i ns (omega arith)) in
    let more : number_lines (take (i + 1) ns) ≡ before ++ line = ap number_lines (ap (λ j. take j ns) (add-one i) ∙ take-suc ns i 0 h)
    ∙ numbers_append (take i ns) (get_or ns i 0 ∷ []) ∙ ap (λ t. before ++ t) (append-nil line) in
    (λ j. put_mid (sym long j) ((e ∙ sym (length_number (get_or ns i 0))) j) (p j) (q j)) ∙ put_behind before line out₀
    ∙ ap (λ t. t ++ drop (length t) out₀) (sym more)

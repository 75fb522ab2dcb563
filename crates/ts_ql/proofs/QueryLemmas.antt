-- Queries by their parts.
use Rattle.std.proofs.Common.{◌≡◌, ◌∙◌, sym, subst, refl, ℤ, w64, FitsSigned, to_z, of_z, false, List, [], ◌∷◌}
use Rattle.std.proofs.lemmas.Int.{to_z-of_z}
use Rattle.std.specs.List.Sorted.{IsStrictlySortedBy}
use Rattle.ts_core.specs.facts.Facts.{Text, text_cmp}
use Rattle.ts_core.specs.queries.Queries.{Condition}
use Rattle.ts_core.specs.declared.queries.fill.Fill.{Fill}
use Rattle.ts_core.specs.declared.queries.value.Function.TheVariants as functions
use Rattle.ts_ql.specs.Selects.{Projection, Select, function_name}
use Rattle.ts_ql.specs.Statements.{repeats}

abbrev pub made : Fill → List Projection → Text → Text → List Condition → ℤ → ℤ → ℤ → ℤ → List Text → Select
made f cs m v ks a b i o gs = record {
  columns = cs;
  fill = f;
  query = record { measurement = m; field = v; conditions = ks; from = a; to = b; interval = i; offset = o; group_tags = gs };
}

-- queries of equal parts are equal
pub same : (f : Fill) (cs ds : List Projection) (m n v w : Text) (ks ls : List Condition) (a b c d i j o p : ℤ) (gs hs : List Text)
    → cs ≡ ds → m ≡ n → v ≡ w → ks ≡ ls → a ≡ b → c ≡ d → i ≡ j → o ≡ p → gs ≡ hs → made f cs m v ks a c i o gs ≡ made f ds n w ls b d j p hs
same f cs ds m n v w ks ls a b c d i j o p gs hs e1 e2 e3 e4 e5 e6 e7 e8 e9 =
    λ k. made f (e1 k) (e2 k) (e3 k) (e4 k) (e5 k) (e6 k) (e7 k) (e8 k) (e9 k)

-- a number that fits is stored as itself
pub read : (z v : ℤ) → FitsSigned w64 z → z ≡ v → to_z w64 (of_z w64 z) ≡ v
read z v f e = to_z-of_z w64 z f ∙ e

pub none_sorted : (texts : List Text) → texts ≡ [] → IsStrictlySortedBy text_cmp texts
unfolding IsStrictlySortedBy
none_sorted texts e = subst (IsStrictlySortedBy text_cmp) (sym e) tt

pub one_count : (columns : List Projection) → columns ≡ record { function = functions.Count; name = function_name functions.Count } ∷ [] → repeats columns ≡ false
one_count columns e = subst (λ (cs : List Projection). repeats cs ≡ false) (sym e) refl

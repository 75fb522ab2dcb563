-- Columns of the same name, and the distance of two buckets.
use Rattle.std.proofs.Common.{◌≡◌, ℕ, ◌+◌, ◌<◌, ◌≤◌, ◌^◌, ◌||◌, Bool, true, false, Bor, List, [], ◌∷◌, length, get_or, drop, ap, sym, arith, ℤ, ◌-ℤ◌, unsigned_abs, codes, bytes_eq, FitsSigned, w64, to_z, of_z, ◌∙◌, refl}
use Rattle.std.proofs.lemmas.Int.{ints, to_z-of_z}
use Rattle.std.specs.Int.{w128}
use Rattle.std.proofs.lemmas.List.{at_drop_more}
use Rattle.std.proofs.lemmas.Map.Lookups.{exact_bytes}
use Rattle.std.proofs.lemmas.Map.Text.{is_eq-slice_cmp}
use Rattle.std.specs.BTreeSet.{insert_key}
use Rattle.std.specs.List.{list_any}
use Rattle.std.specs.Ordering.{is_eq, match_ordering}
use Rattle.std.specs.declared.cmp.Ordering.{Ordering}
use Rattle.std.specs.declared.cmp.Ordering.TheVariants.{Less, Equal, Greater}
use Rattle.ts_core.specs.facts.Facts.{Text, text_cmp}
use Rattle.ts_ql.specs.Selects.{Projection}
use Rattle.ts_ql.specs.Statements.{has_column, repeats}

-- ---- names

abbrev name_cmp : Bor Text → Bor Text → Ordering
name_cmp a b = text_cmp a.now b.now

-- the text is one of the names
abbrev pub has_name : List (Bor Text) → Text → Bool
has_name names text = list_any (λ (name : Bor Text). is_eq (text_cmp text name.now)) names

-- some column has one of the names
abbrev pub met : List (Bor Text) → List Projection → Bool
met names columns = list_any (λ (c : Projection). has_name names c.name) columns

-- the names before an index and the columns from it on decide if names repeat
abbrev pub IsToldFrom : List (Bor Text) → List Projection → ℕ → Type 0
IsToldFrom names columns i = (met names (drop i columns) || repeats (drop i columns)) ≡ repeats columns

or_twice : (a b : Bool) → (a || b) ≡ (a || (a || b))
or_twice true b = refl
or_twice false b = refl

or_swap : (a b c : Bool) → (a || (b || c)) ≡ (b || (a || c))
or_swap true true c = refl
or_swap true false c = refl
or_swap false b c = refl

or_both : (a b c d : Bool) → ((a || b) || (c || d)) ≡ ((a || c) || (b || d))
or_both true b c d = refl
or_both false true true d = refl
or_both false true false d = refl
or_both false false c d = refl

named_by : (order : Ordering) (text : Text) (name first : Bor Text) (rest inserted : List (Bor Text)) → name_cmp name first ≡ order → has_name inserted text ≡ (is_eq (text_cmp text name.now) || has_name rest text)
    → has_name (match_ordering order (name ∷ first ∷ rest) (first ∷ rest) (first ∷ inserted)) text ≡ (is_eq (text_cmp text name.now) || has_name (first ∷ rest) text)
named_by Less text name first rest inserted is e = refl
named_by Equal text name first rest inserted is e =
    let same : name.now ≡ first.now = exact_bytes name.now first.now is in
    rw same (or_twice (is_eq (text_cmp text first.now)) (has_name rest text))
named_by Greater text name first rest inserted is e =
    ap (λ (b : Bool). is_eq (text_cmp text first.now) || b) e ∙ or_swap (is_eq (text_cmp text first.now)) (is_eq (text_cmp text name.now)) (has_name rest text)

named : (names : List (Bor Text)) (name : Bor Text) (text : Text) → has_name (insert_key name_cmp names name) text ≡ (is_eq (text_cmp text name.now) || has_name names text)
named [] name text = refl
named (first ∷ rest) name text = named_by (name_cmp name first) text name first rest (insert_key name_cmp rest name) refl (named rest name text)

met_none : (columns : List Projection) → met [] columns ≡ false
met_none [] = refl
met_none (c ∷ cs) = met_none cs

met_more : (names : List (Bor Text)) (name : Bor Text) (columns : List Projection) → met (insert_key name_cmp names name) columns ≡ (has_column name.now columns || met names columns)
met_more names name [] = refl
met_more names name (c ∷ cs) =
    rw (named names name c.name, is_eq-slice_cmp c.name name.now, met_more names name cs)
    (or_both (bytes_eq c.name name.now) (has_name names c.name) (has_column name.now cs) (met names cs))

or_shift : (a b c : Bool) → ((a || b) || c) ≡ (b || (a || c))
or_shift true true c = refl
or_shift true false c = refl
or_shift false b c = refl

pub told_first : (columns : List Projection) → IsToldFrom [] columns 0
told_first columns = rw (met_none columns) refl

told_here : (names : List (Bor Text)) (columns : List Projection) (i : ℕ) (c : Projection) → i < length columns → c ≡ get_or columns i c → IsToldFrom names columns i
    → ((has_name names c.name || met names (drop (i + 1) columns)) || (bytes_eq c.name (codes "time") || has_column c.name (drop (i + 1) columns) || repeats (drop (i + 1) columns))) ≡ repeats columns
told_here names columns i c lt is told =
    let here : drop i columns ≡ get_or columns i c ∷ drop (i + 1) columns = at_drop_more (λ (l : List Projection). l) columns i c lt in
    rw (here, sym is) at told

pub told_more : (names : List (Bor Text)) (columns : List Projection) (i : ℕ) (c : Projection) (name : Bor Text) → i < length columns → c ≡ get_or columns i c → IsToldFrom names columns i
    → bytes_eq c.name (codes "time") ≡ false → has_name names c.name ≡ false → name.now ≡ c.name → IsToldFrom (insert_key name_cmp names name) columns (i + 1)
told_more names columns i c name lt is told other new e =
    let here = told_here names columns i c lt is told in
    let all = rw (other, new) at here in
    let rest = drop (i + 1) columns in
    rw (met_more names name rest, e) (or_shift (has_column c.name rest) (met names rest) (repeats rest) ∙ all)

-- ---- casts

pub wider : (z : ℤ) → FitsSigned w64 z → FitsSigned w128 z
wider z f = omega (arith, ints)

-- the bucket of a time near the epoch has an index near 0
pub near_bound : (index time : ℤ) → unsigned_abs time ≤ 2 ^ 64 → unsigned_abs index ≤ unsigned_abs time + 2 ^ 64 → unsigned_abs index ≤ 2 ^ 66
near_bound index time near h = omega arith

pub far_cast : (a b : ℤ) → unsigned_abs a ≤ 2 ^ 66 → unsigned_abs b ≤ 2 ^ 66 → to_z w128 (of_z w128 (to_z w128 (of_z w128 a) -ℤ to_z w128 (of_z w128 b))) ≡ a -ℤ b
far_cast a b ba bb =
    let fa : FitsSigned w128 a = omega (arith, ints) in
    let fb : FitsSigned w128 b = omega (arith, ints) in
    let fd : FitsSigned w128 (a -ℤ b) = omega (arith, ints) in
    rw (to_z-of_z w128 a fa, to_z-of_z w128 b fb, to_z-of_z w128 (a -ℤ b) fd) refl

pub far_fits : (a b : ℤ) → unsigned_abs a ≤ 2 ^ 66 → unsigned_abs b ≤ 2 ^ 66 → FitsSigned w128 (to_z w128 (of_z w128 a) -ℤ to_z w128 (of_z w128 b))
far_fits a b ba bb =
    let fa : FitsSigned w128 a = omega (arith, ints) in
    let fb : FitsSigned w128 b = omega (arith, ints) in
    let fd : FitsSigned w128 (a -ℤ b) = omega (arith, ints) in
    rw (to_z-of_z w128 a fa, to_z-of_z w128 b fb) fd

-- Columns of a view, which are those of the index by their ids, and the points of one of them.
use Rattle.std.proofs.Common.{◌≡◌, ℕ, zero, suc, ◌+◌, ◌<◌, Bool, ◌&&◌, true, false, cond, filter, List, [], ◌∷◌, length, replicate, map, get_or, refl, sym, ◌∙◌, ap, ap₂, subst, arith}
use Rattle.std.specs.List.{AllByRecursion}
use Rattle.std.specs.FinMap as finmap
use Rattle.std.proofs.lemmas.Bool.{and_parts}
use Rattle.std.proofs.lemmas.List.{length-replicate}
use Rattle.ts_core.specs.lists.Members.{Among}
use Rattle.ts_core.specs.facts.Facts.{Text, same_text, Column, is_of}
use Rattle.ts_core.proofs.facts.Ids.{same_text-eq}
use Rattle.ts_raw.specs.Indexed.{Indexed}
use Rattle.ts_raw.specs.Tagged.{has_tag, is_tagged}
use Rattle.ts_raw.proofs.RisingLemmas.{numbered_from}
use Rattle.ts_core.specs.store.StoreStates.{ColumnPoints}
use Rattle.ts_raw.specs.Columns.{PointMap, ColumnState}
use Rattle.ts_core.specs.lists.Numbered.{IsAt, numbers_where_from, numbers_where}
use Rattle.ts_store.specs.store.ColumnStates.{StoreContent, IsSoundContent, content_of, with_points, point_maps}
use Rattle.ts_store.specs.read.ViewResults.{ColumnRef, no_points, column_refs_from, column_refs_where, column_ref_in, column_ref_has, IsNamed, AreAllNamed}
use Rattle.ts_store.specs.rollup.Rollups.{RollupState}
use Rattle.ts_store.proofs.store.ColumnsLemmas.{its_columns}

-- ---- which columns

abbrev column_ref_by : (ℕ → Column) → ℕ → ColumnRef
column_ref_by f n = record { number = n; series = (f n).series }

numbers_column_refs : (p : Column → Bool) (f : ℕ → Column) (d : Column) (n : ℕ) (cs : List Column) (ms : List PointMap) → length ms ≡ length cs → ((k : ℕ) → k < length cs → f (n + k) ≡ get_or cs k d)
    → map (column_ref_by f) (numbers_where_from p n cs) ≡ column_refs_from p n (with_points cs ms)
numbers_column_refs p f d n [] ms l at = refl
numbers_column_refs p f d n (c ∷ cs) [] l at = absurd (omega (arith, l))
numbers_column_refs p f d n (c ∷ cs) (m ∷ ms) l at =
    let after : (k : ℕ) → k < length cs → f (n + 1 + k) ≡ get_or cs k d = λ k below. let e : n + 1 + k ≡ n + suc k = omega arith in ap f e ∙ at (suc k) (omega (arith, below)) in
    let rest = numbers_column_refs p f d (n + 1) cs ms (omega (arith, l)) after in
    let e : n ≡ n + 0 = omega arith in
    let here : f n ≡ c = ap f e ∙ at 0 (omega arith) in
    elim (p c) as (λ b. map (column_ref_by f) (cond b (n ∷ numbers_where_from p (n + 1) cs) (numbers_where_from p (n + 1) cs)) ≡ cond b (record { number = n; series = c.series } ∷ column_refs_from p (n + 1) (with_points cs ms)) (column_refs_from p (n + 1) (with_points cs ms))) [
      | true ↦ ap₂ (λ (s : ColumnRef) (ss : List ColumnRef). s ∷ ss) (ap (λ (x : Column). record { number = n; series = x.series }) here) rest
      | false ↦ rest
    ]

pub numbers-column_refs : (p : Column → Bool) (cs : List Column) (ms : List PointMap) → length ms ≡ length cs → map (column_ref_in cs) (numbers_where p cs) ≡ column_refs_where p (with_points cs ms)
numbers-column_refs p cs ms l =
    let none : Column = record { series = record { measurement = []; tags = [] }; field = [] } in
    numbers_column_refs p (λ i. get_or cs i none) none 0 cs ms l (λ k _. let e : 0 + k ≡ k = omega arith in ap (λ i. get_or cs i none) e)

numbers_below : {X : Type 0} (p : X → Bool) (n m : ℕ) (cs : List X) → n + length cs ≡ m → AllByRecursion (λ i. i < m) (numbers_where_from p n cs)
numbers_below p n m [] e = tt
numbers_below p n m (c ∷ cs) e =
    let rest = numbers_below p (n + 1) m cs (omega arith) in
    elim (p c) as (λ b. AllByRecursion (λ i. i < m) (cond b (n ∷ numbers_where_from p (n + 1) cs) (numbers_where_from p (n + 1) cs))) [
      | true ↦ (omega arith, rest)
      | false ↦ rest
    ]

pub numbers-below : {X : Type 0} (p : X → Bool) (cs : List X) → AllByRecursion (λ i. i < length cs) (numbers_where p cs)
numbers-below p cs = numbers_below p 0 (length cs) cs (omega arith)

column_refs_there : (p : Column → Bool) (n m : ℕ) (cs : List ColumnPoints) → n + length cs ≡ m → AllByRecursion (λ (s : ColumnRef). s.number < m) (column_refs_from p n cs)
column_refs_there p n m [] e = tt
column_refs_there p n m (c ∷ cs) e =
    let rest = column_refs_there p (n + 1) m cs (omega arith) in
    elim (p c.column) as (λ b. AllByRecursion (λ (s : ColumnRef). s.number < m) (cond b (record { number = n; series = c.column.series } ∷ column_refs_from p (n + 1) cs) (column_refs_from p (n + 1) cs))) [
      | true ↦ (omega arith, rest)
      | false ↦ rest
    ]

-- each of them is there
pub column_refs-there : (p : Column → Bool) (cs : List ColumnPoints) → AllByRecursion (λ (s : ColumnRef). s.number < length cs) (column_refs_where p cs)
column_refs-there p cs = column_refs_there p 0 (length cs) cs (omega arith)

-- those that have a tag are left of all by a filter
column_refs_filter : (p : Column → Bool) (tag value : Text) (n : ℕ) (cs : List ColumnPoints) → column_refs_from (λ c. p c && has_tag tag value c.series) n cs ≡ filter (column_ref_has tag value) (column_refs_from p n cs)
column_refs_filter p tag value n [] = refl
column_refs_filter p tag value n (c ∷ cs) =
    let column_ref : ColumnRef = record { number = n; series = c.column.series } in
    let all : List ColumnRef = column_refs_from p (n + 1) cs in
    let some : List ColumnRef = column_refs_from (λ (x : Column). p x && has_tag tag value x.series) (n + 1) cs in
    let rest : some ≡ filter (column_ref_has tag value) all = column_refs_filter p tag value (n + 1) cs in
    elim (p c.column) as (λ b. cond (b && has_tag tag value c.column.series) (column_ref ∷ some) some ≡ filter (column_ref_has tag value) (cond b (column_ref ∷ all) all)) [
      | true ↦ ap (λ (ss : List ColumnRef). cond (has_tag tag value c.column.series) (column_ref ∷ ss) ss) rest
      | false ↦ rest
    ]

narrowed : (m f tag value : Text) (cs : List Column) → map (column_ref_in cs) (numbers_where (is_tagged m f tag value) cs) ≡ filter (column_ref_has tag value) (map (column_ref_in cs) (numbers_where (is_of m f) cs))
narrowed m f tag value cs =
    let none : List PointMap = replicate (length cs) finmap.empty in
    let as_many : length none ≡ length cs = length-replicate (length cs) finmap.empty in
    numbers-column_refs (is_tagged m f tag value) cs none as_many
    ∙ column_refs_filter (is_of m f) tag value 0 (with_points cs none)
    ∙ ap (filter (column_ref_has tag value)) (sym (numbers-column_refs (is_of m f) cs none as_many))

-- the names of one of them are those of all
named_as_first : (m f m' f' : Text) (cs : List Column) (n : ℕ) → Among n (numbers_where (is_of m f) cs) → ((c : Column) → IsAt cs n c → IsNamed m' f' c) → (m ≡ m') × (f ≡ f')
named_as_first m f m' f' cs n among names =
    let s = numbered_from (is_of m f) 0 cs n among in
    let c : Column = s.member in
    let index_is : s.index ≡ n = (let e = s.is in omega (arith, e)) in
    let named : IsNamed m' f' c = names c (subst (λ k. IsAt cs k c) index_is s.at) in
    let parts = and_parts (same_text c.series.measurement m) (same_text c.field f) s.passes in
    (sym (same_text-eq c.series.measurement m parts.0) ∙ sym named.measurement_is, sym (same_text-eq c.field f parts.1) ∙ sym named.field_is)

-- those that the index finds by a tag are those of all that a filter leaves
pub tagged_column_refs : (cs : List Column) (ids found : List ℕ) (n : ℕ) (m f tag value : Text) → AreAllNamed cs ids → Among n ids → ((c : Column) → IsAt cs n c → IsNamed m f c)
    → found ≡ numbers_where (is_tagged m f tag value) cs → map (column_ref_in cs) found ≡ filter (column_ref_has tag value) (map (column_ref_in cs) ids)
tagged_column_refs cs ids found n m f tag value whole among names is =
    let same = named_as_first whole.measurement whole.field m f cs n (subst (λ (ns : List ℕ). Among n ns) whole.are among) names in
    let all : ids ≡ numbers_where (is_of m f) cs = whole.are ∙ ap₂ (λ (x y : Text). numbers_where (is_of x y) cs) same.0 same.1 in
    ap (map (column_ref_in cs)) is ∙ narrowed m f tag value cs ∙ ap (λ (ns : List ℕ). filter (column_ref_has tag value) (map (column_ref_in cs) ns)) (sym all)

-- ---- which points

points_there : (cs : List Column) (ss : List ColumnState) (n : ℕ) (s : ColumnState) → length ss ≡ length cs → n < length ss → s ≡ get_or ss n s → finmap.entries s.points ≡ (get_or (with_points cs (point_maps ss)) n no_points).points
points_there (c ∷ cs) (t ∷ ss) zero s l there at = ap (λ (x : ColumnState). finmap.entries x.points) at
points_there (c ∷ cs) (t ∷ ss) (suc n) s l there at = points_there cs ss n s (omega (arith, l)) (omega (arith, there)) at
points_there _ _ n s l there at = absurd (omega (arith, l, there))

-- a column's points are those that are shown
pub points_shown : (index : Indexed) (ss : List ColumnState) (us : List RollupState) (k : StoreContent) (n : ℕ) (s : ColumnState) → IsSoundContent index ss → content_of index ss us ≡ k → n < length k.columns → s ≡ get_or ss n s
    → finmap.entries s.points ≡ (get_or k.columns n no_points).points
points_shown index ss us k n s held view there at =
    let many = its_columns index ss us k held view in
    points_there index.columns ss n s held.each (omega (arith, there, many)) at ∙ ap (λ (h : StoreContent). (get_or h.columns n no_points).points) view

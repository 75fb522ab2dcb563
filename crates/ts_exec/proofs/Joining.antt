-- Shares of adjacent pieces of one source: those of the joined piece in another order, so with the same groups, and the
-- same rows if none is left out.
use Rattle.std.proofs.Common.{◌≡◌, ℕ, ◌+◌, ◌<◌, ◌≤◌, ◌^◌, ◌==◌, nat_lt, ℤ, pos, ◌≤ℤ◌, int_le, Bool, true, false, cond, not, ◌&&◌, List, [], ◌∷◌, ◌++◌, map, filter, get_or, Option, Some, None, refl, sym, ◌∙◌, ap, ap₂, subst, true≢false, ltb-true, arith}
use Rattle.std.proofs.lemmas.Bool.{and_parts}
use Rattle.std.specs.List.{list_all, AllByRecursion}
use Rattle.std.specs.Ordering.{int_eq, int_cmp}
use Rattle.std.specs.FinMap.{int_cmp-IsAntisymmetric}
use Rattle.ts_core.proofs.facts.Ids.{equal_of, same_text-eq}
use Rattle.ts_core.proofs.lists.Comparisons.{le_from}
use Rattle.ts_core.proofs.plans.AssembledRows.{within-part, part_under}
use Rattle.ts_core.proofs.lists.ListSteps.{all_append}
use Rattle.ts_core.proofs.store.Cuts.{Part}
use Rattle.ts_core.proofs.aggregates.AggregatesLemmas.{merged_within-fits}
use Rattle.ts_core.specs.facts.Facts.{Text, is_of, is_within}
use Rattle.ts_core.specs.facts.Tags.{tag_values}
use Rattle.ts_core.specs.aggregates.Partials.{fold_by}
use Rattle.ts_core.specs.aggregates.Aggregates.{Aggregate, empty_aggregate, merged, merged_within}
use Rattle.ts_core.specs.aggregates.MergeLaws.{aggregate_laws}
use Rattle.ts_core.specs.queries.Queries.{Query, meets, matches}
use Rattle.ts_core.specs.plans.Pieces.{Source, Raw, Rollup, Piece, start_of, IsBoundary}
use Rattle.ts_core.specs.plans.Plans.{extended}
use Rattle.ts_core.specs.plans.Assembly.{representative, rule_shown}
use Rattle.ts_core.specs.settings.Settings.{Rule}
use Rattle.ts_core.specs.store.Cells.{Cell}
use Rattle.ts_core.specs.store.Marks.{index_of}
use Rattle.ts_core.specs.store.StoreStates.{ColumnPoints, RuleCells, total_in}
use Rattle.ts_core.specs.store.Views.{ViewState}
use Rattle.ts_store.specs.read.PointsRead.{points_between}
use Rattle.ts_store.specs.read.ViewResults.{ColumnRef, column_refs_where, no_points, points_at, SeenCell, with_parts, cells_within}
use Rattle.ts_exec.specs.JoinedPieces.{is_same_source, are_adjacent, joined_onto, is_small, are_small, has_small_parts, have_small_parts}
use Rattle.ts_exec.specs.RowParts.{BucketGrid, bucket_grid}
use Rattle.ts_exec.specs.GroupTables.{is_cell_taken}
use Rattle.ts_exec.specs.Shares.{Share, is_share, total_at, point_share, column_ref_shares, column_refs_shares, cell_share, rule_shares, source_shares, pieces_shares}
use Rattle.ts_exec.proofs.Linked.{rule-shares}
use Rattle.ts_exec.proofs.Shares.{held_at, held-fits}

-- ---- adjacent pieces

record AreAdjacent (p b : Piece) : Type 0 where
  same : p.source ≡ b.source
  meet : p.to ≡ b.from
  low : p.from ≤ℤ p.to
  high : b.from ≤ℤ b.to

one_source : (s t : Source) → is_same_source s t ≡ true → s ≡ t
one_source Raw Raw e = refl
one_source Raw (Rollup other) e = absurd (true≢false (sym e))
one_source (Rollup name) Raw e = absurd (true≢false (sym e))
one_source (Rollup name) (Rollup other) e = ap Rollup (same_text-eq name other e)

adjacent : (p b : Piece) → are_adjacent p b ≡ true → AreAdjacent p b
adjacent p b e =
    let both = and_parts (is_same_source p.source b.source) (int_eq p.to b.from && (int_le p.from p.to && int_le b.from b.to)) e in
    let meet = and_parts (int_eq p.to b.from) (int_le p.from p.to && int_le b.from b.to) both.1 in
    let ends = and_parts (int_le p.from p.to) (int_le b.from b.to) meet.1 in
    record {
      same = one_source p.source b.source both.0;
      meet = int_cmp-IsAntisymmetric p.to b.from (equal_of (int_cmp p.to b.from) meet.0);
      low = le_from p.from p.to ends.0;
      high = le_from b.from b.to ends.1;
    }

-- ---- pieces of cells, which start and end at boundaries of their rule

pub record AreBoundaries (r : RuleCells) (a b : ℤ) : Type 0 where
  pub wide : pos 1 ≤ℤ r.rule.interval
  pub starts : IsBoundary r.rule a
  pub ends : IsBoundary r.rule b

abbrev pub HasBoundaries : ViewState → Source → ℤ → ℤ → Type 0
HasBoundaries seen s a b = (name : Text) → s ≡ Rollup name → (r : RuleCells) × (rule_shown name seen.rules ≡ Some r) × AreBoundaries r a b

abbrev pub HaveBoundaries : ViewState → List Piece → Type 0
HaveBoundaries seen ps = AllByRecursion (λ (p : Piece). HasBoundaries seen p.source p.from p.to) ps

one_rule : (r s : RuleCells) → Some r ≡ Some s → r ≡ s
one_rule r s e = cc

-- from a to b and from b to c
ends_at : (seen : ViewState) (s : Source) (a b c : ℤ) → HasBoundaries seen s a b → HasBoundaries seen s b c → HasBoundaries seen s a c
ends_at seen s a b c left right name e =
    let x = left name e in
    let y = right name e in
    let same : y.0 ≡ x.0 = one_rule y.0 x.0 (sym y.1 ∙ x.1) in
    (x.0, x.1, record { wide = x.2.wide; starts = x.2.starts; ends = subst (λ (r : RuleCells). IsBoundary r.rule c) same y.2.ends })

next_boundaries : (seen : ViewState) (p b : Piece) → AreAdjacent p b → HasBoundaries seen b.source b.from b.to → HasBoundaries seen p.source p.to b.to
next_boundaries seen p b w h = subst (λ (s : Source). HasBoundaries seen s p.to b.to) (sym w.same) (subst (λ t. HasBoundaries seen b.source t b.to) (sym w.meet) h)

-- in both parts, or in none
part_and : (n p q r : Bool) → Part p q r → Part (p && n) (q && n) (r && n)
part_and true true false true h = tt
part_and true false true true h = tt
part_and true false false false h = tt
part_and false true false true h = tt
part_and false false true true h = tt
part_and false false false false h = tt
part_and n true true r h = absurd h
part_and n true false false h = absurd h
part_and n false true false h = absurd h
part_and n false false true h = absurd h

-- ---- what shares add up to, in any order

module _ {M : Type 0} (empty : M) (merge : M → M → M) (unit : (x : M) → merge empty x ≡ x) (comm : (x y : M) → merge x y ≡ merge y x) (assoc : (x y z : M) → merge (merge x y) z ≡ merge x (merge y z)) (one : Share → M) where
  abbrev sum_of : List Share → M
  sum_of ss = fold_by empty merge one ss

  sum_append : (xs ys : List Share) → sum_of (xs ++ ys) ≡ merge (sum_of xs) (sum_of ys)
  sum_append [] ys = sym (unit (sum_of ys))
  sum_append (x ∷ xs) ys = ap (merge (one x)) (sum_append xs ys) ∙ sym (assoc (one x) (sum_of xs) (sum_of ys))

  turned : (x y z : M) → merge x (merge y z) ≡ merge y (merge x z)
  turned x y z = sym (assoc x y z) ∙ ap (λ a. merge a z) (comm x y) ∙ assoc y x z

  crossed : (u v x y : M) → merge (merge u v) (merge x y) ≡ merge (merge u x) (merge v y)
  crossed u v x y = assoc u v (merge x y) ∙ ap (merge u) (turned v x y) ∙ sym (assoc u x (merge v y))

  point_step : (p q r : Bool) → Part p q r → (x u v w : M) → w ≡ merge u v → cond r (merge x w) w ≡ merge (cond p (merge x u) u) (cond q (merge x v) v)
  point_step true false true h x u v w e = ap (merge x) e ∙ sym (assoc x u v)
  point_step false true true h x u v w e = ap (merge x) e ∙ turned x u v
  point_step false false false h x u v w e = e
  point_step true true r h x u v w e = absurd h
  point_step true false false h x u v w e = absurd h
  point_step false true false h x u v w e = absurd h
  point_step false false true h x u v w e = absurd h

  module _ (q : Query) (a b c : ℤ) (low : a ≤ℤ b) (high : b ≤ℤ c) where
    points_halves : (share : ℤ × ℤ → Share) (ps : List (ℤ × ℤ)) → sum_of (map share (points_between a c ps)) ≡ merge (sum_of (map share (points_between a b ps))) (sum_of (map share (points_between b c ps)))
    points_halves share [] = sym (unit empty)
    points_halves share (p ∷ ps) =
        into (is_within a c p.0) (points_between a c ps)
        ∙ point_step (is_within a b p.0) (is_within b c p.0) (is_within a c p.0) (within-part a b c p.0 low high) (one (share p)) (sum_of (map share (points_between a b ps))) (sum_of (map share (points_between b c ps))) (sum_of (map share (points_between a c ps))) (points_halves share ps)
        ∙ sym (ap₂ merge (into (is_within a b p.0) (points_between a b ps)) (into (is_within b c p.0) (points_between b c ps)))
      where
        into : (z : Bool) (xs : List (ℤ × ℤ)) → sum_of (map share (cond z (p ∷ xs) xs)) ≡ cond z (merge (one (share p)) (sum_of (map share xs))) (sum_of (map share xs))
        into true xs = refl
        into false xs = refl

    column_halves : (cs : List ColumnPoints) (s : ColumnRef) → sum_of (column_ref_shares q cs a c s) ≡ merge (sum_of (column_ref_shares q cs a b s)) (sum_of (column_ref_shares q cs b c s))
    column_halves cs s =
        let share : ℤ × ℤ → Share = point_share (bucket_grid q) (tag_values q.group_tags s.series) in
        elim (list_all (meets s.series) q.conditions) as (λ z. sum_of (cond z (map share (points_at cs s.number a c)) []) ≡ merge (sum_of (cond z (map share (points_at cs s.number a b)) [])) (sum_of (cond z (map share (points_at cs s.number b c)) []))) [
          | true ↦ points_halves share (get_or cs s.number no_points).points
          | false ↦ sym (unit empty)
        ]

    columns_halves : (cs : List ColumnPoints) (ss : List ColumnRef) → sum_of (column_refs_shares q cs a c ss) ≡ merge (sum_of (column_refs_shares q cs a b ss)) (sum_of (column_refs_shares q cs b c ss))
    columns_halves cs [] = sym (unit empty)
    columns_halves cs (s ∷ ss) =
        sum_append (column_ref_shares q cs a c s) (column_refs_shares q cs a c ss)
        ∙ ap₂ merge (column_halves cs s) (columns_halves cs ss)
        ∙ crossed (sum_of (column_ref_shares q cs a b s)) (sum_of (column_ref_shares q cs b c s)) (sum_of (column_refs_shares q cs a b ss)) (sum_of (column_refs_shares q cs b c ss))
        ∙ sym (ap₂ merge (sum_append (column_ref_shares q cs a b s) (column_refs_shares q cs a b ss)) (sum_append (column_ref_shares q cs b c s) (column_refs_shares q cs b c ss)))

  -- ---- cells

  module _ (q : Query) (r : RuleCells) (a b c : ℤ) (low : a ≤ℤ b) (high : b ≤ℤ c) where
    abbrev taken : ℤ → ℤ → Cell → Bool
    taken x y k = is_cell_taken q r.rule x y (with_parts r.parts k)

    abbrev share_of : Cell → Share
    share_of k = cell_share q r.rule (with_parts r.parts k)

    taken_part : (k : Cell) → Part (taken a b k) (taken b c k) (taken a c k)
    taken_part k =
        let t : ℤ = start_of r.rule k.index in
        let m : Bool = matches q (representative r.rule k) in
        part_and (not ((total_in (r.parts k)).count == 0)) (m && is_within a b t) (m && is_within b c t) (m && is_within a c t)
        (part_under m (is_within a b t) (is_within b c t) (is_within a c t) (within-part a b c t low high))

    cells_halves : (ks : List Cell) → sum_of (map share_of (filter (taken a c) ks)) ≡ merge (sum_of (map share_of (filter (taken a b) ks))) (sum_of (map share_of (filter (taken b c) ks)))
    cells_halves [] = sym (unit empty)
    cells_halves (k ∷ ks) =
        into (taken a c k) (filter (taken a c) ks)
        ∙ point_step (taken a b k) (taken b c k) (taken a c k) (taken_part k) (one (share_of k)) (sum_of (map share_of (filter (taken a b) ks))) (sum_of (map share_of (filter (taken b c) ks))) (sum_of (map share_of (filter (taken a c) ks))) (cells_halves ks)
        ∙ sym (ap₂ merge (into (taken a b k) (filter (taken a b) ks)) (into (taken b c k) (filter (taken b c) ks)))
      where
        into : (z : Bool) (xs : List Cell) → sum_of (map share_of (cond z (k ∷ xs) xs)) ≡ cond z (merge (one (share_of k)) (sum_of (map share_of xs))) (sum_of (map share_of xs))
        into true xs = refl
        into false xs = refl

    rule_halves : AreBoundaries r a b → AreBoundaries r b c → sum_of (rule_shares q a c (Some r)) ≡ merge (sum_of (rule_shares q a b (Some r))) (sum_of (rule_shares q b c (Some r)))
    rule_halves left right =
        ap sum_of (rule-shares q r a c left.wide left.starts right.ends)
        ∙ cells_halves r.cells
        ∙ sym (ap₂ (λ xs ys. merge (sum_of xs) (sum_of ys)) (rule-shares q r a b left.wide left.starts left.ends) (rule-shares q r b c left.wide right.starts right.ends))

  -- ---- pieces

  module _ (seen : ViewState) (q : Query) where
    source_halves : (s : Source) (a b c : ℤ) → a ≤ℤ b → b ≤ℤ c → HasBoundaries seen s a b → HasBoundaries seen s b c
        → sum_of (source_shares seen q s a c) ≡ merge (sum_of (source_shares seen q s a b)) (sum_of (source_shares seen q s b c))
    source_halves Raw a b c low high left right = columns_halves q a b c low high seen.columns (column_refs_where (is_of q.measurement q.field) seen.columns)
    source_halves (Rollup name) a b c low high left right =
        let x = left name refl in
        let y = right name refl in
        let next : AreBoundaries x.0 b c = subst (λ (r : RuleCells). AreBoundaries r b c) (one_rule y.0 x.0 (sym y.1 ∙ x.1)) y.2 in
        subst (λ (o : Option RuleCells). sum_of (rule_shares q a c o) ≡ merge (sum_of (rule_shares q a b o)) (sum_of (rule_shares q b c o))) (sym x.1) (rule_halves q x.0 a b c low high x.2 next)

    adjacent_same : (p b : Piece) → AreAdjacent p b → HasBoundaries seen p.source p.from p.to → HasBoundaries seen b.source b.from b.to
        → sum_of (source_shares seen q p.source p.from b.to) ≡ merge (sum_of (source_shares seen q p.source p.from p.to)) (sum_of (source_shares seen q b.source b.from b.to))
    adjacent_same p b w left right =
        let high : p.to ≤ℤ b.to = subst (λ t. t ≤ℤ b.to) (sym w.meet) w.high in
        source_halves p.source p.from p.to b.to w.low high left (next_boundaries seen p b w right)
        ∙ ap₂ (λ s t. merge (sum_of (source_shares seen q p.source p.from p.to)) (sum_of (source_shares seen q s t b.to))) w.same w.meet

    pub joined_same : (p : Piece) (bs : List Piece) → HaveBoundaries seen (p ∷ bs) → sum_of (pieces_shares seen q (joined_onto p bs)) ≡ sum_of (pieces_shares seen q (p ∷ bs))
    joined_same p [] h = refl
    joined_same p (b ∷ bs) h =
        let own : List Share = source_shares seen q p.source p.from p.to in
        let next : List Share = source_shares seen q b.source b.from b.to in
        let both : List Share = source_shares seen q p.source p.from b.to in
        let rest : List Share = pieces_shares seen q bs in
        elim (are_adjacent p b) as (λ z. are_adjacent p b ≡ z → sum_of (pieces_shares seen q (cond z (joined_onto (extended p b) bs) (p ∷ joined_onto b bs))) ≡ sum_of (pieces_shares seen q (p ∷ b ∷ bs))) [
          | true ↦ λ e.
              let w = adjacent p b e in
              let reach : HasBoundaries seen p.source p.from b.to = ends_at seen p.source p.from p.to b.to h.0 (next_boundaries seen p b w h.1.0) in
              joined_same (extended p b) bs (reach, h.1.1)
              ∙ sum_append both rest
              ∙ ap (λ m. merge m (sum_of rest)) (adjacent_same p b w h.0 h.1.0)
              ∙ assoc (sum_of own) (sum_of next) (sum_of rest)
              ∙ sym (sum_append own (next ++ rest) ∙ ap (merge (sum_of own)) (sum_append next rest))
          | false ↦ λ e.
              sum_append own (pieces_shares seen q (joined_onto b bs))
              ∙ ap (merge (sum_of own)) (joined_same b bs h.1)
              ∙ sym (sum_append own (pieces_shares seen q (b ∷ bs)))
        ] refl

-- ---- small shares

abbrev IsSmall : Share → Type 0
IsSmall s = s.part.count < 2 ^ 61

one_small : (k : ℕ) → k ≡ 1 → k < 2 ^ 61
one_small k e = omega arith

points_small : (grid : BucketGrid) (x : List Text) (ps : List (ℤ × ℤ)) → AllByRecursion IsSmall (map (point_share grid x) ps)
points_small grid x [] = tt
points_small grid x (p ∷ ps) = (one_small (point_share grid x p).part.count refl, points_small grid x ps)

columns_small : (q : Query) (cs : List ColumnPoints) (a b : ℤ) (ss : List ColumnRef) → AllByRecursion IsSmall (column_refs_shares q cs a b ss)
columns_small q cs a b [] = tt
columns_small q cs a b (s ∷ ss) =
    let values : List Text = tag_values q.group_tags s.series in
    let ps : List (ℤ × ℤ) = points_at cs s.number a b in
    let own : AllByRecursion IsSmall (column_ref_shares q cs a b s) =
    elim (list_all (meets s.series) q.conditions) as (λ z. AllByRecursion IsSmall (cond z (map (point_share (bucket_grid q) values) ps) [])) [
      | true ↦ points_small (bucket_grid q) values ps
      | false ↦ tt
    ] in
    all_append IsSmall (column_ref_shares q cs a b s) (column_refs_shares q cs a b ss) own (columns_small q cs a b ss)

cells_small : (q : Query) (r : Rule) (a b : ℤ) (cs : List SeenCell) → list_all is_small cs ≡ true → AllByRecursion IsSmall (map (cell_share q r) (filter (is_cell_taken q r a b) cs))
cells_small q r a b [] h = tt
cells_small q r a b (c ∷ cs) h =
    let both = and_parts (is_small c) (list_all is_small cs) h in
    let rest = cells_small q r a b cs both.1 in
    elim (is_cell_taken q r a b c) as (λ z. AllByRecursion IsSmall (map (cell_share q r) (cond z (c ∷ filter (is_cell_taken q r a b) cs) (filter (is_cell_taken q r a b) cs)))) [
      | true ↦ (ltb-true (total_in c.parts).count (2 ^ 61) both.0, rest)
      | false ↦ rest
    ]

rule_small : (q : Query) (a b : ℤ) (o : Option RuleCells) → are_small a b o ≡ true → AllByRecursion IsSmall (rule_shares q a b o)
rule_small q a b None h = tt
rule_small q a b (Some r) h = cells_small q r.rule a b (cells_within r (index_of r.rule a) (index_of r.rule b)) h

source_small : (seen : ViewState) (q : Query) (s : Source) (a b : ℤ) → has_small_parts seen s a b ≡ true → AllByRecursion IsSmall (source_shares seen q s a b)
source_small seen q Raw a b h = columns_small q seen.columns a b (column_refs_where (is_of q.measurement q.field) seen.columns)
source_small seen q (Rollup name) a b h = rule_small q a b (rule_shown name seen.rules) h

pieces_small : (seen : ViewState) (q : Query) (ps : List Piece) → have_small_parts seen ps ≡ true → AllByRecursion IsSmall (pieces_shares seen q ps)
pieces_small seen q [] h = tt
pieces_small seen q (p ∷ ps) h =
    let both = and_parts (has_small_parts seen p.source p.from p.to) (have_small_parts seen ps) h in
    all_append IsSmall (source_shares seen q p.source p.from p.to) (pieces_shares seen q ps) (source_small seen q p.source p.from p.to both.0) (pieces_small seen q ps both.1)

-- ---- a bucket of a group

up_to : (l m n : ℕ) → l ≤ m → m ≤ n → l ≤ n
up_to l m n a b = omega arith

below : (l m n : ℕ) → l ≤ m → m < n → l < n
below l m n a b = omega arith

few_none : (m : ℕ) → m < 2 ^ 61 → m + 0 ≤ 2 ^ 62
few_none m a = omega arith

few_both : (m k : ℕ) → m < 2 ^ 61 → k < 2 ^ 61 → m + k ≤ 2 ^ 62
few_both m k a b = omega arith

regrouped : (m k l n : ℕ) → (m + k) + l ≤ n → m + (k + l) ≤ n
regrouped m k l n a = omega arith

grown : (a x : Aggregate) → x.count ≤ (merged_within a x).count
grown a x = elim (nat_lt (2 ^ 62) (x.count + a.count)) as (λ b. x.count ≤ (cond b x (merged x a)).count) [ true ↦ omega arith | false ↦ omega arith ]

module _ (g : List Text) (j : ℕ) where
  held_grows : (ss : List Share) (x : Aggregate) → x.count ≤ (held_at g j ss x).count
  held_grows [] x = omega arith
  held_grows (s ∷ ss) x =
      let next : Aggregate = cond (is_share g j s) (merged_within s.part x) x in
      let step : x.count ≤ next.count = elim (is_share g j s) as (λ b. x.count ≤ (cond b (merged_within s.part x) x).count) [ true ↦ grown s.part x | false ↦ omega arith ] in
      up_to x.count next.count (held_at g j ss next).count step (held_grows ss next)

  -- where the bucket has room, none of the shares was left out
  small_fit : (ss : List Share) (x : Aggregate) → AllByRecursion IsSmall ss → (held_at g j ss x).count < 2 ^ 61 → x.count + (total_at g j ss).count ≤ 2 ^ 62
  small_fit [] x small h = few_none x.count h
  small_fit (s ∷ ss) x small h =
      elim (is_share g j s) as (λ b. (held_at g j ss (cond b (merged_within s.part x) x)).count < 2 ^ 61
      → x.count + (fold_by empty_aggregate merged (λ (z : Share). z.part) (cond b (s ∷ filter (is_share g j) ss) (filter (is_share g j) ss))).count ≤ 2 ^ 62) [
        | true ↦ λ k.
            let all = up_to x.count (merged_within s.part x).count (held_at g j ss (merged_within s.part x)).count (grown s.part x) (held_grows ss (merged_within s.part x)) in
            let room : x.count < 2 ^ 61 = below x.count (held_at g j ss (merged_within s.part x)).count (2 ^ 61) all k in
            let fits : merged_within s.part x ≡ merged x s.part = merged_within-fits s.part x (few_both x.count s.part.count room small.0) in
            regrouped x.count s.part.count (total_at g j ss).count (2 ^ 62) (small_fit ss (merged x s.part) small.1 (subst (λ (y : Aggregate). (held_at g j ss y).count < 2 ^ 61) fits k))
        | false ↦ λ k. small_fit ss x small.1 k
      ] h

  -- so the order doesn't matter
  small_held : (xs ys : List Share) (x : Aggregate) → AllByRecursion IsSmall xs → total_at g j xs ≡ total_at g j ys → (held_at g j xs x).count < 2 ^ 61 → held_at g j xs x ≡ held_at g j ys x
  small_held xs ys x small e h =
      let fits : x.count + (total_at g j xs).count ≤ 2 ^ 62 = small_fit xs x small h in
      held-fits g j xs x fits ∙ ap (merged x) e ∙ sym (held-fits g j ys x (subst (λ (t : Aggregate). x.count + t.count ≤ 2 ^ 62) e fits))

  abbrev part_in : Share → Aggregate
  part_in s = cond (is_share g j s) s.part empty_aggregate

  total_is : (ss : List Share) → total_at g j ss ≡ fold_by empty_aggregate merged part_in ss
  total_is [] = refl
  total_is (s ∷ ss) =
      elim (is_share g j s) as (λ z. fold_by empty_aggregate merged (λ (x : Share). x.part) (cond z (s ∷ filter (is_share g j) ss) (filter (is_share g j) ss)) ≡ merged (cond z s.part empty_aggregate) (fold_by empty_aggregate merged part_in ss)) [
        | true ↦ ap (merged s.part) (total_is ss)
        | false ↦ total_is ss ∙ sym (aggregate_laws.unit (fold_by empty_aggregate merged part_in ss))
      ]

  module _ (seen : ViewState) (q : Query) where
    -- a bucket that has room is the same of the joined pieces
    pub joined_held : (p : Piece) (bs : List Piece) (x : Aggregate) → HaveBoundaries seen (p ∷ bs) → have_small_parts seen (joined_onto p bs) ≡ true → (held_at g j (pieces_shares seen q (joined_onto p bs)) x).count < 2 ^ 61
        → held_at g j (pieces_shares seen q (joined_onto p bs)) x ≡ held_at g j (pieces_shares seen q (p ∷ bs)) x
    joined_held p bs x bounds small h =
        let joint : List Share = pieces_shares seen q (joined_onto p bs) in
        let apart : List Share = pieces_shares seen q (p ∷ bs) in
        small_held joint apart x (pieces_small seen q (joined_onto p bs) small)
        (total_is joint ∙ joined_same empty_aggregate merged aggregate_laws.unit aggregate_laws.comm aggregate_laws.assoc part_in seen q p bs bounds ∙ sym (total_is apart)) h

-- The number of points that valid pieces have of a view that shows a history: exactly the latest facts that match the
-- query.
use Rattle.std.proofs.Common.{◌≡◌, ℕ, ◌+◌, ◌≤◌, ◌^◌, ◌==◌, ℤ, pos, ◌+ℤ◌, ◌-ℤ◌, ◌≤ℤ◌, ◌<ℤ◌, Bool, true, false, cond, ◌&&◌, List, [], ◌∷◌, ◌++◌, map, filter, length, Option, None, Some, inr, refl, sym, ◌∙◌, ap, ap₂, subst, arith}
use Rattle.std.proofs.lemmas.Int.{ints}
use Rattle.std.specs.List.{list_all, AllByRecursion}
use Rattle.std.specs.Ordering.{int_eq}
use Rattle.std.proofs.lemmas.Bool.{and_parts}
use Rattle.ts_core.proofs.lists.ListSteps.{all_append}
use Rattle.ts_core.specs.facts.Facts.{Text, Fact, is_of, is_within}
use Rattle.ts_core.specs.aggregates.Partials.{fold_by}
use Rattle.ts_core.specs.aggregates.Aggregates.{Aggregate, empty_aggregate, merged}
use Rattle.ts_core.specs.aggregates.MergeLaws.{aggregate_laws}
use Rattle.ts_core.specs.settings.Settings.{Settings}
use Rattle.ts_core.specs.settings.SettingsFaults.{settings_fault}
use Rattle.ts_core.specs.store.Marks.{Marks, index_of}
use Rattle.ts_core.specs.store.History.{History}
use Rattle.ts_core.specs.facts.Latest.{latest_of}
use Rattle.ts_core.specs.facts.Tags.{tag_values}
use Rattle.ts_core.specs.queries.Queries.{Query, IsQuery, Condition, meets, is_selected, matches}
use Rattle.ts_core.specs.queries.Answers.{at_least_none, bucket_in, is_in_row}
use Rattle.ts_core.specs.plans.Pieces.{Source, Raw, Rollup, Piece, query_context, SourceServes, IsValidPiece, Covers, IsValid, start_of}
use Rattle.ts_core.specs.store.StoreStates.{ColumnPoints, RuleCells, total_in}
use Rattle.ts_core.specs.store.Views.{ViewState, Shows}
use Rattle.ts_core.specs.plans.Assembly.{rule_shown, assembled}
use Rattle.ts_core.proofs.settings.Intervals.{IsWide, asked_wide, settings_faultless}
use Rattle.ts_core.proofs.aggregates.Folds.{fold-count}
use Rattle.ts_core.proofs.store.Cuts.{one_fact, filter-agree}
use Rattle.ts_core.proofs.queries.Boundaries.{within_parts}
use Rattle.ts_core.proofs.plans.AssembledRows.{assembled-row}
use Rattle.ts_ql.proofs.CountingLemmas.{in_first}
use Rattle.ts_store.specs.read.ViewResults.{ColumnRef, column_refs_where, points_at, SeenCell, cells_within}
use Rattle.ts_exec.specs.RowParts.{BucketGrid, bucket_grid, row_index_at}
use Rattle.ts_exec.specs.GroupTables.{is_cell_taken}
use Rattle.ts_exec.specs.Shares.{Share, is_share, total_at, points_of_shares, point_share, column_ref_shares, column_refs_shares, cell_share, rule_shares, source_shares, pieces_shares}
use Rattle.ts_exec.proofs.Walked.{taken-within}
use Rattle.ts_exec.proofs.Given.{all_shares_total, few}

-- ---- a query in one bucket of one group

-- the query with one bucket and one group
abbrev whole : Query → Query
whole q = record { measurement = q.measurement; field = q.field; conditions = q.conditions; from = q.from; to = q.to; interval = (q.to +ℤ pos 1) -ℤ q.from; offset = q.from; group_tags = [] }

in_whole : (q : Query) (t : ℤ) → q.from ≤ℤ t → t ≤ℤ q.to → bucket_in (whole q) t ≡ pos 0
in_whole q t low high = in_first q.from (q.to +ℤ pos 1) ((q.to +ℤ pos 1) -ℤ q.from) t refl low (omega (arith, ints))

whole_is : (q : Query) → IsQuery q → IsQuery (whole q)
whole_is q is = let range = is.range in record { interval = omega (arith, ints); range = range }

later : (P : Text → Type 0) (xs ys : List Text) → AllByRecursion P (xs ++ ys) → AllByRecursion P ys
later P [] ys a = a
later P (x ∷ xs) ys a = later P xs ys a.1

-- a source that fits a query fits it in one bucket
module _ (s : Settings) (m : Marks) (q : Query) where
  serves_whole : (source : Source) (a b : ℤ) → q.from ≤ℤ a → a <ℤ b → b ≤ℤ q.to → SourceServes (query_context s m q) source a b → SourceServes (query_context s m (whole q)) source a b
  serves_whole Raw a b low up high is = is
  serves_whole (Rollup name) a b low up high is =
      let r = is.2 in
      let first = in_whole q a low (omega (arith, ints)) in
      let last = in_whole q (b -ℤ pos 1) (omega (arith, ints)) (omega (arith, ints)) in (
        is.0,
        is.1,
        record { measurement = r.measurement; starts = r.starts; ends = r.ends; whole = r.whole; fits = inr (first ∙ sym last); tags = later _ q.group_tags (map (λ (c : Condition). c.tag) q.conditions) r.tags },
      )

  all_serve_whole : (a : ℤ) (ps : List Piece) → q.from ≤ℤ a → Covers a q.to ps → AllByRecursion (IsValidPiece (query_context s m q)) ps → AllByRecursion (IsValidPiece (query_context s m (whole q))) ps
  all_serve_whole a [] low c each = tt
  all_serve_whole a (p ∷ ps) low c each =
      let at : p.from ≡ a = c.0 in
      let up : p.from <ℤ p.to = c.1 in
      let from : q.from ≤ℤ p.from = subst (λ x. q.from ≤ℤ x) (sym at) low in
      let to : q.from ≤ℤ p.to = omega (arith, ints) in
      (serves_whole p.source p.from p.to from up c.2 each.0, all_serve_whole p.to ps to c.3 each.1)

  whole_valid : (ps : List Piece) → IsValid s m q ps → IsValid s m (whole q) ps
  whole_valid ps valid = record { covers = valid.covers; each = all_serve_whole q.from ps (omega (arith, ints)) valid.covers valid.each }

-- ---- it has as many points

shares_length : (g : BucketGrid) (x : List Text) (ps : List (ℤ × ℤ)) → points_of_shares (map (point_share g x) ps) ≡ length ps
shares_length g x [] = refl
shares_length g x (p ∷ ps) = let rest = shares_length g x ps in omega arith

-- the points of a column
pub column_ref-points : (q : Query) (cs : List ColumnPoints) (a b : ℤ) (s : ColumnRef) → points_of_shares (column_ref_shares q cs a b s) ≡ cond (list_all (meets s.series) q.conditions) (length (points_at cs s.number a b)) 0
column_ref-points q cs a b s =
    let ps : List (ℤ × ℤ) = points_at cs s.number a b in
    elim (list_all (meets s.series) q.conditions) as (λ z. points_of_shares (cond z (map (point_share (bucket_grid q) (tag_values q.group_tags s.series)) ps) []) ≡ cond z (length ps) 0) [
      | true ↦ shares_length (bucket_grid q) (tag_values q.group_tags s.series) ps
      | false ↦ refl
    ]

pub points-append : (xs ys : List Share) → points_of_shares (xs ++ ys) ≡ points_of_shares xs + points_of_shares ys
points-append [] ys = omega arith
points-append (x ∷ xs) ys = let rest = points-append xs ys in omega arith

module _ (q : Query) (a b : ℤ) where
  column_refs_same : (cs : List ColumnPoints) (ss : List ColumnRef) → points_of_shares (column_refs_shares q cs a b ss) ≡ points_of_shares (column_refs_shares (whole q) cs a b ss)
  column_refs_same cs [] = refl
  column_refs_same cs (s ∷ ss) =
      points-append (column_ref_shares q cs a b s) (column_refs_shares q cs a b ss)
      ∙ ap₂ (λ (m n : ℕ). m + n) (column_ref-points q cs a b s ∙ sym (column_ref-points (whole q) cs a b s)) (column_refs_same cs ss)
      ∙ sym (points-append (column_ref_shares (whole q) cs a b s) (column_refs_shares (whole q) cs a b ss))

  cells_same : (r : RuleCells) (cs : List SeenCell) → points_of_shares (map (cell_share q r.rule) cs) ≡ points_of_shares (map (cell_share (whole q) r.rule) cs)
  cells_same r [] = refl
  cells_same r (c ∷ cs) = ap (λ n. (total_in c.parts).count + n) (cells_same r cs)

  rule_same : (o : Option RuleCells) → points_of_shares (rule_shares q a b o) ≡ points_of_shares (rule_shares (whole q) a b o)
  rule_same None = refl
  rule_same (Some r) = cells_same r (filter (is_cell_taken q r.rule a b) (cells_within r (index_of r.rule a) (index_of r.rule b)))

  source_same : (seen : ViewState) (source : Source) → points_of_shares (source_shares seen q source a b) ≡ points_of_shares (source_shares seen (whole q) source a b)
  source_same seen Raw = column_refs_same seen.columns (column_refs_where (is_of q.measurement q.field) seen.columns)
  source_same seen (Rollup name) = rule_same (rule_shown name seen.rules)

whole_same : (seen : ViewState) (q : Query) (ps : List Piece) → points_of_shares (pieces_shares seen q ps) ≡ points_of_shares (pieces_shares seen (whole q) ps)
whole_same seen q [] = refl
whole_same seen q (p ∷ ps) =
    points-append (source_shares seen q p.source p.from p.to) (pieces_shares seen q ps)
    ∙ ap₂ (λ (m n : ℕ). m + n) (source_same q p.from p.to seen p.source) (whole_same seen q ps)
    ∙ sym (points-append (source_shares seen (whole q) p.source p.from p.to) (pieces_shares seen (whole q) ps))

-- ---- and all of them lie in that bucket

abbrev IsFirst : Share → Type 0
IsFirst s = is_share [] 0 s ≡ true

first_total : (ss : List Share) → AllByRecursion IsFirst ss → (total_at [] 0 ss).count ≡ points_of_shares ss
first_total [] a = refl
first_total (s ∷ ss) a =
    ap (λ z. (fold_by empty_aggregate merged (λ (x : Share). x.part) (cond z (s ∷ filter (is_share [] 0) ss) (filter (is_share [] 0) ss))).count) a.0
    ∙ ap (λ n. s.part.count + n) (first_total ss a.1)

first_passed : {X : Type 0} (share : X → Share) (p : X → Bool) → ((x : X) → p x ≡ true → IsFirst (share x)) → (xs : List X) → AllByRecursion IsFirst (map share (filter p xs))
first_passed share p h [] = tt
first_passed share p h (x ∷ xs) =
    elim (p x) as (λ z. p x ≡ z → AllByRecursion IsFirst (map share (cond z (x ∷ filter p xs) (filter p xs)))) [
      | true ↦ λ e. (h x e, first_passed share p h xs)
      | false ↦ λ e. first_passed share p h xs
    ] refl

module _ (q : Query) where
  -- a moment of the range lies in the first bucket
  first_row_index : (t : ℤ) → q.from ≤ℤ t → t <ℤ q.to → (row_index_at (bucket_grid (whole q)) t == 0) ≡ true
  first_row_index t low high =
      let here = in_whole q t low (omega (arith, ints)) in
      let from = in_whole q q.from (omega (arith, ints)) (omega (arith, ints)) in
      ap₂ (λ (k f : ℤ). at_least_none (k -ℤ f) == 0) here from

  module _ (a b : ℤ) (low : q.from ≤ℤ a) (high : b ≤ℤ q.to) where
    first_column_ref : (cs : List ColumnPoints) (s : ColumnRef) → AllByRecursion IsFirst (column_ref_shares (whole q) cs a b s)
    first_column_ref cs s =
        elim (list_all (meets s.series) q.conditions) as (λ z. AllByRecursion IsFirst (cond z (map (point_share (bucket_grid (whole q)) []) (points_at cs s.number a b)) [])) [
          | true ↦ first_passed (point_share (bucket_grid (whole q)) []) (λ (p : ℤ × ℤ). is_within a b p.0) (λ p e. let w = within_parts a b p.0 e in let l = w.0 in let h = w.1 in first_row_index p.0 (omega (arith, ints)) (omega (arith, ints))) _
          | false ↦ tt
        ]

    first_column_refs : (cs : List ColumnPoints) (ss : List ColumnRef) → AllByRecursion IsFirst (column_refs_shares (whole q) cs a b ss)
    first_column_refs cs [] = tt
    first_column_refs cs (s ∷ ss) = all_append IsFirst (column_ref_shares (whole q) cs a b s) (column_refs_shares (whole q) cs a b ss) (first_column_ref cs s) (first_column_refs cs ss)

    first_rule : (o : Option RuleCells) → AllByRecursion IsFirst (rule_shares (whole q) a b o)
    first_rule None = tt
    first_rule (Some r) =
        first_passed (cell_share (whole q) r.rule) (is_cell_taken (whole q) r.rule a b)
        (λ c e. let w = within_parts q.from q.to (start_of r.rule c.cell.index) (taken-within (whole q) r.rule a b c e).0 in first_row_index (start_of r.rule c.cell.index) w.0 w.1)
        (cells_within r (index_of r.rule a) (index_of r.rule b))

    first_source : (seen : ViewState) (source : Source) → AllByRecursion IsFirst (source_shares seen (whole q) source a b)
    first_source seen Raw = first_column_refs seen.columns (column_refs_where (is_of q.measurement q.field) seen.columns)
    first_source seen (Rollup name) = first_rule (rule_shown name seen.rules)

  first_pieces : (seen : ViewState) (a : ℤ) (ps : List Piece) → q.from ≤ℤ a → Covers a q.to ps → AllByRecursion IsFirst (pieces_shares seen (whole q) ps)
  first_pieces seen a [] low c = tt
  first_pieces seen a (p ∷ ps) low c =
      let at : p.from ≡ a = c.0 in
      let up : p.from <ℤ p.to = c.1 in
      let from : q.from ≤ℤ p.from = subst (λ x. q.from ≤ℤ x) (sym at) low in
      let to : q.from ≤ℤ p.to = omega (arith, ints) in
      all_append IsFirst (source_shares seen (whole q) p.source p.from p.to) (pieces_shares seen (whole q) ps) (first_source p.from p.to from c.2 seen p.source) (first_pieces seen p.to ps to c.3)

  -- a fact of the range is in that row just where it matches
  whole_row : (f : Fact) → is_in_row (whole q) [] (bucket_in (whole q) q.from +ℤ pos 0) f ≡ matches q f
  whole_row f =
      elim (matches q f) as (λ z. matches q f ≡ z → (z && (true && int_eq (bucket_in (whole q) f.time) (bucket_in (whole q) q.from +ℤ pos 0))) ≡ z) [
        | true ↦ λ e.
            let w = within_parts q.from q.to f.time (and_parts (is_selected q f.column) (is_within q.from q.to f.time) e).1 in
            let l = w.0 in
            let h = w.1 in
            ap₂ (λ (k f : ℤ). int_eq k (f +ℤ pos 0)) (in_whole q f.time l (omega (arith, ints))) (in_whole q q.from (omega (arith, ints)) (omega (arith, ints)))
        | false ↦ λ e. refl
      ] refl

-- ---- so its total is all that match

module _ (opening : Settings) (h : History) (seen : ViewState) (q : Query) (ps : List Piece) (shows : Shows opening h seen) (is : IsQuery q) (valid : IsValid seen.settings seen.marks q ps) where
  wide : IsWide (query_context seen.settings seen.marks (whole q))
  wide = asked_wide seen.settings seen.marks (whole q) (subst (λ s. settings_fault s ≡ None) (sym shows.settings) (settings_faultless opening h shows.lawful)) (whole_is q is)

  again : IsValid seen.settings seen.marks (whole q) ps
  again = whole_valid seen.settings seen.marks q ps valid

  abbrev row : ℤ
  row = bucket_in (whole q) q.from +ℤ pos 0

  points_total : points_of_shares (pieces_shares seen q ps) ≡ (assembled seen (whole q) ps [] row).count
  points_total =
      let first : q.from ≤ℤ q.from = omega (arith, ints) in
      whole_same seen q ps
      ∙ sym (first_total (pieces_shares seen (whole q) ps) (first_pieces q seen q.from ps first valid.covers))
      ∙ ap (λ (x : Aggregate). x.count) (all_shares_total opening h seen (whole q) shows wide [] 0 q.from ps first again.covers again.each)

  -- all that match, as valid pieces give them
  pub points-matching : points_of_shares (pieces_shares seen q ps) ≡ length (filter (matches q) (latest_of h))
  points-matching =
      points_total
      ∙ ap (λ (x : Aggregate). x.count) (assembled-row opening h seen (whole q) shows wide [] row ps again)
      ∙ fold-count aggregate_laws one_fact (λ x. refl) (filter (is_in_row (whole q) [] row) (latest_of h))
      ∙ ap (λ (fs : List Fact). length fs) (filter-agree (is_in_row (whole q) [] row) (matches q) (latest_of h) (λ f o. whole_row q f))

  -- no more than a history has
  pub points-few : points_of_shares (pieces_shares seen q ps) ≤ 2 ^ 62
  points-few = subst (λ n. n ≤ 2 ^ 62) (sym points_total) (few opening h seen (whole q) shows wide ps again [] row)

-- The result over a view that shows a history: the answer over all points ever accepted.
use Rattle.std.proofs.Common.{◌≡◌, ℕ, zero, suc, ◌+◌, ◌<◌, ◌≤◌, ◌^◌, ◌==◌, ℤ, pos, ◌+ℤ◌, ◌-ℤ◌, ◌*ℤ◌, ◌≤ℤ◌, ◌<ℤ◌, int_lt, List, [], ◌∷◌, ◌++◌, map, filter, length, get_or, replicate, refl, sym, ◌∙◌, ap, ap₂, subst, None, Bool, true, false, cond, ◌||◌, arith, eqb-true}
use Rattle.std.proofs.lemmas.Int.{ints}
use Rattle.std.proofs.lemmas.List.{length-replicate, get_or-replicate}
use Rattle.std.specs.List.{list_any, AllByRecursion}
use Rattle.ts_core.specs.facts.Facts.{Text, Fact, is_within}
use Rattle.ts_core.specs.aggregates.Aggregates.{Aggregate, empty_aggregate, merged, aggregate_of}
use Rattle.ts_core.specs.aggregates.MergeLaws.{aggregate_laws}
use Rattle.ts_core.specs.settings.Settings.{Settings}
use Rattle.ts_core.specs.settings.SettingsFaults.{settings_fault}
use Rattle.ts_core.specs.store.History.{History, accepted}
use Rattle.ts_core.specs.facts.Latest.{others, latest, latest_of}
use Rattle.ts_core.specs.queries.Queries.{Query, IsQuery, matches}
use Rattle.ts_core.specs.queries.Answers.{Group, same_group, numbers_from, bucket_in, buckets_in, all_groups, is_in_row, at_least_none, answer_of}
use Rattle.ts_core.specs.plans.Pieces.{Source, Raw, Rollup, Piece, query_context, SourceServes, IsValidPiece, Covers, IsValid, start_of}
use Rattle.ts_core.specs.store.Cells.{Cell, is_in_cell, total_of}
use Rattle.ts_core.specs.store.StoreStates.{facts_of}
use Rattle.ts_core.specs.store.Views.{ViewState, Shows, shown_total}
use Rattle.ts_core.specs.plans.Assembly.{in_part, totals_given, aggregate_given, assembled, cell_groups, groups_given, assembled_groups, assembled_row, assembled_answer}
use Rattle.ts_core.proofs.settings.Intervals.{IsWide, asked_wide, settings_faultless}
use Rattle.ts_core.proofs.aggregates.Folds.{fold-count}
use Rattle.ts_core.proofs.store.Cuts.{one_fact}
use Rattle.ts_core.proofs.plans.PieceCells.{serving, start_of-high}
use Rattle.ts_core.proofs.plans.AssembledRows.{assembled-row}
use Rattle.ts_core.proofs.plans.AssembledAnswers.{assembled-answer}
use Rattle.ts_core.proofs.moves.StepStands.{few_accepted}
use Rattle.ts_exec.specs.Answered.{HasRows}
use Rattle.ts_exec.specs.RowParts.{bucket_grid}
use Rattle.ts_exec.specs.declared.aggregate_parts.AggregateParts.TheVariants.{Whole}
use Rattle.ts_exec.specs.GroupTables.{Table, rows_for, rows_from, width, group_with, with_pieces, given}
use Rattle.ts_exec.specs.Shares.{Share, group_in, with_shares, total_at, rule_shares, source_shares, pieces_shares}
use Rattle.ts_exec.proofs.Shares.{shares-table, rows-after, length-rows_after, held_at, held-after, held-fits, found-after}
use Rattle.ts_exec.proofs.Entries.{table-entries, rows-numbered}
use Rattle.ts_exec.proofs.Linked.{pieces-put, raw-shares, mapped-groups, total-append, raw-total, rule-groups, rule-total, fact_share}

-- a list in which nothing is counted is empty
none_of : (fs : List Fact) → ((aggregate_of fs).count == 0) ≡ true → aggregate_of fs ≡ empty_aggregate
none_of [] e = refl
none_of (f ∷ fs) e =
    let n : (aggregate_of (f ∷ fs)).count ≡ length (f ∷ fs) = fold-count aggregate_laws one_fact (λ x. refl) (f ∷ fs) in
    let z : (aggregate_of (f ∷ fs)).count ≡ 0 = eqb-true _ 0 e in
    absurd (let m : 0 < length (f ∷ fs) = omega arith in omega arith)

-- the buckets are numbered from the first on
numbered : (q : Query) → buckets_in q ≡ numbers_from (bucket_in q q.from) (width q)
numbered q =
    elim (int_lt q.from q.to) as (λ b. cond b (numbers_from (bucket_in q q.from) (at_least_none ((bucket_in q (q.to -ℤ pos 1) -ℤ bucket_in q q.from) +ℤ pos 1))) []
    ≡ numbers_from (bucket_in q q.from) (length (cond b (numbers_from (bucket_in q q.from) (at_least_none ((bucket_in q (q.to -ℤ pos 1) -ℤ bucket_in q q.from) +ℤ pos 1))) []))) [
      | true ↦ ap (numbers_from (bucket_in q q.from)) (sym (count (bucket_in q q.from) (at_least_none ((bucket_in q (q.to -ℤ pos 1) -ℤ bucket_in q q.from) +ℤ pos 1))))
      | false ↦ refl
    ]
  where
    count : (k : ℤ) (n : ℕ) → length (numbers_from k n) ≡ n
    count k zero = refl
    count k (suc n) = ap suc (count (k +ℤ pos 1) n)

module _ (opening : Settings) (h : History) (seen : ViewState) (q : Query) (shows : Shows opening h seen) (wide : IsWide (query_context seen.settings seen.marks q)) where
  piece_groups : (source : Source) (a b : ℤ) → SourceServes (query_context seen.settings seen.marks q) source a b → q.from ≤ℤ a → b ≤ℤ q.to
      → map group_in (source_shares seen q source a b) ≡ groups_given seen q source (in_part (matches q) a b)
  piece_groups Raw a b s l m = ap (map group_in) (raw-shares q a b l m seen.columns) ∙ mapped-groups (fact_share q) _
  piece_groups (Rollup name) a b s l m =
      let v = serving opening h seen q shows wide name a b s in
      let test = in_part (matches q) a b in
      subst (λ o. map group_in (rule_shares q a b o) ≡ cell_groups q o test) (sym v.is) (rule-groups q v.shown a b v.wide v.serves.starts v.serves.ends)

  piece_total : (g : List Text) (j : ℕ) (source : Source) (a b : ℤ) → SourceServes (query_context seen.settings seen.marks q) source a b → q.from ≤ℤ a → b ≤ℤ q.to
      → total_at g j (source_shares seen q source a b) ≡ aggregate_given seen source (in_part (is_in_row q g (bucket_in q q.from +ℤ pos j)) a b)
  piece_total g j Raw a b s l m = ap (total_at g j) (raw-shares q a b l m seen.columns) ∙ raw-total q wide.query g j a b (facts_of seen.columns)
  piece_total g j (Rollup name) a b s l m =
      let v = serving opening h seen q shows wide name a b s in
      let test = in_part (is_in_row q g (bucket_in q q.from +ℤ pos j)) a b in
      let sound : (k : Cell) → is_within a b (start_of v.shown.rule k.index) ≡ true → ((shown_total v.shown k).count == 0) ≡ true → shown_total v.shown k ≡ empty_aggregate = λ k w none.
      let is : shown_total v.shown k ≡ total_of v.shown.rule k (latest_of h) = v.totals.totals k (start_of-high v k.index w) in
      is ∙ none_of (filter (is_in_cell v.shown.rule k) (latest_of h)) (ap (λ (x : Aggregate). x.count == 0) (sym is) ∙ none) in
      subst (λ o. total_at g j (rule_shares q a b o) ≡ totals_given o test) (sym v.is) (rule-total q v.shown a b v.wide v.serves.starts v.serves.ends wide.query g j sound)

  all_shares_groups : (a : ℤ) (ps : List Piece) → q.from ≤ℤ a → Covers a q.to ps → AllByRecursion (IsValidPiece (query_context seen.settings seen.marks q)) ps → map group_in (pieces_shares seen q ps) ≡ assembled_groups seen q ps
  all_shares_groups a [] l c e = refl
  all_shares_groups a (p ∷ ps) l c e =
      let at : p.from ≡ a = c.0 in
      let up : p.from <ℤ p.to = c.1 in
      let from : q.from ≤ℤ p.from = subst (λ x. q.from ≤ℤ x) (sym at) l in
      let to : q.from ≤ℤ p.to = omega (arith, ints) in
      map_append (source_shares seen q p.source p.from p.to) (pieces_shares seen q ps)
      ∙ ap₂ (λ x y. x ++ y) (piece_groups p.source p.from p.to e.0 from c.2) (all_shares_groups p.to ps to c.3 e.1)
    where
      map_append : (xs ys : List Share) → map group_in (xs ++ ys) ≡ map group_in xs ++ map group_in ys
      map_append [] ys = refl
      map_append (x ∷ xs) ys = ap (λ zs. x.group ∷ zs) (map_append xs ys)

  pub all_shares_total : (g : List Text) (j : ℕ) (a : ℤ) (ps : List Piece) → q.from ≤ℤ a → Covers a q.to ps → AllByRecursion (IsValidPiece (query_context seen.settings seen.marks q)) ps
      → total_at g j (pieces_shares seen q ps) ≡ assembled seen q ps g (bucket_in q q.from +ℤ pos j)
  all_shares_total g j a [] l c e = refl
  all_shares_total g j a (p ∷ ps) l c e =
      let at : p.from ≡ a = c.0 in
      let up : p.from <ℤ p.to = c.1 in
      let from : q.from ≤ℤ p.from = subst (λ x. q.from ≤ℤ x) (sym at) l in
      let to : q.from ≤ℤ p.to = omega (arith, ints) in
      total-append g j (source_shares seen q p.source p.from p.to) (pieces_shares seen q ps)
      ∙ ap₂ merged (piece_total g j p.source p.from p.to e.0 from c.2) (all_shares_total g j p.to ps to c.3 e.1)

-- ---- none is left out

shorter : (p : Fact → Bool) (fs : List Fact) → length (filter p fs) ≤ length fs
shorter p [] = omega arith
shorter p (f ∷ fs) = let r = shorter p fs in elim (p f) as (λ b. length (cond b (f ∷ filter p fs) (filter p fs)) ≤ suc (length fs)) [ true ↦ omega arith | false ↦ omega arith ]

latest_short : (fs : List Fact) → length (latest fs) ≤ length fs
latest_short [] = omega arith
latest_short (f ∷ fs) = let r = latest_short fs in let s : length (others f (latest fs)) ≤ length (latest fs) = shorter _ (latest fs) in omega arith

-- ---- the groups that pieces give

any_group : (g : List Text) (ss : List Share) → list_any (λ (s : Share). same_group g s.group) ss ≡ list_any (same_group g) (map group_in ss)
any_group g [] = refl
any_group g (s ∷ ss) = ap (λ b. same_group g s.group || b) (any_group g ss)

or_false : (b : Bool) → (b || false) ≡ b
or_false true = refl
or_false false = refl

module _ (seen : ViewState) (q : Query) (ps : List Piece) where
  abbrev shares : List Share
  shares = pieces_shares seen q ps

  abbrev table : Table
  table = with_shares (width q) shares []

  rows_length : (g : List Text) → length (rows_for (width q) g table) ≡ width q
  rows_length g = ap length (rows-after (width q) g shares []) ∙ length-rows_after g shares (replicate (width q) empty_aggregate) ∙ length-replicate (width q) empty_aggregate

  abbrev group_rows : List Text → List Text × List Aggregate
  group_rows g = (g, rows_for (width q) g table)

  groups_put : with_pieces Whole seen q ps [] ≡ map group_rows (all_groups (map group_in shares))
  groups_put =
      pieces-put seen q ps [] tt
      ∙ table-entries (width q) table (map group_in shares) (shares-table (width q) shares [] tt) (λ g. found-after (width q) g shares [] ∙ or_false _ ∙ any_group g shares)

  all_rows : (gs : List (List Text)) → AllByRecursion (HasRows (width q)) (map group_rows gs)
  all_rows [] = tt
  all_rows (g ∷ gs) = (rows_length g, all_rows gs)

  -- each has a row for every bucket
  pub given-rows : AllByRecursion (HasRows (width q)) (with_pieces Whole seen q ps [])
  given-rows = subst (AllByRecursion (HasRows (width q))) (sym groups_put) (all_rows (all_groups (map group_in shares)))

module _ (opening : Settings) (h : History) (seen : ViewState) (q : Query) (shows : Shows opening h seen) (wide : IsWide (query_context seen.settings seen.marks q)) (ps : List Piece) (valid : IsValid seen.settings seen.marks q ps) where
  pub few : (g : List Text) (k : ℤ) → (assembled seen q ps g k).count ≤ 2 ^ 62
  few g k =
      let xs : List Fact = filter (is_in_row q g k) (latest_of h) in
      let e : (assembled seen q ps g k).count ≡ length xs = ap (λ (x : Aggregate). x.count) (assembled-row opening h seen q shows wide g k ps valid) ∙ fold-count aggregate_laws one_fact (λ x. refl) xs in
      let s : length xs ≤ length (latest_of h) = shorter (is_in_row q g k) (latest_of h) in
      let a = few_accepted opening h shows.lawful in
      let short = latest_short (accepted h) in
      omega arith

  first_le : q.from ≤ℤ q.from
  first_le = omega (arith, ints)

  row_is : (g : List Text) (j : ℕ) → j < width q → get_or (rows_for (width q) g (table seen q ps)) j empty_aggregate ≡ assembled seen q ps g (bucket_in q q.from +ℤ pos j)
  row_is g j l =
      let total : total_at g j (shares seen q ps) ≡ assembled seen q ps g (bucket_in q q.from +ℤ pos j) = all_shares_total opening h seen q shows wide g j q.from ps first_le valid.covers valid.each in
      let fits : (empty_aggregate).count + (total_at g j (shares seen q ps)).count ≤ 2 ^ 62 = subst (λ (x : Aggregate). 0 + x.count ≤ 2 ^ 62) (sym total) (let f = few g (bucket_in q q.from +ℤ pos j) in omega arith) in
      ap (λ xs. get_or xs j empty_aggregate) (rows-after (width q) g (shares seen q ps) [])
      ∙ held-after g j (shares seen q ps) (replicate (width q) empty_aggregate) (subst (λ n. j < n) (sym (length-replicate (width q) empty_aggregate)) l)
      ∙ ap (held_at g j (shares seen q ps)) (get_or-replicate (width q) j empty_aggregate empty_aggregate l)
      ∙ held-fits g j (shares seen q ps) empty_aggregate fits
      ∙ aggregate_laws.unit (total_at g j (shares seen q ps))
      ∙ total

  row_at : (g : List Text) (j : ℕ) → j < length (rows_for (width q) g (table seen q ps))
      → assembled_row seen q ps g (bucket_in q q.from +ℤ pos j) ≡ record { start = ((bucket_in q q.from +ℤ pos j) *ℤ q.interval) +ℤ q.offset; aggregate = get_or (rows_for (width q) g (table seen q ps)) j empty_aggregate }
  row_at g j l =
      let e = row_is g j (subst (λ n. j < n) (rows_length seen q ps g) l) in
      λ i. record { start = ((bucket_in q q.from +ℤ pos j) *ℤ q.interval) +ℤ q.offset; aggregate = sym e i }

  rows_are : (g : List Text) → rows_from (bucket_grid q) (bucket_in q q.from) (rows_for (width q) g (table seen q ps)) ≡ map (assembled_row seen q ps g) (buckets_in q)
  rows_are g =
      rows-numbered (bucket_grid q) (assembled_row seen q ps g) (bucket_in q q.from) (rows_for (width q) g (table seen q ps)) (row_at g)
      ∙ ap (λ n. map (assembled_row seen q ps g) (numbers_from (bucket_in q q.from) n)) (rows_length seen q ps g)
      ∙ ap (map (assembled_row seen q ps g)) (sym (numbered q))

  groups_are : (gs : List (List Text)) → map (group_with q) (map (λ g. (g, rows_for (width q) g (table seen q ps))) gs) ≡ map (λ g. let z : Group = record { values = g; rows = map (assembled_row seen q ps g) (buckets_in q) } in z) gs
  groups_are [] = refl
  groups_are (g ∷ gs) =
      let e = rows_are g in
      let same : group_with q (g, rows_for (width q) g (table seen q ps)) ≡ record { values = g; rows = map (assembled_row seen q ps g) (buckets_in q) } = λ i. record { values = g; rows = e i } in
      ap₂ (λ x xs. x ∷ xs) same (groups_are gs)

  pub given-assembled : given seen q ps ≡ assembled_answer seen q ps
  given-assembled =
      ap (map (group_with q)) (groups_put seen q ps)
      ∙ groups_are (all_groups (map group_in (shares seen q ps)))
      ∙ ap (λ gs. map (λ g. let z : Group = record { values = g; rows = map (assembled_row seen q ps g) (buckets_in q) } in z) (all_groups gs)) (all_shares_groups opening h seen q shows wide q.from ps first_le valid.covers valid.each)

-- the result over a view that shows a history is the answer over all points ever accepted
pub given-answer : (opening : Settings) (h : History) (seen : ViewState) (q : Query) (ps : List Piece) → Shows opening h seen → IsQuery q → IsValid seen.settings seen.marks q ps → given seen q ps ≡ answer_of (latest_of h) q
given-answer opening h seen q ps shows is valid =
    let faultless : settings_fault seen.settings ≡ None = subst (λ s. settings_fault s ≡ None) (sym shows.settings) (settings_faultless opening h shows.lawful) in
    given-assembled opening h seen q shows (asked_wide seen.settings seen.marks q faultless is) ps valid ∙ assembled-answer opening h seen q ps shows is valid

-- The whole answer of valid pieces over a view that shows a history: the answer over all points ever accepted.
use Rattle.std.proofs.Common.{◌≡◌, ◌<◌, ◌==◌, ℤ, Bool, true, false, not, ◌&&◌, List, [], ◌∷◌, filter, map, length, refl, sym, ap, ap₂, ◌∙◌, subst, inl, ⊎_elim, ◌≤ℤ◌, ◌<ℤ◌, true≢false, arith, Option, None}
use Rattle.std.proofs.lemmas.Int.{ints, by_lt_z}
use Rattle.std.specs.List.{AllByRecursion}
use Rattle.std.proofs.lemmas.Bool.{and_parts, not-true}
use Rattle.ts_core.specs.lists.Members.{Among}
use Rattle.ts_core.specs.facts.Facts.{Text, Fact, is_within}
use Rattle.ts_core.specs.aggregates.Aggregates.{Aggregate, aggregate_of}
use Rattle.ts_core.specs.aggregates.MergeLaws.{aggregate_laws}
use Rattle.ts_core.specs.settings.Settings.{Rule, Settings}
use Rattle.ts_core.specs.settings.SettingsFaults.{settings_fault}
use Rattle.ts_core.specs.store.History.{History}
use Rattle.ts_core.specs.facts.Latest.{latest_of}
use Rattle.ts_core.specs.queries.Queries.{Query, IsQuery, is_selected, matches, group_of}
use Rattle.ts_core.specs.queries.Answers.{Group, buckets_in, all_groups, groups_of, answer_of}
use Rattle.ts_core.specs.plans.Pieces.{Source, Raw, Rollup, Piece, query_context, SourceServes, IsValidPiece, Covers, IsValid}
use Rattle.ts_core.specs.store.Cells.{Cell, same_cell, cell_of, is_rolled, is_in_cell, total_of}
use Rattle.ts_core.specs.store.StoreStates.{StoreState, StandsFor, facts_of, RuleCells}
use Rattle.ts_core.specs.store.Views.{ViewState, Shows, view_state_of, shown_total}
use Rattle.ts_core.specs.plans.Assembly.{in_part, representative, rule_shown, cell_groups, groups_given, assembled_groups, assembled_row, assembled_answer}
use Rattle.ts_core.proofs.settings.Intervals.{IsWide, asked_wide, settings_faultless}
use Rattle.ts_core.proofs.lists.MembersLemmas.{Among-left, Among-right, Among-append, Among-filter_passes, Among-filter_was, Among-filter_stays, Among-map_as, map_back}
use Rattle.ts_core.proofs.aggregates.Folds.{fold-count}
use Rattle.ts_core.proofs.queries.GroupsInOrder.{HasMatch, all_groups-same}
use Rattle.ts_core.proofs.lists.Comparisons.{le_true, lt_true}
use Rattle.ts_core.proofs.store.Cuts.{one_fact}
use Rattle.ts_core.proofs.store.StateLemmas.{le_trans}
use Rattle.ts_core.proofs.store.Shown.{stands_shows}
use Rattle.ts_core.proofs.queries.Boundaries.{within_parts}
use Rattle.ts_core.proofs.queries.CellsInRows.{same_match, same_group_of}
use Rattle.ts_core.proofs.plans.PieceCells.{same_cell-eq, same_cell-refl, Serving, serving, index_of-high, start_of-high, is_rolled-matches}
use Rattle.ts_core.proofs.plans.AssembledRows.{assembled-row}
use Rattle.ts_core.proofs.store.LowIndices.{not_zero}

-- ---- data in a cell

abbrev is_nothing : Aggregate → Bool
is_nothing a = a.count == 0

-- data is of some fact
some_fact : (fs : List Fact) → is_nothing (aggregate_of fs) ≡ false → (f : Fact) × Among f fs
some_fact [] e = absurd (true≢false e)
some_fact (f ∷ fs) e = (f, inl refl)

-- and a fact is data
has_data : (f : Fact) (fs : List Fact) → Among f fs → is_nothing (aggregate_of fs) ≡ false
has_data f [] a = absurd a
has_data f (g ∷ gs) a =
    let n : (aggregate_of (g ∷ gs)).count ≡ length (g ∷ gs) = fold-count aggregate_laws one_fact (λ x. refl) (g ∷ gs) in
    not_zero (aggregate_of (g ∷ gs)).count (let m : 0 < length (g ∷ gs) = omega arith in omega arith)

-- ---- the groups of one piece

module _ (opening : Settings) (h : History) (seen : ViewState) (q : Query) (shows : Shows opening h seen) (wide : IsWide (query_context seen.settings seen.marks q)) (g : List Text) where
  -- a matching fact of the group, in a range
  record MatchIn (a b : ℤ) : Type 0 where
    fact : Fact
    among : Among fact (latest_of h)
    passes : in_part (matches q) a b fact ≡ true
    group : group_of q fact ≡ g

  abbrev test : ℤ → ℤ → Fact → Bool
  test a b = in_part (matches q) a b

  parts : (a b : ℤ) (f : Fact) → test a b f ≡ true → (matches q f ≡ true) × (is_within a b f.time ≡ true)
  parts a b f p = and_parts (matches q f) (is_within a b f.time) p

  cells_match : (a b : ℤ) (o : Option RuleCells) → Serving (latest_of h) q o a b → q.from ≤ℤ a → b ≤ℤ q.to → Among g (cell_groups q o (test a b)) → MatchIn a b
  cells_match a b o s l m n =
      let rule : Rule = s.shown.rule in
      let full : Cell → Bool = λ c. test a b (representative rule c) && not (is_nothing (shown_total s.shown c)) in
      let found = map_back (λ c. group_of q (representative rule c)) (filter full s.shown.cells) g (subst (λ x. Among g (cell_groups q x (test a b))) s.is n) in
      let c : Cell = found.0 in
      let p = and_parts (test a b (representative rule c)) (not (is_nothing (shown_total s.shown c))) (Among-filter_passes full c s.shown.cells found.1) in
      let total : shown_total s.shown c ≡ total_of rule c (latest_of h) = s.totals.totals c (start_of-high s c.index (parts a b (representative rule c) p.0).1) in
      let some = some_fact (filter (is_in_cell rule c) (latest_of h)) (ap is_nothing (sym total) ∙ not-true (is_nothing (shown_total s.shown c)) p.1) in
      let f : Fact = some.0 in
      let inside = and_parts (is_rolled rule f) (same_cell (cell_of rule f) c) (Among-filter_passes (is_in_cell rule c) f (latest_of h) some.1) in
      let at : cell_of rule f ≡ c = same_cell-eq (cell_of rule f) c inside.1 in
      record {
        fact = f;
        among = Among-filter_was (is_in_cell rule c) f (latest_of h) some.1;
        passes = same_match q (record { rule = rule; low = s.shown.low }) a b wide.query s.wide s.serves l m f inside.0 ∙ ap (λ x. test a b (representative rule x)) at ∙ p.0;
        group = same_group_of q (record { rule = rule; low = s.shown.low }) a b wide.query s.wide s.serves l m f inside.0 ∙ ap (λ x. group_of q (representative rule x)) at ∙ found.2;
      }

  match_cells : (a b : ℤ) (o : Option RuleCells) → Serving (latest_of h) q o a b → q.from ≤ℤ a → b ≤ℤ q.to → MatchIn a b → Among g (cell_groups q o (test a b))
  match_cells a b o s l m n =
      let rule : Rule = s.shown.rule in
      let f : Fact = n.fact in
      let c : Cell = cell_of rule f in
      let full : Cell → Bool = λ x. test a b (representative rule x) && not (is_nothing (shown_total s.shown x)) in
      let p = parts a b f n.passes in
      let rolled : is_rolled rule f ≡ true = is_rolled-matches s f p.0 in
      let passes : test a b (representative rule c) ≡ true = sym (same_match q (record { rule = rule; low = s.shown.low }) a b wide.query s.wide s.serves l m f rolled) ∙ n.passes in
      let total : shown_total s.shown c ≡ total_of rule c (latest_of h) = s.totals.totals c (index_of-high s f.time p.1) in
      let inside : is_in_cell rule c f ≡ true = ap₂ (λ x y. x && y) rolled (same_cell-refl c) in
      let some : is_nothing (shown_total s.shown c) ≡ false = ap is_nothing total ∙ has_data f (filter (is_in_cell rule c) (latest_of h)) (Among-filter_stays (is_in_cell rule c) f (latest_of h) n.among inside) in
      let there : Among c (filter full s.shown.cells) = Among-filter_stays full c s.shown.cells (s.totals.there f n.among rolled (index_of-high s f.time p.1)) (ap₂ (λ x y. x && not y) passes some) in
      let group : group_of q (representative rule c) ≡ g = sym (same_group_of q (record { rule = rule; low = s.shown.low }) a b wide.query s.wide s.serves l m f rolled) ∙ n.group in
      subst (λ x. Among g (cell_groups q x (test a b))) (sym s.is) (Among-map_as (λ y. group_of q (representative rule y)) c (filter full s.shown.cells) g there group)

  piece_match : (source : Source) (a b : ℤ) → SourceServes (query_context seen.settings seen.marks q) source a b → q.from ≤ℤ a → b ≤ℤ q.to → Among g (groups_given seen q source (test a b)) → MatchIn a b
  piece_match Raw a b s l m n =
      let shown : List Fact = facts_of seen.columns in
      let found = map_back (group_of q) (filter (test a b) shown) g n in
      let p : test a b found.0 ≡ true = Among-filter_passes (test a b) found.0 shown found.1 in
      let above : seen.marks.raw ≤ℤ found.0.time = le_trans seen.marks.raw a found.0.time s (within_parts a b found.0.time (parts a b found.0 p).1).0 in
      record { fact = found.0; among = (shows.raw found.0 above).0 (Among-filter_was (test a b) found.0 shown found.1); passes = p; group = found.2 }
  piece_match (Rollup name) a b s l m n = cells_match a b (rule_shown name seen.rules) (serving opening h seen q shows wide name a b s) l m n

  match_piece : (source : Source) (a b : ℤ) → SourceServes (query_context seen.settings seen.marks q) source a b → q.from ≤ℤ a → b ≤ℤ q.to → MatchIn a b → Among g (groups_given seen q source (test a b))
  match_piece Raw a b s l m n =
      let shown : List Fact = facts_of seen.columns in
      let f : Fact = n.fact in
      let above : seen.marks.raw ≤ℤ f.time = le_trans seen.marks.raw a f.time s (within_parts a b f.time (parts a b f n.passes).1).0 in
      Among-map_as (group_of q) f (filter (test a b) shown) g (Among-filter_stays (test a b) f shown ((shows.raw f above).1 n.among) n.passes) n.group
  match_piece (Rollup name) a b s l m n = match_cells a b (rule_shown name seen.rules) (serving opening h seen q shows wide name a b s) l m n

  -- ---- the groups of all pieces

  pieces_match : (a : ℤ) (ps : List Piece) → q.from ≤ℤ a → Covers a q.to ps → AllByRecursion (IsValidPiece (query_context seen.settings seen.marks q)) ps → Among g (assembled_groups seen q ps) → HasMatch q (latest_of h) g
  pieces_match a [] l c e n = absurd n
  pieces_match a (p ∷ ps) l c e n =
      let at : p.from ≡ a = c.0 in
      let up : p.from <ℤ p.to = c.1 in
      let from : q.from ≤ℤ p.from = subst (λ x. q.from ≤ℤ x) (sym at) l in
      let to : q.from ≤ℤ p.to = omega (arith, ints) in
      ⊎_elim {C = HasMatch q (latest_of h) g}
      (λ m. let r = piece_match p.source p.from p.to e.0 from c.2 m in record { fact = r.fact; among = r.among; matching = (parts p.from p.to r.fact r.passes).0; group = r.group })
      (λ m. pieces_match p.to ps to c.3 e.1 m)
      (Among-append g (groups_given seen q p.source (test p.from p.to)) (assembled_groups seen q ps) n)

  match_pieces : (a : ℤ) (ps : List Piece) → q.from ≤ℤ a → Covers a q.to ps → AllByRecursion (IsValidPiece (query_context seen.settings seen.marks q)) ps → (m : HasMatch q (latest_of h) g) → a ≤ℤ m.fact.time → m.fact.time <ℤ q.to → Among g (assembled_groups seen q ps)
  match_pieces a [] l c e m low high = absurd (let at : a ≡ q.to = c in omega (arith, ints))
  match_pieces a (p ∷ ps) l c e m low high =
      let at : p.from ≡ a = c.0 in
      let up : p.from <ℤ p.to = c.1 in
      let from : q.from ≤ℤ p.from = subst (λ x. q.from ≤ℤ x) (sym at) l in
      let to : q.from ≤ℤ p.to = omega (arith, ints) in
      let here : p.from ≤ℤ m.fact.time = subst (λ x. x ≤ℤ m.fact.time) (sym at) low in
      by_lt_z m.fact.time p.to
      (λ before. Among-left g (groups_given seen q p.source (test p.from p.to)) (assembled_groups seen q ps) (match_piece p.source p.from p.to e.0 from c.2 (record {
        fact = m.fact;
        among = m.among;
        passes = ap₂ (λ x y. x && y) m.matching (ap₂ (λ x y. x && y) (le_true p.from m.fact.time here) (lt_true m.fact.time p.to before));
        group = m.group;
      })))
      (λ after. Among-right g (groups_given seen q p.source (test p.from p.to)) (assembled_groups seen q ps) (match_pieces p.to ps to c.3 e.1 m after high))

-- ---- the answer

module _ (opening : Settings) (h : History) (seen : ViewState) (q : Query) (shows : Shows opening h seen) (wide : IsWide (query_context seen.settings seen.marks q)) (ps : List Piece) (valid : IsValid seen.settings seen.marks q ps) where
  -- just the groups that have a matching fact
  same_groups_found : all_groups (assembled_groups seen q ps) ≡ groups_of q (latest_of h)
  same_groups_found =
      let all : List Fact = latest_of h in
      let first : q.from ≤ℤ q.from = omega (arith, ints) in
      all_groups-same (assembled_groups seen q ps) (map (group_of q) (filter (matches q) all))
      (λ g n. let m = pieces_match opening h seen q shows wide g q.from ps first valid.covers valid.each n in Among-map_as (group_of q) m.fact (filter (matches q) all) g (Among-filter_stays (matches q) m.fact all m.among m.matching) m.group)
      (λ g n.
      let r = map_back (group_of q) (filter (matches q) all) g n in
      let p : matches q r.0 ≡ true = Among-filter_passes (matches q) r.0 all r.1 in
      let t = within_parts q.from q.to r.0.time (and_parts (is_selected q r.0.column) (is_within q.from q.to r.0.time) p).1 in
      match_pieces opening h seen q shows wide g q.from ps first valid.covers valid.each (record { fact = r.0; among = Among-filter_was (matches q) r.0 all r.1; matching = p; group = r.2 }) t.0 t.1)

  same_answer : assembled_answer seen q ps ≡ answer_of (latest_of h) q
  same_answer =
      λ i. map (λ g. let z : Group = record { values = g; rows = map (λ k. record (assembled_row seen q ps g k) { aggregate = assembled-row opening h seen q shows wide g k ps valid i }) (buckets_in q) } in z) (same_groups_found i)

-- valid pieces give the answer over all points ever accepted, as if nothing had ever been dropped
pub assembled-answer : (opening : Settings) (h : History) (seen : ViewState) (q : Query) (ps : List Piece) → Shows opening h seen → IsQuery q → IsValid seen.settings seen.marks q ps → assembled_answer seen q ps ≡ answer_of (latest_of h) q
assembled-answer opening h seen q ps shows is valid = same_answer opening h seen q shows (asked_wide seen.settings seen.marks q (subst (λ s. settings_fault s ≡ None) (sym shows.settings) (settings_faultless opening h shows.lawful)) is) ps valid

-- and so do those of a store that represents the history
pub stands-answer : (opening : Settings) (h : History) (s : StoreState) (q : Query) (ps : List Piece) → StandsFor opening h s → IsQuery q → IsValid s.settings s.marks q ps
    → assembled_answer (view_state_of s) q ps ≡ answer_of (latest_of h) q
stands-answer opening h s q ps st is valid = assembled-answer opening h (view_state_of s) q ps (stands_shows opening h s st) is valid

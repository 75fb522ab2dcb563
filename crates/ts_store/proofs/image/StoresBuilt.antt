-- A store under construction: its order when parts are added, and the resulting store, which has the invariant of a
-- store, and these parts.
use Rattle.std.proofs.Common.{◌≡◌, ◌<◌, ◌≤◌, ℕ, Bool, true, false, not, List, [], ◌∷◌, ◌++◌, length, map, set, Result, Ok, Err, OnOk, OnErr, refl, sym, ◌∙◌, ap, subst, ⊎_elim, arith, ◌+◌, ℤ, Option, None, true≢false}
use Rattle.std.proofs.Math.Bool.{not-not}
use Rattle.std.specs.FinMap as finmap
use Rattle.std.proofs.lemmas.List.{length_push, map-append}
use Rattle.ts_core.specs.lists.Members.{Among}
use Rattle.ts_core.specs.facts.Facts.{Series, Column, Fact}
use Rattle.ts_core.specs.settings.Settings.{Settings, Rule}
use Rattle.ts_core.specs.store.Marks.{Marks}
use Rattle.ts_core.specs.aggregates.Aggregates.{Aggregate, empty_aggregate}
use Rattle.ts_core.specs.store.Cells.{Cell, cell_of}
use Rattle.ts_core.specs.store.StoreStates.{ColumnPoints, column_of, facts_of}
use Rattle.ts_core.specs.store.StoreData.{CellMap, RuleData, OfEachRule, AreLive}
use Rattle.ts_core.proofs.lists.MembersLemmas.{Among-append}
use Rattle.ts_line.specs.Names.{IsKey, IsStatable}
use Rattle.ts_store.specs.image.Building.{new_built, with_built_series, with_built_column, with_built_cell, cell_map_at, Built, AreLowIndices, IsBuildable, IsBuiltFrom, HaveCells, waiting_of, IsLowIndex}
use Rattle.ts_store.specs.image.BuildingParts.{built_of, IsInOrder, AreIdle, FillsCells}
use Rattle.ts_store.specs.store.ColumnStates.{StoreContent}
use Rattle.ts_store.specs.rollup.Rollups.{AreRollups, cells_of}
use Rattle.ts_store.proofs.image.PartsBuilt.{idle_new, idle-insert, idle-set, idle-at}
use Rattle.ts_store.proofs.store.Stands.{held_new, new_rollups, new_cells}
use Rattle.std.specs.List.{AllByRecursion}
use Rattle.std.specs.Option.{is_some}
use Rattle.std.proofs.Math.Seq.{take-length}
use Rattle.ts_core.specs.settings.SettingsFaults.{settings_fault}
use Rattle.ts_core.proofs.moves.MovesStand.{key_there}
use Rattle.std.proofs.lemmas.Slice.Zip.{AllZip-long}
use Rattle.ts_store.specs.store.CellCounts.{HoldFew, live_count, HoldsFew}
use Rattle.ts_store.specs.write.LinesPut.{PutsCells}
use Rattle.ts_store.specs.store.RuleLists.{rules_with}
use Rattle.ts_store.proofs.store.RuleListLemmas.{settings_read, marks_read}
use Rattle.ts_store.specs.retain.OpenRuns.{Run, run_of, unflagged, waiting_in, data_of_parts, IsWithin}
use Rattle.ts_store.specs.store.SoundStores.{IsSoundStore}
use Rattle.ts_store.specs.store.SizedStores.{IsSizedRule}
use Rattle.ts_store.proofs.retain.RollupMoves.{rollups_with}
use Rattle.ts_core.proofs.moves.EachRule.{rules_keep}

-- ---- new

pub order_new : (settings : Settings) (held : StoreContent) (passed : List Bool) → held ≡ held_new settings → passed ≡ [] → IsInOrder settings held passed
order_new settings held passed e f =
    subst (IsInOrder settings held) (sym f)
    (subst (λ (h : StoreContent). IsInOrder settings h []) (sym e) (record {
      rollups = new_rollups settings.rules;
      each = refl;
      idle = subst AreIdle (sym (new_cells settings.rules)) (idle_new settings.rules);
      few = omega arith;
      named = λ s a. absurd a;
      keys = λ c a. absurd a;
    }))

pub built_new : (settings : Settings) (marks : Marks) (running : Bool) (n : ℕ) (held : StoreContent) (passed : List Bool) → held ≡ held_new settings → passed ≡ [] → built_of settings marks running n held passed ≡ new_built settings marks n running
built_new settings marks running n held passed e f =
    ap (built_of settings marks running n held) f ∙ ap (λ (h : StoreContent). built_of settings marks running n h []) e
    ∙ ap (λ (ms : List CellMap). record { settings = settings; marks = marks; running = running; accepted = n; series = []; columns = []; waits = []; cells = ms }) (new_cells settings.rules)

-- ---- a series more

pub order_series : (settings : Settings) (held after : StoreContent) (passed : List Bool) (s : Series) → length held.series < 1000000 → IsStatable s → after ≡ record { series = held.series ++ s ∷ []; columns = held.columns; rollups = held.rollups } → IsInOrder settings held passed
    → IsInOrder settings after passed
order_series settings held after passed s few named e h =
    subst (λ (x : StoreContent). IsInOrder settings x passed) (sym e) (record {
      rollups = h.rollups;
      each = h.each;
      idle = h.idle;
      few = let n = length_push held.series s in omega (arith, n, few);
      named = λ x a. ⊎_elim {C = IsStatable x} (h.named x) (λ q. ⊎_elim {C = IsStatable x} (λ i. subst IsStatable (sym i) named) (λ z. absurd z) q) (Among-append x held.series (s ∷ []) a);
      keys = h.keys;
    })

pub built_series : (settings : Settings) (marks : Marks) (running : Bool) (n : ℕ) (held after : StoreContent) (passed : List Bool) (s : Series) → after ≡ record { series = held.series ++ s ∷ []; columns = held.columns; rollups = held.rollups }
    → built_of settings marks running n after passed ≡ with_built_series s (built_of settings marks running n held passed)
built_series settings marks running n held after passed s e = ap (λ (h : StoreContent). built_of settings marks running n h passed) e

-- ---- a column more

pub order_column : (settings : Settings) (held after : StoreContent) (passed passed' : List Bool) (c : ColumnPoints) (b : Bool) → IsKey c.column.field → after.columns ≡ held.columns ++ c ∷ [] → after.series ≡ held.series → cells_of after.rollups ≡ cells_of held.rollups
    → AreRollups settings.rules (map column_of after.columns) after.rollups → passed' ≡ passed ++ b ∷ [] → IsInOrder settings held passed → IsInOrder settings after passed'
order_column settings held after passed passed' c b key columns series cells rollups flags h = record {
  rollups = rollups;
  each =
      let one = ap length flags ∙ length_push passed b in
      let two = ap length columns ∙ length_push held.columns c in
      let e = h.each in
      omega (arith, one, two, e);
  idle = subst AreIdle (sym cells) h.idle;
  few = subst (λ (xs : List Series). length xs ≤ 1000000) (sym series) h.few;
  named = λ x a. h.named x (subst (Among x) series a);
  keys = λ x a.
      ⊎_elim {C = IsKey x.field} (h.keys x) (λ q. ⊎_elim {C = IsKey x.field} (λ i. subst (λ (y : Column). IsKey y.field) (sym i) key) (λ z. absurd z) q)
      (Among-append x (map column_of held.columns) (c.column ∷ []) (subst (Among x) (ap (map column_of) columns ∙ map-append column_of held.columns (c ∷ [])) a));
}

pub built_column : (settings : Settings) (marks : Marks) (running : Bool) (n : ℕ) (held after : StoreContent) (passed passed' : List Bool) (c : ColumnPoints) (w : Bool) → after.columns ≡ held.columns ++ c ∷ [] → after.series ≡ held.series
    → cells_of after.rollups ≡ cells_of held.rollups → passed' ≡ passed ++ not w ∷ [] → built_of settings marks running n after passed' ≡ with_built_column c w (built_of settings marks running n held passed)
built_column settings marks running n held after passed passed' c w columns series cells flags =
    let waits : map not passed' ≡ map not passed ++ w ∷ [] = ap (map not) flags ∙ map-append not passed (not w ∷ []) ∙ ap (λ (b : Bool). map not passed ++ b ∷ []) (not-not w) in
    λ i. record { settings = settings; marks = marks; running = running; accepted = n; series = series i; columns = columns i; waits = waits i; cells = cells i }

-- the order stays if columns and series do, and live parts are empty
order_kept : (settings : Settings) (held after : StoreContent) (passed : List Bool) → after.columns ≡ held.columns → after.series ≡ held.series → AreIdle (cells_of after.rollups) → AreRollups settings.rules (map column_of after.columns) after.rollups
    → IsInOrder settings held passed → IsInOrder settings after passed
order_kept settings held after passed columns series idle rollups h = record {
  rollups = rollups;
  each = h.each ∙ sym (ap length columns);
  idle = idle;
  few = subst (λ (xs : List Series). length xs ≤ 1000000) (sym series) h.few;
  named = λ x a. h.named x (subst (Among x) series a);
  keys = λ x a. h.keys x (subst (λ (cs : List ColumnPoints). Among x (map column_of cs)) columns a);
}

-- so if cells do
pub order_same : (settings : Settings) (held after : StoreContent) (passed : List Bool) → after.columns ≡ held.columns → after.series ≡ held.series → cells_of after.rollups ≡ cells_of held.rollups
    → AreRollups settings.rules (map column_of after.columns) after.rollups → IsInOrder settings held passed → IsInOrder settings after passed
order_same settings held after passed columns series cells rollups h = order_kept settings held after passed columns series (subst AreIdle (sym cells) h.idle) rollups h

pub built_same : (settings : Settings) (marks : Marks) (running : Bool) (n : ℕ) (held after : StoreContent) (passed passed' : List Bool) → after.columns ≡ held.columns → after.series ≡ held.series → cells_of after.rollups ≡ cells_of held.rollups → passed' ≡ passed
    → built_of settings marks running n after passed' ≡ built_of settings marks running n held passed
built_same settings marks running n held after passed passed' columns series cells flags =
    λ i. record { settings = settings; marks = marks; running = running; accepted = n; series = series i; columns = columns i; waits = map not (flags i); cells = cells i }

-- ---- a cell more

abbrev pub with_one : List CellMap → ℕ → Cell → Aggregate → List CellMap
with_one ms rule k frozen = set ms rule (finmap.insert (cell_map_at ms rule) k (record { frozen = frozen; live = empty_aggregate }))

pub order_cell : (settings : Settings) (held after : StoreContent) (passed : List Bool) (rule : ℕ) (k : Cell) (frozen : Aggregate) → after.columns ≡ held.columns → after.series ≡ held.series → cells_of after.rollups ≡ with_one (cells_of held.rollups) rule k frozen
    → AreRollups settings.rules (map column_of held.columns) after.rollups → IsInOrder settings held passed → IsInOrder settings after passed
order_cell settings held after passed rule k frozen columns series cells rollups h =
    order_kept settings held after passed columns series
    (subst AreIdle (sym cells) (idle-set (cells_of held.rollups) rule _ (idle-insert (cell_map_at (cells_of held.rollups) rule) k (record { frozen = frozen; live = empty_aggregate }) refl (idle-at (cells_of held.rollups) rule h.idle)) h.idle))
    (subst (λ (cs : List ColumnPoints). AreRollups settings.rules (map column_of cs) after.rollups) (sym columns) rollups) h

pub built_cell : (settings : Settings) (marks : Marks) (running : Bool) (n : ℕ) (held after : StoreContent) (passed : List Bool) (rule : ℕ) (k : Cell) (frozen : Aggregate) → after.columns ≡ held.columns → after.series ≡ held.series
    → cells_of after.rollups ≡ with_one (cells_of held.rollups) rule k frozen → built_of settings marks running n after passed ≡ with_built_cell rule k frozen (built_of settings marks running n held passed)
built_cell settings marks running n held after passed rule k frozen columns series cells =
    λ i. record { settings = settings; marks = marks; running = running; accepted = n; series = series i; columns = columns i; waits = map not passed; cells = cells i }

-- ---- whether there was memory or not

pub order_series-either : {T E : Type 0} (r : Result T E) (settings : Settings) (held after : StoreContent) (passed : List Bool) (s : Series) → length held.series < 1000000 → IsStatable s → OnOk r (after ≡ record { series = held.series ++ s ∷ []; columns = held.columns; rollups = held.rollups }) → OnErr r (after ≡ held)
    → IsInOrder settings held passed → IsInOrder settings after passed
order_series-either (Ok x) settings held after passed s few named ok err h = order_series settings held after passed s few named ok h
order_series-either (Err e) settings held after passed s few named ok err h = subst (λ (x : StoreContent). IsInOrder settings x passed) (sym err) h

pub order_cell-either : {T E : Type 0} (r : Result T E) (settings : Settings) (held after : StoreContent) (passed : List Bool) (rule : ℕ) (k : Cell) (frozen : Aggregate) → after.columns ≡ held.columns → after.series ≡ held.series
    → OnOk r (cells_of after.rollups ≡ with_one (cells_of held.rollups) rule k frozen) → OnErr r (cells_of after.rollups ≡ cells_of held.rollups) → AreRollups settings.rules (map column_of held.columns) after.rollups → IsInOrder settings held passed → IsInOrder settings after passed
order_cell-either (Ok x) settings held after passed rule k frozen columns series ok err rollups h = order_cell settings held after passed rule k frozen columns series ok rollups h
order_cell-either (Err e) settings held after passed rule k frozen columns series ok err rollups h =
    order_same settings held after passed columns series err (subst (λ (cs : List ColumnPoints). AreRollups settings.rules (map column_of cs) after.rollups) (sym columns) rollups) h

-- ---- rules

pub lows-length : (mark : ℤ) (rs : List Rule) (lows : List ℤ) → AreLowIndices mark rs lows → length lows ≡ length rs
lows-length mark rs lows h = AllZip-long (IsLowIndex mark) rs lows h

rules-sized : (mark : ℤ) (facts : List Fact) (rs : List Rule) (lows : List ℤ) (ns : List CellMap) → AreLowIndices mark rs lows → HaveCells facts (rules_with rs lows ns) → AllByRecursion (IsSizedRule mark facts) (rules_with rs lows ns)
rules-sized mark facts (r ∷ rs) (low ∷ lows) (n ∷ ns) h has_cells = (
  record { least = h.0.least; most = h.0.most; there = λ f a rolled above. key_there n (cell_of r f) (λ none. has_cells.0 f a rolled above none) },
  rules-sized mark facts rs lows ns h.1 has_cells.1,
)
rules-sized mark facts _ _ _ h has_cells = tt

counts-built : (count : ℕ) (facts : List Fact) (columns : List ColumnPoints) (rs ss : List RuleData) → OfEachRule (PutsCells facts) rs ss → HoldFew count columns rs → HoldFew count columns ss
counts-built count facts columns =
    rules_keep (PutsCells facts) (λ (x : RuleData). HoldsFew count columns x.rule x.cells) (λ (x : RuleData). HoldsFew count columns x.rule x.cells)
    (λ x n one few k. subst (λ a. a + live_count x.rule k columns ≤ count) (sym (ap (λ a. a.count) (one.frozen k))) (few k))

-- ---- columns that wait

waiting-flagged : (columns : List ColumnPoints) (passed : List Bool) → length passed ≡ length columns → unflagged passed (map column_of columns) ≡ waiting_of columns (map not passed)
waiting-flagged [] [] e = refl
waiting-flagged (c ∷ cs) (true ∷ bs) e = waiting-flagged cs bs (omega (arith, e))
waiting-flagged (c ∷ cs) (false ∷ bs) e = ap (λ (xs : List Column). c.column ∷ xs) (waiting-flagged cs bs (omega (arith, e)))
waiting-flagged _ _ e = absurd (omega (arith, e))

waiting-none : (columns : List ColumnPoints) (ws : List Bool) → AllByRecursion (λ (w : Bool). w ≡ false) ws → [] ≡ waiting_of columns ws
waiting-none (c ∷ cs) (true ∷ ws) h = absurd (true≢false h.0)
waiting-none (c ∷ cs) (false ∷ ws) h = waiting-none cs ws h.1
waiting-none _ _ h = refl

waiting-built : (running : Bool) (columns : List ColumnPoints) (passed : List Bool) → length passed ≡ length columns → (running ≡ false → AllByRecursion (λ (w : Bool). w ≡ false) (map not passed))
    → waiting_in (run_of running 0 (length columns) passed) columns ≡ waiting_of columns (map not passed)
waiting-built true columns passed e idle = ap (λ (xs : List ColumnPoints). unflagged passed (map column_of xs)) (take-length columns) ∙ waiting-flagged columns passed e
waiting-built false columns passed e idle = waiting-none columns (map not passed) (idle refl)

running-built : (running : Bool) (next end : ℕ) (passed : List Bool) → is_some (run_of running next end passed) ≡ running
running-built true next end passed = refl
running-built false next end passed = refl

within-built : (running : Bool) (columns : List ColumnPoints) (passed : List Bool) → IsWithin (run_of running 0 (length columns) passed) columns
within-built true columns passed = (omega arith, omega arith)
within-built false columns passed = tt

-- ---- the whole

module _ (settings : Settings) (marks : Marks) (running : Bool) (count : ℕ) (held after : StoreContent) (passed : List Bool) (order : IsInOrder settings held passed) (well : settings_fault settings ≡ None) (b : Built) (view : built_of settings marks running count held passed ≡ b) (able : IsBuildable b)
    (rs : List Rule) (ls : List ℤ) (rules : rs ≡ settings.rules) (indices : ls ≡ marks.lows) (filled : FillsCells rs ls held after) (run : Option Run) (end : ℕ) (over : run ≡ run_of running 0 end passed) (whole : end ≡ length after.columns) where
  can : IsBuildable (built_of settings marks running count held passed)
  can = subst IsBuildable (sym view) able

  fills : FillsCells settings.rules marks.lows held after
  fills = subst (λ (xs : List Rule). FillsCells xs marks.lows held after) rules (subst (λ (xs : List ℤ). FillsCells rs xs held after) indices filled)

  is : run ≡ run_of running 0 (length after.columns) passed
  is = over ∙ ap (λ n. run_of running 0 n passed) whole

  same_columns : after.columns ≡ held.columns
  same_columns = ap (λ (h : StoreContent). h.columns) fills.others

  same_series : after.series ≡ held.series
  same_series = ap (λ (h : StoreContent). h.series) fills.others

  many : length passed ≡ length after.columns
  many = order.each ∙ sym (ap length same_columns)

  lows : length marks.lows ≡ length settings.rules
  lows = lows-length marks.raw settings.rules marks.lows can.lows

  rollups : AreRollups settings.rules (map column_of after.columns) after.rollups
  rollups = subst (λ (h : StoreContent). AreRollups settings.rules (map column_of h.columns) h.rollups) (sym fills.others) (rollups_with settings.rules (map column_of held.columns) (cells_of after.rollups) held.rollups order.rollups)

  abbrev before : List RuleData
  before = rules_with settings.rules marks.lows (cells_of held.rollups)

  abbrev now : List RuleData
  now = rules_with settings.rules marks.lows (cells_of after.rollups)

  pub kept_built : IsSoundStore settings marks count after run
  kept_built = record {
    rollups = rollups;
    lows = lows;
    few = subst (λ (r : Option Run). IsWithin r after.columns) (sym is) (within-built running after.columns passed);
    counts = counts-built count (facts_of held.columns) after.columns before now fills.cells (subst (λ (cs : List ColumnPoints). HoldFew count cs before) (sym same_columns) can.counts);
    live = subst (λ (cs : List ColumnPoints). AreLive cs now) (sym same_columns) fills.live;
    possible = fills.possible can.possible;
    sized = record {
      settings = ap settings_fault (settings_read settings marks after (map column_of after.columns) lows rollups count run) ∙ well;
      content = record {
        accepted = can.accepted;
        facts = subst (λ (cs : List ColumnPoints). length (facts_of cs) ≤ count) (sym same_columns) can.facts;
        series = subst (λ (xs : List Series). length xs ≤ 1000000) (sym same_series) order.few;
        named = λ s a. order.named s (subst (Among s) same_series a);
        columns = fills.known.once;
        registered = fills.known.registered;
        keys = λ c a. order.keys c (subst (λ (cs : List ColumnPoints). Among c (map column_of cs)) same_columns a);
        once = fills.once;
      };
      rules = subst (λ (cs : List ColumnPoints). AllByRecursion (IsSizedRule marks.raw (facts_of cs)) now) (sym same_columns)
          (rules-sized marks.raw (facts_of held.columns) settings.rules marks.lows (cells_of after.rollups) can.lows fills.has_cells);
    };
  }

  pub built_from : IsBuiltFrom b (data_of_parts settings marks count after run)
  built_from = subst (λ (x : Built). IsBuiltFrom x (data_of_parts settings marks count after run)) view (record {
    settings = settings_read settings marks after (map column_of after.columns) lows rollups count run;
    marks = marks_read settings marks after (map column_of after.columns) lows rollups count run;
    running = ap is_some is ∙ running-built running 0 (length after.columns) passed;
    accepted = refl;
    series = same_series;
    columns = same_columns;
    waiting = ap (λ (r : Option Run). waiting_in r after.columns) is ∙ waiting-built running after.columns passed many can.idle ∙ ap (λ (cs : List ColumnPoints). waiting_of cs (map not passed)) same_columns;
    cells = fills.cells;
    has_cells = fills.has_cells;
    live = fills.live;
  })

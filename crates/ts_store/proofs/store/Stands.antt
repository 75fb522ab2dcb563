-- The history that a store represents after a call, and results by that history.
use Rattle.std.proofs.Common.{◌≡◌, ◌↔◌, ℕ, ℤ, ◌+◌, ◌<◌, ◌≤◌, ◌≤ℤ◌, ◌^◌, Bool, int_le, int_lt, Less, Equal, Greater, true, false, cond, not, ◌&&◌, ◌||◌, nat_le, List, [], ◌∷◌, ◌++◌, length, map, replicate, refl, sym, ◌∙◌, ap, subst, inl, inr, ⊎_elim, arith, true≢false, Option, Some, None, IfSome, IfNone}
use Rattle.std.specs.Option.{is_some}
use Rattle.std.specs.FinMap as finmap
use Rattle.std.specs.List.{slice_get, AllByRecursion}
use Rattle.std.specs.Ordering.{int_cmp, is_lt}
use Rattle.std.proofs.Math.Bool.{not-not}
use Rattle.std.proofs.lemmas.Int.{ints}
use Rattle.std.proofs.lemmas.List.{append-nil, length-map}
use Rattle.ts_core.specs.lists.Members.{Among, AllDistinct}
use Rattle.ts_core.specs.facts.Facts.{Text, Series, Column, Fact, is_within}
use Rattle.ts_core.specs.settings.Settings.{Rule, Settings}
use Rattle.ts_core.specs.facts.Times.{least_time}
use Rattle.ts_core.specs.store.History.{History, Line, MayBeTaken, accepted, raw_mark}
use Rattle.ts_core.specs.facts.Latest.{latest_of}
use Rattle.ts_core.specs.store.Marks.{Marks, index_of, low_of, marks_of}
use Rattle.ts_core.specs.store.RawFacts.{same_column, raw_facts, raw_of, is_waiting, is_kept, kept_from}
use Rattle.ts_core.specs.store.StoreStates.{ColumnPoints, StandsFor, column_of, fact_at, facts_of}
use Rattle.ts_core.specs.store.StoreData.{CellMap, RuleData, StoreData, state_of, new_data, AreLive}
use Rattle.ts_core.specs.moves.StoreMoves.{PutsFacts, GainEmptyCells, grown, put_facts}
use Rattle.ts_core.proofs.settings.SettingsLaws.{well}
use Rattle.ts_core.proofs.moves.LivesKept.{no_live, lives_line}
use Rattle.ts_core.proofs.lists.MembersLemmas.{Among-left, Among-right, Among-map, Among-filter_passes, Among-filter_was, Among-filter_stays, AllDistinct-filter}
use Rattle.ts_core.proofs.aggregates.Folds.{length-same}
use Rattle.ts_core.proofs.lists.Comparisons.{le_from, le_true, lt_not}
use Rattle.ts_core.proofs.facts.Latests.{latest-distinct}
use Rattle.ts_core.proofs.store.Cuts.{Holds}
use Rattle.ts_core.proofs.store.StateLemmas.{StandsFor-Holds, same_column-eq}
use Rattle.ts_core.proofs.store.Shown.{stands_shows}
use Rattle.ts_core.proofs.store.ColumnFacts.{facts_of-there, facts_of-here}
use Rattle.ts_core.proofs.moves.MovesStand.{grows}
use Rattle.ts_core.proofs.moves.LineStands.{length_before, line_put}
use Rattle.ts_core.proofs.moves.LeftOnData.{left-grows, left-puts}
use Rattle.ts_core.specs.moves.Runs.{steps_left}
use Rattle.ts_core.specs.settings.SettingsFaults.{unless, settings_fault}
use Rattle.ts_line.specs.Names.{AreKeys, IsStatable}
use Rattle.ts_line.specs.Parts.{LinePart, Parts, series_of, fact_of, field_text, line_facts}
use Rattle.ts_core.specs.lists.Numbered.{IsAt}
use Rattle.ts_core.proofs.lists.NumberedLemmas.{at_among}
use Rattle.ts_store.specs.store.ColumnStates.{StoreContent}
use Rattle.ts_store.specs.read.PointsRead.{points_between, AreLatestOf, AreRawOf, all_raw}
use Rattle.ts_store.specs.write.Registered.{new_columns, with_columns}
use Rattle.ts_store.specs.declared.write.fault.WriteFault.TheVariants.{BelowRawMark, TooManySeries, TooManyFacts}
use Rattle.ts_store.specs.write.Refusals.{is_registered, is_too_many, write_fault}
use Rattle.ts_store.specs.retain.OpenRuns.{Run, waiting_in, IsWithin, data_of_parts}
use Rattle.ts_store.specs.store.SoundStores.{IsSoundStore}
use Rattle.ts_store.specs.store.CellCounts.{HoldFew}
use Rattle.ts_store.specs.store.RuleLists.{rules_with}
use Rattle.ts_store.specs.store.SizedStores.{IsSized}
use Rattle.ts_store.specs.store.PossibleCells.{HavePossibleCells}
use Rattle.ts_store.specs.rollup.Rollups.{new_rollup, AreRollups, cells_of}
use Rattle.ts_store.specs.write.LinesInColumns.{PutsLine, GrowsForLine}
use Rattle.ts_store.specs.write.LivePuts.{StayLive}
use Rattle.ts_store.specs.write.LinesPut.{Accepts, Leaves}
use Rattle.ts_store.proofs.retain.WaitingColumns.{NamesMore, within_more, waiting_more}
use Rattle.ts_store.proofs.write.StagedColumns.{names_with, same_facts}
use Rattle.ts_store.proofs.store.ColumnsLemmas.{in_column}
use Rattle.ts_store.proofs.store.CountsKept.{counts-put, counts-grown, counts-new, possible_new, taken_valid, possible_gained, possible_put, puts_names, sized_new, sized_grown, sized_put}
use Rattle.ts_store.proofs.write.LivesGrown.{lives_grown}
use Rattle.ts_store.proofs.write.NamesKept.{gains_named, may_gain_named, all_keys, first_keys, registered-there, registered-not, gains_few, may_gain_few}

-- ---- columns without points

-- a new store
pub new_rollups : (rs : List Rule) → AreRollups rs [] (replicate (length rs) new_rollup)
new_rollups [] = tt
new_rollups (r ∷ rs) = (tt, new_rollups rs)

pub new_cells : (rs : List Rule) → cells_of (replicate (length rs) new_rollup) ≡ map (λ (r : Rule). finmap.empty) rs
new_cells [] = refl
new_cells (r ∷ rs) = ap (λ (ms : List CellMap). finmap.empty ∷ ms) (new_cells rs)

-- each with its low index
pub new_data_rules : (rs : List Rule) → rules_with rs (map (λ (r : Rule). index_of r least_time) rs) (cells_of (replicate (length rs) new_rollup)) ≡ (new_data (record { raw_duration = 0; rules = rs })).rules
new_data_rules [] = refl
new_data_rules (r ∷ rs) = ap (λ (xs : List RuleData). record { rule = r; low = index_of r least_time; cells = finmap.empty } ∷ xs) (new_data_rules rs)

-- no columns, under these rules
abbrev pub held_new : Settings → StoreContent
held_new settings = record { series = []; columns = []; rollups = replicate (length settings.rules) new_rollup }

pub data_new : (settings : Settings) (marks : Marks) (held : StoreContent) → marks ≡ marks_of settings [] → held ≡ held_new settings → data_of_parts settings marks 0 held None ≡ new_data settings
data_new settings marks held m h =
    (λ i. data_of_parts settings (m i) 0 (h i) None)
    ∙ (λ i. record (new_data settings) { rules = new_data_rules settings.rules i })

pub kept_new : (settings : Settings) (marks : Marks) (held : StoreContent) → settings_fault settings ≡ None → marks ≡ marks_of settings [] → held ≡ held_new settings → IsSoundStore settings marks 0 held None
kept_new settings marks held well m h =
    let rs : List Rule = settings.rules in
    let is : data_of_parts settings marks 0 held None ≡ new_data settings = data_new settings marks held m h in
    record {
      rollups = subst (λ (x : StoreContent). AreRollups rs (map column_of x.columns) x.rollups) (sym h) (new_rollups rs);
      lows = ap (λ (x : Marks). length x.lows) m ∙ length-map rs (low_of settings []);
      few = tt;
      counts = subst (λ (k : StoreData). HoldFew 0 k.columns k.rules) (sym is) (counts-new rs);
      live = subst (λ (k : StoreData). AreLive k.columns k.rules) (sym is) (no_live [] rs);
      possible = subst (λ (k : StoreData). HavePossibleCells k.rules) (sym is) (possible_new rs);
      sized = subst IsSized (sym is) (sized_new settings well);
    }

-- a store of these parts, in which these columns wait
abbrev waits : Settings → Marks → ℕ → Option Run → List Column → List Series → List ColumnPoints → List CellMap → StoreData
waits settings marks n run waiting series columns ms = record {
  raw_duration = settings.raw_duration;
  raw_mark = marks.raw;
  rules = rules_with settings.rules marks.lows ms;
  running = is_some run;
  waiting = waiting;
  series = series;
  columns = columns;
  accepted = n;
}

-- in which those of the run wait
abbrev data_of : Settings → Marks → ℕ → Option Run → List Series → List ColumnPoints → List CellMap → StoreData
data_of settings marks n run series columns ms = waits settings marks n run (waiting_in run columns) series columns ms

-- the plain facts don't depend on which columns wait
sized_waits : (settings : Settings) (marks : Marks) (n : ℕ) (run : Option Run) (before after : List Column) (series : List Series) (columns : List ColumnPoints) (ms : List CellMap) → IsSized (waits settings marks n run before series columns ms) → IsSized (waits settings marks n run after series columns ms)
sized_waits settings marks n run before after series columns ms s = record { settings = s.settings; content = s.content; rules = s.rules }

-- a store that has only grown
grown_stands : (opening : Settings) (h : History) (settings : Settings) (marks : Marks) (n : ℕ) (before : StoreContent) (run : Option Run) (made : List Column) (facts : List Fact) (series : List Series) (columns : List ColumnPoints) (ms : List CellMap)
    → columns ≡ with_columns before.columns made → AllDistinct (map column_of columns) → ((c : Column) → Among c (map column_of columns) → Among c.series series) → GainEmptyCells facts (rules_with settings.rules marks.lows (cells_of before.rollups)) (rules_with settings.rules marks.lows ms) → IsWithin run before.columns
    → StandsFor opening h (state_of (data_of_parts settings marks n before run)) → StandsFor opening h (state_of (data_of settings marks n run series columns ms))
grown_stands opening h settings marks n before run made facts series columns ms e once registered capacity within st =
    let more : NamesMore before.columns columns made = ap (map column_of) e ∙ names_with before.columns made in
    subst (λ ws. StandsFor opening h (state_of (waits settings marks n run ws series columns ms))) (sym (waiting_more run before.columns columns made more within))
    (grows opening h (data_of_parts settings marks n before run) series columns (rules_with settings.rules marks.lows ms) facts st once
    (λ c a. subst (λ (cs : List ColumnPoints). Among c (map column_of cs)) (sym e) (subst (Among c) (sym (names_with before.columns made)) (Among-left c (map column_of before.columns) made a))) registered (ap facts_of e ∙ same_facts before.columns made) capacity)

-- after out of memory
pub left_by : (settings : Settings) (marks : Marks) (n : ℕ) (before after : StoreContent) (run : Option Run) (p : Parts) → IsSoundStore settings marks n before run → GrowsForLine settings.rules marks.lows before after p
    → Leaves (data_of_parts settings marks n before run) (data_of_parts settings marks n after run) p
left_by settings marks n before after run p kept g =
    let old : StoreData = data_of_parts settings marks n before run in
    let more : NamesMore before.columns after.columns g.columns.made = ap (map column_of) g.columns.columns ∙ names_with before.columns g.columns.made in
    let rules : List RuleData = rules_with settings.rules marks.lows (cells_of after.rollups) in
    let others : data_of_parts settings marks n after run ≡ grown after.series after.columns rules old =
    ap (λ ws. waits settings marks n run ws after.series after.columns (cells_of after.rollups)) (waiting_more run before.columns after.columns g.columns.made more kept.few) in
    record {
      history = λ opening h st. grown_stands opening h settings marks n before run g.columns.made [] after.series after.columns (cells_of after.rollups) g.columns.columns g.known.once g.known.registered g.has_cells kept.few st;
      series = g.series;
      columns = g.columns;
      cells = g.cells;
      others = others;
      left = ap (λ (k : StoreData). steps_left (state_of k)) others ∙ left-grows old after.series after.columns rules [] g.has_cells;
    }

-- the store is as it was between two calls
pub kept_left : (settings : Settings) (marks : Marks) (n : ℕ) (before after : StoreContent) (run : Option Run) (p : Parts) → IsSoundStore settings marks n before run → is_too_many before.series (series_of p) ≡ false → IsStatable (series_of p) → AreKeys (map field_text p.fields) → GrowsForLine settings.rules marks.lows before after p
    → IsSoundStore settings marks n after run
kept_left settings marks n before after run p kept registers named keys g =
    let made : List Column = g.columns.made in
    let k : StoreData = data_of_parts settings marks n before run in
    let rules : List RuleData = rules_with settings.rules marks.lows (cells_of after.rollups) in
    let same : facts_of after.columns ≡ facts_of before.columns = ap facts_of g.columns.columns ∙ same_facts before.columns made in
    record {
      rollups = g.rollups;
      lows = kept.lows;
      few = within_more run before.columns after.columns made (ap (map column_of) g.columns.columns ∙ names_with before.columns made) kept.few;
      counts = counts-grown n before.columns after.columns same [] k.rules rules g.has_cells kept.counts;
      live = lives_grown marks.raw before.columns after.columns same [] k.rules rules g.has_cells kept.sized.rules kept.live;
      possible = ⊎_elim {C = HavePossibleCells rules} (λ e. subst (λ ms. HavePossibleCells (rules_with settings.rules marks.lows ms)) (sym e) kept.possible)
          (λ taken. possible_gained (line_facts p) (taken_valid least_time (line_facts p) taken) k.rules rules g.cells kept.possible) g.taken;
      sized = sized_waits settings marks n run (waiting_in run before.columns) (waiting_in run after.columns) after.series after.columns (cells_of after.rollups)
          (sized_grown k after.series after.columns rules [] (may_gain_few before.series after.series (series_of p) kept.sized.series registers g.series) g.known.once g.known.registered
          (may_gain_named before.series after.series (series_of p) named g.series kept.sized.named) (first_keys p before.columns after.columns keys g.columns kept.sized.keys) same g.has_cells kept.sized);
    }

-- ---- a line

pub waiting_among : (c : Column) (ds : List Column) → is_waiting ds c ≡ true → Among c ds
waiting_among c [] e = absurd (true≢false (sym e))
waiting_among c (d ∷ ds) e =
    elim (same_column c d) as (λ b. same_column c d ≡ b → b || is_waiting ds c ≡ true → Among c (d ∷ ds)) [
      | true ↦ λ q r. inl (same_column-eq c d q)
      | false ↦ λ q r. inr (waiting_among c ds r)
    ] refl e

-- each column of facts is there, or is new
column_new : (before : List ColumnPoints) (facts : List Fact) (f : Fact) → Among f facts → Among f.column (map column_of (with_columns before (new_columns (map column_of before) facts)))
column_new before facts f a =
    let names : List Column = map column_of before in
    let q : Column → Bool = λ c. not (is_waiting names c) in
    let there : Among f.column (map (λ (g : Fact). g.column) facts) = Among-map (λ (g : Fact). g.column) f facts a in
    subst (Among f.column) (sym (names_with before (new_columns names facts)))
    (elim (is_waiting names f.column) as (λ b. is_waiting names f.column ≡ b → Among f.column (names ++ new_columns names facts)) [
      | true ↦ λ e. Among-left f.column names (new_columns names facts) (waiting_among f.column names e)
      | false ↦ λ e. Among-right f.column names (new_columns names facts) (Among-filter_stays q f.column (map (λ (g : Fact). g.column) facts) there (ap not e))
    ] refl)

-- the columns of a line are created, and its facts inserted
line_names : (before after : List ColumnPoints) (rs ss : List RuleData) (fs : List Fact) → PutsFacts (with_columns before (new_columns (map column_of before) fs)) rs after ss fs → NamesMore before after (new_columns (map column_of before) fs)
line_names before after rs ss fs puts =
    let made : List Column = new_columns (map column_of before) fs in
    puts_names (with_columns before made) after rs ss fs puts ∙ names_with before made

write_stands : (opening : Settings) (h : History) (settings : Settings) (marks : Marks) (n : ℕ) (before after : StoreContent) (run : Option Run) (p : Parts) → PutsLine settings.rules marks.lows before after p → AllByRecursion (MayBeTaken marks.raw) (line_facts p)
    → n + length (line_facts p) ≤ 2 ^ 62 → IsWithin run before.columns → StandsFor opening h (state_of (data_of_parts settings marks n before run))
    → StandsFor opening (Line (line_facts p) ∷ h) (state_of (data_of_parts settings marks (n + length (line_facts p)) after run))
write_stands opening h settings marks n before after run p put taken few within st =
    let fs : List Fact = line_facts p in
    let made : List Column = new_columns (map column_of before.columns) fs in
    let columns : List ColumnPoints = with_columns before.columns made in
    let between : List RuleData = rules_with settings.rules marks.lows put.cells_between in
    let rules : List RuleData = rules_with settings.rules marks.lows (cells_of after.rollups) in
    let names : map column_of after.columns ≡ map column_of columns = puts_names columns after.columns between rules fs put.facts in
    let capacity : StandsFor opening h (state_of (data_of settings marks n run after.series columns put.cells_between)) =
    grown_stands opening h settings marks n before run made fs after.series columns put.cells_between refl (subst AllDistinct names put.known.once) (λ c a. put.known.registered c (subst (Among c) (sym names) a)) put.has_cells within st in
    let mark : marks.raw ≡ raw_mark opening h = ap (λ (m : Marks). m.raw) st.marks in
    let more = length_before fs (accepted h) in
    let none : NamesMore columns after.columns [] = names ∙ sym (append-nil (map column_of columns)) in
    subst (λ ws. StandsFor opening (Line fs ∷ h) (state_of (waits settings marks (n + length fs) run ws after.series after.columns (cells_of after.rollups))))
    (sym (waiting_more run columns after.columns [] none (within_more run before.columns columns made (names_with before.columns made) within)))
    (line_put opening h (data_of settings marks n run after.series columns put.cells_between) after.columns fs (rules_with settings.rules marks.lows (cells_of before.rollups)) rules capacity put.has_cells
    (λ f a. column_new before.columns fs f a) put.facts (st.lawful, subst (λ (m : ℤ). AllByRecursion (MayBeTaken m) fs) mark taken, omega (arith, st.accepted, more, few)))

pub accepted_by : (settings : Settings) (marks : Marks) (n : ℕ) (before after : StoreContent) (run : Option Run) (p : Parts) → IsSoundStore settings marks n before run → PutsLine settings.rules marks.lows before after p
    → AllByRecursion (MayBeTaken marks.raw) (line_facts p) → n + length (line_facts p) ≤ 2 ^ 62 → Accepts (data_of_parts settings marks n before run) (data_of_parts settings marks (n + length (line_facts p)) after run) p
accepted_by settings marks n before after run p kept put taken few =
    let fs : List Fact = line_facts p in
    let made : List Column = new_columns (map column_of before.columns) fs in
    let old : StoreData = data_of_parts settings marks n before run in
    let between : List RuleData = rules_with settings.rules marks.lows put.cells_between in
    let rules : List RuleData = rules_with settings.rules marks.lows (cells_of after.rollups) in
    let others : data_of_parts settings marks (n + length fs) after run ≡ put_facts after.columns rules (length fs) (grown after.series after.columns rules old) =
    ap (λ ws. waits settings marks (n + length fs) run ws after.series after.columns (cells_of after.rollups))
    (waiting_more run before.columns after.columns made (line_names before.columns after.columns between rules fs put.facts) kept.few) in
    let cells_between : StoreData = grown after.series (with_columns before.columns made) between old in
    record {
      history = λ opening h st. write_stands opening h settings marks n before after run p put taken few kept.few st;
      series = put.series;
      columns = puts_names (with_columns before.columns made) after.columns between rules fs put.facts;
      cells = put.cells;
      others = others;
      left = ap (λ (k : StoreData). steps_left (state_of k)) others ∙ left-puts cells_between after.columns fs rules (length fs) put.facts ∙ left-grows old after.series (with_columns before.columns made) between fs put.has_cells;
    }

-- live parts stay those of the raw facts when capacity is reserved
pub stay_live : (settings : Settings) (marks : Marks) (n : ℕ) (before : StoreContent) (run : Option Run) → IsSoundStore settings marks n before run → StayLive settings.rules marks.lows before.columns (cells_of before.rollups)
stay_live settings marks n before run kept = λ facts ms capacity.
    lives_grown marks.raw before.columns before.columns refl facts (data_of_parts settings marks n before run).rules (rules_with settings.rules marks.lows ms) capacity kept.sized.rules kept.live

-- the store is again what it is between two calls
pub kept_accepted : (settings : Settings) (marks : Marks) (n : ℕ) (before after : StoreContent) (run : Option Run) (p : Parts) → IsSoundStore settings marks n before run → is_too_many before.series (series_of p) ≡ false → IsStatable (series_of p) → AreKeys (map field_text p.fields) → PutsLine settings.rules marks.lows before after p
    → n + length (line_facts p) ≤ 2 ^ 62 → IsSoundStore settings marks (n + length (line_facts p)) after run
kept_accepted settings marks n before after run p kept registers named keys put few =
    let fs : List Fact = line_facts p in
    let made : List Column = new_columns (map column_of before.columns) fs in
    let columns : List ColumnPoints = with_columns before.columns made in
    let between : List RuleData = rules_with settings.rules marks.lows put.cells_between in
    let rules : List RuleData = rules_with settings.rules marks.lows (cells_of after.rollups) in
    let k : StoreData = data_of_parts settings marks n before run in
    let same : facts_of columns ≡ facts_of before.columns = same_facts before.columns made in
    let names : map column_of after.columns ≡ map column_of columns = puts_names columns after.columns between rules fs put.facts in
    let live : AreLive columns between = lives_grown marks.raw before.columns columns same fs k.rules between put.has_cells kept.sized.rules kept.live in
    let sized : IsSized (grown after.series columns between k) =
    sized_grown k after.series columns between fs (gains_few before.series after.series (series_of p) kept.sized.series registers put.series) (subst AllDistinct names put.known.once) (λ c a. put.known.registered c (subst (Among c) (sym names) a))
    (gains_named before.series after.series (series_of p) named put.series kept.sized.named) (all_keys p before.columns keys kept.sized.keys) same put.has_cells kept.sized in
    record {
      rollups = put.rollups;
      lows = kept.lows;
      few = within_more run before.columns after.columns made (line_names before.columns after.columns between rules fs put.facts) kept.few;
      counts = counts-put n columns after.columns between rules fs put.facts (counts-grown n before.columns columns same fs k.rules between put.has_cells kept.counts);
      live = lives_line fs columns after.columns between rules sized.once put.facts live;
      possible = possible_put fs (taken_valid least_time fs put.taken) k.rules rules put.cells kept.possible;
      sized = sized_waits settings marks (n + length fs) run (waiting_in run before.columns) (waiting_in run after.columns) after.series after.columns (cells_of after.rollups)
          (sized_put (grown after.series columns between k) after.columns fs k.rules rules put.has_cells put.facts few sized);
    }

-- ---- the results

-- the facts that are kept are the raw ones
pub raw_facts_are : (opening : Settings) (h : History) (k : StoreData) → StandsFor opening h (state_of k) → (f : Fact) → Among f (facts_of k.columns) ↔ Among f (all_raw k.waiting opening h)
raw_facts_are opening h k st f =
    let p : Fact → Bool = is_kept (kept_from opening h k.waiting) in
    let held : Holds (kept_from opening h k.waiting) (latest_of h) (facts_of k.columns) = StandsFor-Holds opening h (state_of k) st in (
      λ a. let q = held.only f a in Among-filter_stays p f (latest_of h) q.0 q.1,
      λ a. held.all f (Among-filter_was p f (latest_of h) a) (Among-filter_passes p f (latest_of h) a),
    )

pub raw_count : (opening : Settings) (h : History) (k : StoreData) → StandsFor opening h (state_of k) → length (facts_of k.columns) ≡ length (all_raw k.waiting opening h)
raw_count opening h k st =
    length-same (facts_of k.columns) (all_raw k.waiting opening h) st.once (AllDistinct-filter (is_kept (kept_from opening h k.waiting)) (latest_of h) (latest-distinct (accepted h)))
    (λ g. (raw_facts_are opening h k st g).0) (λ g. (raw_facts_are opening h k st g).1)

-- where no run is open, these are the latest from the raw mark on
pub idle_stands : (opening : Settings) (h : History) (k : StoreData) → k.running ≡ false → StandsFor opening h (state_of k) → length (facts_of k.columns) ≡ length (raw_facts opening h)
idle_stands opening h k idle st = raw_count opening h k st ∙ ap (λ ws. length (all_raw ws opening h)) (st.idle (λ runs. true≢false (sym (st.running.1 runs) ∙ idle)))

-- a point is there if its fact is
between : (columns : List ColumnPoints) (s : ColumnPoints) (a b : ℤ) (p : ℤ × ℤ) (facts : List Fact) → Among s columns → AllDistinct (map column_of columns) → Among (fact_at s.column p) (facts_of columns) ↔ Among (fact_at s.column p) facts
    → Among p (points_between a b s.points) ↔ (Among (fact_at s.column p) facts × (is_within a b p.0 ≡ true))
between columns s a b p facts here once same =
    let f : Fact = fact_at s.column p in
    let within : ℤ × ℤ → Bool = λ q. is_within a b q.0 in (
      λ m. (same.0 (facts_of-there columns s f here (Among-map (fact_at s.column) p s.points (Among-filter_was within p s.points m))), Among-filter_passes within p s.points m),
      λ l. Among-filter_stays within p s.points (in_column s.column s.points f (facts_of-here columns s f once here refl (same.1 l.0))).1 l.1,
    )

-- the points of a column are those of its raw facts
pub raw_between : (opening : Settings) (h : History) (k : StoreData) (n : ℕ) (s : ColumnPoints) (a b : ℤ) → IsAt k.columns n s → StandsFor opening h (state_of k) → AreRawOf k.waiting s.column a b (points_between a b s.points) opening h
raw_between opening h k n s a b at st = λ p. between k.columns s a b p (raw_of opening h k.waiting s.column) (at_among k.columns n s at) st.columns_once (st.raw (fact_at s.column p))

-- so those of its latest facts, at or above the raw mark
pub range_stands : (opening : Settings) (h : History) (k : StoreData) (n : ℕ) (s : ColumnPoints) (a b : ℤ) → IsAt k.columns n s → StandsFor opening h (state_of k) → AreLatestOf s.column a b (points_between a b s.points) opening h
range_stands opening h k n s a b at st = λ p above.
    between k.columns s a b p (latest_of h) (at_among k.columns n s at) st.columns_once ((stands_shows opening h (state_of k) st).raw (fact_at s.column p) (subst (λ (m : Marks). m.raw ≤ℤ p.0) (sym st.marks) above))

-- ---- the facts of a line

pub series_from : (p : Parts) (measurement : Text) (tags : List (Text × Text)) → measurement ≡ p.measurement.text → tags ≡ (series_of p).tags → record { measurement = measurement; tags = tags } ≡ series_of p
series_from p measurement tags m t = λ i. record { measurement = m i; tags = t i }

pub taken_more : (mark : ℤ) (facts : List Fact) (f : Fact) → AllByRecursion (MayBeTaken mark) facts → MayBeTaken mark f → AllByRecursion (MayBeTaken mark) (facts ++ f ∷ [])
taken_more mark [] f all one = (one, tt)
taken_more mark (g ∷ facts) f all one = (all.0, taken_more mark facts f all.1 one)

-- ---- refusals

-- a series that is looked up in an index is registered, or not
found_as : (series : List Series) (s : Series) (r : Option ℕ) → IfSome r (λ id. slice_get series id ≡ Some s) → IfNone r (Among s series → ⊥) → is_registered series s ≡ is_some r
found_as series s None found absent = registered-not s series absent
found_as series s (Some id) found absent = registered-there s series (at_among series id s found)

nat_le_yes : (x y : ℕ) → x ≤ y → nat_le x y ≡ true
nat_le_yes x y h = grind arith

nat_le_from : (x y : ℕ) → nat_le x y ≡ true → x ≤ y
nat_le_from x y h = grind arith

nat_le_not : (x y : ℕ) → y < x → nat_le x y ≡ false
nat_le_not x y h = grind arith

-- the result of a look-up decides if a series is too many
pub looked_for : (series : List Series) (s : Series) (r : Option ℕ) (none : Bool) → is_some r ≡ not none → IfSome r (λ id. slice_get series id ≡ Some s) → IfNone r (Among s series → ⊥) → 1000000 ≤ length series → none ≡ is_too_many series s
looked_for series s r none e found absent full = sym (ap (λ b. b && not (is_registered series s)) (nat_le_yes 1000000 (length series) full) ∙ ap not (found_as series s r found absent ∙ e) ∙ not-not none)

-- a line that isn't refused
pub record IsWelcome (mark : ℤ) (series : List Series) (n : ℕ) (p : Parts) : Type 0 where
  pub late : mark ≤ℤ p.time
  pub registers : is_too_many series (series_of p) ≡ false
  pub few : n + length (line_facts p) ≤ 2 ^ 62

pub not_refused : (mark : ℤ) (series : List Series) (n : ℕ) (p : Parts) → write_fault mark series n p ≡ None → IsWelcome mark series n p
not_refused mark series n p e =
    let below = well (int_le mark p.time) (BelowRawMark mark) _ e in
    let series_said = well (not (is_too_many series (series_of p))) TooManySeries _ below.1 in
    let facts_said = well (nat_le (n + length (line_facts p)) (2 ^ 62)) TooManyFacts None series_said.1 in
    record {
      late = le_from mark p.time below.0;
      registers = sym (not-not (is_too_many series (series_of p))) ∙ ap not series_said.0;
      few = nat_le_from (n + length (line_facts p)) (2 ^ 62) facts_said.0;
    }

-- a moment that isn't before the mark
pub not_before : (time mark t m : ℤ) → t ≡ time → m ≡ mark → is_lt (int_cmp t m) ≡ false → mark ≤ℤ time
not_before time mark t m et em e =
    let below : int_lt t m ≡ false = elim (int_lt t m) as (λ b. is_lt (cond b Less (cond (int_lt m t) Greater Equal)) ≡ false → b ≡ false) [ true ↦ λ q. q | false ↦ λ q. refl ] e in
    let late : m ≤ℤ t = lt_not t m below in
    omega (arith, ints, late, et, em)

-- its number of facts alone decides
on_time : (mark : ℤ) (series : List Series) (n : ℕ) (p : Parts) (b : Bool) → mark ≤ℤ p.time → is_too_many series (series_of p) ≡ false → nat_le (n + length (line_facts p)) (2 ^ 62) ≡ b → write_fault mark series n p ≡ unless b TooManyFacts None
on_time mark series n p b late registers e = λ i. unless (le_true mark p.time late i) (BelowRawMark mark) (unless (not (registers i)) TooManySeries (unless (e i) TooManyFacts None))

pub facts_refused : (mark : ℤ) (series : List Series) (n : ℕ) (p : Parts) → mark ≤ℤ p.time → is_too_many series (series_of p) ≡ false → 2 ^ 62 < n + length (line_facts p) → write_fault mark series n p ≡ Some TooManyFacts
facts_refused mark series n p late registers many = on_time mark series n p false late registers (nat_le_not (n + length (line_facts p)) (2 ^ 62) many)

pub welcome : (mark : ℤ) (series : List Series) (n : ℕ) (p : Parts) → mark ≤ℤ p.time → is_too_many series (series_of p) ≡ false → n + length (line_facts p) ≤ 2 ^ 62 → write_fault mark series n p ≡ None
welcome mark series n p late registers few = on_time mark series n p true late registers (nat_le_yes (n + length (line_facts p)) (2 ^ 62) few)

taken_fields : (mark : ℤ) (p : Parts) → mark ≤ℤ p.time → (fields : List (LinePart × ℤ)) → AllByRecursion (MayBeTaken least_time) (map (fact_of p) fields) → AllByRecursion (MayBeTaken mark) (map (fact_of p) fields)
taken_fields mark p late [] all = tt
taken_fields mark p late (f ∷ fields) all = (record { valid = all.0.valid; fits = all.0.fits; raw = late }, taken_fields mark p late fields all.1)

-- the facts of a line from the mark on may be taken
pub taken_from : (mark : ℤ) (p : Parts) → mark ≤ℤ p.time → AllByRecursion (MayBeTaken least_time) (line_facts p) → AllByRecursion (MayBeTaken mark) (line_facts p)
taken_from mark p late all = taken_fields mark p late p.fields all

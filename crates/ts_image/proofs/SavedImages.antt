-- The image of a store that represents a history: it passes each test for contradictions.
use Rattle.std.proofs.Common.{◌≡◌, ◌⊎◌, ℕ, ◌+◌, ◌≤◌, ◌^◌, ℤ, pos, ◌≤ℤ◌, int_le, ◌==◌, Bool, true, false, cond, List, [], ◌∷◌, length, map, filter, refl, sym, ◌∙◌, ap, subst, inl, inr, true≢false, arith, None}
use Rattle.std.specs.List.{AllByRecursion, sum_by}
use Rattle.std.proofs.lemmas.Slice.Zip.{AllZip-long}
use Rattle.std.proofs.lemmas.List.{length-map}
use Rattle.std.proofs.lemmas.List.Sums.{sum_by-cons}
use Rattle.std.proofs.lemmas.Bool.Decides.{nat_tests}
use Rattle.ts_core.specs.lists.Members.{Among, AllDistinct}
use Rattle.ts_core.specs.facts.Times.{IsTime}
use Rattle.ts_core.specs.facts.Facts.{Column, Fact}
use Rattle.ts_core.specs.settings.Settings.{Rule, IsPossibleRule, Settings, Outlasts}
use Rattle.ts_core.specs.settings.SettingsFaults.{settings_fault}
use Rattle.ts_core.specs.store.History.{History, settings_of, accepted, raw_mark}
use Rattle.ts_core.specs.facts.Latest.{latest_of}
use Rattle.ts_core.specs.store.Marks.{Marks, low_of}
use Rattle.ts_core.specs.aggregates.Aggregates.{Aggregate}
use Rattle.ts_core.specs.store.RawFacts.{is_waiting, earlier_mark, kept_from}
use Rattle.ts_core.specs.store.Cells.{Cell, cell_cmp, is_rolled, frozen_of}
use Rattle.ts_core.specs.store.StoreStates.{StandsFor, HasCells, fact_at, facts_of}
use Rattle.ts_core.specs.store.StoreData.{CellMap, RuleData, StoreData, rule_cells, state_of}
use Rattle.ts_core.specs.io.ReadingAhead.{bit}
use Rattle.ts_core.proofs.lists.Comparisons.{le_from}
use Rattle.ts_core.proofs.store.ColumnFacts.{facts_of-there, column_there, facts_at-distinct}
use Rattle.ts_core.proofs.store.Cuts.{Holds}
use Rattle.ts_core.proofs.aggregates.Folds.{length-same}
use Rattle.ts_core.proofs.settings.Intervals.{settings_faultless}
use Rattle.ts_core.proofs.store.LowIndices.{low_of-near}
use Rattle.ts_core.proofs.lists.MembersLemmas.{Among-map, AllDistinct-filter, Among-filter_was, Among-filter_passes, Among-filter_stays}
use Rattle.ts_core.proofs.plans.PieceCells.{cells_total}
use Rattle.ts_core.proofs.settings.SettingsLaws.{settings_are}
use Rattle.ts_core.proofs.store.StateLemmas.{raw_duration_of, StandsFor-Holds, same_head, same_rest, cons_not}
use Rattle.ts_core.proofs.moves.StepStands.{few_accepted}
use Rattle.ts_line.specs.Names.{IsKey}
use Rattle.ts_image.specs.declared.version.Version.TheVariants.{V2}
use Rattle.ts_image.specs.Images.{ImageRule, ImageColumn, ImageSeries, ImageCell, ImageData}
use Rattle.ts_image.specs.ImageTests.{IsKeyName, rule_in, settings_of_image, IsImageRule, AreImageSettings, AreLows, IsImagePoint, IsImageColumn, IsImageSeries, IsImageCell, AreImageCells, points_in_all, points_of_measurement, count_frozen, AreCounted, CellsAre, IsPossible}
use Rattle.ts_store.specs.image.SavedContent.{AreRising}
use Rattle.ts_store.proofs.store.CountsKept.{length-within}
use Rattle.ts_store.proofs.store.Stands.{waiting_among}
use Rattle.ts_image.specs.Pictures.{column_of_image, image_points_in, columns_of_image, cell_part_of, part_at, PicturesCells, PictureCells, IsPictureOf}
use Rattle.ts_image.specs.SavedImages.{IsOrderlyColumn, IsOrderlySeries, AreOrderlyCells, IsOrderly, IsWellFormed, SavedImagesArePossible}
use Rattle.ts_image.proofs.CellSums.{number_of, AreFrom, latest-few, rule_counted}
use Rattle.ts_image.proofs.FrozenPictures.{latest_valid, frozen_some, frozen_cell}
use Rattle.ts_image.proofs.NamedKeys.{name_of, key_of}
use Rattle.ts_image.proofs.Orders.{all_among, among_all, rising_distinct}
use Rattle.ts_image.proofs.RawPictures.{series_of, field_of, column_here, waiting_from, waiting_here, series_once, fields_once, columns_once, one_column, points_counted, points_rolled, not_one}
use Rattle.ts_image.proofs.ReloadLemmas.{SameMembers, facts_same, facts_once}

-- ---- settings and low indices

image_rules : (rs : List ImageRule) → AllByRecursion IsPossibleRule (map rule_in rs) → AllByRecursion (λ (r : ImageRule). pos 0 ≤ℤ r.duration) rs → AllByRecursion IsImageRule rs
image_rules [] possible lasting = tt
image_rules (r ∷ rs) possible lasting = (record { measured = possible.0.measured; tagged = possible.0.tagged; lasting = lasting.0 }, image_rules rs possible.1 lasting.1)

near_lows : (opening : Settings) (h : History) (rs : List ImageRule) → AllByRecursion (λ (r : Rule). pos 1 ≤ℤ r.interval) (map rule_in rs) → AllByRecursion (λ (r : Rule). Outlasts r.duration opening.raw_duration) (map rule_in rs)
    → AreLows V2 (raw_mark opening h) rs (map (low_of opening h) (map rule_in rs))
near_lows opening h [] wide lasting = tt
near_lows opening h (r ∷ rs) wide lasting =
    let near = low_of-near opening h (rule_in r) wide.0 lasting.0 in
    (record { least = near.0; most = near.1 }, near_lows opening h rs wide.1 lasting.1)

-- ---- sums of cells

from_low : (low : ℤ) (cs : List ImageCell) → AllByRecursion (λ (c : ImageCell). low ≤ℤ c.cell.index) cs → AreFrom low (map (λ (c : ImageCell). c.cell) cs)
from_low low [] h = tt
from_low low (c ∷ cs) h = (h.0, from_low low cs h.1)

frozen_sum : (m : CellMap) (cs : List ImageCell) → ((c : ImageCell) → Among c cs → part_at m c.cell ≡ cell_part_of c) → sum_by (λ (k : Cell). (part_at m k).count) (map (λ (c : ImageCell). c.cell) cs) ≡ count_frozen cs
frozen_sum m [] each = refl
frozen_sum m (c ∷ cs) each =
    let here : (part_at m c.cell).count ≡ c.count = ap (λ (a : Aggregate). a.count) (each c (inl refl)) in
    let rest = frozen_sum m cs (λ x a. each x (inr a)) in
    let left = sum_by-cons (λ (k : Cell). (part_at m k).count) c.cell (map (λ (x : ImageCell). x.cell) cs) in
    let right = sum_by-cons (λ (x : ImageCell). x.count) c cs in
    omega (arith, here, rest, left, right)

one_of : (n : ℕ) → (n == 1) ≡ true → n ≡ 1
one_of n e = grind (arith, nat_tests)

module _ (opening : Settings) (h : History) (k : StoreData) (d : ImageData) (st : StandsFor opening h (state_of k)) (well : IsWellFormed k) (p : IsPictureOf k d) (o : IsOrderly d) where
  abbrev cut : Column → ℤ
  cut = kept_from opening h k.waiting

  held : Holds cut (latest_of h) (facts_of k.columns)
  held = StandsFor-Holds opening h (state_of k) st

  mark_is : d.marks.raw ≡ raw_mark opening h
  mark_is = ap (λ (m : Marks). m.raw) (p.marks ∙ st.marks)

  settings_are_those : settings_of_image d.settings ≡ settings_of opening h
  settings_are_those = p.settings ∙ st.settings

  faultless : settings_fault (settings_of_image d.settings) ≡ None
  faultless = ap settings_fault settings_are_those ∙ settings_faultless opening h st.lawful

  settings_possible : AreImageSettings d.settings
  settings_possible =
      let possible : AllByRecursion IsPossibleRule (map rule_in d.settings.rules) = subst (λ (s : Settings). AllByRecursion IsPossibleRule s.rules) (sym p.settings) well.rules in
      record { raw = o.raw; rules = image_rules d.settings.rules possible o.durations; faultless = faultless }

  lows_possible : AreLows V2 d.marks.raw d.settings.rules d.marks.lows
  lows_possible =
      let are = settings_are (settings_of_image d.settings) faultless in
      let raw : (settings_of_image d.settings).raw_duration ≡ opening.raw_duration = ap (λ (s : Settings). s.raw_duration) settings_are_those ∙ raw_duration_of opening h in
      let lasting : AllByRecursion (λ (r : Rule). Outlasts r.duration opening.raw_duration) (map rule_in d.settings.rules) = subst (λ (n : ℕ). AllByRecursion (λ (r : Rule). Outlasts r.duration n) (map rule_in d.settings.rules)) raw are.lasting in
      let lows : d.marks.lows ≡ map (low_of opening h) (map rule_in d.settings.rules) =
      ap (λ (m : Marks). m.lows) (p.marks ∙ st.marks) ∙ ap (λ (s : Settings). map (low_of opening h) s.rules) (sym settings_are_those) in
      subst (λ (m : ℤ). AreLows V2 m d.settings.rules d.marks.lows) (sym mark_is)
      (subst (AreLows V2 (raw_mark opening h) d.settings.rules) (sym lows) (near_lows opening h d.settings.rules are.intervals lasting))

  -- ---- series

  keys_distinct : AllDistinct (map series_of d.series)
  keys_distinct = series_once d.series o.rising

  orderly : (s : ImageSeries) → Among s d.series → IsOrderlySeries s
  orderly s a = all_among IsOrderlySeries d.series o.series s a

  fields_distinct : (s : ImageSeries) → Among s d.series → AllDistinct (map field_of s.columns)
  fields_distinct s a = fields_once s.columns (orderly s a).rising

  few_series : length d.series ≤ 1000000
  few_series =
      let few = well.sized.series in
      let most = length-within (map series_of d.series) k.series keys_distinct (λ s a. (p.series s).0 a) in
      let same = length-map d.series series_of in
      omega (arith, few, most, same)

  in_store : (s : ImageSeries) (c : ImageColumn) → Among s d.series → Among c s.columns → Among (image_points_in s.series c) k.columns
  in_store s c a b = (p.columns (image_points_in s.series c)).0 (column_here d.series s c a b)

  -- a column that waits has the flag
  flag_of_waiting : (s : ImageSeries) (c : ImageColumn) → Among s d.series → Among c s.columns → Among (column_of_image s.series c) k.waiting → c.waits ≡ 1
  flag_of_waiting s c a b w =
      let from = waiting_from d.series (column_of_image s.series c) ((p.waiting (column_of_image s.series c)).1 w) in
      let same : c ≡ from.1 = one_column d.series keys_distinct fields_distinct s from.0 c from.1 a from.2 b from.3 (sym from.4) in
      one_of c.waits (ap (λ (x : ImageColumn). x.waits == 1) same ∙ from.5)

  -- and one with the flag waits, so a run is open
  running : (w : Column) → Among w k.waiting → d.runs ≡ 1
  running w a =
      elim k.running as (λ b. k.running ≡ b → d.runs ≡ 1) [
        | true ↦ λ e. p.runs ∙ ap bit e
        | false ↦ λ e. absurd (subst (Among w) (st.idle (λ begun. true≢false (sym (st.running.1 begun) ∙ e))) a)
      ] refl

  flags_upto : (s : ImageSeries) (c : ImageColumn) → Among s d.series → Among c s.columns → c.waits ≤ 1 → c.waits ≤ d.runs
  flags_upto s c a b few =
      elim (c.waits == 1) as (λ t. (c.waits == 1) ≡ t → c.waits ≤ d.runs) [
        | true ↦ λ e. let begun = running (column_of_image s.series c) ((p.waiting (column_of_image s.series c)).0 (waiting_here d.series s c a b e)) in let one = one_of c.waits e in omega (arith, begun, one)
        | false ↦ λ e. let none = not_one c.waits e few in omega (arith, none)
      ] refl

  -- a point of a column, as a raw fact
  raw_fact : (s : ImageSeries) (c : ImageColumn) (q : ℤ × ℤ) → Among s d.series → Among c s.columns → Among q c.points → Among (fact_at (column_of_image s.series c) q) (facts_of k.columns)
  raw_fact s c q a b i = facts_of-there k.columns (image_points_in s.series c) (fact_at (column_of_image s.series c) q) (in_store s c a b) (Among-map (fact_at (column_of_image s.series c)) q c.points i)

  point_possible : (s : ImageSeries) (c : ImageColumn) → Among s d.series → Among c s.columns → (q : ℤ × ℤ) → Among q c.points → IsImagePoint (raw_mark opening h) c.waits q
  point_possible s c a b q i =
      let w : Column = column_of_image s.series c in
      let only = held.only (fact_at w q) (raw_fact s c q a b i) in (
        latest_valid opening h st.lawful (fact_at w q) only.0,
        elim (is_waiting k.waiting w) as (λ t. is_waiting k.waiting w ≡ t → (c.waits ≡ 1) ⊎ (raw_mark opening h ≤ℤ q.0)) [
          | true ↦ λ e. inl (flag_of_waiting s c a b (waiting_among w k.waiting e))
          | false ↦ λ e. inr (le_from (raw_mark opening h) q.0 (ap (λ t. int_le (cond t (earlier_mark opening h) (raw_mark opening h)) q.0) (sym e) ∙ only.1))
        ] refl,
      )

  column_possible : (s : ImageSeries) → Among s d.series → (c : ImageColumn) → Among c s.columns → IsImageColumn (raw_mark opening h) d.runs c
  column_possible s a c b =
      let mine = all_among IsOrderlyColumn s.columns (orderly s a).columns c b in
      record {
        field = name_of c.field (well.sized.keys (column_of_image s.series c) (column_there k.columns (image_points_in s.series c) (in_store s c a b)));
        waits = flags_upto s c a b mine.flag;
        points = among_all (IsImagePoint (raw_mark opening h) c.waits) c.points (point_possible s c a b);
        rising = mine.rising;
      }

  series_possible : (s : ImageSeries) → Among s d.series → IsImageSeries (raw_mark opening h) d.runs s
  series_possible s a = record {
    key = key_of s.series (well.sized.named s.series ((p.series s.series).0 (Among-map series_of s d.series a)));
    columns = among_all (IsImageColumn (raw_mark opening h) d.runs) s.columns (column_possible s a);
    rising = (orderly s a).rising;
  }

  -- ---- counts

  forth : SameMembers (columns_of_image d.series) k.columns
  forth c a = (p.columns c).0 a

  back : SameMembers k.columns (columns_of_image d.series)
  back c a = (p.columns c).1 a

  facts_distinct : AllDistinct (facts_of (columns_of_image d.series))
  facts_distinct = facts_once (columns_of_image d.series) (columns_once d.series keys_distinct fields_distinct) (λ c a. facts_at-distinct k.columns c st.once (forth c a))

  points_few : points_in_all d.series ≤ d.accepted
  points_few =
      let most = length-within (facts_of (columns_of_image d.series)) (latest_of h) facts_distinct (λ f a. (held.only f (facts_same (columns_of_image d.series) k.columns forth f a)).0) in
      let points = points_counted d.series in
      let latest = latest-few (accepted h) in
      let same = p.accepted in
      let all = st.accepted in
      omega (arith, most, points, latest, same, all)

  accepted_few : d.accepted ≤ 2 ^ 62
  accepted_few = let same = p.accepted in let all = st.accepted in let few = few_accepted opening h st.lawful in omega (arith, same, all, few)

  rolled_same : (r : Rule) → number_of (is_rolled r) (facts_of (columns_of_image d.series)) ≡ number_of (is_rolled r) (facts_of k.columns)
  rolled_same r =
      let t : Fact → Bool = is_rolled r in
      let mine : List Fact = facts_of (columns_of_image d.series) in
      let its : List Fact = facts_of k.columns in
      length-same (filter t mine) (filter t its) (AllDistinct-filter t mine facts_distinct) (AllDistinct-filter t its st.once)
      (λ f a. Among-filter_stays t f its (facts_same (columns_of_image d.series) k.columns forth f (Among-filter_was t f mine a)) (Among-filter_passes t f mine a))
      (λ f a. Among-filter_stays t f mine (facts_same k.columns (columns_of_image d.series) back f (Among-filter_was t f its a)) (Among-filter_passes t f its a))

  rule_few : (r : ImageRule) (low : ℤ) (m : CellMap) (cs : List ImageCell) → ((q : Cell) → low ≤ℤ q.index → part_at m q ≡ frozen_of cut (rule_in r) q (latest_of h)) → PicturesCells low m cs
      → AllByRecursion (λ (c : ImageCell). low ≤ℤ c.cell.index) cs → AreRising cell_cmp (map (λ (c : ImageCell). c.cell) cs) → count_frozen cs + points_of_measurement r.measurement d.series ≤ d.accepted
  rule_few r low m cs parts pictures kept rising =
      let few = rule_counted opening h k st (rule_in r) low m parts (map (λ (c : ImageCell). c.cell) cs) (rising_distinct cells_total (map (λ (c : ImageCell). c.cell) cs) rising) (from_low low cs kept) in
      let sum = frozen_sum m cs pictures.each in
      let rolled = points_rolled (rule_in r) d.series in
      let same = rolled_same (rule_in r) in
      let all = p.accepted in
      omega (arith, few, sum, rolled, same, all)

  -- ---- cells

  cell_name : (r : Rule) (c : ImageCell) → cell_part_of c ≡ frozen_of cut r c.cell (latest_of h) → IsKeyName c.cell.field
  cell_name r c e =
      let some = frozen_some opening h k.waiting r c e in
      let name : IsKey some.0.column.field = well.sized.keys some.0.column (st.columns_there some.0 some.1.there) in
      subst IsKeyName (ap (λ (x : Cell). x.field) some.1.cell) (name_of some.0.column.field name)

  rule_cells_possible : (r : ImageRule) (low : ℤ) (m : CellMap) (cs : List ImageCell) → ((q : Cell) → low ≤ℤ q.index → part_at m q ≡ frozen_of cut (rule_in r) q (latest_of h)) → PicturesCells low m cs
      → AllByRecursion (λ (c : ImageCell). low ≤ℤ c.cell.index) cs → AreRising cell_cmp (map (λ (c : ImageCell). c.cell) cs) → AreImageCells (raw_mark opening h) r low cs
  rule_cells_possible r low m cs parts pictures kept rising = record {
    each = among_all (IsImageCell (raw_mark opening h) r low) cs (λ c a.
        let above = all_among (λ (x : ImageCell). low ≤ℤ x.cell.index) cs kept c a in
        let part : cell_part_of c ≡ frozen_of cut (rule_in r) c.cell (latest_of h) = sym (pictures.each c a) ∙ parts c.cell above in
        frozen_cell opening h k.waiting r low c st.lawful above (cell_name (rule_in r) c part) part);
    rising = rising;
  }

  -- rule by rule
  all_cells : (rs : List ImageRule) (ss : List RuleData) (lows : List ℤ) (cs : List (List ImageCell)) → map rule_in rs ≡ map (λ (a : RuleData). a.rule) ss → lows ≡ map (λ (a : RuleData). a.low) ss → AllByRecursion (HasCells cut (latest_of h)) (map rule_cells ss)
      → PictureCells ss cs → AreOrderlyCells lows cs → CellsAre (raw_mark opening h) rs lows cs × AreCounted d rs cs
  all_cells [] ss lows cs rules same rolled pictures order = (tt, tt)
  all_cells (r ∷ rs) [] lows cs rules same rolled pictures order = absurd (cons_not rules)
  all_cells (r ∷ rs) (x ∷ ss) [] cs rules same rolled pictures order = absurd (cons_not (sym same))
  all_cells (r ∷ rs) (x ∷ ss) (low ∷ lows) [] rules same rolled pictures order = absurd pictures
  all_cells (r ∷ rs) (x ∷ ss) (low ∷ lows) (c ∷ cs) rules same rolled pictures order =
      let names : RuleData → Rule = λ a. a.rule in
      let firsts : RuleData → ℤ = λ a. a.low in
      let rule : rule_in r ≡ x.rule = same_head (rule_in r) x.rule (map rule_in rs) (map names ss) rules in
      let its : low ≡ x.low = same_head low x.low lows (map firsts ss) same in
      let parts : (q : Cell) → low ≤ℤ q.index → part_at x.cells q ≡ frozen_of cut (rule_in r) q (latest_of h) =
      λ q l. rolled.0.frozen q (subst (λ (z : ℤ). z ≤ℤ q.index) its l) ∙ ap (λ z. frozen_of cut z q (latest_of h)) (sym rule) in
      let pictured : PicturesCells low x.cells c = subst (λ (z : ℤ). PicturesCells z x.cells c) (sym its) pictures.0 in
      let rest = all_cells rs ss lows cs (same_rest (rule_in r) x.rule (map rule_in rs) (map names ss) rules) (same_rest low x.low lows (map firsts ss) same) rolled.1 pictures.1 order.1 in (
        (rule_cells_possible r low x.cells c parts pictured order.0.kept order.0.rising, rest.0),
        (record { enough = rule_few r low x.cells c parts pictured order.0.kept order.0.rising }, rest.1),
      )

  cells_possible : CellsAre (raw_mark opening h) d.settings.rules d.marks.lows d.cells × AreCounted d d.settings.rules d.cells
  cells_possible = all_cells d.settings.rules k.rules d.marks.lows d.cells (ap (λ (x : Settings). x.rules) p.settings) (ap (λ (m : Marks). m.lows) p.marks) st.rolled p.cells o.cells

  bit_few : (b : Bool) → bit b ≤ 1
  bit_few true = omega arith
  bit_few false = omega arith

  possible : IsPossible V2 d
  possible = record {
    settings = settings_possible;
    mark = subst IsTime (ap (λ (m : Marks). m.raw) (sym p.marks)) well.mark;
    lows = lows_possible;
    runs = let is = p.runs in let bit = bit_few k.running in omega (arith, is, bit);
    few = few_series;
    series = subst (λ (m : ℤ). AllByRecursion (IsImageSeries m d.runs) d.series) (sym mark_is) (among_all (IsImageSeries (raw_mark opening h) d.runs) d.series series_possible);
    rising = o.rising;
    each =
        AllZip-long (λ (a : RuleData). PicturesCells a.low a.cells) k.rules d.cells p.cells ∙ sym (length-map k.rules (λ (a : RuleData). a.rule)) ∙ sym (ap (λ (x : Settings). length x.rules) p.settings) ∙ length-map d.settings.rules rule_in;
    cells = subst (λ (m : ℤ). CellsAre m d.settings.rules d.marks.lows d.cells) (sym mark_is) cells_possible.0;
    accepted = accepted_few;
    points = points_few;
    counted = cells_possible.1;
  }

pub saved_possible : SavedImagesArePossible
saved_possible opening h k d st well p o = possible opening h k d st well p o

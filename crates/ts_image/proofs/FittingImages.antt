-- The data of each store fits the form of images.
use Rattle.std.proofs.Common.{◌≡◌, ◌≤◌, ◌<◌, ◌^◌, ℤ, pos, negsuc, unsigned_abs, ◌≤ℤ◌, ◌+ℤ◌, ◌-ℤ◌, FitsSigned, w64, List, [], ◌∷◌, length, map, ap, subst, arith}
use Rattle.std.specs.List.{AllByRecursion}
use Rattle.std.specs.FinMap as finmap
use Rattle.std.proofs.lemmas.Int.{ints}
use Rattle.std.proofs.lemmas.List.{length-map}
use Rattle.ts_core.specs.lists.Members.{Among}
use Rattle.ts_core.specs.facts.Times.{IsTime, least_time}
use Rattle.ts_core.specs.facts.Facts.{Series, Fact}
use Rattle.ts_core.specs.settings.Settings.{Rule, IsPossibleRule}
use Rattle.ts_core.specs.store.Marks.{index_of, first_from}
use Rattle.ts_core.specs.store.Cells.{Cell}
use Rattle.ts_core.specs.store.StoreStates.{CellParts, facts_of}
use Rattle.ts_core.specs.store.StoreData.{CellMap, RuleData, StoreData, store_settings, store_marks}
use Rattle.ts_core.proofs.aggregates.IndicesFit.{indices_fit}
use Rattle.ts_core.proofs.facts.Ids.{series_total}
use Rattle.ts_core.proofs.lists.MembersLemmas.{Among-map}
use Rattle.ts_core.proofs.settings.SettingsLaws.{settings_are}
use Rattle.ts_line.specs.Names.{IsStatable}
use Rattle.ts_store.specs.image.SavedContent.{SavedSeries, saved_key, FrozenCell, frozen_from}
use Rattle.ts_store.specs.store.PossibleCells.{IsBucketIndex, IsPossibleCell, HasPossibleCells, HavePossibleCells}
use Rattle.ts_store.specs.store.SizedStores.{IsSized, IsSizedRule}
use Rattle.ts_store.proofs.store.CountsKept.{length-within}
use Rattle.ts_image.specs.Saving.{image_cell_of, FitsCell, FitCells, FitSeries, IsOrder}
use Rattle.ts_image.proofs.Orders.{among_all, rising_distinct}
use Rattle.ts_image.proofs.WrittenPictures.{entry_of}

-- ---- low indices

between : (a b x : ℤ) → FitsSigned w64 a → FitsSigned w64 b → a ≤ℤ x → x ≤ℤ b → FitsSigned w64 x
between a b (pos n) f g l m = record { sfits = omega (arith, ints) }
between a b (negsuc n) f g l m = record { sfits = omega (arith, ints) }

near_least : unsigned_abs least_time ≤ 2 ^ 65
near_least = omega arith

near_next : (t : ℤ) → IsTime t → unsigned_abs (t +ℤ pos 1) ≤ 2 ^ 65
near_next t v = let a = v.not_before in let b = v.not_after in omega (arith, ints)

next_of : (t : ℤ) → (t +ℤ pos 1) -ℤ pos 1 ≡ t
next_of t = omega (arith, ints)

low_fits : (r : Rule) (mark low : ℤ) → IsTime mark → pos 1000000000 ≤ℤ r.interval → FitsSigned w64 r.offset → index_of r least_time ≤ℤ low → low ≤ℤ (index_of r mark +ℤ pos 1) → FitsSigned w64 low
low_fits r mark low time second offset least most =
    let first : FitsSigned w64 (first_from r (mark +ℤ pos 1)) = indices_fit.first r (mark +ℤ pos 1) second offset (near_next mark time) in
    let next : first_from r (mark +ℤ pos 1) ≡ index_of r mark +ℤ pos 1 = ap (λ (t : ℤ). index_of r t +ℤ pos 1) (next_of mark) in
    between (index_of r least_time) (index_of r mark +ℤ pos 1) low (indices_fit.bucket r least_time second offset near_least) (subst (FitsSigned w64) next first) least most

all_low : (mark : ℤ) (facts : List Fact) (rs : List RuleData) → IsTime mark → AllByRecursion (λ (r : Rule). pos 1000000000 ≤ℤ r.interval) (map (λ (x : RuleData). x.rule) rs) → AllByRecursion IsPossibleRule (map (λ (x : RuleData). x.rule) rs)
    → AllByRecursion (IsSizedRule mark facts) rs → AllByRecursion (FitsSigned w64) (map (λ (x : RuleData). x.low) rs)
all_low mark facts [] time second possible sized = tt
all_low mark facts (x ∷ rs) time second possible sized = (
  low_fits x.rule mark x.low time second.0 possible.0.offset sized.0.least sized.0.most,
  all_low mark facts rs time second.1 possible.1 sized.1,
)

pub lows_fit : (k : StoreData) → IsSized k → AllByRecursion IsPossibleRule (store_settings k).rules → IsTime k.raw_mark → AllByRecursion (FitsSigned w64) (store_marks k).lows
lows_fit k sized possible mark = all_low k.raw_mark (facts_of k.columns) k.rules mark (settings_are (store_settings k) sized.settings).seconds possible sized.rules

-- ---- series

few_tags : (s : Series) → IsStatable s → length s.tags < 256
few_tags s named = let few = named.few in omega (arith, few)

pub series_fit : (k : StoreData) (order : List SavedSeries) → IsSized k → IsOrder k order → FitSeries order
series_fit k order sized w =
    let few = sized.series in
    let most = length-within (map saved_key order) k.series (rising_distinct series_total (map saved_key order) w.rising) (λ s a. (w.each s).0 a) in
    let same = length-map order saved_key in
    record {
      few = omega (arith, few, most, same);
      each = among_all (λ (s : SavedSeries). length s.series.tags < 256) order (λ s a. few_tags s.series (sized.named s.series ((w.each s.series).0 (Among-map saved_key s order a))));
    }

-- ---- cells

near_time : (t : ℤ) → IsTime t → unsigned_abs t ≤ 2 ^ 65
near_time t v = let a = v.not_before in let b = v.not_after in omega (arith, ints)

index_fits : (r : Rule) (i : ℤ) → pos 1000000000 ≤ℤ r.interval → FitsSigned w64 r.offset → IsBucketIndex r i → FitsSigned w64 i
index_fits r i second offset is = subst (FitsSigned w64) is.2 (indices_fit.bucket r is.0 second offset (near_time is.0 is.1))

-- a saved cell is one of the map
cell_of_map : (r : Rule) (low : ℤ) (m : CellMap) → HasPossibleCells r m → (z : FrozenCell) → Among z (frozen_from low m) → IsPossibleCell r z.cell
cell_of_map r low m possible z a =
    let e = entry_of low m (image_cell_of z) (Among-map image_cell_of z (frozen_from low m) a) in
    subst (IsPossibleCell r) (ap (λ c. c.cell) e.4) (possible e.0.0 (Among-map (λ (y : Cell × CellParts). y.0) e.0 (finmap.entries m) e.1))

rule_fits : (r : Rule) (low : ℤ) (m : CellMap) → pos 1000000000 ≤ℤ r.interval → FitsSigned w64 r.offset → HasPossibleCells r m → AllByRecursion (FitsCell r) (frozen_from low m)
rule_fits r low m second offset possible =
    among_all (FitsCell r) (frozen_from low m) (λ z a. let is = cell_of_map r low m possible z a in record { index = index_fits r z.cell.index second offset is.index; group = is.group })

rules_fit : (rs : List RuleData) → AllByRecursion (λ (r : Rule). pos 1000000000 ≤ℤ r.interval) (map (λ (x : RuleData). x.rule) rs) → AllByRecursion IsPossibleRule (map (λ (x : RuleData). x.rule) rs) → HavePossibleCells rs
    → AllByRecursion (λ (x : RuleData). AllByRecursion (FitsCell x.rule) (frozen_from x.low x.cells)) rs
rules_fit [] second rules cells = tt
rules_fit (x ∷ rs) second rules cells = (rule_fits x.rule x.low x.cells second.0 rules.0.offset cells.0, rules_fit rs second.1 rules.1 cells.1)

pub cells_fit : (k : StoreData) → IsSized k → AllByRecursion IsPossibleRule (store_settings k).rules → HavePossibleCells k.rules → FitCells k
cells_fit k sized rules cells = rules_fit k.rules (settings_are (store_settings k) sized.settings).seconds rules cells

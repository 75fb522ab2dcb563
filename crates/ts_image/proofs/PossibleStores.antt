-- Consequences of the tests of an image for creating a store.
use Rattle.std.proofs.Common.{◌≡◌, ℕ, ◌≤◌, ◌^◌, ℤ, ◌==◌, Bool, false, List, [], ◌∷◌, ◌++◌, length, map, refl, ap, arith}
use Rattle.std.specs.FinMap as finmap
use Rattle.std.specs.List.{AllByRecursion}
use Rattle.std.proofs.lemmas.Int.{ints}
use Rattle.std.proofs.lemmas.Bool.Decides.{nat_tests}
use Rattle.ts_core.specs.lists.Members.{Among}
use Rattle.ts_core.specs.facts.Times.{IsTime}
use Rattle.ts_core.specs.settings.Settings.{Rule}
use Rattle.ts_store.specs.image.Building.{IsLowIndex, AreLowIndices, IsBuildable}
use Rattle.ts_image.specs.declared.version.Version.{Version}
use Rattle.ts_image.specs.declared.version.Version.TheVariants.{V1, V2}
use Rattle.ts_image.specs.Images.{ImageRule, ImageColumn, ImageSeries, ImageCell, ImageData}
use Rattle.ts_image.specs.ImageTests.{rule_in, IsLow, AreLows, IsImagePoint, IsImageColumn, IsImageSeries, IsImageCell, CellsAre, AreCounted, count_frozen, IsPossible}
use Rattle.ts_image.specs.PartsMade.{HasPart}
use Rattle.ts_image.specs.StoresMade.{is_column_waiting, waits_in, cells_in, with_each, built_in, IsAddedColumn, IsAddedSeries, AreAddedCells}
use Rattle.ts_image.proofs.Counted.{few_frozen}
use Rattle.ts_image.proofs.MadeCells.{all_held, all_possible}
use Rattle.ts_image.proofs.Orders.{all_among, among_all}
use Rattle.ts_image.proofs.RawPictures.{points_counted, not_one}

-- ---- low indices

low_index : (v : Version) (mark : ℤ) (r : ImageRule) (low : ℤ) → IsLow v mark r low → IsLowIndex mark (rule_in r) low
low_index V1 mark r low l = record { least = l.least; most = (let most = l.most in omega (arith, ints)) }
low_index V2 mark r low l = record { least = l.least; most = l.most }

low_indices : (v : Version) (mark : ℤ) (rs : List ImageRule) (lows : List ℤ) → AreLows v mark rs lows → AreLowIndices mark (map rule_in rs) lows
low_indices v mark [] [] l = tt
low_indices v mark [] (low ∷ lows) l = absurd l
low_indices v mark (r ∷ rs) [] l = absurd l
low_indices v mark (r ∷ rs) (low ∷ lows) l = (low_index v mark r low l.0, low_indices v mark rs lows l.1)

-- ---- without an open run no column waits

not_flagged : (n runs : ℕ) → n ≤ runs → runs ≡ 0 → (n == 1) ≡ false
not_flagged n runs l e = grind (arith, nat_tests)

both_all : (us vs : List Bool) → AllByRecursion (λ (w : Bool). w ≡ false) us → AllByRecursion (λ (w : Bool). w ≡ false) vs → AllByRecursion (λ (w : Bool). w ≡ false) (us ++ vs)
both_all [] vs a b = b
both_all (u ∷ us) vs a b = (a.0, both_all us vs a.1 b)

idle_columns : (mark : ℤ) (runs : ℕ) → runs ≡ 0 → (cs : List ImageColumn) → AllByRecursion (IsImageColumn mark runs) cs → AllByRecursion (λ (w : Bool). w ≡ false) (map is_column_waiting cs)
idle_columns mark runs e [] h = tt
idle_columns mark runs e (c ∷ cs) h = (not_flagged c.waits runs h.0.waits e, idle_columns mark runs e cs h.1)

idle_series : (mark : ℤ) (runs : ℕ) → runs ≡ 0 → (ss : List ImageSeries) → AllByRecursion (IsImageSeries mark runs) ss → AllByRecursion (λ (w : Bool). w ≡ false) (waits_in ss)
idle_series mark runs e [] h = tt
idle_series mark runs e (s ∷ ss) h = both_all (map is_column_waiting s.columns) (waits_in ss) (idle_columns mark runs e s.columns h.0.columns) (idle_series mark runs e ss h.1)

-- ---- a store can be created from the parts

pub buildable : (v : Version) (d : ImageData) → IsPossible v d → IsBuildable (built_in d)
buildable v d p = record {
  accepted = p.accepted;
  facts = let points = p.points in let same = points_counted d.series in omega (arith, points, same);
  lows = low_indices v d.marks.raw d.settings.rules d.marks.lows p.lows;
  counts = all_held v d d.marks.raw d.settings.rules d.marks.lows d.cells p.lows p.cells p.counted;
  possible = all_possible v d.marks.raw d.settings.rules d.marks.lows d.cells p.lows p.cells;
  idle = λ e. idle_series d.marks.raw d.runs (not_one d.runs e p.runs) d.series p.series;
}

-- ---- each of its series can be added

timed_points : (mark : ℤ) (waits : ℕ) (ps : List (ℤ × ℤ)) → AllByRecursion (IsImagePoint mark waits) ps → AllByRecursion (λ (q : ℤ × ℤ). IsTime q.0) ps
timed_points mark waits [] h = tt
timed_points mark waits (q ∷ ps) h = (h.0.0, timed_points mark waits ps h.1)

added_columns : (mark : ℤ) (runs : ℕ) (cs : List ImageColumn) → AllByRecursion (IsImageColumn mark runs) cs → AllByRecursion IsAddedColumn cs
added_columns mark runs [] h = tt
added_columns mark runs (c ∷ cs) h = (record { field = h.0.field; timed = timed_points mark c.waits c.points h.0.points; rising = h.0.rising }, added_columns mark runs cs h.1)

pub added_series : (mark : ℤ) (runs : ℕ) (ss : List ImageSeries) → AllByRecursion (IsImageSeries mark runs) ss → AllByRecursion IsAddedSeries ss
added_series mark runs [] h = tt
added_series mark runs (s ∷ ss) h = (record { key = h.0.key; columns = record { each = added_columns mark runs s.columns h.0.columns; rising = h.0.rising } }, added_series mark runs ss h.1)

-- ---- each of its cells can be added

has_part : (n : ℕ) (mark : ℤ) (r : ImageRule) (low : ℤ) (cs : List ImageCell) → AllByRecursion (IsImageCell mark r low) cs → count_frozen cs ≤ n → n ≤ 2 ^ 62 → (c : ImageCell) → Among c cs → HasPart c
has_part n mark r low cs each most few c a =
    let is = all_among (IsImageCell mark r low) cs each c a in
    let part = few_frozen cs c a in
    record { few = omega (arith, most, few, part); spread = is.spread; first = is.first.valid; last = is.last.valid }

pub added_cells : (v : Version) (d : ImageData) (mark : ℤ) (rs : List ImageRule) (lows : List ℤ) (cs : List (List ImageCell)) → AreLows v mark rs lows → length cs ≡ length rs → CellsAre mark rs lows cs → AreCounted d rs cs → d.accepted ≤ 2 ^ 62
    → AllByRecursion AreAddedCells cs
added_cells v d mark [] lows [] low even are counted few = tt
added_cells v d mark [] lows (c ∷ cs) low even are counted few = absurd (omega (arith, even))
added_cells v d mark (r ∷ rs) [] cs low even are counted few = absurd low
added_cells v d mark (r ∷ rs) (l ∷ lows) [] low even are counted few = absurd (omega (arith, even))
added_cells v d mark (r ∷ rs) (l ∷ lows) (c ∷ cs) low even are counted few =
    let most = counted.0.enough in (
      record { each = among_all HasPart c (has_part d.accepted mark r l c are.0.each (omega (arith, most)) few); rising = are.0.rising },
      added_cells v d mark rs lows cs low.1 (omega (arith, even)) are.1 counted.1 few,
    )

-- an empty map of each rule gains its cells
pub each_made : (rs : List Rule) (cs : List (List ImageCell)) → length cs ≡ length rs → with_each cs (map (λ (r : Rule). finmap.empty) rs) ≡ map cells_in cs
each_made [] [] even = refl
each_made [] (c ∷ cs) even = absurd (omega (arith, even))
each_made (r ∷ rs) [] even = absurd (omega (arith, even))
each_made (r ∷ rs) (c ∷ cs) even = ap (λ ms. cells_in c ∷ ms) (each_made rs cs (omega (arith, even)))

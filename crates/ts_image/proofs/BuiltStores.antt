-- A store that was built from all parts of an image, and its data.
use Rattle.std.proofs.Common.{◌≡◌, ◌↔◌, ℕ, zero, suc, ◌≤◌, ◌<◌, ℤ, ◌==◌, Bool, true, false, cond, List, [], ◌∷◌, ◌++◌, length, map, filter, refl, sym, ◌∙◌, ap, subst, inl, inr, ⊎_elim, arith}
use Rattle.std.specs.List.{zip}
use Rattle.ts_core.specs.lists.Members.{Among, AllDistinct}
use Rattle.ts_core.specs.facts.Facts.{Series, Column, Fact}
use Rattle.ts_core.specs.aggregates.Aggregates.{Aggregate, empty_aggregate}
use Rattle.ts_core.specs.store.Cells.{Cell}
use Rattle.ts_core.specs.io.ReadingAhead.{bit}
use Rattle.ts_core.specs.store.StoreStates.{ColumnPoints, column_of, facts_of}
use Rattle.ts_core.specs.store.StoreData.{CellMap, RuleData, StoreData, OfEachRule, AreLive}
use Rattle.ts_store.specs.write.LinesPut.{PutsCells}
use Rattle.ts_store.specs.store.RuleLists.{rules_with}
use Rattle.ts_store.specs.image.Building.{IsBuiltFrom, waiting_of, HaveCells}
use Rattle.ts_image.specs.declared.version.Version.{Version}
use Rattle.ts_image.specs.Images.{ImageRule, ImageColumn, ImageSeries, ImageCell, ImageData}
use Rattle.ts_image.specs.ImageTests.{rule_in, AreLows, IsImageCell, AreImageCells, CellsAre, IsImageSeries, IsPossible}
use Rattle.ts_image.specs.Pictures.{column_of_image, image_points_in, columns_of_image, waiting_of_image, cell_part_of, part_at, PicturesCells, PictureCells, IsPictureOf, IsMadeOf}
use Rattle.ts_image.specs.StoresMade.{is_column_waiting, waits_in, cells_in, built_in, key_in, IsStoreOf}
use Rattle.ts_image.proofs.MadeCells.{found, part_there, part_missing, part_from, cells_once}
use Rattle.ts_image.proofs.Orders.{all_among}
use Rattle.ts_image.proofs.RawPictures.{series_once, fields_once, columns_once}

-- ---- columns that wait

here_waiting : (s : Series) (cs : List ImageColumn) (rest : List ColumnPoints) (ws : List Bool)
    → waiting_of (map (image_points_in s) cs ++ rest) (map is_column_waiting cs ++ ws) ≡ map (column_of_image s) (filter is_column_waiting cs) ++ waiting_of rest ws
here_waiting s [] rest ws = refl
here_waiting s (c ∷ cs) rest ws =
    let more : List (ColumnPoints × Bool) = filter (λ (p : ColumnPoints × Bool). p.1) (zip (map (image_points_in s) cs ++ rest) (map is_column_waiting cs ++ ws)) in
    elim (is_column_waiting c) as (λ b. map (λ (p : ColumnPoints × Bool). p.0.column) (cond b ((image_points_in s c, is_column_waiting c) ∷ more) more)
    ≡ map (column_of_image s) (cond b (c ∷ filter is_column_waiting cs) (filter is_column_waiting cs)) ++ waiting_of rest ws) [
      | true ↦ ap (λ xs. column_of_image s c ∷ xs) (here_waiting s cs rest ws)
      | false ↦ here_waiting s cs rest ws
    ]

pub all_waiting : (ss : List ImageSeries) → waiting_of (columns_of_image ss) (waits_in ss) ≡ waiting_of_image ss
all_waiting [] = refl
all_waiting (s ∷ ss) = here_waiting s.series s.columns (columns_of_image ss) (waits_in ss) ∙ ap (λ xs. map (column_of_image s.series) (filter is_column_waiting s.columns) ++ xs) (all_waiting ss)

among_names : (cs : List ColumnPoints) (ws : List Bool) (c : Column) → Among c (waiting_of cs ws) → Among c (map column_of cs)
among_names [] ws c a = absurd a
among_names (d ∷ ds) [] c a = absurd a
among_names (d ∷ ds) (true ∷ ws) c a = ⊎_elim {C = Among c (map column_of (d ∷ ds))} (λ e. inl e) (λ k. inr (among_names ds ws c k)) a
among_names (d ∷ ds) (false ∷ ws) c a = inr (among_names ds ws c a)

waiting_distinct : (cs : List ColumnPoints) (ws : List Bool) → AllDistinct (map column_of cs) → AllDistinct (waiting_of cs ws)
waiting_distinct [] ws d = tt
waiting_distinct (c ∷ cs) [] d = tt
waiting_distinct (c ∷ cs) (true ∷ ws) d = (λ a. d.0 (among_names cs ws c.column a), waiting_distinct cs ws d.1)
waiting_distinct (c ∷ cs) (false ∷ ws) d = waiting_distinct cs ws d.1

-- ---- cells

pictured : (mark : ℤ) (r : ImageRule) (low : ℤ) (cs : List ImageCell) (m : CellMap) → AreImageCells mark r low cs → ((k : Cell) → part_at m k ≡ part_at (cells_in cs) k) → PicturesCells low m cs
pictured mark r low cs m are same =
    let once = cells_once mark r low cs are in
    record {
      each = λ c a. same c.cell ∙ part_there cs once c a;
      all = λ k l some. part_from cs k (subst (λ (a : Aggregate). 0 < a.count) (same k) some);
      sound = λ k l none.
          ⊎_elim {C = part_at m k ≡ empty_aggregate}
          (λ h.
          let spread = (all_among (IsImageCell mark r low) cs are.each h.0 h.1).spread in
          let part : part_at m k ≡ cell_part_of h.0 = ap (part_at m) (sym h.2) ∙ same h.0.cell ∙ part_there cs once h.0 h.1 in
          let count : h.0.count ≡ 0 = ap (λ (a : Aggregate). a.count) (sym part) ∙ none in
          let some = spread.some in
          absurd (omega (arith, count, some)))
          (λ n. same k ∙ part_missing cs k n) (found cs k);
    }

all_pictured : (v : Version) (mark : ℤ) (facts : List Fact) (rs : List ImageRule) (lows : List ℤ) (cs : List (List ImageCell)) (ss : List RuleData) → AreLows v mark rs lows → length cs ≡ length rs → CellsAre mark rs lows cs
    → OfEachRule (PutsCells facts) (rules_with (map rule_in rs) lows (map cells_in cs)) ss → PictureCells ss cs
all_pictured v mark facts [] lows [] [] low even are of = tt
all_pictured v mark facts (r ∷ rs) (l ∷ lows) (c ∷ cs) (y ∷ ss) low even are of =
    let pictures : PicturesCells l y.cells c = pictured mark r l c y.cells are.0 (λ k. of.0.2.frozen k) in
    (subst (λ (z : ℤ). PicturesCells z y.cells c) (sym of.0.1) pictures, all_pictured v mark facts rs lows cs ss low.1 (omega (arith, even)) are.1 of.1)
all_pictured v mark facts [] lows [] (y ∷ ss) low even are of = absurd of
all_pictured v mark facts [] lows (c ∷ cs) ss low even are of = absurd (omega (arith, even))
all_pictured v mark facts (r ∷ rs) [] cs ss low even are of = absurd low
all_pictured v mark facts (r ∷ rs) (l ∷ lows) [] ss low even are of = absurd (omega (arith, even))
all_pictured v mark facts (r ∷ rs) (l ∷ lows) (c ∷ cs) [] low even are of = absurd of

-- ---- the store

bit_of : (n : ℕ) → n ≤ 1 → n ≡ bit (n == 1)
bit_of zero l = refl
bit_of (suc zero) l = refl
bit_of (suc (suc n)) l = absurd (omega arith)

same_members : {X : Type 0} (xs ys : List X) → xs ≡ ys → (x : X) → Among x xs ↔ Among x ys
same_members xs ys e x = (subst (Among x) e, subst (Among x) (sym e))

module _ (v : Version) (d : ImageData) (k : StoreData) (p : IsPossible v d) (even : length d.cells ≡ length d.settings.rules) (b : IsBuiltFrom (built_in d) k) where
  once : AllDistinct (map column_of (columns_of_image d.series))
  once = columns_once d.series (series_once d.series p.rising) (λ s a. fields_once s.columns (all_among (IsImageSeries d.marks.raw d.runs) d.series p.series s a).rising)

  waiting : k.waiting ≡ waiting_of_image d.series
  waiting = b.waiting ∙ all_waiting d.series

  cells : PictureCells k.rules d.cells
  cells = all_pictured v d.marks.raw (facts_of (columns_of_image d.series)) d.settings.rules d.marks.lows d.cells k.rules p.lows even p.cells b.cells

  picture : IsPictureOf k d
  picture = record {
    settings = sym b.settings;
    marks = sym b.marks;
    runs = bit_of d.runs p.runs ∙ ap bit (sym b.running);
    accepted = sym b.accepted;
    series = same_members (map key_in d.series) k.series (sym b.series);
    columns = same_members (columns_of_image d.series) k.columns (sym b.columns);
    waiting = same_members (waiting_of_image d.series) k.waiting (sym waiting);
    cells = cells;
  }

  made : IsMadeOf d k
  made = record {
    picture = picture;
    waiting_once = subst AllDistinct (sym b.waiting) (waiting_distinct (columns_of_image d.series) (waits_in d.series) once);
    columns_once = subst (λ (cs : List ColumnPoints). AllDistinct (map column_of cs)) (sym b.columns) once;
    has_cells = subst (λ (cs : List ColumnPoints). HaveCells (facts_of cs) k.rules) (sym b.columns) b.has_cells;
    live = subst (λ (cs : List ColumnPoints). AreLive cs k.rules) (sym b.columns) b.live;
  }

  pub built_store : IsStoreOf d k
  built_store = record { made = made; series = b.series; columns = b.columns; waiting = waiting; cells = b.cells }

-- The cells of a store that is loaded from the image of another.
use Rattle.std.proofs.Common.{◌≡◌, ℤ, ◌≤ℤ◌, ◌&&◌, true, List, [], ◌∷◌, map, sym, ◌∙◌, subst, ap, None, ⊎_elim}
use Rattle.std.specs.FinMap as finmap
use Rattle.std.specs.List.{AllByRecursion}
use Rattle.std.proofs.lemmas.Bool.{and_parts, and_from}
use Rattle.std.proofs.lemmas.Simd.{map-map}
use Rattle.ts_core.specs.lists.Members.{Among}
use Rattle.ts_core.specs.facts.Facts.{Column, Fact}
use Rattle.ts_core.specs.settings.Settings.{Rule, Settings}
use Rattle.ts_core.specs.store.History.{History}
use Rattle.ts_core.specs.facts.Latest.{latest_of}
use Rattle.ts_core.specs.store.RawFacts.{kept_from, same_column, is_kept}
use Rattle.ts_core.specs.store.Cells.{Cell, is_in_cell, cell_of, is_rolled, same_cell}
use Rattle.ts_core.specs.store.StoreStates.{ColumnPoints, StandsFor, HasCells, facts_of}
use Rattle.ts_core.specs.store.StoreData.{CellMap, RuleData, StoreData, OfEachRule, store_settings, store_marks, rule_cells, state_of}
use Rattle.ts_core.proofs.lists.MembersLemmas.{Among-filter_was}
use Rattle.ts_core.proofs.moves.MovesStand.{key_not}
use Rattle.ts_core.proofs.plans.PieceCells.{same_cell-eq, same_cell-refl}
use Rattle.ts_store.specs.write.LinesPut.{IsOfFacts, PutsCells}
use Rattle.ts_store.specs.store.Inventories.{AreFilled, OfRules}
use Rattle.ts_store.specs.store.RuleLists.{rules_with}
use Rattle.ts_store.specs.image.SavedContent.{SavedSeries, frozen_from}
use Rattle.ts_store.proofs.store.InventoriesKept.{all_keys}
use Rattle.ts_store.proofs.write.InventoriesGrown.{of_rules}
use Rattle.ts_image.specs.Images.{ImageCell}
use Rattle.ts_image.specs.ImageTests.{rule_in}
use Rattle.ts_image.specs.Pictures.{columns_of_image}
use Rattle.ts_image.specs.SavedParts.{image_rule_of}
use Rattle.ts_image.specs.Saving.{image_cell_of, store_image}
use Rattle.ts_image.specs.StoresMade.{cells_in, IsStoreOf}
use Rattle.ts_image.proofs.FrozenPictures.{frozen_some}
use Rattle.ts_image.proofs.MadeCells.{from_image}
use Rattle.ts_image.proofs.WrittenPictures.{written, written_each, entry_of}

-- One rule of two stores. The first represents a history; the second has the cells of the first's image and those of
-- these facts, and represents the history too.
module _ (opening : Settings) (h : History) (waiting after : List Column) (facts : List Fact) (latest : (f : Fact) → Among f facts → Among f (latest_of h)) (r : Rule) (low : ℤ) (m n : CellMap)
    (was : HasCells (kept_from opening h waiting) (latest_of h) (rule_cells (record { rule = r; low = low; cells = m }))) (is : HasCells (kept_from opening h after) (latest_of h) (rule_cells (record { rule = r; low = low; cells = n })))
    (puts : PutsCells facts r low (cells_in (written low m)) n) where
  -- a cell of the image has a frozen fact
  of_image : (q : Cell) → (finmap.get (cells_in (written low m)) q ≡ None → ⊥) → (low ≤ℤ q.index) × IsOfFacts (latest_of h) r q
  of_image q some =
      let x = from_image (written low m) q some in
      let e = entry_of low m x.0 x.1 in
      let cell : e.0.0 ≡ x.0.cell = ap (λ (y : ImageCell). y.cell) e.4 in
      let kept : low ≤ℤ x.0.cell.index = subst (λ (y : Cell). low ≤ℤ y.index) cell e.2 in
      let f = frozen_some opening h waiting r x.0 (sym (written_each (kept_from opening h waiting) (latest_of h) r low m was x.0 x.1) ∙ was.frozen x.0.cell kept) in
      let inside : is_in_cell r x.0.cell f.0 ≡ true = and_from (is_rolled r f.0) (same_cell (cell_of r f.0) x.0.cell) f.1.rolled (subst (λ (y : Cell). same_cell (cell_of r f.0) y ≡ true) f.1.cell (same_cell-refl (cell_of r f.0))) in
      subst (λ (y : Cell). (low ≤ℤ y.index) × IsOfFacts (latest_of h) r y) x.2 (kept, (f.0, f.1.there, inside))

  of_facts : (q : Cell) → (low ≤ℤ q.index) × IsOfFacts facts r q → (low ≤ℤ q.index) × IsOfFacts (latest_of h) r q
  of_facts q o = (o.0, (o.1.0, latest o.1.0 o.1.1, o.1.2))

  filled : AreFilled (latest_of h) r low (finmap.keys n)
  filled = record {
    there = λ q. (
      λ there. ⊎_elim {C = (low ≤ℤ q.index) × IsOfFacts (latest_of h) r q} (of_image q) (of_facts q) ((puts.there q).0 (key_not n q there)),
      λ o.
          let inside = and_parts (is_rolled r o.1.0) (same_cell (cell_of r o.1.0) q) o.1.2 in
          let same : cell_of r o.1.0 ≡ q = same_cell-eq (cell_of r o.1.0) q inside.1 in
          subst (λ (y : Cell). Among y (finmap.keys n)) same (is.there o.1.0 o.1.1 inside.0 (subst (λ (y : Cell). low ≤ℤ y.index) (sym same) o.0)),
    );
    once = is.once;
  }

abbrev Fills : History → Rule → ℤ → CellMap → CellMap → Type 0
Fills h r low m n = AreFilled (latest_of h) r low (finmap.keys n)

module _ (opening : Settings) (h : History) (k n : StoreData) (order : List SavedSeries) (old : StandsFor opening h (state_of k)) (new : StandsFor opening h (state_of n)) (made : IsStoreOf (store_image k order) n) where
  abbrev facts : List Fact
  facts = facts_of (columns_of_image (store_image k order).series)

  -- a raw fact is one of the latest
  latest : (f : Fact) → Among f facts → Among f (latest_of h)
  latest f a =
      Among-filter_was (λ (g : Fact). same_column g.column f.column && is_kept (kept_from opening h n.waiting) g) f (latest_of h)
      ((new.raw f).0 (subst (λ (cs : List ColumnPoints). Among f (facts_of cs)) (sym made.columns) a))

  each_filled : (xs ys : List RuleData) → AllByRecursion (HasCells (kept_from opening h k.waiting) (latest_of h)) (map rule_cells xs) → AllByRecursion (HasCells (kept_from opening h n.waiting) (latest_of h)) (map rule_cells ys)
      → OfEachRule (PutsCells facts) (rules_with (map rule_in (map image_rule_of (map (λ (x : RuleData). x.rule) xs))) (map (λ (x : RuleData). x.low) xs) (map cells_in (map (λ (x : RuleData). written x.low x.cells) xs))) ys → OfEachRule (Fills h) xs ys
  each_filled [] [] was is puts = tt
  each_filled (x ∷ xs) (y ∷ ys) was is puts =
      let here : HasCells (kept_from opening h n.waiting) (latest_of h) (rule_cells (record { rule = x.rule; low = x.low; cells = y.cells })) =
      subst (λ (b : RuleData). HasCells (kept_from opening h n.waiting) (latest_of h) (rule_cells b)) (λ i. record { rule = puts.0.0 i; low = puts.0.1 i; cells = y.cells }) is.0 in
      ((puts.0.0, puts.0.1, filled opening h k.waiting n.waiting facts latest x.rule x.low x.cells y.cells was.0 here puts.0.2), each_filled xs ys was.1 is.1 puts.1)
  each_filled _ _ was is puts = absurd puts

  pub all_filled : OfRules (λ r low before after. AreFilled (latest_of h) r low after) (store_settings k).rules (store_marks k).lows (all_keys k.rules) (all_keys n.rules)
  all_filled =
      of_rules (Fills h) (λ r low before after. AreFilled (latest_of h) r low after) (λ r low m o are. are) k.rules n.rules
      (each_filled k.rules n.rules old.rolled new.rolled (subst (λ (ms : List (List ImageCell)). OfEachRule (PutsCells facts) (rules_with (map rule_in (map image_rule_of (map (λ (x : RuleData). x.rule) k.rules))) (map (λ (x : RuleData). x.low) k.rules) (map cells_in ms)) n.rules)
      (map-map (map image_cell_of) (λ (x : RuleData). frozen_from x.low x.cells) k.rules) made.cells))

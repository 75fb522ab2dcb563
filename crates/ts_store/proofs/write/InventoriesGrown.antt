-- Inventories after a write: the missing columns and cells of its facts are created.
use Rattle.std.proofs.Common.{◌≡◌, ◌⊎◌, ⊎_elim, ℕ, ℤ, ◌≤ℤ◌, List, [], map, refl, sym, ◌∙◌, ap, subst, inl, inr, zero, suc, ◌∷◌, length}
use Rattle.std.specs.FinMap as finmap
use Rattle.std.proofs.lemmas.List.{append-nil}
use Rattle.std.proofs.lemmas.Option.{none-some, same_Some}
use Rattle.ts_core.specs.lists.Members.{Among}
use Rattle.ts_core.specs.lists.Numbered.{IsAt}
use Rattle.ts_core.specs.facts.Facts.{Fact}
use Rattle.ts_core.specs.settings.Settings.{Rule}
use Rattle.ts_core.specs.store.Cells.{Cell}
use Rattle.ts_core.specs.store.StoreStates.{column_of}
use Rattle.ts_core.specs.store.StoreData.{CellMap, RuleData, StoreData, OfEachRule, store_settings, store_marks}
use Rattle.ts_core.proofs.moves.MovesStand.{keys_once, key_there, key_not}
use Rattle.ts_core.proofs.moves.EachRule.{each_same}
use Rattle.ts_line.specs.Parts.{Parts, line_facts}
use Rattle.ts_store.specs.store.Inventories.{inventory_of, OfRules, AddsAll, AddsSome, InventoryGrows, GrowsInPart}
use Rattle.ts_store.specs.write.LinesPut.{IsOfFacts, PutsCells, GainsCells, Accepts, Leaves}
use Rattle.ts_store.specs.write.Registered.{new_columns}
use Rattle.ts_store.proofs.write.StagedColumns.{names_with}
use Rattle.ts_store.proofs.write.RollupsPut.{gained}
use Rattle.ts_store.proofs.store.InventoriesKept.{all_keys}

-- ---- cells of each rule

keys_length : (P : Rule → ℤ → CellMap → CellMap → Type 0) (rs ss : List RuleData) → OfEachRule P rs ss → length (all_keys ss) ≡ length (all_keys rs)
keys_length P [] [] e = refl
keys_length P (x ∷ rs) (y ∷ ss) e = ap suc (keys_length P rs ss e.1)
keys_length P _ _ e = absurd e

module _ (P : Rule → ℤ → CellMap → CellMap → Type 0) (Q : Rule → ℤ → List Cell → List Cell → Type 0) (each : (r : Rule) (low : ℤ) (m n : CellMap) → P r low m n → Q r low (finmap.keys m) (finmap.keys n)) where
  keys_at : (rs ss : List RuleData) → OfEachRule P rs ss → (i : ℕ) (r : Rule) (low : ℤ) (a b : List Cell) → IsAt (map (λ (x : RuleData). x.rule) rs) i r → IsAt (map (λ (x : RuleData). x.low) rs) i low → IsAt (all_keys rs) i a → IsAt (all_keys ss) i b → Q r low a b
  keys_at [] [] e i r low a b at_rule at_low at_old at_new = absurd (none-some r at_rule)
  keys_at (x ∷ rs) (y ∷ ss) e zero r low a b at_rule at_low at_old at_new =
      subst (λ (z : Rule). Q z low a b) (same_Some x.rule r at_rule)
      (subst (λ (z : ℤ). Q x.rule z a b) (same_Some x.low low at_low)
      (subst (λ (z : List Cell). Q x.rule x.low z b) (same_Some (finmap.keys x.cells) a at_old)
      (subst (λ (z : List Cell). Q x.rule x.low (finmap.keys x.cells) z) (same_Some (finmap.keys y.cells) b at_new) (each x.rule x.low x.cells y.cells e.0.2))))
  keys_at (x ∷ rs) (y ∷ ss) e (suc i) r low a b at_rule at_low at_old at_new = keys_at rs ss e.1 i r low a b at_rule at_low at_old at_new
  keys_at _ _ e i r low a b at_rule at_low at_old at_new = absurd e

  pub of_rules : (rs ss : List RuleData) → OfEachRule P rs ss → OfRules Q (map (λ (x : RuleData). x.rule) rs) (map (λ (x : RuleData). x.low) rs) (all_keys rs) (all_keys ss)
  of_rules rs ss e = (keys_length P rs ss e, keys_at rs ss e)

module _ (facts : List Fact) (r : Rule) (low : ℤ) (m n : CellMap) where
  adds_all : PutsCells facts r low m n → AddsAll facts r low (finmap.keys m) (finmap.keys n)
  adds_all p = record {
    there = λ k. (
      λ a. ⊎_elim (λ some. inl (key_there m k some)) inr ((p.there k).0 (key_not n k a)),
      λ o. key_there n k ((p.there k).1 (⊎_elim (λ a. inl (key_not m k a)) inr o)),
    );
    once = keys_once n;
  }

  adds_some : GainsCells facts r low m n → AddsSome facts r low (finmap.keys m) (finmap.keys n)
  adds_some g = record {
    stays = λ k a. key_there n k (λ none. ⊎_elim {C = ⊥} (λ same. key_not m k a (sym same ∙ none)) (λ new. key_not m k a new.0) (gained facts r low m n g k));
    created = λ k a. ⊎_elim {C = Among k (finmap.keys m) ⊎ ((low ≤ℤ k.index) × IsOfFacts facts r k)} (λ same. inl (key_there m k (λ none. key_not n k a (same ∙ none)))) (λ new. inr (new.2, new.3)) (gained facts r low m n g k);
    once = keys_once n;
  }

-- ---- a line

pub grown : (old new : StoreData) (p : Parts) → Accepts old new p → InventoryGrows (store_settings old).rules (store_marks old).lows (line_facts p) (inventory_of old) (inventory_of new)
grown old new p a = record {
  columns = a.columns ∙ names_with old.columns (new_columns (map column_of old.columns) (line_facts p));
  waiting = ap (λ (k : StoreData). k.waiting) a.others;
  cells = of_rules (PutsCells (line_facts p)) (AddsAll (line_facts p)) (λ r low m n. adds_all (line_facts p) r low m n) old.rules new.rules a.cells;
}

pub grown_in_part : (old new : StoreData) (p : Parts) → Leaves old new p → GrowsInPart (store_settings old).rules (store_marks old).lows (line_facts p) (inventory_of old) (inventory_of new)
grown_in_part old new p l = record {
  made = l.columns.made;
  others = l.columns.others;
  order = l.columns.order;
  columns = ap (map column_of) l.columns.columns ∙ names_with old.columns l.columns.made;
  waiting = ap (λ (k : StoreData). k.waiting) l.others;
  cells = of_rules (GainsCells (line_facts p)) (AddsSome (line_facts p)) (λ r low m n. adds_some (line_facts p) r low m n) old.rules new.rules l.cells;
}

-- nothing was created
pub not_grown : (facts : List Fact) (k : StoreData) → GrowsInPart (store_settings k).rules (store_marks k).lows facts (inventory_of k) (inventory_of k)
not_grown facts k = record {
  made = [];
  others = new_columns (map column_of k.columns) facts;
  order = refl;
  columns = sym (append-nil (map column_of k.columns));
  waiting = refl;
  cells = of_rules (λ r low m n. n ≡ m) (AddsSome facts) (λ r low m n e. subst (λ x. AddsSome facts r low (finmap.keys m) (finmap.keys x)) (sym e) (record { stays = λ q x. x; created = λ q x. inl x; once = keys_once m })) k.rules k.rules (each_same (λ r low m n. n ≡ m) (λ r low m. refl) k.rules);
}

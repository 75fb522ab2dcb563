-- The rules of a store from lists in memory, and what holds of each rule.
use Rattle.std.proofs.Common.{◌≡◌, ℕ, zero, suc, ◌<◌, ℤ, pos, List, [], ◌∷◌, ◌++◌, length, map, refl, sym, ◌∙◌, ap, subst, inl, inr, ⊎_elim, arith, Option, Some, None, get_or}
use Rattle.std.specs.List.{AllByRecursion, AllZip, remove}
use Rattle.std.proofs.lemmas.List.{length-map}
use Rattle.ts_core.specs.lists.Beside.{OfEach, changed_beside}
use Rattle.std.proofs.lemmas.Option.{none-some, same_Some}
use Rattle.ts_core.specs.lists.Numbered.{IsAt}
use Rattle.ts_core.specs.facts.Facts.{Column}
use Rattle.ts_core.specs.settings.Settings.{Rule, Settings}
use Rattle.ts_core.specs.settings.SettingsFaults.{settings_fault, added_fault}
use Rattle.ts_core.specs.store.Marks.{Marks}
use Rattle.ts_core.specs.store.StoreStates.{column_of}
use Rattle.ts_core.specs.store.StoreData.{CellMap, RuleData, StoreData, OfEachRule, store_settings, store_marks}
use Rattle.ts_core.specs.moves.StoreMoves.{in_cells, raised, raised_rule}
use Rattle.ts_cells.specs.Expiry.{IsAbove}
use Rattle.ts_store.specs.rollup.ChangedLists.{FirstChanges}
use Rattle.ts_store.specs.rollup.Rollups.{RollupState, AreRollups, cells_of}
use Rattle.ts_store.specs.store.RuleLists.{rules_with}
use Rattle.ts_store.specs.store.ColumnStates.{StoreContent}
use Rattle.ts_store.specs.store.SoundStores.{IsSoundStore}
use Rattle.ts_store.specs.retain.OpenRuns.{Run, data_of_parts}
use Rattle.ts_store.specs.retain.WholeRuns.{AreAbove, LosesCells, FirstLoses}
use Rattle.ts_store.proofs.rollup.RollupsGrow.{rollups-length}

-- ---- what is read off the rules

rules_in_with : (rs : List Rule) (lows : List ℤ) (ms : List CellMap) → length lows ≡ length rs → length ms ≡ length rs → map (λ (a : RuleData). a.rule) (rules_with rs lows ms) ≡ rs
rules_in_with [] lows ms d e = refl
rules_in_with (r ∷ rs) (low ∷ lows) (m ∷ ms) d e = ap (λ xs. r ∷ xs) (rules_in_with rs lows ms (omega arith) (omega arith))
rules_in_with _ _ _ d e = absurd (omega arith)

lows_in_with : (rs : List Rule) (lows : List ℤ) (ms : List CellMap) → length lows ≡ length rs → length ms ≡ length rs → map (λ (a : RuleData). a.low) (rules_with rs lows ms) ≡ lows
lows_in_with [] [] ms d e = refl
lows_in_with (r ∷ rs) (low ∷ lows) (m ∷ ms) d e = ap (λ xs. low ∷ xs) (lows_in_with rs lows ms (omega arith) (omega arith))
lows_in_with _ _ _ d e = absurd (omega arith)

-- settings and marks, where each rule has a low index and a rollup
module _ (settings : Settings) (marks : Marks) (held : StoreContent) (names : List Column) (lows : length marks.lows ≡ length settings.rules) (rollups : AreRollups settings.rules names held.rollups) where
  pub cells_each : length (cells_of held.rollups) ≡ length settings.rules
  cells_each = length-map held.rollups (λ (u : RollupState). u.grid.cells) ∙ rollups-length settings.rules names held.rollups rollups

  pub settings_read : (n : ℕ) (run : Option Run) → store_settings (data_of_parts settings marks n held run) ≡ settings
  settings_read n run = ap (λ rs. record { raw_duration = settings.raw_duration; rules = rs }) (rules_in_with settings.rules marks.lows (cells_of held.rollups) lows cells_each)

  pub marks_read : (n : ℕ) (run : Option Run) → store_marks (data_of_parts settings marks n held run) ≡ marks
  marks_read n run = ap (λ ls. record { raw = marks.raw; lows = ls }) (lows_in_with settings.rules marks.lows (cells_of held.rollups) lows cells_each)

-- the same of a store
module _ (settings : Settings) (marks : Marks) (n : ℕ) (held : StoreContent) (run : Option Run) (kept : IsSoundStore settings marks n held run) (k : StoreData) (view : data_of_parts settings marks n held run ≡ k) where
  pub its_settings : store_settings k ≡ settings
  its_settings = ap store_settings (sym view) ∙ settings_read settings marks held (map column_of held.columns) kept.lows kept.rollups n run

  pub its_marks : store_marks k ≡ marks
  its_marks = ap store_marks (sym view) ∙ marks_read settings marks held (map column_of held.columns) kept.lows kept.rollups n run

  pub its_inside : (i : ℕ) → i < length k.rules → i < length settings.rules
  its_inside i l = subst (λ (x : Settings). i < length x.rules) its_settings (subst (λ m. i < m) (sym (length-map k.rules (λ (a : RuleData). a.rule))) l)

  pub its_faultless : settings_fault settings ≡ None
  its_faultless = ap settings_fault (sym its_settings) ∙ subst (λ (x : StoreData). settings_fault (store_settings x) ≡ None) view kept.sized.settings

  pub its_added : (r : Rule) → added_fault (store_settings k) r ≡ None → added_fault settings r ≡ None
  its_added r well = ap (λ (x : Settings). added_fault x r) (sym its_settings) ∙ well

-- ---- changes of one of the lists

pub with_changed : (f : Rule → CellMap → CellMap) (rs : List Rule) (lows : List ℤ) (ms : List CellMap) → map (in_cells f) (rules_with rs lows ms) ≡ rules_with rs lows (changed_beside f rs ms)
with_changed f (r ∷ rs) (low ∷ lows) (m ∷ ms) = ap (λ (xs : List RuleData). record { rule = r; low = low; cells = f r m } ∷ xs) (with_changed f rs lows ms)
with_changed f _ _ _ = refl

pub with_raised : (now : ℤ) (rs : List Rule) (lows : List ℤ) (ms : List CellMap) → map (raised_rule now) (rules_with rs lows ms) ≡ rules_with rs (raised now rs lows) ms
with_raised now (r ∷ rs) (low ∷ lows) (m ∷ ms) = ap (λ (xs : List RuleData). raised_rule now (record { rule = r; low = low; cells = m }) ∷ xs) (with_raised now rs lows ms)
with_raised now _ _ _ = refl

pub with_push : (rs : List Rule) (lows : List ℤ) (ms : List CellMap) (r : Rule) (low : ℤ) (m : CellMap) → length lows ≡ length rs → length ms ≡ length rs
    → rules_with (rs ++ r ∷ []) (lows ++ low ∷ []) (ms ++ m ∷ []) ≡ rules_with rs lows ms ++ record { rule = r; low = low; cells = m } ∷ []
with_push [] [] [] r low m d e = refl
with_push (q ∷ rs) (l ∷ lows) (x ∷ ms) r low m d e = ap (λ (xs : List RuleData). record { rule = q; low = l; cells = x } ∷ xs) (with_push rs lows ms r low m (omega arith) (omega arith))
with_push _ _ ms r low m d e = absurd (omega arith)

pub with_removed : (rs : List Rule) (lows : List ℤ) (ms : List CellMap) (i : ℕ) → length lows ≡ length rs → length ms ≡ length rs → rules_with (remove rs i) (remove lows i) (remove ms i) ≡ remove (rules_with rs lows ms) i
with_removed [] [] [] zero d e = refl
with_removed [] [] [] (suc i) d e = refl
with_removed (r ∷ rs) (low ∷ lows) (m ∷ ms) zero d e = refl
with_removed (r ∷ rs) (low ∷ lows) (m ∷ ms) (suc i) d e = ap (λ (xs : List RuleData). record { rule = r; low = low; cells = m } ∷ xs) (with_removed rs lows ms i (omega arith) (omega arith))
with_removed _ _ ms i d e = absurd (omega arith)

-- the rule with an index
pub with_at : (rs : List Rule) (lows : List ℤ) (ms : List CellMap) (n : ℕ) (r : Rule) (m : CellMap) → length lows ≡ length rs → IsAt rs n r → IsAt ms n m → IsAt (rules_with rs lows ms) n (record { rule = r; low = get_or lows n (pos 0); cells = m })
with_at [] lows ms n r m d at here = absurd (none-some r at)
with_at (x ∷ rs) [] ms n r m d at here = absurd (omega arith)
with_at (x ∷ rs) (low ∷ lows) [] n r m d at here = absurd (none-some m here)
with_at (x ∷ rs) (low ∷ lows) (y ∷ ms) zero r m d at here = λ i. Some (record { rule = same_Some x r at i; low = low; cells = same_Some y m here i })
with_at (x ∷ rs) (low ∷ lows) (y ∷ ms) (suc n) r m d at here = with_at rs lows ms n r m (omega arith) at here

-- ---- what holds of rules and cells side by side

module _ (R : Rule → CellMap → Type 0) where
  pub with_each : (rs : List Rule) (lows : List ℤ) (ms : List CellMap) → OfEach R rs ms → AllByRecursion (λ (a : RuleData). R a.rule a.cells) (rules_with rs lows ms)
  with_each (r ∷ rs) (low ∷ lows) (m ∷ ms) a = (a.0, with_each rs lows ms a.1)
  with_each _ _ _ a = tt

  pub each_with : (rs : List Rule) (lows : List ℤ) (ms : List CellMap) → length lows ≡ length rs → AllByRecursion (λ (a : RuleData). R a.rule a.cells) (rules_with rs lows ms) → OfEach R rs ms
  each_with (r ∷ rs) (low ∷ lows) (m ∷ ms) d a = (a.0, each_with rs lows ms (omega arith) a.1)
  each_with (r ∷ rs) [] (m ∷ ms) d a = absurd (omega arith)
  each_with _ _ _ d a = tt

pub with_zip : (C : CellMap → CellMap → Type 0) (rs : List Rule) (lows : List ℤ) (ms ns : List CellMap) → AllZip C ms ns → OfEachRule (λ r low. C) (rules_with rs lows ms) (rules_with rs lows ns)
with_zip C (r ∷ rs) (low ∷ lows) [] (n ∷ ns) z = absurd z
with_zip C (r ∷ rs) (low ∷ lows) (m ∷ ms) [] z = absurd z
with_zip C (r ∷ rs) (low ∷ lows) (m ∷ ms) (n ∷ ns) z = ((refl, refl, z.0), with_zip C rs lows ms ns z.1)
with_zip C _ _ _ _ z = tt

pub with_above : (rs : List Rule) (lows : List ℤ) (ms : List CellMap) → OfEach IsAbove lows ms → AreAbove (rules_with rs lows ms)
with_above (r ∷ rs) (low ∷ lows) (m ∷ ms) a = (a.0, with_above rs lows ms a.1)
with_above _ _ _ a = tt

pub with_first : (rs : List Rule) (lows : List ℤ) (ms ns : List CellMap) → length lows ≡ length rs → FirstChanges IsAbove LosesCells lows ms ns → FirstLoses (rules_with rs lows ms) (rules_with rs lows ns)
with_first (r ∷ rs) (low ∷ lows) (m ∷ ms) (n ∷ ns) d c =
    ⊎_elim {C = FirstLoses (rules_with (r ∷ rs) (low ∷ lows) (m ∷ ms)) (rules_with (r ∷ rs) (low ∷ lows) (n ∷ ns))} (λ p. inl ((p.0, refl), ap (rules_with rs lows) p.1))
    (λ p. inr (p.0, ap (λ (x : CellMap). record { rule = r; low = low; cells = x }) p.1, with_first rs lows ms ns (omega arith) p.2)) c
with_first [] (low ∷ lows) (m ∷ ms) (n ∷ ns) d c = absurd (omega arith)
with_first _ _ _ _ d c = absurd c

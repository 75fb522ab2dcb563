-- The rules of a store after their cells change.
use Rattle.std.proofs.Common.{◌≡◌, ℤ, List, [], ◌∷◌, map, refl, sym, ◌∙◌, ap, subst}
use Rattle.std.specs.List.{AllByRecursion, AllZip}
use Rattle.ts_core.specs.settings.Settings.{Rule, Settings}
use Rattle.ts_core.specs.store.History.{History}
use Rattle.ts_core.specs.store.StoreStates.{StandsFor}
use Rattle.ts_core.specs.store.StoreData.{CellMap, RuleData, StoreData, OfEachRule, store_settings, store_marks, state_of}
use Rattle.ts_core.specs.moves.StoreMoves.{in_cells, with_rules}
use Rattle.ts_core.proofs.lists.BesideLemmas.{AllZip-same, AllZip-then}
use Rattle.ts_core.proofs.store.StateLemmas.{AllZip-all, AllZip-maps}

module _ (R : Rule → ℤ → CellMap → CellMap → Type 0) where
  pub rules_changed : (S : RuleData → RuleData → Type 0) → ((a : RuleData) (n : CellMap) → R a.rule a.low a.cells n → S a (record a { cells = n })) → (rs ss : List RuleData) → OfEachRule R rs ss → AllZip S rs ss
  rules_changed S h [] [] e = tt
  rules_changed S h (a ∷ rs) (b ∷ ss) e = (subst (S a) (λ i. record { rule = sym e.0.0 i; low = sym e.0.1 i; cells = b.cells }) (h a b.cells e.0.2), rules_changed S h rs ss e.1)
  rules_changed S h _ _ e = absurd e

  pub rules_keep : (P Q : RuleData → Type 0) → ((a : RuleData) (n : CellMap) → R a.rule a.low a.cells n → P a → Q (record a { cells = n })) → (rs ss : List RuleData) → OfEachRule R rs ss → AllByRecursion P rs → AllByRecursion Q ss
  rules_keep P Q h rs ss e = AllZip-all (λ (a b : RuleData). P a → Q b) P Q (λ a b k. k) rs ss (rules_changed (λ (a b : RuleData). P a → Q b) h rs ss e)

  -- what the relation says of the rules after
  pub rules_gain : (Q : RuleData → Type 0) → ((a : RuleData) (n : CellMap) → R a.rule a.low a.cells n → Q (record a { cells = n })) → (rs ss : List RuleData) → OfEachRule R rs ss → AllByRecursion Q ss
  rules_gain Q h [] [] e = tt
  rules_gain Q h (a ∷ rs) (b ∷ ss) e = (subst Q (λ i. record { rule = sym e.0.0 i; low = sym e.0.1 i; cells = b.cells }) (h a b.cells e.0.2), rules_gain Q h rs ss e.1)
  rules_gain Q h _ _ e = absurd e

  -- a part of each rule without its cells
  pub rules_same : {X : Type 0} (f : RuleData → X) → ((a : RuleData) (n : CellMap) → f (record a { cells = n }) ≡ f a) → (rs ss : List RuleData) → OfEachRule R rs ss → map f ss ≡ map f rs
  rules_same f same rs ss e =
      sym (AllZip-maps (λ (a b : RuleData). f b ≡ f a) f f (λ a b k. sym k) rs ss (rules_changed (λ (a b : RuleData). f b ≡ f a) (λ a n r. same a n) rs ss e))

  pub settings_same : (k : StoreData) (rs : List RuleData) → OfEachRule R rs k.rules → store_settings k ≡ store_settings (with_rules rs k)
  settings_same k rs e = ap (λ xs. record { raw_duration = k.raw_duration; rules = xs }) (rules_same (λ (a : RuleData). a.rule) (λ a n. refl) rs k.rules e)

  pub marks_same : (k : StoreData) (rs : List RuleData) → OfEachRule R rs k.rules → store_marks k ≡ store_marks (with_rules rs k)
  marks_same k rs e = ap (λ xs. record { raw = k.raw_mark; lows = xs }) (rules_same (λ (a : RuleData). a.low) (λ a n. refl) rs k.rules e)

  -- the state with the settings and marks from before is the state
  pub stands_changed : (opening : Settings) (h : History) (k : StoreData) (rs : List RuleData) → OfEachRule R rs k.rules
      → StandsFor opening h (record (state_of k) { settings = store_settings (with_rules rs k); marks = store_marks (with_rules rs k) }) → StandsFor opening h (state_of k)
  stands_changed opening h k rs e = subst (StandsFor opening h) (λ i. record (state_of k) { settings = sym (settings_same k rs e) i; marks = sym (marks_same k rs e) i })

  pub each_in : (f : Rule → CellMap → CellMap) → ((a : RuleData) → R a.rule a.low a.cells (f a.rule a.cells)) → (rs : List RuleData) → OfEachRule R rs (map (in_cells f) rs)
  each_in f h [] = tt
  each_in f h (a ∷ rs) = ((refl, refl, h a), each_in f h rs)

pub each_same : (R : Rule → ℤ → CellMap → CellMap → Type 0) → ((r : Rule) (low : ℤ) (m : CellMap) → R r low m m) → (rs : List RuleData) → OfEachRule R rs rs
each_same R same rs = AllZip-same (λ (a b : RuleData). (b.rule ≡ a.rule) × (b.low ≡ a.low) × R a.rule a.low a.cells b.cells) (λ a. (refl, refl, same a.rule a.low a.cells)) rs

module _ (P Q S : Rule → ℤ → CellMap → CellMap → Type 0) where
  -- one change after another
  pub each_then : ((r : Rule) (low : ℤ) (m o n : CellMap) → P r low m o → Q r low o n → S r low m n) → (rs os ss : List RuleData) → OfEachRule P rs os → OfEachRule Q os ss → OfEachRule S rs ss
  each_then f =
      AllZip-then (λ (a b : RuleData). (b.rule ≡ a.rule) × (b.low ≡ a.low) × P a.rule a.low a.cells b.cells) (λ (a b : RuleData). (b.rule ≡ a.rule) × (b.low ≡ a.low) × Q a.rule a.low a.cells b.cells)
      (λ (a b : RuleData). (b.rule ≡ a.rule) × (b.low ≡ a.low) × S a.rule a.low a.cells b.cells)
      (λ a o b p q. (q.0 ∙ p.0, q.1 ∙ p.1, f a.rule a.low a.cells o.cells b.cells p.2 (subst (λ (low : ℤ). Q a.rule low o.cells b.cells) p.1 (subst (λ (r : Rule). Q r o.low o.cells b.cells) p.0 q.2))))

  pub each_both : ((r : Rule) (low : ℤ) (m n : CellMap) → P r low m n → Q r low m n → S r low m n) → (rs ss : List RuleData) → OfEachRule P rs ss → OfEachRule Q rs ss → OfEachRule S rs ss
  each_both f [] [] p q = tt
  each_both f (a ∷ rs) (b ∷ ss) p q = ((p.0.0, p.0.1, f a.rule a.low a.cells b.cells p.0.2 q.0.2), each_both f rs ss p.1 q.1)
  each_both f _ _ p q = absurd p

-- cells that change in any way
abbrev pub AnyCells : Rule → ℤ → CellMap → CellMap → Type 0
AnyCells r low m n = Unit {0}

-- The number of steps left of a run, on a store's content: a step lowers it by one, and writes leave it.
use Rattle.std.proofs.Common.{◌≡◌, ℕ, ℤ, ◌+◌, ◌≤◌, ◌<ℤ◌, Bool, true, false, cond, List, [], ◌∷◌, length, filter, map, refl, sym, ◌∙◌, ap, ap₂, arith, int_lt}
use Rattle.std.proofs.lemmas.List.{length-map, nil_from_length}
use Rattle.std.specs.List.{AllZip}
use Rattle.std.specs.FinMap as finmap
use Rattle.ts_core.specs.lists.Members.{Among}
use Rattle.ts_core.specs.facts.Facts.{Column, Fact, Series}
use Rattle.ts_core.specs.settings.Settings.{Rule}
use Rattle.ts_core.specs.store.Cells.{Cell}
use Rattle.ts_core.specs.moves.Runs.{batches_of, batches_left, expired_count, steps_left, Falls, count_steps, last_left}
use Rattle.ts_core.specs.store.StoreStates.{ColumnPoints, RuleCells, column_of, facts_of}
use Rattle.ts_core.specs.store.StoreData.{CellMap, RuleData, StoreData, rule_cells, state_of}
use Rattle.ts_core.specs.moves.StoreMoves.{in_cells, kept_points, points_below, moved_cells, column_moved, run_begun, run_ended, GainsEmptyCells, GainEmptyCells, grown, put_cell, put_cells, PutsFacts, put_facts}
use Rattle.ts_core.proofs.lists.MembersLemmas.{AllDistinct-filter, Among-filter_was, Among-filter_passes, Among-filter_stays}
use Rattle.ts_core.proofs.aggregates.Folds.{length-same}
use Rattle.ts_core.proofs.lists.Comparisons.{lt_from}
use Rattle.ts_core.proofs.moves.StepStands.{keys_column}
use Rattle.ts_core.proofs.moves.MovesStand.{keys_once, key_there, key_not, put_cell-keys, GainsOf}
use Rattle.ts_core.proofs.moves.EachRule.{rules_changed}
use Rattle.ts_core.proofs.store.StateLemmas.{AllZip-map}

-- ---- cells with the same keys

-- a rule has as many cells below its low index
abbrev pub BelowSame : ℤ → CellMap → CellMap → Type 0
BelowSame low m n = length (filter (λ (k : Cell). int_lt k.index low) (finmap.keys n)) ≡ length (filter (λ (k : Cell). int_lt k.index low) (finmap.keys m))

batches_left-same : (rs after : List RuleCells) → AllZip (λ (r y : RuleCells). expired_count y ≡ expired_count r) rs after → batches_left after ≡ batches_left rs
batches_left-same [] [] t = refl
batches_left-same (r ∷ rs) (y ∷ ys) t = ap₂ (λ m n. batches_of m + n) t.0 (batches_left-same rs ys t.1)
batches_left-same _ _ t = absurd t

-- each rule keeps its keys
pub turns_in : (f : Rule → CellMap → CellMap) → ((r : Rule) (m : CellMap) → finmap.keys (f r m) ≡ finmap.keys m) → (rs : List RuleData) → batches_left (map rule_cells (map (in_cells f) rs)) ≡ batches_left (map rule_cells rs)
turns_in f h [] = refl
turns_in f h (x ∷ rs) = ap₂ (λ a b. batches_of a + b) (ap (λ ks. length (filter (λ (k : Cell). int_lt k.index x.low) ks)) (h x.rule x.cells)) (turns_in f h rs)

turns_line : (fs : List Fact) (before after : List ColumnPoints) (rs ss : List RuleData) → PutsFacts before rs after ss fs → batches_left (map rule_cells ss) ≡ batches_left (map rule_cells rs)
turns_line [] before after rs ss p = ap (λ xs. batches_left (map rule_cells xs)) p.1
turns_line (f ∷ fs) before after rs ss p = turns_line fs p.0 after (put_cells f (facts_of p.0) rs) ss p.2 ∙ turns_in (λ (r : Rule). put_cell r f (facts_of p.0)) (λ r. put_cell-keys r f (facts_of p.0)) rs

-- ---- room

module _ (r : Rule) (low : ℤ) (facts : List Fact) (m n : CellMap) (spare : GainsEmptyCells r low facts m n) where
  abbrev is_below : Cell → Bool
  is_below k = int_lt k.index low

  below_of : (x y : CellMap) → ((k : Cell) → k.index <ℤ low → finmap.get y k ≡ finmap.get x k) → (k : Cell) → Among k (filter is_below (finmap.keys x)) → Among k (filter is_below (finmap.keys y))
  below_of x y same k a =
      let p = Among-filter_passes is_below k (finmap.keys x) a in
      Among-filter_stays is_below k (finmap.keys y) (key_there y k (λ z. key_not x k (Among-filter_was is_below k (finmap.keys x) a) (sym (same k (lt_from k.index low p)) ∙ z))) p

  below_roomed : BelowSame low m n
  below_roomed =
      length-same (filter is_below (finmap.keys n)) (filter is_below (finmap.keys m)) (AllDistinct-filter is_below (finmap.keys n) (keys_once n)) (AllDistinct-filter is_below (finmap.keys m) (keys_once m))
      (below_of n m (λ k l. sym (spare.above k l))) (below_of m n spare.above)

turns_roomed : (facts : List Fact) (rs ss : List RuleData) → GainEmptyCells facts rs ss → batches_left (map rule_cells ss) ≡ batches_left (map rule_cells rs)
turns_roomed facts rs ss e =
    batches_left-same (map rule_cells rs) (map rule_cells ss)
    (AllZip-map (λ (x y : RuleCells). expired_count y ≡ expired_count x) rule_cells rule_cells rs ss
    (rules_changed (GainsOf facts) (λ (a b : RuleData). expired_count (rule_cells b) ≡ expired_count (rule_cells a)) (λ a n spare. below_roomed a.rule a.low facts a.cells n spare) rs ss e))

-- ---- the moves

-- the number of steps left of an open run
left_open : (k : StoreData) → k.running ≡ true → steps_left (state_of k) ≡ length k.waiting + batches_left (map rule_cells k.rules) + 1
left_open k e = ap (λ b. cond b (length k.waiting + batches_left (map rule_cells k.rules) + 1) 0) e

pub left-begins : (k : StoreData) (now : ℤ) → steps_left (state_of (run_begun now k)) ≡ length k.columns + batches_left (map rule_cells (run_begun now k).rules) + 1
left-begins k now = ap (λ n. n + batches_left (map rule_cells (run_begun now k).rules) + 1) (length-map k.columns column_of)

pub left-moves : (k : StoreData) (c : Column) (ps : List (ℤ × ℤ)) (rest : List Column) → k.running ≡ true → k.waiting ≡ c ∷ rest → steps_left (state_of k) ≡ steps_left (state_of (column_moved c ps rest k)) + 1
left-moves k c ps rest e w =
    let a = left_open k e in
    let b = left_open (column_moved c ps rest k) e in
    let n : length k.waiting ≡ length rest + 1 = ap (λ (ws : List Column). length ws) w ∙ (let m : length (c ∷ rest) ≡ length rest + 1 = omega arith in m) in
    let left : List Fact = facts_of (map (kept_points c k.raw_mark) k.columns) in
    let t = turns_in (λ (r : Rule). moved_cells r c (points_below k.raw_mark ps) left) (λ r. keys_column r c (points_below k.raw_mark ps) left) k.rules in
    omega arith

pub left-ends : (k : StoreData) → k.running ≡ true → k.waiting ≡ [] → batches_left (map rule_cells k.rules) ≡ 0 → (steps_left (state_of k) ≡ 1) × (steps_left (state_of (run_ended k)) ≡ 0)
left-ends k e w t =
    let a = left_open k e in
    let n : length k.waiting ≡ 0 = ap (λ (ws : List Column). length ws) w in
    (omega arith, refl)

pub left-last : (k : StoreData) → k.running ≡ true → steps_left (state_of k) ≡ 1 → (k.waiting ≡ []) × (batches_left (map rule_cells k.rules) ≡ 0)
left-last k e l =
    let a = left_open k e in
    (nil_from_length k.waiting (omega arith), omega arith)

pub left-grows : (k : StoreData) (series : List Series) (columns : List ColumnPoints) (rs : List RuleData) (facts : List Fact) → GainEmptyCells facts k.rules rs → steps_left (state_of (grown series columns rs k)) ≡ steps_left (state_of k)
left-grows k series columns rs facts spare = ap (λ t. cond k.running (length k.waiting + t + 1) 0) (turns_roomed facts k.rules rs spare)

pub left-puts : (k : StoreData) (columns : List ColumnPoints) (facts : List Fact) (ss : List RuleData) (n : ℕ) → PutsFacts k.columns k.rules columns ss facts → steps_left (state_of (put_facts columns ss n k)) ≡ steps_left (state_of k)
left-puts k columns facts ss n p = ap (λ t. cond k.running (length k.waiting + t + 1) 0) (turns_line facts k.columns columns k.rules ss p)

-- ---- the bound

pub falls-bound : (left : ℕ) (calls : List (Bool × ℕ)) → Falls left calls → count_steps calls + last_left left calls ≤ left
falls-bound left [] f = omega arith
falls-bound left ((true, l) ∷ calls) f = let h = falls-bound l calls f.1 in let e = f.0 in omega arith
falls-bound left ((false, l) ∷ calls) f = let h = falls-bound l calls f.1 in let e = f.0 in omega arith

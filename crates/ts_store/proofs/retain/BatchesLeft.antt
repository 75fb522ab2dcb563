-- The number of removal steps left: one less after cells below a low index were removed, and the same after points were
-- frozen.
use Rattle.std.proofs.Common.{◌≡◌, ℕ, zero, suc, ℤ, ◌+◌, ◌≤◌, ◌<ℤ◌, ◌≤ℤ◌, Bool, true, false, true≢false, cond, List, [], ◌∷◌, length, filter, map, refl, sym, ◌∙◌, ap, ap₂, subst, inl, inr, ⊎_elim, arith, None, Some, int_lt}
use Rattle.std.specs.FinMap as finmap
use Rattle.std.specs.FinMap.{get-remove}
use Rattle.std.proofs.Math.Nat.{eq-or-lt_of_le}
use Rattle.ts_core.specs.lists.Members.{Among}
use Rattle.ts_core.specs.settings.Settings.{Rule}
use Rattle.ts_core.specs.store.Cells.{Cell, same_cell}
use Rattle.ts_core.specs.lists.Changes.{or_else}
use Rattle.std.proofs.lemmas.Option.{none-some}
use Rattle.ts_core.specs.store.StoreStates.{ColumnPoints, CellParts}
use Rattle.ts_core.specs.store.StoreData.{CellMap, RuleData, OfEachRule, no_parts, rule_cells}
use Rattle.ts_core.specs.moves.StoreMoves.{KeepsFrom, Expired, AreOf, IsOf}
use Rattle.ts_core.specs.moves.Runs.{batches_of, batches_left, expired_count}
use Rattle.ts_core.proofs.aggregates.Folds.{length-same}
use Rattle.ts_core.proofs.lists.MembersLemmas.{no_members, Among-filter_was, Among-filter_passes, Among-filter_stays, AllDistinct-filter}
use Rattle.ts_core.proofs.moves.MovesStand.{keys_once, key_there, key_not}
use Rattle.ts_core.proofs.plans.PieceCells.{cells_total, same_cell-eq, same_cell-refl}
use Rattle.ts_core.proofs.lists.Comparisons.{lt_from, lt_true}
use Rattle.ts_core.proofs.moves.EachRule.{rules_keep, each_same}
use Rattle.std.proofs.lemmas.Int.{ints}
use Rattle.ts_cells.specs.Expiry.{Removes, RemovesOne, IsAbove}
use Rattle.ts_store.specs.store.CellCounts.{frozen_count, HoldsFew, HoldFew}
use Rattle.ts_store.specs.retain.WholeRuns.{AreAbove, LosesCells, FirstLoses}

-- ---- cells below an index

-- the number of cells below an index
abbrev below_count : ℤ → CellMap → ℕ
below_count low m = length (filter (λ (k : Cell). int_lt k.index low) (finmap.keys m))

pub other_cell : (k q : Cell) → (k ≡ q → ⊥) → same_cell k q ≡ false
other_cell k q n = elim (same_cell k q) as (λ b. same_cell k q ≡ b → b ≡ false) [ true ↦ λ e. absurd (n (same_cell-eq k q e)) | false ↦ λ e. refl ] refl

not_itself : (k q : Cell) → same_cell k q ≡ false → k ≡ q → ⊥
not_itself k q e s = true≢false (sym (same_cell-refl k) ∙ ap (same_cell k) s ∙ e)

-- one fewer
one_fewer : (low : ℤ) (m n : CellMap) → RemovesOne low m n → below_count low m ≡ suc (below_count low n)
one_fewer low m n r =
    let k : Cell = r.0 in
    let p : Cell → Bool = λ (q : Cell). int_lt q.index low in
    let gone : (q : Cell) → finmap.get n q ≡ cond (same_cell q k) None (finmap.get m q) = λ q. ap (λ (x : CellMap). finmap.get x q) r.3 ∙ get-remove cells_total m k q in
    let here : Among k (filter p (finmap.keys m)) = Among-filter_stays p k (finmap.keys m) (key_there m k r.2) (lt_true k.index low r.1) in
    let none : Among k (finmap.keys n) → ⊥ = λ a. key_not n k a (gone k ∙ ap (λ b. cond b None (finmap.get m k)) (same_cell-refl k)) in
    let stays : (q : Cell) → (q ≡ k → ⊥) → finmap.get n q ≡ finmap.get m q = λ q a. gone q ∙ ap (λ b. cond b None (finmap.get m q)) (other_cell q k a) in
    length-same (filter p (finmap.keys m)) (k ∷ filter p (finmap.keys n)) (AllDistinct-filter p (finmap.keys m) (keys_once m))
    (λ a. none (Among-filter_was p k (finmap.keys n) a), AllDistinct-filter p (finmap.keys n) (keys_once n))
    (λ q a. elim (same_cell q k) as (λ b. same_cell q k ≡ b → Among q (k ∷ filter p (finmap.keys n))) [
      | true ↦ λ e. inl (same_cell-eq q k e)
      | false ↦ λ e. inr (Among-filter_stays p q (finmap.keys n) (key_there n q (λ z. key_not m q (Among-filter_was p q (finmap.keys m) a) (sym (stays q (not_itself q k e)) ∙ z))) (Among-filter_passes p q (finmap.keys m) a))
    ] refl)
    (λ q a. ⊎_elim {C = Among q (filter p (finmap.keys m))} (λ e. subst (λ (x : Cell). Among x (filter p (finmap.keys m))) (sym e) here)
    (λ b. Among-filter_stays p q (finmap.keys m) (key_there m q (λ z. key_not n q (Among-filter_was p q (finmap.keys n) b) (stays q (λ e. none (subst (λ (x : Cell). Among x (finmap.keys n)) e (Among-filter_was p q (finmap.keys n) b))) ∙ z))) (Among-filter_passes p q (finmap.keys n) b)) a)

pub below_fewer : (low : ℤ) (count : ℕ) (m after : CellMap) → Removes low count m after → below_count low m ≡ count + below_count low after
below_fewer low zero m after r = let e = ap (below_count low) r in omega arith
below_fewer low (suc count) m after r =
    let one : below_count low r.0 ≡ suc (below_count low after) = one_fewer low r.0 after r.2 in
    let rest : below_count low m ≡ count + below_count low r.0 = below_fewer low count m r.0 r.1 in
    omega arith

pub none_below : (low : ℤ) (m : CellMap) → IsAbove low m → below_count low m ≡ 0
none_below low m above =
    let p : Cell → Bool = λ (q : Cell). int_lt q.index low in
    ap length (no_members (filter p (finmap.keys m)) (λ q a.
    let below : q.index <ℤ low = lt_from q.index low (Among-filter_passes p q (finmap.keys m) a) in
    let least : low ≤ℤ q.index = above q (key_not m q (Among-filter_was p q (finmap.keys m) a)) in
    omega (arith, ints)))

-- a batch is 256, or all
turn_taken : (low : ℤ) (m n : CellMap) → LosesCells low m n → batches_of (below_count low m) ≡ batches_of (below_count low n) + 1
turn_taken low m n l =
    let fewer : below_count low m ≡ l.count + below_count low n = below_fewer low l.count m n l.below.removed in
    let some = l.some in
    ⊎_elim {C = batches_of (below_count low m) ≡ batches_of (below_count low n) + 1} (λ e. omega (arith, e, fewer)) (λ h. let none : below_count low n ≡ 0 = none_below low n (l.below.all h) in omega (arith, h, fewer, none)) (eq-or-lt_of_le l.below.few)

pub batches_left-loses : (rs ss : List RuleData) → FirstLoses rs ss → batches_left (map rule_cells rs) ≡ batches_left (map rule_cells ss) + 1
batches_left-loses (a ∷ rs) (b ∷ ss) l =
    ⊎_elim {C = batches_left (map rule_cells (a ∷ rs)) ≡ batches_left (map rule_cells (b ∷ ss)) + 1}
    (λ p.
    let one = turn_taken a.low a.cells b.cells p.0.0 in
    let same : expired_count (rule_cells b) ≡ below_count a.low b.cells = ap (λ (x : RuleData). expired_count (rule_cells x)) p.0.1 in
    let first : batches_of (expired_count (rule_cells b)) ≡ batches_of (below_count a.low b.cells) = ap batches_of same in
    let others : batches_left (map rule_cells ss) ≡ batches_left (map rule_cells rs) = ap (λ (xs : List RuleData). batches_left (map rule_cells xs)) p.1 in
    omega (arith, one, first, others))
    (λ p.
    let same : batches_of (expired_count (rule_cells b)) ≡ batches_of (expired_count (rule_cells a)) = ap (λ (x : RuleData). batches_of (expired_count (rule_cells x))) p.1 in
    let others = batches_left-loses rs ss p.2 in
    omega (arith, same, others)) l
batches_left-loses _ _ l = absurd l

-- ---- what is removed

apart : (low : ℤ) (k q : Cell) → low ≤ℤ k.index → q.index <ℤ low → same_cell k q ≡ false
apart low k q l b = other_cell k q (λ e. let s : low ≤ℤ q.index = subst (λ (z : Cell). low ≤ℤ z.index) e l in absurd (let n : ⊥ = omega (arith, ints) in n))

pub removes_above : (low : ℤ) (n : ℕ) (m after : CellMap) → Removes low n m after → (k : Cell) → low ≤ℤ k.index → finmap.get after k ≡ finmap.get m k
removes_above low zero m after r k l = ap (λ (x : CellMap). finmap.get x k) r
removes_above low (suc n) m after r k l =
    let one : RemovesOne low r.0 after = r.2 in
    ap (λ (x : CellMap). finmap.get x k) one.3 ∙ get-remove cells_total r.0 one.0 k ∙ ap (λ b. cond b None (finmap.get r.0 k)) (apart low k one.0 l one.1) ∙ removes_above low n m r.0 r.1 k l

-- what holds of the cells of a rule that loses some, and of cells that stay, holds of each rule
each_loses : (R : Rule → ℤ → CellMap → CellMap → Type 0) → ((r : Rule) (low : ℤ) (m : CellMap) → R r low m m) → ((r : Rule) (low : ℤ) (m n : CellMap) → LosesCells low m n → R r low m n) → (rs ss : List RuleData) → FirstLoses rs ss → OfEachRule R rs ss
each_loses R same loses (a ∷ rs) (b ∷ ss) l =
    ⊎_elim {C = OfEachRule R (a ∷ rs) (b ∷ ss)}
    (λ p. ((ap (λ (x : RuleData). x.rule) p.0.1, ap (λ (x : RuleData). x.low) p.0.1, loses a.rule a.low a.cells b.cells p.0.0), subst (OfEachRule R rs) (sym p.1) (each_same R same rs)))
    (λ p. ((ap (λ (x : RuleData). x.rule) p.1, ap (λ (x : RuleData). x.low) p.1, subst (λ (x : RuleData). R a.rule a.low a.cells x.cells) (sym p.1) (same a.rule a.low a.cells)), each_loses R same loses rs ss p.2)) l
each_loses R same loses _ _ l = absurd l

pub expired-loses : (rs ss : List RuleData) → FirstLoses rs ss → Expired rs ss
expired-loses = each_loses (λ r. KeepsFrom) (λ r low m k l. refl) (λ r low m n l. removes_above low l.count m n l.below.removed)

-- ---- cells hold no more after a removal

one_holds : (low : ℤ) (m n : CellMap) (k : Cell) → RemovesOne low m n → frozen_count n k ≤ frozen_count m k
one_holds low m n k r =
    let gone : finmap.get n k ≡ cond (same_cell k r.0) None (finmap.get m k) = ap (λ (x : CellMap). finmap.get x k) r.3 ∙ get-remove cells_total m r.0 k in
    subst (λ o. (or_else no_parts o).frozen.count ≤ frozen_count m k) (sym gone)
    (elim (same_cell k r.0) as (λ b. (or_else no_parts (cond b None (finmap.get m k))).frozen.count ≤ frozen_count m k) [ true ↦ omega arith | false ↦ omega arith ])

all_hold : (low : ℤ) (count : ℕ) (m after : CellMap) (k : Cell) → Removes low count m after → frozen_count after k ≤ frozen_count m k
all_hold low zero m after k r = let e = ap (λ (x : CellMap). frozen_count x k) r in omega arith
all_hold low (suc count) m after k r = let one = one_holds low r.0 after k r.2 in let rest = all_hold low count m r.0 k r.1 in omega arith

abbrev HoldsNoMore : Rule → ℤ → CellMap → CellMap → Type 0
HoldsNoMore r low m o = (k : Cell) → frozen_count o k ≤ frozen_count m k

pub counts-removed : (n : ℕ) (cs : List ColumnPoints) (rs ss : List RuleData) → FirstLoses rs ss → HoldFew n cs rs → HoldFew n cs ss
counts-removed n cs rs ss l few =
    rules_keep HoldsNoMore (λ (a : RuleData). HoldsFew n cs a.rule a.cells) (λ (a : RuleData). HoldsFew n cs a.rule a.cells) (λ a m fewer all k. let most = fewer k in let max = all k in omega (arith, most, max)) rs ss
    (each_loses HoldsNoMore (λ r low m k. let most : frozen_count m k ≤ frozen_count m k = omega arith in most) (λ r low m o loses k. all_hold low loses.count m o k loses.below.removed) rs ss l) few

-- ---- cells that go, and none that comes

of-one : (low : ℤ) (m n : CellMap) → RemovesOne low m n → (k : Cell) (p : CellParts) → finmap.get n k ≡ Some p → finmap.get m k ≡ Some p
of-one low m n r k p e =
    let gone : finmap.get n k ≡ cond (same_cell k r.0) None (finmap.get m k) = ap (λ (x : CellMap). finmap.get x k) r.3 ∙ get-remove cells_total m r.0 k in
    elim (same_cell k r.0) as (λ b. cond b None (finmap.get m k) ≡ Some p → finmap.get m k ≡ Some p) [
      | true ↦ λ q. absurd (none-some p q)
      | false ↦ λ q. q
    ] (sym gone ∙ e)

pub of-all : (low : ℤ) (count : ℕ) (m after : CellMap) → Removes low count m after → (k : Cell) (p : CellParts) → finmap.get after k ≡ Some p → finmap.get m k ≡ Some p
of-all low zero m after r k p e = ap (λ (x : CellMap). finmap.get x k) (sym r) ∙ e
of-all low (suc count) m after r k p e = of-all low count m r.0 r.1 k p (of-one low r.0 after r.2 k p e)

pub of-loses : (rs ss : List RuleData) → FirstLoses rs ss → AreOf rs ss
of-loses = each_loses (λ r low. IsOf) (λ r low m k p e. e) (λ r low m n l. of-all low l.count m n l.below.removed)

-- ---- no batch is left where no rule has cells below its low index

pub batches_left-above : (rs : List RuleData) → AreAbove rs → batches_left (map rule_cells rs) ≡ 0
batches_left-above [] a = refl
batches_left-above (x ∷ rs) a = ap₂ (λ m n. batches_of m + n) (none_below x.low x.cells a.0) (batches_left-above rs a.1)

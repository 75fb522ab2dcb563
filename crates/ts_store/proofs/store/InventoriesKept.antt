-- Inventories after steps of a run: columns stay, and so do the cells from the low indices on.
use Rattle.std.proofs.Common.{◌≡◌, ◌⊎◌, ⊎_elim, ℕ, zero, suc, ℤ, ◌+◌, ◌-◌, ◌≤ℤ◌, int_lt, true, false, List, [], ◌∷◌, length, map, filter, refl, sym, ◌∙◌, ap, ap₂, subst, inl, inr, arith, cond, Some, None}
use Rattle.std.specs.FinMap as finmap
use Rattle.std.proofs.Math.Nat.{eq-or-lt_of_le}
use Rattle.std.specs.List.{zip}
use Rattle.std.proofs.lemmas.List.{nil_from_length}
use Rattle.std.proofs.lemmas.List.Sums.{sum_by-cons}
use Rattle.std.proofs.lemmas.Option.{none-some, same_Some}
use Rattle.ts_core.specs.lists.Members.{Among}
use Rattle.ts_core.specs.lists.Numbered.{IsAt}
use Rattle.ts_core.specs.facts.Facts.{Column, Fact}
use Rattle.ts_core.specs.settings.Settings.{Rule, Settings}
use Rattle.ts_core.specs.store.Cells.{Cell}
use Rattle.ts_core.specs.moves.Runs.{batches_of, batches_left, steps_left}
use Rattle.ts_core.specs.store.StoreStates.{facts_of}
use Rattle.ts_core.specs.store.StoreData.{CellMap, RuleData, StoreData, store_marks, rule_cells, state_of, new_data}
use Rattle.ts_core.specs.moves.StoreMoves.{all_moved, points_below, kept_points, run_ended}
use Rattle.ts_core.proofs.lists.Comparisons.{lt_not}
use Rattle.ts_core.proofs.lists.MembersLemmas.{Among-filter_stays}
use Rattle.ts_core.proofs.moves.StoreNew.{no_keys}
use Rattle.ts_core.proofs.moves.MovesStand.{keys_once, key_there, key_not}
use Rattle.ts_core.proofs.moves.StepStands.{keys_column}
use Rattle.ts_store.specs.store.Inventories.{Inventory, inventory_of, new_inventory, OfRules, expired_in, Expires, FirstExpires, batches_in, steps_in, StepsTo, LeavesFrom, LeavesRecent}
use Rattle.ts_store.specs.retain.WholeRuns.{AreAbove, LosesCells, FirstLoses, MovesFirst, RemovesCells}
use Rattle.ts_store.specs.declared.retain.StepAnswer.{StepAnswer}
use Rattle.ts_store.specs.declared.retain.StepAnswer.TheVariants.{Moved, Done}
use Rattle.ts_store.proofs.retain.RunsGoOn.{kept-names}
use Rattle.ts_store.proofs.retain.BatchesLeft.{below_fewer, none_below, removes_above, of-all}

-- the keys of the cells of each rule
abbrev pub all_keys : List RuleData → List (List Cell)
all_keys rs = map (λ (a : RuleData). finmap.keys a.cells) rs

-- ---- a new store

none_keys : (rs : List Rule) → all_keys (new_data (record { raw_duration = 0; rules = rs })).rules ≡ map (λ (r : Rule). []) rs
none_keys [] = refl
none_keys (r ∷ rs) = ap₂ (λ (x : List Cell) xs. x ∷ xs) no_keys (none_keys rs)

pub inventory_new : (settings : Settings) → inventory_of (new_data settings) ≡ new_inventory settings
inventory_new settings = λ i. record { columns = []; waiting = []; cells = none_keys settings.rules i }

-- ---- a column is moved

keys_moved : (c : Column) (ps : List (ℤ × ℤ)) (left : List Fact) (rs : List RuleData) → all_keys (all_moved c ps left rs) ≡ all_keys rs
keys_moved c ps left [] = refl
keys_moved c ps left (x ∷ rs) = ap₂ (λ (a : List Cell) as'. a ∷ as') (keys_column x.rule c ps left x.cells) (keys_moved c ps left rs)

moves_to : (old new : StoreData) → MovesFirst old new → StepsTo (store_marks old).lows (inventory_of old) Moved (inventory_of new)
moves_to old new m =
    let same : inventory_of new ≡ record (inventory_of old) { waiting = m.others } =
    ap inventory_of m.moved
    ∙ (λ i. record {
      columns = kept-names m.column old.raw_mark old.columns i;
      waiting = m.others;
      cells = keys_moved m.column (points_below old.raw_mark m.points) (facts_of (map (kept_points m.column old.raw_mark) old.columns)) old.rules i;
    }) in
    subst (StepsTo (store_marks old).lows (inventory_of old) Moved) (sym same) (StepsTo.moves m.column m.others m.waits)

-- ---- cells are removed

expires : (low : ℤ) (m n : CellMap) → LosesCells low m n → Expires low (finmap.keys m) (finmap.keys n)
expires low m n l =
    let left : expired_in low (finmap.keys m) ≡ l.count + expired_in low (finmap.keys n) = below_fewer low l.count m n l.below.removed in
    let some = l.some in
    record {
      some = omega arith;
      fewer = ⊎_elim {C = expired_in low (finmap.keys n) ≡ expired_in low (finmap.keys m) - 256} (λ e. omega (arith, e, left)) (λ h. let none : expired_in low (finmap.keys n) ≡ 0 = none_below low n (l.below.all h) in omega (arith, h, left, none)) (eq-or-lt_of_le l.below.few);
      only = λ k a. key_there m k (λ none.
          elim (finmap.get n k) as (λ o. finmap.get n k ≡ o → ⊥) [
            | Some p ↦ λ e. none-some p (sym none ∙ of-all low l.count m n l.below.removed k p e)
            | None ↦ λ e. key_not n k a e
          ] refl);
      stays = λ k above a. key_there n k (λ none. key_not m k a (sym (removes_above low l.count m n l.below.removed k above) ∙ none));
      once = keys_once n;
    }

first_expires : (rs ss : List RuleData) → FirstLoses rs ss → FirstExpires (map (λ (a : RuleData). a.low) rs) (all_keys rs) (all_keys ss)
first_expires (a ∷ rs) (b ∷ ss) l =
    ⊎_elim {C = FirstExpires (map (λ (x : RuleData). x.low) (a ∷ rs)) (all_keys (a ∷ rs)) (all_keys (b ∷ ss))} (λ p. inl (expires a.low a.cells b.cells p.0.0, ap all_keys p.1))
    (λ p. inr (none_below a.low a.cells p.0, ap (λ (x : RuleData). finmap.keys x.cells) p.1, first_expires rs ss p.2)) l
first_expires _ _ l = absurd l

removes_to : (old new : StoreData) → RemovesCells old new → StepsTo (store_marks old).lows (inventory_of old) Moved (inventory_of new)
removes_to old new m =
    let same : inventory_of new ≡ record (inventory_of old) { cells = all_keys new.rules } = ap inventory_of m.others in
    subst (StepsTo (store_marks old).lows (inventory_of old) Moved) (sym same) (StepsTo.removes (all_keys new.rules) m.waits (first_expires old.rules new.rules m.loses))

pub steps_to : (old new : StoreData) → MovesFirst old new ⊎ RemovesCells old new → StepsTo (store_marks old).lows (inventory_of old) Moved (inventory_of new)
steps_to old new m = ⊎_elim {C = StepsTo (store_marks old).lows (inventory_of old) Moved (inventory_of new)} (moves_to old new) (removes_to old new) m

-- ---- the end

-- the batches of the first rule, and of the others
batches_first : (low : ℤ) (lows : List ℤ) (a : List Cell) (cells : List (List Cell)) → batches_in (low ∷ lows) (a ∷ cells) ≡ batches_of (expired_in low a) + batches_in lows cells
batches_first low lows a cells = sum_by-cons (λ (p : ℤ × List Cell). batches_of (expired_in p.0 p.1)) (low, a) (zip lows cells)

no_turns : (rs : List RuleData) → AreAbove rs → batches_in (map (λ (a : RuleData). a.low) rs) (all_keys rs) ≡ 0
no_turns [] a = refl
no_turns (x ∷ rs) a = batches_first x.low (map (λ (y : RuleData). y.low) rs) (finmap.keys x.cells) (all_keys rs) ∙ ap₂ (λ m n. batches_of m + n) (none_below x.low x.cells a.0) (no_turns rs a.1)

none_wait : (k : StoreData) → k.running ≡ true → steps_left (state_of k) ≡ 1 → k.waiting ≡ []
none_wait k runs last =
    let left : length k.waiting + batches_left (map rule_cells k.rules) + 1 ≡ 1 = sym (ap (λ b. cond b (length k.waiting + batches_left (map rule_cells k.rules) + 1) 0) runs) ∙ last in
    nil_from_length k.waiting (omega arith)

pub ends_to : (old new : StoreData) → old.running ≡ true → steps_left (state_of old) ≡ 1 → new ≡ run_ended old → AreAbove new.rules → StepsTo (store_marks old).lows (inventory_of old) Done (inventory_of new)
ends_to old new runs last ended above =
    let none : AreAbove old.rules = subst (λ (k : StoreData). AreAbove k.rules) ended above in
    subst (StepsTo (store_marks old).lows (inventory_of old) Done) (sym (ap inventory_of ended)) (StepsTo.ends (none_wait old runs last) (no_turns old.rules none))

-- ---- what steps keep

record Keeps (low : ℤ) (old new : List Cell) : Type 0 where
  only : (k : Cell) → Among k new → Among k old
  stays : (k : Cell) → low ≤ℤ k.index → Among k old → Among k new

abbrev KeepAll : List ℤ → List (List Cell) → List (List Cell) → Type 0
KeepAll lows [] [] = Unit {0}
KeepAll lows [] (b ∷ new) = ⊥
KeepAll lows (a ∷ old) [] = ⊥
KeepAll [] (a ∷ old) (b ∷ new) = KeepAll [] old new
KeepAll (low ∷ lows) (a ∷ old) (b ∷ new) = Keeps low a b × KeepAll lows old new

kept_same : (low : ℤ) (cells : List Cell) → Keeps low cells cells
kept_same low cells = record { only = λ k a. a; stays = λ k l a. a }

all_kept_same : (lows : List ℤ) (cells : List (List Cell)) → KeepAll lows cells cells
all_kept_same [] [] = tt
all_kept_same (low ∷ lows) [] = tt
all_kept_same [] (a ∷ cells) = all_kept_same [] cells
all_kept_same (low ∷ lows) (a ∷ cells) = (kept_same low a, all_kept_same lows cells)

all_kept_then : (lows : List ℤ) (as' bs cs : List (List Cell)) → KeepAll lows as' bs → KeepAll lows bs cs → KeepAll lows as' cs
all_kept_then lows [] [] [] x y = tt
all_kept_then lows [] [] (c ∷ cs) x y = absurd y
all_kept_then lows [] (b ∷ bs) cs x y = absurd x
all_kept_then lows (a ∷ as') [] cs x y = absurd x
all_kept_then lows (a ∷ as') (b ∷ bs) [] x y = absurd y
all_kept_then [] (a ∷ as') (b ∷ bs) (c ∷ cs) x y = all_kept_then [] as' bs cs x y
all_kept_then (low ∷ lows) (a ∷ as') (b ∷ bs) (c ∷ cs) x y = (
  record { only = λ k m. x.0.only k (y.0.only k m); stays = λ k l m. y.0.stays k l (x.0.stays k l m) },
  all_kept_then lows as' bs cs x.1 y.1,
)

first_kept : (lows : List ℤ) (old new : List (List Cell)) → FirstExpires lows old new → KeepAll lows old new
first_kept (low ∷ lows) (a ∷ old) (b ∷ new) e =
    ⊎_elim {C = KeepAll (low ∷ lows) (a ∷ old) (b ∷ new)} (λ p. (record { only = p.0.only; stays = p.0.stays }, subst (KeepAll lows old) (sym p.1) (all_kept_same lows old)))
    (λ p. (subst (Keeps low a) (sym p.1) (kept_same low a), first_kept lows old new p.2)) e
first_kept _ _ _ e = absurd e

turn_taken : (low : ℤ) (a b : List Cell) → Expires low a b → batches_of (expired_in low a) ≡ batches_of (expired_in low b) + 1
turn_taken low a b e =
    let some = e.some in
    let fewer = e.fewer in
    omega (arith, some, fewer)

first_turn : (lows : List ℤ) (old new : List (List Cell)) → FirstExpires lows old new → batches_in lows old ≡ batches_in lows new + 1
first_turn (low ∷ lows) (a ∷ old) (b ∷ new) e =
    let before = batches_first low lows a old in
    let after = batches_first low lows b new in
    ⊎_elim {C = batches_in (low ∷ lows) (a ∷ old) ≡ batches_in (low ∷ lows) (b ∷ new) + 1}
    (λ p. let one = turn_taken low a b p.0 in let others : batches_in lows new ≡ batches_in lows old = ap (batches_in lows) p.1 in omega arith)
    (λ p. let same : batches_of (expired_in low b) ≡ batches_of (expired_in low a) = ap (λ (x : List Cell). batches_of (expired_in low x)) p.1 in let others = first_turn lows old new p.2 in omega arith) e
first_turn _ _ _ e = absurd e

-- the parts that are unchanged since a run began, and the number of steps that were taken
pub record KeptSince (lows : List ℤ) (old new : Inventory) (taken : ℕ) : Type 0 where
  pub columns : new.columns ≡ old.columns
  cells : KeepAll lows old.cells new.cells
  pub count : taken + steps_in lows new ≡ steps_in lows old

pub none_taken : (lows : List ℤ) (s : Inventory) → KeptSince lows s s 0
none_taken lows s = record { columns = refl; cells = all_kept_same lows s.cells; count = omega arith }

pub one_taken : (lows : List ℤ) (old s t : Inventory) (taken : ℕ) (answer : StepAnswer) → KeptSince lows old s taken → answer ≡ Moved → StepsTo lows s answer t → KeptSince lows old t (suc taken)
one_taken lows old s t taken answer since moved (StepsTo.moves column others waits) =
    let one : length s.waiting ≡ length others + 1 = ap length waits ∙ (let m : length (column ∷ others) ≡ length others + 1 = omega arith in m) in
    let before = since.count in
    record { columns = since.columns; cells = since.cells; count = omega (arith, one, before) }
one_taken lows old s t taken answer since moved (StepsTo.removes cells waits first) =
    let one = first_turn lows s.cells cells first in
    let before = since.count in
    record { columns = since.columns; cells = all_kept_then lows old.cells s.cells cells since.cells (first_kept lows s.cells cells first); count = omega (arith, one, before) }
one_taken lows old s t taken answer since moved (StepsTo.ends waits batches) = absurd cc

-- ---- a whole run

from_none : (low : ℤ) (cells : List Cell) → expired_in low cells ≡ 0 → (k : Cell) → Among k cells → low ≤ℤ k.index
from_none low cells none k a =
    elim (int_lt k.index low) as (λ b. int_lt k.index low ≡ b → low ≤ℤ k.index) [
      | true ↦ λ e. absurd (let there : Among k (filter (λ (q : Cell). int_lt q.index low) cells) = Among-filter_stays (λ (q : Cell). int_lt q.index low) k cells a e in
          subst (Among k) (nil_from_length (filter (λ (q : Cell). int_lt q.index low) cells) none) there)
      | false ↦ λ e. lt_not k.index low e
    ] refl

one_recent : (low : ℤ) (a : List Cell) (n : CellMap) → Keeps low a (finmap.keys n) → expired_in low (finmap.keys n) ≡ 0 → LeavesFrom low a (finmap.keys n)
one_recent low a n keeps none = record {
  there = λ k. (λ m. (keeps.only k m, from_none low (finmap.keys n) none k m), λ m. keeps.stays k m.1 m.0);
  once = keys_once n;
}

recent_at : (lows : List ℤ) (old : List (List Cell)) (ns : List RuleData) → KeepAll lows old (all_keys ns) → batches_in lows (all_keys ns) ≡ 0
    → (i : ℕ) (low : ℤ) (a b : List Cell) → IsAt lows i low → IsAt old i a → IsAt (all_keys ns) i b → LeavesFrom low a b
recent_at [] old ns keeps none i low a b at_low at_old at_new = absurd (none-some low at_low)
recent_at (l ∷ lows) [] ns keeps none i low a b at_low at_old at_new = absurd (none-some a at_old)
recent_at (l ∷ lows) (x ∷ old) [] keeps none i low a b at_low at_old at_new = absurd (none-some b at_new)
recent_at (l ∷ lows) (x ∷ old) (n ∷ ns) keeps none zero low a b at_low at_old at_new =
    let parts = batches_first l lows (finmap.keys n.cells) (all_keys ns) in
    subst (λ (q : ℤ). LeavesFrom q a b) (same_Some l low at_low)
    (subst (λ (q : List Cell). LeavesFrom l q b) (same_Some x a at_old)
    (subst (λ (q : List Cell). LeavesFrom l x q) (same_Some (finmap.keys n.cells) b at_new) (one_recent l x n.cells keeps.0 (omega arith))))
recent_at (l ∷ lows) (x ∷ old) (n ∷ ns) keeps none (suc i) low a b at_low at_old at_new =
    let parts = batches_first l lows (finmap.keys n.cells) (all_keys ns) in
    recent_at lows old ns keeps.1 (omega arith) i low a b at_low at_old at_new

kept_length : (lows : List ℤ) (old new : List (List Cell)) → KeepAll lows old new → length new ≡ length old
kept_length lows [] [] k = refl
kept_length [] (a ∷ old) (b ∷ new) k = ap suc (kept_length [] old new k)
kept_length (low ∷ lows) (a ∷ old) (b ∷ new) k = ap suc (kept_length lows old new k.1)
kept_length _ _ _ k = absurd k

-- after the last step
pub record HasEnded (rules : List Rule) (lows : List ℤ) (old new : Inventory) (taken : ℕ) : Type 0 where
  pub recent : LeavesRecent rules lows old new
  pub count : taken + 1 ≡ steps_in lows old

ended_now : (rules : List Rule) (lows : List ℤ) (old s : Inventory) (ns : List RuleData) (taken : ℕ) → s.cells ≡ all_keys ns → s.waiting ≡ [] → batches_in lows s.cells ≡ 0 → KeptSince lows old s taken → HasEnded rules lows old s taken
ended_now rules lows old s ns taken keys waits none since =
    let kept : KeepAll lows old.cells (all_keys ns) = subst (KeepAll lows old.cells) keys since.cells in
    let batches : batches_in lows (all_keys ns) ≡ 0 = sym (ap (batches_in lows) keys) ∙ none in
    let before = since.count in
    let no_column : length s.waiting ≡ 0 = ap length waits in
    record {
      recent = record {
        columns = since.columns;
        waiting = waits;
        cells = subst (OfRules (λ r. LeavesFrom) rules lows old.cells) (sym keys) (kept_length lows old.cells (all_keys ns) kept, λ i r low a b at_rule at_low at_old at_new. recent_at lows old.cells ns kept batches i low a b at_low at_old at_new);
      };
      count = omega (arith, before, none, no_column);
    }

over : (rules : List Rule) (lows : List ℤ) (old s t : Inventory) (ns : List RuleData) (taken : ℕ) (answer : StepAnswer) → t.cells ≡ all_keys ns → KeptSince lows old s taken → answer ≡ Done → StepsTo lows s answer t → HasEnded rules lows old t taken
over rules lows old s t ns taken answer keys since done (StepsTo.moves column others waits) = absurd cc
over rules lows old s t ns taken answer keys since done (StepsTo.removes cells waits first) = absurd cc
over rules lows old s t ns taken answer keys since done (StepsTo.ends waits batches) = ended_now rules lows old s ns taken keys waits batches since

pub run_over : (rules : List Rule) (lows : List ℤ) (old s : Inventory) (new : StoreData) (taken : ℕ) (answer : StepAnswer) → KeptSince lows old s taken → answer ≡ Done → StepsTo lows s answer (inventory_of new) → HasEnded rules lows old (inventory_of new) taken
run_over rules lows old s new taken answer since done step = over rules lows old s (inventory_of new) new.rules taken answer refl since done step

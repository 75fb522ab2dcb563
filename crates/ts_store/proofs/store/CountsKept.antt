-- What holds of a store's data after each transition: the counts of cells, to which a line adds at most its own facts, the
-- cells that their rule can have, and the plain facts.
use Rattle.std.proofs.Common.{◌≡◌, ℕ, ◌+◌, ◌≤◌, Bool, true, false, cond, sym, List, [], ◌∷◌, ◌++◌, length, filter, refl, ap, subst, inl, inr, ⊎_elim, arith, ℤ, ◌∙◌, Some, None, pos, ◌+ℤ◌, ◌≤ℤ◌, ◌^◌, map}
use Rattle.std.specs.FinMap as finmap
use Rattle.std.specs.FinMap.{get-empty}
use Rattle.std.proofs.lemmas.List.{length-append, length-map, map-id}
use Rattle.ts_core.specs.lists.Members.{Among, AllDistinct}
use Rattle.ts_core.specs.facts.Facts.{Fact, Column, Series}
use Rattle.ts_core.specs.settings.Settings.{Rule, Settings, Outlasts}
use Rattle.ts_core.specs.aggregates.Aggregates.{Aggregate}
use Rattle.ts_core.specs.store.Cells.{Cell, cell_cmp, cell_of, is_rolled, is_in_cell, total_of, same_cell}
use Rattle.ts_core.specs.lists.Changes.{or_else}
use Rattle.ts_core.specs.store.StoreStates.{ColumnPoints, CellParts, facts_of, column_of}
use Rattle.ts_core.specs.store.TwoParts.{with_live}
use Rattle.ts_core.specs.store.StoreData.{CellMap, RuleData, no_parts, new_data, OfEachRule, StoreData, store_settings}
use Rattle.ts_core.specs.moves.StoreMoves.{in_cells, Puts, refolded, put_cell, put_cells, PutsFacts, GainEmptyCells, moved_cells, all_moved, IsOf, AreOf, Expired, points_below, kept_points, column_moved, raised_rule, run_begun, with_rules, run_ended, grown, put_facts, KeepsFrom}
use Rattle.ts_core.proofs.lists.MembersLemmas.{Split, split_at, out_of_middle, Among-filter_was, Among-filter_passes, Among-filter_stays, AllDistinct-filter, Among-left, Among-right, Among-append}
use Rattle.ts_core.proofs.moves.Freezing.{frozen_in, changed_as}
use Rattle.ts_core.proofs.store.StateLemmas.{all_map, le_trans, int_max-left, int_max-right}
use Rattle.ts_core.proofs.moves.MovesStand.{GainsOf, key_there, key_not, put_cell-keys, HaveCellsOf, room_cells}
use Rattle.ts_core.proofs.moves.EachRule.{rules_keep, AnyCells, settings_same, each_in}
use Rattle.ts_store.specs.store.CellCounts.{frozen_count, live_count, HoldFew, HoldsFew}
use Rattle.std.specs.List.{AllByRecursion}
use Rattle.std.proofs.lemmas.Bool.{and_parts}
use Rattle.std.proofs.lemmas.Option.{none-some}
use Rattle.ts_core.specs.facts.Tags.{tag_value}
use Rattle.ts_core.specs.facts.Times.{IsTime, least_time}
use Rattle.ts_core.specs.store.History.{MayBeTaken, kept_since}
use Rattle.ts_core.proofs.plans.PieceCells.{same_cell-eq}
use Rattle.ts_core.proofs.moves.StepStands.{keys_column}
use Rattle.ts_store.specs.write.LinesPut.{IsOfFacts, PutsCells, GainsCells}
use Rattle.ts_store.specs.store.PossibleCells.{IsPossibleCell, HasPossibleCells, HavePossibleCells}
use Rattle.std.proofs.lemmas.Simd.{map-map}
use Rattle.std.specs.Int.{int_max}
use Rattle.std.specs.Int.Signed.{≤ℤ_refl}
use Rattle.std.proofs.lemmas.Int.{ints, clamps}
use Rattle.ts_core.specs.settings.SettingsFaults.{settings_fault}
use Rattle.ts_core.specs.store.Marks.{index_of}
use Rattle.ts_core.proofs.settings.SettingsLaws.{settings_wide, settings_are}
use Rattle.ts_core.proofs.aggregates.BucketsOrder.{bucket_le}
use Rattle.ts_core.proofs.store.LowIndices.{kept_since-le}
use Rattle.ts_core.proofs.lists.ListSteps.{length-filter}
use Rattle.ts_core.proofs.store.Moves.{is_left}
use Rattle.ts_core.proofs.store.RunSteps.{facts_of-left, columns_of-left}
use Rattle.ts_line.specs.Names.{IsKey, IsStatable}
use Rattle.ts_store.specs.store.SizedStores.{IsSizedRule, IsSized}

-- ---- how many more by one more fact

-- distinct ones that are all among others are no more than these
pub length-within : {X : Type 0} (xs ys : List X) → AllDistinct xs → ((z : X) → Among z xs → Among z ys) → length xs ≤ length ys
unfolding Split
length-within [] ys d into = omega arith
length-within {X} (x ∷ xs) ys d into =
    let s = split_at x ys (into x (inl refl)) in
    let us : List X = s.0 in
    let vs : List X = s.1.0 in
    let whole : ys ≡ us ++ x ∷ vs = s.1.1 in
    let rest : length xs ≤ length (us ++ vs) = length-within xs (us ++ vs) d.1 (λ z k. ⊎_elim {C = Among z (us ++ vs)} (λ e. absurd (d.0 (subst (λ y. Among y xs) e k))) (λ m. m) (out_of_middle z x us vs (subst (Among z) whole (into z (inr k))))) in
    omega (arith, rest, ap length whole, length-append us vs, length-append us (x ∷ vs))

puts_one : (p : Fact → Bool) (before after : List Fact) (f : Fact) → Puts before after f → length (filter p after) ≤ length (filter p before) + 1
puts_one p before after f put =
    let l : length (filter p after) ≤ length (f ∷ filter p before) =
    length-within (filter p after) (f ∷ filter p before) (AllDistinct-filter p after put.once)
    (λ g a. ⊎_elim {C = Among g (f ∷ filter p before)} (λ e. inl e) (λ k. inr (Among-filter_stays p g before k.0 (Among-filter_passes p g after a))) (put.only g (Among-filter_was p g after a))) in
    omega (arith, l)

puts_all : (p : Fact → Bool) (before after : List ColumnPoints) (rs ss : List RuleData) (fs : List Fact) → PutsFacts before rs after ss fs → length (filter p (facts_of after)) ≤ length (filter p (facts_of before)) + length fs
puts_all p before after rs ss [] put = let e = ap (λ (cs : List ColumnPoints). length (filter p (facts_of cs))) put.0 in omega (arith, e)
puts_all p before after rs ss (f ∷ fs) put =
    let one = puts_one p (facts_of before) (facts_of put.0) f put.1.1 in
    let all = puts_all p put.0 after (put_cells f (facts_of put.0) rs) ss fs put.2 in
    omega (arith, one, all)

-- ---- the cells of each rule

-- a fact that is put into its cell leaves the frozen parts
frozen_put : (r : Rule) (f : Fact) (facts : List Fact) (m : CellMap) (k : Cell) → frozen_count (put_cell r f facts m) k ≡ frozen_count m k
frozen_put r f facts m k =
    elim (is_rolled r f) as (λ b. frozen_count (cond b (refolded r (cell_of r f) facts m) m) k ≡ frozen_count m k) [
      | true ↦ ap (λ (a : Aggregate). a.count) (changed_as frozen_in (with_live (total_of r (cell_of r f) facts)) (λ a. refl) m (cell_of r f) k)
      | false ↦ refl
    ]

-- each cell of a rule has at most so many facts
abbrev few_in : ℕ → List ColumnPoints → RuleData → Type 0
few_in n columns a = HoldsFew n columns a.rule a.cells

counts-one : (n : ℕ) (before after : List ColumnPoints) (f : Fact) → Puts (facts_of before) (facts_of after) f → (rs : List RuleData) → HoldFew n before rs → HoldFew (n + 1) after (put_cells f (facts_of after) rs)
counts-one n before after f put =
    all_map (few_in n before) (few_in (n + 1) after) (in_cells (λ (r : Rule). put_cell r f (facts_of after)))
    (λ x all k. let more = puts_one (is_in_cell x.rule k) (facts_of before) (facts_of after) f put in let same = frozen_put x.rule f (facts_of after) x.cells k in let most = all k in omega (arith, more, same, most))

-- facts are put in
pub counts-put : (n : ℕ) (before after : List ColumnPoints) (rs ss : List RuleData) (fs : List Fact) → PutsFacts before rs after ss fs → HoldFew n before rs → HoldFew (n + length fs) after ss
counts-put n before after rs ss [] put few = subst (λ (k : ℕ). HoldFew k after ss) (let e : n ≡ n + 0 = omega arith in e) (subst (λ (cs : List ColumnPoints). HoldFew n cs ss) (sym put.0) (subst (HoldFew n before) (sym put.1) few))
counts-put n before after rs ss (f ∷ fs) put few =
    subst (λ (k : ℕ). HoldFew k after ss) (let e : n + 1 + length fs ≡ n + length (f ∷ fs) = omega arith in e)
    (counts-put (n + 1) put.0 after (put_cells f (facts_of put.0) rs) ss fs put.2 (counts-one n before put.0 f put.1.1 rs few))

-- columns and cells are created, without facts
pub counts-grown : (n : ℕ) (before after : List ColumnPoints) → facts_of after ≡ facts_of before → (facts : List Fact) (rs ss : List RuleData) → GainEmptyCells facts rs ss → HoldFew n before rs → HoldFew n after ss
counts-grown n before after same facts =
    rules_keep (GainsOf facts) (few_in n before) (few_in n after)
    (λ x m gains all k.
    let frozen : frozen_count m k ≡ frozen_count x.cells k = ap (λ (a : CellParts). a.frozen.count) (gains.parts k) in
    let live : live_count x.rule k after ≡ live_count x.rule k before = ap (λ fs. length (filter (is_in_cell x.rule k) fs)) same in
    let most = all k in
    omega (arith, frozen, live, most))

-- nothing is there yet
pub counts-new : (rs : List Rule) → HoldFew 0 [] (new_data (record { raw_duration = 0; rules = rs })).rules
counts-new [] = tt
counts-new (r ∷ rs) = (λ k. let none : frozen_count finmap.empty k ≡ 0 = ap (λ o. (or_else no_parts o).frozen.count) (get-empty cell_cmp k) in omega (arith, none), counts-new rs)

-- ---- all facts

pub facts-put : (before after : List ColumnPoints) (rs ss : List RuleData) (fs : List Fact) → PutsFacts before rs after ss fs → length (facts_of after) ≤ length (facts_of before) + length fs
facts-put before after rs ss [] put = let e = ap (λ (cs : List ColumnPoints). length (facts_of cs)) put.0 in omega (arith, e)
facts-put before after rs ss (f ∷ fs) put =
    let one : length (facts_of put.0) ≤ length (f ∷ facts_of before) =
    length-within (facts_of put.0) (f ∷ facts_of before) put.1.1.once (λ g a. ⊎_elim {C = Among g (f ∷ facts_of before)} (λ e. inl e) (λ k. inr k.0) (put.1.1.only g a)) in
    let all = facts-put put.0 after (put_cells f (facts_of put.0) rs) ss fs put.2 in
    omega (arith, one, all)

-- ---- cells that their rule can have

-- the cells of a rule are ones that it can have
abbrev possible_in : RuleData → Type 0
possible_in a = HasPossibleCells a.rule a.cells

pub possible_new : (rs : List Rule) → HavePossibleCells (new_data (record { raw_duration = 0; rules = rs })).rules
possible_new [] = tt
possible_new (r ∷ rs) = (λ k a. absurd (key_not finmap.empty k a (get-empty cell_cmp k)), possible_new rs)

-- a column is moved
pub possible_moved : (c : Column) (ps : List (ℤ × ℤ)) (left : List Fact) (rs : List RuleData) → HavePossibleCells rs → HavePossibleCells (all_moved c ps left rs)
possible_moved c ps left = all_map possible_in possible_in (in_cells (λ (r : Rule). moved_cells r c ps left)) (λ x all k a. all k (subst (Among k) (keys_column x.rule c ps left x.cells) a))

-- a key has parts
some_there : (m : CellMap) (k : Cell) → Among k (finmap.keys m) → (p : CellParts) × (finmap.get m k ≡ Some p)
some_there m k a =
    elim (finmap.get m k) as (λ o. finmap.get m k ≡ o → (p : CellParts) × (o ≡ Some p)) [
      | None ↦ λ g. absurd (key_not m k a g)
      | Some p ↦ λ g. (p, refl)
    ] refl

key_of : (m : CellMap) (k : Cell) (p : CellParts) → finmap.get m k ≡ Some p → Among k (finmap.keys m)
key_of m k p e = key_there m k (λ z. none-some p (sym z ∙ e))

-- cells are removed
pub possible_gone : (rs ss : List RuleData) → AreOf rs ss → HavePossibleCells rs → HavePossibleCells ss
possible_gone = rules_keep (λ r low. IsOf) possible_in possible_in (λ x n of all k a. let s = some_there n k a in all k (key_of x.cells k s.0 (of k s.0 s.1)))

-- ---- cells of facts

pub taken_valid : (mark : ℤ) (facts : List Fact) → AllByRecursion (MayBeTaken mark) facts → (f : Fact) → Among f facts → IsTime f.time
taken_valid mark [] all f a = absurd a
taken_valid mark (g ∷ gs) all f a = ⊎_elim {C = IsTime f.time} (λ e. subst (λ (x : Fact). IsTime x.time) (sym e) all.0.valid) (λ b. taken_valid mark gs all.1 f b) a

pub cell_possible : (r : Rule) (f : Fact) → IsTime f.time → IsPossibleCell r (cell_of r f)
cell_possible r f valid = record { index = (f.time, valid, refl); group = length-map r.kept_tags (tag_value f.column.series) }

of_fact : (r : Rule) (k : Cell) (facts : List Fact) → ((f : Fact) → Among f facts → IsTime f.time) → IsOfFacts facts r k → IsPossibleCell r k
of_fact r k facts valid o =
    let t = and_parts (is_rolled r o.0) (same_cell (cell_of r o.0) k) o.2 in
    subst (IsPossibleCell r) (same_cell-eq (cell_of r o.0) k t.1) (cell_possible r o.0 (valid o.0 o.1))

pub possible_gained : (facts : List Fact) → ((f : Fact) → Among f facts → IsTime f.time) → (rs ss : List RuleData) → OfEachRule (GainsCells facts) rs ss → HavePossibleCells rs → HavePossibleCells ss
possible_gained facts valid =
    rules_keep (GainsCells facts) possible_in possible_in
    (λ x n g all k a.
    let s = some_there n k a in
    elim (finmap.get x.cells k) as (λ o. finmap.get x.cells k ≡ o → IsPossibleCell x.rule k) [
      | None ↦ λ z. of_fact x.rule k facts valid (g.created k s.0 z s.1).2
      | Some p ↦ λ z. all k (key_of x.cells k p z)
    ] refl)

pub possible_put : (facts : List Fact) → ((f : Fact) → Among f facts → IsTime f.time) → (rs ss : List RuleData) → OfEachRule (PutsCells facts) rs ss → HavePossibleCells rs → HavePossibleCells ss
possible_put facts valid =
    rules_keep (PutsCells facts) possible_in possible_in
    (λ x n g all k a. ⊎_elim {C = IsPossibleCell x.rule k} (λ b. all k (key_there x.cells k b)) (λ b. of_fact x.rule k facts valid b.1) ((g.there k).0 (key_not n k a)))

-- ---- numbers

-- the greater of two numbers near another
max_near : (low x i j : ℤ) → low ≤ℤ (i +ℤ pos 1) → i ≤ℤ j → x ≤ℤ (j +ℤ pos 1) → int_max low x ≤ℤ (j +ℤ pos 1)
max_near low x i j a b c = omega (arith, ints, clamps)

still_near : (x least low i j : ℤ) → x ≡ least → least ≤ℤ low → low ≤ℤ (i +ℤ pos 1) → i ≤ℤ j → x ≤ℤ (j +ℤ pos 1)
still_near x least low i j e a b c = omega (arith, ints)

-- ---- columns and facts after facts are put

pub puts_names : (before after : List ColumnPoints) (rs ss : List RuleData) (fs : List Fact) → PutsFacts before rs after ss fs → map column_of after ≡ map column_of before
puts_names before after rs ss [] p = ap (map column_of) p.0
puts_names before after rs ss (f ∷ fs) p = puts_names p.0 after (put_cells f (facts_of p.0) rs) ss fs p.2 ∙ p.1.0

puts-once : (before after : List ColumnPoints) (rs ss : List RuleData) (fs : List Fact) → AllDistinct (facts_of before) → PutsFacts before rs after ss fs → AllDistinct (facts_of after)
puts-once before after rs ss [] once p = subst (λ (cs : List ColumnPoints). AllDistinct (facts_of cs)) (sym p.0) once
puts-once before after rs ss (f ∷ fs) once p = puts-once p.0 after (put_cells f (facts_of p.0) rs) ss fs p.1.1.once p.2

-- each fact was put, or was there
puts-only : (before after : List ColumnPoints) (rs ss : List RuleData) (fs : List Fact) → PutsFacts before rs after ss fs → (g : Fact) → Among g (facts_of after) → Among g (fs ++ facts_of before)
puts-only before after rs ss [] p g a = subst (λ (cs : List ColumnPoints). Among g (facts_of cs)) p.0 a
puts-only before after rs ss (f ∷ fs) p g a =
    ⊎_elim {C = Among g (f ∷ (fs ++ facts_of before))} (λ b. inr (Among-left g fs (facts_of before) b))
    (λ b. ⊎_elim {C = Among g (f ∷ (fs ++ facts_of before))} (λ e. inl e) (λ q. inr (Among-right g fs (facts_of before) q.0)) (p.1.1.only g b))
    (Among-append g fs (facts_of p.0) (puts-only p.0 after (put_cells f (facts_of p.0) rs) ss fs p.2 g a))

-- the rules stay
puts_rules : (before after : List ColumnPoints) (rs ss : List RuleData) (fs : List Fact) → PutsFacts before rs after ss fs → map (λ (a : RuleData). a.rule) ss ≡ map (λ (a : RuleData). a.rule) rs
puts_rules before after rs ss [] p = ap (map (λ (a : RuleData). a.rule)) p.1
puts_rules before after rs ss (f ∷ fs) p = puts_rules p.0 after (put_cells f (facts_of p.0) rs) ss fs p.2 ∙ map-map (λ (a : RuleData). a.rule) (in_cells (λ (r : Rule). put_cell r f (facts_of p.0))) rs

-- ---- a rule, under each move

abbrev AreSizedRules : ℤ → List Fact → List RuleData → Type 0
AreSizedRules mark facts = AllByRecursion (IsSizedRule mark facts)

-- its raw facts are among others
rules_fewer : (mark : ℤ) (fs gs : List Fact) → ((f : Fact) → Among f gs → Among f fs) → (rs : List RuleData) → AreSizedRules mark fs rs → AreSizedRules mark gs rs
rules_fewer mark fs gs into [] s = tt
rules_fewer mark fs gs into (x ∷ rs) s = (record { least = s.0.least; most = s.0.most; there = λ f a t l. s.0.there f (into f a) t l }, rules_fewer mark fs gs into rs s.1)

rules_new : (rs : List Rule) → AreSizedRules least_time [] (new_data (record { raw_duration = 0; rules = rs })).rules
rules_new [] = tt
rules_new (r ∷ rs) = (record { least = ≤ℤ_refl (index_of r least_time); most = omega (arith, ints); there = λ f a t l. absurd a }, rules_new rs)

-- a begin raises the raw mark and the low index of a rule that lasts at least as long as raw points do
module _ (now : ℤ) (short : ℕ) (mark : ℤ) where
  abbrev risen : ℤ
  risen = int_max mark (kept_since short now)

  kept_low : (r : Rule) (low : ℤ) → pos 1 ≤ℤ r.interval → Outlasts r.duration short → index_of r least_time ≤ℤ low → low ≤ℤ (index_of r mark +ℤ pos 1)
      → int_max low (index_of r (kept_since r.duration now)) ≤ℤ (index_of r risen +ℤ pos 1)
  kept_low r low w lasts least most =
      let kept : ℤ = kept_since r.duration now in
      let later : index_of r mark ≤ℤ index_of r risen = bucket_le mark risen r.interval r.offset w (int_max-left mark (kept_since short now)) in
      max_near low (index_of r kept) (index_of r mark) (index_of r risen) most later
      (⊎_elim {C = index_of r kept ≤ℤ (index_of r risen +ℤ pos 1)}
      (λ e. still_near (index_of r kept) (index_of r least_time) low (index_of r mark) (index_of r risen) (ap (λ n. index_of r (kept_since n now)) e) least most later)
      (λ p. let e = bucket_le kept risen r.interval r.offset w (le_trans kept (kept_since short now) risen (kept_since-le r.duration short now p.0 p.1) (int_max-right mark (kept_since short now))) in omega (arith, ints, e)) lasts)

  rule_raised : (facts : List Fact) (x : RuleData) → pos 1 ≤ℤ x.rule.interval → Outlasts x.rule.duration short → IsSizedRule mark facts x → IsSizedRule risen facts (raised_rule now x)
  rule_raised facts x w o s =
      let kept : ℤ = index_of x.rule (kept_since x.rule.duration now) in
      let rises : x.low ≤ℤ int_max x.low kept = int_max-left x.low kept in
      record {
        least = le_trans (index_of x.rule least_time) x.low (int_max x.low kept) s.least rises;
        most = kept_low x.rule x.low w o s.least s.most;
        there = λ f a t l. s.there f a t (le_trans x.low (int_max x.low kept) (cell_of x.rule f).index rises l);
      }

  rules_raised : (facts : List Fact) (rs : List RuleData) → AllByRecursion (λ (r : Rule). pos 1 ≤ℤ r.interval) (map (λ (a : RuleData). a.rule) rs) → AllByRecursion (λ (r : Rule). Outlasts r.duration short) (map (λ (a : RuleData). a.rule) rs)
      → AreSizedRules mark facts rs → AreSizedRules risen facts (map (raised_rule now) rs)
  rules_raised facts [] w o s = tt
  rules_raised facts (x ∷ rs) w o s = (rule_raised facts x w.0 o.0 s.0, rules_raised facts rs w.1 o.1 s.1)

-- a column is moved, and these facts are left
rules_moved : (mark : ℤ) (c : Column) (ps : List (ℤ × ℤ)) (facts left : List Fact) → ((f : Fact) → Among f left → Among f facts) → (rs : List RuleData) → AreSizedRules mark facts rs → AreSizedRules mark left (all_moved c ps left rs)
rules_moved mark c ps facts left into =
    all_map (IsSizedRule mark facts) (IsSizedRule mark left) (in_cells (λ (r : Rule). moved_cells r c ps left))
    (λ x s. record { least = s.least; most = s.most; there = λ f a t l. subst (Among (cell_of x.rule f)) (sym (keys_column x.rule c ps left x.cells)) (s.there f (into f a) t l) })

-- cells below low indices are removed
rules_gone : (mark : ℤ) (facts : List Fact) (rs ss : List RuleData) → Expired rs ss → AreSizedRules mark facts rs → AreSizedRules mark facts ss
rules_gone mark facts =
    rules_keep (λ r. KeepsFrom) (IsSizedRule mark facts) (IsSizedRule mark facts)
    (λ x n e s. record { least = s.least; most = s.most; there = λ f a t l. key_there n (cell_of x.rule f) (λ z. key_not x.cells (cell_of x.rule f) (s.there f a t l) (sym (e (cell_of x.rule f) l) ∙ z)) })

-- capacity is reserved
rules_grown : (mark : ℤ) (made facts : List Fact) (rs ss : List RuleData) → GainEmptyCells made rs ss → AreSizedRules mark facts rs → AreSizedRules mark facts ss
rules_grown mark made facts =
    rules_keep (GainsOf made) (IsSizedRule mark facts) (IsSizedRule mark facts)
    (λ x n gains s. record { least = s.least; most = s.most; there = λ f a t l. key_there n (cell_of x.rule f) (λ z. key_not x.cells (cell_of x.rule f) (s.there f a t l) (gains.stays (cell_of x.rule f) z)) })

-- for these facts too
rules_roomy : (mark : ℤ) (made facts : List Fact) (rs : List RuleData) → HaveCellsOf made rs → AreSizedRules mark facts rs → AreSizedRules mark (made ++ facts) rs
rules_roomy mark made facts [] capacity s = tt
rules_roomy mark made facts (x ∷ rs) capacity s = (
  record {
    least = s.0.least;
    most = s.0.most;
    there = λ f a t l.
        ⊎_elim {C = Among (cell_of x.rule f) (finmap.keys x.cells)} (λ b. key_there x.cells (cell_of x.rule f) (capacity.0.there f b t l)) (λ b. s.0.there f b t l) (Among-append f made facts a);
  },
  rules_roomy mark made facts rs capacity.1 s.1,
)

-- facts are put
rules_puts : (mark : ℤ) (facts : List Fact) (before after : List ColumnPoints) (rs ss : List RuleData) (fs : List Fact) → PutsFacts before rs after ss fs → AreSizedRules mark facts rs → AreSizedRules mark facts ss
rules_puts mark facts before after rs ss [] p s = subst (AreSizedRules mark facts) (sym p.1) s
rules_puts mark facts before after rs ss (f ∷ fs) p s =
    rules_puts mark facts p.0 after (put_cells f (facts_of p.0) rs) ss fs p.2
    (all_map (IsSizedRule mark facts) (IsSizedRule mark facts) (in_cells (λ (r : Rule). put_cell r f (facts_of p.0)))
    (λ x had. record { least = had.least; most = had.most; there = λ g a t l. subst (Among (cell_of x.rule g)) (sym (put_cell-keys x.rule f (facts_of p.0) x.cells)) (had.there g a t l) }) rs s)

-- ---- a store

new_settings : (opening : Settings) → store_settings (new_data opening) ≡ opening
new_settings opening =
    ap (λ rs. record { raw_duration = opening.raw_duration; rules = rs })
    (map-map (λ (a : RuleData). a.rule) (λ (r : Rule). record { rule = r; low = index_of r least_time; cells = finmap.empty }) opening.rules ∙ map-id opening.rules)

pub sized_new : (opening : Settings) → settings_fault opening ≡ None → IsSized (new_data opening)
sized_new opening well = record {
  settings = subst (λ (x : Settings). settings_fault x ≡ None) (sym (new_settings opening)) well;
  content = record { accepted = omega arith; facts = omega arith; series = omega arith; columns = tt; named = λ s a. absurd a; registered = λ c a. absurd a; keys = λ c a. absurd a; once = tt };
  rules = rules_new opening.rules;
}

pub begun_settings : (k : StoreData) (now : ℤ) → store_settings (run_begun now k) ≡ store_settings k
begun_settings k now = ap (λ rs. record { raw_duration = k.raw_duration; rules = rs }) (map-map (λ (a : RuleData). a.rule) (raised_rule now) k.rules)

pub sized_begun : (k : StoreData) (now : ℤ) → IsSized k → IsSized (run_begun now k)
sized_begun k now s = record {
  settings = subst (λ (x : Settings). settings_fault x ≡ None) (sym (begun_settings k now)) s.settings;
  content = s.content;
  rules = rules_raised now k.raw_duration k.raw_mark (facts_of k.columns) k.rules (settings_wide (store_settings k) s.settings) (settings_are (store_settings k) s.settings).lasting s.rules;
}

pub sized_moved : (k : StoreData) (c : Column) (ps : List (ℤ × ℤ)) (rest : List Column) → IsSized k → IsSized (column_moved c ps rest k)
sized_moved k c ps rest s =
    let mark : ℤ = k.raw_mark in
    let columns : List ColumnPoints = map (kept_points c mark) k.columns in
    let left : facts_of columns ≡ filter (is_left c mark) (facts_of k.columns) = facts_of-left c mark k.columns in
    let names : map column_of columns ≡ map column_of k.columns = columns_of-left c mark k.columns in
    let fewer : length (facts_of columns) ≡ length (filter (is_left c mark) (facts_of k.columns)) = ap (λ (fs : List Fact). length fs) left in
    record {
      settings = subst (λ (x : Settings). settings_fault x ≡ None) (sym (settings_same AnyCells (column_moved c ps rest k) k.rules (each_in AnyCells (λ (r : Rule). moved_cells r c (points_below mark ps) (facts_of columns)) (λ a. tt) k.rules))) s.settings;
      content = record {
        accepted = s.accepted;
        facts = let most = length-filter (is_left c mark) (facts_of k.columns) in let all = s.facts in omega (arith, fewer, most, all);
        series = s.series;
        columns = subst AllDistinct (sym names) s.columns;
        named = s.named;
        registered = λ d a. s.registered d (subst (Among d) names a);
        keys = λ d a. s.keys d (subst (Among d) names a);
        once = subst AllDistinct (sym left) (AllDistinct-filter (is_left c mark) (facts_of k.columns) s.once);
      };
      rules = rules_moved mark c (points_below mark ps) (facts_of k.columns) (facts_of columns) (λ f a. Among-filter_was (is_left c mark) f (facts_of k.columns) (subst (Among f) left a)) k.rules s.rules;
    }

pub sized_gone : (k : StoreData) (rs : List RuleData) → Expired k.rules rs → IsSized k → IsSized (with_rules rs k)
sized_gone k rs e s = record {
  settings = subst (λ (x : Settings). settings_fault x ≡ None) (sym (settings_same (λ r. KeepsFrom) (with_rules rs k) k.rules e)) s.settings;
  content = s.content;
  rules = rules_gone k.raw_mark (facts_of k.columns) k.rules rs e s.rules;
}

pub sized_ended : (k : StoreData) → IsSized k → IsSized (run_ended k)
sized_ended k s = record { settings = s.settings; content = s.content; rules = s.rules }

pub sized_grown : (k : StoreData) (series : List Series) (columns : List ColumnPoints) (rs : List RuleData) (facts : List Fact) → length series ≤ 1000000 → AllDistinct (map column_of columns) → ((c : Column) → Among c (map column_of columns) → Among c.series series)
    → ((x : Series) → Among x series → IsStatable x) → ((c : Column) → Among c (map column_of columns) → IsKey c.field) → facts_of columns ≡ facts_of k.columns → GainEmptyCells facts k.rules rs → IsSized k → IsSized (grown series columns rs k)
sized_grown k series columns rs facts few distinct registered named keys same capacity s = record {
  settings = subst (λ (x : Settings). settings_fault x ≡ None) (sym (settings_same (GainsOf facts) (grown series columns rs k) k.rules capacity)) s.settings;
  content = record {
    accepted = s.accepted;
    facts = subst (λ (fs : List Fact). length fs ≤ k.accepted) (sym same) s.facts;
    series = few;
    columns = distinct;
    named = named;
    registered = registered;
    keys = keys;
    once = subst AllDistinct (sym same) s.once;
  };
  rules = subst (λ (fs : List Fact). AreSizedRules k.raw_mark fs rs) (sym same) (rules_grown k.raw_mark facts (facts_of k.columns) k.rules rs capacity s.rules);
}

-- facts are inserted where there is capacity for them: it was reserved in other cells
pub sized_put : (k : StoreData) (columns : List ColumnPoints) (facts : List Fact) (rs ss : List RuleData) → GainEmptyCells facts rs k.rules → PutsFacts k.columns k.rules columns ss facts
    → k.accepted + length facts ≤ 2 ^ 62 → IsSized k → IsSized (put_facts columns ss (length facts) k)
sized_put k columns facts rs ss capacity put few s =
    let names : map column_of columns ≡ map column_of k.columns = puts_names k.columns columns k.rules ss facts put in
    let rules : store_settings (put_facts columns ss (length facts) k) ≡ store_settings k = ap (λ xs. record { raw_duration = k.raw_duration; rules = xs }) (puts_rules k.columns columns k.rules ss facts put) in
    record {
      settings = subst (λ (x : Settings). settings_fault x ≡ None) (sym rules) s.settings;
      content = record {
        accepted = few;
        facts = let most = facts-put k.columns columns k.rules ss facts put in let all = s.facts in omega (arith, most, all);
        series = s.series;
        columns = subst AllDistinct (sym names) s.columns;
        named = s.named;
        registered = λ c a. s.registered c (subst (Among c) names a);
        keys = λ c a. s.keys c (subst (Among c) names a);
        once = puts-once k.columns columns k.rules ss facts s.once put;
      };
      rules = rules_fewer k.raw_mark (facts ++ facts_of k.columns) (facts_of columns) (puts-only k.columns columns k.rules ss facts put) ss
          (rules_puts k.raw_mark (facts ++ facts_of k.columns) k.columns columns k.rules ss facts put (rules_roomy k.raw_mark facts (facts_of k.columns) k.rules (room_cells facts rs k.rules capacity) s.rules));
    }

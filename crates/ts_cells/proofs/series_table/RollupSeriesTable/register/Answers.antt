use Rattle.std.proofs.Common.{rules, arith, take, drop, vec_len, ◌≡◌, ◌≤◌, ◌<◌, ◌+◌, ℕ, get_or, length-append, List, [], ◌∷◌, ◌++◌, length, insert, is_ok, if◌then◌else◌, refl, sym, ◌∙◌, ap, subst, inl, Less, Greater}
use Rattle.std.specs.List.{slice_get}
use Rattle.std.specs.List.Sorted.{IsPartitionPoint}
use Rattle.ts_core.specs.lists.Members.{Among}
use Rattle.ts_core.specs.lists.Numbered.{IsAt}
use Rattle.ts_core.proofs.lists.NumberedLemmas.{at_among, at_end}
use Rattle.ts_core.proofs.lists.TableLemmas.{table_more}
use Rattle.ts_cells.specs.Grids.{RollupSeries, rollup_series_named}
use Rattle.ts_cells.specs.RollupSeriesTable.{found_cmp, hash_of_rollup_series, AreFound, IsRanked, shifted}
use Rattle.std.proofs.lemmas.List.{get_or_append_left, take_at}
use Rattle.std.proofs.Math.Seq.{get_or-append_seam}
use Rattle.ts_cells.proofs.RankLemmas.{ranked_more}
use Rattle.ts_cells.proofs.RollupSeriesOrder.{order_more}
use Rattle.ts_cells.proofs.series_table.RollupSeriesTable.register.Given.{Over}
use Rattle.ts_cells.proofs.series_table.RollupSeriesTable.register.Goals as goal

pub returns-in-Some-clause-ok : goal.returns-in-Some-clause-ok
returns-in-Some-clause-ok g c =
    let l : RollupSeries = rollup_series_named c.args.field.now c.args.group.now in inl (at_among c.args.self.now c.in-Some.number l c.in-Some.ensures.found, refl)

-- the rollup series follows the others
pushed : (g : Over) (c : goal.After-self-1 g) → c.push-2.new.self.items ≡ c.self.inside.rollup_series.items ++ rollup_series_named c.args.field.now c.args.group.now ∷ []
pushed g c =
    let before : List RollupSeries = c.self.inside.rollup_series.items in
    c.push-2.ensures.items ∙ ap (λ r. if is_ok r then c.reserve_eighth.new.list.items ++ c.in_ok-series.series ∷ [] else c.reserve_eighth.new.list.items) c.unwrap.ensures
    ∙ ap (λ (xs : List RollupSeries). xs ++ c.in_ok-series.series ∷ []) c.reserve_eighth.ensures.items ∙ ap (λ (x : RollupSeries). before ++ x ∷ []) c.in_ok-series.ensures

-- its number is how many there were
counted : (g : Over) (c : goal.After-self-1 g) → c.in_ok-number.number ≡ length c.self.inside.rollup_series.items
counted g c = search rules

-- it wasn't there
unknown : (g : Over) (c : goal.After-self-1 g) → Among (rollup_series_named c.args.field.now c.args.group.now) c.self.inside.rollup_series.items → ⊥
unknown g c = subst (λ (xs : List RollupSeries). Among (rollup_series_named c.args.field.now c.args.group.now) xs → ⊥) (sym c.self.view_is) c.in_default.ensures.absent

-- its number is in the order
ordered : (g : Over) (c : goal.After-self-1 g) → c.insert.new.self.items ≡ insert c.self.inside.order.items c.index_in_order-at.result (length c.self.inside.rollup_series.items)
ordered g c =
    let order : List ℕ = c.self.inside.order.items in
    let at : ℕ = c.index_in_order-at.result in
    let number : ℕ = c.in_ok-number.number in
    c.insert.ensures.items ∙ ap (λ r. if is_ok r then insert c.reserve_eighth-2.new.list.items at number else c.reserve_eighth-2.new.list.items) c.unwrap-2.ensures
    ∙ ap (λ xs. insert xs at number) c.reserve_eighth-2.ensures.items ∙ ap (insert order at) (counted g c)

-- the positions before the shift, with the new one
placed : (g : Over) (c : goal.After-self-1 g) → c.as_mut_slice.result.now ≡ c.self.inside.ranks.items ++ c.index_in_order-at.result ∷ []
placed g c =
    let at : ℕ = c.index_in_order-at.result in
    c.as_mut_slice.ensures.value ∙ c.push-3.ensures.items ∙ ap (λ r. if is_ok r then c.reserve_eighth-3.new.list.items ++ at ∷ [] else c.reserve_eighth-3.new.list.items) c.unwrap-3.ensures
    ∙ ap (λ xs. xs ++ at ∷ []) c.reserve_eighth-3.ensures.items

ranked : (g : Over) (c : goal.After-self-1 g) → IsRanked (length (c.self.inside.rollup_series.items ++ rollup_series_named c.args.field.now c.args.group.now ∷ [])) (insert c.self.inside.order.items c.index_in_order-at.result (length c.self.inside.rollup_series.items)) c.shift.new.ranks
ranked g c =
    let l : RollupSeries = rollup_series_named c.args.field.now c.args.group.now in
    let ls : List RollupSeries = c.self.inside.rollup_series.items in
    let order : List ℕ = c.self.inside.order.items in
    let ranks : List ℕ = c.self.inside.ranks.items in
    let at : ℕ = c.index_in_order-at.result in
    let n : ℕ = length ls in
    let bound : at ≤ length order = rw (c.as_slice-2.ensures.value, c.reserve_eighth-2.ensures.items) at c.index_in_order-at.ensures.bound in
    let is : IsRanked n order ranks = c.self.invariant.ranked in
    let long = is.long in
    let many = is.as_many in
    let count = counted g c in
    let size : length c.shift.new.ranks ≡ n + 1 = c.shift.ensures.len ∙ ap length (placed g c) ∙ length-append ranks (at ∷ []) ∙ ap (λ m. m + 1) is.as_many in
    let put : (j : ℕ) → j < n → get_or c.shift.new.ranks j 0 ≡ shifted at (get_or ranks j 0) = λ j h.
    c.shift.ensures.ranks j (omega arith) ∙ ap (shifted at) (ap (λ xs. get_or xs j 0) (placed g c) ∙ get_or_append_left ranks (at ∷ []) 0 j (omega arith)) in
    let new : get_or c.shift.new.ranks n 0 ≡ at =
    c.shift.ensures.others n (omega arith) ∙ ap (λ xs. get_or xs n 0) (placed g c) ∙ ap (λ m. get_or (ranks ++ at ∷ []) m 0) (sym is.as_many) ∙ get_or-append_seam ranks at [] 0 in
    subst (λ m. IsRanked m (insert order at n) c.shift.new.ranks) (sym (length-append ls (l ∷ []))) (ranked_more n at order ranks c.shift.new.ranks is (omega arith) size put new)

pub invariant_of-self-2 : goal.invariant_of-self-2
invariant_of-self-2 g c =
    let l : RollupSeries = rollup_series_named c.args.field.now c.args.group.now in
    let ls : List RollupSeries = c.self.inside.rollup_series.items in
    let hashes : List ℕ = c.self.inside.chains in
    let order : List ℕ = c.self.inside.order.items in
    let at : ℕ = c.index_in_order-at.result in
    let bound : at ≤ length order = rw (c.as_slice-2.ensures.value, c.reserve_eighth-2.ensures.items) at c.index_in_order-at.ensures.bound in
    let slot : IsPartitionPoint (λ n. found_cmp (slice_get ls n) l ≡ Less) (λ n. found_cmp (slice_get ls n) l ≡ Greater) order at =
    rw (c.as_slice.ensures.value, c.as_slice-2.ensures.value, c.reserve_eighth.ensures.items, c.reserve_eighth-2.ensures.items) at c.index_in_order-at.ensures.slot in
    let hashed : c.push.new.self ≡ hashes ++ hash_of_rollup_series c.self.inside.seed l ∷ [] = c.in_ok-push.ensures.ok ∙ ap (λ n. hashes ++ n ∷ []) c.hash_rollup_series.ensures in
    let found : AreFound c.self.inside.seed (ls ++ l ∷ []) (hashes ++ hash_of_rollup_series c.self.inside.seed l ∷ []) (insert order at (length ls)) c.shift.new.ranks = record {
      table = table_more (hash_of_rollup_series c.self.inside.seed) ls hashes l c.self.invariant.table (unknown g c);
      ordered = order_more ls order l at c.self.invariant.ordered (unknown g c) bound slot;
      ranked = ranked g c;
    } in
    let items : List ℕ = c.push-3.new.self.items in
    let size : vec_len c.push-3.new.self ≡ length items = search rules in
    let seam : length c.shift.new.ranks ≡ vec_len c.push-3.new.self = c.shift.ensures.len ∙ ap length c.as_mut_slice.ensures.value ∙ sym size in
    let back : take (vec_len c.push-3.new.self) (c.shift.new.ranks ++ drop (length c.shift.new.ranks) items) ≡ c.shift.new.ranks = take_at c.shift.new.ranks (drop (length c.shift.new.ranks) items) (vec_len c.push-3.new.self) seam in
    subst (AreFound c.self.inside.seed c.push-2.new.self.items c.push.new.self c.insert.new.self.items) (sym back)
    (subst (λ (xs : List RollupSeries). AreFound c.self.inside.seed xs c.push.new.self c.insert.new.self.items c.shift.new.ranks) (sym (pushed g c))
    (subst (λ hs. AreFound c.self.inside.seed (ls ++ l ∷ []) hs c.insert.new.self.items c.shift.new.ranks) (sym hashed)
    (subst (λ os. AreFound c.self.inside.seed (ls ++ l ∷ []) (hashes ++ hash_of_rollup_series c.self.inside.seed l ∷ []) os c.shift.new.ranks) (sym (ordered g c)) found)))

pub returns-clause-number : goal.returns-clause-number
returns-clause-number g c =
    let l : RollupSeries = rollup_series_named c.args.field.now c.args.group.now in
    let ls : List RollupSeries = c.self.inside.rollup_series.items in
    subst (λ (xs : List RollupSeries). IsAt xs c.in_ok-number.number l) (sym (pushed g c)) (subst (λ n. IsAt (ls ++ l ∷ []) n l) (sym (counted g c)) (at_end ls l))

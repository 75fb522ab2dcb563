-- The rule that a piece names, with the cells that it covers of the query.
use Rattle.std.proofs.lemmas.Option.{same_Some}
use Rattle.std.proofs.Common.{◌≡◌, ℤ, pos, true, false, cond, List, [], ◌∷◌, map, refl, sym, ap, ap₂, ◌∙◌, subst, ◌≤ℤ◌, Option, Some, None, is_eq}
use Rattle.std.specs.List.{AllByRecursion}
use Rattle.std.specs.Ordering.{ordering_then, int_cmp}
use Rattle.std.specs.Cmp.{IsTotalOrder, int_cmp_total}
use Rattle.std.specs.Cmp.Lexicographic.{slice_cmp}
use Rattle.std.specs.FinMap.{slice_cmp-IsAntisymmetric}
use Rattle.std.proofs.lemmas.Cmp.{on_total, then_total, lists_total, nat_list_cmp_total, tied_itself}
use Rattle.std.proofs.lemmas.Map.Lookups.{CmpEqualImpliesEq, exact_pairs, exact_bytes, exact_signed}
use Rattle.ts_core.specs.facts.Facts.{Text, text_cmp, same_text, Fact, is_within}
use Rattle.ts_core.specs.settings.Settings.{Settings}
use Rattle.ts_core.specs.store.History.{History}
use Rattle.ts_core.specs.facts.Latest.{latest_of}
use Rattle.ts_core.specs.store.Marks.{index_of}
use Rattle.ts_core.specs.queries.Queries.{Query, matches}
use Rattle.ts_core.specs.plans.Pieces.{Rollup, MarkedRule, marked_rules, query_context, rule_named, start_of, RuleServes, SourceServes}
use Rattle.ts_core.specs.store.Cells.{Cell, cell_cmp, same_cell, is_rolled}
use Rattle.ts_core.specs.store.Views.{ViewState, HasTotals, Shows}
use Rattle.ts_core.specs.plans.Assembly.{rule_shown}
use Rattle.ts_core.specs.store.StoreStates.{RuleCells, rule_of, lowest_of}
use Rattle.ts_core.proofs.settings.Intervals.{IsWide}
use Rattle.ts_core.proofs.facts.Ids.{equal_of, same_text-eq}
use Rattle.ts_core.proofs.lists.Comparisons.{same_text-from_eq}
use Rattle.ts_core.proofs.plans.GoodPlaces.{number_of, rule_wide, index_of-start}
use Rattle.ts_core.proofs.aggregates.BucketsOrder.{bucket_le}
use Rattle.ts_core.proofs.store.StateLemmas.{le_trans}
use Rattle.ts_core.proofs.queries.Boundaries.{within_parts}
use Rattle.ts_core.proofs.queries.CellsInRows.{matches-measurement}

-- ---- cells are the same where their order ties them

pub cells_total : IsTotalOrder cell_cmp
cells_total = then_total (on_total (λ (k : Cell). k.index) int_cmp_total) (then_total (on_total (λ (k : Cell). k.field) nat_list_cmp_total) (on_total (λ (k : Cell). k.group) (lists_total nat_list_cmp_total)))

pub exact_cells : CmpEqualImpliesEq cell_cmp
exact_cells a b h =
    let parts = exact_pairs {A = ℤ} {B = Text × List Text} int_cmp (λ x y. ordering_then (text_cmp x.0 y.0) (slice_cmp text_cmp x.1 y.1)) exact_signed
    (exact_pairs {A = Text} {B = List Text} text_cmp (slice_cmp text_cmp) exact_bytes (slice_cmp-IsAntisymmetric exact_bytes)) (a.index, (a.field, a.group)) (b.index, (b.field, b.group)) h in
    λ i. record { index = (parts i).0; field = (parts i).1.0; group = (parts i).1.1 }

pub same_cell-eq : (a b : Cell) → same_cell a b ≡ true → a ≡ b
same_cell-eq a b h = exact_cells a b (equal_of (cell_cmp a b) h)

pub same_cell-refl : (a : Cell) → same_cell a a ≡ true
same_cell-refl a = ap is_eq (tied_itself cells_total a)

-- ---- the rule that is shown

-- the rule is shown, and its cells serve the query from a to b
pub record Serving (fs : List Fact) (q : Query) (o : Option RuleCells) (a b : ℤ) : Type 0 where
  pub shown : RuleCells
  pub is : o ≡ Some shown
  pub wide : pos 1 ≤ℤ shown.rule.interval
  pub serves : RuleServes q (record { rule = shown.rule; low = shown.low }) a b
  pub totals : HasTotals fs shown

record IsShown (fs : List Fact) (o : Option RuleCells) (r : MarkedRule) : Type 0 where
  shown : RuleCells
  is : o ≡ Some shown
  same : record { rule = shown.rule; low = shown.low } ≡ r
  totals : HasTotals fs shown

shown_rule : (fs : List Fact) (name : Text) (rs : List RuleCells) (r : MarkedRule) → AllByRecursion (HasTotals fs) rs → rule_named name (marked_rules (map rule_of rs) (map lowest_of rs)) ≡ Some r → IsShown fs (rule_shown name rs) r
shown_rule fs name [] r a e = absurd (let n : None ≡ Some r = e in cc)
shown_rule fs name (y ∷ ys) r a e =
    let first : MarkedRule = record { rule = y.rule; low = y.low } in
    elim (same_text y.rule.name name) as (λ b. cond b (Some first) (rule_named name (marked_rules (map rule_of ys) (map lowest_of ys))) ≡ Some r → IsShown fs (cond b (Some y) (rule_shown name ys)) r) [
      | true ↦ λ k. record { shown = y; is = refl; same = same_Some first r k; totals = a.0 }
      | false ↦ λ k. shown_rule fs name ys r a.1 k
    ] e

wide_rule : (name : Text) (rs : List MarkedRule) (r : MarkedRule) → AllByRecursion (λ (x : MarkedRule). pos 1 ≤ℤ x.rule.interval) rs → rule_named name rs ≡ Some r → pos 1 ≤ℤ r.rule.interval
wide_rule name rs r a e = let k = number_of rs name r e in rule_wide rs k.n r a k.there

pub serving : (opening : Settings) (h : History) (seen : ViewState) (q : Query) → Shows opening h seen → IsWide (query_context seen.settings seen.marks q) → (name : Text) (a b : ℤ)
    → SourceServes (query_context seen.settings seen.marks q) (Rollup name) a b → Serving (latest_of h) q (rule_shown name seen.rules) a b
serving opening h seen q shows wide name a b s =
    let r : MarkedRule = s.0 in
    let named : rule_named name (marked_rules seen.settings.rules seen.marks.lows) ≡ Some r = s.1 in
    let here : rule_named name (marked_rules (map rule_of seen.rules) (map lowest_of seen.rules)) ≡ Some r = ap₂ (λ rs lows. rule_named name (marked_rules rs lows)) shows.rules shows.lows ∙ named in
    let found = shown_rule (latest_of h) name seen.rules r shows.rolled here in
    record {
      shown = found.shown;
      is = found.is;
      wide = subst (λ (m : MarkedRule). pos 1 ≤ℤ m.rule.interval) (sym found.same) (wide_rule name (marked_rules seen.settings.rules seen.marks.lows) r wide.rules named);
      serves = subst (λ (m : MarkedRule). RuleServes q m a b) (sym found.same) s.2;
      totals = found.totals;
    }

-- ---- what lies in the piece

module _ {fs : List Fact} {q : Query} {o : Option RuleCells} {a b : ℤ} (s : Serving fs q o a b) where
  -- the rule's bucket of a time in the piece is at or above the low index
  pub index_of-high : (t : ℤ) → is_within a b t ≡ true → s.shown.low ≤ℤ index_of s.shown.rule t
  index_of-high t m =
      let p = within_parts a b t m in
      le_trans s.shown.low (index_of s.shown.rule a) (index_of s.shown.rule t) s.serves.whole (bucket_le a t s.shown.rule.interval s.shown.rule.offset s.wide p.0)

  pub start_of-high : (k : ℤ) → is_within a b (start_of s.shown.rule k) ≡ true → s.shown.low ≤ℤ k
  start_of-high k m = subst (λ x. s.shown.low ≤ℤ x) (index_of-start s.shown.rule k s.wide) (index_of-high (start_of s.shown.rule k) m)

  -- a matching fact is of the rule's measurement
  pub is_rolled-matches : (f : Fact) → matches q f ≡ true → is_rolled s.shown.rule f ≡ true
  is_rolled-matches f m =
      same_text-from_eq f.column.series.measurement s.shown.rule.measurement
      (same_text-eq f.column.series.measurement q.measurement (matches-measurement q f m) ∙ sym s.serves.measurement)

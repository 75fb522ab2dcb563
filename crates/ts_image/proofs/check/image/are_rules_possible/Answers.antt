use Rattle.std.proofs.Common.{◌≡◌, length, ℤ, List, Vec, map, refl, sym, ap, subst, arith}
use Rattle.std.proofs.lemmas.List.{length-map}
use Rattle.std.specs.Prelude.{◌↔◌, IsTrue}
use Rattle.ts_image.specs.declared.read.rules.RuleParts.{RuleParts}
use Rattle.ts_image.specs.declared.read.series.SeriesParts.{SeriesParts}
use Rattle.ts_image.specs.declared.read.cells.CellParts.{CellParts}
use Rattle.ts_image.specs.ImageTests.{AreLows, CellsAre}
use Rattle.ts_image.specs.RuleParts.{rule_from_parts}
use Rattle.ts_image.specs.SeriesParts.{series_of_parts}
use Rattle.ts_image.specs.CellParts.{cells_of_parts}
use Rattle.ts_image.specs.TestParts.{AreCountedAll}
use Rattle.ts_image.proofs.check.image.are_rules_possible.Goals as goal

pub returns-then-not-are_lows : goal.returns-then-not-are_lows
returns-then-not-are_lows g c =
    let p = c.args.parts.now in (
      λ e. absurd cc,
      λ k. c.if-not-are_lows.ensures.1
          (subst (λ (l : List (RuleParts g.row.A.Denot)). AreLows c.args.version p.marks.raw (map rule_from_parts l) c.deref-2.result.now) (sym c.deref.ensures.value)
          (subst (λ (x : List ℤ). AreLows c.args.version p.marks.raw (map rule_from_parts p.settings.rules.items) x) (sym c.deref-2.ensures.value) k.lows)),
    )

pub returns-then-not-are_all_cells : goal.returns-then-not-are_all_cells
returns-then-not-are_all_cells g c =
    let p = c.args.parts.now in (
      λ e. absurd cc,
      λ k. c.if-not-are_all_cells.ensures.1
          (subst (λ (l : List (RuleParts g.row.A.Denot)). CellsAre p.marks.raw (map rule_from_parts l) c.deref-4.result.now (map cells_of_parts c.deref-5.result.now)) (sym c.deref-3.ensures.value)
          (subst (λ (x : List ℤ). CellsAre p.marks.raw (map rule_from_parts p.settings.rules.items) x (map cells_of_parts c.deref-5.result.now)) (sym c.deref-4.ensures.value)
          (subst (λ (y : List (Vec (CellParts g.row.A.Denot) g.row.A.Denot)). CellsAre p.marks.raw (map rule_from_parts p.settings.rules.items) p.marks.lows.items (map cells_of_parts y)) (sym c.deref-5.ensures.value) k.cells))),
    )

pub returns : goal.returns
returns g c =
    let p = c.args.parts.now in
    let lows =
    subst (λ (l : List (RuleParts g.row.A.Denot)). AreLows c.args.version p.marks.raw (map rule_from_parts l) p.marks.lows.items) c.deref.ensures.value
    (subst (λ (x : List ℤ). AreLows c.args.version p.marks.raw (map rule_from_parts c.deref.result.now) x) c.deref-2.ensures.value (c.if-not-are_lows.ensures.0 refl)) in
    let cells =
    subst (λ (l : List (RuleParts g.row.A.Denot)). CellsAre p.marks.raw (map rule_from_parts l) p.marks.lows.items (map cells_of_parts p.cells.items)) c.deref-3.ensures.value
    (subst (λ (x : List ℤ). CellsAre p.marks.raw (map rule_from_parts c.deref-3.result.now) x (map cells_of_parts p.cells.items)) c.deref-4.ensures.value
    (subst (λ (y : List (Vec (CellParts g.row.A.Denot) g.row.A.Denot)). CellsAre p.marks.raw (map rule_from_parts c.deref-3.result.now) c.deref-4.result.now (map cells_of_parts y)) c.deref-5.ensures.value (c.if-not-are_all_cells.ensures.0 refl))) in
    let counts =
    subst (λ (s : List (SeriesParts g.row.A.Denot)). IsTrue c.are_counted.result ↔ AreCountedAll p.accepted (map series_of_parts s) (map rule_from_parts p.settings.rules.items) (map cells_of_parts p.cells.items)) c.deref-6.ensures.value
    (subst (λ (l : List (RuleParts g.row.A.Denot)). IsTrue c.are_counted.result ↔ AreCountedAll p.accepted (map series_of_parts c.deref-6.result.now) (map rule_from_parts l) (map cells_of_parts p.cells.items)) c.deref-7.ensures.value
    (subst (λ (y : List (Vec (CellParts g.row.A.Denot) g.row.A.Denot)). IsTrue c.are_counted.result ↔ AreCountedAll p.accepted (map series_of_parts c.deref-6.result.now) (map rule_from_parts c.deref-7.result.now) (map cells_of_parts y)) c.deref-8.ensures.value c.are_counted.ensures)) in
    let lists = length-map p.cells.items (cells_of_parts {A = g.row.A.Denot}) in
    let rules = length-map p.settings.rules.items (rule_from_parts {A = g.row.A.Denot}) in
    let cells_len = ap length c.deref-5.ensures.value in
    let rules_len = ap length c.deref-3.ensures.value in
    let each : length (map cells_of_parts p.cells.items) ≡ length (map rule_from_parts p.settings.rules.items) =
    omega (arith, lists, rules, cells_len, rules_len, c.deref-5.ensures.len, c.deref-3.ensures.len, c.len.ensures, c.len-2.ensures, c.if-len.false) in
    (λ h. record { lows = lows; each = each; cells = cells; counted = counts.0 h }, λ k. counts.1 k.counted)

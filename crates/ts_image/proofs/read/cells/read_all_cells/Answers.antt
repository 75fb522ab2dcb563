use Rattle.std.proofs.Common.{◌≡◌, ◌+◌, List, [], ◌∷◌, ◌++◌, map, drop, subst, sym, ap, refl}
use Rattle.std.specs.Int.{w64}
use Rattle.std.proofs.lemmas.Result.{err_from_is_err_and}
use Rattle.std.proofs.lemmas.List.{map_push}
use Rattle.ts_core.proofs.lists.Remaining.{first_left, none_left}
use Rattle.ts_image.specs.Formats.{list_of}
use Rattle.ts_image.specs.Images.{ImageRule, ImageCell, image_cell}
use Rattle.ts_image.specs.RuleParts.{rule_from_parts}
use Rattle.ts_image.specs.CellParts.{cells_of_parts, all_cells_of}
use Rattle.ts_image.proofs.Alongs.{HasReadAlong, along_starts, along_goes_on, along_breaks, along_no_memory, along_finishes}
use Rattle.ts_image.proofs.read.cells.read_all_cells.Goals as goal

pub loop-rule-init : goal.loop-rule-init
loop-rule-init g c =
    let f = λ (r : ImageRule). list_of w64 (image_cell r) in
    let rs = map rule_from_parts c.args.rules.now in
    let none : map cells_of_parts c.new-all.result.items ≡ [] = ap (map cells_of_parts) c.new-all.ensures.items in
    subst (λ (xs : List (List ImageCell)). HasReadAlong f rs rs xs c.args.reader.now c.args.source.now c.args.reader.now c.args.source.now) (sym none) (along_starts f rs c.args.reader.now c.args.source.now c.requires)

pub returns-in_err-cells : goal.returns-in_err-cells
returns-in_err-cells g c =
    let p = err_from_is_err_and c.from_residual.result c.from_residual.ensures.1 in
    let f = λ (r : ImageRule). list_of w64 (image_cell r) in
    let rs = map rule_from_parts c.args.rules.now in
    let left : List ImageRule = map rule_from_parts (drop (c.loop-rule.rule-index + 1) c.args.rules.now) in
    let some = map cells_of_parts c.loop-rule.all.items in
    let so_far = subst (λ (l : List ImageRule). HasReadAlong f rs l some c.args.reader.now c.args.source.now c.loop-rule.reader c.loop-rule.source) (first_left rule_from_parts c.args.rules.now c.loop-rule.rule-index c.rule-item.result c.loop-rule-test.true c.rule-item.is) c.loop-rule.invariant in
    rw (p.1, p.2) (along_breaks f rs c.args.reader.now c.args.source.now cells_of_parts (rule_from_parts c.rule-item.result) left some c.loop-rule.reader c.read_counted_cells.new.reader c.loop-rule.source c.read_counted_cells.new.source so_far all_cells_of c.in_err-cells.field-0.0 c.in_err-cells.ensures)

pub returns-in_err-push : goal.returns-in_err-push
returns-in_err-push g c =
    let p = err_from_is_err_and c.from_residual-in_err-push.result c.from_residual-in_err-push.ensures.1 in
    let f = λ (r : ImageRule). list_of w64 (image_cell r) in
    let rs = map rule_from_parts c.args.rules.now in
    let left : List ImageRule = map rule_from_parts (drop (c.loop-rule.rule-index + 1) c.args.rules.now) in
    let some = map cells_of_parts c.loop-rule.all.items in
    let so_far = subst (λ (l : List ImageRule). HasReadAlong f rs l some c.args.reader.now c.args.source.now c.loop-rule.reader c.loop-rule.source) (first_left rule_from_parts c.args.rules.now c.loop-rule.rule-index c.rule-item.result c.loop-rule-test.true c.rule-item.is) c.loop-rule.invariant in
    rw (p.1, p.2) (along_no_memory f rs c.args.reader.now c.args.source.now cells_of_parts (rule_from_parts c.rule-item.result) left some c.loop-rule.reader c.read_counted_cells.new.reader c.loop-rule.source c.read_counted_cells.new.source so_far all_cells_of c.in_ok-cells.cells c.in_ok-cells.ensures)

pub loop-rule-preserved : goal.loop-rule-preserved
loop-rule-preserved g c =
    let f = λ (r : ImageRule). list_of w64 (image_cell r) in
    let rs = map rule_from_parts c.args.rules.now in
    let left : List ImageRule = map rule_from_parts (drop (c.loop-rule.rule-index + 1) c.args.rules.now) in
    let some = map cells_of_parts c.loop-rule.all.items in
    let so_far = subst (λ (l : List ImageRule). HasReadAlong f rs l some c.args.reader.now c.args.source.now c.loop-rule.reader c.loop-rule.source) (first_left rule_from_parts c.args.rules.now c.loop-rule.rule-index c.rule-item.result c.loop-rule-test.true c.rule-item.is) c.loop-rule.invariant in
    let pushed : map cells_of_parts c.push.new.self.items ≡ map cells_of_parts c.loop-rule.all.items ++ cells_of_parts c.in_ok-cells.cells ∷ [] = rw c.in_ok-push.ensures.items (map_push _ c.loop-rule.all.items c.in_ok-cells.cells) in
    subst (λ (xs : List (List ImageCell)). HasReadAlong f rs left xs c.args.reader.now c.args.source.now c.read_counted_cells.new.reader c.read_counted_cells.new.source) (sym pushed)
    (along_goes_on f rs c.args.reader.now c.args.source.now cells_of_parts (rule_from_parts c.rule-item.result) left some c.loop-rule.reader c.read_counted_cells.new.reader c.loop-rule.source c.read_counted_cells.new.source so_far c.in_ok-cells.cells c.in_ok-cells.ensures)

pub returns : goal.returns
returns g c =
    let f = λ (r : ImageRule). list_of w64 (image_cell r) in
    let rs = map rule_from_parts c.args.rules.now in
    let some = map cells_of_parts c.loop-rule.all.items in
    let so_far = subst (λ (l : List ImageRule). HasReadAlong f rs l some c.args.reader.now c.args.source.now c.loop-rule.reader c.loop-rule.source) (none_left rule_from_parts c.args.rules.now c.loop-rule.rule-index c.loop-rule-test.false) c.loop-rule.invariant in
    along_finishes f rs c.args.reader.now c.args.source.now some c.loop-rule.reader c.loop-rule.source all_cells_of c.loop-rule.all so_far refl

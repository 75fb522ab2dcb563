use Rattle.std.proofs.Common.{rules, ◌≡◌, ◌==◌, true, false, ◌&&◌, ◌∙◌, ap}
use Rattle.std.specs.List.{list_all}
use Rattle.ts_core.specs.facts.Facts.{is_of, is_within}
use Rattle.ts_core.specs.queries.Queries.{Query, meets}
use Rattle.ts_core.specs.plans.Assembly.{representative}
use Rattle.ts_core.specs.plans.Pieces.{start_of}
use Rattle.ts_core.specs.settings.Settings.{Rule}
use Rattle.ts_core.specs.store.StoreStates.{total_in}
use Rattle.ts_store.specs.read.ViewResults.{SeenCell}
use Rattle.ts_exec.proofs.Walked.{outside-untaken, empty-untaken, inside-taken}
use Rattle.ts_exec.proofs.cell_piece.is_candidate.Goals as goal

pub returns-then-not-is_within-2 : goal.returns-then-not-is_within-2
returns-then-not-is_within-2 g c =
    let e : is_within c.args.from c.args.to (start_of c.args.rule.now c.args.cell.now.cell.index) ≡ false = search rules in
    outside-untaken c.args.query.now.query c.args.rule.now c.args.from c.args.to c.args.cell.now e

pub returns-then-count-eq0 : goal.returns-then-count-eq0
returns-then-count-eq0 g c =
    let e : ((total_in c.args.cell.now.parts).count == 0) ≡ true = search rules in
    empty-untaken c.args.query.now.query c.args.rule.now c.args.from c.args.to c.args.cell.now e

pub returns-then-eq : goal.returns-then-eq
returns-then-eq g c =
    let q : Query = c.args.query.now.query in
    let r : Rule = c.args.rule.now in
    let k : SeenCell = c.args.cell.now in
    let of : c.eq-then-eq.result ≡ is_of q.measurement q.field (representative r k.cell).column = search rules in
    let asked : is_within q.from q.to (start_of r k.cell.index) ≡ true = search rules in
    let piece : is_within c.args.from c.args.to (start_of r k.cell.index) ≡ true = search rules in
    let full : ((total_in k.parts).count == 0) ≡ false = search rules in
    ap (λ b. b && list_all (meets (representative r k.cell).column.series) q.conditions) of ∙ inside-taken q r c.args.from c.args.to k asked piece full

use Rattle.std.proofs.Common.{rules, SFits, w64}
use Rattle.ts_core.specs.settings.Settings.{Rule}
use Rattle.ts_exec.proofs.Walked.{start_near}
use Rattle.ts_exec.proofs.cell_piece.bucket_start.Goals as goal

pub start-requires : goal.start-requires
start-requires g c =
    let r : Rule = c.args.rule.now in
    let s : SFits w64 r.interval = search rules in
    let w = c.requires.within in
    let near = start_near r w.0 w.1 c.args.index.now c.requires.interval s w.2 w.3 w.4 in
    search rules

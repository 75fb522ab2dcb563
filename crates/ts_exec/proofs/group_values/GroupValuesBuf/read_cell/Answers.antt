use Rattle.std.proofs.Common.{string_bytes}
use Rattle.std.proofs.lemmas.List.{length-map}
use Rattle.ts_ql.specs.Selects.{texts}
use Rattle.ts_exec.proofs.SetSteps.{kept-fits}
use Rattle.ts_exec.proofs.group_values.GroupValuesBuf.read_cell.Goals as goal

pub invariant_of-self : goal.invariant_of-self
invariant_of-self g c =
    (kept-fits (texts c.args.tags.now) c.requires.0 (texts c.args.group.now) c.args.kept.now _ _ _ (length-map c.args.tags.now string_bytes) c.requires.1 c.clear.ensures.items c.in-Ok.ensures).0

pub returns-in-Ok : goal.returns-in-Ok
returns-in-Ok g c = λ own are.
    (kept-fits (texts c.args.tags.now) own (texts c.args.group.now) c.args.kept.now _ _ _ (length-map c.args.tags.now string_bytes) are c.clear.ensures.items c.in-Ok.ensures).1

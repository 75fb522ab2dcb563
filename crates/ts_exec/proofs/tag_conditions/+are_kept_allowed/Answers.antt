use Rattle.std.proofs.Common.{◌≡◌, ◌∙◌, sym, eqb-true, length, zip}
use Rattle.ts_ql.specs.Selects.{texts}
use Rattle.ts_exec.proofs.Tested.{allowed-none}
use Rattle.ts_exec.proofs.tag_conditions.+are_kept_allowed.Goals as goal

pub returns-then-is_empty : goal.returns-then-is_empty
returns-then-is_empty g t c =
    let none : length c.args.refused.now ≡ 0 = eqb-true _ 0 (sym c.is_empty.ensures ∙ c.if-is_empty.true) in
    allowed-none c.args.refused.now none (zip (texts c.args.kept.now) (texts c.args.group.now))

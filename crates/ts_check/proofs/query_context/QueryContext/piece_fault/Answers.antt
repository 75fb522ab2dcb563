use Rattle.std.proofs.Common.{sym, ◌∙◌}
use Rattle.ts_check.proofs.NamedRules.{named_wide}
use Rattle.ts_check.proofs.query_context.QueryContext.piece_fault.Goals as goal

pub rule_fault-requires : goal.rule_fault-requires
rule_fault-requires g c = named_wide c.args.self.now.rules c.as_str.result.now c.in-Some.marked c.requires (sym c.rule_named.ensures ∙ c.in-Some.is)

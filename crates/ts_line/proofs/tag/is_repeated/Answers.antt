use Rattle.std.proofs.Common.{sym, ◌∙◌}
use Rattle.ts_line.proofs.MarkLemmas.{unmarked_key, keys_kept}
use Rattle.ts_line.proofs.tag.is_repeated.Goals as goal

pub returns-else-insert-clause-value : goal.returns-else-insert-clause-value
returns-else-insert-clause-value g c =
    c.if-insert.false ∙ sym (unmarked_key c.args.filter.now c.args.key.now c.args.tags.now (sym c.insert.ensures.value ∙ c.if-insert.false) c.requires)

pub returns-else-insert-clause-tags : goal.returns-else-insert-clause-tags
returns-else-insert-clause-tags g c = keys_kept c.args.filter.now c.insert.new.self c.args.tags.now c.insert.ensures.kept c.requires

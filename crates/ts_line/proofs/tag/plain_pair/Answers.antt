use Rattle.std.proofs.Common.{sym, ◌∙◌}
use Rattle.ts_line.proofs.TagLemmas.{plain_pair}
use Rattle.ts_line.proofs.tag.plain_pair.Goals as goal

pub returns-clause-value : goal.returns-clause-value
returns-clause-value c =
    let pair = c.in-Ok.ensures in
    plain_pair c.args.line.now c.args.start c.in-Ok.key_end.at c.in-Ok.value_end.at pair.value (sym pair.key.escape ∙ c.if-key_end.false) (sym pair.rest.escape ∙ c.if-value_end.false)

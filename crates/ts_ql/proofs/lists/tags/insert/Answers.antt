use Rattle.std.proofs.Common.{ap, ◌∙◌}
use Rattle.ts_core.specs.facts.Facts.{Text}
use Rattle.ts_ql.specs.Selects.{inserted_text, texts}
use Rattle.ts_ql.proofs.GroupLemmas.{texts_insert}
use Rattle.ts_ql.proofs.lists.tags.insert.Goals as goal

pub returns : goal.returns
returns g c =
    ap texts c.in_ok-insert.ensures.keys ∙ texts_insert c.args.tags.now.keys c.in_ok-text_spelled.field-0
    ∙ ap (λ (name : Text). inserted_text name (texts c.args.tags.now.keys)) c.in_ok-text_spelled.ensures

use Rattle.std.proofs.Common.{rules, ◌∙◌, sym, string_bytes}
use Rattle.std.proofs.lemmas.Fn.{always_returns_same}
use Rattle.ts_core.specs.facts.Facts.{text_cmp}
use Rattle.ts_exec.proofs.GroupValuesLemmas.{tag_index-search}
use Rattle.ts_exec.proofs.set_values.tag_index.Goals as goal

pub returns : goal.returns
returns g c =
    c.ok.ensures.value
    ∙ sym (tag_index-search string_bytes c.args.name.now c.args.tags.now c.binary_search_by.result c.requires c.binary_search_by.ensures.bound
    (c.binary_search_by.ensures.position (λ t. text_cmp (string_bytes t) c.args.name.now) (always_returns_same _ _ _ (λ a r q called. search rules))))

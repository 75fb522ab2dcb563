use Rattle.std.proofs.Common.{rules, tests, ◌∙◌, sym, string_bytes}
use Rattle.std.proofs.lemmas.Iterator.{YieldsList-from_slice}
use Rattle.std.proofs.lemmas.Iterator.Search.{any_from_yields_List}
use Rattle.ts_core.specs.facts.Facts.{same_text}
use Rattle.ts_core.proofs.lists.ListSteps.{any-map}
use Rattle.ts_core.proofs.text.strings.is_among.Goals as goal

pub returns : goal.returns
returns g c =
    let among = any_from_yields_List (λ other. same_text c.args.text.now (string_bytes other)) _ _ _ c.any.ensures.ran (YieldsList-from_slice c.args.texts.now cc) (λ x b q k. search (rules, tests)) in
    among ∙ sym (any-map (same_text c.args.text.now) string_bytes c.args.texts.now)

use Rattle.std.proofs.Common.{◌∙◌, ap, map, string_bytes}
use Rattle.std.proofs.lemmas.List.{length-map}
use Rattle.ts_core.specs.facts.Tags.{value_among}
use Rattle.ts_core.specs.text.Texts.{owned_pairs}
use Rattle.ts_ql.specs.Selects.{texts}
use Rattle.ts_exec.proofs.SetSteps.{own-fits}
use Rattle.ts_exec.proofs.group_values.GroupValuesBuf.read_series.Goals as goal

pub invariant_of-self : goal.invariant_of-self
invariant_of-self g c =
    (own-fits (texts c.args.tags.now) (owned_pairs c.tags.result.now) _ _ _ (length-map c.args.tags.now string_bytes) c.requires c.tags.ensures.set c.clear.ensures.items c.in-Ok.ensures).0

pub returns-in-Ok : goal.returns-in-Ok
returns-in-Ok g c =
    (own-fits (texts c.args.tags.now) (owned_pairs c.tags.result.now) _ _ _ (length-map c.args.tags.now string_bytes) c.requires c.tags.ensures.set c.clear.ensures.items c.in-Ok.ensures).1
    ∙ ap (λ ts. map (value_among ts) (texts c.args.tags.now)) c.tags.ensures.value

use Rattle.std.proofs.Common.{◌∙◌, ◌≤◌, map, string_bytes, length, ap, arith}
use Rattle.std.proofs.lemmas.List.{take_all}
use Rattle.ts_core.specs.facts.Tags.{tag_value}
use Rattle.ts_store.proofs.rollup.RollupLemmas.{map_map}
use Rattle.ts_store.proofs.rollup.group_of.Goals as goal

pub returns : goal.returns
returns g c =
    let tags = c.kept_tags-tags.result.now in
    let all : length tags ≤ c.loop-tag.tag-index = omega (arith, c.loop-tag-test.false) in
    c.loop-tag.invariant ∙ ap (map (λ t. tag_value c.args.key.now (string_bytes t))) (take_all c.loop-tag.tag-index tags all)
    ∙ map_map string_bytes (tag_value c.args.key.now) tags ∙ ap (map (tag_value c.args.key.now)) c.kept_tags-tags.ensures

use Rattle.std.proofs.Common.{◌≡◌, ℕ, List, get_or, sym, ◌∙◌, ap, rules}
use Rattle.std.proofs.lemmas.Option.{get_or_from_slice_get, IfSome_then}
use Rattle.ts_core.specs.facts.Facts.{Series}
use Rattle.ts_core.specs.facts.Tags.{tag_value}
use Rattle.ts_core.proofs.lists.Comparisons.{same_text-from_eq}
use Rattle.ts_core.proofs.lists.NumberedLemmas.{at_among, at_within, none_so}
use Rattle.ts_raw.specs.Indexed.{no_series}
use Rattle.ts_raw.specs.Tagged.{has_tag}
use Rattle.ts_raw.proofs.index.tagged.tagged_column.Goals as goal

pub returns-clause-absent : goal.returns-clause-absent
returns-clause-absent g c =
    let columns : List (ℕ × ℕ) = c.args.columns.now.columns in
    none_so c.lookup.result (λ absent n t. absent (at_among columns n (c.args.number, c.args.field) t.at)) c.lookup.ensures.absent

pub returns-clause-found : goal.returns-clause-found
returns-clause-found g c =
    let series : List Series = c.args.series.now in
    let key : get_or series c.args.number no_series ≡ c.key.result.now = get_or_from_slice_get series c.args.number c.key.result.now no_series c.key.ensures in
    let same : c.tag_value.result.now ≡ c.args.value.now = search rules in
    IfSome_then c.lookup.result c.lookup.ensures.found
    (λ n at. record {
      there = at_within series c.args.number c.key.result.now c.key.ensures;
      has = ap (λ (s : Series). has_tag c.args.tag.now c.args.value.now s) key ∙ same_text-from_eq (tag_value c.key.result.now c.args.tag.now) c.args.value.now (sym c.tag_value.ensures ∙ same);
      at = at;
    })

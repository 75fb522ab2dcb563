use Rattle.std.proofs.Common.{rules, ◌≡◌, ◌∙◌, ap, sym, Equal}
use Rattle.std.specs.Ordering.{ordering_then}
use Rattle.std.specs.Cmp.Lexicographic.{slice_cmp}
use Rattle.ts_core.specs.facts.Facts.{text_cmp, tag_cmp}
use Rattle.ts_store.proofs.image.ListedColumns.{tags_ordered}
use Rattle.ts_store.proofs.image.saved_series.compare_keys.Goals as goal

pub returns-in-Equal : goal.returns-in-Equal
returns-in-Equal g c =
    let names : text_cmp c.args.key.now.measurement c.args.other.now.measurement ≡ Equal = search rules in
    c.cmp-in-Equal.ensures
    ∙ tags_ordered c.tags.result.now c.tags-in-Equal.result.now
    ∙ (λ i. slice_cmp tag_cmp (c.tags.ensures.value i) (c.tags-in-Equal.ensures.value i))
    ∙ ap (λ o. ordering_then o (slice_cmp tag_cmp c.args.key.now.tags c.args.other.now.tags)) (sym names)

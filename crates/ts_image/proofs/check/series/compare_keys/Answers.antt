use Rattle.std.proofs.Common.{sym, ap, ◌∙◌}
use Rattle.std.specs.declared.cmp.Ordering.{Ordering}
use Rattle.std.specs.Ordering.{ordering_then}
use Rattle.std.specs.Cmp.Lexicographic.{slice_cmp}
use Rattle.std.specs.Cmp.Derive.Mapped.{lex_map}
use Rattle.ts_core.specs.facts.Facts.{tag_cmp}
use Rattle.ts_image.specs.SeriesParts.{tag_of, tags_of_parts}
use Rattle.ts_image.proofs.check.series.compare_keys.Goals as goal

pub returns-in-Equal : goal.returns-in-Equal
returns-in-Equal g c =
    c.cmp-in-Equal.ensures ∙ sym (lex_map tag_of tag_cmp c.args.a.now.tags.items c.args.b.now.tags.items)
    ∙ ap (λ (o : Ordering). ordering_then o (slice_cmp tag_cmp (tags_of_parts c.args.a.now.tags) (tags_of_parts c.args.b.now.tags))) c.in-Equal.ensures

use Rattle.std.proofs.Common.{sym, ap, ◌∙◌}
use Rattle.std.specs.Prelude.{string_bytes}
use Rattle.std.specs.declared.cmp.Ordering.{Ordering}
use Rattle.std.specs.Ordering.{ordering_then}
use Rattle.std.specs.Cmp.Lexicographic.{slice_cmp}
use Rattle.std.specs.Cmp.Derive.Mapped.{lex_map}
use Rattle.ts_core.specs.facts.Facts.{text_cmp}
use Rattle.ts_image.specs.RuleParts.{texts_of}
use Rattle.ts_image.proofs.check.cells.compare_cells.Goals as goal

pub returns-in-Equal-cmp : goal.returns-in-Equal-cmp
returns-in-Equal-cmp g c =
    let a = c.args.a.now in
    let b = c.args.b.now in
    let groups : Ordering = slice_cmp text_cmp (texts_of a.group) (texts_of b.group) in
    c.cmp-in-Equal-cmp.ensures ∙ sym (lex_map string_bytes text_cmp a.group.items b.group.items)
    ∙ ap (λ (o : Ordering). ordering_then o groups) c.in-Equal-cmp.ensures
    ∙ ap (λ (o : Ordering). ordering_then o (ordering_then (text_cmp (string_bytes a.field) (string_bytes b.field)) groups)) c.in-Equal.ensures

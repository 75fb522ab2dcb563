use Rattle.std.proofs.Common.{string_bytes, sym, ◌∙◌}
use Rattle.std.specs.Str.{bytes_eq}
use Rattle.std.specs.Cmp.Derive.Mapped.{pointwise-map}
use Rattle.std.proofs.lemmas.Slice.Eq.{slice_eq-Decides, bytes_eq-Decides}
use Rattle.ts_core.proofs.text.strings.same_strings.Goals as goal

pub returns : goal.returns
returns g c = slice_eq-Decides bytes_eq-Decides _ _ _ (c.eq.ensures ∙ sym (pointwise-map string_bytes bytes_eq c.args.texts.now c.args.others.now))

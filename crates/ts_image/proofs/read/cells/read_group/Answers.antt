use Rattle.std.proofs.Common.{arith, ◌≡◌, length, sym, ◌∙◌}
use Rattle.std.specs.Prelude.{string_bytes}
use Rattle.std.proofs.lemmas.List.{length-map}
use Rattle.ts_image.specs.Formats.{text}
use Rattle.ts_image.specs.RuleParts.{texts_of}
use Rattle.ts_image.proofs.Alongs.{reads_along}
use Rattle.ts_image.proofs.read.cells.read_group.Goals as goal

pub returns : goal.returns
returns g c =
    reads_along text texts_of (texts_of c.args.rule.now.kept_tags) c.len.result c.args.reader.now c.read_strings.new.reader c.args.source.now c.read_strings.new.source c.read_strings.result
    (let e : c.len.result ≡ length c.args.rule.now.kept_tags.items = omega (arith, c.len.ensures) in e ∙ sym (length-map c.args.rule.now.kept_tags.items string_bytes)) c.read_strings.ensures

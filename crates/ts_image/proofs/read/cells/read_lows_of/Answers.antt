use Rattle.std.proofs.Common.{length, sym, w64, map}
use Rattle.std.proofs.lemmas.List.{length-map}
use Rattle.ts_image.specs.Formats.{signed_number}
use Rattle.ts_image.specs.RuleParts.{rule_from_parts}
use Rattle.ts_image.specs.CellParts.{lows_of}
use Rattle.ts_image.proofs.Alongs.{reads_along}
use Rattle.ts_image.proofs.read.cells.read_lows_of.Goals as goal

pub returns : goal.returns
returns g c =
    reads_along (signed_number w64) lows_of (map rule_from_parts c.args.rules.now) (length c.args.rules.now) c.args.reader.now c.read_lows.new.reader c.args.source.now c.read_lows.new.source c.read_lows.result
    (sym (length-map c.args.rules.now rule_from_parts)) c.read_lows.ensures

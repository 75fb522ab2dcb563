-- Parts of an image, as parts of a store determine them. (Own rules.)
use Rattle.std.specs.Prelude.{pos, map, Option, Some, None}
use Rattle.ts_core.specs.settings.Settings.{Rule, Settings}
use Rattle.ts_core.specs.declared.aggregates.aggregate.Extremes.{Extremes}
use Rattle.ts_core.specs.aggregates.Aggregates.{Aggregate}
use Rattle.ts_core.specs.store.Cells.{Cell}
use Rattle.ts_image.specs.Images.{ImageRule, ImageSettings, ImageCell}

abbrev pub image_rule_of : Rule → ImageRule
image_rule_of r = record {
  name = r.name;
  measurement = r.measurement;
  interval = r.interval;
  offset = r.offset;
  duration = pos r.duration;
  kept_tags = r.kept_tags;
}

abbrev pub image_settings_of : Settings → ImageSettings
image_settings_of s = record { raw_duration = pos s.raw_duration; rules = map image_rule_of s.rules }

-- an empty part has no extremes, and isn't saved
abbrev pub extremes_in : Option Extremes → Extremes
extremes_in None = record { min = pos 0; max = pos 0; first = (pos 0, pos 0); last = (pos 0, pos 0) }
extremes_in (Some e) = e

abbrev pub image_cell_with : Cell → Aggregate → ImageCell
image_cell_with k a = record { cell = k; count = a.count; sum = a.sum; extremes = extremes_in a.extremes }

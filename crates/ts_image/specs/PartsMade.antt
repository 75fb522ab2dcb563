-- Conditions for creating parts of a store from parts of an image. (Own rules.)
use Rattle.std.specs.Prelude.{◌≤◌, ◌^◌}
use Rattle.ts_core.specs.aggregates.Aggregates.{IsSpread}
use Rattle.ts_core.specs.facts.Times.{IsTime}
use Rattle.ts_image.specs.Images.{ImageCell}

-- some frozen part has the count, the sum and the extremes of a cell
pub record HasPart (c : ImageCell) : Type 0 where
  pub few : c.count ≤ 2 ^ 62
  pub spread : IsSpread c.count c.sum c.extremes
  pub first : IsTime c.extremes.first.0
  pub last : IsTime c.extremes.last.0

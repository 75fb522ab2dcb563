-- The effect of writing values by their formats, through a write buffer. (Own rules.)
use Rattle.std.specs.Prelude.{List, length, Result, OnOk}
use Rattle.ts_core.specs.facts.Facts.{Text}
use Rattle.ts_core.specs.io.Devices.{Output}
use Rattle.ts_core.specs.io.OutputBuffering.{IsBuffered}
use Rattle.ts_image.specs.Formats.{Format, spelling, times}

-- Writes the value's spelling, and has one only if the value fits the format.
pub record PutsField {X T E : Type 0} (format : Format X)
    (value : X) (old : Output) (buffered : Text) (result : Result T E) (new : Output) (buffered' : Text) : Type 0 where
  pub sent : IsBuffered old buffered result (spelling format value) new buffered'
  pub fits : OnOk result (format.fits value)

-- Writes values one after another.
abbrev pub PutsAll : {X T E : Type 0} → Format X → List X → Output → Text → Result T E → Output → Text → Type 0
PutsAll f xs old buffered result new buffered' = PutsField (times (length xs) f) xs old buffered result new buffered'

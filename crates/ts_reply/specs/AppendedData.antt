-- Data and items appended to a text. (Own rules.)
use Rattle.std.specs.Prelude.{◌≡◌, Bool, ◌++◌}
use Rattle.serde_json.specs.Data.{Data, array, Items}
use Rattle.serde_json.specs.Written.{compact_text, items_text}
use Rattle.ts_core.specs.facts.Facts.{Text}

-- appends the text of data with the property
pub record AppendsData (Is : Data → Type 0) (old new : Text) : Type 0 where
  pub told : Data
  pub is : Is told
  pub appended : new ≡ old ++ compact_text told

-- appends the texts of items with the property, with commas between them and the closing bracket; `later` adds a comma
-- before the first
pub record AppendsItems (Are : Items → Type 0) (later : Bool) (old new : Text) : Type 0 where
  pub told : Items
  pub are : Are told
  pub appended : new ≡ old ++ items_text later told

-- an array of items with the property
pub record IsArray (Are : Items → Type 0) (d : Data) : Type 0 where
  pub items : Items
  pub are : Are items
  pub is : d ≡ array items

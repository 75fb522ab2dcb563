-- A field of a measurement. (InfluxData 1.8, key concepts: measurement, field key.)
use Rattle.std.specs.Prelude.{ℕ}
use Rattle.std.specs.Hash.DefaultHasher.{finish}
use Rattle.std.specs.RandomState.{initial_hasher}
use Rattle.std.specs.declared.hash.RandomState.{RandomState}
use Rattle.ts_core.specs.facts.Facts.{Text}
use Rattle.ts_core.specs.text.Hashing.{with_text}

-- identifies all columns of the measurement that have the field
pub record FieldKey : Type 0 where
  pub measurement : Text
  pub field : Text

abbrev pub field_key : Text → Text → FieldKey
field_key measurement field = record { measurement = measurement; field = field }

-- the hash of a field
unfoldable pub hash_of_field : RandomState → FieldKey → ℕ
hash_of_field seed k = finish (with_text (with_text (initial_hasher seed) k.measurement) k.field)

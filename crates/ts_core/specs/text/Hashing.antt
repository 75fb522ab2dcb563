-- Hashes of texts. (Own rule.)
use Rattle.std.specs.Prelude.{[], ◌∷◌}
use Rattle.std.specs.Hash.DefaultHasher.{write}
use Rattle.std.specs.declared.hash.DefaultHasher.{DefaultHasher}
use Rattle.ts_core.specs.facts.Facts.{Text}

-- the state after a text, and after a byte that occurs in no text
unfoldable pub with_text : DefaultHasher → Text → DefaultHasher
with_text h text = write (write h text) (255 ∷ [])

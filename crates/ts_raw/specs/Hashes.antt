-- Hashes of names, by a seed. Their values have no meaning. (Own rule.)
use Rattle.std.specs.Prelude.{ℕ, List, [], ◌∷◌}
use Rattle.std.specs.Hash.DefaultHasher.{finish}
use Rattle.std.specs.RandomState.{initial_hasher}
use Rattle.std.specs.declared.hash.DefaultHasher.{DefaultHasher}
use Rattle.std.specs.declared.hash.RandomState.{RandomState}
use Rattle.ts_core.specs.facts.Facts.{Text, Series}
use Rattle.ts_core.specs.text.Hashing.{with_text}

abbrev pub hash_of_tags : DefaultHasher → List (Text × Text) → DefaultHasher
hash_of_tags h [] = h
hash_of_tags h (t ∷ ts) = hash_of_tags (with_text (with_text h t.0) t.1) ts

unfoldable pub hash_of_series : RandomState → Series → ℕ
hash_of_series seed s = finish (hash_of_tags (with_text (initial_hasher seed) s.measurement) s.tags)

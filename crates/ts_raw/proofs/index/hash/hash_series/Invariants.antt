use Rattle.std.proofs.Common.{◌≡◌, take}
use Rattle.std.specs.RandomState.{initial_hasher}
use Rattle.ts_core.specs.text.Texts.{borrowed_pairs}
use Rattle.ts_core.specs.text.Hashing.{with_text}
use Rattle.ts_raw.specs.Hashes.{hash_of_tags}
use Rattle.ts_raw.proofs.index.hash.hash_series.Given as goal

abbrev pub invariant-loop-tag : goal.invariant-loop-tag
invariant-loop-tag l = l.hasher ≡ hash_of_tags (with_text (initial_hasher l.seed) l.key.measurement) (borrowed_pairs (take l.tag-index l.tag-items))

use Rattle.std.proofs.Common.{subst}
use Rattle.ts_raw.specs.Indexed.{Indexed, IsSoundIndex}
use Rattle.ts_raw.proofs.IndexLemmas.{index_sound}
use Rattle.ts_raw.proofs.index.Index.find_column.Goals as goal

pub returns-clause-sound : goal.returns-clause-sound
returns-clause-sound g c =
    subst (λ (i : Indexed). IsSoundIndex i) c.self.view_is (index_sound c.self.inside.series c.self.inside.fields c.self.inside.columns c.self.invariant)

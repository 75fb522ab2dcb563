use Rattle.std.proofs.Common.{◌≡◌, true, List, [], ◌∷◌, refl}
use Rattle.std.specs.List.{list_all}
use Rattle.ts_ql.specs.Selects.{Projection}
use Rattle.ts_exec.specs.declared.aggregate_parts.AggregateParts.TheVariants.{Whole}
use Rattle.ts_exec.specs.Selections.{suffice}
use Rattle.ts_exec.proofs.aggregate_parts.parts_for.Goals as goal

all_whole : (ps : List Projection) → list_all (λ (p : Projection). suffice Whole p.function) ps ≡ true
all_whole [] = refl
all_whole (p ∷ ps) = all_whole ps

pub returns-else-suffice_for_all-3 : goal.returns-else-suffice_for_all-3
returns-else-suffice_for_all-3 g c = all_whole c.args.columns.now

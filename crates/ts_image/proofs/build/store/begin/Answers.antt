use Rattle.std.proofs.Common.{◌≡◌, ◌==◌, IfOk, subst}
use Rattle.ts_core.specs.store.Marks.{Marks}
use Rattle.ts_store.specs.image.Building.{new_built}
use Rattle.ts_image.proofs.build.store.begin.Goals as goal

pub returns : goal.returns
returns g c = subst (λ (m : Marks). IfOk c.new.result (λ b. b ≡ new_built c.args.settings m c.args.parts.now.accepted (c.args.parts.now.runs == 1))) c.in_ok-marks.ensures c.new.ensures

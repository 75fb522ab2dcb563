use Rattle.std.proofs.Common.{arith}
use Rattle.ts_core.specs.settings.Settings.{Rule}
use Rattle.ts_store.specs.rollup.Rollups.{KeepsCells, HasNext}
use Rattle.ts_store.proofs.rollup.ChangedListsLemmas.{next_changed, last_changed, all_changed, AllZip-beside, AllZip-changed}
use Rattle.ts_store.proofs.rollup.RollupsGrow.{keeps_itself}
use Rattle.ts_store.proofs.write.columns.prepare_rollups.Goals as goal

pub loop-i-preserved : goal.loop-i-preserved
loop-i-preserved g c = next_changed _ c.args.rules.now _ _ c.loop-i.i c.index-rules-i.result _ c.index-rollups-i.result _ (omega arith) c.index-rules-i.is (c.prepare.ensures.kept, c.in_ok-prepare.ensures.next) c.loop-i.invariant

pub returns-in_err-prepare-clause-kept : goal.returns-in_err-prepare-clause-kept
returns-in_err-prepare-clause-kept g c =
    AllZip-beside (λ (r : Rule). KeepsCells) KeepsCells keeps_itself (λ r s t h. h) _ _ _
    (last_changed _ (λ r. KeepsCells) (λ r s t h. h.0) (λ r. keeps_itself) c.args.rules.now _ _ c.loop-i.i c.index-rules-i.result _ c.index-rollups-i.result _ (omega arith) c.index-rules-i.is c.prepare.ensures.kept c.loop-i.invariant)

pub returns-clause-kept : goal.returns-clause-kept
returns-clause-kept g c = AllZip-beside _ KeepsCells keeps_itself (λ r s t h. h.0) _ _ _ c.loop-i.invariant

pub returns-clause-next : goal.returns-clause-next
returns-clause-next g c =
    AllZip-changed _ (λ r. HasNext r (record { series = c.args.key.now; field = c.args.field.now })) (λ r s t h. h.1) _ _ _ c.requires (all_changed _ c.args.rules.now _ _ c.loop-i.i (omega arith) c.loop-i.invariant)

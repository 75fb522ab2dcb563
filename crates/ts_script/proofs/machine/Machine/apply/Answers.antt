use Rattle.std.proofs.Common.{sym, subst, option_map, string_bytes}
use Rattle.std.specs.Fmt.{decimal}
use Rattle.ts_script.specs.Commands.{Live}
use Rattle.ts_script.specs.ScriptReplies.{line}
use Rattle.ts_script.specs.MachineState.{MachineState, IsMachineIn, TransitionTo}
use Rattle.ts_script.proofs.MachineLemmas.{serving, moved, was_set, was_shown, told_live, count_refused, not_known}
use Rattle.ts_script.proofs.machine.Machine.apply.Goals as goal

pub returns-in-SetSettings : goal.returns-in-SetSettings
returns-in-SetSettings c = λ s i. rw c.in-SetSettings.is (c.set_settings.ensures s i)

pub returns-in-At : goal.returns-in-At
returns-in-At c = λ s i.
    let m : MachineState = serving c.self.inside.moment c.self.inside.precision c.self.inside.epoch c.self.inside.fresh (option_map string_bytes c.self.inside.certificate) c.self.inside.store in
    rw c.in-At.is (moved c.in-At.moment s m (subst (λ (k : MachineState). IsMachineIn s k) (sym c.self.view_is) i))

pub returns-in-SetEpoch : goal.returns-in-SetEpoch
returns-in-SetEpoch c = λ s i.
    let m : MachineState = serving c.self-in-SetEpoch.inside.moment c.self-in-SetEpoch.inside.precision c.self-in-SetEpoch.inside.epoch c.self-in-SetEpoch.inside.fresh (option_map string_bytes c.self-in-SetEpoch.inside.certificate) c.self-in-SetEpoch.inside.store in
    rw c.in-SetEpoch.is (was_shown c.in-SetEpoch.epoch s m (subst (λ (k : MachineState). IsMachineIn s k) (sym c.self-in-SetEpoch.view_is) i))

pub returns-in-CountFault : goal.returns-in-CountFault
returns-in-CountFault c = λ s i. rw c.in-CountFault.is (count_refused s c.args.self.now i)

pub returns-in-Unknown : goal.returns-in-Unknown
returns-in-Unknown c = λ s i. rw c.in-Unknown.is (not_known s c.args.self.now i)

pub returns-in-SetPrecision : goal.returns-in-SetPrecision
returns-in-SetPrecision c = λ s i.
    let m : MachineState = serving c.self-in-SetPrecision.inside.moment c.self-in-SetPrecision.inside.precision c.self-in-SetPrecision.inside.epoch c.self-in-SetPrecision.inside.fresh (option_map string_bytes c.self-in-SetPrecision.inside.certificate) c.self-in-SetPrecision.inside.store in
    rw c.in-SetPrecision.is (was_set c.in-SetPrecision.precision s m (subst (λ (k : MachineState). IsMachineIn s k) (sym c.self-in-SetPrecision.view_is) i))

pub returns-in-Live : goal.returns-in-Live
returns-in-Live c = λ s i.
    let m : MachineState = serving c.self-in-Live.inside.moment c.self-in-Live.inside.precision c.self-in-Live.inside.epoch c.self-in-Live.inside.fresh (option_map string_bytes c.self-in-Live.inside.certificate) c.self-in-Live.inside.store in
    let before = subst (λ (k : MachineState). IsMachineIn s k) (sym c.self-in-Live.view_is) i in
    let did = told_live c.raw_points.result s m before c.raw_points.ensures.raw in
    rw c.in-Live.is (subst (λ (k : MachineState). TransitionTo Live s (line (decimal c.raw_points.result)) k) c.self-in-Live.view_is did)

pub returns-in-Retain : goal.returns-in-Retain
returns-in-Retain c = λ s i. rw c.in-Retain.is (c.retain.ensures s i)

pub returns-in-BeginRun : goal.returns-in-BeginRun
returns-in-BeginRun c = λ s i. rw c.in-BeginRun.is (c.begin.ensures s i)

pub returns-in-StepRun : goal.returns-in-StepRun
returns-in-StepRun c = λ s i. rw c.in-StepRun.is (c.step.ensures s i)

pub returns-in-Reload : goal.returns-in-Reload
returns-in-Reload c = λ s i. rw c.in-Reload.is (c.reload.ensures s i)

pub returns-in-SetCertificate : goal.returns-in-SetCertificate
returns-in-SetCertificate c = λ s i. rw c.in-SetCertificate.is (c.set_certificate.ensures s i)

pub returns-in-Query : goal.returns-in-Query
returns-in-Query c = λ s i. rw c.in-Query.is (c.query.ensures s i)

pub returns-in-Explain : goal.returns-in-Explain
returns-in-Explain c = λ s i. rw c.in-Explain.is (c.explain.ensures s i)

pub returns-in-Count : goal.returns-in-Count
returns-in-Count c = λ s i. rw c.in-Count.is (c.count.ensures s i)

pub returns-in-AddRule : goal.returns-in-AddRule
returns-in-AddRule c = λ s i. rw c.in-AddRule.is (c.add_rule.ensures s i)

pub returns-in-DropRule : goal.returns-in-DropRule
returns-in-DropRule c = λ s i. rw c.in-DropRule.is (c.drop_rule.ensures s i)

use Rattle.std.proofs.Common.{map, refl, ap, ◌∙◌, arith}
use Rattle.ts_core.specs.settings.Settings.{Settings}
use Rattle.ts_core.specs.settings.SettingsFaults.{is_named}
use Rattle.ts_core.specs.store.StoreStates.{column_of}
use Rattle.ts_store.proofs.rollup.RollupsGrow.{rollups-length}
use Rattle.ts_store.proofs.rules.RulesMoved.{kept_later, rule_went}
use Rattle.ts_store.proofs.store.RuleListLemmas.{its_settings}
use Rattle.ts_store.proofs.store.Store.drop_rule.Goals as goal

pub invariant_of-self : goal.invariant_of-self
invariant_of-self g c =
    let was = c.self.inside in
    kept_later was.settings was.marks was.accepted was.facts was.run c.self.invariant c.args.name.now c.in-Some.rule c.in-Some.ensures.some
    c.remove_rule.new.self c.remove.new.self c.remove_rollup.new.self c.remove_rule.ensures c.remove.ensures c.remove_rollup.ensures

pub remove_rollup-requires : goal.remove_rollup-requires
remove_rollup-requires g c =
    let was = c.self.inside in
    let many = rollups-length was.settings.rules (map column_of was.facts.columns) was.facts.rollups c.self.invariant.rollups in
    let inside = c.in-Some.ensures.some.inside in
    omega (arith, many, inside)

pub returns : goal.returns
returns g c =
    let was = c.self.inside in
    rule_went was.settings was.marks was.accepted was.facts was.run c.self.invariant c.args.name.now c.in-Some.rule c.in-Some.ensures.some
    c.remove_rule.new.self c.remove.new.self c.remove_rollup.new.self c.remove_rule.ensures c.remove.ensures c.remove_rollup.ensures c.args.self.now c.self.view_is

pub returns-in_default : goal.returns-in_default
returns-in_default g c =
    let was = c.self.inside in
    let same = its_settings was.settings was.marks was.accepted was.facts was.run c.self.invariant c.args.self.now c.self.view_is in
    record { ok = tt; err = refl; unknown = (λ e. ap (λ (s : Settings). is_named s.rules c.args.name.now) same ∙ c.in_default.ensures.none refl, λ e. refl) }

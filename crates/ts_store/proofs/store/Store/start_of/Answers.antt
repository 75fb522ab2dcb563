use Rattle.std.proofs.Common.{rules, ◌≡◌, ◌∙◌, ℤ, None, FitsSigned, SFits, to_z, of_z, to_z-of_z, ap, sym, subst}
use Rattle.std.specs.Int.{w64, w128}
use Rattle.ts_core.specs.store.Marks.{first_from}
use Rattle.ts_core.specs.settings.Settings.{Rule}
use Rattle.ts_core.specs.settings.SettingsFaults.{settings_fault}
use Rattle.ts_core.specs.store.StoreData.{StoreData, store_settings}
use Rattle.ts_core.specs.facts.Times.{IsTime}
use Rattle.ts_store.proofs.rules.RulesMoved.{low_fits}
use Rattle.ts_store.proofs.store.Store.start_of.Goals as goal

pub overflow_cast-result : goal.overflow_cast-result
overflow_cast-result g c =
    let r : Rule = c.args.rule.now in
    let mark : ℤ = c.self.inside.marks.raw in
    let faultless = subst (λ (k : StoreData). settings_fault (store_settings k) ≡ None) c.self.view_is c.self.invariant.sized.settings in
    let fits : FitsSigned w64 (first_from r mark) = low_fits (store_settings c.args.self.now) r mark faultless c.requires c.duration.ensures.possible (let time : IsTime mark = search rules in time) in
    let s : to_z w128 (of_z w128 c.first_index.result) ≡ first_from r mark = search rules in
    subst (SFits w64) (sym s) fits

pub returns-clause-low : goal.returns-clause-low
returns-clause-low g c =
    let r : Rule = c.args.rule.now in
    let mark : ℤ = c.self.inside.marks.raw in
    let faultless = subst (λ (k : StoreData). settings_fault (store_settings k) ≡ None) c.self.view_is c.self.invariant.sized.settings in
    let fits : FitsSigned w64 (first_from r mark) = low_fits (store_settings c.args.self.now) r mark faultless c.requires c.duration.ensures.possible (let time : IsTime mark = search rules in time) in
    let s : to_z w128 (of_z w128 c.first_index.result) ≡ first_from r mark = search rules in
    ap (λ x. to_z w64 (of_z w64 x)) s ∙ to_z-of_z fits ∙ ap (λ (k : StoreData). first_from r k.raw_mark) c.self.view_is

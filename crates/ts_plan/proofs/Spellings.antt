-- Names of rules of settings without a fault: they have the right form, so the pieces of a valid plan have a spelling.
use Rattle.std.proofs.Common.{◌≡◌, ℕ, zero, suc, ℤ, ◌<ℤ◌, ◌≤ℤ◌, true, sym, subst, List, [], ◌∷◌, ◌++◌, length, Some, None, FitsSigned, w64, arith}
use Rattle.std.proofs.lemmas.Int.{ints}
use Rattle.std.specs.Prelude.{slice_get}
use Rattle.std.specs.List.{AllByRecursion}
use Rattle.ts_core.specs.facts.Facts.{Text}
use Rattle.ts_core.specs.settings.Settings.{Rule, Settings}
use Rattle.ts_core.specs.settings.SettingsFaults.{is_rule_name, fault_of_rule, rules_fault, settings_fault}
use Rattle.ts_core.specs.store.Marks.{Marks}
use Rattle.ts_core.specs.queries.Queries.{Query}
use Rattle.ts_core.specs.plans.Pieces.{Source, Raw, Rollup, Piece, MarkedRule, marked_rules, QueryContext, query_context, SourceServes, IsValidPiece, Covers, IsValid}
use Rattle.ts_core.proofs.plans.GoodPlaces.{number_of}
use Rattle.ts_core.proofs.settings.SettingsLaws.{well, or_none, few}
use Rattle.ts_check.specs.CertificateTexts.{HasRuleName, EachHasSpelling}
use Rattle.ts_plan.specs.Steps.{AreNamed}

rules_named : (raw : ℕ) (earlier rs : List Rule) → rules_fault raw earlier rs ≡ None → AllByRecursion (λ (r : Rule). is_rule_name r.name ≡ true) rs
rules_named raw earlier [] h = tt
rules_named raw earlier (r ∷ rs) h =
    let k = or_none (length earlier) (fault_of_rule raw earlier r) _ h in
    ((well _ _ _ k.0).0, rules_named raw (earlier ++ r ∷ []) rs k.1)

marked_named : (rs : List Rule) (lows : List ℤ) → AllByRecursion (λ (r : Rule). is_rule_name r.name ≡ true) rs → AreNamed (marked_rules rs lows)
marked_named [] lows h = tt
marked_named (r ∷ rs) [] h = tt
marked_named (r ∷ rs) (low ∷ lows) h = (h.0, marked_named rs lows h.1)

pub settings_named : (s : Settings) (m : Marks) (q : Query) → settings_fault s ≡ None → AreNamed (query_context s m q).rules
settings_named s m q h = marked_named s.rules m.lows (rules_named s.raw_duration [] s.rules (few s h))

pub rule_spelled : (rs : List MarkedRule) (n : ℕ) (r : MarkedRule) → AreNamed rs → slice_get rs n ≡ Some r → is_rule_name r.rule.name ≡ true
rule_spelled [] n r a e = absurd (let q : None ≡ Some r = e in cc)
rule_spelled (x ∷ rs) zero r a e = let q : Some x ≡ Some r = e in let k : x ≡ r = cc in subst (λ (y : MarkedRule). is_rule_name y.rule.name ≡ true) k a.0
rule_spelled (x ∷ rs) (suc n) r a e = rule_spelled rs n r a.1 e

source_spelled : (t : QueryContext) (s : Source) (a b : ℤ) → AreNamed t.rules → SourceServes t s a b → HasRuleName s
source_spelled t Raw a b names v = tt
source_spelled t (Rollup name) a b names v =
    let found = number_of t.rules name v.0 v.1 in
    subst (λ (text : Text). is_rule_name text ≡ true) found.named (rule_spelled t.rules found.n v.0 names found.there)

spelled_from : (t : QueryContext) (a : ℤ) (ps : List Piece) → AreNamed t.rules → FitsSigned w64 a → FitsSigned w64 t.query.to → Covers a t.query.to ps → AllByRecursion (IsValidPiece t) ps → EachHasSpelling ps
spelled_from t a [] names low high covers valid = tt
spelled_from t a (p ∷ ps) names low high covers valid =
    let start : p.from ≡ a = covers.0 in
    let some : p.from <ℤ p.to = covers.1 in
    let within : p.to ≤ℤ t.query.to = covers.2 in
    let from : FitsSigned w64 p.from = subst (FitsSigned w64) (sym start) low in
    let to : FitsSigned w64 p.to = omega (arith, ints) in
    (record { named = source_spelled t p.source p.from p.to names valid.0; from = from; to = to }, spelled_from t p.to ps names to high covers.3 valid.1)

-- the pieces of a valid plan have a spelling
pub plan_spelled : (s : Settings) (m : Marks) (q : Query) (ps : List Piece) → settings_fault s ≡ None → FitsSigned w64 q.from → FitsSigned w64 q.to → IsValid s m q ps → EachHasSpelling ps
plan_spelled s m q ps h low high v = spelled_from (query_context s m q) q.from ps (settings_named s m q h) low high v.covers v.each

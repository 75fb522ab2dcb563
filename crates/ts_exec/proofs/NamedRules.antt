-- The rule that a plan's piece names: its index, its interval, and its cells.
use Rattle.std.proofs.Common.{◌≡◌, ◌∙◌, ℕ, zero, suc, ◌<◌, ℤ, not, true, false, refl, sym, ap, subst, List, [], ◌∷◌, length, map, get_or, Some, None, arith}
use Rattle.std.specs.List.{remove}
use Rattle.std.proofs.lemmas.Map.Views.{any-filter_same}
use Rattle.ts_core.specs.facts.Facts.{Text, same_text}
use Rattle.ts_core.specs.settings.Settings.{Rule, is_unnamed}
use Rattle.ts_core.specs.settings.SettingsFaults.{is_named}
use Rattle.ts_core.specs.moves.RuleMoves.{IsRuleAt}
use Rattle.ts_core.specs.store.Marks.{index_of}
use Rattle.ts_core.specs.queries.Queries.{Query}
use Rattle.ts_core.specs.plans.Assembly.{rule_shown}
use Rattle.ts_core.specs.store.StoreStates.{RuleCells, rule_of}
use Rattle.ts_store.specs.read.ViewResults.{no_rule, cells_within, view_cells_at}
use Rattle.ts_exec.specs.GroupTables.{Table, with_cell_parts, with_rule_cells}

-- the rule of that number is shown, with its cells
pub record IsShownAt (name : Text) (shown : List RuleCells) (number : ℕ) (rule : Rule) : Type 0 where
  pub within : number < length shown
  pub found : rule_shown name shown ≡ Some (get_or shown number no_rule)
  pub is : (get_or shown number no_rule).rule ≡ rule

-- a rule whose name no other one has is the first of this name
first_shown : (name : Text) (shown : List RuleCells) (number : ℕ) → is_named (map rule_of shown) name ≡ true → is_named (remove (map rule_of shown) number) name ≡ false
    → rule_shown name shown ≡ Some (get_or shown number no_rule)
first_shown name [] number named others = absurd (let q : false ≡ true = named in cc)
first_shown name (y ∷ ys) zero named others = grind arith
first_shown name (y ∷ ys) (suc number) named others = grind (arith, first_shown name ys number)

within_shown : (shown : List RuleCells) (number : ℕ) → number < length (map rule_of shown) → number < length shown
within_shown [] number l = l
within_shown (y ∷ ys) zero l = omega arith
within_shown (y ∷ ys) (suc number) l = let ih = within_shown ys number (omega arith) in omega arith

same_shown : (shown : List RuleCells) (number : ℕ) (rule : Rule) → number < length shown → rule ≡ get_or (map rule_of shown) number rule → (get_or shown number no_rule).rule ≡ rule
same_shown [] number rule l e = absurd (let z : ⊥ = omega arith in z)
same_shown (y ∷ ys) zero rule l e = sym e
same_shown (y ∷ ys) (suc number) rule l e = same_shown ys number rule (omega arith) e

-- the rule at the index that a name has among the rules of a view
pub found-shown : (name : Text) (shown : List RuleCells) (rules : List Rule) (number : ℕ) (rule : Rule) → map rule_of shown ≡ rules → IsRuleAt name rules number → rule ≡ get_or rules number rule
    → IsShownAt name shown number rule
found-shown name shown rules number rule own at e =
    let within = within_shown shown number (subst (λ (rs : List Rule). number < length rs) (sym own) at.inside) in
    let named = ap (λ (rs : List Rule). is_named rs name) own ∙ at.named in
    let others = ap (λ (rs : List Rule). is_named (remove rs number) name) own ∙ ap (λ (rs : List Rule). is_named rs name) (sym at.without) ∙ any-filter_same (λ (r : Rule). same_text r.name name) (is_unnamed name) false (λ r t. ap not t) rules in
    let same = same_shown shown number rule within (subst (λ (rs : List Rule). rule ≡ get_or rs number rule) (sym own) e) in
    record { within = within; found = first_shown name shown number named others; is = same }

-- its cells are put
pub found-put : (q : Query) (a b : ℤ) (t : Table) (name : Text) (shown : List RuleCells) (number : ℕ) (rule : Rule) → IsShownAt name shown number rule
    → with_cell_parts q rule a b (view_cells_at shown number (index_of rule a) (index_of rule b)) t ≡ with_rule_cells q a b (rule_shown name shown) t
found-put q a b t name shown number rule s =
    sym (ap (λ o. with_rule_cells q a b o t) s.found ∙ ap (λ r. with_cell_parts q r a b (cells_within (get_or shown number no_rule) (index_of r a) (index_of r b)) t) s.is)

none_shown : (name : Text) (shown : List RuleCells) → is_named (map rule_of shown) name ≡ false → rule_shown name shown ≡ None
none_shown name [] e = refl
none_shown name (y ∷ ys) e = grind (arith, none_shown name ys)

-- no rule of a view has the name
pub none-shown : (name : Text) (shown : List RuleCells) (rules : List Rule) → map rule_of shown ≡ rules → is_named rules name ≡ false → rule_shown name shown ≡ None
none-shown name shown rules own e = none_shown name shown (ap (λ (rs : List Rule). is_named rs name) own ∙ e)

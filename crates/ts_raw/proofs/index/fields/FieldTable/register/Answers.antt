use Rattle.std.proofs.Common.{◌≡◌, ℕ, List, [], ◌∷◌, ◌++◌, length, cond, is_ok, inl, inr, refl, sym, ◌∙◌, ap, subst, rules}
use Rattle.ts_core.specs.lists.Members.{Among}
use Rattle.ts_raw.specs.FieldKeys.{FieldKey, field_key, hash_of_field}
use Rattle.ts_core.specs.lists.Numbered.{IsAt}
use Rattle.ts_core.specs.lists.Tables.{IsTable}
use Rattle.ts_core.proofs.lists.NumberedLemmas.{at_among, at_end}
use Rattle.ts_core.proofs.lists.TableLemmas.{table_more}
use Rattle.ts_raw.proofs.index.fields.FieldTable.register.Given.{Over}
use Rattle.ts_raw.proofs.index.fields.FieldTable.register.Goals as goal

pub returns-in-Some-clause-registered : goal.returns-in-Some-clause-registered
returns-in-Some-clause-registered g c =
    let key : FieldKey = field_key c.args.measurement.now c.args.field.now in
    record {
      number = search rules;
      gains = inl (at_among c.args.self.now c.in-Some.number key c.in-Some.ensures.found, refl);
      known = search rules;
      kept = search rules;
    }

-- the key is after the others
pushed : (g : Over) (c : goal.After-unwrap g) → c.push-2.new.self.items ≡ c.self.inside.keys.items ++ field_key c.args.measurement.now c.args.field.now ∷ []
pushed g c =
    let before : List FieldKey = c.self.inside.keys.items in
    c.push-2.ensures.items ∙ ap (λ r. cond (is_ok r) (c.reserve.new.self.items ++ c.in_ok-key.key ∷ []) c.reserve.new.self.items) c.unwrap.ensures
    ∙ ap (λ (xs : List FieldKey). xs ++ c.in_ok-key.key ∷ []) c.in_ok-reserve.ensures.items ∙ ap (λ (x : FieldKey). before ++ x ∷ []) c.in_ok-key.ensures

pub invariant_of-self-2 : goal.invariant_of-self-2
invariant_of-self-2 g c =
    let key : FieldKey = field_key c.args.measurement.now c.args.field.now in
    let before : List FieldKey = c.self.inside.keys.items in
    let hashes : List ℕ = c.self.inside.chains in
    let absent : Among key before → ⊥ = subst (λ (xs : List FieldKey). Among key xs → ⊥) (sym c.self.view_is) c.in_default.ensures.absent in
    let hashed : c.push.new.self ≡ hashes ++ hash_of_field c.self.inside.seed key ∷ [] = c.in_ok-push.ensures.ok ∙ ap (λ n. hashes ++ n ∷ []) c.hash_field.ensures in
    subst (λ (xs : List FieldKey). IsTable (hash_of_field c.self.inside.seed) xs c.push.new.self) (sym (pushed g c))
    (subst (IsTable (hash_of_field c.self.inside.seed) (before ++ key ∷ [])) (sym hashed) (table_more (hash_of_field c.self.inside.seed) before hashes key c.self.invariant absent))

pub returns-clause-registered : goal.returns-clause-registered
returns-clause-registered g c =
    let key : FieldKey = field_key c.args.measurement.now c.args.field.now in
    let before : List FieldKey = c.self.inside.keys.items in
    let number : c.in_ok-number.number ≡ length before = search rules in
    record {
      number = subst (λ (xs : List FieldKey). IsAt xs c.in_ok-number.number key) (sym (pushed g c)) (subst (λ n. IsAt (before ++ key ∷ []) n key) (sym number) (at_end before key));
      gains = inr (c.in_default.ensures.absent, pushed g c ∙ ap (λ (xs : List FieldKey). xs ++ key ∷ []) c.self.view_is);
      known = search rules;
      kept = search rules;
    }

pub returns-clause-once : goal.returns-clause-once
returns-clause-once g c = (invariant_of-self-2 g c).once

use Rattle.std.proofs.Common.{rules, ◌≡◌, List, IfNone, get_or, subst}
use Rattle.std.proofs.lemmas.Option.{get_or_from_slice_get}
use Rattle.ts_core.specs.lists.Members.{Among}
use Rattle.ts_core.proofs.lists.TableLemmas.{sought_in_vain}
use Rattle.ts_raw.specs.FieldKeys.{FieldKey, field_key, hash_of_field}
use Rattle.ts_raw.proofs.index.fields.FieldTable.lookup.Goals as goal

pub returns-clause-absent : goal.returns-clause-absent
returns-clause-absent g c =
    let key : FieldKey = field_key c.args.measurement.now c.args.field.now in
    let keys : List FieldKey = c.self.inside.keys.items in
    subst (λ (all : List FieldKey). IfNone c.find.result (Among key all → ⊥)) c.self.view_is
    (sought_in_vain (hash_of_field c.self.inside.seed) keys c.self.inside.chains c.self.invariant key c.hash_field-hash.result c.find.result c.hash_field-hash.ensures c.find.ensures.absent
    (λ n rejected k. let there : (x : FieldKey) → get_or keys n x ≡ key = λ x. get_or_from_slice_get keys n key x k in search (rules, there)))

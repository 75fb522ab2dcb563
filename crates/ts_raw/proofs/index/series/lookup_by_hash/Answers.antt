use Rattle.std.proofs.Common.{rules, ◌≡◌, List, IfNone, get_or, sym, subst}
use Rattle.std.proofs.lemmas.Option.{get_or_from_slice_get}
use Rattle.ts_core.specs.facts.Facts.{Series}
use Rattle.ts_core.specs.lists.Members.{Among}
use Rattle.ts_core.proofs.lists.TableLemmas.{sought_in_vain}
use Rattle.ts_raw.proofs.index.series.lookup_by_hash.Goals as goal

pub returns-in_err-number-clause-absent : goal.returns-in_err-number-clause-absent
returns-in_err-number-clause-absent g c =
    let key : Series = c.args.key.now in
    let keys : List Series = c.args.keys.now in
    subst (λ o. IfNone o (Among key keys → ⊥)) (sym c.from_residual.ensures)
    (subst (λ o. IfNone o (Among key keys → ⊥)) c.in_err-number.was
    (sought_in_vain c.requires.hash_of keys c.args.chains.now c.requires.table key c.args.hash c.find.result c.requires.is c.find.ensures.absent
    (λ n rejected k. let there : (x : Series) → get_or keys n x ≡ key = λ x. get_or_from_slice_get keys n key x k in search (rules, there))))

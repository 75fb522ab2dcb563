use Rattle.std.proofs.Common.{◌≡◌, ◌∙◌, set, slice_set, ap, rules, Ok, Err}
use Rattle.std.proofs.lemmas.List.{length-set}
use Rattle.arrayvec.proofs.ArrayVecLemmas.{items-with_items}
use Rattle.ts_core.specs.text.Texts.{borrowed_pairs}
use Rattle.ts_line.specs.Sorting.{key_offset_from}
use Rattle.ts_line.proofs.SortingLemmas.{Borrowed, put_found, put_new}
use Rattle.ts_line.proofs.line.insert.Goals as goal

pub returns-in-Ok-clause-pairs : goal.returns-in-Ok-clause-pairs
returns-in-Ok-clause-pairs g c =
    let old : Borrowed = c.args.pairs.now.items in
    let found : Ok c.in-Ok.at ≡ key_offset_from 0 c.args.key.now (borrowed_pairs old) = search rules in
    let after : slice_set c.deref_mut.result.now c.in-Ok.at (c.args.key, c.args.value) ≡ set old c.in-Ok.at (c.args.key, c.args.value) = ap (λ (xs : Borrowed). set xs c.in-Ok.at (c.args.key, c.args.value)) c.deref_mut.ensures.value in
    rw after (ap borrowed_pairs (items-with_items c.args.pairs.now (set old c.in-Ok.at (c.args.key, c.args.value)) (length-set old c.in-Ok.at (c.args.key, c.args.value))) ∙ put_found c.args.key c.args.value old c.in-Ok.at found)

pub returns-in-Err-clause-pairs : goal.returns-in-Err-clause-pairs
returns-in-Err-clause-pairs g c =
    let old : Borrowed = c.args.pairs.now.items in
    let found : Err c.in-Err.at ≡ key_offset_from 0 c.args.key.now (borrowed_pairs old) = search rules in
    rw c.insert.ensures.items (put_new c.args.key c.args.value old c.in-Err.at found)

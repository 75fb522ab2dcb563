use Rattle.std.proofs.Common.{◌≡◌, ap, sym, ◌∙◌, take, get_or, Bor, []}
use Rattle.std.proofs.lemmas.List.{take_all}
use Rattle.std.specs.Hash.DefaultHasher.{finish}
use Rattle.std.specs.RandomState.{initial_hasher}
use Rattle.std.specs.declared.hash.DefaultHasher.{DefaultHasher}
use Rattle.ts_core.specs.facts.Facts.{Text}
use Rattle.ts_cells.specs.Grids.{borrowed_texts}
use Rattle.ts_core.specs.text.Hashing.{with_text}
use Rattle.ts_cells.specs.RollupSeriesTable.{hash_of_texts, hash_of_rollup_series}
use Rattle.ts_cells.proofs.RollupSeriesLemmas.{texts_hashed_more}
use Rattle.ts_cells.proofs.rollup_series.hash_rollup_series.Goals as goal

abbrev no_text : Bor Text
no_text = record { ref_ptr = (0, 0); now = [] }

pub loop-text-preserved : goal.loop-text-preserved
loop-text-preserved c =
    c.hash_text-in-loop-text.ensures
    ∙ ap (λ (s : DefaultHasher). with_text s (get_or c.args.group.now c.loop-text.text-index no_text).now) c.loop-text.invariant
    ∙ sym (texts_hashed_more (with_text (initial_hasher c.args.seed.now) c.args.field.now) c.args.group.now c.loop-text.text-index no_text c.loop-text-test.true)

pub returns : goal.returns
unfolding hash_of_rollup_series
returns c =
    let all : take c.loop-text.text-index c.args.group.now ≡ c.args.group.now = take_all c.loop-text.text-index c.args.group.now c.loop-text-test.false in
    c.finish.ensures ∙ ap finish c.loop-text.invariant ∙ ap (λ ts. finish (hash_of_texts (with_text (initial_hasher c.args.seed.now) c.args.field.now) (borrowed_texts ts))) all

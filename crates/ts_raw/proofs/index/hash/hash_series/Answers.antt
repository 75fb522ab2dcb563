use Rattle.std.proofs.Common.{◌≡◌, ap, sym, ◌∙◌, take, get_or, List, Bor, []}
use Rattle.ts_core.specs.facts.Facts.{Text}
use Rattle.std.proofs.lemmas.List.{take_all}
use Rattle.std.specs.Hash.DefaultHasher.{finish}
use Rattle.std.specs.RandomState.{initial_hasher}
use Rattle.std.specs.declared.hash.DefaultHasher.{DefaultHasher}
use Rattle.ts_core.specs.text.Texts.{borrowed_pairs}
use Rattle.ts_core.specs.text.Hashing.{with_text}
use Rattle.ts_raw.specs.Hashes.{hash_of_tags, hash_of_series}
use Rattle.ts_raw.proofs.Hashing.{tags_hashed_more}
use Rattle.ts_raw.proofs.index.hash.hash_series.Goals as goal

abbrev no_tag : Bor Text × Bor Text
no_tag = (record { ref_ptr = (0, 0); now = [] }, record { ref_ptr = (0, 0); now = [] })

pub loop-tag-preserved : goal.loop-tag-preserved
loop-tag-preserved c =
    let h : DefaultHasher = with_text (initial_hasher c.args.seed.now) c.args.key.now.measurement in
    let tags : List (Bor Text × Bor Text) = c.tags-tag-items.result.now in
    c.hash_text-in-loop-tag-2.ensures
    ∙ ap (λ (s : DefaultHasher). with_text s (get_or tags c.loop-tag.tag-index no_tag).1.now) c.hash_text-in-loop-tag.ensures
    ∙ ap (λ (s : DefaultHasher). with_text (with_text s (get_or tags c.loop-tag.tag-index no_tag).0.now) (get_or tags c.loop-tag.tag-index no_tag).1.now) c.loop-tag.invariant
    ∙ sym (tags_hashed_more h tags c.loop-tag.tag-index no_tag c.loop-tag-test.true)

pub returns : goal.returns
unfolding hash_of_series
returns c =
    let tags : List (Bor Text × Bor Text) = c.tags-tag-items.result.now in
    let all : take c.loop-tag.tag-index tags ≡ tags = take_all c.loop-tag.tag-index tags c.loop-tag-test.false in
    c.finish.ensures ∙ ap finish c.loop-tag.invariant
    ∙ ap (λ ts. finish (hash_of_tags (with_text (initial_hasher c.args.seed.now) c.args.key.now.measurement) ts)) (ap borrowed_pairs all ∙ c.tags-tag-items.ensures)

use Rattle.std.proofs.Common.{◌≡◌, ◌≤◌, ◌-◌, map, take, length, get_or, [], sym, subst, ◌∙◌, arith}
use Rattle.std.proofs.lemmas.List.{nil_from_length, length-take-le}
use Rattle.ts_core.specs.text.Texts.{borrowed_pairs}
use Rattle.ts_line.specs.Parts.{LinePart, tag_texts}
use Rattle.ts_line.proofs.SortingLemmas.{insert_all, put_last, entries_put_all, put_all_set}
use Rattle.ts_line.proofs.line.Line.insert_all.Goals as goal

pub loop-left-preserved : goal.loop-left-preserved
loop-left-preserved g c =
    let tag : LinePart × LinePart = (c.tag.inside.key, c.tag.inside.value) in
    let key : c.text.result.now ≡ tag.0.text = c.text.ensures in
    let value : c.text-in-len1-up.result.now ≡ tag.1.text = c.text-in-len1-up.ensures in
    let last : tag ≡ get_or c.loop-left.left.now (length c.loop-left.left.now - 1) tag = subst (λ (t : LinePart × LinePart). t ≡ get_or c.loop-left.left.now (length c.loop-left.left.now - 1) t) (sym c.tag.view_is) c.tag-item.is in
    let some : 1 ≤ length c.loop-left.left.now = omega (arith, c.in-len1-up.len_at_least) in
    let count : length (take (length c.loop-left.left.now - 1) c.loop-left.left.now) ≡ length c.loop-left.left.now - 1 = length-take-le (length c.loop-left.left.now - 1) c.loop-left.left.now (omega arith) in
    record {
      put = rw (c.insert.ensures.pairs, key, value) (put_last c.loop-left.left.now tag (borrowed_pairs c.loop-left.pairs.items) (insert_all (map tag_texts c.args.self.now.tags) []) some last c.loop-left.invariant.put);
      few = omega (arith, some, c.insert.ensures.few, c.loop-left.invariant.few, count);
    }

pub returns-clause-value : goal.returns-clause-value
returns-clause-value g c =
    let none : c.loop-left.left.now ≡ [] = nil_from_length c.loop-left.left.now (omega (arith, c.in_default.len_below)) in
    let done : borrowed_pairs c.loop-left.pairs.items ≡ insert_all (map tag_texts c.args.self.now.tags) [] = rw none at c.loop-left.invariant.put in
    done ∙ sym (entries_put_all (map tag_texts c.args.self.now.tags))

pub returns-clause-set : goal.returns-clause-set
returns-clause-set g c =
    let none : c.loop-left.left.now ≡ [] = nil_from_length c.loop-left.left.now (omega (arith, c.in_default.len_below)) in
    let done : borrowed_pairs c.loop-left.pairs.items ≡ insert_all (map tag_texts c.args.self.now.tags) [] = rw none at c.loop-left.invariant.put in
    put_all_set (map tag_texts c.args.self.now.tags) c.loop-left.pairs.items done

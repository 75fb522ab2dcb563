use Rattle.std.proofs.Common.{◌≡◌, map, true, rules}
use Rattle.ts_core.specs.text.Texts.{borrowed_pairs}
use Rattle.ts_line.specs.Parts.{tag_texts}
use Rattle.ts_line.specs.Sorting.{rise}
use Rattle.ts_line.proofs.SortingLemmas.{in_order, in_order_set}
use Rattle.ts_line.proofs.NameFacts.{named_as}
use Rattle.ts_line.proofs.line.Line.tags_by_key.Goals as goal

pub returns-then-rise-clause-value : goal.returns-then-rise-clause-value
returns-then-rise-clause-value g c =
    let up : rise (map tag_texts c.args.self.now.tags) ≡ true = search rules in
    in_order (map tag_texts c.args.self.now.tags) (borrowed_pairs c.push_all.new.pairs.items) up (search rules)

pub returns-then-rise-clause-set : goal.returns-then-rise-clause-set
returns-then-rise-clause-set g c =
    let up : rise (map tag_texts c.args.self.now.tags) ≡ true = search rules in
    in_order_set (map tag_texts c.args.self.now.tags) c.push_all.new.pairs.items up (search rules)

pub returns-then-rise-clause-named : goal.returns-then-rise-clause-named
returns-then-rise-clause-named g c = named_as _ c.args.self.now c.self.view_is c.self.invariant

pub returns-else-rise-clause-named : goal.returns-else-rise-clause-named
returns-else-rise-clause-named g c = named_as _ c.args.self.now c.self.view_is c.self.invariant

use Rattle.std.proofs.Common.{rules, SFits, to_z, of_z, to_z-of_z, ◌∙◌, ◌≡◌, ℤ, ◌-◌, List, [], ◌∷◌, ◌++◌, map, ap, arith, refl}
use Rattle.ts_image.specs.CellParts.{lows_of}
use Rattle.std.specs.Int.{w64}
use Rattle.ts_image.specs.Formats.{signed_number}
use Rattle.std.proofs.lemmas.Result.{err_from_is_err_and}
use Rattle.std.proofs.lemmas.List.{map_push}
use Rattle.ts_core.proofs.lists.Remaining.{one_left}
use Rattle.ts_image.proofs.Loops.{starts, goes_on, breaks, no_memory_left, finishes}
use Rattle.ts_image.proofs.read.cells.read_lows.Goals as goal

abbrev as_it_is : ℤ → ℤ
as_it_is z = z

same_items : (xs : List ℤ) → xs ≡ map as_it_is xs
same_items [] = refl
same_items (x ∷ xs) = ap (λ (ys : List ℤ). x ∷ ys) (same_items xs)

pub loop-init : goal.loop-init
loop-init g c = starts (signed_number w64) c.args.count c.args.reader.now c.args.source.now (c.args.count - 0) (map as_it_is c.new-lows.result.items) (omega arith) (ap (map as_it_is) c.new-lows.ensures.items) c.requires

pub returns-in_err-low : goal.returns-in_err-low
returns-in_err-low g c =
    let p = err_from_is_err_and c.from_residual.result c.from_residual.ensures.1 in
    rw (p.1, p.2) (breaks (signed_number w64) c.args.count c.args.reader.now c.args.source.now as_it_is _ _ (one_left c.args.count c.loop.counter c.loop-test.true) (map as_it_is c.loop.lows.items) c.loop.reader c.i64.new.self c.loop.source c.i64.new.source c.loop.invariant lows_of c.in_err-low.field-0.0 c.in_err-low.ensures)

pub returns-in_err-push : goal.returns-in_err-push
returns-in_err-push g c =
    let p = err_from_is_err_and c.from_residual-in_err-push.result c.from_residual-in_err-push.ensures.1 in
    rw (p.1, p.2) (no_memory_left (signed_number w64) c.args.count c.args.reader.now c.args.source.now as_it_is _ _ (one_left c.args.count c.loop.counter c.loop-test.true) (map as_it_is c.loop.lows.items) c.loop.reader c.i64.new.self c.loop.source c.i64.new.source c.loop.invariant lows_of c.in_ok-low.low c.in_ok-low.ensures)

pub loop-preserved : goal.loop-preserved
loop-preserved g c =
    let f : SFits w64 c.in_ok-low.low = search rules in
    let e : to_z w64 (of_z w64 c.in_ok-low.low) ≡ c.in_ok-low.low = to_z-of_z f in
    let pushed : map as_it_is c.push.new.self.items ≡ map as_it_is c.loop.lows.items ++ as_it_is c.in_ok-low.low ∷ [] = ap (map as_it_is) c.in_ok-push.ensures.items ∙ ap (λ (z : ℤ). map as_it_is (c.loop.lows.items ++ z ∷ [])) e ∙ map_push as_it_is c.loop.lows.items c.in_ok-low.low in
    goes_on (signed_number w64) c.args.count c.args.reader.now c.args.source.now as_it_is _ _ (one_left c.args.count c.loop.counter c.loop-test.true) (map as_it_is c.loop.lows.items) c.loop.reader c.i64.new.self c.loop.source c.i64.new.source c.loop.invariant c.in_ok-low.low _ pushed c.in_ok-low.ensures

pub returns : goal.returns
returns g c = finishes (signed_number w64) c.args.count c.args.reader.now c.args.source.now (c.args.count - c.loop.counter) (omega arith) (map as_it_is c.loop.lows.items) c.loop.reader c.loop.source lows_of c.loop.lows c.loop.invariant (same_items c.loop.lows.items)

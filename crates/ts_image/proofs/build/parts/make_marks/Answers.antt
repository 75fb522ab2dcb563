use Rattle.std.proofs.Common.{rules, ◌≡◌, ℕ, ℤ, pos, List, [], ◌∷◌, ◌++◌, ◌∙◌, ap, sym, get_or}
use Rattle.std.proofs.lemmas.List.{take_all, take_more}
use Rattle.ts_image.proofs.build.parts.make_marks.Goals as goal

pub loop-low-preserved : goal.loop-low-preserved
loop-low-preserved g c =
    let items : List ℤ = c.deref-low-items.result.now in
    let i : ℕ = c.loop-low.low-index in
    let low : ℤ = get_or items i (pos 0) in
    let pushed : c.push.new.self.items ≡ c.loop-low.lows.items ++ low ∷ [] = search rules in
    let more = take_more items i (pos 0) c.loop-low-test.true in
    pushed ∙ ap (λ (xs : List ℤ). xs ++ low ∷ []) c.loop-low.invariant ∙ sym more

pub returns : goal.returns
returns g c =
    let all = take_all c.loop-low.low-index c.deref-low-items.result.now c.loop-low-test.false in
    let same = c.deref-low-items.ensures.value in
    let lows : c.loop-low.lows.items ≡ c.args.parts.now.lows.items = c.loop-low.invariant ∙ all ∙ same in
    search (rules, lows)

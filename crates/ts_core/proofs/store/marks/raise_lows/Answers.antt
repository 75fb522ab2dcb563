use Rattle.std.proofs.Common.{rules, ◌≡◌, ◌<◌, ◌+◌, ℤ, pos, suc, min, List, length, take, get_or, set, ◌∙◌, ap, ap₂, arith, SFits, to_z-of_z}
use Rattle.std.specs.Int.{int_max, w128}
use Rattle.ts_core.specs.settings.Settings.{Rule}
use Rattle.ts_core.specs.store.History.{kept_since}
use Rattle.ts_core.specs.store.Marks.{index_of}
use Rattle.ts_core.specs.moves.StoreMoves.{raised}
use Rattle.ts_core.proofs.lists.BesideLemmas.{beside-ahead, beside-next, beside-all}
use Rattle.ts_core.proofs.store.marks.raise_lows.Goals as goal

abbrev raise : ℤ → Rule → ℤ → ℤ
raise now r low = int_max low (index_of r (kept_since r.duration now))

pub loop-i-preserved : goal.loop-i-preserved
loop-i-preserved g c =
    let now : ℤ = c.args.now in
    let rs : List Rule = c.args.rules.now in
    let old : List ℤ = c.args.lows.now in
    let lows : List ℤ = c.loop-i.lows in
    let i = c.loop-i.i in
    let r : Rule = c.index-rules-i.result in
    let fits : SFits w128 c.max.result = search rules in
    let low_fits : SFits w128 (get_or lows i (pos 0)) = search rules in
    let index_fits : SFits w128 c.index_of-kept.result = search rules in
    let kept_fits : SFits w128 c.kept_since.result = search rules in
    let kept : c.kept_since.result ≡ kept_since r.duration now = c.kept_since.ensures.value ∙ ap (λ d. kept_since d now) c.duration.ensures.value in
    let index : c.index_of-kept.result ≡ index_of r (kept_since r.duration now) = c.index_of-kept.ensures.index ∙ ap (index_of r) (to_z-of_z kept_fits ∙ kept) in
    let before : get_or lows i (pos 0) ≡ get_or old i (pos 0) = ap (λ (ls : List ℤ). get_or ls i (pos 0)) c.loop-i.invariant ∙ beside-ahead (raise now) rs old i (pos 0) in
    let value : c.max.result ≡ raise now (get_or rs i r) (get_or old i (pos 0)) =
    c.max.ensures.value ∙ ap₂ int_max (to_z-of_z low_fits ∙ before) (to_z-of_z index_fits ∙ index ∙ ap (λ (x : Rule). index_of x (kept_since x.duration now)) c.index-rules-i.is) in
    let within : i < length rs = omega (arith, c.min-i-end.ensures) in
    let inside : i < length old = omega (arith, c.min-i-end.ensures) in
    let next : suc i ≡ i + 1 = omega arith in
    ap₂ (λ (ls : List ℤ) v. set ls i v) c.loop-i.invariant (to_z-of_z fits ∙ value)
    ∙ beside-next (raise now) rs old i r (pos 0) within inside
    ∙ ap (λ n. raised now (take n rs) old) next

pub returns : goal.returns
returns g c =
    let n : c.loop-i.i ≡ min (length c.args.rules.now) (length c.args.lows.now) = omega (arith, c.min-i-end.ensures) in
    let all : raised c.args.now (take c.loop-i.i c.args.rules.now) c.args.lows.now ≡ raised c.args.now c.args.rules.now c.args.lows.now = beside-all (raise c.args.now) c.args.rules.now c.args.lows.now c.loop-i.i n in
    ◌∙◌ {b = raised c.args.now (take c.loop-i.i c.args.rules.now) c.args.lows.now} c.loop-i.invariant all

use Rattle.std.proofs.Common.{rules, ◌≡◌, ◌<◌, ◌≤◌, ◌-◌, List, [], ◌∷◌, length, get_or, refl, sym, subst, arith}
use Rattle.std.proofs.lemmas.Bool.{ltb-true}
use Rattle.ts_raw.specs.declared.block_handle.BlockHandle.{BlockHandle}
use Rattle.ts_raw.specs.CodedPoints.{LastGrows}
use Rattle.ts_raw.proofs.PushedBlocks.{Growing, growing, grows_last}
use Rattle.ts_raw.proofs.appending.can_grow.Goals.{In-Some}
use Rattle.ts_raw.proofs.appending.can_grow.Goals as goal

there : (c : In-Some) → c.in-Some.handle.now ≡ get_or c.args.handles.now (length c.args.handles.now - 1) c.in-Some.handle.now
there c = c.in-Some.ensures.item.1

some : (c : In-Some) → 0 < length c.args.handles.now
some c = ltb-true 0 (length c.args.handles.now) (sym c.in-Some.ensures.item.0)

grows : (c : In-Some) → c.in-Some.handle.now.count < 256 → c.in-Some.handle.now.end ≡ c.args.size → LastGrows c.args.size c.args.handles.now
grows c few ends =
    let ms : List BlockHandle = c.args.handles.now in
    let is = there c in
    grows_last c.args.size ms (length ms - 1) c.in-Some.handle.now refl (some c) (subst (λ (m : BlockHandle). m.count < 256) is few) (subst (λ (m : BlockHandle). m.end ≡ c.args.size) is ends)

last : (c : In-Some) → LastGrows c.args.size c.args.handles.now → Growing c.args.size c.args.handles.now (length c.args.handles.now - 1) c.in-Some.handle.now
last c h =
    let ms : List BlockHandle = c.args.handles.now in
    subst (Growing c.args.size ms (length ms - 1)) (sym (there c)) (growing c.args.size ms (length ms - 1) c.in-Some.handle.now h refl)

pub returns-then-not-is_full : goal.returns-then-not-is_full
returns-then-not-is_full c =
    let at = (goal.at.returns-then-not-is_full c).In-Some in
    let few : c.in-Some.handle.now.count < 256 = search rules in
    (λ yes. grows at few (search (rules, yes)), λ h. let g = last at h in let e = g.ends in search (rules, e))

pub returns-else-not-is_full : goal.returns-else-not-is_full
returns-else-not-is_full c =
    let at = (goal.at.returns-else-not-is_full c).In-Some in
    let full : 256 ≤ c.in-Some.handle.now.count = search rules in
    (λ yes. absurd (search (rules, yes)), λ h. absurd (let g = last at h in let f = g.few in omega arith))

pub returns-in-None : goal.returns-in-None
returns-in-None c = (λ yes. absurd (search (rules, yes)), λ h. absurd (none c.args.handles.now (omega (arith, c.in-None.ensures.item.3)) h))
  where
    none : (ms : List BlockHandle) → length ms ≡ 0 → LastGrows c.args.size ms → ⊥
    none [] e h = h
    none (m ∷ ms) e h = omega arith

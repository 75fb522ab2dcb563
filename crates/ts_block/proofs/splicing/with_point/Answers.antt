use Rattle.std.proofs.Common.{rules, ◌≡◌, ◌∙◌, ap, sym, subst, ◌+◌, ◌<◌, ◌≤ℤ◌, ◌++◌, List, ℤ, ℕ, length, arith, int_lt, SFits, FitsSigned, w64, to_z-of_z, vec_len}
use Rattle.ts_core.specs.facts.Times.{IsTime}
use Rattle.ts_block.specs.Varints.{number_text, zigzag}
use Rattle.ts_block.specs.Appending.{last_time}
use Rattle.ts_block.specs.Splicing.{text_to, count_with, steps_after, IsBlockWith}
use Rattle.ts_block.proofs.DecodingLemmas.{one_reading}
use Rattle.ts_block.proofs.SplicingLemmas.{count_byte, after, value_there, with_one, count_few}
use Rattle.ts_block.proofs.splicing.with_point.Given.{Over}
use Rattle.ts_block.proofs.splicing.with_point.Goals.{After-from-limit}
use Rattle.ts_block.proofs.splicing.with_point.Goals as goal

pub bounds-block-0 : goal.bounds-block-0
bounds-block-0 g c = (count_byte c.args.block.now c.requires.0 c.requires.1).1

counted : (g : Over) (c : After-from-limit g) → c.from-limit.result + 1 ≡ length c.requires.0
counted g c = let n = (count_byte c.args.block.now c.requires.0 c.requires.1).0 in let e = c.from-limit.ensures in omega arith

pub find-place-requires : goal.find-place-requires
find-place-requires g c = let n = counted g (goal.at.find-place-requires g c).After-from-limit in (c.requires.0, c.requires.1, c.requires.2, omega arith)

pub push_to-requires-clause-few : goal.push_to-requires-clause-few
push_to-requires-clause-few g c =
    let n = counted g (goal.at.push_to-requires-clause-few g c).After-from-limit in
    let few = c.requires.3 in
    subst (λ m. m < 256) (sym c.count_after.ensures) (count_few c.from-limit.result c.find-place.result c.args.point.now.0 (omega arith))

pub push_to-requires-clause-after : goal.push_to-requires-clause-after
push_to-requires-clause-after g c = after c.requires.0 c.requires.1.points_are c.args.point.now.0 c.args.point.now.1 c.from-limit.result c.find-place.result (c.find-place.ensures c.requires.0 c.requires.1)

pub rest_after-requires : goal.rest_after-requires
rest_after-requires g c = value_there c.requires.0 c.requires.1.points_are c.args.point.now.0 c.args.point.now.1 c.from-limit.result c.find-place.result (c.find-place.ensures c.requires.0 c.requires.1)

pub returns : goal.returns
returns g c = λ points b.
    let same : c.requires.0 ≡ points = one_reading c.args.block.now c.requires.0 points c.requires.1 b in
    let n = subst (λ (x : List (ℤ × ℤ)). c.from-limit.result + 1 ≡ length x) same (counted g (goal.at.returns g c).After-from-limit) in
    let few = subst (λ (x : List (ℤ × ℤ)). length x < 256) same c.requires.3 in
    let reach = subst (λ (x : List (ℤ × ℤ)). c.args.point.now.0 ≤ℤ last_time x) same c.requires.4 in
    let valid : IsTime c.args.point.now.0 = subst IsTime c.nanos-valid.ensures.value c.nanos-valid.ensures.valid in
    let s : SFits w64 c.args.point.now.1 = search rules in
    let fits : FitsSigned w64 c.args.point.now.1 = search rules in
    let z : c.to_zigzag.result ≡ zigzag c.args.point.now.1 = c.to_zigzag.ensures ∙ ap zigzag (to_z-of_z s) in
    let t : ℤ = c.args.point.now.0 in
    let p = c.find-place.result in
    let o : c.push_to.new.out.items ≡ text_to c.count_after.result p t = c.in_ok-push_to.ensures ∙ ap (λ (x : List ℕ). x ++ text_to c.count_after.result p t) c.in_ok-out.ensures.items in
    let a : c.push_after.new.out.items ≡ c.push_to.new.out.items ++ steps_after p t = c.in_ok-push_after.ensures in
    let d : c.extend_from_slice.new.self.items ≡ c.push_after.new.out.items ++ p.earlier_values.now = c.in_ok-extend_from_slice.ensures.items in
    let e : c.push_number.new.out.items ≡ c.extend_from_slice.new.self.items ++ number_text c.to_zigzag.result = c.in_ok-push_number.ensures in
    let f : c.extend_from_slice-2.new.self.items ≡ c.push_number.new.out.items ++ c.rest_after.result.now = c.in_ok-extend_from_slice-2.ensures.items in
    let k : c.count_after.result ≡ count_with c.from-limit.result p t = c.count_after.ensures in
    let front : c.push_after.new.out.items ≡ text_to (count_with c.from-limit.result p t) p t ++ steps_after p t = a ∙ (λ i. (o ∙ ap (λ m. text_to m p t) k) i ++ steps_after p t) in
    let out = f ∙ (λ i. (e ∙ (λ j. (d ∙ ap (λ (x : List ℕ). x ++ p.earlier_values.now) front) j ++ number_text (z j))) i ++ c.rest_after.ensures i) in
    let values : c.len-values.result ≡ length (text_to (count_with c.from-limit.result p t) p t ++ steps_after p t) = c.len-values.ensures ∙ (let size : vec_len c.push_after.new.out ≡ length c.push_after.new.out.items = omega (arith, c.push_after.new.out.ok.0) in size) ∙ ap length front in
    let whole = with_one points b.points_are t c.args.point.now.1 c.from-limit.result p (c.find-place.ensures points b) valid fits n few reach in
    subst (λ m. IsBlockWith points c.args.point.now c.extend_from_slice-2.new.self.items c.len-values.result m) (sym c.is_before.ensures)
    (subst (λ m. IsBlockWith points c.args.point.now c.extend_from_slice-2.new.self.items m (int_lt t p.time)) (sym values)
    (subst (λ (x : List ℕ). IsBlockWith points c.args.point.now x (length (text_to (count_with c.from-limit.result p t) p t ++ steps_after p t)) (int_lt t p.time)) (sym out) whole))

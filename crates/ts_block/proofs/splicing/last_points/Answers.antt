use Rattle.std.proofs.Common.{rules, ◌≡◌, ◌∙◌, ap, sym, subst, ◌+◌, ◌-◌, ◌<◌, ◌++◌, List, ℤ, ℕ, length, drop, arith, vec_len}
use Rattle.ts_block.specs.Blocks.{head_text}
use Rattle.ts_block.specs.Appending.{last_time}
use Rattle.ts_block.specs.Splicing.{IsPart}
use Rattle.ts_block.proofs.DecodingLemmas.{one_reading}
use Rattle.ts_block.proofs.SplicingLemmas.{count_byte, last_part}
use Rattle.ts_block.proofs.splicing.last_points.Goals as goal

pub bounds-block-0 : goal.bounds-block-0
bounds-block-0 g c = let h = (count_byte c.args.block.now c.requires.0 c.requires.1).1 in search rules

pub overflow_sub-from : goal.overflow_sub-from
overflow_sub-from g c = let n = (count_byte c.args.block.now c.requires.0 c.requires.1).0 in let e = c.from.ensures in let few = c.requires.4 in omega arith

pub returns : goal.returns
returns g c = λ points b.
    let same : c.requires.0 ≡ points = one_reading c.args.block.now c.requires.0 points c.requires.1 b in
    let is_last = subst (λ (x : List (ℤ × ℤ)). c.args.last ≡ last_time x) same c.requires.3 in
    let few = subst (λ (x : List (ℤ × ℤ)). c.args.count < length x) same c.requires.4 in
    let counted : c.from.result + 1 ≡ length points = let n = (count_byte c.args.block.now points b).0 in let e = c.from.ensures in omega arith in
    let p = c.find-place.result in
    let h : List ℕ = head_text (c.from.result - c.args.count) p.time in
    let o : c.push_head.new.out.items ≡ head_text (c.from.result - c.args.count) p.time = c.in_ok-push_head.ensures ∙ ap (λ (x : List ℕ). x ++ head_text (c.from.result - c.args.count) p.time) c.in_ok-out.ensures.items in
    let a : c.extend_from_slice.new.self.items ≡ head_text (c.from.result - c.args.count) p.time ++ p.later_steps.now = c.in_ok-extend_from_slice.ensures.items ∙ ap (λ (x : List ℕ). x ++ p.later_steps.now) o in
    let out : c.extend_from_slice-2.new.self.items ≡ (head_text (c.from.result - c.args.count) p.time ++ p.later_steps.now) ++ p.later_values.now = c.in_ok-extend_from_slice-2.ensures.items ∙ ap (λ (x : List ℕ). x ++ p.later_values.now) a in
    let values : c.len-values.result ≡ length (head_text (c.from.result - c.args.count) p.time ++ p.later_steps.now) = c.len-values.ensures ∙ (let size : vec_len c.extend_from_slice.new.self ≡ length c.extend_from_slice.new.self.items = omega (arith, c.extend_from_slice.new.self.ok.0) in size) ∙ ap length a in
    subst (λ m. IsPart (drop c.args.count points) c.extend_from_slice-2.new.self.items m (last_time points)) (sym values)
    (subst (λ (x : List ℕ). IsPart (drop c.args.count points) x (length (head_text (c.from.result - c.args.count) p.time ++ p.later_steps.now)) (last_time points)) (sym out)
    (last_part points b.points_are c.args.count c.args.last is_last few p (c.find-place.ensures points b) c.from.result counted))

use Rattle.std.proofs.Common.{◌≡◌, ◌∙◌, ap, sym, subst, ◌-◌, ◌<◌, ◌++◌, List, ℤ, ℕ, length, take, arith, vec_len}
use Rattle.ts_block.specs.Blocks.{head_text}
use Rattle.ts_block.specs.Appending.{last_time}
use Rattle.ts_block.specs.Splicing.{IsPart}
use Rattle.ts_block.proofs.DecodingLemmas.{one_reading}
use Rattle.ts_block.proofs.SplicingLemmas.{first_part}
use Rattle.ts_block.proofs.splicing.first_points.Goals as goal

pub returns : goal.returns
returns g c = λ points b.
    let same : c.requires.0 ≡ points = one_reading c.args.block.now c.requires.0 points c.requires.1 b in
    let is_last = subst (λ (x : List (ℤ × ℤ)). c.args.last ≡ last_time x) same c.requires.3 in
    let few = subst (λ (x : List (ℤ × ℤ)). c.args.count < length x) same c.requires.5 in
    let p = c.find-place.result in
    let o : c.push_head.new.out.items ≡ head_text (c.args.count - 1) p.first = c.in_ok-push_head.ensures ∙ ap (λ (x : List ℕ). x ++ head_text (c.args.count - 1) p.first) c.in_ok-out.ensures.items in
    let a : c.extend_from_slice.new.self.items ≡ head_text (c.args.count - 1) p.first ++ p.earlier_steps.now = c.in_ok-extend_from_slice.ensures.items ∙ ap (λ (x : List ℕ). x ++ p.earlier_steps.now) o in
    let out : c.extend_from_slice-2.new.self.items ≡ (head_text (c.args.count - 1) p.first ++ p.earlier_steps.now) ++ p.earlier_values.now = c.in_ok-extend_from_slice-2.ensures.items ∙ ap (λ (x : List ℕ). x ++ p.earlier_values.now) a in
    let values : c.len-values.result ≡ length (head_text (c.args.count - 1) p.first ++ p.earlier_steps.now) = c.len-values.ensures ∙ (let size : vec_len c.extend_from_slice.new.self ≡ length c.extend_from_slice.new.self.items = omega (arith, c.extend_from_slice.new.self.ok.0) in size) ∙ ap length a in
    subst (λ m. IsPart (take c.args.count points) c.extend_from_slice-2.new.self.items m p.before) (sym values)
    (subst (λ (x : List ℕ). IsPart (take c.args.count points) x (length (head_text (c.args.count - 1) p.first ++ p.earlier_steps.now)) p.before) (sym out)
    (first_part points b.points_are c.args.count c.args.last is_last few p (c.find-place.ensures points b) c.requires.4))

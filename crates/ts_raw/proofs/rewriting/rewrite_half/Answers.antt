use Rattle.std.proofs.Common.{rules, ◌≡◌, ◌∙◌, ap, sym, subst, ◌<ℤ◌, ◌≤ℤ◌, ℕ, List, length, take, vec_len, arith}
use Rattle.ts_raw.proofs.SplicedLemmas.{behind_first, behind_second, in_first, in_second, second_last}
use Rattle.ts_raw.proofs.rewriting.rewrite_half.Goals as goal

pub returns-then-le-clause-blocks : goal.returns-then-le-clause-blocks
returns-then-le-clause-blocks g c =
    let old : List ℕ = c.args.bytes.now.items in
    let new : List ℕ = c.copy_with.new.bytes.items in
    let front : take (length old) new ≡ old = ap (λ n. take n new) (let n : length old ≡ vec_len c.args.bytes.now = omega (arith, c.args.bytes.now.ok.0) in n) ∙ c.in_ok-new.ensures.kept in
    let reach : c.args.point.now.0 ≤ℤ c.args.first.now.last = search rules in
    (in_first old c.args.first.now c.args.second.now c.requires.1 c.requires.2 c.args.point.now.0 c.args.point.now.1 new front c.in_ok-new.new reach c.in_ok-new.ensures.block).0

pub returns-then-le-clause-points : goal.returns-then-le-clause-points
returns-then-le-clause-points g c = λ from points h.
    let old : List ℕ = c.args.bytes.now.items in
    let new : List ℕ = c.copy_with.new.bytes.items in
    let front : take (length old) new ≡ old = ap (λ n. take n new) (let n : length old ≡ vec_len c.args.bytes.now = omega (arith, c.args.bytes.now.ok.0) in n) ∙ c.in_ok-new.ensures.kept in
    let reach : c.args.point.now.0 ≤ℤ c.args.first.now.last = search rules in
    (in_first old c.args.first.now c.args.second.now points h c.args.point.now.0 c.args.point.now.1 new front c.in_ok-new.new reach c.in_ok-new.ensures.block).1

pub returns-then-le-clause-behind : goal.returns-then-le-clause-behind
returns-then-le-clause-behind g c = λ from points h.
    let old : List ℕ = c.args.bytes.now.items in
    let new : List ℕ = c.copy_with.new.bytes.items in
    let front : take (length old) new ≡ old = ap (λ n. take n new) (let n : length old ≡ vec_len c.args.bytes.now = omega (arith, c.args.bytes.now.ok.0) in n) ∙ c.in_ok-new.ensures.kept in
    behind_first old c.args.first.now c.args.second.now points h c.args.point.now.0 c.args.point.now.1 new front c.in_ok-new.new (omega (arith, c.in_ok-new.ensures.block.starts, c.args.bytes.now.ok.0))

pub returns-clause-behind : goal.returns-clause-behind
returns-clause-behind g c = λ from points h.
    let old : List ℕ = c.args.bytes.now.items in
    let new : List ℕ = c.copy_with-2.new.bytes.items in
    let front : take (length old) new ≡ old = ap (λ n. take n new) (let n : length old ≡ vec_len c.args.bytes.now = omega (arith, c.args.bytes.now.ok.0) in n) ∙ c.in_ok-new-2.ensures.kept in
    behind_second old c.args.first.now c.args.second.now points h c.args.point.now.0 c.args.point.now.1 new front c.in_ok-new-2.new (omega (arith, c.in_ok-new-2.ensures.block.starts, c.args.bytes.now.ok.0))

pub copy_with-requires-2-clause-reached : goal.copy_with-requires-2-clause-reached
copy_with-requires-2-clause-reached g c = subst (λ z. c.args.point.now.0 ≤ℤ z) (sym (second_last c.args.bytes.now.items c.args.first.now c.args.second.now c.requires.1 c.requires.2 c.args.point.now.0 c.args.point.now.1)) c.requires.3

pub returns-clause-blocks : goal.returns-clause-blocks
returns-clause-blocks g c =
    let old : List ℕ = c.args.bytes.now.items in
    let new : List ℕ = c.copy_with-2.new.bytes.items in
    let front : take (length old) new ≡ old = ap (λ n. take n new) (let n : length old ≡ vec_len c.args.bytes.now = omega (arith, c.args.bytes.now.ok.0) in n) ∙ c.in_ok-new-2.ensures.kept in
    let less : c.args.first.now.last <ℤ c.args.point.now.0 = search rules in
    (in_second old c.args.first.now c.args.second.now c.requires.1 c.requires.2 c.args.point.now.0 c.args.point.now.1 new front c.in_ok-new-2.new less c.in_ok-new-2.ensures.block).0

pub returns-clause-points : goal.returns-clause-points
returns-clause-points g c = λ from points h.
    let old : List ℕ = c.args.bytes.now.items in
    let new : List ℕ = c.copy_with-2.new.bytes.items in
    let front : take (length old) new ≡ old = ap (λ n. take n new) (let n : length old ≡ vec_len c.args.bytes.now = omega (arith, c.args.bytes.now.ok.0) in n) ∙ c.in_ok-new-2.ensures.kept in
    let less : c.args.first.now.last <ℤ c.args.point.now.0 = search rules in
    (in_second old c.args.first.now c.args.second.now points h c.args.point.now.0 c.args.point.now.1 new front c.in_ok-new-2.new less c.in_ok-new-2.ensures.block).1

use Rattle.std.proofs.Common.{rules, ◌≡◌, ◌+◌, ◌<◌, ℕ, List, length, None, Some, sym, subst, ◌∙◌, arith}
use Rattle.ts_raw.specs.declared.block_handle.BlockHandle.{BlockHandle}
use Rattle.ts_raw.proofs.SlidingLemmas.{IsLeast, least_before, least_stays, least_first, least_sooner, least_none, least_next}
use Rattle.ts_raw.proofs.sliding.search_next.Goals.{in-None, in-Some+then-handle-start, in-Some+else-handle-start}
use Rattle.ts_raw.proofs.sliding.search_next.Goals as goal

pub loop-at-init : goal.loop-at-init
loop-at-init c = λ k d u. absurd (omega arith)

pub loop-at-preserved-then-handle-from : goal.loop-at-preserved-then-handle-from
loop-at-preserved-then-handle-from c =
    let within : c.loop-at.at < length c.args.handles.now = search rules in
    least_before c.args.from c.args.handles.now c.loop-at.at c.index-handles-at.result within c.index-handles-at.is c.loop-at.next c.if-handle-from.true c.loop-at.invariant

pub loop-at-preserved : goal.loop-at-preserved
loop-at-preserved c =
    let from : ℕ = c.args.from in
    let ms : List BlockHandle = c.args.handles.now in
    let i : ℕ = c.loop-at.at in
    let m : BlockHandle = c.index-handles-at.result in
    let within : i < length ms = search rules in
    let there = c.index-handles-at.is in
    elim c.match-next.branch [
      | in-None w ↦ subst (IsLeast from ms (i + 1)) (sym w.next-is) (least_first from ms i m within there c.if-handle-from.false (subst (IsLeast from ms i) w.in-None.is c.loop-at.invariant))
      | in-Some+then-handle-start w ↦
          subst (IsLeast from ms (i + 1)) (sym w.next-is) (least_sooner from ms i m within there (w.in-Some.field-0-0, w.in-Some.start) c.if-handle-from.false w.if-handle-start.true (subst (IsLeast from ms i) w.in-Some.is c.loop-at.invariant))
      | in-Some+else-handle-start w ↦
          subst (IsLeast from ms (i + 1)) (sym (w.next-is ∙ w.in-Some.is)) (least_stays from ms i m within there (w.in-Some.field-0-0, w.in-Some.start) w.if-handle-start.false (subst (IsLeast from ms i) w.in-Some.is c.loop-at.invariant))
    ]

pub returns-in_err-at-clause-none : goal.returns-in_err-at-clause-none
returns-in_err-at-clause-none c = λ none.
    let all : c.loop-at.at ≡ length c.args.handles.now = omega (arith, c.loop-at-test.false, c.loop-at.auto.at-end) in
    least_none c.args.from c.args.handles.now (subst (λ n. IsLeast c.args.from c.args.handles.now n None) all (subst (IsLeast c.args.from c.args.handles.now c.loop-at.at) c.in_err-at.was c.loop-at.invariant))

pub returns-clause-next : goal.returns-clause-next
returns-clause-next c =
    let all : c.loop-at.at ≡ length c.args.handles.now = omega (arith, c.loop-at-test.false, c.loop-at.auto.at-end) in
    let x : ℕ × ℕ = (c.in_ok-at.at, c.in_ok-at.field-0-1) in
    least_next c.args.from c.args.handles.now x (subst (λ n. IsLeast c.args.from c.args.handles.now n (Some x)) all (subst (IsLeast c.args.from c.args.handles.now c.loop-at.at) c.in_ok-at.was c.loop-at.invariant))

use Rattle.std.proofs.Common.{rules, ◌≡◌, ◌<◌, pos, ◌≤ℤ◌, ◌<ℤ◌, Some, true, false, subst, sym, ap}
use Rattle.ts_core.specs.settings.Settings.{Rule}
use Rattle.ts_core.specs.plans.Pieces.{MarkedRule}
use Rattle.ts_core.proofs.plans.GoodPlaces.{rule_wide}
use Rattle.ts_plan.specs.Steps.{matches_query}
use Rattle.ts_plan.proofs.Scans.{Scanned, left_to, scan_begin, scan_more, scan_smaller, scan_stop, adds_none}
use Rattle.ts_plan.proofs.steps.push_steps.Goals as goal

pub returns-then-not-matches_query : goal.returns-then-not-matches_query
returns-then-not-matches_query g c =
    let t = c.args.context.now in
    let r = c.args.marked.now in
    let none : matches_query t.query r.rule ≡ false = search rules in
    adds_none t c.args.number r c.args.steps.now.items c.requires.rule none

pub is_aligned-aligned-requires : goal.is_aligned-aligned-requires
is_aligned-aligned-requires g c =
    let wide = rule_wide c.args.context.now.rules c.args.number c.args.marked.now c.requires.plannable.wide.rules c.requires.rule in
    subst (λ (r : Rule). pos 1 ≤ℤ r.interval) (sym (ap (λ (m : MarkedRule). m.rule) c.marked.view_is)) wide

pub first_boundary-next-requires : goal.first_boundary-next-requires
first_boundary-next-requires g c =
    let wide = rule_wide c.args.context.now.rules c.args.number c.args.marked.now c.requires.plannable.wide.rules c.requires.rule in
    subst (λ (r : Rule). pos 1 ≤ℤ r.interval) (sym (ap (λ (m : MarkedRule). m.rule) c.marked.view_is)) wide

pub push_step-requires-clause-rule : goal.push_step-requires-clause-rule
push_step-requires-clause-rule g c = rule_wide c.args.context.now.rules c.args.number c.args.marked.now c.requires.plannable.wide.rules c.requires.rule

pub loop-next-init : goal.loop-next-init
loop-next-init g c =
    let start : c.new-start.result ≡ c.args.context.now.query.from = search rules in
    let end : c.new-end.result ≡ c.args.context.now.query.to = search rules in
    scan_begin c.args.context.now c.args.number c.args.marked.now c.first_boundary-next.result c.args.steps.now.items _ _ _ c.requires.rule c.requires.plannable
    (ap (λ (m : MarkedRule). m.rule) c.marked.view_is) start end c.first_boundary-next.ensures

pub loop-next-smaller : goal.loop-next-smaller
loop-next-smaller g c =
    let t = c.args.context.now in
    let r = c.args.marked.now in
    let k : Scanned t c.args.number r (Some c.in-Some.from) c.args.steps.now.items c.loop-next.steps.items = rw c.in-Some.is at c.loop-next.invariant in
    subst (λ z. left_to t.query.to c.in_ok-next.next < left_to t.query.to z) (sym c.in-Some.is)
    (scan_smaller t r c.in-Some.from c.in_ok-next.next (rule_wide t.rules c.args.number r c.requires.plannable.wide.rules c.requires.rule) k.instant.2 c.in_ok-next.ensures.next)

pub loop-next-preserved : goal.loop-next-preserved
loop-next-preserved g c =
    let t = c.args.context.now in
    let r = c.args.marked.now in
    let k : Scanned t c.args.number r (Some c.in-Some.from) c.args.steps.now.items c.loop-next.steps.items = rw c.in-Some.is at c.loop-next.invariant in
    let m : c.in-Some.from <ℤ t.mark = search rules in
    let columns : matches_query t.query r.rule ≡ true = search rules in
    scan_more t c.args.number r c.in-Some.from c.in_ok-next.next c.args.steps.now.items c.loop-next.steps.items c.push_step.new.steps.items c.requires.plannable c.requires.rule columns m c.in_ok-next.ensures.next c.in_ok-next.ensures.steps k

pub returns-then-ge : goal.returns-then-ge
returns-then-ge g c =
    let t = c.args.context.now in
    let r = c.args.marked.now in
    let k : Scanned t c.args.number r (Some c.in-Some.from) c.args.steps.now.items c.loop-next.steps.items = rw c.in-Some.is at c.loop-next.invariant in
    let m : t.mark ≤ℤ c.in-Some.from = search rules in
    scan_stop t c.args.number r c.in-Some.from c.args.steps.now.items c.loop-next.steps.items m k

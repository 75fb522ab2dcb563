use Rattle.std.proofs.Common.{◌≡◌, ◌<◌, ◌≤◌, ◌+◌, ◌^◌, ◌≤ℤ◌, ◌∙◌, ap, sym, length, arith, false}
use Rattle.std.proofs.lemmas.List.{length-map}
use Rattle.ts_core.specs.store.StoreData.{StoreData}
use Rattle.ts_line.specs.Parts.{series_of, fact_of, line_facts}
use Rattle.ts_store.specs.write.Refusals.{write_fault, is_too_many}
use Rattle.ts_store.proofs.store.Stands.{not_before, facts_refused, welcome}
use Rattle.ts_store.proofs.store.Store.refusal.Goals as goal

pub returns-then-fields-self : goal.returns-then-fields-self
returns-then-fields-self g c =
    let inside = c.self.inside in
    let line = c.args.line.now in
    let late : inside.marks.raw ≤ℤ line.time = not_before line.time inside.marks.raw c.time.result c.raw.result c.time.ensures c.raw.ensures (sym c.lt.ensures ∙ c.if-lt.false) in
    let registers : is_too_many inside.facts.series (series_of line) ≡ false =
    sym (ap (is_too_many inside.facts.series) c.requires) ∙ sym c.refuses.ensures ∙ c.if-refuses.false in
    let fields = ap length c.fields.ensures.value in
    let facts = length-map line.fields (fact_of line) in
    let many : 2 ^ 62 < inside.accepted + length (line_facts line) = let more = c.if-fields-self.true in omega (arith, fields, facts, more) in
    sym (facts_refused inside.marks.raw inside.facts.series inside.accepted line late registers many) ∙ ap (λ (k : StoreData). write_fault k.raw_mark k.series k.accepted line) c.self.view_is

pub returns : goal.returns
returns g c =
    let inside = c.self.inside in
    let line = c.args.line.now in
    let late : inside.marks.raw ≤ℤ line.time = not_before line.time inside.marks.raw c.time.result c.raw.result c.time.ensures c.raw.ensures (sym c.lt.ensures ∙ c.if-lt.false) in
    let registers : is_too_many inside.facts.series (series_of line) ≡ false =
    sym (ap (is_too_many inside.facts.series) c.requires) ∙ sym c.refuses.ensures ∙ c.if-refuses.false in
    let fields = ap length c.fields.ensures.value in
    let facts = length-map line.fields (fact_of line) in
    let all = c.self.invariant.sized.accepted in
    let few : inside.accepted + length (line_facts line) ≤ 2 ^ 62 = let more = c.if-fields-self.false in omega (arith, fields, facts, more, all) in
    sym (welcome inside.marks.raw inside.facts.series inside.accepted line late registers few) ∙ ap (λ (k : StoreData). write_fault k.raw_mark k.series k.accepted line) c.self.view_is

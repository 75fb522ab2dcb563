use Rattle.std.proofs.Common.{◌≡◌, ◌+◌, ◌≤◌, sym, ◌∙◌, ap, subst, List, length, ℕ, ℤ, inr, Err, map, rules, arith}
use Rattle.std.proofs.lemmas.List.{length-map}
use Rattle.std.proofs.lemmas.Result.{err_from_is_err_and}
use Rattle.ts_core.specs.settings.Settings.{Rule}
use Rattle.ts_core.specs.text.Texts.{borrowed_pairs}
use Rattle.ts_core.specs.store.StoreStates.{column_of}
use Rattle.ts_core.specs.store.StoreData.{StoreData}
use Rattle.ts_line.specs.Names.{AreKeys}
use Rattle.ts_line.specs.Parts.{LinePart, Parts, fact_of, field_text, line_facts}
use Rattle.ts_store.specs.write.LinesInColumns.{PutsLine, GrowsForLine}
use Rattle.ts_store.specs.write.LinesPut.{Accepts, Leaves}
use Rattle.ts_store.specs.retain.OpenRuns.{data_of_parts}
use Rattle.ts_store.specs.store.SoundStores.{IsSoundStore}
use Rattle.ts_store.specs.write.Refusals.{write_fault}
use Rattle.ts_store.specs.write.LivePuts.{StayLive}
use Rattle.ts_store.specs.rollup.Rollups.{AreRollups, cells_of}
use Rattle.ts_store.proofs.store.Stands.{series_from, accepted_by, left_by, kept_left, kept_accepted, not_refused, taken_from, stay_live}
use Rattle.ts_store.proofs.store.Store.write_tagged.Goals as goal

pub refusal-requires : goal.refusal-requires
refusal-requires g c =
    c.new-key.ensures
    ∙ series_from c.args.line.now c.text.result.now (borrowed_pairs c.args.tags.now) (c.text.ensures ∙ ap (λ (q : LinePart). q.text) c.measurement.ensures) c.requires.tags

pub insert_line-requires-clause-key : goal.insert_line-requires-clause-key
insert_line-requires-clause-key g c =
    c.new-key.ensures
    ∙ series_from c.args.line.now c.text.result.now (borrowed_pairs c.args.tags.now) (c.text.ensures ∙ ap (λ (q : LinePart). q.text) c.measurement.ensures) c.requires.tags

pub insert_line-requires-clause-few : goal.insert_line-requires-clause-few
insert_line-requires-clause-few g c =
    let i = c.self.inside in
    (not_refused i.marks.raw i.facts.series i.accepted c.args.line.now (ap (λ (k : StoreData). write_fault k.raw_mark k.series k.accepted c.args.line.now) c.self.view_is ∙ sym c.refusal.ensures ∙ c.in_default.is)).registers

pub insert_line-requires-clause-rollups : goal.insert_line-requires-clause-rollups
insert_line-requires-clause-rollups g c =
    let facts = c.self.inside.facts in
    subst (λ (rs : List Rule). AreRollups rs (map column_of facts.columns) facts.rollups) (sym c.rules.ensures.value) c.self.invariant.rollups

pub insert_line-requires-clause-live : goal.insert_line-requires-clause-live
insert_line-requires-clause-live g c =
    let before = c.self.inside in
    subst (λ (rs : List Rule). StayLive rs c.lows.result.now before.facts.columns (cells_of before.facts.rollups)) (sym c.rules.ensures.value)
    (subst (λ (ls : List ℤ). StayLive before.settings.rules ls before.facts.columns (cells_of before.facts.rollups)) (sym c.lows.ensures) (stay_live before.settings before.marks before.accepted before.facts before.run c.self.invariant))

pub insert_line-requires-clause-fit : goal.insert_line-requires-clause-fit
insert_line-requires-clause-fit g c =
    let i = c.self.inside in
    let few = (not_refused i.marks.raw i.facts.series i.accepted c.args.line.now (ap (λ (k : StoreData). write_fault k.raw_mark k.series k.accepted c.args.line.now) c.self.view_is ∙ sym c.refusal.ensures ∙ c.in_default.is)).few in
    let held = c.self.invariant.sized.facts in
    omega (arith, held, few)

pub invariant_of-self : goal.invariant_of-self
invariant_of-self g c =
    let before = c.self.inside in
    let line : Parts = c.args.line.now in
    let grows : GrowsForLine before.settings.rules before.marks.lows before.facts c.insert_line.new.self line = subst (λ (ls : List ℤ). GrowsForLine before.settings.rules ls before.facts c.insert_line.new.self line) c.lows.ensures (subst (λ (rs : List Rule). GrowsForLine rs c.lows.result.now before.facts c.insert_line.new.self line) c.rules.ensures.value c.in_err-insert_line.ensures.err) in
    let welcome = not_refused before.marks.raw before.facts.series before.accepted line (ap (λ (k : StoreData). write_fault k.raw_mark k.series k.accepted line) c.self.view_is ∙ sym c.refusal.ensures ∙ c.in_default.is) in
    kept_left before.settings before.marks before.accepted before.facts c.insert_line.new.self before.run line c.self.invariant welcome.registers c.requires.named (subst (λ (l : List (LinePart × ℤ)). AreKeys (map field_text l)) c.fields.ensures.value c.fields.ensures.named) grows

pub returns-in_err-insert_line : goal.returns-in_err-insert_line
returns-in_err-insert_line g c =
    let before = c.self.inside in
    let line : Parts = c.args.line.now in
    let grows : GrowsForLine before.settings.rules before.marks.lows before.facts c.insert_line.new.self line = subst (λ (ls : List ℤ). GrowsForLine before.settings.rules ls before.facts c.insert_line.new.self line) c.lows.ensures (subst (λ (rs : List Rule). GrowsForLine rs c.lows.result.now before.facts c.insert_line.new.self line) c.rules.ensures.value c.in_err-insert_line.ensures.err) in
    let p = err_from_is_err_and c.from_residual.result c.from_residual.ensures.1 in
    record {
      ok = search rules;
      refused = search rules;
      taken = λ none.
          inr (
            p.1 ∙ ap Err p.2,
            subst (λ (k : StoreData). Leaves k (data_of_parts before.settings before.marks before.accepted c.insert_line.new.self before.run) line) c.self.view_is
                (left_by before.settings before.marks before.accepted before.facts c.insert_line.new.self before.run line c.self.invariant grows),
          );
    }

pub overflow_add-self : goal.overflow_add-self
overflow_add-self g c =
    let before = c.self.inside in
    let line : Parts = c.args.line.now in
    let welcome = not_refused before.marks.raw before.facts.series before.accepted line (ap (λ (k : StoreData). write_fault k.raw_mark k.series k.accepted line) c.self.view_is ∙ sym c.refusal.ensures ∙ c.in_default.is) in
    let many : length c.fields.result.now ≡ length (line_facts line) = ap (λ (l : List (LinePart × ℤ)). length l) c.fields.ensures.value ∙ sym (length-map line.fields (fact_of line)) in
    let all = welcome.few in
    let few : before.accepted + length c.fields.result.now ≤ 4611686018427387904 = omega (arith, many, all) in
    search rules

pub invariant_of-self-2 : goal.invariant_of-self-2
invariant_of-self-2 g c =
    let before = c.self.inside in
    let line : Parts = c.args.line.now in
    let welcome = not_refused before.marks.raw before.facts.series before.accepted line (ap (λ (k : StoreData). write_fault k.raw_mark k.series k.accepted line) c.self.view_is ∙ sym c.refusal.ensures ∙ c.in_default.is) in
    let many : length c.fields.result.now ≡ length (line_facts line) = ap (λ (l : List (LinePart × ℤ)). length l) c.fields.ensures.value ∙ sym (length-map line.fields (fact_of line)) in
    let put : PutsLine before.settings.rules before.marks.lows before.facts c.insert_line.new.self line = subst (λ (ls : List ℤ). PutsLine before.settings.rules ls before.facts c.insert_line.new.self line) c.lows.ensures (subst (λ (rs : List Rule). PutsLine rs c.lows.result.now before.facts c.insert_line.new.self line) c.rules.ensures.value c.in_ok-insert_line.ensures.ok) in
    subst (λ (n : ℕ). IsSoundStore before.settings before.marks (before.accepted + n) c.insert_line.new.self before.run) (sym many)
    (kept_accepted before.settings before.marks before.accepted before.facts c.insert_line.new.self before.run line c.self.invariant welcome.registers c.requires.named (subst (λ (l : List (LinePart × ℤ)). AreKeys (map field_text l)) c.fields.ensures.value c.fields.ensures.named) put welcome.few)

pub returns : goal.returns
returns g c =
    let before = c.self.inside in
    let line : Parts = c.args.line.now in
    let welcome = not_refused before.marks.raw before.facts.series before.accepted line (ap (λ (k : StoreData). write_fault k.raw_mark k.series k.accepted line) c.self.view_is ∙ sym c.refusal.ensures ∙ c.in_default.is) in
    let many : length c.fields.result.now ≡ length (line_facts line) = ap (λ (l : List (LinePart × ℤ)). length l) c.fields.ensures.value ∙ sym (length-map line.fields (fact_of line)) in
    let put : PutsLine before.settings.rules before.marks.lows before.facts c.insert_line.new.self line = subst (λ (ls : List ℤ). PutsLine before.settings.rules ls before.facts c.insert_line.new.self line) c.lows.ensures (subst (λ (rs : List Rule). PutsLine rs c.lows.result.now before.facts c.insert_line.new.self line) c.rules.ensures.value c.in_ok-insert_line.ensures.ok) in
    let taken = taken_from before.marks.raw line welcome.late put.taken in
    record {
      ok =
          subst (λ (n : ℕ). Accepts c.args.self.now (data_of_parts before.settings before.marks (before.accepted + n) c.insert_line.new.self before.run) line) (sym many)
          (subst (λ (k : StoreData). Accepts k (data_of_parts before.settings before.marks (before.accepted + length (line_facts line)) c.insert_line.new.self before.run) line) c.self.view_is
          (accepted_by before.settings before.marks before.accepted before.facts c.insert_line.new.self before.run line c.self.invariant put taken welcome.few));
      refused = search rules;
      taken = search rules;
    }

pub insert_line-requires-clause-lows : goal.insert_line-requires-clause-lows
insert_line-requires-clause-lows g c = ap length c.lows.ensures ∙ c.self.invariant.lows ∙ ap length (sym c.rules.ensures.value)

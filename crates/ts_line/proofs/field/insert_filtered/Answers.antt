use Rattle.std.proofs.Common.{◌≡◌, ℤ, true, false, List, sym, ap, ◌∙◌}
use Rattle.ts_line.specs.Parts.{LinePart}
use Rattle.ts_line.specs.NameFilters.{is_set}
use Rattle.ts_line.specs.Fields.{with_field}
use Rattle.ts_line.proofs.MarkLemmas.{unmarked_pushed, with_marked, fields_kept}
use Rattle.ts_line.proofs.field.insert_filtered.Goals as goal

pub returns-in_ok-insert-clause-marked : goal.returns-in_ok-insert-clause-marked
returns-in_ok-insert-clause-marked g c =
    let field : LinePart × ℤ = c.args.next in
    let fields : List (LinePart × ℤ) = c.args.fields.now.items in
    let name : c.text.result.now ≡ field.0.text = c.text.ensures ∙ ap (λ (p : LinePart). p.text) c.name.ensures in
    let mark : is_set c.insert.new.self field.0.text ≡ true = ap (is_set c.insert.new.self) (sym name) ∙ c.insert.ensures.added in
    rw c.in_ok-insert.ensures (with_marked c.insert.new.self fields field (fields_kept c.args.filter.now c.insert.new.self fields c.insert.ensures.kept c.requires) mark)

pub returns-in_ok-push-clause-value : goal.returns-in_ok-push-clause-value
returns-in_ok-push-clause-value g c =
    let field : LinePart × ℤ = c.args.next in
    let fields : List (LinePart × ℤ) = c.args.fields.now.items in
    let name : c.text.result.now ≡ field.0.text = c.text.ensures ∙ ap (λ (p : LinePart). p.text) c.name.ensures in
    let bare : is_set c.args.filter.now field.0.text ≡ false = ap (is_set c.args.filter.now) (sym name) ∙ sym c.insert.ensures.value ∙ c.if-insert.false in
    c.in_ok-push.ensures.items ∙ unmarked_pushed c.args.filter.now field fields bare c.requires

pub returns-in_ok-push-clause-marked : goal.returns-in_ok-push-clause-marked
returns-in_ok-push-clause-marked g c =
    let field : LinePart × ℤ = c.args.next in
    let fields : List (LinePart × ℤ) = c.args.fields.now.items in
    let name : c.text.result.now ≡ field.0.text = c.text.ensures ∙ ap (λ (p : LinePart). p.text) c.name.ensures in
    let mark : is_set c.insert.new.self field.0.text ≡ true = ap (is_set c.insert.new.self) (sym name) ∙ c.insert.ensures.added in
    let bare : is_set c.args.filter.now field.0.text ≡ false = ap (is_set c.args.filter.now) (sym name) ∙ sym c.insert.ensures.value ∙ c.if-insert.false in
    rw (c.in_ok-push.ensures.items ∙ unmarked_pushed c.args.filter.now field fields bare c.requires) (with_marked c.insert.new.self fields field (fields_kept c.args.filter.now c.insert.new.self fields c.insert.ensures.kept c.requires) mark)

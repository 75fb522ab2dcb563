use Rattle.std.proofs.Common.{◌≡◌, ℤ, List, Some, None, get_or, set, ap, ◌∙◌}
use Rattle.ts_core.specs.facts.Facts.{Text}
use Rattle.ts_line.specs.Parts.{LinePart}
use Rattle.ts_line.specs.Fields.{offset_from}
use Rattle.ts_line.proofs.FieldLemmas.{field_set, field_pushed}
use Rattle.ts_line.proofs.field.insert.Goals as goal

pub returns-in-Some : goal.returns-in-Some
returns-in-Some g c =
    let fields : List (LinePart × ℤ) = c.args.fields.now.items in
    let field : LinePart × ℤ = c.args.field in
    let older : LinePart × ℤ = c.index_mut-older.result.now in
    let name : c.text.result.now ≡ field.0.text = c.text.ensures ∙ ap (λ (p : LinePart). p.text) c.name.ensures in
    let found : Some c.in-Some.at ≡ offset_from 0 field.0.text fields = c.in-Some.ensures.value ∙ ap (λ (fs : List (LinePart × ℤ)). offset_from 0 c.text.result.now fs) c.deref.ensures.value ∙ ap (λ (t : Text). offset_from 0 t fields) name in
    let is : older ≡ get_or fields c.in-Some.at older = c.index_mut-older.ensures.value in
    let new : c.replace_value.new.self ≡ ((get_or fields c.in-Some.at older).0, field.1) = c.replace_value.ensures ∙ ap (λ (p : LinePart × ℤ). (p.0, field.1)) is in
    ap (λ (x : LinePart × ℤ). set fields c.in-Some.at x) new ∙ field_set field fields c.in-Some.at older found

pub returns-in_ok-push-in-None : goal.returns-in_ok-push-in-None
returns-in_ok-push-in-None g c =
    let fields : List (LinePart × ℤ) = c.args.fields.now.items in
    let field : LinePart × ℤ = c.args.field in
    let name : c.text.result.now ≡ field.0.text = c.text.ensures ∙ ap (λ (p : LinePart). p.text) c.name.ensures in
    let found : None ≡ offset_from 0 field.0.text fields = c.in-None.ensures.value ∙ ap (λ (fs : List (LinePart × ℤ)). offset_from 0 c.text.result.now fs) c.deref.ensures.value ∙ ap (λ (t : Text). offset_from 0 t fields) name in
    c.in_ok-push-in-None.ensures.items ∙ field_pushed field fields found

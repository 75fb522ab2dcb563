use Rattle.std.proofs.Common.{◌≡◌, ◌<◌, ◌++◌, ◌∷◌, ◌+◌, [], Ok, Err, true, List, length, refl, sym, ap, ◌∙◌, arith, slice_range}
use Rattle.std.proofs.lemmas.List.{length-append}
use Rattle.std.proofs.lemmas.Result.{err_from_is_err_and}
use Rattle.ts_core.specs.facts.Facts.{Text}
use Rattle.ts_core.proofs.lists.ListSteps.{all_push}
use Rattle.ts_line.specs.Parts.{LinePart}
use Rattle.ts_line.specs.PartTexts.{plain_piece}
use Rattle.ts_line.specs.NameFilters.{is_set}
use Rattle.ts_line.specs.TagParts.{checked_key, next_tag}
use Rattle.ts_line.proofs.KeyLemmas.{key_refused, key_taken}
use Rattle.ts_line.proofs.StepsPutLemmas.{put_read, put_fails}
use Rattle.ts_line.proofs.tag.push_next.Goals as goal

pub returns-in_err-check_key : goal.returns-in_err-check_key
returns-in_err-check_key g c =
    let p = err_from_is_err_and c.from_residual.result c.from_residual.ensures.1 in
    let before : List (LinePart × LinePart) = c.args.tags.now.items in
    let line = c.args.line.now in
    let push = λ (t : LinePart × LinePart). before ++ t ∷ [] in
    let few : length before < 64 = omega arith in
    let refused : Err c.in_err-check_key.field-0.0 ≡ checked_key before c.range-key.result.now c.args.start = rw (← c.deref.ensures.value) c.in_err-check_key.ensures.value in
    rw (p.1, p.2) (record {
      value = put_fails push (next_tag before line c.args.start) c.in_err-check_key.field-0.0
          (key_refused before line c.args.start _ (plain_piece line c.args.start c.in-Some.key_end) c.range-key.result.now c.in_err-check_key.field-0.0 c.in-Some.ensures.value few refl c.range-key.ensures.value refused);
      marked = tt;
      few = tt;
      offset = tt;
    })

pub returns : goal.returns
returns g c =
    let before : List (LinePart × LinePart) = c.args.tags.now.items in
    let line = c.args.line.now in
    let start = c.args.start in
    let key_end = c.in-Some.key_end in
    let end = c.in-Some.value_end in
    let tag : LinePart × LinePart = c.new.result in
    let slots = c.check_key.new.filter in
    let push = λ (t : LinePart × LinePart). before ++ t ∷ [] in
    let few : length before < 64 = omega arith in
    let items : c.push.new.self.items ≡ before ++ tag ∷ [] = c.in_ok-push.ensures.items in
    let raw : c.range.result.now ≡ slice_range line (key_end + 1) end = rw (← c.after-value_start.ensures.value) c.range.ensures.value in
    let key : c.plain.result ≡ plain_piece line start key_end = rw (← c.range-key.ensures.value) c.plain.ensures in
    let value : c.plain-value.result ≡ plain_piece line (key_end + 1) end = rw (← raw, ← c.after-value_start.ensures.value) c.plain-value.ensures in
    let text : c.range-key.result.now ≡ c.plain.result.text = sym (ap (λ (p : LinePart). p.text) c.plain.ensures) in
    let taken : Ok tt ≡ checked_key before c.range-key.result.now start = rw (← c.deref.ensures.value) c.in_ok-check_key.ensures.value in
    let own : tag.0.text ≡ c.range-key.result.now = ap (λ (t : LinePart × LinePart). t.0.text) c.new.ensures ∙ sym text in
    record {
      value = rw items (put_read push (next_tag before line start) tag end (key_taken before line start _ c.plain.result c.plain-value.result c.range-key.result.now tag c.in-Some.ensures.value few key value text taken c.new.ensures));
      marked = rw items (all_push (λ (t : LinePart × LinePart). is_set slots t.0.text ≡ true) before tag (rw (← c.deref.ensures.value) c.in_ok-check_key.ensures.tags) (rw own c.in_ok-check_key.ensures.key));
      few = rw items (omega (arith, length-append before (tag ∷ []), few));
      offset = record { order = omega arith; within = c.in-Some.ensures.rest.within; boundary = c.in-Some.ensures.rest.boundary };
    }

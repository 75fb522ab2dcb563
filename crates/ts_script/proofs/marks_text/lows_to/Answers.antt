use Rattle.std.proofs.Common.{◌++◌, string_bytes, refl, ap, sym, ◌∙◌, append-nil, arith}
use Rattle.std.proofs.lemmas.Slice.Zip.{either_empty_from_Zip}
use Rattle.ts_core.specs.facts.Facts.{Text}
use Rattle.ts_script.proofs.MarksTextLemmas.{no_lows}
use Rattle.ts_script.proofs.marks_text.lows_to.Goals as goal

pub returns : goal.returns
returns c =
    let so_far = c.loop-rule.invariant in
    let none = no_lows c.loop-rule.rule-iterator.a.rest.now c.loop-rule.rule-iterator.b.rest.now (either_empty_from_Zip c.loop-rule.rule-iterator c.next.new.self c.next.result c.in-None.is c.next.ensures.steps) in
    record {
      ok = sym (append-nil (string_bytes c.loop-rule.text)) ∙ ap (λ (t : Text). string_bytes c.loop-rule.text ++ t) (sym none) ∙ so_far.text;
      long = omega (arith, so_far.long);
      spare = λ _. refl;
      capacity = so_far.capacity;
    }

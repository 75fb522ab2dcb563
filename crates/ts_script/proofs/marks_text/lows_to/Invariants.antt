use Rattle.std.proofs.Common.{◌≡◌, ◌+◌, ◌*◌, ◌≤◌, ◌++◌, length, string_bytes, string_len}
use Rattle.std.specs.Prelude.{string_capacity}
use Rattle.std.specs.List.{AllByRecursion}
use Rattle.ts_store.proofs.rules.ShortNames.{HasShortName}
use Rattle.ts_script.specs.MarksTexts.{lows_text}
use Rattle.ts_script.proofs.marks_text.lows_to.Given as goal

abbrev pub invariant-loop-rule : goal.invariant-loop-rule
invariant-loop-rule l =
    let rules = l.rule-iterator.a.rest.now in
    record {
      short : AllByRecursion HasShortName rules;
      text : string_bytes l.text ++ lows_text rules l.rule-iterator.b.rest.now ≡ string_bytes l.initial.text ++ lows_text l.rules l.lows;
      long : string_len l.text + 74 * length rules ≤ string_len l.initial.text + 74 * length l.rules;
      capacity : string_capacity l.initial.text ≤ string_capacity l.text;
    }

use Rattle.std.proofs.Common.{rules, ◌≡◌, true, List, [], ◌∷◌, ◌++◌, map, codes, ap, sym, ◌∙◌, string_bytes}
use Rattle.std.proofs.lemmas.Result.{on_ok_weaker}
use Rattle.serde_json.specs.View.{items_of}
use Rattle.serde_json.specs.Written.{compact_text, items_text}
use Rattle.ts_core.specs.declared.queries.value.Value.{Value}
use Rattle.ts_reply.specs.Replies.{value_data}
use Rattle.ts_reply.proofs.Appended.{if_pushed}
use Rattle.ts_reply.proofs.RowTexts.{one_value}
use Rattle.ts_reply.proofs.rows.push_values.Goals as goal

pub loop-value-preserved : goal.loop-value-preserved
loop-value-preserved g c =
    let told = string_bytes c.loop-value.text in
    let comma = string_bytes c.push_str.new.self in
    let value : Value = c.in-Some.value in
    let left : c.loop-value.value-iterator ≡ value ∷ c.next.new.self = search rules in
    let begun : comma ≡ told ++ codes "," = search rules in
    let cell : string_bytes c.push_cell.new.text ≡ comma ++ compact_text (value_data value) = search rules in
    one_value told comma (string_bytes c.push_cell.new.text) value c.next.new.self begun cell
    ∙ ap (λ (vs : List Value). told ++ items_text true (items_of (map value_data vs))) (sym left) ∙ c.loop-value.invariant

pub returns : goal.returns
returns g c =
    let told = string_bytes c.loop-value.text in
    let left : c.loop-value.value-iterator ≡ [] = search rules in
    let whole : told ++ codes "]" ≡ string_bytes c.args.text.now ++ items_text true (items_of (map value_data c.args.values)) =
    ap (λ (vs : List Value). told ++ items_text true (items_of (map value_data vs))) (sym left) ∙ c.loop-value.invariant in
    on_ok_weaker c.push_str-2.result (λ e. e ∙ whole) (if_pushed c.push_str-2.result _ _ _ c.push_str-2.ensures.bytes)

-- The text of a row, and of values, part by part.
use Rattle.std.proofs.Common.{◌≡◌, true, List, ◌∷◌, ◌++◌, map, codes, ap, ◌∙◌, refl, append_assoc}
use Rattle.serde_json.specs.Data.{array, item}
use Rattle.serde_json.specs.View.{items_of}
use Rattle.serde_json.specs.Written.{compact_text, items_text}
use Rattle.ts_core.specs.facts.Facts.{Text}
use Rattle.ts_core.specs.queries.Fills.{FilledRow}
use Rattle.ts_core.specs.declared.queries.value.Value.{Value}
use Rattle.ts_reply.specs.AppendedData.{AppendsData}
use Rattle.ts_reply.specs.declared.epoch.Epoch.{Epoch}
use Rattle.ts_reply.specs.Replies.{value_data, IsTimeData, IsRowData}
use Rattle.ts_reply.proofs.Appended.{bracket_regrouped}

value_regrouped : (o d t : Text) → ((o ++ codes ",") ++ d) ++ t ≡ o ++ (44 ∷ (d ++ t))
value_regrouped o d t = simp append_assoc

pub one_value : (old comma new : Text) (v : Value) (vs : List Value) → comma ≡ old ++ codes "," → new ≡ comma ++ compact_text (value_data v)
    → new ++ items_text true (items_of (map value_data vs)) ≡ old ++ items_text true (items_of (map value_data (v ∷ vs)))
one_value old comma new v vs ec e =
    ap (λ (t : Text). t ++ items_text true (items_of (map value_data vs))) (e ∙ ap (λ (t : Text). t ++ compact_text (value_data v)) ec)
    ∙ value_regrouped old (compact_text (value_data v)) (items_text true (items_of (map value_data vs)))

pub row_appended : (epoch : Epoch) (row : FilledRow) (old a b new : Text) → a ≡ old ++ codes "[" → AppendsData (IsTimeData epoch row.start) a b
    → new ≡ b ++ items_text true (items_of (map value_data row.values)) → AppendsData (IsRowData epoch row) old new
row_appended epoch row old a b new ea time e = record {
  told = array (item time.told (items_of (map value_data row.values)));
  is = (time.told, time.is, refl);
  appended = e ∙ ap (λ (t : Text). t ++ items_text true (items_of (map value_data row.values))) (time.appended ∙ ap (λ (t : Text). t ++ compact_text time.told) ea)
      ∙ bracket_regrouped old (compact_text time.told) (items_text true (items_of (map value_data row.values)));
}

-- The text of a series, part by part.
use Rattle.std.proofs.Common.{◌≡◌, List, [], ◌∷◌, ◌++◌, codes, ap, ◌∙◌, sym, refl, append_assoc}
use Rattle.json.specs.Print.{quoted}
use Rattle.serde_json.proofs.OnLiterals.{serde_json_on_literals}
use Rattle.serde_json.specs.Data.{Data, array, Items}
use Rattle.serde_json.specs.Written.{compact_text}
use Rattle.ts_core.specs.facts.Facts.{Text}
use Rattle.ts_core.specs.queries.Fills.{FilledGroup}
use Rattle.ts_ql.specs.Selects.{Select}
use Rattle.ts_reply.specs.AppendedData.{AppendsData, IsArray}
use Rattle.ts_reply.specs.declared.epoch.Epoch.{Epoch}
use Rattle.ts_reply.specs.Replies.{AreEach, columns_data, series_by, series_data, IsRowData, IsSeriesData}
use Rattle.ts_reply.specs.SeriesTexts.{series_head, grouped_tags_text}

series_text : (tags : List Text) (columns : Data) (name : Text) (values : List Text) (rows : Items)
    → compact_text (series_by tags columns name values rows)
    ≡ (codes "{\"columns\":" ++ (compact_text columns ++ (codes ",\"name\":" ++ (quoted name ++ (grouped_tags_text tags values ++ (codes ",\"values\":" ++ (compact_text (array rows) ++ codes "}")))))))
unfolding serde_json_on_literals
series_text [] columns name values rows = refl
series_text (tag ∷ tags) columns name values rows = refl

parts_regrouped : (o h c n q t v r e : Text) → ((((o ++ (h ++ (c ++ (n ++ q)))) ++ t) ++ v) ++ r) ++ e ≡ o ++ (h ++ (c ++ (n ++ (q ++ (t ++ (v ++ (r ++ e)))))))
parts_regrouped o h c n q t v r e = simp append_assoc

pub group_appended : (epoch : Epoch) (s : Select) (group : FilledGroup) (old a b c d new : Text)
    → a ≡ old ++ series_head s → b ≡ a ++ grouped_tags_text s.query.group_tags group.values → c ≡ b ++ codes ",\"values\":"
    → AppendsData (IsArray (AreEach (IsRowData epoch) group.rows)) c d → new ≡ d ++ codes "}" → AppendsData (IsSeriesData epoch s group) old new
group_appended epoch s group old a b c d new ea eb ec rows e =
    let rs : Items = rows.is.items in
    let tags : Text = grouped_tags_text s.query.group_tags group.values in
    record {
      told = series_data s group.values rs;
      is = (rs, rows.is.are, refl);
      appended = e ∙ ap (λ (t : Text). t ++ codes "}") (rows.appended ∙ ap (λ (t : Text). t ++ compact_text rows.told) (ec ∙ ap (λ (t : Text). t ++ codes ",\"values\":") (eb ∙ ap (λ (t : Text). t ++ tags) ea)))
          ∙ ap (λ (x : Data). ((((old ++ series_head s) ++ tags) ++ codes ",\"values\":") ++ compact_text x) ++ codes "}") rows.is.is
          ∙ parts_regrouped old (codes "{\"columns\":") (compact_text (columns_data s)) (codes ",\"name\":") (quoted s.query.measurement) tags (codes ",\"values\":") (compact_text (array rs)) (codes "}")
          ∙ ap (λ (t : Text). old ++ t) (sym (series_text s.query.group_tags (columns_data s) s.query.measurement group.values rs));
    }

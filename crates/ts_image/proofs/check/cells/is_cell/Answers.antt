use Rattle.std.proofs.Common.{rules, ◌≡◌, length, refl, sym, ◌∙◌, arith}
use Rattle.std.specs.Prelude.{string_bytes}
use Rattle.std.proofs.lemmas.List.{length-map}
use Rattle.ts_image.proofs.check.cells.is_cell.Goals as goal

pub returns : goal.returns
returns g c = (
  λ h.
      let t = c.are_frozen.ensures.0 h in
      let e = c.if-not-are_extremes.ensures.0 refl in
      let same : length c.args.cell.now.key.group.items ≡ length c.args.rule.now.kept_tags.items = omega arith in
      record {
        kept = search rules;
        field = search rules;
        group = length-map c.args.cell.now.key.group.items string_bytes ∙ same ∙ sym (length-map c.args.rule.now.kept_tags.items string_bytes);
        spread = c.if-not-are_spread.ensures.0 refl;
        values = e.values;
        first = t.0;
        last = t.1;
        order = e.order;
        first_value = e.first_value;
        last_value = e.last_value;
      },
  λ k. c.are_frozen.ensures.1 (k.first, k.last),
)

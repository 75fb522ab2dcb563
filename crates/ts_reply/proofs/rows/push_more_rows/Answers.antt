use Rattle.std.proofs.Common.{rules, ◌≡◌, List, [], ◌∷◌, ◌++◌, codes, refl, subst, ◌∙◌, string_bytes}
use Rattle.std.proofs.lemmas.Result.{on_ok_weaker}
use Rattle.ts_core.specs.queries.Fills.{FilledRow}
use Rattle.ts_reply.specs.AppendedData.{AppendsData}
use Rattle.ts_reply.specs.declared.epoch.Epoch.{Epoch}
use Rattle.ts_reply.specs.Replies.{IsRowData}
use Rattle.ts_reply.proofs.Appended.{if_pushed, IsTold, none_told, one_more_told, all_told}
use Rattle.ts_reply.proofs.rows.push_more_rows.Goals as goal

pub loop-row-init : goal.loop-row-init
loop-row-init g c = (refl, none_told (IsRowData c.args.times.now) c.args.rows c.into_iter-row-iterator.result (string_bytes c.args.text.now) (search rules))

pub loop-row-preserved : goal.loop-row-preserved
loop-row-preserved g c =
    let old = string_bytes c.args.text.now in
    let told = string_bytes c.loop-row.text in
    let row : FilledRow = c.in-Some.row in
    let left : c.loop-row.row-iterator ≡ row ∷ c.next.new.self = search rules in
    let comma : string_bytes c.push_str.new.self ≡ told ++ codes "," = search rules in
    let same = c.loop-row.invariant.0 in (
      c.push_row.ensures.same ∙ same,
      one_more_told (IsRowData c.args.times.now) c.args.rows row c.next.new.self old told (string_bytes c.push_str.new.self) (string_bytes c.push_row.new.text)
          (subst (λ (rs : List FilledRow). IsTold (IsRowData c.args.times.now) c.args.rows rs old told) left c.loop-row.invariant.1) comma
          (subst (λ (epoch : Epoch). AppendsData (IsRowData epoch row) (string_bytes c.push_str.new.self) (string_bytes c.push_row.new.text)) same c.in_ok-push_row.ensures.value),
    )

pub returns-clause-value : goal.returns-clause-value
returns-clause-value g c =
    let old = string_bytes c.args.text.now in
    let told = string_bytes c.loop-row.text in
    let left : c.loop-row.row-iterator ≡ [] = search rules in
    let whole = subst (λ (rs : List FilledRow). IsTold (IsRowData c.args.times.now) c.args.rows rs old told) left c.loop-row.invariant.1 in
    on_ok_weaker c.push_str-2.result (all_told (IsRowData c.args.times.now) c.args.rows old told (string_bytes c.push_str-2.new.self) whole) (if_pushed c.push_str-2.result _ _ _ c.push_str-2.ensures.bytes)

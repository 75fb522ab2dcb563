use Rattle.std.proofs.Common.{rules, ◌≡◌, ◌∙◌, ◌+◌, [], ◌∷◌, ◌++◌, get_or, cond, is_ok, ap, arith, length}
use Rattle.std.proofs.lemmas.List.{length_push}
use Rattle.ts_store.specs.rollup.ColumnLists.{lists_in}
use Rattle.ts_store.proofs.rollup.RollupLemmas.{rollup_series_made, gains-length, gains-extends, gains-distinct}
use Rattle.ts_store.proofs.rollup.listed_rollup_series.Goals as goal
use Rattle.ts_store.proofs.rollup.listed_rollup_series.Goals.{then-len-series_count, else-len-series_count}

pub returns-clause-kept : goal.returns-clause-kept
returns-clause-kept g c =
    let gains = c.in_ok-series.ensures.ok in
    let same : length c.reserve_eighth.new.list.items ≡ length c.args.columns.now.items = ap length c.reserve_eighth.ensures.items in
    record {
      each = elim c.if-len-series_count.branch [
        | then-len-series_count w ↦
            let few = (gains-length _ _ _ gains).1 in
            let more : length c.if-len-series_count.columns.items ≡ length c.reserve_eighth.new.list.items + 1 =
            ap (λ v. length v.items) w.columns-is ∙ ap length (w.push.ensures.items ∙ ap (λ r. cond (is_ok r) (c.reserve_eighth.new.list.items ++ w.new.result ∷ []) c.reserve_eighth.new.list.items) w.unwrap.ensures)
            ∙ length_push c.reserve_eighth.new.list.items w.new.result in
            let test = w.if-len-series_count.true in omega (arith, few, same, more, test, c.requires.each, c.len.ensures, c.series_count.ensures, c.reserve_eighth.new.list.ok.0)
        | else-len-series_count w ↦
            let least = (gains-length _ _ _ gains).0 in
            let e = ap (λ v. length v.items) w.columns-is in
            let test = w.if-len-series_count.false in omega (arith, least, same, e, test, c.requires.each, c.len.ensures, c.series_count.ensures, c.reserve_eighth.new.list.ok.0)
      ];
      made = gains-extends _ _ _ gains;
      once = gains-distinct _ _ _ gains;
      columns = λ l. elim c.if-len-series_count.branch [
        | then-len-series_count w ↦
            ap (λ v. get_or (lists_in v.items) l []) w.columns-is
            ∙ ap (λ vs. get_or (lists_in vs) l []) (w.push.ensures.items ∙ ap (λ r. cond (is_ok r) (c.reserve_eighth.new.list.items ++ w.new.result ∷ []) c.reserve_eighth.new.list.items) w.unwrap.ensures)
            ∙ rollup_series_made c.reserve_eighth.new.list.items w.new.result w.new.ensures l
            ∙ ap (λ vs. get_or (lists_in vs) l []) c.reserve_eighth.ensures.items
        | else-len-series_count w ↦ ap (λ v. get_or (lists_in v.items) l []) w.columns-is ∙ ap (λ vs. get_or (lists_in vs) l []) c.reserve_eighth.ensures.items
      ];
      cells = search rules;
    }

use Rattle.std.proofs.Common.{rules, ◌≡◌, ◌<◌, ℕ, length, sym, subst}
use Rattle.std.specs.List.{AllByRecursion}
use Rattle.ts_store.specs.image.SavedContent.{SavedColumn}
use Rattle.ts_image.proofs.Saved.{all_at}
use Rattle.tsdb.proofs.summary.count_waiting_of.Goals as goal

pub waits-requires : goal.waits-requires
waits-requires c =
    let IsThere = λ (x : SavedColumn). x.number < length c.args.store.now.columns in
    let e : c.as_slice-column-items.result.now ≡ c.args.series.now.columns = search rules in
    let same : c.column.inside.id ≡ c.column-item.result.number = search rules in
    subst (λ (n : ℕ). n < length c.args.store.now.columns) (sym same) (all_at IsThere c.as_slice-column-items.result.now c.loop-column.column-index c.column-item.result c.loop-column-test.true c.column-item.is (subst (AllByRecursion IsThere) (sym e) c.requires))

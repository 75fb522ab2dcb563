use Rattle.std.proofs.Common.{◌≡◌, ◌∙◌, ◌<◌, ◌++◌, ◌∷◌, [], List, ℕ, ap, sym, Some, None, Option, length, cond, is_ok, get_or, set, arith}
use Rattle.std.proofs.lemmas.List.{length-map}
use Rattle.ts_store.specs.rollup.ColumnLists.{lists_in}
use Rattle.ts_store.specs.rollup.Rollups.{RollupState}
use Rattle.ts_store.proofs.rollup.RollupLemmas.{place_within, place_at, room_in, lists_more, made_apart, made_in}
use Rattle.ts_store.proofs.rollup.Rollup.commit.Goals as goal

pub push-requires-in-Some : goal.push-requires-in-Some
push-requires-in-Some g c =
    let here : c.unwrap-series.result ≡ Some c.number.result = c.in-Some.is ∙ ap Some (sym c.number.ensures) in
    let next : c.self.inside.next ≡ Some (Some c.number.result) = sym c.take.ensures.value ∙ c.unwrap-series.ensures ∙ ap Some here in
    place_at c.self.inside.columns.items c.number.result c.index_mut.result.now c.index_mut.ensures.value (room_in c.number.result _ _ _ next c.self.invariant.capacity)

pub invariant_of-self : goal.invariant_of-self
invariant_of-self g c =
    let os : List (Option ℕ) = c.self.inside.series_of_column.items in
    let vs = c.self.inside.columns.items in
    let here : c.unwrap-series.result ≡ Some c.number.result = c.in-Some.is ∙ ap Some (sym c.number.ensures) in
    let next : c.self.inside.next ≡ Some (Some c.number.result) = sym c.take.ensures.value ∙ c.unwrap-series.ensures ∙ ap Some here in
    let within : c.number.result < length vs = place_within vs c.number.result (room_in c.number.result _ _ _ next c.self.invariant.capacity) in
    let number : c.args.column ≡ length os = c.requires.number ∙ sym (ap (λ (s : RollupState). length s.series_of_column) c.self.view_is) in
    let pushed : c.push.new.self.items ≡ os ++ Some c.number.result ∷ [] =
    c.push.ensures.items ∙ ap (λ r. cond (is_ok r) (os ++ c.unwrap-series.result ∷ []) os) c.unwrap.ensures ∙ ap (λ (o : Option ℕ). os ++ o ∷ []) here in
    let joined : c.push-in-Some.new.self.items ≡ c.index_mut.result.now.items ++ length os ∷ [] =
    c.push-in-Some.ensures ∙ ap (λ n. c.index_mut.result.now.items ++ n ∷ []) number in
    let lists : lists_in (set vs c.number.result c.push-in-Some.new.self) ≡ set (lists_in vs) c.number.result (get_or (lists_in vs) c.number.result [] ++ length os ∷ []) =
    lists_more vs c.number.result c.index_mut.result.now c.push-in-Some.new.self c.index_mut.ensures.value (length os) within joined in
    made_in _ _ _ _ _ _ c.self.invariant c.number.result (omega (arith, within, length-map vs (λ v. v.items))) _ _ _ _ _ pushed lists c.take.ensures.after

pub invariant_of-self-in_default : goal.invariant_of-self-in_default
invariant_of-self-in_default g c =
    let os : List (Option ℕ) = c.self.inside.series_of_column.items in
    let none : c.unwrap-series.result ≡ None = c.in_default.is in
    let pushed : c.push.new.self.items ≡ os ++ None ∷ [] =
    c.push.ensures.items ∙ ap (λ r. cond (is_ok r) (os ++ c.unwrap-series.result ∷ []) os) c.unwrap.ensures ∙ ap (λ (o : Option ℕ). os ++ o ∷ []) none in
    made_apart _ _ _ _ _ _ c.self.invariant _ _ _ _ pushed c.take.ensures.after

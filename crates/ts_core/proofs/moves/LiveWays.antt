-- Three ways to a live part: one more fact, a replaced fact, and a removed part. If the rest of an aggregate is
-- determined, no other fact is visited.
use Rattle.std.proofs.lemmas.Bool.{and_parts, not-true}
use Rattle.ts_core.proofs.queries.AnswersLaws.{filter_both}
use Rattle.std.proofs.Common.{◌≡◌, ℤ, Bool, true, false, not, ◌&&◌, List, ◌∷◌, filter, map, refl, sym, ◌∙◌, ap, ap₂, subst, inl, inr, ⊎_elim, true≢false}
use Rattle.ts_core.specs.lists.Members.{Among, AllDistinct}
use Rattle.ts_core.specs.facts.Facts.{Fact, Column, Id, id_of, same_id}
use Rattle.ts_core.specs.settings.Settings.{Rule}
use Rattle.ts_core.specs.aggregates.Aggregates.{Aggregate, aggregate_of, merged, IsSound}
use Rattle.ts_core.specs.aggregates.MergeLaws.{aggregate_laws}
use Rattle.ts_core.specs.aggregates.SoundLaws.{sound_laws}
use Rattle.ts_core.specs.aggregates.Remainders.{IsOnlyRest}
use Rattle.ts_core.specs.store.Cells.{Cell, is_in_cell, total_of}
use Rattle.ts_core.specs.store.StoreStates.{ColumnPoints, column_of, facts_at, facts_of}
use Rattle.ts_core.specs.moves.StoreMoves.{points_below, PutsFact}
use Rattle.ts_core.proofs.aggregates.Folds.{fold-same}
use Rattle.ts_core.proofs.lists.MembersLemmas.{AllDistinct-filter, Among-filter_was, Among-filter_passes, Among-filter_stays}
use Rattle.ts_core.proofs.aggregates.RemaindersLemmas.{fold-possible}
use Rattle.ts_core.proofs.facts.Ids.{same_id-refl}
use Rattle.ts_core.proofs.store.Cuts.{one_fact, aggregate_where, aggregate_where-part, Part}
use Rattle.ts_core.proofs.store.Moves.{is_left, left_points}
use Rattle.ts_core.proofs.moves.Freezing.{gone_held}
use Rattle.ts_core.proofs.store.RunSteps.{facts_of-left}

-- the aggregate of facts is possible
pub facts_possible : (fs : List Fact) → IsSound (aggregate_of fs)
facts_possible fs = fold-possible aggregate_laws sound_laws (λ (f : Fact). f.time) (λ (f : Fact). f.value) fs

-- ---- a fact is put

module _ (before after : List ColumnPoints) (f : Fact) (once : AllDistinct (facts_of before)) (put : PutsFact before after f) (r : Rule) (k : Cell) (inside : is_in_cell r k f ≡ true) where
  abbrev in_cell : Fact → Bool
  in_cell = is_in_cell r k

  -- those of other ids
  abbrev is_rest : Fact → Bool
  is_rest g = in_cell g && not (same_id (id_of g) (id_of f))

  rest_is : (g : Fact) → is_rest g ≡ true → (in_cell g ≡ true) × (same_id (id_of g) (id_of f) ≡ false)
  rest_is g e = let p = and_parts (in_cell g) _ e in (p.0, not-true _ p.1)

  rest_of : (g : Fact) → in_cell g ≡ true → same_id (id_of g) (id_of f) ≡ false → is_rest g ≡ true
  rest_of g a b = ap₂ (λ x y. x && not y) a b

  -- after it the cell has the fact, and those of other ids
  pub put_total : total_of r k (facts_of after) ≡ merged (one_fact f) (aggregate_where is_rest (facts_of before))
  put_total =
      fold-same aggregate_laws one_fact (filter in_cell (facts_of after)) (f ∷ filter is_rest (facts_of before))
      (AllDistinct-filter in_cell (facts_of after) put.1.once)
      (λ a. true≢false (sym (same_id-refl (id_of f)) ∙ (rest_is f (Among-filter_passes is_rest f (facts_of before) a)).1), AllDistinct-filter is_rest (facts_of before) once)
      (λ g a. ⊎_elim {C = Among g (f ∷ filter is_rest (facts_of before))} (λ e. inl e)
      (λ q. inr (Among-filter_stays is_rest g (facts_of before) q.0 (rest_of g (Among-filter_passes in_cell g (facts_of after) a) q.1))) (put.1.only g (Among-filter_was in_cell g (facts_of after) a)))
      (λ g a. ⊎_elim {C = Among g (filter in_cell (facts_of after))} (λ e. Among-filter_stays in_cell g (facts_of after) (subst (λ x. Among x (facts_of after)) (sym e) put.1.new) (ap in_cell e ∙ inside))
      (λ q. let p = rest_is g (Among-filter_passes is_rest g (facts_of before) q) in
      Among-filter_stays in_cell g (facts_of after) (put.1.kept g (Among-filter_was is_rest g (facts_of before) q) p.1) p.0) a)

  -- a new id: one fact more
  pub new_total : ((g : Fact) → Among g (facts_of before) → same_id (id_of g) (id_of f) ≡ false) → total_of r k (facts_of after) ≡ merged (one_fact f) (total_of r k (facts_of before))
  new_total new =
      put_total ∙ ap (merged (one_fact f)) (fold-same aggregate_laws one_fact (filter is_rest (facts_of before)) (filter in_cell (facts_of before)) (AllDistinct-filter is_rest (facts_of before) once) (AllDistinct-filter in_cell (facts_of before) once)
      (λ g a. Among-filter_stays in_cell g (facts_of before) (Among-filter_was is_rest g (facts_of before) a) (rest_is g (Among-filter_passes is_rest g (facts_of before) a)).0)
      (λ g a. let w = Among-filter_was in_cell g (facts_of before) a in Among-filter_stays is_rest g (facts_of before) w (rest_of g (Among-filter_passes in_cell g (facts_of before) a) (new g w))))

  -- the fact of its id was there: the same rest, with that one
  old_total : (g : Fact) → Among g (facts_of before) → id_of g ≡ id_of f → ((x : Fact) → Among x (facts_of before) → same_id (id_of x) (id_of f) ≡ true → x ≡ g) → merged (one_fact g) (aggregate_where is_rest (facts_of before)) ≡ total_of r k (facts_of before)
  old_total g there same only =
      let tied : same_id (id_of g) (id_of f) ≡ true = ap (λ i. same_id i (id_of f)) same ∙ same_id-refl (id_of f) in
      let here : in_cell g ≡ true = ap (λ (i : Id). is_in_cell r k (record { column = i.column; time = i.time; value = g.value })) same ∙ inside in
      fold-same aggregate_laws one_fact (g ∷ filter is_rest (facts_of before)) (filter in_cell (facts_of before))
      (λ a. true≢false (sym tied ∙ (rest_is g (Among-filter_passes is_rest g (facts_of before) a)).1), AllDistinct-filter is_rest (facts_of before) once) (AllDistinct-filter in_cell (facts_of before) once)
      (λ x a. ⊎_elim {C = Among x (filter in_cell (facts_of before))} (λ e. subst (λ y. Among y (filter in_cell (facts_of before))) (sym e) (Among-filter_stays in_cell g (facts_of before) there here))
      (λ q. Among-filter_stays in_cell x (facts_of before) (Among-filter_was is_rest x (facts_of before) q) (rest_is x (Among-filter_passes is_rest x (facts_of before) q)).0) a)
      (λ x a. let w = Among-filter_was in_cell x (facts_of before) a in
      let p = Among-filter_passes in_cell x (facts_of before) a in
      elim (same_id (id_of x) (id_of f)) as (λ b. same_id (id_of x) (id_of f) ≡ b → Among x (g ∷ filter is_rest (facts_of before))) [
        | true ↦ λ e. inl (only x w e)
        | false ↦ λ e. inr (Among-filter_stays is_rest x (facts_of before) w (rest_of x p e))
      ] refl)

  -- so where the rest is determined, the new part is the rest with the new fact
  pub replaced_total : (g : Fact) → Among g (facts_of before) → id_of g ≡ id_of f → ((x : Fact) → Among x (facts_of before) → same_id (id_of x) (id_of f) ≡ true → x ≡ g)
      → (rest : Aggregate) → IsOnlyRest IsSound merged (total_of r k (facts_of before)) (one_fact g) rest → total_of r k (facts_of after) ≡ merged (one_fact f) rest
  replaced_total g there same only rest h =
      put_total ∙ ap (merged (one_fact f)) (h.only (aggregate_where is_rest (facts_of before)) (facts_possible (filter is_rest (facts_of before))) (old_total g there same only))

-- ---- points go

module _ (c : Column) (mark : ℤ) (before : List ColumnPoints) (ps : List (ℤ × ℤ)) (once : AllDistinct (map column_of before)) (there : Among (record { column = c; points = ps }) before) (r : Rule) (k : Cell) where
  abbrev gone : Aggregate
  gone = aggregate_of (filter (is_in_cell r k) (facts_at c (points_below mark ps)))

  part_left : (a b : Bool) → Part (a && not b) (b && a) a
  part_left true true = tt
  part_left false true = tt
  part_left _ b = tt

  whole : merged gone (total_of r k (facts_of (map (left_points c mark) before))) ≡ total_of r k (facts_of before)
  whole =
      ap₂ merged (sym (ap aggregate_of (gone_held c mark (is_in_cell r k) before ps once there)))
      (ap (λ fs. aggregate_of (filter (is_in_cell r k) fs)) (facts_of-left c mark before) ∙ ap aggregate_of (filter_both (is_in_cell r k) (is_left c mark) (facts_of before)))
      ∙ sym (aggregate_where-part (λ (f : Fact). is_in_cell r k f && not (is_left c mark f)) (λ (f : Fact). is_left c mark f && is_in_cell r k f) (is_in_cell r k) (λ f. part_left (is_in_cell r k f) (is_left c mark f)) (facts_of before))

  -- where the rest is determined, it is what is left
  pub left_total : (rest : Aggregate) → IsOnlyRest IsSound merged (total_of r k (facts_of before)) gone rest → total_of r k (facts_of (map (left_points c mark) before)) ≡ rest
  left_total rest h = h.only (total_of r k (facts_of (map (left_points c mark) before))) (facts_possible (filter (is_in_cell r k) (facts_of (map (left_points c mark) before)))) whole

-- Blocks of points in one run: their aggregate merged at once is each point merged.
use Rattle.std.proofs.Common.{◌≡◌, ℕ, suc, ◌+◌, ◌<◌, ◌≤◌, ◌^◌, ℤ, ◌≤ℤ◌, ◌<ℤ◌, true, false, List, [], ◌∷◌, ◌++◌, length, length-append, get_or, min, append_assoc, refl, sym, ◌∙◌, ap, subst, cond, arith, Option, Some, None}
use Rattle.std.specs.List.{AllByRecursion, take_while}
use Rattle.std.proofs.lemmas.Int.{ints}
use Rattle.std.proofs.lemmas.List.Sums.{fold-append, take_while-cons}
use Rattle.ts_core.specs.facts.Facts.{is_within}
use Rattle.ts_core.specs.declared.aggregates.aggregate.Extremes.{Extremes}
use Rattle.ts_core.specs.aggregates.Aggregates.{Aggregate, empty_aggregate, aggregate_of_one, aggregate_of_points, merged, IsSound}
use Rattle.ts_core.specs.aggregates.MergeLaws.{aggregate_laws}
use Rattle.ts_core.specs.aggregates.SoundLaws.{sound_laws}
use Rattle.ts_core.proofs.aggregates.RemaindersLemmas.{fold-possible}
use Rattle.ts_core.proofs.lists.ListSteps.{all_append}
use Rattle.ts_core.proofs.queries.Boundaries.{within_parts}
use Rattle.ts_core.proofs.aggregates.AggregatesLemmas.{count_of_fold}
use Rattle.ts_raw.specs.Summaries.{IsFront}
use Rattle.ts_exec.specs.declared.aggregate_parts.AggregateParts.{AggregateParts}
use Rattle.ts_exec.specs.declared.aggregate_parts.AggregateParts.TheVariants.{CountAlone, CountAndSum, Bounds, Whole}
use Rattle.ts_exec.specs.RowParts.{BucketGrid, IsRun, AreMerged, row_index_at, part_of, part_of_point, part_with, with_part, with_point_parts}
use Rattle.ts_exec.proofs.Folded.{merged_count}
use Rattle.ts_exec.proofs.Runs.{run-begun, run-first, run-joined, run-point}

-- ---- the aggregate of some points

pub sound-points : (ps : List (ℤ × ℤ)) → IsSound (aggregate_of_points ps)
sound-points ps = fold-possible aggregate_laws sound_laws (λ (p : ℤ × ℤ). p.0) (λ (p : ℤ × ℤ). p.1) ps

alone : (a : Aggregate) → merged a empty_aggregate ≡ a
alone a = aggregate_laws.comm a empty_aggregate ∙ aggregate_laws.unit a

part_one : (parts : AggregateParts) (p : ℤ × ℤ) → part_of parts (aggregate_of_points (p ∷ [])) ≡ part_of_point parts p.0 p.1
part_one CountAlone p = refl
part_one CountAndSum p = ap (part_of CountAndSum) (alone (aggregate_of_one p.0 p.1))
part_one Bounds p = ap (part_of Bounds) (alone (aggregate_of_one p.0 p.1))
part_one Whole p = alone (aggregate_of_one p.0 p.1)

part_more : (parts : AggregateParts) (p : ℤ × ℤ) (a : Aggregate) → part_of parts (merged (aggregate_of_one p.0 p.1) a) ≡ merged (part_of_point parts p.0 p.1) (part_of parts a)
part_more CountAlone p a = refl
part_more CountAndSum p a = refl
part_more Bounds p a =
    elim a.extremes as (λ (x : Option Extremes). part_of Bounds (merged (aggregate_of_one p.0 p.1) (record { count = a.count; sum = a.sum; extremes = x }))
    ≡ merged (part_of_point Bounds p.0 p.1) (part_of Bounds (record { count = a.count; sum = a.sum; extremes = x }))) [ None ↦ refl | Some e ↦ refl ]
part_more Whole p a = refl

-- at least one point merged at once, or one by one
pub points-at_once : (parts : AggregateParts) (a : Aggregate) (ps : List (ℤ × ℤ)) → 0 < length ps → merged a (part_of parts (aggregate_of_points ps)) ≡ part_with parts a ps
points-at_once parts a [] some = absurd (omega arith)
points-at_once parts a (p ∷ []) some = ap (merged a) (part_one parts p)
points-at_once parts a (p ∷ q ∷ ps) some =
    let rest : Aggregate = aggregate_of_points (q ∷ ps) in
    ap (merged a) (part_more parts p rest)
    ∙ sym (aggregate_laws.assoc a (part_of_point parts p.0 p.1) (part_of parts rest))
    ∙ points-at_once parts (merged a (part_of_point parts p.0 p.1)) (q ∷ ps) (omega arith)

points_whole : (parts : AggregateParts) (p : ℤ × ℤ) (ps : List (ℤ × ℤ)) → part_of parts (aggregate_of_points (p ∷ ps)) ≡ part_with parts (part_of_point parts p.0 p.1) ps
points_whole parts p [] = part_one parts p
points_whole parts p (q ∷ ps) = part_more parts p (aggregate_of_points (q ∷ ps)) ∙ points-at_once parts (part_of_point parts p.0 p.1) (q ∷ ps) (omega arith)

-- a range that some points lie in isn't empty
range-some : (low high : ℤ) (ps : List (ℤ × ℤ)) → 0 < length ps → AllByRecursion (λ (p : ℤ × ℤ). is_within low high p.0 ≡ true) ps → low <ℤ high
range-some low high [] some inside = absurd (omega arith)
range-some low high (p ∷ ps) some inside = let here = within_parts low high p.0 inside.0 in let l = here.0 in let h = here.1 in omega (arith, ints)

-- ---- one more block

module _ (low high : ℤ) (before left : List (ℤ × ℤ)) (a : Aggregate) (front : IsFront low high before left a) where
  pub front-some : 0 < a.count
  front-some =
      let some = front.some in
      let count : a.count ≡ length front.block = ap (λ (x : Aggregate). x.count) front.summary ∙ count_of_fold front.block in
      omega arith

  pub front-sound : IsSound a
  front-sound = subst IsSound (sym front.summary) (sound-points front.block)

  front_range : low <ℤ high
  front_range = range-some low high front.block front.some front.within

  module _ (parts : AggregateParts) (part next : Aggregate) (all : List (ℤ × ℤ)) (m : AreMerged parts low high part next all before) where
    pub front-few : (low <ℤ high → part.count + length all ≤ 2 ^ 62) → next.count + a.count ≤ 2 ^ 62
    front-few few =
        let fits = few front_range in
        let count : a.count ≡ length front.block = ap (λ (x : Aggregate). x.count) front.summary ∙ count_of_fold front.block in
        let own : next.count ≡ part.count + length m.first = ap (λ (x : Aggregate). x.count) m.merged ∙ merged_count parts part m.first in
        let long : length all ≡ length m.first + length before = ap (λ (ps : List (ℤ × ℤ)). length ps) m.points ∙ length-append m.first before in
        let rest : length before ≡ length front.block + length left = ap (λ (ps : List (ℤ × ℤ)). length ps) front.split ∙ length-append front.block left in
        omega arith

    pub front-merged : AreMerged parts low high part (merged next (part_of parts a)) all left
    front-merged = record {
      first = m.first ++ front.block;
      points = m.points ∙ ap (λ (ps : List (ℤ × ℤ)). m.first ++ ps) front.split ∙ sym (append_assoc m.first front.block left);
      within = all_append (λ (p : ℤ × ℤ). is_within low high p.0 ≡ true) m.first front.block m.within front.within;
      merged = ap (λ (x : Aggregate). merged next (part_of parts x)) front.summary
          ∙ points-at_once parts next front.block front.some
          ∙ ap (λ (x : Aggregate). part_with parts x front.block) m.merged
          ∙ sym (fold-append (λ (b : Aggregate) (p : ℤ × ℤ). merged b (part_of_point parts p.0 p.1)) part m.first front.block);
    }

-- ---- points of a run

points_of_run : (parts : AggregateParts) (g : BucketGrid) (rows : List Aggregate) (low high : ℤ) (row_index : ℕ) (ps left : List (ℤ × ℤ)) (others : ℕ) (part : Aggregate)
    → length rows ≤ 18446744073709551615 → AllByRecursion (λ (p : ℤ × ℤ). is_within low high p.0 ≡ true) ps → IsRun g rows (length (ps ++ left) + others) low high row_index part
    → (with_point_parts parts g left (with_part row_index (part_with parts part ps) rows) ≡ with_point_parts parts g (ps ++ left) (with_part row_index part rows)) × IsRun g rows (length left + others) low high row_index (part_with parts part ps)
points_of_run parts g rows low high row_index [] left others part short inside run = (refl, run)
points_of_run parts g rows low high row_index (p ∷ ps) left others part short inside run =
    let here = within_parts low high p.0 inside.0 in
    let more : Aggregate = merged part (part_of_point parts p.0 p.1) in
    let count : ℕ = length (ps ++ left) + others in
    let size : length ((p ∷ ps) ++ left) + others ≡ suc count = omega arith in
    let all : IsRun g rows (suc count) low high row_index part = subst (λ n. IsRun g rows n low high row_index part) size run in
    let rest = points_of_run parts g rows low high row_index ps left others more short inside.1 (run-joined parts p.0 p.1 g rows count low high row_index part all here.0 here.1) in (
      rest.0 ∙ ap (λ (r : List Aggregate). with_point_parts parts g (ps ++ left) r) (run-point parts p.0 p.1 g rows count low high row_index part short all here.0 here.1),
      rest.1,
    )

-- points that lie within a run can be merged into its part
pub run-room : (g : BucketGrid) (rows : List Aggregate) (left : ℕ) (low high : ℤ) (row_index : ℕ) (part : Aggregate) (ps : List (ℤ × ℤ))
    → IsRun g rows left low high row_index part → AllByRecursion (λ (p : ℤ × ℤ). is_within low high p.0 ≡ true) ps → length ps ≤ left → part.count + length ps ≤ 2 ^ 62
run-room g rows left low high row_index part [] run inside few = let fits = run.few in omega arith
run-room g rows left low high row_index part (p ∷ ps) run inside few = let fits = run.bounded (range-some low high (p ∷ ps) (omega arith) inside) in omega arith

taken_within : (low high : ℤ) (ps : List (ℤ × ℤ)) → AllByRecursion (λ (p : ℤ × ℤ). is_within low high p.0 ≡ true) (take_while (λ (p : ℤ × ℤ). is_within low high p.0) ps)
taken_within low high [] = tt
taken_within low high (p ∷ ps) =
    let inside : (ℤ × ℤ) → Type 0 = λ q. is_within low high q.0 ≡ true in
    let rest : List (ℤ × ℤ) = take_while (λ (q : ℤ × ℤ). is_within low high q.0) ps in
    subst (AllByRecursion inside) (sym (take_while-cons (λ (q : ℤ × ℤ). is_within low high q.0) p ps))
    (elim (is_within low high p.0) as (λ b. is_within low high p.0 ≡ b → AllByRecursion inside (cond b (p ∷ rest) [])) [
      | true ↦ λ e. (e, taken_within low high ps)
      | false ↦ λ e. tt
    ] refl)

-- points that are taken while they lie within
pub taken-inside : (low high low' high' : ℤ) (xs ps : List (ℤ × ℤ)) → low' ≡ low → high' ≡ high → xs ≡ take_while (λ (p : ℤ × ℤ). is_within low' high' p.0) ps → AllByRecursion (λ (p : ℤ × ℤ). is_within low high p.0 ≡ true) xs
taken-inside low high low' high' xs ps l h is =
    subst (λ x. AllByRecursion (λ (p : ℤ × ℤ). is_within x high p.0 ≡ true) xs) l
    (subst (λ x. AllByRecursion (λ (p : ℤ × ℤ). is_within low' x p.0 ≡ true) xs) h
    (subst (AllByRecursion (λ (p : ℤ × ℤ). is_within low' high' p.0 ≡ true)) (sym is) (taken_within low' high' ps)))

-- points merged into a run's part, which is then merged into its row, are points merged into their rows
pub run-merged : (parts : AggregateParts) (g : BucketGrid) (rows : List Aggregate) (low high : ℤ) (row_index : ℕ) (part next : Aggregate) (all left : List (ℤ × ℤ)) (others : ℕ)
    → length rows ≤ 18446744073709551615 → AreMerged parts low high part next all left → IsRun g rows (length all + others) low high row_index part
    → (with_point_parts parts g left (with_part row_index next rows) ≡ with_point_parts parts g all (with_part row_index part rows)) × IsRun g rows (length left + others) low high row_index next
run-merged parts g rows low high row_index part next all left others short m run =
    let both = points_of_run parts g rows low high row_index m.first left others part short m.within (subst (λ (ps : List (ℤ × ℤ)). IsRun g rows (length ps + others) low high row_index part) m.points run) in (
      ap (λ (a : Aggregate). with_point_parts parts g left (with_part row_index a rows)) m.merged ∙ both.0 ∙ sym (ap (λ (ps : List (ℤ × ℤ)). with_point_parts parts g ps (with_part row_index part rows)) m.points),
      subst (λ (a : Aggregate). IsRun g rows (length left + others) low high row_index a) (sym m.merged) both.1,
    )

-- points are added in two parts
pub points-in-parts : (parts : AggregateParts) (g : BucketGrid) (ps qs : List (ℤ × ℤ)) (rows : List Aggregate) → with_point_parts parts g qs (with_point_parts parts g ps rows) ≡ with_point_parts parts g (ps ++ qs) rows
points-in-parts parts g [] qs rows = refl
points-in-parts parts g (p ∷ ps) qs rows = points-in-parts parts g ps qs (with_part (row_index_at g p.0) (part_of_point parts p.0 p.1) rows)

-- ---- a run that begins by a block

pub front-first : (parts : AggregateParts) (g : BucketGrid) (rows : List Aggregate) (low high : ℤ) (row_index : ℕ) (before left : List (ℤ × ℤ)) (a : Aggregate) → length rows ≤ 18446744073709551615
    → ((t : ℤ) → low ≤ℤ t → t <ℤ high → row_index ≡ min (row_index_at g t) 18446744073709551615) → (get_or rows row_index empty_aggregate).count + (length before + 1) ≤ 2 ^ 62 → IsFront low high before left a
    → (with_point_parts parts g left (with_part row_index (part_of parts a) rows) ≡ with_point_parts parts g before rows) × IsRun g rows (length left) low high row_index (part_of parts a)
front-first parts g rows low high row_index before left a short within bounded front =
    let first = first_points front.block front.some front.within (subst (λ (ps : List (ℤ × ℤ)). (get_or rows row_index empty_aggregate).count + (length ps + 1) ≤ 2 ^ 62) front.split bounded) in
    let part : part_of parts a ≡ part_of parts (aggregate_of_points front.block) = ap (part_of parts) front.summary in (
      ap (λ (x : Aggregate). with_point_parts parts g left (with_part row_index x rows)) part ∙ first.0 ∙ sym (ap (λ (ps : List (ℤ × ℤ)). with_point_parts parts g ps rows) front.split),
      subst (λ (x : Aggregate). IsRun g rows (length left) low high row_index x) (sym part) first.1,
    )
  where
    first_points : (ps : List (ℤ × ℤ)) → 0 < length ps → AllByRecursion (λ (p : ℤ × ℤ). is_within low high p.0 ≡ true) ps → (get_or rows row_index empty_aggregate).count + (length (ps ++ left) + 1) ≤ 2 ^ 62
        → (with_point_parts parts g left (with_part row_index (part_of parts (aggregate_of_points ps)) rows) ≡ with_point_parts parts g (ps ++ left) rows) × IsRun g rows (length left) low high row_index (part_of parts (aggregate_of_points ps))
    first_points [] some inside fits = absurd (omega arith)
    first_points (p ∷ ps) some inside fits =
        let here = within_parts low high p.0 inside.0 in
        let one : Aggregate = part_of_point parts p.0 p.1 in
        let begun : IsRun g rows (length (ps ++ left) + 0) low high row_index one = run-begun parts p.0 p.1 g rows (length (ps ++ left) + 0) low high row_index one true within (λ e. omega arith) refl in
        let both = points_of_run parts g rows low high row_index ps left 0 one short inside.1 begun in
        let size : length left + 0 ≡ length left = omega arith in
        let whole : part_of parts (aggregate_of_points (p ∷ ps)) ≡ part_with parts one ps = points_whole parts p ps in (
          ap (λ (x : Aggregate). with_point_parts parts g left (with_part row_index x rows)) whole ∙ both.0
              ∙ ap (λ (r : List Aggregate). with_point_parts parts g (ps ++ left) r) (run-first parts p.0 p.1 g rows row_index one short (within p.0 here.0 here.1) refl),
          subst (λ n. IsRun g rows n low high row_index (part_of parts (aggregate_of_points (p ∷ ps)))) size (subst (λ (x : Aggregate). IsRun g rows (length left + 0) low high row_index x) (sym whole) both.1),
        )

-- Rollups of rules, when a column is created.
use Rattle.std.proofs.Common.{rules, ◌≡◌, ◌<◌, ℕ, zero, suc, List, [], ◌∷◌, ◌++◌, length, map, Option, Some, None, IsSome, refl, sym, ◌∙◌, ap, subst, inl, inr, ⊎_elim}
use Rattle.std.specs.List.{AllByRecursion, slice_get}
use Rattle.std.proofs.lemmas.List.{append-nil}
use Rattle.ts_core.specs.facts.Facts.{Column}
use Rattle.ts_core.specs.settings.Settings.{Rule}
use Rattle.ts_cells.specs.Grids.{RollupSeries}
use Rattle.ts_store.specs.rollup.Rollups.{RollupState, cells_of, rollup_series_under, IsRollupSeriesOf, HaveRollupSeries, AreRollups, Extends, KeepsCells, KeepCells, HasNext, HaveNext, joined_rollup_series, with_next}
use Rattle.ts_core.specs.lists.Members.{Among}
use Rattle.ts_core.specs.lists.Numbered.{IsAt, Gains}
use Rattle.ts_core.proofs.lists.BesideLemmas.{AllZip-then, AllZip-weaker}
use Rattle.std.proofs.lemmas.Slice.Zip.{AllZip-long, all_zipped_more}
use Rattle.std.proofs.lemmas.Option.{none-some, same_Some}
use Rattle.ts_store.proofs.write.StagedColumns.{slice_get_left}

pub keeps_itself : (s : RollupState) → KeepsCells s s
keeps_itself s = record { made = ([], sym (append-nil s.grid.rollup_series)); cells = refl; kept = refl }

-- seen from a state that is equal to the one before
pub keeps_view : (v s t : RollupState) → v ≡ s → Extends v.grid.rollup_series t.grid.rollup_series → t.grid.cells ≡ v.grid.cells → t.series_of_column ≡ v.series_of_column → KeepsCells s t
keeps_view v s t e made cells kept = subst (λ (x : RollupState). KeepsCells x t) e (record { made = made; cells = cells; kept = kept })

-- the next column is prepared under a rule
abbrev pub IsPrepared : Column → Rule → RollupState → RollupState → Type 0
IsPrepared c r s t = KeepsCells s t × HasNext r c t

-- ---- more rollup series

rollup_series_kept : (r : Rule) (c : Column) (rollup_series rollup_series' : List RollupSeries) (o : Option ℕ) → Extends rollup_series rollup_series' → IsRollupSeriesOf r c rollup_series o → IsRollupSeriesOf r c rollup_series' o
rollup_series_kept r c rollup_series rollup_series' None e at = at
rollup_series_kept r c rollup_series rollup_series' (Some l) e at = (at.0, ap (λ (ls : List RollupSeries). slice_get ls l) e.1 ∙ slice_get_left rollup_series e.0 l (rollup_series_under r c) at.1)

pub rollup_series_all_kept : (r : Rule) (rollup_series rollup_series' : List RollupSeries) (cs : List Column) (os : List (Option ℕ)) → Extends rollup_series rollup_series' → HaveRollupSeries r rollup_series cs os → HaveRollupSeries r rollup_series' cs os
rollup_series_all_kept r rollup_series rollup_series' cs os e h =
    AllZip-weaker (λ (c : Column). IsRollupSeriesOf r c rollup_series) (λ (c : Column). IsRollupSeriesOf r c rollup_series') (λ c o. rollup_series_kept r c rollup_series rollup_series' o e) cs os h

-- the rollup of a rule
abbrev pub IsOfRule : List Column → Rule → RollupState → Type 0
IsOfRule cs r s = HaveRollupSeries r s.grid.rollup_series cs s.series_of_column

pub rollups_kept : (rs : List Rule) (cs : List Column) (ss ts : List RollupState) → AreRollups rs cs ss → KeepCells ss ts → AreRollups rs cs ts
rollups_kept rs cs ss ts h k =
    AllZip-then (IsOfRule cs) KeepsCells (IsOfRule cs)
    (λ r s t have keeps. subst (HaveRollupSeries r t.grid.rollup_series cs) (sym keeps.kept) (rollup_series_all_kept r s.grid.rollup_series t.grid.rollup_series cs s.series_of_column keeps.made have)) rs ss ts h k

pub cells_kept : (ss ts : List RollupState) → KeepCells ss ts → cells_of ts ≡ cells_of ss
cells_kept [] [] k = refl
cells_kept (s ∷ ss) (t ∷ ts) k = ap (λ m. m ∷ cells_of ts) k.0.cells ∙ ap (λ ms. s.grid.cells ∷ ms) (cells_kept ss ts k.1)
cells_kept _ _ k = absurd k

-- ---- one more column

at_behind : (cs : List Column) (n : ℕ) (c : Column) → (Among c cs → ⊥) → IsAt (cs ++ c ∷ []) n c → n ≡ length cs
at_behind [] zero c away at = refl
at_behind [] (suc n) c away at = absurd (none-some c at)
at_behind (d ∷ cs) zero c away at = absurd (away (inl (sym (same_Some d c at))))
at_behind (d ∷ cs) (suc n) c away at = ap suc (at_behind cs n c (λ a. away (inr a)) at)

pub rollups-length : (rs : List Rule) (cs : List Column) (ss : List RollupState) → AreRollups rs cs ss → length ss ≡ length rs
rollups-length rs cs ss h = AllZip-long (IsOfRule cs) rs ss h

pub rollup_series-length : (r : Rule) (rollup_series : List RollupSeries) (cs : List Column) (os : List (Option ℕ)) → HaveRollupSeries r rollup_series cs os → length os ≡ length cs
rollup_series-length r rollup_series cs os h = AllZip-long (λ (c : Column). IsRollupSeriesOf r c rollup_series) cs os h

-- each number of a column is the index of a rollup series
pub numbers_inside : (rs : List Rule) (cs : List Column) (ss : List RollupState) (ns : List ℕ) → AreRollups rs cs ss → AllByRecursion (λ n. n < length cs) ns → AllByRecursion (λ (s : RollupState). AllByRecursion (λ n. n < length s.series_of_column) ns) ss
numbers_inside [] cs [] ns h a = tt
numbers_inside (r ∷ rs) cs (s ∷ ss) ns h a = (subst (λ m. AllByRecursion (λ n. n < m) ns) (sym (rollup_series-length r s.grid.rollup_series cs s.series_of_column h.0)) a, numbers_inside rs cs ss ns h.1 a)
numbers_inside _ cs _ ns h a = search rules

pub rollup_series_push : (r : Rule) (rollup_series : List RollupSeries) (cs : List Column) (os : List (Option ℕ)) (c : Column) (o : Option ℕ) → HaveRollupSeries r rollup_series cs os → IsRollupSeriesOf r c rollup_series o → HaveRollupSeries r rollup_series (cs ++ c ∷ []) (os ++ o ∷ [])
rollup_series_push r rollup_series cs os c o h at = all_zipped_more (λ (d : Column). IsRollupSeriesOf r d rollup_series) cs os c o h at

pub rollups_made : (rs : List Rule) (cs : List Column) (c : Column) (ss : List RollupState) → AreRollups rs cs ss → HaveNext rs c ss → AreRollups rs (cs ++ c ∷ []) (map with_next ss)
rollups_made [] cs c [] h k = tt
rollups_made (r ∷ rs) cs c (s ∷ ss) h k = (
  subst (λ (o : Option (Option ℕ)). HaveRollupSeries r s.grid.rollup_series (cs ++ c ∷ []) (joined_rollup_series s.series_of_column o)) (sym k.0.1) (rollup_series_push r s.grid.rollup_series cs s.series_of_column c k.0.0 h.0 k.0.2),
  rollups_made rs cs c ss h.1 k.1,
)
rollups_made _ cs c _ h k = search rules

pub cells_made : (ss : List RollupState) → cells_of (map with_next ss) ≡ cells_of ss
cells_made [] = refl
cells_made (s ∷ ss) = ap (λ ms. s.grid.cells ∷ ms) (cells_made ss)

-- a column after the others can be created
pub ready_to_make : (rs : List Rule) (cs : List Column) (c : Column) (n : ℕ) (ss : List RollupState) → AreRollups rs cs ss → HaveNext rs c ss → n ≡ length cs
    → AllByRecursion (λ (s : RollupState). IsSome s.next × (n ≡ length s.series_of_column)) ss
ready_to_make [] cs c n [] h k e = tt
ready_to_make (r ∷ rs) cs c n (s ∷ ss) h k e = (
  (subst (λ (o : Option (Option ℕ)). IsSome o) (sym k.0.1) refl, e ∙ sym (rollup_series-length r s.grid.rollup_series cs s.series_of_column h.0)),
  ready_to_make rs cs c n ss h.1 k.1 e,
)
ready_to_make _ cs c n _ h k e = search rules

-- a column that wasn't there is created after the others
pub made_behind : (cs cs' : List Column) (c : Column) (n : ℕ) → (Among c cs → ⊥) → Gains cs cs' c → IsAt cs' n c → (cs' ≡ cs ++ c ∷ []) × (n ≡ length cs)
made_behind cs cs' c n away gains at =
    ⊎_elim {C = (cs' ≡ cs ++ c ∷ []) × (n ≡ length cs)} (λ old. absurd (away old.0))
    (λ new. (new.1, at_behind cs n c away (subst (λ (ds : List Column). IsAt ds n c) new.1 at))) gains

use Rattle.std.proofs.lemmas.List.Filters.{dedup_is}
use Rattle.std.proofs.lemmas.List.Kept.{Contains-dedup_nat, Contains-from_dedup, AllPairs-from_increasing}
use Rattle.std.proofs.lemmas.List.Sorted.{Contains-permutation, IsPermutation-sym}
use Rattle.std.proofs.lemmas.Map.Keys.{IsStrictlyIncreasing-dedup}
use Rattle.ts_raw.proofs.RisingLemmas.{rising_from_pairs, among_contains, contains_among}
use Rattle.ts_raw.proofs.index.tagged.sort_and_dedup.Goals as goal

pub returns-clause-rise : goal.returns-clause-rise
returns-clause-rise g c =
    rw (dedup_is _ _ _ c.dedup.ensures.filtered) (rising_from_pairs _ (AllPairs-from_increasing _ (IsStrictlyIncreasing-dedup _ c.sort_unstable.ensures.sorted)))

pub returns-clause-same : goal.returns-clause-same
returns-clause-same g c n =
    let is = dedup_is _ _ _ c.dedup.ensures.filtered in
    let moved = c.sort_unstable.ensures.permutation in (
      λ a. contains_among _ n (rw is (Contains-dedup_nat _ n (Contains-permutation _ _ n moved (among_contains _ n a)))),
      λ a. contains_among _ n (Contains-permutation _ _ n (IsPermutation-sym _ _ moved) (Contains-from_dedup _ _ n (rw is at (among_contains _ n a)))),
    )

-- Equality of series by comparison.
use Rattle.std.proofs.Common.{◌≡◌, Equal, Ordering, ◌==◌, true, true≢false, refl, sym, ◌∙◌, ap}
use Rattle.std.specs.Ordering.{ordering_index}
use Rattle.std.proofs.lemmas.Cmp.{tied_itself}
use Rattle.ts_core.specs.facts.Facts.{Series, series_cmp}
use Rattle.ts_core.proofs.facts.Ids.{series_total, exact_series}

equal_from : (o : Ordering) → (ordering_index o == 1) ≡ true → o ≡ Equal
equal_from o h = elim o as (λ r. (ordering_index r == 1) ≡ true → r ≡ Equal) [ Equal ↦ λ _. refl | _ ↦ λ e. absurd (true≢false (sym e)) ] h

pub same_series : (s t : Series) (o : Ordering) → o ≡ series_cmp s t → (ordering_index o == 1) ≡ true → s ≡ t
same_series s t o is h = exact_series s t (sym is ∙ equal_from o h)

pub is_same_series : (s t : Series) (o : Ordering) → o ≡ series_cmp s t → s ≡ t → (ordering_index o == 1) ≡ true
is_same_series s t o is e = ap (λ r. ordering_index r == 1) (is ∙ ap (λ x. series_cmp x t) e ∙ tied_itself series_total t)

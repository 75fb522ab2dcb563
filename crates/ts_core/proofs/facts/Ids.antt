-- Orders of names and ids: total, with ties only between equal ones.
use Rattle.std.proofs.lemmas.Bool.{false_from_ne_true}
use Rattle.std.proofs.Common.{◌≡◌, ◌≢◌, true, false, refl, sym, ◌∙◌, ap, List, Equal, Ordering, is_eq, true≢false, ℤ}
use Rattle.std.specs.Ordering.{int_cmp}
use Rattle.std.specs.Cmp.{IsTotalOrder, int_cmp_total}
use Rattle.std.specs.FinMap.{slice_cmp-IsAntisymmetric}
use Rattle.std.specs.Cmp.Lexicographic.{slice_cmp}
use Rattle.std.proofs.lemmas.Cmp.{on_total, then_total, lists_total, nat_list_cmp_total, tied_itself}
use Rattle.std.proofs.lemmas.Map.Lookups.{CmpEqualImpliesEq, exact_pairs, exact_bytes, exact_signed}
use Rattle.std.proofs.lemmas.Map.Text.{is_eq-slice_cmp}
use Rattle.ts_core.specs.facts.Facts.{Text, text_cmp, same_text, Series, Column, Id, tag_cmp, series_cmp, column_cmp, id_cmp, same_id}

pub tags_total : IsTotalOrder tag_cmp
tags_total = then_total (on_total (λ (p : Text × Text). p.0) nat_list_cmp_total) (on_total (λ (p : Text × Text). p.1) nat_list_cmp_total)

pub series_total : IsTotalOrder series_cmp
series_total = then_total (on_total (λ (s : Series). s.measurement) nat_list_cmp_total) (on_total (λ (s : Series). s.tags) (lists_total tags_total))

pub columns_total : IsTotalOrder column_cmp
columns_total = then_total (on_total (λ (c : Column). c.series) series_total) (on_total (λ (c : Column). c.field) nat_list_cmp_total)

pub ids_total : IsTotalOrder id_cmp
ids_total = then_total (on_total (λ (i : Id). i.column) columns_total) (on_total (λ (i : Id). i.time) int_cmp_total)

pub exact_tags : CmpEqualImpliesEq tag_cmp
exact_tags = exact_pairs text_cmp text_cmp exact_bytes exact_bytes

pub exact_series : CmpEqualImpliesEq series_cmp
exact_series a b h =
    let parts = exact_pairs {A = Text} {B = List (Text × Text)} text_cmp (slice_cmp tag_cmp) exact_bytes (slice_cmp-IsAntisymmetric exact_tags) (a.measurement, a.tags) (b.measurement, b.tags) h in
    λ i. record { measurement = (parts i).0; tags = (parts i).1 }

pub exact_columns : CmpEqualImpliesEq column_cmp
exact_columns a b h =
    let parts = exact_pairs {A = Series} {B = Text} series_cmp text_cmp exact_series exact_bytes (a.series, a.field) (b.series, b.field) h in
    λ i. record { series = (parts i).0; field = (parts i).1 }

pub exact_ids : CmpEqualImpliesEq id_cmp
exact_ids a b h =
    let parts = exact_pairs {A = Column} {B = ℤ} column_cmp int_cmp exact_columns exact_signed (a.column, a.time) (b.column, b.time) h in
    λ i. record { column = (parts i).0; time = (parts i).1 }

pub equal_of : (o : Ordering) → is_eq o ≡ true → o ≡ Equal
equal_of o h = elim o as (λ r. is_eq r ≡ true → r ≡ Equal) [ Equal ↦ λ _. refl | _ ↦ λ e. absurd (true≢false (sym e)) ] h

pub same_id-eq : (i j : Id) → same_id i j ≡ true → i ≡ j
same_id-eq i j h = exact_ids i j (equal_of (id_cmp i j) h)

pub same_id-refl : (i : Id) → same_id i i ≡ true
same_id-refl i = ap is_eq (tied_itself ids_total i)

pub other_id : (i j : Id) → i ≢ j → same_id i j ≡ false
other_id i j n = false_from_ne_true _ (λ e. n (same_id-eq i j e))

pub same_text-eq : (s t : Text) → same_text s t ≡ true → s ≡ t
same_text-eq s t h = exact_bytes s t (equal_of (text_cmp s t) (is_eq-slice_cmp s t ∙ h))

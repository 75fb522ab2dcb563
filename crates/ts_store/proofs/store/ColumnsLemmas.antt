-- Facts and blocks of columns: one more point in one of them, their number, and one column after another.
use Rattle.std.proofs.Common.{Vec, ◌≡◌, ◌+◌, ℕ, zero, suc, ℤ, true, false, cond, List, [], ◌∷◌, ◌++◌, length, map, set, get_or, refl, sym, ◌∙◌, ap, subst, inl, inr, ◌⊎◌, ⊎_elim, arith, Some, is_eq, T, ◌<◌, ◌≤◌, take, drop, append_assoc}
use Rattle.std.specs.Ordering.{int_cmp, ordering_then, eq_by_cmp}
use Rattle.std.specs.List.{slice_get, AllByRecursion, AllZip}
use Rattle.std.specs.Vec.{with_items}
use Rattle.std.proofs.Math.ListN.{get_or-map}
use Rattle.std.proofs.lemmas.List.{length-append, length-map, nil_from_length, with_items_is, append-nil, take_more}
use Rattle.std.proofs.lemmas.List.Sums.{sum_by-cons}
use Rattle.std.specs.Cmp.{int_cmp_total}
use Rattle.std.specs.FinMap as finmap
use Rattle.std.specs.FinMap.{find, is_sorted, entries, entries-insert, entries_sorted, len-entries, len-empty, int_cmp-IsAntisymmetric}
use Rattle.std.specs.FinMap.Entries.{find-put}
use Rattle.std.proofs.lemmas.Cmp.{tied_itself}
use Rattle.std.proofs.lemmas.Option.{none-some, same_Some}
use Rattle.ts_core.specs.lists.Members.{Among, AllDistinct}
use Rattle.ts_core.specs.facts.Facts.{Column, Fact, Id, id_of, same_id}
use Rattle.ts_core.proofs.lists.MembersLemmas.{Among-left, Among-right, Among-append, Among-map, AllDistinct-append}
use Rattle.ts_core.proofs.facts.Ids.{columns_total, equal_of, other_id}
use Rattle.ts_core.proofs.lists.Sorted.{sorted-distinct, found_among, among_found}
use Rattle.ts_core.specs.moves.StoreMoves.{Puts}
use Rattle.ts_raw.specs.Columns.{PointMap, ColumnState}
use Rattle.ts_raw.specs.Indexed.{Indexed}
use Rattle.ts_raw.proofs.ColumnLaws.{points-rising}
use Rattle.ts_core.proofs.lists.NumberedLemmas.{at_among}
use Rattle.ts_core.specs.store.StoreStates.{ColumnPoints, column_of, fact_at, facts_of, facts_at}
use Rattle.ts_store.specs.store.ColumnStates.{facts_in, point_maps, with_points, columns_in, facts_of_columns, content_of, StoreContent, AreKnown, IsSoundContent, no_column}
use Rattle.ts_store.specs.read.PointsRead.{number_of_points, HasRisingPoints}
use Rattle.ts_store.specs.rollup.Rollups.{RollupState}
use Rattle.ts_core.specs.lists.Numbered.{IsAt}
use Rattle.std.proofs.lemmas.Slice.Zip.{all_zipped_more}
use Rattle.ts_raw.specs.BlockColumns.{AreHeld, points_in_texts}
use Rattle.ts_store.specs.store.BlocksHeld.{HoldColumns}

-- ---- in one column

pub in_column : (c : Column) (points : List (ℤ × ℤ)) (f : Fact) → Among f (map (fact_at c) points) → (f.column ≡ c) × Among (f.time, f.value) points
in_column c [] f a = absurd a
in_column c (p ∷ points) f a =
    ⊎_elim {C = (f.column ≡ c) × Among (f.time, f.value) (p ∷ points)} (λ e. (ap (λ (x : Fact). x.column) e, inl (ap (λ (x : Fact). (x.time, x.value)) e)))
    (λ k. let r = in_column c points f k in (r.0, inr r.1)) a

pub to_column : (c : Column) (points : List (ℤ × ℤ)) (p : ℤ × ℤ) → Among p points → Among (fact_at c p) (map (fact_at c) points)
to_column c points p a = Among-map (fact_at c) p points a

pub same_as : (c : Column) (f : Fact) → f.column ≡ c → fact_at c (f.time, f.value) ≡ f
same_as c f e = λ i. record { column = sym e i; time = f.time; value = f.value }

distinct_in : (c : Column) (points : List (ℤ × ℤ)) → AllDistinct points → AllDistinct (map (fact_at c) points)
distinct_in c [] d = tt
distinct_in c (p ∷ points) d = (λ a. d.0 (in_column c points (fact_at c p) a).1, distinct_in c points d.1)

-- facts of one column have one id where they have one time
same_id_in : (c : Column) (t s : ℤ) → same_id (record { column = c; time = t }) (record { column = c; time = s }) ≡ eq_by_cmp int_cmp t s
same_id_in c t s = ap (λ o. is_eq (ordering_then o (int_cmp t s))) (tied_itself columns_total c)

same_id_of : (c : Column) (f : Fact) (t : ℤ) → f.column ≡ c → same_id (id_of f) (record { column = c; time = t }) ≡ eq_by_cmp int_cmp f.time t
same_id_of c f t e = ap (λ (d : Column). same_id (record { column = d; time = f.time }) (record { column = c; time = t })) e ∙ same_id_in c f.time t

-- a point is put in
pub column_puts : (c : Column) (m : PointMap) (t v : ℤ) → Puts (facts_in c m) (facts_in c (finmap.insert m t v)) (fact_at c (t, v))
column_puts c m t v =
    let es : List (ℤ × ℤ) = entries m in
    let m' : PointMap = finmap.insert m t v in
    let es' : List (ℤ × ℤ) = entries m' in
    let f : Fact = fact_at c (t, v) in
    let s : T (is_sorted int_cmp es) = entries_sorted m in
    let s' : T (is_sorted int_cmp es') = entries_sorted m' in
    let found : (q : ℤ) → find int_cmp q es' ≡ cond (eq_by_cmp int_cmp q t) (Some v) (find int_cmp q es) =
    λ q. ap (find int_cmp q) (entries-insert int_cmp_total m t v) ∙ find-put int_cmp int_cmp_total q t v es in
    let there : (g : Fact) → g.column ≡ c → find int_cmp g.time es' ≡ Some g.value → Among g (facts_in c m') =
    λ g e h. subst (λ (x : Fact). Among x (facts_in c m')) (same_as c g e) (to_column c es' (g.time, g.value) (among_found int_cmp-IsAntisymmetric es' g.time g.value h)) in
    record {
      once = distinct_in c es' (sorted-distinct int_cmp_total es' s');
      new = there f refl (found t ∙ ap (λ b. cond b (Some v) (find int_cmp t es)) (ap is_eq (tied_itself int_cmp_total t)));
      kept = λ g a other.
          let r = in_column c es g a in
          there g r.0 (found g.time ∙ ap (λ b. cond b (Some v) (find int_cmp g.time es)) (sym (same_id_of c g t r.0) ∙ other) ∙ found_among int_cmp_total es s (g.time, g.value) r.1);
      only = λ g a.
          let r = in_column c es' g a in
          let h : cond (eq_by_cmp int_cmp g.time t) (Some v) (find int_cmp g.time es) ≡ Some g.value = sym (found g.time) ∙ found_among int_cmp_total es' s' (g.time, g.value) r.1 in
          elim (eq_by_cmp int_cmp g.time t) as (λ b. eq_by_cmp int_cmp g.time t ≡ b → cond b (Some v) (find int_cmp g.time es) ≡ Some g.value → (g ≡ f) ⊎ (Among g (facts_in c m) × (same_id (id_of g) (id_of f) ≡ false))) [
            | true ↦ λ e q. inl (sym (same_as c g r.0) ∙ ap (fact_at c) (λ i. (int_cmp-IsAntisymmetric g.time t (equal_of _ e) i, sym (same_Some v g.value q) i)))
            | false ↦ λ e q. inr (
              subst (λ (x : Fact). Among x (facts_in c m)) (same_as c g r.0) (to_column c es (g.time, g.value) (among_found int_cmp-IsAntisymmetric es g.time g.value q)),
              same_id_of c g t r.0 ∙ e,
            )
          ] refl h;
    }

-- ---- beside other columns

-- among other facts that are of other ids
puts_behind : (os before after : List Fact) (f : Fact) → AllDistinct os → ((g : Fact) → Among g os → same_id (id_of g) (id_of f) ≡ false) → ((g : Fact) → Among g os → Among g after → ⊥)
    → Puts before after f → Puts (os ++ before) (os ++ after) f
puts_behind os before after f d other apart p = record {
  once = AllDistinct-append os after d p.once apart;
  new = Among-right f os after p.new;
  kept = λ g a o. ⊎_elim {C = Among g (os ++ after)} (λ l. Among-left g os after l) (λ r. Among-right g os after (p.kept g r o)) (Among-append g os before a);
  only = λ g a. ⊎_elim {C = (g ≡ f) ⊎ (Among g (os ++ before) × (same_id (id_of g) (id_of f) ≡ false))}
      (λ l. inr (Among-left g os before l, other g l))
      (λ r. ⊎_elim {C = (g ≡ f) ⊎ (Among g (os ++ before) × (same_id (id_of g) (id_of f) ≡ false))} (λ e. inl e) (λ k. inr (Among-right g os before k.0, k.1)) (p.only g r))
      (Among-append g os after a);
}

puts_before : (before after os : List Fact) (f : Fact) → AllDistinct os → ((g : Fact) → Among g os → same_id (id_of g) (id_of f) ≡ false) → ((g : Fact) → Among g after → Among g os → ⊥)
    → Puts before after f → Puts (before ++ os) (after ++ os) f
puts_before before after os f d other apart p = record {
  once = AllDistinct-append after os p.once d apart;
  new = Among-left f after os p.new;
  kept = λ g a o. ⊎_elim {C = Among g (after ++ os)} (λ l. Among-left g after os (p.kept g l o)) (λ r. Among-right g after os r) (Among-append g before os a);
  only = λ g a. ⊎_elim {C = (g ≡ f) ⊎ (Among g (before ++ os) × (same_id (id_of g) (id_of f) ≡ false))}
      (λ l. ⊎_elim {C = (g ≡ f) ⊎ (Among g (before ++ os) × (same_id (id_of g) (id_of f) ≡ false))} (λ e. inl e) (λ k. inr (Among-left g before os k.0, k.1)) (p.only g l))
      (λ r. inr (Among-right g before os r, other g r))
      (Among-append g after os a);
}

-- a fact of the columns is of one of them
pub column_among : (cs : List Column) (ms : List PointMap) (g : Fact) → Among g (facts_of_columns cs ms) → Among g.column cs
column_among (c ∷ cs) (m ∷ ms) g a =
    ⊎_elim {C = Among g.column (c ∷ cs)} (λ l. inl (in_column c (entries m) g l).0) (λ r. inr (column_among cs ms g r)) (Among-append g (facts_in c m) (facts_of_columns cs ms) a)
column_among _ _ g a = absurd a

-- facts of other columns are other facts
other_column : (g f : Fact) → (g.column ≡ f.column → ⊥) → same_id (id_of g) (id_of f) ≡ false
other_column g f h = other_id (id_of g) (id_of f) (λ e. h (ap (λ (x : Id). x.column) e))

apart_from : (c : Column) (cs : List Column) (m : PointMap) (ms : List PointMap) → (Among c cs → ⊥) → (g : Fact) → Among g (facts_in c m) → Among g (facts_of_columns cs ms) → ⊥
apart_from c cs m ms away g a b = away (subst (λ (d : Column). Among d cs) (in_column c (entries m) g a).0 (column_among cs ms g b))

pub facts-distinct : (cs : List Column) (ms : List PointMap) → AllDistinct cs → AllDistinct (facts_of_columns cs ms)
facts-distinct (c ∷ cs) (m ∷ ms) d =
    AllDistinct-append (facts_in c m) (facts_of_columns cs ms) (distinct_in c (entries m) (sorted-distinct int_cmp_total (entries m) (entries_sorted m))) (facts-distinct cs ms d.1) (apart_from c cs m ms d.0)
facts-distinct _ _ d = tt

-- a point is put into the column of a number
pub columns_puts : (cs : List Column) (ms : List PointMap) (n : ℕ) (c : Column) (t v : ℤ) → AllDistinct cs → length ms ≡ length cs → slice_get cs n ≡ Some c
    → Puts (facts_of_columns cs ms) (facts_of_columns cs (set ms n (finmap.insert (get_or ms n finmap.empty) t v))) (fact_at c (t, v))
columns_puts [] ms n c t v d l e = absurd (none-some c e)
columns_puts (b ∷ cs) [] n c t v d l e = absurd (omega arith)
columns_puts (b ∷ cs) (m ∷ ms) zero c t v d l e =
    let same : b ≡ c = same_Some b c e in
    let at : Puts (facts_in b m) (facts_in b (finmap.insert m t v)) (fact_at c (t, v)) = subst (λ (x : Column). Puts (facts_in b m) (facts_in b (finmap.insert m t v)) (fact_at x (t, v))) same (column_puts b m t v) in
    puts_before (facts_in b m) (facts_in b (finmap.insert m t v)) (facts_of_columns cs ms) (fact_at c (t, v)) (facts-distinct cs ms d.1)
    (λ g a. other_column g (fact_at c (t, v)) (λ q. d.0 (subst (λ (x : Column). Among x cs) (q ∙ sym same) (column_among cs ms g a))))
    (λ g a b'. apart_from b cs (finmap.insert m t v) ms d.0 g a b')
    at
columns_puts (b ∷ cs) (m ∷ ms) (suc n) c t v d l e =
    let ms' : List PointMap = set ms n (finmap.insert (get_or ms n finmap.empty) t v) in
    puts_behind (facts_in b m) (facts_of_columns cs ms) (facts_of_columns cs ms') (fact_at c (t, v)) (distinct_in b (entries m) (sorted-distinct int_cmp_total (entries m) (entries_sorted m)))
    (λ g a. other_column g (fact_at c (t, v)) (λ q. d.0 (subst (λ (x : Column). Among x cs) (sym q ∙ (in_column b (entries m) g a).0) (at_among cs n c e))))
    (apart_from b cs m ms' d.0)
    (columns_puts cs ms n c t v d.1 (omega (arith, l)) e)

-- ---- a column without points

no_entries : entries (finmap.empty {X = ℤ} {R = int_cmp}) ≡ []
no_entries = nil_from_length _ (sym (len-entries (finmap.empty {X = ℤ} {R = int_cmp})) ∙ len-empty int_cmp ℤ)

-- each column with its points
pub names_of : (cs : List Column) (ms : List PointMap) → length ms ≡ length cs → map column_of (with_points cs ms) ≡ cs
names_of [] ms l = refl
names_of (c ∷ cs) [] l = absurd (omega (arith, l))
names_of (c ∷ cs) (m ∷ ms) l = ap (λ ds. c ∷ ds) (names_of cs ms (omega (arith, l)))

-- so those of an index
pub names_held : (index : Indexed) (ss : List ColumnState) → length ss ≡ length index.columns → map column_of (columns_in index ss) ≡ index.columns
names_held index ss each = names_of index.columns (point_maps ss) (length-map ss (λ (s : ColumnState). s.points) ∙ each)

-- each column of an index is known
pub known_of : (index : Indexed) (ss : List ColumnState) (rollups : List RollupState) → IsSoundContent index ss → AreKnown (content_of index ss rollups)
known_of index ss rollups h =
    let names : map column_of (columns_in index ss) ≡ index.columns = names_held index ss h.each in
    record {
      once = subst (λ (cs : List Column). AllDistinct cs) (sym names) h.sound.columns_once;
      registered = λ c a. h.sound.registered c (subst (λ (cs : List Column). Among c cs) names a);
    }

pub with_points-push : (cs : List Column) (ms : List PointMap) (c : Column) (m : PointMap) → length ms ≡ length cs → with_points (cs ++ c ∷ []) (ms ++ m ∷ []) ≡ with_points cs ms ++ record { column = c; points = entries m } ∷ []
with_points-push [] [] c m l = refl
with_points-push (d ∷ cs) (x ∷ ms) c m l = ap (λ xs. record { column = d; points = entries x } ∷ xs) (with_points-push cs ms c m (omega (arith, l)))
with_points-push _ _ c m l = absurd (omega (arith, l))

pub grown_behind : (cs : List Column) (ms : List PointMap) (c : Column) → length ms ≡ length cs → with_points (cs ++ c ∷ []) (ms ++ finmap.empty ∷ []) ≡ with_points cs ms ++ record { column = c; points = [] } ∷ []
grown_behind cs ms c l = with_points-push cs ms c finmap.empty l ∙ ap (λ (ps : List (ℤ × ℤ)). with_points cs ms ++ record { column = c; points = ps } ∷ []) no_entries

-- ---- how many

pub facts-length : (cs : List Column) (ss : List ColumnState) → length ss ≡ length cs → length (facts_of_columns cs (point_maps ss)) ≡ number_of_points ss
facts-length [] [] l = refl
facts-length (c ∷ cs) (s ∷ ss) l =
    length-append (facts_in c s.points) (facts_of_columns cs (point_maps ss))
    ∙ ap (λ k. k + length (facts_of_columns cs (point_maps ss))) (length-map (entries s.points) (fact_at c) ∙ sym (len-entries s.points))
    ∙ ap (λ k. finmap.len s.points + k) (facts-length cs ss (omega (arith, l)))
    ∙ sym (sum_by-cons (λ (t : ColumnState). finmap.len t.points) s ss)
facts-length _ _ l = absurd (omega (arith, l))

pub with_points-length : (cs : List Column) (ms : List PointMap) → length ms ≡ length cs → length (with_points cs ms) ≡ length cs
with_points-length cs ms l = sym (length-map (with_points cs ms) column_of) ∙ ap length (names_of cs ms l)

pub with_points-rising : (cs : List Column) (ms : List PointMap) → AllByRecursion HasRisingPoints (with_points cs ms)
with_points-rising (c ∷ cs) (m ∷ ms) = (points-rising m, with_points-rising cs ms)
with_points-rising _ _ = tt

-- ---- of a content that is shown

module _ (index : Indexed) (ss : List ColumnState) (us : List RollupState) (k : StoreContent) (held : IsSoundContent index ss) (view : content_of index ss us ≡ k) where
  pub its_points : length (facts_of k.columns) ≡ number_of_points ss
  its_points = ap (λ (h : StoreContent). length (facts_of h.columns)) (sym view) ∙ facts-length index.columns ss held.each

  pub its_columns : length k.columns ≡ length ss
  its_columns = ap (λ (h : StoreContent). length h.columns) (sym view) ∙ with_points-length index.columns (point_maps ss) (length-map ss (λ (s : ColumnState). s.points) ∙ held.each) ∙ sym held.each

  pub its_names : map column_of k.columns ≡ index.columns
  its_names = ap (λ (h : StoreContent). map column_of h.columns) (sym view) ∙ names_held index ss held.each

-- what was lent is written back
pub written_back : {X A : Type 0} (v : Vec X A) (lent new : List X) → length new ≡ length lent → lent ≡ v.items → (with_items v new).items ≡ new
written_back v lent new same is = with_items_is v new (same ∙ ap length is ∙ sym v.ok.0)

-- ---- one after another

facts-taken : (xs : List ColumnPoints) (n : ℕ) (x : ColumnPoints) → slice_get xs n ≡ Some x → facts_of (take (suc n) xs) ≡ facts_of (take n xs) ++ facts_at x.column x.points
facts-taken [] n x at = absurd (none-some x at)
facts-taken (y ∷ ys) zero x at = append-nil (facts_at y.column y.points) ∙ ap (λ (z : ColumnPoints). facts_at z.column z.points) (same_Some y x at)
facts-taken (y ∷ ys) (suc n) x at =
    ap (λ fs. facts_at y.column y.points ++ fs) (facts-taken ys n x at) ∙ sym (append_assoc (facts_at y.column y.points) (facts_of (take n ys)) (facts_at x.column x.points))

facts-dropped : (xs : List ColumnPoints) (n : ℕ) (x : ColumnPoints) → slice_get xs n ≡ Some x → facts_of (drop n xs) ≡ facts_at x.column x.points ++ facts_of (drop (suc n) xs)
facts-dropped [] n x at = absurd (none-some x at)
facts-dropped (y ∷ ys) zero x at = ap (λ (z : ColumnPoints). facts_at z.column z.points ++ facts_of ys) (same_Some y x at)
facts-dropped (y ∷ ys) (suc n) x at = facts-dropped ys n x at

with_points-at : (cs : List Column) (ms : List PointMap) (n : ℕ) (c : Column) → length ms ≡ length cs → slice_get cs n ≡ Some c → slice_get (with_points cs ms) n ≡ Some (record { column = c; points = finmap.entries (get_or ms n finmap.empty) })
with_points-at [] ms n c l at = absurd (none-some c at)
with_points-at (d ∷ cs) [] n c l at = absurd (omega (arith, l))
with_points-at (d ∷ cs) (m ∷ ms) zero c l at = ap (λ (x : Column). Some (record { column = x; points = finmap.entries m })) (same_Some d c at)
with_points-at (d ∷ cs) (m ∷ ms) (suc n) c l at = with_points-at cs ms n c (omega (arith, l)) at

module _ (cs : List Column) (ss : List ColumnState) (n : ℕ) (c : Column) (s : ColumnState) (each : length ss ≡ length cs) (at : IsAt cs n c) (is : s ≡ get_or ss n no_column) where
  abbrev its : ColumnPoints
  its = record { column = c; points = finmap.entries s.points }

  pub its_at : slice_get (with_points cs (point_maps ss)) n ≡ Some its
  its_at =
      with_points-at cs (point_maps ss) n c (length-map ss (λ (x : ColumnState). x.points) ∙ each) at
      ∙ ap (λ (m : PointMap). Some (record { column = c; points = finmap.entries m })) (get_or-map (λ (x : ColumnState). x.points) ss n no_column ∙ ap (λ (x : ColumnState). x.points) (sym is))

  pub turn-taken : (m : ℕ) → m ≡ suc n → facts_of (take m (with_points cs (point_maps ss))) ≡ facts_of (take n (with_points cs (point_maps ss))) ++ facts_at c (finmap.entries s.points)
  turn-taken m e = ap (λ k. facts_of (take k (with_points cs (point_maps ss)))) e ∙ facts-taken (with_points cs (point_maps ss)) n its its_at

  pub turn-dropped : (m : ℕ) → m ≡ suc n → facts_of (drop n (with_points cs (point_maps ss))) ≡ facts_at c (finmap.entries s.points) ++ facts_of (drop m (with_points cs (point_maps ss)))
  turn-dropped m e = facts-dropped (with_points cs (point_maps ss)) n its its_at ∙ ap (λ k. facts_at c (finmap.entries s.points) ++ facts_of (drop k (with_points cs (point_maps ss)))) (sym e)

-- a number below theirs is that of a column
pub column-there : (cs : List Column) (n : ℕ) → n < length cs → (c : Column) × IsAt cs n c
column-there [] n h = absurd (omega arith)
column-there (c ∷ cs) zero h = (c, refl)
column-there (c ∷ cs) (suc n) h = column-there cs n (omega (arith, h))

-- one has no more points than all
pub some-points : (ss : List ColumnState) (n : ℕ) → n < length ss → finmap.len (get_or ss n no_column).points ≤ number_of_points ss
some-points [] n l = absurd (omega arith)
some-points (s ∷ ss) zero l = let a = sum_by-cons (λ (x : ColumnState). finmap.len x.points) s ss in omega (arith, a)
some-points (s ∷ ss) (suc n) l = let a = sum_by-cons (λ (x : ColumnState). finmap.len x.points) s ss in let most = some-points ss n (omega (arith, l)) in omega (arith, a, most)

-- ---- their blocks

-- for each column, the texts of blocks that hold its points
abbrev pub HoldStates : List ColumnState → List (List (List ℕ)) → Type 0
HoldStates = AllZip (λ (s : ColumnState) (texts : List (List ℕ)). AreHeld (finmap.entries s.points) texts (points_in_texts texts))

-- the blocks of the next column follow
pub next_held : (ss : List ColumnState) (i : ℕ) (s : ColumnState) (all : List (List (List ℕ))) (texts : List (List ℕ)) → i < length ss → s ≡ get_or ss i s → HoldStates (take i ss) all → AreHeld (finmap.entries s.points) texts (points_in_texts texts)
    → HoldStates (take (i + 1) ss) (all ++ texts ∷ [])
next_held ss i s all texts l at h k =
    let front : take (i + 1) ss ≡ take i ss ++ (s ∷ []) = take_more ss i s l ∙ ap (λ (x : ColumnState). take i ss ++ (x ∷ [])) (sym at) in
    subst (λ (x : List ColumnState). HoldStates x (all ++ texts ∷ [])) (sym front) (all_zipped_more (λ (c : ColumnState) (ts : List (List ℕ)). AreHeld (finmap.entries c.points) ts (points_in_texts ts)) (take i ss) all s texts h k)

-- they hold the points that are shown
pub columns_held : (cs : List Column) (ss : List ColumnState) (all : List (List (List ℕ))) → length ss ≡ length cs → HoldStates ss all → HoldColumns (with_points cs (point_maps ss)) all
columns_held [] [] [] l h = tt
columns_held (c ∷ cs) (s ∷ ss) (t ∷ all) l h = (h.0, columns_held cs ss all (omega (arith, l)) h.1)
columns_held [] [] (t ∷ all) l h = absurd h
columns_held (c ∷ cs) (s ∷ ss) [] l h = absurd h
columns_held _ _ all l h = absurd (omega (arith, l))

-- Points of a column as they are read.
use Rattle.std.proofs.Common.{◌≡◌, ◌⊎◌, ⊎_elim, inl, inr, ℕ, ℤ, ◌≤ℤ◌, ◌<ℤ◌, int_cmp, Less, Greater, List, [], ◌∷◌, ◌++◌, map, refl, sym, ap, subst, ◌∙◌, append-nil, arith}
use Rattle.std.proofs.lemmas.Int.{ints}
use Rattle.std.proofs.lemmas.List.{nil_from_length}
use Rattle.std.specs.Cmp.{int_cmp_total}
use Rattle.std.specs.List.{AllByRecursion}
use Rattle.std.specs.FinMap as finmap
use Rattle.std.specs.FinMap.{put, entries_sorted, entries-insert, len-entries, len-empty}
use Rattle.std.specs.FinMap.Entries.{by_order}
use Rattle.ts_core.specs.facts.Times.{least_time, IsTime}
use Rattle.ts_core.specs.lists.Members.{Among}
use Rattle.ts_core.proofs.lists.ListSteps.{all_push}
use Rattle.ts_core.proofs.lists.MembersLemmas.{Among-map}
use Rattle.ts_raw.specs.Columns.{PointMap, AreTimed}
use Rattle.ts_store.specs.image.SavedContent.{AreRising}
use Rattle.ts_image.specs.ImageTests.{IsImagePoint}
use Rattle.ts_image.specs.PointParts.{IsNextPoint, IsFirstOther, AreParted}
use Rattle.ts_image.proofs.Orders.{all_among, among_all, rising_rest, first_before, rising_keys}

abbrev time_of : ℤ × ℤ → ℤ
time_of p = p.0

abbrev AreBefore : ℤ → List (ℤ × ℤ) → Type 0
AreBefore t ps = AllByRecursion (λ (p : ℤ × ℤ). p.0 <ℤ t) ps

pub no_entries : finmap.entries (finmap.empty {X = ℤ} {R = int_cmp}) ≡ []
no_entries = nil_from_length _ (sym (len-entries (finmap.empty {X = ℤ} {R = int_cmp})) ∙ len-empty int_cmp ℤ)

-- ---- a point after all others

put_last : (t v : ℤ) (ps : List (ℤ × ℤ)) → AreBefore t ps → put int_cmp t v ps ≡ ps ++ (t, v) ∷ []
put_last t v [] h = refl
put_last t v (p ∷ ps) h =
    let l : p.0 <ℤ t = h.0 in
    let later : int_cmp t p.0 ≡ Greater = grind (arith, ints) in
    ap (λ r. by_order r ((t, v) ∷ p ∷ ps) ((p.0, v) ∷ ps) (p ∷ put int_cmp t v ps)) later ∙ ap (λ (qs : List (ℤ × ℤ)). p ∷ qs) (put_last t v ps h.1)

pub inserted_last : (m : PointMap) (t v : ℤ) → AreBefore t (finmap.entries m) → finmap.entries (finmap.insert m t v) ≡ finmap.entries m ++ (t, v) ∷ []
inserted_last m t v h = entries-insert int_cmp_total m t v ∙ put_last t v (finmap.entries m) h

-- ---- points are read

pub none_parted : (last : ℤ) → last <ℤ least_time → AreParted [] last []
none_parted last low = record { timed = tt; before = tt; reached = inl low; apart = tt }

pub all_before : (ps others : List (ℤ × ℤ)) (last t : ℤ) → AreParted ps last others → last <ℤ t → AreBefore t ps
all_before ps others last t h l = among_all (λ (p : ℤ × ℤ). p.0 <ℤ t) ps (λ p a. let below : p.0 ≤ℤ last = all_among (λ (q : ℤ × ℤ). q.0 ≤ℤ last) ps h.before p a in grind (arith, ints))

among_last : (ps : List (ℤ × ℤ)) (p : ℤ × ℤ) → Among p (ps ++ p ∷ [])
among_last [] p = inl refl
among_last (q ∷ ps) p = inr (among_last ps p)

at_most : (ps : List (ℤ × ℤ)) (t : ℤ) → AreBefore t ps → AllByRecursion (λ (p : ℤ × ℤ). p.0 ≤ℤ t) ps
at_most [] t h = tt
at_most (p ∷ ps) t h = (let l : p.0 <ℤ t = h.0 in let k : p.0 ≤ℤ t = grind (arith, ints) in k, at_most ps t h.1)

-- a point is put into the column
pub next_parted : (ps others : List (ℤ × ℤ)) (last t v : ℤ) → AreParted ps last others → IsNextPoint last others t → AreParted (ps ++ (t, v) ∷ []) t others
next_parted ps others last t v h next = record {
  timed = all_push (λ (p : ℤ × ℤ). IsTime p.0) ps (t, v) h.timed next.valid;
  before = all_push (λ (p : ℤ × ℤ). p.0 ≤ℤ t) ps (t, v) (at_most ps t (all_before ps others last t h next.later)) (let k : t ≤ℤ t = grind (arith, ints) in k);
  reached = inr (v, among_last ps (t, v));
  apart = subst (IsFirstOther t) (sym next.first) tt;
}

-- ---- points of an image without contradictions

-- a member comes before each later one
rising_across : (ps : List (ℤ × ℤ)) (q p : ℤ × ℤ) (others : List (ℤ × ℤ)) → AreRising int_cmp (map time_of (ps ++ p ∷ others)) → Among q ps → int_cmp q.0 p.0 ≡ Less
rising_across [] q p others r a = absurd a
rising_across (x ∷ ps) q p others r a =
    ⊎_elim {C = int_cmp q.0 p.0 ≡ Less}
    (λ (e : q ≡ x). ap (λ (y : ℤ × ℤ). int_cmp y.0 p.0) e ∙ first_before int_cmp_total x.0 (map time_of (ps ++ p ∷ others)) r p.0 (Among-map time_of p (ps ++ p ∷ others) (among_between ps p others)))
    (λ k. rising_across ps q p others (rising_rest int_cmp x.0 (map time_of (ps ++ p ∷ others)) r) k) a
  where
    among_between : (xs : List (ℤ × ℤ)) (y : ℤ × ℤ) (zs : List (ℤ × ℤ)) → Among y (xs ++ y ∷ zs)
    among_between [] y zs = inl refl
    among_between (w ∷ xs) y zs = inr (among_between xs y zs)

timed_between : (ps : List (ℤ × ℤ)) (p : ℤ × ℤ) (others : List (ℤ × ℤ)) → AreTimed (ps ++ p ∷ others) → IsTime p.0
timed_between [] p others h = h.0
timed_between (x ∷ ps) p others h = timed_between ps p others h.1

after_last : (ps : List (ℤ × ℤ)) (last : ℤ) (p : ℤ × ℤ) (others : List (ℤ × ℤ)) → AreParted ps last (p ∷ others) → IsTime p.0 → AreRising int_cmp (map time_of (ps ++ p ∷ others)) → last <ℤ p.0
after_last ps last p others h valid r =
    ⊎_elim {C = last <ℤ p.0} (λ (low : last <ℤ least_time). let k : least_time ≤ℤ p.0 = valid.not_before in grind (arith, ints))
    (λ there. let e : int_cmp last p.0 ≡ Less = rising_across ps (last, there.0) p others r there.1 in grind (arith, ints)) h.reached

-- each point is in the column
pub none_other : (ps : List (ℤ × ℤ)) (last : ℤ) (others : List (ℤ × ℤ)) → AreParted ps last others → AreTimed (ps ++ others) → AreRising int_cmp (map time_of (ps ++ others)) → others ≡ []
none_other ps last [] h timed r = refl
none_other ps last (p ∷ others) h timed r =
    let valid : IsTime p.0 = timed_between ps p others timed in
    let later : last <ℤ p.0 = after_last ps last p others h valid r in
    absurd (⊎_elim {C = ⊥} (λ (l : p.0 ≤ℤ last). absurd (grind (arith, ints))) (λ never. never valid) h.apart)

pub points_rise : (m : PointMap) → AreRising int_cmp (map time_of (finmap.entries m))
points_rise m = rising_keys int_cmp (finmap.entries m) (entries_sorted m)

-- ---- points at or after a mark

pub all_from : (mark : ℤ) (p : ℤ × ℤ) (ps : List (ℤ × ℤ)) → AreRising int_cmp (map time_of (p ∷ ps)) → mark ≤ℤ p.0 → AllByRecursion (λ (q : ℤ × ℤ). mark ≤ℤ q.0) (p ∷ ps)
all_from mark p ps r l = (
  l,
  among_all (λ (q : ℤ × ℤ). mark ≤ℤ q.0) ps (λ q a. let e : int_cmp p.0 q.0 ≡ Less = first_before int_cmp_total p.0 (map time_of ps) r q.0 (Among-map time_of q ps a) in grind (arith, ints)),
)

pub image_points : (mark : ℤ) (waits : ℕ) (ps : List (ℤ × ℤ)) → AreTimed ps → (waits ≡ 1) ⊎ AllByRecursion (λ (q : ℤ × ℤ). mark ≤ℤ q.0) ps → AllByRecursion (IsImagePoint mark waits) ps
image_points mark waits [] h marked = tt
image_points mark waits (p ∷ ps) h (inl one) = ((h.0, inl one), image_points mark waits ps h.1 (inl one))
image_points mark waits (p ∷ ps) h (inr from) = ((h.0, inr from.0), image_points mark waits ps h.1 (inr from.1))

pub all_timed : (mark : ℤ) (waits : ℕ) (ps : List (ℤ × ℤ)) → AllByRecursion (IsImagePoint mark waits) ps → AreTimed ps
all_timed mark waits [] h = tt
all_timed mark waits (p ∷ ps) h = (h.0.0, all_timed mark waits ps h.1)

pub all_marked : (mark : ℤ) (waits : ℕ) (ps : List (ℤ × ℤ)) → (waits ≡ 1 → ⊥) → AllByRecursion (IsImagePoint mark waits) ps → AllByRecursion (λ (q : ℤ × ℤ). mark ≤ℤ q.0) ps
all_marked mark waits [] other h = tt
all_marked mark waits (p ∷ ps) other h = (⊎_elim {C = mark ≤ℤ p.0} (λ one. absurd (other one)) (λ from. from) h.0.1, all_marked mark waits ps other h.1)

-- ---- what is read, if each point is in the column

pub column_alone : (ps others all : List (ℤ × ℤ)) → ps ++ others ≡ all → others ≡ [] → all ≡ ps
column_alone ps others all shown none = sym shown ∙ ap (λ (qs : List (ℤ × ℤ)). ps ++ qs) none ∙ append-nil ps

pub alone : (ps : List (ℤ × ℤ)) (last : ℤ) (others all : List (ℤ × ℤ)) → AreParted ps last others → ps ++ others ≡ all → AreTimed all → AreRising int_cmp (map time_of all) → others ≡ []
alone ps last others all h shown timed r = none_other ps last others h (subst AreTimed (sym shown) timed) (subst (λ (qs : List (ℤ × ℤ)). AreRising int_cmp (map time_of qs)) (sym shown) r)

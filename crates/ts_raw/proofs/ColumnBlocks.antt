-- A column as coded blocks.
use Rattle.std.proofs.Common.{◌≡◌, ℕ, zero, suc, ◌+◌, ◌-◌, ◌<◌, ◌≤◌, max, ℤ, pos, ◌+ℤ◌, ◌<ℤ◌, ◌≤ℤ◌, int_cmp, int_lt, int_le, true, false, is_lt, is_eq, cond, T, List, [], ◌∷◌, ◌++◌, length, take, drop, filter, get_or, slice_get, ⊎_elim, append-nil, length-append, length-drop, drop-cons, Option, Some, None, refl, sym, ◌∙◌, ap, subst, arith}
use Rattle.std.proofs.lemmas.Int.{ints}
use Rattle.std.proofs.lemmas.Bool.{cases_lt}
use Rattle.std.proofs.lemmas.List.{take-append-drop, drop-drop}
use Rattle.std.proofs.Math.Seq.{drop-append-add}
use Rattle.std.specs.Iterator.{YieldsFirst}
use Rattle.std.specs.List.{AllByRecursion}
use Rattle.std.specs.Cmp.{int_cmp_total}
use Rattle.std.specs.FinMap as map
use Rattle.std.specs.FinMap.{put, find}
use Rattle.std.specs.FinMap.Entries.{below_all}
use Rattle.ts_core.specs.facts.Facts.{is_within}
use Rattle.ts_core.proofs.lists.Places.{both_of}
use Rattle.ts_core.proofs.lists.Comparisons.{lt_from}
use Rattle.ts_core.proofs.lists.Windows.{filter-within, filter-nothing_within}
use Rattle.ts_block.specs.Blocks.{times_of, ArePoints, last_of}
use Rattle.ts_block.specs.Appending.{last_time}
use Rattle.ts_raw.specs.declared.coded_blocks.CodedBlocks.{CodedBlocks}
use Rattle.ts_raw.specs.CodedBlocks.{AreNone, AreSame, AreSoundBlocks, points_of_blocks}
use Rattle.ts_raw.specs.declared.block_handle.BlockHandle.{BlockHandle}
use Rattle.ts_raw.specs.Columns.{AreTimed}
use Rattle.ts_raw.specs.PlainColumns.{IsRising, IsStartOf}
use Rattle.ts_raw.specs.CodedPoints.{block_text_at, block_points_at, coded_points, blocks_at, IsBlockHandle, AreBlocks, AreOrdered, IsCoded, AreCountedBlocks, count_in_blocks, before_first, AllEndBefore, AreApart, IsLastBefore, CutFits}
use Rattle.ts_raw.specs.BlockColumns.{AreBlocksOf, texts_at}
use Rattle.ts_raw.proofs.CodedLemmas.{points_hold}
use Rattle.ts_raw.proofs.CutLemmas.{first_parts, first_bound, start_behind, is_rising_behind, timed_behind}
use Rattle.ts_raw.proofs.PointMaps.{from_sorted-put}
use Rattle.ts_raw.proofs.PointRanges.{drop-before}
use Rattle.ts_raw.proofs.PushLemmas.{none_counted, coded_less}
use Rattle.ts_raw.proofs.BlockLists.{mark_at, take_next, counted_again, same_points}
use Rattle.ts_block.proofs.SplicingLemmas.{put_after}
use Rattle.ts_raw.proofs.RewriteLemmas.{counts_are, count_front, coded_join, rising_first}
use Rattle.ts_raw.proofs.SplicedLemmas.{few_points}

-- ---- the removed points are within the first block

pub cut_within : (bytes : List ℕ) (ms : List BlockHandle) (cut : ℕ) → CutFits cut (blocks_at bytes ms) → cut ≤ length (coded_points bytes ms)
unfolding coded_points
cut_within bytes [] cut h = omega arith
cut_within bytes (m ∷ ms) cut h = let a = length-append (block_points_at bytes m) (coded_points bytes ms) in omega arith

pub cut_few : (bytes : List ℕ) (ms : List BlockHandle) (cut : ℕ) → AreBlocks bytes ms → CutFits cut (blocks_at bytes ms) → cut ≤ 255
cut_few bytes [] cut marked h = omega arith
cut_few bytes (m ∷ ms) cut marked h = let a = (few_points (block_points_at bytes m) marked.0.block.points_are).0 in omega arith

pub sound_none : {A : Type 0} (b : CodedBlocks A) → AreNone b → AreSoundBlocks b
sound_none b n = record {
  counted = subst (AreCountedBlocks b.bytes.items b.handles.items) (sym n.no_points) (none_counted b.bytes.items b.handles.items n.no_bytes n.no_handles).0;
  apart = subst AreApart (sym n.no_handles) tt;
  cut_fits = subst (λ (x : List BlockHandle). CutFits b.cut (blocks_at b.bytes.items x)) (sym n.no_handles) n.none_cut;
}

pub points_none : {A : Type 0} (b : CodedBlocks A) → AreNone b → points_of_blocks b ≡ []
points_none b n = (λ i. drop (n.none_cut i) (coded_points b.bytes.items b.handles.items)) ∙ (none_counted b.bytes.items b.handles.items n.no_bytes n.no_handles).1

-- ---- the blocks' bytes

pub blocks_are : (bytes : List ℕ) (ms : List BlockHandle) → AreBlocks bytes ms → AreBlocksOf (texts_at bytes ms) (blocks_at bytes ms)
blocks_are bytes [] h = tt
blocks_are bytes (m ∷ ms) h = (h.0.block, blocks_are bytes ms h.1)

pub mark_found : (bytes : List ℕ) (ms : List BlockHandle) (i : ℕ) (m : BlockHandle) → AreBlocks bytes ms → slice_get ms i ≡ Some m → IsBlockHandle bytes m × (slice_get (texts_at bytes ms) i ≡ Some (block_text_at bytes m))
mark_found bytes [] i m h e = absurd (none_some m e)
  where
    none_some : (m : BlockHandle) → slice_get {X = BlockHandle} [] i ≡ Some m → ⊥
    none_some m e = cc
mark_found bytes (n ∷ ms) zero m h e = let same : n ≡ m = ap (λ (x : Option BlockHandle). or_else n x) e in (subst (IsBlockHandle bytes) same h.0, ap (λ x. Some (block_text_at bytes x)) same)
  where
    or_else : BlockHandle → Option BlockHandle → BlockHandle
    or_else d None = d
    or_else d (Some x) = x
mark_found bytes (n ∷ ms) (suc i) m h e = mark_found bytes ms i m h.1 e

-- ---- the value at a time

abbrev pub value_of : Option (ℤ × ℤ) → Option ℤ
value_of None = None
value_of (Some p) = Some p.1

within_one : (t k : ℤ) → is_within t (t +ℤ pos 1) k ≡ is_eq (int_cmp t k)
within_one t k = grind (arith, ints)

abbrev at_time : ℤ → List (ℤ × ℤ) → List (ℤ × ℤ)
at_time t es = filter (λ (p : ℤ × ℤ). is_within t (t +ℤ pos 1) p.0) es

pub value_first : (t : ℤ) (es rest : List (ℤ × ℤ)) (r : Option (ℤ × ℤ)) → YieldsFirst {S = List (ℤ × ℤ)} {A = ℤ × ℤ} (λ p. p) (at_time t es) r rest → find int_cmp t es ≡ value_of r
value_first t [] rest None h = refl
value_first t [] rest (Some p) h = absurd (let s = ap length h in omega arith)
value_first t (e ∷ es) rest r h =
    elim (is_eq (int_cmp t e.0)) as (λ b. is_eq (int_cmp t e.0) ≡ b → cond b (Some e.1) (find int_cmp t es) ≡ value_of r) [
      | true ↦ λ is. first r (subst (λ b. YieldsFirst {S = List (ℤ × ℤ)} {A = ℤ × ℤ} (λ p. p) (cond b (e ∷ at_time t es) (at_time t es)) r rest) (within_one t e.0 ∙ is) h)
      | false ↦ λ is. value_first t es rest r (subst (λ b. YieldsFirst {S = List (ℤ × ℤ)} {A = ℤ × ℤ} (λ p. p) (cond b (e ∷ at_time t es) (at_time t es)) r rest) (within_one t e.0 ∙ is) h)
    ] refl
  where
    first : (r : Option (ℤ × ℤ)) → YieldsFirst {S = List (ℤ × ℤ)} {A = ℤ × ℤ} (λ p. p) (e ∷ at_time t es) r rest → Some e.1 ≡ value_of r
    first None h = absurd (let s = ap length h.0 in omega arith)
    first (Some p) h = ap (λ (x : List (ℤ × ℤ)). Some (get_or x 0 p).1) h

-- none is at a time after them all
pub none_at : (t : ℤ) (es : List (ℤ × ℤ)) → AllByRecursion (λ (q : ℤ × ℤ). q.0 <ℤ t) es → find int_cmp t es ≡ None
none_at t [] h = refl
none_at t (e ∷ es) h =
    let earlier : e.0 <ℤ t = h.0 in
    let other : is_eq (int_cmp t e.0) ≡ false = grind (arith, ints) in
    ap (λ b. cond b (Some e.1) (find int_cmp t es)) other ∙ none_at t es h.1

-- ---- blocks before a time

ends_of : (t : ℤ) (ms : List BlockHandle) (at : ℕ) → ((k : ℕ) (d : BlockHandle) → k < at → k < length ms → int_lt (get_or ms k d).last t ≡ true) → AllEndBefore (take at ms) t
ends_of t ms zero f = tt
ends_of t [] (suc at) f = tt
ends_of t (m ∷ ms) (suc at) f = (lt_from m.last t (f 0 m (omega arith) (omega arith)), ends_of t ms at (λ k d a b. f (suc k) d (omega arith) (omega arith)))

pub ends_before : (t : ℤ) (ms : List BlockHandle) (at : ℕ) → at ≤ length ms → IsLastBefore t ms at → AllEndBefore (take at ms) t
ends_before t ms at l p = ends_of t ms at (λ k d a b. p.0 k d (omega arith) a)

pub not_less : (x t : ℤ) → int_lt x t ≡ false → t ≤ℤ x
not_less x t h = grind (arith, ints, h)

-- ---- last times rise with the points

above_last : (ps qs : List (ℤ × ℤ)) → ArePoints ps → IsRising (ps ++ qs) → AllByRecursion (λ (q : ℤ × ℤ). last_time ps <ℤ q.0) qs
above_last [] qs h s = absurd h
above_last (p ∷ ps) qs h s = after p ps qs s
  where
    T_less : (x y : ℤ) → T (is_lt (int_cmp x y)) → x <ℤ y
    T_less x y h = grind (arith, ints, h)

    all_below : (t : ℤ) (qs : List (ℤ × ℤ)) → T (below_all int_cmp t qs) → AllByRecursion (λ (q : ℤ × ℤ). t <ℤ q.0) qs
    all_below t [] h = tt
    all_below t (q ∷ qs) h = let b = both_of _ _ h in (T_less t q.0 b.0, all_below t qs b.1)

    after : (p : ℤ × ℤ) (ps qs : List (ℤ × ℤ)) → IsRising (p ∷ (ps ++ qs)) → AllByRecursion (λ (q : ℤ × ℤ). last_of p.0 (times_of ps) <ℤ q.0) qs
    after p [] qs s = all_below p.0 qs (both_of _ _ s).0
    after p (r ∷ ps) qs s = after r ps qs (both_of _ _ s).1

pub rising_rest : (ps qs : List (ℤ × ℤ)) → IsRising (ps ++ qs) → IsRising qs
rising_rest [] qs s = s
rising_rest (p ∷ ps) qs s = rising_rest ps qs (both_of _ _ s).1

all_first : (t : ℤ) (ps qs : List (ℤ × ℤ)) → AllByRecursion (λ (q : ℤ × ℤ). t <ℤ q.0) (ps ++ qs) → AllByRecursion (λ (q : ℤ × ℤ). t <ℤ q.0) ps × AllByRecursion (λ (q : ℤ × ℤ). t <ℤ q.0) qs
all_first t [] qs h = (tt, h)
all_first t (p ∷ ps) qs h = let r = all_first t ps qs h.1 in ((h.0, r.0), r.1)

last_above : (t : ℤ) (ps : List (ℤ × ℤ)) → ArePoints ps → AllByRecursion (λ (q : ℤ × ℤ). t <ℤ q.0) ps → t <ℤ last_time ps
last_above t [] h a = absurd h
last_above t (p ∷ ps) h a = last_one t p ps a
  where
    last_one : (t : ℤ) (p : ℤ × ℤ) (ps : List (ℤ × ℤ)) → AllByRecursion (λ (q : ℤ × ℤ). t <ℤ q.0) (p ∷ ps) → t <ℤ last_of p.0 (times_of ps)
    last_one t p [] a = a.0
    last_one t p (q ∷ ps) a = last_one t q ps a.1

marks_above : (bytes : List ℕ) (t : ℤ) (ms : List BlockHandle) → AreBlocks bytes ms → AllByRecursion (λ (q : ℤ × ℤ). t <ℤ q.0) (coded_points bytes ms) → AllByRecursion (λ (n : BlockHandle). t <ℤ n.last) ms
unfolding coded_points
marks_above bytes t [] h a = tt
marks_above bytes t (m ∷ ms) h a =
    let parts = all_first t (block_points_at bytes m) (coded_points bytes ms) a in
    (subst (λ z. t <ℤ z) (sym h.0.last_is) (last_above t (block_points_at bytes m) h.0.block.points_are parts.0), marks_above bytes t ms h.1 parts.1)

pub ordered_from : (bytes : List ℕ) (ms : List BlockHandle) → AreBlocks bytes ms → IsRising (coded_points bytes ms) → AreOrdered ms
unfolding coded_points
ordered_from bytes [] h s = tt
ordered_from bytes (m ∷ ms) h s = (
  subst (λ z. AllByRecursion (λ (n : BlockHandle). z <ℤ n.last) ms) (sym h.0.last_is) (marks_above bytes (last_time (block_points_at bytes m)) ms h.1 (above_last (block_points_at bytes m) (coded_points bytes ms) h.0.block.points_are s)),
  ordered_from bytes ms h.1 (rising_rest (block_points_at bytes m) (coded_points bytes ms) s),
)

-- blocks of rising points
pub coded_anew : (bytes : List ℕ) (ms : List BlockHandle) → AreBlocks bytes ms → IsRising (coded_points bytes ms) → AreTimed (coded_points bytes ms) → IsCoded bytes ms
coded_anew bytes ms h s t = record { marked = h; ordered = ordered_from bytes ms h s; rising = s; timed = t }

pub blocks_front : (bytes : List ℕ) (k : ℕ) (ms : List BlockHandle) → AreBlocks bytes ms → AreBlocks bytes (take k ms)
blocks_front bytes zero ms h = tt
blocks_front bytes (suc k) [] h = tt
blocks_front bytes (suc k) (m ∷ ms) h = (h.0, blocks_front bytes k ms h.1)

pub blocks_behind : (bytes : List ℕ) (k : ℕ) (ms : List BlockHandle) → AreBlocks bytes ms → AreBlocks bytes (drop k ms)
blocks_behind bytes zero ms h = h
blocks_behind bytes (suc k) [] h = h
blocks_behind bytes (suc k) (m ∷ ms) h = blocks_behind bytes k ms h.1

pub blocks_join : (bytes : List ℕ) (ms ns : List BlockHandle) → AreBlocks bytes ms → AreBlocks bytes ns → AreBlocks bytes (ms ++ ns)
blocks_join bytes [] ns h k = k
blocks_join bytes (m ∷ ms) ns h k = (h.0, blocks_join bytes ms ns h.1 k)

pub all_dropped : (t : ℤ) (k : ℕ) (ps : List (ℤ × ℤ)) → AllByRecursion (λ (q : ℤ × ℤ). q.0 <ℤ t) ps → AllByRecursion (λ (q : ℤ × ℤ). q.0 <ℤ t) (drop k ps)
all_dropped t zero ps h = h
all_dropped t (suc k) [] h = h
all_dropped t (suc k) (p ∷ ps) h = all_dropped t k ps h.1

-- ---- points that are removed

before_all : (t : ℤ) (xs ys : List (ℤ × ℤ)) → AllByRecursion (λ (q : ℤ × ℤ). q.0 <ℤ t) xs → before_first t (xs ++ ys) ≡ length xs + before_first t ys
before_all t [] ys h = let n : before_first t ys ≡ 0 + before_first t ys = omega arith in n
before_all t (x ∷ xs) ys h =
    let yes : int_lt x.0 t ≡ true = grind (arith, ints) in
    ap (λ b. cond b (suc (before_first t (xs ++ ys))) 0) yes ∙ ap suc (before_all t xs ys h.1) ∙ (let n : suc (length xs + before_first t ys) ≡ suc (length xs) + before_first t ys = omega arith in n)

module _ (bytes : List ℕ) (ms : List BlockHandle) (cut at : ℕ) (t : ℤ) (c : IsCoded bytes ms) (f : CutFits cut (blocks_at bytes ms)) (l : at ≤ length ms) (part : IsLastBefore t ms at) where
  abbrev n : ℕ
  n = before_first t (coded_points bytes ms)

  abbrev G : List (ℤ × ℤ)
  G = coded_points bytes (take at ms)

  abbrev R : List (ℤ × ℤ)
  R = coded_points bytes (drop at ms)

  parts : coded_points bytes ms ≡ G ++ R
  parts = ap (coded_points bytes) (sym (take-append-drop at ms)) ∙ coded_join bytes (take at ms) (drop at ms)

  earlier : AllByRecursion (λ (q : ℤ × ℤ). q.0 <ℤ t) G
  earlier = coded_less bytes t (take at ms) (blocks_front bytes at ms c.marked) (ends_before t ms at l part)

  count_is : n ≡ length G + before_first t R
  count_is = ap (before_first t) parts ∙ before_all t G R earlier

  -- the points left are those from t on
  dropped_points : drop (max n cut - length G) R ≡ filter (λ (q : ℤ × ℤ). int_le t q.0) (drop cut (coded_points bytes ms))
  dropped_points =
      let C : List (ℤ × ℤ) = coded_points bytes ms in
      let fits = cut_within bytes ms cut f in
      let start : IsStartOf t C n = first_parts t C c.rising in
      let bound : n ≤ length C = first_bound t C in
      let more = count_is in
      ap (λ k. drop k R) (let e : max n cut - length G ≡ max n cut - length G = refl in e)
      ∙ sym (drop-append-add G R (max n cut - length G))
      ∙ (λ i. drop ((let e : length G + (max n cut - length G) ≡ cut + (n - cut) = omega arith in e) i) (sym parts i))
      ∙ sym (drop-drop (n - cut) cut C)
      ∙ drop-before (drop cut C) t (n - cut) (start_behind t C n cut start fits) (let e = length-drop cut C in omega arith)

  -- all are removed
  pub dropped_all : at ≡ length ms → (drop 0 R ≡ filter (λ (q : ℤ × ℤ). int_le t q.0) (drop cut (coded_points bytes ms))) × CutFits 0 (blocks_at bytes (drop at ms))
  unfolding coded_points
  dropped_all e =
      let none : drop at ms ≡ [] = nothing_left at ms (omega arith) in
      let empty : R ≡ [] = ap (coded_points bytes) none in
      let whole = dropped_points in (
        empty ∙ sym (drop_none (max n cut - length G) R empty) ∙ whole,
        subst (λ (x : List BlockHandle). CutFits 0 (blocks_at bytes x)) (sym none) refl,
      )
    where
      nothing_left : (k : ℕ) (xs : List BlockHandle) → length xs ≤ k → drop k xs ≡ []
      nothing_left zero [] h = refl
      nothing_left zero (x ∷ xs) h = absurd (omega arith)
      nothing_left (suc k) [] h = refl
      nothing_left (suc k) (x ∷ xs) h = nothing_left k xs (omega arith)

      drop_none : (k : ℕ) (xs : List (ℤ × ℤ)) → xs ≡ [] → drop k xs ≡ []
      drop_none zero xs e = e
      drop_none (suc k) xs e = ap (drop (suc k)) e

  -- the block there has the first of them
  pub held_there : (d : BlockHandle) → at < length ms → before_first t R ≡ before_first t (block_points_at bytes (get_or ms at d))
  unfolding coded_points
  held_there d h =
      let m : BlockHandle = get_or ms at d in
      let is_mark = mark_at bytes ms at d c.marked h in
      ap (λ (x : List BlockHandle). before_first t (coded_points bytes x)) (drop-cons ms at d h)
      ∙ points_hold t (block_points_at bytes m) (coded_points bytes (drop (suc at) ms)) is_mark.block.points_are (ap (λ z. int_lt z t) (sym is_mark.last_is) ∙ part.1 at d (omega arith) h)

  -- the rest begins with a block that isn't removed whole
  dropped_some : (d : BlockHandle) → at < length ms → CutFits (max n cut - length G) (blocks_at bytes (drop at ms))
  unfolding coded_points
  dropped_some d h =
      let m : BlockHandle = get_or ms at d in
      let first : drop at ms ≡ m ∷ drop (suc at) ms = drop-cons ms at d h in
      let is_mark = mark_at bytes ms at d c.marked h in
      let some = held_there d h in
      let fewer = last_stays t (block_points_at bytes m) is_mark.block.points_are (not_less (last_time (block_points_at bytes m)) t (ap (λ z. int_lt z t) (sym is_mark.last_is) ∙ part.1 at d (omega arith) h)) in
      let count = count_is in
      let cuts = first_or_none at refl in
      subst (λ (x : List BlockHandle). CutFits (max n cut - length G) (blocks_at bytes x)) (sym first) (omega arith)
    where
      last_stays : (t : ℤ) (ps : List (ℤ × ℤ)) → ArePoints ps → t ≤ℤ last_time ps → before_first t ps < length ps
      last_stays t [] a b = absurd a
      last_stays t (p ∷ ps) a b = last_later p ps b
        where
          last_later : (p : ℤ × ℤ) (ps : List (ℤ × ℤ)) → t ≤ℤ last_of p.0 (times_of ps) → before_first t (p ∷ ps) < suc (length ps)
          last_later p [] b = let no : int_lt p.0 t ≡ false = grind (arith, ints, b) in subst (λ x. cond x 1 0 < 1) (sym no) (omega arith)
          last_later p (q ∷ ps) b = elim (int_lt p.0 t) as (λ x. cond x (suc (before_first t (q ∷ ps))) 0 < suc (suc (length ps))) [ true ↦ let a = last_later q ps b in omega arith | false ↦ omega arith ]

      front_cut : (ns : List BlockHandle) (k : ℕ) → suc k ≤ length ns → CutFits cut (blocks_at bytes ns) → cut ≤ length (coded_points bytes (take (suc k) ns))
      front_cut [] k a b = absurd (omega arith)
      front_cut (x ∷ ns) k a b = let e = length-append (block_points_at bytes x) (coded_points bytes (take k ns)) in omega arith

      first_or_none : (k : ℕ) → at ≡ k → (cut - length G) < length (block_points_at bytes (get_or ms at d))
      first_or_none zero e =
          let here = drop-cons ms at d h in
          let ms_is : ms ≡ get_or ms at d ∷ drop (suc at) ms = ap (λ j. drop j ms) (sym e) ∙ here in
          let first : cut < length (block_points_at bytes (get_or ms at d)) = subst (λ (x : List BlockHandle). CutFits cut (blocks_at bytes x)) ms_is f in
          omega arith
      first_or_none (suc k) e =
          let fits : cut ≤ length G = subst (λ j. cut ≤ length (coded_points bytes (take j ms))) (sym e) (front_cut ms k (omega arith) f) in
          let some = (few_points (block_points_at bytes (get_or ms at d)) (mark_at bytes ms at d c.marked h).block.points_are).1 in
          omega arith

  -- the index of the first of them in its block
  abbrev pub IsSkipped : ℕ → Type 0
  IsSkipped k = (drop k R ≡ filter (λ (q : ℤ × ℤ). int_le t q.0) (drop cut (coded_points bytes ms))) × CutFits k (blocks_at bytes (drop at ms))

  skipped_there : (d : BlockHandle) (k : ℕ) → at < length ms → max n cut - length G ≡ k → IsSkipped k
  skipped_there d k h e = subst IsSkipped e (dropped_points, dropped_some d h)

  pub skipped_first : (d : BlockHandle) (k : ℕ) → at < length ms → at ≡ 0 → k ≡ max (before_first t (block_points_at bytes (get_or ms at d))) cut → IsSkipped k
  unfolding coded_points
  skipped_first d k h e is =
      let none : length G ≡ 0 = ap (λ j. length (coded_points bytes (take j ms))) e in
      skipped_there d k h (let a = held_there d h in let b = count_is in omega arith)

  pub skipped_later : (d : BlockHandle) (k : ℕ) → at < length ms → (at ≡ 0 → ⊥) → k ≡ before_first t (block_points_at bytes (get_or ms at d)) → IsSkipped k
  unfolding coded_points
  skipped_later d k h some is = skipped_there d k h (let a = held_there d h in let b = count_is in let e = front_fits at refl in omega arith)
    where
      within_front : (j : ℕ) (ns : List BlockHandle) → suc j ≤ length ns → CutFits cut (blocks_at bytes ns) → cut ≤ length (coded_points bytes (take (suc j) ns))
      within_front j [] a b = absurd (omega arith)
      within_front j (x ∷ ns) a b = let e = length-append (block_points_at bytes x) (coded_points bytes (take j ns)) in omega arith

      front_fits : (j : ℕ) → at ≡ j → cut ≤ length G
      front_fits zero e = absurd (some e)
      front_fits (suc j) e = subst (λ i. cut ≤ length (coded_points bytes (take i ms))) (sym e) (within_front j ms (omega arith) f)

pub dropped_counted : (bytes : List ℕ) (ms : List BlockHandle) (total at : ℕ) → AreCountedBlocks bytes ms total → AreCountedBlocks bytes (drop at ms) (length (coded_points bytes (drop at ms)))
dropped_counted bytes ms total at c =
    let split : coded_points bytes ms ≡ coded_points bytes (take at ms) ++ coded_points bytes (drop at ms) = ap (coded_points bytes) (sym (take-append-drop at ms)) ∙ coded_join bytes (take at ms) (drop at ms) in
    let rising = rising_rest (coded_points bytes (take at ms)) (coded_points bytes (drop at ms)) (subst IsRising split c.coded.rising) in
    let timed = timed_rest (coded_points bytes (take at ms)) (coded_points bytes (drop at ms)) (subst AreTimed split c.coded.timed) in
    record { coded = coded_anew bytes (drop at ms) (blocks_behind bytes at ms c.coded.marked) rising timed; total_is = refl }
  where
    timed_rest : (ps qs : List (ℤ × ℤ)) → AreTimed (ps ++ qs) → AreTimed qs
    timed_rest [] qs h = h
    timed_rest (p ∷ ps) qs h = timed_rest ps qs h.1

pub points_rise : {A : Type 0} (b : CodedBlocks A) → AreSoundBlocks b → IsRising (points_of_blocks b)
points_rise b s = is_rising_behind b.cut (coded_points b.bytes.items b.handles.items) s.counted.coded.rising

pub points_timed : {A : Type 0} (b : CodedBlocks A) → AreSoundBlocks b → AreTimed (points_of_blocks b)
points_timed b s = timed_behind b.cut (coded_points b.bytes.items b.handles.items) s.counted.coded.timed

-- the same blocks elsewhere
pub sound_again : {A : Type 0} (old new : CodedBlocks A) → AreSoundBlocks old → AreSame old new → AreSoundBlocks new
sound_again old new s same = record {
  counted = subst (AreCountedBlocks new.bytes.items new.handles.items) (sym same.counts.0) (counted_again old.bytes.items new.bytes.items old.handles.items new.handles.items old.total s.counted same.laid.marked same.blocks);
  apart = same.laid.apart;
  cut_fits = subst (λ n. CutFits n (blocks_at new.bytes.items new.handles.items)) (sym same.counts.1) (subst (CutFits old.cut) (sym same.blocks) s.cut_fits);
}

pub points_again : {A : Type 0} (old new : CodedBlocks A) → AreSame old new → points_of_blocks new ≡ points_of_blocks old
points_again old new same = λ i. drop (same.counts.1 i) (same_points old.bytes.items new.bytes.items old.handles.items new.handles.items same.blocks i)

pub rest_count : (bytes : List ℕ) (k : ℕ) (ms : List BlockHandle) → AreBlocks bytes ms → count_in_blocks (drop k ms) ≡ length (coded_points bytes (drop k ms))
rest_count bytes k ms h = counts_are bytes (drop k ms) (blocks_behind bytes k ms h)

-- a point after all others is inserted at the end
pub appended_map : (ps : List (ℤ × ℤ)) (p : ℤ × ℤ) → IsRising ps → AllByRecursion (λ (q : ℤ × ℤ). q.0 <ℤ p.0) ps → map.from_sorted {R = int_cmp} (ps ++ p ∷ []) ≡ map.insert (map.from_sorted ps) p.0 p.1
appended_map ps p s h = ap (map.from_sorted {R = int_cmp}) (sym (put_after p.0 p.1 ps [] h) ∙ ap (put int_cmp p.0 p.1) (append-nil ps)) ∙ from_sorted-put int_cmp_total ps s p.0 p.1

rising_splits : (xs : List (ℤ × ℤ)) (x : ℤ × ℤ) → IsRising (xs ++ (x ∷ [])) → AllByRecursion (λ (q : ℤ × ℤ). q.0 <ℤ x.0) xs
rising_splits [] x s = tt
rising_splits (y ∷ xs) x s = (before y xs (both_of _ _ s).0, rising_splits xs x (both_of _ _ s).1)
  where
    less_of : (a b : ℤ) → T (is_lt (int_cmp a b)) → a <ℤ b
    less_of a b h = grind (arith, ints, h)

    before : (y : ℤ × ℤ) (xs : List (ℤ × ℤ)) → T (below_all int_cmp y.0 (xs ++ (x ∷ []))) → y.0 <ℤ x.0
    before y [] h = less_of y.0 x.0 (both_of _ _ h).0
    before y (z ∷ xs) h = before y xs (both_of _ _ h).1

-- the next point of a list in the order of time
pub next_map : (ps : List (ℤ × ℤ)) (i : ℕ) (d : ℤ × ℤ) → IsRising ps → i < length ps → map.insert (map.from_sorted {R = int_cmp} (take i ps)) (get_or ps i d).0 (get_or ps i d).1 ≡ map.from_sorted (take (i + 1) ps)
next_map ps i d s l =
    let x : ℤ × ℤ = get_or ps i d in
    let next = take_next ps i d l in
    let first : IsRising (take i ps ++ (x ∷ [])) = subst IsRising next (rising_first (i + 1) ps s) in
    sym (from_sorted-put int_cmp_total (take i ps) (rising_first i ps s) x.0 x.1)
    ∙ ap (map.from_sorted {R = int_cmp}) (ap (put int_cmp x.0 x.1) (sym (append-nil (take i ps))) ∙ put_after x.0 x.1 (take i ps) [] (rising_splits (take i ps) x first) ∙ sym next)

-- ---- the points between two times

-- those from the first time on, up to the number of those from the second time on
pub taken_between : (ps : List (ℤ × ℤ)) (a b : ℤ) → IsRising ps
    → take (length (filter (λ (p : ℤ × ℤ). int_le a p.0) ps) - length (filter (λ (p : ℤ × ℤ). int_le b p.0) ps)) (filter (λ (p : ℤ × ℤ). int_le a p.0) ps) ≡ filter (λ (p : ℤ × ℤ). is_within a b p.0) ps
taken_between ps a b s =
    let i : ℕ = before_first a ps in
    let j : ℕ = before_first b ps in
    let f = first_parts a ps s in
    let g = first_parts b ps s in
    let m = first_bound a ps in
    let n = first_bound b ps in
    let from : drop i ps ≡ filter (λ (p : ℤ × ℤ). int_le a p.0) ps = drop-before ps a i f m in
    let to : drop j ps ≡ filter (λ (p : ℤ × ℤ). int_le b p.0) ps = drop-before ps b j g n in
    let count : length (drop i ps) - length (drop j ps) ≡ j - i = let x = length-drop i ps in let y = length-drop j ps in omega arith in
    (λ k. take (length (sym from k) - length (sym to k)) (sym from k)) ∙ ap (λ k. take k (drop i ps)) count ∙ ⊎_elim {C = take (j - i) (drop i ps) ≡ filter (λ (p : ℤ × ℤ). is_within a b p.0) ps}
    (λ (h : i < j). filter-within ps a b i j f g (omega arith) n)
    (λ (h : j ≤ i). ap (λ k. take k (drop i ps)) (let e : j - i ≡ 0 = omega arith in e) ∙ filter-nothing_within ps a b i j f g h) (cases_lt i j)

-- the number of points from an index in a block to one in another
module _ (bytes : List ℕ) (ms : List BlockHandle) (h : AreBlocks bytes ms) (at end i j : ℕ) where
  abbrev first_rest : List (ℤ × ℤ)
  first_rest = coded_points bytes (drop at ms)

  abbrev second_rest : List (ℤ × ℤ)
  second_rest = coded_points bytes (drop end ms)

  pub count_to : at ≤ end → CutFits i (blocks_at bytes (drop at ms)) → CutFits j (blocks_at bytes (drop end ms)) → (count_in_blocks (take (end - at) (drop at ms)) + j) - i ≡ length (drop i first_rest) - length (drop j second_rest)
  count_to l f g =
      let x = rest_count bytes at ms h in
      let y = rest_count bytes end ms h in
      let z = count_front (drop at ms) (end - at) in
      let w = ap count_in_blocks (drop-drop (end - at) at ms) in
      let u = ap (λ k. count_in_blocks (drop k ms)) (let e : at + (end - at) ≡ end = omega arith in e) in
      let fi = cut_within bytes (drop at ms) i f in
      let gj = cut_within bytes (drop end ms) j g in
      let p = length-drop i first_rest in
      let q = length-drop j second_rest in
      omega arith

  pub part_few : at ≤ end → CutFits j (blocks_at bytes (drop end ms)) → count_in_blocks (take (end - at) (drop at ms)) + j ≤ length (coded_points bytes ms)
  part_few l g =
      let y = rest_count bytes end ms h in
      let z = count_front (drop at ms) (end - at) in
      let w = ap count_in_blocks (drop-drop (end - at) at ms) in
      let u = ap (λ k. count_in_blocks (drop k ms)) (let e : at + (end - at) ≡ end = omega arith in e) in
      let gj = cut_within bytes (drop end ms) j g in
      let v = count_front ms at in
      let k = counts_are bytes ms h in
      omega arith

  pub none_to : end < at → at ≤ length ms → CutFits j (blocks_at bytes (drop end ms)) → length (drop i first_rest) - length (drop j second_rest) ≡ 0
  unfolding coded_points
  none_to l b g =
      let p = length-drop i first_rest in
      let q = length-drop j second_rest in
      let y = rest_count bytes end ms h in
      let x = rest_count bytes at ms h in
      let z = rest_count bytes (suc end) ms h in
      let w = ap count_in_blocks (drop-drop (at - suc end) (suc end) ms) in
      let u = ap (λ k. count_in_blocks (drop k ms)) (let e : suc end + (at - suc end) ≡ at = omega arith in e) in
      let v = count_front (drop (suc end) ms) (at - suc end) in
      let t = within_first end ms (omega arith) g in
      omega arith
    where
      within_first : (k : ℕ) (ns : List BlockHandle) → k < length ns → CutFits j (blocks_at bytes (drop k ns)) → j + length (coded_points bytes (drop (suc k) ns)) ≤ length (coded_points bytes (drop k ns))
      within_first k [] a g = absurd (omega arith)
      within_first zero (n ∷ ns) a g = let e = length-append (block_points_at bytes n) (coded_points bytes ns) in omega arith
      within_first (suc k) (n ∷ ns) a g = within_first k ns (omega arith) g

-- Facts of columns after staged points are committed.
use Rattle.std.proofs.Common.{rules, ◌≡◌, ℕ, zero, suc, ℤ, ◌+◌, ◌<◌, not, cond, List, [], ◌∷◌, ◌++◌, length, map, filter, set, get_or, refl, sym, ◌∙◌, ap, subst, take, drop, true≢false, inl, inr, ⊎_elim, arith, Option, Some, None, IsSome, IfSome}
use Rattle.std.specs.List.{slice_get}
use Rattle.std.specs.FinMap as finmap
use Rattle.std.proofs.lemmas.List.{append-nil, take-append-drop, get_or-set_same, append_assoc, map-append, length-append, take_more, map-set, get_or-set_other, length-set, length-map, get_or_append_left}
use Rattle.std.proofs.lemmas.Option.{slice_get_within, get_or_from_slice_get, none-some, same_Some}
use Rattle.std.proofs.lemmas.List.Elements.{filter-append}
use Rattle.std.proofs.Math.Seq.{map-set_same}
use Rattle.std.proofs.lemmas.Slice.Zip.{all_zipped_more}
use Rattle.ts_core.specs.lists.Members.{Among, AllDistinct}
use Rattle.ts_core.specs.facts.Facts.{Text, Column, Fact}
use Rattle.ts_line.specs.Parts.{LinePart, Parts, field_text, series_of, fact_of, line_facts}
use Rattle.ts_raw.specs.Columns.{PointMap, ColumnState}
use Rattle.ts_raw.specs.Indexed.{Indexed, no_series, column_in}
use Rattle.ts_core.specs.store.StoreStates.{ColumnPoints, column_of, facts_at, facts_of}
use Rattle.ts_core.specs.moves.StoreMoves.{Puts}
use Rattle.ts_store.specs.store.ColumnStates.{with_points, columns_in, facts_of_columns, point_maps, no_column, with_staged, with_point_staged, committed, all_committed, AreReady, IsFactStaged, AreStaged, MayGrow}
use Rattle.ts_store.specs.write.Registered.{new_columns, without_points, with_columns, MakesAll, MakesFirst}
use Rattle.ts_store.proofs.store.ColumnsLemmas.{columns_puts, names_of, grown_behind}
use Rattle.ts_core.specs.store.RawFacts.{is_waiting}
use Rattle.ts_core.proofs.lists.BesideLemmas.{AllZip-weaker}
use Rattle.ts_core.proofs.lists.MembersLemmas.{Among-left, Among-append, Among-map, Among-filter_was}
use Rattle.ts_core.proofs.store.StateLemmas.{is_waiting-there, is_waiting-not}
use Rattle.ts_core.proofs.lists.NumberedLemmas.{at_among}

pub points_at : (ss : List ColumnState) (n : ℕ) → get_or (point_maps ss) n finmap.empty ≡ (get_or ss n no_column).points
points_at [] n = refl
points_at (s ∷ ss) zero = refl
points_at (s ∷ ss) (suc n) = points_at ss n

-- one point is put in
pub one_committed : (cs : List Column) (ss : List ColumnState) (n : ℕ) (f : Fact) → AllDistinct cs → length ss ≡ length cs → slice_get cs n ≡ Some f.column
    → (get_or ss n no_column).staged ≡ Some (f.time, f.value)
    → Puts (facts_of_columns cs (point_maps ss)) (facts_of_columns cs (point_maps (set ss n (committed (get_or ss n no_column))))) f
one_committed cs ss n f d l at is =
    let s : ColumnState = get_or ss n no_column in
    let after : finmap.insert (get_or (point_maps ss) n finmap.empty) f.time f.value ≡ (committed s).points =
    ap (λ (m : PointMap). finmap.insert m f.time f.value) (points_at ss n) ∙ sym (ap (with_staged s.points) is) in
    let all : set (point_maps ss) n (finmap.insert (get_or (point_maps ss) n finmap.empty) f.time f.value) ≡ point_maps (set ss n (committed s)) =
    ap (set (point_maps ss) n) after ∙ sym (map-set (λ (t : ColumnState). t.points) ss n (committed s)) in
    subst (λ (ms : List PointMap). Puts (facts_of_columns cs (point_maps ss)) (facts_of_columns cs ms) f) all
    (columns_puts cs (point_maps ss) n f.column f.time f.value d (length-map ss (λ (t : ColumnState). t.points) ∙ l) at)

-- staged points of other columns stay
pub staged_others : (cs : List Column) (ss : List ColumnState) (ns : List ℕ) (fs : List Fact) (n : ℕ) (s : ColumnState) → (Among n ns → ⊥) → AreStaged cs ss ns fs → AreStaged cs (set ss n s) ns fs
staged_others cs ss [] [] n s away a = tt
staged_others cs ss (m ∷ ns) (f ∷ fs) n s away a = (
  (a.0.0, ap (λ (t : ColumnState). t.staged) (get_or-set_other ss n m s no_column (λ e. away (inl (sym e)))) ∙ a.0.1),
  staged_others cs ss ns fs n s (λ k. away (inr k)) a.1,
)
staged_others cs ss _ _ n s away a = search rules

-- the column of a number that has a staged point is the column of one of the facts
column_of_number : (cs : List Column) (ss : List ColumnState) (ns : List ℕ) (fs : List Fact) (n : ℕ) (c : Column) → AreStaged cs ss ns fs → slice_get cs n ≡ Some c → Among n ns
    → Among c (map (λ (f : Fact). f.column) fs)
column_of_number cs ss (m ∷ ns) (f ∷ fs) n c a at k =
    ⊎_elim {C = Among c (map (λ (g : Fact). g.column) (f ∷ fs))} (λ e. inl (same_Some c f.column (sym at ∙ ap (slice_get cs) e ∙ a.0.0)))
    (λ q. inr (column_of_number cs ss ns fs n c a.1 at q)) k
column_of_number cs ss _ _ n c a at k = absurd (omega arith)

pub numbers_distinct : (cs : List Column) (ss : List ColumnState) (ns : List ℕ) (fs : List Fact) → AreStaged cs ss ns fs → AllDistinct (map (λ (f : Fact). f.column) fs) → AllDistinct ns
numbers_distinct cs ss (n ∷ ns) (f ∷ fs) a d = (λ k. d.0 (column_of_number cs ss ns fs n f.column a.1 a.0.0 k), numbers_distinct cs ss ns fs a.1 d.1)
numbers_distinct cs ss _ _ a d = search rules

pub same_names : (cs : List Column) (ss : List ColumnState) (n : ℕ) (s : ColumnState) → length ss ≡ length cs → map column_of (with_points cs (point_maps (set ss n s))) ≡ map column_of (with_points cs (point_maps ss))
same_names cs ss n s l =
    names_of cs (point_maps (set ss n s)) (length-map (set ss n s) (λ (t : ColumnState). t.points) ∙ length-set ss n s ∙ l) ∙ sym (names_of cs (point_maps ss) (length-map ss (λ (t : ColumnState). t.points) ∙ l))

pub all_committed-length : (ss : List ColumnState) (ns : List ℕ) → length (all_committed ss ns) ≡ length ss
all_committed-length ss [] = refl
all_committed-length ss (n ∷ ns) = all_committed-length (set ss n (committed (get_or ss n no_column))) ns ∙ length-set ss n (committed (get_or ss n no_column))

-- ---- one more

pub staged_push : (cs : List Column) (ss : List ColumnState) (ns : List ℕ) (fs : List Fact) (n : ℕ) (f : Fact) → AreStaged cs ss ns fs → slice_get cs n ≡ Some f.column
    → (get_or ss n no_column).staged ≡ Some (f.time, f.value) → AreStaged cs ss (ns ++ n ∷ []) (fs ++ f ∷ [])
staged_push cs ss ns fs n f a at is = all_zipped_more (IsFactStaged cs ss) ns fs n f a (at, is)

pub slice_get_left : {X : Type 0} (xs ys : List X) (n : ℕ) (x : X) → slice_get xs n ≡ Some x → slice_get (xs ++ ys) n ≡ Some x
slice_get_left [] ys n x e = absurd (none-some x e)
slice_get_left (y ∷ xs) ys zero x e = e
slice_get_left (y ∷ xs) ys (suc n) x e = slice_get_left xs ys n x e

-- columns created after them leave the staged points
pub staged_grown : (cs : List Column) (ss : List ColumnState) (ns : List ℕ) (fs : List Fact) (c : Column) (s : ColumnState) → length ss ≡ length cs → AreStaged cs ss ns fs → AreStaged (cs ++ c ∷ []) (ss ++ s ∷ []) ns fs
staged_grown cs ss ns fs c s l a =
    AllZip-weaker (IsFactStaged cs ss) (IsFactStaged (cs ++ c ∷ []) (ss ++ s ∷ []))
    (λ n f one.
    let within : n < length ss = let w = slice_get_within cs n f.column one.0 in omega (arith, w, l) in
    (slice_get_left cs (c ∷ []) n f.column one.0, ap (λ (t : ColumnState). t.staged) (get_or_append_left ss (s ∷ []) no_column n within) ∙ one.1)) ns fs a

-- staging a point changes no points
pub staged_leaves : (ss : List ColumnState) (n : ℕ) (old new : ColumnState) → old ≡ get_or ss n old → new.points ≡ old.points → point_maps (set ss n new) ≡ point_maps ss
staged_leaves ss n old new is e = map-set_same (λ (t : ColumnState). t.points) ss n new old (e ∙ ap (λ (t : ColumnState). t.points) is)

-- ---- the facts of a line are of different columns

text_among : (p : Parts) (f : LinePart × ℤ) (fields : List (LinePart × ℤ)) → Among (fact_of p f).column (map (λ (x : Fact). x.column) (map (fact_of p) fields)) → Among (field_text f) (map field_text fields)
text_among p f [] a = absurd a
text_among p f (g ∷ fields) a = ⊎_elim {C = Among (field_text f) (map field_text (g ∷ fields))} (λ e. inl (ap (λ (c : Column). c.field) e)) (λ k. inr (text_among p f fields k)) a

pub line_columns : (p : Parts) (fields : List (LinePart × ℤ)) → AllDistinct (map field_text fields) → AllDistinct (map (λ (f : Fact). f.column) (map (fact_of p) fields))
line_columns p [] d = tt
line_columns p (f ∷ fields) d = (λ a. d.0 (text_among p f fields a), line_columns p fields d.1)

-- ---- points are put in from the left to the right

pub committed_is : (s t : ColumnState) → IfSome s.staged (λ (p : ℤ × ℤ). t.points ≡ finmap.insert s.points p.0 p.1) → IsSome s.staged → t.staged ≡ None → t ≡ committed s
committed_is s t put is none =
    let points : t.points ≡ with_staged s.points s.staged =
    elim s.staged as (λ a. IfSome a (λ (p : ℤ × ℤ). t.points ≡ finmap.insert s.points p.0 p.1) → IsSome a → t.points ≡ with_staged s.points a) [
      | None ↦ λ q i. absurd (true≢false (sym i))
      | Some p ↦ λ q i. q
    ] put is in
    λ i. record { points = points i; staged = none i }

pub ready_others : (ss : List ColumnState) (ns : List ℕ) (n : ℕ) (s : ColumnState) → (Among n ns → ⊥) → AreReady ss ns → AreReady (set ss n s) ns
ready_others ss [] n s away r = tt
ready_others ss (m ∷ ns) n s away r = (
  subst (λ l. m < l) (sym (length-set ss n s)) r.0,
  subst (λ (t : ColumnState). IsSome t.staged) (sym (get_or-set_other ss n m s no_column (λ e. away (inl (sym e))))) r.1,
  r.2,
  ready_others ss ns n s (λ k. away (inr k)) r.3,
)

-- staged points of distinct columns are ready
pub ready_of : (cs : List Column) (ss : List ColumnState) (ns : List ℕ) (fs : List Fact) → length ss ≡ length cs → AreStaged cs ss ns fs → AllDistinct ns → AreReady ss ns
ready_of cs ss (n ∷ ns) (f ∷ fs) l a d = (
  let w = slice_get_within cs n f.column a.0.0 in omega (arith, w, l),
  subst (λ (o : Option (ℤ × ℤ)). IsSome o) (sym a.0.1) refl,
  d.0,
  ready_of cs ss ns fs l a.1 d.1,
)
ready_of cs ss _ _ l a d = search rules

-- ---- one field after another

field_at : (fields : List (LinePart × ℤ)) (i : ℕ) (x : LinePart × ℤ) → i < length fields → x ≡ get_or fields i x → Among x fields
field_at [] i x l e = absurd (omega arith)
field_at (f ∷ fields) zero x l e = inl e
field_at (f ∷ fields) (suc i) x l e = inr (field_at fields i x (omega (arith, l)) e)

-- the name of a field isn't before it
fresh : (fields : List (LinePart × ℤ)) (i : ℕ) (x : LinePart × ℤ) → AllDistinct (map field_text fields) → i < length fields → x ≡ get_or fields i x → Among (field_text x) (map field_text (take i fields)) → ⊥
fresh (f ∷ fields) (suc i) x d l e a =
    ⊎_elim {C = ⊥} (λ q. d.0 (subst (λ t. Among t (map field_text fields)) q (Among-map field_text x fields (field_at fields i x (omega (arith, l)) e))))
    (λ k. fresh fields i x d.1 (omega (arith, l)) e k) a
fresh _ _ x d l e a = absurd (omega arith)

pub grown_staged : (c : Column) (cs cs' : List Column) (ss ss' : List ColumnState) (ns : List ℕ) (fs : List Fact) → length ss ≡ length cs → MayGrow c cs ss cs' ss' → AreStaged cs ss ns fs
    → AreStaged cs' ss' ns fs × (length ss' ≡ length cs')
grown_staged c cs cs' ss ss' ns fs l grown a =
    ⊎_elim {C = AreStaged cs' ss' ns fs × (length ss' ≡ length cs')}
    (λ same. (
      subst (λ (xs : List Column). AreStaged xs ss' ns fs) (sym same.1) (subst (λ (xs : List ColumnState). AreStaged cs xs ns fs) (sym same.2) a),
      ap length same.2 ∙ l ∙ sym (ap length same.1),
    ))
    (λ made. (
      subst (λ (xs : List Column). AreStaged xs ss' ns fs) (sym made.1) (subst (λ (xs : List ColumnState). AreStaged (cs ++ c ∷ []) xs ns fs) (sym made.2) (staged_grown cs ss ns fs c no_column l a)),
      ap length made.2 ∙ length-append ss (no_column ∷ []) ∙ ap (λ k. k + 1) l ∙ sym (length-append cs (c ∷ [])) ∙ sym (ap length made.1),
    ))
    grown

-- ---- columns that are created

names_without : (made : List Column) → map column_of (map without_points made) ≡ made
names_without [] = refl
names_without (c ∷ cs) = ap (λ ds. c ∷ ds) (names_without cs)

pub names_with : (before : List ColumnPoints) (made : List Column) → map column_of (with_columns before made) ≡ map column_of before ++ made
names_with before made = map-append column_of before (map without_points made) ∙ ap (λ cs. map column_of before ++ cs) (names_without made)

pub facts_next : (p : Parts) (i : ℕ) (x : LinePart × ℤ) → i < length p.fields → x ≡ get_or p.fields i x → map (fact_of p) (take i p.fields) ++ fact_of p x ∷ [] ≡ map (fact_of p) (take (i + 1) p.fields)
facts_next p i x within is =
    sym (map-append (fact_of p) (take i p.fields) (x ∷ [])) ∙ ap (λ (xs : List (LinePart × ℤ)). map (fact_of p) xs) (ap (λ (y : LinePart × ℤ). take i p.fields ++ y ∷ []) is ∙ sym (take_more p.fields i x within))

pub next_staged : (p : Parts) (cs cs' : List Column) (ss ss' ss'' : List ColumnState) (ns : List ℕ) (n i : ℕ) (x : LinePart × ℤ) → length ss ≡ length cs
    → AreStaged cs ss ns (map (fact_of p) (take i p.fields)) → MayGrow (fact_of p x).column cs ss cs' ss' → slice_get cs' n ≡ Some (fact_of p x).column → i < length p.fields → x ≡ get_or p.fields i x
    → AllDistinct (map field_text p.fields) → ss'' ≡ set ss' n (with_point_staged (get_or ss' n no_column) p.time x.1)
    → AreStaged cs' ss'' (ns ++ n ∷ []) (map (fact_of p) (take (i + 1) p.fields)) × (length ss'' ≡ length cs')
next_staged p cs cs' ss ss' ss'' ns n i x l a grown at within is once set_is =
    let fs : List Fact = map (fact_of p) (take i p.fields) in
    let s : ColumnState = with_point_staged (get_or ss' n no_column) p.time x.1 in
    let g = grown_staged (fact_of p x).column cs cs' ss ss' ns fs l grown a in
    let away : Among n ns → ⊥ = λ k. fresh p.fields i x once within is (text_among p x (take i p.fields) (column_of_number cs' ss' ns fs n (fact_of p x).column g.0 at k)) in
    let there : n < length ss' = let w = slice_get_within cs' n (fact_of p x).column at in omega (arith, w, g.1) in
    let more : fs ++ fact_of p x ∷ [] ≡ map (fact_of p) (take (i + 1) p.fields) = facts_next p i x within is in
    let pushed : AreStaged cs' (set ss' n s) (ns ++ n ∷ []) (fs ++ fact_of p x ∷ []) =
    staged_push cs' (set ss' n s) ns fs n (fact_of p x) (staged_others cs' ss' ns fs n s away g.0) at (ap (λ (t : ColumnState). t.staged) (get_or-set_same ss' n s no_column there)) in (
      subst (λ (xs : List ColumnState). AreStaged cs' xs (ns ++ n ∷ []) (map (fact_of p) (take (i + 1) p.fields))) (sym set_is) (subst (AreStaged cs' (set ss' n s) (ns ++ n ∷ [])) more pushed),
      ap length set_is ∙ length-set ss' n s ∙ g.1,
    )

-- the column that an index gives for a field of the line
pub column_is : (p : Parts) (index : Indexed) (series : ℕ) (field : Text) (x : LinePart × ℤ) → slice_get index.series series ≡ Some (series_of p) → field ≡ x.0.text → column_in index series field ≡ (fact_of p x).column
column_is p index series field x there name = λ i. record { series = get_or_from_slice_get index.series series (series_of p) no_series there i; field = name i }

new_more : (cs : List Column) (fs : List Fact) (f : Fact) → new_columns cs (fs ++ f ∷ []) ≡ new_columns cs fs ++ filter (λ (c : Column). not (is_waiting cs c)) (f.column ∷ [])
new_more cs fs f =
    ap (filter (λ (c : Column). not (is_waiting cs c))) (map-append (λ (g : Fact). g.column) fs (f ∷ []))
    ∙ filter-append (λ (c : Column). not (is_waiting cs c)) (map (λ (g : Fact). g.column) fs) (f.column ∷ [])

with_more : (before : List ColumnPoints) (made : List Column) (c : Column) → with_columns before (made ++ c ∷ []) ≡ with_columns before made ++ without_points c ∷ []
with_more before made c = ap (λ (ds : List ColumnPoints). before ++ ds) (map-append without_points made (c ∷ [])) ∙ sym (append_assoc before (map without_points made) (without_points c ∷ []))

-- the columns of the first fields are created, and then that of one more
pub next_made : (p : Parts) (before : List ColumnPoints) (cs cs' : List Column) (ss ss' : List ColumnState) (i : ℕ) (x : LinePart × ℤ) → length ss ≡ length cs → MayGrow (fact_of p x).column cs ss cs' ss' → i < length p.fields
    → x ≡ get_or p.fields i x → AllDistinct (map field_text p.fields) → with_points cs (point_maps ss) ≡ with_columns before (new_columns (map column_of before) (map (fact_of p) (take i p.fields)))
    → with_points cs' (point_maps ss') ≡ with_columns before (new_columns (map column_of before) (map (fact_of p) (take (i + 1) p.fields)))
next_made p before cs cs' ss ss' i x l grown within is once so =
    let names : List Column = map column_of before in
    let front : List Fact = map (fact_of p) (take i p.fields) in
    let f : Fact = fact_of p x in
    let made : List Column = new_columns names front in
    let last : List Column = filter (λ (c : Column). not (is_waiting names c)) (f.column ∷ []) in
    let all : cs ≡ names ++ made = sym (names_of cs (point_maps ss) (length-map ss (λ (s : ColumnState). s.points) ∙ l)) ∙ ap (map column_of) so ∙ names_with before made in
    let more : new_columns names (map (fact_of p) (take (i + 1) p.fields)) ≡ made ++ last = ap (new_columns names) (sym (facts_next p i x within is)) ∙ new_more names front f in
    ⊎_elim {C = with_points cs' (point_maps ss') ≡ with_columns before (new_columns names (map (fact_of p) (take (i + 1) p.fields)))}
    (λ same.
    let there : Among f.column names = ⊎_elim {C = Among f.column names} (λ k. k)
    (λ k. absurd (fresh p.fields i x once within is (text_among p x (take i p.fields) (Among-filter_was (λ (c : Column). not (is_waiting names c)) f.column (map (λ (g : Fact). g.column) front) k))))
    (Among-append f.column names made (subst (Among f.column) all same.0)) in
    let none : last ≡ [] = ap (λ b. cond (not b) (f.column ∷ []) []) (is_waiting-there f.column names there) in
    (λ j. with_points (same.1 j) (point_maps (same.2 j))) ∙ so ∙ ap (with_columns before) (sym (more ∙ ap (λ cs. made ++ cs) none ∙ append-nil made)))
    (λ new.
    let away : Among f.column names → ⊥ = λ k. new.0 (subst (Among f.column) (sym all) (Among-left f.column names made k)) in
    let one : last ≡ f.column ∷ [] = ap (λ b. cond (not b) (f.column ∷ []) []) (is_waiting-not f.column names away) in
    (λ j. with_points (new.1 j) (point_maps (new.2 j))) ∙ ap (with_points (cs ++ f.column ∷ [])) (map-append (λ (s : ColumnState). s.points) ss (no_column ∷ []))
    ∙ grown_behind cs (point_maps ss) f.column (length-map ss (λ (s : ColumnState). s.points) ∙ l) ∙ ap (λ (ds : List ColumnPoints). ds ++ without_points f.column ∷ []) so
    ∙ sym (ap (with_columns before) (more ∙ ap (λ cs. made ++ cs) one) ∙ with_more before made f.column))
    grown

-- the column that an index gives for a field of the line exists or is created
pub made_next : (p : Parts) (index : Indexed) (series : ℕ) (field : Text) (before : List ColumnPoints) (cs' : List Column) (ss ss' : List ColumnState) (fields : List (LinePart × ℤ)) (i : ℕ) (x : LinePart × ℤ)
    → MayGrow (column_in index series field) index.columns ss cs' ss' → slice_get index.series series ≡ Some (series_of p) → field ≡ x.0.text → fields ≡ p.fields → AllDistinct (map field_text fields) → i < length fields → x ≡ get_or fields i x
    → length ss ≡ length index.columns → MakesAll before (columns_in index ss) (map (fact_of p) (take i fields)) → MakesAll before (with_points cs' (point_maps ss')) (map (fact_of p) (take (i + 1) fields))
made_next p index series field before cs' ss ss' fields i x grown there name e once within is l so =
    let whole : AllDistinct (map field_text p.fields) = subst (λ (fs : List (LinePart × ℤ)). AllDistinct (map field_text fs)) e once in
    let here : i < length p.fields = subst (λ (fs : List (LinePart × ℤ)). i < length fs) e within in
    let at : x ≡ get_or p.fields i x = subst (λ (fs : List (LinePart × ℤ)). x ≡ get_or fs i x) e is in
    let may : MayGrow (fact_of p x).column index.columns ss cs' ss' = subst (λ (d : Column). MayGrow d index.columns ss cs' ss') (column_is p index series field x there name) grown in
    let front : MakesAll before (columns_in index ss) (map (fact_of p) (take i p.fields)) = subst (λ (fs : List (LinePart × ℤ)). MakesAll before (columns_in index ss) (map (fact_of p) (take i fs))) e so in
    subst (λ (fs : List (LinePart × ℤ)). MakesAll before (with_points cs' (point_maps ss')) (map (fact_of p) (take (i + 1) fs))) (sym e)
    (next_made p before index.columns cs' ss ss' i x l may here at whole front)

-- the created columns are the first of those of all fields
pub first_made : (p : Parts) (before after : List ColumnPoints) (fields : List (LinePart × ℤ)) (i : ℕ) → fields ≡ p.fields → MakesAll before after (map (fact_of p) (take i fields)) → MakesFirst before after (line_facts p)
first_made p before after fields i e so =
    let names : List Column = map column_of before in
    let column : Fact → Column = λ f. f.column in
    let front : List Fact = map (fact_of p) (take i fields) in
    let back : List Fact = map (fact_of p) (drop i fields) in
    let split : line_facts p ≡ front ++ back = ap (map (fact_of p)) (sym e ∙ sym (take-append-drop i fields)) ∙ map-append (fact_of p) (take i fields) (drop i fields) in
    record {
      made = new_columns names front;
      others = new_columns names back;
      order = sym (ap (new_columns names) split ∙ ap (filter (λ (c : Column). not (is_waiting names c))) (map-append column front back)
          ∙ filter-append (λ (c : Column). not (is_waiting names c)) (map column front) (map column back));
      columns = so;
    }

-- each fact that is staged has its column
pub columns_there : (cs : List Column) (ss : List ColumnState) (ns : List ℕ) (fs : List Fact) → AreStaged cs ss ns fs → (f : Fact) → Among f fs → Among f.column cs
columns_there cs ss ns [] a f k = absurd k
columns_there cs ss [] (g ∷ fs) a f k = absurd a
columns_there cs ss (n ∷ ns) (g ∷ fs) a f k =
    ⊎_elim {C = Among f.column cs} (λ e. subst (λ (x : Fact). Among x.column cs) (sym e) (at_among cs n g.column a.0.0)) (λ q. columns_there cs ss ns fs a.1 f q) k

-- ---- columns without points

facts_without : (made : List Column) → facts_of (map without_points made) ≡ []
facts_without [] = refl
facts_without (c ∷ cs) = facts_without cs

pub facts-append : (before after : List ColumnPoints) → facts_of (before ++ after) ≡ facts_of before ++ facts_of after
facts-append [] after = refl
facts-append (c ∷ cs) after = ap (λ fs. facts_at c.column c.points ++ fs) (facts-append cs after) ∙ sym (append_assoc (facts_at c.column c.points) (facts_of cs) (facts_of after))

pub same_facts : (before : List ColumnPoints) (made : List Column) → facts_of (with_columns before made) ≡ facts_of before
same_facts before made = facts-append before (map without_points made) ∙ ap (λ fs. facts_of before ++ fs) (facts_without made) ∙ append-nil (facts_of before)

-- The representation of a history in the words that transitions need, and lists taken item by item.
use Rattle.std.proofs.lemmas.Bool.{false_from_ne_true, and_parts}
use Rattle.ts_core.proofs.lists.MembersLemmas.{Among-from_any, any-from_Among, Among-filter_passes, Among-filter_was, Among-filter_stays}
use Rattle.std.proofs.Common.{◌≡◌, ℤ, Bool, true, false, cond, ◌&&◌, List, [], ◌∷◌, map, refl, ap, ap₂, subst, int_le, ◌≤ℤ◌, arith, is_eq}
use Rattle.std.proofs.lemmas.Int.{ints, clamps}
use Rattle.std.proofs.lemmas.Cmp.{tied_itself}
use Rattle.std.specs.List.{AllByRecursion, AllZip}
use Rattle.std.specs.Int.{int_max}
use Rattle.ts_core.specs.lists.Members.{Among, AllDistinct}
use Rattle.ts_core.specs.facts.Times.{least_time}
use Rattle.ts_core.specs.facts.Facts.{Column, Fact, column_cmp}
use Rattle.ts_core.specs.settings.Settings.{Settings}
use Rattle.ts_core.specs.store.History.{History, Line, Begin, settings_of, kept_since, raw_mark}
use Rattle.ts_core.specs.facts.Latest.{latest_of}
use Rattle.ts_core.specs.store.RawFacts.{same_column, is_waiting, earlier_mark, kept_from, is_kept, raw_of}
use Rattle.ts_core.specs.store.StoreStates.{RuleCells, StoreState, StandsFor, HasCells, facts_of}
use Rattle.ts_core.proofs.facts.Ids.{columns_total, exact_columns, equal_of}
use Rattle.ts_core.proofs.lists.Comparisons.{le_true}
use Rattle.ts_core.proofs.store.Cuts.{Holds}

-- ---- lists

pub AllZip-all : {X Y : Type 0} (R : X → Y → Type 0) (P : X → Type 0) (Q : Y → Type 0) → ((x : X) (y : Y) → R x y → P x → Q y) → (xs : List X) (ys : List Y) → AllZip R xs ys → AllByRecursion P xs → AllByRecursion Q ys
AllZip-all R P Q h [] [] t a = tt
AllZip-all R P Q h (x ∷ xs) (y ∷ ys) t a = (h x y t.0 a.0, AllZip-all R P Q h xs ys t.1 a.1)
AllZip-all R P Q h _ _ t a = absurd t

pub AllZip-maps : {X Y Z : Type 0} (R : X → Y → Type 0) (f : X → Z) (g : Y → Z) → ((x : X) (y : Y) → R x y → f x ≡ g y) → (xs : List X) (ys : List Y) → AllZip R xs ys → map f xs ≡ map g ys
AllZip-maps R f g h [] [] t = refl
AllZip-maps R f g h (x ∷ xs) (y ∷ ys) t = ap₂ (λ a bs. a ∷ bs) (h x y t.0) (AllZip-maps R f g h xs ys t.1)
AllZip-maps R f g h _ _ t = absurd t

pub AllZip-map : {X Y Z W : Type 0} (R : Z → W → Type 0) (f : X → Z) (g : Y → W) (xs : List X) (ys : List Y) → AllZip (λ x y. R (f x) (g y)) xs ys → AllZip R (map f xs) (map g ys)
AllZip-map R f g [] [] t = tt
AllZip-map R f g (x ∷ xs) (y ∷ ys) t = (t.0, AllZip-map R f g xs ys t.1)
AllZip-map R f g _ _ t = absurd t

pub AllZip-mapped : {X Y : Type 0} (P : X → Type 0) (R : Y → Y → Type 0) (f : X → Y) (g : X → X) → ((x : X) → P x → R (f x) (f (g x))) → (xs : List X) → AllByRecursion P xs → AllZip R (map f xs) (map f (map g xs))
AllZip-mapped P R f g h [] a = tt
AllZip-mapped P R f g h (x ∷ xs) a = (h x a.0, AllZip-mapped P R f g h xs a.1)

pub all_map : {X Y : Type 0} (P : X → Type 0) (Q : Y → Type 0) (f : X → Y) → ((x : X) → P x → Q (f x)) → (xs : List X) → AllByRecursion P xs → AllByRecursion Q (map f xs)
all_map P Q f h [] a = tt
all_map P Q f h (x ∷ xs) a = (h x a.0, all_map P Q f h xs a.1)

pub all_of_map : {X Y : Type 0} (P : X → Type 0) (Q : Y → Type 0) (f : X → Y) → ((x : X) → Q (f x) → P x) → (xs : List X) → AllByRecursion Q (map f xs) → AllByRecursion P xs
all_of_map P Q f h [] a = tt
all_of_map P Q f h (x ∷ xs) a = (h x a.0, all_of_map P Q f h xs a.1)

pub same_head : {X : Type 0} (x y : X) (xs ys : List X) → x ∷ xs ≡ y ∷ ys → x ≡ y
same_head x y xs ys e = cc

pub same_rest : {X : Type 0} (x y : X) (xs ys : List X) → x ∷ xs ≡ y ∷ ys → xs ≡ ys
same_rest x y xs ys e = cc

pub cons_not : {X : Type 0} {x : X} {xs : List X} → x ∷ xs ≡ [] → ⊥
cons_not e = cc

-- ---- columns

pub same_column-refl : (c : Column) → same_column c c ≡ true
same_column-refl c = ap is_eq (tied_itself columns_total c)

pub same_column-eq : (c d : Column) → same_column c d ≡ true → c ≡ d
same_column-eq c d h = exact_columns c d (equal_of (column_cmp c d) h)

pub is_waiting-there : (c : Column) (ds : List Column) → Among c ds → is_waiting ds c ≡ true
is_waiting-there = any-from_Among same_column same_column-eq same_column-refl

pub is_waiting-not : (c : Column) (ds : List Column) → (Among c ds → ⊥) → is_waiting ds c ≡ false
is_waiting-not c ds h = false_from_ne_true _ (λ e. h (Among-from_any same_column same_column-eq same_column-refl c ds e))

-- ---- marks

pub le_trans : (a b c : ℤ) → a ≤ℤ b → b ≤ℤ c → a ≤ℤ c
le_trans a b c h k = omega (arith, ints)

pub int_max-left : (a b : ℤ) → a ≤ℤ int_max a b
int_max-left a b = omega (arith, ints, clamps)

pub int_max-right : (a b : ℤ) → b ≤ℤ int_max a b
int_max-right a b = omega (arith, ints, clamps)

-- the raw duration is never changed
pub raw_duration_of : (opening : Settings) (h : History) → (settings_of opening h).raw_duration ≡ opening.raw_duration
raw_duration_of opening [] = refl
raw_duration_of opening (Line facts ∷ h) = raw_duration_of opening h
raw_duration_of opening (_ ∷ h) = raw_duration_of opening h

pub earlier_mark-le : (opening : Settings) (h : History) → earlier_mark opening h ≤ℤ raw_mark opening h
earlier_mark-le opening [] = let e : least_time ≤ℤ least_time = omega (arith, ints) in e
earlier_mark-le opening (Begin now ∷ h) = int_max-left (raw_mark opening h) (kept_since opening.raw_duration now)
earlier_mark-le opening (_ ∷ h) = earlier_mark-le opening h

-- a fact from the raw mark on is raw in every column
pub is_kept-above : (opening : Settings) (h : History) (waiting : List Column) (f : Fact) → raw_mark opening h ≤ℤ f.time → is_kept (kept_from opening h waiting) f ≡ true
is_kept-above opening h waiting f m =
    elim (is_waiting waiting f.column) as (λ b. int_le (cond b (earlier_mark opening h) (raw_mark opening h)) f.time ≡ true) [
      | true ↦ le_true (earlier_mark opening h) f.time (le_trans (earlier_mark opening h) (raw_mark opening h) f.time (earlier_mark-le opening h) m)
      | false ↦ le_true (raw_mark opening h) f.time m
    ]

-- ---- the raw facts, as one list

abbrev pub is_raw_of : Settings → History → List Column → Column → Fact → Bool
is_raw_of opening h waiting c f = same_column f.column c && is_kept (kept_from opening h waiting) f

pub raw_of-Holds : (opening : Settings) (h : History) (waiting : List Column) (held : List Fact) → AllDistinct held
    → ((f : Fact) → (Among f held → Among f (raw_of opening h waiting f.column)) × (Among f (raw_of opening h waiting f.column) → Among f held)) → Holds (kept_from opening h waiting) (latest_of h) held
raw_of-Holds opening h waiting held d r = record {
  once = d;
  all = λ f a k. (r f).1 (Among-filter_stays (is_raw_of opening h waiting f.column) f (latest_of h) a (ap₂ (λ x y. x && y) (same_column-refl f.column) k));
  only = λ f a. let m = (r f).0 a in (Among-filter_was (is_raw_of opening h waiting f.column) f (latest_of h) m, (and_parts _ _ (Among-filter_passes (is_raw_of opening h waiting f.column) f (latest_of h) m)).1);
}

pub Holds-raw_of : (opening : Settings) (h : History) (waiting : List Column) (held : List Fact) → Holds (kept_from opening h waiting) (latest_of h) held → (f : Fact)
    → (Among f held → Among f (raw_of opening h waiting f.column)) × (Among f (raw_of opening h waiting f.column) → Among f held)
Holds-raw_of opening h waiting held s f = (
  λ a. let n = s.only f a in Among-filter_stays (is_raw_of opening h waiting f.column) f (latest_of h) n.0 (ap₂ (λ x y. x && y) (same_column-refl f.column) n.1),
  λ m. s.all f (Among-filter_was (is_raw_of opening h waiting f.column) f (latest_of h) m) (and_parts _ _ (Among-filter_passes (is_raw_of opening h waiting f.column) f (latest_of h) m)).1,
)

pub StandsFor-Holds : (opening : Settings) (h : History) (s : StoreState) → StandsFor opening h s → Holds (kept_from opening h s.waiting) (latest_of h) (facts_of s.columns)
StandsFor-Holds opening h s st = raw_of-Holds opening h s.waiting (facts_of s.columns) st.once (λ f. st.raw f)

-- ---- the rules

-- the properties of the old rule and low index hold of the new ones
pub HasCells-as : (cut : Column → ℤ) (fs : List Fact) (r after : RuleCells) → r.rule ≡ after.rule → r.low ≡ after.low
    → HasCells cut fs (record { rule = r.rule; low = r.low; cells = after.cells; parts = after.parts }) → HasCells cut fs after
HasCells-as cut fs r after e l h = subst (HasCells cut fs) (λ i. record { rule = e i; low = l i; cells = after.cells; parts = after.parts }) h

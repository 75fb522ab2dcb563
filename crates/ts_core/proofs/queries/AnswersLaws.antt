-- Answers, by membership and not by the order of the list; an aggregate of a range is that of its two halves.
use Rattle.ts_core.proofs.lists.MembersLemmas.{Among-map_as, map_back, Among-filter_passes, Among-filter_was, Among-filter_stays, AllDistinct-filter}
use Rattle.std.proofs.lemmas.Bool.{and_right, and_parts, and_from}
use Rattle.std.proofs.Common.{◌≡◌, ℤ, ◌+ℤ◌, ◌*ℤ◌, ◌≤ℤ◌, int_lt, Bool, true, false, cond, ◌&&◌, not, List, [], ◌∷◌, map, filter, refl, sym, ◌∙◌, ap, ap₂, arith, true≢false}
use Rattle.std.proofs.lemmas.Int.{ints, by_lt_z}
use Rattle.ts_core.specs.lists.Members.{Among, AllDistinct}
use Rattle.ts_core.specs.facts.Facts.{Text, Fact, is_within}
use Rattle.ts_core.specs.aggregates.Aggregates.{aggregate_of, aggregate_of_one, merged}
use Rattle.ts_core.specs.aggregates.MergeLaws.{aggregate_laws}
use Rattle.ts_core.specs.queries.Queries.{Query, is_selected, matches, group_of}
use Rattle.ts_core.specs.queries.Answers.{buckets_in, is_in_row, groups_of, answer_of}
use Rattle.ts_core.proofs.aggregates.Folds.{fold-same, fold-split}
use Rattle.ts_core.proofs.lists.Comparisons.{and_true, same_bool, lt_from, lt_true}
use Rattle.ts_core.proofs.queries.GroupsInOrder.{all_groups-same}
use Rattle.ts_core.proofs.plans.Covered.{within_true, within_below, within_above}

-- ---- filters

pub filter_same : {X : Type 0} (p q : X → Bool) → ((x : X) → p x ≡ q x) → (xs : List X) → filter p xs ≡ filter q xs
filter_same p q h xs = λ i. filter (λ x. h x i) xs

pub filter_both : {X : Type 0} (p q : X → Bool) (xs : List X) → filter p (filter q xs) ≡ filter (λ x. q x && p x) xs
filter_both p q [] = refl
filter_both p q (x ∷ xs) =
    elim (q x) as (λ b. filter p (cond b (x ∷ filter q xs) (filter q xs)) ≡ cond (b && p x) (x ∷ filter (λ y. q y && p y) xs) (filter (λ y. q y && p y) xs)) [
      | true ↦ ap (λ zs. cond (p x) (x ∷ zs) zs) (filter_both p q xs)
      | false ↦ filter_both p q xs
    ]

-- lists that have the same facts, as far as a test passes them
pub record AreAlike (p : Fact → Bool) (fs gs : List Fact) : Type 0 where
  pub once : AllDistinct fs
  pub other_once : AllDistinct gs
  pub forth : (f : Fact) → p f ≡ true → Among f fs → Among f gs
  pub back : (f : Fact) → p f ≡ true → Among f gs → Among f fs

-- have one aggregate of those that a narrower test passes
pub aggregate_of-alike : (p r : Fact → Bool) (fs gs : List Fact) → AreAlike p fs gs → ((f : Fact) → r f ≡ true → p f ≡ true) → aggregate_of (filter r fs) ≡ aggregate_of (filter r gs)
aggregate_of-alike p r fs gs a n =
    fold-same aggregate_laws (λ (f : Fact). aggregate_of_one f.time f.value) (filter r fs) (filter r gs) (AllDistinct-filter r fs a.once) (AllDistinct-filter r gs a.other_once)
    (λ f h. let t = Among-filter_passes r f fs h in Among-filter_stays r f gs (a.forth f (n f t) (Among-filter_was r f fs h)) t)
    (λ f h. let t = Among-filter_passes r f gs h in Among-filter_stays r f fs (a.back f (n f t) (Among-filter_was r f gs h)) t)

groups_forth : (q : Query) (fs gs : List Fact) → ((f : Fact) → matches q f ≡ true → Among f fs → Among f gs) → (g : List Text) → Among g (map (group_of q) (filter (matches q) fs)) → Among g (map (group_of q) (filter (matches q) gs))
groups_forth q fs gs h g a =
    let r = map_back (group_of q) (filter (matches q) fs) g a in
    let t = Among-filter_passes (matches q) r.0 fs r.1 in
    Among-map_as (group_of q) r.0 (filter (matches q) gs) g (Among-filter_stays (matches q) r.0 gs (h r.0 t (Among-filter_was (matches q) r.0 fs r.1)) t) r.2

-- the answer goes by the matching facts alone, and not by their order
pub answer_of-alike : (q : Query) (fs gs : List Fact) → AreAlike (matches q) fs gs → answer_of fs q ≡ answer_of gs q
answer_of-alike q fs gs a =
    let groups : groups_of q fs ≡ groups_of q gs = all_groups-same _ _ (groups_forth q fs gs a.forth) (groups_forth q gs fs a.back) in
    let rows : (g : List Text) (k : ℤ) → aggregate_of (filter (is_in_row q g k) fs) ≡ aggregate_of (filter (is_in_row q g k) gs) = λ g k. aggregate_of-alike (matches q) (is_in_row q g k) fs gs a (λ f t. (and_parts (matches q f) _ t).0) in
    λ i. map (λ g. record { values = g; rows = map (λ k. record { start = (k *ℤ q.interval) +ℤ q.offset; aggregate = rows g k i }) (buckets_in q) }) (groups i)

-- ---- a range in two

-- the query over another range
abbrev pub over_range : Query → ℤ → ℤ → Query
over_range q a b = record q { from = a; to = b }

pub first_half : (x : Bool) (a c b t : ℤ) → c ≤ℤ b → ((x && is_within a b t) && int_lt t c) ≡ (x && is_within a c t)
first_half false a c b t u = refl
first_half true a c b t u = by_lt_z t a
    (λ l. ap (λ z. z && int_lt t c) (within_below a b t l) ∙ sym (within_below a c t l))
    (λ l. by_lt_z t c
    (λ m. and_from _ _ (within_true a b t l (omega (arith, ints))) (lt_true t c m) ∙ sym (within_true a c t l m))
    (λ m. same_bool (is_within a b t && int_lt t c) (is_within a c t) (λ e. absurd (let k = lt_from t c (and_parts (is_within a b t) _ e).1 in omega (arith, ints))) (λ e. absurd (true≢false (sym e ∙ within_above a c t m)))))

pub second_half : (x : Bool) (a c b t : ℤ) → a ≤ℤ c → ((x && is_within a b t) && not (int_lt t c)) ≡ (x && is_within c b t)
second_half false a c b t u = refl
second_half true a c b t u = by_lt_z t c
    (λ m. ap (λ z. is_within a b t && not z) (lt_true t c m) ∙ and_right (is_within a b t) false refl ∙ sym (within_below c b t m))
    (λ m. ap (λ z. is_within a b t && not z) (let f : int_lt t c ≡ false = grind (arith, ints) in f) ∙ and_true (is_within a b t) ∙ by_lt_z t b
    (λ l. within_true a b t (omega (arith, ints)) l ∙ sym (within_true c b t m l))
    (λ l. within_above a b t l ∙ sym (within_above c b t l)))

-- the aggregate of what matches is that of the first half of the range merged with that of the second
pub aggregate_of-halves : (q : Query) (c : ℤ) (fs : List Fact) → q.from ≤ℤ c → c ≤ℤ q.to
    → aggregate_of (filter (matches q) fs) ≡ merged (aggregate_of (filter (matches (over_range q q.from c)) fs)) (aggregate_of (filter (matches (over_range q c q.to)) fs))
aggregate_of-halves q c fs l u =
    let early : Fact → Bool = λ f. int_lt f.time c in
    let left : filter early (filter (matches q) fs) ≡ filter (matches (over_range q q.from c)) fs =
    filter_both early (matches q) fs ∙ filter_same _ _ (λ f. first_half (is_selected q f.column) q.from c q.to f.time u) fs in
    let right : filter (λ f. not (early f)) (filter (matches q) fs) ≡ filter (matches (over_range q c q.to)) fs =
    filter_both (λ f. not (early f)) (matches q) fs ∙ filter_same _ _ (λ f. second_half (is_selected q f.column) q.from c q.to f.time l) fs in
    fold-split aggregate_laws (λ (f : Fact). aggregate_of_one f.time f.value) early (filter (matches q) fs)
    ∙ ap₂ merged (ap aggregate_of left) (ap aggregate_of right)

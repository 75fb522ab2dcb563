-- The raw mark and the low indices: the greatest that the begins leave. No accepted fact lies below a low index.
use Rattle.std.proofs.Common.{◌≡◌, ℕ, ℤ, pos, ◌<◌, ◌≤◌, ◌+ℤ◌, ◌-ℤ◌, ◌≤ℤ◌, arith, refl, sym, ap, ◌∙◌, subst, cond, true, false, List, [], ◌∷◌, map, inl, inr, ⊎_elim, ◌==◌, int_lt}
use Rattle.std.specs.Int.{int_max}
use Rattle.std.specs.Int.Signed.{≤ℤ_refl}
use Rattle.std.proofs.lemmas.Int.{ints, clamps, by_lt_z}
use Rattle.ts_core.specs.lists.Members.{Among}
use Rattle.ts_core.specs.facts.Times.{least_time}
use Rattle.ts_core.specs.settings.Settings.{Rule, Settings, Outlasts}
use Rattle.ts_core.specs.store.History.{History, Begin, AddRule, kept_since, raw_mark}
use Rattle.ts_core.specs.store.Marks.{index_of, first_from, low_of, begins, since_added, start_of_rule, IsFirstFrom, IsGreatestOf, IsGreatestLeft}
use Rattle.ts_core.specs.facts.Facts.{Text, same_text}
use Rattle.ts_core.specs.aggregates.Buckets.{IsBucketOf, bucket_start}
use Rattle.ts_core.proofs.aggregates.BucketsOrder.{bucket_le, bucket_is, times_le, bucket_of-start}
use Rattle.ts_core.proofs.store.StateLemmas.{le_trans, int_max-left, int_max-right}

-- ---- the greatest

greatest_more : (d k m : ℤ) (xs : List ℤ) → IsGreatestOf (d ∷ xs) m → IsGreatestOf (d ∷ k ∷ xs) (int_max m k)
greatest_more d k m xs g = record {
  reached = elim (int_lt k m) as (λ b. Among (cond b m k) (d ∷ k ∷ xs)) [
    | true ↦ ⊎_elim {C = Among m (d ∷ k ∷ xs)} (λ e. inl e) (λ a. inr (inr a)) g.reached
    | false ↦ inr (inl refl)
  ];
  none_greater = λ y a.
      let old : Among y (d ∷ xs) → y ≤ℤ int_max m k = λ b. le_trans y m (int_max m k) (g.none_greater y b) (int_max-left m k) in
      ⊎_elim {C = y ≤ℤ int_max m k} (λ e. old (inl e))
      (λ b. ⊎_elim {C = y ≤ℤ int_max m k} (λ e. subst (λ z. z ≤ℤ int_max m k) (sym e) (int_max-right m k)) (λ c. old (inr c)) b) a;
}

-- the raw mark in the field's words
pub raw_mark-is : (opening : Settings) (h : History) → IsGreatestLeft opening.raw_duration h (raw_mark opening h)
raw_mark-is opening [] = record {
  reached = inl refl;
  none_greater = λ y a. ⊎_elim {C = y ≤ℤ least_time} (λ e. subst (λ z. z ≤ℤ least_time) (sym e) (≤ℤ_refl least_time)) (λ b. absurd b) a;
}
raw_mark-is opening (Begin now ∷ h) = greatest_more least_time (kept_since opening.raw_duration now) (raw_mark opening h) (map (kept_since opening.raw_duration) (begins h)) (raw_mark-is opening h)
raw_mark-is opening (_ ∷ h) = raw_mark-is opening h

-- ---- the bucket of the greatest

max_second : (a b : ℤ) → a ≤ℤ b → int_max a b ≡ b
max_second a b h = omega (arith, ints, clamps)

max_first : (a b : ℤ) → b ≤ℤ a → int_max a b ≡ a
max_first a b h = omega (arith, ints, clamps)

index_of-max : (r : Rule) (a b : ℤ) → pos 1 ≤ℤ r.interval → int_max (index_of r a) (index_of r b) ≡ index_of r (int_max a b)
index_of-max r a b w =
    by_lt_z a b
    (λ l. let h : a ≤ℤ b = omega (arith, ints) in max_second (index_of r a) (index_of r b) (bucket_le a b r.interval r.offset w h) ∙ sym (ap (index_of r) (max_second a b h)))
    (λ n. max_first (index_of r a) (index_of r b) (bucket_le b a r.interval r.offset w n) ∙ sym (ap (index_of r) (max_first a b n)))

-- ---- the first bucket that starts at or above a time

pub first_from-is : (r : Rule) (t : ℤ) → pos 1 ≤ℤ r.interval → IsFirstFrom r t (first_from r t)
first_from-is r t w =
    let i : ℤ = r.interval in
    let o : ℤ = r.offset in
    let b : IsBucketOf (t -ℤ pos 1) i o (index_of r (t -ℤ pos 1)) = bucket_is (t -ℤ pos 1) i o w in
    record {
      starts = let p = b.before_end in omega (arith, ints);
      first = λ k s. by_lt_z (index_of r (t -ℤ pos 1)) k
          (λ l. omega (arith, ints))
          (λ n. let p = b.from_start in let q = times_le k (index_of r (t -ℤ pos 1)) i w n in absurd (omega (arith, ints)));
    }

-- the bucket of a time is not after it
index_of-first : (r : Rule) (t : ℤ) → pos 1 ≤ℤ r.interval → index_of r t ≤ℤ first_from r t
index_of-first r t w =
    subst (λ k. index_of r t ≤ℤ k) (bucket_of-start (first_from r t) r.interval r.offset w)
    (bucket_le t (bucket_start (first_from r t) r.interval r.offset) r.interval r.offset w (first_from-is r t w).starts)

-- and no earlier time lies in it, or in a later one
pub first_from-after : (r : Rule) (mark t : ℤ) → pos 1 ≤ℤ r.interval → first_from r mark ≤ℤ index_of r t → mark ≤ℤ t
first_from-after r mark t w l =
    let s : mark ≤ℤ bucket_start (first_from r mark) r.interval r.offset = (first_from-is r mark w).starts in
    let q = times_le (first_from r mark) (index_of r t) r.interval w l in
    let p : bucket_start (index_of r t) r.interval r.offset ≤ℤ t = (bucket_is t r.interval r.offset w).from_start in
    omega (arith, ints)

-- the raw mark that a rule's duration would leave
abbrev rule_mark : Rule → History → ℤ
rule_mark r h = raw_mark (record { raw_duration = r.duration; rules = [] }) h

-- the least time is not after a raw mark, so its bucket lies before the first one that starts there
before_start : (opening : Settings) (h : History) (r : Rule) → pos 1 ≤ℤ r.interval → index_of r least_time ≤ℤ first_from r (raw_mark opening h)
before_start opening h r w =
    let t : ℤ = raw_mark opening h in
    le_trans (index_of r least_time) (index_of r t) (first_from r t) (bucket_le least_time t r.interval r.offset w ((raw_mark-is opening h).none_greater least_time (inl refl))) (index_of-first r t w)

-- the greater of where the rule starts and what the begins since then leave
low_of-mark : (opening : Settings) (h : History) (r : Rule) → pos 1 ≤ℤ r.interval → low_of opening h r ≡ int_max (start_of_rule opening h r) (index_of r (rule_mark r (since_added r.name h)))
low_of-mark opening [] r w = sym (max_first (index_of r least_time) (index_of r least_time) (≤ℤ_refl (index_of r least_time)))
low_of-mark opening (Begin now ∷ h) r w =
    let m : ℤ = rule_mark r (since_added r.name h) in
    let k : ℤ = kept_since r.duration now in
    ap (λ x. int_max x (index_of r k)) (low_of-mark opening h r w) ∙ (let again : int_max (int_max (start_of_rule opening h r) (index_of r m)) (index_of r k) ≡ int_max (start_of_rule opening h r) (int_max (index_of r m) (index_of r k)) = omega (arith, ints, clamps) in again)
    ∙ ap (int_max (start_of_rule opening h r)) (index_of-max r m k w)
low_of-mark opening (AddRule rule ∷ h) r w =
    elim (same_text rule.name r.name) as (λ b. cond b (first_from r (raw_mark opening h)) (low_of opening h r)
    ≡ int_max (cond b (first_from r (raw_mark opening h)) (start_of_rule opening h r)) (index_of r (rule_mark r (cond b [] (AddRule rule ∷ since_added r.name h))))) [
      | true ↦ sym (max_first (first_from r (raw_mark opening h)) (index_of r least_time) (before_start opening h r w))
      | false ↦ low_of-mark opening h r w
    ]
low_of-mark opening (_ ∷ h) r w = low_of-mark opening h r w

-- a low index in the field's words
pub low_of-is : (opening : Settings) (h : History) (r : Rule) → pos 1 ≤ℤ r.interval
    → (m : ℤ) × IsGreatestLeft r.duration (since_added r.name h) m × (low_of opening h r ≡ int_max (start_of_rule opening h r) (index_of r m))
low_of-is opening h r w = (rule_mark r (since_added r.name h), raw_mark-is (record { raw_duration = r.duration; rules = [] }) (since_added r.name h), low_of-mark opening h r w)

-- ---- a rule lasts at least as long as raw points do

for_ever : (rules : List Rule) (h : History) → raw_mark (record { raw_duration = 0; rules = rules }) h ≡ least_time
for_ever rules [] = refl
for_ever rules (Begin now ∷ h) = ap (λ x. int_max x least_time) (for_ever rules h)
for_ever rules (_ ∷ h) = for_ever rules h

least_mark : (opening : Settings) (h : History) → least_time ≤ℤ raw_mark opening h
least_mark opening h = (raw_mark-is opening h).none_greater least_time (inl refl)

pub not_zero : (n : ℕ) → 0 < n → (n == 0) ≡ false
not_zero n h = grind arith

pub kept_since-is : (n : ℕ) (now : ℤ) → 0 < n → kept_since n now ≡ now -ℤ pos n
kept_since-is n now h = ap (λ b. cond b least_time (now -ℤ pos n)) (not_zero n h)

pub kept_since-le : (long short : ℕ) (now : ℤ) → 0 < short → short ≤ long → kept_since long now ≤ℤ kept_since short now
kept_since-le long short now h k =
    subst (λ x. x ≤ℤ kept_since short now) (sym (kept_since-is long now (omega arith)))
    (subst (λ x. (now -ℤ pos long) ≤ℤ x) (sym (kept_since-is short now h)) (let e : (now -ℤ pos long) ≤ℤ (now -ℤ pos short) = omega (arith, ints) in e))

int_max-le : (a b c d : ℤ) → a ≤ℤ c → b ≤ℤ d → int_max a b ≤ℤ int_max c d
int_max-le a b c d h k = omega (arith, ints, clamps)

raw_mark-le : (long short : Settings) (h : History) → 0 < short.raw_duration → short.raw_duration ≤ long.raw_duration → raw_mark long h ≤ℤ raw_mark short h
raw_mark-le long short [] p q = ≤ℤ_refl least_time
raw_mark-le long short (Begin now ∷ h) p q =
    int_max-le (raw_mark long h) (kept_since long.raw_duration now) (raw_mark short h) (kept_since short.raw_duration now) (raw_mark-le long short h p q) (kept_since-le long.raw_duration short.raw_duration now p q)
raw_mark-le long short (_ ∷ h) p q = raw_mark-le long short h p q

rule_mark-le : (opening : Settings) (r : Rule) (h : History) → Outlasts r.duration opening.raw_duration → rule_mark r h ≤ℤ raw_mark opening h
rule_mark-le opening r h o =
    ⊎_elim {C = rule_mark r h ≤ℤ raw_mark opening h}
    (λ e. subst (λ n. raw_mark (record { raw_duration = n; rules = [] }) h ≤ℤ raw_mark opening h) (sym e) (subst (λ x. x ≤ℤ raw_mark opening h) (sym (for_ever [] h)) (least_mark opening h)))
    (λ p. raw_mark-le (record { raw_duration = r.duration; rules = [] }) opening h p.0 p.1) o

-- fewer begins leave no later mark
raw_mark-since : (s : Settings) (name : Text) (h : History) → raw_mark s (since_added name h) ≤ℤ raw_mark s h
raw_mark-since s name [] = ≤ℤ_refl least_time
raw_mark-since s name (Begin now ∷ h) =
    int_max-le (raw_mark s (since_added name h)) (kept_since s.raw_duration now) (raw_mark s h) (kept_since s.raw_duration now) (raw_mark-since s name h) (≤ℤ_refl (kept_since s.raw_duration now))
raw_mark-since s name (AddRule rule ∷ h) =
    elim (same_text rule.name name) as (λ b. raw_mark s (cond b [] (AddRule rule ∷ since_added name h)) ≤ℤ raw_mark s h) [
      | true ↦ least_mark s h
      | false ↦ raw_mark-since s name h
    ]
raw_mark-since s name (_ ∷ h) = raw_mark-since s name h

max_below : (a b c : ℤ) → a ≤ℤ c → b ≤ℤ c → int_max a b ≤ℤ c
max_below a b c h k = omega (arith, ints, clamps)

-- so a later write at or above where the rule starts makes no cell below its low index
pub low_of-le : (opening : Settings) (h : History) (r : Rule) (t : ℤ) → pos 1 ≤ℤ r.interval → Outlasts r.duration opening.raw_duration → raw_mark opening h ≤ℤ t
    → start_of_rule opening h r ≤ℤ index_of r t → low_of opening h r ≤ℤ index_of r t
low_of-le opening h r t w o m s =
    let since : ℤ = rule_mark r (since_added r.name h) in
    let low : since ≤ℤ t =
    le_trans since (rule_mark r h) t (raw_mark-since (record { raw_duration = r.duration; rules = [] }) r.name h) (le_trans (rule_mark r h) (raw_mark opening h) t (rule_mark-le opening r h o) m) in
    subst (λ x. x ≤ℤ index_of r t) (sym (low_of-mark opening h r w))
    (max_below (start_of_rule opening h r) (index_of r since) (index_of r t) s (bucket_le since t r.interval r.offset w low))

-- ---- a low index is near the raw mark: an image that is saved passes what is asked of it

one_later_bucket : (r : Rule) (t u : ℤ) → pos 1 ≤ℤ r.interval → t ≤ℤ u → (index_of r t +ℤ pos 1) ≤ℤ (index_of r u +ℤ pos 1)
one_later_bucket r t u w l = let b = bucket_le t u r.interval r.offset w l in omega (arith, ints)

pub first_near : (r : Rule) (t : ℤ) → pos 1 ≤ℤ r.interval → first_from r t ≤ℤ (index_of r t +ℤ pos 1)
first_near r t w = one_later_bucket r (t -ℤ pos 1) t w (let e : (t -ℤ pos 1) ≤ℤ t = omega (arith, ints) in e)

start_near : (opening : Settings) (h : History) (r : Rule) → pos 1 ≤ℤ r.interval → start_of_rule opening h r ≤ℤ (index_of r (raw_mark opening h) +ℤ pos 1)
start_near opening [] r w = let e : index_of r least_time ≤ℤ (index_of r least_time +ℤ pos 1) = omega (arith, ints) in e
start_near opening (Begin now ∷ h) r w =
    le_trans (start_of_rule opening h r) (index_of r (raw_mark opening h) +ℤ pos 1) (index_of r (raw_mark opening (Begin now ∷ h)) +ℤ pos 1) (start_near opening h r w)
    (one_later_bucket r (raw_mark opening h) (raw_mark opening (Begin now ∷ h)) w (int_max-left (raw_mark opening h) (kept_since opening.raw_duration now)))
start_near opening (AddRule rule ∷ h) r w =
    elim (same_text rule.name r.name) as (λ b. cond b (first_from r (raw_mark opening h)) (start_of_rule opening h r) ≤ℤ (index_of r (raw_mark opening h) +ℤ pos 1)) [
      | true ↦ first_near r (raw_mark opening h) w
      | false ↦ start_near opening h r w
    ]
start_near opening (_ ∷ h) r w = start_near opening h r w

start_least : (opening : Settings) (h : History) (r : Rule) → pos 1 ≤ℤ r.interval → index_of r least_time ≤ℤ start_of_rule opening h r
start_least opening [] r w = ≤ℤ_refl (index_of r least_time)
start_least opening (AddRule rule ∷ h) r w =
    elim (same_text rule.name r.name) as (λ b. index_of r least_time ≤ℤ cond b (first_from r (raw_mark opening h)) (start_of_rule opening h r)) [
      | true ↦ before_start opening h r w
      | false ↦ start_least opening h r w
    ]
start_least opening (_ ∷ h) r w = start_least opening h r w

pub low_of-near : (opening : Settings) (h : History) (r : Rule) → pos 1 ≤ℤ r.interval → Outlasts r.duration opening.raw_duration
    → (index_of r least_time ≤ℤ low_of opening h r) × (low_of opening h r ≤ℤ (index_of r (raw_mark opening h) +ℤ pos 1))
low_of-near opening h r w o =
    let since : ℤ = rule_mark r (since_added r.name h) in
    let mark : ℤ = raw_mark opening h in
    let start : ℤ = start_of_rule opening h r in
    let low : since ≤ℤ mark = le_trans since (rule_mark r h) mark (raw_mark-since (record { raw_duration = r.duration; rules = [] }) r.name h) (rule_mark-le opening r h o) in
    let here : index_of r since ≤ℤ (index_of r mark +ℤ pos 1) = (let b = bucket_le since mark r.interval r.offset w low in omega (arith, ints)) in (
      subst (λ x. index_of r least_time ≤ℤ x) (sym (low_of-mark opening h r w)) (le_trans (index_of r least_time) start (int_max start (index_of r since)) (start_least opening h r w) (int_max-left start (index_of r since))),
      subst (λ x. x ≤ℤ (index_of r mark +ℤ pos 1)) (sym (low_of-mark opening h r w)) (max_below start (index_of r since) (index_of r mark +ℤ pos 1) (start_near opening h r w) here),
    )

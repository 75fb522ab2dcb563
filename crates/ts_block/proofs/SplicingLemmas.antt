-- Copying a block with one point more, and parts of a block.
use Rattle.std.proofs.Common.{◌≡◌, ℕ, suc, ◌+◌, ◌-◌, ◌<◌, ◌≤◌, nat_eq, ℤ, ◌<ℤ◌, ◌≤ℤ◌, int_lt, int_cmp, Less, Equal, Greater, List, [], ◌∷◌, ◌++◌, length, get_or, take, drop, IsOk, Ok, true, false, Bool, cond, append_assoc, length-append, refl, sym, ◌∙◌, ap, subst, arith, FitsSigned, w64, ⊎_elim}
use Rattle.std.proofs.Math.Seq.{take-append_seam, drop-append_seam}
use Rattle.std.proofs.lemmas.List.{map-append, nil_from_length}
use Rattle.std.proofs.lemmas.Int.{ints}
use Rattle.std.proofs.lemmas.Bool.{cases_lt}
use Rattle.std.specs.List.{AllByRecursion}
use Rattle.std.specs.FinMap.{put}
use Rattle.std.specs.FinMap.Entries.{by_order}
use Rattle.ts_core.specs.facts.Times.{IsTime}
use Rattle.ts_block.specs.declared.place.Place.{Place}
use Rattle.ts_block.specs.Varints.{number_text, zigzag}
use Rattle.ts_block.specs.NumbersRead.{number_at}
use Rattle.ts_block.specs.Blocks.{times_of, values_of, head_text, step_between, steps_text, values_text, block_text, last_of, AreLater, AreValues, ArePoints, IsBlockOf}
use Rattle.ts_block.specs.Decoding.{number_or}
use Rattle.ts_block.specs.Appending.{values_start, last_time}
use Rattle.ts_block.specs.Splicing.{steps_of, first_or, IsPlace, text_to, count_with, steps_after, values_after, IsAdded, IsBlockWith, IsPart}
use Rattle.ts_block.proofs.NumbersLemmas.{other_than}
use Rattle.ts_block.proofs.NumberLaws.{number_again}
use Rattle.ts_block.proofs.PartLaws.{zigzag_fits}
use Rattle.ts_block.proofs.BlockLaws.{times_length}
use Rattle.ts_block.proofs.PlaceLemmas.{values_of_joined}

-- ---- parts of points

later_front : (t : ℤ) (us : List ℤ) (w : ℤ) (ws : List ℤ) → AreLater t (us ++ w ∷ ws) → AreLater t us
later_front t [] w ws h = tt
later_front t (u ∷ us) w ws h = (h.0, h.1, later_front u us w ws h.2)

later_back : (t : ℤ) (us : List ℤ) (w : ℤ) (ws : List ℤ) → AreLater t (us ++ w ∷ ws) → (last_of t us <ℤ w) × IsTime w × AreLater w ws
later_back t [] w ws h = h
later_back t (u ∷ us) w ws h = later_back u us w ws h.2

later_joined : (t : ℤ) (us : List ℤ) (w : ℤ) (ws : List ℤ) → AreLater t us → last_of t us <ℤ w → IsTime w → AreLater w ws → AreLater t (us ++ w ∷ ws)
later_joined t [] w ws h l is r = (l, is, r)
later_joined t (u ∷ us) w ws h l is r = (h.0, h.1, later_joined u us w ws h.2 l is r)

fit_front : (vs ws : List ℤ) → AreValues (vs ++ ws) → AreValues vs
fit_front [] ws h = tt
fit_front (v ∷ vs) ws h = (h.0, fit_front vs ws h.1)

fit_back : (vs ws : List ℤ) → AreValues (vs ++ ws) → AreValues ws
fit_back [] ws h = h
fit_back (v ∷ vs) ws h = fit_back vs ws h.1

fit_joined : (vs ws : List ℤ) → AreValues vs → AreValues ws → AreValues (vs ++ ws)
fit_joined [] ws h g = g
fit_joined (v ∷ vs) ws h g = (h.0, fit_joined vs ws h.1 g)

times_joined : (xs ys : List (ℤ × ℤ)) → times_of (xs ++ ys) ≡ times_of xs ++ times_of ys
times_joined xs ys = map-append (λ (p : ℤ × ℤ). p.0) xs ys

vals_joined : (xs ys : List (ℤ × ℤ)) → values_of (xs ++ ys) ≡ values_of xs ++ values_of ys
vals_joined xs ys = map-append (λ (p : ℤ × ℤ). p.1) xs ys

module _ (x : ℤ × ℤ) (xs : List (ℤ × ℤ)) (q : ℤ × ℤ) (ys : List (ℤ × ℤ)) (h : ArePoints (x ∷ (xs ++ q ∷ ys))) where
  all_later : AreLater x.0 (times_of xs ++ q.0 ∷ times_of ys)
  all_later = subst (AreLater x.0) (times_joined xs (q ∷ ys)) h.2

  all_fit : AreValues (values_of (x ∷ xs) ++ values_of (q ∷ ys))
  all_fit = subst AreValues (vals_joined (x ∷ xs) (q ∷ ys)) h.3

  front_few : length xs < 256
  front_few = let a = h.0 in let b = length-append xs (q ∷ ys) in omega arith

  front_are : ArePoints (x ∷ xs)
  front_are = (front_few, h.1, later_front x.0 (times_of xs) q.0 (times_of ys) all_later, fit_front (values_of (x ∷ xs)) (values_of (q ∷ ys)) all_fit)

  back_is : (last_of x.0 (times_of xs) <ℤ q.0) × IsTime q.0 × AreLater q.0 (times_of ys)
  back_is = later_back x.0 (times_of xs) q.0 (times_of ys) all_later

  back_are : ArePoints (q ∷ ys)
  back_are = (let a = h.0 in let b = length-append xs (q ∷ ys) in omega arith, back_is.1, back_is.2, fit_back (values_of (x ∷ xs)) (values_of (q ∷ ys)) all_fit)

points_back : (xs : List (ℤ × ℤ)) (q : ℤ × ℤ) (ys : List (ℤ × ℤ)) → ArePoints (xs ++ q ∷ ys) → ArePoints (q ∷ ys)
points_back [] q ys h = h
points_back (x ∷ xs) q ys h = back_are x xs q ys h

points_front : (xs : List (ℤ × ℤ)) (q : ℤ × ℤ) (ys : List (ℤ × ℤ)) → 0 < length xs → ArePoints (xs ++ q ∷ ys) → ArePoints xs
points_front [] q ys some h = absurd (omega arith)
points_front (x ∷ xs) q ys some h = front_are x xs q ys h

-- all before the time
passed_last : (t : ℤ) (x : ℤ × ℤ) (xs : List (ℤ × ℤ)) → AllByRecursion (λ (p : ℤ × ℤ). p.0 <ℤ t) (x ∷ xs) → last_of x.0 (times_of xs) <ℤ t
passed_last t x [] h = h.0
passed_last t x (y ∷ xs) h = passed_last t y xs h.1

-- another point in the place of those after xs
points_with : (xs : List (ℤ × ℤ)) (q : ℤ × ℤ) (ys : List (ℤ × ℤ)) → ArePoints (xs ++ q ∷ ys) → (p : ℤ × ℤ) (zs : List (ℤ × ℤ)) → length xs + length zs < 256 → AllByRecursion (λ (r : ℤ × ℤ). r.0 <ℤ p.0) xs → IsTime p.0 → FitsSigned w64 p.1
    → AreLater p.0 (times_of zs) → AreValues (values_of zs) → ArePoints (xs ++ p ∷ zs)
points_with [] q ys h p zs few passed is fits later vals = (omega arith, is, later, (fits, vals))
points_with (x ∷ xs) q ys h p zs few passed is fits later vals =
    let f = front_are x xs q ys h in (
      let b = length-append xs (p ∷ zs) in omega arith,
      h.1,
      subst (AreLater x.0) (sym (times_joined xs (p ∷ zs))) (later_joined x.0 (times_of xs) p.0 (times_of zs) f.2 (passed_last p.0 x xs passed) is later),
      subst AreValues (sym (vals_joined (x ∷ xs) (p ∷ zs))) (fit_joined (values_of (x ∷ xs)) (values_of (p ∷ zs)) f.3 (fits, vals)),
    )

-- ---- texts

steps_joined : (t : ℤ) (us : List ℤ) (w : ℤ) (ws : List ℤ) → steps_text t (us ++ w ∷ ws) ≡ steps_text t us ++ (number_text (step_between (last_of t us) w) ++ steps_text w ws)
unfolding steps_text
steps_joined t [] w ws = refl
steps_joined t (u ∷ us) w ws = ap (λ (x : List ℕ). number_text (step_between t u) ++ x) (steps_joined u us w ws) ∙ sym (append_assoc (number_text (step_between t u)) (steps_text u us) (number_text (step_between (last_of u us) w) ++ steps_text w ws))

abbrev to_text : List (ℤ × ℤ) → ℤ → ℕ → List ℕ
to_text [] t n = head_text n t
to_text (x ∷ xs) t n = head_text n x.0 ++ (steps_text x.0 (times_of xs) ++ number_text (step_between (last_of x.0 (times_of xs)) t))

regrouped : (h s n r v z w : List ℕ) → h ++ ((s ++ (n ++ r)) ++ (v ++ (z ++ w))) ≡ (h ++ (s ++ n)) ++ (r ++ (v ++ (z ++ w)))
regrouped h s n r v z w = simp append_assoc

whole_text : (xs : List (ℤ × ℤ)) (p : ℤ × ℤ) (zs : List (ℤ × ℤ)) (n : ℕ) → n ≡ length xs + length zs
    → block_text (xs ++ p ∷ zs) ≡ to_text xs p.0 n ++ (steps_text p.0 (times_of zs) ++ (values_text (values_of xs) ++ (number_text (zigzag p.1) ++ values_text (values_of zs))))
unfolding block_text values_text
whole_text [] p zs n e = let same : length zs ≡ n = omega arith in ap (λ m. head_text m p.0 ++ (steps_text p.0 (times_of zs) ++ values_text (values_of (p ∷ zs)))) same
whole_text (x ∷ xs) p zs n e =
    let count : length (xs ++ p ∷ zs) ≡ n = let b = length-append xs (p ∷ zs) in omega arith in
    let steps = ap (steps_text x.0) (times_joined xs (p ∷ zs)) ∙ steps_joined x.0 (times_of xs) p.0 (times_of zs) in
    let vals : values_text (values_of ((x ∷ xs) ++ p ∷ zs)) ≡ values_text (values_of (x ∷ xs)) ++ (number_text (zigzag p.1) ++ values_text (values_of zs)) = values_of_joined (x ∷ xs) (p ∷ zs) in
    (λ i. head_text (count i) x.0 ++ (steps i ++ vals i))
    ∙ regrouped (head_text n x.0) (steps_text x.0 (times_of xs)) (number_text (step_between (last_of x.0 (times_of xs)) p.0)) (steps_text p.0 (times_of zs)) (values_text (values_of (x ∷ xs))) (number_text (zigzag p.1)) (values_text (values_of zs))

start_is : (xs : List (ℤ × ℤ)) (p : ℤ × ℤ) (zs : List (ℤ × ℤ)) (n : ℕ) → values_start (xs ++ p ∷ zs) ≡ length (to_text xs p.0 n ++ steps_text p.0 (times_of zs))
start_is [] p zs n = let b = length-append (head_text n p.0) (steps_text p.0 (times_of zs)) in let nine : length (head_text n p.0) ≡ 9 = refl in omega arith
start_is (x ∷ xs) p zs n =
    let a = ap length (ap (steps_text x.0) (times_joined xs (p ∷ zs)) ∙ steps_joined x.0 (times_of xs) p.0 (times_of zs)) in
    let s : List ℕ = steps_text x.0 (times_of xs) in
    let m : List ℕ = number_text (step_between (last_of x.0 (times_of xs)) p.0) in
    let r : List ℕ = steps_text p.0 (times_of zs) in
    let b = length-append s (m ++ r) in
    let c = length-append m r in
    let d = length-append (head_text n x.0 ++ (s ++ m)) r in
    let e = length-append (head_text n x.0) (s ++ m) in
    let f = length-append s m in
    let nine : length (head_text n x.0) ≡ 9 = refl in
    omega arith

pub last_joined : (xs : List (ℤ × ℤ)) (q : ℤ × ℤ) (ys : List (ℤ × ℤ)) → last_time (xs ++ q ∷ ys) ≡ last_of q.0 (times_of ys)
last_joined [] q ys = refl
last_joined (x ∷ xs) q ys = inner x xs
  where
    inner : (x : ℤ × ℤ) (xs : List (ℤ × ℤ)) → last_of x.0 (times_of (xs ++ q ∷ ys)) ≡ last_of q.0 (times_of ys)
    inner x [] = refl
    inner x (y ∷ xs) = inner y xs

-- ---- a copy with one point

module _ (t u : ℤ) (n : ℕ) (place : Place) where
  text_to_is : (xs : List (ℤ × ℤ)) → place.index ≡ length xs → place.first ≡ first_or u xs → place.before ≡ last_time xs → place.earlier_steps.now ≡ steps_of xs → text_to n place t ≡ to_text xs t n
  text_to_is [] i f b s = ap (λ m. cond (nat_eq m 0) (head_text n t) (head_text n place.first ++ (place.earlier_steps.now ++ number_text (step_between place.before t)))) i
  text_to_is (x ∷ xs) i f b s =
      ap (λ b. cond b (head_text n t) (head_text n place.first ++ (place.earlier_steps.now ++ number_text (step_between place.before t)))) (other_than place.index 0 (λ e. absurd (omega arith)))
      ∙ (λ j. head_text n (f j) ++ (s j ++ number_text (step_between (b j) t)))

copied_text : (a s v z w : List ℕ) → ((((a ++ s) ++ v) ++ z) ++ w) ≡ a ++ (s ++ (v ++ (z ++ w)))
copied_text a s v z w = simp append_assoc

pub put_after : (t v : ℤ) (xs ys : List (ℤ × ℤ)) → AllByRecursion (λ (q : ℤ × ℤ). q.0 <ℤ t) xs → put int_cmp t v (xs ++ ys) ≡ xs ++ put int_cmp t v ys
put_after t v [] ys h = refl
put_after t v (x ∷ xs) ys h =
    let l : x.0 <ℤ t = h.0 in
    let e : int_cmp t x.0 ≡ Greater = grind (arith, ints) in
    ap (λ r. by_order r ((t, v) ∷ x ∷ (xs ++ ys)) ((x.0, v) ∷ (xs ++ ys)) (x ∷ put int_cmp t v (xs ++ ys))) e ∙ ap (λ (z : List (ℤ × ℤ)). x ∷ z) (put_after t v xs ys h.1)

put_less : (t v : ℤ) (q : ℤ × ℤ) (ys : List (ℤ × ℤ)) → t <ℤ q.0 → put int_cmp t v (q ∷ ys) ≡ (t, v) ∷ q ∷ ys
put_less t v q ys l =
    let e : int_cmp t q.0 ≡ Less = grind (arith, ints) in
    ap (λ r. by_order r ((t, v) ∷ q ∷ ys) ((q.0, v) ∷ ys) (q ∷ put int_cmp t v ys)) e

put_same : (t v : ℤ) (q : ℤ × ℤ) (ys : List (ℤ × ℤ)) → t ≡ q.0 → put int_cmp t v (q ∷ ys) ≡ (t, v) ∷ ys
put_same t v q ys s =
    let e : int_cmp t q.0 ≡ Equal = grind (arith, ints) in
    ap (λ r. by_order r ((t, v) ∷ q ∷ ys) ((q.0, v) ∷ ys) (q ∷ put int_cmp t v ys)) e ∙ ap (λ z. (z, v) ∷ ys) (sym s)

less_true : (t u : ℤ) → int_lt t u ≡ true → t <ℤ u
less_true t u h = grind (arith, ints, h)

less_false : (t u : ℤ) → int_lt t u ≡ false → u ≤ℤ t
less_false t u h = grind (arith, ints, h)

both_ways : (t u : ℤ) → t ≤ℤ u → u ≤ℤ t → t ≡ u
both_ways t u a b = omega (arith, ints)

apart : (b : Bool) → b ≡ true → b ≡ false → ⊥
apart b x y = cc

module _ (points : List (ℤ × ℤ)) (are : ArePoints points) (t v : ℤ) (limit : ℕ) (place : Place) (pl : IsPlace points limit t place) where
  abbrev e : List (ℤ × ℤ)
  e = pl.earlier

  abbrev q : ℤ × ℤ
  q = pl.point

  abbrev l : List (ℤ × ℤ)
  l = pl.later

  size : length points ≡ length e + suc (length l)
  size = let a = ap length pl.cut in let b = length-append e (q ∷ l) in omega arith

  cut_are : ArePoints (e ++ q ∷ l)
  cut_are = subst ArePoints pl.cut are

  behind_are : ArePoints (q ∷ l)
  behind_are = points_back e q l cut_are

  reaches : limit + 1 ≡ length points → t ≤ℤ last_time points → t ≤ℤ q.0
  reaches n r =
      ⊎_elim {C = t ≤ℤ q.0}
      (λ (a : place.index < limit). pl.reached a)
      (λ (a : limit ≤ place.index).
      let none : l ≡ [] = nil_from_length l (let b = pl.index_is in let c = size in omega arith) in
      subst (λ z. t ≤ℤ z) (ap last_time pl.cut ∙ last_joined e q l ∙ ap (λ (x : List (ℤ × ℤ)). last_of q.0 (times_of x)) none) r)
      (cases_lt place.index limit)

  pub after : 0 < place.index → place.before <ℤ t
  after some = earlier_before e pl.index_is pl.before_is pl.passed
    where
      earlier_before : (xs : List (ℤ × ℤ)) → place.index ≡ length xs → place.before ≡ last_time xs → AllByRecursion (λ (r : ℤ × ℤ). r.0 <ℤ t) xs → place.before <ℤ t
      earlier_before [] i b h = absurd (omega arith)
      earlier_before (x ∷ xs) i b h = subst (λ z. z <ℤ t) (sym b) (passed_last t x xs h)

  values_number : number_at place.later_values.now ≡ Ok (zigzag q.1, values_text (values_of l))
  unfolding values_text
  values_number = ap number_at pl.later_values ∙ number_again (zigzag q.1) (values_text (values_of l)) (zigzag_fits q.1 behind_are.3.0)

  pub value_there : IsOk (number_at place.later_values.now)
  value_there = subst IsOk (sym values_number) refl

  abbrev pub copied : ℕ → List ℕ
  copied n = ((((text_to n place t ++ steps_after place t) ++ place.earlier_values.now) ++ number_text (zigzag v)) ++ values_after place t)

  module _ (is : IsTime t) (fits : FitsSigned w64 v) (zs : List (ℤ × ℤ)) (n : ℕ) (puts : put int_cmp t v points ≡ e ++ (t, v) ∷ zs) (count : n ≡ length e + length zs) (few : n < 256) (later : AreLater t (times_of zs)) (vals : AreValues (values_of zs)) (steps : steps_after place t ≡ steps_text t (times_of zs)) (rest : values_after place t ≡ values_text (values_of zs)) (same_last : last_of t (times_of zs) ≡ last_of q.0 (times_of l)) where
    to_is : text_to n place t ≡ to_text e t n
    to_is = text_to_is t q.0 n place e pl.index_is pl.first_is pl.before_is pl.earlier_steps

    copied_is : copied n ≡ block_text (e ++ (t, v) ∷ zs)
    copied_is =
        copied_text (text_to n place t) (steps_after place t) place.earlier_values.now (number_text (zigzag v)) (values_after place t)
        ∙ (λ i. to_is i ++ (steps i ++ (pl.earlier_values i ++ (number_text (zigzag v) ++ rest i))))
        ∙ sym (whole_text e (t, v) zs n count)

    finished : (more : Bool) → (more ≡ true → IsAdded points (t, v) (put int_cmp t v points)) → (more ≡ false → length (put int_cmp t v points) ≡ length points)
        → IsBlockWith points (t, v) (copied n) (length (text_to n place t ++ steps_after place t)) more
    finished more added same = record {
      block = subst (IsBlockOf (copied n)) (sym puts) (record {
        points_are = points_with e q l cut_are (t, v) zs (omega arith) pl.passed is fits later vals;
        spelled = copied_is;
      });
      values_at = (λ i. length (to_is i ++ steps i)) ∙ sym (start_is e (t, v) zs n) ∙ ap values_start (sym puts);
      last_is = ap last_time puts ∙ last_joined e (t, v) zs ∙ same_last ∙ sym (last_joined e q l) ∙ ap last_time (sym pl.cut);
      added = added;
      same = same;
    }

  module _ (is : IsTime t) (fits : FitsSigned w64 v) (counted : limit + 1 ≡ length points) (few : length points < 256) (reach : t ≤ℤ last_time points) where
    put_here : put int_cmp t v points ≡ e ++ put int_cmp t v (q ∷ l)
    put_here = ap (put int_cmp t v) pl.cut ∙ put_after t v e (q ∷ l) pl.passed

    inserted : int_lt t place.time ≡ true → IsBlockWith points (t, v) (copied (count_with limit place t)) (length (text_to (count_with limit place t) place t ++ steps_after place t)) (int_lt t place.time)
    unfolding steps_text
    inserted h =
        let less : t <ℤ q.0 = subst (λ z. t <ℤ z) pl.time_is (less_true t place.time h) in
        let puts : put int_cmp t v points ≡ e ++ (t, v) ∷ q ∷ l = put_here ∙ ap (λ (x : List (ℤ × ℤ)). e ++ x) (put_less t v q l less) in
        let n : count_with limit place t ≡ limit + 1 = ap (λ b. cond b (limit + 1) limit) h in
        finished is fits (q ∷ l) (count_with limit place t) puts (let a = size in omega arith) (omega arith) (less, behind_are.1, behind_are.2) behind_are.3
        (ap (λ b. cond b (number_text (step_between t place.time) ++ place.later_steps.now) place.later_steps.now) h ∙ (λ i. number_text (step_between t (pl.time_is i)) ++ pl.later_steps i))
        (ap (λ b. cond b place.later_values.now (number_or (number_at place.later_values.now)).1) h ∙ pl.later_values)
        refl
        (int_lt t place.time)
        (λ _. record { earlier = e; later = q ∷ l; without = pl.cut; with = puts })
        (λ x. absurd (apart (int_lt t place.time) h x))

    replaced : int_lt t place.time ≡ false → IsBlockWith points (t, v) (copied (count_with limit place t)) (length (text_to (count_with limit place t) place t ++ steps_after place t)) (int_lt t place.time)
    replaced h =
        let same : t ≡ q.0 = both_ways t q.0 (reaches counted reach) (subst (λ z. z ≤ℤ t) pl.time_is (less_false t place.time h)) in
        let puts : put int_cmp t v points ≡ e ++ (t, v) ∷ l = put_here ∙ ap (λ (x : List (ℤ × ℤ)). e ++ x) (put_same t v q l same) in
        let n : count_with limit place t ≡ limit = ap (λ b. cond b (limit + 1) limit) h in
        finished is fits l (count_with limit place t) puts (let a = size in omega arith) (omega arith) (subst (λ z. AreLater z (times_of l)) (sym same) behind_are.2) behind_are.3.1
        (ap (λ b. cond b (number_text (step_between t place.time) ++ place.later_steps.now) place.later_steps.now) h ∙ pl.later_steps ∙ ap (λ z. steps_text z (times_of l)) (sym same))
        (ap (λ b. cond b place.later_values.now (number_or (number_at place.later_values.now)).1) h ∙ ap (λ r. (number_or r).1) values_number)
        (ap (λ z. last_of z (times_of l)) same)
        (int_lt t place.time)
        (λ x. absurd (apart (int_lt t place.time) x h))
        (λ _. let a = ap length puts in let b = length-append e ((t, v) ∷ l) in let d = size in omega arith)

    pub with_one : IsBlockWith points (t, v) (copied (count_with limit place t)) (length (text_to (count_with limit place t) place t ++ steps_after place t)) (int_lt t place.time)
    with_one =
        elim (int_lt t place.time) as (λ b. int_lt t place.time ≡ b → IsBlockWith points (t, v) (copied (count_with limit place t)) (length (text_to (count_with limit place t) place t ++ steps_after place t)) (int_lt t place.time)) [
          | true ↦ inserted
          | false ↦ replaced
        ] refl

-- ---- the count of a block

pub count_byte : (block : List ℕ) (points : List (ℤ × ℤ)) → IsBlockOf block points → (get_or block 0 0 + 1 ≡ length points) × (0 < length block)
unfolding block_text
count_byte block [] b = absurd b.points_are
count_byte block (p ∷ ps) b = (ap (λ (x : List ℕ). get_or x 0 0 + 1) b.spelled ∙ (let x : length ps + 1 ≡ suc (length ps) = omega arith in x), let a = ap length b.spelled in omega arith)

pub count_few : (limit : ℕ) (place : Place) (t : ℤ) → limit + 1 < 256 → count_with limit place t < 256
count_few limit place t h = elim (int_lt t place.time) as (λ b. cond b (limit + 1) limit < 256) [ true ↦ h | false ↦ omega arith ]

-- ---- parts

not_after_last : (t : ℤ) (us : List ℤ) → AreLater t us → t ≤ℤ last_of t us
not_after_last t [] h = omega (arith, ints)
not_after_last t (u ∷ us) h = let a = not_after_last u us h.2 in let b : t <ℤ u = h.0 in omega (arith, ints)

before_last : (t : ℤ) (us : List ℤ) → 0 < length us → AreLater t us → t <ℤ last_of t us
before_last t [] some h = absurd (omega arith)
before_last t (u ∷ us) some h = let a = not_after_last u us h.2 in let b : t <ℤ u = h.0 in omega (arith, ints)

module _ (points : List (ℤ × ℤ)) (are : ArePoints points) (count : ℕ) (last : ℤ) (is_last : last ≡ last_time points) (few : count < length points) (place : Place) (pl : IsPlace points count last place) where
  behind_cut : ArePoints (pl.point ∷ pl.later)
  behind_cut = points_back pl.earlier pl.point pl.later (subst ArePoints pl.cut are)

  cut_size : length points ≡ length pl.earlier + suc (length pl.later)
  cut_size = let a = ap length pl.cut in let b = length-append pl.earlier (pl.point ∷ pl.later) in omega arith

  at_count : length pl.earlier ≡ count
  at_count =
      ⊎_elim {C = length pl.earlier ≡ count}
      (λ (a : place.index < count).
      let reach : last ≤ℤ pl.point.0 = pl.reached a in
      let some : 0 < length (times_of pl.later) = let b = times_length pl.later in let c = pl.index_is in let d = cut_size in omega arith in
      let less = before_last pl.point.0 (times_of pl.later) some behind_cut.2 in
      let same : last ≡ last_of pl.point.0 (times_of pl.later) = is_last ∙ ap last_time pl.cut ∙ last_joined pl.earlier pl.point pl.later in
      absurd (not_less_than pl.point.0 last (subst (λ z. pl.point.0 <ℤ z) (sym same) less) reach))
      (λ (a : count ≤ place.index). let b = pl.bound in let c = pl.index_is in omega arith)
      (cases_lt place.index count)
    where
      not_less_than : (t u : ℤ) → t <ℤ u → u ≤ℤ t → ⊥
      not_less_than t u a b = omega (arith, ints)

  take_is : take count points ≡ pl.earlier
  take_is = (λ i. take (sym at_count i) (pl.cut i)) ∙ take-append_seam pl.earlier (pl.point ∷ pl.later)

  drop_is : drop count points ≡ pl.point ∷ pl.later
  drop_is = (λ i. drop (sym at_count i) (pl.cut i)) ∙ drop-append_seam pl.earlier (pl.point ∷ pl.later)

  pub last_part : (n : ℕ) → n + 1 ≡ length points → IsPart (drop count points) ((head_text (n - count) place.time ++ place.later_steps.now) ++ place.later_values.now) (length (head_text (n - count) place.time ++ place.later_steps.now)) (last_time points)
  unfolding block_text
  last_part n size =
      let h : n - count ≡ length pl.later = let a = cut_size in let b = at_count in omega arith in
      let text : head_text (n - count) place.time ++ place.later_steps.now ≡ head_text (length pl.later) pl.point.0 ++ steps_text pl.point.0 (times_of pl.later) = λ i. head_text (h i) (pl.time_is i) ++ pl.later_steps i in
      subst (λ (x : List (ℤ × ℤ)). IsPart x ((head_text (n - count) place.time ++ place.later_steps.now) ++ place.later_values.now) (length (head_text (n - count) place.time ++ place.later_steps.now)) (last_time points)) (sym drop_is)
      (record {
        block = record {
          points_are = behind_cut;
          spelled = (λ i. text i ++ pl.later_values i) ∙ append_assoc (head_text (length pl.later) pl.point.0) (steps_text pl.point.0 (times_of pl.later)) (values_text (values_of (pl.point ∷ pl.later)));
        };
        values_at = ap length text ∙ length-append (head_text (length pl.later) pl.point.0) (steps_text pl.point.0 (times_of pl.later));
        last_is = ap last_time pl.cut ∙ last_joined pl.earlier pl.point pl.later;
      })

  pub first_part : 0 < count → IsPart (take count points) ((head_text (count - 1) place.first ++ place.earlier_steps.now) ++ place.earlier_values.now) (length (head_text (count - 1) place.first ++ place.earlier_steps.now)) place.before
  unfolding block_text
  first_part some =
      subst (λ (x : List (ℤ × ℤ)). IsPart x ((head_text (count - 1) place.first ++ place.earlier_steps.now) ++ place.earlier_values.now) (length (head_text (count - 1) place.first ++ place.earlier_steps.now)) place.before) (sym take_is)
      (part_of pl.earlier at_count (points_front pl.earlier pl.point pl.later (let a = at_count in omega arith) (subst ArePoints pl.cut are)) pl.first_is pl.before_is pl.earlier_steps pl.earlier_values)
    where
      part_of : (xs : List (ℤ × ℤ)) → length xs ≡ count → ArePoints xs → place.first ≡ first_or pl.point.0 xs → place.before ≡ last_time xs → place.earlier_steps.now ≡ steps_of xs → place.earlier_values.now ≡ values_text (values_of xs)
          → IsPart xs ((head_text (count - 1) place.first ++ place.earlier_steps.now) ++ place.earlier_values.now) (length (head_text (count - 1) place.first ++ place.earlier_steps.now)) place.before
      part_of [] c are f b s v = absurd are
      part_of (x ∷ xs) c are f b s v =
          let h : count - 1 ≡ length xs = omega arith in
          let text : head_text (count - 1) place.first ++ place.earlier_steps.now ≡ head_text (length xs) x.0 ++ steps_text x.0 (times_of xs) = λ i. head_text (h i) (f i) ++ s i in
          record {
            block = record {
              points_are = are;
              spelled = (λ i. text i ++ v i) ∙ append_assoc (head_text (length xs) x.0) (steps_text x.0 (times_of xs)) (values_text (values_of (x ∷ xs)));
            };
            values_at = ap length text ∙ length-append (head_text (length xs) x.0) (steps_text x.0 (times_of xs));
            last_is = b;
          }

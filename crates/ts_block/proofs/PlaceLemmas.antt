-- Finding a point of a block.
use Rattle.std.proofs.Common.{◌≡◌, ℕ, suc, ◌+◌, ◌-◌, ◌<◌, ◌≤◌, ℤ, ◌<ℤ◌, ◌≤ℤ◌, List, [], ◌∷◌, ◌++◌, length, take, drop, Ok, append_assoc, append-nil, length-append, refl, sym, ◌∙◌, ap, subst, arith, IsOk, true, false, int_cmp, is_lt}
use Rattle.std.proofs.lemmas.Int.{ints}
use Rattle.std.proofs.Math.Seq.{take-append_seam}
use Rattle.std.proofs.lemmas.List.{length_push, map-append, take_rest}
use Rattle.std.specs.List.{AllByRecursion}
use Rattle.ts_core.specs.facts.Times.{least_time}
use Rattle.ts_block.specs.Varints.{number_text, zigzag}
use Rattle.ts_block.specs.NumbersRead.{number_at}
use Rattle.ts_block.specs.Blocks.{times_of, values_of, step_between, steps_text, values_text, last_of, IsBlockOf}
use Rattle.ts_block.specs.BlocksRead.{head_at, step_at}
use Rattle.ts_block.specs.Decoding.{AreAt}
use Rattle.ts_block.specs.Appending.{values_start, last_time}
use Rattle.ts_block.specs.declared.place.Place.{Place}
use Rattle.ts_block.specs.Splicing.{steps_of, first_or, IsPlace}
use Rattle.ts_block.proofs.Choices.{ok_is}
use Rattle.ts_block.proofs.DecodingLemmas.{values_behind, same_head, value_here, step_here}
use Rattle.ts_block.proofs.AppendingLemmas.{steps_push, times_push, last_push}

-- ---- one more point before the place

pub steps_of_push : (xs : List (ℤ × ℤ)) (q y : ℤ × ℤ) → steps_of ((xs ++ q ∷ []) ++ y ∷ []) ≡ steps_of (xs ++ q ∷ []) ++ number_text (step_between q.0 y.0)
unfolding steps_text
steps_of_push [] q y = append-nil (number_text (step_between q.0 y.0))
steps_of_push (x ∷ xs) q y =
    ap (steps_text x.0) (times_push (xs ++ q ∷ []) y)
    ∙ steps_push x.0 (times_of (xs ++ q ∷ [])) y.0
    ∙ ap (λ t. steps_text x.0 (times_of (xs ++ q ∷ [])) ++ number_text (step_between t y.0)) (ap (last_of x.0) (times_push xs q) ∙ last_push x.0 (times_of xs) q.0)

pub last_time_push : (xs : List (ℤ × ℤ)) (q : ℤ × ℤ) → last_time (xs ++ q ∷ []) ≡ q.0
last_time_push [] q = refl
last_time_push (x ∷ xs) q = ap (last_of x.0) (times_push xs q) ∙ last_push x.0 (times_of xs) q.0

pub first_or_push : (xs : List (ℤ × ℤ)) (q : ℤ × ℤ) (t : ℤ) → first_or t (xs ++ q ∷ []) ≡ first_or q.0 xs
first_or_push [] q t = refl
first_or_push (x ∷ xs) q t = refl

pub passed_push : (t : ℤ) (xs : List (ℤ × ℤ)) (q : ℤ × ℤ) → AllByRecursion (λ (p : ℤ × ℤ). p.0 <ℤ t) xs → q.0 <ℤ t → AllByRecursion (λ (p : ℤ × ℤ). p.0 <ℤ t) (xs ++ q ∷ [])
passed_push t [] q h l = (l, tt)
passed_push t (x ∷ xs) q h l = (h.0, passed_push t xs q h.1 l)

-- ---- the state of a search

pub record IsSearch (points : List (ℤ × ℤ)) (time : ℤ) (first : ℤ) (all_steps all_values : List ℕ) (index : ℕ) (before now : ℤ) (from steps rest : List ℕ) : Type 0 where
  pub earlier : List (ℤ × ℤ)
  pub point : ℤ × ℤ
  pub later : List (ℤ × ℤ)
  pub cut : points ≡ earlier ++ point ∷ later
  pub index_is : index ≡ length earlier
  pub first_is : first ≡ first_or point.0 earlier
  pub before_is : before ≡ last_time earlier
  pub at : AreAt (suc (length later)) now steps rest point later
  pub steps_end : at.beyond_steps ≡ all_values
  pub values_end : at.beyond_values ≡ []
  pub all : all_values ≡ values_text (values_of points)
  pub up_to : all_steps ≡ steps_of earlier ++ from
  pub and_own : all_steps ≡ steps_of (earlier ++ point ∷ []) ++ steps
  pub passed : AllByRecursion (λ (p : ℤ × ℤ). p.0 <ℤ time) earlier

-- ---- its steps

module _ (block : List ℕ) (p : ℤ × ℤ) (ps : List (ℤ × ℤ)) (b : IsBlockOf block (p ∷ ps)) (values : ℕ) (v : values ≡ values_start (p ∷ ps)) where
  rest_values : take (length block - values) (drop values block) ≡ values_text (values_of (p ∷ ps))
  rest_values = take_rest block values ∙ (values_behind block p ps b values v).0

  begin_search : (n : ℕ) (first : ℤ) (rest : List ℕ) → Ok (n, first, rest) ≡ head_at block → (time before : ℤ) → before ≡ least_time
      → IsSearch (p ∷ ps) time first rest (take (length block - values) (drop values block)) 0 before first rest rest (take (length block - values) (drop values block))
  unfolding steps_text
  begin_search n first rest head time before least =
      let h = same_head block n first rest head p ps b in
      record {
        earlier = [];
        point = p;
        later = ps;
        cut = refl;
        index_is = refl;
        first_is = h.1;
        before_is = least;
        at = record {
          count = refl;
          time = h.1;
          valid = b.points_are.1;
          later = b.points_are.2;
          values_are = b.points_are.3;
          beyond_steps = take (length block - values) (drop values block);
          steps_spelled = h.2 ∙ ap (λ (x : List ℕ). steps_text p.0 (times_of ps) ++ x) (sym rest_values);
          beyond_values = [];
          values_spelled = rest_values ∙ sym (append-nil (values_text (values_of (p ∷ ps))));
        };
        steps_end = refl;
        values_end = refl;
        all = rest_values;
        up_to = refl;
        and_own = refl;
        passed = tt;
      }

pub search_begun : (block : List ℕ) (points : List (ℤ × ℤ)) → IsBlockOf block points → (values : ℕ) → values ≡ values_start points → (n : ℕ) (first : ℤ) (rest : List ℕ) → Ok (n, first, rest) ≡ head_at block → (time before : ℤ) → before ≡ least_time
    → IsSearch points time first rest (take (length block - values) (drop values block)) 0 before first rest rest (take (length block - values) (drop values block))
search_begun block [] b values v n first rest head time before least = absurd b.points_are
search_begun block (p ∷ ps) b values v n first rest head time before least = begin_search block p ps b values v n first rest head time before least

module _ (points : List (ℤ × ℤ)) (time first : ℤ) (all_steps all_values : List ℕ) (index : ℕ) (before now : ℤ) (from steps rest : List ℕ) where
  pub value_found : IsSearch points time first all_steps all_values index before now from steps rest → IsOk (number_at rest)
  value_found s = subst IsOk (sym (value_here (suc (length s.later)) now steps rest s.point s.later s.at)) refl

  more_later : (xs : List (ℤ × ℤ)) (q : ℤ × ℤ) (ys : List (ℤ × ℤ)) → points ≡ xs ++ q ∷ ys → (limit : ℕ) → length xs < limit → limit < length points → 0 < length ys
  more_later xs q ys e limit a b = let x = ap length e in let y = length-append xs (q ∷ ys) in omega arith

  step_there : (q : ℤ × ℤ) (ys : List (ℤ × ℤ)) → 0 < length ys → AreAt (suc (length ys)) now steps rest q ys → IsOk (step_at now steps)
  step_there q [] l a = absurd (omega arith)
  step_there q (y ∷ ys) l a = subst IsOk (sym (step_here (suc (length (y ∷ ys))) now steps rest q y ys a)) refl

  pub step_found : IsSearch points time first all_steps all_values index before now from steps rest → (limit : ℕ) → index < limit → limit < length points → IsOk (step_at now steps)
  step_found s limit a b = step_there s.point s.later (more_later s.earlier s.point s.later s.cut limit (let e = s.index_is in omega arith) b) s.at

  module _ (n : ℕ) (vs : List ℕ) (value : Ok (n, vs) ≡ number_at rest) (u : ℤ) (ss : List ℕ) (step : Ok (u, ss) ≡ step_at now steps) (index_next : ℕ) (next : index_next ≡ index + 1) (earlier_than : now <ℤ time) where
    go_on : (xs : List (ℤ × ℤ)) (q : ℤ × ℤ) (later : List (ℤ × ℤ)) → 0 < length later
        → points ≡ xs ++ q ∷ later → index ≡ length xs → first ≡ first_or q.0 xs → (at : AreAt (suc (length later)) now steps rest q later)
        → at.beyond_steps ≡ all_values → at.beyond_values ≡ [] → all_values ≡ values_text (values_of points) → all_steps ≡ steps_of (xs ++ q ∷ []) ++ steps → AllByRecursion (λ (p : ℤ × ℤ). p.0 <ℤ time) xs
        → IsSearch points time first all_steps all_values index_next now u steps ss vs
    unfolding steps_text
    go_on xs q [] l cut i f at se ve all own passed = absurd (omega arith)
    go_on xs q (y ∷ ys) l cut i f at se ve all own passed =
        let left : ℕ = suc (length (y ∷ ys)) in
        let sx : List ℕ = steps_text y.0 (times_of ys) ++ at.beyond_steps in
        let vx : List ℕ = values_text (values_of (y ∷ ys)) ++ at.beyond_values in
        let a = ok_is (u, ss) (y.0, sx) (step ∙ step_here left now steps rest q y ys at) in
        let b = ok_is (n, vs) (zigzag q.1, vx) (value ∙ value_here left now steps rest q (y ∷ ys) at) in
        let steps_are : ss ≡ sx = ap (λ (x : ℤ × List ℕ). x.1) a in
        let spelled : steps ≡ number_text (step_between q.0 y.0) ++ ss = at.steps_spelled ∙ append_assoc (number_text (step_between q.0 y.0)) (steps_text y.0 (times_of ys)) at.beyond_steps ∙ ap (λ (x : List ℕ). number_text (step_between q.0 y.0) ++ x) (sym steps_are) in
        record {
          earlier = xs ++ q ∷ [];
          point = y;
          later = ys;
          cut = cut ∙ sym (append_assoc xs (q ∷ []) (y ∷ ys));
          index_is = let e = length_push xs q in omega arith;
          first_is = f ∙ sym (first_or_push xs q y.0);
          before_is = at.time ∙ sym (last_time_push xs q);
          at = record {
            count = refl;
            time = ap (λ (x : ℤ × List ℕ). x.0) a;
            valid = at.later.1;
            later = at.later.2;
            values_are = at.values_are.1;
            beyond_steps = at.beyond_steps;
            steps_spelled = steps_are;
            beyond_values = at.beyond_values;
            values_spelled = ap (λ (x : ℕ × List ℕ). x.1) b;
          };
          steps_end = se;
          values_end = ve;
          all = all;
          up_to = own;
          and_own = own ∙ ap (λ (x : List ℕ). steps_of (xs ++ q ∷ []) ++ x) spelled ∙ sym (append_assoc (steps_of (xs ++ q ∷ [])) (number_text (step_between q.0 y.0)) ss) ∙ ap (λ (x : List ℕ). x ++ ss) (sym (steps_of_push xs q y));
          passed = passed_push time xs q passed (subst (λ t. t <ℤ time) at.time earlier_than);
        }

    pub search_next : IsSearch points time first all_steps all_values index before now from steps rest → (limit : ℕ) → index < limit → limit < length points
        → IsSearch points time first all_steps all_values index_next now u steps ss vs
    search_next s limit a b =
        go_on s.earlier s.point s.later (more_later s.earlier s.point s.later s.cut limit (let e = s.index_is in omega arith) b) s.cut s.index_is s.first_is s.at s.steps_end s.values_end s.all s.and_own s.passed

-- ---- the bytes around the place

front_is : (whole a b : List ℕ) → whole ≡ a ++ b → take (length whole - length b) whole ≡ a
front_is whole a b e =
    let size : length whole - length b ≡ length a = let x = ap length e in let y = length-append a b in omega arith in
    (λ i. take (size i) (e i)) ∙ take-append_seam a b

values_joined : (vs ws : List ℤ) → values_text (vs ++ ws) ≡ values_text vs ++ values_text ws
unfolding values_text
values_joined [] ws = refl
values_joined (v ∷ vs) ws = ap (λ (x : List ℕ). number_text (zigzag v) ++ x) (values_joined vs ws) ∙ sym (append_assoc (number_text (zigzag v)) (values_text vs) (values_text ws))

pub values_of_joined : (xs ys : List (ℤ × ℤ)) → values_text (values_of (xs ++ ys)) ≡ values_text (values_of xs) ++ values_text (values_of ys)
values_of_joined xs ys = ap values_text (map-append (λ (p : ℤ × ℤ). p.1) xs ys) ∙ values_joined (values_of xs) (values_of ys)

module _ (points : List (ℤ × ℤ)) (time first : ℤ) (all_steps all_values : List ℕ) (index : ℕ) (before now : ℤ) (from steps rest : List ℕ) (s : IsSearch points time first all_steps all_values index before now from steps rest) where
  rest_is : rest ≡ values_text (values_of (s.point ∷ s.later))
  rest_is = s.at.values_spelled ∙ ap (λ (x : List ℕ). values_text (values_of (s.point ∷ s.later)) ++ x) s.values_end ∙ append-nil (values_text (values_of (s.point ∷ s.later)))

  values_split : all_values ≡ values_text (values_of s.earlier) ++ rest
  values_split =
      s.all ∙ ap (λ (x : List (ℤ × ℤ)). values_text (values_of x)) s.cut ∙ values_of_joined s.earlier (s.point ∷ s.later)
      ∙ ap (λ (x : List ℕ). values_text (values_of s.earlier) ++ x) (sym rest_is)

  pub rest_fits : length rest ≤ length all_values
  rest_fits = let a = ap length values_split in let b = length-append (values_text (values_of s.earlier)) rest in omega arith

  pub from_fits : length from ≤ length all_steps
  from_fits = let a = ap length s.up_to in let b = length-append (steps_of s.earlier) from in omega arith

  steps_split : steps ≡ steps_text s.point.0 (times_of s.later) ++ all_values
  steps_split = s.at.steps_spelled ∙ ap (λ (x : List ℕ). steps_text s.point.0 (times_of s.later) ++ x) s.steps_end

  pub values_fit : length all_values ≤ length steps
  values_fit = let a = ap length steps_split in let b = length-append (steps_text s.point.0 (times_of s.later)) all_values in omega arith

  pub place_is : (place : Place) (limit : ℕ) → place.index ≡ index → place.first ≡ first → place.before ≡ before → place.time ≡ now
      → place.earlier_steps.now ≡ take (length all_steps - length from) all_steps → place.later_steps.now ≡ take (length steps - length all_values) steps
      → place.earlier_values.now ≡ take (length all_values - length rest) all_values → place.later_values.now ≡ rest → index ≤ limit → (index < limit → time ≤ℤ now) → IsPlace points limit time place
  place_is place limit a b c d e f g h bound r = record {
    earlier = s.earlier;
    point = s.point;
    later = s.later;
    cut = s.cut;
    index_is = a ∙ s.index_is;
    bound = omega arith;
    time_is = d ∙ s.at.time;
    first_is = b ∙ s.first_is;
    before_is = c ∙ s.before_is;
    earlier_steps = e ∙ front_is all_steps (steps_of s.earlier) from s.up_to;
    later_steps = f ∙ front_is steps (steps_text s.point.0 (times_of s.later)) all_values steps_split;
    earlier_values = g ∙ front_is all_values (values_text (values_of s.earlier)) rest values_split;
    later_values = h ∙ rest_is;
    passed = s.passed;
    reached = λ l. subst (λ t. time ≤ℤ t) s.at.time (r (subst (λ n. n < limit) a l));
  }

-- ---- comparisons

pub less_from : (t u : ℤ) → true ≡ is_lt (int_cmp t u) → t <ℤ u
less_from t u e = grind (arith, ints, e)

pub not_less : (t u : ℤ) → false ≡ is_lt (int_cmp t u) → u ≤ℤ t
not_less t u e = grind (arith, ints, e)

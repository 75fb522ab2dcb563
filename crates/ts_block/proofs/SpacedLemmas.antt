-- Steps that are all the same: their bytes repeat the first step.
use Rattle.std.proofs.Common.{◌≡◌, ℕ, zero, suc, ◌+◌, ◌-◌, ◌^◌, ◌<◌, ◌≤◌, ℤ, ◌-ℤ◌, ◌<ℤ◌, unsigned_abs, List, [], ◌∷◌, ◌++◌, length, IsOk, Ok, ◌⊎◌, ⊎_elim, take, drop, append_assoc, append-nil, length-append, refl, sym, ◌∙◌, ap, subst, arith}
use Rattle.std.proofs.lemmas.Int.{ints}
use Rattle.std.proofs.lemmas.List.{take-append-drop}
use Rattle.std.proofs.Math.Seq.{drop-append_seam, take-append_seam}
use Rattle.ts_core.specs.facts.Times.{IsTime}
use Rattle.ts_block.specs.Appending.{values_start, last_time}
use Rattle.ts_block.specs.Varints.{number_text}
use Rattle.ts_block.specs.NumbersRead.{number_at}
use Rattle.ts_block.specs.Blocks.{times_of, values_of, head_text, step_between, steps_text, values_text, block_text, AreLater, last_of, IsBlockOf}
use Rattle.ts_block.specs.BlocksRead.{step_from}
use Rattle.ts_block.specs.Decoding.{FollowBy, AreSpaced, AreApartBy, IsSpacing}
use Rattle.ts_block.proofs.AppendingLemmas.{digits_some}
use Rattle.ts_block.proofs.Choices.{ok_is}
use Rattle.ts_block.proofs.NumberLaws.{number_again}
use Rattle.ts_block.proofs.PartLaws.{step_is, step_back, step_fits}

-- the first step is read from the bytes of the steps
pub first_step : (t u : ℤ) (us : List ℤ) (more : List ℕ) → IsTime t → AreLater t (u ∷ us) → number_at (steps_text t (u ∷ us) ++ more) ≡ Ok (step_between t u, steps_text u us ++ more)
unfolding steps_text
first_step t u us more is later =
    ap number_at (append_assoc (number_text (step_between t u)) (steps_text u us) more) ∙ number_again (step_between t u) (steps_text u us ++ more) (step_fits t u is later.1 later.0)

first_alone : (t u : ℤ) (us : List ℤ) → IsTime t → AreLater t (u ∷ us) → number_at (steps_text t (u ∷ us)) ≡ Ok (step_between t u, steps_text u us)
unfolding steps_text
first_alone t u us is later = number_again (step_between t u) (steps_text u us) (step_fits t u is later.1 later.0)

-- the bytes after the first step begin as all do
abbrev pub Repeats : ℤ → ℤ → List ℤ → Type 0
Repeats t u us = steps_text u us ≡ take (length (steps_text u us)) (steps_text t (u ∷ us))

pub follow_from : (t u : ℤ) (us : List ℤ) → IsTime t → AreLater t (u ∷ us) → Repeats t u us → FollowBy (step_between t u) t (u ∷ us)
unfolding steps_text
follow_from t u [] is later r = (sym (step_back t u later.0), tt)
follow_from t u (w ∷ ws) is later r =
    let all : List ℕ = steps_text t (u ∷ (w ∷ ws)) in
    let others : List ℕ = steps_text u (w ∷ ws) in
    let rest : List ℕ = steps_text w ws in
    let more : List ℕ = drop (length others) all in
    let split : others ++ more ≡ all = ap (λ (x : List ℕ). x ++ more) r ∙ take-append-drop (length others) all in
    let whole : number_at all ≡ Ok (step_between t u, others) = first_alone t u (w ∷ ws) is later in
    let again : number_at all ≡ Ok (step_between u w, rest ++ more) = ap number_at (sym split) ∙ first_step u w ws more later.1 later.2 in
    let same = ok_is (step_between t u, others) (step_between u w, rest ++ more) (sym whole ∙ again) in
    let step : step_between t u ≡ step_between u w = ap (λ (x : ℕ × List ℕ). x.0) same in
    let front : rest ≡ take (length rest) others = sym (take-append_seam rest more) ∙ ap (take (length rest)) (sym (ap (λ (x : ℕ × List ℕ). x.1) same)) in
    (sym (step_back t u later.0), subst (λ n. FollowBy n u (w ∷ ws)) (sym step) (follow_from u w ws later.1 later.2 front))

-- equal steps: their text may begin with one of them or end with it
same_texts : (step : ℕ) (t : ℤ) (us : List ℤ) → FollowBy step t us → steps_text t us ++ number_text step ≡ number_text step ++ steps_text t us
unfolding steps_text
same_texts step t [] f = sym (append-nil (number_text step))
same_texts step t (u ∷ us) f =
    let n : List ℕ = number_text step in
    let rest : List ℕ = steps_text u us in
    let text : steps_text t (u ∷ us) ≡ n ++ rest = ap (λ k. number_text k ++ rest) (ap (step_between t) f.0 ∙ step_is t step) in
    ap (λ (x : List ℕ). x ++ n) text ∙ append_assoc n rest n ∙ ap (λ (x : List ℕ). n ++ x) (same_texts step u us f.1 ∙ sym text)

repeats_by : (step : ℕ) (t u : ℤ) (us : List ℤ) → FollowBy step t (u ∷ us) → Repeats t u us
unfolding steps_text
repeats_by step t u us f =
    let rest : List ℕ = steps_text u us in
    let text : steps_text t (u ∷ us) ≡ rest ++ number_text step = ap (λ k. number_text k ++ rest) (ap (step_between t) f.0 ∙ step_is t step) ∙ sym (same_texts step u us f.1) in
    sym (ap (take (length rest)) text ∙ take-append_seam rest (number_text step))

one_more_fits : (t u : ℤ) → IsTime t → IsTime u → t <ℤ u → step_between t u + 1 < 2 ^ 64
one_more_fits t u a b h = let p = a.not_before in let q = b.not_after in omega (arith, ints)

module _ (block : List ℕ) (values : ℕ) where
  -- the bytes from the head to the values are those of the steps
  pub steps_of_block : (p : ℤ × ℤ) (ps : List (ℤ × ℤ)) → IsBlockOf block (p ∷ ps) → values ≡ values_start (p ∷ ps) → take (values - 9) (drop 9 block) ≡ steps_text p.0 (times_of ps)
  unfolding block_text
  steps_of_block p ps b v =
      let head : List ℕ = head_text (length ps) p.0 in
      let steps : List ℕ = steps_text p.0 (times_of ps) in
      let size : values - 9 ≡ length steps = omega arith in
      (λ i. take (size i) (drop 9 (b.spelled i)))
      ∙ ap (take (length steps)) (drop-append_seam head (steps ++ values_text (values_of (p ∷ ps))))
      ∙ take-append_seam steps (values_text (values_of (p ∷ ps)))

  pub head_before : (points : List (ℤ × ℤ)) → IsBlockOf block points → values ≡ values_start points → 9 ≤ values
  head_before [] b v = absurd b.points_are
  head_before (p ∷ ps) b v = omega arith

  pub step_can : (points : List (ℤ × ℤ)) → IsBlockOf block points → values ≡ values_start points → (length (take (values - 9) (drop 9 block)) ≡ 0 → ⊥) → IsOk (number_at (take (values - 9) (drop 9 block)))
  unfolding steps_text
  step_can [] b v some = absurd b.points_are
  step_can (p ∷ []) b v some = absurd (some (ap length (steps_of_block p [] b v)))
  step_can (p ∷ q ∷ qs) b v some = subst IsOk (sym (ap number_at (steps_of_block p (q ∷ qs) b v) ∙ first_alone p.0 q.0 (times_of qs) b.points_are.1 b.points_are.2)) refl

  pub rest_within : (points : List (ℤ × ℤ)) → IsBlockOf block points → values ≡ values_start points → (length (take (values - 9) (drop 9 block)) ≡ 0 → ⊥) → (n : ℕ) (rest : List ℕ) → Ok (n, rest) ≡ number_at (take (values - 9) (drop 9 block))
      → length rest ≤ length (take (values - 9) (drop 9 block))
  unfolding steps_text
  rest_within [] b v some n rest e = absurd b.points_are
  rest_within (p ∷ []) b v some n rest e = absurd (some (ap length (steps_of_block p [] b v)))
  rest_within (p ∷ q ∷ qs) b v some n rest e =
      let steps = steps_of_block p (q ∷ qs) b v in
      let first = ok_is (n, rest) (step_between p.0 q.0, steps_text q.0 (times_of qs)) (e ∙ ap number_at steps ∙ first_alone p.0 q.0 (times_of qs) b.points_are.1 b.points_are.2) in
      let size = ap length steps in
      let parts = length-append (number_text (step_between p.0 q.0)) (steps_text q.0 (times_of qs)) in
      let same : length rest ≡ length (steps_text q.0 (times_of qs)) = ap (λ (x : ℕ × List ℕ). length x.1) first in
      omega arith

  -- the distance is one more than the step
  pub distance_fits : (points : List (ℤ × ℤ)) → IsBlockOf block points → values ≡ values_start points → (length (take (values - 9) (drop 9 block)) ≡ 0 → ⊥) → (n : ℕ) (rest : List ℕ) → Ok (n, rest) ≡ number_at (take (values - 9) (drop 9 block))
      → n + 1 < 2 ^ 64
  unfolding steps_text
  distance_fits [] b v some n rest e = absurd b.points_are
  distance_fits (p ∷ []) b v some n rest e = absurd (some (ap length (steps_of_block p [] b v)))
  distance_fits (p ∷ q ∷ qs) b v some n rest e =
      let steps = steps_of_block p (q ∷ qs) b v in
      let first = ok_is (n, rest) (step_between p.0 q.0, steps_text q.0 (times_of qs)) (e ∙ ap number_at steps ∙ first_alone p.0 q.0 (times_of qs) b.points_are.1 b.points_are.2) in
      let same : n ≡ step_between p.0 q.0 = ap (λ (x : ℕ × List ℕ). x.0) first in
      let fits = one_more_fits p.0 q.0 b.points_are.1 b.points_are.2.1 b.points_are.2.0 in
      omega arith

  pub spaced_points_are : (points : List (ℤ × ℤ)) → IsBlockOf block points → values ≡ values_start points → (n : ℕ) (rest : List ℕ) → Ok (n, rest) ≡ number_at (take (values - 9) (drop 9 block))
      → rest ≡ take (length rest) (take (values - 9) (drop 9 block)) → AreSpaced n points
  spaced_points_are [] b v n rest e same = absurd b.points_are
  spaced_points_are (p ∷ []) b v n rest e same = tt
  spaced_points_are (p ∷ q ∷ qs) b v n rest e same =
      let steps = steps_of_block p (q ∷ qs) b v in
      let first = ok_is (n, rest) (step_between p.0 q.0, steps_text q.0 (times_of qs)) (e ∙ ap number_at steps ∙ first_alone p.0 q.0 (times_of qs) b.points_are.1 b.points_are.2) in
      subst (λ k. FollowBy k p.0 (q.0 ∷ times_of qs)) (sym (ap (λ (x : ℕ × List ℕ). x.0) first))
      (follow_from p.0 q.0 (times_of qs) b.points_are.1 b.points_are.2
      ((λ i. (ap (λ (x : ℕ × List ℕ). x.1) (sym first)) i) ∙ same ∙ (λ i. take (length ((ap (λ (x : ℕ × List ℕ). x.1) first) i)) (steps i))))

  pub is_spacing : (points : List (ℤ × ℤ)) → IsBlockOf block points → values ≡ values_start points → (length (take (values - 9) (drop 9 block)) ≡ 0 → ⊥) → (n : ℕ) (rest : List ℕ) → Ok (n, rest) ≡ number_at (take (values - 9) (drop 9 block))
      → rest ≡ take (length rest) (take (values - 9) (drop 9 block)) → IsSpacing (n + 1) points
  unfolding steps_text
  is_spacing [] b v some n rest e same = absurd b.points_are
  is_spacing (p ∷ []) b v some n rest e same = absurd (some (ap length (steps_of_block p [] b v)))
  is_spacing (p ∷ q ∷ qs) b v some n rest e same = subst (λ k. IsSpacing k (p ∷ q ∷ qs)) (let k : suc n ≡ n + 1 = omega arith in k) (omega arith, spaced_points_are (p ∷ q ∷ qs) b v n rest e same)

  -- there are no steps
  pub none_spaced : (points : List (ℤ × ℤ)) → IsBlockOf block points → values ≡ values_start points → length (take (values - 9) (drop 9 block)) ≡ 0 → IsSpacing 0 points
  unfolding steps_text
  none_spaced [] b v e = λ step l a. omega arith
  none_spaced (p ∷ []) b v e = λ step l a. omega arith
  none_spaced (p ∷ q ∷ qs) b v e = λ step l a.
      let size = ap length (steps_of_block p (q ∷ qs) b v) in
      let parts = length-append (number_text (step_between p.0 q.0)) (steps_text q.0 (times_of qs)) in
      let some = digits_some 9 (step_between p.0 q.0) in
      omega arith

  -- the bytes differ
  pub not_spaced : (points : List (ℤ × ℤ)) → IsBlockOf block points → values ≡ values_start points → (n : ℕ) (rest : List ℕ) → Ok (n, rest) ≡ number_at (take (values - 9) (drop 9 block))
      → (rest ≡ take (length rest) (take (values - 9) (drop 9 block)) → ⊥) → IsSpacing 0 points
  not_spaced [] b v n rest e differ = λ step l a. omega arith
  not_spaced (p ∷ []) b v n rest e differ = λ step l a. omega arith
  not_spaced (p ∷ q ∷ qs) b v n rest e differ = λ step l a.
      let steps = steps_of_block p (q ∷ qs) b v in
      let first = ok_is (n, rest) (step_between p.0 q.0, steps_text q.0 (times_of qs)) (e ∙ ap number_at steps ∙ first_alone p.0 q.0 (times_of qs) b.points_are.1 b.points_are.2) in
      let same : rest ≡ steps_text q.0 (times_of qs) = ap (λ (x : ℕ × List ℕ). x.1) first in
      differ (same ∙ repeats_by step p.0 q.0 (times_of qs) a ∙ (λ i. take (length (sym same i)) (sym steps i)))

pub apart_of : (n : ℕ) (ps : List (ℤ × ℤ)) → IsSpacing n ps → AreApartBy n ps
apart_of zero ps h = tt
apart_of (suc step) ps h = h.1

-- ---- a point more

follow_push : (k : ℕ) (t : ℤ) (ps : List (ℤ × ℤ)) (p : ℤ × ℤ) → suc k ≡ unsigned_abs (p.0 -ℤ last_of t (times_of ps)) → last_of t (times_of ps) <ℤ p.0 → FollowBy k t (times_of ps) → FollowBy k t (times_of (ps ++ p ∷ []))
follow_push k t [] p d l a = (reached k t p.0 d l, tt)
  where
    reached : (k : ℕ) (t u : ℤ) → suc k ≡ unsigned_abs (u -ℤ t) → t <ℤ u → u ≡ step_from t k
    reached k t u d l = grind (arith, ints)
follow_push k t (q ∷ qs) p d l a = (a.0, follow_push k q.0 qs p d l a.1)

-- the new point is as far from the last one
apart_push : (n : ℕ) (ps : List (ℤ × ℤ)) (p : ℤ × ℤ) → n ≡ unsigned_abs (p.0 -ℤ last_time ps) → last_time ps <ℤ p.0 → AreApartBy n ps → AreApartBy n (ps ++ p ∷ [])
apart_push zero ps p d l a = tt
apart_push (suc k) [] p d l a = tt
apart_push (suc k) (q ∷ qs) p d l a = follow_push k q.0 qs p d l a

-- one point lies apart by any distance
one_apart : (n : ℕ) (ps : List (ℤ × ℤ)) → length ps ≤ 1 → AreApartBy n ps
one_apart zero ps e = tt
one_apart (suc k) [] e = tt
one_apart (suc k) (p ∷ []) e = tt
one_apart (suc k) (p ∷ q ∷ qs) e = absurd (omega arith)

-- the points were one, or lay apart by the same distance
pub apart_more : (n spacing : ℕ) (ps : List (ℤ × ℤ)) (p : ℤ × ℤ) → n ≡ unsigned_abs (p.0 -ℤ last_time ps) → last_time ps <ℤ p.0 → (length ps ≤ 1) ⊎ (spacing ≡ n) → AreApartBy spacing ps → AreApartBy n (ps ++ p ∷ [])
apart_more n spacing ps p d l c a =
    apart_push n ps p d l (⊎_elim {C = AreApartBy n ps} (λ (e : length ps ≤ 1). one_apart n ps e) (λ (e : spacing ≡ n). subst (λ k. AreApartBy k ps) e a) c)

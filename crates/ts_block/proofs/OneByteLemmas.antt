-- Values of one byte each: as many bytes as points are left.
use Rattle.std.proofs.Common.{◌≡◌, ℕ, suc, ◌+◌, ◌-◌, ◌^◌, ◌/◌, ◌<◌, ◌≤◌, ⊎_elim, ℤ, List, [], ◌∷◌, ◌++◌, length, get_or, set, take, drop, Some, Ok, append_assoc, length-append, sym, ◌∙◌, ap, subst, arith}
use Rattle.std.proofs.lemmas.Bool.{cases_lt}
use Rattle.std.proofs.lemmas.List.{length-drop, take_more_set, take_rest, take_all}
use Rattle.ts_core.specs.facts.Times.{IsTime}
use Rattle.ts_block.specs.Varints.{digits_text, number_text, zigzag, unzigzag}
use Rattle.ts_block.specs.NumbersRead.{number_at}
use Rattle.ts_block.specs.Blocks.{values_of, values_text}
use Rattle.ts_block.specs.BlocksRead.{step_from}
use Rattle.ts_block.specs.Decoding.{spaced_points, points_left, IsReading, CanRead}
use Rattle.ts_block.proofs.NumbersLemmas.{text_last, text_more, after}
use Rattle.ts_block.proofs.PartLaws.{zigzag_fits}
use Rattle.ts_block.proofs.BlockLaws.{values_length}
use Rattle.ts_block.proofs.AppendingLemmas.{digits_some, values_longer}
use Rattle.ts_block.proofs.DecodingLemmas.{value_here, time_is_known, spaced_moved, spaced_moves_on}

-- a number whose text has other bytes after it, which are as many as there may be, is its only byte
number_of_byte : (n : ℕ) (rest values : List ℕ) → n < 2 ^ 64 → values ≡ number_text n ++ rest → length values ≤ suc (length rest) → values ≡ n ∷ rest
number_of_byte n rest values fits is few =
    ⊎_elim {C = values ≡ n ∷ rest}
    (λ (l : n < 128). is ∙ ap (λ (x : List ℕ). x ++ rest) (text_last 9 n l (let g : n < 2 ^ 64 = omega arith in g)))
    (λ (l : 128 ≤ n).
    let more = text_more 9 n l (let g : n < 2 ^ 64 = omega arith in g) in
    let others = digits_some more.less (n / 128) in
    let text : length (number_text n) ≡ suc (length (digits_text more.less (n / 128))) = ap length more.text in
    let all : length values ≡ length (number_text n) + length rest = ap length is ∙ length-append (number_text n) rest in
    absurd (omega arith))
    (cases_lt n 128)

module _ (left : ℕ) (t : ℤ) (steps values : List ℕ) (some : left ≡ 0 → ⊥) (bytes : length values ≡ left) where
  byte_read : (ps : List (ℤ × ℤ)) → IsReading left t steps values ps → Ok (get_or values 0 0, drop 1 values) ≡ number_at values
  unfolding values_text
  byte_read [] h = absurd (some h)
  byte_read (p ∷ ps) a =
      let rest : List ℕ = values_text (values_of ps) ++ a.beyond_values in
      let whole : values ≡ number_text (zigzag p.1) ++ rest = a.values_spelled ∙ append_assoc (number_text (zigzag p.1)) (values_text (values_of ps)) a.beyond_values in
      let count = a.count in
      let long = values_longer (values_of ps) in
      let size = values_length ps in
      let parts = length-append (values_text (values_of ps)) a.beyond_values in
      let is : values ≡ zigzag p.1 ∷ rest = number_of_byte (zigzag p.1) rest values (zigzag_fits p.1 a.values_are.0) whole (omega arith) in
      ap (λ (x : List ℕ). Ok (get_or x 0 0, drop 1 x)) is ∙ sym (value_here left t steps values p ps a)

-- i of the points are in the room, and the next one is at t
pub record AreFilled (step left : ℕ) (values : List ℕ) (all : List (ℤ × ℤ)) (i : ℕ) (t : ℤ) (room : List (ℤ × ℤ)) : Type 0 where
  pub can : CanRead (Some step) (left - i) t [] (drop i values)
  pub points : all ≡ take i room ++ points_left (Some step) (left - i) t [] (drop i values)

pub filled-none : (step left : ℕ) (values : List ℕ) (t : ℤ) (room : List (ℤ × ℤ)) → CanRead (Some step) left t [] values → AreFilled step left values (points_left (Some step) left t [] values) 0 t room
filled-none step left values t room can =
    let all : left ≡ left - 0 = omega arith in
    record {
      can = subst (λ n. CanRead (Some step) n t [] values) all can;
      points = ap (λ n. points_left (Some step) n t [] values) all;
    }

module _ (step left : ℕ) (values : List ℕ) (bytes : length values ≡ left) (all : List (ℤ × ℤ)) (i : ℕ) (more : i < left) (t : ℤ) (room : List (ℤ × ℤ)) (f : AreFilled step left values all i t room) where
  is_left : left - i ≡ 0 → ⊥
  is_left e = omega arith

  number_here : Ok (get_or values i 0, drop (i + 1) values) ≡ number_at (drop i values)
  number_here =
      let next : drop i values ≡ get_or values i 0 ∷ drop (i + 1) values = after values i (omega arith) in
      let size : length (drop i values) ≡ left - i = length-drop i values ∙ ap (λ n. n - i) bytes in
      sym (ap (λ (x : List ℕ). Ok (get_or x 0 0, drop 1 x)) next)
      ∙ byte_read (left - i) t f.can.1 (drop i values) is_left size (spaced_points step (left - i) t (drop i values)) f.can.2

  pub filled-time : 2 ≤ left - i → IsTime (step_from t step)
  filled-time two = time_is_known step (left - i) t [] (drop i values) is_left (λ one. omega arith) f.can

  pub filled-on : (z : ℤ) → z ≡ unzigzag (get_or values i 0) → (u : ℤ) → (2 ≤ left - i → u ≡ step_from t step) → i < length room → AreFilled step left values all (i + 1) u (set room i (t, z))
  filled-on z value u next in_room =
      let less : left - i - 1 ≡ left - (i + 1) = omega arith in
      let rest : ℕ → List (ℤ × ℤ) = λ n. points_left (Some step) n u [] (drop (i + 1) values) in
      record {
        can = subst (λ n. CanRead (Some step) n u [] (drop (i + 1) values)) less
            (spaced_moves_on step (left - i) t (drop i values) is_left (get_or values i 0) (drop (i + 1) values) number_here u next f.can);
        points = f.points
            ∙ ap (λ (ps : List (ℤ × ℤ)). take i room ++ ps)
            (spaced_moved step (left - i) t (drop i values) is_left (get_or values i 0) (drop (i + 1) values) number_here u next
            ∙ (λ j. (t, sym value j) ∷ rest (less j)))
            ∙ sym (append_assoc (take i room) ((t, z) ∷ []) (rest (left - (i + 1))))
            ∙ sym (ap (λ (ps : List (ℤ × ℤ)). ps ++ rest (left - (i + 1))) (take_more_set room i (t, z) in_room));
      }

-- the room is full
module _ (step left : ℕ) (values : List ℕ) (all : List (ℤ × ℤ)) (n : ℕ) (t : ℤ) (room : List (ℤ × ℤ)) (f : AreFilled step left values all n t room) (full : n ≡ length room) where
  after_them : (m : ℕ) → m ≡ n → drop n values ≡ take (length values - m) (drop m values)
  after_them m e = ap (λ k. drop k values) (sym e) ∙ sym (take_rest values m)

  pub filled-can : (m : ℕ) → m ≡ n → CanRead (Some step) (left - length room) t [] (take (length values - m) (drop m values))
  filled-can m e = subst (λ k. CanRead (Some step) (left - k) t [] (take (length values - m) (drop m values))) full (subst (λ (x : List ℕ). CanRead (Some step) (left - n) t [] x) (after_them m e) f.can)

  pub filled-points : (m : ℕ) → m ≡ n → all ≡ room ++ points_left (Some step) (left - length room) t [] (take (length values - m) (drop m values))
  filled-points m e =
      f.points
      ∙ (λ j. take (full j) room ++ points_left (Some step) (left - full j) t [] (after_them m e j))
      ∙ ap (λ (ps : List (ℤ × ℤ)). ps ++ points_left (Some step) (left - length room) t [] (take (length values - m) (drop m values))) (take_all (length room) room (omega arith))

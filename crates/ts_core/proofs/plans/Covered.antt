-- Coverage by valid pieces: each moment of the range lies in exactly one piece, and no other moment in any.
use Rattle.std.proofs.Common.{◌≡◌, ℤ, ◌≤ℤ◌, ◌<ℤ◌, int_le, int_lt, arith, refl, sym, ap, ◌∙◌, suc, List, [], ◌∷◌, length, filter, Bool, true, false, cond}
use Rattle.std.proofs.lemmas.Int.{ints, by_lt_z}
use Rattle.std.proofs.lemmas.Bool.{and_parts, and_from}
use Rattle.ts_core.specs.facts.Facts.{is_within}
use Rattle.ts_core.specs.settings.Settings.{Settings}
use Rattle.ts_core.specs.store.Marks.{Marks}
use Rattle.ts_core.specs.queries.Queries.{Query}
use Rattle.ts_core.specs.plans.Pieces.{Piece, Covers, IsValid}
use Rattle.ts_core.proofs.lists.Comparisons.{le_true, lt_true, le_from, lt_from}

pub within_true : (a b t : ℤ) → a ≤ℤ t → t <ℤ b → is_within a b t ≡ true
within_true a b t l u = and_from _ _ (le_true a t l) (lt_true t b u)

pub within_below : (a b t : ℤ) → t <ℤ a → is_within a b t ≡ false
within_below a b t l = elim (is_within a b t) as (λ x. is_within a b t ≡ x → x ≡ false) [ true ↦ λ e. absurd (let k = le_from a t (and_parts (int_le a t) (int_lt t b) e).0 in omega (arith, ints)) | false ↦ λ e. refl ] refl

pub within_above : (a b t : ℤ) → b ≤ℤ t → is_within a b t ≡ false
within_above a b t l = elim (is_within a b t) as (λ x. is_within a b t ≡ x → x ≡ false) [ true ↦ λ e. absurd (let k = lt_from t b (and_parts (int_le a t) (int_lt t b) e).1 in omega (arith, ints)) | false ↦ λ e. refl ] refl

-- the moment lies in the piece
abbrev pub holds : ℤ → Piece → Bool
holds t p = is_within p.from p.to t

pub covers_once : (a b t : ℤ) (ps : List Piece) → Covers a b ps → length (filter (holds t) ps) ≡ cond (is_within a b t) 1 0
covers_once a b t [] c =
    by_lt_z t a
    (λ l. ap (λ z. cond z 1 0) (sym (within_below a b t l)))
    (λ l. ap (λ z. cond z 1 0) (sym (within_above a b t (omega (arith, ints)))))
covers_once a b t (p ∷ ps) c =
    let f = c.0 in
    let some = c.1 in
    let up = c.2 in
    let ih = covers_once p.to b t ps c.3 in
    let step : (z : Bool) → holds t p ≡ z → length (filter (holds t) (p ∷ ps)) ≡ length (cond z (p ∷ filter (holds t) ps) (filter (holds t) ps)) = λ z e. ap (λ x. length (cond x (p ∷ filter (holds t) ps) (filter (holds t) ps))) e in
    by_lt_z t p.to
    (λ l. by_lt_z t p.from
    (λ m. step false (within_below p.from p.to t m) ∙ ih ∙ ap (λ z. cond z 1 0) (within_below p.to b t l) ∙ ap (λ z. cond z 1 0) (sym (within_below a b t (omega (arith, ints)))))
    (λ m. step true (within_true p.from p.to t m l) ∙ ap suc (ih ∙ ap (λ z. cond z 1 0) (within_below p.to b t l)) ∙ ap (λ z. cond z 1 0) (sym (within_true a b t (omega (arith, ints)) (omega (arith, ints))))))
    (λ l. step false (within_above p.from p.to t l) ∙ ih
    ∙ by_lt_z t b
    (λ m. ap (λ z. cond z 1 0) (within_true p.to b t l m ∙ sym (within_true a b t (omega (arith, ints)) m)))
    (λ m. ap (λ z. cond z 1 0) (within_above p.to b t m ∙ sym (within_above a b t m))))

-- of valid pieces one holds each moment of the range, and none another
pub IsValid-once : (s : Settings) (m : Marks) (q : Query) (ps : List Piece) → IsValid s m q ps → (t : ℤ) → length (filter (holds t) ps) ≡ cond (is_within q.from q.to t) 1 0
IsValid-once s m q ps v t = covers_once q.from q.to t ps v.covers

-- Units of durations: properties of all names by those of each name, and the length of the name at the start of a text.
use Rattle.std.proofs.lemmas.Option.{same_Some}
use Rattle.std.proofs.Common.{◌≡◌, ◌⊎◌, ℕ, ◌<◌, Bool, true, false, [], ◌∷◌, cond, Option, Some, None, inl, inr, refl, sym, subst, arith}
use Rattle.std.specs.Bool.{⊤}
use Rattle.std.proofs.lemmas.Slice.Eq.{bytes_eq-Decides}
use Rattle.std.specs.Str.{bytes_eq}
use Rattle.ts_core.specs.facts.Facts.{Text}
use Rattle.ts_core.specs.declared.facts.time_unit.TimeUnit.{TimeUnit}
use Rattle.ts_core.specs.facts.TimeUnits.{duration_unit_of, duration_names, unit_called, UnitNames, longer_first, unit_begun}

-- ---- of each name of a table

abbrev pub OfEach : (Text → TimeUnit → Type 0) → UnitNames → Type 0
OfEach P [] = ⊤
OfEach P (known ∷ names) = P known.0 known.1 × OfEach P names

of_first : (P : Text → TimeUnit → Type 0) (known : Text × TimeUnit) (names : UnitNames) (name : Text) (unit : TimeUnit) (b : Bool) → (b ≡ true → name ≡ known.0) → P known.0 known.1
    → (unit_called names name ≡ Some unit → P name unit) → cond b (Some known.1) (unit_called names name) ≡ Some unit → P name unit
of_first P known names name unit true same first rest e =
    subst (λ (u : TimeUnit). P name u) (same_Some known.1 unit e) (subst (λ (t : Text). P t known.1) (sym (same refl)) first)
of_first P known names name unit false same first rest e = rest e

pub of_called : (P : Text → TimeUnit → Type 0) (names : UnitNames) (name : Text) (unit : TimeUnit) → OfEach P names → unit_called names name ≡ Some unit → P name unit
of_called P [] name unit all e = absurd (cc)
of_called P (known ∷ names) name unit all e =
    of_first P known names name unit (bytes_eq name known.0) ((bytes_eq-Decides name known.0).0) all.0 (λ h. of_called P names name unit all.1 h) e

-- ---- names of one byte, and of two

-- one byte is ASCII; of two the second is, or they are those of µ
abbrev pub Fits : Text → TimeUnit → Type 0
Fits [] unit = ⊤
Fits (byte ∷ []) unit = byte < 128
Fits (byte ∷ next ∷ []) unit = ((next < 128) × (0 < next)) ⊎ ((byte ≡ 194) × (next ≡ 181))
Fits (byte ∷ next ∷ third ∷ behind) unit = ⊤

name_fits : (name : Text) (unit : TimeUnit) → duration_unit_of name ≡ Some unit → Fits name unit
unfolding duration_unit_of
name_fits name unit e =
    of_called Fits duration_names name unit
    (inl (omega arith, omega arith), (omega arith, (inr (refl, refl), (inl (omega arith, omega arith), (omega arith, (omega arith, (omega arith, (omega arith, (omega arith, tt))))))))) e

-- the bytes that a unit takes which begins with this byte before that one
abbrev pub Begun : ℕ → ℕ → Option (TimeUnit × ℕ) → Type 0
Begun byte next None = ⊤
Begun byte next (Some begun) =
    ((begun.1 ≡ 1) × (byte < 128)) ⊎ (((begun.1 ≡ 2) × (next < 128) × (0 < next)) ⊎ ((begun.1 ≡ 2) × (byte ≡ 194) × (next ≡ 181)))

begun_of : (byte next : ℕ) (two one : Option TimeUnit) → duration_unit_of (byte ∷ next ∷ []) ≡ two → duration_unit_of (byte ∷ []) ≡ one → Begun byte next (longer_first two one)
begun_of byte next (Some unit) one e f =
    elim (name_fits (byte ∷ next ∷ []) unit e) [ inl ascii ↦ inr (inl (refl, ascii.0, ascii.1)) | inr micro ↦ inr (inr (refl, micro.0, micro.1)) ]
begun_of byte next None (Some unit) e f = inl (refl, name_fits (byte ∷ []) unit f)
begun_of byte next None None e f = tt

pub begun_fits : (byte next : ℕ) → Begun byte next (unit_begun byte next)
unfolding unit_begun
begun_fits byte next = begun_of byte next (duration_unit_of (byte ∷ next ∷ [])) (duration_unit_of (byte ∷ [])) refl refl

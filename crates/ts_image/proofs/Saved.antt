-- Lists of a store that are saved.
use Rattle.std.proofs.Common.{◌≡◌, ℕ, zero, suc, ◌<◌, Bool, true, false, List, [], ◌∷◌, length, map, get_or, refl, sym, ap, subst, arith, String}
use Rattle.std.specs.Int.{from_bool}
use Rattle.std.specs.List.{AllByRecursion}
use Rattle.ts_core.specs.io.ReadingAhead.{bit}
use Rattle.ts_core.specs.text.Texts.{owned_pairs}
use Rattle.ts_image.specs.SeriesParts.{tag_of}

-- the pairs of tags, in two words
pub owned_is : {A : Type 0} (tags : List (String A × String A)) → map tag_of tags ≡ owned_pairs tags
owned_is [] = refl
owned_is (t ∷ ts) = ap (λ xs. tag_of t ∷ xs) (owned_is ts)

pub length-owned : {A : Type 0} (tags : List (String A × String A)) → length tags ≡ length (owned_pairs tags)
length-owned [] = refl
length-owned (t ∷ ts) = ap suc (length-owned ts)

-- a property of all members is one of each
pub all_at : {P : Type 0} (Q : P → Type 0) (ps : List P) (i : ℕ) (p : P) → i < length ps → p ≡ get_or ps i p → AllByRecursion Q ps → Q p
all_at Q [] i p lt e h = absurd (omega arith)
all_at Q (x ∷ xs) zero p lt e h = subst Q (sym e) h.0
all_at Q (x ∷ xs) (suc i) p lt e h = all_at Q xs i p (omega arith) e h.1

abbrev pub as_it_is : {P : Type 0} → P → P
as_it_is p = p

pub mapped : {P : Type 0} (ps : List P) → map as_it_is ps ≡ ps
mapped [] = refl
mapped (p ∷ ps) = ap (λ xs. p ∷ xs) (mapped ps)

pub byte_is : (b : Bool) → from_bool b ≡ bit b
byte_is true = refl
byte_is false = refl

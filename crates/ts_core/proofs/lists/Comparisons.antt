-- Comparisons that return a boolean, and their meaning.
use Rattle.ts_core.proofs.lists.MembersLemmas.{Among-from_any, any-from_Among}
use Rattle.std.proofs.Common.{◌≡◌, ℤ, ◌<ℤ◌, ◌≤ℤ◌, int_le, int_lt, arith, refl, sym, ◌∙◌, ◌&&◌, ap, List, [], ◌∷◌, Bool, true, false, subst, is_eq}
use Rattle.std.specs.List.{list_any, list_all, AllByRecursion}
use Rattle.std.proofs.lemmas.Int.{ints}
use Rattle.std.proofs.lemmas.Cmp.{nat_list_cmp_total, tied_itself}
use Rattle.ts_core.specs.lists.Members.{Among}
use Rattle.std.proofs.lemmas.Map.Text.{is_eq-slice_cmp}
use Rattle.std.proofs.lemmas.Bool.{and_parts, and_from}
use Rattle.ts_core.specs.facts.Facts.{Text, same_text}
use Rattle.ts_core.proofs.facts.Ids.{same_text-eq}

pub le_from : (x y : ℤ) → int_le x y ≡ true → x ≤ℤ y
le_from x y h = grind (arith, ints)

pub le_true : (x y : ℤ) → x ≤ℤ y → int_le x y ≡ true
le_true x y h = grind (arith, ints)

pub lt_from : (x y : ℤ) → int_lt x y ≡ true → x <ℤ y
lt_from x y h = grind (arith, ints)

pub lt_true : (x y : ℤ) → x <ℤ y → int_lt x y ≡ true
lt_true x y h = grind (arith, ints)

pub lt_not : (x y : ℤ) → int_lt x y ≡ false → y ≤ℤ x
lt_not x y h = grind (arith, ints)

pub and_true : (a : Bool) → a && true ≡ a
and_true true = refl
and_true false = refl

-- two tests that say the same are the same
pub same_bool : (a b : Bool) → (a ≡ true → b ≡ true) → (b ≡ true → a ≡ true) → a ≡ b
same_bool true b f g = sym (f refl)
same_bool false true f g = g refl
same_bool false false f g = refl

-- ---- texts

pub same_text-refl : (s : Text) → same_text s s ≡ true
same_text-refl s = sym (is_eq-slice_cmp s s) ∙ ap is_eq (tied_itself nat_list_cmp_total s)

pub same_text-from_eq : (s t : Text) → s ≡ t → same_text s t ≡ true
same_text-from_eq s t e = subst (λ z. same_text s z ≡ true) e (same_text-refl s)

pub among_texts : (s : Text) (ts : List Text) → list_any (same_text s) ts ≡ true → Among s ts
among_texts = Among-from_any same_text same_text-eq same_text-refl

pub texts_among : (s : Text) (ts : List Text) → Among s ts → list_any (same_text s) ts ≡ true
texts_among = any-from_Among same_text same_text-eq same_text-refl

pub all_among : (ss ts : List Text) → list_all (λ s. list_any (same_text s) ts) ss ≡ true → AllByRecursion (λ s. Among s ts) ss
all_among [] ts h = tt
all_among (s ∷ ss) ts h = let k = and_parts (list_any (same_text s) ts) _ h in (among_texts s ts k.0, all_among ss ts k.1)

pub among_all : (ss ts : List Text) → AllByRecursion (λ s. Among s ts) ss → list_all (λ s. list_any (same_text s) ts) ss ≡ true
among_all [] ts h = refl
among_all (s ∷ ss) ts h = and_from _ _ (texts_among s ts h.0) (among_all ss ts h.1)

-- Texts that are appended one after another, to a text or through a write buffer.
use Rattle.std.proofs.Common.{◌≡◌, ℕ, zero, suc, add-one, ◌+◌, ◌<◌, List, [], ◌∷◌, ◌++◌, length, take, drop, get_or, slice_index, refl, sym, ap, subst, ◌∙◌, append_assoc, append-nil, arith}
use Rattle.std.specs.Prelude.{flat_map}
use Rattle.std.proofs.lemmas.Grind.{flat_map-append}
use Rattle.ts_core.specs.facts.Facts.{Text}
use Rattle.ts_core.specs.io.Devices.{Output}
use Rattle.ts_core.specs.declared.io.sink.Refused.{Refused}
use Rattle.ts_core.specs.io.OutputBuffering.{IsBuffered}
use Rattle.ts_core.proofs.io.OutputBufferLemmas.{done, refused, puts_join, refused_part, no_put}

-- a byte of a text, whatever stands for a missing one
pub byte_at : (text : Text) (i : ℕ) → i < length text → slice_index text i ≡ get_or text i (slice_index text i)
byte_at [] i lt = absurd (omega arith)
byte_at (b ∷ bs) zero lt = refl
byte_at (b ∷ bs) (suc i) lt = byte_at bs i (omega arith)

-- ---- a list per member of a list

module _ {X A : Type 0} (f : X → List A) where
  pub flat-snoc : (xs : List X) (x : X) → flat_map f (xs ++ x ∷ []) ≡ flat_map f xs ++ f x
  flat-snoc xs x = flat_map-append f xs (x ∷ []) ∙ ap (λ (t : List A). flat_map f xs ++ t) (append-nil (f x))

  one_further : (xs : List X) (i : ℕ) (x : X) → i < length xs → x ≡ get_or xs i x → take (suc i) xs ≡ take i xs ++ x ∷ []
  one_further [] i x lt e = absurd (omega arith)
  one_further (y ∷ ys) zero x lt e = ap (λ (z : X). z ∷ []) (sym e)
  one_further (y ∷ ys) (suc i) x lt e = ap (λ (t : List X). y ∷ t) (one_further ys i x (omega arith) e)

  pub split_at : (xs : List X) (i : ℕ) (x : X) → i < length xs → x ≡ get_or xs i x → xs ≡ take i xs ++ x ∷ drop (suc i) xs
  split_at [] i x lt e = absurd (omega arith)
  split_at (y ∷ ys) zero x lt e = ap (λ (z : X). z ∷ ys) (sym e)
  split_at (y ∷ ys) (suc i) x lt e = ap (λ (t : List X). y ∷ t) (split_at ys i x (omega arith) e)

  pub flat_further : (xs : List X) (i : ℕ) (x : X) → i < length xs → x ≡ get_or xs i x → flat_map f (take (i + 1) xs) ≡ flat_map f (take i xs) ++ f x
  flat_further xs i x lt e = ap (λ (n : ℕ). flat_map f (take n xs)) (add-one i) ∙ ap (flat_map f) (one_further xs i x lt e) ∙ flat-snoc (take i xs) x

  pub appended_more : (xs : List X) (i : ℕ) (x : X) (old mid new : List A) → i < length xs → x ≡ get_or xs i x → mid ≡ old ++ flat_map f (take i xs) → new ≡ mid ++ f x → new ≡ old ++ flat_map f (take (i + 1) xs)
  appended_more xs i x old mid new lt e before more =
      more ∙ ap (λ (t : List A). t ++ f x) before ∙ append_assoc old (flat_map f (take i xs)) (f x) ∙ ap (λ (t : List A). old ++ t) (sym (flat_further xs i x lt e))

-- ---- a text per member of a list, through a write buffer

module _ {X : Type 0} (f : X → Text) (a : Output) (k : Text) where
  pub puts_more : (xs : List X) (i : ℕ) (x : X) (b c : Output) (l m : Text) → i < length xs → x ≡ get_or xs i x → IsBuffered a k done (flat_map f (take i xs)) b l → IsBuffered b l done (f x) c m → IsBuffered a k done (flat_map f (take (i + 1) xs)) c m
  puts_more xs i x b c l m lt e p q =
      subst (λ (t : Text). IsBuffered a k done t c m) (sym (flat_further f xs i x lt e)) (puts_join a b c k l m done (flat_map f (take i xs)) (f x) p q)

  stopped_in : (xs ys : List X) (x : X) (b c : Output) (l m : Text) (e d : Refused) → IsBuffered a k done (flat_map f xs) b l → IsBuffered b l (refused e) (f x) c m → IsBuffered a k (refused d) (flat_map f (xs ++ x ∷ ys)) c m
  stopped_in xs ys x b c l m e d p q =
      subst (λ (t : Text). IsBuffered a k (refused d) t c m) (sym (flat_map-append f xs (x ∷ ys))) (puts_join a b c k l m (refused d) (flat_map f xs) (f x ++ flat_map f ys) p (refused_part b c l m e d (f x) (flat_map f ys) q))

  pub puts_stop : (xs : List X) (i : ℕ) (x : X) (b c : Output) (l m : Text) (e d : Refused) → i < length xs → x ≡ get_or xs i x → IsBuffered a k done (flat_map f (take i xs)) b l → IsBuffered b l (refused e) (f x) c m → IsBuffered a k (refused d) (flat_map f xs) c m
  puts_stop xs i x b c l m e d lt is p q =
      subst (λ (t : List X). IsBuffered a k (refused d) (flat_map f t) c m) (sym (split_at f xs i x lt is)) (stopped_in (take i xs) (drop (suc i) xs) x b c l m e d p q)

  -- some members are written, and the others are left
  pub record Going (all left : List X) (b : Output) (l : Text) : Type 0 where
    pub given : List X
    pub whole : all ≡ given ++ left
    pub put : IsBuffered a k done (flat_map f given) b l

  pub going_starts : (all left : List X) → left ≡ all → Going all left a k
  going_starts all left e = record { given = []; whole = sym e; put = no_put a k }

  pub going_on : (all left rest : List X) (x : X) (b c : Output) (l m : Text) → left ≡ x ∷ rest → Going all left b l → IsBuffered b l done (f x) c m → Going all rest c m
  going_on all left rest x b c l m e g q = record {
    given = g.given ++ x ∷ [];
    whole = g.whole ∙ ap (λ (t : List X). g.given ++ t) e ∙ sym (append_assoc g.given (x ∷ []) rest);
    put = subst (λ (t : Text). IsBuffered a k done t c m) (sym (flat-snoc f g.given x)) (puts_join a b c k l m done (flat_map f g.given) (f x) g.put q);
  }

  pub going_stops : (all left rest : List X) (x : X) (b c : Output) (l m : Text) (y d : Refused) → left ≡ x ∷ rest → Going all left b l → IsBuffered b l (refused y) (f x) c m → IsBuffered a k (refused d) (flat_map f all) c m
  going_stops all left rest x b c l m y d e g q =
      subst (λ (t : List X). IsBuffered a k (refused d) (flat_map f t) c m) (sym (g.whole ∙ ap (λ (t : List X). g.given ++ t) e)) (stopped_in g.given rest x b c l m y d g.put q)

  pub going_ends : (all left : List X) (b : Output) (l : Text) → left ≡ [] → Going all left b l → IsBuffered a k done (flat_map f all) b l
  going_ends all left b l e g =
      subst (λ (t : List X). IsBuffered a k done (flat_map f t) b l) (sym (g.whole ∙ ap (λ (t : List X). g.given ++ t) e ∙ append-nil g.given)) g.put

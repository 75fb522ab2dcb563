-- Parts that are written one after another: they are written as the whole.
use Rattle.std.proofs.Common.{◌≡◌, ℕ, ◌+◌, ◌^◌, ◌<◌, ◌≤◌, List, [], ◌∷◌, ◌++◌, length, map, take, drop, get_or, refl, sym, ap, subst, ◌∙◌, append_assoc, append-nil, arith, Result, Ok, Err}
use Rattle.std.specs.Prelude.{OnOk}
use Rattle.std.specs.Int.{Width, w64, to_be_bytes}
use Rattle.std.specs.List.{concat}
use Rattle.std.specs.Str.{IsUtf8}
use Rattle.std.proofs.lemmas.List.{take_all, drop_more, map_more, map-append, take-append-drop}
use Rattle.std.proofs.lemmas.List.Folds.{concat-append}
use Rattle.std.proofs.lemmas.Result.{on_ok_weaker}
use Rattle.ts_core.specs.facts.Facts.{Text}
use Rattle.ts_core.specs.io.Devices.{Output}
use Rattle.ts_core.specs.declared.io.sink.Refused.{Refused}
use Rattle.ts_core.specs.io.OutputBuffering.{IsBuffered}
use Rattle.ts_core.proofs.io.OutputBufferLemmas.{done, refused, puts_join, refused_part, no_put}
use Rattle.ts_image.specs.Formats.{Format, spelling, number, text, and, also, iso, along, times, list_of}
use Rattle.ts_image.specs.FieldWriting.{PutsField, PutsAll}

abbrev pub Answer : Type 0
Answer = Result (Unit {0}) Refused

on_ok : {P : Type 0} (r : Answer) → P → OnOk r P
on_ok (Ok x) p = p
on_ok (Err e) p = tt

-- ---- a field, a pair, and a converted value

pub put_field : {X : Type 0} (f : Format X) (x : X) (word written : Text) (a c : Output) (k m : Text) (r : Answer) → f.fields x ≡ word ∷ [] → f.fits x → written ≡ word → IsBuffered a k r written c m → PutsField f x a k r c m
put_field f x word written a c k m r e fits w p = record {
  sent = subst (λ (t : Text). IsBuffered a k r t c m) (w ∙ sym (ap concat e ∙ append-nil word)) p;
  fits = on_ok r fits;
}

-- the number of bytes, and the bytes
pub text_puts : (t head bytes : Text) (a b c : Output) (k l m : Text) (r : Answer) → IsUtf8 t → length t < 2 ^ 64 → head ≡ to_be_bytes w64 (length t) → bytes ≡ t → IsBuffered a k done head b l → IsBuffered b l r bytes c m → PutsField text t a k r c m
text_puts t head bytes a b c k l m r u lt e f p q =
    put_field text t (to_be_bytes w64 (length t) ++ t) (head ++ bytes) a c k m r refl (u, lt) (ap (λ (x : Text). x ++ bytes) e ∙ ap (λ (x : Text). to_be_bytes w64 (length t) ++ x) f) (puts_join a b c k l m r head bytes p q)

pub text_stops : (t head : Text) (a c : Output) (k m : Text) (e d : Refused) → head ≡ to_be_bytes w64 (length t) → IsBuffered a k (refused e) head c m → PutsField text t a k (refused d) c m
text_stops t head a c k m e d h p = record {
  sent = subst (λ (x : Text). IsBuffered a k (refused d) x c m) (ap (λ (x : Text). x ++ t) h ∙ sym (append-nil (to_be_bytes w64 (length t) ++ t))) (refused_part a c k m e d head t p);
  fits = tt;
}

-- the same of an equal value
pub puts_at : {X : Type 0} {f : Format X} {x y : X} {a c : Output} {k m : Text} {r : Answer} → x ≡ y → PutsField f x a k r c m → PutsField f y a k r c m
puts_at {X} {f} {x} {y} {a} {c} {k} {m} {r} e p = subst (λ (z : X). PutsField f z a k r c m) e p

pub and_puts : {A B : Type 0} {f : Format A} (g : A → Format B) {x : A} {y : B} {a b c : Output} {k l m : Text} {r : Answer} → PutsField f x a k done b l → PutsField (g x) y b l r c m → PutsField (and f g) (x, y) a k r c m
and_puts {A} {B} {f} g {x} {y} {a} {b} {c} {k} {l} {m} {r} p q = record {
  sent = subst (λ (t : Text). IsBuffered a k r t c m) (sym (concat-append (f.fields x) ((g x).fields y))) (puts_join a b c k l m r (spelling f x) (spelling (g x) y) p.sent q.sent);
  fits = on_ok_weaker r (λ h. (p.fits, h)) q.fits;
}

pub and_stops : {A B : Type 0} {f : Format A} (g : A → Format B) {x : A} (y : B) {a c : Output} {k m : Text} {e : Refused} (d : Refused) → PutsField f x a k (refused e) c m → PutsField (and f g) (x, y) a k (refused d) c m
and_stops {A} {B} {f} g {x} y {a} {c} {k} {m} {e} d p = record {
  sent = subst (λ (t : Text). IsBuffered a k (refused d) t c m) (sym (concat-append (f.fields x) ((g x).fields y))) (refused_part a c k m e d (spelling f x) (spelling (g x) y) p.sent);
  fits = tt;
}

pub also_puts : {A B : Type 0} {f : Format A} {g : Format B} {x : A} {y : B} {a b c : Output} {k l m : Text} {r : Answer} → PutsField f x a k done b l → PutsField g y b l r c m → PutsField (also f g) (x, y) a k r c m
also_puts {A} {B} {f} {g} p q = and_puts {f = f} (λ (x : A). g) p q

pub also_stops : {A B : Type 0} {f : Format A} (g : Format B) {x : A} (y : B) {a c : Output} {k m : Text} {e : Refused} (d : Refused) → PutsField f x a k (refused e) c m → PutsField (also f g) (x, y) a k (refused d) c m
also_stops {A} {B} {f} g y d p = and_stops {f = f} (λ (x : A). g) y d p

pub iso_puts : {A X : Type 0} {f : Format A} (to : A → X) (from : X → A) (x : X) {a c : Output} {k m : Text} {r : Answer} → PutsField f (from x) a k r c m → PutsField (iso f to from) x a k r c m
iso_puts to from x p = record { sent = p.sent; fits = p.fits }

-- which fault it is doesn't matter
pub stops : {X : Type 0} {f : Format X} {x : X} {a c : Output} {k m : Text} {e : Refused} (d : Refused) → PutsField f x a k (refused e) c m → PutsField f x a k (refused d) c m
stops d p = record { sent = record { ok = tt; err = p.sent.err; lost = p.sent.lost; failures = p.sent.failures }; fits = tt }

-- ---- one after another

module _ {X : Type 0} (f : Format X) where
  abbrev pub spelled : List X → Text
  spelled xs = spelling (times (length xs) f) xs

  abbrev pub Fit : List X → Type 0
  Fit xs = (times (length xs) f).fits xs

  spelled-append : (xs ys : List X) → spelled (xs ++ ys) ≡ spelled xs ++ spelled ys
  spelled-append [] ys = refl
  spelled-append (x ∷ xs) ys =
      concat-append (f.fields x) _ ∙ ap (λ (t : Text). spelling f x ++ t) (spelled-append xs ys) ∙ sym (append_assoc (spelling f x) (spelled xs) (spelled ys))
      ∙ ap (λ (t : Text). t ++ spelled ys) (sym (concat-append (f.fields x) _))

  spelled-one : (x : X) → spelled (x ∷ []) ≡ spelling f x
  spelled-one x = concat-append (f.fields x) [] ∙ append-nil (spelling f x)

  fit-more : (xs : List X) (x : X) → Fit xs → f.fits x → Fit (xs ++ x ∷ [])
  fit-more [] x h q = (q, tt)
  fit-more (y ∷ ys) x h q = (h.0, fit-more ys x h.1 q)

  module _ (a : Output) (k : Text) where
    pub none_put : PutsAll f [] a k done a k
    none_put = record { sent = no_put a k; fits = tt }

    pub one_more : (xs : List X) (x : X) (b c : Output) (l m : Text) → PutsAll f xs a k done b l → PutsField f x b l done c m → PutsAll f (xs ++ x ∷ []) a k done c m
    one_more xs x b c l m p q = record {
      sent = subst (λ (t : Text). IsBuffered a k done t c m) (ap (λ (t : Text). spelled xs ++ t) (sym (spelled-one x)) ∙ sym (spelled-append xs (x ∷ []))) (puts_join a b c k l m done (spelled xs) (spelling f x) p.sent q.sent);
      fits = fit-more xs x p.fits q.fits;
    }

    pub one_refused : (xs ys : List X) (x : X) (b c : Output) (l m : Text) (e d : Refused) → PutsAll f xs a k done b l → PutsField f x b l (refused e) c m → PutsAll f (xs ++ x ∷ ys) a k (refused d) c m
    one_refused xs ys x b c l m e d p q = record {
      sent = subst (λ (t : Text). IsBuffered a k (refused d) t c m) (ap (λ (t : Text). spelled xs ++ t) (ap (λ (t : Text). t ++ spelled ys) (sym (spelled-one x)) ∙ sym (spelled-append (x ∷ []) ys)) ∙ sym (spelled-append xs (x ∷ ys))) (puts_join a b c k l m (refused d) (spelled xs) (spelling f x ++ spelled ys) p.sent (refused_part b c l m e d (spelling f x) (spelled ys) q.sent));
      fits = tt;
    }

-- a list: its length, and its members
pub list_puts : {X : Type 0} (w : Width) (f : Format X) {xs : List X} {a b c : Output} {k l m : Text} {r : Answer} → PutsField (number w) (length xs) a k done b l → PutsAll f xs b l r c m → PutsField (list_of w f) xs a k r c m
list_puts w f {xs} p q = iso_puts _ _ xs (and_puts {f = number w} (λ (n : ℕ). times n f) p q)

pub list_stops : {X : Type 0} (w : Width) (f : Format X) (xs : List X) {a c : Output} {k m : Text} {e : Refused} (d : Refused) → PutsField (number w) (length xs) a k (refused e) c m → PutsField (list_of w f) xs a k (refused d) c m
list_stops w f xs d p = iso_puts _ _ xs (and_stops {f = number w} (λ (n : ℕ). times n f) xs d p)

-- ---- a value for each member of a list, all in the same format

module _ {X Y : Type 0} (f : Format X) where
  along_same : (ys : List Y) (xs : List X) → length xs ≡ length ys → ((along (λ (y : Y). f) ys).fields xs ≡ (times (length xs) f).fields xs) × (Fit f xs → (along (λ (y : Y). f) ys).fits xs)
  along_same [] [] e = (refl, λ h. h)
  along_same [] (x ∷ xs) e = absurd (omega (arith, e))
  along_same (y ∷ ys) [] e = absurd (omega (arith, e))
  along_same (y ∷ ys) (x ∷ xs) e = let rest = along_same ys xs (omega (arith, e)) in (ap (λ (t : List Text). f.fields x ++ t) rest.0, λ h. (h.0, rest.1 h.1))

  pub along_puts : (ys : List Y) (xs : List X) (a c : Output) (k m : Text) (r : Answer) → length xs ≡ length ys → PutsAll f xs a k r c m → PutsField (along (λ (y : Y). f) ys) xs a k r c m
  along_puts ys xs a c k m r e p = record {
    sent = subst (λ (t : Text). IsBuffered a k r t c m) (ap concat (sym (along_same ys xs e).0)) p.sent;
    fits = on_ok_weaker r (along_same ys xs e).1 p.fits;
  }

-- ---- loops over a list

module _ {P X : Type 0} (f : Format X) (v : P → X) (a : Output) (k : Text) where
  pub loop_more : (ps : List P) (i : ℕ) (p : P) (b c : Output) (l m : Text) → i < length ps → p ≡ get_or ps i p → PutsAll f (map v (take i ps)) a k done b l → PutsField f (v p) b l done c m → PutsAll f (map v (take (i + 1) ps)) a k done c m
  loop_more ps i p b c l m lt e s q = subst (λ (xs : List X). PutsAll f xs a k done c m) (ap (λ (x : P). map v (take i ps) ++ v x ∷ []) e ∙ sym (map_more v ps i p lt)) (one_more f a k (map v (take i ps)) (v p) b c l m s q)

  pub loop_stops : (ps : List P) (i : ℕ) (p : P) (b c : Output) (l m : Text) (x d : Refused) → i < length ps → p ≡ get_or ps i p → PutsAll f (map v (take i ps)) a k done b l → PutsField f (v p) b l (refused x) c m → PutsAll f (map v ps) a k (refused d) c m
  loop_stops ps i p b c l m x d lt e s q =
      let rest : drop i ps ≡ p ∷ drop (i + 1) ps = drop_more ps i p lt ∙ ap (λ (y : P). y ∷ drop (i + 1) ps) (sym e) in
      let whole : map v ps ≡ map v (take i ps) ++ v p ∷ map v (drop (i + 1) ps) = ap (map v) (sym (take-append-drop i ps)) ∙ map-append v (take i ps) (drop i ps) ∙ ap (λ (qs : List P). map v (take i ps) ++ map v qs) rest in
      subst (λ (xs : List X). PutsAll f xs a k (refused d) c m) (sym whole) (one_refused f a k (map v (take i ps)) (map v (drop (i + 1) ps)) (v p) b c l m x d s q)

  pub loop_ends : (ps : List P) (i : ℕ) (b : Output) (l : Text) → length ps ≤ i → PutsAll f (map v (take i ps)) a k done b l → PutsAll f (map v ps) a k done b l
  loop_ends ps i b l le s = subst (λ (xs : List P). PutsAll f (map v xs) a k done b l) (take_all i ps le) s

-- ---- loops over an iterator

module _ {P X : Type 0} (f : Format X) (v : P → X) (a : Output) (k : Text) where
  -- some of all members are written, and the others are left
  pub record Going (all left : List P) (b : Output) (l : Text) : Type 0 where
    pub given : List P
    pub whole : all ≡ given ++ left
    pub put : PutsAll f (map v given) a k done b l

  pub going_starts : (all left : List P) → left ≡ all → Going all left a k
  going_starts all left e = record { given = []; whole = sym e; put = none_put f a k }

  pub going_on : (all left rest : List P) (p : P) (b c : Output) (l m : Text) → left ≡ p ∷ rest → Going all left b l → PutsField f (v p) b l done c m → Going all rest c m
  going_on all left rest p b c l m e g q = record {
    given = g.given ++ p ∷ [];
    whole = g.whole ∙ ap (λ (t : List P). g.given ++ t) e ∙ sym (append_assoc g.given (p ∷ []) rest);
    put = subst (λ (xs : List X). PutsAll f xs a k done c m) (sym (map-append v g.given (p ∷ []))) (one_more f a k (map v g.given) (v p) b c l m g.put q);
  }

  pub going_stops : (all left rest : List P) (p : P) (b c : Output) (l m : Text) (x d : Refused) → left ≡ p ∷ rest → Going all left b l → PutsField f (v p) b l (refused x) c m → PutsAll f (map v all) a k (refused d) c m
  going_stops all left rest p b c l m x d e g q = subst (λ (xs : List X). PutsAll f xs a k (refused d) c m) (sym (ap (map v) (g.whole ∙ ap (λ (t : List P). g.given ++ t) e) ∙ map-append v g.given (p ∷ rest))) (one_refused f a k (map v g.given) (map v rest) (v p) b c l m x d g.put q)

  pub going_ends : (all left : List P) (b : Output) (l : Text) → left ≡ [] → Going all left b l → PutsAll f (map v all) a k done b l
  going_ends all left b l e g = subst (λ (xs : List P). PutsAll f (map v xs) a k done b l) (sym (g.whole ∙ ap (λ (t : List P). g.given ++ t) e ∙ append-nil g.given)) g.put

-- ---- a value for each member of a list, in a format of its own

module _ {X Y : Type 0} (f : Y → Format X) where
  pub along_none : (a : Output) (k : Text) → PutsField (along f []) [] a k done a k
  along_none a k = record { sent = no_put a k; fits = tt }

  pub along_more : (y : Y) (ys : List Y) {x : X} {xs : List X} {a b c : Output} {k l m : Text} {r : Answer} → PutsField (f y) x a k done b l → PutsField (along f ys) xs b l r c m → PutsField (along f (y ∷ ys)) (x ∷ xs) a k r c m
  along_more y ys {x} {xs} {a} {b} {c} {k} {l} {m} {r} p q = let s = also_puts p q in record { sent = s.sent; fits = s.fits }

  pub along_stops : (y : Y) (ys : List Y) {x : X} (xs : List X) {a c : Output} {k m : Text} {e : Refused} (d : Refused) → PutsField (f y) x a k (refused e) c m → PutsField (along f (y ∷ ys)) (x ∷ xs) a k (refused d) c m
  along_stops y ys {x} xs d p = let s = also_stops (along f ys) xs d p in record { sent = s.sent; fits = tt }

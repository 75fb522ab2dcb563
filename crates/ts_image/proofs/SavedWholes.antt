-- Saving an image, with success or without.
use Rattle.std.proofs.Common.{◌≡◌, ◌<◌, ℕ, zero, suc, List, [], ◌∷◌, ◌++◌, length, map, refl, subst, append-nil, arith, Result, Ok, Err}
use Rattle.std.proofs.lemmas.List.{length-map}
use Rattle.std.specs.List.{AllByRecursion}
use Rattle.std.specs.Io.KnownBytes.{Appends}
use Rattle.ts_core.specs.lists.Numbered.{IsAt}
use Rattle.ts_core.specs.facts.Facts.{Text}
use Rattle.ts_core.specs.io.Devices.{Output, AppendsFront, IsPut}
use Rattle.ts_core.specs.io.OutputBuffering.{IsBuffered}
use Rattle.ts_core.specs.store.StoreStates.{column_of}
use Rattle.ts_core.specs.store.StoreData.{StoreData}
use Rattle.ts_core.specs.declared.io.sink.Refused.{Refused}
use Rattle.ts_core.proofs.io.OutputBufferLemmas.{done, refused, puts_join, refused_part, all_written}
use Rattle.ts_image.specs.declared.save_fault.SaveFault.{SaveFault}
use Rattle.ts_image.specs.declared.save_fault.SaveFault.TheVariants.{Device, OutOfMemory}
use Rattle.ts_image.specs.declared.version.Version.TheVariants.{V2}
use Rattle.ts_image.specs.Images.{image, image_text}
use Rattle.ts_store.specs.image.SavedContent.{SavedColumn, SavedSeries, SavesColumns}
use Rattle.ts_image.specs.Saving.{store_image, HasItsColumns, IsOrder, IsSaved}
use Rattle.ts_image.proofs.Putting.{Answer}
use Rattle.ts_image.proofs.Orders.{among_all}

-- ---- through the write buffer

flushed_of : (a e : Output) (n bytes : Text) (r : Answer) → n ≡ [] → IsBuffered a [] r (bytes ++ []) e n → IsPut a r bytes e
flushed_of a e n bytes (Ok x) none p = record { ok = subst (λ (t : Text). Appends a.contents e.contents t) (append-nil bytes) (all_written a.contents e.contents (bytes ++ []) n none p.ok); err = tt; failures = p.failures }
flushed_of a e n bytes (Err x) none p = record { ok = tt; err = subst (λ (t : Text). AppendsFront a.contents e.contents t) (append-nil bytes) p.err; failures = p.failures }

refused_of : (a c : Output) (m : Text) {e : Refused} (d : Refused) (bytes : Text) → IsBuffered a [] (refused e) bytes c m → IsPut a (refused d) bytes c
refused_of a c m d bytes p = record { ok = tt; err = p.err; failures = p.failures }

-- nothing stays in the buffer
pub flushed : (a b c e : Output) (k l m n : Text) (head body : Text) (r : Answer) → k ≡ [] → IsBuffered a k done head b l → IsBuffered b l done body c m → IsBuffered c m r [] e n → n ≡ [] → IsPut a r (head ++ body) e
flushed a b c e k l m n head body r empty p q s none =
    flushed_of a e n (head ++ body) r none (subst (λ (t : Text). IsBuffered a t r ((head ++ body) ++ []) e n) empty (puts_join a c e k m n r (head ++ body) [] (puts_join a b c k l m done head body p q) s))

pub head_refused : (a c : Output) (k m : Text) (e d : Refused) (head body : Text) → k ≡ [] → IsBuffered a k (refused e) head c m → IsPut a (refused d) (head ++ body) c
head_refused a c k m e d head body empty p = refused_of a c m d (head ++ body) (subst (λ (t : Text). IsBuffered a t (refused d) (head ++ body) c m) empty (refused_part a c k m e d head body p))

pub body_refused : (a b c : Output) (k l m : Text) (e d : Refused) (head body : Text) → k ≡ [] → IsBuffered a k done head b l → IsBuffered b l (refused e) body c m → IsPut a (refused d) (head ++ body) c
body_refused a b c k l m e d head body empty p q = refused_of a c m d (head ++ body) (subst (λ (t : Text). IsBuffered a t (refused e) (head ++ body) c m) empty (puts_join a b c k l m (refused e) head body p q))

-- ---- the whole

module _ {T : Type 0} (k : StoreData) (a : Output) where
  pub without_memory : (r : Result T SaveFault) → r ≡ Err OutOfMemory → IsSaved k a r a
  without_memory r e = rw e record { ok = tt; device = λ d. absurd cc; memory = λ d. refl; failures = omega arith }

  pub is_cut : (r : Result T SaveFault) (x : Refused) (b : Output) (order : List SavedSeries) → r ≡ Err Device → IsOrder k order → IsPut a (refused x) (image_text V2 (store_image k order)) b → IsSaved k a r b
  is_cut r x b order e o p = rw e record { ok = tt; device = λ d. (order, o, p.err); memory = λ d. absurd cc; failures = p.failures }

  pub is_saved : (x : T) (b : Output) (order : List SavedSeries) → IsOrder k order → (image V2).fits (store_image k order) → IsPut a done (image_text V2 (store_image k order)) b → IsSaved k a (Ok x) b
  is_saved x b order o f p = record { ok = (order, o, f, p.ok); device = λ d. absurd cc; memory = λ d. absurd cc; failures = p.failures }

-- ---- columns of saved series are there

is_in : {X : Type 0} (xs : List X) (n : ℕ) (x : X) → IsAt xs n x → n < length xs
is_in [] n x e = absurd cc
is_in (y ∷ ys) zero x e = omega arith
is_in (y ∷ ys) (suc n) x e = let lt = is_in ys n x e in omega (arith, lt)

all_into : {X : Type 0} (P Q : X → Type 0) (xs : List X) → ((x : X) → P x → Q x) → AllByRecursion P xs → AllByRecursion Q xs
all_into P Q [] f h = tt
all_into P Q (x ∷ xs) f h = (f x h.0, all_into P Q xs f h.1)

pub columns_there : (k : StoreData) (order : List SavedSeries) → IsOrder k order → AllByRecursion (HasItsColumns k) order
columns_there k order o =
    all_into (SavesColumns (map column_of k.columns)) (HasItsColumns k) order
    (λ s h. among_all (λ (x : SavedColumn). x.number < length k.columns) s.columns (λ x a. subst (λ (n : ℕ). x.number < n) (length-map k.columns column_of) (is_in (map column_of k.columns) x.number _ ((h.each x).0 a)))) o.columns

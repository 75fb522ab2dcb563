-- Rollup series after one more, which leaves the cells as they are; one more text, owned or hashed.
use Rattle.std.proofs.Common.{◌≡◌, ℕ, ℤ, ◌<◌, ◌≤◌, ◌+◌, List, [], ◌∷◌, ◌++◌, length, length-append, get_or, take, map, String, string_bytes, Bor, refl, sym, ◌∙◌, ap, ap₂, subst, Option, Some, None, inl, inr, arith}
use Rattle.std.specs.List.{AllByRecursion}
use Rattle.ts_core.specs.lists.Members.{Among}
use Rattle.ts_core.proofs.lists.NumberedLemmas.{once_more}
use Rattle.std.proofs.lemmas.List.{take_more}
use Rattle.ts_core.specs.facts.Facts.{Text}
use Rattle.ts_core.specs.lists.Numbered.{Gains}
use Rattle.ts_core.proofs.lists.ListSteps.{map-push}
use Rattle.std.specs.declared.hash.DefaultHasher.{DefaultHasher}
use Rattle.ts_core.specs.text.Hashing.{with_text}
use Rattle.ts_cells.specs.RollupSeriesTable.{hash_of_texts}
use Rattle.ts_cells.specs.Grids.{borrowed_texts, RollupSeries, RowOf, row_entries, entries_of, IsGrid}

module _ {P : Type 0} where
  row_wider : (i : ℤ) (ls : List RollupSeries) (l : RollupSeries) (cs : List (Option P)) → length cs ≤ length ls → row_entries i (ls ++ l ∷ []) cs ≡ row_entries i ls cs
  row_wider i [] l [] h = refl
  row_wider i [] l (c ∷ cs) h = absurd (omega arith)
  row_wider i (m ∷ ls) l [] h = refl
  row_wider i (m ∷ ls) l (None ∷ cs) h = row_wider i ls l cs (omega arith)
  row_wider i (m ∷ ls) l (Some p ∷ cs) h = ap (λ es. (record { index = i; field = m.field; group = m.group }, p) ∷ es) (row_wider i ls l cs (omega arith))

  pub entries_wider : (ls : List RollupSeries) (l : RollupSeries) (rows : List (RowOf P)) → AllByRecursion (λ (r : RowOf P). length r.1 ≤ length ls) rows → entries_of (ls ++ l ∷ []) rows ≡ entries_of ls rows
  entries_wider ls l [] a = refl
  entries_wider ls l (r ∷ rs) a = ap₂ (λ xs ys. xs ++ ys) (row_wider r.0 ls l r.1 a.0) (entries_wider ls l rs a.1)

  narrower : (n m : ℕ) (rows : List (RowOf P)) → n ≤ m → AllByRecursion (λ (r : RowOf P). length r.1 ≤ n) rows → AllByRecursion (λ (r : RowOf P). length r.1 ≤ m) rows
  narrower n m [] h a = tt
  narrower n m (r ∷ rs) h a = ((let x = a.0 in omega arith), narrower n m rs h a.1)

  pub grid_wider : (ls : List RollupSeries) (l : RollupSeries) (rows : List (RowOf P)) → IsGrid ls rows → (Among l ls → ⊥) → IsGrid (ls ++ l ∷ []) rows
  grid_wider ls l rows g n = record {
    once = once_more ls l g.once n;
    rising = g.rising;
    narrow = narrower (length ls) (length (ls ++ l ∷ [])) rows (let e = length-append ls (l ∷ []) in omega arith) g.narrow;
  }

-- a rollup series that is there, or one more
pub gained_grid : {P : Type 0} (ls after : List RollupSeries) (l : RollupSeries) (rows : List (RowOf P)) → IsGrid ls rows → Gains ls after l → IsGrid after rows
gained_grid ls after l rows g (inl p) = subst (λ xs. IsGrid xs rows) (sym p.1) g
gained_grid ls after l rows g (inr p) = subst (λ xs. IsGrid xs rows) (sym p.1) (grid_wider ls l rows g p.0)

pub gained_entries : {P : Type 0} (ls after : List RollupSeries) (l : RollupSeries) (rows : List (RowOf P)) → IsGrid ls rows → Gains ls after l → entries_of after rows ≡ entries_of ls rows
gained_entries ls after l rows g (inl p) = ap (λ xs. entries_of xs rows) p.1
gained_entries ls after l rows g (inr p) = ap (λ xs. entries_of xs rows) p.1 ∙ entries_wider ls l rows g.narrow

-- one more text is owned
pub texts_more : {A : Type 0} (xs : List (String A)) (x : String A) (ts : List (Bor Text)) (i : ℕ) (d : Bor Text) → i < length ts → string_bytes x ≡ (get_or ts i d).now
    → map string_bytes xs ≡ borrowed_texts (take i ts) → map string_bytes (xs ++ x ∷ []) ≡ borrowed_texts (take (i + 1) ts)
texts_more xs x ts i d l e ih =
    map-push string_bytes xs x ∙ ap (λ zs. zs ++ string_bytes x ∷ []) ih ∙ ap (λ k. borrowed_texts (take i ts) ++ k ∷ []) e ∙ sym (map-push (λ (t : Bor Text). t.now) (take i ts) (get_or ts i d)) ∙ ap borrowed_texts (sym (take_more ts i d l))

-- one more text is hashed
hashed_push : (h : DefaultHasher) (xs : List (Bor Text)) (t : Bor Text) → hash_of_texts h (borrowed_texts (xs ++ t ∷ [])) ≡ with_text (hash_of_texts h (borrowed_texts xs)) t.now
hashed_push h [] t = refl
hashed_push h (x ∷ xs) t = hashed_push (with_text h x.now) xs t

pub texts_hashed_more : (h : DefaultHasher) (ts : List (Bor Text)) (i : ℕ) (d : Bor Text) → i < length ts → hash_of_texts h (borrowed_texts (take (i + 1) ts)) ≡ with_text (hash_of_texts h (borrowed_texts (take i ts))) (get_or ts i d).now
texts_hashed_more h ts i d l = ap (λ xs. hash_of_texts h (borrowed_texts xs)) (take_more ts i d l) ∙ hashed_push h (take i ts) (get_or ts i d)

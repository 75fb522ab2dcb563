-- Hash of tags, with one more at the end.
use Rattle.std.proofs.Common.{◌≡◌, ℕ, ◌<◌, ◌+◌, List, [], ◌∷◌, ◌++◌, length, get_or, take, refl, ◌∙◌, ap, Bor}
use Rattle.std.proofs.lemmas.List.{take_more}
use Rattle.std.specs.declared.hash.DefaultHasher.{DefaultHasher}
use Rattle.ts_core.specs.facts.Facts.{Text}
use Rattle.ts_core.specs.text.Texts.{borrowed_pairs}
use Rattle.ts_core.specs.text.Hashing.{with_text}
use Rattle.ts_raw.specs.Hashes.{hash_of_tags}

lent_hash_push : (h : DefaultHasher) (xs : List (Bor Text × Bor Text)) (t : Bor Text × Bor Text) → hash_of_tags h (borrowed_pairs (xs ++ t ∷ [])) ≡ with_text (with_text (hash_of_tags h (borrowed_pairs xs)) t.0.now) t.1.now
lent_hash_push h [] t = refl
lent_hash_push h (x ∷ xs) t = lent_hash_push (with_text (with_text h x.0.now) x.1.now) xs t

pub tags_hashed_more : (h : DefaultHasher) (ts : List (Bor Text × Bor Text)) (i : ℕ) (d : Bor Text × Bor Text) → i < length ts
    → hash_of_tags h (borrowed_pairs (take (i + 1) ts)) ≡ with_text (with_text (hash_of_tags h (borrowed_pairs (take i ts))) (get_or ts i d).0.now) (get_or ts i d).1.now
tags_hashed_more h ts i d l = ap (λ xs. hash_of_tags h (borrowed_pairs xs)) (take_more ts i d l) ∙ lent_hash_push h (take i ts) (get_or ts i d)

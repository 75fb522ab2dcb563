-- Bytes that move up in chunks.
use Rattle.std.proofs.Common.{◌≡◌, ℕ, suc, ◌+◌, ◌-◌, ◌<◌, ◌≤◌, List, [], ◌∷◌, ◌++◌, append-nil, length, take, drop, length-append, length-drop, refl, sym, ◌∙◌, ap, arith}
use Rattle.std.proofs.lemmas.List.{length-take-le, take-append-drop, take-take, take_all, drop_all, take-append-le, drop-append-le, drop-drop, drop_at, drop-take}
use Rattle.ts_block.specs.Moving.{moved_up}

-- the front of a sublist
front_of : (xs : List ℕ) (n j m : ℕ) → j + n ≤ m → take n (drop j (take m xs)) ≡ take n (drop j xs)
front_of xs n j m h =
    let e : j + (m - j) ≡ m = omega arith in
    ap (λ k. take n (drop j (take k xs))) (sym e) ∙ ap (take n) (drop-take j (m - j) xs) ∙ take-take n (m - j) (drop j xs) (omega arith)

-- the rest of a list that was joined
rest_of : (xs ys : List ℕ) (n k : ℕ) → n ≡ length xs + k → drop n (xs ++ ys) ≡ drop k ys
rest_of xs ys n k h = ap (λ m. drop m (xs ++ ys)) h ∙ sym (drop-drop k (length xs) (xs ++ ys)) ∙ ap (drop k) (drop_at xs ys (length xs) refl)

-- the front of a list that was joined
start_of : (xs ys : List ℕ) (n k : ℕ) → n ≡ length xs + k → take n (xs ++ ys) ≡ xs ++ take k ys
start_of [] ys n k h = ap (λ m. take m ys) (let e : n ≡ k = omega arith in e)
start_of (x ∷ xs) ys n k h =
    let e : n ≡ suc (length xs + k) = omega arith in
    ap (λ m. take m (x ∷ (xs ++ ys))) e ∙ ap (λ (zs : List ℕ). x ∷ zs) (start_of xs ys (length xs + k) k refl)

module _ (old : List ℕ) (end : ℕ) (within : end ≤ length old) where
  abbrev by : ℕ
  by = length old - end

  abbrev text : List ℕ
  text = take end old

  pub none_moved : old ≡ moved_up old end end
  none_moved =
      let e : end + by ≡ length old = omega arith in
      sym (take_all (end + by) old (omega arith)) ∙ sym (append-none (take (end + by) old) (drop end text) (drop_all end text (let l = length-take-le end old within in omega arith)))
    where
      append-none : (xs ys : List ℕ) → ys ≡ [] → xs ++ ys ≡ xs
      append-none xs ys e = ap (λ (zs : List ℕ). xs ++ zs) e ∙ append-nil xs

  -- the bytes from `from` on are moved
  module _ (from : ℕ) (before : from ≤ end) where
    low : List ℕ
    low = take (from + by) old

    low_size : length (take (from + by) old) ≡ from + by
    low_size = length-take-le (from + by) old (omega arith)

    -- a chunk below them is still there
    pub chunk_is : (j : ℕ) → j + 64 ≤ from → take 64 (drop j (moved_up old end from)) ≡ take 64 (drop j text)
    chunk_is j h =
        ap (take 64) (drop-append-le j (take (from + by) old) (drop from text) (let l = low_size in omega arith))
        ∙ take-append-le 64 (drop j (take (from + by) old)) (drop from text) (let l = low_size in let m = length-drop j (take (from + by) old) in omega arith)
        ∙ front_of old 64 j (from + by) (omega arith)
        ∙ sym (front_of old 64 j end (omega arith))

    -- the bytes below and above
    pub below_is : (j : ℕ) → j ≤ from + by → take j (moved_up old end from) ≡ take j old
    below_is j h = take-append-le j (take (from + by) old) (drop from text) (let l = low_size in omega arith) ∙ take-take j (from + by) old h

    pub above_is : (k j : ℕ) → from ≤ k → j ≡ k + by → drop j (moved_up old end from) ≡ drop k text
    above_is k j h e =
        rest_of (take (from + by) old) (drop from text) j (k - from) (let l = low_size in omega arith)
        ∙ drop-drop (k - from) from text
        ∙ ap (λ n. drop n text) (let s : from + (k - from) ≡ k = omega arith in s)

  -- a chunk and the rest
  pub chunk_joins : (j : ℕ) → take 64 (drop j text) ++ drop (j + 64) text ≡ drop j text
  chunk_joins j = ap (λ (xs : List ℕ). take 64 (drop j text) ++ xs) (sym (drop-drop 64 j text)) ∙ take-append-drop 64 (drop j text)

  -- one more chunk moves
  pub one_more : (bytes : List ℕ) (from j : ℕ) → from ≤ end → j + 64 ≡ from → bytes ≡ moved_up old end from → (chunk : List ℕ) → chunk ≡ take 64 (drop j bytes)
      → take (j + by) bytes ++ (chunk ++ drop (j + by + 64) bytes) ≡ moved_up old end j
  one_more bytes from j b e is chunk c =
      let a : take (j + by) bytes ≡ take (j + by) old = ap (take (j + by)) is ∙ below_is from b (j + by) (omega arith) in
      let x : chunk ≡ take 64 (drop j text) = c ∙ ap (λ (xs : List ℕ). take 64 (drop j xs)) is ∙ chunk_is from b j (omega arith) in
      let d : drop (j + by + 64) bytes ≡ drop (j + 64) text = ap (drop (j + by + 64)) is ∙ above_is from b (j + 64) (j + by + 64) (omega arith) (omega arith) in
      (λ i. a i ++ (x i ++ d i)) ∙ ap (λ (xs : List ℕ). take (j + by) old ++ xs) (chunk_joins j)

  -- the text comes before the bytes that moved, and their front is written last
  pub text_written : (bytes : List ℕ) (from at : ℕ) (by_few : by ≤ 10) → at ≤ from → from < at + 64 → at + 64 ≤ end → bytes ≡ moved_up old end from
      → (name front : List ℕ) → length name ≡ 10 → front ≡ take 64 (drop at old)
      → (next : List ℕ) → next ≡ take at bytes ++ (name ++ drop (at + 10) bytes)
      → (size : ℕ) → size ≡ by
      → take (at + size) next ++ (front ++ drop (at + size + 64) next) ≡ take at old ++ take by name ++ drop at text
  text_written bytes from at by_few l u e is name front ten f next n size s =
      let b : from ≤ end = omega arith in
      let x : front ≡ take 64 (drop at text) = f ∙ sym (front_of old 64 at end e) in
      let at_size : length (take at bytes) ≡ at = length-take-le at bytes (let m = ap length is in let g = low_size from b in let h = length-append (take (from + by) old) (drop from text) in omega arith) in
      let before : take at bytes ≡ take at old = ap (take at) is ∙ below_is from b at (omega arith) in
      let a : take (at + size) next ≡ take at old ++ take by name =
      ap (take (at + size)) n
      ∙ start_of (take at bytes) (name ++ drop (at + 10) bytes) (at + size) size (omega arith)
      ∙ ap (λ (xs : List ℕ). take at bytes ++ xs) (take-append-le size name (drop (at + 10) bytes) (omega arith))
      ∙ (λ i. before i ++ take (s i) name) in
      let d : drop (at + size + 64) next ≡ drop (at + 64) text =
      ap (drop (at + size + 64)) n
      ∙ rest_of (take at bytes) (name ++ drop (at + 10) bytes) (at + size + 64) (size + 64) (omega arith)
      ∙ rest_of name (drop (at + 10) bytes) (size + 64) (size + 54) (omega arith)
      ∙ drop-drop (size + 54) (at + 10) bytes
      ∙ ap (drop ((at + 10) + (size + 54))) is
      ∙ above_is from b (at + 64) ((at + 10) + (size + 54)) (omega arith) (omega arith) in
      (λ i. a i ++ (x i ++ d i)) ∙ ap (λ (xs : List ℕ). take at old ++ take by name ++ xs) (chunk_joins at)

-- Lists side by side, of which a loop changes one, item after item.
use Rattle.std.proofs.Common.{◌≡◌, ◌<◌, ◌≤◌, ◌+◌, ◌∙◌, ℕ, zero, suc, List, [], ◌∷◌, ◌++◌, length, take, drop, get_or, set, refl, sym, ap, ap₂, subst, arith, ℤ, inl, inr}
use Rattle.std.specs.List.{AllZip, zip}
use Rattle.std.proofs.lemmas.List.{take_more, take_all, drop_more, take-append-drop, length-take-le}
use Rattle.std.proofs.lemmas.Slice.Zip.{length-zip}
use Rattle.ts_core.specs.lists.Beside.{changed_beside, OfEach}
use Rattle.ts_core.proofs.lists.BesideLemmas.{AllZip-same}
use Rattle.ts_store.specs.rollup.Rollups.{RollupState, cells_of, with_grid_cells}
use Rattle.ts_store.specs.rollup.ChangedLists.{ChangesBeside, FirstChanges}
use Rattle.ts_store.specs.retain.RollupSteps.{with_all_grid_cells}
use Rattle.ts_store.specs.write.CellsCreated.{KeepsRollupSeries}
use Rattle.ts_core.specs.store.StoreData.{CellMap}
use Rattle.ts_cells.specs.Expiry.{IsAbove, LosesBelow}
use Rattle.ts_store.specs.retain.WholeRuns.{LosesCells}

-- ---- rollups

pub grids_kept : (ss : List RollupState) → ss ≡ with_all_grid_cells (cells_of ss) ss
grids_kept [] = refl
grids_kept (s ∷ ss) = ap (λ ts. s ∷ ts) (grids_kept ss)

-- the result of the call for a rule
pub record IsExpired (low : ℤ) (n : ℕ) (s t : RollupState) : Type 0 where
  pub cells : t ≡ with_grid_cells t.grid.cells s
  pub below : LosesBelow low n s.grid.cells t.grid.cells

-- no rule lost a cell
pub none_expired : (lows : List ℤ) (ss ts : List RollupState) → ChangesBeside (λ low. IsExpired low 0) lows ss ts → (ts ≡ ss) × OfEach IsAbove lows (cells_of ss)
none_expired (low ∷ lows) (s ∷ ss) [] h = absurd h
none_expired (low ∷ lows) (s ∷ ss) (t ∷ ts) h =
    let later = none_expired lows ss ts h.1 in
    let same : t ≡ s = h.0.cells ∙ ap (λ (m : CellMap). with_grid_cells m s) h.0.below.removed in
    (ap₂ (λ u us. u ∷ us) same later.0, (subst (λ (u : RollupState). IsAbove low u.grid.cells) same (h.0.below.all (omega arith)), later.1))
none_expired _ _ _ h = (h, tt)

-- the rule with this index lost some, and no rule before it
pub first_expired : (lows : List ℤ) (ss : List RollupState) (i : ℕ) (low : ℤ) (n : ℕ) (s t : RollupState) → i < length lows → i < length ss → 0 < n → IsExpired (get_or lows i low) n (get_or ss i s) t → OfEach IsAbove (take i lows) (cells_of ss)
    → FirstChanges IsAbove LosesCells lows (cells_of ss) (cells_of (set ss i t))
first_expired (low' ∷ lows) (s' ∷ ss) zero low n s t l k some x above = inl (record { count = n; some = some; below = x.below }, refl)
first_expired (low' ∷ lows) (s' ∷ ss) (suc i) low n s t l k some x above = inr (above.0, refl, first_expired lows ss i low n s t (omega (arith, l)) (omega (arith, k)) some x above.1)
first_expired _ _ i low n s t l k some x above = absurd (omega arith)

-- ---- a step of a loop

module _ {X Y : Type 0} (R Q : X → Y → Y → Type 0) (weaker : (x : X) (y z : Y) → R x y z → Q x y z) (more : List X) (stay : (ys : List Y) → ChangesBeside Q more ys ys) (x : X) (d z : Y) where
  first_changed : (ys : List Y) → Q x (get_or ys 0 d) z → ChangesBeside Q (x ∷ more) ys (set ys 0 z)
  first_changed [] q = refl
  first_changed (y ∷ ys) q = (q, stay ys)

  changed_at : (xs : List X) (ys zs : List Y) (i : ℕ) → length xs ≡ i → Q x (get_or zs i d) z → ChangesBeside R xs ys zs → ChangesBeside Q (xs ++ x ∷ more) ys (set zs i z)
  changed_at [] ys zs zero l q h = subst (λ (ws : List Y). Q x (get_or ws 0 d) z → ChangesBeside Q (x ∷ more) ys (set ws 0 z)) (sym h) (first_changed ys) q
  changed_at (u ∷ xs) [] zs (suc i) l q h = ap (λ (ws : List Y). set ws (suc i) z) h
  changed_at (u ∷ xs) (v ∷ ys) (w ∷ zs) (suc i) l q h = (weaker u v w h.0, changed_at xs ys zs i (omega (arith, l)) q h.1)
  changed_at _ _ _ _ l q h = absurd (omega arith)

-- the next item is changed
pub next_changed : {X Y : Type 0} (R : X → Y → Y → Type 0) (xs : List X) (ys zs : List Y) (i : ℕ) (x c : X) (d z : Y) → i < length xs → x ≡ get_or xs i c → R x (get_or zs i d) z → ChangesBeside R (take i xs) ys zs
    → ChangesBeside R (take (i + 1) xs) ys (set zs i z)
next_changed {X} R xs ys zs i x c d z l at r h =
    subst (λ (us : List X). ChangesBeside R us ys (set zs i z)) (ap (λ (u : X). take i xs ++ u ∷ []) at ∙ sym (take_more xs i c l))
    (changed_at R R (λ x y z r. r) [] (λ ys. refl) x d z (take i xs) ys zs i (length-take-le i xs (omega (arith, l))) r h)

same_beside : {X Y : Type 0} (Q : X → Y → Y → Type 0) → ((x : X) (y : Y) → Q x y y) → (xs : List X) (ys : List Y) → ChangesBeside Q xs ys ys
same_beside Q same (x ∷ xs) (y ∷ ys) = (same x y, same_beside Q same xs ys)
same_beside Q same _ ys = refl

-- the next item is changed in another way, and no later one
pub last_changed : {X Y : Type 0} (R Q : X → Y → Y → Type 0) → ((x : X) (y z : Y) → R x y z → Q x y z) → ((x : X) (y : Y) → Q x y y) → (xs : List X) (ys zs : List Y) (i : ℕ) (x c : X) (d z : Y)
    → i < length xs → x ≡ get_or xs i c → Q x (get_or zs i d) z → ChangesBeside R (take i xs) ys zs → ChangesBeside Q xs ys (set zs i z)
last_changed {X} R Q weaker same xs ys zs i x c d z l at q h =
    let rest : List X = drop (i + 1) xs in
    let whole : take i xs ++ x ∷ rest ≡ xs = ap (λ (u : X). take i xs ++ u ∷ rest) at ∙ ap (λ (us : List X). take i xs ++ us) (sym (drop_more xs i c l)) ∙ take-append-drop i xs in
    subst (λ (us : List X). ChangesBeside Q us ys (set zs i z)) whole
    (changed_at R Q weaker rest (same_beside Q same rest) x d z (take i xs) ys zs i (length-take-le i xs (omega (arith, l))) q h)

module _ {X Y : Type 0} (R : X → Y → Y → Type 0) where
  -- the next item is as it was
  pub unchanged_yet : (xs : List X) (ys zs : List Y) (i : ℕ) (d : Y) → ChangesBeside R (take i xs) ys zs → get_or zs i d ≡ get_or ys i d
  unchanged_yet xs ys zs zero d h = ap (λ (ws : List Y). get_or ws 0 d) h
  unchanged_yet (x ∷ xs) (y ∷ ys) [] (suc i) d h = absurd h
  unchanged_yet (x ∷ xs) (y ∷ ys) (z ∷ zs) (suc i) d h = unchanged_yet xs ys zs i d h.1
  unchanged_yet _ _ _ i d h = ap (λ (ws : List Y). get_or ws i d) h

  -- ---- after the loop

  pub all_changed : (xs : List X) (ys zs : List Y) (i : ℕ) → length xs ≤ i → ChangesBeside R (take i xs) ys zs → ChangesBeside R xs ys zs
  all_changed xs ys zs i l h = subst (λ (us : List X). ChangesBeside R us ys zs) (take_all i xs l) h

  pub AllZip-beside : (K : Y → Y → Type 0) → ((y : Y) → K y y) → ((x : X) (y z : Y) → R x y z → K y z) → (xs : List X) (ys zs : List Y) → ChangesBeside R xs ys zs → AllZip K ys zs
  AllZip-beside K same keeps (x ∷ xs) (y ∷ ys) [] h = absurd h
  AllZip-beside K same keeps (x ∷ xs) (y ∷ ys) (z ∷ zs) h = (keeps x y z h.0, AllZip-beside K same keeps xs ys zs h.1)
  AllZip-beside K same keeps _ ys zs h = subst (AllZip K ys) (sym h) (AllZip-same K same ys)

  pub AllZip-changed : (N : X → Y → Type 0) → ((x : X) (y z : Y) → R x y z → N x z) → (xs : List X) (ys zs : List Y) → length ys ≡ length xs → ChangesBeside R xs ys zs → AllZip N xs zs
  AllZip-changed N so [] [] zs l h = subst (AllZip N []) (sym h) tt
  AllZip-changed N so (x ∷ xs) (y ∷ ys) (z ∷ zs) l h = (so x y z h.0, AllZip-changed N so xs ys zs (omega (arith, l)) h.1)
  AllZip-changed N so _ _ _ l h = absurd (omega arith)

  pub changed_is : (f : X → Y → Y) → ((x : X) (y z : Y) → R x y z → z ≡ f x y) → (xs : List X) (ys zs : List Y) → ChangesBeside R xs ys zs → zs ≡ changed_beside f xs ys
  changed_is f is (x ∷ xs) (y ∷ ys) [] h = absurd h
  changed_is f is (x ∷ xs) (y ∷ ys) (z ∷ zs) h = ap₂ (λ (w : Y) (ws : List Y). w ∷ ws) (is x y z h.0) (changed_is f is xs ys zs h.1)
  changed_is f is _ _ _ h = h

-- ---- two lists as one

pub length-zipped : {X Y : Type 0} (xs : List X) (ys : List Y) (n : ℕ) → length xs ≡ n → length ys ≡ n → length (zip xs ys) ≡ n
length-zipped xs ys n l e = let both = length-zip xs ys in omega (arith, both, l, e)

-- ---- rollups

-- only cells are changed
pub grids_beside : {X : Type 0} (R : X → RollupState → RollupState → Type 0) → ((x : X) (s t : RollupState) → R x s t → KeepsRollupSeries s t) → (xs : List X) (ss ts : List RollupState) → ChangesBeside R xs ss ts
    → ts ≡ with_all_grid_cells (cells_of ts) ss
grids_beside R kept (x ∷ xs) (s ∷ ss) [] h = absurd h
grids_beside R kept (x ∷ xs) (s ∷ ss) (t ∷ ts) h = ap₂ (λ (u : RollupState) (us : List RollupState). u ∷ us) (kept x s t h.0) (grids_beside R kept xs ss ts h.1)
grids_beside R kept _ ss ts h = subst (λ (us : List RollupState). us ≡ with_all_grid_cells (cells_of us) ss) (sym h) (grids_kept ss)

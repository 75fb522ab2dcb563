-- The coded blocks of a column, with their bytes. (Own rule.)
use Rattle.std.specs.Prelude.{◌≡◌, ℕ, ◌+◌, ◌<◌, ◌≤◌, ℤ, ◌⊎◌, List, [], length, drop, vec_len, vec_capacity, Option, Some, None}
use Rattle.ts_raw.specs.declared.coded_blocks.CodedBlocks.{CodedBlocks}
use Rattle.ts_raw.specs.declared.rewriting.Rewritten.{Rewritten}
use Rattle.ts_raw.specs.CodedPoints.{AreBlocks, AreApart, AllEndBefore, LastGrows, AreCountedBlocks, CutFits, coded_points, blocks_at}
use Rattle.ts_raw.specs.Rewriting.{IsRewritten}

-- there are no blocks
pub record AreNone {A : Type 0} (b : CodedBlocks A) : Type 0 where
  pub no_bytes : b.bytes.items ≡ []
  pub no_handles : b.handles.items ≡ []
  pub no_points : b.total ≡ 0
  pub none_cut : b.cut ≡ 0

-- each handle is that of a block, and no two blocks share bytes
pub record AreLaid {A : Type 0} (b : CodedBlocks A) : Type 0 where
  pub marked : AreBlocks b.bytes.items b.handles.items
  pub apart : AreApart b.handles.items

-- the number of points and that of removed ones stay
abbrev pub KeepsCounts : {A : Type 0} → CodedBlocks A → CodedBlocks A → Type 0
KeepsCounts old new = (new.total ≡ old.total) × (new.cut ≡ old.cut)

-- the same blocks, though maybe at other offsets
pub record AreSame {A : Type 0} (old new : CodedBlocks A) : Type 0 where
  pub laid : AreLaid new
  pub blocks : blocks_at new.bytes.items new.handles.items ≡ blocks_at old.bytes.items old.handles.items
  pub counts : KeepsCounts old new

-- there is capacity for this many bytes more
abbrev pub HasSpare : {A : Type 0} → ℕ → CodedBlocks A → Type 0
HasSpare size b = vec_len b.bytes + size ≤ vec_capacity b.bytes

-- there is capacity for a point after all others: for its bytes, and for a handle if it will be a block of its own
pub record HasRoom {A : Type 0} (b : CodedBlocks A) : Type 0 where
  pub spare : HasSpare 20 b
  pub room : LastGrows (length b.bytes.items) b.handles.items ⊎ (vec_len b.handles < vec_capacity b.handles)

-- the points, without removed ones
abbrev pub points_of_blocks : {A : Type 0} → CodedBlocks A → List (ℤ × ℤ)
points_of_blocks b = drop b.cut (coded_points b.bytes.items b.handles.items)

-- the blocks have `total` points, in the order of time, of which `cut` were removed, and share no bytes
pub record AreSoundBlocks {A : Type 0} (b : CodedBlocks A) : Type 0 where
  pub counted : AreCountedBlocks b.bytes.items b.handles.items b.total
  pub apart : AreApart b.handles.items
  pub cut_fits : CutFits b.cut (blocks_at b.bytes.items b.handles.items)

-- the point comes after all others and has capacity, or its block is encoded anew
abbrev pub CanCommit : {A : Type 0} → CodedBlocks A → ℤ × ℤ → Option Rewritten → Type 0
CanCommit b p None = AllEndBefore b.handles.items p.0 × HasRoom b
CanCommit b p (Some r) =
    IsRewritten b.bytes.items b.handles.items b.cut p r × (vec_len b.handles < vec_capacity b.handles)

-- a point can be committed, by these new blocks if there are some
pub record IsStaged {A : Type 0} (b : CodedBlocks A) (p : ℤ × ℤ) (new : Option Rewritten) : Type 0 where
  pub countable : b.total < 18446744073709551615
  pub can : CanCommit b p new

-- A block that is encoded anew, with a point inserted or replaced. (Own rule.)
use Rattle.std.specs.Prelude.{◌≡◌, ℕ, zero, suc, ◌+◌, ◌<◌, ◌≤◌, ℤ, ◌≤ℤ◌, List, ◌∷◌, ◌++◌, length, take, drop, option_to_list}
use Rattle.std.specs.Ordering.{int_cmp}
use Rattle.std.specs.FinMap.{put}
use Rattle.ts_raw.specs.declared.block_handle.BlockHandle.{BlockHandle}
use Rattle.ts_raw.specs.declared.rewriting.Rewritten.{Rewritten}
use Rattle.ts_raw.specs.CodedPoints.{IsBlockHandle, AreBlocks, AreApart, block_points_at, coded_points, AllEndBefore}

-- the handle is that of the block of these points, which starts at or after this offset
pub record IsEncoded (from : ℕ) (bytes : List ℕ) (m : BlockHandle) (points : List (ℤ × ℤ)) : Type 0 where
  pub starts : from ≤ m.start
  pub handle : IsBlockHandle bytes m
  pub points_are : block_points_at bytes m ≡ points

-- the handles are those of the blocks of the first of these points and of the others, in the order of bytes
pub record AreHalves (from : ℕ) (bytes : List ℕ) (first second : BlockHandle) (points : List (ℤ × ℤ)) : Type 0 where
  pub half : ℕ
  pub some : 0 < half
  pub less : half < length points
  pub few : length points ≤ 256
  pub first_is : IsEncoded from bytes first (take half points)
  pub second_is : IsEncoded first.end bytes second (drop half points)

abbrev pub blocks_of : Rewritten → List BlockHandle
blocks_of r = r.first ∷ option_to_list r.second

-- the handles with the old one replaced by the new ones
abbrev pub handles_replaced : Rewritten → List BlockHandle → List BlockHandle
handles_replaced r handles = take r.at handles ++ (blocks_of r ++ drop (r.at + 1) handles)

-- the number of points to leave out of a block: only the first block has removed ones
abbrev pub cut_in_block : ℕ → ℕ → ℕ
cut_in_block zero cut = cut
cut_in_block (suc at) cut = 0

-- the number of removed points afterwards: the first block is encoded without them
abbrev pub cut_after : ℕ → ℕ → ℕ
cut_after zero cut = 0
cut_after (suc at) cut = cut

-- the new blocks hold the points of the old one, but for removed ones, with this point inserted or replaced
pub record IsRewritten (bytes : List ℕ)
    (handles : List BlockHandle) (cut : ℕ) (p : ℤ × ℤ) (r : Rewritten) : Type 0 where
  pub within : r.at < length handles
  pub old : BlockHandle
  pub split : handles ≡ take r.at handles ++ (old ∷ drop (r.at + 1) handles)
  pub blocks : AreBlocks bytes (blocks_of r)
  pub points : coded_points bytes (blocks_of r)
      ≡ put int_cmp p.0 p.1 (drop (cut_in_block r.at cut) (block_points_at bytes old))
  pub apart : AreApart (handles_replaced r handles)
  pub earlier : AllEndBefore (take r.at handles) p.0
  pub reached : p.0 ≤ℤ old.last

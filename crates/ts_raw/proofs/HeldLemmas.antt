-- The number of points of coded blocks, removed ones too.
use Rattle.std.proofs.Common.{◌≡◌, ℕ, ◌+◌, ◌≤◌, ℤ, List, [], ◌∷◌, length, length-append, refl, ap, arith}
use Rattle.std.proofs.lemmas.List.{length-drop}
use Rattle.std.specs.FinMap as map
use Rattle.std.specs.FinMap.{len-entries}
use Rattle.ts_block.proofs.DecodingLemmas.{block_points-is}
use Rattle.ts_raw.specs.declared.block_handle.BlockHandle.{BlockHandle}
use Rattle.ts_raw.specs.Columns.{PointMap}
use Rattle.ts_raw.specs.CodedPoints.{block_points_at, coded_points, all_joined}
use Rattle.ts_raw.specs.BlockColumns.{AreBlocksOf, HoldPoints, texts_at, points_in_texts}

pub texts_count : (bytes : List ℕ) (ms : List BlockHandle) → length (coded_points bytes ms) ≡ points_in_texts (texts_at bytes ms)
unfolding coded_points
texts_count bytes [] = refl
texts_count bytes (m ∷ ms) = let e = texts_count bytes ms in let d = length-append (block_points_at bytes m) (coded_points bytes ms) in omega arith

parts_count : (texts : List (List ℕ)) (parts : List (List (ℤ × ℤ))) → AreBlocksOf texts parts → points_in_texts texts ≡ length (all_joined parts)
parts_count [] [] h = refl
parts_count [] (p ∷ ps) h = absurd h
parts_count (t ∷ ts) [] h = absurd h
parts_count (t ∷ ts) (p ∷ ps) h =
    let e = parts_count ts ps h.1 in
    let d = length-append p (all_joined ps) in
    let f = ap length (block_points-is t p h.0) in
    omega arith

-- blocks that hold the points of a column have at most 255 points more
pub held_bounds : (points : PointMap) (parts : List (List (ℤ × ℤ))) (texts : List (List ℕ)) → HoldPoints (map.entries points) parts texts → (map.len points ≤ points_in_texts texts) × (points_in_texts texts ≤ map.len points + 255)
held_bounds points parts texts h =
    let c = parts_count texts parts h.blocks in
    let n = len-entries points in
    let e = ap length h.points_are in
    let d = length-drop h.removed (all_joined parts) in
    let f = h.few in
    (omega arith, omega arith)

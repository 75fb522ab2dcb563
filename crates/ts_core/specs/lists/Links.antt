-- Entries of hash chains, and when they are linked correctly. (Own rule.)
use Rattle.std.specs.Prelude.{◌≡◌, ℕ, ◌<◌, List, length, map, Option, slice_index_or}
use Rattle.ts_core.specs.declared.lists.chains.Link.{Link}
use Rattle.ts_core.specs.lists.LastBelow.{newest_of}

abbrev pub hashes_of : List Link → List ℕ
hashes_of links = map (λ (l : Link). l.hash) links

-- the table has the newest index of each hash, and each entry has the next older index of its hash
pub record AreChained (newest : ℕ → Option ℕ) (links : List Link) : Type 0 where
  pub heads : (hash : ℕ) → newest hash ≡ newest_of (hashes_of links) hash (length links)
  pub olders : (i : ℕ) → i < length links
      → (d : Link) → (slice_index_or links i d).older ≡ newest_of (hashes_of links) (slice_index_or links i d).hash i

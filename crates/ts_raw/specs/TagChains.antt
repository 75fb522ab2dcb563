-- Chains of series by the hashes of their tags. A chain may lead to a series that doesn't have the tag, or to none: the
-- caller tests the series. (Own rule.)
use Rattle.std.specs.Prelude.{◌≡◌, ℕ, zero, suc, ◌<◌, ◌%◌, nat_lt, nat_eq, List, length, Option, Some, None, if◌then◌else◌, slice_index_or, ◌⊎◌}
use Rattle.std.specs.Map.{lookup}
use Rattle.std.specs.Hash.DefaultHasher.{finish}
use Rattle.std.specs.RandomState.{initial_hasher}
use Rattle.std.specs.declared.hash.RandomState.{RandomState}
use Rattle.ts_core.specs.lists.Members.{Among}
use Rattle.ts_core.specs.facts.Facts.{Text, Series}
use Rattle.ts_core.specs.lists.Numbered.{IsAt}
use Rattle.ts_core.specs.lists.Tables.{IsTable}
use Rattle.ts_core.specs.text.Hashing.{with_text}
use Rattle.ts_raw.specs.Hashes.{hash_of_series}
use Rattle.ts_raw.specs.declared.index.tags.TagLink.{TagLink}

-- the hash of a tag of a measurement
unfoldable pub hash_of_tag : RandomState → Text → Text × Text → ℕ
hash_of_tag seed measurement t =
    finish (with_text (with_text (with_text (initial_hasher seed) measurement) t.0) t.1) % 4_294_967_296

-- hashes with the newest link of each, and all links
pub record TagChains : Type 0 where
  pub newest : List (ℕ × ℕ)
  pub links : List TagLink

-- the default for a link that doesn't exist
abbrev pub no_link : TagLink
no_link = record { series = 0; older = 0; count = 0 }

-- the index of the next older link after the one at an index
abbrev pub next_of : TagLink → ℕ → Option ℕ
next_of l i = if nat_lt l.older i then Some l.older else None

-- the first links of a chain, up to this number, lead to the series n
unfoldable pub Leads : List TagLink → ℕ → Option ℕ → ℕ → Type 0
Leads links k None n = ⊥
Leads links zero (Some i) n = ⊥
Leads links (suc k) (Some i) n =
    ((slice_index_or links i no_link).series ≡ n) ⊎ Leads links k (next_of (slice_index_or links i no_link) i) n

-- the newest link of a hash
abbrev pub head_of : List (ℕ × ℕ) → ℕ → Option ℕ
head_of newest hash = lookup (nat_eq hash) newest

-- the chain of a hash leads to the series n
abbrev pub LeadsTo : TagChains → ℕ → ℕ → Type 0
LeadsTo chains hash n = (k : ℕ) × Leads chains.links k (head_of chains.newest hash) n

-- each chain begins at a link
abbrev pub AreHeadsWithin : TagChains → Type 0
AreHeadsWithin chains = (hash i : ℕ) → head_of chains.newest hash ≡ Some i → i < length chains.links

-- each series found before is still found
abbrev pub KeepLeads : TagChains → TagChains → Type 0
KeepLeads before after = (hash n : ℕ) → LeadsTo before hash n → LeadsTo after hash n

-- the chains of all these tags lead to the series n
abbrev pub AllLead : RandomState → TagChains → Text → List (Text × Text) → ℕ → Type 0
AllLead seed chains measurement tags n = (t : Text × Text)
    → Among t tags → LeadsTo chains (hash_of_tag seed measurement t) n

-- each series is found by each of its tags
abbrev pub AreTagged : RandomState → List Series → TagChains → Type 0
AreTagged seed series chains = (n : ℕ) (s : Series) → IsAt series n s → AllLead seed chains s.measurement s.tags n

-- each series occurs once, with its hash, and is found by each of its tags
pub record IsSeriesTable (seed : RandomState)
    (series : List Series) (hashes : List ℕ) (chains : TagChains) : Type 0 where
  pub table : IsTable (hash_of_series seed) series hashes
  pub tagged : AreTagged seed series chains

-- the series have their hashes by a function, and this is the hash of a key by the same one
pub record IsHashed (series : List Series) (hashes : List ℕ) (key : Series) (hash : ℕ) : Type 0 where
  pub hash_of : Series → ℕ
  pub table : IsTable hash_of series hashes
  pub is : hash ≡ hash_of key

-- the series of a measurement that have a tag are among these
abbrev pub AreAmongTagged : List Series → Text → Text × Text → List ℕ → Type 0
AreAmongTagged series measurement tag numbers = (n : ℕ) (s : Series)
    → IsAt series n s → s.measurement ≡ measurement → Among tag s.tags → Among n numbers

-- Names that a line can state: exactly those that pass the tests of an image.
use Rattle.std.proofs.Common.{◌≡◌, ◌≢◌, List, [], ◌∷◌, length, refl, ap, arith}
use Rattle.std.specs.List.{AllByRecursion}
use Rattle.std.proofs.lemmas.Cmp.{nat_list_cmp_total}
use Rattle.ts_core.specs.facts.Facts.{Text, Series, text_cmp}
use Rattle.ts_line.specs.Names.{IsName as IsStated, IsKey, IsStatable}
use Rattle.ts_image.specs.ImageTests.{IsKeyName, IsImageSeriesKey}
use Rattle.ts_image.proofs.Orders.{rising_keys, keys_rising}

-- ---- a line's names pass the tests

some_text : (t : Text) → IsStated t → t ≢ []
some_text t n e = let z : length t ≡ 0 = ap length e in absurd (omega (arith, n, z))

pub name_of : (t : Text) → IsKey t → IsKeyName t
name_of t n = (some_text t n.0, n.1)

pub tags_of_parts : (ts : List (Text × Text)) → AllByRecursion (λ (t : Text × Text). IsKey t.0 × IsStated t.1) ts → AllByRecursion (λ (t : Text × Text). IsKeyName t.0 × (t.1 ≢ [])) ts
tags_of_parts [] h = tt
tags_of_parts (t ∷ ts) h = ((name_of t.0 h.0.0, some_text t.1 h.0.1), tags_of_parts ts h.1)

pub key_of : (s : Series) → IsStatable s → IsImageSeriesKey s
key_of s n = record { measured = some_text s.measurement n.measurement; few = n.few; tags = tags_of_parts s.tags n.tags; rising = rising_keys text_cmp s.tags n.set }

-- ---- and no others

stated : (t : Text) → t ≢ [] → IsStated t
stated [] n = absurd (n refl)
stated (b ∷ t) n = omega arith

pub named_of : (t : Text) → IsKeyName t → IsKey t
named_of t n = (stated t n.0, n.1)

tag_texts : (ts : List (Text × Text)) → AllByRecursion (λ (t : Text × Text). IsKeyName t.0 × (t.1 ≢ [])) ts → AllByRecursion (λ (t : Text × Text). IsKey t.0 × IsStated t.1) ts
tag_texts [] h = tt
tag_texts (t ∷ ts) h = ((named_of t.0 h.0.0, stated t.1 h.0.1), tag_texts ts h.1)

pub series_named : (s : Series) → IsImageSeriesKey s → IsStatable s
series_named s n = record { measurement = stated s.measurement n.measured; tags = tag_texts s.tags n.tags; few = n.few; set = keys_rising text_cmp nat_list_cmp_total s.tags n.rising }

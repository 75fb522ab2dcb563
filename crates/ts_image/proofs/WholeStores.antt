-- All parts of an image, in a store under construction.
use Rattle.std.proofs.Common.{◌≡◌, ◌==◌, length, map, sym, ap, ◌∙◌}
use Rattle.std.proofs.lemmas.List.{length-map}
use Rattle.ts_core.specs.settings.Settings.{Settings}
use Rattle.ts_store.specs.image.Building.{Built, new_built}
use Rattle.ts_image.specs.Images.{ImageData}
use Rattle.ts_image.specs.ImageTests.{rule_in, settings_of_image}
use Rattle.ts_image.specs.Pictures.{columns_of_image}
use Rattle.ts_image.specs.StoresMade.{key_in, waits_in, with_all_series, with_all_cells, built_in}
use Rattle.ts_image.proofs.PossibleStores.{each_made}

abbrev pub begun : Settings → ImageData → Built
begun s d = new_built s d.marks d.accepted (d.runs == 1)

all_added : (d : ImageData) → length d.cells ≡ length d.settings.rules → with_all_cells d.cells (with_all_series d.series (begun (settings_of_image d.settings) d)) ≡ built_in d
all_added d even i = record {
  settings = settings_of_image d.settings;
  marks = d.marks;
  running = d.runs == 1;
  accepted = d.accepted;
  series = map key_in d.series;
  columns = columns_of_image d.series;
  waits = waits_in d.series;
  cells = each_made (map rule_in d.settings.rules) d.cells (even ∙ sym (length-map d.settings.rules rule_in)) i;
}

pub whole : (d : ImageData) (s : Settings) → s ≡ settings_of_image d.settings → length d.cells ≡ length d.settings.rules → with_all_cells d.cells (with_all_series d.series (begun s d)) ≡ built_in d
whole d s e even = ap (λ (x : Settings). with_all_cells d.cells (with_all_series d.series (begun x d))) e ∙ all_added d even

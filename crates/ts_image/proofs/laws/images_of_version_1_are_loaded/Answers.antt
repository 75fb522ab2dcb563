use Rattle.ts_image.proofs.FirstVersion.{first_possible, first_fits, first_loaded}
use Rattle.ts_image.proofs.laws.images_of_version_1_are_loaded.Goals as goal

pub returns : goal.returns
returns c = record { possible = first_possible; fits = first_fits; loaded = first_loaded }

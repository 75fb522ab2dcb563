use Rattle.ts_image.proofs.SavedImages.{saved_possible}
use Rattle.ts_image.proofs.WrittenPictures.{written_acceptable}
use Rattle.ts_image.proofs.laws.saved_images_are_possible.Goals as goal

pub returns : goal.returns
returns c = record { any = saved_possible; written = written_acceptable }

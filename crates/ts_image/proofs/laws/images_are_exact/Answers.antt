use Rattle.ts_image.specs.Images.{image}
use Rattle.ts_image.proofs.ImageForms.{image_format}
use Rattle.ts_image.proofs.Unambiguous.{are_unambiguous}
use Rattle.ts_image.proofs.Wholes.{exact}
use Rattle.ts_image.proofs.laws.images_are_exact.Goals as goal

pub returns : goal.returns
returns c = record { unambiguous = are_unambiguous; format = image_format; exact = λ v p b. exact (image v) (image_format v) p b }

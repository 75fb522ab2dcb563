-- Model of the source of a piece. (Own rules.)
use Rattle.ts_check.specs.declared.certificate.PieceSource.{PieceSource}
use Rattle.ts_check.specs.declared.certificate.PieceSource.TheVariants as sources
use Rattle.ts_core.specs.plans.Pieces.{Source, Raw, Rollup}

abbrev pub source_of : PieceSource → Source
source_of sources.Raw = Raw
source_of (sources.Rollup name) = Rollup name

use Rattle.std.proofs.Common.{ℕ, List, Result, Ok, Err, refl}
use Rattle.std.specs.Int.{w64}
use Rattle.ts_core.specs.io.Devices.{Input}
use Rattle.ts_image.specs.declared.field_fault.FieldFault.{FieldFault}
use Rattle.ts_image.specs.Formats.{Format, number, times, list_of}
use Rattle.ts_image.specs.Images.{image_column}
use Rattle.ts_image.specs.FieldReading.{FieldsRead, ReadsField}
use Rattle.ts_image.specs.SeriesParts.{column_parts_of}
use Rattle.ts_image.proofs.Reading.{fine}
use Rattle.ts_image.proofs.Together.{iso_reads, iso_stops, and_reads, and_stops}
use Rattle.ts_image.proofs.read.series.read_counted_columns.Goals as goal

-- the number of members, and the members or a fault
counted : {X Z : Type 0} (f : Format X) (view : Z → List X) (a b c : FieldsRead) (s t u : Input) (n : ℕ) (r : Result Z FieldFault) → ReadsField (number w64) (λ k. k) a s (fine n) b t → ReadsField (times n f) view b t r c u → ReadsField (list_of w64 f) view a s r c u
counted f view a b c s t u n (Ok z) p q = iso_reads _ _ _ _ view a c s u (n, z) z refl (and_reads (number w64) (λ k. times k f) (λ k. k) view a b c s t u n z p q)
counted {X} {Z} f view a b c s t u n (Err e) p q = iso_stops _ _ _ (λ (x : ℕ × Z). (x.0, view x.1)) view a c s u e (and_stops (number w64) (λ k. times k f) (λ k. k) view (λ (x : ℕ × Z). (x.0, view x.1)) a b c s t u n e p q)

pub returns : goal.returns
returns g c =
    counted (image_column c.args.version) column_parts_of c.args.reader.now c.u64.new.self c.read_columns.new.reader c.args.source.now c.u64.new.source c.read_columns.new.source c.in_ok-count.count c.read_columns.result c.in_ok-count.ensures c.read_columns.ensures

use Rattle.std.proofs.Common.{ℕ, List, Vec, map, subst, refl, w64}
use Rattle.std.specs.Int.{w32}
use Rattle.std.proofs.lemmas.Result.{err_from_is_err_and}
use Rattle.ts_image.specs.Formats.{number, also, along, list_of}
use Rattle.ts_image.specs.Images.{ImageRule, ImageSettings, flag, image_settings, image_marks, image_series, image_cell, image}
use Rattle.ts_image.specs.RuleParts.{rule_from_parts, rules_of_parts, settings_of_parts}
use Rattle.ts_image.specs.SeriesParts.{all_series_of}
use Rattle.ts_image.specs.CellParts.{marks_of_parts, all_cells_of}
use Rattle.ts_image.specs.ImageReading.{image_of}
use Rattle.ts_image.specs.declared.read.rules.RuleParts.{RuleParts}
use Rattle.ts_image.specs.declared.read.cells.MarksParts.{MarksParts}
use Rattle.ts_image.specs.declared.read.cells.CellParts.{CellParts}
use Rattle.ts_image.specs.FieldReading.{ReadsField}
use Rattle.ts_image.proofs.Reading.{fine, faulty}
use Rattle.ts_image.proofs.Together.{and_reads, also_reads, iso_reads}
use Rattle.ts_image.proofs.Stopping.{stops_of, reads_of, first_stops, then_stops, whole_stops}
use Rattle.ts_image.proofs.read.image.read_body.Goals as goal

abbrev so_many : ℕ → ℕ
so_many n = n

pub returns : goal.returns
returns g c =
    let rs = rules_of_parts c.in_ok-settings.settings.rules in
    let marks_read = subst (λ (l : List (RuleParts g.row.A.Denot)). ReadsField (image_marks (map rule_from_parts l)) (marks_of_parts {A = g.row.A.Denot}) c.read_settings.new.reader c.read_settings.new.source (fine c.in_ok-marks.marks) c.read_marks.new.reader c.read_marks.new.source) c.deref.ensures.value c.in_ok-marks.ensures in
    let cells_read = subst (λ (l : List (RuleParts g.row.A.Denot)). ReadsField (along (λ (r : ImageRule). list_of w64 (image_cell r)) (map rule_from_parts l)) (all_cells_of {A = g.row.A.Denot}) c.read_counted_series.new.reader c.read_counted_series.new.source (fine c.in_ok-cells.cells) c.read_all_cells.new.reader c.read_all_cells.new.source) c.deref-2.ensures.value c.in_ok-cells.ensures in
    iso_reads _ _ _ _ image_of c.args.reader.now c.read_all_cells.new.reader c.args.source.now c.read_all_cells.new.source _ _ refl
    (and_reads image_settings (λ (s : ImageSettings). (also (image_marks s.rules) (also (flag c.args.version) (also (number w64) (also (list_of w32 (image_series c.args.version)) (along (λ (r : ImageRule). list_of w64 (image_cell r)) s.rules)))))) settings_of_parts _ _ _ _ _ _ _ c.in_ok-settings.settings _ c.in_ok-settings.ensures
    (also_reads (image_marks rs) (also (flag c.args.version) (also (number w64) (also (list_of w32 (image_series c.args.version)) (along (λ (r : ImageRule). list_of w64 (image_cell r)) rs)))) marks_of_parts _ _ _ _ _ _ _ c.in_ok-marks.marks _ marks_read
    (also_reads (flag c.args.version) (also (number w64) (also (list_of w32 (image_series c.args.version)) (along (λ (r : ImageRule). list_of w64 (image_cell r)) rs))) so_many _ _ _ _ _ _ _ c.in_ok-runs.runs _ c.in_ok-runs.ensures
    (also_reads (number w64) (also (list_of w32 (image_series c.args.version)) (along (λ (r : ImageRule). list_of w64 (image_cell r)) rs)) so_many _ _ _ _ _ _ _ c.in_ok-accepted.accepted _ c.in_ok-accepted.ensures
    (also_reads (list_of w32 (image_series c.args.version)) (along (λ (r : ImageRule). list_of w64 (image_cell r)) rs) all_series_of all_cells_of _ _ _ _ _ _ c.in_ok-series.series c.in_ok-cells.cells c.in_ok-series.ensures cells_read)))))

pub returns-in_err-marks : goal.returns-in_err-marks
returns-in_err-marks g c =
    let p = err_from_is_err_and c.from_residual-in_err-marks.result c.from_residual-in_err-marks.ensures.1 in
    let rs = rules_of_parts c.in_ok-settings.settings.rules in
    let marks_read = subst (λ (l : List (RuleParts g.row.A.Denot)). ReadsField (image_marks (map rule_from_parts l)) (marks_of_parts {A = g.row.A.Denot}) c.read_settings.new.reader c.read_settings.new.source (faulty (MarksParts g.row.A.Denot) c.in_err-marks.field-0.0) c.read_marks.new.reader c.read_marks.new.source) c.deref.ensures.value c.in_err-marks.ensures in
    let e = c.in_err-marks.field-0.0 in
    rw (p.1, p.2)
    (reads_of (image c.args.version) image_of c.args.reader.now c.read_marks.new.reader c.args.source.now c.read_marks.new.source e
    (whole_stops _ _ _ c.args.reader.now c.read_marks.new.reader c.args.source.now c.read_marks.new.source e
    (then_stops image_settings (λ (s : ImageSettings). (also (image_marks s.rules) (also (flag c.args.version) (also (number w64) (also (list_of w32 (image_series c.args.version)) (along (λ (r : ImageRule). list_of w64 (image_cell r)) s.rules)))))) c.args.reader.now c.args.source.now settings_of_parts c.read_settings.new.reader c.read_marks.new.reader c.read_settings.new.source c.read_marks.new.source c.in_ok-settings.settings e c.in_ok-settings.ensures
    (first_stops (image_marks rs) (λ a. (also (flag c.args.version) (also (number w64) (also (list_of w32 (image_series c.args.version)) (along (λ (r : ImageRule). list_of w64 (image_cell r)) rs))))) c.read_settings.new.reader c.read_settings.new.source c.read_marks.new.reader c.read_marks.new.source e
    (stops_of (image_marks rs) marks_of_parts c.read_settings.new.reader c.read_marks.new.reader c.read_settings.new.source c.read_marks.new.source e marks_read)))))

pub returns-in_err-runs : goal.returns-in_err-runs
returns-in_err-runs g c =
    let p = err_from_is_err_and c.from_residual-in_err-runs.result c.from_residual-in_err-runs.ensures.1 in
    let rs = rules_of_parts c.in_ok-settings.settings.rules in
    let marks_read = subst (λ (l : List (RuleParts g.row.A.Denot)). ReadsField (image_marks (map rule_from_parts l)) (marks_of_parts {A = g.row.A.Denot}) c.read_settings.new.reader c.read_settings.new.source (fine c.in_ok-marks.marks) c.read_marks.new.reader c.read_marks.new.source) c.deref.ensures.value c.in_ok-marks.ensures in
    let e = c.in_err-runs.field-0.0 in
    rw (p.1, p.2)
    (reads_of (image c.args.version) image_of c.args.reader.now c.read_flag.new.reader c.args.source.now c.read_flag.new.source e
    (whole_stops _ _ _ c.args.reader.now c.read_flag.new.reader c.args.source.now c.read_flag.new.source e
    (then_stops image_settings (λ (s : ImageSettings). (also (image_marks s.rules) (also (flag c.args.version) (also (number w64) (also (list_of w32 (image_series c.args.version)) (along (λ (r : ImageRule). list_of w64 (image_cell r)) s.rules)))))) c.args.reader.now c.args.source.now settings_of_parts c.read_settings.new.reader c.read_flag.new.reader c.read_settings.new.source c.read_flag.new.source c.in_ok-settings.settings e c.in_ok-settings.ensures
    (then_stops (image_marks rs) (λ a. (also (flag c.args.version) (also (number w64) (also (list_of w32 (image_series c.args.version)) (along (λ (r : ImageRule). list_of w64 (image_cell r)) rs))))) c.read_settings.new.reader c.read_settings.new.source marks_of_parts c.read_marks.new.reader c.read_flag.new.reader c.read_marks.new.source c.read_flag.new.source c.in_ok-marks.marks e marks_read
    (first_stops (flag c.args.version) (λ a. (also (number w64) (also (list_of w32 (image_series c.args.version)) (along (λ (r : ImageRule). list_of w64 (image_cell r)) rs)))) c.read_marks.new.reader c.read_marks.new.source c.read_flag.new.reader c.read_flag.new.source e
    (stops_of (flag c.args.version) so_many c.read_marks.new.reader c.read_flag.new.reader c.read_marks.new.source c.read_flag.new.source e c.in_err-runs.ensures))))))

pub returns-in_err-accepted : goal.returns-in_err-accepted
returns-in_err-accepted g c =
    let p = err_from_is_err_and c.from_residual-in_err-accepted.result c.from_residual-in_err-accepted.ensures.1 in
    let rs = rules_of_parts c.in_ok-settings.settings.rules in
    let marks_read = subst (λ (l : List (RuleParts g.row.A.Denot)). ReadsField (image_marks (map rule_from_parts l)) (marks_of_parts {A = g.row.A.Denot}) c.read_settings.new.reader c.read_settings.new.source (fine c.in_ok-marks.marks) c.read_marks.new.reader c.read_marks.new.source) c.deref.ensures.value c.in_ok-marks.ensures in
    let e = c.in_err-accepted.field-0.0 in
    rw (p.1, p.2)
    (reads_of (image c.args.version) image_of c.args.reader.now c.u64.new.self c.args.source.now c.u64.new.source e
    (whole_stops _ _ _ c.args.reader.now c.u64.new.self c.args.source.now c.u64.new.source e
    (then_stops image_settings (λ (s : ImageSettings). (also (image_marks s.rules) (also (flag c.args.version) (also (number w64) (also (list_of w32 (image_series c.args.version)) (along (λ (r : ImageRule). list_of w64 (image_cell r)) s.rules)))))) c.args.reader.now c.args.source.now settings_of_parts c.read_settings.new.reader c.u64.new.self c.read_settings.new.source c.u64.new.source c.in_ok-settings.settings e c.in_ok-settings.ensures
    (then_stops (image_marks rs) (λ a. (also (flag c.args.version) (also (number w64) (also (list_of w32 (image_series c.args.version)) (along (λ (r : ImageRule). list_of w64 (image_cell r)) rs))))) c.read_settings.new.reader c.read_settings.new.source marks_of_parts c.read_marks.new.reader c.u64.new.self c.read_marks.new.source c.u64.new.source c.in_ok-marks.marks e marks_read
    (then_stops (flag c.args.version) (λ a. (also (number w64) (also (list_of w32 (image_series c.args.version)) (along (λ (r : ImageRule). list_of w64 (image_cell r)) rs)))) c.read_marks.new.reader c.read_marks.new.source so_many c.read_flag.new.reader c.u64.new.self c.read_flag.new.source c.u64.new.source c.in_ok-runs.runs e c.in_ok-runs.ensures
    (first_stops (number w64) (λ a. (also (list_of w32 (image_series c.args.version)) (along (λ (r : ImageRule). list_of w64 (image_cell r)) rs))) c.read_flag.new.reader c.read_flag.new.source c.u64.new.self c.u64.new.source e
    (stops_of (number w64) so_many c.read_flag.new.reader c.u64.new.self c.read_flag.new.source c.u64.new.source e c.in_err-accepted.ensures)))))))

pub returns-in_err-series : goal.returns-in_err-series
returns-in_err-series g c =
    let p = err_from_is_err_and c.from_residual-in_err-series.result c.from_residual-in_err-series.ensures.1 in
    let rs = rules_of_parts c.in_ok-settings.settings.rules in
    let marks_read = subst (λ (l : List (RuleParts g.row.A.Denot)). ReadsField (image_marks (map rule_from_parts l)) (marks_of_parts {A = g.row.A.Denot}) c.read_settings.new.reader c.read_settings.new.source (fine c.in_ok-marks.marks) c.read_marks.new.reader c.read_marks.new.source) c.deref.ensures.value c.in_ok-marks.ensures in
    let e = c.in_err-series.field-0.0 in
    rw (p.1, p.2)
    (reads_of (image c.args.version) image_of c.args.reader.now c.read_counted_series.new.reader c.args.source.now c.read_counted_series.new.source e
    (whole_stops _ _ _ c.args.reader.now c.read_counted_series.new.reader c.args.source.now c.read_counted_series.new.source e
    (then_stops image_settings (λ (s : ImageSettings). (also (image_marks s.rules) (also (flag c.args.version) (also (number w64) (also (list_of w32 (image_series c.args.version)) (along (λ (r : ImageRule). list_of w64 (image_cell r)) s.rules)))))) c.args.reader.now c.args.source.now settings_of_parts c.read_settings.new.reader c.read_counted_series.new.reader c.read_settings.new.source c.read_counted_series.new.source c.in_ok-settings.settings e c.in_ok-settings.ensures
    (then_stops (image_marks rs) (λ a. (also (flag c.args.version) (also (number w64) (also (list_of w32 (image_series c.args.version)) (along (λ (r : ImageRule). list_of w64 (image_cell r)) rs))))) c.read_settings.new.reader c.read_settings.new.source marks_of_parts c.read_marks.new.reader c.read_counted_series.new.reader c.read_marks.new.source c.read_counted_series.new.source c.in_ok-marks.marks e marks_read
    (then_stops (flag c.args.version) (λ a. (also (number w64) (also (list_of w32 (image_series c.args.version)) (along (λ (r : ImageRule). list_of w64 (image_cell r)) rs)))) c.read_marks.new.reader c.read_marks.new.source so_many c.read_flag.new.reader c.read_counted_series.new.reader c.read_flag.new.source c.read_counted_series.new.source c.in_ok-runs.runs e c.in_ok-runs.ensures
    (then_stops (number w64) (λ a. (also (list_of w32 (image_series c.args.version)) (along (λ (r : ImageRule). list_of w64 (image_cell r)) rs))) c.read_flag.new.reader c.read_flag.new.source so_many c.u64.new.self c.read_counted_series.new.reader c.u64.new.source c.read_counted_series.new.source c.in_ok-accepted.accepted e c.in_ok-accepted.ensures
    (first_stops (list_of w32 (image_series c.args.version)) (λ a. (along (λ (r : ImageRule). list_of w64 (image_cell r)) rs)) c.u64.new.self c.u64.new.source c.read_counted_series.new.reader c.read_counted_series.new.source e
    (stops_of (list_of w32 (image_series c.args.version)) all_series_of c.u64.new.self c.read_counted_series.new.reader c.u64.new.source c.read_counted_series.new.source e c.in_err-series.ensures))))))))

pub returns-in_err-cells : goal.returns-in_err-cells
returns-in_err-cells g c =
    let p = err_from_is_err_and c.from_residual-in_err-cells.result c.from_residual-in_err-cells.ensures.1 in
    let rs = rules_of_parts c.in_ok-settings.settings.rules in
    let marks_read = subst (λ (l : List (RuleParts g.row.A.Denot)). ReadsField (image_marks (map rule_from_parts l)) (marks_of_parts {A = g.row.A.Denot}) c.read_settings.new.reader c.read_settings.new.source (fine c.in_ok-marks.marks) c.read_marks.new.reader c.read_marks.new.source) c.deref.ensures.value c.in_ok-marks.ensures in
    let cells_read = subst (λ (l : List (RuleParts g.row.A.Denot)). ReadsField (along (λ (r : ImageRule). list_of w64 (image_cell r)) (map rule_from_parts l)) (all_cells_of {A = g.row.A.Denot}) c.read_counted_series.new.reader c.read_counted_series.new.source (faulty (Vec (Vec (CellParts g.row.A.Denot) g.row.A.Denot) g.row.A.Denot) c.in_err-cells.field-0.0) c.read_all_cells.new.reader c.read_all_cells.new.source) c.deref-2.ensures.value c.in_err-cells.ensures in
    let e = c.in_err-cells.field-0.0 in
    rw (p.1, p.2)
    (reads_of (image c.args.version) image_of c.args.reader.now c.read_all_cells.new.reader c.args.source.now c.read_all_cells.new.source e
    (whole_stops _ _ _ c.args.reader.now c.read_all_cells.new.reader c.args.source.now c.read_all_cells.new.source e
    (then_stops image_settings (λ (s : ImageSettings). (also (image_marks s.rules) (also (flag c.args.version) (also (number w64) (also (list_of w32 (image_series c.args.version)) (along (λ (r : ImageRule). list_of w64 (image_cell r)) s.rules)))))) c.args.reader.now c.args.source.now settings_of_parts c.read_settings.new.reader c.read_all_cells.new.reader c.read_settings.new.source c.read_all_cells.new.source c.in_ok-settings.settings e c.in_ok-settings.ensures
    (then_stops (image_marks rs) (λ a. (also (flag c.args.version) (also (number w64) (also (list_of w32 (image_series c.args.version)) (along (λ (r : ImageRule). list_of w64 (image_cell r)) rs))))) c.read_settings.new.reader c.read_settings.new.source marks_of_parts c.read_marks.new.reader c.read_all_cells.new.reader c.read_marks.new.source c.read_all_cells.new.source c.in_ok-marks.marks e marks_read
    (then_stops (flag c.args.version) (λ a. (also (number w64) (also (list_of w32 (image_series c.args.version)) (along (λ (r : ImageRule). list_of w64 (image_cell r)) rs)))) c.read_marks.new.reader c.read_marks.new.source so_many c.read_flag.new.reader c.read_all_cells.new.reader c.read_flag.new.source c.read_all_cells.new.source c.in_ok-runs.runs e c.in_ok-runs.ensures
    (then_stops (number w64) (λ a. (also (list_of w32 (image_series c.args.version)) (along (λ (r : ImageRule). list_of w64 (image_cell r)) rs))) c.read_flag.new.reader c.read_flag.new.source so_many c.u64.new.self c.read_all_cells.new.reader c.u64.new.source c.read_all_cells.new.source c.in_ok-accepted.accepted e c.in_ok-accepted.ensures
    (then_stops (list_of w32 (image_series c.args.version)) (λ a. (along (λ (r : ImageRule). list_of w64 (image_cell r)) rs)) c.u64.new.self c.u64.new.source all_series_of c.read_counted_series.new.reader c.read_all_cells.new.reader c.read_counted_series.new.source c.read_all_cells.new.source c.in_ok-series.series e c.in_ok-series.ensures
    (stops_of (along (λ (r : ImageRule). list_of w64 (image_cell r)) rs) all_cells_of c.read_counted_series.new.reader c.read_all_cells.new.reader c.read_counted_series.new.source c.read_all_cells.new.source e cells_read))))))))

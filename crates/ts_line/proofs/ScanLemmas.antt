-- One step of a scan.
use Rattle.std.proofs.Common.{◌≡◌, ℕ, ◌+◌, ◌<◌, ◌≤◌, ◌||◌, slice_range, Bool, true, false, cond, refl, eqb, [], ◌∷◌, length, get_or, drop, ap, ◌∙◌, arith}
use Rattle.std.specs.List.{list_any}
use Rattle.std.proofs.lemmas.List.{at_drop_more, at_drop_all}
use Rattle.std.proofs.lemmas.List.Folds.{list_any-append}
use Rattle.std.proofs.Math.Bool.{or-false}
use Rattle.std.proofs.lemmas.Bool.Decides.{nat_tests}
use Rattle.ts_core.proofs.lists.ListSteps.{slice_step}
use Rattle.ts_core.specs.facts.Facts.{Text}
use Rattle.ts_line.specs.declared.scan.Stops.{Stops}
use Rattle.ts_line.specs.declared.scan.Stops.TheVariants.{Space, Comma, Equals, Plain}
use Rattle.ts_line.specs.Scan.{is_stop, is_backslash, ends, part_len, spaces}
use Rattle.ts_line.specs.EscapeLaws.{unescaped_after, len_from}

pub part_len_step : (stops : Stops) (before : ℕ) (line : Text) (i : ℕ) → i < length line
    → part_len stops before (drop i line) ≡ cond (ends stops before (get_or line i 0)) 0 (part_len stops (get_or line i 0) (drop (i + 1) line) + 1)
part_len_step stops before line i lt = at_drop_more (part_len stops before) line i 0 lt

pub part_len_end : (stops : Stops) (before : ℕ) (line : Text) (i : ℕ) → length line ≤ i → part_len stops before (drop i line) ≡ 0
part_len_end stops before line i le = at_drop_all (part_len stops before) line i le

pub spaces_step : (line : Text) (i : ℕ) → i < length line
    → spaces (drop i line) ≡ cond (eqb (get_or line i 0) 32) (spaces (drop (i + 1) line) + 1) 0
spaces_step line i lt = at_drop_more spaces line i 0 lt

pub spaces_past : (line : Text) (i : ℕ) → length line ≤ i → spaces (drop i line) ≡ 0
spaces_past line i le = at_drop_all spaces line i le

stop_space : (before byte : ℕ) → ends Space before byte ≡ true → byte < 128
stop_space before byte e = grind (arith, nat_tests)

stop_comma : (before byte : ℕ) → ends Comma before byte ≡ true → byte < 128
stop_comma before byte e = grind (arith, nat_tests)

stop_equals : (before byte : ℕ) → ends Equals before byte ≡ true → byte < 128
stop_equals before byte e = grind (arith, nat_tests)

stop_plain : (byte : ℕ) → ends Plain 0 byte ≡ true → byte < 128
stop_plain byte e = grind (arith, nat_tests)

pub ends_ascii : (stops : Stops) (before byte : ℕ) → ends stops before byte ≡ true → byte < 128
ends_ascii Space before byte e = stop_space before byte e
ends_ascii Comma before byte e = stop_comma before byte e
ends_ascii Equals before byte e = stop_equals before byte e
ends_ascii Plain before byte e = stop_plain byte e

pub any_step : (p : ℕ → Bool) (line : Text) (from i : ℕ) → from ≤ i → i < length line → list_any p (slice_range line from (i + 1)) ≡ (list_any p (slice_range line from i) || p (get_or line i 0))
any_step p line from i le lt =
    ap (list_any p) (slice_step line from i le lt) ∙ list_any-append p (slice_range line from i) (get_or line i 0 ∷ [])
    ∙ ap (λ b. list_any p (slice_range line from i) || b) (or-false (p (get_or line i 0)))

-- ---- a part without a backslash so far

bare_by : (stops : Stops) (b : ℕ) (bs : Text) (rest n : ℕ) → is_stop stops b ≡ false → is_backslash b ≡ false → n ≡ cond (ends stops 0 b) 0 (part_len stops b bs + 1) → n ≡ part_len stops 0 bs + 1
bare_by stops b bs rest n stop slash e =
    let no : ends stops 0 b ≡ false = rw stop refl in
    let here : n ≡ part_len stops b bs + 1 = rw no at e in
    here ∙ ap (λ k. k + 1) (len_from stops b bs slash)

pub bare_step : (stops : Stops) (line : Text) (i : ℕ) → i < length line → is_stop stops (get_or line i 0) ≡ false → is_backslash (get_or line i 0) ≡ false
    → part_len stops 0 (drop i line) ≡ part_len stops 0 (drop (i + 1) line) + 1
bare_step stops line i lt stop slash = bare_by stops (get_or line i 0) (drop (i + 1) line) 0 (part_len stops 0 (drop i line)) stop slash (part_len_step stops 0 line i lt)

pub bare_end : (stops : Stops) (line : Text) (i : ℕ) → i < length line → is_stop stops (get_or line i 0) ≡ true → part_len stops 0 (drop i line) ≡ 0
bare_end stops line i lt stop = part_len_step stops 0 line i lt ∙ rw (stop, unescaped_after stops 0 refl) refl

pub stop_ascii : (stops : Stops) (byte : ℕ) → is_stop stops byte ≡ true → byte < 128
stop_ascii stops byte e = ends_ascii stops 0 byte (rw (e, unescaped_after stops 0 refl) refl)

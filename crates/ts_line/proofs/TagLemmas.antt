-- Tags without escapes, and steps of the loop over tags.
use Rattle.std.proofs.Common.{◌≡◌, ℕ, suc, ◌+◌, ◌-◌, ◌≤◌, false, eqb, List, [], ◌∷◌, ◌++◌, slice_index, slice_range, Result, Ok, Err, refl, sym, ap, ◌∙◌, arith}
use Rattle.std.specs.List.{list_any}
use Rattle.std.proofs.lemmas.Bool.Decides.{nat_tests}
use Rattle.ts_line.specs.declared.fault.LineFault.{LineFault}
use Rattle.ts_core.specs.facts.Facts.{Text}
use Rattle.ts_line.specs.Parts.{LinePart}
use Rattle.ts_line.specs.declared.fault.ReadLineError.{ReadLineError}
use Rattle.ts_line.specs.declared.fault.ReadLineError.TheVariants as errors
use Rattle.ts_line.specs.ReadSteps.{FailsIfMemory}
use Rattle.ts_line.specs.declared.scan.Stops.TheVariants.{Equals}
use Rattle.ts_line.specs.Scan.{is_stop}
use Rattle.ts_line.specs.PartTexts.{piece_at, plain_piece}
use Rattle.ts_line.specs.TagParts.{pair_at, next_tag, tags_at}
use Rattle.ts_line.proofs.PieceLemmas.{plain_is}

pub plain_pair : (line : Text) (start key_end end : ℕ) → pair_at line start ≡ Ok ((piece_at Equals line start key_end, piece_at Equals line (key_end + 1) end), end)
    → list_any (is_stop Equals) (slice_range line start key_end) ≡ false → list_any (is_stop Equals) (slice_range line (key_end + 1) end) ≡ false
    → pair_at line start ≡ Ok ((plain_piece line start key_end, plain_piece line (key_end + 1) end), end)
plain_pair line start key_end end read key value =
    read ∙ ap (λ (p : LinePart). Ok ((p, piece_at Equals line (key_end + 1) end), end)) (plain_is Equals line start key_end key)
    ∙ ap (λ (p : LinePart). Ok ((plain_piece line start key_end, p), end)) (plain_is Equals line (key_end + 1) end value)

pub tag_taken : (n : ℕ) (before : List (LinePart × LinePart)) (line : Text) (at : ℕ) (t : LinePart × LinePart) (end : ℕ) (total : Result (List (LinePart × LinePart) × ℕ) LineFault) → n ≤ 64 → slice_index line at ≡ 44
    → next_tag before line (at + 1) ≡ Ok (t, end) → tags_at (65 - n) before line at ≡ total → tags_at (65 - (n + 1)) (before ++ t ∷ []) line end ≡ total
unfolding tags_at
tag_taken n before line at t end total le comma read so_far =
    let k : 65 - n ≡ suc (65 - (n + 1)) = omega arith in
    let one : tags_at (65 - n) before line at ≡ tags_at (65 - (n + 1)) (before ++ t ∷ []) line end = rw (k, comma, read) refl in
    sym one ∙ so_far

pub tag_failed : (n : ℕ) (before : List (LinePart × LinePart)) (line : Text) (at : ℕ) (f : LineFault) (total : Result (List (LinePart × LinePart) × ℕ) LineFault) → n ≤ 64 → slice_index line at ≡ 44
    → next_tag before line (at + 1) ≡ Err f → tags_at (65 - n) before line at ≡ total → total ≡ Err f
unfolding tags_at
tag_failed n before line at f total le comma read so_far =
    let k : 65 - n ≡ suc (65 - (n + 1)) = omega arith in
    let one : tags_at (65 - n) before line at ≡ Err f = rw (k, comma, read) refl in
    sym so_far ∙ one

pub tags_ended : (n : ℕ) (before : List (LinePart × LinePart)) (line : Text) (at : ℕ) (total : Result (List (LinePart × LinePart) × ℕ) LineFault) → n ≤ 64 → (slice_index line at ≡ 44 → ⊥)
    → tags_at (65 - n) before line at ≡ total → total ≡ Ok (before, at)
unfolding tags_at
tags_ended n before line at total le comma so_far =
    let k : 65 - n ≡ suc (65 - (n + 1)) = omega arith in
    let one : tags_at (65 - n) before line at ≡ Ok (before, at) = let no : eqb (slice_index line at) 44 ≡ false = grind (arith, nat_tests) in rw (k, no) refl in
    sym so_far ∙ one

pub tag_fails : (n : ℕ) (before : List (LinePart × LinePart)) (line : Text) (at : ℕ) (e : ReadLineError) (total : Result (List (LinePart × LinePart) × ℕ) LineFault) → n ≤ 64 → slice_index line at ≡ 44
    → FailsIfMemory e (next_tag before line (at + 1)) → tags_at (65 - n) before line at ≡ total → FailsIfMemory e total
tag_fails n before line at errors.OutOfMemory total le comma read so_far = tt
tag_fails n before line at (errors.Fault f) total le comma read so_far = tag_failed n before line at f total le comma read so_far

-- Spelled parts: they are in the line, one after the other.
use Rattle.std.proofs.Common.{◌≡◌, ℕ, ℤ, ◌+◌, ◌≤◌, Bool, true, false, List, [], ◌∷◌, ◌++◌, length, map, drop, bytes_eq, refl, sym, ap, subst, ◌∙◌, arith, append_assoc, length-append, inl, inr, ◌⊎◌, ⊎_elim, Option, Some, None, IfSome, Result, Ok, Err, IfOk}
use Rattle.ts_core.specs.facts.Facts.{Text}
use Rattle.ts_line.specs.declared.fault.ReadLineError.{ReadLineError}
use Rattle.ts_line.specs.declared.scan.Stops.TheVariants.{Comma, Equals}
use Rattle.ts_line.specs.Parts.{LinePart, Parts}
use Rattle.ts_line.specs.Fields.{with_field}
use Rattle.ts_line.specs.Spelling.{written_piece, tags_text, tags_from, field_spelling, more_fields_text, field_from, with_fields, IsSpelling}
use Rattle.ts_line.specs.Spans.{IsPartOf, AreInOrder, tag_pieces, field_piece, pieces_of}
use Rattle.std.proofs.lemmas.List.{drop_at}
use Rattle.ts_line.proofs.TagsSpelled.{flat}
use Rattle.ts_line.proofs.Suffixes.{At, at_next, at_after, at_slice}

-- where the last of the parts ends
abbrev offset_end : ℕ → List LinePart → ℕ
offset_end n [] = n
offset_end n (p ∷ ps) = offset_end (p.start + length p.raw) ps

placed_both : (line : Text) (n m : ℕ) (xs ys : List LinePart) → AreInOrder line n xs → offset_end n xs ≤ m → AreInOrder line m ys → AreInOrder line n (xs ++ ys)
placed_both line n m [] [] a le b = tt
placed_both line n m [] (y ∷ ys) a le b = (omega (arith, le, b.0), b.1, b.2)
placed_both line n m (x ∷ xs) ys a le b = (a.0, a.1, placed_both line (x.start + length x.raw) m xs ys a.2 le b)

-- ---- tags

tags_placed : (ts : List (Text × Text)) (line rest : Text) (at : ℕ) → At line at (tags_text ts ++ rest) → AreInOrder line at (tag_pieces (tags_from at ts)) × (offset_end at (tag_pieces (tags_from at ts)) ≤ at + length (tags_text ts))
tags_placed [] line rest at h = (tt, omega arith)
tags_placed (t ∷ ts) line rest at h =
    let k = t.0 in
    let v = t.1 in
    let behind = tags_text ts ++ rest in
    let at_key : At line (at + 1) (k ++ (61 ∷ (v ++ behind))) = at_after line 44 (k ++ (61 ∷ (v ++ behind))) at (h ∙ ap (λ (x : Text). 44 ∷ x) (flat k v (tags_text ts) rest)) in
    let at_value : At line (at + 1 + length k + 1) (v ++ behind) = at_after line 61 (v ++ behind) (at + 1 + length k) (at_next line k (61 ∷ (v ++ behind)) (at + 1) at_key) in
    let at_behind : At line (at + 1 + length k + 1 + length v) behind = at_next line v behind (at + 1 + length k + 1) at_value in
    let later = tags_placed ts line rest (at + 1 + length k + 1 + length v) at_behind in (
      (omega arith, at_slice line k (61 ∷ (v ++ behind)) (at + 1) (at + 1 + length k) at_key refl, (omega arith, at_slice line v behind (at + 1 + length k + 1) (at + 1 + length k + 1 + length v) at_value refl, later.0)),
      omega (arith, later.1, length-append k (61 ∷ (v ++ tags_text ts)), length-append v (tags_text ts)),
    )

-- ---- fields

names_by : (b : Bool) (g f : LinePart × ℤ) (gs : List (LinePart × ℤ)) → bytes_eq g.0.text f.0.text ≡ b
    → ((map field_piece (with_field gs f) ≡ map field_piece gs) ⊎ (map field_piece (with_field gs f) ≡ map field_piece gs ++ f.0 ∷ []))
    → (map field_piece (with_field (g ∷ gs) f) ≡ map field_piece (g ∷ gs)) ⊎ (map field_piece (with_field (g ∷ gs) f) ≡ map field_piece (g ∷ gs) ++ f.0 ∷ [])
names_by true g f gs e ih = inl (rw e refl)
names_by false g f gs e ih =
    ⊎_elim (λ same. inl (rw e (ap (λ (ps : List LinePart). g.0 ∷ ps) same))) (λ more. inr (rw e (ap (λ (ps : List LinePart). g.0 ∷ ps) more))) ih

-- the names of fields stay, and a new one comes last
names_with : (fields : List (LinePart × ℤ)) (f : LinePart × ℤ) → (map field_piece (with_field fields f) ≡ map field_piece fields) ⊎ (map field_piece (with_field fields f) ≡ map field_piece fields ++ f.0 ∷ [])
names_with [] f = inr refl
names_with (g ∷ gs) f = names_by (bytes_eq g.0.text f.0.text) g f gs refl (names_with gs f)

end_push : (n : ℕ) (ps : List LinePart) (p : LinePart) → offset_end n (ps ++ p ∷ []) ≡ p.start + length p.raw
end_push n [] p = refl
end_push n (q ∷ ps) p = end_push (q.start + length q.raw) ps p

abbrev AreInOrderTo : Text → ℕ → List LinePart → ℕ → Type 0
AreInOrderTo line n ps end = AreInOrder line n ps × (offset_end n ps ≤ end)

with_placed : (line : Text) (n at : ℕ) (before : List (LinePart × ℤ)) (f : LinePart × ℤ) → AreInOrderTo line n (map field_piece before) at → at ≤ f.0.start → IsPartOf line f.0
    → AreInOrderTo line n (map field_piece (with_field before f)) (f.0.start + length f.0.raw)
with_placed line n at before f a le part =
    ⊎_elim {C = AreInOrderTo line n (map field_piece (with_field before f)) (f.0.start + length f.0.raw)}
    (λ same. subst (λ (ps : List LinePart). AreInOrderTo line n ps (f.0.start + length f.0.raw)) (sym same) (a.0, omega (arith, a.1, le)))
    (λ more. subst (λ (ps : List LinePart). AreInOrderTo line n ps (f.0.start + length f.0.raw)) (sym more)
    (placed_both line n f.0.start (map field_piece before) (f.0 ∷ []) a.0 (omega (arith, a.1, le)) (omega arith, part, tt), omega (arith, end_push n (map field_piece before) f.0)))
    (names_with before f)

fields_placed : (more : List (Text × Text)) (line rest : Text) (n at : ℕ) (before : List (LinePart × ℤ)) → At line at (more_fields_text more ++ rest) → AreInOrderTo line n (map field_piece before) at → AreInOrder line n (map field_piece (with_fields before at more))
fields_placed [] line rest n at before h a = a.0
fields_placed (f ∷ more) line rest n at before h a =
    let behind = more_fields_text more ++ rest in
    let at_field : At line (at + 1) (field_spelling f ++ behind) = at_after line 44 ((field_spelling f ++ more_fields_text more) ++ rest) at h ∙ append_assoc (field_spelling f) (more_fields_text more) rest in
    let at_key : At line (at + 1) (f.0 ++ ((61 ∷ (f.1 ++ (105 ∷ []))) ++ behind)) = at_field ∙ append_assoc f.0 (61 ∷ (f.1 ++ (105 ∷ []))) behind in
    let part : IsPartOf line (written_piece Equals (at + 1) f.0) = at_slice line f.0 ((61 ∷ (f.1 ++ (105 ∷ []))) ++ behind) (at + 1) (at + 1 + length f.0) at_key refl in
    let placed = with_placed line n at before (field_from (at + 1) f) a (omega arith) part in
    let end : at + 1 + length f.0 ≤ at + 1 + length (field_spelling f) = omega (arith, length-append f.0 (61 ∷ (f.1 ++ (105 ∷ [])))) in
    fields_placed more line rest n (at + 1 + length (field_spelling f)) (with_field before (field_from (at + 1) f)) (at_next line (field_spelling f) behind (at + 1) at_field) (placed.0, omega (arith, placed.1, end))

-- ---- all parts

placed_of : (unit now : ℤ) (source : Text) (parts : Parts) (p : IsSpelling unit now source parts) → AreInOrder source 0 (pieces_of (record {
  measurement = written_piece Comma (length p.before) p.measurement;
  tags = tags_from (length p.before + length p.measurement) p.tags;
  fields = with_fields (field_from (length p.before + length p.measurement + length (tags_text p.tags) + 1 + length p.gap) p.first ∷ [])
      (length p.before + length p.measurement + length (tags_text p.tags) + 1 + length p.gap + length (field_spelling p.first)) p.more;
  time = p.time;
}))
placed_of unit now source parts p =
    let n = length p.before in
    let m = n + length p.measurement in
    let t = m + length (tags_text p.tags) in
    let f = t + 1 + length p.gap in
    let after = p.stamp ++ (p.after ++ p.return) in
    let behind = (61 ∷ (p.first.1 ++ (105 ∷ []))) ++ (more_fields_text p.more ++ after) in
    let fields = field_spelling p.first ++ (more_fields_text p.more ++ after) in
    let rest = 32 ∷ (p.gap ++ fields) in
    let at_start : At source n (p.measurement ++ (tags_text p.tags ++ rest)) = ap (λ (l : Text). drop n l) p.spelled ∙ drop_at p.before (p.measurement ++ (tags_text p.tags ++ rest)) n refl in
    let at_tags : At source m (tags_text p.tags ++ rest) = at_next source p.measurement (tags_text p.tags ++ rest) n at_start in
    let at_rest : At source t rest = at_next source (tags_text p.tags) rest m at_tags in
    let at_fields : At source f fields = at_next source p.gap fields (t + 1) (at_after source 32 (p.gap ++ fields) t at_rest) in
    let at_key : At source f (p.first.0 ++ behind) = at_fields ∙ append_assoc p.first.0 (61 ∷ (p.first.1 ++ (105 ∷ []))) (more_fields_text p.more ++ after) in
    let at_more : At source (f + length (field_spelling p.first)) (more_fields_text p.more ++ after) = at_next source (field_spelling p.first) (more_fields_text p.more ++ after) f at_fields in
    let key : IsPartOf source (written_piece Equals f p.first.0) = at_slice source p.first.0 behind f (f + length p.first.0) at_key refl in
    let within : f + length p.first.0 ≤ f + length (field_spelling p.first) = omega (arith, length-append p.first.0 (61 ∷ (p.first.1 ++ (105 ∷ [])))) in
    let tags = tags_placed p.tags source rest m at_tags in
    let names = fields_placed p.more source after t (f + length (field_spelling p.first)) (field_from f p.first ∷ []) at_more ((omega arith, key, tt), within) in
    (omega arith, at_slice source p.measurement (tags_text p.tags ++ rest) n m at_start refl, placed_both source m t (tag_pieces (tags_from m p.tags)) (map field_piece (with_fields (field_from f p.first ∷ []) (f + length (field_spelling p.first)) p.more)) tags.0 tags.1 names)

pub spelling_placed : (unit now : ℤ) (source : Text) (parts : Parts) → IsSpelling unit now source parts → AreInOrder source 0 (pieces_of parts)
spelling_placed unit now source parts p = subst (λ (q : Parts). AreInOrder source 0 (pieces_of q)) (sym p.told) (placed_of unit now source parts p)

pub placed_by : (unit now : ℤ) (source : Text) (r : Result (Option Parts) ReadLineError) → IfOk r (λ o. IfSome o (IsSpelling unit now source)) → IfOk r (λ o. IfSome o (λ p. AreInOrder source 0 (pieces_of p)))
placed_by unit now source (Ok None) e = tt
placed_by unit now source (Ok (Some p)) e = spelling_placed unit now source p e
placed_by unit now source (Err f) e = tt

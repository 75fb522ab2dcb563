-- The offset at which a text stops being a certificate; the only reading of a certificate.
use Rattle.std.proofs.Common.{◌≡◌, ℕ, ◌+◌, ◌<◌, ◌≤◌, List, [], ◌∷◌, ◌++◌, length, take, drop, codes, refl, sym, ap, ◌∙◌, inl, inr, arith, append_assoc, append-nil, length-append, Result, Ok, Err, IfOk}
use Rattle.std.specs.List.{flat_map}
use Rattle.std.proofs.lemmas.List.{take-append-drop, length-take-le}
use Rattle.std.proofs.Math.Seq.{take-append_seam}
use Rattle.ts_core.specs.facts.Facts.{Text}
use Rattle.ts_core.specs.plans.Pieces.{Source, Raw, Rollup, Piece}
use Rattle.ts_check.specs.CertificateTexts.{HasSpelling, EachHasSpelling, source_text, range_text, piece_text, piece_line, certificate_text, IsCertificate, Beginning, NoLine, Open, Closed, beginning_pieces, beginning_text, BeginsWell, IsFirstBadLine, IsReadingOf, IsReadAs, IsOneCertificate}
use Rattle.ts_check.specs.CertificateLines.{Lacks, IsPiece, HasPiece, Stops, IsReadingIfMemory}
use Rattle.ts_check.specs.declared.certificate_fault.ReadCertificateError.{ReadCertificateError}
use Rattle.ts_check.specs.declared.certificate_fault.ReadCertificateError.TheVariants as errors
use Rattle.ts_check.proofs.CertificateTokens.{lacks_test, not_cut, cut_same, piece_lacks, same_piece}

abbrev lines : List Piece → Text
lines ps = flat_map piece_line ps

-- ---- lines after lines

not_end_by : (s : Source) (more rest : Text) → source_text s ++ more ≡ codes "end\n" ++ rest → ⊥
not_end_by Raw more rest e = let bad : ◌≡◌ {A = ℕ} 114 101 = cc in omega (arith, bad)
not_end_by (Rollup name) more rest e = let bad : ◌≡◌ {A = ℕ} 114 101 = cc in omega (arith, bad)

-- no piece's line begins as the last line does
pub not_end : (p : Piece) (more rest : Text) → piece_line p ++ more ≡ codes "end\n" ++ rest → ⊥
not_end p more rest e =
    not_end_by p.source ((codes " " ++ range_text p.from p.to) ++ (codes "\n" ++ more)) rest
    (sym (append_assoc (source_text p.source) (codes " " ++ range_text p.from p.to) (codes "\n" ++ more)) ∙ (sym (append_assoc (piece_text p) (codes "\n") more) ∙ e))

-- of two ways to begin a text with lines of pieces, one goes on where the other ends
pub lines_within : (ps qs : List Piece) (rest more : Text) → EachHasSpelling ps → EachHasSpelling qs → lines ps ++ rest ≡ lines qs ++ more → ((p : Piece) (m : Text) → HasPiece rest p m → ⊥)
    → length rest ≤ length more
lines_within ps [] rest more f g e none = omega (arith, ap length e, length-append (lines ps) rest)
lines_within [] (q ∷ qs) rest more f g e none = absurd (none q (lines qs ++ more) (record { has = g.0; spelled = e ∙ append_assoc (piece_line q) (lines qs) more }))
lines_within (p ∷ ps) (q ∷ qs) rest more f g e none =
    let tails = same_piece p q (lines ps ++ rest) (lines qs ++ more) f.0 g.0 (sym (append_assoc (piece_line p) (lines ps) rest) ∙ (e ∙ append_assoc (piece_line q) (lines qs) more)) in
    lines_within ps qs rest more f.1 g.1 tails.1 none

-- where the last line follows lines of pieces, these are the pieces
pub lines_ended : (ps qs : List Piece) (rest more : Text) → EachHasSpelling ps → EachHasSpelling qs → lines ps ++ rest ≡ lines qs ++ (codes "end\n" ++ more) → ((p : Piece) (m : Text) → HasPiece rest p m → ⊥)
    → (ps ≡ qs) × (rest ≡ codes "end\n" ++ more)
lines_ended [] [] rest more f g e none = (refl, e)
lines_ended (p ∷ ps) [] rest more f g e none = absurd (not_end p (lines ps ++ rest) more (sym (append_assoc (piece_line p) (lines ps) rest) ∙ e))
lines_ended [] (q ∷ qs) rest more f g e none =
    absurd (none q (lines qs ++ (codes "end\n" ++ more)) (record { has = g.0; spelled = e ∙ append_assoc (piece_line q) (lines qs) (codes "end\n" ++ more) }))
lines_ended (p ∷ ps) (q ∷ qs) rest more f g e none =
    let tails = same_piece p q (lines ps ++ rest) (lines qs ++ (codes "end\n" ++ more)) f.0 g.0 (sym (append_assoc (piece_line p) (lines ps) rest) ∙ (e ∙ append_assoc (piece_line q) (lines qs) (codes "end\n" ++ more))) in
    let others = lines_ended ps qs rest more f.1 g.1 tails.1 none in
    ((λ i. tails.0 i ∷ others.0 i), others.1)

-- ---- whole texts

-- text after the first line and the lines of pieces
abbrev pub behind : List Piece → Text → Text
behind ps rest = codes "plan 1\n" ++ (lines ps ++ rest)

same_behind : (ps qs : List Piece) (rest more : Text) → behind ps rest ≡ behind qs more → lines ps ++ rest ≡ lines qs ++ more
same_behind ps qs rest more e = cc

closed_behind : (ps : List Piece) (more : Text) → certificate_text ps ++ more ≡ behind ps (codes "end\n" ++ more)
closed_behind ps more = ap (λ (t : Text). codes "plan 1\n" ++ t) (append_assoc (lines ps) (codes "end\n") more)

pub one_certificate : IsOneCertificate
one_certificate ps qs more f g e =
    let whole = same_behind ps qs (codes "end\n" ++ more) (codes "end\n" ++ []) (sym (closed_behind ps more) ∙ (e ∙ ap (λ (t : Text). codes "plan 1\n" ++ t) refl)) in
    let told = lines_ended ps qs (codes "end\n" ++ more) [] f g whole (λ p m h. not_end p m more (sym h.spelled)) in
    let rest : more ≡ [] = let both = told.1 in cc in
    (told.0, rest)

pub same_certificate : (text : Text) (ps qs : List Piece) → IsCertificate text ps → IsCertificate text qs → ps ≡ qs
same_certificate text ps qs a b = (one_certificate ps qs [] a.each b.each (append-nil (certificate_text ps) ∙ (sym a.spelled ∙ b.spelled))).0

-- ---- the first fault

-- a text that stops a reading isn't a piece's line
stopped : (rest at : Text) → Stops rest at → (p : Piece) (m : Text) → HasPiece rest p m → ⊥
stopped rest at (inl off) p m h = off.0.no_piece p m h
stopped rest at (inr end) p m h = not_end p m at (sym h.spelled ∙ end.0)

stop_within : (rest at : Text) → Stops rest at → length at ≤ length rest
stop_within rest at (inl off) = omega (arith, ap length off.1)
stop_within rest at (inr end) = omega (arith, ap length end.0)

-- nor is it the last line
stop_last : (rest at more : Text) → Stops rest at → rest ≡ codes "end\n" ++ more → (more ≡ at) × (0 < length at)
stop_last rest at more (inl off) e = absurd (off.0.no_end more e)
stop_last rest at more (inr end) e = let one = end.0 in (cc, end.1)

first_by : (b : Beginning) (text rest at : Text) (front : List Piece) (n m : ℕ) → EachHasSpelling front → text ≡ behind front rest → Stops rest at → n + length at ≡ length text
    → EachHasSpelling (beginning_pieces b) → take m text ≡ beginning_text b → m ≤ length text → m ≤ n
first_by NoLine text rest at front n m f e s len each spelled within = omega (arith, ap length spelled, length-take-le m text within)
first_by (Open qs) text rest at front n m f e s len each spelled within =
    let more = drop m text in
    let whole : text ≡ behind qs more = sym (take-append-drop m text) ∙ ap (λ (t : Text). t ++ more) spelled in
    let short = lines_within front qs rest more f each (same_behind front qs rest more (sym e ∙ whole)) (stopped rest at s) in
    let cut : length text ≡ m + length more = ap length (sym (take-append-drop m text)) ∙ (length-append (take m text) more ∙ ap (λ (k : ℕ). k + length more) (length-take-le m text within)) in
    omega (arith, short, cut, len, stop_within rest at s)
first_by (Closed qs) text rest at front n m f e s len each spelled within =
    let more = drop m text in
    let whole : text ≡ behind qs (codes "end\n" ++ more) = sym (take-append-drop m text) ∙ (ap (λ (t : Text). t ++ more) spelled ∙ closed_behind qs more) in
    let told = lines_ended front qs rest more f each (same_behind front qs rest (codes "end\n" ++ more) (sym e ∙ whole)) (stopped rest at s) in
    let last = stop_last rest at more s told.1 in
    let cut : length text ≡ m + length more = ap length (sym (take-append-drop m text)) ∙ (length-append (take m text) more ∙ ap (λ (k : ℕ). k + length more) (length-take-le m text within)) in
    omega (arith, ap length last.0, cut, len)

seam : (xs ys text : Text) (n : ℕ) → text ≡ xs ++ ys → n + length ys ≡ length text → take n text ≡ xs
seam xs ys text n e len =
    let here : n ≡ length xs = omega (arith, ap length e, length-append xs ys, len) in
    ap (λ (k : ℕ). take k text) here ∙ (ap (λ (t : Text). take (length xs) t) e ∙ take-append_seam xs ys)

before_by : (text rest at : Text) (front : List Piece) (n : ℕ) → EachHasSpelling front → text ≡ behind front rest → Stops rest at → n + length at ≡ length text → BeginsWell text n
before_by text rest at front n f e (inl off) len = record {
  lines = Open front;
  each = f;
  spelled = seam (codes "plan 1\n" ++ lines front) at text n (e ∙ ap (λ (t : Text). behind front t) (sym off.1)) len;
  within = omega (arith, len);
}
before_by text rest at front n f e (inr end) len = record {
  lines = Closed front;
  each = f;
  spelled = seam (certificate_text front) at text n (e ∙ (ap (λ (t : Text). behind front t) end.0 ∙ sym (closed_behind front at))) len;
  within = omega (arith, len);
}

none_by : (text rest at : Text) (front qs : List Piece) → EachHasSpelling front → text ≡ behind front rest → Stops rest at → IsCertificate text qs → ⊥
none_by text rest at front qs f e s w =
    let whole = same_behind front qs rest (codes "end\n" ++ []) (sym e ∙ w.spelled) in
    let told = lines_ended front qs rest [] f w.each whole (stopped rest at s) in
    let last = stop_last rest at [] s told.1 in
    omega (arith, ap length last.0, last.1)

-- a reading that stops after the lines of some pieces stops at the first fault
pub stops_first : (text rest at : Text) (front : List Piece) (n : ℕ) → EachHasSpelling front → text ≡ behind front rest → Stops rest at → n + length at ≡ length text → IsFirstBadLine text n
stops_first text rest at front n f e s len = record {
  before = before_by text rest at front n f e s len;
  first = λ m w. first_by w.lines text rest at front n m f e s len w.each w.spelled w.within;
  none = λ qs w. none_by text rest at front qs f e s w;
}

-- ---- the first line

no_first_by : (b : Beginning) (text : Text) (m : ℕ) → ((more : Text) → text ≡ codes "plan 1\n" ++ more → ⊥) → take m text ≡ beginning_text b → m ≤ length text → m ≤ 0
no_first_by NoLine text m none spelled within = omega (arith, ap length spelled, length-take-le m text within)
no_first_by (Open qs) text m none spelled within = absurd (none (lines qs ++ drop m text) (sym (take-append-drop m text) ∙ ap (λ (t : Text). t ++ drop m text) spelled))
no_first_by (Closed qs) text m none spelled within =
    absurd (none ((lines qs ++ codes "end\n") ++ drop m text) (sym (take-append-drop m text) ∙ ap (λ (t : Text). t ++ drop m text) spelled))

-- where the first line isn't there, it is at fault
pub no_first : (text : Text) → ((more : Text) → text ≡ codes "plan 1\n" ++ more → ⊥) → IsFirstBadLine text 0
no_first text none = record {
  before = record { lines = NoLine; each = tt; spelled = refl; within = omega arith };
  first = λ m w. no_first_by w.lines text m none w.spelled w.within;
  none = λ qs w. none (lines qs ++ codes "end\n") w.spelled;
}

-- ---- one line

pub uncut_first : (text : Text) → Lacks 10 text → IsFirstBadLine text 0
uncut_first text l = no_first text (λ more e. not_cut 10 text (codes "plan 1") more l e)

pub other_first : (text line rest : Text) → text ≡ line ++ (10 ∷ rest) → Lacks 10 line → (line ≡ codes "plan 1" → ⊥) → IsFirstBadLine text 0
other_first text line rest e l other = no_first text (λ more f. other (cut_same 10 line (codes "plan 1") rest more l (lacks_test 10 (codes "plan 1") refl) (sym e ∙ f)).0)

-- the line of a piece is cut after its text
line_cut : (text more : Text) (p : Piece) → HasPiece text p more → text ≡ piece_text p ++ (10 ∷ more)
line_cut text more p h = h.spelled ∙ append_assoc (piece_text p) (10 ∷ []) more

pub uncut_stops : (rest : Text) → Lacks 10 rest → Stops rest rest
uncut_stops rest l =
    inl (record { no_piece = λ p more h. not_cut 10 rest (piece_text p) more l (line_cut rest more p h); no_end = λ more e. not_cut 10 rest (codes "end") more l e }, refl)

pub other_stops : (rest line behind : Text) → rest ≡ line ++ (10 ∷ behind) → Lacks 10 line → (line ≡ codes "end" → ⊥) → ((p : Piece) → IsPiece line p → ⊥) → Stops rest rest
other_stops rest line behind e l other none =
    inl (
      record {
        no_piece = λ p more h. none p (record { has = h.has; spelled = (cut_same 10 line (piece_text p) behind more l (piece_lacks p h.has) (sym e ∙ line_cut rest more p h)).0 });
        no_end = λ more f. other (cut_same 10 line (codes "end") behind more l (lacks_test 10 (codes "end") refl) (sym e ∙ f)).0;
      },
      refl,
    )

-- ---- one more piece

each_more : (front : List Piece) (p : Piece) → EachHasSpelling front → HasSpelling p → EachHasSpelling (front ++ (p ∷ []))
each_more [] p f h = (h, tt)
each_more (q ∷ front) p f h = (f.0, each_more front p f.1 h)

lines_more : (front : List Piece) (p : Piece) (rest more : Text) → rest ≡ piece_line p ++ more → lines front ++ rest ≡ lines (front ++ (p ∷ [])) ++ more
lines_more [] p rest more e = e ∙ ap (λ (t : Text). t ++ more) (sym (append-nil (piece_line p)))
lines_more (q ∷ front) p rest more e =
    append_assoc (piece_line q) (lines front) rest ∙ (ap (λ (t : Text). piece_line q ++ t) (lines_more front p rest more e) ∙ sym (append_assoc (piece_line q) (lines (front ++ (p ∷ []))) more))

-- where a reading is: after the first line and the lines of pieces
pub record IsBehind (text : Text) (front : List Piece) (rest : Text) : Type 0 where
  pub each : EachHasSpelling front
  pub spelled : text ≡ behind front rest

pub behind_first : (text rest : Text) → text ≡ codes "plan 1\n" ++ rest → IsBehind text [] rest
behind_first text rest e = record { each = tt; spelled = e }

pub one_more : (text : Text) (front : List Piece) (p : Piece) (rest more : Text) → IsBehind text front rest → HasPiece rest p more → IsBehind text (front ++ (p ∷ [])) more
one_more text front p rest more b h = record {
  each = each_more front p b.each h.has;
  spelled = b.spelled ∙ ap (λ (t : Text). codes "plan 1\n" ++ t) (lines_more front p rest more h.spelled);
}

pub shorter : (rest more : Text) (p : Piece) → HasPiece rest p more → length more < length rest
shorter rest more p h = let line = line_cut rest more p h in omega (arith, ap length line, length-append (piece_text p) (10 ∷ more))

pub behind_last : (text : Text) (front : List Piece) (rest : Text) → IsBehind text front rest → rest ≡ codes "end\n" → IsCertificate text front
behind_last text front rest b e = record { each = b.each; spelled = b.spelled ∙ ap (λ (t : Text). behind front t) e }

pub behind_stop : (text : Text) (front : List Piece) (rest at : Text) (n : ℕ) → IsBehind text front rest → Stops rest at → n + length at ≡ length text → IsFirstBadLine text n
behind_stop text front rest at n b s len = stops_first text rest at front n b.each b.spelled s len

-- ---- answers

pub reading : (text : Text) (r : Result (List Piece) ReadCertificateError) → (ps : List Piece) × IsCertificate text ps → IsReadingIfMemory text r → IsReadingOf text r
reading text (Ok ps) some h = h
reading text (Err (errors.Fault fault)) some h = h
reading text (Err errors.OutOfMemory) some h = some

pub read_as : (text : Text) (r : Result (List Piece) ReadCertificateError) → IsReadingIfMemory text r → (ps : List Piece) → IsCertificate text ps → IsReadAs ps r
read_as text (Ok qs) h ps w = same_certificate text qs ps h w
read_as text (Err (errors.Fault fault)) h ps w = absurd (h.none ps w)
read_as text (Err errors.OutOfMemory) h ps w = refl

-- each result has a spelling
pub read_spelled : (text : Text) (r : Result (List Piece) ReadCertificateError) → IsReadingIfMemory text r → IfOk r EachHasSpelling
read_spelled text (Ok ps) h = h.each
read_spelled text (Err e) h = tt

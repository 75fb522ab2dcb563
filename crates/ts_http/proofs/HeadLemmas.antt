-- Heads of a request, as more bytes are read.
use Rattle.std.proofs.Common.{◌≡◌, ℕ, ◌≤◌, ◌<◌, List, [], ◌∷◌, ◌++◌, length, take, map, Option, Some, None, unwrap_or, zero, suc, refl, sym, ap, ◌∙◌, subst, arith, append_assoc, append-nil}
use Rattle.std.proofs.lemmas.List.{drop-append-le, length-append}
use Rattle.std.proofs.Math.Seq.{take-append_seam}
use Rattle.std.proofs.lemmas.Grind.{common_steps}
use Rattle.std.specs.Io.KnownBytes.{IsAtEnd}
use Rattle.httparse.specs.Grammar.{RequestHead, ReadsRequest, HasNoRequest, NeverHasRequest}
use Rattle.httparse.specs.Spans.{IsRequestOf, IsRequestWithin, RequestOverflows, RequestExceeds, header_bytes, name_and_value}
use Rattle.httparse.specs.declared.spans.HeaderSpan.{HeaderSpan}
use Rattle.httparse.specs.declared.spans.RequestSpans.{RequestSpans}
use Rattle.httparse.proofs.GrammarLemmas.{ReadsRequest-append}
use Rattle.ts_core.specs.facts.Facts.{Text}
use Rattle.ts_core.specs.io.Devices.{Input}
use Rattle.ts_http.specs.Heads.{head_limit, field_limit, IsUnfinishedHead, ReadsHead, Fault}
use Rattle.ts_http.specs.declared.head.HeadFault.TheVariants.{EndsEarly, TooLarge, Malformed}
use Rattle.ts_http.specs.declared.head.HeadRead.{HeadRead}
use Rattle.ts_http.specs.declared.head.HeadRead.TheVariants as read
use Rattle.ts_http.specs.HeadsRead.{request_of, TellsHead, TellsFront, IfWhole}

pub never-append : (came more : Text) → NeverHasRequest came → NeverHasRequest (came ++ more)
never-append came more never others = subst HasNoRequest (sym (append_assoc came more others)) (never (more ++ others))

pub overflows-append : (buffer : ℕ) (came more : Text) → RequestOverflows buffer came → RequestOverflows buffer (came ++ more)
overflows-append buffer came more over others h rest reads =
    over (more ++ others) h rest (subst (λ (b : Text). ReadsRequest b h rest) (append_assoc came more others) reads)

pub exceeds-append : (buffer : ℕ) (came more : Text) → RequestExceeds buffer came → RequestExceeds buffer (came ++ more)
exceeds-append buffer came more x = (x.0, x.1 ++ more, ap (λ (b : Text). b ++ more) x.2 ∙ append_assoc x.0 x.1 more, x.3, x.4, x.5)

-- no more fields than there are spans
few_fields : (came : Text) (spans : List HeaderSpan) (count : ℕ) (h : RequestHead) → map (header_bytes came) (take count spans) ≡ map name_and_value h.fields → length h.fields ≤ length spans
few_fields came spans count h e = grind (arith, common_steps, ap length e)

pub whole_found : (came more : Text) (spans : List HeaderSpan) (found : RequestSpans) → length came ≤ head_limit → length spans ≡ field_limit → IsRequestWithin came spans found → IsRequestOf came spans found
    → TellsHead (came ++ more) came spans (read.Whole found)
whole_found came more spans found short few within (h, at) = (
  within,
  (
    h,
    at,
    record {
      reads = subst (ReadsRequest (came ++ more) h) (sym (drop-append-le found.len came more within.section.len_fits)) (ReadsRequest-append came h _ more at.reads);
      short = omega (arith, at.len, within.section.len_fits, short);
      few = omega (arith, few_fields came spans found.headers h at.fields, few);
    },
  ),
)

pub front_told : (came more : Text) (spans : List HeaderSpan) (head : HeadRead) → length came ≤ head_limit → length spans ≡ field_limit → TellsFront came spans (Some head) → TellsHead (came ++ more) came spans head
front_told came more spans read.Nothing short few t = absurd t
front_told came more spans (read.Whole found) short few t = whole_found came more spans found short few t.0 t.1
front_told came more spans (read.Fault EndsEarly) short few t = absurd t
front_told came more spans (read.Fault TooLarge) short few t = ReadsHead.too_many (exceeds-append field_limit came more t.0) (overflows-append field_limit came more t.1)
front_told came more spans (read.Fault Malformed) short few t = ReadsHead.malformed (never-append came more t)

pub too_long_told : (came more : Text) (spans : List HeaderSpan) → length came ≡ head_limit → IsUnfinishedHead came → TellsHead (came ++ more) came spans (read.Fault TooLarge)
too_long_told came more spans long unfinished =
    let front : take head_limit (came ++ more) ≡ came = ap (λ (n : ℕ). take n (came ++ more)) (sym long) ∙ take-append_seam came more in
    ReadsHead.too_long (omega (arith, length-append came more, long)) (subst IsUnfinishedHead (sym front) unfinished)

-- no bytes are left after those that came
all_came : (came : Text) (left : Option Text) → IsAtEnd left → came ++ unwrap_or left [] ≡ came
all_came came None end = append-nil came
all_came came (Some xs) end = ap (λ (l : Text). came ++ l) end ∙ append-nil came

empty_is : (came : Text) → length came ≡ 0 → came ≡ []
empty_is [] e = refl
empty_is (b ∷ bs) e = absurd cc

pub if_whole : (head : HeadRead) (P : Type 0) → P → IfWhole head P
if_whole read.Nothing P p = tt
if_whole (read.Fault fault) P p = tt
if_whole (read.Whole found) P p = p

pub end_whole : (count : ℕ) (head : HeadRead) (P : Type 0) → (count ≡ 0 → head ≡ read.Nothing) → (0 < count → head ≡ read.Fault EndsEarly) → IfWhole head P
end_whole zero head P none some = subst (λ (h : HeadRead). IfWhole h P) (sym (none refl)) tt
end_whole (suc k) head P none some = subst (λ (h : HeadRead). IfWhole h P) (sym (some (omega arith))) tt

-- the input has ended after the bytes that came
pub end_told : (came : Text) (count : ℕ) (new : Input) (spans : List HeaderSpan) (head : HeadRead) → length came ≡ count → count < head_limit → (0 < count → IsUnfinishedHead came) → IsAtEnd new.remaining
    → (count ≡ 0 → head ≡ read.Nothing) → (0 < count → head ≡ read.Fault EndsEarly) → TellsHead (request_of came new) came spans head
end_told came zero new spans head size short unfinished end none some =
    subst (TellsHead (request_of came new) came spans) (sym (none refl)) (ReadsHead.nothing (all_came came new.remaining end ∙ empty_is came size))
end_told came (suc k) new spans head size short unfinished end none some =
    let all = all_came came new.remaining end in
    subst (TellsHead (request_of came new) came spans) (sym (some (omega arith)))
    (subst (λ (b : Text). ReadsHead b (Fault EndsEarly)) (sym all) (ReadsHead.ends_early (λ none. absurd (let z : 0 ≡ suc k = ap length (sym none) ∙ size in cc)) (omega (arith, size, short)) (unfinished (omega arith))))

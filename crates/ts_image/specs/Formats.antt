-- Formats: values as fields, which are read from left to right up to the first field that isn't whole. The format of a
-- record is composed of the formats of its parts, so laws are proved once per way of composing. (Own rules.)
use Rattle.std.specs.Prelude.{◌≡◌, ℕ, ◌+◌, ◌<◌, ◌^◌, ℤ, Bool, false, nat_lt, List, [], ◌∷◌, ◌++◌, length, take, drop, replicate, Result, Ok, Err, ◌==◌, if◌then◌else◌, FitsSigned}
use Rattle.std.specs.List.{AllZip, concat, flat_map, zip}
use Rattle.std.specs.Int.{Width, w64, byte_len, cast_unsigned, cast_signed, to_be_bytes, from_be_bytes}
use mir.Val.{bits}
use Rattle.std.specs.Str.{IsUtf8, is_utf8}
use Rattle.ts_core.specs.facts.Facts.{Text}
use Rattle.ts_core.specs.text.Steps.{◌>>=◌}

-- a position in bytes: its offset, and the bytes from there on
pub record Cursor : Type 0 where
  pub at : ℕ
  pub rest : List ℕ

-- n bytes further
abbrev pub advanced : ℕ → Cursor → Cursor
advanced n p = record { at = p.at + n; rest = drop n p.rest }

-- a reading: a value and the position after it, or the offset of the first field that isn't whole
abbrev pub Read : Type 0 → Type 0
Read X = Result (X × Cursor) ℕ

-- the values that have a spelling, their fields, and the reading at a position
pub record Format (X : Type 0) : Type 1 where
  pub fits : X → Type 0
  pub fields : X → List (List ℕ)
  pub read : Cursor → Read X

-- the bytes of all fields of a value
abbrev pub spelling : {X : Type 0} → Format X → X → List ℕ
spelling f x = concat (f.fields x)

-- ---- one field

abbrev pub read_number : Width → Cursor → Read ℕ
read_number w p = if nat_lt (length p.rest) (byte_len w)
    then Err p.at else Ok (from_be_bytes w (take (byte_len w) p.rest), advanced (byte_len w) p)

-- an unsigned number, its highest byte first
abbrev pub number : Width → Format ℕ
number w = record { fits = λ n. n < 2 ^ bits w; fields = λ n. to_be_bytes w n ∷ []; read = read_number w }

-- a signed number, in two's complement
abbrev pub signed_number : Width → Format ℤ
signed_number w = record {
  fits = FitsSigned w;
  fields = λ z. to_be_bytes w (cast_unsigned w z) ∷ [];
  read = λ p. read_number w p >>= λ n. Ok (cast_signed w n.0, n.1);
}

-- n bytes are there, and they are UTF-8
abbrev pub is_text : ℕ → List ℕ → Bool
is_text n bytes = if nat_lt (length bytes) n then false else is_utf8 (take n bytes)

abbrev pub read_text : Cursor → ℕ × Cursor → Read Text
read_text p n = if is_text n.0 n.1.rest then Ok (take n.0 n.1.rest, advanced n.0 n.1) else Err p.at

-- a text: its length, and its UTF-8 bytes. The two are one field
abbrev pub text : Format Text
text = record {
  fits = λ t. IsUtf8 t × (length t < 2 ^ 64);
  fields = λ t. (to_be_bytes w64 (length t) ++ t) ∷ [];
  read = λ p. read_number w64 p >>= read_text p;
}

-- no field: always this value
abbrev pub nothing : {X : Type 0} → X → Format X
nothing x = record { fits = λ y. y ≡ x; fields = λ y. []; read = λ p. Ok (x, p) }

-- ---- several fields

-- a pair: the format of the second may depend on the first
abbrev pub and : {A B : Type 0} → Format A → (A → Format B) → Format (A × B)
and f g = record {
  fits = λ x. f.fits x.0 × (g x.0).fits x.1;
  fields = λ x. f.fields x.0 ++ (g x.0).fields x.1;
  read = λ p. f.read p >>= λ a. (g a.0).read a.1 >>= λ b. Ok ((a.0, b.0), b.1);
}

-- the same fields for another type, converted there and back
abbrev pub iso : {A X : Type 0} → Format A → (A → X) → (X → A) → Format X
iso f to from = record {
  fits = λ x. f.fits (from x);
  fields = λ x. f.fields (from x);
  read = λ p. f.read p >>= λ a. Ok (to a.0, a.1);
}

abbrev pub read_along : {X Y : Type 0} → (Y → Format X) → List Y → Cursor → Read (List X)
read_along f [] p = Ok ([], p)
read_along f (y ∷ ys) p = (f y).read p >>= λ x. read_along f ys x.1 >>= λ xs. Ok (x.0 ∷ xs.0, xs.1)

-- a value per member of a list, which its format may depend on
abbrev pub along : {X Y : Type 0} → (Y → Format X) → List Y → Format (List X)
along {X} {Y} f ys = record {
  fits = AllZip (λ y. (f y).fits) ys;
  fields = λ xs. flat_map (λ (p : Y × X). (f p.0).fields p.1) (zip ys xs);
  read = read_along f ys;
}

-- n values
abbrev pub times : {X : Type 0} → ℕ → Format X → Format (List X)
times n f = along (λ (i : ℕ). f) (replicate n 0)

-- a list: its length and its members
abbrev pub list_of : {X : Type 0} → Width → Format X → Format (List X)
list_of w f = iso (and (number w) (λ n. times n f)) (λ a. a.1) (λ xs. (length xs, xs))

-- a pair of independent parts
abbrev pub also : {A B : Type 0} → Format A → Format B → Format (A × B)
also f g = and f (λ a. g)

-- no byte may follow the value; the first that does is at fault
abbrev pub at_end : {X : Type 0} → X × Cursor → Result X ℕ
at_end x = if length x.1.rest == 0 then Ok x.0 else Err x.1.at

abbrev pub whole_reading : {X : Type 0} → Read X → Result X ℕ
whole_reading (Ok x) = at_end x
whole_reading (Err n) = Err n

abbrev pub read_whole : {X : Type 0} → Format X → Cursor → Result X ℕ
read_whole f p = whole_reading (f.read p)

-- Laws of formats: reading and spelling are inverse, and no value's fields reach further than reading. (Own rules.)
use Rattle.std.specs.Prelude.{◌≡◌, ℕ, ◌+◌, ◌<◌, ◌≤◌, List, ◌++◌, length, get_or, Result, Ok, Err, IfOk, IfErr}
use Rattle.std.specs.List.{concat}
use Rattle.ts_image.specs.Formats.{Cursor, Read, Format, spelling}

-- each number is below 256
abbrev pub AreBytes : List ℕ → Type 0
AreBytes bytes = (i : ℕ) → get_or bytes i 0 < 256

-- the offset where reading stops: after the value, or at the first field that isn't whole
abbrev pub reach : {X : Type 0} → Read X → ℕ
reach (Ok x) = x.1.at
reach (Err n) = n

-- the value is at a position, and the other position is after it
pub record ReadsValue {X : Type 0} (f : Format X) (p : Cursor) (x : X) (q : Cursor) : Type 0 where
  pub fits : f.fits x
  pub rest : p.rest ≡ spelling f x ++ q.rest
  pub at : q.at ≡ p.at + length (spelling f x)

-- the first fields of some value are whole from this position up to this offset
pub record Reaches {X : Type 0} (f : Format X) (p : Cursor) (n : ℕ) : Type 0 where
  pub value : X
  pub fits : f.fits value
  pub before : List (List ℕ)
  pub after : List (List ℕ)
  pub fields : f.fields value ≡ before ++ after
  pub rest : List ℕ
  pub bytes : p.rest ≡ concat before ++ rest
  pub at : n ≡ p.at + length (concat before)

pub record IsFormat {X : Type 0} (f : Format X) : Type 0 where
  -- some value has a spelling
  pub some : X
  pub some_fits : f.fits some
  pub reads_value : (p q : Cursor) (x : X) → AreBytes p.rest → f.read p ≡ Ok (x, q) → ReadsValue f p x q
  pub again : (p : Cursor) (x : X) (rest : List ℕ) → f.fits x
      → p.rest ≡ spelling f x ++ rest → f.read p ≡ Ok (x, record { at = p.at + length (spelling f x); rest = rest })
  pub fails : (p : Cursor) (n : ℕ) → AreBytes p.rest → f.read p ≡ Err n → Reaches f p n
  pub bound : (p : Cursor) (n : ℕ) → Reaches f p n → n ≤ reach (f.read p)

-- ---- all of the bytes

-- The bytes from a position on spell no value. The first field at fault is at this offset: up to it some value's fields
-- are whole, and no value's whole fields reach further.
pub record IsMisshapen {X : Type 0} (f : Format X) (p : Cursor) (n : ℕ) : Type 0 where
  pub none : (x : X) → f.fits x → p.rest ≡ spelling f x → ⊥
  pub reached : Reaches f p n
  pub furthest : (m : ℕ) → Reaches f p m → m ≤ n

-- each spelling is read as its value and nothing else; other bytes give the offset where they are misshapen
pub record IsExact {X : Type 0} (f : Format X) (p : Cursor) (read : Result X ℕ) : Type 0 where
  pub found : IfOk read (λ x. f.fits x × (p.rest ≡ spelling f x))
  pub only : (x : X) → f.fits x → p.rest ≡ spelling f x → read ≡ Ok x
  pub fault : IfErr read (IsMisshapen f p)

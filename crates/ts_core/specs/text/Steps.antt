-- Steps of a reading, each of which may fail. (Own rule.)
use Rattle.std.specs.Prelude.{Result, Ok, Err}

-- a step, and the next one if it doesn't fail
infixl 10 ◌>>=◌
abbrev pub ◌>>=◌ : {A B E : Type 0} → Result A E → (A → Result B E) → Result B E
(Ok x) >>= f = f x
(Err e) >>= f = Err e

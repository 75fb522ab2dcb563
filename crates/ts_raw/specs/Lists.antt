-- Lists of lists. (Own rule.)
use Rattle.std.specs.Prelude.{List, map, Vec}

abbrev pub lists_of : {X A : Type 0} → List (Vec X A) → List (List X)
lists_of vs = map (λ v. v.items) vs

-- Values of borrowed texts. (Own rule.)
use Rattle.std.specs.Prelude.{List, map}
use Rattle.std.specs.Borrow.{Bor}

abbrev pub borrowed : {X : Type 0} → List (Bor X) → List X
borrowed {X} xs = map (λ (x : Bor X). x.now) xs

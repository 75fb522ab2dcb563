-- Rules and settings created from their parts in an image. (Own rules.)
use Rattle.std.specs.Prelude.{◌≡◌, ◌↔◌, List, Vec, Option, IsSome, IfSome}

-- a value is created exactly if it is possible, and is this one then
pub record IsMadeIf {X : Type 0} (possible : Type 0) (value : X) (made : Option X) : Type 0 where
  pub some : IsSome made ↔ possible
  pub is : IfSome made (λ x. x ≡ value)

-- the same of a list
pub record AreMadeIf {X A : Type 0} (possible : Type 0) (values : List X) (made : Option (Vec X A)) : Type 0 where
  pub some : IsSome made ↔ possible
  pub are : IfSome made (λ v. v.items ≡ values)

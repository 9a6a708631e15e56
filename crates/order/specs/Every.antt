-- A property of every member of a list that is written out, shown member by member.
use Rattle.std.specs.Prelude.{List, [], ◌∷◌}

-- every member has the property
infixr 5 ◌▸◌
pub data Every {A : Type 0} (P : A → Type 0) : List A → Type 0 where
  done : Every P []
  ◌▸◌ : {x : A} {l : List A} → P x → Every P l → Every P (x ∷ l)

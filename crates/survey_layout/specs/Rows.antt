-- The layout that a table has for a survey: its first row that passes a test, or else the old one.
use Rattle.std.specs.Prelude.{Bool, true, false, cond, ℕ, List, [], ◌∷◌, ◌≡◌, refl}
use Rattle.std.specs.Option.{unwrap_or}
use Rattle.std.specs.List.{find}
use Rattle.std.specs.Prelude.{Some}
use Rattle.network.specs.Survey.{layout_of, plain, row_where}
use Rattle.network.specs.Layouts.{Roomy}
use Rattle.network.proofs.Layouts.{layout-roomy}
use Rattle.network.specs.declared.Layout.{Layout}

-- a search through the rows of a table finds it
pub row-found : (p : Layout → Bool) (ls : List Layout) → unwrap_or (find p ls) plain ≡ row_where p ls
unfolding row_where
row-found p [] = refl
row-found p (l ∷ ls) = pick (p l) (row-found p ls)
  where
    pick : (b : Bool) → unwrap_or (find p ls) plain ≡ row_where p ls → unwrap_or (cond b (Some l) (find p ls)) plain ≡ cond b l (row_where p ls)
    pick true e = refl
    pick false e = e

-- a layout that is found has its room
pub found-roomy : (s : List ℕ) (l : Layout) → l ≡ layout_of s → (l ≡ layout_of s) × Roomy l
found-roomy s l e = (e, rw e (layout-roomy s))

-- A property of every member of a list that is written out, shown member by member.
use mathlib.Core.List.Memᴰ
use Rattle.std.specs.Prelude.{List}
use Rattle.std.proofs.Common.{⊎_elim}
use Rattle.std.proofs.Math.Path.{subst⁻¹}
use Rattle.order.specs.Lists.{◌∈◌}
use Rattle.order.specs.Every.{Every, done, ◌▸◌}

pub every : {A : Type 0} (P : A → Type 0) {l : List A} → Every P l → (x : A) → x ∈ l → P x
every P done x m = absurd (Memᴰ.not-nil m)
every P (h ▸ r) x m = ⊎_elim (λ q. subst⁻¹ P q h) (λ n. every P r x n) (Memᴰ.cases_cons m)

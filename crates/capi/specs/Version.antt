-- The version of the calls that C sees.
use Rattle.std.specs.Prelude.{ℕ}

-- it changes whenever a struct, a call or the meaning of a reply does
abbrev pub version : ℕ
version = 9

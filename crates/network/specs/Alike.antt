-- Two surveys that get the same refusal or none, and have the same network, get the same replies from judge, best and list, and have the
-- same trees and lists left in their buffers.
use Rattle.std.specs.Prelude.{ℕ, ◌≡◌, List, ℤ}
use Rattle.network.specs.Calls.{asked, judged, list_after, list_status, tree_after}

pub record Alike (s s' : List ℕ) : Type 0 where
  pub judge : (drawn : List ℕ) → judged s' drawn ≡ judged s drawn
  pub question : (given : List ℤ) (size : ℕ) → asked s' given size ≡ asked s given size
  pub tree : (given : List ℤ) (buffer : List ℕ) → tree_after s' given buffer ≡ tree_after s given buffer
  pub status : (allowance size : ℕ) → list_status s' allowance size ≡ list_status s allowance size
  pub list : (allowance : ℕ) (buffer : List ℕ) → list_after s' allowance buffer ≡ list_after s allowance buffer

-- Two surveys that get the same refusal or none, and have the same network, get the same replies from judge, best and list, and have the
-- same trees and lists left in their buffers.
use Rattle.std.specs.Prelude.{ℕ, ◌≡◌, List}
use Rattle.network.specs.Survey.{network_of}
use Rattle.network.specs.Refusals.{checked_of}
use Rattle.network.specs.Calls.{asked, asked_checked, best_tree, drawn_checked, judged, list_after, list_checked, list_status, tree_after}
use Rattle.network.specs.Alike.{Alike}

pub alike : {s s' : List ℕ} → checked_of s' ≡ checked_of s → network_of s' ≡ network_of s → Alike s s'
unfolding judged drawn_checked asked asked_checked best_tree tree_after list_status list_checked list_after
alike c e =
    record {
      judge = λ drawn. rw (c, e);
      question = λ given size. rw (c, e);
      tree = λ given buffer. rw (c, e);
      status = λ allowance size. rw (c, e);
      list = λ allowance buffer. rw (c, e);
    }

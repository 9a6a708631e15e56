-- Fetching keeps what the archive relies on: a plan fetched from the list of an accepted survey is the plan listed there.
use Rattle.std.specs.Prelude.{List, ◌≡◌, ℕ}
use Rattle.std.proofs.Common.{ap, ◌∙◌}
use Rattle.network.specs.Survey.{network_of}
use Rattle.network.specs.Fetching.{fetch_links, fetch_number}
use Rattle.network.specs.Promise.{LinksKept, NumberKept}
use Rattle.planlist_fetching.specs.Fetched.{listed-links, listed-number}
use Rattle.planlist_fetching.specs.Listable.{listable}

pub number-kept : (list : List ℕ) (r : ℕ) {n : ℕ} → n ≡ fetch_number list r → NumberKept list r n
number-kept list r e =
    record {
      found = λ s a.
          let l = listable s a.accepted in
          e ∙ ap (λ (bs : List ℕ). fetch_number bs r) a.bytes ∙ listed-number (network_of s) a.rest l.full l.few l.short l.flat r;
    }

pub links-kept : (list : List ℕ) (r : ℕ) {part : List ℕ} → part ≡ fetch_links list r → LinksKept list r part
links-kept list r e =
    record {
      links = λ s a.
          let l = listable s a.accepted in
          e ∙ ap (λ (bs : List ℕ). fetch_links bs r) a.bytes ∙ listed-links (network_of s) a.rest l.full l.few l.short l.flat r;
    }

-- What holds of the bytes of a survey whose records are fine, as those of an accepted one are.
use Rattle.std.specs.Prelude.{ℕ, ◌+◌, ◌*◌, ◌≤◌, ◌<◌, ◌≡◌, true, false, List, length}
use Rattle.network.specs.Limits.{max_links, max_stations}
use Rattle.network.specs.Bytes.{byte_at, mark_at}
use Rattle.network.specs.Survey.{ceilings_in, link_count, link_start, ranks_in, rest_in, stations_in}
use Rattle.network.specs.Survey.{sum_in, working_in}
use Rattle.network.specs.Layouts.{Roomy}
use Rattle.network.specs.Refusals.{bad_count, bad_ranks, bad_rest, bad_sum}
use Rattle.network.specs.declared.Layout.{Layout}

-- a survey that holds a yard record and m link records, and nothing more
pub record Whole (s : List ℕ) (l : Layout) (m : ℕ) : Type 0 where
  pub size : length s ≡ l.yard.size + m * l.link.size
  pub roomy : Roomy l
  pub few : m ≤ max_links

-- the yard record of a survey with m links
pub record YardFine (s : List ℕ) (l : Layout) (m : ℕ) : Type 0 where
  pub mark : mark_at s 0 l.yard.mark ≡ true
  pub some-station : 1 ≤ stations_in s
  pub few-stations : stations_in s ≤ max_stations
  pub few-links : m ≤ max_links
  pub count : bad_count s l m ≡ false
  pub resting : bad_rest (stations_in s) (rest_in l s) ≡ false
  pub few-ceilings : ceilings_in s ≤ l.slots
  pub ranks : bad_ranks (length (working_in l s)) (ceilings_in s) (ranks_in l s) ≡ false

-- the link record at an index
pub record LinkFine (s : List ℕ) (at : ℕ) (mark : List ℕ) (n : ℕ) : Type 0 where
  pub marked : mark_at s at mark ≡ true
  pub first-end : byte_at s (at + 2) < n
  pub second-end : byte_at s (at + 3) < n
  pub priced : bad_sum (sum_in s at) ≡ false

-- the sum costs of m link records are in their range
pub record Priced (s : List ℕ) (l : Layout) (m : ℕ) : Type 0 where
  pub each : (i : ℕ) → i < m → bad_sum (sum_in s (link_start l i)) ≡ false

-- a survey whose records are fine
pub record RecordsFine (s : List ℕ) (l : Layout) : Type 0 where
  pub records : Whole s l (link_count l s)
  pub yard : YardFine s l (link_count l s)
  pub link : (i : ℕ) → i < link_count l s → LinkFine s (link_start l i) l.link.mark (stations_in s)

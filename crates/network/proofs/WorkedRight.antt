-- The theorem that every row of the table of worked yards is right. It is computed from the definitions.
use Rattle.std.specs.Prelude.{map, ◌≡◌, refl, length}
use Rattle.order.specs.Lists.{◌∈◌, numbers_from}
use Rattle.order.specs.Every.{◌▸◌, done}
use Rattle.order.proofs.Every.{every}
use Rattle.spanning.specs.Labelling.{crosses, merge}
use Rattle.spanning.specs.Tree as tree
use Rattle.spanning.specs.Choose.{choose, choose_from}
use Rattle.spanning.specs.Listing.{is_listed, spanning_trees}
use Rattle.network.specs.Yard.{joins_working, working, works}
use Rattle.network.specs.Bytes.{bits_of, signed}
use Rattle.network.specs.Tabulate.{tabulate}
use Rattle.network.specs.Survey.{ceiling_in, cost_bits, costs_in, ends_in, layout_of, network_with, raised, ranks_in, rest_in, row_where, sums_in}
use Rattle.network.specs.PlanList.{ceiling_bytes, costs_at, plan_mark, plan_slots}
use Rattle.network.specs.Checked.{first_refusal, refuse_if, ◌or_else◌}
use Rattle.network.specs.Refusals.{absent_costs, bad_count, bad_length, bad_ranks, bad_rest, bad_sum, checked_with, link_checked}
use Rattle.network.specs.Refusals.{records_checked, too_many_positions, yard_checked}
use Rattle.network.specs.Calls.{if_fine, reply, status}
use Rattle.network.specs.Calls.{asked, asked_checked, best_tree, drawn_checked, judged, tree_after, tree_with}
use Rattle.network.specs.Calls.{list_after, list_checked, list_status, plans_after, plans_checked, room_checked}
use Rattle.network.specs.Fetching.{damaged, fetch_links, fetch_number}
use Rattle.network.specs.Indexing.{cheapest, entries_from, found_by, found_plan, index_after, index_checked, index_in, index_key, index_of, index_status}
use Rattle.network.specs.Indexing.{is_index, looked_up, lookup_checked, lookup_reply, meets, says_found, unfit}
use Rattle.network.specs.Writing.{figures_checked, figures_from, layout_for, link_bytes, link_figures_checked, survey_at_front, survey_in, unknown_kind}
use Rattle.network.specs.Writing.{write_after, write_checked, write_status, yard_bytes, yard_figures_checked}
use Rattle.network.specs.SmallSurveys.{choices, links_in_order, small_after, small_checked, small_status, small_survey}
use Rattle.network.specs.Printing.{printed}
use Rattle.network.specs.Worked.{Right, Work, table}
use Rattle.network.specs.WorkedRight.{AllRight}

-- every row of the table is right
pub table-right : (w : Work) → w ∈ table → AllRight w
unfolding table ends_in sums_in ceiling_in costs_in tabulate row_where layout_of network_with raised signed bits_of
    spanning_trees choose choose_from tree.is_tree tree.is_tree_from tree.is_forest tree.is_one_component crosses merge numbers_from is_listed
    works working joins_working rest_in ranks_in cost_bits
    bad_count bad_length bad_ranks bad_rest bad_sum absent_costs too_many_positions checked_with records_checked link_checked yard_checked
    first_refusal refuse_if ◌or_else◌ reply status if_fine
    judged drawn_checked asked asked_checked best_tree tree_after tree_with room_checked plans_checked plans_after list_checked list_status list_after printed
    plan_slots plan_mark ceiling_bytes costs_at damaged fetch_number fetch_links
    index_key index_of unfit index_checked index_status index_in index_after entries_from is_index meets cheapest lookup_checked
    found_plan found_by looked_up says_found lookup_reply
    figures_from yard_bytes link_bytes survey_in layout_for unknown_kind yard_figures_checked link_figures_checked figures_checked
    write_checked write_status survey_at_front write_after
    choices links_in_order small_survey small_checked small_status small_after
table-right = every AllRight (
    every Right (record { promised = refl; by-walk = refl; counted = refl; needed = refl; succeeds = refl; bytes = refl } ▸ refl ▸ done)
    ▸ every Right (record { promised = refl; by-walk = refl; counted = refl; needed = refl; succeeds = refl; bytes = refl } ▸ done)
    ▸ every Right (record { promised = refl; by-walk = refl; counted = refl; needed = refl; succeeds = refl; bytes = refl } ▸ done)
    ▸ every Right (record { promised = refl; by-walk = refl; counted = refl; needed = refl; succeeds = refl; bytes = refl } ▸ done)
    ▸ every Right (record { promised = refl; by-walk = refl; counted = refl; needed = refl; succeeds = refl; bytes = refl } ▸ done)
    ▸ every Right (record { promised = refl; by-walk = refl; counted = refl; needed = refl; succeeds = refl; bytes = refl } ▸ done)
    ▸ every Right (record { promised = refl; by-walk = refl; counted = refl; needed = refl; succeeds = refl; bytes = refl } ▸ done)
    ▸ every Right ((refl, refl) ▸ done)
    ▸ every Right ((refl, refl) ▸ done)
    ▸ every Right (refl ▸ done)
    ▸ every Right (refl ▸ done)
    ▸ every Right ((refl, refl) ▸ (refl, refl) ▸ done)
    ▸ every Right (record { promised = refl; by-walk = refl; counted = refl; needed = refl; succeeds = refl; bytes = refl } ▸ done)
    ▸ every Right ((refl, refl) ▸ done)
    ▸ every Right ((refl, refl) ▸ done)
    ▸ every Right (refl ▸ refl ▸ refl ▸ done)
    ▸ every Right (record { promised = refl; by-walk = refl; counted = refl; needed = refl; succeeds = refl; bytes = refl } ▸ refl ▸ done)
    ▸ every Right (record { promised = refl; by-walk = refl; counted = refl; needed = refl; succeeds = refl; bytes = refl } ▸ done)
    ▸ every Right ((refl, refl) ▸ done)
    ▸ every Right (refl ▸ done)
    ▸ every Right ((refl, refl) ▸ done)
    ▸ every Right (record { promised = refl; by-walk = refl; counted = refl; needed = refl; succeeds = refl; bytes = refl } ▸ refl ▸ done)
    ▸ every Right ((refl, refl) ▸ (refl, refl) ▸ refl ▸ done)
    ▸ every Right (refl ▸ refl ▸ refl ▸ refl ▸ refl ▸ refl ▸ done)
    ▸ every Right (refl ▸ refl ▸ refl ▸ refl ▸ refl ▸ done)
    ▸ every Right ((refl, refl) ▸ refl ▸ refl ▸ refl ▸ done)
    ▸ every Right ((refl, refl) ▸ refl ▸ refl ▸ refl ▸ done)
    ▸ every Right ((refl, refl) ▸ refl ▸ done)
    ▸ every Right (refl ▸ refl ▸ refl ▸ refl ▸ (refl, refl) ▸ (refl, refl) ▸ (refl, refl) ▸ refl ▸ done)
    ▸ every Right ((refl, refl) ▸ (refl, refl) ▸ done)
    ▸ every Right ((refl, refl) ▸ (refl, refl) ▸ (refl, refl) ▸ done)
    ▸ every Right ((refl, refl) ▸ (refl, refl) ▸ (refl, refl) ▸ (refl, refl) ▸ (refl, refl) ▸ (refl, refl) ▸ (refl, refl) ▸ done)
    ▸ every Right ((refl, refl) ▸ (refl, refl) ▸ (refl, refl) ▸ (refl, refl) ▸ (refl, refl) ▸ (refl, refl) ▸ (refl, refl) ▸ done)
    ▸ every Right (record { promised = refl; by-walk = refl; counted = refl; needed = refl; succeeds = refl; bytes = refl }
    ▸ refl
    ▸ (refl, refl)
    ▸ (refl, refl)
    ▸ refl
    ▸ refl ▸ done)
    ▸ every Right (record { promised = refl; by-walk = refl; counted = refl; needed = refl; succeeds = refl; bytes = refl } ▸ refl ▸ done)
    ▸ every Right (record { promised = refl; by-walk = refl; counted = refl; needed = refl; succeeds = refl; bytes = refl } ▸ refl ▸ done)
    ▸ every Right (record { promised = refl; by-walk = refl; counted = refl; needed = refl; succeeds = refl; bytes = refl } ▸ done)
    ▸ every Right (record { promised = refl; by-walk = refl; counted = refl; needed = refl; succeeds = refl; bytes = refl } ▸ done)
    ▸ every Right (refl ▸ refl ▸ refl ▸ refl ▸ refl ▸ refl ▸ refl ▸ done)
    ▸ every Right (refl ▸ refl ▸ refl ▸ refl ▸ done)
    ▸ every Right (record { promised = refl; by-walk = refl; counted = refl; needed = refl; succeeds = refl; bytes = refl } ▸ refl ▸ done)
    ▸ every Right (record { promised = refl; by-walk = refl; counted = refl; needed = refl; succeeds = refl; bytes = refl }
    ▸ record { promised = refl; by-walk = refl; counted = refl; needed = refl; succeeds = refl; bytes = refl } ▸ done)
    ▸ every Right ((refl, refl) ▸ (refl, refl) ▸ (refl, refl) ▸ refl ▸ done)
    ▸ every Right (refl ▸ refl ▸ refl ▸ done)
    ▸ every Right (refl ▸ refl ▸ refl ▸ refl ▸ refl ▸ refl ▸ refl ▸ refl ▸ refl ▸ refl ▸ (refl, refl) ▸ done)
    ▸ every Right (refl ▸ refl ▸ refl ▸ refl ▸ (refl, refl) ▸ (refl, refl) ▸ refl ▸ refl ▸ refl ▸ done)
    ▸ every Right ((refl, refl) ▸ (refl, refl) ▸ (refl, refl) ▸ (refl, refl) ▸ (refl, refl) ▸ (refl, refl) ▸ (refl, refl) ▸ done)
    ▸ every Right ((refl, refl) ▸ refl ▸ refl ▸ done)
    ▸ every Right ((refl, refl) ▸ (refl, refl) ▸ (refl, refl) ▸ (refl, refl) ▸ (refl, refl) ▸ (refl, refl) ▸ (refl, refl) ▸ (refl, refl) ▸ done)
    ▸ done
    )

-- no P is left out, and none stands twice
pub table-numbers : map (λ (w : Work). w.number) table ≡ numbers_from 49 1
unfolding table numbers_from
table-numbers = refl

-- each has as many rows as it says
pub table-counts : map (λ (w : Work). length w.rows) table ≡ map (λ (w : Work). w.count) table
unfolding table
table-counts = refl

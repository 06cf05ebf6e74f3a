-- The worked cases and the sample runs, by computation.
use Rattle.std.proofs.Common.{ℕ, refl}
use Rattle.head.specs.Slots.{cells}
use Rattle.head.specs.Queue.{first_not, past_last, last_ack, acks, issuers, highest, place_of, all_unknown}
use Rattle.head.specs.Head.{fresh, mark, end, low, top, holds, keep, set_slots, sweep, place, fill}
use Rattle.head.specs.Upkeep.{give_up_one, give_up}
use Rattle.head.specs.Submit.{submit}
use Rattle.head.specs.Hear.{hear_data, hear_ack, hear_nack, hear}
use Rattle.head.specs.Turn.{run_of, gather, to_order, turn}
use Rattle.head.specs.Tick.{busy, lowest_own, tick}
use Rattle.head.specs.Deliver.{orderer, others, holders, deliver}
use Rattle.head.specs.Questions.{missing_from, holder_marks, ask_holders}
use Rattle.head.specs.Cases.{WorkedCases}
use Rattle.head.specs.Samples.{SampleRuns}

-- what the machine computes with
unfoldable pub opened : ℕ
unfolding cells first_not past_last last_ack acks issuers highest place_of all_unknown fresh mark end low top holds keep set_slots sweep place fill give_up_one give_up submit hear_data hear_ack hear_nack hear run_of gather to_order turn busy lowest_own tick orderer others holders deliver missing_from holder_marks ask_holders
opened = 0

pub worked_cases : WorkedCases
unfolding opened
worked_cases = record {
  a_submit_answers_made = refl;
  a_submit_puts_its_data_frame = refl;
  the_turn_orders_one_name_at_stamp_one = refl;
  the_turn_puts_its_ack = refl;
  head_0_delivers_stamp_two = refl;
  head_2_waits = refl;
  head_1_keeps_then_places = (refl, refl);
  head_1_has_nothing_to_order = refl;
  head_2_places_an_ack_alone = (refl, refl, refl);
  head_2_misses_stamp_two = refl;
  head_2_asks_for_it = refl;
  level_nine_waits_for_both_others = (refl, refl, refl);
  holders_are_marked_at_their_first_acks = refl;
  an_ack_slot_has_no_holders = refl;
  level_two_of_three_heads = (refl, refl);
  a_fifth_unordered_submit_is_refused = (refl, refl);
  majorities = refl;
  waits = refl;
  two_heads_with_two_acks_keep_all = (refl, refl);
  the_third_ack_of_two_heads_lets_the_first_go = (refl, refl, refl);
  what_is_named_past_a_gap_is_pending_no_more = (refl, refl);
  whom_head_2_asks = refl;
  probe_4_at_18_50_below_zero = refl;
  a_wrong_next_is_out_of_range = refl;
}

pub sample_runs : SampleRuns
unfolding opened
sample_runs = record { of_two_heads = refl; of_three_heads = refl; of_five_heads = refl }

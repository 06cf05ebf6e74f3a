-- The worked cases over wire, by computation.
use Rattle.std.proofs.Common.{refl}
use Rattle.head.specs.WiredCases.{WiredCases}
use Rattle.head.proofs.Worked.{opened}

pub wired_cases : WiredCases
unfolding opened
wired_cases = record {
  a_submit_answers_made = refl;
  a_submit_puts_its_data_frame = refl;
  the_turn_orders_one_name_at_stamp_one = refl;
  the_turn_puts_its_ack = refl;
  both_wait_for_every_head = refl;
  head_0_delivers_stamp_two = refl;
  head_2_waits = refl;
  head_1_keeps_then_places = (refl, refl);
  head_1_has_nothing_to_order = refl;
  head_2_places_the_ack_alone = (refl, refl, refl);
  head_2_misses_stamp_two = refl;
  head_2_asks_for_it = refl;
  whom_head_2_asks = refl;
  level_nine_waits_for_both_others = (refl, refl, refl);
  holders_are_marked_at_their_first_acks = refl;
  an_ack_slot_has_no_holders = refl;
  level_two_of_three_heads = (refl, refl, refl);
  a_fifth_unordered_submit_is_refused = (refl, refl, refl);
  majorities = refl;
  waits = refl;
  two_heads_with_two_acks_keep_all = (refl, refl);
  the_third_ack_of_two_heads_lets_the_first_go = (refl, refl, refl);
  what_is_named_past_a_gap_is_pending_no_more = (refl, refl);
  probe_4_at_18_50_below_zero = refl;
  a_wrong_next_is_out_of_range = refl;
}

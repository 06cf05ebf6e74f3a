-- Worked cases: three heads over wire, unless said. Packets are in decimal.
use Rattle.std.specs.Prelude.{◌≡◌, ℕ, zero, suc, List, [], ◌∷◌, negsuc, Ok, Err}
use Rattle.frames.specs.declared.refusal.Refusal.TheVariants.{BadLevel, TooManyUnordered, NoDataSlot, FieldOutOfRange}
use Rattle.frames.specs.Refusals.{number_of}
use Rattle.frames.specs.Bounds.{needs}
use Rattle.frames.specs.Values.{Asked, one, everyone}
use Rattle.bodies.specs.Layout.{measure_bytes}
use Rattle.head.specs.Head.{Head, mark, end, with_clock}
use Rattle.head.specs.Answers.{refused, made_it, kept, placed, nothing, ordered, fired, waiting, delivered}
use Rattle.head.specs.Tick.{wait, asked}
use Rattle.head.specs.Questions.{missing, ask_holders}
use Rattle.head.specs.Cases.{packets, first_message, data_packet, ack_packet, zeros}
use Rattle.head.specs.Wired.{Wired, wired, WireMove, submits, hears, turns, ticks, delivers, did, after, missed, sent}

-- head 0 submits its next message at the level l, with one byte of body
abbrev pub submit_at : ℕ → WireMove
submit_at l = submits 0 l (1 ∷ [])

-- n heads, after head 0 has submitted it
abbrev pub wired_submitted : ℕ → ℕ → Wired
wired_submitted n l = after n (submit_at l ∷ []) (wired n)

-- and has had its turn
abbrev pub wired_turned : ℕ → ℕ → Wired
wired_turned n l = after n (turns 0 ∷ []) (wired_submitted n l)

-- both wait for a head
abbrev pub both_packets : List (List ℕ)
both_packets = data_packet ∷ ack_packet ∷ []

-- head 1 hears the Data frame
abbrev pub one_has_data : Wired
one_has_data = after 3 (hears 1 ∷ []) (wired_turned 3 0)

-- and then the ACK
abbrev pub one_has_both : Wired
one_has_both = after 3 (hears 1 ∷ []) one_has_data

-- head 2 misses the Data frame
abbrev pub two_missed_data : Wired
two_missed_data = missed 2 (wired_turned 3 0)

-- and hears the ACK
abbrev pub two_has_ack : Wired
two_has_ack = after 3 (hears 2 ∷ []) two_missed_data

-- what head 2 then is
abbrev pub head_2 : Head
head_2 = two_has_ack.heads 2

-- whom it asks for the missing body after r tries
abbrev pub wired_asked_after : ℕ → Asked
wired_asked_after r = asked 3 (with_clock head_2 0 r)

-- at level 9, heads 1 and 2 hear all that was put, and each issues an ACK
abbrev pub all_issued : Wired
all_issued = after 3 (hears 1 ∷ hears 1 ∷ ticks 1 ∷ hears 2 ∷ hears 2 ∷ hears 2 ∷ ticks 2 ∷ []) (wired_turned 3 9)

-- head 0 then hears its own frames and the ACK of head 1
abbrev pub wired_knows_one : Wired
wired_knows_one = after 3 (hears 0 ∷ hears 0 ∷ hears 0 ∷ []) all_issued

-- and the ACK of head 2
abbrev pub wired_knows_both : Wired
wired_knows_both = after 3 (hears 0 ∷ []) wired_knows_one

-- head 0 submits k messages
abbrev pub wired_after_submits : ℕ → Wired
wired_after_submits zero = wired 3
wired_after_submits (suc k) = after 3 (submit_at 0 ∷ []) (wired_after_submits k)

-- of two heads, head 1 hears both frames and issues an ACK; head 0 hears that, and delivers
abbrev pub two_acks : Wired
two_acks = after 2 (hears 1 ∷ hears 1 ∷ ticks 1 ∷ hears 0 ∷ hears 0 ∷ hears 0 ∷ delivers 0 ∷ []) (wired_turned 2 0)

-- head 0 then issues one more
abbrev pub three_acks : Wired
three_acks = after 2 (ticks 0 ∷ []) two_acks

-- head 0 submits two messages and hears them; the next packet is an ACK at stamp 4 that names the first
abbrev pub an_ack_past_a_gap : Wired
an_ack_past_a_gap = sent (2 ∷ 0 ∷ 0 ∷ 0 ∷ 4 ∷ 1 ∷ 2 ∷ 1 ∷ 0 ∷ 0 ∷ 0 ∷ 0 ∷ 1 ∷ 0 ∷ []) (after 3 (hears 0 ∷ hears 0 ∷ []) (wired_after_submits 2))

-- an ACK of head 0 that names head 2 as next
abbrev pub a_wrong_next : Wired
a_wrong_next = sent (2 ∷ 0 ∷ 0 ∷ 0 ∷ 1 ∷ 0 ∷ 2 ∷ 0 ∷ []) (wired 3)

-- what each case says, by name
pub record WiredCases : Type 0 where
  pub a_submit_answers_made : (did 3 (submit_at 0) (wired 3)).answer ≡ made_it 1
  pub a_submit_puts_its_data_frame : packets 3 (did 3 (submit_at 0) (wired 3)) ≡ data_packet ∷ []
  pub the_turn_orders_one_name_at_stamp_one : (did 3 (turns 0) (wired_submitted 3 0)).answer ≡ ordered 1 1
  pub the_turn_puts_its_ack : packets 3 (did 3 (turns 0) (wired_submitted 3 0)) ≡ ack_packet ∷ []
  pub both_wait_for_every_head : (wired_turned 3 0).wire ≡ both_packets ∷ both_packets ∷ both_packets ∷ []
  pub head_0_delivers_stamp_two : (did 3 (delivers 0) (wired_turned 3 0)).answer ≡ delivered (first_message 0) 2
  pub head_2_waits : (did 3 (delivers 2) (wired_turned 3 0)).answer ≡ waiting
  pub head_1_keeps_then_places : ((did 3 (hears 1) (wired_turned 3 0)).answer ≡ kept) × ((did 3 (hears 1) one_has_data).answer ≡ placed)
  pub head_1_has_nothing_to_order : (did 3 (turns 1) one_has_both).answer ≡ nothing
  pub head_2_places_the_ack_alone : ((did 3 (hears 2) two_missed_data).answer ≡ placed) × (mark head_2 ≡ 2) × (end head_2 ≡ 3)
  pub head_2_misses_stamp_two : missing head_2 ≡ 2 ∷ []
  pub head_2_asks_for_it : packets 3 (did 3 (ticks 2) two_has_ack) ≡ (3 ∷ 2 ∷ 0 ∷ 0 ∷ 0 ∷ 0 ∷ 2 ∷ []) ∷ []
  pub whom_head_2_asks : (wired_asked_after 0 ∷ wired_asked_after 1 ∷ wired_asked_after 2 ∷ wired_asked_after 3 ∷ []) ≡ (one 0 ∷ one 1 ∷ one 0 ∷ everyone ∷ [])
  pub level_nine_waits_for_both_others : ((did 3 (delivers 0) (wired_turned 3 9)).answer ≡ waiting) × ((did 3 (delivers 0) wired_knows_one).answer ≡ waiting) × ((did 3 (delivers 0) wired_knows_both).answer ≡ delivered (first_message 9) 2)
  pub holders_are_marked_at_their_first_acks : ask_holders 3 (wired_knows_both.heads 0) 2 ≡ Ok (record { count = 2; marks = 0 ∷ 0 ∷ 2 ∷ 3 ∷ zeros 92 })
  pub an_ack_slot_has_no_holders : ask_holders 3 (wired_knows_both.heads 0) 1 ≡ Err NoDataSlot
  pub level_two_of_three_heads : ((did 3 (submit_at 2) (wired 3)).answer ≡ made_it 1) × ((did 3 (submit_at 3) (wired 3)).answer ≡ refused BadLevel) × (number_of BadLevel ≡ 4)
  pub a_fifth_unordered_submit_is_refused : ((did 3 (submit_at 0) (wired_after_submits 3)).answer ≡ made_it 4) × ((did 3 (submit_at 0) (wired_after_submits 4)).answer ≡ refused TooManyUnordered) × (number_of TooManyUnordered ≡ 6)
  pub majorities : (needs 2 8 ∷ needs 3 8 ∷ needs 4 8 ∷ needs 8 8 ∷ []) ≡ (1 ∷ 1 ∷ 2 ∷ 4 ∷ [])
  pub waits : (wait 0 ∷ wait 1 ∷ wait 2 ∷ wait 3 ∷ wait 4 ∷ wait 5 ∷ wait 6 ∷ []) ≡ (1 ∷ 2 ∷ 4 ∷ 8 ∷ 16 ∷ 32 ∷ 32 ∷ [])
  pub two_heads_with_two_acks_keep_all : ((two_acks.heads 0).base ≡ 1) × ((two_acks.heads 0).due ≡ 3)
  pub the_third_ack_of_two_heads_lets_the_first_go : ((did 2 (ticks 0) two_acks).answer ≡ fired 1) × ((three_acks.heads 0).base ≡ 3) × (mark (three_acks.heads 0) ≡ 5)
  pub what_is_named_past_a_gap_is_pending_no_more : ((did 3 (hears 0) an_ack_past_a_gap).answer ≡ placed) × (packets 3 (did 3 (ticks 0) (after 3 (hears 0 ∷ []) an_ack_past_a_gap)) ≡ (3 ∷ 0 ∷ 1 ∷ 0 ∷ 0 ∷ 0 ∷ 1 ∷ []) ∷ (1 ∷ 0 ∷ 0 ∷ 0 ∷ 0 ∷ 2 ∷ 0 ∷ 1 ∷ 1 ∷ []) ∷ [])
  pub probe_4_at_18_50_below_zero : measure_bytes 1 4 (negsuc 1849) ≡ 1 ∷ 4 ∷ 248 ∷ 198 ∷ []
  pub a_wrong_next_is_out_of_range : (did 3 (hears 1) a_wrong_next).answer ≡ refused FieldOutOfRange

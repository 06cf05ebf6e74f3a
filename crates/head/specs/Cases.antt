-- Worked cases: three heads, unless said. Packets are in decimal.
use Rattle.std.specs.Prelude.{◌≡◌, ℕ, zero, suc, List, [], ◌∷◌, map, negsuc, Some, Ok, Err}
use Rattle.frames.specs.declared.refusal.Refusal.TheVariants.{BadLevel, TooManyUnordered, NoDataSlot, FieldOutOfRange}
use Rattle.frames.specs.Bounds.{needs}
use Rattle.frames.specs.Values.{Message, Asked, one, everyone}
use Rattle.frames.specs.Written.{written}
use Rattle.bodies.specs.Layout.{measure_bytes}
use Rattle.head.specs.Head.{Head, fresh, mark, end, with_clock}
use Rattle.head.specs.Answers.{Done, refused, made_it, kept, placed, nothing, ordered, fired, waiting, delivered}
use Rattle.head.specs.Submit.{submit}
use Rattle.head.specs.Hear.{hear}
use Rattle.head.specs.Turn.{turn}
use Rattle.head.specs.Tick.{wait, asked, tick}
use Rattle.head.specs.Deliver.{deliver}
use Rattle.head.specs.Questions.{missing, ask_holders}

-- the packets that a call puts
abbrev pub packets : ℕ → Done → List (List ℕ)
packets n d = map (written n) d.puts

-- the first message of head 0, with one byte of body
abbrev pub first_message : ℕ → Message
first_message l = record { name = record { source = 0; number = 1; level = l }; body = 1 ∷ [] }

-- head 0 submits it
abbrev pub submitted : ℕ → ℕ → Done
submitted n l = submit n l (1 ∷ []) (fresh 0)

-- head 0 has its turn after that submit
abbrev pub turned : ℕ → ℕ → Done
turned n l = turn n (submitted n l).head

-- its Data frame at level 0
abbrev pub data_packet : List ℕ
data_packet = 1 ∷ 0 ∷ 0 ∷ 0 ∷ 0 ∷ 1 ∷ 0 ∷ 1 ∷ 1 ∷ []

-- its ACK at level 0
abbrev pub ack_packet : List ℕ
ack_packet = 2 ∷ 0 ∷ 0 ∷ 0 ∷ 1 ∷ 0 ∷ 1 ∷ 1 ∷ 0 ∷ 0 ∷ 0 ∷ 0 ∷ 1 ∷ 0 ∷ []

-- an ACK of no names, with its stamp, issuer and next
abbrev pub bare_ack : ℕ → ℕ → ℕ → List ℕ
bare_ack t i x = 2 ∷ 0 ∷ 0 ∷ 0 ∷ t ∷ i ∷ x ∷ 0 ∷ []

-- head 1 hears the Data frame
abbrev pub heard_data : Done
heard_data = hear 3 (Some data_packet) (fresh 1)

-- head 1 then hears the ACK
abbrev pub heard_ack : Done
heard_ack = hear 3 (Some ack_packet) heard_data.head

-- head 2 hears only the ACK
abbrev pub heard_only_ack : Done
heard_only_ack = hear 3 (Some ack_packet) (fresh 2)

-- at level 9, head 0 hears the ACK of head 1
abbrev pub knows_one : Head
knows_one = (hear 3 (Some (bare_ack 3 1 2)) (turned 3 9).head).head

-- and then the ACK of head 2
abbrev pub knows_both : Head
knows_both = (hear 3 (Some (bare_ack 4 2 0)) knows_one).head

-- the head after k submits
abbrev pub after_submits : ℕ → Head → Head
after_submits zero h = h
after_submits (suc k) h = (submit 3 0 (1 ∷ []) (after_submits k h)).head

-- of two heads, head 0 knows ACKs at 1 (with one name) and 3, delivers, and issues one at 4
abbrev pub delivered_two : Head
delivered_two = (deliver 2 (hear 2 (Some (bare_ack 3 1 0)) (turned 2 0).head).head).head

-- head 0 submits two messages, then hears an ACK at stamp 4 that names the first, and nothing before it
abbrev pub named_past_a_gap : Done
named_past_a_gap = hear 3 (Some (2 ∷ 0 ∷ 0 ∷ 0 ∷ 4 ∷ 1 ∷ 2 ∷ 1 ∷ 0 ∷ 0 ∷ 0 ∷ 0 ∷ 1 ∷ 0 ∷ [])) (after_submits 2 (fresh 0))

-- head 2, which misses stamp 2 of head 0's ACK, after r tries
abbrev pub asked_after : ℕ → Asked
asked_after r = asked 3 (with_clock heard_only_ack.head 0 r)

-- k zeros
abbrev pub zeros : ℕ → List ℕ
zeros zero = []
zeros (suc k) = 0 ∷ zeros k

-- what each case says, by name
pub record WorkedCases : Type 0 where
  pub a_submit_answers_made : (submitted 3 0).answer ≡ made_it 1
  pub a_submit_puts_its_data_frame : packets 3 (submitted 3 0) ≡ data_packet ∷ []
  pub the_turn_orders_one_name_at_stamp_one : (turned 3 0).answer ≡ ordered 1 1
  pub the_turn_puts_its_ack : packets 3 (turned 3 0) ≡ ack_packet ∷ []
  pub head_0_delivers_stamp_two : (deliver 3 (turned 3 0).head).answer ≡ delivered (first_message 0) 2
  pub head_2_waits : (deliver 3 (fresh 2)).answer ≡ waiting
  pub head_1_keeps_then_places : (heard_data.answer ≡ kept) × (heard_ack.answer ≡ placed)
  pub head_1_has_nothing_to_order : (turn 3 heard_ack.head).answer ≡ nothing
  pub head_2_places_an_ack_alone : (heard_only_ack.answer ≡ placed) × (mark heard_only_ack.head ≡ 2) × (end heard_only_ack.head ≡ 3)
  pub head_2_misses_stamp_two : missing heard_only_ack.head ≡ 2 ∷ []
  pub head_2_asks_for_it : packets 3 (tick 3 heard_only_ack.head) ≡ (3 ∷ 2 ∷ 0 ∷ 0 ∷ 0 ∷ 0 ∷ 2 ∷ []) ∷ []
  pub level_nine_waits_for_both_others : ((deliver 3 (turned 3 9).head).answer ≡ waiting) × ((deliver 3 knows_one).answer ≡ waiting) × ((deliver 3 knows_both).answer ≡ delivered (first_message 9) 2)
  pub holders_are_marked_at_their_first_acks : ask_holders 3 knows_both 2 ≡ Ok (record { count = 2; marks = 0 ∷ 0 ∷ 2 ∷ 3 ∷ zeros 92 })
  pub an_ack_slot_has_no_holders : ask_holders 3 knows_both 1 ≡ Err NoDataSlot
  pub level_two_of_three_heads : ((submitted 3 2).answer ≡ made_it 1) × ((submitted 3 3).answer ≡ refused BadLevel)
  pub a_fifth_unordered_submit_is_refused : ((submit 3 0 (1 ∷ []) (after_submits 3 (fresh 0))).answer ≡ made_it 4) × ((submit 3 0 (1 ∷ []) (after_submits 4 (fresh 0))).answer ≡ refused TooManyUnordered)
  pub majorities : (needs 2 8 ∷ needs 3 8 ∷ needs 4 8 ∷ needs 8 8 ∷ []) ≡ (1 ∷ 1 ∷ 2 ∷ 4 ∷ [])
  pub waits : (wait 0 ∷ wait 1 ∷ wait 2 ∷ wait 3 ∷ wait 4 ∷ wait 5 ∷ wait 6 ∷ []) ≡ (1 ∷ 2 ∷ 4 ∷ 8 ∷ 16 ∷ 32 ∷ 32 ∷ [])
  pub two_heads_with_two_acks_keep_all : (delivered_two.base ≡ 1) × (delivered_two.due ≡ 3)
  pub the_third_ack_of_two_heads_lets_the_first_go : ((tick 2 delivered_two).answer ≡ fired 1) × ((tick 2 delivered_two).head.base ≡ 3) × (mark (tick 2 delivered_two).head ≡ 5)
  pub what_is_named_past_a_gap_is_pending_no_more : (named_past_a_gap.answer ≡ placed) × (packets 3 (tick 3 named_past_a_gap.head) ≡ (3 ∷ 0 ∷ 1 ∷ 0 ∷ 0 ∷ 0 ∷ 1 ∷ []) ∷ (1 ∷ 0 ∷ 0 ∷ 0 ∷ 0 ∷ 2 ∷ 0 ∷ 1 ∷ 1 ∷ []) ∷ [])
  pub whom_head_2_asks : (asked_after 0 ∷ asked_after 1 ∷ asked_after 2 ∷ asked_after 3 ∷ []) ≡ (one 0 ∷ one 1 ∷ one 0 ∷ everyone ∷ [])
  pub probe_4_at_18_50_below_zero : measure_bytes 1 4 (negsuc 1849) ≡ 1 ∷ 4 ∷ 248 ∷ 198 ∷ []
  pub a_wrong_next_is_out_of_range : (hear 3 (Some (bare_ack 1 0 2)) (fresh 1)).answer ≡ refused FieldOutOfRange

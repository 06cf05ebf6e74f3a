-- Every call can be made over a link that keeps all that is put, and a trip over it is computed.
use Rattle.std.proofs.Common.{◌≡◌, ℕ, zero, suc, ◌<◌, Bool, true, ◌&&◌, ltb, ◌⊎◌, List, [], ◌∷◌, map, Some, None, Option, refl, inl, inr, arith}
use mathlib.Core.List.Memᴰ
use mathlib.Core.List.{Memᴰ}
use Rattle.std.proofs.lemmas.Bool.{and_parts, ltb-true}
use Rattle.frames.specs.Written.{written}
use Rattle.frames.specs.declared.refusal.Refusal.TheVariants.{NoSuchHead}
use Rattle.links.specs.Meaning.{TakenFrom, Waits}
use Rattle.head.specs.Answers.{Done, refused}
use Rattle.head.specs.Head.{fresh}
use Rattle.head.proofs.Worked.{opened}
use Rattle.ring.specs.Able.{EveryCall, EveryMiss, LongTrip, MayTake}
use Rattle.ring.specs.Ring.{AfterPuts, Call, Event, Ring, Step, Takes, Trip, delivers, hears, perform, put_head, started, submits, then_call, ticks, turns}
use Rattle.ring.proofs.Unissued.{event_of}

-- each packet joins what waits for every head
pub all_kept : List (List ℕ) → Waits → Waits
all_kept [] w = w
all_kept (p ∷ ps) w = all_kept ps (λ h. p ∷ w h)

all_kept_puts : (ps : List (List ℕ)) (w : Waits) → AfterPuts ps w (all_kept ps w)
unfolding all_kept
all_kept_puts [] w = refl
all_kept_puts (p ∷ ps) w = ((λ h. p ∷ w h), (λ h f o. swap h f (Memᴰ.cases_cons o)), all_kept_puts ps (λ h. p ∷ w h))
  where
    swap : (h : ℕ) (f : List ℕ) → (f ≡ p) ⊎ Memᴰ f (w h) → Memᴰ f (w h) ⊎ (f ≡ p)
    swap h f (inl e) = inr e
    swap h f (inr o) = inl o

may_take : (c : Call) (w : ℕ) (t : Option (List ℕ)) (v : Waits) → MayTake c w t v → Takes c w t v v
may_take (submits l b) w t v k = (k, refl)
may_take hears w t v k = record { waited = k; left = λ h f o. o }
may_take turns w t v k = (k, refl)
may_take ticks w t v k = (k, refl)
may_take delivers w t v k = (k, refl)

-- the ring after a call
ring_after : ℕ → Ring → ℕ → Done → Ring
ring_after n r w d = record { heads = put_head r.heads w d.head; waits = all_kept (map (written n) d.puts) r.waits }

stepped : (n : ℕ) (r : Ring) (w : ℕ) → w < n → (c : Call) (t : Option (List ℕ)) → MayTake c w t r.waits → Step n r (event_of n w c t (perform n c t (r.heads w))) (ring_after n r w (perform n c t (r.heads w)))
unfolding ring_after
stepped n r w b c t k = record {
  between = r.waits;
  within = b;
  takes = may_take c w t r.waits k;
  answers = refl;
  puts = refl;
  issues = refl;
  linked = all_kept_puts (map (written n) (perform n c t (r.heads w)).puts) r.waits;
  heads = refl;
}

pub every_call : EveryCall
every_call n r w b c t k = (event_of n w c t (perform n c t (r.heads w)), ring_after n r w (perform n c t (r.heads w)), stepped n r w b c t k, refl, refl, refl)

pub every_miss : EveryMiss
every_miss n r w b c = (record { who = w; call = c; taken = None; answer = refused NoSuchHead; put = []; issued = None }, r, record { outside = b; answers = refl; puts = refl; taken = refl; issues = refl; same = refl }, refl, refl)

-- a trip from calls, each with the place of the packet that it takes among those that wait

pub record Move : Type 0 where
  pub who : ℕ
  pub call : Call
  pub place : ℕ

nth_packet : List (List ℕ) → ℕ → Option (List ℕ)
nth_packet [] i = None
nth_packet (p ∷ ps) zero = Some p
nth_packet (p ∷ ps) (suc i) = nth_packet ps i

nth_waits : (h : ℕ) (w : Waits) (ps : List (List ℕ)) (i : ℕ) → ((p : List ℕ) → Memᴰ p ps → Memᴰ p (w h)) → TakenFrom h (nth_packet ps i) w
unfolding nth_packet
nth_waits h w [] i f = tt
nth_waits h w (p ∷ ps) zero f = f p (Memᴰ.head refl)
nth_waits h w (p ∷ ps) (suc i) f = nth_waits h w ps i (λ q o. f q (Memᴰ.tail o))

abbrev taken_by : Call → ℕ → ℕ → Waits → Option (List ℕ)
taken_by (submits l b) w i v = None
taken_by hears w i v = nth_packet (v w) i
taken_by turns w i v = None
taken_by ticks w i v = None
taken_by delivers w i v = None

taken_by_may : (c : Call) (w i : ℕ) (v : Waits) → MayTake c w (taken_by c w i v) v
taken_by_may (submits l b) w i v = refl
taken_by_may hears w i v = nth_waits w v (v w) i (λ p o. o)
taken_by_may turns w i v = refl
taken_by_may ticks w i v = refl
taken_by_may delivers w i v = refl

start : Ring
start = record { heads = fresh; waits = λ _. [] }

done_by : ℕ → Ring → Move → Done
done_by n r m = perform n m.call (taken_by m.call m.who m.place r.waits) (r.heads m.who)

-- the moves, the last one first
ring_of : ℕ → List Move → Ring
ring_of n [] = start
ring_of n (m ∷ ms) = ring_after n (ring_of n ms) m.who (done_by n (ring_of n ms) m)

events_of : ℕ → List Move → List Event
events_of n [] = []
events_of n (m ∷ ms) = event_of n m.who m.call (taken_by m.call m.who m.place (ring_of n ms).waits) (done_by n (ring_of n ms) m) ∷ events_of n ms

abbrev all_below : ℕ → List Move → Bool
all_below n [] = true
all_below n (m ∷ ms) = ltb m.who n && all_below n ms

played : (n : ℕ) (ms : List Move) → all_below n ms ≡ true → Trip n (events_of n ms) (ring_of n ms)
unfolding ring_of events_of start done_by
played n [] b = started (λ _. []) (λ h p o. Memᴰ.not-nil o)
played n (m ∷ ms) b =
    let c : (ltb m.who n ≡ true) × (all_below n ms ≡ true) = and_parts (ltb m.who n) (all_below n ms) b in
    then_call (played n ms c.1) (stepped n (ring_of n ms) m.who (ltb-true m.who n c.0) m.call (taken_by m.call m.who m.place (ring_of n ms).waits) (taken_by_may m.call m.who m.place (ring_of n ms).waits))

-- head 0 submits and orders; the others hear both and pass the token on; 0 and 1 deliver, and 0 issues once more
moves : List Move
moves =
    record { who = 0; call = ticks; place = 0 }
    ∷ record { who = 1; call = delivers; place = 0 }
    ∷ record { who = 1; call = hears; place = 0 }
    ∷ record { who = 0; call = delivers; place = 0 }
    ∷ record { who = 0; call = hears; place = 0 }
    ∷ record { who = 0; call = hears; place = 1 }
    ∷ record { who = 2; call = ticks; place = 0 }
    ∷ record { who = 2; call = hears; place = 0 }
    ∷ record { who = 1; call = ticks; place = 0 }
    ∷ record { who = 2; call = hears; place = 0 }
    ∷ record { who = 2; call = hears; place = 1 }
    ∷ record { who = 1; call = hears; place = 0 }
    ∷ record { who = 1; call = hears; place = 1 }
    ∷ record { who = 0; call = turns; place = 0 }
    ∷ record { who = 0; call = submits 9 (1 ∷ []); place = 0 }
    ∷ []

pub long_trip : LongTrip
unfolding opened perform all_kept ring_after nth_packet start done_by ring_of events_of moves
long_trip = record {
  events = events_of 3 moves;
  ring = ring_of 3 moves;
  leads = played 3 moves refl;
  long = omega arith;
  head_0_delivers = refl;
  head_1_delivers = refl;
  head_2_does_not_yet = refl;
  head_0_gave_it_up = refl;
}

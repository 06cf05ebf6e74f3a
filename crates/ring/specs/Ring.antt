-- A ring of heads over any link, and its trips.
use Rattle.std.specs.Prelude.{◌≡◌, ℕ, ◌<◌, ◌≤◌, cond, List, [], ◌∷◌, map, None, Option, ◌==◌}
use Rattle.frames.specs.declared.refusal.Refusal.TheVariants.{NoSuchHead}
use Rattle.frames.specs.Values.{Ack}
use Rattle.frames.specs.Written.{written}
use Rattle.head.specs.Head.{Head, fresh}
use Rattle.head.specs.Answers.{Answer, refused, Done}
use Rattle.head.specs.Submit.{submit}
use Rattle.head.specs.Hear.{hear}
use Rattle.head.specs.Turn.{turn}
use Rattle.head.specs.Tick.{tick}
use Rattle.head.specs.Deliver.{deliver}
use Rattle.links.specs.Meaning.{Waits, Cleared, AfterPut, AfterTake}

-- the heads, by number, and what waits for each
pub record Ring : Type 0 where
  pub heads : ℕ → Head
  pub waits : Waits

-- a call, with its inputs
pub data Call : Type 0 where
  submits : ℕ → List ℕ → Call
  hears : Call
  turns : Call
  ticks : Call
  delivers : Call

-- what is seen of a call: on which head, the packet that it took, its answer, the packets that it put, and the ACK that it issued, if any
pub record Event : Type 0 where
  pub who : ℕ
  pub call : Call
  pub taken : Option (List ℕ)
  pub answer : Answer
  pub put : List (List ℕ)
  pub issued : Option Ack

-- the call on one head
unfoldable pub perform : ℕ → Call → Option (List ℕ) → Head → Done
perform n (submits l b) t h = submit n l b h
perform n hears t h = hear n t h
perform n turns t h = turn n h
perform n ticks t h = tick n h
perform n delivers t h = deliver n h

-- only hear takes from the link
abbrev pub Takes : Call → ℕ → Option (List ℕ) → Waits → Waits → Type 0
Takes (submits l b) h t w v = (t ≡ None) × (w ≡ v)
Takes hears h t w v = AfterTake h t w v
Takes turns h t w v = (t ≡ None) × (w ≡ v)
Takes ticks h t w v = (t ≡ None) × (w ≡ v)
Takes delivers h t w v = (t ≡ None) × (w ≡ v)

-- packets put one after another
abbrev pub AfterPuts : List (List ℕ) → Waits → Waits → Type 0
AfterPuts [] w v = w ≡ v
AfterPuts (p ∷ ps) w v = (u : Waits) × AfterPut p w u × AfterPuts ps u v

-- the head h is now x
abbrev pub put_head : (ℕ → Head) → ℕ → Head → ℕ → Head
put_head hs h x g = cond (g == h) x (hs g)

-- a call on a head of the ring: the link hands out what it will, within its meaning; all else is what the head's call says
pub record Step (n : ℕ) (r : Ring) (e : Event) (s : Ring) : Type 0 where
  pub between : Waits
  pub within : e.who < n
  pub takes : Takes e.call e.who e.taken r.waits between
  pub answers : e.answer ≡ (perform n e.call e.taken (r.heads e.who)).answer
  pub puts : e.put ≡ map (written n) (perform n e.call e.taken (r.heads e.who)).puts
  pub issues : e.issued ≡ (perform n e.call e.taken (r.heads e.who)).issued
  pub linked : AfterPuts e.put between s.waits
  pub heads : s.heads ≡ put_head r.heads e.who (perform n e.call e.taken (r.heads e.who)).head

-- a call on a head that the ring does not have is refused and changes nothing
pub record Missed (n : ℕ) (r : Ring) (e : Event) (s : Ring) : Type 0 where
  pub outside : n ≤ e.who
  pub answers : e.answer ≡ refused NoSuchHead
  pub puts : e.put ≡ []
  pub taken : e.taken ≡ None
  pub issues : e.issued ≡ None
  pub same : s ≡ r

-- the calls so far, the last one first, and the ring that they leave, from the cleared start on
pub data Trip (n : ℕ) : List Event → Ring → Type 0 where
  started : (w : Waits) → Cleared w → Trip n [] (record { heads = fresh; waits = w })
  then_call : {es : List Event} {r : Ring} {e : Event} {s : Ring} → Trip n es r → Step n r e s → Trip n (e ∷ es) s
  then_miss : {es : List Event} {r : Ring} {e : Event} {s : Ring} → Trip n es r → Missed n r e s → Trip n (e ∷ es) s

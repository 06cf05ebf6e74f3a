-- What holds of every head and of the whole ring after every call.
use Rattle.std.proofs.Common.{◌≡◌, ℕ, suc, ◌+◌, ◌-◌, ◌<◌, ◌≤◌, true, cond, eqb, ◌⊎◌, List, [], ◌∷◌, ◌++◌, map, length, Some, sym, refl, ap, ◌∙◌, inl, inr, arith}
use mathlib.Core.List.Memᴰ
use mathlib.Core.List.{Memᴰ}
use Rattle.std.proofs.lemmas.Bool.{cases_Bool, cases_lt, both_ways}
use Rattle.frames.specs.Bounds.{needs}
use Rattle.frames.specs.Values.{Ack, Frame, Message, Name, ack_frame, data_frame, frame_ok, nack_frame}
use Rattle.frames.specs.Written.{written}
use Rattle.links.specs.Meaning.{Waits}
use Rattle.head.specs.Head.{Head, Kept, mark}
use Rattle.head.specs.Queue.{Queue}
use Rattle.head.specs.Ranges.{kept_message}
use Rattle.head.specs.Slots.{Slot, ack, bare, full, is_ack, known, named, size, unknown, whole}
use Rattle.head.proofs.Marks.{IsMark, Window, mark_is}
use Rattle.head.proofs.Names.{listing, listing_same, raise_all}
use Rattle.head.proofs.Slots.{full_known, stripped, stripped_known, unknown_is}
use Rattle.ring.specs.Law.{Apart}
use Rattle.ring.specs.Record.{Delivers, Happened, Submits, Submitted, TakesIn, all_names, deliveries, issued, submissions}
use Rattle.ring.specs.Ring.{Event}
use Rattle.ring.proofs.Log.{Chain, tape, tape_above, tape_more, top_of}

-- a head has a message that was submitted

pub record Held (n : ℕ) (es : List Event) (h : ℕ) (m : Message) : Type 0 where
  pub submitted : Submitted m es
  pub came : Happened (Submits h m) es ⊎ Happened (TakesIn n h m) es

pub later : {P : Event → Type 0} {e : Event} {es : List Event} → Happened P es → Happened P (e ∷ es)
later s = (s.0, Memᴰ.tail s.1, s.2)

pub held_later : {n : ℕ} {e : Event} {es : List Event} {h : ℕ} {m : Message} → Held n es h m → Held n (e ∷ es) h m
held_later k = record { submitted = later k.submitted; came = elim k.came [ inl a ↦ inl (later a) | inr a ↦ inr (later a) ] }

-- the queue agrees with the log from base on

pub record Agrees (l : List Ack) (q : Queue) (b : ℕ) : Type 0 where
  pub inside : b ≤ top_of l
  pub positive : 1 ≤ b
  pub border : (a : Ack) → Memᴰ a l → (b ≤ a.stamp) ⊎ (a.stamp + size a < b)
  pub window : Window q b
  pub fits : (s : ℕ) → b ≤ s → known (q s) ≡ true → stripped (q s) ≡ tape l s
  pub blocks : (a : Ack) → Memᴰ a l → b ≤ a.stamp → (s : ℕ) → a.stamp ≤ s → s ≤ a.stamp + size a → known (q s) ≡ known (q a.stamp)
  pub anchored : (b ≡ 1) ⊎ ((s : ℕ) × (b ≤ s) × (is_ack (q s) ≡ true))

abbrev pub Has : ℕ → List Event → ℕ → Name → Type 0
Has n es h y = (m : Message) × (m.name ≡ y) × Held n es h m

pub record HeadInv (n : ℕ) (es : List Event) (l : List Ack) (h : ℕ) (x : Head) : Type 0 where
  pub is_me : x.me ≡ h
  pub agrees : Agrees l x.queue x.base
  pub bodies : (s : ℕ) (m : Message) → x.base ≤ s → x.queue s ≡ whole m → Held n es h m
  pub pends : (s k : ℕ) (p : Kept) → x.pending s k ≡ Some p → Held n es h (kept_message s k p)
  pub gone_is : (s : ℕ) → x.gone s ≡ raise_all s (listing (tape l) (x.base - 1) 1) 0
  pub due_from : x.base ≤ x.due
  pub due_to : x.due ≤ mark x
  pub got : (s : ℕ) (y : Name) → s < x.base → named (tape l s) ≡ Some y → Has n es h y

pub head_later : (n : ℕ) (e : Event) (es : List Event) (l : List Ack) (h : ℕ) (x : Head) → HeadInv n es l h x → HeadInv n (e ∷ es) l h x
head_later n e es l h x i = record {
  is_me = i.is_me;
  agrees = i.agrees;
  bodies = λ s m a b. held_later (i.bodies s m a b);
  pends = λ s k p a. held_later (i.pends s k p a);
  gone_is = i.gone_is;
  due_from = i.due_from;
  due_to = i.due_to;
  got = λ s y a b. let g : Has n es h y = i.got s y a b in (g.0, g.1, held_later g.2);
}

-- the log grows

pub record Grows (n : ℕ) (l k : List Ack) : Type 0 where
  pub chain : Chain n k
  pub top : top_of l ≤ top_of k
  pub same : (s : ℕ) → s < top_of l → tape k s ≡ tape l s
  pub kept : (a : Ack) → Memᴰ a l → Memᴰ a k
  pub new : (a : Ack) → Memᴰ a k → Memᴰ a l ⊎ (top_of l ≤ a.stamp)

pub grows_none : (n : ℕ) (l : List Ack) → Chain n l → Grows n l l
grows_none n l c = record { chain = c; top = omega arith; same = λ s h. refl; kept = λ a m. m; new = λ a m. inl m }

pub grows_one : (n : ℕ) (l : List Ack) (a : Ack) → Chain n (a ∷ l) → Grows n l (a ∷ l)
grows_one n l a c = record {
  chain = c;
  top = omega (arith, c.0);
  same = λ s h. tape_more n a l s c h;
  kept = λ b m. Memᴰ.tail m;
  new = λ b m. elim (Memᴰ.cases_cons m) [ inl e ↦ inr (omega (arith, c.0, ap (λ (x : Ack). x.stamp) e)) | inr k ↦ inl k ];
}

-- nothing is known past the log's end
pub past_top : (n : ℕ) (l : List Ack) (q : Queue) (b s : ℕ) → Chain n l → Agrees l q b → top_of l ≤ s → q s ≡ unknown
past_top n l q b s c g h =
    elim (cases_Bool (known (q s))) [
      | inl e ↦ absurd (both_ways (known (q s)) (sym (stripped_known (q s)) ∙ ap known (g.fits s (omega (arith, g.inside)) e ∙ tape_above n l s c h)) e)
      | inr e ↦ unknown_is (q s) e
    ]

pub agrees_grows : (n : ℕ) (l k : List Ack) (q : Queue) (b : ℕ) → Chain n l → Grows n l k → Agrees l q b → Agrees k q b
agrees_grows n l k q b c w g = record {
  inside = omega (arith, g.inside, w.top);
  positive = g.positive;
  border = λ a m. elim (w.new a m) [ inl o ↦ g.border a o | inr o ↦ inl (omega (arith, g.inside)) ];
  window = g.window;
  fits = λ s h e. elim (cases_lt s (top_of l)) [ inl o ↦ g.fits s h e ∙ sym (w.same s o) | inr o ↦ absurd (both_ways (known (q s)) (ap known (past_top n l q b s c g o)) e) ];
  blocks = λ a m h s x y. elim (w.new a m) [ inl o ↦ g.blocks a o h s x y | inr o ↦ ap known (past_top n l q b s c g (omega arith) ∙ sym (past_top n l q b a.stamp c g o)) ];
  anchored = g.anchored;
}

pub head_grows : (n : ℕ) (es : List Event) (l k : List Ack) (h : ℕ) (x : Head) → Chain n l → Grows n l k → HeadInv n es l h x → HeadInv n es k h x
head_grows n es l k h x c w i = record {
  is_me = i.is_me;
  agrees = agrees_grows n l k x.queue x.base c w i.agrees;
  bodies = i.bodies;
  pends = i.pends;
  gone_is = λ s. i.gone_is s ∙ ap (λ (xs : List Name). raise_all s xs 0) (sym (listing_same (tape k) (tape l) (x.base - 1) 1 (λ u a b. ap named (w.same u (omega (arith, i.agrees.inside))))));
  due_from = i.due_from;
  due_to = i.due_to;
  got = λ s y a b. i.got s y a (sym (ap named (w.same s (omega (arith, i.agrees.inside)))) ∙ b);
}

-- the mark of a head that agrees
pub is_marked : (n : ℕ) (es : List Event) (l : List Ack) (h : ℕ) (x : Head) → HeadInv n es l h x → IsMark x.queue x.base (mark x)
is_marked n es l h x i = mark_is x i.agrees.window

-- a full slot that has a name has the message
full_has : (n : ℕ) (es : List Event) (h : ℕ) (s : Slot) (y : Name) → ((m : Message) → s ≡ whole m → Held n es h m) → full s ≡ true → named (stripped s) ≡ Some y → Has n es h y
full_has n es h unknown y f e a = let z : ◌≡◌ {A = ℕ} 0 1 = cc in absurd (omega arith)
full_has n es h (ack i ns) y f e a = let z : ◌≡◌ {A = ℕ} 0 1 = cc in absurd (omega arith)
full_has n es h (bare x) y f e a = let z : ◌≡◌ {A = ℕ} 0 1 = cc in absurd (omega arith)
full_has n es h (whole m) y f e a = (m, cc, f m refl)

-- whatever is named below the mark, the head has
pub below_mark : (n : ℕ) (es : List Event) (l : List Ack) (h : ℕ) (x : Head) (s : ℕ) (y : Name) → HeadInv n es l h x → s < mark x → named (tape l s) ≡ Some y → Has n es h y
below_mark n es l h x s y i a b =
    elim (cases_lt s x.base) [
      | inl o ↦ i.got s y o b
      | inr o ↦
          let f : full (x.queue s) ≡ true = (is_marked n es l h x i).all s o a in
          full_has n es h (x.queue s) y (λ m e. i.bodies s m o e) f (ap named (i.agrees.fits s o (full_known (x.queue s) f)) ∙ b)
    ]

-- names along the log

abbrev pub from_names : ℕ → List Name → ℕ
from_names s [] = 0
from_names s (x ∷ xs) = cond (eqb x.source s) (suc (from_names s xs)) (from_names s xs)

-- behind the names ys, each name has the next number of its source
abbrev pub Turns : List Name → List Name → Type 0
Turns ys [] = Unit {0}
Turns ys (x ∷ xs) = (x.number ≡ suc (from_names x.source ys)) × Turns (ys ++ (x ∷ [])) xs

abbrev pub Turned : List Name → Type 0
Turned xs = Turns [] xs

-- messages with the numbers k, k + 1 and on
abbrev pub Numbered : ℕ → List Message → Type 0
Numbered k [] = Unit {0}
Numbered k (m ∷ ms) = (m.name.number ≡ k) × Numbered (suc k) ms

-- what may be on its way: the Data frame of a submitted message, an ACK of the log, or a NACK

abbrev pub Sane : List Event → List Ack → Frame → Type 0
Sane es l (data_frame m) = Submitted m es
Sane es l (ack_frame a) = Memᴰ a l
Sane es l (nack_frame f o t) = Unit {0}

-- a packet that waits is such a frame, written from fields in their ranges
abbrev pub Waiting : ℕ → List Event → List Ack → List ℕ → Type 0
Waiting n es l p = (f : Frame) × (p ≡ written n f) × (frame_ok n f ≡ true) × Sane es l f

-- a delivery and the heads that were counted for it
pub record Counted (n : ℕ) (es : List Event) (l : List Ack) (hs : ℕ → Head) (h : ℕ) (m : Message) (t : ℕ) : Type 0 where
  pub submitted : Submitted m es
  pub ordered : named (tape l t) ≡ Some m.name
  pub within : t < top_of l
  pub others : List ℕ
  pub apart : Apart h others
  pub enough : needs n m.name.level ≤ length others
  pub hold : (g : ℕ) → Memᴰ g others → (g < n) × (t < mark (hs g))

pub record Inv (n : ℕ) (es : List Event) (l : List Ack) (hs : ℕ → Head) (w : Waits) : Type 0 where
  pub same : l ≡ issued es
  pub chain : Chain n l
  pub turned : Turned (all_names l)
  pub sources : (y : Name) → Memᴰ y (all_names l) → (m : Message) × (m.name ≡ y) × Submitted m es
  pub unique : (m k : Message) → Submitted m es → Submitted k es → m.name.source ≡ k.name.source → m.name.number ≡ k.name.number → m ≡ k
  pub made : (m : Message) → Submitted m es → (m.name.source < n) × (m.name.number ≤ (hs m.name.source).made)
  pub subs : (h : ℕ) → h < n → Numbered 1 (submissions h es) × (length (submissions h es) ≡ (hs h).made)
  pub subs_sub : (h : ℕ) (m : Message) → Memᴰ m (submissions h es) → Submitted m es × (m.name.source ≡ h)
  pub heads : (h : ℕ) → h < n → HeadInv n es l h (hs h)
  pub issuers : (a : Ack) → Memᴰ a l → (a.issuer < n) × (a.stamp + size a < mark (hs a.issuer))
  pub bases : (g h : ℕ) → g < n → h < n → (hs g).base ≤ mark (hs h)
  pub told : (h : ℕ) → h < n → map (λ (m : Message). m.name) (deliveries h es) ≡ listing (tape l) ((hs h).due - 1) 1
  pub told_sub : (h : ℕ) (m : Message) → Memᴰ m (deliveries h es) → Submitted m es
  pub counted : (h : ℕ) (m : Message) (t : ℕ) → Happened (Delivers h m t) es → Counted n es l hs h m t
  pub waiting : (h : ℕ) (p : List ℕ) → Memᴰ p (w h) → Waiting n es l p

-- Only the head whose turn it is can hold the token, and only when it has the whole log.
use Rattle.std.proofs.Common.{◌≡◌, ℕ, suc, ◌+◌, ◌<◌, ◌≤◌, true, eqb, List, length, Some, None, Option, sym, refl, ap, ◌∙◌, subst, inl, inr, arith}
use mathlib.Core.List.{Memᴰ}
use Rattle.std.proofs.lemmas.Bool.{cases_lt, both_ways, eqb-true, and_parts}
use Rattle.frames.specs.Values.{Ack, Name}
use Rattle.links.specs.Meaning.{Waits}
use Rattle.head.specs.Head.{Head, end, holds, mark, next_of, top}
use Rattle.head.specs.Queue.{Queue, past_last}
use Rattle.head.specs.Slots.{Slot, ack, bare, cells, is_ack, known, size, unknown, whole}
use Rattle.head.proofs.Slots.{cells_ack, cells_at, stripped, stripped_known}
use Rattle.head.proofs.Walk.{Ends, Last, last_ack_last, past_last_ends}
use Rattle.ring.specs.Ring.{Event}
use Rattle.ring.proofs.Invariant.{Agrees, Inv}
use Rattle.ring.proofs.Log.{BlockOf, Chain, apart, first_of, followed, tape, tape_block, tape_mem, top_of, turn_of}

pub stripped_is_ack : (s : Slot) (i : ℕ) (ns : List Name) → stripped s ≡ ack i ns → s ≡ ack i ns
stripped_is_ack unknown i ns e = e
stripped_is_ack (ack j ms) i ns e = e
stripped_is_ack (bare x) i ns e = e
stripped_is_ack (whole m) i ns e = let z : ◌≡◌ {A = ℕ} 0 1 = cc in absurd (omega arith)

-- what is known from base on lies in a block whose ACK is known
abbrev pub KnownBlock : List Ack → Queue → ℕ → ℕ → Ack → Type 0
KnownBlock l q b s a = Memᴰ a l × (b ≤ a.stamp) × (a.stamp ≤ s) × (s ≤ a.stamp + size a) × (q a.stamp ≡ ack a.issuer a.names)

pub known_block : (n : ℕ) (l : List Ack) (q : Queue) (b s : ℕ) → Chain n l → Agrees l q b → b ≤ s → known (q s) ≡ true → (a : Ack) × KnownBlock l q b s a
known_block n l q b s c g h e =
    let t : (a : Ack) × BlockOf l s a = tape_block n l s c (sym (ap known (g.fits s h e)) ∙ (stripped_known (q s) ∙ e)) in
    let a : Ack = t.0 in
    elim (g.border a t.1.0) [
      | inl o ↦
          let k : known (q a.stamp) ≡ true = sym (g.blocks a t.1.0 o s t.1.1 t.1.2) ∙ e in
          let f : stripped (q a.stamp) ≡ ack a.issuer a.names = g.fits a.stamp o k ∙ (tape_mem n l a a.stamp c t.1.0 (omega arith) (omega arith) ∙ cells_at a a.stamp refl) in
          (a, (t.1.0, o, t.1.1, t.1.2, stripped_is_ack (q a.stamp) a.issuer a.names f))
      | inr o ↦ absurd (omega (arith, t.1.2))
    ]

-- a known ACK is the log's
abbrev pub Logged : List Ack → ℕ → ℕ → List Name → Ack → Type 0
Logged l s i ns a = Memᴰ a l × (a.stamp ≡ s) × (a.issuer ≡ i) × (a.names ≡ ns)

pub ack_logged : (n : ℕ) (l : List Ack) (q : Queue) (b s i : ℕ) (ns : List Name) → Chain n l → Agrees l q b → b ≤ s → q s ≡ ack i ns → (a : Ack) × Logged l s i ns a
ack_logged n l q b s i ns c g h e =
    let k : known (q s) ≡ true = ap known e in
    let f : ack i ns ≡ tape l s = sym (ap stripped e) ∙ g.fits s h k in
    let t : (a : Ack) × BlockOf l s a = tape_block n l s c (sym (ap known f)) in
    let a : Ack = t.0 in
    let r : ack i ns ≡ cells a s = f ∙ t.1.3 in
    let o : s ≡ a.stamp = cells_ack a s (sym (ap is_ack r)) in
    let y : ack i ns ≡ ack a.issuer a.names = r ∙ cells_at a s o in
    let yi : a.issuer ≡ i = cc y in
    let yn : a.names ≡ ns = cc y in
    (a, (t.1.0, sym o, yi, yn))

pub is_ack_logged : (n : ℕ) (l : List Ack) (q : Queue) (b s : ℕ) → Chain n l → Agrees l q b → b ≤ s → is_ack (q s) ≡ true → (a : Ack) × Memᴰ a l × (a.stamp ≡ s)
is_ack_logged n l q b s c g h e = go (q s) refl
  where
    go : (x : Slot) → q s ≡ x → (a : Ack) × Memᴰ a l × (a.stamp ≡ s)
    go unknown f = absurd (both_ways (is_ack (q s)) (ap is_ack f) e)
    go (ack i ns) f = let r : (a : Ack) × Logged l s i ns a = ack_logged n l q b s i ns c g h f in (r.0, r.1.0, r.1.1)
    go (bare y) f = absurd (both_ways (is_ack (q s)) (ap is_ack f) e)
    go (whole m) f = absurd (both_ways (is_ack (q s)) (ap is_ack f) e)

-- no ACK known: nothing is known, and base is 1
no_top : (n : ℕ) (l : List Ack) (q : Queue) (b : ℕ) → Chain n l → Agrees l q b → Last q 96 b None → (b ≡ 1) × (past_last known q 96 b ≡ 1)
no_top n l q b c g h =
    let e : Ends known q 96 b (past_last known q 96 b) = past_last_ends known q 96 b in
    let w : (s : ℕ) → b ≤ s → is_ack (q s) ≡ true → ⊥ = λ s o a. elim (cases_lt s (b + 96)) [ inl z ↦ both_ways (is_ack (q s)) (h s o z) a | inr z ↦ both_ways (is_ack (q s)) (ap is_ack (g.window s z)) a ] in
    let one : b ≡ 1 = elim g.anchored [ inl o ↦ o | inr o ↦ absurd (w o.0 o.1 o.2) ] in (
      one,
      elim e.last [
        | inl o ↦ o ∙ one
        | inr o ↦ let k : (a : Ack) × KnownBlock l q b o.0 a = known_block n l q b o.0 c g o.2 o.3 in absurd (w k.0.stamp k.1.1 (ap is_ack k.1.4))
      ],
    )

-- the end is just past the block of the top ACK
top_end : (n : ℕ) (l : List Ack) (q : Queue) (b : ℕ) (a : Ack) → Chain n l → Agrees l q b → Last q 96 b (Some a) → Memᴰ a l → past_last known q 96 b ≡ suc (a.stamp + size a)
top_end n l q b a c g h m =
    let e : Ends known q 96 b (past_last known q 96 b) = past_last_ends known q 96 b in
    let lastk : known (q (a.stamp + size a)) ≡ true = g.blocks a m h.0 (a.stamp + size a) (omega arith) (omega arith) ∙ ap known h.2 in
    let inw : a.stamp + size a < b + 96 = elim (cases_lt (a.stamp + size a) (b + 96)) [ inl z ↦ z | inr z ↦ absurd (both_ways (known (q (a.stamp + size a))) (ap known (g.window (a.stamp + size a) z)) lastk) ] in
    let lower : a.stamp + size a < past_last known q 96 b = elim (cases_lt (a.stamp + size a) (past_last known q 96 b)) [ inl z ↦ z | inr z ↦ absurd (both_ways (known (q (a.stamp + size a))) (e.beyond (a.stamp + size a) z inw) lastk) ] in
    elim e.last [
      | inl o ↦ absurd (omega (arith, h.0))
      | inr o ↦
          let k : (d : Ack) × KnownBlock l q b o.0 d = known_block n l q b o.0 c g o.2 o.3 in
          let d : Ack = k.0 in
          let ds : d.stamp ≤ a.stamp = elim (cases_lt a.stamp d.stamp) [ inl z ↦ absurd (both_ways (is_ack (q d.stamp)) (h.3 d.stamp z (omega (arith, e.to, o.1, k.1.2))) (ap is_ack k.1.4)) | inr z ↦ z ] in
          elim (apart n l d a c k.1.0 m) [
            | inl z ↦ omega (arith, o.1, k.1.3, ap (λ (x : Ack). x.stamp + size x) z)
            | inr z ↦ elim z [
              | inl y ↦ omega (arith, o.1, k.1.3)
              | inr y ↦ absurd (omega arith)
            ]
          ]
    ]

abbrev pub TurnOf : ℕ → List Ack → ℕ → Head → Type 0
TurnOf n l h x = (end x ≡ top_of l) × (mark x ≡ top_of l) × (h ≡ turn_of n l)

token_at : (n : ℕ) (es : List Event) (l : List Ack) (hs : ℕ → Head) (w : Waits) (h : ℕ) (r : Option Ack) → Inv n es l hs w → h < n → top (hs h) ≡ r → Last (hs h).queue 96 (hs h).base r → next_of n r ≡ h → mark (hs h) ≡ end (hs h) → TurnOf n l h (hs h)
unfolding end
token_at n es l hs w h None i b t k e f =
    let z : ((hs h).base ≡ 1) × (end (hs h) ≡ 1) = no_top n l (hs h).queue (hs h).base i.chain (i.heads h b).agrees k in
    elim (first_of n l i.chain) [
      | inl o ↦ (z.1 ∙ sym (ap top_of o), f ∙ (z.1 ∙ sym (ap top_of o)), sym e ∙ sym (ap (turn_of n) o))
      | inr o ↦
          let a : Ack = o.0 in
          let mk : a.stamp + size a < mark (hs a.issuer) = (i.issuers a o.1).1 in
          let same : mark (hs a.issuer) ≡ mark (hs h) = ap (λ (g : ℕ). mark (hs g)) (o.3 ∙ e) in
          absurd (omega (arith, o.2, z.1))
    ]
token_at n es l hs w h (Some a) i b t k e f =
    let g : (d : Ack) × Logged l a.stamp a.issuer a.names d = ack_logged n l (hs h).queue (hs h).base a.stamp a.issuer a.names i.chain (i.heads h b).agrees k.0 k.2 in
    let d : Ack = g.0 in
    let sz : size d ≡ size a = ap (λ (xs : List Name). length xs) g.1.3 in
    let eq : d ≡ a = λ j. record { stamp = g.1.1 j; issuer = g.1.2 j; names = g.1.3 j } in
    let m : Memᴰ a l = subst (λ (y : Ack). Memᴰ y l) eq g.1.0 in
    let en : end (hs h) ≡ suc (a.stamp + size a) = top_end n l (hs h).queue (hs h).base a i.chain (i.heads h b).agrees k m in
    elim (followed n l a i.chain m) [
      | inl o ↦ (en ∙ o.0, f ∙ (en ∙ o.0), sym e ∙ o.1)
      | inr o ↦
          let c : Ack = o.0 in
          let mk : c.stamp + size c < mark (hs c.issuer) = (i.issuers c o.1).1 in
          let same : mark (hs c.issuer) ≡ mark (hs h) = ap (λ (y : ℕ). mark (hs y)) (o.3 ∙ e) in
          absurd (omega (arith, o.2))
    ]

pub token : (n : ℕ) (es : List Event) (l : List Ack) (hs : ℕ → Head) (w : Waits) (h : ℕ) → Inv n es l hs w → h < n → holds n (hs h) ≡ true → TurnOf n l h (hs h)
unfolding holds top
token n es l hs w h i b e =
    let p : (eqb (next_of n (top (hs h))) (hs h).me ≡ true) × (eqb (mark (hs h)) (end (hs h)) ≡ true) = and_parts (eqb (next_of n (top (hs h))) (hs h).me) (eqb (mark (hs h)) (end (hs h))) e in
    token_at n es l hs w h (top (hs h)) i b refl (last_ack_last (hs h).queue 96 (hs h).base) (eqb-true (next_of n (top (hs h))) (hs h).me p.0 ∙ (i.heads h b).is_me) (eqb-true (mark (hs h)) (end (hs h)) p.1)

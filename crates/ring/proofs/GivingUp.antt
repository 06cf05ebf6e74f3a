-- Giving up keeps n what holds of a head, and gives up nothing that a head still lacks.
use Rattle.std.proofs.Common.{◌≡◌, ℕ, zero, suc, ◌+◌, ◌-◌, ◌<◌, ◌≤◌, true, ◌⊎◌, List, ◌++◌, length, Some, None, Option, sym, refl, ap, ◌∙◌, subst, inl, inr, arith}
use mathlib.Core.List.{Memᴰ}
use Rattle.frames.specs.Values.{Ack, Name}
use Rattle.head.specs.Head.{Head, mark}
use Rattle.head.specs.Queue.{acks, highest, one_if}
use Rattle.head.specs.Slots.{Slot, ack, full, is_ack, known, named, size}
use Rattle.head.specs.Upkeep.{give_up, give_up_one, ready}
use Rattle.head.proofs.Marks.{Window, mark_grows, mark_is}
use Rattle.head.proofs.Names.{highest_is, listing, listing_join, listing_same, raise_all, raise_all_join}
use Rattle.head.proofs.Slots.{stripped, stripped_named}
use Rattle.head.proofs.Upkeep.{Ready, give_up_none, give_up_some, give_up-zero, ready_some, up_base as past_base, up_counts, up_keep as past_keep}
use Rattle.head.proofs.Walk.{acks_some, acks_suc}
use Rattle.ring.specs.Ring.{Event}
use Rattle.ring.proofs.Invariant.{Agrees, HeadInv, below_mark, is_marked}
use Rattle.ring.proofs.Log.{Chain, apart, in_chain, tape}
use Rattle.ring.proofs.Round.{IssuerSince, acks_since, every_issuer, since}
use Rattle.ring.proofs.Token.{Logged, ack_logged, is_ack_logged}

-- M: is-marked n that the heads have at least
abbrev pub IssuersBelow : List Ack → (ℕ → ℕ) → Type 0
IssuersBelow l M = (a : Ack) → Memᴰ a l → a.stamp + size a < M a.issuer

module _ (n : ℕ) (es : List Event) (l : List Ack) (h : ℕ) (x : Head) (M : ℕ → ℕ) (o : ℕ) (ns : List Name) (two : 2 ≤ n) (c : Chain n l) (i : HeadInv n es l h x) (iss : IssuersBelow l M) (here : x.queue x.base ≡ ack o ns) (many : n < acks x.queue 96 x.base) (past : x.base + length ns < x.due) where
  up : Head
  up = give_up_one x (length ns)

  first : (a : Ack) × Logged l x.base o ns a
  first = ack_logged n l x.queue x.base x.base o ns c i.agrees (omega arith) here

  lead : Ack
  lead = first.0

  lead_in : Memᴰ lead l
  unfolding lead
  lead_in = first.1.0

  lead_stamp : lead.stamp ≡ x.base
  unfolding lead
  lead_stamp = first.1.1

  lead_size : size lead ≡ length ns
  unfolding lead
  lead_size = ap (λ (ys : List Name). length ys) first.1.3

  up_base : up.base ≡ suc (x.base + length ns)
  unfolding up
  up_base = past_base x (length ns)

  up_keep : (s : ℕ) → up.base ≤ s → up.queue s ≡ x.queue s
  unfolding up
  up_keep = past_keep x (length ns)

  up_window : Window up.queue up.base
  up_window s b = up_keep s (omega arith) ∙ i.agrees.window s (omega (arith, up_base))

  up_border : (a : Ack) → Memᴰ a l → (up.base ≤ a.stamp) ⊎ (a.stamp + size a < up.base)
  up_border a m = elim (apart n l lead a c lead_in m) [
    | inl e ↦ inr (omega (arith, up_base, lead_stamp, lead_size, ap (λ (y : Ack). y.stamp + size y) e))
    | inr e ↦ elim e [ inl g ↦ inl (omega (arith, up_base, lead_stamp, lead_size)) | inr g ↦ inr (omega (arith, up_base, lead_stamp, lead_size)) ]
  ]

  others_count : n ≤ acks x.queue 95 (suc x.base)
  others_count = let e : acks x.queue 96 x.base ≡ one_if (is_ack (x.queue x.base)) + acks x.queue 95 (suc x.base) = acks_suc x.queue 95 x.base in let f : one_if (is_ack (x.queue x.base)) ≡ 1 = ap (λ (y : Slot). one_if (is_ack y)) here in omega arith

  -- a later ACK of the log lies past what is given up
  later_ack : (d : Ack) → Memᴰ d l → x.base < d.stamp → up.base ≤ d.stamp
  later_ack d m b = elim (up_border d m) [
    | inl g ↦ g
    | inr g ↦ elim (apart n l lead d c lead_in m) [
      | inl e ↦ absurd (omega (arith, lead_stamp, ap (λ (y : Ack). y.stamp) e))
      | inr e ↦ elim e [ inl k ↦ absurd (omega (arith, up_base, lead_stamp, lead_size)) | inr k ↦ absurd (omega (arith, lead_stamp)) ]
    ]
  ]

  up_anchor : (s : ℕ) × (up.base ≤ s) × (is_ack (up.queue s) ≡ true)
  up_anchor =
      let r : (u : ℕ) × (suc x.base ≤ u) × (u < suc x.base + 95) × (is_ack (x.queue u) ≡ true) = acks_some x.queue 95 (suc x.base) (omega (arith, others_count)) in
      let d : (a : Ack) × Memᴰ a l × (a.stamp ≡ r.0) = is_ack_logged n l x.queue x.base r.0 c i.agrees (omega (arith, r.1)) r.3 in
      let b : up.base ≤ d.0.stamp = later_ack d.0 d.1 (omega (arith, r.1, d.2)) in
      let b2 : up.base ≤ r.0 = omega (arith, d.2) in
      (r.0, b2, ap is_ack (up_keep r.0 b2) ∙ r.3)

  up_agrees : Agrees l up.queue up.base
  up_agrees = record {
    inside = omega (arith, up_base, lead_stamp, lead_size, (in_chain n l lead c lead_in).0);
    positive = omega (arith, up_base);
    border = up_border;
    window = up_window;
    fits = λ s b e. ap stripped (up_keep s b) ∙ i.agrees.fits s (omega (arith, up_base)) (sym (ap known (up_keep s b)) ∙ e);
    blocks = λ a m b s y z. ap known (up_keep s (omega arith)) ∙ (i.agrees.blocks a m (omega (arith, up_base)) s y z ∙ sym (ap known (up_keep a.stamp b)));
    anchored = inr up_anchor;
  }

  block_known : (u : ℕ) → x.base ≤ u → u < x.base + suc (length ns) → known (x.queue u) ≡ true
  block_known u a b = i.agrees.blocks lead lead_in (omega (arith, lead_stamp)) u (omega (arith, lead_stamp)) (omega (arith, lead_stamp, lead_size)) ∙ (ap (λ (k : ℕ). known (x.queue k)) lead_stamp ∙ ap known here)

  up_gone : (s : ℕ) → up.gone s ≡ raise_all s (listing (tape l) (up.base - 1) 1) 0
  unfolding up give_up_one
  up_gone s =
      let j : ℕ = suc (length ns) in
      let one : 1 + (x.base - 1) ≡ x.base = omega (arith, i.agrees.positive) in
      let sum : (x.base - 1) + suc (length ns) ≡ suc (x.base + length ns) - 1 = omega (arith, i.agrees.positive) in
      let e1 : highest x.queue s (suc (length ns)) x.base (x.gone s) ≡ raise_all s (listing x.queue (suc (length ns)) x.base) (x.gone s) = highest_is x.queue s (suc (length ns)) (suc (length ns)) x.base (x.gone s) (omega arith) block_known (λ b. absurd (omega arith)) in
      let e2 : listing x.queue (suc (length ns)) x.base ≡ listing (tape l) (suc (length ns)) x.base = listing_same x.queue (tape l) (suc (length ns)) x.base (λ u a b. sym (stripped_named (x.queue u)) ∙ ap named (i.agrees.fits u a (block_known u a b))) in
      let e3 : listing (tape l) (suc (x.base + length ns) - 1) 1 ≡ listing (tape l) (x.base - 1) 1 ++ listing (tape l) (suc (length ns)) x.base = ap (λ (k : ℕ). listing (tape l) k 1) (sym sum) ∙ (listing_join (tape l) (x.base - 1) (suc (length ns)) 1 ∙ ap (λ (k : ℕ). listing (tape l) (x.base - 1) 1 ++ listing (tape l) (suc (length ns)) k) one) in
      let e4 : raise_all s (listing (tape l) (suc (x.base + length ns) - 1) 1) 0 ≡ raise_all s (listing (tape l) (suc (length ns)) x.base) (raise_all s (listing (tape l) (x.base - 1) 1) 0) = ap (λ (xs : List Name). raise_all s xs 0) e3 ∙ raise_all_join s (listing (tape l) (x.base - 1) 1) (listing (tape l) (suc (length ns)) x.base) 0 in
      e1 ∙ (ap (λ (xs : List Name). raise_all s xs (x.gone s)) e2 ∙ (ap (λ (k : ℕ). raise_all s (listing (tape l) (suc (length ns)) x.base) k) (i.gone_is s) ∙ sym e4))

  pub up_mark : mark x ≤ mark (give_up_one x (length ns))
  unfolding up
  up_mark = mark_grows x.queue up.queue x.base up.base (mark x) (mark up) (is_marked n es l h x i) (mark_is up up_window) (omega (arith, up_base)) (λ u a b. ap full (up_keep u a) ∙ b)

  pub ups : HeadInv n es l h (give_up_one x (length ns))
  unfolding up give_up_one
  ups = record {
    is_me = i.is_me;
    agrees = up_agrees;
    bodies = λ s m b e. i.bodies s m (omega arith) (sym (up_keep s b) ∙ e);
    pends = i.pends;
    gone_is = up_gone;
    due_from = past;
    due_to = omega (arith, i.due_to, up_mark);
    got = λ s y b e. below_mark n es l h x s y i (omega (arith, i.due_to)) e;
  }

  -- every head's mark is past what is given up
  pub up_bases : (g : ℕ) → g < n → (give_up_one x (length ns)).base ≤ M g
  unfolding up
  up_bases g b =
      let k : acks x.queue 95 (suc x.base) ≤ since l (suc x.base) = acks_since x.queue l 95 (suc x.base) (λ u y e. is_ack_logged n l x.queue x.base u c i.agrees (omega arith) e) in
      let r : IssuerSince l (suc x.base) g = every_issuer n l (suc x.base) g b c (omega (arith, others_count)) in
      let d : Ack = r.0 in
      let f : up.base ≤ d.stamp = later_ack d r.1 (omega (arith, r.2)) in
      let m : d.stamp + size d < M d.issuer = iss d r.1 in
      let same : M d.issuer ≡ M g = ap M r.3 in
      omega arith

-- the whole pass

pub record Settled (n : ℕ) (es : List Event) (l : List Ack) (h : ℕ) (M : ℕ → ℕ) (x y : Head) : Type 0 where
  pub inv : HeadInv n es l h y
  pub mark_up : mark x ≤ mark y
  pub due_same : y.due ≡ x.due
  pub made_same : y.made ≡ x.made
  pub bases : (g : ℕ) → g < n → y.base ≤ M g

stay : (n : ℕ) (es : List Event) (l : List Ack) (h : ℕ) (M : ℕ → ℕ) (x : Head) → HeadInv n es l h x → ((g : ℕ) → g < n → x.base ≤ M g) → Settled n es l h M x x
stay n es l h M x i b = record { inv = i; mark_up = omega arith; due_same = refl; made_same = refl; bases = b }

pub settle : (k n : ℕ) (es : List Event) (l : List Ack) (h : ℕ) (M : ℕ → ℕ) (x : Head) → 2 ≤ n → Chain n l → HeadInv n es l h x → IssuersBelow l M → ((g : ℕ) → g < n → x.base ≤ M g) → Settled n es l h M x (give_up k n x)
settle zero n es l h M x two c i iss b = rw (give_up-zero n x) (stay n es l h M x i b)
settle (suc k) n es l h M x two c i iss b = go (ready n x (x.queue x.base)) refl (λ y p q. settle k n es l h M y two c p iss q)
  where
    go : (r : Option ℕ) → ready n x (x.queue x.base) ≡ r → ((y : Head) → HeadInv n es l h y → ((g : ℕ) → g < n → y.base ≤ M g) → Settled n es l h M y (give_up k n y)) → Settled n es l h M x (give_up (suc k) n x)
    go None e rec = rw (give_up_none k n x e) (stay n es l h M x i b)
    go (Some m) e rec =
        let r : Ready n x m (x.queue x.base) = ready_some n m x (x.queue x.base) e in
        let ns : List Name = r.1 in
        let f : give_up (suc k) n x ≡ give_up k n (give_up_one x (length ns)) = give_up_some k n m x e ∙ ap (λ (j : ℕ). give_up k n (give_up_one x j)) r.3 in
        let s : Settled n es l h M (give_up_one x (length ns)) (give_up k n (give_up_one x (length ns))) = rec (give_up_one x (length ns)) (ups n es l h x M r.0 ns two c i iss r.2 r.4 r.5) (up_bases n es l h x M r.0 ns two c i iss r.2 r.4 r.5) in
        let um : mark x ≤ mark (give_up_one x (length ns)) = up_mark n es l h x M r.0 ns two c i iss r.2 r.4 r.5 in
        let t : Settled n es l h M x (give_up k n (give_up_one x (length ns))) = record { inv = s.inv; mark_up = omega (arith, s.mark_up); due_same = s.due_same ∙ (up_counts x (length ns)).due_same; made_same = s.made_same ∙ (up_counts x (length ns)).made_same; bases = s.bases } in
        subst (λ (y : Head). Settled n es l h M x y) (sym f) t

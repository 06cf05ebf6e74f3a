-- The log of ACKs, newest first, and what it has at each stamp.
use Rattle.std.proofs.Common.{◌≡◌, ℕ, suc, ◌+◌, ◌-◌, ◌<◌, ◌≤◌, true, ◌⊎◌, List, [], ◌∷◌, ◌++◌, sym, refl, ap, ◌∙◌, inl, inr, arith}
use mathlib.Core.List.Memᴰ
use mathlib.Core.List.{Memᴰ}
use Rattle.std.proofs.lemmas.Bool.{cases_Bool, cases_lt}
use Rattle.frames.specs.Bounds.{after}
use Rattle.frames.specs.Values.{Ack, Name}
use Rattle.head.specs.Queue.{Queue}
use Rattle.head.specs.Slots.{Slot, cells, known, named, over, size, unknown}
use Rattle.head.proofs.Names.{listing, listing_join, listing_same, listing_zero}
use Rattle.head.proofs.Slots.{cells_above, cells_below, cells_block, cells_known, cells_listing, over_known, over_unknown}
use Rattle.ring.specs.Record.{all_names}

-- the log

abbrev pub top_of : List Ack → ℕ
top_of [] = 1
top_of (a ∷ l) = suc (a.stamp + size a)

abbrev pub turn_of : ℕ → List Ack → ℕ
turn_of n [] = 0
turn_of n (a ∷ l) = after n a.issuer

abbrev pub Chain : ℕ → List Ack → Type 0
Chain n [] = Unit {0}
Chain n (a ∷ l) = (a.stamp ≡ top_of l) × (a.issuer ≡ turn_of n l) × Chain n l

abbrev pub tape : List Ack → Queue
tape [] s = unknown
tape (a ∷ l) s = over (cells a s) (tape l s)

pub top_pos : (n : ℕ) (l : List Ack) → Chain n l → 1 ≤ top_of l
top_pos n [] c = omega arith
top_pos n (a ∷ l) c = omega arith

pub in_chain : (n : ℕ) (l : List Ack) (a : Ack) → Chain n l → Memᴰ a l → (suc (a.stamp + size a) ≤ top_of l) × (1 ≤ a.stamp)
in_chain n [] a c m = absurd (Memᴰ.not-nil m)
in_chain n (b ∷ l) a c m =
    elim (Memᴰ.cases_cons m) [
      | inl e ↦ let p : 1 ≤ top_of l = top_pos n l c.2 in rw e (omega arith, omega (arith, c.0))
      | inr k ↦ let i : (suc (a.stamp + size a) ≤ top_of l) × (1 ≤ a.stamp) = in_chain n l a c.2 k in (omega (arith, c.0), i.1)
    ]

pub tape_above : (n : ℕ) (l : List Ack) (s : ℕ) → Chain n l → top_of l ≤ s → tape l s ≡ unknown
tape_above n [] s c h = refl
tape_above n (a ∷ l) s c h = ap (λ (x : Slot). over x (tape l s)) (cells_above a s (omega arith)) ∙ tape_above n l s c.2 (omega (arith, c.0))

pub tape_more : (n : ℕ) (a : Ack) (l : List Ack) (s : ℕ) → Chain n (a ∷ l) → s < top_of l → tape (a ∷ l) s ≡ tape l s
tape_more n a l s c h = ap (λ (x : Slot). over x (tape l s)) (cells_below a s (omega (arith, c.0)))

pub tape_mem : (n : ℕ) (l : List Ack) (a : Ack) (s : ℕ) → Chain n l → Memᴰ a l → a.stamp ≤ s → s ≤ a.stamp + size a → tape l s ≡ cells a s
tape_mem n [] a s c m h g = absurd (Memᴰ.not-nil m)
tape_mem n (b ∷ l) a s c m h g =
    elim (Memᴰ.cases_cons m) [
      | inl e ↦ ap (λ (x : Ack). over (cells x s) (tape l s)) (sym e) ∙ over_known (cells a s) (tape l s) (cells_known a s h g)
      | inr k ↦ tape_more n b l s c (omega (arith, (in_chain n l a c.2 k).0)) ∙ tape_mem n l a s c.2 k h g
    ]

abbrev pub BlockOf : List Ack → ℕ → Ack → Type 0
BlockOf l s a = Memᴰ a l × (a.stamp ≤ s) × (s ≤ a.stamp + size a) × (tape l s ≡ cells a s)

pub tape_block : (n : ℕ) (l : List Ack) (s : ℕ) → Chain n l → known (tape l s) ≡ true → (a : Ack) × BlockOf l s a
tape_block n [] s c h = let z : ◌≡◌ {A = ℕ} 0 1 = cc in absurd (omega arith)
tape_block n (b ∷ l) s c h =
    elim (cases_Bool (known (cells b s))) [
      | inl e ↦ let k : (b.stamp ≤ s) × (s ≤ b.stamp + size b) = cells_block b s e in (b, (Memᴰ.head refl, k.0, k.1, over_known (cells b s) (tape l s) e))
      | inr e ↦
          let o : tape (b ∷ l) s ≡ tape l s = over_unknown (cells b s) (tape l s) e in
          let i : (a : Ack) × BlockOf l s a = tape_block n l s c.2 (sym (ap known o) ∙ h) in
          (i.0, (Memᴰ.tail i.1.0, i.1.1, i.1.2, o ∙ i.1.3))
    ]

-- every stamp below the top of the log is known
pub tape_known : (n : ℕ) (l : List Ack) (s : ℕ) → Chain n l → 1 ≤ s → s < top_of l → known (tape l s) ≡ true
tape_known n [] s c h g = absurd (omega arith)
tape_known n (b ∷ l) s c h g =
    elim (cases_lt s (top_of l)) [
      | inl k ↦ ap known (tape_more n b l s c k) ∙ tape_known n l s c.2 h k
      | inr k ↦ let e : known (cells b s) ≡ true = cells_known b s (omega (arith, c.0)) (omega arith) in ap known (over_known (cells b s) (tape l s) e) ∙ e
    ]

-- two blocks that meet are one
pub apart : (n : ℕ) (l : List Ack) (a b : Ack) → Chain n l → Memᴰ a l → Memᴰ b l → (a ≡ b) ⊎ ((a.stamp + size a < b.stamp) ⊎ (b.stamp + size b < a.stamp))
apart n [] a b c m k = absurd (Memᴰ.not-nil m)
apart n (d ∷ l) a b c m k =
    elim (Memᴰ.cases_cons m) [
      | inl e ↦ elim (Memᴰ.cases_cons k) [
        | inl f ↦ inl (e ∙ sym f)
        | inr f ↦ let i : suc (b.stamp + size b) ≤ top_of l = (in_chain n l b c.2 f).0 in let g : a.stamp ≡ d.stamp = ap (λ (x : Ack). x.stamp) e in inr (inr (omega (arith, c.0)))
      ]
      | inr e ↦ elim (Memᴰ.cases_cons k) [
        | inl f ↦ let i : suc (a.stamp + size a) ≤ top_of l = (in_chain n l a c.2 e).0 in let g : b.stamp ≡ d.stamp = ap (λ (x : Ack). x.stamp) f in inr (inl (omega (arith, c.0)))
        | inr f ↦ apart n l a b c.2 e f
      ]
    ]

-- the ACK behind one of the log, or the log's end
abbrev pub Followed : ℕ → List Ack → Ack → Type 0
Followed n l a = ((suc (a.stamp + size a) ≡ top_of l) × (after n a.issuer ≡ turn_of n l)) ⊎ ((b : Ack) × Memᴰ b l × (b.stamp ≡ suc (a.stamp + size a)) × (b.issuer ≡ after n a.issuer))

pub followed : (n : ℕ) (l : List Ack) (a : Ack) → Chain n l → Memᴰ a l → Followed n l a
followed n [] a c m = absurd (Memᴰ.not-nil m)
followed n (d ∷ l) a c m =
    elim (Memᴰ.cases_cons m) [
      | inl e ↦ inl (ap (λ (x : Ack). suc (x.stamp + size x)) e, ap (λ (x : Ack). after n x.issuer) e)
      | inr k ↦ elim (followed n l a c.2 k) [
        | inl t ↦ inr (d, Memᴰ.head refl, c.0 ∙ sym t.0, c.1 ∙ sym t.1)
        | inr t ↦ inr (t.0, Memᴰ.tail t.1, t.2, t.3)
      ]
    ]

pub first_of : (n : ℕ) (l : List Ack) → Chain n l → (l ≡ []) ⊎ ((a : Ack) × Memᴰ a l × (a.stamp ≡ 1) × (a.issuer ≡ 0))
first_of n [] c = inl refl
first_of n (d ∷ []) c = inr (d, Memᴰ.head refl, c.0, c.1)
first_of n (d ∷ (e ∷ l)) c =
    elim (first_of n (e ∷ l) c.2) [
      | inl z ↦ let y : ◌≡◌ {A = ℕ} 0 1 = cc in absurd (omega arith)
      | inr i ↦ inr (i.0, Memᴰ.tail i.1, i.2, i.3)
    ]

-- the names of the log are the names along its tape
pub all_names_listing : (n : ℕ) (l : List Ack) → Chain n l → listing (tape l) (top_of l - 1) 1 ≡ all_names l
all_names_listing n [] c = listing_zero (tape []) 1
all_names_listing n (a ∷ l) c =
    let p : 1 ≤ top_of l = top_pos n l c.2 in
    let e : top_of (a ∷ l) - 1 ≡ (top_of l - 1) + suc (size a) = omega (arith, c.0) in
    let f : 1 + (top_of l - 1) ≡ a.stamp = omega (arith, c.0) in
    let lower : listing (tape (a ∷ l)) (top_of l - 1) 1 ≡ all_names l = listing_same (tape (a ∷ l)) (tape l) (top_of l - 1) 1 (λ u x y. ap named (tape_more n a l u c (omega arith))) ∙ all_names_listing n l c.2 in
    let upper : listing (tape (a ∷ l)) (suc (size a)) a.stamp ≡ a.names = listing_same (tape (a ∷ l)) (cells a) (suc (size a)) a.stamp (λ u x y. ap named (over_known (cells a u) (tape l u) (cells_known a u x (omega arith)))) ∙ cells_listing a in
    ap (λ (k : ℕ). listing (tape (a ∷ l)) k 1) e
    ∙ listing_join (tape (a ∷ l)) (top_of l - 1) (suc (size a)) 1
    ∙ ap (λ (t : ℕ). listing (tape (a ∷ l)) (top_of l - 1) 1 ++ listing (tape (a ∷ l)) (suc (size a)) t) f
    ∙ ap (λ (xs : List Name). xs ++ listing (tape (a ∷ l)) (suc (size a)) a.stamp) lower
    ∙ ap (λ (ys : List Name). all_names l ++ ys) upper

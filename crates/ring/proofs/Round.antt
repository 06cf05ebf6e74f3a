-- The argument about n issuers, for any n: as many ACKs as heads, and every head issued one of them.
use Rattle.std.proofs.Common.{◌≡◌, ℕ, zero, suc, ◌+◌, ◌-◌, ◌%◌, ◌<◌, ◌≤◌, Bool, true, leb, List, [], ◌∷◌, sym, refl, ap, ◌∙◌, inl, inr, add-zero, mod-lt, mod-eq_of_lt, zero-add, arith}
use mathlib.Core.List.Memᴰ
use mathlib.Core.List.{Memᴰ}
use native.Mathlib.Nat.{mod_self, mod-add-mod, add-mod_right}
use Rattle.std.proofs.lemmas.Bool.{cases_Bool, cases_lt, cases_eq, le-leb, lt-leb}
use Rattle.frames.specs.Bounds.{after}
use Rattle.frames.specs.Values.{Ack}
use Rattle.head.specs.Queue.{Queue, acks, one_if}
use Rattle.head.specs.Slots.{is_ack}
use Rattle.head.proofs.Walk.{acks_suc, acks_zero}
use Rattle.ring.proofs.Log.{Chain, top_of, turn_of}

-- the next head

pub after_below : (n i : ℕ) → 0 < n → after n i < n
after_below n i h = mod-lt (i + 1) h

pub after_small : (n i : ℕ) → i + 1 < n → after n i ≡ i + 1
after_small n i h = mod-eq_of_lt h

pub after_last : (n i : ℕ) → i + 1 ≡ n → after n i ≡ 0
after_last n i e = ap (λ (x : ℕ). x % n) e ∙ mod_self n

pub after_same : (n x y : ℕ) → x < n → y < n → after n x ≡ after n y → x ≡ y
after_same n x y h g e =
    elim (cases_lt (x + 1) n) [
      | inl a ↦ elim (cases_lt (y + 1) n) [
        | inl b ↦ omega (arith, after_small n x a, after_small n y b)
        | inr b ↦ absurd (omega (arith, after_small n x a, after_last n y (omega arith)))
      ]
      | inr a ↦ elim (cases_lt (y + 1) n) [
        | inl b ↦ absurd (omega (arith, after_last n x (omega arith), after_small n y b))
        | inr b ↦ omega arith
      ]
    ]

pub turn_below : (n : ℕ) (l : List Ack) → 0 < n → turn_of n l < n
turn_below n [] h = h
turn_below n (a ∷ l) h = after_below n a.issuer h

pub issuer_below : (n : ℕ) (l : List Ack) (a : Ack) → 0 < n → Chain n l → Memᴰ a l → a.issuer < n
issuer_below n [] a h c m = absurd (Memᴰ.not-nil m)
issuer_below n (b ∷ l) a h c m =
    elim (Memᴰ.cases_cons m) [
      | inl e ↦ omega (arith, ap (λ (x : Ack). x.issuer) e, c.1, turn_below n l h)
      | inr k ↦ issuer_below n l a h c.2 k
    ]

-- k heads on
rot : ℕ → ℕ → ℕ → ℕ
rot n h zero = h
rot n h (suc k) = after n (rot n h k)

rot_suc : (n h k : ℕ) → rot n h (suc k) ≡ after n (rot n h k)
unfolding rot
rot_suc n h k = refl

rot_zero : (n h : ℕ) → rot n h 0 ≡ h
unfolding rot
rot_zero n h = refl

rot_below : (n h k : ℕ) → h < n → rot n h k < n
rot_below n h zero l = rw (rot_zero n h) l
rot_below n h (suc k) l = rw (rot_suc n h k) (after_below n (rot n h k) (omega arith))

rot_mod : (n h k : ℕ) → h < n → rot n h k ≡ (h + k) % n
rot_mod n h zero l = rot_zero n h ∙ sym (ap (λ (x : ℕ). x % n) (add-zero h) ∙ mod-eq_of_lt l)
rot_mod n h (suc k) l =
    let e : (h + k) + 1 ≡ h + suc k = omega arith in
    rot_suc n h k ∙ ap (after n) (rot_mod n h k l) ∙ mod-add-mod (h + k) n 1 ∙ ap (λ (x : ℕ). x % n) e

-- every head is reached in at most n steps
rot_reach : (n h e : ℕ) → h < n → e < n → (d : ℕ) × (d < n) × (rot n h (suc d) ≡ e)
rot_reach n h e l g =
    elim (cases_lt h e) [
      | inl a ↦ let d : ℕ = e - h - 1 in let s : h + suc (e - h - 1) ≡ e = omega arith in (e - h - 1, omega arith, rot_mod n h (suc (e - h - 1)) l ∙ ap (λ (x : ℕ). x % n) s ∙ mod-eq_of_lt g)
      | inr a ↦ let s : h + suc (e + n - h - 1) ≡ e + n = omega arith in (e + n - h - 1, omega arith, rot_mod n h (suc (e + n - h - 1)) l ∙ ap (λ (x : ℕ). x % n) s ∙ add-mod_right e n ∙ mod-eq_of_lt g)
    ]

-- how many ACKs of the log have a stamp of at least t
pub since : List Ack → ℕ → ℕ
since [] t = 0
since (a ∷ l) t = one_if (leb t a.stamp) + since l t

since_nil : (t : ℕ) → since [] t ≡ 0
unfolding since
since_nil t = refl

since_in : (a : Ack) (l : List Ack) (t : ℕ) → t ≤ a.stamp → since (a ∷ l) t ≡ 1 + since l t
unfolding since
since_in a l t h = ap (λ (b : Bool). one_if b + since l t) (le-leb t a.stamp h)

since_out : (a : Ack) (l : List Ack) (t : ℕ) → a.stamp < t → since (a ∷ l) t ≡ 0 + since l t
unfolding since
since_out a l t h = ap (λ (b : Bool). one_if b + since l t) (lt-leb t a.stamp h)

since_none : (n : ℕ) (l : List Ack) (t : ℕ) → Chain n l → top_of l ≤ t → since l t ≡ 0
since_none n [] t c h = since_nil t
since_none n (a ∷ l) t c h = since_out a l t (omega arith) ∙ zero-add (since l t) ∙ since_none n l t c.2 (omega (arith, c.0))

since_less : (l : List Ack) (t : ℕ) → since l (suc t) ≤ since l t
since_less [] t = omega (arith, since_nil t, since_nil (suc t))
since_less (a ∷ l) t =
    let i : since l (suc t) ≤ since l t = since_less l t in
    elim (cases_lt t a.stamp) [
      | inl h ↦ omega (arith, since_in a l t (omega arith), since_in a l (suc t) h)
      | inr h ↦ let o : since (a ∷ l) (suc t) ≡ 0 + since l (suc t) = since_out a l (suc t) (omega arith) in
          elim (cases_eq t a.stamp) [ inl e ↦ omega (arith, since_in a l t (omega arith)) | inr e ↦ omega (arith, since_out a l t (omega arith)) ]
    ]

since_mem : (l : List Ack) (a : Ack) (t : ℕ) → Memᴰ a l → a.stamp ≡ t → suc (since l (suc t)) ≤ since l t
since_mem [] a t m e = absurd (Memᴰ.not-nil m)
since_mem (b ∷ l) a t m e =
    elim (Memᴰ.cases_cons m) [
      | inl f ↦ let g : a.stamp ≡ b.stamp = ap (λ (x : Ack). x.stamp) f in omega (arith, since_in b l t (omega arith), since_out b l (suc t) (omega arith), since_less l t)
      | inr k ↦
          let i : suc (since l (suc t)) ≤ since l t = since_mem l a t k e in
          elim (cases_lt t b.stamp) [
            | inl h ↦ omega (arith, since_in b l t (omega arith), since_in b l (suc t) h)
            | inr h ↦ let o : since (b ∷ l) (suc t) ≡ 0 + since l (suc t) = since_out b l (suc t) (omega arith) in
                elim (cases_eq t b.stamp) [ inl z ↦ omega (arith, since_in b l t (omega arith)) | inr z ↦ omega (arith, since_out b l t (omega arith)) ]
          ]
    ]

-- ACKs that stand in a queue stand in the log
pub acks_since : (q : Queue) (l : List Ack) (k t : ℕ) → ((u : ℕ) → t ≤ u → is_ack (q u) ≡ true → (a : Ack) × Memᴰ a l × (a.stamp ≡ u)) → acks q k t ≤ since l t
acks_since q l zero t h = omega (arith, acks_zero q t)
acks_since q l (suc k) t h =
    let i : acks q k (suc t) ≤ since l (suc t) = acks_since q l k (suc t) (λ u x y. h u (omega arith) y) in
    elim (cases_Bool (is_ack (q t))) [
      | inl e ↦
          let f : (a : Ack) × Memᴰ a l × (a.stamp ≡ t) = h t (omega arith) e in
          let c : acks q (suc k) t ≡ 1 + acks q k (suc t) = acks_suc q k t ∙ ap (λ (b : Bool). one_if b + acks q k (suc t)) e in
          omega (arith, since_mem l f.0 t f.1 f.2)
      | inr e ↦
          let c : acks q (suc k) t ≡ 0 + acks q k (suc t) = acks_suc q k t ∙ ap (λ (b : Bool). one_if b + acks q k (suc t)) e in
          omega (arith, since_less l t)
    ]

abbrev pub IssuerSince : List Ack → ℕ → ℕ → Type 0
IssuerSince l t h = (a : Ack) × Memᴰ a l × (t ≤ a.stamp) × (a.issuer ≡ h)

walk_deeper : (n : ℕ) (a : Ack) (l : List Ack) (t h d : ℕ) → Chain n (a ∷ l) → suc d ≤ since (a ∷ l) t → a.issuer ≡ rot n h d → t ≤ a.stamp → ((k : ℕ) → suc k ≤ since l t → turn_of n l ≡ rot n h (suc k) → IssuerSince l t h) → IssuerSince (a ∷ l) t h
walk_deeper n a l t h zero c k same o back = (a, Memᴰ.head refl, o, same ∙ rot_zero n h)
walk_deeper n a l t h (suc d) c k same o back =
    let i : IssuerSince l t h = back d (omega (arith, since_in a l t o)) (sym c.1 ∙ same) in
    (i.0, Memᴰ.tail i.1, i.2, i.3)

walk_back : (n : ℕ) (l : List Ack) (t h d : ℕ) → h < n → Chain n l → suc d ≤ since l t → turn_of n l ≡ rot n h (suc d) → IssuerSince l t h
walk_back n [] t h d b c k e = absurd (omega (arith, since_nil t))
walk_back n (a ∷ l) t h d b c k e =
    elim (cases_lt a.stamp t) [
      | inl o ↦ absurd (omega (arith, since_out a l t o, since_none n l t c.2 (omega (arith, c.0))))
      | inr o ↦
          let same : a.issuer ≡ rot n h d = after_same n a.issuer (rot n h d) (omega (arith, c.1, turn_below n l (omega arith))) (rot_below n h d b) (e ∙ rot_suc n h d) in
          walk_deeper n a l t h d c k same o (λ j x y. walk_back n l t h j b c.2 x y)
    ]

-- among n or more of the newest ACKs every head has issued one
pub every_issuer : (n : ℕ) (l : List Ack) (t h : ℕ) → h < n → Chain n l → n ≤ since l t → IssuerSince l t h
every_issuer n l t h b c k =
    let r : (d : ℕ) × (d < n) × (rot n h (suc d) ≡ turn_of n l) = rot_reach n h (turn_of n l) b (turn_below n l (omega arith)) in
    walk_back n l t h r.0 b c (omega (arith, r.1)) (sym r.2)

-- What the walks over a queue find.
use Rattle.std.proofs.Common.{◌≡◌, ℕ, zero, suc, ◌+◌, ◌<◌, ◌≤◌, Bool, true, false, ◌⊎◌, List, Some, None, Option, refl, ap, ◌∙◌, subst, inl, inr, arith}
use Rattle.std.proofs.lemmas.Bool.{cases_Bool, cases_eq}
use Rattle.frames.specs.Values.{Ack, Name}
use Rattle.head.specs.Queue.{Queue, ack_at, acks, first_not, last_ack, one_if, or_else, past_last}
use Rattle.head.specs.Slots.{Slot, ack, bare, is_ack, unknown, whole}

first_not_true : (p : Slot → Bool) (q : Queue) (k t : ℕ) → p (q t) ≡ true → first_not p q (suc k) t ≡ first_not p q k (suc t)
unfolding first_not
first_not_true p q k t e = rw (e, first_not)

first_not_false : (p : Slot → Bool) (q : Queue) (k t : ℕ) → p (q t) ≡ false → first_not p q (suc k) t ≡ t
unfolding first_not
first_not_false p q k t e = rw (e, first_not)

first_not-zero : (p : Slot → Bool) (q : Queue) (t : ℕ) → first_not p q 0 t ≡ t
unfolding first_not
first_not-zero p q t = refl

-- where a walk of k stops
pub record Stops (p : Slot → Bool) (q : Queue) (k t s : ℕ) : Type 0 where
  pub from : t ≤ s
  pub to : s ≤ t + k
  pub before : (u : ℕ) → t ≤ u → u < s → p (q u) ≡ true
  pub at : (s < t + k) → p (q s) ≡ false

pub first_not_stops : (p : Slot → Bool) (q : Queue) (k t : ℕ) → Stops p q k t (first_not p q k t)
first_not_stops p q zero t = rw (first_not-zero p q t) (record { from = omega arith; to = omega arith; before = λ u h g. absurd (omega arith); at = λ h. absurd (omega arith) })
first_not_stops p q (suc k) t =
    elim (cases_Bool (p (q t))) [
      | inl e ↦ rw (first_not_true p q k t e) (
          let i : Stops p q k (suc t) (first_not p q k (suc t)) = first_not_stops p q k (suc t) in
          record {
            from = omega (arith, i.from);
            to = omega (arith, i.to);
            before = λ u h g. elim (cases_eq t u) [ inl same ↦ subst (λ (v : ℕ). p (q v) ≡ true) same e | inr other ↦ i.before u (omega arith) g ];
            at = λ h. i.at (omega arith);
          })
      | inr e ↦ rw (first_not_false p q k t e) (record { from = omega arith; to = omega arith; before = λ u h g. absurd (omega arith); at = λ _. e })
    ]

-- one past the last

past_last_true : (p : Slot → Bool) (q : Queue) (k t : ℕ) → p (q (t + k)) ≡ true → past_last p q (suc k) t ≡ suc (t + k)
unfolding past_last
past_last_true p q k t e = rw (e, past_last)

past_last_false : (p : Slot → Bool) (q : Queue) (k t : ℕ) → p (q (t + k)) ≡ false → past_last p q (suc k) t ≡ past_last p q k t
unfolding past_last
past_last_false p q k t e = rw (e, past_last)

past_last-zero : (p : Slot → Bool) (q : Queue) (t : ℕ) → past_last p q 0 t ≡ t
unfolding past_last
past_last-zero p q t = refl

pub record Ends (p : Slot → Bool) (q : Queue) (k t e : ℕ) : Type 0 where
  pub from : t ≤ e
  pub to : e ≤ t + k
  pub beyond : (u : ℕ) → e ≤ u → u < t + k → p (q u) ≡ false
  pub last : (e ≡ t) ⊎ ((d : ℕ) × (e ≡ suc d) × (t ≤ d) × (p (q d) ≡ true))

pub past_last_ends : (p : Slot → Bool) (q : Queue) (k t : ℕ) → Ends p q k t (past_last p q k t)
past_last_ends p q zero t = rw (past_last-zero p q t) (record { from = omega arith; to = omega arith; beyond = λ u h g. absurd (omega arith); last = inl refl })
past_last_ends p q (suc k) t =
    elim (cases_Bool (p (q (t + k)))) [
      | inl e ↦ rw (past_last_true p q k t e) (record { from = omega arith; to = omega arith; beyond = λ u h g. absurd (omega arith); last = inr (t + k, refl, omega arith, e) })
      | inr e ↦ rw (past_last_false p q k t e) (
          let i : Ends p q k t (past_last p q k t) = past_last_ends p q k t in
          record {
            from = i.from;
            to = omega (arith, i.to);
            beyond = λ u h g. elim (cases_eq (t + k) u) [ inl same ↦ subst (λ (v : ℕ). p (q v) ≡ false) same e | inr other ↦ i.beyond u h (omega arith) ];
            last = i.last;
          })
    ]

-- the last ACK

abbrev pub Last : Queue → ℕ → ℕ → Option Ack → Type 0
Last q k t None = (u : ℕ) → t ≤ u → u < t + k → is_ack (q u) ≡ false
Last q k t (Some a) = (t ≤ a.stamp) × (a.stamp < t + k) × (q a.stamp ≡ ack a.issuer a.names) × ((u : ℕ) → a.stamp < u → u < t + k → is_ack (q u) ≡ false)

last_more : (q : Queue) (k t : ℕ) (r : Option Ack) → is_ack (q (t + k)) ≡ false → Last q k t r → Last q (suc k) t r
last_more q k t None e i = λ u h g. elim (cases_eq (t + k) u) [ inl same ↦ subst (λ (v : ℕ). is_ack (q v) ≡ false) same e | inr other ↦ i u h (omega arith) ]
last_more q k t (Some a) e i = (i.0, omega (arith, i.1), i.2, λ u h g. elim (cases_eq (t + k) u) [ inl same ↦ subst (λ (v : ℕ). is_ack (q v) ≡ false) same e | inr other ↦ i.3 u h (omega arith) ])

last_step : (q : Queue) (k t : ℕ) (r : Option Ack) (s : Slot) → q (t + k) ≡ s → Last q k t r → Last q (suc k) t (or_else (ack_at s (t + k)) r)
last_step q k t r unknown e i = last_more q k t r (ap is_ack e) i
last_step q k t r (ack j ns) e i = (omega arith, omega arith, e, λ u h g. absurd (omega arith))
last_step q k t r (bare x) e i = last_more q k t r (ap is_ack e) i
last_step q k t r (whole m) e i = last_more q k t r (ap is_ack e) i

pub last_ack_last : (q : Queue) (k t : ℕ) → Last q k t (last_ack q k t)
unfolding last_ack
last_ack_last q zero t = λ u h g. absurd (omega arith)
last_ack_last q (suc k) t = last_step q k t (last_ack q k t) (q (t + k)) refl (last_ack_last q k t)

-- counted ACKs

pub acks_suc : (q : Queue) (k t : ℕ) → acks q (suc k) t ≡ one_if (is_ack (q t)) + acks q k (suc t)
unfolding acks
acks_suc q k t = refl

pub acks_zero : (q : Queue) (t : ℕ) → acks q 0 t ≡ 0
unfolding acks
acks_zero q t = refl

pub acks_some : (q : Queue) (k t : ℕ) → 0 < acks q k t → (u : ℕ) × (t ≤ u) × (u < t + k) × (is_ack (q u) ≡ true)
acks_some q zero t h = absurd (omega (arith, acks_zero q t))
acks_some q (suc k) t h =
    elim (cases_Bool (is_ack (q t))) [
      | inl e ↦ (t, omega arith, omega arith, e)
      | inr e ↦
          let c : acks q (suc k) t ≡ 0 + acks q k (suc t) = acks_suc q k t ∙ ap (λ (b : Bool). one_if b + acks q k (suc t)) e in
          let i : (u : ℕ) × (suc t ≤ u) × (u < suc t + k) × (is_ack (q u) ≡ true) = acks_some q k (suc t) (omega arith) in
          (i.0, omega (arith, i.1), omega (arith, i.2), i.3)
    ]

-- an issuer that was counted has its ACK there

abbrev pub IssuedAt : Queue → ℕ → ℕ → ℕ → Type 0
IssuedAt q k t g = (u : ℕ) × (t ≤ u) × (u < t + k) × ((ns : List Name) × (q u ≡ ack g ns))

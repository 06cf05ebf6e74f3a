-- Giving up ends: each ACK that is given up leaves fewer, so 96 times are as many as are wanted.
use Rattle.std.proofs.Common.{◌≡◌, ℕ, zero, suc, ◌+◌, ◌<◌, ◌≤◌, false, cond, ◌&&◌, ltb, length, Some, None, Option, sym, refl, ap, ◌∙◌, suc-add, arith}
use Rattle.std.proofs.lemmas.Bool.{le-ltb}
use Rattle.head.specs.Slots.{Slot, unknown, ack, bare, whole, is_ack}
use Rattle.head.specs.Queue.{Queue, acks, one_if}
use Rattle.head.specs.Head.{Head}
use Rattle.head.specs.Upkeep.{ready, give_up, give_up_one}
use Rattle.head.proofs.Upkeep.{Ready, give_up-zero, give_up_none, give_up_some, ready_some, up_base, up_keep}
use Rattle.head.proofs.Walk.{acks_suc, acks_zero}
use Rattle.store.proofs.Holding.{one_if-le}

-- no ACK stands from the stamp t on
abbrev pub NoneFrom : Queue → ℕ → Type 0
NoneFrom q t = (u : ℕ) → t ≤ u → is_ack (q u) ≡ false

acks-le : (q : Queue) (k t : ℕ) → acks q k t ≤ k
acks-le q zero t = omega (arith, acks_zero q t)
acks-le q (suc k) t = omega (arith, acks_suc q k t, one_if-le (is_ack (q t)), acks-le q k (suc t))

acks_none : (q : Queue) (k t : ℕ) → NoneFrom q t → acks q k t ≡ 0
acks_none q zero t f = acks_zero q t
acks_none q (suc k) t f = omega (arith, acks_suc q k t, ap one_if (f t (omega arith)), acks_none q k (suc t) (λ u a. f u (omega arith)))

-- more stamps find no more
acks_longer : (q : Queue) (k l t : ℕ) → NoneFrom q (t + k) → acks q l t ≤ acks q k t
acks_longer q zero l t f = omega (arith, acks_none q l t (λ u a. f u (omega arith)), acks_zero q t)
acks_longer q (suc k) zero t f = omega (arith, acks_zero q t)
acks_longer q (suc k) (suc l) t f = omega (arith, acks_suc q k t, acks_suc q l t, acks_longer q k l (suc t) (λ u a. f u (omega arith)))

acks_within : (q : Queue) (j k l t : ℕ) → NoneFrom q (t + k) → acks q l (t + j) ≤ acks q k t
acks_within q zero k l t f = let e : t + 0 ≡ t = omega arith in omega (arith, ap (acks q l) e, acks_longer q k l t f)
acks_within q (suc j) zero l t f = omega (arith, acks_none q l (t + suc j) (λ u a. f u (omega arith)))
acks_within q (suc j) (suc k) l t f =
    let e : t + suc j ≡ suc t + j = omega arith in
    omega (arith, ap (acks q l) e, acks_within q j k l (suc t) (λ u a. f u (omega arith)), acks_suc q k t)

acks_same : (q r : Queue) (k t : ℕ) → ((u : ℕ) → t ≤ u → r u ≡ q u) → acks r k t ≡ acks q k t
acks_same q r zero t f = acks_zero r t ∙ sym (acks_zero q t)
acks_same q r (suc k) t f = acks_suc r k t ∙ ((λ j. one_if (is_ack (f t (omega arith) j)) + acks_same q r k (suc t) (λ u a. f u (omega arith)) j) ∙ sym (acks_suc q k t))

-- an ACK that is given up is one less
acks_fewer : (n m : ℕ) (x : Head) → NoneFrom x.queue (x.base + 96) → ready n x (x.queue x.base) ≡ Some m → acks (give_up_one x m).queue 96 (give_up_one x m).base < acks x.queue 96 x.base
acks_fewer n m x f e =
    let r : Ready n x m (x.queue x.base) = ready_some n m x (x.queue x.base) e in
    let one : one_if (is_ack (x.queue x.base)) ≡ 1 = ap (λ (s : Slot). one_if (is_ack s)) r.2 in
    let same : acks (give_up_one x m).queue 96 (give_up_one x m).base ≡ acks x.queue 96 (give_up_one x m).base = acks_same x.queue (give_up_one x m).queue 96 (give_up_one x m).base (λ u a. up_keep x m u a) in
    let at : (give_up_one x m).base ≡ suc x.base + m = up_base x m ∙ sym (suc-add x.base m) in
    let fewer : acks x.queue 96 (suc x.base + m) ≤ acks x.queue 95 (suc x.base) = acks_within x.queue m 95 96 (suc x.base) (λ u a. f u (omega arith)) in
    omega (arith, same, ap (acks x.queue 96) at, fewer, acks_suc x.queue 95 x.base, one)

ready_few : (n : ℕ) (x : Head) (s : Slot) → acks x.queue 96 x.base ≤ n → ready n x s ≡ None
ready_few n x unknown h = refl
ready_few n x (ack i ns) h = ap (λ t. cond (t && ltb (x.base + length ns) x.due) (Some (length ns)) None) (le-ltb n (acks x.queue 96 x.base) h)
ready_few n x (bare y) h = refl
ready_few n x (whole m) h = refl

-- once there are no more ACKs than times, one time more changes nothing
enough : (k n : ℕ) (x : Head) → NoneFrom x.queue (x.base + 96) → acks x.queue 96 x.base ≤ k → give_up (suc k) n x ≡ give_up k n x
enough zero n x f h = give_up_none 0 n x (ready_few n x (x.queue x.base) (omega arith)) ∙ sym (give_up-zero n x)
enough (suc k) n x f h = go (ready n x (x.queue x.base)) refl (λ m e. enough k n (give_up_one x m) (λ u a. ap is_ack (up_keep x m u (omega arith)) ∙ f u (omega (arith, up_base x m))) (omega (arith, acks_fewer n m x f e)))
  where
    go : (o : Option ℕ) → ready n x (x.queue x.base) ≡ o → ((m : ℕ) → ready n x (x.queue x.base) ≡ Some m → give_up (suc k) n (give_up_one x m) ≡ give_up k n (give_up_one x m)) → give_up (suc (suc k)) n x ≡ give_up (suc k) n x
    go None e r = give_up_none (suc k) n x e ∙ sym (give_up_none k n x e)
    go (Some m) e r = give_up_some (suc k) n m x e ∙ (r m e ∙ sym (give_up_some k n m x e))

-- giving up one ACK first comes to the same
pub give_up_first : (n m : ℕ) (x : Head) → NoneFrom x.queue (x.base + 96) → ready n x (x.queue x.base) ≡ Some m → give_up 96 n (give_up_one x m) ≡ give_up 96 n x
give_up_first n m x f e =
    enough 95 n (give_up_one x m) (λ u a. ap is_ack (up_keep x m u (omega arith)) ∙ f u (omega (arith, up_base x m))) (omega (arith, acks_fewer n m x f e, acks-le x.queue 96 x.base))
    ∙ sym (give_up_some 95 n m x e)

pub not_some : (o : Option ℕ) → ((m : ℕ) → o ≡ Some m → ⊥) → o ≡ None
not_some None f = refl
not_some (Some m) f = absurd (f m refl)

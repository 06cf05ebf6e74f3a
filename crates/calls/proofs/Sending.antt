-- What is pending stays so that it can be sent, through every call of the model.
use Rattle.std.proofs.Common.{◌≡◌, ℕ, suc, ◌≤◌, false, leb, List, None, Some, Ok, Err, Option, Result, sym, refl, ap, ◌∙◌, subst, inl, inr, arith}
use Rattle.std.proofs.lemmas.Bool.{cases_Bool, cases_lt, and_parts, leb-true}
use Rattle.frames.specs.declared.refusal.Refusal.{Refusal}
use Rattle.frames.specs.Values.{Ack, Message}
use Rattle.head.specs.Answers.{Answer, Done}
use Rattle.head.specs.Head.{Head, Kept, Pending, low, numbered_in, place, sweep, set_slots, with_clock, with_due, with_made, with_pending, with_queue}
use Rattle.head.specs.Hear.{found}
use Rattle.head.specs.Leaves.{DeliverLeaves, HearLeaves, LeftBy, SubmitLeaves, WithOne, with_placed}
use Rattle.head.specs.Queue.{Queue}
use Rattle.head.specs.Ranges.{InRange}
use Rattle.head.specs.Submit.{new_message}
use Rattle.head.specs.Upkeep.{settled}
use Rattle.head.proofs.Leaves.{head_of}
use Rattle.head.proofs.Settled.{settled_leaves}
use Rattle.store.specs.Parts.{Most}
use Rattle.calls.specs.declared.answers.Done.{Done as CDone}
use Rattle.calls.specs.Answers.{does}
use Rattle.calls.specs.Unmade.{NoneUnmade}
use Rattle.calls.proofs.Pendings.{most_less, most_more, own_near}

-- a message more, and messages that leave

most_one : (g b : ℕ) (m : Message) (p r : Pending) → Most g b p → (g ≡ m.name.source → m.name.number ≤ b) → WithOne p m r → Most g b r
most_one g b m p r few near w k past = ap found (w.others g k (λ q. let n : m.name.number ≤ b = near q.0 in absurd (omega (arith, q.1)))) ∙ few k past

most_left : (g b : ℕ) (x : Head) (a : Ack) (q : Queue) (p : Pending) → Most g b x.pending → LeftBy x a q p → Most g b p
most_left g b x a q p few l k past = elim (cases_Bool (numbered_in g k a.names)) [
  | inl t ↦ ap found (l.leave g k (inl t))
  | inr f ↦ elim (cases_lt (low (with_queue x q) g) k) [ inl above ↦ ap found (l.others g k f above) ∙ few k past | inr below ↦ ap found (l.leave g k (inr below)) ]
]

unmade_same : (x y : Head) → y.me ≡ x.me → y.made ≡ x.made → y.pending ≡ x.pending → NoneUnmade x → NoneUnmade y
unmade_same x y e f g m k past = (λ j. found (g j (e j) k)) ∙ m k (omega (arith, past, f))

-- an ACK is placed

pub placed_unmade : (x : Head) (a : Ack) → NoneUnmade x → NoneUnmade (place x a)
unfolding place sweep set_slots
placed_unmade x a few =
    let p : Pending = (set_slots x a).pending in
    most_less x.me x.made p (place x a).pending (λ s k. leb k (low (set_slots x a) s)) (most_less x.me x.made x.pending p (λ s k. numbered_in s k a.names) few refl) refl

pub settled_unmade : (n : ℕ) (x : Head) → NoneUnmade x → NoneUnmade (settled n x)
settled_unmade n x m = let u = settled_leaves 96 n x in unmade_same x (settled n x) u.counts_same.me_same u.counts_same.made_same u.pending_same m

-- numbers in their ranges are small
pub ranged_small : (n : ℕ) (h : Head) → InRange n h → (s : ℕ) → Most s 500000 h.pending
ranged_small n h r s k past = go (h.pending s k) refl
  where
    go : (o : Option Kept) → h.pending s k ≡ o → found o ≡ false
    go None e = refl
    go (Some p) e =
        let name = and_parts _ _ (r.pending_ok s k p e) in
        let rest = and_parts _ _ name.0 in
        let number = and_parts _ _ rest.1 in
        let top = and_parts (leb 1 k) (leb k 500000) number.0 in
        let small : k ≤ 500000 = leb-true k 500000 top.1 in
        absurd (omega arith)

-- each call

module _ (n : ℕ) (x : Head) (ok : NoneUnmade x) where
  as_it_was : (d : Done) → d.head ≡ x → NoneUnmade d.head
  as_it_was d e = subst NoneUnmade (sym e) ok

  kept_up : (d : Done) (y : Head) → d.head ≡ settled n y → NoneUnmade y → NoneUnmade d.head
  kept_up d y e m = subst NoneUnmade (sym e) (settled_unmade n y m)

  pub submit_unmade : (l : ℕ) (b : List ℕ) (d : Done) → SubmitLeaves n l b x d → NoneUnmade d.head
  submit_unmade l b d (SubmitLeaves.refuses e q) = as_it_was d (ap head_of q)
  submit_unmade l b d (SubmitLeaves.makes p k o q) =
      kept_up d (with_made (with_pending x p) (suc x.made)) (ap head_of q) (most_one x.me (suc x.made) (new_message x l b) x.pending p (most_more x.me x.made (suc x.made) x.pending (omega arith) ok) (λ _. omega arith) o)

  pub hear_unmade : (d : Done) → HearLeaves n x d → NoneUnmade d.head
  hear_unmade d (HearLeaves.refuses e q) = as_it_was d (ap head_of q)
  hear_unmade d (HearLeaves.stays w m q) = kept_up d x (ap head_of q) ok
  hear_unmade d (HearLeaves.resends f q) = kept_up d x (ap head_of q) ok
  hear_unmade d (HearLeaves.keeps m p v w o q) = kept_up d (with_pending x p) (ap head_of q) (most_one x.me x.made m x.pending p ok (own_near x m.name v) o)
  hear_unmade d (HearLeaves.fills t m r f q) = kept_up d (with_clock (with_queue x r) 0 0) (ap head_of q) ok
  hear_unmade d (HearLeaves.places a r p o q) = kept_up d (with_placed x r p) (ap head_of q) (most_left x.me x.made x a r p ok o.left_by)

  pub deliver_unmade : (d : Done) → DeliverLeaves n x d → NoneUnmade d.head
  deliver_unmade d (DeliverLeaves.waits t c q) = kept_up d (with_due x t) (ap head_of q) ok
  deliver_unmade d (DeliverLeaves.delivers m t c e q) = kept_up d (with_due x (suc t)) (ap head_of q) ok

-- the head that a call left

pub does_head : {A : Type 0} (word : A → Answer) (d : Result (CDone A) Refusal) (h : Head) → (does word d h).head ≡ h
does_head word (Ok d) h = refl
does_head word (Err e) h = refl

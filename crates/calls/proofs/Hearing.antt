-- The rules of hear, one by one.
use Rattle.std.proofs.Common.{◌≡◌, ℕ, suc, ◌+◌, map, ◌||◌, ◌<◌, ◌≤◌, max, Bool, true, false, cond, not, ◌&&◌, eqb, ltb, leb, ◌⊎◌, List, [], ◌∷◌, Some, Ok, Err, Option, sym, refl, ap, ◌∙◌, inl, inr, arith}
use Rattle.std.proofs.lemmas.Bool.{cases_Bool, lt-leb, le-ltb, or_parts, not-false, ltb-false}
use Rattle.std.specs.List.{list_any}
use Rattle.frames.specs.declared.types.Name.{Name as CName}
use Rattle.frames.specs.declared.types.Body.{Body}
use Rattle.frames.specs.declared.refusal.Refusal.TheVariants.{Contradiction}
use Rattle.frames.specs.Values.{Name, Message, Ack}
use Rattle.frames.specs.Types.{name_of}
use Rattle.head.specs.Slots.{bare, whole, same_message, size, twice}
use Rattle.head.specs.Queue.{Queue, place_of, all_unknown, raise}
use Rattle.head.specs.Head.{Head, Kept, low}
use Rattle.head.specs.Answers.{done, refuse, repeat, far}
use Rattle.head.specs.Hear.{own_above, hear_slot, hear_pending, hear_unslotted, contradicts, hear_window, found, bad_name, bad_names}
use Rattle.store.specs.declared.types.Slot.{Slot as CSlot}
use Rattle.store.specs.declared.types.Slot.TheVariants.{Unknown, Ack as CAck, Data}
use Rattle.store.specs.Parts.{with_body, slot_of, OwnAck}
use Rattle.calls.specs.declared.answers.Hearing.TheVariants.{Repeat}
use Rattle.calls.specs.Answers.{hears_before}
use Rattle.head.proofs.Slots.{same_name_is}
use Rattle.store.proofs.Filling.{body_whole}
use Rattle.calls.proofs.Choosing.{pick}
use Rattle.calls.proofs.Issuing.{AllMade, made_ack}

module _ (n : ℕ) (h : Head) (m : Message) where
  new_above : low h m.name.source < m.name.number → hear_unslotted n h m ≡ hear_window n h m
  new_above g = pick (leb m.name.number (low h m.name.source)) false (done n repeat h []) (hear_window n h m) (lt-leb m.name.number (low h m.name.source) g)

  pub new_near : (o : Option Kept) → low h m.name.source < m.name.number → m.name.number ≤ low h m.name.source + 4 → h.pending m.name.source m.name.number ≡ o → hear_unslotted n h m ≡ hear_pending n h m o
  new_near o g k p = new_above g ∙ (pick (ltb (low h m.name.source + 4) m.name.number) false (done n far h []) (hear_pending n h m (h.pending m.name.source m.name.number)) (le-ltb (low h m.name.source + 4) m.name.number k) ∙ ap (hear_pending n h m) p)

  pub slot_rest : (t : ℕ) (s : CSlot) → ((x : CName) (o : Option Body) → s ≡ Data x o → ⊥) → hear_slot n h m t (slot_of s) ≡ refuse Contradiction h
  slot_rest t Unknown e = refl
  slot_rest t (CAck i ns) e = refl
  slot_rest t (Data x o) e = absurd (e x o refl)

-- what is equal to what is known
pub repeat_or : (n : ℕ) (h : Head) (b c : Bool) → b ≡ c → hears_before n (cond b (Ok Repeat) (Err Contradiction)) h ≡ elim c [ true ↦ done n repeat h [] | false ↦ refuse Contradiction h ]
repeat_or n h true true e = refl
repeat_or n h false false e = refl
repeat_or n h true false e = absurd cc
repeat_or n h false true e = absurd cc

-- a bare slot of the message's name takes its body
pub slot_whole : (q : Queue) (t : ℕ) (m : Message) (x : Name) (r : Queue) → q t ≡ bare x → same_message m.name x ≡ true → eqb m.name.level x.level ≡ true → r ≡ (λ s. cond (eqb s t) (with_body m.body (q s)) (q s)) → r ≡ (λ s. cond (eqb s t) (whole m) (q s))
slot_whole q t m x r e f g h =
    let k : m.name ≡ x = same_name_is m.name x f g in
    body_whole m.body q t m.name r (e ∙ ap bare (sym k)) h

-- an ACK

module _ (n : ℕ) (h : Head) (a : Ack) where
  pub new_free : contradicts h a ≡ false → all_unknown h.queue (suc (size a)) a.stamp ≡ true
  new_free e =
      let p = or_parts (eqb a.issuer h.me) _ e in
      let q = or_parts (not (all_unknown h.queue (suc (size a)) a.stamp)) _ p.1 in
      not-false (all_unknown h.queue (suc (size a)) a.stamp) q.0

own_name : (h : Head) (x : Name) → own_above h x ≡ false → raise h.me (Some x) h.made ≡ h.made
own_name h x e = go (cases_Bool (eqb x.source h.me))
  where
    go : (eqb x.source h.me ≡ true) ⊎ (eqb x.source h.me ≡ false) → raise h.me (Some x) h.made ≡ h.made
    go (inl f) =
        let g : ltb h.made x.number ≡ false = sym (ap (λ b. b && ltb h.made x.number) f) ∙ e in
        let l = ltb-false h.made x.number g in
        ap (λ b. cond b (max h.made x.number) h.made) f ∙ omega arith
    go (inr f) = ap (λ b. cond b (max h.made x.number) h.made) f

-- names that are not bad raise no own number above made
bad_own : (h : Head) (xs : List Name) → bad_names h xs ≡ false → AllMade h.me h.made xs
bad_own h [] e = tt
bad_own h (x ∷ xs) e =
    let p = or_parts (bad_name h x) (bad_names h xs) e in
    let a = or_parts (found (place_of h.queue x 96 h.base)) _ p.0 in
    let b = or_parts (leb x.number (low h x.source)) _ a.1 in
    (own_name h x (or_parts (own_above h x) _ b.1).0, bad_own h xs p.1)

-- one of the names is bad
pub any_bad : (h : Head) (xs : List CName) → list_any (λ x. bad_name h (name_of x)) xs ≡ bad_names h (map name_of xs)
any_bad h [] = refl
any_bad h (x ∷ xs) = ap (λ b. bad_name h (name_of x) || b) (any_bad h xs)

pub new_own : (h : Head) (a : Ack) → contradicts h a ≡ false → OwnAck h.me h.made a
new_own h a e =
    let p = or_parts (eqb a.issuer h.me) _ e in
    let q = or_parts (not (all_unknown h.queue (suc (size a)) a.stamp)) _ p.1 in
    made_ack h.me h.made a (bad_own h a.names (or_parts (twice a.names) _ q.1).1)

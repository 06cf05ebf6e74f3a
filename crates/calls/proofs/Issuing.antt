-- A new ACK: its own names were made, and its slots are free.
use Rattle.std.proofs.Common.{◌≡◌, ℕ, zero, suc, ◌+◌, ◌-◌, ◌≤◌, max, Bool, true, false, cond, eqb, ltb, leb, List, [], ◌∷◌, ◌++◌, length, Some, None, Option, sym, refl, ap, ◌∙◌, subst, inl, inr, arith}
use Rattle.std.proofs.lemmas.Bool.{cases_Bool, cases_lt, both_ways, eqb-true, and_from, and_parts, le-leb, leb-true}
use Rattle.frames.specs.declared.table.Table.{Table}
use Rattle.frames.specs.declared.types.Name.{Name as CName}
use Rattle.frames.specs.Bounds.{after}
use Rattle.frames.specs.Values.{Name, Ack}
use Rattle.head.specs.Slots.{unknown, ack, bare, known, named, cells, nth_slot}
use Rattle.head.specs.Queue.{all_unknown, raise}
use Rattle.head.specs.Head.{Head, Kept, Pending, low, end, room, stamps_left}
use Rattle.head.specs.Hear.{found}
use Rattle.head.specs.Turn.{run_of, gather, to_order}
use Rattle.head.proofs.Slots.{all_unknown_from}
use Rattle.head.proofs.Walk.{past_last_ends}
use Rattle.store.specs.Parts.{spans, OwnAck, Most}
use Rattle.calls.specs.declared.machine.Head.{Head as CHead}
use Rattle.calls.specs.Model.{model}

-- no name of the source g has a number above b
abbrev pub AllMade : ℕ → ℕ → List Name → Type 0
AllMade g b [] = Unit {0}
AllMade g b (x ∷ xs) = (raise g (Some x) b ≡ b) × AllMade g b xs

made_nth : (g b : ℕ) (xs : List Name) (i : ℕ) → AllMade g b xs → raise g (named (nth_slot xs i)) b ≡ b
made_nth g b [] i m = refl
made_nth g b (x ∷ xs) i m = go (made_nth g b xs (i - 1) m.1) (eqb i 0)
  where
    go : raise g (named (nth_slot xs (i - 1))) b ≡ b → (t : Bool) → raise g (named (cond t (bare x) (nth_slot xs (i - 1)))) b ≡ b
    go r true = m.0
    go r false = r

pub made_ack : (g b : ℕ) (a : Ack) → AllMade g b a.names → OwnAck g b a
unfolding cells
made_ack g b a m u = go (eqb u a.stamp) (ltb a.stamp u)
  where
    go : (s t : Bool) → raise g (named (cond s (ack a.issuer a.names) (cond t (nth_slot a.names (u - a.stamp - 1)) unknown))) b ≡ b
    go true t = refl
    go false true = made_nth g b a.names (u - a.stamp - 1) m
    go false false = refl

-- what is pending was made

module _ (p : Pending) (g b : ℕ) (few : Most g b p) where
  pending_made : (s k : ℕ) (l : ℕ) → found (p s k) ≡ true → raise g (Some (record { source = s; number = k; level = l })) b ≡ b
  pending_made s k l e = elim (cases_Bool (eqb s g)) [
    | inl t ↦
        let same : s ≡ g = eqb-true s g t in
        let here : found (p g k) ≡ true = subst (λ (z : ℕ). found (p z k) ≡ true) same e in
        let near : k ≤ b = elim (cases_lt b k) [ inl past ↦ absurd (both_ways (found (p g k)) (few k past) here) | inr z ↦ z ] in
        ap (λ c. cond c (max b k) b) t ∙ omega arith
    | inr f ↦ ap (λ c. cond c (max b k) b) f
  ]

  run_made : (s c k : ℕ) → AllMade g b (run_of p s c k)
  unfolding run_of
  run_made s zero k = tt
  run_made s (suc c) k = go (p s k) refl (run_made s c (suc k))
    where
      go : (o : Option Kept) → p s k ≡ o → AllMade g b (run_of p s c (suc k)) → AllMade g b (elim o [ None ↦ [] | Some m ↦ record { source = s; number = k; level = m.level } ∷ run_of p s c (suc k) ])
      go None e i = tt
      go (Some m) e i = (pending_made s k m.level (ap found e), i)

made_join : (g b : ℕ) (xs ys : List Name) → AllMade g b xs → AllMade g b ys → AllMade g b (xs ++ ys)
made_join g b [] ys m o = o
made_join g b (x ∷ xs) ys m o = (m.0, made_join g b xs ys m.1 o)

gather_made : (n g b : ℕ) (h : Head) → Most g b h.pending → (j s c : ℕ) → AllMade g b (gather n h j s c)
unfolding gather
gather_made n g b h few zero s c = tt
gather_made n g b h few (suc j) s c =
    let r : List Name = run_of h.pending s c (suc (low h s)) in
    made_join g b r (gather n h j (after n s) (c - length r)) (run_made h.pending g b few s c (suc (low h s))) (gather_made n g b h few j (after n s) (c - length r))

pub order_made : (n g b : ℕ) (h : Head) (xs : List Name) → Most g b h.pending → xs ≡ to_order n h → AllMade g b xs
unfolding to_order
order_made n g b h xs few e = subst (AllMade g b) (sym e) (gather_made n g b h few n h.me 4)

-- its slots

module _ (x : CHead) (ns : Table CName 4) (t : ℕ) (here : t ≡ end (model x)) (wide : room (model x) ≡ true) where
  near_end : (x.queue.base ≤ t) × (t + 4 ≤ x.queue.base + 95)
  unfolding end
  near_end =
      let e = past_last_ends known (model x).queue 96 x.queue.base in
      let r = leb-true (end (model x) + 4) (x.queue.base + 95) wide in
      (omega (arith, e.from), omega arith)

  pub new_spans : spans x.queue t ns.count ≡ true
  new_spans =
      let p = near_end in
      let f = ns.within in
      and_from (leb x.queue.base t) (leb (t + ns.count) (x.queue.base + 95)) (le-leb x.queue.base t p.0) (le-leb (t + ns.count) (x.queue.base + 95) (omega (arith, p.1)))

  pub new_unknown : all_unknown (model x).queue (suc ns.count) t ≡ true
  unfolding end
  new_unknown =
      let p = near_end in
      let f = ns.within in
      all_unknown_from (model x).queue (suc ns.count) t (λ u a b. (past_last_ends known (model x).queue 96 x.queue.base).beyond u (omega arith) (omega (arith, p.1)))

  pub new_stamps : stamps_left (model x) ≡ true → t + ns.count ≤ 1000000
  new_stamps s =
      let f = ns.within in
      let r = leb-true (end (model x) + 4) 1000000 (and_parts (leb 1 (end (model x) + 4)) (leb (end (model x) + 4) 1000000) s).1 in
      omega arith

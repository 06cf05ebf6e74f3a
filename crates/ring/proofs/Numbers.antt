-- Along the log each name has the next number of its source; so none comes twice, and low counts the names below the first unknown stamp.
use Rattle.std.proofs.Common.{◌≡◌, ℕ, suc, ◌+◌, ◌-◌, ◌<◌, ◌≤◌, max, true, false, eqb, List, [], ◌∷◌, ◌++◌, Some, Option, sym, refl, ap, ◌∙◌, subst, inl, inr, append_assoc, append-nil, add-zero, zero-add, arith}
use mathlib.Core.List.Memᴰ
use mathlib.Core.List.{Memᴰ}
use Rattle.std.proofs.lemmas.Bool.{cases_Bool, cases_lt, cases_eq, both_ways, cond-true, cond-false, eq-eqb, ne_eqb, eqb-true, and_parts, or_from}
use Rattle.frames.specs.Values.{Ack, Name}
use Rattle.head.specs.Head.{Head, low, mark}
use Rattle.head.specs.Queue.{Queue, first_not, highest, raise}
use Rattle.head.specs.Slots.{full, known, listed, named, same_message, size, twice}
use Rattle.head.proofs.Marks.{IsMark}
use Rattle.head.proofs.Names.{highest_is, listing, listing_join, listing_same, listing_suc, listing_zero, name_on, raise_all, raise_all_cons, raise_all_join, raise_all_nil}
use Rattle.head.proofs.Slots.{full_known, named_known, stripped_named}
use Rattle.head.proofs.Walk.{Stops, first_not_stops}
use Rattle.ring.specs.Record.{all_names}
use Rattle.ring.specs.Ring.{Event}
use Rattle.ring.proofs.Invariant.{HeadInv, Turned, Turns, from_names, is_marked, past_top}
use Rattle.ring.proofs.Log.{BlockOf, Chain, all_names_listing, in_chain, tape, tape_block, top_of}

pub from_join : (s : ℕ) (xs ys : List Name) → from_names s (xs ++ ys) ≡ from_names s xs + from_names s ys
from_join s [] ys = sym (zero-add (from_names s ys))
from_join s (x ∷ xs) ys =
    let i : from_names s (xs ++ ys) ≡ from_names s xs + from_names s ys = from_join s xs ys in
    elim (cases_Bool (eqb x.source s)) [
      | inl e ↦ cond-true (eqb x.source s) (suc (from_names s (xs ++ ys))) (from_names s (xs ++ ys)) e ∙ (let z : suc (from_names s (xs ++ ys)) ≡ suc (from_names s xs) + from_names s ys = omega arith in z) ∙ ap (λ (k : ℕ). k + from_names s ys) (sym (cond-true (eqb x.source s) (suc (from_names s xs)) (from_names s xs) e))
      | inr e ↦ cond-false (eqb x.source s) (suc (from_names s (xs ++ ys))) (from_names s (xs ++ ys)) e ∙ i ∙ ap (λ (k : ℕ). k + from_names s ys) (sym (cond-false (eqb x.source s) (suc (from_names s xs)) (from_names s xs) e))
    ]

pub from_one_same : (s : ℕ) (x : Name) → x.source ≡ s → from_names s (x ∷ []) ≡ 1
from_one_same s x e = cond-true (eqb x.source s) 1 0 (eq-eqb x.source s e)

pub from_one_other : (s : ℕ) (x : Name) → (x.source ≡ s → ⊥) → from_names s (x ∷ []) ≡ 0
from_one_other s x e = cond-false (eqb x.source s) 1 0 (ne_eqb x.source s e)

pub turns_join : (ys xs zs : List Name) → Turns ys xs → Turns (ys ++ xs) zs → Turns ys (xs ++ zs)
turns_join ys [] zs a b = subst (λ (ws : List Name). Turns ws zs) (append-nil ys) b
turns_join ys (x ∷ xs) zs a b = (a.0, turns_join (ys ++ (x ∷ [])) xs zs a.1 (subst (λ (ws : List Name). Turns ws zs) (sym (append_assoc ys (x ∷ []) xs)) b))

-- the highest number of a source is how many it has
pub turns_raise : (s : ℕ) (ys xs : List Name) → Turns ys xs → raise_all s xs (from_names s ys) ≡ from_names s (ys ++ xs)
turns_raise s ys [] t = raise_all_nil s (from_names s ys) ∙ ap (from_names s) (sym (append-nil ys))
turns_raise s ys (x ∷ xs) t =
    let c : ℕ = from_names s ys in
    let step : raise s (Some x) (from_names s ys) ≡ from_names s (ys ++ (x ∷ [])) = elim (cases_eq x.source s) [
      | inl e ↦
          let n : x.number ≡ suc (from_names s ys) = t.0 ∙ ap (λ (j : ℕ). suc (from_names j ys)) e in
          let m : max (from_names s ys) x.number ≡ suc (from_names s ys) = omega arith in
          let f : from_names s (ys ++ (x ∷ [])) ≡ from_names s ys + 1 = from_join s ys (x ∷ []) ∙ ap (λ (k : ℕ). from_names s ys + k) (from_one_same s x e) in
          let g : suc (from_names s ys) ≡ from_names s ys + 1 = omega arith in
          cond-true (eqb x.source s) (max (from_names s ys) x.number) (from_names s ys) (eq-eqb x.source s e) ∙ m ∙ g ∙ sym f
      | inr e ↦
          let f : from_names s (ys ++ (x ∷ [])) ≡ from_names s ys + 0 = from_join s ys (x ∷ []) ∙ ap (λ (k : ℕ). from_names s ys + k) (from_one_other s x e) in
          cond-false (eqb x.source s) (max (from_names s ys) x.number) (from_names s ys) (ne_eqb x.source s e) ∙ sym (add-zero (from_names s ys)) ∙ sym f
    ] in
    raise_all_cons s x xs (from_names s ys) ∙ ap (λ (k : ℕ). raise_all s xs k) step ∙ turns_raise s (ys ++ (x ∷ [])) xs t.1 ∙ ap (from_names s) (append_assoc ys (x ∷ []) xs)

-- a beginning, and what is behind it

pub turns_front : (ys xs zs : List Name) → Turns ys (xs ++ zs) → Turns ys xs
turns_front ys [] zs t = tt
turns_front ys (x ∷ xs) zs t = (t.0, turns_front (ys ++ (x ∷ [])) xs zs t.1)

pub turns_behind : (ys xs zs : List Name) → Turns ys (xs ++ zs) → Turns (ys ++ xs) zs
turns_behind ys [] zs t = subst (λ (ws : List Name). Turns ws zs) (sym (append-nil ys)) t
turns_behind ys (x ∷ xs) zs t = subst (λ (ws : List Name). Turns ws zs) (append_assoc ys (x ∷ []) xs) (turns_behind (ys ++ (x ∷ [])) xs zs t.1)

pub turns_split : (ys xs before : List Name) (x : Name) (rest : List Name) → Turns ys xs → xs ≡ before ++ (x ∷ rest) → x.number ≡ suc (from_names x.source (ys ++ before))
turns_split ys xs before x rest t e = (turns_behind ys before (x ∷ rest) (subst (λ (zs : List Name). Turns ys zs) e t)).0

-- a name that was counted before does not come again
not_listed : (x : Name) (zs xs : List Name) → Turns zs xs → x.number ≤ from_names x.source zs → listed x xs ≡ false
not_listed x zs [] t h = refl
not_listed x zs (y ∷ ys) t h =
    let later : listed x ys ≡ false = not_listed x (zs ++ (y ∷ [])) ys t.1 (omega (arith, from_join x.source zs (y ∷ []))) in
    elim (cases_Bool (same_message x y)) [
      | inl e ↦
          let p : (eqb x.source y.source ≡ true) × (eqb x.number y.number ≡ true) = and_parts (eqb x.source y.source) (eqb x.number y.number) e in
          let s : x.source ≡ y.source = eqb-true x.source y.source p.0 in
          let k : x.number ≡ y.number = eqb-true x.number y.number p.1 in
          let f : from_names y.source zs ≡ from_names x.source zs = ap (λ (j : ℕ). from_names j zs) (sym s) in
          absurd (omega (arith, t.0))
      | inr e ↦ or_from (same_message x y) (listed x ys) e later
    ]

pub none_twice : (ys xs : List Name) → Turns ys xs → twice xs ≡ false
none_twice ys [] t = refl
none_twice ys (x ∷ xs) t = or_from (listed x xs) (twice xs) (not_listed x (ys ++ (x ∷ [])) xs t.1 (omega (arith, t.0, from_join x.source ys (x ∷ []), from_one_same x.source x refl))) (none_twice (ys ++ (x ∷ [])) xs t.1)

-- the names of an ACK stand together in the log
pub names_together : (l : List Ack) (a : Ack) → Memᴰ a l → (before : List Name) × (rest : List Name) × (all_names l ≡ before ++ (a.names ++ rest))
names_together [] a m = absurd (Memᴰ.not-nil m)
names_together (d ∷ l) a m =
    elim (Memᴰ.cases_cons m) [
      | inl e ↦ (all_names l, [], ap (λ (k : Ack). all_names l ++ k.names) (sym e) ∙ ap (λ (xs : List Name). all_names l ++ xs) (sym (append-nil a.names)))
      | inr o ↦
          let r : (before : List Name) × (rest : List Name) × (all_names l ≡ before ++ (a.names ++ rest)) = names_together l a o in
          (r.0, r.1 ++ d.names, ap (λ (xs : List Name). xs ++ d.names) r.2 ∙ (append_assoc r.0 (a.names ++ r.1) d.names ∙ ap (λ (xs : List Name). r.0 ++ xs) (append_assoc a.names r.1 d.names)))
    ]

pub names_once : (l : List Ack) (a : Ack) → Turned (all_names l) → Memᴰ a l → twice a.names ≡ false
names_once l a t m =
    let r : (before : List Name) × (rest : List Name) × (all_names l ≡ before ++ (a.names ++ rest)) = names_together l a m in
    none_twice r.0 a.names (turns_front r.0 a.names r.1 (turns_behind [] r.0 (a.names ++ r.1) (subst (λ (zs : List Name). Turns [] zs) r.2 t)))

pub name_in_log : (l : List Ack) (a : Ack) (x : Name) → Memᴰ a l → Memᴰ x a.names → Memᴰ x (all_names l)
name_in_log [] a x m o = absurd (Memᴰ.not-nil m)
name_in_log (d ∷ l) a x m o =
    elim (Memᴰ.cases_cons m) [
      | inl e ↦ Memᴰ.append_right (all_names l) (subst (λ (k : Ack). Memᴰ x k.names) e o)
      | inr z ↦ Memᴰ.append_left d.names (name_in_log l a x z o)
    ]

-- how many of a source are named at the first k stamps

count_up : (q : Queue) (s j k t : ℕ) → j ≤ k → from_names s (listing q j t) ≤ from_names s (listing q k t)
count_up q s j k t h =
    let e : k ≡ j + (k - j) = omega arith in
    let f : listing q k t ≡ listing q j t ++ listing q (k - j) (t + j) = ap (λ (i : ℕ). listing q i t) e ∙ listing_join q j (k - j) t in
    omega (arith, ap (from_names s) f, from_join s (listing q j t) (listing q (k - j) (t + j)))

count_step : (q : Queue) (j t : ℕ) (x : Name) → named (q (t + j)) ≡ Some x → from_names x.source (listing q (suc j) t) ≡ suc (from_names x.source (listing q j t))
count_step q j t x e =
    let e1 : suc j ≡ j + 1 = omega arith in
    let one : listing q 1 (t + j) ≡ x ∷ [] = listing_suc q 0 (t + j) ∙ (ap (λ (y : Option Name). name_on y (listing q 0 (suc (t + j)))) e ∙ ap (λ (xs : List Name). x ∷ xs) (listing_zero q (suc (t + j)))) in
    let f : listing q (suc j) t ≡ listing q j t ++ (x ∷ []) = ap (λ (i : ℕ). listing q i t) e1 ∙ (listing_join q j 1 t ∙ ap (λ (xs : List Name). listing q j t ++ xs) one) in
    let g : from_names x.source (listing q (suc j) t) ≡ from_names x.source (listing q j t) + from_names x.source (x ∷ []) = ap (from_names x.source) f ∙ from_join x.source (listing q j t) (x ∷ []) in
    omega (arith, from_one_same x.source x refl)

module _ (n : ℕ) (l : List Ack) (c : Chain n l) (t : Turned (all_names l)) where
  -- the names below the stamp f begin the log's
  below_front : (f : ℕ) → 1 ≤ f → f ≤ top_of l → all_names l ≡ listing (tape l) (f - 1) 1 ++ listing (tape l) (top_of l - f) f
  below_front f a b =
      let sum : top_of l - 1 ≡ (f - 1) + (top_of l - f) = omega arith in
      let one : 1 + (f - 1) ≡ f = omega arith in
      sym (all_names_listing n l c) ∙ (ap (λ (k : ℕ). listing (tape l) k 1) sum ∙ (listing_join (tape l) (f - 1) (top_of l - f) 1 ∙ ap (λ (k : ℕ). listing (tape l) (f - 1) 1 ++ listing (tape l) (top_of l - f) k) one))

  -- a name's number is how many of its source are named up to it
  pub number_at : (v : ℕ) (x : Name) → 1 ≤ v → v < top_of l → named (tape l v) ≡ Some x → x.number ≡ suc (from_names x.source (listing (tape l) (v - 1) 1))
  number_at v x a b e =
      let sum : top_of l - v ≡ suc (top_of l - v - 1) = omega arith in
      let rest : listing (tape l) (top_of l - v) v ≡ x ∷ listing (tape l) (top_of l - v - 1) (suc v) = ap (λ (k : ℕ). listing (tape l) k v) sum ∙ (listing_suc (tape l) (top_of l - v - 1) v ∙ ap (λ (y : Option Name). name_on y (listing (tape l) (top_of l - v - 1) (suc v))) e) in
      turns_split [] (all_names l) (listing (tape l) (v - 1) 1) x (listing (tape l) (top_of l - v - 1) (suc v)) t (below_front v a (omega arith) ∙ ap (λ (xs : List Name). listing (tape l) (v - 1) 1 ++ xs) rest)

  pub named_below : (v : ℕ) (x : Name) → named (tape l v) ≡ Some x → (1 ≤ v) × (v < top_of l)
  named_below v x e =
      let k : known (tape l v) ≡ true = named_known (tape l v) x e in
      let b : (a : Ack) × BlockOf l v a = tape_block n l v c k in
      let r : (suc (b.0.stamp + size b.0) ≤ top_of l) × (1 ≤ b.0.stamp) = in_chain n l b.0 c b.1.0 in
      (omega (arith, r.1, b.1.1), omega (arith, r.0, b.1.2))

  -- numbers of a source rise along the tape
  numbers_rise : (u v : ℕ) (x y : Name) → u < v → named (tape l u) ≡ Some x → named (tape l v) ≡ Some y → x.source ≡ y.source → x.number < y.number
  numbers_rise u v x y h e f s =
      let p : (1 ≤ u) × (u < top_of l) = named_below u x e in
      let q : (1 ≤ v) × (v < top_of l) = named_below v y f in
      let one : 1 + (u - 1) ≡ u = omega (arith, p.0) in
      let k : from_names x.source (listing (tape l) (suc (u - 1)) 1) ≡ suc (from_names x.source (listing (tape l) (u - 1) 1)) = count_step (tape l) (u - 1) 1 x (ap (λ (j : ℕ). named (tape l j)) one ∙ e) in
      let m : from_names x.source (listing (tape l) (v - 1) 1) ≡ from_names y.source (listing (tape l) (v - 1) 1) = ap (λ (j : ℕ). from_names j (listing (tape l) (v - 1) 1)) s in
      omega (arith, number_at u x p.0 p.1 e, number_at v y q.0 q.1 f, count_up (tape l) x.source (suc (u - 1)) (v - 1) 1 (omega (arith, p.0)))

  -- so a source and number have one stamp
  pub one_stamp : (u v : ℕ) (x y : Name) → named (tape l u) ≡ Some x → named (tape l v) ≡ Some y → x.source ≡ y.source → x.number ≡ y.number → u ≡ v
  one_stamp u v x y e f s k = elim (cases_lt u v) [
    | inl h ↦ absurd (omega (arith, numbers_rise u v x y h e f s))
    | inr h ↦ elim (cases_lt v u) [ inl g ↦ absurd (omega (arith, numbers_rise v u y x g f e (sym s))) | inr g ↦ omega arith ]
  ]

  -- low counts the names below the first unknown stamp f
  pub low_is : (es : List Event) (h : ℕ) (x : Head) (s f : ℕ) → HeadInv n es l h x → x.base ≤ f → f ≤ top_of l → f ≤ x.base + 96 → ((u : ℕ) → x.base ≤ u → u < f → known (x.queue u) ≡ true) → (f < x.base + 96 → known (x.queue f) ≡ false) → low x s ≡ from_names s (listing (tape l) (f - 1) 1)
  unfolding low
  low_is es h x s f i from to few kn stop =
      let sum : x.base + (f - x.base) ≡ f = omega arith in
      let kn2 : (u : ℕ) → x.base ≤ u → u < x.base + (f - x.base) → known (x.queue u) ≡ true = λ u a d. kn u a (omega arith) in
      let e1 : highest x.queue s 96 x.base (x.gone s) ≡ raise_all s (listing x.queue (f - x.base) x.base) (x.gone s) = highest_is x.queue s (f - x.base) 96 x.base (x.gone s) (omega arith) kn2 (λ o. ap (λ (u : ℕ). known (x.queue u)) sum ∙ stop (omega arith)) in
      let e2 : listing x.queue (f - x.base) x.base ≡ listing (tape l) (f - x.base) x.base = listing_same x.queue (tape l) (f - x.base) x.base (λ u a d. sym (stripped_named (x.queue u)) ∙ ap named (i.agrees.fits u a (kn2 u a d))) in
      let one : 1 + (x.base - 1) ≡ x.base = omega (arith, i.agrees.positive) in
      let sum2 : f - 1 ≡ (x.base - 1) + (f - x.base) = omega (arith, i.agrees.positive) in
      let e3 : listing (tape l) (f - 1) 1 ≡ listing (tape l) (x.base - 1) 1 ++ listing (tape l) (f - x.base) x.base = ap (λ (k : ℕ). listing (tape l) k 1) sum2 ∙ (listing_join (tape l) (x.base - 1) (f - x.base) 1 ∙ ap (λ (k : ℕ). listing (tape l) (x.base - 1) 1 ++ listing (tape l) (f - x.base) k) one) in
      let e4 : raise_all s (listing (tape l) (f - 1) 1) 0 ≡ raise_all s (listing (tape l) (f - x.base) x.base) (raise_all s (listing (tape l) (x.base - 1) 1) 0) = ap (λ (xs : List Name). raise_all s xs 0) e3 ∙ raise_all_join s (listing (tape l) (x.base - 1) 1) (listing (tape l) (f - x.base) x.base) 0 in
      let front : Turns [] (listing (tape l) (f - 1) 1) = turns_front [] (listing (tape l) (f - 1) 1) (listing (tape l) (top_of l - f) f) (subst (λ (xs : List Name). Turns [] xs) (below_front f (omega (arith, i.agrees.positive)) to) t) in
      e1 ∙ (ap (λ (xs : List Name). raise_all s xs (x.gone s)) e2 ∙ (ap (λ (k : ℕ). raise_all s (listing (tape l) (f - x.base) x.base) k) (i.gone_is s) ∙ (sym e4 ∙ turns_raise s [] (listing (tape l) (f - 1) 1) front)))

  -- a head that has the whole log: its low is how many the log has
  pub low_all : (es : List Event) (h : ℕ) (x : Head) (s : ℕ) → HeadInv n es l h x → mark x ≡ top_of l → low x s ≡ from_names s (all_names l)
  low_all es h x s i e =
      let m : IsMark x.queue x.base (mark x) = is_marked n es l h x i in
      let few : top_of l ≤ x.base + 96 = elim (cases_lt (x.base + 96) (mark x)) [
        | inl o ↦ absurd (both_ways (full (x.queue (x.base + 96))) (ap full (i.agrees.window (x.base + 96) (omega arith))) (m.all (x.base + 96) (omega arith) o))
        | inr o ↦ omega arith
      ] in
      low_is es h x s (top_of l) i i.agrees.inside (omega arith) few (λ u a b. full_known (x.queue u) (m.all u a (omega arith))) (λ o. ap known (past_top n l x.queue x.base (top_of l) c i.agrees (omega arith))) ∙ ap (from_names s) (all_names_listing n l c)

  -- a name whose slot the head does not know has a number above low
  pub above_low : (es : List Event) (h : ℕ) (x : Head) (v : ℕ) (y : Name) → HeadInv n es l h x → x.base ≤ v → v < x.base + 96 → named (tape l v) ≡ Some y → known (x.queue v) ≡ false → low x y.source < y.number
  above_low es h x v y i from in96 e u =
      let f : ℕ = first_not known x.queue 96 x.base in
      let st : Stops known x.queue 96 x.base (first_not known x.queue 96 x.base) = first_not_stops known x.queue 96 x.base in
      let fv : first_not known x.queue 96 x.base ≤ v = elim (cases_lt v (first_not known x.queue 96 x.base)) [ inl o ↦ absurd (both_ways (known (x.queue v)) u (st.before v from o)) | inr o ↦ o ] in
      let b : (1 ≤ v) × (v < top_of l) = named_below v y e in
      omega (arith, low_is es h x y.source (first_not known x.queue 96 x.base) i st.from (omega (arith, b.1)) st.to st.before st.at, number_at v y b.0 b.1 e, count_up (tape l) y.source (first_not known x.queue 96 x.base - 1) (v - 1) 1 (omega arith))

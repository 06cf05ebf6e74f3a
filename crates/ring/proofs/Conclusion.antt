-- What the law says follows from what holds after every call.
use Rattle.std.proofs.Common.{◌≡◌, ℕ, suc, ◌+◌, ◌-◌, ◌<◌, ◌≤◌, cond, eqb, ◌⊎◌, List, [], ◌∷◌, ◌++◌, map, length, Some, None, sym, refl, ap, ◌∙◌, subst, inl, inr, add-zero, arith}
use mathlib.Core.List.{Memᴰ, head-eq_of_cons-eq, tail-eq_of_cons-eq, cons≢nil}
use Rattle.std.proofs.lemmas.Bool.{cases_lt, cases_eq, both_ways, cond-true, cond-false, eq-eqb, ne_eqb}
use Rattle.frames.specs.Values.{Ack, Message, Name}
use Rattle.links.specs.Meaning.{Waits}
use Rattle.head.specs.Head.{Head, mark}
use Rattle.head.specs.Slots.{bare, cells, full, named, nth_slot}
use Rattle.head.proofs.Names.{listing, listing_join}
use Rattle.head.proofs.Slots.{cells_after, cells_at, named_known}
use Rattle.ring.specs.Law.{Agreed, FrontOf, Lawful, Once, from_source, of_source}
use Rattle.ring.specs.Record.{Happened, Received, Stamped, Submits, Submitted, TakesIn, all_names, deliveries, nth_name, submissions}
use Rattle.ring.specs.Ring.{Event, Ring}
use Rattle.ring.proofs.Invariant.{Counted, Has, HeadInv, Inv, Numbered, Turned, Turns, below_mark, from_names, is_marked, past_top}
use Rattle.ring.proofs.Log.{BlockOf, Chain, all_names_listing, tape, tape_block, tape_mem, top_of}
use Rattle.ring.proofs.Numbers.{from_join, from_one_other, from_one_same, turns_split}

abbrev name_of : Message → Name
name_of m = m.name

abbrev Sourced : List Event → List Name → Type 0
Sourced es xs = (y : Name) → Memᴰ y xs → (m : Message) × (m.name ≡ y) × Submitted m es

collect : (es : List Event) (xs : List Name) → Sourced es xs → (ms : List Message) × (map name_of ms ≡ xs) × ((m : Message) → Memᴰ m ms → Submitted m es)
collect es [] f = ([], refl, λ m k. absurd (mathlib.Core.List.Memᴰ.not-nil k))
collect es (x ∷ xs) f =
    let r : (ms : List Message) × (map name_of ms ≡ xs) × ((m : Message) → Memᴰ m ms → Submitted m es) = collect es xs (λ y k. f y (mathlib.Core.List.Memᴰ.tail k)) in
    let h : (m : Message) × (m.name ≡ x) × Submitted m es = f x (mathlib.Core.List.Memᴰ.head refl) in
    let a : h.0.name ≡ x = h.1 in
    let b : map name_of r.0 ≡ xs = r.1 in
    (h.0 ∷ r.0, cc, λ m k. elim (mathlib.Core.List.Memᴰ.cases_cons k) [ inl e ↦ subst (λ (y : Message). Submitted y es) (sym e) h.2 | inr o ↦ r.2 m o ])

map_join : (xs ys : List Message) → map name_of (xs ++ ys) ≡ map name_of xs ++ map name_of ys
map_join [] ys = refl
map_join (x ∷ xs) ys = ap (λ (zs : List Name). x.name ∷ zs) (map_join xs ys)

names_source : (s : ℕ) (ms : List Message) → from_names s (map name_of ms) ≡ from_source s ms
names_source s [] = refl
names_source s (m ∷ ms) = ap (λ (k : ℕ). cond (eqb m.name.source s) (suc k) k) (names_source s ms)

front : (es : List Event) (ds ms : List Message) (zs : List Name) → ((m k : Message) → Submitted m es → Submitted k es → m.name ≡ k.name → m ≡ k) → ((m : Message) → Memᴰ m ds → Submitted m es) → ((m : Message) → Memᴰ m ms → Submitted m es) → map name_of ms ≡ map name_of ds ++ zs → FrontOf ds ms
front es [] ms zs u f g e = (ms, refl)
front es (d ∷ ds) [] zs u f g e = absurd (cons≢nil (sym e))
front es (d ∷ ds) (m ∷ ms) zs u f g e =
    let same : m ≡ d = u m d (g m (mathlib.Core.List.Memᴰ.head refl)) (f d (mathlib.Core.List.Memᴰ.head refl)) (head-eq_of_cons-eq e) in
    let r : FrontOf ds ms = front es ds ms zs u (λ x k. f x (mathlib.Core.List.Memᴰ.tail k)) (λ x k. g x (mathlib.Core.List.Memᴰ.tail k)) (tail-eq_of_cons-eq e) in
    let rest : ms ≡ ds ++ r.0 = r.1 in
    (r.0, cc)

same_named : (n : ℕ) (es : List Event) (l : List Ack) (hs : ℕ → Head) (w : Waits) → Inv n es l hs w → (m k : Message) → Submitted m es → Submitted k es → m.name ≡ k.name → m ≡ k
same_named n es l hs w i m k a b e = i.unique m k a b (ap (λ (x : Name). x.source) e) (ap (λ (x : Name). x.number) e)

pub mark_inside : (n : ℕ) (es : List Event) (l : List Ack) (h : ℕ) (x : Head) → Chain n l → HeadInv n es l h x → mark x ≤ top_of l
mark_inside n es l h x c i =
    elim (cases_lt (top_of l) (mark x)) [
      | inl o ↦ absurd (both_ways (full (x.queue (top_of l))) (ap full (past_top n l x.queue x.base (top_of l) c i.agrees (omega arith))) ((is_marked n es l h x i).all (top_of l) i.agrees.inside o))
      | inr o ↦ o
    ]

-- those of one source are numbered in turn
source_numbered : (h : ℕ) (ys : List Name) (ms : List Message) → Turns ys (map name_of ms) → Numbered (suc (from_names h ys)) (of_source h ms)
source_numbered h ys [] t = tt
source_numbered h ys (m ∷ ms) t =
    let i : Numbered (suc (from_names h (ys ++ (m.name ∷ [])))) (of_source h ms) = source_numbered h (ys ++ (m.name ∷ [])) ms t.1 in
    elim (cases_eq m.name.source h) [
      | inl e ↦
          let f : from_names h (ys ++ (m.name ∷ [])) ≡ suc (from_names h ys) = from_join h ys (m.name ∷ []) ∙ (ap (λ (k : ℕ). from_names h ys + k) (from_one_same h m.name e) ∙ (let q : from_names h ys + 1 ≡ suc (from_names h ys) = omega arith in q)) in
          subst (λ (xs : List Message). Numbered (suc (from_names h ys)) xs) (sym (cond-true (eqb m.name.source h) (m ∷ of_source h ms) (of_source h ms) (eq-eqb m.name.source h e))) (t.0 ∙ ap (λ (j : ℕ). suc (from_names j ys)) e, subst (λ (k : ℕ). Numbered (suc k) (of_source h ms)) f i)
      | inr e ↦
          let f : from_names h (ys ++ (m.name ∷ [])) ≡ from_names h ys = from_join h ys (m.name ∷ []) ∙ (ap (λ (k : ℕ). from_names h ys + k) (from_one_other h m.name e) ∙ add-zero (from_names h ys)) in
          subst (λ (xs : List Message). Numbered (suc (from_names h ys)) xs) (sym (cond-false (eqb m.name.source h) (m ∷ of_source h ms) (of_source h ms) (ne_eqb m.name.source h e))) (subst (λ (k : ℕ). Numbered (suc k) (of_source h ms)) f i)
    ]

of_source_in : (h : ℕ) (ms : List Message) (m : Message) → Memᴰ m (of_source h ms) → Memᴰ m ms × (m.name.source ≡ h)
of_source_in h [] m o = absurd (mathlib.Core.List.Memᴰ.not-nil o)
of_source_in h (x ∷ ms) m o = elim (cases_eq x.name.source h) [
  | inl e ↦ elim (mathlib.Core.List.Memᴰ.cases_cons (subst (λ (xs : List Message). Memᴰ m xs) (cond-true (eqb x.name.source h) (x ∷ of_source h ms) (of_source h ms) (eq-eqb x.name.source h e)) o)) [
    | inl z ↦ (mathlib.Core.List.Memᴰ.head z, ap (λ (k : Message). k.name.source) z ∙ e)
    | inr z ↦ (mathlib.Core.List.Memᴰ.tail (of_source_in h ms m z).0, (of_source_in h ms m z).1)
  ]
  | inr e ↦ (let r : Memᴰ m ms × (m.name.source ≡ h) = of_source_in h ms m (subst (λ (xs : List Message). Memᴰ m xs) (cond-false (eqb x.name.source h) (x ∷ of_source h ms) (of_source h ms) (ne_eqb x.name.source h e)) o) in (mathlib.Core.List.Memᴰ.tail r.0, r.1))
]

number_front : (k : ℕ) (xs ys : List Message) → Numbered k xs → Numbered k ys → ((x : Message) → Memᴰ x xs → x.name.number < k + length ys) → ((x y : Message) → Memᴰ x xs → Memᴰ y ys → x.name.number ≡ y.name.number → x ≡ y) → FrontOf xs ys
number_front k [] ys a b f g = (ys, refl)
number_front k (x ∷ xs) [] a b f g = absurd (omega (arith, f x (mathlib.Core.List.Memᴰ.head refl), a.0))
number_front k (x ∷ xs) (y ∷ ys) a b f g =
    let same : x ≡ y = g x y (mathlib.Core.List.Memᴰ.head refl) (mathlib.Core.List.Memᴰ.head refl) (a.0 ∙ sym b.0) in
    let r : FrontOf xs ys = number_front (suc k) xs ys a.1 b.1 (λ z o. omega (arith, f z (mathlib.Core.List.Memᴰ.tail o))) (λ z w o p. g z w (mathlib.Core.List.Memᴰ.tail o) (mathlib.Core.List.Memᴰ.tail p)) in
    let rest : ys ≡ xs ++ r.0 = r.1 in
    (r.0, cc)

-- a message further on has a higher number than all of its source before
number_above : (ys : List Name) (ms : List Message) (k : Message) → Turns ys (map name_of ms) → Memᴰ k ms → suc (from_names k.name.source ys) ≤ k.name.number
number_above ys [] k t o = absurd (mathlib.Core.List.Memᴰ.not-nil o)
number_above ys (m ∷ ms) k t o =
    elim (mathlib.Core.List.Memᴰ.cases_cons o) [
      | inl e ↦ (let f : k.name.number ≡ suc (from_names k.name.source ys) = ap (λ (j : Message). j.name.number) e ∙ (t.0 ∙ ap (λ (j : Message). suc (from_names j.name.source ys)) (sym e)) in omega arith)
      | inr e ↦ omega (arith, number_above (ys ++ (m.name ∷ [])) ms k t.1 e, from_join k.name.source ys (m.name ∷ []))
    ]

-- so none stands twice
each_once : (ys : List Name) (ms : List Message) → Turns ys (map name_of ms) → Once ms
each_once ys [] t = tt
each_once ys (m ∷ ms) t = (
  (λ k o s e.
      let f : from_names k.name.source (ys ++ (m.name ∷ [])) ≡ from_names k.name.source ys + 1 = from_join k.name.source ys (m.name ∷ []) ∙ ap (λ (j : ℕ). from_names k.name.source ys + j) (from_one_same k.name.source m.name s) in
      let g : m.name.number ≡ suc (from_names k.name.source ys) = t.0 ∙ ap (λ (j : ℕ). suc (from_names j ys)) s in
      omega (arith, number_above (ys ++ (m.name ∷ [])) ms k t.1 o)),
  each_once (ys ++ (m.name ∷ [])) ms t.1,
)

common : (n : ℕ) (es : List Event) (l : List Ack) (hs : ℕ → Head) (w : Waits) → Inv n es l hs w → Agreed n es
common n es l hs w i =
    let r : (ms : List Message) × (map name_of ms ≡ all_names l) × ((m : Message) → Memᴰ m ms → Submitted m es) = collect es (all_names l) i.sources in
    record {
      list = r.0;
      order = r.1 ∙ ap all_names i.same;
      submitted = r.2;
      once = each_once [] r.0 (subst (λ (xs : List Name). Turned xs) (sym r.1) i.turned);
      in_turn = λ before m rest e. turns_split [] (all_names l) (map name_of before) m.name (map name_of rest) i.turned (sym r.1 ∙ (ap (map name_of) e ∙ map_join before (m ∷ rest))) ∙ ap suc (names_source m.name.source before);
      own = λ h b.
          number_front 1 (of_source h r.0) (submissions h es) (source_numbered h [] r.0 (subst (λ (xs : List Name). Turned xs) (sym r.1) i.turned)) (i.subs h b).0
          (λ x o. (let q : Memᴰ x r.0 × (x.name.source ≡ h) = of_source_in h r.0 x o in let s : (hs x.name.source).made ≡ (hs h).made = ap (λ (j : ℕ). (hs j).made) q.1 in omega (arith, (i.made x (r.2 x q.0)).1, (i.subs h b).1)))
          (λ x y o p e. (let q : Memᴰ x r.0 × (x.name.source ≡ h) = of_source_in h r.0 x o in let s : Submitted y es × (y.name.source ≡ h) = i.subs_sub h y p in i.unique x y (r.2 x q.0) s.0 (q.1 ∙ sym s.1) e));
      fronts = λ h b.
          let d : ℕ = (hs h).due in
          let dt : (hs h).due ≤ top_of l = omega (arith, (i.heads h b).due_to, mark_inside n es l h (hs h) i.chain (i.heads h b)) in
          let d1 : 1 ≤ (hs h).due = omega (arith, (i.heads h b).due_from, (i.heads h b).agrees.positive) in
          let split : top_of l - 1 ≡ ((hs h).due - 1) + (top_of l - (hs h).due) = omega arith in
          front es (deliveries h es) r.0 (listing (tape l) (top_of l - (hs h).due) (1 + ((hs h).due - 1))) (same_named n es l hs w i) (i.told_sub h) r.2
          (r.1 ∙ (sym (all_names_listing n l i.chain) ∙ (ap (λ (k : ℕ). listing (tape l) k 1) split ∙ (listing_join (tape l) ((hs h).due - 1) (top_of l - (hs h).due) 1 ∙ ap (λ (xs : List Name). xs ++ listing (tape l) (top_of l - (hs h).due) (1 + ((hs h).due - 1))) (sym (i.told h b))))));
    }

received : (n : ℕ) (es : List Event) (l : List Ack) (r : Ring) → Inv n es l r.heads r.waits → (g : ℕ) (m : Message) (t : ℕ) → g < n → Submitted m es → named (tape l t) ≡ Some m.name → t < mark (r.heads g) → Received n es r g m t
received n es l r i g m t b s e h =
    let k : Has n es g m.name = below_mark n es l g (r.heads g) t m.name (i.heads g b) h e in
    let same : k.0 ≡ m = same_named n es l r.heads r.waits i k.0 m k.2.submitted s k.1 in
    record { below = h; came = subst (λ (y : Message). Happened (Submits g y) es ⊎ Happened (TakesIn n g y) es) same k.2.came }

nth_same : (xs : List Name) (i : ℕ) → named (nth_slot xs i) ≡ nth_name xs i
nth_same [] i = refl
nth_same (x ∷ xs) i = elim (cases_eq i 0) [
  | inl e ↦ ap named (cond-true (eqb i 0) (bare x) (nth_slot xs (i - 1)) (eq-eqb i 0 e)) ∙ sym (cond-true (eqb i 0) (Some x) (nth_name xs (i - 1)) (eq-eqb i 0 e))
  | inr e ↦ ap named (cond-false (eqb i 0) (bare x) (nth_slot xs (i - 1)) (ne_eqb i 0 e)) ∙ (nth_same xs (i - 1) ∙ sym (cond-false (eqb i 0) (Some x) (nth_name xs (i - 1)) (ne_eqb i 0 e)))
]

nth_length : (xs : List Name) (i : ℕ) (x : Name) → nth_name xs i ≡ Some x → i < length xs
nth_length [] i x e = let z : ◌≡◌ {A = ℕ} 0 1 = cc in absurd (omega arith)
nth_length (y ∷ xs) i x e = elim (cases_eq i 0) [
  | inl o ↦ omega arith
  | inr o ↦ let k : i - 1 < length xs = nth_length xs (i - 1) x (sym (cond-false (eqb i 0) (Some y) (nth_name xs (i - 1)) (ne_eqb i 0 o)) ∙ e) in omega arith
]

ordered_tape : (n : ℕ) (l : List Ack) (a : Ack) (x : Name) (t : ℕ) → Chain n l → Memᴰ a l → Stamped x t a → named (tape l t) ≡ Some x
ordered_tape n l a x t c m s =
    let i : s.place < length a.names = nth_length a.names s.place x s.is in
    let e : t - a.stamp - 1 ≡ s.place = omega (arith, s.at) in
    ap named (tape_mem n l a t c m (omega (arith, s.at)) (omega (arith, s.at)) ∙ cells_after a t (omega (arith, s.at))) ∙ (nth_same a.names (t - a.stamp - 1) ∙ (ap (nth_name a.names) e ∙ s.is))

-- a name on the tape has its stamp from an ACK of the log
tape_ordered : (n : ℕ) (l : List Ack) (x : Name) (t : ℕ) → Chain n l → named (tape l t) ≡ Some x → (a : Ack) × Memᴰ a l × Stamped x t a
tape_ordered n l x t c e =
    let b : (a : Ack) × BlockOf l t a = tape_block n l t c (named_known (tape l t) x e) in
    let a : Ack = b.0 in
    let f : named (cells a t) ≡ Some x = sym (ap named b.1.3) ∙ e in
    elim (cases_eq t a.stamp) [
      | inl o ↦ (let g : named (cells a t) ≡ None = ap named (cells_at a t o) in let z : ◌≡◌ {A = ℕ} 0 1 = cc (f, g) in absurd (omega arith))
      | inr o ↦ (a, b.1.0, record { place = t - a.stamp - 1; at = omega (arith, b.1.1); is = sym (nth_same a.names (t - a.stamp - 1)) ∙ (sym (ap named (cells_after a t (omega (arith, b.1.1)))) ∙ f) })
    ]

pub sound : (n : ℕ) (es : List Event) (l : List Ack) (r : Ring) → Inv n es l r.heads r.waits → Lawful n es r
sound n es l r i = record {
  agreed = common n es l r.heads r.waits i;
  resilient = λ h m t d.
      let k : Counted n es l r.heads h m t = i.counted h m t d in
      let q : (a : Ack) × Memᴰ a l × Stamped m.name t a = tape_ordered n l m.name t i.chain k.ordered in
      ((q.0, subst (λ (j : List Ack). Memᴰ q.0 j) i.same q.1, q.2), (k.others, k.apart, k.enough, λ g o. ((k.hold g o).0, received n es l r i g m t (k.hold g o).0 k.submitted k.ordered (k.hold g o).1)));
  retained = λ h g m t a b s o u.
      received n es l r i g m t b s (ordered_tape n l o.0 m.name t i.chain (subst (λ (k : List Ack). Memᴰ o.0 k) (sym i.same) o.1) o.2) (omega (arith, i.bases h g a b));
}

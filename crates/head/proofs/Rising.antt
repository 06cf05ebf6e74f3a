-- Walks over a queue in which what was known stays, and heads that only rise.
use Rattle.std.proofs.Common.{◌≡◌, ℕ, zero, suc, ◌+◌, ◌-◌, ◌≤◌, max, true, eqb, List, [], ◌∷◌, length, Some, None, Option, sym, refl, ap, ◌∙◌, subst, inl, inr, add-zero, add-suc, suc-add, arith, length-append}
use Rattle.std.proofs.lemmas.Bool.{cases_Bool, cases_lt, both_ways, cond-true, cond-false}
use Rattle.frames.specs.Bounds.{after}
use Rattle.frames.specs.Values.{Name}
use Rattle.head.specs.Head.{Head, Kept, Pending, end, low, mark}
use Rattle.head.specs.Queue.{Queue, first_not, highest, past_last, raise}
use Rattle.head.specs.Rising.{Bounded, Later}
use Rattle.head.specs.Slots.{full, known, named}
use Rattle.head.specs.Turn.{gather, run_of, to_order}
use Rattle.head.specs.Upkeep.{give_up, give_up_one, ready}
use Rattle.head.proofs.Names.{highest_false, highest_true, highest_zero}
use Rattle.head.proofs.Upkeep.{give_up_none, give_up_some, give_up-zero, up_base, up_counts, up_gone, up_keep, up_rest}
use Rattle.head.proofs.Walk.{Ends, Stops, first_not_stops, past_last_ends}

-- walks over a queue in which what was known stays

pub mark_later : (q p : Queue) (b c : ℕ) → b ≤ c → ((u : ℕ) → c ≤ u → full (q u) ≡ true → full (p u) ≡ true) → first_not full q 96 b ≤ first_not full p 96 c
mark_later q p b c h f =
    let i : Stops full q 96 b (first_not full q 96 b) = first_not_stops full q 96 b in
    let j : Stops full p 96 c (first_not full p 96 c) = first_not_stops full p 96 c in
    elim (cases_lt (first_not full p 96 c) (first_not full q 96 b)) [
      | inl o ↦ absurd (both_ways (full (p (first_not full p 96 c))) (j.at (omega (arith, i.to))) (f (first_not full p 96 c) j.from (i.before (first_not full p 96 c) (omega (arith, j.from)) o)))
      | inr o ↦ o
    ]

pub end_later : (q p : Queue) (b c : ℕ) → b ≤ c → ((u : ℕ) → c ≤ u → known (q u) ≡ true → known (p u) ≡ true) → past_last known q 96 b ≤ past_last known p 96 c
end_later q p b c h f =
    let i : Ends known q 96 b (past_last known q 96 b) = past_last_ends known q 96 b in
    let j : Ends known p 96 c (past_last known p 96 c) = past_last_ends known p 96 c in
    elim i.last [
      | inl o ↦ omega (arith, j.from)
      | inr o ↦ elim (cases_lt o.0 c) [
        | inl z ↦ omega (arith, j.from, o.1)
        | inr z ↦ elim (cases_lt o.0 (past_last known p 96 c)) [
          | inl y ↦ omega (arith, o.1)
          | inr y ↦ absurd (both_ways (known (p o.0)) (j.beyond o.0 y (omega (arith, i.to, o.1))) (f o.0 z o.3))
        ]
      ]
    ]

raise_up : (s : ℕ) (x : Option Name) (b : ℕ) → b ≤ raise s x b
raise_up s None b = omega arith
raise_up s (Some x) b = elim (cases_Bool (eqb x.source s)) [
  | inl e ↦ omega (arith, cond-true (eqb x.source s) (max b x.number) b e)
  | inr e ↦ omega (arith, cond-false (eqb x.source s) (max b x.number) b e)
]

raise_order : (s : ℕ) (x : Option Name) (b c : ℕ) → b ≤ c → raise s x b ≤ raise s x c
raise_order s None b c h = h
raise_order s (Some x) b c h = elim (cases_Bool (eqb x.source s)) [
  | inl e ↦ omega (arith, cond-true (eqb x.source s) (max b x.number) b e, cond-true (eqb x.source s) (max c x.number) c e)
  | inr e ↦ omega (arith, cond-false (eqb x.source s) (max b x.number) b e, cond-false (eqb x.source s) (max c x.number) c e)
]

pub highest_from : (q : Queue) (s k t b : ℕ) → b ≤ highest q s k t b
highest_from q s zero t b = omega (arith, highest_zero q s t b)
highest_from q s (suc k) t b = elim (cases_Bool (known (q t))) [
  | inl e ↦ omega (arith, highest_true q s k t b e, raise_up s (named (q t)) b, highest_from q s k (suc t) (raise s (named (q t)) b))
  | inr e ↦ omega (arith, highest_false q s k t b e)
]

abbrev pub StaysNamed : Queue → Queue → ℕ → Type 0
StaysNamed q p u = known (q u) ≡ true → (known (p u) ≡ true) × (named (p u) ≡ named (q u))

pub highest_later : (q p : Queue) (s k t b c : ℕ) → ((u : ℕ) → t ≤ u → StaysNamed q p u) → b ≤ c → highest q s k t b ≤ highest p s k t c
highest_later q p s zero t b c f h = omega (arith, highest_zero q s t b, highest_zero p s t c)
highest_later q p s (suc k) t b c f h = elim (cases_Bool (known (q t))) [
  | inl e ↦
      let g : (known (p t) ≡ true) × (named (p t) ≡ named (q t)) = f t (omega arith) e in
      let r : raise s (named (q t)) b ≤ raise s (named (p t)) c = subst (λ (x : Option Name). raise s (named (q t)) b ≤ raise s x c) (sym g.1) (raise_order s (named (q t)) b c h) in
      omega (arith, highest_true q s k t b e, highest_true p s k t c g.0, highest_later q p s k (suc t) (raise s (named (q t)) b) (raise s (named (p t)) c) (λ u a. f u (omega arith)) r)
  | inr e ↦ omega (arith, highest_false q s k t b e, highest_from p s (suc k) t c)
]

-- a walk that is cut in two, the second part as long as the whole
pub highest_cut : (q : Queue) (s j k t b : ℕ) → highest q s k t b ≤ highest q s k (t + j) (highest q s j t b)
highest_cut q s j zero t b = omega (arith, highest_zero q s t b, highest_zero q s (t + j) (highest q s j t b), highest_from q s j t b)
highest_cut q s zero (suc k) t b = omega (arith, ap (λ (u : ℕ). highest q s (suc k) u (highest q s 0 t b)) (add-zero t), ap (λ (u : ℕ). highest q s (suc k) t u) (highest_zero q s t b))
highest_cut q s (suc j) (suc k) t b = elim (cases_Bool (known (q t))) [
  | inl e ↦
      let r : ℕ = raise s (named (q t)) b in
      let i : highest q s k (suc t) (raise s (named (q t)) b) ≤ highest q s k (suc t + j) (highest q s j (suc t) (raise s (named (q t)) b)) = highest_cut q s j k (suc t) (raise s (named (q t)) b) in
      let m : highest q s k (suc t + j) (highest q s j (suc t) (raise s (named (q t)) b)) ≤ highest q s (suc k) (suc t + j) (highest q s j (suc t) (raise s (named (q t)) b)) = highest_more q s k (suc t + j) (highest q s j (suc t) (raise s (named (q t)) b)) in
      omega (arith, highest_true q s k t b e, ap (λ (u : ℕ). highest q s (suc k) u (highest q s j (suc t) (raise s (named (q t)) b))) (suc-add t j ∙ sym (add-suc t j)), ap (λ (u : ℕ). highest q s (suc k) (t + suc j) u) (highest_true q s j t b e))
  | inr e ↦ omega (arith, highest_false q s k t b e, highest_false q s j t b e, highest_from q s (suc k) (t + suc j) (highest q s (suc j) t b))
]
  where
    highest_more : (q : Queue) (s k t b : ℕ) → highest q s k t b ≤ highest q s (suc k) t b
    highest_more q s zero t b = omega (arith, highest_zero q s t b, highest_from q s 1 t b)
    highest_more q s (suc k) t b = elim (cases_Bool (known (q t))) [
      | inl e ↦ omega (arith, highest_true q s k t b e, highest_true q s (suc k) t b e, highest_more q s k (suc t) (raise s (named (q t)) b))
      | inr e ↦ omega (arith, highest_false q s k t b e, highest_false q s (suc k) t b e)
    ]

-- heads

pub later_same : (x : Head) → Later x x
later_same x = record { same_head = refl; made_rises = omega arith; base_rises = omega arith; due_rises = omega arith; mark_rises = omega arith; end_rises = omega arith; low_rises = λ s. omega arith; bounded = λ b. b }

pub later_then : (x y z : Head) → Later x y → Later y z → Later x z
later_then x y z a b = record {
  same_head = b.same_head ∙ a.same_head;
  made_rises = omega (arith, a.made_rises, b.made_rises);
  base_rises = omega (arith, a.base_rises, b.base_rises);
  due_rises = omega (arith, a.due_rises, b.due_rises);
  mark_rises = omega (arith, a.mark_rises, b.mark_rises);
  end_rises = omega (arith, a.end_rises, b.end_rises);
  low_rises = λ s. omega (arith, a.low_rises s, b.low_rises s);
  bounded = λ c. b.bounded (a.bounded c);
}

-- each slot keeps what it has
pub record Grown (q p : Queue) : Type 0 where
  pub stays : (u : ℕ) → StaysNamed q p u
  pub fuller : (u : ℕ) → full (q u) ≡ true → full (p u) ≡ true

pub grown_same : (q : Queue) → Grown q q
grown_same q = record { stays = λ u e. (e, refl); fuller = λ u e. e }

-- a head whose base and gone stay, and whose queue only grows
pub later_grown : (x y : Head) → y.me ≡ x.me → x.made ≤ y.made → y.base ≡ x.base → y.gone ≡ x.gone → x.due ≤ y.due → Grown x.queue y.queue → (Bounded x → Bounded y) → Later x y
unfolding mark end low
later_grown x y me made base gone due g b = record {
  same_head = me;
  made_rises = made;
  base_rises = omega arith;
  due_rises = due;
  mark_rises = mark_later x.queue y.queue x.base y.base (omega arith) (λ u o. g.fuller u);
  end_rises = end_later x.queue y.queue x.base y.base (omega arith) (λ u o e. (g.stays u e).0);
  low_rises = λ s. (let h : highest y.queue s 96 y.base (y.gone s) ≡ highest y.queue s 96 x.base (x.gone s) = ap (λ (c : ℕ). highest y.queue s 96 c (y.gone s)) base ∙ ap (λ (f : ℕ → ℕ). highest y.queue s 96 x.base (f s)) gone in omega (arith, highest_later x.queue y.queue s 96 x.base (x.gone s) (x.gone s) (λ u o. g.stays u) (omega arith)));
  bounded = b;
}

-- upkeep

later_gone : (x : Head) (m : ℕ) → Later x (give_up_one x m)
unfolding mark end low
later_gone x m = record {
  same_head = (up_counts x m).me_same;
  made_rises = omega (arith, (up_counts x m).made_same);
  base_rises = omega (arith, up_base x m);
  due_rises = omega (arith, (up_counts x m).due_same);
  mark_rises = mark_later x.queue (give_up_one x m).queue x.base (give_up_one x m).base (omega (arith, up_base x m)) (λ u o e. ap full (up_keep x m u o) ∙ e);
  end_rises = end_later x.queue (give_up_one x m).queue x.base (give_up_one x m).base (omega (arith, up_base x m)) (λ u o e. ap known (up_keep x m u o) ∙ e);
  low_rises = λ s.
      let e : x.base + suc m ≡ (give_up_one x m).base = add-suc x.base m ∙ sym (up_base x m) in
      let g : highest x.queue s (suc m) x.base (x.gone s) ≡ (give_up_one x m).gone s = sym (up_gone x m s) in
      let h : highest x.queue s 96 (x.base + suc m) (highest x.queue s (suc m) x.base (x.gone s)) ≡ highest x.queue s 96 (give_up_one x m).base ((give_up_one x m).gone s) = λ j. highest x.queue s 96 (e j) (g j) in
      omega (arith, highest_cut x.queue s (suc m) 96 x.base (x.gone s), highest_later x.queue (give_up_one x m).queue s 96 (give_up_one x m).base ((give_up_one x m).gone s) ((give_up_one x m).gone s) (λ u o k. (ap known (up_keep x m u o) ∙ k, ap named (up_keep x m u o))) (omega arith));
  bounded = λ b. record { made_most = omega (arith, (up_counts x m).made_same, b.made_most); ticks_most = omega (arith, (up_rest x m).1, b.ticks_most); tries_most = omega (arith, (up_rest x m).2, b.tries_most) };
}

pub later_settled : (k n : ℕ) (x : Head) → Later x (give_up k n x)
later_settled zero n x = subst (λ (y : Head). Later x y) (sym (give_up-zero n x)) (later_same x)
later_settled (suc k) n x = go (ready n x (x.queue x.base)) refl (λ y. later_settled k n y)
  where
    go : (r : Option ℕ) → ready n x (x.queue x.base) ≡ r → ((y : Head) → Later y (give_up k n y)) → Later x (give_up (suc k) n x)
    go None e rec = subst (λ (y : Head). Later x y) (sym (give_up_none k n x e)) (later_same x)
    go (Some m) e rec = subst (λ (y : Head). Later x y) (sym (give_up_some k n m x e)) (later_then x (give_up_one x m) (give_up k n (give_up_one x m)) (later_gone x m) (rec (give_up_one x m)))

-- at most so many names

run_few : (p : Pending) (s b k : ℕ) → length (run_of p s b k) ≤ b
unfolding run_of
run_few p s zero k = omega arith
run_few p s (suc b) k = go (p s k) (run_few p s b (suc k))
  where
    go : (r : Option Kept) → length (run_of p s b (suc k)) ≤ b → length {A = Name} (elim r [ None ↦ [] | Some m ↦ record { source = s; number = k; level = m.level } ∷ run_of p s b (suc k) ]) ≤ suc b
    go None i = omega arith
    go (Some m) i = omega arith

gather_few : (n : ℕ) (x : Head) (j s b : ℕ) → length (gather n x j s b) ≤ b
unfolding gather
gather_few n x zero s b = omega arith
gather_few n x (suc j) s b =
    let r : List Name = run_of x.pending s b (suc (low x s)) in
    omega (arith, run_few x.pending s b (suc (low x s)), gather_few n x j (after n s) (b - length (run_of x.pending s b (suc (low x s)))), length-append (run_of x.pending s b (suc (low x s))) (gather n x j (after n s) (b - length (run_of x.pending s b (suc (low x s))))))

pub order_few : (n : ℕ) (x : Head) → length (to_order n x) ≤ 4
unfolding to_order
order_few n x = gather_few n x n x.me 4

-- The steps of the choice of what a head sends of its own accord.
use Rattle.std.proofs.Common.{◌≡◌, ℕ, zero, suc, ◌+◌, ◌-◌, ◌%◌, ◌<◌, ◌≤◌, Bool, true, false, map, cond, ltb, leb, List, [], ◌∷◌, ◌++◌, length, get_or, Some, None, Option, MatchOption, subst, ◌⊎◌, sym, refl, ap, ◌∙◌, inl, inr, append_assoc, append-nil, arith, length-append}
use Rattle.std.proofs.Math.Nat.{mod-add-mod, mod-eq_of_lt}
use Rattle.std.proofs.lemmas.List.{map-append}
use Rattle.std.proofs.lemmas.Bool.{and_right, lt-leb, cond-true, cond-false, cases_lt, both_ways, ltb-true, ltb-false}
use Rattle.frames.specs.Bounds.{after}
use Rattle.frames.specs.declared.types.Name.{Name as CName}
use Rattle.frames.specs.Types.{name_of}
use Rattle.frames.specs.Values.{Name, Message, Frame, data_frame}
use Rattle.head.specs.Head.{Head, Kept, Pending, low}
use Rattle.head.specs.Hear.{found}
use Rattle.head.specs.Tick.{lowest_own, own_message}
use Rattle.head.specs.Turn.{run_of, gather, to_order}
use Rattle.store.specs.declared.types.Kept.{Kept as CKept}
use Rattle.store.specs.declared.types.Source.{Source}
use Rattle.store.specs.declared.types.Inbox.{Inbox}
use Rattle.store.specs.Parts.{inbox_of, kept_of, lows_of, Most}
use Rattle.calls.specs.declared.machine.Head.{Head as CHead}
use Rattle.calls.specs.Choice.{kept_under, kept_at}
use Rattle.calls.specs.Model.{model}
use Rattle.store.proofs.View.{low_read, pending_read}
use Rattle.store.proofs.Windows.{inside, outside_window}
use Rattle.calls.proofs.Lows.{low_is}

-- what is pending

pub kept_read : (b : Inbox) (s j : ℕ) (z : Source) (y : Option CKept) → s < 8 → j < 4 → inbox_of b s (lows_of b s + (j + 1)) ≡ kept_of (get_or (get_or b.sources s z).kept j y)
kept_read b s j z y h g =
    let x : Source = get_or b.sources s z in
    let f = b.places in
    let k : ℕ = lows_of b s + (j + 1) in
    let e = low_read b.sources s z (omega arith) in
    pending_read b.sources s k z (omega arith) ∙ sym (inside x k j y (omega arith) g)

-- no number past the last is pending
pub kept_small : (b : Inbox) (s j : ℕ) (z : Source) (y : Option CKept) (m : CKept) → s < 8 → j < 4 → ((g : ℕ) → Most g 500000 (inbox_of b)) → get_or (get_or b.sources s z).kept j y ≡ Some m → (get_or b.sources s z).low + (j + 1) ≤ 500000
kept_small b s j z y m h g few e =
    let k : ℕ = lows_of b s + (j + 1) in
    let f = b.places in
    let l = low_read b.sources s z (omega arith) in
    elim (cases_lt 500000 k) [
      | inl past ↦ absurd (both_ways (found (inbox_of b s k)) (few s k past) (ap found (kept_read b s j z y h g ∙ ap kept_of e)))
      | inr near ↦ omega arith
    ]

pub kept_past : (b : Inbox) (s k : ℕ) → lows_of b s + 4 < k → inbox_of b s k ≡ None
kept_past b s k h = outside_window b.sources s k (and_right (ltb (lows_of b s) k) (leb k (lows_of b s + 4)) (lt-leb k (lows_of b s + 4) h))

-- runs

module _ (p : Pending) (s : ℕ) where
  pub run_full : (k : ℕ) → run_of p s 0 k ≡ []
  unfolding run_of
  run_full k = refl

  pub run_none : (b k : ℕ) → p s k ≡ None → run_of p s b k ≡ []
  unfolding run_of
  run_none zero k e = refl
  run_none (suc b) k e = rw (e, run_of)

  run_some : (b k : ℕ) (m : Kept) → p s k ≡ Some m → run_of p s (suc b) k ≡ record { source = s; number = k; level = m.level } ∷ run_of p s b (suc k)
  unfolding run_of
  run_some b k m e = rw (e, run_of)

  nothing_under : (k : ℕ) (o : Option Kept) → p s k ≡ o → kept_under s k o ≡ None → p s k ≡ None
  nothing_under k None e h = e
  nothing_under k (Some m) e h = let z : ◌≡◌ {A = ℕ} 0 1 = cc in absurd (omega arith)

  pub run_stops : (b k : ℕ) → kept_at p s k ≡ None → run_of p s b k ≡ []
  run_stops b k h = run_none b k (nothing_under k (p s k) refl h)

  run_first : (b k : ℕ) (m : Message) (o : Option Kept) → p s k ≡ o → kept_under s k o ≡ Some m → run_of p s (suc b) k ≡ m.name ∷ run_of p s b (suc k)
  run_first b k m None e h = let z : ◌≡◌ {A = ℕ} 0 1 = cc in absurd (omega arith)
  run_first b k m (Some v) e h = run_some b k v e ∙ ap (λ (x : Option Message). named x ∷ run_of p s b (suc k)) h
    where
      named : Option Message → Name
      named None = record { source = s; number = k; level = v.level }
      named (Some x) = x.name

  -- one name more, and the run from the next number on
  pub run_goes_on : (xs ys : List Name) (k l : ℕ) (m : Message) (r : Bool) → kept_at p s k ≡ Some m → l ≡ suc k → r ≡ true → r ≡ ltb (length xs) 4 → ys ≡ cond r (xs ++ m.name ∷ []) xs
      → ys ++ run_of p s (4 - length ys) l ≡ xs ++ run_of p s (4 - length xs) k
  run_goes_on xs ys k l m r h f t a c =
      let few : length xs < 4 = ltb-true (length xs) 4 (sym a ∙ t) in
      let e : ys ≡ xs ++ m.name ∷ [] = c ∙ cond-true r (xs ++ m.name ∷ []) xs t in
      let n : length ys ≡ length xs + 1 = ap length e ∙ length-append xs (m.name ∷ []) in
      let g : 4 - length xs ≡ suc (4 - length ys) = omega arith in
      ap (λ z. ys ++ run_of p s (4 - length ys) z) f
      ∙ (ap (λ z. z ++ run_of p s (4 - length ys) (suc k)) e
      ∙ (append_assoc xs (m.name ∷ []) (run_of p s (4 - length ys) (suc k))
      ∙ (ap (λ z. xs ++ z) (sym (run_first (4 - length ys) k m (p s k) refl h)) ∙ ap (λ z. xs ++ run_of p s z k) (sym g))))

  pub run_over : (xs : List Name) (k : ℕ) → run_of p s (4 - length xs) k ≡ [] → xs ≡ xs ++ run_of p s (4 - length xs) k
  run_over xs k e = sym (ap (λ z. xs ++ z) e ∙ append-nil xs)

  -- no room
  pub run_cut : (xs ys : List Name) (k : ℕ) (x : Name) (r : Bool) → r ≡ false → r ≡ ltb (length xs) 4 → ys ≡ cond r (xs ++ x ∷ []) xs → ys ≡ xs ++ run_of p s (4 - length xs) k
  run_cut xs ys k x r f e g =
      let l : 4 ≤ length xs = ltb-false (length xs) 4 (sym e ∙ f) in
      let z : 4 - length xs ≡ 0 = omega arith in
      g ∙ (cond-false r (xs ++ x ∷ []) xs f ∙ run_over xs k (ap (λ n. run_of p s n k) z ∙ run_full k))

-- one turn over a range, where a call decides whether it goes on

module _ {M : Type 0} (a z b : ℕ) (r : Option M) (U : Type 0) (C : ℕ → Type 0) (o : Option ℕ) (steps : MatchOption o ((z - a ≡ 0) × (b ≡ a)) (λ x. (0 < z - a) × (x ≡ a) × (b ≡ a + 1))) (calls : MatchOption o ((r ≡ None) × U) C) where
  pub turn_some : (m : M) → r ≡ Some m → (a < z) × (b ≡ a + 1) × C a
  turn_some m e = go o steps calls
    where
      go : (q : Option ℕ) → MatchOption q ((z - a ≡ 0) × (b ≡ a)) (λ x. (0 < z - a) × (x ≡ a) × (b ≡ a + 1)) → MatchOption q ((r ≡ None) × U) C → (a < z) × (b ≡ a + 1) × C a
      go None s c = absurd (cc (c.0, e))
      go (Some x) s c = (omega (arith, s.0), s.2, subst C s.1 c)

  pub turn_none : (z ≤ a) ⊎ C a
  turn_none = go o steps calls
    where
      go : (q : Option ℕ) → MatchOption q ((z - a ≡ 0) × (b ≡ a)) (λ x. (0 < z - a) × (x ≡ a) × (b ≡ a + 1)) → MatchOption q ((r ≡ None) × U) C → (z ≤ a) ⊎ C a
      go None s c = inl (omega (arith, s.0))
      go (Some x) s c = inr (subst C s.1 c)

-- a name pushed on a list, as it is meant
pub pushed : (xs ys : List CName) (x : CName) (r : Bool) → ys ≡ cond r (xs ++ x ∷ []) xs → map name_of ys ≡ cond r (map name_of xs ++ name_of x ∷ []) (map name_of xs)
pushed xs ys x true e = ap (map name_of) e ∙ map-append name_of xs (x ∷ [])
pushed xs ys x false e = ap (map name_of) e

-- the runs of the sources, one after another

pub gather_over : (n : ℕ) (h : Head) (j s : ℕ) (xs : List Name) → j ≡ 0 → xs ≡ xs ++ gather n h j s (4 - length xs)
unfolding gather
gather_over n h j s xs e = sym (ap (λ i. xs ++ gather n h i s (4 - length xs)) e ∙ append-nil xs)

gather_more : (n : ℕ) (h : Head) (j s b : ℕ) → gather n h (suc j) s b ≡ run_of h.pending s b (suc (low h s)) ++ gather n h j (after n s) (b - length (run_of h.pending s b (suc (low h s))))
unfolding gather
gather_more n h j s b = refl

pub gather_starts : (n : ℕ) (h : Head) (xs : List Name) → h.me < n → xs ≡ [] → xs ++ gather n h (n - 0) ((h.me + 0) % n) (4 - length xs) ≡ to_order n h
unfolding to_order
gather_starts n h xs l e =
    let f : n - 0 ≡ n = omega arith in
    let g : (h.me + 0) % n ≡ h.me = ap (λ (s : ℕ). s % n) (omega arith) ∙ mod-eq_of_lt l in
    ap (λ (z : List Name). z ++ gather n h (n - 0) ((h.me + 0) % n) (4 - length z)) e ∙ (λ k. gather n h (f k) (g k) 4)

-- the source that is i steps from this head on, and the one after it
pub gather_goes_on : (n : ℕ) (x : CHead) (l j i : ℕ) (xs ys : List Name) → l ≡ suc j → ys ≡ xs ++ run_of (inbox_of x.inbox) ((x.me + i) % n) (4 - length xs) (suc (lows_of x.inbox ((x.me + i) % n)))
    → ys ++ gather n (model x) j ((x.me + (i + 1)) % n) (4 - length ys) ≡ xs ++ gather n (model x) l ((x.me + i) % n) (4 - length xs)
gather_goes_on n x l j i xs ys e f =
    let h : Head = model x in
    let s : ℕ = (x.me + i) % n in
    let next : (x.me + (i + 1)) % n ≡ after n s = ap (λ (k : ℕ). k % n) (omega arith) ∙ sym (mod-add-mod (x.me + i) n 1) in
    let r : List Name = run_of (inbox_of x.inbox) s (4 - length xs) (suc (lows_of x.inbox s)) in
    let m : List Name = run_of h.pending s (4 - length xs) (suc (low h s)) in
    let same : m ≡ r = ap (λ t. run_of (inbox_of x.inbox) s (4 - length xs) (suc t)) (low_is x s) in
    let t : length ys ≡ length xs + length r = ap length f ∙ length-append xs r in
    let k : 4 - length ys ≡ 4 - length xs - length r = omega arith in
    let g : gather n h l s (4 - length xs) ≡ r ++ gather n h j (after n s) (4 - length xs - length r) =
    ap (λ z. gather n h z s (4 - length xs)) e ∙ (gather_more n h j s (4 - length xs) ∙ ap (λ (z : List Name). z ++ gather n h j (after n s) (4 - length xs - length z)) same) in
    (λ u. ys ++ gather n h j (next u) (k u))
    ∙ (ap (λ z. z ++ gather n h j (after n s) (4 - length xs - length r)) f
    ∙ (append_assoc xs r (gather n h j (after n s) (4 - length xs - length r)) ∙ ap (λ z. xs ++ z) (sym g)))

-- the own message with the lowest number

module _ (h : Head) where
  own_some : (b k : ℕ) (m : Message) (o : Option Kept) → h.pending h.me k ≡ o → kept_under h.me k o ≡ Some m → lowest_own h (suc b) k ≡ data_frame m ∷ []
  unfolding lowest_own
  own_some b k m None e f = let z : ◌≡◌ {A = ℕ} 0 1 = cc in absurd (omega arith)
  own_some b k m (Some v) e f = rw (e, lowest_own) (ap data_put f)
    where
      data_put : Option Message → List Frame
      data_put None = []
      data_put (Some w) = data_frame w ∷ []

  own_none : (b k : ℕ) (o : Option Kept) → h.pending h.me k ≡ o → kept_under h.me k o ≡ None → lowest_own h (suc b) k ≡ lowest_own h b (suc k)
  unfolding lowest_own
  own_none b k None e f = rw (e, lowest_own)
  own_none b k (Some v) e f = let z : ◌≡◌ {A = ℕ} 0 1 = cc in absurd (omega arith)

  pub own_nowhere : (k : ℕ) → lowest_own h 0 k ≡ []
  unfolding lowest_own
  own_nowhere k = refl

-- among the b numbers from k on

own_at : (h : Head) (b k i : ℕ) (m : Message) → i < b → ((j : ℕ) → j < i → kept_at h.pending h.me (k + j) ≡ None) → kept_at h.pending h.me (k + i) ≡ Some m → lowest_own h b k ≡ data_frame m ∷ []
own_at h zero k i m l before here = absurd (omega arith)
own_at h (suc b) k zero m l before here = let e : k ≡ k + 0 = omega arith in own_some h b k m (h.pending h.me k) refl (ap (kept_at h.pending h.me) e ∙ here)
own_at h (suc b) k (suc i) m l before here =
    let e : k ≡ k + 0 = omega arith in
    own_none h b k (h.pending h.me k) refl (ap (kept_at h.pending h.me) e ∙ before 0 (omega arith))
    ∙ own_at h b (suc k) i m (omega arith) (λ j g. ap (kept_at h.pending h.me) (omega arith) ∙ before (suc j) (omega arith)) (ap (kept_at h.pending h.me) (omega arith) ∙ here)

own_not : (h : Head) (b k : ℕ) → ((j : ℕ) → j < b → kept_at h.pending h.me (k + j) ≡ None) → lowest_own h b k ≡ []
own_not h zero k none = own_nowhere h k
own_not h (suc b) k none =
    let e : k ≡ k + 0 = omega arith in
    own_none h b k (h.pending h.me k) refl (ap (kept_at h.pending h.me) e ∙ none 0 (omega arith))
    ∙ own_not h b (suc k) (λ j g. ap (kept_at h.pending h.me) (omega arith) ∙ none (suc j) (omega arith))

-- of the code's head
module _ (x : CHead) where
  pub own_found : (i : ℕ) (m : Message) → i < 4 → ((j : ℕ) → j < i → kept_at (inbox_of x.inbox) x.me (lows_of x.inbox x.me + (j + 1)) ≡ None) → kept_at (inbox_of x.inbox) x.me (lows_of x.inbox x.me + (i + 1)) ≡ Some m → own_message (model x) ≡ data_frame m ∷ []
  own_found i m l before here =
      let e = low_is x x.me in
      own_at (model x) 4 (suc (low (model x) x.me)) i m l (λ j g. ap (kept_at (inbox_of x.inbox) x.me) (omega arith) ∙ before j g) (ap (kept_at (inbox_of x.inbox) x.me) (omega arith) ∙ here)

  pub own_absent : ((j : ℕ) → j < 4 → kept_at (inbox_of x.inbox) x.me (lows_of x.inbox x.me + (j + 1)) ≡ None) → own_message (model x) ≡ []
  own_absent none =
      let e = low_is x x.me in
      own_not (model x) 4 (suc (low (model x) x.me)) (λ j g. ap (kept_at (inbox_of x.inbox) x.me) (omega arith) ∙ none j g)

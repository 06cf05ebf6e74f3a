-- Air keeps the meaning of a link.
use Rattle.std.proofs.Common.{◌≡◌, ℕ, zero, suc, Bool, true, false, cond, not, ◌||◌, eqb, ltb, ◌⊎◌, List, [], ◌∷◌, ◌++◌, map, length, get_or, drop, Some, None, filter, Option, sym, refl, ap, ◌∙◌, subst, inl, inr, arith}
use mathlib.Core.List.Memᴰ
use mathlib.Core.List.{Memᴰ}
use Rattle.links.specs.Meaning.{TakenFrom}
use Rattle.links.specs.declared.types.Choice.{Choice}
use Rattle.links.specs.declared.types.Choice.TheVariants.{Plain, Lost, Repeated, Newest}
use Rattle.links.specs.Air.{Waiting, AirState, has, without, is_empty, held, room, for_all, added, picked, taken_by, waits_for, further, oldest_for, or_else, newest_for, blank, packet_at, no_longer_for, stopped, waiting_air}

-- the packets of some places
abbrev packets : List Waiting → List (List ℕ)
packets xs = map (λ x. x.packet) xs

-- the packets that wait for a head at some places
abbrev for_head : ℕ → List Waiting → List (List ℕ)
for_head h xs = packets (filter (waits_for h) xs)

in_more : (b : Bool) (q : List ℕ) (x : Waiting) (xs : List Waiting) → Memᴰ q (packets xs) → Memᴰ q (packets (cond b (x ∷ xs) xs))
in_more true q x xs m = Memᴰ.tail m
in_more false q x xs m = m

-- a place more on both sides
in_both : (b : Bool) (q : List ℕ) (x : Waiting) (xs ys : List Waiting) → (Memᴰ q (packets xs) → Memᴰ q (packets ys)) → Memᴰ q (packets (cond b (x ∷ xs) xs)) → Memᴰ q (packets (cond b (x ∷ ys) ys))
in_both true q x xs ys f m = elim (Memᴰ.cases_cons m) [ inl e ↦ Memᴰ.head e | inr n ↦ Memᴰ.tail (f n) ]
in_both false q x xs ys f m = f m

in_rest : (h : ℕ) (q : List ℕ) (xs : List Waiting) → Memᴰ q (for_head h (drop 1 xs)) → Memᴰ q (for_head h xs)
in_rest h q [] m = m
in_rest h q (x ∷ xs) m = in_more (waits_for h x) q x (filter (waits_for h) xs) m

in_room : (h : ℕ) (q : List ℕ) (xs : List Waiting) → Memᴰ q (for_head h (room xs)) → Memᴰ q (for_head h xs)
in_room h q xs = by_test (ltb (length xs) 16)
  where
    by_test : (b : Bool) → Memᴰ q (for_head h (cond b xs (drop 1 xs))) → Memᴰ q (for_head h xs)
    by_test true m = m
    by_test false m = in_rest h q xs m

in_append : (h : ℕ) (q : List ℕ) (xs ys : List Waiting) → Memᴰ q (for_head h (xs ++ ys)) → Memᴰ q (for_head h xs) ⊎ Memᴰ q (for_head h ys)
in_append h q [] ys m = inr m
in_append h q (x ∷ xs) ys m = by_test (waits_for h x) (in_append h q xs ys) m
  where
    by_test : (b : Bool) → (Memᴰ q (for_head h (xs ++ ys)) → Memᴰ q (for_head h xs) ⊎ Memᴰ q (for_head h ys)) → Memᴰ q (packets (cond b (x ∷ filter (waits_for h) (xs ++ ys)) (filter (waits_for h) (xs ++ ys)))) → Memᴰ q (packets (cond b (x ∷ filter (waits_for h) xs) (filter (waits_for h) xs))) ⊎ Memᴰ q (for_head h ys)
    by_test true f m = elim (Memᴰ.cases_cons m) [ inl e ↦ inl (Memᴰ.head e) | inr n ↦ elim (f n) [ inl l ↦ inl (Memᴰ.tail l) | inr r ↦ inr r ] ]
    by_test false f m = f m

-- what is held of one packet is that packet, and waits for the head
in_held : (h : ℕ) (q : List ℕ) (x : Waiting) → Memᴰ q (for_head h (held x)) → (q ≡ x.packet) × (waits_for h x ≡ true)
in_held h q x m = by_test (is_empty x.heads) m
  where
    tested : (b : Bool) → waits_for h x ≡ b → Memᴰ q (packets (cond b (x ∷ []) [])) → (q ≡ x.packet) × (waits_for h x ≡ true)
    tested true e m = (Memᴰ.eq_of_singleton m, e)
    tested false e m = absurd (Memᴰ.not-nil m)

    by_test : (b : Bool) → Memᴰ q (for_head h (cond b [] (x ∷ []))) → (q ≡ x.packet) × (waits_for h x ≡ true)
    by_test true m = absurd (Memᴰ.not-nil m)
    by_test false m = tested (waits_for h x) refl m

pub added_waited : (n : ℕ) (p : List ℕ) (xs ys : List Waiting) → ys ≡ added n p xs → (h : ℕ) (q : List ℕ) → Memᴰ q (for_head h ys) → Memᴰ q (for_head h xs) ⊎ (q ≡ p)
added_waited n p xs ys e h q m = elim (in_append h q (room xs) (held (for_all n p)) (subst (λ zs. Memᴰ q (for_head h zs)) e m)) [ inl l ↦ inl (in_room h q xs l) | inr r ↦ inr (in_held h q (for_all n p) r).0 ]

-- the packet at a place, if any, is among these
Among : List (List ℕ) → List Waiting → Option ℕ → Type 0
Among ps xs None = Unit {0}
Among ps xs (Some i) = Memᴰ (get_or xs i blank).packet ps

first_among : (b : Bool) (x : Waiting) (xs ks : List Waiting) (o : Option ℕ) → Among (packets ks) xs o → Among (packets (cond b (x ∷ ks) ks)) (x ∷ xs) (cond b (Some 0) (further o))
unfolding Among
first_among true x xs ks o m = Memᴰ.head refl
first_among false x xs ks None m = tt
first_among false x xs ks (Some i) m = m

oldest_among : (h : ℕ) (xs : List Waiting) → Among (for_head h xs) xs (oldest_for h xs)
unfolding Among
oldest_among h [] = tt
oldest_among h (x ∷ xs) = first_among (waits_for h x) x xs (filter (waits_for h) xs) (oldest_for h xs) (oldest_among h xs)

last_among : (b : Bool) (x : Waiting) (xs ks : List Waiting) (o : Option ℕ) → Among (packets ks) xs o → Among (packets (cond b (x ∷ ks) ks)) (x ∷ xs) (or_else (further o) (cond b (Some 0) None))
unfolding Among
last_among b x xs ks (Some i) m = in_more b (get_or xs i blank).packet x ks m
last_among true x xs ks None m = Memᴰ.head refl
last_among false x xs ks None m = tt

newest_among : (h : ℕ) (xs : List Waiting) → Among (for_head h xs) xs (newest_for h xs)
unfolding Among
newest_among h [] = tt
newest_among h (x ∷ xs) = last_among (waits_for h x) x xs (filter (waits_for h) xs) (newest_for h xs) (newest_among h xs)

picked_among : (c : Choice) (h : ℕ) (xs : List Waiting) → Among (for_head h xs) xs (picked c h xs)
picked_among Plain h xs = oldest_among h xs
picked_among Lost h xs = oldest_among h xs
picked_among Repeated h xs = oldest_among h xs
picked_among Newest h xs = newest_among h xs

waited_at : (h : ℕ) (xs : List Waiting) (o : Option ℕ) → Among (for_head h xs) xs o → TakenFrom h (packet_at xs o) (λ k. for_head k xs)
unfolding Among
waited_at h xs None m = tt
waited_at h xs (Some i) m = m

pub taken_waited : (c : Choice) (h : ℕ) (t : Option (List ℕ)) (a : AirState) → t ≡ packet_at a.places (picked c h a.places) → TakenFrom h t (waiting_air a)
taken_waited c h t a e = subst (λ o. TakenFrom h o (waiting_air a)) (sym e) (waited_at h a.places (picked c h a.places) (picked_among c h a.places))

has_without : (k h : ℕ) (ks : List ℕ) → has k (without h ks) ≡ true → has k ks ≡ true
has_without k h [] e = e
has_without k h (j ∷ ks) e = by_test (not (eqb h j)) (eqb k j) refl (has_without k h ks) e
  where
    by_test : (b c : Bool) → eqb k j ≡ c → (has k (without h ks) ≡ true → has k ks ≡ true) → has k (cond b (j ∷ without h ks) (without h ks)) ≡ true → (c || has k ks) ≡ true
    by_test b true p f e = refl
    by_test true false p f e = f (sym (ap (λ d. d || has k (without h ks)) p) ∙ e)
    by_test false false p f e = f e

left_after_stop : (h k : ℕ) (q : List ℕ) (xs : List Waiting) (i : ℕ) → Memᴰ q (for_head k (stopped h xs (Some i))) → Memᴰ q (for_head k xs)
left_after_stop h k q [] zero m = m
left_after_stop h k q [] (suc i) m = m
left_after_stop h k q (x ∷ xs) zero m = elim (in_append k q (held (no_longer_for h x)) xs m) [ inl l ↦ first (in_held k q (no_longer_for h x) l) | inr r ↦ in_more (waits_for k x) q x (filter (waits_for k) xs) r ]
  where
    here : (b : Bool) → b ≡ true → q ≡ x.packet → Memᴰ q (packets (cond b (x ∷ filter (waits_for k) xs) (filter (waits_for k) xs)))
    here true t e = Memᴰ.head e
    here false t e = let z : ◌≡◌ {A = ℕ} 0 1 = cc in absurd (omega arith)

    first : (q ≡ x.packet) × (has k (without h x.heads) ≡ true) → Memᴰ q (for_head k (x ∷ xs))
    first f = here (waits_for k x) (has_without k h x.heads f.1) f.0
left_after_stop h k q (x ∷ xs) (suc i) m = in_both (waits_for k x) q x (filter (waits_for k) (stopped h xs (Some i))) (filter (waits_for k) xs) (left_after_stop h k q xs i) m

left_if_stopped : (h k : ℕ) (q : List ℕ) (xs : List Waiting) (o : Option ℕ) → Memᴰ q (for_head k (stopped h xs o)) → Memᴰ q (for_head k xs)
left_if_stopped h k q xs None m = m
left_if_stopped h k q xs (Some i) m = left_after_stop h k q xs i m

left_by : (c : Choice) (h k : ℕ) (q : List ℕ) (xs : List Waiting) (o : Option ℕ) → Memᴰ q (for_head k (taken_by c h xs o)) → Memᴰ q (for_head k xs)
left_by Plain h k q xs o m = left_if_stopped h k q xs o m
left_by Lost h k q xs o m = left_if_stopped h k q xs o m
left_by Repeated h k q xs o m = m
left_by Newest h k q xs o m = left_if_stopped h k q xs o m

pub left_waited : (c : Choice) (h : ℕ) (o : Option ℕ) (xs ys : List Waiting) → ys ≡ taken_by c h xs o → (k : ℕ) (q : List ℕ) → Memᴰ q (for_head k ys) → Memᴰ q (for_head k xs)
left_waited c h o xs ys e k q m = left_by c h k q xs o (subst (λ zs. Memᴰ q (for_head k zs)) e m)

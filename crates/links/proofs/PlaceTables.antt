-- The places in use as a list: which one is found, and what is left when a head stops waiting.
use Rattle.std.proofs.Common.{◌≡◌, ℕ, zero, suc, ◌<◌, Bool, true, false, cond, List, [], ◌∷◌, ◌++◌, map, length, get_or, take, drop, set, Some, None, Option, MatchOption, sym, refl, ap, ◌∙◌, arith}
use Rattle.std.specs.List.{remove}
use Rattle.std.proofs.lemmas.List.{get_or-map, length-map, map-append, take-map, drop-map, map-set, set_split}
use Rattle.std.proofs.lemmas.Bool.{cond-true, cond-false}
use Rattle.frames.specs.Types.{packet_of}
use Rattle.links.specs.declared.types.HeadSet.{HeadSet}
use Rattle.links.specs.declared.types.Place.{Place}
use Rattle.links.specs.Air.{Waiting, without, is_empty, held, waits_for, further, oldest_for, or_else, newest_for, blank, no_longer_for, stopped}
use Rattle.links.specs.Types.{heads_of, place_of}

-- whether the packet at a place waits for a head
abbrev pub waits : ℕ → Place → Bool
waits h x = waits_for h (place_of x)

-- none of them waits
abbrev pub NoneWaits : ℕ → List Place → Type 0
NoneWaits h xs = (k : ℕ) (d : Place) → k < length xs → waits h (get_or xs k d) ≡ false

-- the one at i does, and none before it
pub record IsOldest (h : ℕ) (xs : List Place) (i : ℕ) : Type 0 where
  pub within : i < length xs
  pub does : (d : Place) → waits h (get_or xs i d) ≡ true
  pub none_before : (k : ℕ) (d : Place) → k < i → waits h (get_or xs k d) ≡ false

-- the one at i does, and none after it
pub record IsNewest (h : ℕ) (xs : List Place) (i : ℕ) : Type 0 where
  pub within : i < length xs
  pub does : (d : Place) → waits h (get_or xs i d) ≡ true
  pub none_after : (k : ℕ) (d : Place) → i < k → k < length xs → waits h (get_or xs k d) ≡ false

oldest_none : (h : ℕ) (xs : List Place) → NoneWaits h xs → None ≡ oldest_for h (map place_of xs)
oldest_none h [] a = refl
oldest_none h (x ∷ xs) a = ap further (oldest_none h xs (λ k d l. a (suc k) d (omega arith))) ∙ sym (cond-false (waits h x) (Some 0) (further (oldest_for h (map place_of xs))) (a 0 x (omega arith)))

oldest_at : (h : ℕ) (xs : List Place) (i : ℕ) → IsOldest h xs i → Some i ≡ oldest_for h (map place_of xs)
oldest_at h [] i f = absurd (omega (arith, f.within))
oldest_at h (x ∷ xs) zero f = sym (cond-true (waits h x) (Some 0) (further (oldest_for h (map place_of xs))) (f.does x))
oldest_at h (x ∷ xs) (suc i) f =
    ap further (oldest_at h xs i (record { within = omega (arith, f.within); does = f.does; none_before = λ k d l. f.none_before (suc k) d (omega arith) }))
    ∙ sym (cond-false (waits h x) (Some 0) (further (oldest_for h (map place_of xs))) (f.none_before 0 x (omega arith)))

pub oldest_is : (h : ℕ) (xs : List Place) (o : Option ℕ) → MatchOption o (NoneWaits h xs) (IsOldest h xs) → o ≡ oldest_for h (map place_of xs)
oldest_is h xs None f = oldest_none h xs f
oldest_is h xs (Some i) f = oldest_at h xs i f

newest_none : (h : ℕ) (xs : List Place) → NoneWaits h xs → None ≡ newest_for h (map place_of xs)
newest_none h [] a = refl
newest_none h (x ∷ xs) a =
    sym (cond-false (waits h x) (Some 0) None (a 0 x (omega arith)))
    ∙ ap (λ o. or_else (further o) (cond (waits h x) (Some 0) None)) (newest_none h xs (λ k d l. a (suc k) d (omega arith)))

newest_at : (h : ℕ) (xs : List Place) (i : ℕ) → IsNewest h xs i → Some i ≡ newest_for h (map place_of xs)
newest_at h [] i f = absurd (omega (arith, f.within))
newest_at h (x ∷ xs) zero f =
    sym (cond-true (waits h x) (Some 0) None (f.does x))
    ∙ ap (λ o. or_else (further o) (cond (waits h x) (Some 0) None)) (newest_none h xs (λ k d l. f.none_after (suc k) d (omega arith) (omega arith)))
newest_at h (x ∷ xs) (suc i) f =
    ap (λ o. or_else (further o) (cond (waits h x) (Some 0) None)) (newest_at h xs i (record { within = omega (arith, f.within); does = f.does; none_after = λ k d l m. f.none_after (suc k) d (omega arith) (omega arith) }))

pub newest_is : (h : ℕ) (xs : List Place) (o : Option ℕ) → MatchOption o (NoneWaits h xs) (IsNewest h xs) → o ≡ newest_for h (map place_of xs)
newest_is h xs None f = newest_none h xs f
newest_is h xs (Some i) f = newest_at h xs i f

removed : {X Y : Type 0} (f : X → Y) (i : ℕ) (xs : List X) → map f (remove xs i) ≡ remove (map f xs) i
removed f i xs = map-append f (take i xs) (drop (suc i) xs) ∙ (ap (λ zs. zs ++ map f (drop (suc i) xs)) (sym (take-map f i xs)) ∙ ap (λ zs. take i (map f xs) ++ zs) (sym (drop-map f (suc i) xs)))

module _ (h i : ℕ) (xs ys : List Place) (x : Place) (s : HeadSet) (l : i < length xs) (r : x ≡ get_or xs i x) (e : heads_of s ≡ without h (heads_of x.heads)) where
  -- the place once the head waits no longer
  abbrev changed : Place
  changed = record { packet = x.packet; heads = s }

  -- the list around what is held of it
  around : (zs : List Waiting) → held (place_of changed) ≡ zs → take i (map place_of xs) ++ (zs ++ drop (suc i) (map place_of xs)) ≡ stopped h (map place_of xs) (Some i)
  around zs f =
      let w = ap (no_longer_for h) (get_or-map place_of xs i x blank l ∙ ap place_of (sym r)) ∙ ap (λ hs. record { packet = packet_of x.packet; heads = hs }) (sym e) in
      sym (ap (λ us. take i (map place_of xs) ++ (us ++ drop (suc i) (map place_of xs))) (ap held w ∙ f))

  pub stops_last : true ≡ is_empty (heads_of s) → ys ≡ remove xs i → map place_of ys ≡ stopped h (map place_of xs) (Some i)
  stops_last t f = ap (map place_of) f ∙ (removed place_of i xs ∙ around [] (cond-true (is_empty (heads_of s)) [] (place_of changed ∷ []) (sym t)))

  pub stops_one : false ≡ is_empty (heads_of s) → ys ≡ set xs i changed → map place_of ys ≡ stopped h (map place_of xs) (Some i)
  stops_one t f =
      let m = length-map xs place_of in
      ap (map place_of) f ∙ (map-set place_of xs i changed ∙ (set_split (map place_of xs) i (place_of changed) (omega arith) ∙ around (place_of changed ∷ []) (cond-false (is_empty (heads_of s)) [] (place_of changed ∷ []) (sym t))))

-- The steps of the loop that reads base-sixteen text.
use Rattle.std.proofs.Common.{◌≡◌, ℕ, ◌+◌, ◌*◌, ◌<◌, ◌≤◌, true, false, cond, List, [], ◌∷◌, ◌++◌, length, get_or, drop, is_some, Some, None, Option, sym, refl, ap, ◌∙◌, append_assoc}
use Rattle.std.proofs.lemmas.List.{at_drop_more, at_drop_all, append-nil}
use Rattle.account.specs.Hex.{blank, digit_value, and_then, unhex, hex_bytes}

-- the bytes so far, and those to come
pub prefixed : List ℕ → Option (List ℕ) → Option (List ℕ)
prefixed xs None = None
prefixed xs (Some ys) = Some (xs ++ ys)

pub prefixed_none : (o : Option (List ℕ)) → prefixed [] o ≡ o
unfolding prefixed
prefixed_none None = refl
prefixed_none (Some ys) = refl

prefixed_more : (xs : List ℕ) (b : ℕ) (o : Option (List ℕ)) → prefixed xs (and_then b o) ≡ prefixed (xs ++ b ∷ []) o
unfolding prefixed
prefixed_more xs b None = refl
prefixed_more xs b (Some ys) = ap Some (sym (append_assoc xs (b ∷ []) ys))

-- what is left of the text from place i on, with the bytes before it
pub left : List ℕ → Option ℕ → List ℕ → ℕ → Option (List ℕ)
left xs o text i = prefixed xs (unhex o (drop i text))

pub left_start : (text : List ℕ) → left [] None text 0 ≡ hex_bytes text
unfolding left
left_start text = prefixed_none (unhex None text)

module _ (xs : List ℕ) (text : List ℕ) (i : ℕ) (h : i < length text) where
  pub left_blank : (o : Option ℕ) → blank (get_or text i 0) ≡ true → left xs o text (i + 1) ≡ left xs o text i
  unfolding left
  left_blank None b = rw (at_drop_more (unhex None) text i 0 h, b)
  left_blank (Some k) b = rw (at_drop_more (unhex (Some k)) text i 0 h, b)

  pub left_stops : (o : Option ℕ) → blank (get_or text i 0) ≡ false → digit_value (get_or text i 0) ≡ None → left xs o text i ≡ None
  unfolding left prefixed
  left_stops None b v = rw (at_drop_more (unhex None) text i 0 h, b, v)
  left_stops (Some k) b v = rw (at_drop_more (unhex (Some k)) text i 0 h, b, v)

  pub left_opens : (d : ℕ) → blank (get_or text i 0) ≡ false → digit_value (get_or text i 0) ≡ Some d → left xs (Some d) text (i + 1) ≡ left xs None text i
  unfolding left
  left_opens d b v = rw (at_drop_more (unhex None) text i 0 h, b, v)

  pub left_closes : (k d : ℕ) → blank (get_or text i 0) ≡ false → digit_value (get_or text i 0) ≡ Some d → left (xs ++ (k * 16 + d) ∷ []) None text (i + 1) ≡ left xs (Some k) text i
  unfolding left
  left_closes k d b v = rw (at_drop_more (unhex (Some k)) text i 0 h, b, v, prefixed_more)

-- the text is at its end
pub left_ends : (xs : List ℕ) (text : List ℕ) (i : ℕ) (o : Option ℕ) → length text ≤ i → left xs o text i ≡ cond (is_some o) None (Some xs)
unfolding left prefixed
left_ends xs text i None h = ap (prefixed xs) (at_drop_all (unhex None) text i h) ∙ ap Some (append-nil xs)
left_ends xs text i (Some k) h = ap (prefixed xs) (at_drop_all (unhex (Some k)) text i h)

-- the steps of the loop
pub ruleset reading = (left_start, left_blank, left_stops, left_opens, left_closes, left_ends)

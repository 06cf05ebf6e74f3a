-- The rules of turn, one by one, and what a call did by its parts.
use Rattle.std.proofs.Common.{◌≡◌, ℕ, ◌<◌, true, false, List, [], ◌∷◌, length, sym, refl, ap, ◌∙◌, inl, inr, arith}
use Rattle.std.proofs.lemmas.Bool.{cases_eq}
use Rattle.frames.specs.declared.refusal.Refusal.TheVariants.{StampsUsedUp}
use Rattle.frames.specs.declared.table.Table.{Table}
use Rattle.frames.specs.declared.types.Name.{Name as CName}
use Rattle.frames.specs.Types.{names_of}
use Rattle.frames.specs.Values.{Name}
use Rattle.frames.proofs.Naming.{length-names_of}
use Rattle.head.specs.Head.{Head, end, holds, room, stamps_left}
use Rattle.head.specs.Answers.{Done as MDone, done, refuse, crowded, not_yours, ordered}
use Rattle.head.specs.Turn.{turn, turn_with, turn_stamps, to_order, issue}
use Rattle.calls.proofs.Choosing.{pick}

-- there are names
pub some_names : (ns : Table CName 4) → (ns.count ≡ 0 → ⊥) → 0 < length (names_of ns)
some_names ns h = let l = length-names_of ns in elim (cases_eq ns.count 0) [ inl z ↦ absurd (h z) | inr z ↦ omega arith ]

module _ (n : ℕ) (h : Head) where
  turn_has : (xs : List Name) → holds n h ≡ true → xs ≡ to_order n h → turn n h ≡ turn_with n h xs
  unfolding turn
  turn_has xs e c = pick (holds n h) true (turn_with n h (to_order n h)) (done n not_yours h []) e ∙ ap (turn_with n h) (sym c)

  -- with names to order
  with_some : (xs : List Name) → 0 < length xs → turn_with n h xs ≡ elim (room h) as (λ _. MDone) [ true ↦ turn_stamps n h xs | false ↦ done n crowded h [] ]
  with_some [] some = absurd (omega arith)
  with_some (x ∷ xs) some = refl

  module _ (xs : List Name) (e : holds n h ≡ true) (c : xs ≡ to_order n h) where
    turn_wide : 0 < length xs → room h ≡ true → turn n h ≡ turn_stamps n h xs
    turn_wide l r = turn_has xs e c ∙ (with_some xs l ∙ pick (room h) true (turn_stamps n h xs) (done n crowded h []) r)

    pub turn_orders : 0 < length xs → room h ≡ true → stamps_left h ≡ true → turn n h ≡ issue n h xs (ordered (end h) (length xs)) []
    turn_orders l r s = turn_wide l r ∙ pick (stamps_left h) true (issue n h xs (ordered (end h) (length xs)) []) (refuse StampsUsedUp h) s

-- The steps of what is read off a queue, and of the frames that are put.
use Rattle.std.proofs.Common.{◌≡◌, ℕ, zero, suc, ◌+◌, ◌^◌, ◌<◌, ◌≤◌, min, Bool, true, false, cond, not, ◌||◌, eqb, ltb, List, [], ◌∷◌, ◌++◌, map, length, sym, refl, ap, ◌∙◌, arith, pow_mono}
use Rattle.std.proofs.lemmas.List.{length-map, map-append}
use Rattle.std.proofs.lemmas.Bool.{lt-ltb, eq-eqb, ne_eqb, cond-true}
use Rattle.frames.specs.declared.types.Frame.{Frame as CFrame}
use Rattle.frames.specs.declared.table.Table.{Table}
use Rattle.frames.proofs.Naming.{length-items, length-names_of}
use Rattle.frames.specs.Tables.{items}
use Rattle.frames.specs.declared.types.Name.{Name as CName}
use Rattle.frames.specs.Types.{frame_of, names_of}
use Rattle.frames.specs.Values.{Name}
use Rattle.head.specs.Slots.{Slot, unknown, ack, bare, whole, is_ack}
use Rattle.head.specs.Queue.{Queue, ack_at, or_else, last_ack}
use Rattle.head.specs.Tick.{busy}
use Rattle.store.specs.Puts.{puts_of}

-- an ACK, or something else, at the last of k stamps

module _ (q : Queue) where
  pub last_before : (k j t : ℕ) → k ≡ suc j → is_ack (q (t + j)) ≡ false → last_ack q j t ≡ last_ack q k t
  unfolding last_ack
  last_before k j t e f = go (q (t + j)) f ∙ ap (λ n. last_ack q n t) (sym e)
    where
      go : (x : Slot) → is_ack x ≡ false → last_ack q j t ≡ or_else (ack_at x (t + j)) (last_ack q j t)
      go unknown h = refl
      go (ack i ns) h = let z : ◌≡◌ {A = ℕ} 0 1 = cc in absurd (omega arith)
      go (bare x) h = refl
      go (whole m) h = refl

  pub busy_over : (k t : ℕ) → busy q k t 0 ≡ false
  unfolding busy
  busy_over zero t = refl
  busy_over (suc k) t = refl

  pub busy_nowhere : (t c : ℕ) → busy q 0 t c ≡ false
  unfolding busy
  busy_nowhere t c = refl

  module _ (k j t c d : ℕ) (e : k ≡ suc j) (f : c ≡ suc d) where
    busy_counts : busy q k t c ≡ busy q (suc j) t (suc d)
    busy_counts = ap (λ n. busy q n t c) e ∙ ap (busy q (suc j) t) f

    busy_ack : (i : ℕ) (ns : List Name) → q (t + j) ≡ ack i ns → busy q k t c ≡ (not (eqb (length ns) 0) || busy q j t d)
    unfolding busy
    busy_ack i ns g = busy_counts ∙ rw (g, busy)

    pub busy_here : (i : ℕ) (ns : Table CName 4) → q (t + j) ≡ ack i (names_of ns) → 0 < ns.count → true ≡ busy q k t c
    busy_here i ns g some =
        let l = length-names_of ns in
        sym (busy_ack i (names_of ns) g ∙ ap (λ b. not b || busy q j t d) (ne_eqb (length (names_of ns)) 0 (λ z. omega arith)))

    -- an ACK of no names counts as one of the last
    pub busy_less : (i : ℕ) (ns : Table CName 4) → q (t + j) ≡ ack i (names_of ns) → ns.count ≤ 0 → busy q j t d ≡ busy q k t c
    busy_less i ns g nothing =
        let l = length-names_of ns in
        sym (busy_ack i (names_of ns) g ∙ ap (λ b. not b || busy q j t d) (eq-eqb (length (names_of ns)) 0 (omega arith)))

    pub busy_before : is_ack (q (t + j)) ≡ false → busy q j t c ≡ busy q k t c
    unfolding busy
    busy_before g = ap (busy q j t) f ∙ (go (q (t + j)) refl g ∙ sym busy_counts)
      where
        go : (x : Slot) → q (t + j) ≡ x → is_ack x ≡ false → busy q j t (suc d) ≡ busy q (suc j) t (suc d)
        go unknown h no-ack = rw (h, busy)
        go (ack i ns) h no-ack = let z : ◌≡◌ {A = ℕ} 0 1 = cc in absurd (omega arith)
        go (bare x) h no-ack = rw (h, busy)
        go (whole m) h no-ack = rw (h, busy)

-- waiting

pub wait_stays : (r : ℕ) → 5 ≤ r → 32 ≡ min (2 ^ r) 32
wait_stays r h = let l : 2 ^ 5 ≤ 2 ^ r = pow_mono h in omega arith

-- the frames of one call

pub length-puts_of : (fs : Table CFrame 3) → length (puts_of fs) ≡ fs.count
length-puts_of fs = length-map (items fs) frame_of ∙ length-items fs

-- one frame more, where there is room
pub puts_more : (fs gs : Table CFrame 3) (f : CFrame) (room : Bool) → room ≡ ltb fs.count 3 → items gs ≡ cond room (items fs ++ f ∷ []) (items fs) → fs.count < 3 → puts_of gs ≡ puts_of fs ++ frame_of f ∷ []
puts_more fs gs f room r e h = ap (map frame_of) (e ∙ cond-true room (items fs ++ f ∷ []) (items fs) (r ∙ lt-ltb fs.count 3 h)) ∙ map-append frame_of (items fs) (f ∷ [])

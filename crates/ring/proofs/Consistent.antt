-- What waits contradicts nothing that a head knows: messages by their numbers, ACKs by their stamps.
use Rattle.std.proofs.Common.{◌≡◌, ℕ, suc, ◌+◌, ◌<◌, ◌≤◌, true, false, not, ◌&&◌, eqb, ltb, leb, List, [], ◌∷◌, Some, None, sym, refl, ap, ◌∙◌, subst, inl, inr, arith}
use mathlib.Core.List.Memᴰ
use mathlib.Core.List.{Memᴰ}
use Rattle.std.proofs.lemmas.Bool.{cases_Bool, both_ways, eq-eqb, eqb-true, and_parts, lt-leb, ltb-true, or_from, and_from}
use Rattle.frames.specs.Values.{Ack, Message, Name}
use Rattle.links.specs.Meaning.{Waits}
use Rattle.head.specs.Head.{Head, Kept, low, mark}
use Rattle.head.specs.Hear.{bad_name, bad_names, contradicts, found, other_level, own_above, same_kept}
use Rattle.head.specs.Queue.{names_it, place_of}
use Rattle.head.specs.Ranges.{kept_message}
use Rattle.head.specs.Slots.{Slot, ack, bare, cells, full, known, named, same_bytes, same_names, size, unknown, whole}
use Rattle.head.proofs.Names.{place_found}
use Rattle.head.proofs.Slots.{SameMessage, all_unknown_from, cells_at, cells_mem, cells_plain, found_is, mem_cells, named_known, names_it_parts, other_level_is, same_bytes_refl, same_message_parts, same_names_refl, stripped, stripped_named}
use Rattle.ring.specs.Record.{Submitted, all_names}
use Rattle.ring.specs.Ring.{Event}
use Rattle.ring.proofs.Changes.{Levels}
use Rattle.ring.proofs.Invariant.{HeadInv, Inv, is_marked}
use Rattle.ring.proofs.Log.{BlockOf, Chain, tape, tape_block, tape_mem}
use Rattle.ring.proofs.Numbers.{above_low, name_in_log, names_once, one_stamp}

-- whatever a slot of the log names is a name of the log
pub tape_names : (n : ℕ) (l : List Ack) (s : ℕ) (y : Name) → Chain n l → named (tape l s) ≡ Some y → Memᴰ y (all_names l)
tape_names n l s y c e =
    let b : (a : Ack) × BlockOf l s a = tape_block n l s c (named_known (tape l s) y e) in
    let a : Ack = b.0 in
    let f : named (cells a s) ≡ Some y = sym (ap named b.1.3) ∙ e in
    elim (cells_plain a s) [
      | inl o ↦ (let g : named (cells a s) ≡ None = ap named o in let z : ◌≡◌ {A = ℕ} 0 1 = cc (f, g) in absurd (omega arith))
      | inr o ↦ elim o [
        | inl p ↦ (let g : named (cells a s) ≡ None = ap named p in let z : ◌≡◌ {A = ℕ} 0 1 = cc (f, g) in absurd (omega arith))
        | inr p ↦ (let g : named (cells a s) ≡ Some p.0 = ap named p.1 in let h : y ≡ p.0 = cc (f, g) in name_in_log l a y b.1.0 (Memᴰ.cast h (cells_mem a s p.0 p.1)))
      ]
    ]

module _ (n : ℕ) (es : List Event) (l : List Ack) (hs : ℕ → Head) (v : Waits) (i : Inv n es l hs v) (w : ℕ) (b : w < n) where
  here : HeadInv n es l w (hs w)
  here = i.heads w b

  -- messages of one source and number are one
  one_message : (m k : Message) → Submitted m es → Submitted k es → SameMessage m.name k.name → m ≡ k
  one_message m k s t e = i.unique m k s t e.0 e.1

  -- a name of the log is a submitted message
  one_named : (m : Message) (y : Name) → Submitted m es → Memᴰ y (all_names l) → SameMessage m.name y → m.name ≡ y
  one_named m y s o e =
      let r : (k : Message) × (k.name ≡ y) × Submitted k es = i.sources y o in
      let f : m ≡ r.0 = one_message m r.0 s r.2 (e.0 ∙ ap (λ (x : Name). x.source) (sym r.1), e.1 ∙ ap (λ (x : Name). x.number) (sym r.1)) in
      ap (λ (k : Message). k.name) f ∙ r.1

  -- no message of this head's has a number that it did not make
  pub not_above : (x : Name) → ((m : Message) × (m.name ≡ x) × Submitted m es) → own_above (hs w) x ≡ false
  not_above x r = elim (cases_Bool (own_above (hs w) x)) [
    | inl e ↦
        let p : (eqb x.source (hs w).me ≡ true) × (ltb (hs w).made x.number ≡ true) = and_parts (eqb x.source (hs w).me) (ltb (hs w).made x.number) e in
        let s : x.source ≡ w = eqb-true x.source (hs w).me p.0 ∙ here.is_me in
        let m : Message = r.0 in
        let same : (hs m.name.source).made ≡ (hs w).made = ap (λ (g : ℕ). (hs g).made) (ap (λ (y : Name). y.source) r.1 ∙ s) in
        absurd (omega (arith, (i.made m r.2).1, ap (λ (y : Name). y.number) r.1, ltb-true (hs w).made x.number p.1))
    | inr e ↦ e
  ]

  -- what is pending under a name of the log, or under a message's name, is of its level
  pub pending_message : (m : Message) (p : Kept) → Submitted m es → (hs w).pending m.name.source m.name.number ≡ Some p → kept_message m.name.source m.name.number p ≡ m
  pending_message m p s e = one_message (kept_message m.name.source m.name.number p) m (here.pends m.name.source m.name.number p e).submitted s (refl, refl)

  pub pending_same : (m : Message) (p : Kept) → Submitted m es → (hs w).pending m.name.source m.name.number ≡ Some p → same_kept m p ≡ true
  pending_same m p s e =
      let f : kept_message m.name.source m.name.number p ≡ m = pending_message m p s e in
      and_from _ _ (eq-eqb m.name.level p.level (sym (ap (λ (k : Message). k.name.level) f))) (subst (λ (c : List ℕ). same_bytes m.body c ≡ true) (sym (ap (λ (k : Message). k.body) f)) (same_bytes_refl m.body))

  -- a slot that names a message has its level, and its body if it has one
  pub bare_level : (m : Message) (t : ℕ) (x : Name) → Submitted m es → (hs w).base ≤ t → (hs w).queue t ≡ bare x → names_it m.name (Some x) ≡ true → m.name ≡ x
  bare_level m t x s f e q = one_named m x s (tape_names n l t x i.chain (sym (ap named (here.agrees.fits t f (ap known e))) ∙ (ap (λ (y : Slot). named (stripped y)) e))) (same_message_parts m.name x q)

  pub whole_same : (m k : Message) (t : ℕ) → Submitted m es → (hs w).base ≤ t → (hs w).queue t ≡ whole k → names_it m.name (Some k.name) ≡ true → (eqb m.name.level k.name.level && same_bytes m.body k.body) ≡ true
  whole_same m k t s f e q =
      let g : m ≡ k = one_message m k s (here.bodies t k f e).submitted (same_message_parts m.name k.name q) in
      subst (λ (j : Message). (eqb m.name.level j.name.level && same_bytes m.body j.body) ≡ true) g (and_from _ _ (eq-eqb m.name.level m.name.level refl) (same_bytes_refl m.body))

  -- an ACK of the log

  module _ (a : Ack) (log : Memᴰ a l) (from : (hs w).base ≤ a.stamp) where
    on_tape : tape l a.stamp ≡ ack a.issuer a.names
    on_tape = tape_mem n l a a.stamp i.chain log (omega arith) (omega arith) ∙ cells_at a a.stamp refl

    -- an ACK that stands at its stamp is the same
    pub same_ack : (o : ℕ) (ns : List Name) → (hs w).queue a.stamp ≡ ack o ns → (eqb o a.issuer && same_names ns a.names) ≡ true
    same_ack o ns e =
        let f : ack o ns ≡ ack a.issuer a.names = sym (ap stripped e) ∙ (here.agrees.fits a.stamp from (ap known e) ∙ on_tape) in
        let g : o ≡ a.issuer = cc f in
        let h : a.names ≡ ns = cc f in
        and_from _ _ (eq-eqb o a.issuer g) (subst (λ (xs : List Name). same_names ns xs ≡ true) (sym h) (same_names_refl ns))

    -- no data slot stands there
    pub no_data : (x : Name) → stripped ((hs w).queue a.stamp) ≡ bare x → known ((hs w).queue a.stamp) ≡ true → ⊥
    no_data x e k =
        let f : bare x ≡ ack a.issuer a.names = sym e ∙ (here.agrees.fits a.stamp from k ∙ on_tape) in
        let z : ◌≡◌ {A = ℕ} 0 1 = cc f in
        omega arith

    module _ (in96 : a.stamp + size a ≤ (hs w).base + 95) (none : (hs w).queue a.stamp ≡ unknown) where
      pub block_unknown : (s : ℕ) → a.stamp ≤ s → s ≤ a.stamp + size a → known ((hs w).queue s) ≡ false
      block_unknown s x y = here.agrees.blocks a log from s x y ∙ ap known none

      -- its issuer knows it
      not_own : eqb a.issuer (hs w).me ≡ false
      not_own = elim (cases_Bool (eqb a.issuer (hs w).me)) [
        | inl e ↦
            let s : a.issuer ≡ w = eqb-true a.issuer (hs w).me e ∙ here.is_me in
            let m : a.stamp + size a < mark (hs w) = subst (λ (g : ℕ). a.stamp + size a < mark (hs g)) s (i.issuers a log).1 in
            absurd (both_ways (full ((hs w).queue a.stamp)) (ap full none) ((is_marked n es l w (hs w) here).all a.stamp from (omega arith)))
        | inr e ↦ e
      ]

      name_good : (x : Name) → Memᴰ x a.names → bad_name (hs w) x ≡ false
      name_good x o =
          let r : (m : Message) × (m.name ≡ x) × Submitted m es = i.sources x (name_in_log l a x log o) in
          let c : (s : ℕ) × (a.stamp < s) × (s ≤ a.stamp + size a) × (cells a s ≡ bare x) = mem_cells a x o in
          let t : named (tape l c.0) ≡ Some x = ap named (tape_mem n l a c.0 i.chain log (omega (arith, c.1)) c.2 ∙ c.3) in
          let u : known ((hs w).queue c.0) ≡ false = block_unknown c.0 (omega (arith, c.1)) c.2 in
          let A : found (place_of (hs w).queue x 96 (hs w).base) ≡ false = found_is (place_of (hs w).queue x 96 (hs w).base) (λ p e.
          let q : ((hs w).base ≤ p) × (p < (hs w).base + 96) × (names_it x (named ((hs w).queue p)) ≡ true) = place_found (hs w).queue x 96 (hs w).base p e in
          let y : (y : Name) × (named ((hs w).queue p) ≡ Some y) × SameMessage x y = names_it_parts x ((hs w).queue p) q.2 in
          let k : known ((hs w).queue p) ≡ true = named_known ((hs w).queue p) y.0 y.1 in
          let z : named (tape l p) ≡ Some y.0 = sym (ap named (here.agrees.fits p q.0 k)) ∙ (stripped_named ((hs w).queue p) ∙ y.1) in
          let same : c.0 ≡ p = one_stamp n l i.chain i.turned c.0 p x y.0 t z y.2.0 y.2.1 in
          both_ways (known ((hs w).queue p)) (ap (λ (j : ℕ). known ((hs w).queue j)) (sym same) ∙ u) k) in
          let B : leb x.number (low (hs w) x.source) ≡ false = lt-leb x.number (low (hs w) x.source) (above_low n l i.chain i.turned es w (hs w) c.0 x here (omega (arith, c.1)) (omega (arith, c.2)) t u) in
          let D : other_level x.level ((hs w).pending x.source x.number) ≡ false = other_level_is x.level ((hs w).pending x.source x.number) (λ p e.
          let m : Message = r.0 in
          let f : (hs w).pending m.name.source m.name.number ≡ Some p = ap (λ (y : Name). (hs w).pending y.source y.number) r.1 ∙ e in
          ap (λ (k : Message). k.name.level) (pending_message m p r.2 f) ∙ ap (λ (y : Name). y.level) r.1) in
          or_from _ _ A (or_from _ _ B (or_from _ _ (not_above x r) D))

      names_good : (xs : List Name) → ((x : Name) → Memᴰ x xs → Memᴰ x a.names) → bad_names (hs w) xs ≡ false
      names_good [] f = refl
      names_good (x ∷ xs) f = or_from _ _ (name_good x (f x (Memᴰ.head refl))) (names_good xs (λ y o. f y (Memᴰ.tail o)))

      -- an ACK of the log that the head does not know contradicts nothing
      pub consistent : contradicts (hs w) a ≡ false
      consistent = or_from _ _ not_own (or_from _ _ (ap not (all_unknown_from (hs w).queue (suc (size a)) a.stamp (λ u x y. block_unknown u x (omega arith)))) (or_from _ _ (names_once l a i.turned log) (names_good a.names (λ x o. o))))

      -- what is pending for one of its names is of that name's level
      pub same_levels : Levels (hs w) a
      same_levels s y p e f =
          let r : (m : Message) × (m.name ≡ y) × Submitted m es = i.sources y (name_in_log l a y log (cells_mem a s y e)) in
          let m : Message = r.0 in
          ap (λ (k : Message). k.name.level) (pending_message m p r.2 (ap (λ (x : Name). (hs w).pending x.source x.number) r.1 ∙ f)) ∙ ap (λ (x : Name). x.level) r.1

-- The body of a data slot.
use Rattle.std.proofs.Common.{◌≡◌, ℕ, ◌≤◌, Bool, true, false, cond, eqb, List, Some, None, Option, sym, refl, ap, ◌∙◌, subst, arith}
use mathlib.Core.Path.{fun_ext}
use Rattle.std.proofs.lemmas.Bool.{cond-true, cond-false, eq-eqb, ne_eqb}
use Rattle.frames.specs.declared.types.Body.{Body}
use Rattle.frames.specs.declared.types.Name.{Name as CName}
use Rattle.frames.specs.Values.{Name}
use Rattle.frames.specs.Types.{body_of}
use Rattle.head.specs.Slots.{Slot, unknown, ack, bare, whole, known, named}
use Rattle.head.specs.Queue.{Queue, highest, raise}
use Rattle.store.specs.declared.types.Slot.{Slot as CSlot}
use Rattle.store.specs.declared.types.Slot.TheVariants.{Unknown, Ack as CAck, Data}
use Rattle.store.specs.declared.types.Queue.{Queue as CQueue}
use Rattle.store.specs.Parts.{slot_of, data_of, with_body, queue_of, table_of, low_of, Own, Ends, Passed}
use Rattle.store.proofs.View.{by_eq}
use Rattle.store.proofs.Walks.{highest_same}

-- where the slot takes no body nothing changes
pub body_nowhere : (b : List ℕ) (q : Queue) (t : ℕ) → with_body b (q t) ≡ q t → q ≡ (λ s. cond (eqb s t) (with_body b (q s)) (q s))
body_nowhere b q t h = fun_ext (λ s. by_eq s t (with_body b (q s)) (q s) (q s) (λ e. sym (ap (λ n. with_body b (q n)) e ∙ (h ∙ ap q (sym e)))) (λ _. refl))

-- where it takes one, that slot is set
pub body_set : (b : List ℕ) (q : Queue) (t : ℕ) (y : Slot) (r : Queue) → y ≡ with_body b (q t) → r ≡ (λ s. cond (eqb s t) y (q s)) → r ≡ (λ s. cond (eqb s t) (with_body b (q s)) (q s))
body_set b q t y r h g = g ∙ fun_ext (λ s. by_eq s t (with_body b (q s)) (q s) (cond (eqb s t) y (q s)) (λ e. cond-true (eqb s t) y (q s) (eq-eqb s t e) ∙ (h ∙ ap (λ n. with_body b (q n)) (sym e))) (λ ne. cond-false (eqb s t) y (q s) (ne_eqb s t ne)))

pub body_data : (b : Body) (x : CName) (o : Option Body) → slot_of (Data x (Some b)) ≡ with_body (body_of b) (data_of x o)
body_data b x None = refl
body_data b x (Some _) = refl

pub body_rest : (b : List ℕ) (s : CSlot) → ((x : CName) (o : Option Body) → s ≡ Data x o → ⊥) → with_body b (slot_of s) ≡ slot_of s
body_rest b Unknown e = refl
body_rest b (CAck i ns) e = refl
body_rest b (Data x o) e = absurd (e x o refl)

pub body_known : (b : List ℕ) (s : Slot) → known (with_body b s) ≡ known s
body_known b unknown = refl
body_known b (ack i ns) = refl
body_known b (bare x) = refl
body_known b (whole m) = refl

pub body_named : (b : List ℕ) (s : Slot) → named (with_body b s) ≡ named s
body_named b unknown = refl
body_named b (ack i ns) = refl
body_named b (bare x) = refl
body_named b (whole m) = refl

-- a bare slot becomes whole
pub body_whole : (b : List ℕ) (q : Queue) (t : ℕ) (x : Name) (r : Queue) → q t ≡ bare x → r ≡ (λ s. cond (eqb s t) (with_body b (q s)) (q s)) → r ≡ (λ s. cond (eqb s t) (whole (record { name = x; body = b })) (q s))
body_whole b q t x r h g = g ∙ fun_ext (λ s. by_eq s t (whole (record { name = x; body = b })) (q s) (cond (eqb s t) (with_body b (q s)) (q s))
    (λ e. cond-true (eqb s t) (with_body b (q s)) (q s) (eq-eqb s t e) ∙ (ap (λ n. with_body b (q n)) e ∙ ap (with_body b) h))
    (λ ne. cond-false (eqb s t) (with_body b (q s)) (q s) (ne_eqb s t ne)))

-- x a queue, y the queue with a body more: what is known and named stays
module _ (x y : CQueue) (b : List ℕ) (t : ℕ) (eb : y.base ≡ x.base) (eg : y.gone ≡ x.gone)
    (es : queue_of x.base y.slots ≡ (λ s. cond (eqb s t) (with_body b (queue_of x.base x.slots s)) (queue_of x.base x.slots s))) where
  same_known : (u : ℕ) → known (queue_of y.base y.slots u) ≡ known (queue_of x.base x.slots u)
  same_known u = ap (λ n. known (queue_of n y.slots u)) eb ∙ (ap (λ (v : Queue). known (v u)) es ∙ go (eqb u t) (queue_of x.base x.slots u))
    where
      go : (c : Bool) (s : Slot) → known (cond c (with_body b s) s) ≡ known s
      go true s = body_known b s
      go false s = refl

  same_named : (u : ℕ) → named (queue_of y.base y.slots u) ≡ named (queue_of x.base x.slots u)
  same_named u = ap (λ n. named (queue_of n y.slots u)) eb ∙ (ap (λ (v : Queue). named (v u)) es ∙ go (eqb u t) (queue_of x.base x.slots u))
    where
      go : (c : Bool) (s : Slot) → named (cond c (with_body b s) s) ≡ named s
      go true s = body_named b s
      go false s = refl

  pub filled_low : (s : ℕ) → low_of y s ≡ low_of x s
  filled_low s =
      (λ j. highest (queue_of y.base y.slots) s 96 (eb j) (table_of (eg j) s))
      ∙ highest_same (queue_of y.base y.slots) (queue_of x.base x.slots) s 96 x.base (table_of x.gone s) (λ u _ _. (same_known u, same_named u))

  pub filled_own : (g k : ℕ) → Own g k x → Own g k y
  filled_own g k o = (λ u. ap (λ (v : Option Name). raise g v k) (same_named u) ∙ o.0 u, subst (λ (gs : List ℕ). table_of gs g ≤ k) (sym eg) o.1)

  pub filled_ends : Ends x → Ends y
  filled_ends en u l = same_known u ∙ en u l

  pub filled_passed : (d : ℕ) → Passed x d → Passed y d
  filled_passed d p u a l = same_known u ∙ p u (omega (arith, eb)) l

-- A table of heads: what is known of each, and one of them changed.
use Rattle.std.proofs.Common.{◌≡◌, ℕ, ◌<◌, ◌≤◌, true, eqb, List, map, length, get_or, set, Some, None, Option, sym, refl, ap, ◌∙◌, subst, inl, inr, arith}
use Rattle.std.proofs.lemmas.List.{get_or-map, get_or-set_same, get_or-set_other, length-map, length-set, map-set}
use Rattle.std.proofs.lemmas.Bool.{cases_eq, cond_both, eqb-true}
use Rattle.head.specs.Head.{Head, Kept, fresh}
use Rattle.head.specs.Ranges.{InRange, slot_ok}
use Rattle.calls.specs.declared.member.Member.{Member}
use Rattle.calls.specs.Members.{model_of}
use Rattle.ring.specs.declared.types.Heads.{Heads}
use Rattle.ring.specs.Ring.{put_head}
use Rattle.ring.specs.Table.{head_at, kept_ok, Sized, Numbered, KeptRanged, SlotsRanged}
use Rattle.ring.proofs.Advance.{put_same, put_other}

-- what is known of the heads of a ring
abbrev pub Facts : ℕ → List Member → Type 0
Facts n hs = record { places : length hs ≡ 8; sized : Sized n hs; numbered : Numbered n hs; kept : KeptRanged n hs; slots : SlotsRanged n hs }

pub facts : (x : Heads) → Facts x.size.heads x.all
facts x = record { places = x.places; sized = x.sized; numbered = x.numbered; kept = x.kept; slots = x.slots }

-- the head at a place
pub at_place : (hs : List Member) (g : ℕ) (x : Member) → g < length hs → get_or hs g x ≡ x → head_at hs g ≡ model_of x
unfolding head_at
at_place hs g x h e = get_or-map model_of hs g x (fresh g) h ∙ ap model_of e

pub size_at : (n : ℕ) (hs : List Member) (g : ℕ) (x : Member) → g < length hs → get_or hs g x ≡ x → get_or (map (λ (h : Member). h.head.size.heads) hs) g n ≡ x.head.size.heads
size_at n hs g x h e = get_or-map (λ (h : Member). h.head.size.heads) hs g x n h ∙ ap (λ (h : Member). h.head.size.heads) e

pub ranged_at : (n : ℕ) (hs : List Member) → Facts n hs → (g : ℕ) → g < n → InRange n (head_at hs g)
ranged_at n hs f g b = record {
  one_of_n = (f.numbered g b).0;
  from_one = (f.numbered g b).1;
  pending_ok = λ s k p e. subst (λ (o : Option Kept). kept_ok n s k o ≡ true) e (f.kept g s k);
  slots_ok = f.slots g;
}

-- a fact of one head and of every other
put_both : (P : ℕ → Head → Type 0) (hs : ℕ → Head) (g : ℕ) (y : Head) → P g y → ((k : ℕ) → P k (hs k)) → (k : ℕ) → P k (put_head hs g y k)
put_both P hs g y p q k = cond_both (eqb k g) y (hs k) (P k) (λ e. subst (λ (i : ℕ). P i y) (sym (eqb-true k g e)) p) (λ e. q k)

-- a pending message is in its ranges, or there is none
pub all_kept : (n : ℕ) (x : Head) → InRange n x → (s k : ℕ) (o : Option Kept) → x.pending s k ≡ o → kept_ok n s k o ≡ true
all_kept n x r s k None e = refl
all_kept n x r s k (Some p) e = r.pending_ok s k p e

module _ (hs : List Member) (g : ℕ) (y : Member) (h : g < length hs) where
  head_set_at : (k : ℕ) → head_at (set hs g y) k ≡ put_head (head_at hs) g (model_of y) k
  unfolding head_at
  head_set_at k =
      let l = length-map hs model_of in
      ap (λ (ms : List Head). get_or ms k (fresh k)) (map-set model_of hs g y) ∙ elim (cases_eq k g) [
        | inl e ↦ ap (λ (i : ℕ). get_or (set (map model_of hs) g (model_of y)) i (fresh k)) e ∙ (get_or-set_same (map model_of hs) g (model_of y) (fresh k) (omega arith) ∙ sym (put_same (head_at hs) g (model_of y) k e))
        | inr e ↦ get_or-set_other (map model_of hs) g k (model_of y) (fresh k) e ∙ sym (put_other (head_at hs) g (model_of y) k e)
      ]

  pub head_set : head_at (set hs g y) ≡ put_head (head_at hs) g (model_of y)
  head_set j k = head_set_at k j

  size_set : (n k : ℕ) → get_or (map (λ (x : Member). x.head.size.heads) (set hs g y)) k n ≡ get_or (set (map (λ (x : Member). x.head.size.heads) hs) g y.head.size.heads) k n
  size_set n k = ap (λ (ms : List ℕ). get_or ms k n) (map-set (λ (x : Member). x.head.size.heads) hs g y)

  pub size_set_same : (n k : ℕ) → k ≡ g → get_or (map (λ (x : Member). x.head.size.heads) (set hs g y)) k n ≡ y.head.size.heads
  size_set_same n k e =
      let f : Member → ℕ = λ (x : Member). x.head.size.heads in
      let l = length-map hs f in
      size_set n k ∙ (ap (λ (i : ℕ). get_or (set (map f hs) g (f y)) i n) e ∙ get_or-set_same (map f hs) g (f y) n (omega arith))

  pub size_set_other : (n k : ℕ) → (k ≡ g → ⊥) → get_or (map (λ (x : Member). x.head.size.heads) (set hs g y)) k n ≡ get_or (map (λ (x : Member). x.head.size.heads) hs) k n
  size_set_other n k e = size_set n k ∙ get_or-set_other (map (λ (x : Member). x.head.size.heads) hs) g k y.head.size.heads n e

  -- a head that keeps its size and is in its ranges keeps what is known
  pub facts_set : (n : ℕ) → Facts n hs → y.head.size.heads ≡ n → InRange n (model_of y) → Facts n (set hs g y)
  facts_set n f s r =
      let o : Facts n hs = f in
      record {
        places = length-set hs g y ∙ o.places;
        sized = (λ (k : ℕ) (b : k < n). elim (cases_eq k g) [ inl z ↦ size_set_same n k z ∙ s | inr z ↦ size_set_other n k z ∙ o.sized k b ]);
        numbered = subst (λ (v : ℕ → Head). (k : ℕ) → k < n → ((v k).me < n) × (1 ≤ (v k).base)) (sym head_set) (put_both (λ (k : ℕ) (v : Head). k < n → (v.me < n) × (1 ≤ v.base)) (head_at hs) g (model_of y) (λ _. (r.one_of_n, r.from_one)) o.numbered);
        kept = subst (λ (v : ℕ → Head). (k i j : ℕ) → kept_ok n i j ((v k).pending i j) ≡ true) (sym head_set) (put_both (λ (k : ℕ) (v : Head). (i j : ℕ) → kept_ok n i j (v.pending i j) ≡ true) (head_at hs) g (model_of y) (λ i j. all_kept n (model_of y) r i j ((model_of y).pending i j) refl) o.kept);
        slots = subst (λ (v : ℕ → Head). (k t : ℕ) → slot_ok n t ((v k).queue t) ≡ true) (sym head_set) (put_both (λ (k : ℕ) (v : Head). (t : ℕ) → slot_ok n t (v.queue t) ≡ true) (head_at hs) g (model_of y) r.slots_ok o.slots);
      }

-- A table of heads at their start.
use Rattle.std.proofs.Common.{◌≡◌, ℕ, ◌<◌, ◌≤◌, List, [], ◌∷◌, map, length, get_or, sym, ap, ◌∙◌, subst, inl, inr, arith}
use Rattle.std.proofs.lemmas.List.{get_or-map, get_or_past, length-map}
use Rattle.std.proofs.lemmas.Bool.{cases_lt}
use Rattle.head.specs.Head.{Head, fresh}
use Rattle.head.specs.Ranges.{slot_ok}
use Rattle.calls.specs.declared.member.Member.{Member}
use Rattle.calls.specs.Members.{model_of}
use Rattle.ring.specs.Table.{head_at, kept_ok}
use Rattle.ring.proofs.Tables.{Facts}

-- each of the eight heads of a table is at its start
abbrev pub AllFresh : ℕ → List Member → Type 0
AllFresh n hs = (length hs ≡ 8) × ((k : ℕ) (d : Member) → k < 8 → (model_of (get_or hs k d) ≡ fresh k) × (k < n → (get_or hs k d).head.size.heads ≡ n))

fresh_at : (n : ℕ) (hs : List Member) → AllFresh n hs → (k : ℕ) → head_at hs k ≡ fresh k
unfolding head_at
fresh_at n [] f k = absurd (omega (arith, f.0))
fresh_at n (y ∷ ys) f k = elim (cases_lt k 8) [
  | inl b ↦ get_or-map model_of (y ∷ ys) k y (fresh k) (omega (arith, f.0)) ∙ (f.1 k y b).0
  | inr b ↦ let l = length-map (y ∷ ys) model_of in get_or_past (map model_of (y ∷ ys)) k (fresh k) (omega (arith, f.0))
]

sized_at : (n : ℕ) (hs : List Member) → AllFresh n hs → n ≤ 8 → (k : ℕ) → k < n → get_or (map (λ (h : Member). h.head.size.heads) hs) k n ≡ n
sized_at n [] f m k b = absurd (omega (arith, f.0))
sized_at n (y ∷ ys) f m k b = get_or-map (λ (h : Member). h.head.size.heads) (y ∷ ys) k y n (omega (arith, f.0)) ∙ (f.1 k y (omega arith)).1 b

module _ (n : ℕ) (hs : List Member) (f : AllFresh n hs) where
  -- so they are the model's
  pub fresh_all : head_at hs ≡ fresh
  fresh_all j k = fresh_at n hs f k j

  pub fresh_facts : n ≤ 8 → Facts n hs
  unfolding fresh
  fresh_facts m = record {
    places = f.0;
    sized = sized_at n hs f m;
    numbered = λ (k : ℕ) (b : k < n). subst (λ (v : Head). (v.me < n) × (1 ≤ v.base)) (sym (fresh_at n hs f k)) (b, omega arith);
    kept = λ (k s i : ℕ). ap (λ (v : Head). kept_ok n s i (v.pending s i)) (fresh_at n hs f k);
    slots = λ (k t : ℕ). ap (λ (v : Head). slot_ok n t (v.queue t)) (fresh_at n hs f k);
  }

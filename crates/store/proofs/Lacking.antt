-- The steps of the list of what a queue lacks.
use Rattle.std.proofs.Common.{◌≡◌, ℕ, zero, suc, ◌+◌, ◌-◌, ◌<◌, ◌≤◌, Bool, true, false, cond, not, ◌&&◌, ltb, List, [], ◌∷◌, ◌++◌, length, take, drop, set, sym, refl, ap, ◌∙◌, arith}
use Rattle.std.proofs.lemmas.List.{append-nil, length-take-le}
use Rattle.std.proofs.lemmas.Bool.{lt-ltb, le-ltb, and_from, and_left, and_right}
use Rattle.head.specs.Questions.{missing_from}
use Rattle.head.specs.Queue.{Queue}
use Rattle.head.specs.Slots.{full}
use Rattle.store.proofs.Fronts.{front_more, front_all}

module _ (q : Queue) (e : ℕ) where
  missing_suc : (k t : ℕ) (b : Bool) → (ltb t e && not (full (q t))) ≡ b → missing_from q e (suc k) t ≡ cond b (t ∷ missing_from q e k (suc t)) (missing_from q e k (suc t))
  unfolding missing_from
  missing_suc k t b f = ap (λ c. cond c (t ∷ missing_from q e k (suc t)) (missing_from q e k (suc t))) f

  missing_past : (k t : ℕ) → e ≤ t → missing_from q e k t ≡ []
  unfolding missing_from
  missing_past zero t h = refl
  missing_past (suc k) t h = missing_suc k t false (and_left (ltb t e) (not (full (q t))) (le-ltb t e h)) ∙ missing_past k (suc t) (omega arith)

  -- at the place i of 96 from b on

  module _ (b i : ℕ) (h : i < 96) where
    abbrev on : List ℕ
    on = missing_from q e (96 - (i + 1)) (b + (i + 1))

    missing_step : (c : Bool) → (ltb (b + i) e && not (full (q (b + i)))) ≡ c → missing_from q e (96 - i) (b + i) ≡ cond c ((b + i) ∷ on) on
    missing_step c f =
        let k : 96 - i ≡ suc (96 - (i + 1)) = omega arith in
        let t : suc (b + i) ≡ b + (i + 1) = omega arith in
        ap (λ j. missing_from q e j (b + i)) k ∙ (missing_suc (96 - (i + 1)) (b + i) c f ∙ ap (λ u. cond c ((b + i) ∷ missing_from q e (96 - (i + 1)) u) (missing_from q e (96 - (i + 1)) u)) t)

    pub lacks_one : (zs all : List ℕ) (k : ℕ) → k < length zs → b + i < e → full (q (b + i)) ≡ false → take k zs ++ missing_from q e (96 - i) (b + i) ≡ all → take (k + 1) (set zs k (b + i)) ++ on ≡ all
    lacks_one zs all k l g f v = front_more zs k (b + i) on all l (ap (λ (ys : List ℕ). take k zs ++ ys) (sym (missing_step true (and_from (ltb (b + i) e) (not (full (q (b + i)))) (lt-ltb (b + i) e g) (ap not f)))) ∙ v)

    pub lacks_none : (zs all : List ℕ) → full (q (b + i)) ≡ true → zs ++ missing_from q e (96 - i) (b + i) ≡ all → zs ++ on ≡ all
    lacks_none zs all f v = ap (λ (ys : List ℕ). zs ++ ys) (sym (missing_step false (and_right (ltb (b + i) e) (not (full (q (b + i)))) (ap not f)))) ∙ v

  module _ (k t n : ℕ) (zs all : List ℕ) (h : e ≤ t) (v : take n zs ++ missing_from q e k t ≡ all) where
    front_is : take n zs ++ [] ≡ all
    front_is = ap (λ (ys : List ℕ). take n zs ++ ys) (sym (missing_past k t h)) ∙ v

    pub lacks_all : (es : List ℕ) → drop n zs ≡ drop n es → zs ≡ all ++ drop n es
    lacks_all es d = front_all zs es all n front_is d

    pub lacks_count : n ≤ length zs → n ≡ length all
    lacks_count l = sym (length-take-le n zs l) ∙ ap length (sym (append-nil (take n zs)) ∙ front_is)

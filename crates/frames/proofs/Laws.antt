-- Writing and reading undo one another, both ways.
use Rattle.std.proofs.Common.{◌≡◌, ℕ, zero, suc, ◌+◌, ◌*◌, ◌/◌, ◌%◌, ◌<◌, ◌≤◌, Bool, true, false, cond, ◌&&◌, eqb, leb, ◌⊎◌, List, [], ◌∷◌, ◌++◌, length, get_or, drop, Ok, Err, All, Result, sym, refl, ap, ◌∙◌, subst, inl, inr, ⊎_elim, add-zero, arith, length-drop}
use Rattle.std.proofs.lemmas.List.{drop_more, get_or-drop, drop_all}
use Rattle.std.proofs.lemmas.List.Elements.{All-drop}
use Rattle.std.proofs.lemmas.Bool.Decides.{nat_tests}
use Rattle.std.proofs.lemmas.Bool.{and_parts, and_from, le-leb, eq-eqb, ne_eqb, eqb-true, cond-true, cond-false, cases_Bool}
use Rattle.std.specs.List.{flat_map}
use Rattle.frames.specs.declared.refusal.Refusal.{Refusal}
use Rattle.frames.specs.declared.refusal.Refusal.TheVariants.{NotAFrame, FieldOutOfRange}
use Rattle.frames.specs.Bounds.{after}
use Rattle.frames.specs.Values.{Name, Frame, Asked, one, everyone, data_frame, ack_frame, nack_frame, name_ok, names_ok, asked_ok, frame_ok}
use Rattle.frames.specs.Written.{word_then, name_bytes, asked_byte, written}
use Rattle.frames.specs.Reading.{word_at, name_in, names_in, asked_in, data_in, ack_in, nack_in, ranged, counted, read_data, read_ack, read_nack}
use Rattle.frames.specs.Laws.{Byte, ReadsBack, WritesBack}
use Rattle.frames.proofs.Fronts.{length_names}
use Rattle.frames.proofs.Steps.{length-names_in}

-- What was written reads back.

word_back : (x : ℕ) → x ≤ 1000000 → x / 16777216 % 256 * 16777216 + x / 65536 % 256 * 65536 + x / 256 % 256 * 256 + x % 256 ≡ x
word_back x h = omega arith

name_small : (n : ℕ) (m : Name) → name_ok n m ≡ true → m.number ≤ 1000000
name_small n m e = grind (arith, nat_tests)

name_back : (m : Name) (rest : List ℕ) → m.number ≤ 1000000 → name_in (name_bytes m ++ rest) ≡ m
name_back m rest h = let w = word_back m.number h in ap (λ x. record { source = m.source; number = x; level = m.level }) w

names_back : (n : ℕ) (ns : List Name) → names_ok n ns ≡ true → names_in (length ns) (flat_map name_bytes ns) ≡ ns
names_back n [] e = refl
names_back n (m ∷ ms) e =
    let p = and_parts (name_ok n m) (names_ok n ms) e in
    let a = name_back m (flat_map name_bytes ms) (name_small n m p.0) in
    let b = names_back n ms p.1 in
    ap (λ x. x ∷ names_in (length ms) (flat_map name_bytes ms)) a ∙ ap (λ xs. m ∷ xs) b

-- only 255 stands for everyone, and no head of a ring is 255
asked_back : (n : ℕ) (o : Asked) → n ≤ 255 → asked_ok n o ≡ true → asked_in (asked_byte o) ≡ o
asked_back n (one h) k ok = let l : h < n = grind (arith, nat_tests) in cond-false (eqb h 255) everyone (one h) (ne_eqb h 255 (omega arith))
asked_back n everyone k ok = refl

ranged_ok : (n : ℕ) (f : Frame) → frame_ok n f ≡ true → ranged n true f ≡ Ok f
ranged_ok n f e = cond-true (frame_ok n f) (Ok f) (Err FieldOutOfRange) e

counted_ok : (k : ℕ) (bs : List ℕ) → length bs ≡ 8 + k * get_or bs 7 0 → counted k bs ≡ true
counted_ok k bs e = and_from _ _ (le-leb 8 (length bs) (omega arith)) (eq-eqb (length bs) (8 + k * get_or bs 7 0) e)

pub reads_back : ReadsBack
reads_back n (data_frame m) k ok =
    let bs = written n (data_frame m) in
    let p = and_parts (name_ok n m.name) _ ok in
    let a : name_in (drop 1 bs) ≡ m.name = name_back m.name (length m.body ∷ m.body) (name_small n m.name p.0) in
    let d : data_in bs ≡ data_frame m = ap (λ x. data_frame (record { name = x; body = m.body })) a in
    let c : counted 1 bs ≡ true = counted_ok 1 bs (omega arith) in
    cond-true (counted 1 bs) (ranged n true (data_in bs)) (Err NotAFrame) c ∙ (ap (ranged n true) d ∙ ranged_ok n (data_frame m) ok)
reads_back n (ack_frame a) k ok =
    let bs = written n (ack_frame a) in
    let ns = a.names in
    let small : a.stamp ≤ 1000000 = grind (arith, nat_tests) in
    let named : names_ok n ns ≡ true = grind (arith, nat_tests) in
    let j = length_names ns in
    let c : counted 6 bs ≡ true = counted_ok 6 bs (omega arith) in
    let x : eqb (after n a.issuer) (after n a.issuer) ≡ true = eq-eqb (after n a.issuer) (after n a.issuer) refl in
    let d : ack_in bs ≡ ack_frame a =
    ap (λ t. ack_frame (record { stamp = t; issuer = a.issuer; names = names_in (length ns) (flat_map name_bytes ns) })) (word_back a.stamp small)
    ∙ ap (λ xs. ack_frame (record { stamp = a.stamp; issuer = a.issuer; names = xs })) (names_back n ns named) in
    cond-true (counted 6 bs) (ranged n (eqb (after n a.issuer) (after n a.issuer)) (ack_in bs)) (Err NotAFrame) c
    ∙ (ap (λ b. ranged n b (ack_in bs)) x ∙ (ap (ranged n true) d ∙ ranged_ok n (ack_frame a) ok))
reads_back n (nack_frame f o t) k ok =
    let small : t ≤ 1000000 = grind (arith, nat_tests) in
    let there : asked_ok n o ≡ true = grind (arith, nat_tests) in
    ap (λ z. ranged n true (nack_frame f (asked_in (asked_byte o)) z)) (word_back t small)
    ∙ (ap (λ z. ranged n true (nack_frame f z t)) (asked_back n o k there) ∙ ranged_ok n (nack_frame f o t) ok)

-- What is accepted is what writing gives.

-- the k items from place i on
abbrev places : ℕ → ℕ → List ℕ → List ℕ
places zero i bs = []
places (suc k) i bs = get_or bs i 0 ∷ places k (i + 1) bs

spelt : (k i : ℕ) (bs : List ℕ) → i + k ≤ length bs → places k i bs ++ drop (i + k) bs ≡ drop i bs
spelt zero i bs h = rw add-zero
spelt (suc k) i bs h =
    let e : i + suc k ≡ i + 1 + k = omega arith in
    rw (e, drop_more bs i 0 (omega arith)) (ap (λ xs. get_or bs i 0 ∷ xs) (spelt k (i + 1) bs (omega arith)))

byte_at : (bs : List ℕ) → All Byte bs → (i : ℕ) → get_or bs i 0 < 256
byte_at [] all i = omega arith
byte_at (b ∷ bs) all zero = all 0 0 (omega arith)
byte_at (b ∷ bs) all (suc i) = byte_at bs (λ k d h. all (suc k) d (omega arith)) i

cond_cases : {A : Type 0} (b : Bool) (x y z : A) → cond b x y ≡ z → ((b ≡ true) × (x ≡ z)) ⊎ ((b ≡ false) × (y ≡ z))
cond_cases true x y z e = inl (refl, e)
cond_cases false x y z e = inr (refl, e)

not_ok : {Z : Type 0} (r : Refusal) (f : Frame) → Err r ≡ Ok f → Z
not_ok r f e = let z : ◌≡◌ {A = ℕ} 0 1 = cc in absurd (omega arith)

word_forth : (a b c d : ℕ) (rest : List ℕ) → a < 256 → b < 256 → c < 256 → d < 256 → word_then (a * 16777216 + b * 65536 + c * 256 + d) rest ≡ a ∷ b ∷ c ∷ d ∷ rest
word_forth a b c d rest ha hb hc hd =
    let x = a * 16777216 + b * 65536 + c * 256 + d in
    let p : x / 16777216 % 256 ≡ a = omega arith in
    let q : x / 65536 % 256 ≡ b = omega arith in
    let r : x / 256 % 256 ≡ c = omega arith in
    let s : x % 256 ≡ d = omega arith in
    rw (p, q, r, s)

-- the four bytes from place i on
word_at_forth : (bs : List ℕ) → All Byte bs → (i : ℕ) (rest : List ℕ) → word_then (word_at bs i) rest ≡ get_or bs i 0 ∷ get_or bs (i + 1) 0 ∷ get_or bs (i + 2) 0 ∷ get_or bs (i + 3) 0 ∷ rest
word_at_forth bs all i rest = word_forth _ _ _ _ rest (byte_at bs all i) (byte_at bs all (i + 1)) (byte_at bs all (i + 2)) (byte_at bs all (i + 3))

names_forth : (k : ℕ) (bs : List ℕ) → All Byte bs → length bs ≡ 6 * k → flat_map name_bytes (names_in k bs) ≡ bs
names_forth zero [] all e = refl
names_forth zero (b ∷ bs) all e = absurd (omega arith)
names_forth (suc k) bs all e =
    let w = word_at_forth bs all 1 (get_or bs 5 0 ∷ []) in
    let r = names_forth k (drop 6 bs) (All-drop Byte 6 bs all) (simp length-drop (omega arith)) in
    let s : places 6 0 bs ++ drop 6 bs ≡ bs = spelt 6 0 bs (omega arith) in
    ap (λ xs. get_or bs 0 0 ∷ (xs ++ flat_map name_bytes (names_in k (drop 6 bs)))) w
    ∙ (ap (λ xs. places 6 0 bs ++ xs) r ∙ s)

data_forth : (n : ℕ) (bs : List ℕ) → All Byte bs → get_or bs 0 0 ≡ 1 → length bs ≡ 8 + 1 * get_or bs 7 0 → written n (data_in bs) ≡ bs
data_forth n bs all kind l =
    let w = word_at_forth (drop 1 bs) (All-drop Byte 1 bs all) 1 (get_or (drop 1 bs) 5 0 ∷ length (drop 8 bs) ∷ drop 8 bs) in
    let k : length (drop 8 bs) ≡ get_or bs 7 0 = simp length-drop (omega arith) in
    let s : places 8 0 bs ++ drop 8 bs ≡ bs = spelt 8 0 bs (omega arith) in
    ap (λ xs. 1 ∷ get_or (drop 1 bs) 0 0 ∷ xs) w ∙ simp (get_or-drop, k) (ap (λ z. z ∷ (places 7 1 bs ++ drop 8 bs)) (sym kind) ∙ s)

ack_forth : (n : ℕ) (bs : List ℕ) → All Byte bs → get_or bs 0 0 ≡ 2 → get_or bs 6 0 ≡ after n (get_or bs 5 0) → length bs ≡ 8 + 6 * get_or bs 7 0 → written n (ack_in bs) ≡ bs
ack_forth n bs all kind x l =
    let k = get_or bs 7 0 in
    let ns = names_in k (drop 8 bs) in
    let w = word_at_forth bs all 1 (get_or bs 5 0 ∷ after n (get_or bs 5 0) ∷ length ns ∷ flat_map name_bytes ns) in
    let c : length ns ≡ k = length-names_in k (drop 8 bs) in
    let r : flat_map name_bytes ns ≡ drop 8 bs = names_forth k (drop 8 bs) (All-drop Byte 8 bs all) (simp length-drop (omega arith)) in
    let s : places 8 0 bs ++ drop 8 bs ≡ bs = spelt 8 0 bs (omega arith) in
    ap (λ xs. 2 ∷ xs) w ∙ simp (c, r, ← x) (ap (λ z. z ∷ (places 7 1 bs ++ drop 8 bs)) (sym kind) ∙ s)

asked_forth : (b : ℕ) → asked_byte (asked_in b) ≡ b
asked_forth b = ⊎_elim (λ e. ap asked_byte (cond-true (eqb b 255) everyone (one b) e) ∙ sym (eqb-true b 255 e)) (λ e. ap asked_byte (cond-false (eqb b 255) everyone (one b) e)) (cases_Bool (eqb b 255))

nack_forth : (n : ℕ) (bs : List ℕ) → All Byte bs → get_or bs 0 0 ≡ 3 → length bs ≡ 7 → written n (nack_in bs) ≡ bs
nack_forth n bs all kind l =
    let w = word_at_forth bs all 3 [] in
    let e = asked_forth (get_or bs 2 0) in
    let z : drop 7 bs ≡ [] = drop_all 7 bs (omega arith) in
    let s : places 7 0 bs ++ drop 7 bs ≡ bs = spelt 7 0 bs (omega arith) in
    ap (λ xs. 3 ∷ get_or bs 1 0 ∷ asked_byte (asked_in (get_or bs 2 0)) ∷ xs) w ∙ simp e (ap (λ b. b ∷ places 6 1 bs) (sym kind) ∙ (ap (λ xs. places 7 0 bs ++ xs) (sym z) ∙ s))

-- what is accepted passed its tests
ranged_forth : (n : ℕ) (ok : Bool) (bs : List ℕ) (g f : Frame) → ranged n ok g ≡ Ok f → (ok ≡ true → written n g ≡ bs) → (written n f ≡ bs) × (frame_ok n f ≡ true)
ranged_forth n ok bs g f e w =
    ⊎_elim
    (λ p. let q = and_parts ok (frame_ok n g) p.0 in let i : g ≡ f = (let h = p.1 in cc) in subst (λ h. (written n h ≡ bs) × (frame_ok n h ≡ true)) i (w q.0, q.1))
    (λ p. not_ok FieldOutOfRange f p.1)
    (cond_cases (ok && frame_ok n g) (Ok g) (Err FieldOutOfRange) (Ok f) e)

counted_length : (k : ℕ) (bs : List ℕ) → counted k bs ≡ true → length bs ≡ 8 + k * get_or bs 7 0
counted_length k bs e = eqb-true (length bs) (8 + k * get_or bs 7 0) (and_parts (leb 8 (length bs)) (eqb (length bs) (8 + k * get_or bs 7 0)) e).1

-- the test of the length held, or the answer is no frame
lengthy : (b : Bool) (r : Result Frame Refusal) (f : Frame) → cond b r (Err NotAFrame) ≡ Ok f → (b ≡ true) × (r ≡ Ok f)
lengthy true r f e = (refl, e)
lengthy false r f e = not_ok NotAFrame f e

pub writes_back : WritesBack
writes_back n bs f all e =
    let k = get_or bs 0 0 in
    ⊎_elim
    (λ p. let q = lengthy (counted 1 bs) (ranged n true (data_in bs)) f p.1 in
    ranged_forth n true bs (data_in bs) f q.1 (λ _. data_forth n bs all (eqb-true k 1 p.0) (counted_length 1 bs q.0)))
    (λ p. ⊎_elim
    (λ q. let x = eqb (get_or bs 6 0) (after n (get_or bs 5 0)) in let r = lengthy (counted 6 bs) (ranged n x (ack_in bs)) f q.1 in
    ranged_forth n x bs (ack_in bs) f r.1 (λ y. ack_forth n bs all (eqb-true k 2 q.0) (eqb-true (get_or bs 6 0) (after n (get_or bs 5 0)) y) (counted_length 6 bs r.0)))
    (λ q. let r = lengthy (eqb k 3) (read_nack n bs) f q.1 in let s = lengthy (eqb (length bs) 7) (ranged n true (nack_in bs)) f r.1 in
    ranged_forth n true bs (nack_in bs) f s.1 (λ _. nack_forth n bs all (eqb-true k 3 r.0) (eqb-true (length bs) 7 s.0)))
    (cond_cases (eqb k 2) (read_ack n bs) (cond (eqb k 3) (read_nack n bs) (Err NotAFrame)) (Ok f) p.1))
    (cond_cases (eqb k 1) (read_data n bs) (cond (eqb k 2) (read_ack n bs) (cond (eqb k 3) (read_nack n bs) (Err NotAFrame))) (Ok f) e)

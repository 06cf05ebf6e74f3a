-- How the parts that are read make a frame, or none.
use Rattle.std.proofs.Common.{◌≡◌, ℕ, ◌+◌, ◌*◌, [], ◌∷◌, take, map, ◌/◌, ◌<◌, ◌≤◌, Bool, true, false, cond, ◌&&◌, eqb, ◌≢◌, List, length, get_or, drop, IfOk, Ok, Err, Result, sym, refl, ap, ◌∙◌, subst, arith, w8, Fits}
use Rattle.std.specs.Simd.{first_chunks}
use Rattle.std.proofs.lemmas.List.{get_or-take}
use Rattle.std.proofs.lemmas.List.Elements.{All-from_get_or}
use Rattle.std.proofs.lemmas.Bool.{and_left, cond-true, cond-false, ne_eqb, eq-eqb, le-leb}
use Rattle.std.proofs.lemmas.Bool.Decides.{nat_tests}
use Rattle.frames.specs.declared.refusal.Refusal.{Refusal}
use Rattle.frames.specs.declared.refusal.Refusal.TheVariants.{NotAFrame, FieldOutOfRange, BadBodyLength}
use Rattle.frames.specs.declared.types.Frame.{Frame as CFrame}
use Rattle.frames.specs.Bounds.{after, body_length_ok}
use Rattle.frames.specs.Values.{Name, Frame, data_frame, ack_frame, name_ok, names_ok, frame_ok}
use Rattle.frames.specs.Types.{meant, frame_of, FrameRest}
use Rattle.frames.specs.Made.{name_for, names_for, body_for}
use Rattle.frames.specs.Written.{written}
use Rattle.frames.specs.Reading.{word_at, name_in, names_in, data_in, ack_in, ranged, counted, read_data, read_ack, read}
use Rattle.frames.specs.Laws.{Byte}
use Rattle.frames.proofs.Laws.{writes_back}
use Rattle.frames.proofs.Steps.{passed, failed, length-names_in, map_names-chunks}

-- a frame that is accepted is the one that writing it gives
pub forth : (n : ℕ) (bs : List ℕ) (r : Result CFrame Refusal) → ((i : ℕ) → Fits w8 (get_or bs i 0)) → meant frame_of r ≡ read n bs → IfOk r (λ f. written n (frame_of f) ≡ bs)
forth n bs (Ok f) fits e = (writes_back n bs (frame_of f) (All-from_get_or Byte bs 0 (λ i _. (fits i).fits)) (sym e)).0
forth n bs (Err d) fits e = tt

-- the lengths agree and a field is out of range
pub ranged_fails : (n : ℕ) (sized ok : Bool) (f : Frame) → sized ≡ true → (ok && frame_ok n f) ≡ false → Err FieldOutOfRange ≡ cond sized (ranged n ok f) (Err NotAFrame)
ranged_fails n sized ok f c h = sym (cond-true sized (ranged n ok f) (Err NotAFrame) c ∙ cond-false (ok && frame_ok n f) (Ok f) (Err FieldOutOfRange) h)

pub ranged_goes : (n : ℕ) (sized ok : Bool) (f : Frame) → sized ≡ true → (ok && frame_ok n f) ≡ true → Ok f ≡ cond sized (ranged n ok f) (Err NotAFrame)
ranged_goes n sized ok f c h = sym (cond-true sized (ranged n ok f) (Err NotAFrame) c ∙ cond-true (ok && frame_ok n f) (Ok f) (Err FieldOutOfRange) h)

-- the first eight bytes, taken apart
word_at-take : (bs : List ℕ) → word_at (take 8 bs) 1 ≡ word_at bs 1
word_at-take [] = refl
word_at-take (a ∷ []) = refl
word_at-take (a ∷ b ∷ []) = refl
word_at-take (a ∷ b ∷ c ∷ []) = refl
word_at-take (a ∷ b ∷ c ∷ d ∷ []) = refl
word_at-take (a ∷ b ∷ c ∷ d ∷ e ∷ []) = refl
word_at-take (a ∷ b ∷ c ∷ d ∷ e ∷ f ∷ []) = refl
word_at-take (a ∷ b ∷ c ∷ d ∷ e ∷ f ∷ g ∷ []) = refl
word_at-take (a ∷ b ∷ c ∷ d ∷ e ∷ f ∷ g ∷ h ∷ bs) = refl

name_in-front : (bs : List ℕ) → name_in (get_or (take 8 bs) 1 0 ∷ get_or (take 8 bs) 2 0 ∷ get_or (take 8 bs) 3 0 ∷ get_or (take 8 bs) 4 0 ∷ get_or (take 8 bs) 5 0 ∷ get_or (take 8 bs) 6 0 ∷ []) ≡ name_in (drop 1 bs)
name_in-front [] = refl
name_in-front (a ∷ []) = refl
name_in-front (a ∷ b ∷ []) = refl
name_in-front (a ∷ b ∷ c ∷ []) = refl
name_in-front (a ∷ b ∷ c ∷ d ∷ []) = refl
name_in-front (a ∷ b ∷ c ∷ d ∷ e ∷ []) = refl
name_in-front (a ∷ b ∷ c ∷ d ∷ e ∷ f ∷ []) = refl
name_in-front (a ∷ b ∷ c ∷ d ∷ e ∷ f ∷ g ∷ []) = refl
name_in-front (a ∷ b ∷ c ∷ d ∷ e ∷ f ∷ g ∷ h ∷ bs) = refl

plus_eight : (a b y : ℕ) → a ≡ y → a + 8 ≡ b → b ≡ 8 + y
plus_eight a b y e f = omega arith

module _ (bs front rest : List ℕ) (p : (front ≡ take 8 bs) × (rest ≡ drop 8 bs) × (length rest + 8 ≡ length bs)) where
  pub front_at : (i : ℕ) → i < 8 → get_or front i 0 ≡ get_or bs i 0
  front_at i h = ap (λ xs. get_or xs i 0) p.0 ∙ get_or-take 8 bs i 0 h

  pub front_name : name_in (get_or front 1 0 ∷ get_or front 2 0 ∷ get_or front 3 0 ∷ get_or front 4 0 ∷ get_or front 5 0 ∷ get_or front 6 0 ∷ []) ≡ name_in (drop 1 bs)
  front_name = rw p.0 (name_in-front bs)

  pub front_word : word_at front 1 ≡ word_at bs 1
  front_word = rw p.0 (word_at-take bs)

  pub front_counted : (k : ℕ) → length rest ≡ k * get_or front 7 0 → counted k bs ≡ true
  front_counted k h =
      let e : length rest ≡ k * get_or bs 7 0 = rw (front_at 7 (omega arith)) at h in
      let l : length bs ≡ 8 + k * get_or bs 7 0 = plus_eight _ _ _ e p.2 in
      let m : 8 ≤ length bs = omega (arith, p.2) in
      simp (le-leb 8 (length bs) m, eq-eqb (length bs) (8 + k * get_or bs 7 0) l)

  pub front_names : (ps : List (List ℕ)) → length rest ≡ 6 * get_or front 7 0 → ps ≡ first_chunks 6 (length rest / 6) rest → map name_in ps ≡ names_in (get_or bs 7 0) (drop 8 bs)
  front_names ps h e =
      let g = front_at 7 (omega arith) in
      let d : length rest / 6 ≡ get_or bs 7 0 = omega arith in
      ap (map name_in) e ∙ (map_names-chunks (length rest / 6) rest ∙ (ap (λ k. names_in k rest) d ∙ ap (names_in (get_or bs 7 0)) p.1))

-- an answer that is the frame itself, or a refusal: what it means, and its unused places
pub ranged_means : (n : ℕ) (f : CFrame) (r : Result CFrame Refusal) → r ≡ cond (frame_ok n (frame_of f)) (Ok f) (Err FieldOutOfRange) → meant frame_of r ≡ ranged n true (frame_of f)
ranged_means n f r e = ap (meant frame_of) e ∙ meant_cond (frame_ok n (frame_of f))
  where
    meant_cond : (b : Bool) → meant frame_of (cond b (Ok f) (Err FieldOutOfRange)) ≡ cond b (Ok (frame_of f)) (Err FieldOutOfRange)
    meant_cond true = refl
    meant_cond false = refl

pub ranged_rest : (ok : Bool) (f : CFrame) (r : Result CFrame Refusal) → r ≡ cond ok (Ok f) (Err FieldOutOfRange) → FrameRest f → IfOk r FrameRest
ranged_rest true f r e h = subst (λ (s : Result CFrame Refusal). IfOk s FrameRest) (sym e) h
ranged_rest false f r e h = subst (λ (s : Result CFrame Refusal). IfOk s FrameRest) (sym e) tt

pub data_name_fails : (n : ℕ) (bs : List ℕ) (d : Refusal) → counted 1 bs ≡ true → Err d ≡ name_for n (name_in (drop 1 bs)) → Err d ≡ read_data n bs
data_name_fails n bs d c e =
    let p = failed (name_ok n (name_in (drop 1 bs))) _ d FieldOutOfRange e in
    ap Err p.1 ∙ ranged_fails n (counted 1 bs) true (data_in bs) c (and_left (name_ok n (name_in (drop 1 bs))) (body_length_ok (length (drop 8 bs))) p.0)

pub data_goes : (n : ℕ) (bs : List ℕ) (x : Name) (b : List ℕ) → counted 1 bs ≡ true → Ok x ≡ name_for n (name_in (drop 1 bs)) → Ok b ≡ body_for (drop 8 bs) → Ok (data_frame (record { name = x; body = b })) ≡ read_data n bs
data_goes n bs x b c e g =
    let p = passed (name_ok n (name_in (drop 1 bs))) _ x FieldOutOfRange e in
    let q = passed (body_length_ok (length (drop 8 bs))) _ b BadBodyLength g in
    let f : data_frame (record { name = x; body = b }) ≡ data_in bs = ap (λ (z : Name). data_frame (record { name = z; body = b })) p.1 ∙ ap (λ (z : List ℕ). data_frame (record { name = name_in (drop 1 bs); body = z })) q.1 in
    ap Ok f ∙ ranged_goes n (counted 1 bs) true (data_in bs) c (simp (p.0, q.0))

-- next, and every field of the ACK that the bytes hold
abbrev ack_test : ℕ → List ℕ → Bool
ack_test n bs = eqb (get_or bs 6 0) (after n (get_or bs 5 0)) && frame_ok n (ack_in bs)

pub ack_fails : (n : ℕ) (bs : List ℕ) → counted 6 bs ≡ true → ack_test n bs ≡ false → Err FieldOutOfRange ≡ read_ack n bs
ack_fails n bs c h = ranged_fails n (counted 6 bs) (eqb (get_or bs 6 0) (after n (get_or bs 5 0))) (ack_in bs) c h

module _ (n : ℕ) (bs : List ℕ) where
  pub many_names : 4 < get_or bs 7 0 → ack_test n bs ≡ false
  many_names h = let l = length-names_in (get_or bs 7 0) (drop 8 bs) in grind (arith, nat_tests)

  pub no_issuer : n ≤ get_or bs 5 0 → ack_test n bs ≡ false
  no_issuer h = grind (arith, nat_tests)

  pub other_next : get_or bs 6 0 ≢ after n (get_or bs 5 0) → ack_test n bs ≡ false
  other_next h = and_left (eqb (get_or bs 6 0) (after n (get_or bs 5 0))) (frame_ok n (ack_in bs)) (ne_eqb (get_or bs 6 0) (after n (get_or bs 5 0)) h)

  pub bad_names : names_ok n (names_in (get_or bs 7 0) (drop 8 bs)) ≡ false → ack_test n bs ≡ false
  bad_names h = grind (arith, nat_tests)

pub ack_names_fail : (n : ℕ) (bs : List ℕ) (d : Refusal) → counted 6 bs ≡ true → Err d ≡ names_for n (names_in (get_or bs 7 0) (drop 8 bs)) → Err d ≡ read_ack n bs
ack_names_fail n bs d c e =
    let p = failed (names_ok n (names_in (get_or bs 7 0) (drop 8 bs))) _ d FieldOutOfRange e in
    ap Err p.1 ∙ ack_fails n bs c (bad_names n bs p.0)

pub ack_goes : (n t : ℕ) (bs : List ℕ) (xs : List Name) (r : Result Frame Refusal) → counted 6 bs ≡ true → get_or bs 6 0 ≡ after n (get_or bs 5 0)
    → t ≡ word_at bs 1 → Ok xs ≡ names_for n (names_in (get_or bs 7 0) (drop 8 bs))
    → r ≡ ranged n true (ack_frame (record { stamp = t; issuer = get_or bs 5 0; names = xs })) → r ≡ read_ack n bs
ack_goes n t bs xs r c x w e g =
    let p = passed (names_ok n (names_in (get_or bs 7 0) (drop 8 bs))) _ xs FieldOutOfRange e in
    let i = get_or bs 5 0 in
    let f : ack_frame (record { stamp = t; issuer = i; names = xs }) ≡ ack_in bs =
    ap (λ (z : ℕ). ack_frame (record { stamp = z; issuer = i; names = xs })) w ∙ ap (λ (zs : List Name). ack_frame (record { stamp = word_at bs 1; issuer = i; names = zs })) p.1 in
    let y : eqb (get_or bs 6 0) (after n i) ≡ true = eq-eqb (get_or bs 6 0) (after n i) x in
    g ∙ (ap (ranged n true) f ∙ (sym (ap (λ (b : Bool). ranged n b (ack_in bs)) y) ∙ sym (cond-true (counted 6 bs) (ranged n (eqb (get_or bs 6 0) (after n i)) (ack_in bs)) (Err NotAFrame) c)))

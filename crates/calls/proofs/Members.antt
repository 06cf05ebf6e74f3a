-- A member of a ring stays one through every call.
use Rattle.std.proofs.Common.{◌≡◌, ℕ, ◌<◌, ◌≤◌, Bool, true, false, cond, ltb, List, length, Ok, Err, Option, Result, sym, refl, ap, ◌∙◌, subst, arith}
use Rattle.frames.specs.declared.refusal.Refusal.{Refusal}
use Rattle.frames.specs.declared.types.RingSize.{RingSize}
use Rattle.frames.specs.Values.{Name, names_ok}
use Rattle.frames.specs.declared.refusal.Refusal.TheVariants.{TooManyHeads, TooFewHeads, NoSuchHead}
use Rattle.head.specs.Answers.{Answer, Done}
use Rattle.head.specs.Deliver.{deliver}
use Rattle.head.specs.Head.{Head, fresh, place, stamps_left}
use Rattle.head.specs.Hear.{hear}
use Rattle.head.specs.Leaves.{EachLeaves}
use Rattle.head.specs.Ranges.{AllWritable, InRange, Writable}
use Rattle.head.specs.Submit.{submit}
use Rattle.head.specs.Turn.{new_ack, to_order}
use Rattle.head.specs.Upkeep.{settled}
use Rattle.head.proofs.Leaves.{head_of, leaves}
use Rattle.head.proofs.Ranges.{new_ok, order_ok, place_ranged, settled_ranged, stays_in_range}
use Rattle.head.proofs.Rising.{order_few}
use Rattle.calls.specs.declared.answers.Done.{Done as CDone}
use Rattle.calls.specs.declared.machine.Head.{Head as CHead}
use Rattle.calls.specs.declared.member.Member.{Member}
use Rattle.calls.specs.Answers.{does}
use Rattle.calls.specs.Model.{model, in_ring, head_for}
use Rattle.calls.specs.Unmade.{NoneUnmade}
use Rattle.calls.proofs.Sending.{does_head, deliver_unmade, hear_unmade, placed_unmade, settled_unmade, submit_unmade}

-- what a member is known by
abbrev pub Facts : CHead → Type 0
Facts y = record { ranged : InRange y.size.heads (model y); unmade : NoneUnmade (model y) }

-- at the start

abbrev second : Head → Result (ℕ × Head) Refusal → Head
second h (Ok p) = p.1
second h (Err e) = h

starts : (n g k : ℕ) (h : Head) → ◌≡◌ {A = Result (ℕ × Head) Refusal} (Ok (k, h)) (head_for n g) → h ≡ fresh g
starts n g k h e = go (ltb 8 n) (ltb n 2) (ltb g n) e
  where
    go : (a b c : Bool) → ◌≡◌ {A = Result (ℕ × Head) Refusal} (Ok (k, h)) (cond a (Err TooManyHeads) (cond b (Err TooFewHeads) (cond c (Ok (n, fresh g)) (Err NoSuchHead)))) → h ≡ fresh g
    go true b c d = let z : ◌≡◌ {A = ℕ} 0 1 = cc in absurd (omega arith)
    go false true c d = let z : ◌≡◌ {A = ℕ} 0 1 = cc in absurd (omega arith)
    go false false false d = let z : ◌≡◌ {A = ℕ} 0 1 = cc in absurd (omega arith)
    go false false true d = ap (second h) d

fresh_unmade : (g : ℕ) → NoneUnmade (fresh g)
unfolding fresh
fresh_unmade g k past = refl

fresh_me : (g : ℕ) → (fresh g).me ≡ g
unfolding fresh
fresh_me g = refl

pub new_member : (n g : ℕ) (y : CHead) → ◌≡◌ {A = Result (ℕ × Head) Refusal} (Ok (in_ring y)) (head_for n g) → Facts y
new_member n g y e =
    let f : model y ≡ fresh g = starts n g y.size.heads (model y) e in
    let me : y.me ≡ g = ap (λ (h : Head). h.me) f ∙ fresh_me g in
    let below : g < y.size.heads = omega (arith, y.member) in
    record {
      ranged = subst (InRange y.size.heads) (sym f) ((stays_in_range y.size.heads).0 g below);
      unmade = subst NoneUnmade (sym f) (fresh_unmade g);
    }

-- through every call

writable : (x : Member) → AllWritable x.head.size.heads (model x.head)
writable x = (stays_in_range x.head.size.heads).1 (model x.head) x.ranged

each : (x : Member) → EachLeaves x.head.size.heads (model x.head)
each x = leaves x.head.size.heads (model x.head)

module _ (x : Member) (y : CHead) (same : y.size ≡ x.head.size) where
  -- a head of its size that is in its ranges
  known_by : (d : Head) → model y ≡ d → InRange x.head.size.heads d → NoneUnmade d → Facts y
  known_by d e r m = record {
    ranged = subst (λ (z : RingSize). InRange z.heads (model y)) (sym same) (subst (InRange x.head.size.heads) (sym e) r);
    unmade = subst NoneUnmade (sym e) m;
  }

  module _ {A : Type 0} (word : A → Answer) (r : Result (CDone A) Refusal) where
    left : (d : Done) → does word r (model y) ≡ d → Writable x.head.size.heads d → NoneUnmade d.head → Facts y
    left d e w m = known_by d.head (sym (does_head word r (model y)) ∙ ap head_of e) w.after m

    pub after_submit : (l : ℕ) (b : List ℕ) → does word r (model y) ≡ submit x.head.size.heads l b (model x.head) → Facts y
    after_submit l b e = left (submit x.head.size.heads l b (model x.head)) e ((writable x).submitting l b) (submit_unmade x.head.size.heads (model x.head) x.unmade l b _ ((each x).submitting l b))

    pub after_hear : (t : Option (List ℕ)) → does word r (model y) ≡ hear x.head.size.heads t (model x.head) → Facts y
    after_hear t e = left (hear x.head.size.heads t (model x.head)) e ((writable x).hearing t) (hear_unmade x.head.size.heads (model x.head) x.unmade _ ((each x).hearing t).0)

    pub after_deliver : does word r (model y) ≡ deliver x.head.size.heads (model x.head) → Facts y
    after_deliver e = left (deliver x.head.size.heads (model x.head)) e (writable x).delivering (deliver_unmade x.head.size.heads (model x.head) x.unmade _ (each x).delivering)

  -- through the steps of turn and tick

  pub after_issue : (xs : List Name) → xs ≡ to_order x.head.size.heads (model x.head) → stamps_left (model x.head) ≡ true → model y ≡ place (model x.head) (new_ack (model x.head) xs) → Facts y
  after_issue xs c s e =
      let k : ℕ = x.head.size.heads in
      let g : Head = model x.head in
      let few : length xs ≤ 4 = omega (arith, ap length c, order_few k g) in
      let ok : names_ok k xs ≡ true = ap (names_ok k) c ∙ order_ok k g x.ranged in
      known_by (place g (new_ack g xs)) e (place_ranged k g x.ranged (new_ack g xs) (new_ok k g x.ranged xs few ok s)) (placed_unmade g (new_ack g xs) x.unmade)

  pub after_settle : model y ≡ settled x.head.size.heads (model x.head) → Facts y
  after_settle e = known_by (settled x.head.size.heads (model x.head)) e (settled_ranged 96 x.head.size.heads (model x.head) x.ranged) (settled_unmade x.head.size.heads (model x.head) x.unmade)

-- A call on one head of a table, as a step of the ring.
use Rattle.std.proofs.Common.{◌≡◌, ℕ, ◌<◌, ◌≤◌, true, ◌⊎◌, List, [], ◌∷◌, map, length, get_or, set, None, Ok, Err, Result, sym, refl, ap, ◌∙◌, subst, inl, inr, arith}
use mathlib.Core.List.{Memᴰ}
use Rattle.frames.specs.declared.refusal.Refusal.{Refusal}
use Rattle.frames.specs.declared.refusal.Refusal.TheVariants.{NoSuchHead}
use Rattle.frames.specs.Values.{Frame, frame_ok}
use Rattle.frames.specs.Written.{written}
use Rattle.links.specs.Meaning.{Waits, Cleared}
use Rattle.head.specs.Head.{Head, fresh}
use Rattle.head.specs.Answers.{Answer, Done, refused}
use Rattle.head.specs.Ranges.{InRange, Writable}
use Rattle.calls.specs.declared.answers.Done.{Done as CDone}
use Rattle.calls.specs.declared.member.Member.{Member}
use Rattle.calls.specs.Members.{model_of}
use Rattle.calls.proofs.Sending.{does_head}
use Rattle.calls.specs.Answers.{does}
use Rattle.ring.specs.declared.types.Heads.{Heads}
use Rattle.ring.specs.Ring.{Ring, Call, Event, Step, Missed, Trip, started, then_call, then_miss, Takes, AfterPuts, perform, put_head}
use Rattle.ring.specs.Law.{Lawful}
use Rattle.ring.specs.Starting.{Started}
use Rattle.ring.specs.Table.{head_at}
use Rattle.ring.specs.Moves.{Meaning, Performs, Moved, ring_of, answer_in, puts_in, answered}
use Rattle.ring.proofs.Tables.{Facts, facts, at_place, size_at, ranged_at, head_set, facts_set}
use Rattle.ring.proofs.Trip.{law, perform_writable}

-- a step, or a call that missed, is one event more of every trip

module _ (n : ℕ) (r s : Ring) (e : Event) (step : Step n r e s ⊎ Missed n r e s) where
  leads_on : (es : List Event) → Trip n es r → Trip n (e ∷ es) s
  leads_on es t = elim step [ inl z ↦ then_call t z | inr z ↦ then_miss t z ]

  lawful_then : 2 ≤ n → n ≤ 8 → (es : List Event) → Trip n es r → Lawful n (e ∷ es) s
  lawful_then least most es t = law n least most (e ∷ es) s (leads_on es t)

made_move : (x : Heads) (w : Waits) (g : ℕ) (c : Call) (a : Answer) (y : Heads) (v : Waits) (e : Event) → y.size ≡ x.size → e.who ≡ g → e.call ≡ c → e.answer ≡ a → Step x.size.heads (ring_of x w) e (ring_of y v) ⊎ Missed x.size.heads (ring_of x w) e (ring_of y v) → Moved x w g c a y v
made_move x w g c a y v e z h k o step = record {
  size = z;
  event = e;
  who = h;
  call = k;
  answer = o;
  step = step;
  leads = leads_on x.size.heads (ring_of x w) (ring_of y v) e step;
  law = lawful_then x.size.heads (ring_of x w) (ring_of y v) e step x.size.least x.size.most;
}

-- on a head that the ring does not have
pub missed : (x : Heads) (w : Waits) (g : ℕ) (c : Call) → x.size.heads ≤ g → Moved x w g c (refused NoSuchHead) x w
missed x w g c b = made_move x w g c (refused NoSuchHead) x w (record { who = g; call = c; taken = None; answer = refused NoSuchHead; put = []; issued = None }) refl refl refl refl (inr (record { outside = b; answers = refl; puts = refl; taken = refl; issues = refl; same = refl }))

-- what was done, by its parts

does_puts : {A : Type 0} (word : A → Answer) (d : Result (CDone A) Refusal) (h : Head) → (does word d h).puts ≡ puts_in d
does_puts word (Ok d) h = refl
does_puts word (Err e) h = refl

does_answer : {A : Type 0} (word : A → Answer) (d : Result (CDone A) Refusal) (h : Head) → (does word d h).answer ≡ answered word (answer_in d)
does_answer word (Ok d) h = refl
does_answer word (Err e) h = refl

module _ {A : Type 0} {m : Meaning A} {d : Result (CDone A) Refusal} {was is : Member} (x : Heads) (g : ℕ) (b : g < x.size.heads) (before : get_or x.all g was ≡ was) (p : Performs m was d is) where
  there : g < length x.all
  there = omega (arith, x.places, x.size.most)

  was_sized : was.head.size.heads ≡ x.size.heads
  was_sized = sym (size_at x.size.heads x.all g was there before) ∙ x.sized g b

  did_it : does m.word d (model_of is) ≡ perform x.size.heads m.call m.taken (head_at x.all g)
  did_it = p.done ∙ (λ j. perform (was_sized j) m.call m.taken (sym (at_place x.all g was there before) j))

  writable : Writable x.size.heads (does m.word d (model_of is))
  writable = subst (Writable x.size.heads) (sym did_it) (perform_writable x.size.heads m.call m.taken (head_at x.all g) (ranged_at x.size.heads x.all (facts x) g b))

  -- the heads after the call are in their ranges
  pub facts_after : Facts x.size.heads (set x.all g is)
  facts_after = facts_set x.all g is there x.size.heads (facts x) (ap (λ s. s.heads) p.size ∙ was_sized) (subst (InRange x.size.heads) (does_head m.word d (model_of is)) writable.after)

  -- what it puts can be written
  pub all_written : (f : Frame) → Memᴰ f (puts_in d) → frame_ok x.size.heads f ≡ true
  all_written f k = writable.frames_ok f (subst (Memᴰ f) (sym (does_puts m.word d (model_of is))) k)

  -- with what was taken before it and put after it
  pub moved : (y : Heads) → y.size ≡ x.size → y.all ≡ set x.all g is → (w u v : Waits) → Takes m.call g m.taken w u → AfterPuts (map (written x.size.heads) (puts_in d)) u v → (r : Result A Refusal) → r ≡ answer_in d → Moved x w g m.call (answered m.word r) y v
  moved y z l w u v k q r e =
      made_move x w g m.call (answered m.word r) y v
      (record { who = g; call = m.call; taken = m.taken; answer = answered m.word r; put = map (written x.size.heads) (puts_in d); issued = (does m.word d (model_of is)).issued })
      z refl refl refl
      (inl (record {
        between = u;
        within = b;
        takes = k;
        answers = ap (answered m.word) e ∙ (sym (does_answer m.word d (model_of is)) ∙ ap (λ (o : Done). o.answer) did_it);
        puts = ap (map (written x.size.heads)) (sym (does_puts m.word d (model_of is)) ∙ ap (λ (o : Done). o.puts) did_it);
        issues = ap (λ (o : Done). o.issued) did_it;
        linked = q;
        heads = ap head_at l ∙ (head_set x.all g is there ∙ ap (put_head (head_at x.all) g) (sym (does_head m.word d (model_of is)) ∙ ap (λ (o : Done). o.head) did_it));
      }))

-- the start

pub started_lawful : (x : Heads) (w : Waits) (n : ℕ) → x.size.heads ≡ n → head_at x.all ≡ fresh → Cleared w → Started n x w
started_lawful x w n s h c =
    let t : Trip n [] (ring_of x w) = subst (λ (f : ℕ → Head). Trip n [] (record { heads = f; waits = w })) (sym h) (started w c) in
    let least : 2 ≤ n = omega (arith, x.size.least) in
    let most : n ≤ 8 = omega (arith, x.size.most) in
    record { size = s; heads = h; waits = c; leads = t; law = law n least most [] (ring_of x w) t }

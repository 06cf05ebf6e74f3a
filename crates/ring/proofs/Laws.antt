-- One token, deliveries that do not part, and a silent radio.
use Rattle.std.proofs.Common.{◌≡◌, ℕ, ◌<◌, ◌≤◌, true, false, ◌≢◌, ◌⊎◌, List, [], ◌∷◌, ◌++◌, Some, None, Option, sym, refl, ap, ◌∙◌, subst, inl, inr, arith}
use mathlib.Core.List.{head-eq_of_cons-eq, tail-eq_of_cons-eq}
use Rattle.std.proofs.lemmas.Bool.{both_ways}
use Rattle.frames.specs.Values.{Message}
use Rattle.frames.specs.declared.refusal.Refusal.{Refusal}
use Rattle.frames.specs.declared.refusal.Refusal.TheVariants.{Contradiction, FieldOutOfRange, NotAFrame}
use Rattle.links.specs.Meaning.{Waits}
use Rattle.head.specs.Answers.{Answer, refused}
use Rattle.head.specs.Hear.{hear}
use Rattle.ring.specs.Law.{Agreed, FrontOf}
use Rattle.ring.specs.Laws.{AnyTwo, OneToken, RadioSilent}
use Rattle.ring.specs.Record.{deliveries}
use Rattle.ring.specs.Ring.{Call, Event, Ring, Takes, Trip, hears, perform, then_call, then_miss}
use Rattle.ring.proofs.Hear.{by_radio, packet_good, quiet_good}
use Rattle.ring.proofs.Invariant.{Inv}
use Rattle.ring.proofs.Token.{token}
use Rattle.ring.proofs.Trip.{KeptBy, law, trip_inv}

pub one_token : OneToken
one_token n two eight es r t g h a b x y =
    let k : KeptBy n es r = trip_inv n two eight t in
    let i : Inv n es k.0 r.heads r.waits = k.1 in
    (token n es k.0 r.heads r.waits g i a x).2 ∙ sym (token n es k.0 r.heads r.waits h i b y).2

-- two beginnings of one list
beginnings : (xs ys zs as' bs : List Message) → zs ≡ xs ++ as' → zs ≡ ys ++ bs → FrontOf xs ys ⊎ FrontOf ys xs
beginnings [] ys zs as' bs e f = inl (ys, refl)
beginnings (x ∷ xs) [] zs as' bs e f = inr (x ∷ xs, refl)
beginnings (x ∷ xs) (y ∷ ys) zs as' bs e f =
    let both : x ∷ (xs ++ as') ≡ y ∷ (ys ++ bs) = sym e ∙ f in
    let same : x ≡ y = head-eq_of_cons-eq both in
    elim (beginnings xs ys (xs ++ as') as' bs refl (tail-eq_of_cons-eq both)) [
      | inl r ↦ (let q : ys ≡ xs ++ r.0 = r.1 in inl (r.0, cc))
      | inr r ↦ (let q : xs ≡ ys ++ r.0 = r.1 in inr (r.0, cc))
    ]

pub any_two : AnyTwo
any_two n two eight es r t g h a b =
    let c : Agreed n es = (law n two eight es r t).agreed in
    beginnings (deliveries g es) (deliveries h es) c.list (c.fronts g a).0 (c.fronts h b).0 (c.fronts g a).1 (c.fronts h b).1

-- a packet that a link hands out is heard without refusal
heard : (n : ℕ) (es : List Event) (r : Ring) (w : ℕ) (t : Option (List ℕ)) (v : Waits) → 2 ≤ n → n ≤ 8 → w < n → KeptBy n es r → Takes hears w t r.waits v → by_radio (hear n t (r.heads w)).answer ≡ false
heard n es r w None v two eight b k x = (quiet_good n es k.0 r.heads r.waits two k.1 w b).1
heard n es r w (Some p) v two eight b k x = (packet_good n es k.0 r.heads r.waits two k.1 w b (omega arith) p (k.1.waiting w p x.waited)).1

not_by_radio : (a : Answer) (e : Refusal) → by_radio a ≡ false → by_radio (refused e) ≡ true → a ≢ refused e
not_by_radio a e x y z = both_ways (by_radio a) x (ap by_radio z ∙ y)

event_quiet : (n : ℕ) → 2 ≤ n → n ≤ 8 → (e : Event) (es : List Event) (r : Ring) → Trip n (e ∷ es) r → e.call ≡ hears → by_radio e.answer ≡ false
unfolding perform
event_quiet n two eight _ _ _ (then_call {es} {r} {e} {s} t st) c =
    let k : Takes hears e.who e.taken r.waits st.between = subst (λ (x : Call). Takes x e.who e.taken r.waits st.between) c st.takes in
    ap by_radio (st.answers ∙ ap (λ (x : Call). (perform n x e.taken (r.heads e.who)).answer) c) ∙ heard n es r e.who e.taken st.between two eight st.within (trip_inv n two eight t) k
event_quiet n two eight _ _ _ (then_miss {es} {r} {e} {s} t st) c = ap by_radio st.answers

pub radio_silent : RadioSilent
radio_silent n two eight e es r t c =
    let q : by_radio e.answer ≡ false = event_quiet n two eight e es r t c in
    (not_by_radio e.answer NotAFrame q refl, not_by_radio e.answer FieldOutOfRange q refl, not_by_radio e.answer Contradiction q refl)
